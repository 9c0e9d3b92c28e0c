-- A preparation that passed, taken apart; its records are the batch's: the pointer's, the entries', the hard state's. And a batch of
-- more than 32 entries is refused.
-- Assumes nothing.
use Prim.Native.Nat.{ℕ, ◌+◌, ◌<◌, ◌≤◌}
use mathlib.Core.Path.{◌≡◌, refl, sym, ap, ◌∙◌}
use mathlib.Core.Bool.{Bool, true, false, true≢false}
use mathlib.Core.List.{List, [], ◌∷◌, ◌++◌, append-nil, append_assoc}
use native.Mathlib.Omega.{arith}
use lib.ListN.{length}
use borrow.Author.Tests.{lt-ltb, ltb-false}
use Rattle.std.specs.Prelude.{if◌then◌else◌, Option, None, Some, Result, Ok, Err}
use Rattle.definition.specs.Table.{◌=?◌, ◌<?◌, Row, ◌when◌, first_of, or_zero}
use Rattle.definition.specs.Records.{Identity, HardState, entry, hard_state, pointer}
use Rattle.definition.specs.Log.{Log, PointerRecord}
use Rattle.definition.specs.Batch.{BatchEntry, Batch, Prepared, Preview, previewed, preview_entry, preview_pointer, preview_hard_state, hard_state_before_log_term, batch_rows, batch_pointer_rows, batch_entry_rows, batch_hard_state_rows, concluded, hardened, extended, pointed, snapshot_without_hard_state, prepare_on, prepare}
use Rattle.definition.specs.Recovery.{replica_of, Recovery, sound, ask}
use Rattle.definition.proofs.Laws.{Clear, clear}
use Rattle.definition.proofs.Store.{ask_sound, ask_unsound}

-- A part that passed.
ok_err : {A : Type 0} {a : A} {n : ℕ} → ◌≡◌ {A = Result A ℕ} (Err n) (Ok a) → ⊥
ok_err e = let z : ◌≡◌ {A = ℕ} 0 1 = cc in omega arith

pub passed : (l : List Row) (v w : Preview) (go : Preview → Result Preview ℕ) → previewed l v go ≡ Ok w → Clear l × (go v ≡ Ok w)
passed l v w go e = by (first_of l) refl e
  where
    by : (o : Option ℕ) → first_of l ≡ o → ◌≡◌ {A = Result Preview ℕ} (elim o [ Some n ↦ Err n | None ↦ go v ]) (Ok w)
        → Clear l × (go v ≡ Ok w)
    by (Some n) p q = absurd (ok_err q)
    by None p q = (clear l p, q)

-- The records of a batch.
abbrev pub pointer_records : Option PointerRecord → Prepared
pointer_records None = []
pointer_records (Some p) = (p.identity, pointer p.snapshot) ∷ []

abbrev pub entry_records : Identity → List BatchEntry → Prepared
entry_records i [] = []
entry_records i (e ∷ es) = (i, entry 1 e.log_entry) ∷ entry_records i es

abbrev pub hard_state_records : Identity → Option HardState → Prepared
hard_state_records i None = []
hard_state_records i (Some h) = (i, hard_state 1 h) ∷ []

-- Those behind the pointer's.
abbrev pub later_records : Identity → Batch → Prepared
later_records i b = entry_records i b.entries ++ hard_state_records i b.hard_state

abbrev pub batch_records : Identity → Batch → Prepared
batch_records i b = pointer_records b.snapshot ++ later_records i b

module _ (i : Identity) (b : Batch) (was : Log ℕ) (end : Preview) where
  pub concluded_is : (v : Preview) → concluded i b was v ≡ Ok end → v ≡ end
  unfolding concluded
  concluded_is v e = let z : ◌≡◌ {A = Result Preview ℕ} (Ok v) (Ok end) = (passed (hard_state_before_log_term b was v ∷ []) v end Ok e).1 in cc

  hardened_records : (o : Option HardState) (v : Preview) → hardened i b was o v ≡ Ok end → end.records ≡ v.records ++ hard_state_records i o
  unfolding hardened
  hardened_records None v e = sym (ap (λ (y : Preview). y.records) (concluded_is v e)) ∙ sym (append-nil v.records)
  hardened_records (Some h) v e =
      let next : Preview = preview_hard_state i h v in
      sym (ap (λ (y : Preview). y.records) (concluded_is next (passed (batch_hard_state_rows i b was h v) next end (concluded i b was) e).1))

  extended_records : (es : List BatchEntry) (v : Preview) → extended i b was es v ≡ Ok end
      → end.records ≡ v.records ++ (entry_records i es ++ hard_state_records i b.hard_state)
  unfolding extended
  extended_records [] v e = hardened_records b.hard_state v e
  extended_records (x ∷ es) v e =
      let next : Preview = preview_entry i x.log_entry v in
      extended_records es next (passed (batch_entry_rows i b was x.log_entry v) next end (extended i b was es) e).1
      ∙ append_assoc v.records ((i, entry 1 x.log_entry) ∷ []) (entry_records i es ++ hard_state_records i b.hard_state)

  pointed_records : (o : Option PointerRecord) (v : Preview) → v.records ≡ [] → pointed i b was o v ≡ Ok end
      → end.records ≡ pointer_records o ++ later_records i b
  unfolding pointed
  pointed_records None v n e = extended_records b.entries v e ∙ ap (λ (l : Prepared). l ++ later_records i b) n
  pointed_records (Some p) v n e =
      let next : Preview = preview_pointer p v in
      extended_records b.entries next (passed (batch_pointer_rows i b was p v) next end (extended i b was b.entries) e).1
      ∙ ap (λ (l : Prepared). (l ++ pointer_records (Some p)) ++ later_records i b) n

  -- The whole.
  pub record Passed : Type 0 where
    pub whole : Clear (batch_rows i b was)
    pub begin : Preview
    pub on_was : begin.log ≡ was
    pub goes : pointed i b was b.snapshot begin ≡ Ok end
    pub records : end.records ≡ batch_records i b

  pub take_apart : prepare_on i b was ≡ Ok end → Passed
  unfolding prepare_on
  take_apart e =
      let v : Preview = record { log = was; lsn = or_zero (λ t. t) was.last_replayed_lsn; records = [] } in
      let (whole, goes) = passed (batch_rows i b was) v end (pointed i b was b.snapshot) e in
      record { whole = whole; begin = v; on_was = refl; goes = goes; records = pointed_records b.snapshot v refl goes }

-- There are at most 34.
entries_count : (i : Identity) (es : List BatchEntry) (o : Option HardState) → length (entry_records i es ++ hard_state_records i o) ≤ length es + 1
entries_count i [] None = omega arith
entries_count i [] (Some h) = omega arith
entries_count i (e ∷ es) o = omega (arith, entries_count i es o)

records_count : (i : Identity) (o : Option PointerRecord) (b : Batch) → length (pointer_records o ++ later_records i b) ≤ length b.entries + 2
records_count i None b = omega (arith, entries_count i b.entries b.hard_state)
records_count i (Some p) b = omega (arith, entries_count i b.entries b.hard_state)

pub few_records : (i : Identity) (b : Batch) (was : Log ℕ) → Clear (batch_rows i b was) → length (batch_records i b) ≤ 34
unfolding batch_rows
few_records i b was c = omega (arith, records_count i b.snapshot b, ltb-false 32 (length b.entries) c.1.1.0)

-- On a recovery: refused by 1 where it is not sound.
module _ (w : Recovery) (i : Identity) (b : Batch) where
  pub prepare_sound : sound w ≡ true → prepare w i b ≡ prepare_on i b (replica_of i w.state)
  unfolding prepare
  prepare_sound e = rw (prepare, ask_sound (replica_of i) w e)

  pub prepare_unsound : sound w ≡ false → prepare w i b ≡ Err 1
  unfolding prepare
  prepare_unsound e = rw (prepare, ask_unsound (replica_of i) w e)

-- A batch of more than 32 entries is refused by 6, 7 or 43, whatever the entries are; by 1 where the state is not sound.
over_number : Identity → ℕ
over_number i = if i.group =? 0 then 6 else (if i.replica =? 0 then 7 else 43)

over_first : (g r t : Bool) (rows : List Row) → t ≡ true → first_of ((6 when g) ∷ (7 when r) ∷ (43 when t) ∷ rows) ≡ Some (if g then 6 else (if r then 7 else 43))
over_first true r t rows e = refl
over_first false true t rows e = refl
over_first false false true rows e = refl
over_first false false false rows e = absurd (true≢false (sym e))

refused_by : (l : List Row) (v : Preview) (go : Preview → Result Preview ℕ) (n : ℕ) → first_of l ≡ Some n → previewed l v go ≡ Err n
refused_by l v go n e = rw (e, previewed)

on_over : (i : Identity) (b : Batch) (was : Log ℕ) → 32 < length b.entries → prepare_on i b was ≡ Err (over_number i)
unfolding prepare_on batch_rows over_number
on_over i b was l =
    refused_by (batch_rows i b was) (record { log = was; lsn = or_zero (λ t. t) was.last_replayed_lsn; records = [] }) (pointed i b was b.snapshot) (over_number i)
    (over_first (i.group =? 0) (i.replica =? 0) (32 <? length b.entries) (snapshot_without_hard_state b ∷ []) (lt-ltb 32 (length b.entries) l))

pub over_from : Result (Log ℕ) ℕ → Identity → ℕ
over_from (Ok was) i = over_number i
over_from (Err n) i = n

pub prepare_over : (w : Recovery) (i : Identity) (b : Batch) → 32 < length b.entries → prepare w i b ≡ Err (over_from (ask (replica_of i) w) i)
unfolding prepare over_from
prepare_over w i b l = go (ask (replica_of i) w)
  where
    go : (x : Result (Log ℕ) ℕ) → ◌≡◌ {A = Result Preview ℕ} (elim x [ Ok was ↦ prepare_on i b was | Err n ↦ Err n ]) (Err (over_from x i))
    go (Ok was) = on_over i b was l
    go (Err n) = refl
