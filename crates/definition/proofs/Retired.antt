-- Refusal 29 never occurs on a sound state (document 02, Q-2).
-- Assumes nothing.
use Prim.Native.Nat.{ℕ, ◌+◌, ◌<◌, ◌≤◌}
use mathlib.Core.Path.{◌≡◌, refl, sym, ap, ◌∙◌, subst}
use mathlib.Core.Bool.{Bool, true, false, ◌&&◌, not, and-false, false≢true}
use mathlib.Core.List.{List, [], ◌∷◌, ◌++◌}
use native.Mathlib.Omega.{arith}
use borrow.Author.Tests.{leb-true, leb-false, eqb-true, lt-ltb, le-leb, not-false}
use Rattle.std.specs.Prelude.{Option, None, Some, Result, Ok, Err}
use Rattle.definition.specs.Table.{◌=?◌, ◌≤?◌, Row, ◌when◌, first_of, unless, if_some, every, or_zero, present, u64_max}
use Rattle.definition.specs.Records.{Identity, same, LogEntry, HardState, Kind, entry, hard_state, pointer, zero_configuration_replica_id, zero_configuration_version, zero_log_index, zero_term, command_unfit}
use Rattle.definition.specs.Log.{Log, PointerRecord, same_pointer_record, is_held, last, kept_pointer, conflicting_payload, committed_prefix_overwrite, missing_log_prefix, non_contiguous_append, log_term_regression, log_full, entry_at_or_below_truncation, entry_at_or_below_snapshot, replay_rows, hard_state_successor_rows, snapshot_successor_rows, install_rows, rows, with_entry, with_pointer}
use Rattle.definition.specs.Recovery.{sound_state, Recovery, sound_store, replica_of, ask}
use Rattle.definition.specs.Batch.{Batch, BatchEntry, Preview, hard_state_before_log_term, preview_hard_state, preview_lsn_exhausted, preview_entry, preview_pointer, previewed, batch_rows, batch_pointer_rows, batch_entry_rows, batch_hard_state_rows, concluded, hardened, extended, pointed, prepare_on, prepare, fits_entry, fits_batch}
use Rattle.definition.specs.Two.{fits_kind}
use Rattle.definition.specs.Retired.{replay_rows_of_01, rows_of_01, batch_entry_rows_of_01, extended_of_01, pointed_of_01, prepare_on_of_01, prepare_of_01, Retires29}
use Rattle.definition.proofs.Laws.{and_l, and_r, none_some, Clear, clear}
use Rattle.definition.proofs.Order.{same_eq}
use Rattle.definition.proofs.SoundLog.{SoundLog, truncated_is, entry_sound, pointer_sound}
use Rattle.definition.proofs.Sound.{replica_sound}
use Rattle.definition.proofs.Healthy.{gapless}

-- A row that cannot hold where it is reached may go.
dead : (l m : List Row) (n : ℕ) (b : Bool) → (Clear l → b ≡ false) → first_of (l ++ (n when b) ∷ m) ≡ first_of (l ++ m)
dead [] m n b h = rw (h tt)
dead ((k when true) ∷ l) m n b h = refl
dead ((k when false) ∷ l) m n b h = dead l m n b (λ c. h (refl, c))

-- A table without 29.
abbrev lacks : List Row → Bool
lacks [] = true
lacks ((n when b) ∷ l) = not (n =? 29) && lacks l

first_lacks : (l : List Row) → lacks l ≡ true → first_of l ≡ Some 29 → ⊥
first_lacks [] e x = none_some x
first_lacks ((n when true) ∷ l) e x =
    let z : n ≡ 29 = cc x in false≢true (ap (λ (m : ℕ). not (m =? 29)) (sym z) ∙ and_l (not (n =? 29)) (lacks l) e)
first_lacks ((n when false) ∷ l) e x = first_lacks l (and_r (not (n =? 29)) (lacks l) e) x

module _ {T : Type 0} where
  -- In a sound log whose last index is 2^64 - 1 every index above the boundary, up to there, is held.
  exhausted_not : (e : LogEntry) (log : Log T) → SoundLog log → log.snapshot_index < e.index → e.index ≤ u64_max
      → (not (is_held log e.index) && last log =? u64_max) ≡ false
  exhausted_not e log s a m = go (last log =? u64_max) refl
    where
      go : (b : Bool) → (last log =? u64_max) ≡ b → (not (is_held log e.index) && b) ≡ false
      go false x = and-false (not (is_held log e.index))
      go true x =
          rw (
            gapless log s (omega (arith, a, m)) e.index,
            lt-ltb log.snapshot_index e.index a,
            le-leb e.index (last log) (omega (arith, m, eqb-true (last log) u64_max x)),
          )

  observing_log : (i : Identity) (k : Kind) (log : Log T) → SoundLog log → fits_kind k ≡ true → first_of (rows_of_01 i k log) ≡ first_of (rows i k log)
  unfolding rows_of_01 replay_rows_of_01 rows replay_rows
  observing_log i (entry version e) log s m =
      dead
      (entry_at_or_below_truncation e log ∷ conflicting_payload e log ∷ committed_prefix_overwrite e log ∷ missing_log_prefix e log ∷ [])
      (non_contiguous_append e log ∷ log_term_regression e log ∷ log_full e log ∷ []) 29 (not (is_held log e.index) && last log =? u64_max)
      (λ c. exhausted_not e log s (omega (arith, leb-false e.index log.progress.truncated_through_index c.0, truncated_is log s)) (leb-true e.index u64_max m))
  observing_log i (hard_state version h) log s m = refl
  observing_log i (pointer p) log s m = refl

  rows_lack : (i : Identity) (k : Kind) (log : Log T) → lacks (rows i k log) ≡ true
  unfolding rows replay_rows hard_state_successor_rows snapshot_successor_rows install_rows
  rows_lack i (entry version e) log = refl
  rows_lack i (hard_state version h) log = refl
  rows_lack i (pointer p) log = refl

-- A batch of a sound replica.
module _ (i : Identity) (b : Batch) (was : Log ℕ) where
  -- Each of its entries.
  module _ (e : LogEntry) (v : Preview) (s : SoundLog v.log) (m : e.index ≤ u64_max) where
    entry_rows : first_of (batch_entry_rows_of_01 i b was e v) ≡ first_of (batch_entry_rows i b was e v)
    unfolding batch_entry_rows_of_01 batch_entry_rows replay_rows_of_01 replay_rows
    entry_rows =
        dead
        (preview_lsn_exhausted v ∷ zero_configuration_replica_id e ∷ zero_log_index e ∷ zero_term e ∷ zero_configuration_version e ∷ command_unfit e
        ∷ entry_at_or_below_snapshot e v.log
        ∷ conflicting_payload e v.log
        ∷ committed_prefix_overwrite e v.log
        ∷ missing_log_prefix e v.log
        ∷ [])
        (non_contiguous_append e v.log ∷ log_term_regression e v.log ∷ log_full e v.log ∷ []) 29 (not (is_held v.log e.index) && last v.log =? u64_max)
        (λ c. exhausted_not e v.log s (omega (arith, leb-false e.index v.log.snapshot_index c.1.1.1.1.1.1.0)) m)

    -- One that is taken keeps the preview's log sound.
    entry_keeps : first_of (batch_entry_rows i b was e v) ≡ None → SoundLog (with_entry e (v.lsn + 1) v.log)
    unfolding batch_entry_rows replay_rows rows
    entry_keeps x =
        let c : Clear (batch_entry_rows i b was e v) = clear (batch_entry_rows i b was e v) x in
        let truncation : (e.index ≤? v.log.progress.truncated_through_index) ≡ false = ap (λ (n : ℕ). e.index ≤? n) (truncated_is v.log s) ∙ c.1.1.1.1.1.1.0 in
        entry_sound e (v.lsn + 1) v.log i 1 s (truncation, c.1.1.1.1.1.1.1) c.1.1.1.1.1.0 m

  abbrev fits_pointer : PointerRecord → Bool
  fits_pointer p = p.snapshot.last_included_index ≤? u64_max

  entries_same : (es : List BatchEntry) (v : Preview) → SoundLog v.log → every fits_entry es ≡ true → extended_of_01 i b was es v ≡ extended i b was es v
  unfolding extended_of_01 extended
  entries_same [] v s m = refl
  entries_same (e ∷ es) v s m =
      ap (λ (o : Option ℕ). elim o [ Some n ↦ Err n | None ↦ extended_of_01 i b was es next ]) (entry_rows e.log_entry v s small)
      ∙ go (first_of (batch_entry_rows i b was e.log_entry v)) (λ k. entries_same es next (entry_keeps e.log_entry v s small k) (and_r (fits_entry e) (every fits_entry es) m))
    where
      small : e.log_entry.index ≤ u64_max
      small = leb-true e.log_entry.index u64_max (and_l (fits_entry e) (every fits_entry es) m)

      next : Preview
      next = preview_entry i e.log_entry v

      go : (o : Option ℕ) → (o ≡ None → extended_of_01 i b was es next ≡ extended i b was es next)
          → ◌≡◌ {A = Result Preview ℕ} (elim o [ Some n ↦ Err n | None ↦ extended_of_01 i b was es next ]) (elim o [ Some n ↦ Err n | None ↦ extended i b was es next ])
      go (Some n) h = refl
      go None h = h refl

  -- The batch's pointer: nothing stands before it, so the preview's log is the replica's.
  pointer_keeps : (p : PointerRecord) (v : Preview) → v.log ≡ was → SoundLog was → p.snapshot.last_included_index ≤ u64_max
      → first_of (batch_pointer_rows i b was p v) ≡ None → SoundLog (with_pointer p.snapshot (v.lsn + 1) v.log)
  unfolding batch_pointer_rows rows snapshot_successor_rows install_rows
  pointer_keeps p v e s m x =
      let c : Clear (batch_pointer_rows i b was p v) = clear (batch_pointer_rows i b was p v) x in
      let mine : i ≡ p.identity = same_eq i p.identity (not-false (same i p.identity) c.1.1.1.1.1.1.1.0) in
      let conflict : Identity → Bool =
      λ j. if_some (λ o. p.snapshot.last_included_index =? o.snapshot.last_included_index && not (same_pointer_record (record { identity = j; snapshot = p.snapshot }) o)) (kept_pointer i was) in
      subst (λ (l : Log ℕ). SoundLog (with_pointer p.snapshot (v.lsn + 1) l)) (sym e)
      (pointer_sound p.snapshot (v.lsn + 1) was i s
      (c.1.1.1.1.1.1.1.1.0, (subst (λ (j : Identity). conflict j ≡ false) (sym mine) c.1.1.1.1.1.1.1.1.1.0, (rw e at c.1.1.1.1.1.1.1.1.1.1.1.0, (rw e at c.1.1.1.1.1.1.1.1.1.1.1.1.0, tt))))
      c.1.1.1.1.0 m)

  pointed_same : (o : Option PointerRecord) (v : Preview) → v.log ≡ was → SoundLog was → every fits_pointer (present o) ≡ true
      → every fits_entry b.entries ≡ true → pointed_of_01 i b was o v ≡ pointed i b was o v
  unfolding pointed_of_01 pointed
  pointed_same None v e s m k = entries_same b.entries v (subst (λ (l : Log ℕ). SoundLog l) (sym e) s) k
  pointed_same (Some p) v e s m k = go (first_of (batch_pointer_rows i b was p v)) refl
    where
      next : Preview
      next = preview_pointer p v

      small : p.snapshot.last_included_index ≤ u64_max
      small = leb-true p.snapshot.last_included_index u64_max (and_l (fits_pointer p) true m)

      go : (o : Option ℕ) → first_of (batch_pointer_rows i b was p v) ≡ o
          → ◌≡◌ {A = Result Preview ℕ} (elim o [ Some n ↦ Err n | None ↦ extended_of_01 i b was b.entries next ]) (elim o [ Some n ↦ Err n | None ↦ extended i b was b.entries next ])
      go (Some n) x = refl
      go None x = entries_same b.entries next (pointer_keeps p v e s small x) k

  on_same : SoundLog was → fits_batch b ≡ true → prepare_on_of_01 i b was ≡ prepare_on i b was
  unfolding prepare_on_of_01 prepare_on
  on_same s m = go (first_of (batch_rows i b was))
    where
      v : Preview
      v = record { log = was; lsn = or_zero (λ t. t) was.last_replayed_lsn; records = [] }

      go : (o : Option ℕ)
          → ◌≡◌ {A = Result Preview ℕ} (elim o [ Some n ↦ Err n | None ↦ pointed_of_01 i b was b.snapshot v ]) (elim o [ Some n ↦ Err n | None ↦ pointed i b was b.snapshot v ])
      go (Some n) = refl
      go None =
          pointed_same b.snapshot v refl s
          (and_l (every fits_pointer (present b.snapshot)) (every fits_entry b.entries) m) (and_r (every fits_pointer (present b.snapshot)) (every fits_entry b.entries) m)

  -- 29 stands in no table of a batch.
  abbrev Not29 : Result Preview ℕ → Type 0
  Not29 r = r ≡ Err 29 → ⊥

  previewed_not : (l : List Row) (v : Preview) (f : Preview → Result Preview ℕ) → lacks l ≡ true → Not29 (f v) → Not29 (previewed l v f)
  previewed_not l v f e h = go (first_of l) (first_lacks l e)
    where
      go : (o : Option ℕ) → (o ≡ Some 29 → ⊥) → ◌≡◌ {A = Result Preview ℕ} (elim o [ Some n ↦ Err n | None ↦ f v ]) (Err 29) → ⊥
      go None k x = h x
      go (Some n) k x = let z : n ≡ 29 = cc x in k (ap {B = Option ℕ} Some z)

  concluded_not : (v : Preview) → Not29 (concluded i b was v)
  unfolding concluded
  concluded_not v = previewed_not (hard_state_before_log_term b was v ∷ []) v Ok refl (λ x. let z : ◌≡◌ {A = ℕ} 0 1 = cc x in omega arith)

  hardened_not : (o : Option HardState) (v : Preview) → Not29 (hardened i b was o v)
  unfolding hardened batch_hard_state_rows hard_state_successor_rows
  hardened_not None v = concluded_not v
  hardened_not (Some h) v = previewed_not (batch_hard_state_rows i b was h v) (preview_hard_state i h v) (concluded i b was) refl (concluded_not (preview_hard_state i h v))

  extended_not : (es : List BatchEntry) (v : Preview) → Not29 (extended i b was es v)
  unfolding extended batch_entry_rows replay_rows
  extended_not [] v = hardened_not b.hard_state v
  extended_not (e ∷ es) v =
      let next : Preview = preview_entry i e.log_entry v in
      previewed_not (batch_entry_rows i b was e.log_entry v) next (extended i b was es) refl (extended_not es next)

  pointed_not : (o : Option PointerRecord) (v : Preview) → Not29 (pointed i b was o v)
  unfolding pointed batch_pointer_rows
  pointed_not None v = extended_not b.entries v
  pointed_not (Some p) v =
      let next : Preview = preview_pointer p v in
      previewed_not (batch_pointer_rows i b was p v) next (extended i b was b.entries) refl (extended_not b.entries next)

  on_not : Not29 (prepare_on i b was)
  unfolding prepare_on batch_rows
  on_not =
      let v : Preview = record { log = was; lsn = or_zero (λ t. t) was.last_replayed_lsn; records = [] } in
      previewed_not (batch_rows i b was) v (pointed i b was b.snapshot) refl (pointed_not b.snapshot v)

-- A batch of a recovery: what is asked is answered where it is sound, and else refused by 1.
module _ (w : Recovery) (i : Identity) (b : Batch) where
  asked_sound : (was : Log ℕ) → ask (replica_of i) w ≡ Ok was → SoundLog was
  unfolding ask
  asked_sound was e = go (sound_store w) (sound_state w.state) refl e
    where
      go : (a c : Bool) → sound_state w.state ≡ c
          → unless (first_of ((1 when not a) ∷ (1 when not c) ∷ [])) (replica_of i w.state) ≡ Ok was → SoundLog was
      go false c x y = absurd (let z : ◌≡◌ {A = ℕ} 0 1 = cc y in omega arith)
      go true false x y = absurd (let z : ◌≡◌ {A = ℕ} 0 1 = cc y in omega arith)
      go true true x y = let z : replica_of i w.state ≡ was = cc y in subst (λ (l : Log ℕ). SoundLog l) z (replica_sound w.state x i)

  asked_not : (n : ℕ) → ask (replica_of i) w ≡ Err n → n ≡ 29 → ⊥
  unfolding ask
  asked_not n e = go (sound_store w) (sound_state w.state) e
    where
      go : (a c : Bool) → unless (first_of ((1 when not a) ∷ (1 when not c) ∷ [])) (replica_of i w.state) ≡ Err n → n ≡ 29 → ⊥
      go false c y x = let z : 1 ≡ n = cc y in omega arith
      go true false y x = let z : 1 ≡ n = cc y in omega arith
      go true true y x = let z : ◌≡◌ {A = ℕ} 0 1 = cc y in omega arith

  prepare_same : fits_batch b ≡ true → prepare_of_01 w i b ≡ prepare w i b
  unfolding prepare_of_01 prepare
  prepare_same m = go (ask (replica_of i) w) refl
    where
      go : (o : Result (Log ℕ) ℕ) → ask (replica_of i) w ≡ o
          → ◌≡◌ {A = Result Preview ℕ} (elim o [ Ok was ↦ prepare_on_of_01 i b was | Err n ↦ Err n ]) (elim o [ Ok was ↦ prepare_on i b was | Err n ↦ Err n ])
      go (Ok was) e = on_same i b was (asked_sound was e) m
      go (Err n) e = refl

  prepare_not : prepare w i b ≡ Err 29 → ⊥
  unfolding prepare
  prepare_not = go (ask (replica_of i) w) refl
    where
      go : (o : Result (Log ℕ) ℕ) → ask (replica_of i) w ≡ o → ◌≡◌ {A = Result Preview ℕ} (elim o [ Ok was ↦ prepare_on i b was | Err n ↦ Err n ]) (Err 29) → ⊥
      go (Ok was) e x = on_not i b was x
      go (Err n) e x = let z : n ≡ 29 = cc x in asked_not n e z

pub retires_29 : Retires29
retires_29 =
    record {
      observing = λ s e i k m. observing_log i k (replica_of i s) (replica_sound s e i) m;
      never_observing = λ s e i k m x.
          first_lacks (rows i k (replica_of i s)) (rows_lack i k (replica_of i s)) (sym (observing_log i k (replica_of i s) (replica_sound s e i) m) ∙ x);
      preparing = prepare_same;
      never_preparing = λ w i b m x. prepare_not w i b (sym (prepare_same w i b m) ∙ x);
    }
