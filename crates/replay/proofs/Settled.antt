-- The plan of a record is what the definition makes of it: refused by the same row, or the same answer and the same log.
-- Assumes nothing.
use mathlib.Core.Path.{◌≡◌, refl, sym, ap, ◌∙◌}
use mathlib.Core.Bool.{Bool, true, false, true≢false}
use mathlib.Core.Logic.{inl, inr}
use mathlib.Core.List.{List, ◌∷◌}
use Prim.Native.Nat.{ℕ, ◌-◌, ◌≤◌}
use native.Mathlib.Omega.{arith}
use native.Mathlib.Nat.{sub-zero}
use borrow.Author.Tests.{leb-true, lt-ltb}
use lib.ListN.{length, get_or, set, length-set}
use Rattle.std.specs.Prelude.{if◌then◌else◌, Option, None, Some, option_map, unwrap_or}
use Rattle.definition.specs.Table.{◌=?◌, ◌≤?◌, Row, ◌when◌, first_of, u64_max}
use Rattle.definition.specs.Records.{Identity, Kind, hard_state, pointer, unfit, form_rows}
use Rattle.definition.specs.Log as D
use Rattle.definition.specs.Recovery.{settled, judged}
use Rattle.definition.specs.Two.{fits_kind}
use Rattle.definition.proofs.Laws.{clear}
use Rattle.ids.specs.declared.Lsn.{Lsn}
use Rattle.ids.specs.Identity.{identity_of}
use Rattle.store.proofs.Part.{splice_self, set_self}
use Rattle.codec.specs.declared.HardState.{HardState}
use Rattle.codec.specs.declared.RaftLogEntryRecord.{RaftLogEntryRecord}
use Rattle.codec.specs.declared.RaftSnapshotPointerRecord.{RaftSnapshotPointerRecord}
use Rattle.codec.specs.declared.RaftWalRecord.{RaftWalRecord}
use Rattle.codec.specs.declared.RaftWalRecord.TheVariants as W
use Rattle.codec.specs.Records.{payload_of, hard_state_of, pointer_of, log_entry_of, entry_kind_of, kind_of, owner_of}
use Rattle.view.specs.declared.Existing.{Existing}
use Rattle.view.specs.declared.Header.{Header}
use Rattle.view.specs.declared.RecoveredRaftLogEntry.{RecoveredRaftLogEntry}
use Rattle.view.specs.Decisions.{answered, Tells, held_from, new_rows, replay_rows_of, accepted_as, replayed, entry_answer, hard_state_rows_of, pointer_rows_of}
use Rattle.view.specs.Kept.{kept_entry}
use Rattle.view.specs.Meaning.{no_entry, base_of, id_of, view_of, Means}
use Rattle.view.specs.Model.{with_hard_state, with_pointer, covered_by, placed_entries, dropped_entries, dropped_bytes, renewed_entry}
use Rattle.view.specs.Readers.{place_of, at_place}
use Rattle.view.proofs.Accepted.{refusing, past_first, when_appended, when_replaced, when_renewed, hard_state_means, pointer_means}
use Rattle.view.proofs.Dropped.{covered_is}
use Rattle.view.proofs.Readers.{Held, held_at_lem, Appends, appends}
use Rattle.view.proofs.Rows.{entry_rows, entry_answer_lem, hard_state_rows_lem, pointer_rows_lem}
use Rattle.view.proofs.Told.{term_at_is, predecessor_is, tells_none, tells_held}
use Rattle.replay.specs.Plan.{index_of, look_of, existing_in, prior_in, held_term_in, Plan, entry_plan, unless_row, hard_state_plan, pointer_plan, plan_of, entries_after}
use Rattle.replay.specs.Settled.{Looks, Settled}

-- Where an index is held, that is the place looked at.
pub look_held : (h : Header) (x q : ℕ) → h.len ≤ 64 → place_of h x ≡ Some q → look_of h x ≡ q
look_held h x q l e =
    let k : Held h x q = held_at_lem h x q e in
    let p : x - base_of h ≡ q = omega (arith, k) in
    rw (lt-ltb (x - base_of h) 64 (omega (arith, k))) p

-- Where nothing is dropped nothing moves.
dropped_none : (es : List RecoveredRaftLogEntry) (n : ℕ) → n ≤ length es → dropped_entries es 0 n ≡ es
dropped_none es n h = rw (sub-zero n) (splice_self es 0 n (omega arith))

-- No row refuses what is answered otherwise, and a refusal is a row's.
pub passed : (o : Option ℕ) (a b : D.Answer) → refusing b ≡ false → answered o a ≡ b → o ≡ None
passed None a b z e = refl
passed (Some n) a b z e = absurd (true≢false (ap refusing e ∙ z))

pub refusal : (o : Option ℕ) (a : D.Answer) (n : ℕ) → refusing a ≡ false → answered o a ≡ D.refused n → o ≡ Some n
refusal None a n z e = absurd (true≢false (sym (ap refusing e) ∙ z))
refusal (Some m) a n z e = let q : m ≡ n = cc in ap Some q

pub same_answer_lem : (o : Option ℕ) (a b : D.Answer) → refusing b ≡ false → answered o a ≡ b → a ≡ b
same_answer_lem None a b z e = e
same_answer_lem (Some n) a b z e = absurd (true≢false (ap refusing e ∙ z))

-- What an accepted entry is answered.
abbrev pub is_appended : D.Answer → Bool
is_appended D.counted = false
is_appended D.appended = true
is_appended D.idempotentReplay = false
is_appended D.hard_state_kept = false
is_appended D.finished = false
is_appended (D.replaced_suffix r) = false
is_appended (D.pointer_kept n) = false
is_appended (D.refused n) = false

abbrev pub is_replayed : D.Answer → Bool
is_replayed D.counted = false
is_replayed D.appended = true
is_replayed D.idempotentReplay = true
is_replayed D.hard_state_kept = false
is_replayed D.finished = false
is_replayed (D.replaced_suffix r) = true
is_replayed (D.pointer_kept n) = false
is_replayed (D.refused n) = true

pub accepted_replayed : (h : Header) (x : Option Existing) (index term : ℕ) → (refusing (accepted_as h x index term) ≡ false) × (is_replayed (accepted_as h x index term) ≡ true)
accepted_replayed h None index term = (refl, refl)
accepted_replayed h (Some x) index term = go (x.term =? term)
  where
    go : (b : Bool) → (refusing (if b then D.idempotentReplay else D.replaced_suffix (record { removed_entries = held_from h index })) ≡ false)
        × (is_replayed (if b then D.idempotentReplay else D.replaced_suffix (record { removed_entries = held_from h index })) ≡ true)
    go true = (refl, refl)
    go false = (refl, refl)

pub answered_replayed : (o : Option ℕ) (a : D.Answer) → is_replayed a ≡ true → is_replayed (answered o a) ≡ true
answered_replayed None a e = e
answered_replayed (Some n) a e = refl

-- An entry.
module _ (h : Header) (es : List RecoveredRaftLogEntry) (cs : List ℕ) (r : RaftLogEntryRecord) (lent : List ℕ) (l : Lsn) (e b : RecoveredRaftLogEntry)
    (k : Looks h es cs r.index e b) (fit : unfit (payload_of r.payload lent) ≡ false) (small : r.index ≤ u64_max) (i : Identity) where
  abbrev log : D.Log ℕ
  log = view_of h es cs

  abbrev old : Option Existing
  old = existing_in (place_of h r.index) e cs r lent

  abbrev prior : ℕ
  prior = prior_in (place_of h (r.index - 1)) h.snapshot_term b.term

  tells : Tells old (D.at log r.index) (log_entry_of r lent)
  tells = go (place_of h r.index) refl
    where
      go : (q : Option ℕ) → place_of h r.index ≡ q → Tells (existing_in q e cs r lent) (D.at log r.index) (log_entry_of r lent)
      go None p = tells_none h es cs (log_entry_of r lent) p
      go (Some q) p =
          let own : e ≡ get_or es q no_entry = k.own ∙ ap (λ (x : ℕ). get_or es x no_entry) (look_held h r.index q k.fits.short p) in
          rw own (tells_held h es cs r lent q p)

  predecessor : D.predecessor_term log r.index ≡ prior
  predecessor = predecessor_is h es cs r.index ∙ go (place_of h (r.index - 1)) refl
    where
      go : (q : Option ℕ) → place_of h (r.index - 1) ≡ q → unwrap_or (at_place q (λ (q : ℕ). (get_or es q no_entry).term)) h.snapshot_term ≡ prior_in q h.snapshot_term b.term
      go None p = refl
      go (Some q) p =
          sym (ap (λ (x : RecoveredRaftLogEntry). x.term) (k.before ∙ ap (λ (x : ℕ). get_or es x no_entry) (look_held h (r.index - 1) q k.fits.short p)))

  abbrev first : Row
  first = 24 when r.index ≤? h.progress.truncated_through_index

  abbrev rest : List Row
  rest = replay_rows_of h old prior r.index r.term

  abbrev accepted : D.Answer
  accepted = accepted_as h old r.index r.term

  abbrev told : D.Answer
  told = entry_answer h old prior r.index r.term

  rows_are : first_of (D.rows i (entry_kind_of r lent) log) ≡ first_of (first ∷ rest)
  rows_are = entry_rows h es cs k.fits (log_entry_of r lent) old prior tells predecessor i r.format_version

  abbrev place : ℕ
  place = look_of h r.index

  -- the entry as it was, written where it stood
  as_it_was_lem : dropped_entries (set es place e) 0 h.len ≡ es
  as_it_was_lem =
      let w : set es place e ≡ es = rw k.own (set_self es place no_entry) in
      rw w (dropped_none es h.len (omega (arith, k.places, k.fits.short)))

  one_written : (x : RecoveredRaftLogEntry) → dropped_entries (set es place x) 0 h.len ≡ placed_entries es place x
  one_written x = dropped_none (set es place x) h.len (omega (arith, length-set es place x, k.places, k.fits.short))

  module _ (a : D.Answer) (z : refusing a ≡ false) (p : told ≡ a) where
    no_row : first_of (D.rows i (entry_kind_of r lent) log) ≡ None
    no_row = rows_are ∙ passed (first_of (first ∷ rest)) accepted a z p

    answer_is : a ≡ D.answer_to (entry_kind_of r lent) log
    unfolding settled judged
    answer_is =
        sym p ∙ sym (rw no_row at (entry_answer_lem h es cs k.fits (log_entry_of r lent) old prior tells predecessor i r.format_version l.0))

    replay_is : replayed h old prior r.index r.term ≡ a
    replay_is = past_first first rest accepted a z p

  -- appended at the place after the last
  new_only : told ≡ D.appended → old ≡ None
  new_only p = go old (same_answer_lem (first_of (replay_rows_of h old prior r.index r.term)) accepted D.appended refl (replay_is D.appended refl p))
    where
      go : (x : Option Existing) → accepted_as h x r.index r.term ≡ D.appended → x ≡ None
      go None q = refl
      go (Some x) q = absurd (on (x.term =? r.term) q)
        where
          on : (c : Bool) → ◌≡◌ {A = D.Answer} (if c then D.idempotentReplay else D.replaced_suffix (record { removed_entries = held_from h r.index })) D.appended → ⊥
          on true w = true≢false (sym (ap is_appended w))
          on false w = true≢false (sym (ap is_appended w))

  appended_place : told ≡ D.appended → place ≡ h.len
  appended_place p =
      let o : first_of (new_rows h prior r.index r.term) ≡ None =
      passed (first_of (new_rows h prior r.index r.term)) D.appended D.appended refl (rw (new_only p) at (replay_is D.appended refl p)) in
      let k : Appends h r.index = appends h prior r.index r.term small o in
      rw (lt-ltb (r.index - base_of h) 64 (omega (arith, k.room, k.place))) k.place

  -- At an index that is not held nothing but an append is answered.
  place_held : (a : D.Answer) → refusing a ≡ false → is_appended a ≡ false → told ≡ a → place_of h r.index ≡ Some place
  place_held a z ne p = go (place_of h r.index) refl (replay_is a z p)
    where
      go : (q : Option ℕ) → place_of h r.index ≡ q → replayed h (existing_in q e cs r lent) prior r.index r.term ≡ a → place_of h r.index ≡ Some place
      go (Some q) w v = w ∙ ap Some (sym (look_held h r.index q k.fits.short w))
      go None w v = absurd (true≢false (ap is_appended (same_answer_lem (first_of (replay_rows_of h None prior r.index r.term)) D.appended a z v) ∙ ne))

  abbrev plan : D.Answer → Plan
  plan a = entry_plan a h e r l cs lent

  abbrev Done : D.Answer → Type 0
  Done a = Settled h es cs i (entry_kind_of r lent) l.0 (plan a) (entries_after h es place (plan a))

  always : is_replayed told ≡ true
  always = answered_replayed (first_of (first ∷ rest)) accepted (accepted_replayed h old r.index r.term).1

  done : (a : D.Answer) → told ≡ a → Done a
  unfolding D.accept
  done (D.refused n) p =
      inl (record {
        number = n;
        row = rows_are ∙ refusal (first_of (first ∷ rest)) accepted n (accepted_replayed h old r.index r.term).0 p;
        answer = refl;
        head = refl;
        entries = as_it_was_lem;
        store = refl;
      })
  done D.appended p =
      inr (record {
        row = no_row D.appended refl p;
        answer = answer_is D.appended refl p;
        means =
            rw (one_written (kept_entry r l), appended_place p)
            (when_appended h es cs k.fits k.places k.bytes r lent l fit small old prior tells (replay_is D.appended refl p));
        same = refl;
      })
  done D.idempotentReplay p =
      inr (record {
        row = no_row D.idempotentReplay refl p;
        answer = answer_is D.idempotentReplay refl p;
        means =
            rw (one_written (renewed_entry e l), k.own)
            (when_renewed h es cs k.fits k.places k.bytes r lent l fit small old prior tells place (place_held D.idempotentReplay refl refl p) (replay_is D.idempotentReplay refl p));
        same = refl;
      })
  done (D.replaced_suffix m) p =
      inr (record {
        row = no_row (D.replaced_suffix m) refl p;
        answer = answer_is (D.replaced_suffix m) refl p;
        means =
            rw (one_written (kept_entry r l))
            (when_replaced h es cs k.fits k.places k.bytes r lent l fit small old prior tells place (place_held (D.replaced_suffix m) refl refl p) m (replay_is (D.replaced_suffix m) refl p));
        same = refl;
      })
  done D.counted p = absurd (true≢false (sym always ∙ ap is_replayed p))
  done D.hard_state_kept p = absurd (true≢false (sym always ∙ ap is_replayed p))
  done (D.pointer_kept n) p = absurd (true≢false (sym always ∙ ap is_replayed p))
  done D.finished p = absurd (true≢false (sym always ∙ ap is_replayed p))

  entry_settled : Done told
  entry_settled = done told refl

-- A row refuses, or it is kept.
module _ (h : Header) (es : List RecoveredRaftLogEntry) (cs : List ℕ) (e : RecoveredRaftLogEntry) (q : ℕ) (own : e ≡ get_or es q no_entry) (few : h.len ≤ length es) (i : Identity) (b : Kind) (lsn : ℕ) (d : Plan)
    (answer : d.answer ≡ D.answer_to b (view_of h es cs)) (means : Means d.head (entries_after h es q d) d.bytes (D.accept b lsn (view_of h es cs))) (same : id_of d.head ≡ id_of h) where
  by_row : (o : Option ℕ) → first_of (D.rows i b (view_of h es cs)) ≡ o → Settled h es cs i b lsn (unless_row o h e cs d) (entries_after h es q (unless_row o h e cs d))
  by_row (Some n) p =
      inl (record {
        number = n;
        row = p;
        answer = refl;
        head = refl;
        entries = (let w : set es q e ≡ es = rw own (set_self es q no_entry) in rw w (dropped_none es h.len few));
        store = refl;
      })
  by_row None p = inr (record { row = p; answer = answer; means = means; same = same })

module _ (h : Header) (es : List RecoveredRaftLogEntry) (cs : List ℕ) (l : Lsn) (e b : RecoveredRaftLogEntry) (i : Identity) where
  hard_state_settled : (version : ℕ) (x : HardState) → Looks h es cs 0 e b
      → Settled h es cs i (hard_state version (hard_state_of x)) l.0 (hard_state_plan h e x l cs) (entries_after h es (look_of h 0) (hard_state_plan h e x l cs))
  unfolding D.answer_to D.accept
  hard_state_settled version x k =
      let w : set es (look_of h 0) e ≡ es = rw k.own (set_self es (look_of h 0) no_entry) in
      let few : h.len ≤ length es = omega (arith, k.places, k.fits.short) in
      by_row h es cs e (look_of h 0) k.own few i (hard_state version (hard_state_of x)) l.0
      (record { answer = D.hard_state_kept; head = with_hard_state h x l; entry = e; dropped = 0; bytes = cs }) refl
      (rw (w, dropped_none es h.len few) (hard_state_means h es cs k.fits k.places k.bytes x l)) refl
      (first_of (hard_state_rows_of h x)) (ap first_of (hard_state_rows_lem h es cs k.fits i version x))

  pointer_settled : (p : RaftSnapshotPointerRecord) → Looks h es cs p.last_included_index e b → i ≡ identity_of p.identity
      → Settled h es cs i (pointer (pointer_of p)) l.0 (pointer_plan h e p l cs) (entries_after h es (look_of h p.last_included_index) (pointer_plan h e p l cs))
  unfolding D.answer_to D.accept
  pointer_settled p k ei =
      let x : ℕ = p.last_included_index in
      let n : ℕ = covered_by h p.last_included_index in
      let w : set es (look_of h x) e ≡ es = rw k.own (set_self es (look_of h x) no_entry) in
      let few : h.len ≤ length es = omega (arith, k.places, k.fits.short) in
      by_row h es cs e (look_of h x) k.own few i (pointer (pointer_of p)) l.0
      (record { answer = D.pointer_kept n; head = with_pointer h p l n; entry = e; dropped = n; bytes = dropped_bytes cs n }) (ap D.pointer_kept (covered_is h es cs p l k.fits k.places k.bytes))
      (rw w (pointer_means h es cs k.fits k.places k.bytes p l n refl)) refl
      (first_of (pointer_rows_of (identity_of p.identity) h p (held_term_in (place_of h x) e.term)))
      (ap first_of (pointer_rows_lem h es cs k.fits p (held_term_in (place_of h x) e.term) (held_term x k) i) ∙ ap (λ (j : Identity). first_of (pointer_rows_of j h p (held_term_in (place_of h x) e.term))) ei)
    where
      held_term : (x : ℕ) → Looks h es cs x e b → option_map (λ o. o.term) (D.at (view_of h es cs) x) ≡ (held_term_in (place_of h x) e.term)
      held_term x k = term_at_is h es cs x ∙ go (place_of h x) refl
        where
          go : (q : Option ℕ) → place_of h x ≡ q → at_place q (λ (q : ℕ). (get_or es q no_entry).term) ≡ (held_term_in q e.term)
          go None w = refl
          go (Some q) w = ap (λ (y : RecoveredRaftLogEntry). Some y.term) (sym (k.own ∙ ap (λ (y : ℕ). get_or es y no_entry) (look_held h x q k.fits.short w)))

-- A record of its replica, by kind.
pub settle_means : (h : Header) (es : List RecoveredRaftLogEntry) (cs : List ℕ) (k : RaftWalRecord) (lent : List ℕ) (l : Lsn) (e b : RecoveredRaftLogEntry) → Looks h es cs (index_of k) e b
    → first_of (form_rows (owner_of k) (kind_of k lent)) ≡ None → fits_kind (kind_of k lent) ≡ true
    → Settled h es cs (owner_of k) (kind_of k lent) l.0 (plan_of h e b k l cs lent) (entries_after h es (look_of h (index_of k)) (plan_of h e b k l cs lent))
unfolding form_rows
settle_means h es cs (W.Entry r) lent l e b k f m =
    let c = clear (form_rows (owner_of (W.Entry r)) (kind_of (W.Entry r) lent)) f in
    entry_settled h es cs r lent l e b k c.1.1.1.1.1.1.1.0 (leb-true r.index u64_max m) (identity_of r.identity)
settle_means h es cs (W.HardState r) lent l e b k f m = hard_state_settled h es cs l e b (identity_of r.identity) r.format_version r.hard_state k
settle_means h es cs (W.SnapshotPointer p) lent l e b k f m = pointer_settled h es cs l e b (identity_of p.identity) p k refl
