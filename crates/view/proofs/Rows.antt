-- The decisions refuse by the definition's rows and answer as it does, for every header that fits and whatever it holds.
-- Assumes nothing.
use mathlib.Core.Path.{◌≡◌, refl, sym, ◌∙◌}
use mathlib.Core.Bool.{Bool, true, false, ◌&&◌, not}
use mathlib.Core.List.{List, [], ◌∷◌}
use Prim.Native.Nat.{ℕ, ◌<◌}
use native.Mathlib.Omega.{arith}
use borrow.Author.Tests.{eqb-true, ne_eqb}
use Rattle.std.specs.Prelude.{if◌then◌else◌, Option, None, Some, option_map}
use Rattle.definition.specs.Table.{◌=?◌, ◌≠?◌, ◌<?◌, ◌≤?◌, Row, ◌when◌, first_of, is_some, if_some}
use Rattle.definition.specs.Records.{Identity, LogEntry, same_payload, Kind, entry, hard_state, pointer}
use Rattle.definition.specs.Log as D
use Rattle.definition.specs.Recovery.{judged, settled}
use Rattle.definition.proofs.Laws.{none_some, first_under}
use Rattle.codec.specs.declared.HardState.{HardState}
use Rattle.codec.specs.declared.RaftSnapshotPointerRecord.{RaftSnapshotPointerRecord}
use Rattle.codec.specs.Records.{hard_state_of, pointer_of}
use Rattle.view.specs.declared.Existing.{Existing}
use Rattle.view.specs.declared.RecoveredRaftLogEntry.{RecoveredRaftLogEntry}
use Rattle.view.specs.declared.Header.{Header}
use Rattle.view.specs.Meaning.{snapshot_of, entry_at, view_of, Fits}
use Rattle.view.specs.Readers.{place_of, at_place}
use Rattle.view.specs.Decisions.{answered, Tells, new_rows, held_rows, held_from, replay_rows_of, accepted_as, entry_answer, hard_state_rows_of, install_rows_of, pointer_rows_of}
use Rattle.view.proofs.Readers.{count_is, last_is, place_is, at_is, Held, held_at_lem}

-- One row before two tables.
one_more_lem : (r : Row) (l m : List Row) → first_of l ≡ first_of m → first_of (r ∷ l) ≡ first_of (r ∷ m)
one_more_lem (n when true) l m e = refl
one_more_lem (n when false) l m e = e

some_map : {A B : Type 0} (p : B → Bool) (g : A → B) (o : Option A) → if_some p (option_map g o) ≡ if_some (λ a. p (g a)) o
some_map p g None = refl
some_map p g (Some a) = refl

judged_answer : (o : Option ℕ) (k : Kind) (t : ℕ) (l : D.Log ℕ) → (judged o k t l).answer ≡ answered o (D.answer_to k l)
unfolding judged
judged_answer None k t l = refl
judged_answer (Some n) k t l = refl

module _ (h : Header) (es : List RecoveredRaftLogEntry) (cs : List ℕ) (f : Fits h es cs) where
  abbrev log : D.Log ℕ
  log = view_of h es cs

  -- where an index is held there are entries
  not_empty : (x : ℕ) (o : D.Entry ℕ) → D.at log x ≡ Some o → D.is_empty log ≡ false
  not_empty x o e = rw (count_is h es cs) (go (place_of h x) refl (sym (at_is h es cs x) ∙ e))
    where
      go : (p : Option ℕ) → place_of h x ≡ p → at_place p (entry_at es cs) ≡ Some o → (h.len =? 0) ≡ false
      go None a b = absurd (none_some b)
      go (Some q) a b =
          let k : Held h x q = held_at_lem h x q a in
          let l : q < h.len = k.below in
          ne_eqb h.len 0 (λ z. omega arith)

  -- An entry: what is told of the entry at its index is so, and `prior` is the predecessor's term.
  module _ (e : LogEntry) (old : Option Existing) (prior : ℕ) (tells : Tells old (D.at log e.index) e) (before : D.predecessor_term log e.index ≡ prior) where
    new_rows_lem : D.at log e.index ≡ None → first_of (D.replay_rows e log) ≡ first_of (new_rows h prior e.index e.term)
    unfolding D.replay_rows D.is_held D.same_term D.same_content view_of
    new_rows_lem p = rw (p, count_is h es cs, last_is h es cs f.indices, before)

    held_rows_lem : (o : D.Entry ℕ) (term : ℕ) (same : Bool) → D.at log e.index ≡ Some o → o.term ≡ term → (term ≡ e.term → same_payload o.payload e.payload ≡ same)
        → first_of (D.replay_rows e log) ≡ first_of (held_rows h term same prior e.index e.term)
    unfolding D.replay_rows D.is_held D.same_term D.same_content view_of
    held_rows_lem o term same p q r = rw (not_empty e.index o p, p, q, before) (go (term =? e.term) refl)
      where
        go : (b : Bool) → (term =? e.term) ≡ b →
            first_of (
            (26 when b && not (same_payload o.payload e.payload)) ∷
            (27 when not b && e.index ≤? h.committed_index) ∷ (28 when false) ∷ (30 when false) ∷ (31 when not b && e.term <? prior) ∷ (32 when false) ∷ []
            )
            ≡ first_of ((26 when b && not same) ∷ (27 when not b && e.index ≤? h.committed_index) ∷ (31 when not b && e.term <? prior) ∷ [])
        go true z = rw (r (eqb-true term e.term z)) (first_under 26 (not same) _ _ refl)
        go false z = first_under 27 (e.index ≤? h.committed_index) _ _ (first_under 31 (e.term <? prior) _ _ refl)

    pub replay_rows_lem : first_of (D.replay_rows e log) ≡ first_of (replay_rows_of h old prior e.index e.term)
    replay_rows_lem = go old (D.at log e.index) refl tells
      where
        go : (x : Option Existing) (a : Option (D.Entry ℕ)) → D.at log e.index ≡ a → Tells x a e → first_of (D.replay_rows e log) ≡ first_of (replay_rows_of h x prior e.index e.term)
        go None None p t = new_rows_lem p
        go None (Some o) p t = absurd t
        go (Some x) None p t = absurd t
        go (Some x) (Some o) p t = held_rows_lem o x.term x.same_payload p t.0 t.1

    accepted_as_lem : (version : ℕ) → D.answer_to (entry version e) log ≡ accepted_as h old e.index e.term
    unfolding D.answer_to D.is_held D.same_term
    accepted_as_lem version = rw (count_is h es cs, place_is h es cs e.index) (go old (D.at log e.index) tells)
      where
        go : (x : Option Existing) (a : Option (D.Entry ℕ)) → Tells x a e →
            (if is_some a
            then (if if_some (λ o. o.term =? e.term) a then D.idempotentReplay else D.replaced_suffix (record { removed_entries = held_from h e.index }))
            else D.appended)
            ≡ accepted_as h x e.index e.term
        go None None t = refl
        go None (Some o) t = absurd t
        go (Some x) None t = absurd t
        go (Some x) (Some o) t = rw t.0

    -- what is observed is refused by the definition's rows ..
    pub entry_rows : (i : Identity) (version : ℕ) → first_of (D.rows i (entry version e) log) ≡ first_of ((24 when e.index ≤? h.progress.truncated_through_index) ∷ replay_rows_of h old prior e.index e.term)
    unfolding D.rows view_of
    entry_rows i version = one_more_lem (24 when e.index ≤? h.progress.truncated_through_index) (D.replay_rows e log) (replay_rows_of h old prior e.index e.term) replay_rows_lem

    -- .. and answered as it answers
    pub entry_answer_lem : (i : Identity) (version t : ℕ) → (settled i (entry version e) t log).answer ≡ entry_answer h old prior e.index e.term
    unfolding settled
    entry_answer_lem i version t = judged_answer (first_of (D.rows i (entry version e) log)) (entry version e) t log ∙ (rw (entry_rows i version, accepted_as_lem version))

    -- what a batch brings is refused by the definition's rows
    pub batch_rows_lem : first_of (D.entry_at_or_below_snapshot e log ∷ D.replay_rows e log) ≡ first_of ((25 when e.index ≤? h.snapshot_index) ∷ replay_rows_of h old prior e.index e.term)
    unfolding view_of
    batch_rows_lem = one_more_lem (25 when e.index ≤? h.snapshot_index) (D.replay_rows e log) (replay_rows_of h old prior e.index e.term) replay_rows_lem

  -- A hard state.
  pub hard_state_rows_lem : (i : Identity) (version : ℕ) (x : HardState) → D.rows i (hard_state version (hard_state_of x)) log ≡ hard_state_rows_of h x
  unfolding D.rows view_of
  hard_state_rows_lem i version x = rw (last_is h es cs f.indices)

  -- A pointer, where `held` is the term of the entry at its index.
  module _ (p : RaftSnapshotPointerRecord) (held : Option ℕ) (told : option_map (λ o. o.term) (D.at log p.last_included_index) ≡ held) where
    pub install_rows_lem : D.install_rows (pointer_of p) log ≡ install_rows_of h p held
    unfolding D.install_rows view_of
    install_rows_lem = rw (← told, some_map (λ (x : ℕ). x ≠? p.last_included_term) (λ (o : D.Entry ℕ). o.term) (D.at log p.last_included_index))

    kept_pointer_lem : (i : Identity) → D.kept_pointer i log ≡ option_map (λ q. record { identity = i; snapshot = q }) (snapshot_of h.snapshot)
    unfolding view_of
    kept_pointer_lem i = refl

    pub pointer_rows_lem : (i : Identity) → D.rows i (pointer (pointer_of p)) log ≡ pointer_rows_of i h p held
    unfolding D.rows
    pointer_rows_lem i = rw (install_rows_lem, kept_pointer_lem i)
