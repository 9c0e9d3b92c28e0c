-- On what a list of records leaves, the larger of a replica's two commits is the view's (document 02, Q-3).
-- Assumes nothing.
use Prim.Native.Nat.{ℕ, ◌≤◌, max}
use native.Mathlib.Omega.{arith}
use Rattle.std.specs.Prelude.{Option, None, Some}
use Rattle.definition.specs.Table.{◌=?◌, ◌<?◌, ◌≤?◌}
use Rattle.definition.specs.Records.{HardState, Pointer, Kind, entry, hard_state, pointer}
use Rattle.definition.specs.Log.{Log, empty, raised_by, with_entry, with_hard_state, with_pointer, accept, maximum_observed_term, normalized_to, normalized_hard_state, with_hard, normalize_hard_state_term}
use Rattle.definition.specs.Commits.{CommitWithin, WithinView, ViewsIsLarger}
use Rattle.definition.proofs.Laws.{if_both}
use Rattle.definition.proofs.Carried.{carried}

raised_within : (p : Pointer) (c : ℕ) (o : Option HardState) → CommitWithin c o → (raised_by p o).commit ≤ max c p.last_included_index
unfolding raised_by
raised_within p c None u = omega arith
raised_within p c (Some o) u =
    if_both (λ (h : HardState). h.commit ≤ max c p.last_included_index) (p.last_included_term ≤? o.current_term) _ _ (omega arith) (omega arith)

accept_within_view : (k : Kind) (t : ℕ) (log : Log ℕ) → WithinView log → WithinView (accept k t log)
unfolding accept with_entry with_hard_state with_pointer
accept_within_view (entry version e) t log u = u
accept_within_view (hard_state version h) t log u = omega arith
accept_within_view (pointer p) t log u = raised_within p log.committed_index log.hard_state u

normalized_within : (m c : ℕ) (o : Option HardState) → CommitWithin c o → (normalized_to m c o).commit ≤ c
unfolding normalized_to
normalized_within m c None u = omega arith
normalized_within m c (Some o) u = if_both (λ (h : HardState). h.commit ≤ c) (o.current_term <? m) _ _ u u

normalize_within_view : (log : Log ℕ) → WithinView log → WithinView (normalize_hard_state_term log)
unfolding normalize_hard_state_term with_hard normalized_hard_state
normalize_within_view log u =
    if_both (λ o. CommitWithin log.committed_index o) (maximum_observed_term log =? 0) _ _ u
    (normalized_within (maximum_observed_term log) log.committed_index log.hard_state u)

pub views_is_larger : ViewsIsLarger
unfolding empty
views_is_larger rs =
    carried rs (λ i log. WithinView log)
    (record {
      of_empty = λ i. tt;
      accepting = λ i k lsn log a f r u. accept_within_view k lsn log u;
      finishing = λ i log u. normalize_within_view log u;
    })
