-- The tables of the checks are the definition's rows, for every header that fits and whatever it holds.
-- Assumes nothing.
use Rattle.std.specs.Prelude.{Option, option_map}
use mathlib.Core.Path.{◌≡◌, refl, sym, ap, ◌∙◌}
use mathlib.Core.Bool.{Bool, true, false, not}
use mathlib.Core.List.{List, [], ◌∷◌, ◌++◌}
use Prim.Native.Nat.{ℕ, ◌≤◌}
use lib.ListN.{length}
use Rattle.definition.specs.Table.{Row, ◌when◌, first_of}
use Rattle.definition.specs.Records.{Identity, same, LogEntry}
use Rattle.definition.specs.Log as D
use Rattle.definition.specs.Batch as M
use Rattle.definition.proofs.Order.{same_eq}
use Rattle.codec.specs.declared.HardState.{HardState}
use Rattle.codec.specs.declared.RaftSnapshotPointerRecord.{RaftSnapshotPointerRecord}
use Rattle.codec.specs.Records.{hard_state_of, maybe_hard_state_of, pointer_of, pointer_record_of, maybe_pointer_of}
use Rattle.view.specs.declared.Existing.{Existing}
use Rattle.view.specs.declared.Header.{Header}
use Rattle.view.specs.declared.RecoveredRaftLogEntry.{RecoveredRaftLogEntry}
use Rattle.view.specs.Meaning.{view_of, Fits}
use Rattle.view.specs.Model.{maximum_term}
use Rattle.view.specs.Readers.{last_of}
use Rattle.view.specs.Decisions.{Tells, replay_rows_of}
use Rattle.view.proofs.Head.{maximum_is}
use Rattle.view.proofs.Readers.{last_is}
use Rattle.view.proofs.Rows.{batch_rows_lem, install_rows_lem}
use Rattle.batches.specs.declared.RaftPersistenceBatch.{RaftPersistenceBatch}
use Rattle.batches.specs.Meaning.{batch_of}
use Rattle.batches.specs.Checks.{lsn_exhausted, pointer_form_rows, placed_rows, pointer_rows, entry_form_rows, boundary_rows, hard_state_rows, term_rows}

-- One table before two.
before_both : (l m n : List Row) → first_of m ≡ first_of n → first_of (l ++ m) ≡ first_of (l ++ n)
before_both [] m n e = e
before_both ((k when true) ∷ l) m n e = refl
before_both ((k when false) ∷ l) m n e = before_both l m n e

module _ (i : Identity) (b : M.Batch) (v : M.Preview) (h : Header) (es : List RecoveredRaftLogEntry) (cs : List ℕ) (f : Fits h es cs) (means : v.log ≡ view_of h es cs) where
  -- The pointer. Nothing stands before it in the batch, so that the preview's log is the kept one.
  module _ (p : RaftSnapshotPointerRecord) (held : Option ℕ) (told : option_map (λ o. o.term) (D.at (view_of h es cs) p.last_included_index) ≡ held) where
    -- what follows 45 in the definition
    abbrev after : D.PointerRecord → List Row
    after q =
        D.snapshot_index_regression q (D.kept_pointer i (view_of h es cs))
        ∷ D.conflicting_snapshot_pointer q (D.kept_pointer i (view_of h es cs))
        ∷ M.preview_lsn_exhausted v
        ∷ D.snapshot_term_regression q.snapshot v.log
        ∷ D.snapshot_boundary_term_mismatch q.snapshot v.log
        ∷ []

    installs : D.snapshot_term_regression (pointer_of p) v.log ∷ D.snapshot_boundary_term_mismatch (pointer_of p) v.log ∷ [] ≡ D.install_rows (pointer_of p) (view_of h es cs)
    unfolding D.install_rows
    installs = rw means

    abbrev succeeds : List Row
    succeeds = D.snapshot_successor_rows (record { identity = i; snapshot = pointer_of p }) (D.kept_pointer i (view_of h es cs))

    after_own : after (record { identity = i; snapshot = pointer_of p }) ≡ placed_rows i h v.lsn held p
    unfolding D.snapshot_successor_rows view_of
    after_own = ap (λ (l : List Row). succeeds ++ lsn_exhausted v.lsn ∷ l) (installs ∙ install_rows_lem h es cs f p held told)

    after_same : (t : Bool) → same i (pointer_record_of p).identity ≡ t → first_of ((45 when not t) ∷ after (pointer_record_of p)) ≡ first_of ((45 when not t) ∷ placed_rows i h v.lsn held p)
    after_same false e = refl
    after_same true e = ap (λ (j : Identity). first_of (after (record { identity = j; snapshot = pointer_of p }))) (sym (same_eq i (pointer_record_of p).identity e)) ∙ ap first_of after_own

    pub pointer_rows_lem : first_of (M.batch_pointer_rows i b (view_of h es cs) (pointer_record_of p) v) ≡ first_of (pointer_rows i h v.lsn held p)
    unfolding M.batch_pointer_rows
    pointer_rows_lem =
        before_both (pointer_form_rows (pointer_record_of p)) (M.snapshot_identity_mismatch i (pointer_record_of p) ∷ after (pointer_record_of p))
        (M.snapshot_identity_mismatch i (pointer_record_of p) ∷ placed_rows i h v.lsn held p) (after_same (same i (pointer_record_of p).identity) refl)

  -- An entry: what is told of the entry at its index is so, and `prior` is the predecessor's term.
  module _ (was : D.Log ℕ) (e : LogEntry) (old : Option Existing) (prior : ℕ) (tells : Tells old (D.at (view_of h es cs) e.index) e) (before : D.predecessor_term (view_of h es cs) e.index ≡ prior) where
    pub entry_rows : first_of (M.batch_entry_rows i b was e v) ≡ first_of (entry_form_rows v.lsn e ++ boundary_rows h e.index ++ replay_rows_of h old prior e.index e.term)
    unfolding M.batch_entry_rows
    entry_rows =
        before_both (entry_form_rows v.lsn e) (D.entry_at_or_below_snapshot e v.log ∷ D.replay_rows e v.log) (boundary_rows h e.index ++ replay_rows_of h old prior e.index e.term)
        (rw means (batch_rows_lem h es cs f e old prior tells before))

-- The hard state, where `last` is the preview's last index.
pub hard_state_rows_lem : (i : Identity) (b : M.Batch) (was : D.Log ℕ) (v : M.Preview) (kept : Option HardState) (snapshot : Option RaftSnapshotPointerRecord) (last : ℕ) (h : HardState) →
    was.hard_state ≡ maybe_hard_state_of kept → b.snapshot ≡ maybe_pointer_of snapshot → D.last v.log ≡ last →
    M.batch_hard_state_rows i b was (hard_state_of h) v ≡ hard_state_rows kept snapshot last h
unfolding M.batch_hard_state_rows
hard_state_rows_lem i b was v kept snapshot last h x y z = rw (x, y, z)

-- The terms, where `boundary` is the preview's boundary term and `largest` its largest term.
pub term_rows_lem : (b : M.Batch) (was : D.Log ℕ) (v : M.Preview) (batch kept : Option HardState) (boundary largest : ℕ) →
    b.hard_state ≡ maybe_hard_state_of batch → was.hard_state ≡ maybe_hard_state_of kept → v.log.snapshot_term ≡ boundary → D.maximum_observed_term v.log ≡ largest →
    M.hard_state_before_log_term b was v ∷ [] ≡ term_rows batch kept boundary largest
term_rows_lem b was v batch kept boundary largest w x y z = rw (z, w, x, y)

-- Both on the meaning: a batch with the bytes lent beside it, the kept header k, and the preview's header h with its entries.
module _ (batch : RaftPersistenceBatch) (lent : List ℕ) (k : Header) (ks : List RecoveredRaftLogEntry) (kcs : List ℕ) (v : M.Preview) (h : Header) (es : List RecoveredRaftLogEntry) (cs : List ℕ) (means : v.log ≡ view_of h es cs) where
  kept_hard_state : (view_of k ks kcs).hard_state ≡ maybe_hard_state_of k.hard_state
  unfolding view_of
  kept_hard_state = refl

  preview_boundary : v.log.snapshot_term ≡ h.snapshot_term
  unfolding view_of
  preview_boundary = rw means

  pub hard_state_means : Fits h es cs → (i : Identity) (x : HardState) →
      M.batch_hard_state_rows i (batch_of batch lent) (view_of k ks kcs) (hard_state_of x) v ≡ hard_state_rows k.hard_state batch.snapshot (last_of h) x
  hard_state_means f i x =
      hard_state_rows_lem i (batch_of batch lent) (view_of k ks kcs) v k.hard_state batch.snapshot (last_of h) x kept_hard_state refl (rw means (last_is h es cs f.indices))

  pub term_means : h.len ≤ length es →
      M.hard_state_before_log_term (batch_of batch lent) (view_of k ks kcs) v ∷ [] ≡ term_rows batch.hard_state k.hard_state h.snapshot_term (maximum_term h es)
  term_means l =
      term_rows_lem (batch_of batch lent) (view_of k ks kcs) v batch.hard_state k.hard_state h.snapshot_term (maximum_term h es) refl kept_hard_state preview_boundary
      (rw means (maximum_is h es cs l))
