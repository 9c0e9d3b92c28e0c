-- A batch tried on what is kept of its replica is the definition's preparation.
-- Assumes nothing.
use Rattle.std.specs.Prelude.{Option, None, Some}
use mathlib.Core.Path.{◌≡◌, refl, sym, ap, subst, ◌∙◌}
use mathlib.Core.Bool.{true}
use mathlib.Core.List.{List}
use Prim.Native.Nat.{ℕ, ◌+◌, ◌-◌, ◌*◌, ◌≤◌}
use native.Mathlib.Omega.{arith}
use borrow.Author.Tests.{ltb-false}
use lib.ListN.{length, take, drop, replicate}
use Rattle.definition.specs.Table.{Row, first_of, every}
use Rattle.definition.specs.Log as D
use Rattle.definition.specs.Recovery.{replica_of}
use Rattle.definition.specs.Batch as M
use Rattle.definition.proofs.Laws.{clear, none_some}
use Rattle.ids.specs.declared.RaftReplicaIdentity.{RaftReplicaIdentity}
use Rattle.codec.specs.declared.HardState.{HardState}
use Rattle.ids.specs.Identity.{identity_of}
use Rattle.store.specs.Splice.{splice}
use Rattle.store.specs.Zeros.{zeros}
use Rattle.view.specs.declared.RecoveredRaftLogEntry.{RecoveredRaftLogEntry}
use Rattle.view.specs.Meaning.{view_of}
use Rattle.storage.specs.declared.RecoveredRaftStorage.{RecoveredRaftStorage}
use Rattle.storage.specs.Model.{entries_in}
use Rattle.storage.specs.Meaning.{meaning}
use Rattle.readers.specs.declared.Own.{Own}
use Rattle.readers.specs.Own.{block_of}
use Rattle.readers.proofs.Owns.{Owns}
use Rattle.batches.specs.declared.RaftPersistenceBatch.{RaftPersistenceBatch}
use Rattle.batches.specs.Meaning.{entries_of, batch_of}
use Rattle.batches.proofs.Entries.{entries_count}
use Rattle.persistence.specs.declared.TriedBatch.{TriedBatch}
use Rattle.preview.specs.declared.Preview.{Preview}
use Rattle.preview.specs.Preview.{Ran, formed_by, onward, extend_over, Leaves, Reached, Sits}
use Rattle.persistence.specs.Prepare.{point_in, followed, lastly_ran, entries_ran, beginning, pointed_ran, prepare_ran, PointedReached, BatchReached}
use Rattle.persistence.specs.Prepares.{Prepares}
use Rattle.persistence.specs.Tries.{Kept, ran_of, tried_on, TriedReached}
use Rattle.preview.proofs.Extending.{all_fit}
use Rattle.persistence.proofs.Prepared.{prepares}

-- The copies that are written are those of the model.
module _ (s : RecoveredRaftStorage) (st : List ℕ) (o : Own) (es : List RecoveredRaftLogEntry) (cs : List ℕ) (ee : es ≡ entries_in s o.place)
    (ec : cs ≡ splice (replicate 4096 0) 0 (take (4096 * o.place + 64 * o.head.len - 4096 * o.place) (drop (4096 * o.place) st))) where
  copied : cs ≡ block_of st o
  unfolding zeros
  copied =
      let n : 4096 * o.place + 64 * o.head.len - 4096 * o.place ≡ 64 * o.head.len = omega arith in
      ec ∙ ap (λ (k : ℕ). splice (replicate 4096 0) 0 (take k (drop (4096 * o.place) st))) n

  module _ (p : Preview) (ep : p ≡ beginning o.head es) where
    begun : p ≡ beginning o.head (entries_in s o.place)
    begun = ep ∙ ap (beginning o.head) ee

    pub try_sits : Kept s st o → Sits p cs
    try_sits k = subst (λ (x : List ℕ). Sits p x) (sym copied) (subst (λ (x : Preview). Sits x (block_of st o)) (sym begun) k.sits)

    module _ (d : RaftReplicaIdentity) (b : RaftPersistenceBatch) (lent : List ℕ) (r : TriedBatch) (ds : List ℕ) where
      pub try_ran : Leaves (ran_of r ds) (prepare_ran d b lent p cs) (BatchReached d b lent p cs)
          → Leaves (ran_of r (tried_on s st d b lent o).bytes) (tried_on s st d b lent o) (TriedReached s st d b lent o)
      unfolding tried_on
      try_ran k =
          let p₀ : Preview = beginning o.head (entries_in s o.place) in
          let w : ran_of r ds ≡ prepare_ran d b lent p₀ (block_of st o) =
          k.is ∙ ap (λ (x : Preview). prepare_ran d b lent x cs) begun ∙ ap (prepare_ran d b lent p₀) copied in
          record {
            is = ap (ran_of r) (sym (ap (λ (x : Ran). x.bytes) w)) ∙ w;
            read = subst (λ (x : List ℕ). BatchReached d b lent p₀ x) copied (subst (λ (x : Preview). BatchReached d b lent x cs) begun k.read);
          }

-- What stands at an own place can be tried.
module _ {s : RecoveredRaftStorage} {st : List ℕ} {i : RaftReplicaIdentity} {o : Own} (w : Owns s st i o) where
  pub kept : Kept s st o
  kept =
      record {
        low = w.low;
        short = w.short;
        size = w.size;
        sits = record { fits = w.means.fits; places = w.means.places; bytes = w.means.bytes };
      }

  pub tried : (b : RaftPersistenceBatch) (lent : List ℕ) → TriedReached s st i b lent o
      → Prepares (tried_on s st i b lent o) (M.prepare_on (identity_of i) (batch_of b lent) (replica_of (identity_of i) (meaning s st)))
  unfolding tried_on
  tried b lent reached =
      subst (λ (g : D.Log ℕ). Prepares (tried_on s st i b lent o) (M.prepare_on (identity_of i) (batch_of b lent) g)) w.means.view
      (prepares i b lent o.head (entries_in s o.place) (block_of st o) w.means.fits w.means.places w.means.bytes reached)

-- A batch that is not refused has at most 32 entries.
module _ (s : RecoveredRaftStorage) (st : List ℕ) (d : RaftReplicaIdentity) (b : RaftPersistenceBatch) (lent : List ℕ) (o : Own) where
  pub tried_few : (tried_on s st d b lent o).refused ≡ None → length b.entries.now ≤ 32
  unfolding tried_on prepare_ran M.batch_rows
  tried_few = go (first_of rows) refl
    where
      p : Preview
      p = beginning o.head (entries_in s o.place)

      was : D.Log ℕ
      was = view_of p.head p.entries (block_of st o)

      rows : List Row
      rows = M.batch_rows (identity_of d) (batch_of b lent) was

      go : (x : Option ℕ) → first_of rows ≡ x → (formed_by x p (block_of st o) (pointed_ran d b p.head.hard_state lent p (block_of st o))).refused ≡ None → length b.entries.now ≤ 32
      go (Some n) e z = absurd (none_some (sym z))
      go None e z = omega (arith, ltb-false 32 (length (entries_of b.entries.now lent)) (clear rows e).1.1.0, entries_count b.entries.now lent)

  -- And of a batch that is not refused every entry has an index of 64 bits.
  pub tried_fit : TriedReached s st d b lent o → (tried_on s st d b lent o).refused ≡ None → every M.fits_entry (entries_of b.entries.now lent) ≡ true
  unfolding tried_on prepare_ran pointed_ran entries_ran
  tried_fit k z = formed (first_of rows) refl z
    where
      p : Preview
      p = beginning o.head (entries_in s o.place)

      cs : List ℕ
      cs = block_of st o

      rows : List Row
      rows = M.batch_rows (identity_of d) (batch_of b lent) (view_of p.head p.entries cs)

      kept : Option HardState
      kept = p.head.hard_state

      x : Ran
      x = point_in (identity_of d) p b.snapshot cs

      y : Ran
      y = extend_over d b.entries.now lent x.preview x.bytes

      fit : Type 0
      fit = every M.fits_entry (entries_of b.entries.now lent) ≡ true

      supplied : Reached d b.entries.now lent x.preview x.bytes → (q : Option ℕ) → y.refused ≡ q
          → (onward q y (lastly_ran b.snapshot b.hard_state kept y.preview y.bytes)).refused ≡ None → fit
      supplied r (Some n) e z = absurd (none_some (sym z ∙ e))
      supplied r None e z = all_fit (identity_of d) (batch_of b lent) (view_of p.head p.entries cs) d lent b.entries.now x.preview x.bytes r e

      pointed : PointedReached d b lent p b.snapshot cs → (q : Option ℕ) → x.refused ≡ q
          → (onward q x (followed y (lastly_ran b.snapshot b.hard_state kept))).refused ≡ None → fit
      pointed r (Some n) e z = absurd (none_some (sym z ∙ e))
      pointed r None e z = supplied (r e) y.refused refl z

      formed : (q : Option ℕ) → first_of rows ≡ q → (formed_by q p cs (followed x (λ p' cs'. followed (extend_over d b.entries.now lent p' cs') (lastly_ran b.snapshot b.hard_state kept)))).refused ≡ None → fit
      formed (Some n) e z = absurd (none_some (sym z))
      formed None e z = pointed (k e) x.refused refl z
