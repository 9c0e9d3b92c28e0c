-- What a header says of itself is what the definition reads of the replica.
-- Assumes nothing.
use Rattle.std.specs.Prelude.{Option}
use mathlib.Core.Path.{◌≡◌, refl, sym, ap, ◌∙◌}
use mathlib.Core.Bool.{Bool, true}
use mathlib.Core.List.{List}
use Prim.Native.Nat.{ℕ, ◌+◌, ◌*◌, ◌<◌}
use lib.ListN.{get_or}
use Rattle.definition.specs.Table.{◌=?◌}
use Rattle.definition.specs.Log as D
use Rattle.definition.specs.Recovery.{place_of, replica_of, minimum_recovery_lsn}
use Rattle.ids.specs.Identity.{identity_of}
use Rattle.ids.specs.declared.Lsn.{Lsn}
use Rattle.ids.specs.declared.RaftReplicaIdentity.{RaftReplicaIdentity}
use Rattle.store.proofs.Part.{get_d_part}
use Rattle.view.specs.declared.RecoveredRaftLogEntry.{RecoveredRaftLogEntry}
use Rattle.view.specs.Meaning.{lsn_of, no_entry, view_of}
use Rattle.view.specs.Readers.{first_index_of, last_index_of, boundary_of, first_retained_of}
use Rattle.view.proofs.Readers.{count_is, first_index_is, last_index_is, boundary_is}
use Rattle.storage.specs.declared.RecoveredRaftStorage.{RecoveredRaftStorage}
use Rattle.storage.specs.Model.{entries_in}
use Rattle.storage.specs.Meaning.{meaning}
use Rattle.readers.specs.declared.Own.{Own}
use Rattle.readers.specs.Own.{Passes, own_in, own_for, minimum_of}
use Rattle.readers.proofs.Owns.{Owns, owns}
use Rattle.readers.proofs.Readings.{retained_is, minimum_is}

-- The entry at place q of replica place p.
pub kept_is : (s : RecoveredRaftStorage) (p q : ℕ) → q < 64 → get_or s.entries (64 * p + q) no_entry ≡ get_or (entries_in s p) q no_entry
kept_is s p q l = sym (get_d_part (64 * p) 64 s.entries q no_entry l)

module _ {s : RecoveredRaftStorage} {st : List ℕ} (k : Passes s st true) (i : RaftReplicaIdentity) {o : Own} (e : o ≡ own_for s i) where
  abbrev w : Owns s st i o
  w = owns k refl e

  pub held_low : o.place < 8
  held_low = w.low

  pub held_head : o.head ≡ (own_in s i (place_of (identity_of i) (meaning s st).replicas)).head
  held_head = ap (λ (x : Own). x.head) w.stands

  pub held_count : {n : ℕ} → n ≡ o.head.len → n ≡ D.count (replica_of (identity_of i) (meaning s st))
  held_count h = h ∙ sym (count_is _ _ _) ∙ ap D.count w.view

  pub held_none : {b : Bool} → b ≡ (o.head.len =? 0) → b ≡ D.is_empty (replica_of (identity_of i) (meaning s st))
  held_none h = h ∙ ap (λ (n : ℕ). n =? 0) (sym (count_is _ _ _)) ∙ ap D.is_empty w.view

  pub held_first : {n : Option ℕ} → n ≡ first_index_of o.head → n ≡ D.first_index (replica_of (identity_of i) (meaning s st))
  held_first h = h ∙ sym (first_index_is _ _ _) ∙ ap D.first_index w.view

  pub held_last : {n : Option ℕ} → n ≡ last_index_of o.head → n ≡ D.last_index (replica_of (identity_of i) (meaning s st))
  held_last h = h ∙ sym (last_index_is _ _ _ w.indices) ∙ ap D.last_index w.view

  pub held_boundary : {b : Option (ℕ × ℕ)} → b ≡ boundary_of o.head → b ≡ D.snapshot_boundary (replica_of (identity_of i) (meaning s st))
  held_boundary h = h ∙ sym (boundary_is _ _ _) ∙ ap D.snapshot_boundary w.view

  pub held_commit : {n : ℕ} → n ≡ o.head.committed_index → n ≡ (replica_of (identity_of i) (meaning s st)).committed_index
  unfolding view_of
  held_commit h = h ∙ ap (λ (l : D.Log ℕ). l.committed_index) w.view

  pub held_replayed : {l : Option Lsn} → l ≡ o.head.last_replayed_lsn → lsn_of l ≡ (replica_of (identity_of i) (meaning s st)).last_replayed_lsn
  unfolding view_of
  held_replayed h = ap lsn_of h ∙ ap (λ (l : D.Log ℕ). l.last_replayed_lsn) w.view

  module _ {y : RecoveredRaftLogEntry} (f : y ≡ get_or (entries_in s o.place) 0 no_entry) (l : Option Lsn) where
    pub held_retained : l ≡ first_retained_of o.head y → lsn_of l ≡ D.first_retained_lsn (replica_of (identity_of i) (meaning s st))
    held_retained h = sym (retained_is _ _ _ f h) ∙ ap D.first_retained_lsn w.view

    pub held_minimum : lsn_of l ≡ minimum_of o.head y → lsn_of l ≡ minimum_recovery_lsn (replica_of (identity_of i) (meaning s st))
    held_minimum h = h ∙ sym (minimum_is _ _ _ f) ∙ ap minimum_recovery_lsn w.view
