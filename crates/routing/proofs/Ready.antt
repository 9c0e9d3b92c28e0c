-- A state that is linked to its store and sound but for the count of scanned records: what observing starts from and keeps.
-- Assumes nothing.
use Rattle.std.specs.Prelude.{Option, None, Err}
use mathlib.Core.Path.{◌≡◌, refl, ap, subst, ◌∙◌}
use mathlib.Core.Bool.{true, false}
use mathlib.Core.List.{List}
use Prim.Native.Nat.{ℕ, ◌<◌}
use native.Mathlib.Omega.{arith}
use lib.ListN.{length}
use Rattle.definition.specs.Table.{first_of, every, u64_max}
use Rattle.definition.specs.Records.{Kind, Content, form_rows}
use Rattle.definition.specs.Log.{Log, Answer}
use Rattle.definition.specs.Recovery.{Held, ascending, Out, State, sound_state}
use Rattle.definition.specs.Two.{fits_content}
use Rattle.definition.proofs.Sound.{sound_held, Steady, state_facts, steady_test, routed_steady, above_fact, new_each, new_ascends}
use Rattle.ids.specs.declared.RaftReplicaIdentity.{RaftReplicaIdentity}
use Rattle.ids.specs.Identity.{identity_of}
use Rattle.view.specs.Model.{empty_header}
use Rattle.storage.specs.declared.RecoveredRaftStorage.{RecoveredRaftStorage}
use Rattle.storage.specs.Model.{opened, opened_store}
use Rattle.storage.specs.Meaning.{meaning, Linked, Observes}
use Rattle.storage.proofs.Open.{open_linked}
use Rattle.storage.proofs.Place.{replicas_length, opened_put}
use Rattle.soundness.specs.Sound.{sound_test}
use Rattle.soundness.proofs.Sound.{linked_test, test_linked, test_state}
use Rattle.storage.proofs.Finding.{Told}
use Rattle.routing.proofs.Observe.{stale}

pub record Ready (s : RecoveredRaftStorage) (st : List ℕ) : Type 0 where
  pub linked : Linked s st
  pub ascends : ascending (meaning s st).replicas ≡ true
  pub each : every (sound_held (meaning s st).last_scanned_lsn) (meaning s st).replicas ≡ true

module _ (s : RecoveredRaftStorage) (st : List ℕ) where
  -- What passes the test of soundness.
  pub test_ready : length s.heads ≡ 8 → length s.entries ≡ 512 → sound_test s st ≡ true → Ready s st
  test_ready eight all e =
      let f = state_facts (meaning s st) (test_state s st eight all e) in
      record { linked = test_linked s st eight all e; ascends = f.ascends; each = f.each }

  module _ (k : Ready s st) where
    steady : Steady (meaning s st)
    steady = record { ascends = k.ascends; few = omega (arith, replicas_length s st, k.linked.few); each = k.each }

    -- And it passes, where the count leaves room.
    pub ready_sound : s.scan.scanned_records < u64_max → sound_state (meaning s st) ≡ true
    unfolding meaning
    ready_sound n = steady_test (meaning s st) steady n

    pub ready_test : s.scan.scanned_records < u64_max → sound_test s st ≡ true
    ready_test n = linked_test s st k.linked (ready_sound n)

    -- A record above the last scanned keeps it.
    pub observes_ready : (lsn : ℕ) (c : Content) (a : Answer) (s' : RecoveredRaftStorage) (st' : List ℕ) → stale s lsn ≡ false → fits_content c ≡ true
        → Observes s st lsn c a s' st' → Ready s' st'
    unfolding meaning
    observes_ready lsn c a s' st' q m o =
        let f : Steady (meaning s' st') =
        subst (λ (x : Out State). Steady x.next) o.means (routed_steady (meaning s st) lsn c steady (above_fact (meaning s st).last_scanned_lsn lsn q) m) in
        record { linked = o.linked; ascends = f.ascends; each = f.each }

    -- So does a place that is opened for a record of good form.
    module _ (p : ℕ) (i : RaftReplicaIdentity) (b : Kind) (form : first_of (form_rows (identity_of i) b) ≡ None) (t : Told s (identity_of i) (Err p)) (lt : s.held < 8) where
      abbrev s⁺ : RecoveredRaftStorage
      s⁺ = opened s p (empty_header i)

      abbrev st⁺ : List ℕ
      st⁺ = opened_store st p s.held

      same_last : (meaning s⁺ st⁺).last_scanned_lsn ≡ (meaning s st).last_scanned_lsn
      unfolding meaning
      same_last = refl

      pub opened_ready : Ready s⁺ st⁺
      opened_ready =
          let put_is = opened_put s st i p t.0 t.1 k.linked lt in
          let last : Option ℕ = (meaning s st).last_scanned_lsn in
          record {
            linked = open_linked s st p i k.linked t.0.within lt;
            ascends = ap (λ (l : List (Held (Log ℕ))). ascending l) put_is ∙ new_ascends (meaning s st).replicas (identity_of i) k.ascends;
            each =
                ap (λ (o : Option ℕ). every (sound_held o) (meaning s⁺ st⁺).replicas) same_last
                ∙ ap (λ (l : List (Held (Log ℕ))). every (sound_held last) l) put_is
                ∙ new_each last (meaning s st).replicas (identity_of i) b form k.each;
          }
