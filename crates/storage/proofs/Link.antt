-- Each change of the model at a replica, by what the definition makes of it.
-- Assumes nothing.
use mathlib.Core.Path.{◌≡◌, refl}
use mathlib.Core.List.{List}
use Prim.Native.Nat.{ℕ, ◌<◌}
use Rattle.view.proofs.Tab.{tab_set}
use Rattle.storage.specs.declared.Scan.{Scan}
use Rattle.storage.specs.declared.RecoveredRaftStorage.{RecoveredRaftStorage}
use Rattle.storage.specs.Model.{scanned_only}
use Rattle.storage.specs.Meaning.{held_at, meaning, Linked, Step}

-- The scan says nothing of the places.
pub scanned_linked : (s : RecoveredRaftStorage) (st : List ℕ) → Linked s st → (n : Scan) → Linked (scanned_only s n) st
scanned_linked s st k n = record { eight = k.eight; all = k.all; size = k.size; few = k.few; own = k.own; free = k.free }

pub scanned_replicas : (s : RecoveredRaftStorage) (st : List ℕ) (n : Scan) → (meaning (scanned_only s n) st).replicas ≡ (meaning s st).replicas
unfolding meaning
scanned_replicas s st n = refl

module _ (s : RecoveredRaftStorage) (st : List ℕ) (p : ℕ) (k : Linked s st) (lt : p < s.held) where
  -- Nothing but the scan.
  pub still_step : (n : Scan) → Step s st p (held_at s st p) (scanned_only s n) st
  unfolding meaning
  still_step n =
      record {
        means = tab_set s.held p (held_at s st) (held_at s st) lt (λ j l ne. refl);
        linked = scanned_linked s st k n;
      }
