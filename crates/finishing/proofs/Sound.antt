-- State and store together: what the definition's `finish` makes of them, and that they stay sound.
-- Assumes nothing.
use mathlib.Core.Path.{◌≡◌, sym, ap, ◌∙◌}
use mathlib.Core.Bool.{true}
use mathlib.Core.List.{List}
use Prim.Native.Nat.{ℕ}
use Rattle.definition.specs.Log.{finished}
use Rattle.definition.specs.Recovery.{Out, out, State, sound_state, Recovery, finish}
use Rattle.definition.proofs.Sound.{finish_is, sound_finish}
use Rattle.definition.proofs.Store.{laid, finish_laid}
use Rattle.storage.specs.declared.RecoveredRaftStorage.{RecoveredRaftStorage}
use Rattle.storage.specs.Model.{finished_storage}
use Rattle.storage.specs.Meaning.{meaning, recovery_of, Linked}
use Rattle.storage.proofs.Store.{recovery_laid}
use Rattle.storage.proofs.Finish.{finish_means, finish_linked}
use Rattle.soundness.specs.Sound.{sound_test}
use Rattle.soundness.proofs.Sound.{linked_test}

module _ (s : RecoveredRaftStorage) (st : List ℕ) (k : Linked s st) (e : sound_state (meaning s st) ≡ true) where
  pub finished_is : finish (recovery_of s st) ≡ out finished (recovery_of (finished_storage s) st)
  finished_is =
      ap finish (recovery_laid s st k) ∙ finish_laid (meaning s st)
      ∙ ap (λ (x : Out State). out x.answer (laid x.next)) (finish_is (meaning s st) e)
      ∙ ap (λ (t : State). out finished (laid t)) (sym (finish_means s st k))
      ∙ ap (λ (w : Recovery). out finished w) (sym (recovery_laid (finished_storage s) st (finish_linked s st k)))

  finished_state : sound_state (meaning (finished_storage s) st) ≡ true
  finished_state =
      ap sound_state (finish_means s st k) ∙ ap (λ (x : Out State). sound_state x.next) (sym (finish_is (meaning s st) e)) ∙ sound_finish (meaning s st) e

  pub finished_test : sound_test (finished_storage s) st ≡ true
  finished_test = linked_test (finished_storage s) st (finish_linked s st k) finished_state
