-- A fresh state over a zeroed store means the definition's fresh one, and passes the test of soundness.
-- Assumes nothing.
use mathlib.Core.Path.{◌≡◌, refl, ap, ◌∙◌}
use mathlib.Core.Bool.{true}
use mathlib.Core.List.{List}
use Prim.Native.Nat.{ℕ, ◌*◌}
use native.Mathlib.Omega.{arith}
use lib.ListN.{replicate, length-replicate}
use Rattle.definition.specs.Recovery.{State, fresh_state, sound_state, fresh}
use Rattle.definition.proofs.Sound.{fresh_sound}
use Rattle.store.specs.Zeros.{zeros}
use Rattle.store.proofs.Zeros.{length_zeros, part_zeros}
use Rattle.view.specs.Tab.{tab}
use Rattle.view.specs.Meaning.{no_entry}
use Rattle.storage.specs.Model.{no_header, fresh_storage}
use Rattle.storage.specs.Meaning.{meaning, recovery_of, Linked}
use Rattle.soundness.specs.Sound.{sound_test}
use Rattle.soundness.proofs.Sound.{linked_test}

pub fresh_means : (st : List ℕ) → meaning fresh_storage st ≡ fresh_state
unfolding meaning fresh_state tab
fresh_means st = refl

pub fresh_recovery : recovery_of fresh_storage (zeros 32768) ≡ fresh
unfolding fresh zeros
fresh_recovery = ap (λ (s : State). record { state = s; store = replicate 32768 0 }) (fresh_means (zeros 32768))

pub fresh_linked : Linked fresh_storage (zeros 32768)
fresh_linked =
    record {
      eight = length-replicate 8 no_header;
      all = length-replicate 512 no_entry;
      size = length_zeros 32768;
      few = omega arith;
      own = λ p l. absurd (omega arith);
      free = λ p l l'. part_zeros 32768 (4096 * p) 4096 (omega arith);
    }

pub fresh_test : sound_test fresh_storage (zeros 32768) ≡ true
fresh_test = linked_test fresh_storage (zeros 32768) fresh_linked (ap sound_state (fresh_means (zeros 32768)) ∙ fresh_sound)
