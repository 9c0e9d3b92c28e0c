-- What a reader answers, where state and store are sound and where they are not.
-- Assumes nothing.
use Rattle.std.specs.Prelude.{Result, Ok}
use mathlib.Core.Path.{◌≡◌, sym, ◌∙◌}
use mathlib.Core.Bool.{Bool, true, false, true≢false}
use mathlib.Core.List.{List}
use Prim.Native.Nat.{ℕ, ◌≤◌}
use borrow.Author.Tests.{leb-true}
use Rattle.definition.specs.Recovery.{State, sound}
use Rattle.definition.proofs.Laws.{all_facts}
use Rattle.definition.proofs.Store.{ask_sound}
use Rattle.storage.specs.declared.RecoveredRaftStorage.{RecoveredRaftStorage}
use Rattle.storage.specs.Meaning.{meaning, recovery_of}
use Rattle.soundness.specs.Sound.{sound_clauses, sound_test}
use Rattle.soundness.proofs.Sound.{test_sound}
use Rattle.readers.specs.Own.{Passes}
use Rattle.readers.specs.Reads.{Reads}

pub reads_whole : {A : Type 0} {s : RecoveredRaftStorage} {st : List ℕ} {f : State → A} {r : Result A ℕ} → sound_test s st ≡ true → sound (recovery_of s st) ≡ true
    → Ok (f (meaning s st)) ≡ r → Reads s st f r
reads_whole {s = s} {st = st} {f = f} t w e =
    record {
      means = λ t'. ask_sound f (recovery_of s st) w ∙ e;
      refused = λ t'. absurd (true≢false (sym t ∙ t'));
      unsound = λ u. absurd (true≢false (sym w ∙ u));
    }

-- What the code's test says.
module _ {s : RecoveredRaftStorage} {st : List ℕ} {b : Bool} (k : Passes s st b) where
  pub test_passed : b ≡ true → sound_test s st ≡ true
  test_passed q = sym k.test ∙ q

  pub test_failed : b ≡ false → sound_test s st ≡ false
  test_failed q = sym k.test ∙ q

  pub whole : b ≡ true → sound (recovery_of s st) ≡ true
  whole q = (test_sound s st k.eight k.all (test_passed q)).whole

  pub few_held : b ≡ true → s.held ≤ 8
  unfolding sound_clauses
  few_held q = leb-true s.held 8 (all_facts (sound_clauses s st) (test_passed q)).1.0

  pub reads_sound : {A : Type 0} {f : State → A} {r : Result A ℕ} → b ≡ true → Ok (f (meaning s st)) ≡ r → Reads s st f r
  reads_sound q e = reads_whole (test_passed q) (whole q) e
