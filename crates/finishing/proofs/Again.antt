-- Finishing twice is finishing once, of the program (document 02, Q-5).
-- Assumes nothing.
use Rattle.std.specs.Prelude.{Ok}
use mathlib.Core.Path.{◌≡◌, refl, sym, ap, ◌∙◌}
use mathlib.Core.Bool.{Bool, true, false, cond}
use mathlib.Core.List.{List}
use Prim.Native.Nat.{ℕ}
use Rattle.storage.specs.declared.RecoveredRaftStorage.{RecoveredRaftStorage}
use Rattle.storage.proofs.Finish.{finish_again}
use Rattle.soundness.specs.Sound.{sound_test}
use Rattle.finishing.specs.declared.Finished.{Finished}
use Rattle.finishing.specs.Finishes.{finished_done, unsound_done, Finishes, FinishesTwice}

-- What a call answers and leaves, by whether state and store are sound.
is : (s : RecoveredRaftStorage) (st : List ℕ) (d : Finished) (b : Bool) → Finishes s st d → sound_test s st ≡ b → d ≡ cond b (finished_done s) (unsound_done s)
is s st d b f x = f.model ∙ ap (λ (c : Bool). cond c (finished_done s) (unsound_done s)) x

pub finishes_twice : FinishesTwice
finishes_twice s st d e f g = go (sound_test s st) refl
  where
    go : (b : Bool) → sound_test s st ≡ b → e ≡ d
    go true x =
        is d.state st e true g (f.stays x)
        ∙ ap (λ (r : Finished). finished_done r.state) (is s st d true f x)
        ∙ ap (λ (t : RecoveredRaftStorage). record { answer = (Ok tt); state = t }) (finish_again s)
        ∙ sym (is s st d true f x)
    go false x =
        is d.state st e false g (ap (λ (t : RecoveredRaftStorage). sound_test t st) (f.kept x) ∙ x)
        ∙ ap unsound_done (f.kept x)
        ∙ sym (is s st d false f x)
