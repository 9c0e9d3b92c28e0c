-- The largest term as a fold over the entries.
-- Assumes nothing.
use Rattle.std.specs.Prelude.{◌≡◌, List, [], ◌∷◌, ℕ, max, fold}
use Rattle.std.proofs.Common.{arith, ◌∙◌}
use Rattle.view.specs.declared.RecoveredRaftLogEntry.{RecoveredRaftLogEntry}
use Rattle.view.specs.Model.{largest_of}

pub fold_largest : (m : ℕ) (es : List RecoveredRaftLogEntry) → fold (λ m e. max m e.term) m es ≡ max m (largest_of es)
fold_largest m [] = omega arith
fold_largest m (e ∷ es) = fold_largest (max m e.term) es ∙ omega arith
