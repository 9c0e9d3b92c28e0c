-- The meaning of a progress says which progress it is.
-- Assumes nothing.
use mathlib.Core.Path.{◌≡◌, ap}
use Rattle.definition.specs.Frontier as D
use Rattle.frontier.specs.declared.RaftProgress.{RaftProgress}
use Rattle.frontier.specs.Progress.{progress_of}

abbrev back : D.RaftProgress → RaftProgress
back p =
    record {
      truncated_through_index = p.truncated_through_index;
      truncated_through_term = p.truncated_through_term;
      applied_index = p.applied_index;
    }

pub progress_of_injective : (p q : RaftProgress) → progress_of p ≡ progress_of q → p ≡ q
progress_of_injective p q e = ap back e
