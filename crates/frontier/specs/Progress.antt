-- What a progress of the code means.
-- Assumes nothing.
use Rattle.definition.specs.Frontier as D
use Rattle.frontier.specs.declared.RaftProgress.{RaftProgress}

abbrev pub progress_of : RaftProgress → D.RaftProgress
progress_of p =
    record {
      truncated_through_index = p.truncated_through_index;
      truncated_through_term = p.truncated_through_term;
      applied_index = p.applied_index;
    }
