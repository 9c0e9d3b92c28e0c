-- The lines of a batch by their parts, and how many lines `show` there are.
-- Assumes nothing.
use Rattle.std.specs.Prelude.{ℕ, Option}
use Rattle.fixed_vec.specs.declared.FixedVec.{FixedVec}
use Rattle.codec.specs.declared.HardState.{HardState}
use Rattle.codec.specs.declared.RaftSnapshotPointerRecord.{RaftSnapshotPointerRecord}
use Rattle.batches.specs.declared.BatchEntry.{BatchEntry}

pub record GivenLines : Type 0 where
  pub snapshot : Option RaftSnapshotPointerRecord
  pub entries : FixedVec BatchEntry 64
  pub hard_state : Option HardState
  pub shows : ℕ
