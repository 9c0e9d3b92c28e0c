-- The records of a chunk, and whether the line behind them cannot be read.
-- Assumes nothing.
use Rattle.std.specs.Prelude.{Bool}
use Rattle.fixed_vec.specs.declared.FixedVec.{FixedVec}
use Rattle.codec.specs.declared.WalRecord.{WalRecord}

pub record ReadRecords : Type 0 where
  pub records : FixedVec WalRecord 256
  pub bad : Bool
