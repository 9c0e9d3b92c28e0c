-- `SoundStorage::snapshot_boundary` meets its contract.
use Rattle.std.proofs.Common.{rules}
use Rattle.readers.proofs.Held.{held_boundary}
use Rattle.readers.proofs.SoundStorage.snapshot_boundary.Goals as goal

pub returns : goal.returns
returns c = search (rules, held_boundary)
