-- `SoundStorage::log_is_empty` meets its contract.
use Rattle.std.proofs.Common.{rules}
use Rattle.readers.proofs.Held.{held_none}
use Rattle.readers.proofs.SoundStorage.log_is_empty.Goals as goal

pub returns : goal.returns
returns c = search (rules, held_none)
