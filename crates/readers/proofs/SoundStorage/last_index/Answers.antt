-- `SoundStorage::last_index` meets its contract.
use Rattle.std.proofs.Common.{rules}
use Rattle.readers.proofs.Held.{held_last}
use Rattle.readers.proofs.SoundStorage.last_index.Goals as goal

pub returns : goal.returns
returns c = search (rules, held_last)
