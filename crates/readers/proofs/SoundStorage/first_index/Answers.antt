-- `SoundStorage::first_index` meets its contract.
use Rattle.std.proofs.Common.{rules}
use Rattle.readers.proofs.Held.{held_first}
use Rattle.readers.proofs.SoundStorage.first_index.Goals as goal

pub returns : goal.returns
returns c = search (rules, held_first)
