-- `SoundStorage::replica` meets its contract.
use Rattle.std.proofs.Common.{rules}
use Rattle.readers.proofs.Held.{held_head}
use Rattle.readers.proofs.SoundStorage.replica.Goals as goal

pub returns-clause-own : goal.returns-clause-own
returns-clause-own c = search (rules, held_head)
