-- `SoundStorage::committed_index` meets its contract.
use Rattle.std.proofs.Common.{rules}
use Rattle.readers.proofs.Held.{held_commit}
use Rattle.readers.proofs.SoundStorage.committed_index.Goals as goal

pub returns : goal.returns
returns c = search (rules, held_commit)
