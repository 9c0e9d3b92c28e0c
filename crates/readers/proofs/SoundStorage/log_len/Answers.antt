-- `SoundStorage::log_len` meets its contract.
use Rattle.std.proofs.Common.{rules}
use Rattle.readers.proofs.Held.{held_count}
use Rattle.readers.proofs.SoundStorage.log_len.Goals as goal

pub returns : goal.returns
returns c = search (rules, held_count)
