-- `stands_at` meets its contract.
use Rattle.std.proofs.Common.{arith, rules}
use Rattle.ids.specs.Identity.{identity_of}
use Rattle.storage.proofs.Finding.{first_stands}
use Rattle.storage.proofs.RecoveredRaftStorage.stands_at.Goals as goal

pub returns : goal.returns
returns c = search (rules, first_stands (identity_of c.args.identity) c.args.self.now.held c.args.self.now.heads (omega arith))
