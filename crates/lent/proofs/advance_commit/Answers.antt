-- `advance_commit` meets its contract.
use Rattle.lent.proofs.Commit.{advances}
use Rattle.lent.proofs.advance_commit.Goals as goal

pub returns : goal.returns
returns c = advances c.args.header.now c.args.commit c.check_commit-answer.result c.check_commit-answer.ensures c.advanced.result c.advanced.ensures
