-- `replica` meets its contract.
use mathlib.Core.Path.{sym, ◌∙◌}
use mathlib.Core.Bool.{true≢false}
use Rattle.readers.proofs.Sound.{replica_opened, reads_refused, refused_parts}
use Rattle.readers.proofs.replica.Goals as goal

pub returns-in_err-new : goal.returns-in_err-new
returns-in_err-new c =
    record {
      reads = reads_refused c.new.ensures c.in_err-new.was _ c.from_residual.ensures.0 c.from_residual.ensures.1 _;
      own = λ t. absurd (true≢false (sym t ∙ (refused_parts _ _ c.new.ensures c.in_err-new.was).0));
    }

pub returns : goal.returns
returns c = replica_opened c.new.ensures c.in_ok-new.was c.replica.ensures.means c.replica.ensures.own
