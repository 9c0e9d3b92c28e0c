-- `replica_at` meets its contract.
use mathlib.Core.Path.{sym, ◌∙◌}
use mathlib.Core.Bool.{true≢false}
use Rattle.readers.proofs.Sound.{place_opened, reads_refused, refused_parts}
use Rattle.readers.proofs.replica_at.Goals as goal

pub returns-in_err-new : goal.returns-in_err-new
returns-in_err-new c =
    record {
      reads = reads_refused c.new.ensures c.in_err-new.was _ c.from_residual.ensures.0 c.from_residual.ensures.1 _;
      own = λ t. absurd (true≢false (sym t ∙ (refused_parts _ _ c.new.ensures c.in_err-new.was).0));
    }

pub returns : goal.returns
returns c = place_opened c.new.ensures c.in_ok-new.was c.replica_at.ensures.means c.replica_at.ensures.own
