-- `replicas_ok` meets its contract. The invariant: what is asked of all is what is asked of the rest.
use Rattle.std.proofs.Common.{◌≡◌}
use Rattle.view.specs.Meaning.{lsn_of}
use Rattle.soundness.specs.Sound.{replicas_ok}
use Rattle.soundness.proofs.Step.{replicas_left}
use Rattle.soundness.proofs.replicas_ok.Given as goal

abbrev pub invariant-loop-p : goal.invariant-loop-p
invariant-loop-p l =
    let last = lsn_of l.state.scan.last_scanned_lsn in
    replicas_ok last l.state.held l.state.heads l.state.entries l.store ≡ replicas_left last l.state.held l.state.heads l.state.entries l.store l.p
