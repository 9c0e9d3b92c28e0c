-- `heads_rise` meets its contract. The invariant: what is asked of all is what is asked of the rest.
use Rattle.std.proofs.Common.{◌≡◌, ◌-◌}
use Rattle.soundness.specs.Sound.{heads_rise}
use Rattle.soundness.proofs.Step.{heads_left}
use Rattle.soundness.proofs.heads_rise.Given as goal

abbrev pub invariant-loop-i : goal.invariant-loop-i
invariant-loop-i l = heads_rise l.state.held l.state.heads ≡ heads_left l.state.held l.state.heads (l.i - 1)
