-- `observe_all` ends.
use Rattle.std.proofs.Common.{◌-◌, ◌≤◌}
use Rattle.steps.proofs.observe_all.Given as goal

abbrev pub invariant-loop-done : goal.invariant-loop-done
invariant-loop-done l = l.done ≤ l.initial.most

abbrev pub decreases-loop-done : goal.decreases-loop-done
decreases-loop-done l = l.initial.most - l.done
