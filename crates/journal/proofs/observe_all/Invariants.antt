-- `journal::observe_all`: so many records were read and observed, all accepted; each turn but the last reads one.
use Rattle.std.proofs.Common.{◌≡◌, ◌-◌, ◌≤◌}
use Rattle.store.specs.Zeros.{zeros}
use Rattle.journal.specs.Recovered.{Follows}
use Rattle.journal.proofs.observe_all.Given as goal

abbrev pub invariant-loop-done : goal.invariant-loop-done
invariant-loop-done l = (l.done ≤ l.most) × (l.initial.store ≡ zeros 32768 → Follows l.done l.state l.store)

abbrev pub decreases-loop-done : goal.decreases-loop-done
decreases-loop-done l = l.most - l.done
