-- `finish_all` meets its contract. The invariant: the first j replicas are finished.
use Rattle.finishing.proofs.Finishes.{Finishing}
use Rattle.finishing.proofs.finish_all.Given as goal

abbrev pub invariant-loop-j : goal.invariant-loop-j
invariant-loop-j l = Finishing l.initial.t l.t l.j
