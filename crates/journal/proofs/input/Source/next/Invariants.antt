-- `Source::next`: what reads the pieces can be called again, and that a read failed is kept.
use Rattle.std.proofs.Common.{◌≡◌, Err}
use denote.Param.Always.{always_mut}
use Rattle.streams.specs.declared.Failed.TheVariants.{Input}
use Rattle.journal.proofs.input.Source.next.Given as goal

abbrev pub invariant-loop : goal.invariant-loop
invariant-loop g l =
    (always_mut g.F.FnMut l.initial.read → always_mut g.F.FnMut l.read)
    × (l.initial.self.outcome ≡ Err Input → l.self.outcome ≡ Err Input)
