-- `Retrying`'s `write`: the writes that failed so far added no byte.
use Rattle.std.specs.Io.KnownBytes.{Keeps}
use Rattle.streams.proofs.RetryingWrite.write.Given as goal

abbrev pub invariant-loop : goal.invariant-loop
invariant-loop g l = Keeps (g.W.Write.contents l.initial.self.stream) (g.W.Write.contents l.self.stream)
