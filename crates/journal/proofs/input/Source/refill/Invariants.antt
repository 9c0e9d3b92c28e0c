-- `journal::input::Source::refill` ends: each turn but the last puts a byte into the buffer.
use Rattle.std.proofs.Common.{length, ◌-◌}
use Rattle.journal.proofs.input.Source.refill.Given as goal

abbrev pub decreases-loop-self : goal.decreases-loop-self
decreases-loop-self l = length l.self.buffer.now - l.self.len
