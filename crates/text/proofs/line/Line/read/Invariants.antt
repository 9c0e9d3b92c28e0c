-- `text::line::Line::read` meets its contract. The invariant: what is asked of the whole is what is asked of the rest.
use Rattle.std.proofs.Common.{◌≡◌, ◌≤◌, length, drop}
use Rattle.text.specs.Field.{up_to_space}
use Rattle.text.specs.Line.{fed, piece}
use Rattle.text.proofs.line.Line.read.Given as goal

abbrev pub invariant-loop-n : goal.invariant-loop-n
invariant-loop-n l =
    (fed l.fn.self (piece l.bytes) ≡ fed l.self (drop l.n l.rest))
    × (l.n ≡ length (up_to_space l.rest))
    × (length l.rest ≤ length l.bytes)

abbrev pub decreases-loop-n : goal.decreases-loop-n
decreases-loop-n l = length l.rest
