-- `text::field::Sum::read` meets its contract. The invariant: what is asked of the whole is what is asked of the rest.
use Rattle.std.proofs.Common.{◌≡◌, drop}
use Rattle.text.specs.Field.{fed_sum}
use Rattle.text.proofs.field.Sum.read.Given as goal

abbrev pub invariant-loop-b : goal.invariant-loop-b
invariant-loop-b l = fed_sum l.initial.self l.bytes ≡ fed_sum l.self (drop l.b-index l.bytes)
