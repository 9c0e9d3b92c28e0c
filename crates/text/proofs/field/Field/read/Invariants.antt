-- `text::field::Field::read` meets its contract. The invariant: what is asked of the whole is what is asked of the rest.
use Rattle.std.proofs.Common.{◌≡◌, ◌+◌, drop, length}
use Rattle.text.specs.Field.{up_to_space, fed_field}
use Rattle.text.proofs.field.Field.read.Given as goal

abbrev pub invariant-loop-b : goal.invariant-loop-b
invariant-loop-b l =
    (fed_field l.initial.self (up_to_space l.bytes) ≡ fed_field (record { len = l.len; word = l.self.word; number = l.number }) (up_to_space (drop l.b-index l.bytes)))
    × (length (up_to_space l.bytes) ≡ l.taken + length (up_to_space (drop l.b-index l.bytes)))
    × (l.taken ≡ l.b-index)
