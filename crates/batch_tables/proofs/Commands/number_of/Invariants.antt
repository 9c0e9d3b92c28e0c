-- `Commands::number_of` meets its contract. The invariant: what is asked of all commands is what is asked of those from i on.
use Rattle.std.proofs.Common.{◌≡◌, take, drop}
use Rattle.text.specs.Record.{at_most256, commands_in}
use Rattle.batch_tables.specs.Lines.{least_number}
use Rattle.batch_tables.proofs.Search.{rest}
use Rattle.batch_tables.proofs.Commands.number_of.Given as goal

abbrev pub invariant-loop-i : goal.invariant-loop-i
invariant-loop-i l =
    least_number (commands_in l.self-inside.count l.self-inside.lens.now l.self-inside.lent.now) (take l.len (drop l.place l.self-inside.lent.now))
    ≡ rest (at_most256 l.self-inside.count) l.self-inside.lens.now l.self-inside.lent.now (take l.len (drop l.place l.self-inside.lent.now)) l.i
