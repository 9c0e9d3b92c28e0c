-- `text::command::Command::read` meets its contract. The invariant: what is asked of the whole is what is asked of the rest.
use Rattle.std.proofs.Common.{◌≡◌, drop}
use Rattle.text.specs.Command.{fed_command, fed_out}
use Rattle.text.proofs.command.Command.read.Given as goal

abbrev pub invariant-loop-b : goal.invariant-loop-b
invariant-loop-b l = (fed_command l.initial.self l.b-items ≡ fed_command l.self (drop l.b-index l.b-items)) × (fed_out l.initial.out 0 l.initial.self l.b-items ≡ fed_out l.out 0 l.self (drop l.b-index l.b-items))
