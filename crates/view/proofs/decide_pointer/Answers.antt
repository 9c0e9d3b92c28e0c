-- `decide_pointer` meets its contract.
use Rattle.std.proofs.Common.{rules}
use Rattle.definition.proofs.Laws.{first_join}
use Rattle.view.proofs.decide_pointer.Goals as goal

pub returns-in_err-decide_successor : goal.returns-in_err-decide_successor
returns-in_err-decide_successor c = λ i. search (rules, first_join)
