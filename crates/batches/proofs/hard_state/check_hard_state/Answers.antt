-- `check_hard_state` meets its contract.
use Rattle.std.proofs.Common.{rules}
use Rattle.batches.proofs.Joins.{hard_join}
use Rattle.batches.proofs.hard_state.check_hard_state.Goals as goal

pub returns-in_err-reaches_pointer : goal.returns-in_err-reaches_pointer
returns-in_err-reaches_pointer c = search (rules, hard_join)
