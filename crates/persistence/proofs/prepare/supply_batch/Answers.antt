-- `prepare::supply_batch` meets its contract.
use mathlib.Core.Path.{◌∙◌}
use Rattle.persistence.specs.Prepare.{lastly_ran}
use Rattle.persistence.proofs.Pointed.{followed_out, followed_in, entries_is}
use Rattle.persistence.proofs.prepare.supply_batch.Goals as goal

pub returns-in_err-extend : goal.returns-in_err-extend
returns-in_err-extend c =
    let a = c.args in
    record {
      is =
          followed_out _ (lastly_ran a.batch.snapshot a.batch.hard_state a.kept) c.extend.ensures.is c.in_err-extend.was _ c.from_residual.ensures.1
          ∙ entries_is a.identity a.batch a.kept a.lent.now a.preview.now a.block.now;
      read = c.extend.ensures.read;
    }

pub returns : goal.returns
returns c =
    let a = c.args in
    record {
      is =
          followed_in _ (lastly_ran a.batch.snapshot a.batch.hard_state a.kept) c.extend.ensures.is c.in_ok-extend.was (c.lastly.ensures _)
          ∙ entries_is a.identity a.batch a.kept a.lent.now a.preview.now a.block.now;
      read = c.extend.ensures.read;
    }
