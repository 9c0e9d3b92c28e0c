-- `prepare::apply_batch` meets its contract.
use mathlib.Core.Path.{ap, ◌∙◌}
use Rattle.ids.specs.Identity.{identity_of}
use Rattle.ids.specs.Refusal.{checked_of}
use Rattle.persistence.specs.Prepare.{entries_ran}
use Rattle.persistence.proofs.Pointed.{followed_out, followed_in, pointed_sits, reached_out, reached_in, pointed_is}
use Rattle.persistence.proofs.prepare.apply_batch.Goals as goal

pub returns-in_err-point_batch : goal.returns-in_err-point_batch
returns-in_err-point_batch c =
    let a = c.args in
    record {
      is =
          followed_out _ (entries_ran a.identity a.batch a.kept a.lent.now) c.point_batch.ensures c.in_err-point_batch.was _ c.from_residual.ensures.1
          ∙ pointed_is a.identity a.batch a.kept a.lent.now a.preview.now a.block.now;
      read = reached_out a.identity a.batch a.lent.now a.preview.now a.batch.snapshot a.block.now c.point_batch.ensures (ap checked_of c.in_err-point_batch.was);
    }

pub supply_batch-requires : goal.supply_batch-requires
supply_batch-requires c =
    let a = c.args in
    pointed_sits (identity_of a.identity) a.preview.now a.block.now c.requires a.batch.snapshot c.point_batch.ensures c.in_ok-point_batch.was

pub returns : goal.returns
returns c =
    let a = c.args in
    record {
      is =
          followed_in _ (entries_ran a.identity a.batch a.kept a.lent.now) c.point_batch.ensures c.in_ok-point_batch.was c.supply_batch.ensures.is
          ∙ pointed_is a.identity a.batch a.kept a.lent.now a.preview.now a.block.now;
      read = reached_in a.identity a.batch a.lent.now a.preview.now a.batch.snapshot a.block.now c.point_batch.ensures c.supply_batch.ensures.read;
    }
