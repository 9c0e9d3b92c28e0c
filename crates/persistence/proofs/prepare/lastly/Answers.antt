-- `prepare::lastly` meets its contract.
use mathlib.Core.Path.{◌∙◌}
use Rattle.persistence.specs.Prepare.{conclude_ran}
use Rattle.persistence.proofs.Pointed.{followed_out, followed_in, concluded_is, lastly_is}
use Rattle.persistence.proofs.prepare.lastly.Goals as goal

pub returns-in_err-harden_batch : goal.returns-in_err-harden_batch
returns-in_err-harden_batch c cs =
    let a = c.args in
    followed_out _ (conclude_ran a.hard_state a.kept) (c.harden_batch.ensures cs) c.in_err-harden_batch.was _ c.from_residual.ensures.1
    ∙ lastly_is a.snapshot a.hard_state a.kept a.preview.now cs

pub returns : goal.returns
returns c cs =
    let a = c.args in
    followed_in _ (conclude_ran a.hard_state a.kept) (c.harden_batch.ensures cs) c.in_ok-harden_batch.was
    (concluded_is a.hard_state a.kept c.harden_batch.new.preview c.conclude.result c.conclude.ensures cs)
    ∙ lastly_is a.snapshot a.hard_state a.kept a.preview.now cs
