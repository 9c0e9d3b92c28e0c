-- `replicas_ok` meets its contract.
use Rattle.std.proofs.Common.{◌*◌, length, arith, refl, sym, ap, ◌∙◌}
use Rattle.store.specs.Zeros.{all_zero}
use Rattle.clauses.proofs.Laws.{tail_is}
use Rattle.soundness.proofs.Step.{replicas_end}
use Rattle.soundness.proofs.replicas_ok.Goals as goal

pub returns : goal.returns
returns c = c.is_zero.ensures ∙ ap all_zero (tail_is c.args.store.now (4096 * c.args.state.now.held) (length c.args.store.now) refl) ∙ sym (c.loop-p.invariant ∙ replicas_end _ _ _ _ _ _ (omega arith) (omega arith))
