-- `entries_ok` meets its contract.
use Rattle.std.proofs.Common.{◌*◌, length, arith, refl, sym, ap, ◌∙◌}
use Rattle.store.specs.Zeros.{all_zero}
use Rattle.clauses.proofs.Laws.{tail_is}
use Rattle.soundness.proofs.Step.{entries_end}
use Rattle.soundness.proofs.entries_ok.Goals as goal

pub returns : goal.returns
returns c = c.is_zero.ensures ∙ ap all_zero (tail_is c.args.block.now (64 * length c.args.entries.now) (length c.args.block.now) refl) ∙ sym (c.loop-q.invariant ∙ entries_end _ _ _ _ _ (omega arith) (omega arith))
