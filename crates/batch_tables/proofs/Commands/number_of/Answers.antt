-- `Commands::number_of` meets its contract: what is asked of all commands is what is asked of those from i on.
use Rattle.std.proofs.Common.{arith, sym, ◌∙◌}
use Rattle.batch_tables.proofs.Search.{found, next, missing}
use Rattle.batch_tables.proofs.Commands.number_of.Goals as goal

pub returns-then-eq : goal.returns-then-eq
returns-then-eq c =
    let same = rw (c.part.ensures.bytes, c.part-wanted.ensures.bytes) at (sym c.eq.ensures ∙ c.if-eq.true) in
    rw (← c.self.view_is) (sym (c.loop-i.invariant ∙ found _ _ _ _ _ (omega arith) same))

pub loop-i-preserved : goal.loop-i-preserved
loop-i-preserved c =
    let other = rw (c.part.ensures.bytes, c.part-wanted.ensures.bytes) at (sym c.eq.ensures ∙ c.if-eq.false) in
    c.loop-i.invariant ∙ next _ _ _ _ _ (omega arith) other

pub returns : goal.returns
returns c = rw (← c.self.view_is) (sym (c.loop-i.invariant ∙ missing _ _ _ _ _ (omega arith)))
