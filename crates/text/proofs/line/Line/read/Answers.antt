-- `text::line::Line::read` meets its contract.
use Rattle.std.proofs.Common.{rules, ◌≡◌, ◌∙◌, refl, sym, ap, take, arith}
use Rattle.text.specs.Line.{fed, piece}
use Rattle.text.proofs.Lines.{piece_is, first_field, next_field, last_field}
use Rattle.text.proofs.line.Line.read.Goals as goal

pub loop-n-init : goal.loop-n-init
loop-n-init c =
    let p : piece c.args.bytes.now ≡ take c.unwrap_or.result c.args.bytes.now = rw (c.unwrap_or.ensures, c.newline_at-end.ensures) (sym (piece_is c.args.bytes.now)) in
    (ap (fed c.args.self.now) p ∙ first_field c.args.self.now _ c.extend-n.ensures.line c.extend-n.ensures.end, c.extend-n.ensures.end, search rules)

pub loop-n-preserved : goal.loop-n-preserved
loop-n-preserved c =
    let i = c.loop-n.invariant in
    let e = c.extend-n-in-loop-n.ensures in
    (i.0 ∙ next_field c.loop-n.self c.loop-n.rest.now c.loop-n.n i.1 c.loop-n-test.true refl c.close.ensures e.line e.end, e.end, search rules)

pub returns-clause-line : goal.returns-clause-line
returns-clause-line c =
    let i = c.loop-n.invariant in
    sym (i.0 ∙ last_field c.loop-n.self c.loop-n.rest.now c.loop-n.n (omega (arith, c.loop-n-test.false)))
