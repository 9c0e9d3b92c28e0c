-- `extend` meets its contract.
use native.Mathlib.Omega.{arith}
use mathlib.Core.Path.{◌≡◌, sym, ap, ◌∙◌}
use Rattle.preview.specs.Preview.{within, spot_of}
use Rattle.preview.proofs.Running.{spot_found, spot_missing, run_end, run_formed, run_takes, run_refused, run_next}
use Rattle.preview.proofs.extend.Goals as goal
use Rattle.preview.proofs.extend.Goals.{else-loop-k-test, then-loop-k-test+then-holds}

pub take_entry-requires : goal.take_entry-requires
take_entry-requires c =
    let h = c.batch.preview.head in
    let x = c.record-r.result.index in
    let spot : c.place_within.result ≡ spot_of h x =
    c.place_within.ensures
    ∙ (elim c.loop-k-test.branch [
      | else-loop-k-test w ↦ ap within w.q-is ∙ spot_missing h x c.loop-k.q c.loop-k.k c.loop-k.invariant.0 w.loop-k-test.false c.loop-k.invariant.1
      | then-loop-k-test+then-holds w ↦ ap within w.q-is ∙ spot_found h x c.loop-k.k c.batch.invariant.sits.fits.short w.loop-k-test.true (sym w.holds.ensures ∙ w.if-holds.true)
    ])
    in
    run_takes c.args.identity c.args.entries.now c.args.lent.now c.args.preview.now c.args.block.now c.batch.preview c.batch.block c.batch.answer-1 c.batch.entry-index c.batch.invariant
    c.batch-test.true c.record-r.result c.record-r.ensures (omega (arith, c.record-r.type_inv)) c.check_entry.result c.check_entry.ensures c.in_default.is c.place_within.result spot

pub batch-preserved : goal.batch-preserved
batch-preserved c =
    let h = c.batch.preview.head in
    let x = c.record-r.result.index in
    let spot : c.place_within.result ≡ spot_of h x =
    c.place_within.ensures
    ∙ (elim c.loop-k-test.branch [
      | else-loop-k-test w ↦ ap within w.q-is ∙ spot_missing h x c.loop-k.q c.loop-k.k c.loop-k.invariant.0 w.loop-k-test.false c.loop-k.invariant.1
      | then-loop-k-test+then-holds w ↦ ap within w.q-is ∙ spot_found h x c.loop-k.k c.batch.invariant.sits.fits.short w.loop-k-test.true (sym w.holds.ensures ∙ w.if-holds.true)
    ])
    in
    run_next c.args.identity c.args.entries.now c.args.lent.now c.args.preview.now c.args.block.now c.batch.preview c.batch.block c.batch.answer-1 c.batch.entry-index c.batch.invariant
    c.batch-test.true c.record-r.result c.record-r.ensures (omega (arith, c.record-r.type_inv)) c.check_entry.result c.check_entry.ensures c.in_default.is c.place_within.result spot
    c.take_entry.result _ _ c.take_entry.ensures c.in_default-take_entry.is

pub returns-after-batch : goal.returns-after-batch
returns-after-batch c = run_end c.args.identity c.args.entries.now c.args.lent.now c.args.preview.now c.args.block.now c.batch.preview c.batch.block c.batch.answer-1 c.batch.entry-index c.batch.invariant c.batch-test.false

pub returns-in-Err : goal.returns-in-Err
returns-in-Err c = run_formed c.args.identity c.args.entries.now c.args.lent.now c.args.preview.now c.args.block.now c.batch.preview c.batch.block c.batch.answer-1 c.batch.entry-index c.batch.invariant
    c.batch-test.true c.record-r.result c.record-r.ensures (omega (arith, c.record-r.type_inv)) c.check_entry.result c.check_entry.ensures _ c.in-Err.is

pub returns-in-Err-take_entry : goal.returns-in-Err-take_entry
returns-in-Err-take_entry c =
    let h = c.batch.preview.head in
    let x = c.record-r.result.index in
    let spot : c.place_within.result ≡ spot_of h x =
    c.place_within.ensures
    ∙ (elim c.loop-k-test.branch [
      | else-loop-k-test w ↦ ap within w.q-is ∙ spot_missing h x c.loop-k.q c.loop-k.k c.loop-k.invariant.0 w.loop-k-test.false c.loop-k.invariant.1
      | then-loop-k-test+then-holds w ↦ ap within w.q-is ∙ spot_found h x c.loop-k.k c.batch.invariant.sits.fits.short w.loop-k-test.true (sym w.holds.ensures ∙ w.if-holds.true)
    ])
    in
    run_refused c.args.identity c.args.entries.now c.args.lent.now c.args.preview.now c.args.block.now c.batch.preview c.batch.block c.batch.answer-1 c.batch.entry-index c.batch.invariant
    c.batch-test.true c.record-r.result c.record-r.ensures (omega (arith, c.record-r.type_inv)) c.check_entry.result c.check_entry.ensures c.in_default.is c.place_within.result spot
    c.take_entry.result _ _ c.take_entry.ensures _ c.in-Err-take_entry.is
