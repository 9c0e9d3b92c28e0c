-- `observing::observe_records` meets its contract.
use mathlib.Core.Path.{◌≡◌, refl, sym, ◌∙◌}
use native.Mathlib.Omega.{arith}
use Rattle.std.proofs.Common.{rules, length}
use Rattle.recovery.proofs.Chunking.{chunk_start, chunk_end, chunk_takes, chunk_refused}
use Rattle.recovery.proofs.observing.observe_records.Goals as goal

pub loop-r-init : goal.loop-r-init
loop-r-init c =
    let a = c.args in
    let eight : length a.state.heads ≡ 8 = search rules in
    let all : length a.state.entries ≡ 512 = search rules in
    (refl, chunk_start a.state a.store.now a.records.now a.lent.now eight all (sym c.is_sound.ensures ∙ c.if-not-is_sound.false))

pub observe_next-done-requires : goal.observe_next-done-requires
observe_next-done-requires c = c.loop-r.invariant.1.running.ready

pub returns-then-is_err : goal.returns-then-is_err
returns-then-is_err c =
    let a = c.args in
    let l = c.loop-r in
    rw l.invariant.0
    (chunk_refused a.state a.store.now a.records.now a.lent.now l.done.state l.store l.done.answer l.r-index l.invariant.1 c.loop-r-test.true _ _ _ _ c.observe_next-done.ensures.fits c.observe_next-done.ensures.model c.if-is_err.ensures.value)

pub overflow_add-done : goal.overflow_add-done
overflow_add-done c = rw c.loop-r.invariant.0 (search rules)

pub loop-r-preserved : goal.loop-r-preserved
loop-r-preserved c =
    let a = c.args in
    let l = c.loop-r in (
      omega (arith, l.invariant.0),
      chunk_takes a.state a.store.now a.records.now a.lent.now l.done.state l.store l.done.answer l.r-index l.invariant.1 c.loop-r-test.true _ _ _ _ c.observe_next-done.ensures.fits c.observe_next-done.ensures.model c.if-is_err.ensures.value,
    )

pub returns : goal.returns
returns c =
    let a = c.args in
    let l = c.loop-r in
    rw l.invariant.0 (chunk_end a.state a.store.now a.records.now a.lent.now l.done.state l.store l.done.answer l.r-index l.invariant.1 c.loop-r-test.false)
