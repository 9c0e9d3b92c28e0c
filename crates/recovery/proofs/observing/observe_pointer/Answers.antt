-- `observing::observe_pointer` meets its contract.
use mathlib.Core.Path.{sym, ap, ◌∙◌}
use native.Mathlib.Omega.{arith}
use native.Mathlib.Nat.{add-sub_cancel_left}
use borrow.Rule.Slice.PartMut.{put_mid}
use Rattle.std.proofs.Common.{Result, Err, ◌+◌, ◌*◌, ◌-◌}
use Rattle.std.proofs.lemmas.Result.{err_from_is_err_and}
use Rattle.ids.specs.declared.Refusal.{Refusal}
use Rattle.replay.specs.declared.Observation.{Observation}
use Rattle.replay.specs.Plan.{answer_of}
use Rattle.recovery.proofs.Arms.{pointer_refused, pointer_shorter, pointer_stays, pointer_fits, pointer_moves}
use Rattle.recovery.proofs.observing.observe_pointer.Goals as goal

pub returns-in_err-after : goal.returns-in_err-after
returns-in_err-after c =
    let a = c.args in
    let k = c.requires in
    let e = err_from_is_err_and _ c.from_residual.ensures.1 in
    pointer_refused a.t.now a.store.now a.p a.pointer a.lsn _ c.look.ensures.place _ c.install_snapshot.new.block c.install_snapshot.ensures c.install_snapshot.auto.block k.linked k.below _ c.in_err-after.was
    ∙ ap (λ (y : Result Observation Refusal). record { answer = answer_of y; state = a.t.now; store = put_mid (4096 * a.p) (4096 * a.p + 4096 - 4096 * a.p) a.store.now c.install_snapshot.new.block }) (sym (e.1 ∙ ap Err e.2))

pub overflow_sub-dropped : goal.overflow_sub-dropped
overflow_sub-dropped c =
    let a = c.args in
    let k = c.requires in
    pointer_shorter a.t.now a.store.now a.p a.pointer a.lsn _ c.look.ensures.place _ c.install_snapshot.new.block c.install_snapshot.ensures c.install_snapshot.auto.block k.linked k.below _ c.in_ok-after.was

pub overflow_add-from : goal.overflow_add-from
overflow_add-from c =
    let a = c.args in
    let k = c.requires in
    omega (arith, pointer_fits a.t.now a.store.now a.p a.pointer a.lsn _ c.look.ensures.place _ c.install_snapshot.new.block c.install_snapshot.ensures c.install_snapshot.auto.block k.linked k.below _ c.in_ok-after.was c.if-dropped-gt0.true)

pub overflow_add-from-then-dropped-gt0 : goal.overflow_add-from-then-dropped-gt0
overflow_add-from-then-dropped-gt0 c =
    let a = c.args in
    let k = c.requires in
    omega (arith, pointer_fits a.t.now a.store.now a.p a.pointer a.lsn _ c.look.ensures.place _ c.install_snapshot.new.block c.install_snapshot.ensures c.install_snapshot.auto.block k.linked k.below _ c.in_ok-after.was c.if-dropped-gt0.true)

pub copy_within-requires-clause-in_bounds : goal.copy_within-requires-clause-in_bounds
copy_within-requires-clause-in_bounds c =
    let a = c.args in
    let k = c.requires in
    omega (arith, k.linked.all, pointer_fits a.t.now a.store.now a.p a.pointer a.lsn _ c.look.ensures.place _ c.install_snapshot.new.block c.install_snapshot.ensures c.install_snapshot.auto.block k.linked k.below _ c.in_ok-after.was c.if-dropped-gt0.true)

pub copy_within-requires-clause-dest_in_bounds : goal.copy_within-requires-clause-dest_in_bounds
copy_within-requires-clause-dest_in_bounds c =
    let a = c.args in
    let k = c.requires in
    omega (arith, k.linked.all, pointer_fits a.t.now a.store.now a.p a.pointer a.lsn _ c.look.ensures.place _ c.install_snapshot.new.block c.install_snapshot.ensures c.install_snapshot.auto.block k.linked k.below _ c.in_ok-after.was c.if-dropped-gt0.true)

pub returns-then-dropped-gt0 : goal.returns-then-dropped-gt0
returns-then-dropped-gt0 c =
    let a = c.args in
    let k = c.requires in
    pointer_moves a.t.now a.store.now a.p a.pointer a.lsn _ c.look.ensures.place _ c.install_snapshot.new.block c.install_snapshot.ensures c.install_snapshot.auto.block k.linked k.below _ c.in_ok-after.was c.if-dropped-gt0.true
    _ (add-sub_cancel_left _ _) _ c.copy_within.ensures.after

pub returns-else-dropped-gt0 : goal.returns-else-dropped-gt0
returns-else-dropped-gt0 c =
    let a = c.args in
    let k = c.requires in
    pointer_stays a.t.now a.store.now a.p a.pointer a.lsn _ c.look.ensures.place _ c.install_snapshot.new.block c.install_snapshot.ensures c.install_snapshot.auto.block k.linked k.below _ c.in_ok-after.was c.if-dropped-gt0.false
