-- `observing::observe_next` meets its contract.
use mathlib.Core.Path.{sym, ap, ◌∙◌}
use Rattle.std.proofs.lemmas.Result.{err_from_is_err_and}
use Rattle.ids.specs.declared.Refusal.{Refusal}
use Rattle.replay.specs.declared.Observation.{Observation}
use native.Mathlib.Omega.{arith}
use Rattle.std.proofs.Common.{Result, Err}
use Rattle.definition.specs.Log as D
use Rattle.ids.specs.Refusal.{number_of}
use Rattle.codec.specs.declared.RaftWalRecord.{RaftWalRecord}
use Rattle.replay.specs.Plan.{answer_of}
use Rattle.storage.specs.declared.Scan.{Scan}
use Rattle.storage.specs.Model.{scanned_only}
use Rattle.routing.proofs.Stepped.{stepped_stale, stepped_foreign, stepped_malformed}
use Rattle.recovery.specs.Steps.{settled}
use Rattle.recovery.proofs.Placing.{told_at}
use Rattle.recovery.proofs.observing.observe_next.Goals as goal

pub returns-in-Refused-clause-model : goal.returns-in-Refused-clause-model
returns-in-Refused-clause-model c =
    let a = c.args in
    let m = rw c.in-Refused.is at c.admit.ensures in
    stepped_stale a.t.now a.store.now a.r a.lent.now _ m

pub returns-in-Counted-clause-model : goal.returns-in-Counted-clause-model
returns-in-Counted-clause-model c =
    let a = c.args in
    let m = rw c.in-Counted.is at c.admit.ensures in
    stepped_foreign a.t.now a.store.now a.r a.lent.now m.0 m.2
    ∙ ap (λ (n : Scan). record { answer = D.counted; state = scanned_only a.t.now n; store = a.store.now }) (sym m.1)

pub returns-in-Malformed-clause-model : goal.returns-in-Malformed-clause-model
returns-in-Malformed-clause-model c =
    let a = c.args in
    let m = rw c.in-Malformed.is at c.admit.ensures in
    stepped_malformed a.t.now a.store.now a.r a.lent.now m.0 m.2.kind m.2.is _ m.2.row
    ∙ ap (λ (n : Scan). record { answer = D.refused (number_of c.in-Malformed.why); state = scanned_only a.t.now n; store = a.store.now }) (sym m.1)

pub returns-in_err-p-in-Raft-clause-model : goal.returns-in_err-p-in-Raft-clause-model
returns-in_err-p-in-Raft-clause-model c =
    let a = c.args in
    let told = told_at a.t.now a.store.now a.r a.lent.now c.requires c.in-Raft.kind _ (rw c.in-Raft.is at c.admit.ensures) _ _ _ _ c.place_of.ensures c.in_err-p-in-Raft.was in
    let e = err_from_is_err_and _ c.from_residual.ensures.1 in
    told ∙ ap (λ (y : Result Observation Refusal). record { answer = answer_of y; state = c.place_of.new.t; store = c.place_of.new.store }) (sym (e.1 ∙ ap Err e.2))

pub observe_entry-requires : goal.observe_entry-requires
observe_entry-requires c =
    let a = c.args in
    let told = told_at a.t.now a.store.now a.r a.lent.now c.requires c.in-Raft.kind _ (rw c.in-Raft.is at c.admit.ensures) _ _ _ _ c.place_of.ensures c.in_ok-p-in-Raft.was in
    rw c.in-Entry.is at told.0

pub returns-in-Entry-clause-model : goal.returns-in-Entry-clause-model
returns-in-Entry-clause-model c =
    let a = c.args in
    let told = told_at a.t.now a.store.now a.r a.lent.now c.requires c.in-Raft.kind _ (rw c.in-Raft.is at c.admit.ensures) _ _ _ _ c.place_of.ensures c.in_ok-p-in-Raft.was in
    told.1 ∙ ap (λ (k : RaftWalRecord). settled c.place_of.new.t c.place_of.new.store c.in_ok-p-in-Raft.p k a.r.lsn a.lent.now) c.in-Entry.is ∙ c.observe_entry.ensures

pub observe_pointer-requires : goal.observe_pointer-requires
observe_pointer-requires c =
    let a = c.args in
    let told = told_at a.t.now a.store.now a.r a.lent.now c.requires c.in-Raft.kind _ (rw c.in-Raft.is at c.admit.ensures) _ _ _ _ c.place_of.ensures c.in_ok-p-in-Raft.was in
    let k = rw c.in-SnapshotPointer.is at told.0 in
    record { linked = k.linked; below = k.below; form = k.form }

pub returns-in-SnapshotPointer-clause-model : goal.returns-in-SnapshotPointer-clause-model
returns-in-SnapshotPointer-clause-model c =
    let a = c.args in
    let told = told_at a.t.now a.store.now a.r a.lent.now c.requires c.in-Raft.kind _ (rw c.in-Raft.is at c.admit.ensures) _ _ _ _ c.place_of.ensures c.in_ok-p-in-Raft.was in
    told.1 ∙ ap (λ (k : RaftWalRecord). settled c.place_of.new.t c.place_of.new.store c.in_ok-p-in-Raft.p k a.r.lsn a.lent.now) c.in-SnapshotPointer.is ∙ c.observe_pointer.ensures

pub observe_hard_state-requires : goal.observe_hard_state-requires
observe_hard_state-requires c =
    let a = c.args in
    let told = told_at a.t.now a.store.now a.r a.lent.now c.requires c.in-Raft.kind _ (rw c.in-Raft.is at c.admit.ensures) _ _ _ _ c.place_of.ensures c.in_ok-p-in-Raft.was in
    omega (arith, told.0.below, told.0.linked.few)

pub returns-in-HardState-clause-model : goal.returns-in-HardState-clause-model
returns-in-HardState-clause-model c =
    let a = c.args in
    let told = told_at a.t.now a.store.now a.r a.lent.now c.requires c.in-Raft.kind _ (rw c.in-Raft.is at c.admit.ensures) _ _ _ _ c.place_of.ensures c.in_ok-p-in-Raft.was in
    told.1 ∙ ap (λ (k : RaftWalRecord). settled c.place_of.new.t c.place_of.new.store c.in_ok-p-in-Raft.p k a.r.lsn a.lent.now) c.in-HardState.is
    ∙ c.observe_hard_state.ensures c.place_of.new.store a.lent.now told.0.linked.size
