-- `observing::observe_hard_state` meets its contract.
use mathlib.Core.Path.{refl, sym, ap, ◌∙◌}
use Rattle.std.proofs.Common.{Result, Err}
use Rattle.std.proofs.lemmas.Result.{err_from_is_err_and}
use Rattle.definition.specs.Log as D
use Rattle.ids.specs.declared.Refusal.{Refusal}
use Rattle.ids.specs.Refusal.{checked_of}
use Rattle.codec.specs.declared.RaftWalRecord.TheVariants as W
use Rattle.replay.specs.declared.Observation.{Observation}
use Rattle.replay.specs.Plan.{answer_of}
use Rattle.recovery.proofs.Turn.{only_head, nothing}
use Rattle.recovery.proofs.observing.observe_hard_state.Goals as goal

pub returns-in_err-decide_hard_state : goal.returns-in_err-decide_hard_state
returns-in_err-decide_hard_state c st lent size =
    let a = c.args in
    let e = err_from_is_err_and _ c.from_residual.ensures.1 in
    let row = sym c.decide_hard_state.ensures ∙ ap checked_of c.in_err-decide_hard_state.was in
    nothing a.t.now st a.p (W.HardState a.r) a.lsn lent _ _ refl refl size c.requires _ (rw row refl)
    ∙ ap (λ (y : Result Observation Refusal). record { answer = answer_of y; state = a.t.now; store = st }) (sym (e.1 ∙ ap Err e.2))

pub returns : goal.returns
returns c st lent size =
    let a = c.args in
    let row = sym c.decide_hard_state.ensures ∙ ap checked_of c.in_ok-decide_hard_state.was in
    only_head a.t.now st a.p (W.HardState a.r) a.lsn lent _ _ refl refl size c.requires D.hard_state_kept _ (rw (row, c.with_hard_state.ensures) refl)
