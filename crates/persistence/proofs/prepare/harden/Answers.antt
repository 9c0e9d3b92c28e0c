-- `prepare::harden` meets its contract.
use Rattle.persistence.proofs.Pointed.{harden_out, harden_in_lem}
use Rattle.persistence.proofs.prepare.harden.Goals as goal

pub returns-in_err-check_hard_state : goal.returns-in_err-check_hard_state
returns-in_err-check_hard_state c =
    let a = c.args in
    harden_out a.kept a.snapshot a.h a.preview.now c.last-last.result c.check_hard_state.result c.last-last.ensures c.check_hard_state.ensures c.in_err-check_hard_state.was _ c.from_residual.ensures.1

pub returns : goal.returns
returns c =
    let a = c.args in
    harden_in_lem a.kept a.snapshot a.h a.preview.now c.last-last.result c.check_hard_state.result c.last-last.ensures c.check_hard_state.ensures c.with_hard_at-preview.result c.in_ok-check_hard_state.was c.with_hard_at-preview.ensures
