-- `observing::observe_record` meets its contract.
use mathlib.Core.Path.{◌≡◌, sym, ◌∙◌}
use Rattle.std.proofs.Common.{rules, length}
use Rattle.routing.proofs.Ready.{test_ready}
use Rattle.recovery.proofs.One.{one_observes, one_unsound}
use Rattle.recovery.proofs.observing.observe_record.Goals as goal

pub observe_next-done-requires : goal.observe_next-done-requires
observe_next-done-requires c =
    let a = c.args in
    let eight : length a.state.heads ≡ 8 = search rules in
    let all : length a.state.entries ≡ 512 = search rules in
    test_ready a.state a.store.now eight all (sym c.is_sound.ensures ∙ c.if-is_sound.true)

pub returns-then-is_sound : goal.returns-then-is_sound
returns-then-is_sound c =
    let a = c.args in
    let eight : length a.state.heads ≡ 8 = search rules in
    let all : length a.state.entries ≡ 512 = search rules in
    one_observes a.state a.store.now a.r a.lent.now eight all (sym c.is_sound.ensures ∙ c.if-is_sound.true) _ _ _ c.observe_next-done.ensures.fits c.observe_next-done.ensures.model

pub returns-else-is_sound : goal.returns-else-is_sound
returns-else-is_sound c =
    let a = c.args in
    let eight : length a.state.heads ≡ 8 = search rules in
    let all : length a.state.entries ≡ 512 = search rules in
    one_unsound a.state a.store.now a.r a.lent.now eight all (sym c.is_sound.ensures ∙ c.if-is_sound.false)
