-- `finish` meets its contract.
use mathlib.Core.Path.{◌≡◌, refl, sym, ◌∙◌}
use borrow.Author.Rules.{rules}
use lib.ListN.{length}
use Rattle.soundness.proofs.Sound.{test_sound}
use Rattle.finishing.proofs.Finishes.{finishes_sound, finishes_unsound}
use Rattle.finishing.proofs.finish.Goals as goal

pub returns-then-not-is_sound : goal.returns-then-not-is_sound
returns-then-not-is_sound c =
    let a = c.args in
    finishes_unsound a.state a.store.now _ (sym c.is_sound.ensures ∙ c.if-not-is_sound.true) refl

pub finish_all-requires : goal.finish_all-requires
finish_all-requires c =
    let a = c.args in
    let eight : length a.state.heads ≡ 8 = search rules in
    let all : length a.state.entries ≡ 512 = search rules in
    (test_sound a.state a.store.now eight all (sym c.is_sound.ensures ∙ c.if-not-is_sound.false)).limits

pub returns : goal.returns
returns c =
    let a = c.args in
    let eight : length a.state.heads ≡ 8 = search rules in
    let all : length a.state.entries ≡ 512 = search rules in
    finishes_sound a.state a.store.now _ eight all (sym c.is_sound.ensures ∙ c.if-not-is_sound.false) (simp c.finish_all.ensures)
