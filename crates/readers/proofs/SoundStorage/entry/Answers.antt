-- `SoundStorage::entry` meets its contract.
use mathlib.Core.Path.{refl, sym, ap, ◌∙◌}
use Prim.Native.Nat.{ℕ}
use native.Mathlib.Omega.{arith}
use Rattle.definition.specs.Log.{Log, at}
use Rattle.readers.proofs.Owns.{owns}
use Rattle.readers.proofs.Readings.{index_none, index_below, index_entry}
use Rattle.readers.proofs.SoundStorage.entry.Goals as goal

pub returns-in_err-q : goal.returns-in_err-q
returns-in_err-q c =
    let w = owns c.args.self.now.sound refl c.own-own.ensures in
    rw c.from_residual.ensures (sym (index_none w _ (sym c.place_of.ensures ∙ c.in_err-q.was)) ∙ ap (λ (l : Log ℕ). at l c.args.index) w.view)

pub kept_at-requires : goal.kept_at-requires
kept_at-requires c =
    let w = owns c.args.self.now.sound refl c.own-own.ensures in
    let k = index_below w _ (sym c.place_of.ensures ∙ c.in_ok-q.was) in
    (w.low, omega (arith, k, w.short))

pub returns : goal.returns
returns c =
    let w = owns c.args.self.now.sound refl c.own-own.ensures in
    sym (index_entry w _ (sym c.place_of.ensures ∙ c.in_ok-q.was) c.kept_at.ensures) ∙ ap (λ (l : Log ℕ). at l c.args.index) w.view
