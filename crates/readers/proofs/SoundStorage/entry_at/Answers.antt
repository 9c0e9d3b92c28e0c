-- `SoundStorage::entry_at` meets its contract.
use mathlib.Core.Path.{refl, sym, ap, ◌∙◌}
use Prim.Native.Nat.{ℕ}
use native.Mathlib.Omega.{arith}
use Rattle.std.specs.Prelude.{slice_get}
use Rattle.definition.specs.Log.{Log}
use Rattle.readers.proofs.Owns.{owns}
use Rattle.readers.proofs.Readings.{at_past, at_held}
use Rattle.readers.proofs.SoundStorage.entry_at.Goals as goal

pub returns-then-own-place : goal.returns-then-own-place
returns-then-own-place c =
    let w = owns c.args.self.now.sound refl c.own-own.ensures in
    sym (at_past w _ c.if-own-place.true) ∙ ap (λ (l : Log ℕ). slice_get l.entries c.args.place) w.view

pub kept_at-requires : goal.kept_at-requires
kept_at-requires c =
    let w = owns c.args.self.now.sound refl c.own-own.ensures in
    (w.low, omega (arith, c.if-own-place.false, w.short))

pub returns : goal.returns
returns c =
    let w = owns c.args.self.now.sound refl c.own-own.ensures in
    sym (at_held w _ c.kept_at.ensures c.if-own-place.false) ∙ ap (λ (l : Log ℕ). slice_get l.entries c.args.place) w.view
