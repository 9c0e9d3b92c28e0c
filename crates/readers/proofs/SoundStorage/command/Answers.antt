-- `SoundStorage::command` meets its contract.
use mathlib.Core.Path.{refl, sym, ap, ◌∙◌}
use Prim.Native.Nat.{ℕ}
use native.Mathlib.Omega.{arith}
use Rattle.definition.specs.Log.{Log, at}
use Rattle.readers.specs.Reads.{command_of}
use Rattle.readers.proofs.Owns.{owns}
use Rattle.readers.proofs.Readings.{index_none, index_below, index_command}
use Rattle.readers.proofs.SoundStorage.command.Goals as goal

pub returns-in_default : goal.returns-in_default
returns-in_default c =
    let w = owns c.args.self.now.sound refl c.own-own.ensures in
    ap command_of (sym (index_none w _ (sym c.place_of.ensures ∙ c.in_default.is)) ∙ ap (λ (l : Log ℕ). at l c.args.index) w.view)

pub kept_at-kept-requires : goal.kept_at-kept-requires
kept_at-kept-requires c =
    let w = owns c.args.self.now.sound refl c.own-own.ensures in
    let k = index_below w _ (sym c.place_of.ensures ∙ c.in-Some.is) in
    (w.low, omega (arith, k, w.short))

pub overflow_add-own : goal.overflow_add-own
overflow_add-own c =
    let w = owns c.args.self.now.sound refl c.own-own.ensures in
    let k = index_below w _ (sym c.place_of.ensures ∙ c.in-Some.is) in
    omega (arith, k, w.low, w.short)

pub command-requires : goal.command-requires
command-requires c =
    let w = owns c.args.self.now.sound refl c.own-own.ensures in
    let k = index_below w _ (sym c.place_of.ensures ∙ c.in-Some.is) in
    (omega (arith, k, w.low, w.short, w.size), simp c.kept_at-kept.ensures (w.sizes _ k))

pub returns : goal.returns
returns c =
    let w = owns c.args.self.now.sound refl c.own-own.ensures in
    c.command.ensures
    ∙ sym (index_command w _ (sym c.place_of.ensures ∙ c.in-Some.is) c.kept_at-kept.ensures)
    ∙ ap (λ (l : Log ℕ). command_of (at l c.args.index)) w.view
