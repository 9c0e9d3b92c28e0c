-- A command inside the lent bytes is unfit where it is over 64 bytes, and one that is not inside is unfit.
-- Assumes nothing.
use Prim.Native.Nat.{ℕ, ◌+◌, ◌≤◌, ◌<◌}
use native.Mathlib.Omega.{arith}
use mathlib.Core.Path.{◌≡◌}
use mathlib.Core.Bool.{true}
use mathlib.Core.List.{List}
use lib.ListN.{length, take, drop, length-take, length-drop}
use borrow.Author.Tests.{le-leb, lt-leb}
use Rattle.definition.specs.Table.{◌<?◌}
use Rattle.definition.specs.Records.{command_of, normal, unfit}

module _ (lent : List ℕ) (place len : ℕ) where
  pub outside_unfit : length lent < place + len → unfit (normal (command_of lent place len)) ≡ true
  unfolding command_of
  outside_unfit h = simp (lt-leb (place + len) (length lent) h)

  pub inside_unfit : place + len ≤ length lent → unfit (normal (command_of lent place len)) ≡ 64 <? len
  unfolding command_of
  inside_unfit h =
      let n : length (take len (drop place lent)) ≡ len = simp (length-take, length-drop) (omega arith) in
      simp (le-leb (place + len) (length lent) h, n)
