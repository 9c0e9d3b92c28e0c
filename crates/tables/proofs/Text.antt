-- Laws of a text that grows: what is put behind it, and one line more.
-- Assumes nothing.
use mathlib.Core.Path.{◌≡◌, ◌∙◌}
use mathlib.Core.List.{List, ◌++◌}
use Prim.Native.Nat.{ℕ, ◌+◌, ◌≤◌}
use native.Mathlib.Numerals.{add-one}
use native.Mathlib.Omega.{arith}
use lib.ListN.{length, take, drop, length-append}
use lib.Seq.{take_at, length-take-le}
use Rattle.store.specs.Splice.{splice}
use Rattle.tables.specs.Model.{lines_to, sum_to}

pub take_splice : (d : List ℕ) (at : ℕ) (ys : List ℕ) (k : ℕ) → k ≡ at + length ys → at ≤ length d → take k (splice d at ys) ≡ take at d ++ ys
unfolding splice
take_splice d at ys k e h =
    let l : length (take at d) ≡ at = length-take-le at d h in
    let m : length (take at d ++ ys) ≡ k = length-append (take at d) ys ∙ omega arith in
    take_at (take at d ++ ys) (drop (at + length ys) d) k m

pub lines_step : (p : ℕ) (f : ℕ → List ℕ) → lines_to (p + 1) f ≡ lines_to p f ++ f p
unfolding lines_to
lines_step p f = rw add-one

pub sum_step : (p : ℕ) (f : ℕ → ℕ) → sum_to (p + 1) f ≡ sum_to p f + f p
unfolding sum_to
sum_step p f = rw add-one
