-- The bytes of a cell: as many as a length says, of 64.
-- Assumes nothing.
use mathlib.Core.Path.{◌≡◌, refl, sym, ap, ◌∙◌}
use mathlib.Core.Bool.{Bool, true, false}
use mathlib.Core.List.{List}
use Prim.Native.Nat.{ℕ, ◌<◌, ◌≤◌, min}
use native.Mathlib.Omega.{arith}
use borrow.Author.Tests.{leb-true, leb-false}
use lib.Dec.{leb}
use lib.ListN.{take, length-take}
use lib.Seq.{take-take, take_all}

pub take_min : (len n : ℕ) (s : List ℕ) → take (min len n) s ≡ take len (take n s)
take_min len n s = go (leb len n) refl
  where
    go : (b : Bool) → leb len n ≡ b → take (min len n) s ≡ take len (take n s)
    go true q =
        let l : len ≤ n = leb-true len n q in
        let m : min len n ≡ len = omega arith in
        ap (λ (k : ℕ). take k s) m ∙ sym (take-take len n s l)
    go false q =
        let l : n < len = leb-false len n q in
        let m : min len n ≡ n = omega arith in
        ap (λ (k : ℕ). take k s) m ∙ sym (take_all len (take n s) (omega (arith, length-take n s)))
