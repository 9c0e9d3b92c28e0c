-- Laws on Booleans, sums and lists.
-- Assumes nothing.
use mathlib.Core.Path.{◌≡◌}
use mathlib.Core.List.{List}
use Prim.Native.Nat.{ℕ, ◌-◌}
use native.Mathlib.Omega.{arith}
use lib.ListN.{length, take, drop, length-drop}
use lib.Seq.{take_all}

-- What stands from a on, of n.
pub tail_is : {A : Type 0} (l : List A) (a n : ℕ) → length l ≡ n → take (n - a) (drop a l) ≡ drop a l
tail_is l a n e = let d : length (drop a l) ≡ length l - a = length-drop a l in take_all (n - a) (drop a l) (omega arith)
