-- The places of a vector: its elements, and blanks behind them.
-- Assumes nothing.
use mathlib.Core.Path.{◌≡◌, sym, ap, ◌∙◌, subst}
use mathlib.Core.List.{List, ◌++◌}
use Prim.Native.Nat.{ℕ, ◌-◌, ◌≤◌}
use lib.ListN.{length, take, drop, replicate, take-append-drop}
use lib.Seq.{length-take-le}

module _ {T : Type 0} where
  abbrev pub cells_of : T → ℕ → List T → List T
  cells_of blank n xs = xs ++ replicate (n - length xs) blank

  -- Elements with blanks behind them are all of the places.
  pub whole : {S : Type 0} (len n : ℕ) (cells : List T) (blank : T) → len ≤ n → length cells ≡ n
      → drop len cells ≡ replicate (n - len) blank → (f : List T → ℕ → S)
      → f (cells_of blank n (take len cells)) (length (take len cells)) ≡ f cells len
  whole len n cells blank few l e f =
      ap (λ k. f (take len cells ++ replicate (n - k) blank) k) (length-take-le len cells (subst (λ k. len ≤ k) (sym l) few))
      ∙ ap (λ xs. f (take len cells ++ xs) len) (sym e) ∙ ap (λ xs. f xs len) (take-append-drop len cells)
