-- Bytes in hex are their pairs of digits.
-- Assumes nothing.
use mathlib.Core.Path.{◌≡◌, refl, ap, ◌∙◌}
use mathlib.Core.List.{List, [], ◌∷◌, ◌++◌}
use Prim.Native.Nat.{ℕ}
use lib.ListN.{length, get_or}
use Rattle.tables.specs.Model.{lines_to}
use Rattle.tables.proofs.Law.{lines_first}
use Rattle.batch_tables.specs.Lines.{hex_pair, hex_text}

pub hex_lines : (s : List ℕ) → lines_to (length s) (λ i. hex_pair (get_or s i 0)) ≡ hex_text s
unfolding lines_to hex_text
hex_lines [] = refl
hex_lines (b ∷ s) = lines_first (length s) (λ i. hex_pair (get_or (b ∷ s) i 0)) ∙ ap (λ (l : List ℕ). hex_pair b ++ l) (hex_lines s)
