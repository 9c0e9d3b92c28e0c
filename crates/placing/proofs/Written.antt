-- A header is put where those behind it moved up.
-- Assumes nothing.
use mathlib.Core.Path.{◌≡◌, refl, ap, ◌∙◌}
use mathlib.Core.List.{List, ◌∷◌}
use Prim.Native.Nat.{ℕ, ◌+◌, ◌<◌}
use native.Mathlib.Omega.{arith}
use lib.ListN.{length, set, drop}
use lib.Seq.{paste}
use Rattle.store.specs.Splice.{part, splice}
use Rattle.store.proofs.Part.{length_part, pasted, set_before}

pub put_before : {A : Type 0} (d : List A) (p n : ℕ) (v : A) → p + n < length d → set (paste d (p + 1) (drop p d) n) p v ≡ splice d p (v ∷ part p n d)
put_before {A} d p n v h =
    let l : length (part p n d) ≡ n = length_part p n d (omega arith) in
    ap (λ (x : List A). set x p v) (pasted d (p + 1) p n n refl (omega arith)) ∙ set_before d p (part p n d) v (omega arith)
