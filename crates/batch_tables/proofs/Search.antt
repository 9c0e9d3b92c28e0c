-- The search for a command's number: what is asked of all commands is what is asked of the rest.
-- Assumes nothing.
use mathlib.Core.Path.{◌≡◌, sym, ap, ◌∙◌}
use mathlib.Core.Bool.{true, false}
use mathlib.Core.List.{List, ◌∷◌}
use Prim.Native.Nat.{ℕ, suc, ◌+◌, ◌*◌, ◌<◌, ◌≤◌, min}
use native.Mathlib.Numerals.{add-one}
use native.Mathlib.Omega.{arith}
use lib.ListN.{length, get_or, take, drop, length-take, drop_of_length-le}
use lib.Seq.{drop-cons, drop-drop, get_or-take}
use Rattle.std.specs.Prelude.{if◌then◌else◌}
use Rattle.definition.specs.Table.{same_bytes}
use Rattle.text.specs.Record.{laid}
use Rattle.batch_tables.specs.Lines.{least_from}

-- from command i on, of the first m
abbrev pub rest : ℕ → List ℕ → List ℕ → List ℕ → ℕ → ℕ
rest m lens lent b i = least_from (i + 1) (laid (drop i (take m lens)) (drop (65 * i) lent)) b

module _ (m : ℕ) (lens lent b : List ℕ) (i : ℕ) where
  step : i < min m (length lens)
      → rest m lens lent b i ≡ (if same_bytes (take (get_or lens i 0) (drop (65 * i) lent)) b then i + 1 else rest m lens lent b (i + 1))
  unfolding least_from laid
  step h =
      let l : length (take m lens) ≡ min m (length lens) = length-take m lens in
      let d : drop i (take m lens) ≡ get_or (take m lens) i 0 ∷ drop (suc i) (take m lens) = drop-cons (take m lens) i 0 (omega arith) in
      let g : get_or (take m lens) i 0 ≡ get_or lens i 0 = get_or-take m lens i 0 (omega arith) in
      let e : 65 * i + 65 ≡ 65 * (i + 1) = omega arith in
      let p : suc (i + 1) ≡ i + 1 + 1 = sym (add-one (i + 1)) in
      let q : suc i ≡ i + 1 = sym (add-one i) in
      let r : drop 65 (drop (65 * i) lent) ≡ drop (65 * (i + 1)) lent = drop-drop 65 (65 * i) lent ∙ ap (λ (n : ℕ). drop n lent) e in
      ap (λ (xs : List ℕ). least_from (i + 1) (laid xs (drop (65 * i) lent)) b) d
      ∙ (λ k. if◌then◌else◌ {A = ℕ} (same_bytes (take (g k) (drop (65 * i) lent)) b) (i + 1) (least_from (p k) (laid (drop (q k) (take m lens)) (r k)) b))

  pub found : i < min m (length lens) → same_bytes (take (get_or lens i 0) (drop (65 * i) lent)) b ≡ true → rest m lens lent b i ≡ i + 1
  found h e = step h ∙ rw e

  pub next : i < min m (length lens) → same_bytes (take (get_or lens i 0) (drop (65 * i) lent)) b ≡ false → rest m lens lent b i ≡ rest m lens lent b (i + 1)
  next h e = step h ∙ rw e

  pub missing : min m (length lens) ≤ i → rest m lens lent b i ≡ 0
  unfolding least_from laid
  missing h =
      let l : length (take m lens) ≡ min m (length lens) = length-take m lens in
      rw (drop_of_length-le (take m lens) {i = i} (omega arith))
