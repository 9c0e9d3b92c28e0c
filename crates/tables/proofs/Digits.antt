-- The digits that `io::decimal` writes, the fewest that hold a number, are the definition's.
-- Assumes nothing.
use mathlib.Core.Path.{◌≡◌, refl, sym, ap, ◌∙◌}
use mathlib.Core.List.{List, [], ◌∷◌, ◌++◌}
use Prim.Native.Nat.{ℕ, zero, suc, ◌+◌, ◌-◌, ◌*◌, ◌/◌, ◌%◌, ◌^◌, ◌<◌, ◌≤◌}
use native.Mathlib.Nat.{pow-succ'}
use native.Mathlib.Omega.{arith}
use borrow.Author.Tests.{lt-ltb, le-ltb}
use lib.ListN.{length, length-append}
use Rattle.io.specs.Digits.{last_digits, hex_digit_ascii, IsDigitCount}
use Rattle.tables.specs.Tables.{digits_within, decimal}

pub length_digits : (k n : ℕ) → length (last_digits 10 k n) ≡ k
length_digits zero n = refl
length_digits (suc k) n = simp length-append (omega (arith, length_digits k (n / 10)))

-- a digit below ten
glyph_low : (d : ℕ) → d < 10 → hex_digit_ascii d ≡ 48 + d
glyph_low d h = rw (lt-ltb d 10 h)

-- one digit
within_one : (k n : ℕ) → n < 10 → digits_within k n ≡ (48 + n) ∷ []
unfolding digits_within
within_one zero n h = refl
within_one (suc k) n h = rw (lt-ltb n 10 h)

within_more : (k n : ℕ) → 10 ≤ n → digits_within (suc k) n ≡ digits_within k (n / 10) ++ ((48 + n % 10) ∷ [])
unfolding digits_within
within_more k n h = rw (le-ltb n 10 h)

fewest : (r k n : ℕ) → n < 10 ^ suc r → (0 < r → 10 ^ r ≤ n) → n ≤ k → last_digits 10 (suc r) n ≡ digits_within k n
fewest zero k n h l f =
    let m : n % 10 ≡ n = omega arith in
    ap (λ (x : ℕ). hex_digit_ascii x ∷ []) m ∙ ap (λ (x : ℕ). x ∷ []) (glyph_low n (omega arith)) ∙ sym (within_one k n (omega arith))
fewest (suc r) zero n h l f = absurd (omega (arith, pow-succ' 10 r, l (omega arith)))
fewest (suc r) (suc k) n h l f =
    let a : 10 ^ suc r ≤ n = l (omega arith) in
    let e : 10 ^ suc (suc r) ≡ 10 * 10 ^ suc r = pow-succ' 10 (suc r) in
    let e' : 10 ^ suc r ≡ 10 * 10 ^ r = pow-succ' 10 r in
    let i : last_digits 10 (suc r) (n / 10) ≡ digits_within k (n / 10) = fewest r k (n / 10) (omega arith) (λ _. omega arith) (omega arith) in
    let t : 10 ≤ n = omega arith in
    let g : hex_digit_ascii (n % 10) ≡ 48 + n % 10 = glyph_low (n % 10) (omega arith) in
    ap (λ (l : List ℕ). l ++ (hex_digit_ascii (n % 10) ∷ [])) i ∙ ap (λ (x : ℕ). digits_within k (n / 10) ++ (x ∷ [])) g ∙ sym (within_more k n t)

pub digits_decimal : (r n : ℕ) → IsDigitCount 10 1 n r → last_digits 10 r n ≡ decimal n
unfolding decimal
digits_decimal zero n f = absurd (omega arith)
digits_decimal (suc r) n f = let e : suc r - 1 ≡ r = omega arith in fewest r n n f.1 (λ h. rw e at (f.2 (omega arith))) (omega arith)
