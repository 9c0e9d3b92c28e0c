-- A field as the code keeps it, and its bytes: its length, and which number it is.
-- Assumes nothing.
use mathlib.Core.Path.{◌≡◌, refl, sym, ◌∙◌}
use mathlib.Core.Bool.{Bool, true, false}
use mathlib.Core.List.{List, [], ◌∷◌, ◌++◌}
use Prim.Native.Nat.{ℕ, suc, ◌+◌, ◌-◌, ◌*◌, ◌<◌, ◌≤◌}
use native.Mathlib.Omega.{arith}
use borrow.Author.Tests.{ne_eqb, lt-ltb, le-leb, lt-leb, ltb-true, ltb-false, leb-true, leb-false}
use lib.ListN.{length}
use Rattle.std.specs.Prelude.{if◌then◌else◌, Option, None, Some}
use Rattle.definition.specs.Table.{◌=?◌, ◌<?◌, ◌≤?◌, u64_max}
use Rattle.text.specs.Text.{is_digit, numeral_from, at_most, numeral, number, u32_max}
use Rattle.text.specs.Field.{blank_field, pushed_field, fed_field, number_on, version_on}
use Rattle.text.specs.declared.field.Field.{Field}

abbrev pub field_of : List ℕ → Field
field_of s = fed_field blank_field s

-- one byte more, at the end
pub fed_snoc : (s : List ℕ) (f : Field) (b : ℕ) → fed_field f (s ++ (b ∷ [])) ≡ pushed_field (fed_field f s) b
unfolding fed_field
fed_snoc [] f b = refl
fed_snoc (x ∷ s) f b = fed_snoc s (pushed_field f x) b

-- ---- how long it is

pub short_len : (s : List ℕ) (f : Field) → f.len + length s ≤ 17 → (fed_field f s).len ≡ f.len + length s
unfolding fed_field pushed_field
short_len [] f h = omega arith
short_len (b ∷ s) f h =
    let e : (if f.len <? 17 then f.len + 1 else 17) ≡ f.len + 1 = rw (lt-ltb f.len 17 (omega arith)) in
    let r = short_len s (pushed_field f b) (rw e (omega arith)) in
    r ∙ rw e (omega arith)

pub long_len : (s : List ℕ) (f : Field) → f.len ≤ 17 → 17 ≤ f.len + length s → (fed_field f s).len ≡ 17
unfolding fed_field pushed_field
long_len [] f h k = omega arith
long_len (b ∷ s) f h k = go (f.len <? 17) refl (long_len s)
  where
    go : (x : Bool) → (f.len <? 17) ≡ x → ((g : Field) → g.len ≤ 17 → 17 ≤ g.len + length s → (fed_field g s).len ≡ 17) → (fed_field (pushed_field f b) s).len ≡ 17
    go true e r =
        let q = ltb-true f.len 17 e in
        let p : (pushed_field f b).len ≡ f.len + 1 = rw e in r (pushed_field f b) (omega arith) (omega arith)
    go false e r =
        let q = ltb-false f.len 17 e in
        let p : (pushed_field f b).len ≡ 17 = rw e in r (pushed_field f b) (omega arith) (omega arith)

-- a length up to 16 is the field's own
pub len_is : (s : List ℕ) (n : ℕ) → n ≤ 16 → ((field_of s).len =? n) ≡ (length s =? n)
len_is s n h = go (length s ≤? 16) refl
  where
    go : (x : Bool) → (length s ≤? 16) ≡ x → ((field_of s).len =? n) ≡ (length s =? n)
    go true e =
        let q = leb-true (length s) 16 e in
        let l : (field_of s).len ≡ length s = short_len s blank_field (omega arith) ∙ (omega arith) in rw l
    go false e =
        let q = leb-false (length s) 16 e in
        let l : (field_of s).len ≡ 17 = long_len s blank_field (omega arith) (omega arith) in
        rw (l, ne_eqb (length s) n (λ k. omega arith), ne_eqb 17 n (λ k. omega arith))

-- ---- what number it is

-- past the largest number no digit leads back
past : (s : List ℕ) (n : ℕ) → u64_max < n → at_most u64_max (numeral_from n s) ≡ None
unfolding numeral_from
past [] n h = rw (lt-leb n u64_max h)
past (b ∷ s) n h = go (is_digit b) (past s (n * 10 + (b - 48)) (omega arith))
  where
    go : (x : Bool) → at_most u64_max (numeral_from (n * 10 + (b - 48)) s) ≡ None → at_most u64_max (if x then numeral_from (n * 10 + (b - 48)) s else None) ≡ None
    go true r = r
    go false r = refl

no_more : (s : List ℕ) (f : Field) → f.number ≡ None → (fed_field f s).number ≡ None
unfolding fed_field pushed_field
no_more [] f e = e
no_more (b ∷ s) f e = no_more s (pushed_field f b) (rw e)

says : (s : List ℕ) (f : Field) (n : ℕ) → f.number ≡ Some n → n ≤ u64_max → (fed_field f s).number ≡ at_most u64_max (numeral_from n s)
unfolding fed_field pushed_field numeral_from
says [] f n e v = rw (e, le-leb n u64_max v)
says (b ∷ s) f n e v = go (is_digit b) refl (n * 10 + (b - 48) ≤? u64_max) refl (says s)
  where
    go : (x : Bool) → is_digit b ≡ x → (y : Bool) → (n * 10 + (b - 48) ≤? u64_max) ≡ y
        → ((g : Field) (m : ℕ) → g.number ≡ Some m → m ≤ u64_max → (fed_field g s).number ≡ at_most u64_max (numeral_from m s))
        → (fed_field (pushed_field f b) s).number ≡ at_most u64_max (if x then numeral_from (n * 10 + (b - 48)) s else None)
    go true p true q r = r (pushed_field f b) (n * 10 + (b - 48)) (rw (e, p, q)) (leb-true (n * 10 + (b - 48)) u64_max q)
    go true p false q r =
        no_more s (pushed_field f b) (rw (e, p, q)) ∙ sym (past s (n * 10 + (b - 48)) (leb-false (n * 10 + (b - 48)) u64_max q))
    go false p y q r = no_more s (pushed_field f b) (rw (e, p))

-- THE LAW of a number: a field of at least one byte
pub number_is : (s : List ℕ) → number_on (field_of s) ≡ number u64_max s
unfolding fed_field
number_is [] = refl
number_is (b ∷ s) =
    let l : ((field_of (b ∷ s)).len =? 0) ≡ (length (b ∷ s) =? 0) = len_is (b ∷ s) 0 (omega arith) in
    rw (l, ne_eqb (suc (length s)) 0 (λ k. omega arith)) (says (b ∷ s) blank_field 0 refl (omega arith))

-- a limit below 2^64
pub narrow : (most : ℕ) → most ≤ u64_max → (o : Option ℕ) → at_most most (at_most u64_max o) ≡ at_most most o
narrow most h None = refl
narrow most h (Some n) = go (n ≤? u64_max) refl (n ≤? most) refl
  where
    go : (x : Bool) → (n ≤? u64_max) ≡ x → (y : Bool) → (n ≤? most) ≡ y → at_most most (if x then Some n else None) ≡ (if y then Some n else None)
    go true p y q = rw q
    go false p true q = absurd (let a = leb-false n u64_max p in let b = leb-true n most q in omega arith)
    go false p false q = refl

-- a record's version
pub version_is : (s : List ℕ) → version_on (field_of s) ≡ number u32_max s
version_is s = rw (number_is s) (narrow u32_max (omega arith) (numeral s))
