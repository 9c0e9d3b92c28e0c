-- A word of at most 16 bytes as the code keeps it, and its bytes.
-- Assumes nothing.
use mathlib.Core.Path.{◌≡◌, refl, sym, ap, ◌∙◌}
use mathlib.Core.Bool.{Bool, true, false, ◌&&◌}
use mathlib.Core.List.{List, [], ◌∷◌, ◌++◌}
use Prim.Native.Nat.{ℕ, suc, ◌+◌, ◌≤◌}
use native.Mathlib.Numerals.{add-one}
use native.Mathlib.Omega.{arith}
use borrow.Author.Tests.{eq-eqb, ne_eqb, lt-ltb, eqb-true, eqb-false}
use lib.ListN.{length, set, take, drop, replicate}
use lib.Pointwise.{pointwise}
use lib.Seq.{sets, sets-eq, take_all}
use Rattle.std.proofs.lemmas.List.{take-append-le}
use Rattle.std.specs.Prelude.{if◌then◌else◌}
use Rattle.definition.specs.Table.{◌=?◌, ◌<?◌, same_bytes}
use Rattle.definition.proofs.Store.{same_bytes_eq}
use Rattle.text.specs.Text.{is_letter}
use Rattle.text.specs.Field.{blank_field, pushed_field, fed_field, word_field, letter_field}
use Rattle.text.specs.declared.field.Field.{Field}
use Rattle.text.proofs.Numbers.{field_of, len_is}

-- the bytes stand one behind the other
fed_word : (s : List ℕ) (f : Field) → f.len + length s ≤ 16 → (fed_field f s).word ≡ sets f.word f.len s
unfolding fed_field pushed_field
fed_word [] f h = refl
fed_word (b ∷ s) f h =
    let e : (if f.len <? 16 then set f.word f.len b else f.word) ≡ set f.word f.len b = rw (lt-ltb f.len 16 (omega arith)) in
    let n : (if f.len <? 17 then f.len + 1 else 17) ≡ suc f.len = rw (lt-ltb f.len 17 (omega arith), add-one) in
    fed_word s (pushed_field f b) (rw n (omega arith)) ∙ rw (e, n)

-- of a word the first bytes are its own
word_bytes : (s : List ℕ) → length s ≤ 16 → take (length s) (field_of s).word ≡ s
word_bytes s h =
    let z : 0 + length s ≡ length s = omega arith in
    let a : (field_of s).word ≡ sets (replicate 16 0) 0 s = fed_word s blank_field (omega arith) in
    let b : sets (replicate 16 0) 0 s ≡ s ++ drop (0 + length s) (replicate 16 0) = sets-eq s (replicate 16 0) 0 (omega arith) in
    let l : length s ≤ length s = omega arith in
    rw (a ∙ b, take-append-le) (take_all (length s) s (omega arith))

compared : (w s : List ℕ) → pointwise ◌=?◌ w s ≡ same_bytes s w
compared [] [] = refl
compared [] (y ∷ s) = refl
compared (x ∷ w) [] = refl
compared (x ∷ w) (y ∷ s) = λ i. eqb-comm i && compared w s i
  where
    eqb-comm : (x =? y) ≡ (y =? x)
    eqb-comm = go (x =? y) refl
      where
        go : (a : Bool) → (x =? y) ≡ a → (x =? y) ≡ (y =? x)
        go true p = p ∙ sym (eq-eqb y x (sym (eqb-true x y p)))
        go false p = p ∙ sym (ne_eqb y x (λ e. eqb-false x y p (sym e)))

-- a field is not two words
pub other_word : (s u v : List ℕ) → same_bytes u v ≡ false → same_bytes s u ≡ true → same_bytes s v ≡ false
other_word s u v d e = rw (same_bytes_eq s u e) d

-- THE LAW of a word
pub word_is : (s w : List ℕ) → length w ≤ 16 → word_field (field_of s) w ≡ same_bytes s w
word_is s w h = go (length s =? length w) refl
  where
    go : (x : Bool) → (length s =? length w) ≡ x → word_field (field_of s) w ≡ same_bytes s w
    go true e =
        let n : length w ≡ length s = sym (eqb-true (length s) (length w) e) in
        let t : take (length w) (field_of s).word ≡ s = rw n (word_bytes s (omega arith)) in
        rw (len_is s (length w) h, e, t) (compared w s)
    go false e = rw (len_is s (length w) h, e) (sym (unlike (same_bytes s w) refl))
      where
        unlike : (x : Bool) → same_bytes s w ≡ x → x ≡ false
        unlike true p = absurd (eqb-false (length s) (length w) e (ap length (same_bytes_eq s w p)))
        unlike false p = refl

pub letter_is : (s : List ℕ) (b : ℕ) → letter_field (field_of s) b ≡ is_letter s b
letter_is s b = word_is s (b ∷ []) (omega arith)
