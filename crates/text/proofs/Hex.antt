-- A whole command line: what is judged and what is written.
-- Assumes nothing.
use mathlib.Core.Path.{◌≡◌, refl, sym, ap, ◌∙◌}
use mathlib.Core.Bool.{Bool, true, false, ◌&&◌, and-false}
use mathlib.Core.List.{List, [], ◌∷◌, ◌++◌}
use Prim.Native.Nat.{ℕ, suc, ◌+◌, ◌*◌, ◌/◌, ◌%◌, ◌<◌, ◌≤◌}
use native.Mathlib.Nat.{add-zero}
use native.Mathlib.Omega.{arith}
use borrow.Author.Tests.{eq-eqb, ne_eqb, lt-ltb, le-ltb, le-leb, lt-leb, ltb-true, ltb-false, leb-true}
use lib.ListN.{length, set, take, drop, length-set}
use lib.Seq.{sets, sets-eq}
use Rattle.std.specs.Prelude.{if◌then◌else◌, Option, None, Some}
use Rattle.definition.specs.Table.{◌<?◌, ◌≤?◌}
use Rattle.text.specs.Text.{hex_digit, is_hex, hex_bytes, with_byte, at_most_bytes, command_line}
use Rattle.text.specs.Field.{counted}
use Rattle.text.specs.Command.{blank_command, pushed_command, pushed_out, fed_command, fed_out, len_of}
use Rattle.text.specs.declared.command.Command.{Command}
use Rattle.text.proofs.Commands.{first_digit, second_digit}

-- ---- what one byte does to the count

digit : (c : Command) (b : ℕ) → is_hex b ≡ true → pushed_command c b ≡ record { digits = counted 131 c.digits; half = hex_digit b; hex = c.hex }
unfolding pushed_command
digit c b e = rw e

push_digits : (c : Command) (b : ℕ) → (pushed_command c b).digits ≡ counted 131 c.digits
unfolding pushed_command
push_digits c b = go (is_hex b) refl
  where
    go : (x : Bool) → is_hex b ≡ x → (pushed_command c b).digits ≡ counted 131 c.digits
    go true p = rw p
    go false p = rw p

push_hex : (c : Command) (b : ℕ) → is_hex b ≡ false → (pushed_command c b).hex ≡ false
unfolding pushed_command
push_hex c b e = rw e

kept_bad : (c : Command) (b : ℕ) → c.hex ≡ false → (pushed_command c b).hex ≡ false
unfolding pushed_command
kept_bad c b e = go (is_hex b) refl
  where
    go : (x : Bool) → is_hex b ≡ x → (pushed_command c b).hex ≡ false
    go true p = rw p e
    go false p = rw p

-- a byte that is no digit spoils the line
bad : (s : List ℕ) (c : Command) → c.hex ≡ false → (fed_command c s).hex ≡ false
unfolding fed_command
bad [] c e = e
bad (b ∷ s) c e = bad s (pushed_command c b) (kept_bad c b e)

bad_len : (c : Command) → c.hex ≡ false → len_of c ≡ None
unfolding len_of
bad_len c e = rw e

-- more than 130 digits are too many
stays_long : (s : List ℕ) (c : Command) → 131 ≤ c.digits → 131 ≤ (fed_command c s).digits
unfolding fed_command
stays_long [] c h = h
stays_long (b ∷ s) c h =
    let e : (pushed_command c b).digits ≡ 131 = push_digits c b ∙ rw (le-ltb c.digits 131 h) in stays_long s (pushed_command c b) (omega arith)

long_len : (c : Command) → 131 ≤ c.digits → len_of c ≡ None
unfolding len_of
long_len c h = rw (lt-leb c.digits 130 (omega arith), and-false)

odd_len : (c : Command) (k : ℕ) → c.digits ≡ 2 * k + 1 → len_of c ≡ None
unfolding len_of
odd_len c k e = rw (ne_eqb (c.digits % 2) 0 (λ q. omega arith), and-false)

-- ---- how many bytes

-- k bytes and those of o, where they are at most 65
abbrev over : ℕ → Option (List ℕ) → Option ℕ
over k None = None
over k (Some l) = if k + length l ≤? 65 then Some (k + length l) else None

over_more : (k x : ℕ) (o : Option (List ℕ)) → over (k + 1) o ≡ over k (with_byte x o)
over_more k x None = refl
over_more k x (Some l) = let e : k + 1 + length l ≡ k + suc (length l) = omega arith in rw e

over_full : (x : ℕ) (o : Option (List ℕ)) → over 65 (with_byte x o) ≡ None
over_full x None = refl
over_full x (Some l) = rw (lt-leb (65 + suc (length l)) 65 (omega arith))

end_len : (c : Command) (k : ℕ) → c.hex ≡ true → c.digits ≡ 2 * k → k ≤ 65 → len_of c ≡ over k (Some [])
unfolding len_of
end_len c k e d h =
    let q : c.digits / 2 ≡ k = omega arith in
    rw (e, eq-eqb (c.digits % 2) 0 (omega arith), le-leb c.digits 130 (omega arith), q, add-zero, le-leb k 65 h)

judged : (s : List ℕ) (c : Command) (k : ℕ) → c.hex ≡ true → c.digits ≡ 2 * k → k ≤ 65 → len_of (fed_command c s) ≡ over k (hex_bytes s)
unfolding fed_command hex_bytes
judged [] c k e d h = end_len c k e d h
judged (a ∷ []) c k e d h = go (is_hex a) refl
  where
    go : (x : Bool) → is_hex a ≡ x → len_of (pushed_command c a) ≡ over k None
    go true p = odd_len (pushed_command c a) k (push_digits c a ∙ rw (lt-ltb c.digits 131 (omega arith)) (omega arith))
    go false p = bad_len (pushed_command c a) (push_hex c a p)
judged (a ∷ b ∷ s) c k e d h = go (is_hex a) refl (is_hex b) refl (k <? 65) refl (judged s)
  where
    go : (x : Bool) → is_hex a ≡ x → (y : Bool) → is_hex b ≡ y → (z : Bool) → (k <? 65) ≡ z
        → ((c : Command) (k : ℕ) → c.hex ≡ true → c.digits ≡ 2 * k → k ≤ 65 → len_of (fed_command c s) ≡ over k (hex_bytes s))
        → len_of (fed_command (pushed_command (pushed_command c a) b) s) ≡ over k (if x && y then with_byte (hex_digit a * 16 + hex_digit b) (hex_bytes s) else None)
    go false p y q z t r =
        bad_len (fed_command (pushed_command (pushed_command c a) b) s)
        (bad s (pushed_command (pushed_command c a) b) (kept_bad (pushed_command c a) b (push_hex c a p)))
    go true p false q z t r =
        bad_len (fed_command (pushed_command (pushed_command c a) b) s) (bad s (pushed_command (pushed_command c a) b) (push_hex (pushed_command c a) b q))
    go true p true q true t r =
        let u = ltb-true k 65 t in
        let d1 : (pushed_command c a).digits ≡ c.digits + 1 = push_digits c a ∙ rw (lt-ltb c.digits 131 (omega arith)) in
        let d2 : (pushed_command (pushed_command c a) b).digits ≡ (pushed_command c a).digits + 1 =
        push_digits (pushed_command c a) b ∙ rw (lt-ltb (pushed_command c a).digits 131 (omega arith)) in
        let g : (pushed_command (pushed_command c a) b).hex ≡ true =
        ap (λ (x : Command). x.hex) (digit (pushed_command c a) b q) ∙ ap (λ (x : Command). x.hex) (digit c a p) ∙ e in
        r (pushed_command (pushed_command c a) b) (k + 1) g (omega arith) (omega arith) ∙ over_more k (hex_digit a * 16 + hex_digit b) (hex_bytes s)
    go true p true q false t r =
        let u = ltb-false k 65 t in
        let v : k ≡ 65 = omega arith in
        let d1 : (pushed_command c a).digits ≡ 131 = push_digits c a ∙ rw (lt-ltb c.digits 131 (omega arith)) (omega arith) in
        let d2 : (pushed_command (pushed_command c a) b).digits ≡ 131 = push_digits (pushed_command c a) b ∙ rw (le-ltb (pushed_command c a).digits 131 (omega arith)) in
        long_len (fed_command (pushed_command (pushed_command c a) b) s) (stays_long s (pushed_command (pushed_command c a) b) (omega arith))
        ∙ sym (rw v (over_full (hex_digit a * 16 + hex_digit b) (hex_bytes s)))

abbrev pub length_of : Option (List ℕ) → Option ℕ
length_of None = None
length_of (Some l) = Some (length l)

over_none : (o : Option (List ℕ)) → over 0 o ≡ length_of (at_most_bytes 65 o)
over_none None = refl
over_none (Some l) = go (length l ≤? 65) refl
  where
    go : (x : Bool) → (length l ≤? 65) ≡ x → (if 0 + length l ≤? 65 then Some (0 + length l) else None) ≡ length_of (if x then Some l else None)
    go true p = let e : 0 + length l ≡ length l = omega arith in rw (e, p)
    go false p = let e : 0 + length l ≡ length l = omega arith in rw (e, p)

-- THE LAW of a command line: it is one where the code says a length, which is its own
pub command_judged : (s : List ℕ) → len_of (fed_command blank_command s) ≡ length_of (command_line s)
command_judged s = judged s blank_command 0 refl refl (omega arith) ∙ over_none (hex_bytes s)

-- ---- which bytes

none_some : (l : List ℕ) → ◌≡◌ {A = Option (List ℕ)} None (Some l) → ⊥
none_some l e = let z : ◌≡◌ {A = ℕ} 0 1 = cc in omega arith

pair : (out : List ℕ) (at : ℕ) (c : Command) (a b k : ℕ) → is_hex a ≡ true → is_hex b ≡ true → c.digits ≡ 2 * k → k < 65 → at + 65 ≤ length out
    → pushed_out (pushed_out out at c a) at (pushed_command c a) b ≡ set out (at + k) (hex_digit a * 16 + hex_digit b)
pair out at c a b k p q d h r =
    let x = leb-true (hex_digit a) 15 p in
    let y = leb-true (hex_digit b) 15 q in
    let d1 : (pushed_command c a).digits ≡ 2 * k + 1 = push_digits c a ∙ rw (lt-ltb c.digits 131 (omega arith)) (omega arith) in
    let g : (pushed_command c a).half ≡ hex_digit a = ap (λ (x : Command). x.half) (digit c a p) in
    let half : hex_digit a % 16 ≡ hex_digit a = omega arith in
    let place : (2 * k + 1) / 2 ≡ k = omega arith in
    ap (λ (o : List ℕ). pushed_out o at (pushed_command c a) b) (sym (first_digit out at c a x (omega arith)))
    ∙ sym (second_digit out at (pushed_command c a) b y (λ e. omega arith) (omega arith) r)
    ∙ rw (d1, g, half, place)

written : (s : List ℕ) (out : List ℕ) (at : ℕ) (c : Command) (k : ℕ) (l : List ℕ) → c.digits ≡ 2 * k → at + 65 ≤ length out → hex_bytes s ≡ Some l → k + length l ≤ 65
    → fed_out out at c s ≡ sets out (at + k) l
unfolding fed_out hex_bytes
written [] out at c k l d r e h = let z : l ≡ [] = cc in rw z
written (a ∷ []) out at c k l d r e h = absurd (none_some l e)
written (a ∷ b ∷ s) out at c k l d r e h = go (is_hex a) refl (is_hex b) refl (hex_bytes s) refl e (written s)
  where
    go : (u : Bool) → is_hex a ≡ u → (v : Bool) → is_hex b ≡ v → (o : Option (List ℕ)) → hex_bytes s ≡ o
        → (if u && v then with_byte (hex_digit a * 16 + hex_digit b) o else None) ≡ Some l
        → ((out : List ℕ) (at : ℕ) (c : Command) (k : ℕ) (l : List ℕ) → c.digits ≡ 2 * k → at + 65 ≤ length out → hex_bytes s ≡ Some l → k + length l ≤ 65
        → fed_out out at c s ≡ sets out (at + k) l)
        → fed_out (pushed_out (pushed_out out at c a) at (pushed_command c a) b) at (pushed_command (pushed_command c a) b) s ≡ sets out (at + k) l
    go false p v q o t f w = absurd (none_some l f)
    go true p false q o t f w = absurd (none_some l f)
    go true p true q None t f w = absurd (none_some l f)
    go true p true q (Some m) t f w =
        let z : (hex_digit a * 16 + hex_digit b) ∷ m ≡ l = cc f in
        let n : suc (length m) ≡ length l = ap length z in
        let d1 : (pushed_command c a).digits ≡ c.digits + 1 = push_digits c a ∙ rw (lt-ltb c.digits 131 (omega arith)) in
        let d2 : (pushed_command (pushed_command c a) b).digits ≡ (pushed_command c a).digits + 1 =
        push_digits (pushed_command c a) b ∙ rw (lt-ltb (pushed_command c a).digits 131 (omega arith)) in
        let g : at + (k + 1) ≡ suc (at + k) = omega arith in
        let s1 = length-set out (at + k) (hex_digit a * 16 + hex_digit b) in
        ap (λ (o : List ℕ). fed_out o at (pushed_command (pushed_command c a) b) s) (pair out at c a b k p q d (omega arith) r)
        ∙ w (set out (at + k) (hex_digit a * 16 + hex_digit b)) at (pushed_command (pushed_command c a) b) (k + 1) m (omega arith) (omega arith) t (omega arith)
        ∙ rw (g, ← z)

-- THE LAW of what is written: the command's bytes, from `at` on, and nothing else
pub command_written : (s out : List ℕ) (at : ℕ) (l : List ℕ) → command_line s ≡ Some l → at + 65 ≤ length out
    → fed_out out at blank_command s ≡ take at out ++ l ++ drop (at + length l) out
command_written s out at l e r = go (hex_bytes s) refl e
  where
    go : (o : Option (List ℕ)) → hex_bytes s ≡ o → at_most_bytes 65 o ≡ Some l → fed_out out at blank_command s ≡ take at out ++ l ++ drop (at + length l) out
    go None p q = absurd (none_some l q)
    go (Some m) p q = few (length m ≤? 65) refl q
      where
        few : (x : Bool) → (length m ≤? 65) ≡ x → (if x then Some m else None) ≡ Some l → fed_out out at blank_command s ≡ take at out ++ l ++ drop (at + length l) out
        few true t f =
            let h = leb-true (length m) 65 t in
            let z : m ≡ l = cc f in
            let n : length m ≡ length l = ap length z in
            written s out at blank_command 0 m refl r p (omega arith) ∙ rw (add-zero, z) (sets-eq l out at (omega arith))
        few false t f = absurd (none_some l f)
