-- A field as a checksum, as the code keeps it, and its bytes.
-- Assumes nothing.
use mathlib.Core.Path.{◌≡◌, refl, sym, ap, ◌∙◌}
use mathlib.Core.Bool.{Bool, true, false, ◌&&◌}
use mathlib.Core.List.{List, [], ◌∷◌, ◌++◌}
use Prim.Native.Nat.{ℕ, zero, suc, ◌+◌, ◌-◌, ◌*◌, ◌%◌, ◌<◌, ◌≤◌}
use native.Mathlib.Nat.{add-zero}
use native.Mathlib.Omega.{arith}
use borrow.Author.Tests.{eq-eqb, ne_eqb, lt-ltb, ltb-true, ltb-false, leb-true, leb-false, eqb-true}
use lib.ListN.{length, take, drop, take-append-drop, length-take, length-drop}
use lib.Seq.{take_all, drop-drop}
use Rattle.std.specs.Prelude.{if◌then◌else◌, Option, None, Some}
use Rattle.definition.specs.Table.{◌=?◌, ◌<?◌, ◌≤?◌, every}
use Rattle.codec.specs.declared.Checksum.{Checksum}
use Rattle.text.specs.Text.{hex_digit, is_hex, hex_from, is_checksum, checksum}
use Rattle.text.specs.Field.{blank_sum, counted, pushed_sum, fed_sum, checksum_on}
use Rattle.text.specs.declared.field.Sum.{Sum}

abbrev pub sum_of : List ℕ → Sum
sum_of s = fed_sum blank_sum s

pub sum_snoc : (s : List ℕ) (m : Sum) (b : ℕ) → fed_sum m (s ++ (b ∷ [])) ≡ pushed_sum (fed_sum m s) b
unfolding fed_sum
sum_snoc [] m b = refl
sum_snoc (x ∷ s) m b = sum_snoc s (pushed_sum m x) b

sum_append : (s t : List ℕ) (m : Sum) → fed_sum m (s ++ t) ≡ fed_sum (fed_sum m s) t
unfolding fed_sum
sum_append [] t m = refl
sum_append (x ∷ s) t m = sum_append s t (pushed_sum m x)

-- ---- how long it is

push_len : (m : Sum) (b : ℕ) → (pushed_sum m b).len ≡ counted 65 m.len
unfolding pushed_sum
push_len m b = refl

short_len : (s : List ℕ) (m : Sum) → m.len + length s ≤ 65 → (fed_sum m s).len ≡ m.len + length s
unfolding fed_sum
short_len [] m h = omega arith
short_len (b ∷ s) m h =
    let e : (pushed_sum m b).len ≡ m.len + 1 = push_len m b ∙ rw (lt-ltb m.len 65 (omega arith)) in
    let r = short_len s (pushed_sum m b) (omega arith) in r ∙ (omega arith)

long_len : (s : List ℕ) (m : Sum) → m.len ≤ 65 → 65 ≤ m.len + length s → (fed_sum m s).len ≡ 65
unfolding fed_sum
long_len [] m h k = omega arith
long_len (b ∷ s) m h k = go (m.len <? 65) refl (long_len s)
  where
    go : (x : Bool) → (m.len <? 65) ≡ x → ((g : Sum) → g.len ≤ 65 → 65 ≤ g.len + length s → (fed_sum g s).len ≡ 65) → (fed_sum (pushed_sum m b) s).len ≡ 65
    go true e r =
        let q = ltb-true m.len 65 e in
        let p : (pushed_sum m b).len ≡ m.len + 1 = push_len m b ∙ rw e in r (pushed_sum m b) (omega arith) (omega arith)
    go false e r =
        let q = ltb-false m.len 65 e in
        let p : (pushed_sum m b).len ≡ 65 = push_len m b ∙ rw e in r (pushed_sum m b) (omega arith) (omega arith)

len_is : (s : List ℕ) → ((sum_of s).len =? 64) ≡ (length s =? 64)
len_is s = go (length s ≤? 64) refl
  where
    go : (x : Bool) → (length s ≤? 64) ≡ x → ((sum_of s).len =? 64) ≡ (length s =? 64)
    go true e =
        let q = leb-true (length s) 64 e in
        let l : (sum_of s).len ≡ length s = short_len s blank_sum (omega arith) ∙ (omega arith) in rw l
    go false e =
        let q = leb-false (length s) 64 e in
        let l : (sum_of s).len ≡ 65 = long_len s blank_sum (omega arith) (omega arith) in
        rw (l, ne_eqb (length s) 64 (λ k. omega arith))

-- ---- a byte that is no hex digit

stays_none : (s : List ℕ) (m : Sum) → m.checksum ≡ None → (fed_sum m s).checksum ≡ None
unfolding fed_sum pushed_sum
stays_none [] m e = e
stays_none (b ∷ s) m e = stays_none s (pushed_sum m b) (rw e)

not_hex : (s : List ℕ) (m : Sum) → every is_hex s ≡ false → (fed_sum m s).checksum ≡ None
unfolding fed_sum pushed_sum
not_hex [] m e = absurd (let z : ◌≡◌ {A = ℕ} 0 1 = cc in omega arith)
not_hex (b ∷ s) m e = go (is_hex b) refl e (not_hex s)
  where
    none : (o : Option Checksum) → o ≡ m.checksum → is_hex b ≡ false → (pushed_sum m b).checksum ≡ None
    none None p q = rw (← p)
    none (Some x) p q = rw (← p, q)

    go : (x : Bool) → is_hex b ≡ x → (x && every is_hex s) ≡ false → ((m : Sum) → every is_hex s ≡ false → (fed_sum m s).checksum ≡ None)
        → (fed_sum (pushed_sum m b) s).checksum ≡ None
    go true p q r = r (pushed_sum m b) q
    go false p q r = stays_none s (pushed_sum m b) (none m.checksum refl p)

-- ---- which numbers it has

hex_lim : ℕ → ℕ
hex_lim zero = 1
hex_lim (suc k) = 16 * hex_lim k

lim_up : (k m : ℕ) → hex_lim k ≤ hex_lim (k + m)
unfolding hex_lim
lim_up k zero = rw (add-zero k) (omega arith)
lim_up k (suc m) = let e : k + suc m ≡ suc (k + m) = omega arith in let r = lim_up k m in rw e (omega arith)

lim_15 : (j : ℕ) → j ≤ 15 → hex_lim j ≤ 1152921504606846976
unfolding hex_lim
lim_15 j h =
    let e : j + (15 - j) ≡ 15 = omega arith in
    let r : hex_lim j ≤ hex_lim 15 = rw e at (lim_up j (15 - j)) in r

-- so many digits, and these numbers
abbrev at : ℕ → ℕ → ℕ → ℕ → ℕ → Sum
at len a b c d = record { len = len; checksum = Some (record { a = a; b = b; c = c; d = d }) }

-- one more digit of a number
grow : (len a b c d x : ℕ) → is_hex x ≡ true → d % 1152921504606846976 ≡ d → (len % 16 ≡ 0 → ⊥) → len < 65
    → pushed_sum (at len a b c d) x ≡ at (len + 1) a b c (d * 16 + hex_digit x)
unfolding pushed_sum
grow len a b c d x y n z l = rw (y, ne_eqb (len % 16) 0 z, n, lt-ltb len 65 l)

start : (len a b c d x : ℕ) → is_hex x ≡ true → len % 16 ≡ 0 → len < 65 → pushed_sum (at len a b c d) x ≡ at (len + 1) b c d (hex_digit x)
unfolding pushed_sum
start len a b c d x y z l = rw (y, eq-eqb (len % 16) 0 z, lt-ltb len 65 l)

-- digits 2 to 16 of a number
rest : (s : List ℕ) (len a b c d k j : ℕ) → len ≡ 16 * k + j → 1 ≤ j → j + length s ≤ 16 → k ≤ 3 → every is_hex s ≡ true → d < hex_lim j
    → fed_sum (at len a b c d) s ≡ at (len + length s) a b c (hex_from d s)
unfolding fed_sum hex_from hex_lim
rest [] len a b c d k j e l h i x z = rw add-zero
rest (y ∷ s) len a b c d k j e l h i x z = go (is_hex y) refl x (rest s)
  where
    go : (t : Bool) → is_hex y ≡ t → (t && every is_hex s) ≡ true
        → ((len a b c d k j : ℕ) → len ≡ 16 * k + j → 1 ≤ j → j + length s ≤ 16 → k ≤ 3 → every is_hex s ≡ true → d < hex_lim j
        → fed_sum (at len a b c d) s ≡ at (len + length s) a b c (hex_from d s))
        → fed_sum (pushed_sum (at len a b c d) y) s ≡ at (len + suc (length s)) a b c (hex_from (d * 16 + hex_digit y) s)
    go false t q r = absurd (let z : ◌≡◌ {A = ℕ} 0 1 = cc in omega arith)
    go true t q r =
        let h' = leb-true (hex_digit y) 15 t in
        let u = lim_15 j (omega arith) in
        let n : d % 1152921504606846976 ≡ d = omega arith in
        let p = grow len a b c d y t n (λ (z : len % 16 ≡ 0). omega arith) (omega arith) in
        let f : len + 1 + length s ≡ len + suc (length s) = omega arith in
        let g : d * 16 + hex_digit y < 16 * hex_lim j = omega arith in
        rw (p, ← f) (r (len + 1) a b c (d * 16 + hex_digit y) k (suc j) (omega arith) (omega arith) (omega arith) i q g)

-- one number of 16 digits pushes the others on
pushes : (w : List ℕ) (len a b c d k : ℕ) → length w ≡ 16 → len ≡ 16 * k → k ≤ 3 → every is_hex w ≡ true
    → fed_sum (at len a b c d) w ≡ at (16 * (k + 1)) b c d (hex_from 0 w)
unfolding fed_sum hex_from hex_lim
pushes [] len a b c d k l e i x = absurd (omega arith)
pushes (y ∷ s) len a b c d k l e i x = go (is_hex y) refl x
  where
    go : (t : Bool) → is_hex y ≡ t → (t && every is_hex s) ≡ true
        → fed_sum (pushed_sum (at len a b c d) y) s ≡ at (16 * (k + 1)) b c d (hex_from (0 * 16 + hex_digit y) s)
    go false t q = absurd (let z : ◌≡◌ {A = ℕ} 0 1 = cc in omega arith)
    go true t q =
        let h = leb-true (hex_digit y) 15 t in
        let z : 0 * 16 + hex_digit y ≡ hex_digit y = omega arith in
        let f : len + 1 + length s ≡ 16 * (k + 1) = omega arith in
        let p = start len a b c d y t (omega arith) (omega arith) in
        rw (p, z, ← f) (rest s (len + 1) b c d (hex_digit y) k 1 (omega arith) (omega arith) (omega arith) i q (omega arith))

every_take : (n : ℕ) (s : List ℕ) → every is_hex s ≡ true → every is_hex (take n s) ≡ true
every_take zero s e = refl
every_take (suc n) [] e = refl
every_take (suc n) (b ∷ s) e = go (is_hex b) e (every_take n s)
  where
    go : (y : Bool) → (y && every is_hex s) ≡ true → (every is_hex s ≡ true → every is_hex (take n s) ≡ true) → (y && every is_hex (take n s)) ≡ true
    go true q r = r q
    go false q r = q

every_drop : (n : ℕ) (s : List ℕ) → every is_hex s ≡ true → every is_hex (drop n s) ≡ true
every_drop zero s e = e
every_drop (suc n) [] e = refl
every_drop (suc n) (b ∷ s) e = go (is_hex b) e (every_drop n s)
  where
    go : (y : Bool) → (y && every is_hex s) ≡ true → (every is_hex s ≡ true → every is_hex (drop n s) ≡ true) → every is_hex (drop n s) ≡ true
    go true q r = r q
    go false q r = absurd (let z : ◌≡◌ {A = ℕ} 0 1 = cc in omega arith)

-- 16 digits, then the others
part_fed : (s : List ℕ) (len a b c d k : ℕ) → 16 ≤ length s → len ≡ 16 * k → k ≤ 3 → every is_hex s ≡ true
    → fed_sum (at len a b c d) s ≡ fed_sum (at (16 * (k + 1)) b c d (hex_from 0 (take 16 s))) (drop 16 s)
part_fed s len a b c d k l e i x =
    let t : length (take 16 s) ≡ 16 = length-take 16 s ∙ (omega arith) in
    ap (λ (u : List ℕ). fed_sum (at len a b c d) u) (sym (take-append-drop 16 s))
    ∙ sum_append (take 16 s) (drop 16 s) (at len a b c d)
    ∙ ap (λ (g : Sum). fed_sum g (drop 16 s)) (pushes (take 16 s) len a b c d k t e i (every_take 16 s x))

sum_value : (s : List ℕ) → length s ≡ 64 → every is_hex s ≡ true → sum_of s ≡ at 64 (checksum s).a (checksum s).b (checksum s).c (checksum s).d
unfolding fed_sum
sum_value s l x =
    let d1 = every_drop 16 s x in
    let d2 = every_drop 32 s x in
    let d3 = every_drop 48 s x in
    let l1 : length (drop 16 s) ≡ 48 = length-drop 16 s ∙ (omega arith) in
    let l2 : length (drop 32 s) ≡ 32 = length-drop 32 s ∙ (omega arith) in
    let l3 : length (drop 48 s) ≡ 16 = length-drop 48 s ∙ (omega arith) in
    let a : ℕ = hex_from 0 (take 16 s) in
    let b : ℕ = hex_from 0 (take 16 (drop 16 s)) in
    let c : ℕ = hex_from 0 (take 16 (drop 32 s)) in
    let p3 : fed_sum (at 32 0 0 a b) (drop 16 (drop 16 s)) ≡ fed_sum (at 48 0 a b c) (drop 16 (drop 32 s)) =
    rw (drop-drop 16 16 s) (part_fed (drop 32 s) 32 0 0 a b 2 (omega arith) refl (omega arith) d2) in
    let p4 : fed_sum (at 48 0 a b c) (drop 16 (drop 32 s)) ≡ at 64 a b c (hex_from 0 (drop 48 s)) =
    rw (drop-drop 16 32 s) (pushes (drop 48 s) 48 0 a b c 3 l3 refl (omega arith) d3) in
    let p5 : at 64 a b c (hex_from 0 (drop 48 s)) ≡ at 64 a b c (hex_from 0 (take 16 (drop 48 s))) = rw (take_all 16 (drop 48 s) (omega arith)) in
    part_fed s 0 0 0 0 0 0 (omega arith) refl (omega arith) x
    ∙ part_fed (drop 16 s) 16 0 0 0 a 1 (omega arith) refl (omega arith) d1
    ∙ p3
    ∙ p4
    ∙ p5

-- the code's record of a checksum
abbrev pub checksum_from : List ℕ → Checksum
checksum_from s = record { a = (checksum s).a; b = (checksum s).b; c = (checksum s).c; d = (checksum s).d }

-- THE LAW of a checksum
pub sum_is : (s : List ℕ) → checksum_on (sum_of s) ≡ (if is_checksum s then Some (checksum_from s) else None)
sum_is s = go (length s =? 64) refl (every is_hex s) refl
  where
    go : (x : Bool) → (length s =? 64) ≡ x → (y : Bool) → every is_hex s ≡ y → checksum_on (sum_of s) ≡ (if x && y then Some (checksum_from s) else None)
    go false p y q = rw (len_is s, p)
    go true p true q = rw (len_is s, p) (ap (λ (m : Sum). m.checksum) (sum_value s (eqb-true (length s) 64 p) q))
    go true p false q = rw (len_is s, p) (not_hex s blank_sum q)
