-- A line up to its newline, a field at a time, and in two pieces.
-- Assumes nothing.
use mathlib.Core.Path.{◌≡◌, refl, sym, ap, ◌∙◌}
use mathlib.Core.Bool.{Bool, true, false, not, cond}
use mathlib.Core.List.{List, [], ◌∷◌, ◌++◌}
use Prim.Native.Nat.{ℕ, suc, ◌+◌, ◌-◌, ◌<◌, ◌≤◌}
use Prim.Native.Nat.compare
use native.Mathlib.Numerals.{add-one}
use native.Mathlib.Omega.{arith}
use borrow.Author.Tests.{lt-ltb, ltb-false, eqb-true}
use lib.ListN.{length, take, drop, length-drop, length-append, drop_of_length-le}
use lib.Dec.{ltb}
use lib.Seq.{length-take-le, take_all}
use Rattle.std.specs.Prelude.{if◌then◌else◌, None, Some, option_map, unwrap_or}
use Rattle.std.specs.List.{position_or_len}
use Rattle.definition.specs.Table.{◌=?◌, ◌<?◌}
use Rattle.text.specs.Field.{pushed_field, pushed_sum, up_to_space, fed_field, fed_sum}
use Rattle.text.specs.Line.{closed, extended, extended_by, pushed, fed, piece, has_newline, newline_at, taken}
use Rattle.text.specs.declared.line.Line.{Line}

-- a line in two pieces is the whole
pub fed_fed : (l : Line) (a b : List ℕ) → fed (fed l a) b ≡ fed l (a ++ b)
unfolding fed
fed_fed l [] b = refl
fed_fed l (x ∷ a) b = fed_fed (pushed l x) a b

-- the bytes before the newline, or all of them
place : List ℕ → ℕ
place s = position_or_len (λ b. b =? 10) s

place_within : (s : List ℕ) → place s ≤ length s
unfolding place
place_within [] = omega arith
place_within (b ∷ s) = go (b =? 10) (place_within s)
  where
    go : (x : Bool) → place s ≤ length s → cond (not x) (1 + place s) 0 ≤ suc (length s)
    go true r = omega arith
    go false r = omega arith

end_is : (s : List ℕ) → unwrap_or (newline_at s) (length s) ≡ place s
unfolding place
end_is s = go (ltb (place s) (length s)) refl
  where
    go : (x : Bool) → ltb (place s) (length s) ≡ x → unwrap_or (cond x (Some (place s)) None) (length s) ≡ place s
    go true e = refl
    go false e = let h = ltb-false (place s) (length s) e in let k = place_within s in omega arith

pub end_within : (s : List ℕ) → unwrap_or (newline_at s) (length s) ≤ length s
end_within s = rw (end_is s) (place_within s)

piece_at : (s : List ℕ) → take (place s) s ≡ piece s
unfolding place piece
piece_at [] = refl
piece_at (b ∷ s) = go (b =? 10) (piece_at s)
  where
    go : (x : Bool) → take (place s) s ≡ piece s → take (cond (not x) (1 + place s) 0) (b ∷ s) ≡ (if x then [] else b ∷ piece s)
    go true r = refl
    go false r = let e : 1 + place s ≡ suc (place s) = omega arith in rw e (ap (λ (t : List ℕ). b ∷ t) r)

pub piece_is : (s : List ℕ) → take (unwrap_or (newline_at s) (length s)) s ≡ piece s
piece_is s = rw (end_is s) (piece_at s)

-- ---- a field at a time

none_more : (l : Line) → extended_by l [] ≡ l
unfolding fed_field fed_sum
none_more l = go (l.count <? 10)
  where
    go : (x : Bool) → ◌≡◌ {A = Line} (record { fields = l.fields; count = l.count; field = l.field; sum = if x then l.sum else l.sum }) l
    go true = refl
    go false = refl

one_more : (l : Line) (b : ℕ) (s : List ℕ) → extended_by (extended l b) s ≡ extended_by l (b ∷ s)
unfolding extended fed_field fed_sum
one_more l b s = go (l.count <? 10)
  where
    go : (x : Bool) → ◌≡◌ {A = Line} (record { fields = l.fields; count = l.count; field = fed_field (pushed_field l.field b) s; sum = if x then (if x then l.sum else pushed_sum l.sum b) else fed_sum (if x then l.sum else pushed_sum l.sum b) s })
        (record { fields = l.fields; count = l.count; field = fed_field (pushed_field l.field b) s; sum = if x then l.sum else fed_sum (pushed_sum l.sum b) s })
    go true = refl
    go false = refl

pub by_field : (l : Line) (s : List ℕ) → fed l s ≡ fed (extended_by l (up_to_space s)) (drop (length (up_to_space s)) s)
unfolding fed up_to_space
by_field l [] = sym (none_more l)
by_field l (b ∷ s) = go (b =? 32) refl (λ m. by_field m s)
  where
    go : (x : Bool) → (b =? 32) ≡ x → ((m : Line) → fed m s ≡ fed (extended_by m (up_to_space s)) (drop (length (up_to_space s)) s))
        → fed (if x then closed l else extended l b) s ≡ fed (extended_by l (if x then [] else b ∷ up_to_space s)) (drop (length (if x then [] else b ∷ up_to_space s)) (b ∷ s))
    go true e r = rw (none_more l, e) refl
    go false e r = r (extended l b) ∙ ap (λ (m : Line). fed m (drop (length (up_to_space s)) s)) (one_more l b (up_to_space s))

pub field_within : (s : List ℕ) → length (up_to_space s) ≤ length s
unfolding up_to_space
field_within [] = omega arith
field_within (b ∷ s) = go (b =? 32) (field_within s)
  where
    go : (x : Bool) → length (up_to_space s) ≤ length s → length (if x then [] else b ∷ up_to_space s) ≤ suc (length s)
    go true r = omega arith
    go false r = omega arith

pub take_field : (s : List ℕ) → take (length (up_to_space s)) s ≡ up_to_space s
unfolding up_to_space
take_field [] = refl
take_field (b ∷ s) = go (b =? 32) (take_field s)
  where
    go : (x : Bool) → take (length (up_to_space s)) s ≡ up_to_space s → take (length (if x then [] else b ∷ up_to_space s)) (b ∷ s) ≡ (if x then [] else b ∷ up_to_space s)
    go true r = refl
    go false r = ap (λ (t : List ℕ). b ∷ t) r

-- a space stands behind it, where a byte does
behind : (s : List ℕ) → length (up_to_space s) < length s → drop (length (up_to_space s)) s ≡ 32 ∷ drop (suc (length (up_to_space s))) s
unfolding up_to_space
behind [] h = absurd (omega arith)
behind (b ∷ s) h = go (b =? 32) refl (behind s) h
  where
    go : (x : Bool) → (b =? 32) ≡ x → (length (up_to_space s) < length s → drop (length (up_to_space s)) s ≡ 32 ∷ drop (suc (length (up_to_space s))) s)
        → length (if x then [] else b ∷ up_to_space s) < suc (length s)
        → drop (length (if x then [] else b ∷ up_to_space s)) (b ∷ s) ≡ 32 ∷ drop (suc (length (if x then [] else b ∷ up_to_space s))) (b ∷ s)
    go true e r h = ap (λ (n : ℕ). n ∷ s) (eqb-true b 32 e)
    go false e r h = r (omega arith)

-- no byte is left behind the last
pub drop_end : (s : List ℕ) (i : ℕ) → length s ≤ i → drop i s ≡ []
drop_end s i h = drop_of_length-le s h

-- the walk: the first field, each next one behind its space, and the end
pub first_field : (l : Line) (s : List ℕ) {m : Line} {n : ℕ} → m ≡ extended_by l (up_to_space s) → n ≡ length (up_to_space s) → fed l s ≡ fed m (drop n s)
first_field l s em en = rw (em, en) (by_field l s)

pub next_field : (l : Line) (s : List ℕ) (n : ℕ) {k m : Line} {t : List ℕ} {n' : ℕ} → n ≡ length (up_to_space s) → n < length s → t ≡ take (length s - (n + 1)) (drop (n + 1) s)
    → k ≡ closed l → m ≡ extended_by k (up_to_space t) → n' ≡ length (up_to_space t) → fed l (drop n s) ≡ fed m (drop n' t)
unfolding fed
next_field l s n {k} {m} {t} en h et ek em en' =
    let all : take (length s - (n + 1)) (drop (n + 1) s) ≡ drop (n + 1) s = take_all (length s - (n + 1)) (drop (n + 1) s) (omega (arith, length-drop (n + 1) s)) in
    let d : drop n s ≡ 32 ∷ t = rw (et, all, en, add-one (length (up_to_space s))) (behind s (omega (arith, en))) in
    rw (d, ← ek) (first_field k t em en')

pub last_field : (l : Line) (s : List ℕ) (n : ℕ) → length s ≤ n → fed l (drop n s) ≡ l
unfolding fed
last_field l s n h = rw (drop_end s n h) refl

-- bytes without a newline are all of the line, and it goes on behind them
pub piece_all : (a : List ℕ) → has_newline a ≡ false → piece a ≡ a
unfolding piece has_newline
piece_all [] e = refl
piece_all (b ∷ a) e = go (b =? 10) e (piece_all a)
  where
    go : (x : Bool) → (if x then true else has_newline a) ≡ false → (has_newline a ≡ false → piece a ≡ a) → (if x then [] else b ∷ piece a) ≡ b ∷ a
    go true q r = absurd (let z : ◌≡◌ {A = ℕ} 0 1 = cc in omega arith)
    go false q r = ap (λ (t : List ℕ). b ∷ t) (r q)

pub piece_append : (a b : List ℕ) → has_newline a ≡ false → piece (a ++ b) ≡ a ++ piece b
unfolding piece has_newline
piece_append [] b e = refl
piece_append (x ∷ a) b e = go (x =? 10) e (piece_append a b)
  where
    go : (y : Bool) → (if y then true else has_newline a) ≡ false → (has_newline a ≡ false → piece (a ++ b) ≡ a ++ piece b)
        → (if y then [] else x ∷ piece (a ++ b)) ≡ x ∷ (a ++ piece b)
    go true q r = absurd (let z : ◌≡◌ {A = ℕ} 0 1 = cc in omega arith)
    go false q r = ap (λ (t : List ℕ). x ∷ t) (r q)

pub newline_append : (a b : List ℕ) → has_newline a ≡ false → has_newline (a ++ b) ≡ has_newline b
unfolding has_newline
newline_append [] b e = refl
newline_append (x ∷ a) b e = go (x =? 10) e (newline_append a b)
  where
    go : (y : Bool) → (if y then true else has_newline a) ≡ false → (has_newline a ≡ false → has_newline (a ++ b) ≡ has_newline b)
        → (if y then true else has_newline (a ++ b)) ≡ has_newline b
    go true q r = absurd (let z : ◌≡◌ {A = ℕ} 0 1 = cc in omega arith)
    go false q r = r q

-- ---- what a call answers

-- the first newline is within the bytes where there is one
newline_within : (s : List ℕ) → ltb (place s) (length s) ≡ has_newline s
unfolding place has_newline
newline_within [] = refl
newline_within (b ∷ s) = go (b =? 10) (newline_within s)
  where
    go : (x : Bool) → ltb (place s) (length s) ≡ has_newline s → ltb (cond (not x) (1 + place s) 0) (suc (length s)) ≡ (if x then true else has_newline s)
    go true r = lt-ltb 0 (suc (length s)) (omega arith)
    go false r = let e : 1 + place s ≡ suc (place s) = omega arith in rw (e, compare.suc-suc) r

-- it stands behind the piece
length_piece : (s : List ℕ) → length (piece s) ≡ place s
length_piece s = ap length (sym (piece_at s)) ∙ length-take-le (place s) s (place_within s)

-- the bytes that it took: the piece and the newline, where there is one
pub taken_is : (s : List ℕ) → taken s ≡ (if has_newline s then Some (length (piece s) + 1) else None)
unfolding place
taken_is s = rw (length_piece s, ← newline_within s) (go (ltb (place s) (length s)))
  where
    go : (x : Bool) → option_map (λ i. i + 1) (cond x (Some (place s)) None) ≡ (if x then Some (place s + 1) else None)
    go true = refl
    go false = refl

pub no_newline : (s : List ℕ) → taken s ≡ None → has_newline s ≡ false
no_newline s e = go (has_newline s) (sym (taken_is s) ∙ e)
  where
    go : (x : Bool) → (if x then Some (length (piece s) + 1) else None) ≡ None → x ≡ false
    go true q = absurd (let z : ◌≡◌ {A = ℕ} 0 1 = cc in omega arith)
    go false q = refl

-- where it took no newline, the next call goes on with the same line
module _ (a b : List ℕ) (e : taken a ≡ None) where
  pub piece_on : piece a ++ piece b ≡ piece (a ++ b)
  piece_on = let n = no_newline a e in rw (piece_all a n) (sym (piece_append a b n))

  pub fed_on : (l : Line) → fed (fed l (piece a)) (piece b) ≡ fed l (piece (a ++ b))
  fed_on l = fed_fed l (piece a) (piece b) ∙ ap (fed l) piece_on

  pub taken_on : taken (a ++ b) ≡ option_map (λ n. length a + n) (taken b)
  taken_on =
      let n = no_newline a e in
      rw (taken_is (a ++ b), taken_is b, newline_append a b n, piece_append a b n, length-append a (piece b)) (go (has_newline b))
    where
      go : (x : Bool) → (if x then Some (length a + length (piece b) + 1) else None) ≡ option_map (λ n. length a + n) (if x then Some (length (piece b) + 1) else None)
      go true = let m : length a + length (piece b) + 1 ≡ length a + (length (piece b) + 1) = omega arith in ap Some m
      go false = refl
