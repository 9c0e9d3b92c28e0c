-- Lists that are walked: what is next, by index. Any element, any width.
-- Assumes nothing.
use mathlib.Core.Path.{◌≡◌, ap, ◌∙◌}
use mathlib.Core.List.{List}
use Prim.Native.Nat.{ℕ, suc, ◌+◌, ◌*◌}
use native.Mathlib.Nat.{add-zero}
use native.Mathlib.Omega.{arith}
use lib.ListN.{get_or, drop}
use lib.Seq.{get_or-drop, drop-drop}

module _ {A : Type 0} where
  pub get_d_next : (l : List A) (i : ℕ) (z : A) → get_or (drop 1 l) i z ≡ get_or l (suc i) z
  get_d_next l i z = let e : 1 + i ≡ suc i = omega arith in get_or-drop 1 l i z ∙ ap (λ (x : ℕ). get_or l x z) e

  pub drop_next : (w n : ℕ) (d : List A) → drop (w * n) (drop w d) ≡ drop (w * suc n) d
  drop_next w n d = let e : w + w * n ≡ w * suc n = omega arith in drop-drop (w * n) w d ∙ ap (λ (x : ℕ). drop x d) e

  -- what is left from p on
  pub first_left : (l : List A) (p : ℕ) (z : A) → get_or (drop p l) 0 z ≡ get_or l p z
  first_left l p z = get_or-drop p l 0 z ∙ ap (λ (x : ℕ). get_or l x z) (add-zero p)

  pub second_left : (l : List A) (p : ℕ) (z : A) → get_or (drop p l) 1 z ≡ get_or l (p + 1) z
  second_left l p z = get_or-drop p l 1 z

  -- and past block p, blocks of w
  pub past : (w : ℕ) (l : List A) (p : ℕ) → drop w (drop (w * p) l) ≡ drop (w * (p + 1)) l
  past w l p = let e : w * p + w ≡ w * (p + 1) = omega arith in drop-drop w (w * p) l ∙ ap (λ (x : ℕ). drop x l) e
