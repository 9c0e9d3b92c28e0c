-- The order of identities, and what is held for one in a list by its places.
-- Assumes nothing.
use Rattle.std.specs.Prelude.{None, Some, option_map}
use mathlib.Core.Path.{◌≡◌, refl, ap, subst}
use mathlib.Core.Logic.{inl, inr}
use mathlib.Core.Bool.{Bool, true, false}
use mathlib.Core.List.{List, ◌∷◌, ◌++◌}
use Prim.Native.Nat.{ℕ, zero, suc, ◌<◌, ◌≤◌}
use native.Mathlib.Omega.{arith}
use lib.ListN.{set, take, drop}
use Rattle.definition.specs.Table.{every}
use Rattle.definition.specs.Records.{Identity, same, before}
use Rattle.definition.specs.Recovery.{Held, held, lookup, place_of, put, ascending}
use Rattle.definition.proofs.Laws.{and_l, and_r, and_i, contra}
use Rattle.definition.proofs.Order.{Before, same_eq, same_self, before_fact, before_same, before_tri}
use Rattle.view.specs.Tab.{tab}

-- One before another is neither after it nor the same.
pub not_after : (i j : Identity) → before i j ≡ true → before j i ≡ false
not_after i j h = go (before j i) refl
  where
    both : Before i j → Before j i → ⊥
    both (inl a) (inl b) = omega arith
    both (inl a) (inr b) = omega arith
    both (inr a) (inl b) = omega arith
    both (inr a) (inr b) = omega arith

    go : (b : Bool) → before j i ≡ b → b ≡ false
    go false x = refl
    go true x = absurd (both (before_fact i j h) (before_fact j i x))

pub same_sym : (i j : Identity) → same i j ≡ true → same j i ≡ true
same_sym i j e = subst (λ (k : Identity). same k i ≡ true) (same_eq i j e) (same_self i)

pub not_same_back : (i j : Identity) → before i j ≡ true → same j i ≡ false
not_same_back i j h = go (same j i) refl
  where
    go : (b : Bool) → same j i ≡ b → b ≡ false
    go false x = refl
    go true x = contra (same i j) (same_sym j i x) (before_same i j h)

-- One that is neither after another nor the same is before it.
pub else_before : (i j : Identity) → before j i ≡ false → same i j ≡ false → before i j ≡ true
else_before i j p q = before_tri j i p (go (same j i) refl)
  where
    go : (b : Bool) → same j i ≡ b → same j i ≡ false
    go false x = x
    go true x = contra (same i j) (same_sym j i x) q

-- A test on each place.
module _ {A : Type 0} (p : A → Bool) where
  pub every_at : (n : ℕ) (f : ℕ → A) → every p (tab n f) ≡ true → (j : ℕ) → j < n → p (f j) ≡ true
  unfolding tab
  every_at zero f e j h = absurd (omega arith)
  every_at (suc n) f e zero h = and_l (p (f 0)) (every p (tab n (λ j. f (suc j)))) e
  every_at (suc n) f e (suc j) h = every_at n (λ j. f (suc j)) (and_r (p (f 0)) (every p (tab n (λ j. f (suc j)))) e) j (omega arith)

  pub every_tab : (n : ℕ) (f : ℕ → A) → ((j : ℕ) → j < n → p (f j) ≡ true) → every p (tab n f) ≡ true
  unfolding tab
  every_tab zero f h = refl
  every_tab (suc n) f h = and_i (p (f 0)) (every p (tab n (λ j. f (suc j)))) (h 0 (omega arith)) (every_tab n (λ j. f (suc j)) (λ j l. h (suc j) (omega arith)))

module _ {L : Type 0} where
  -- Of an ascending list each is before those after it; and a list is ascending where each is before the next.
  pub ascending_at : (n : ℕ) (f : ℕ → Held L) → ascending (tab n f) ≡ true → (a b : ℕ) → a < b → b < n → before (f a).id (f b).id ≡ true
  unfolding ascending tab
  ascending_at zero f e a b h l = absurd (omega arith)
  ascending_at (suc n) f e a zero h l = absurd (omega arith)
  ascending_at (suc n) f e zero (suc b) h l =
      let r : List (Held L) = tab n (λ j. f (suc j)) in
      every_at (λ (x : Held L). before (f 0).id x.id) n (λ j. f (suc j)) (and_l (every (λ (x : Held L). before (f 0).id x.id) r) (ascending r) e) b (omega arith)
  ascending_at (suc n) f e (suc a) (suc b) h l =
      let r : List (Held L) = tab n (λ j. f (suc j)) in
      ascending_at n (λ j. f (suc j)) (and_r (every (λ (x : Held L). before (f 0).id x.id) r) (ascending r) e) a b (omega arith) (omega arith)

  pub ascending_tab : (n : ℕ) (f : ℕ → Held L) → ((a b : ℕ) → a < b → b < n → before (f a).id (f b).id ≡ true) → ascending (tab n f) ≡ true
  unfolding ascending tab
  ascending_tab zero f h = refl
  ascending_tab (suc n) f h =
      let r : List (Held L) = tab n (λ j. f (suc j)) in
      and_i (every (λ (x : Held L). before (f 0).id x.id) r) (ascending r)
      (every_tab (λ (x : Held L). before (f 0).id x.id) n (λ j. f (suc j)) (λ b l. h 0 (suc b) (omega arith) (omega arith)))
      (ascending_tab n (λ j. f (suc j)) (λ a b l l'. h (suc a) (suc b) (omega arith) (omega arith)))

  module _ (i : Identity) where
    -- i stands at p, after p that are before it
    pub lookup_at : (n p : ℕ) (f : ℕ → Held L) → ((j : ℕ) → j < p → before (f j).id i ≡ true) → p < n → same i (f p).id ≡ true → lookup i (tab n f) ≡ Some (f p).log
    unfolding lookup tab
    lookup_at zero p f low h e = absurd (omega arith)
    lookup_at (suc n) zero f low h e = rw e
    lookup_at (suc n) (suc p) f low h e =
        rw (not_same_back (f 0).id i (low 0 (omega arith))) (lookup_at n p (λ j. f (suc j)) (λ j k. low (suc j) (omega arith)) (omega arith) e)

    pub place_at : (n p : ℕ) (f : ℕ → Held L) → ((j : ℕ) → j < p → before (f j).id i ≡ true) → p < n → same i (f p).id ≡ true → place_of i (tab n f) ≡ Some p
    unfolding place_of tab
    place_at zero p f low h e = absurd (omega arith)
    place_at (suc n) zero f low h e = rw e
    place_at (suc n) (suc p) f low h e =
        rw (not_same_back (f 0).id i (low 0 (omega arith))) (ap (option_map suc) (place_at n p (λ j. f (suc j)) (λ j k. low (suc j) (omega arith)) (omega arith) e))

    pub put_at : (v : L) (n p : ℕ) (f : ℕ → Held L) → ((j : ℕ) → j < p → before (f j).id i ≡ true) → p < n → before i (f p).id ≡ false → same i (f p).id ≡ true
        → put i v (tab n f) ≡ set (tab n f) p (held i v)
    unfolding put tab
    put_at v zero p f low h b e = absurd (omega arith)
    put_at v (suc n) zero f low h b e = rw (b, e)
    put_at v (suc n) (suc p) f low h b e =
        rw (not_after (f 0).id i (low 0 (omega arith)), not_same_back (f 0).id i (low 0 (omega arith)))
        (ap (λ (m : List (Held L)). f 0 ∷ m) (put_at v n p (λ j. f (suc j)) (λ j k. low (suc j) (omega arith)) (omega arith) b e))

    -- i stands nowhere; it would between p that are before it and one that it is before
    pub put_between : (v : L) (n p : ℕ) (f : ℕ → Held L) → ((j : ℕ) → j < p → before (f j).id i ≡ true) → p ≤ n → (p < n → before i (f p).id ≡ true)
        → put i v (tab n f) ≡ take p (tab n f) ++ (held i v ∷ drop p (tab n f))
    unfolding put tab
    put_between v zero zero f low h e = refl
    put_between v zero (suc p) f low h e = absurd (omega arith)
    put_between v (suc n) zero f low h e = rw (e (omega arith))
    put_between v (suc n) (suc p) f low h e =
        rw (not_after (f 0).id i (low 0 (omega arith)), not_same_back (f 0).id i (low 0 (omega arith)))
        (ap (λ (m : List (Held L)). f 0 ∷ m) (put_between v n p (λ j. f (suc j)) (λ j k. low (suc j) (omega arith)) (omega arith) (λ k. e (omega arith))))

    pub lookup_none : (n : ℕ) (f : ℕ → Held L) → ((j : ℕ) → j < n → same i (f j).id ≡ false) → lookup i (tab n f) ≡ None
    unfolding lookup tab
    lookup_none zero f h = refl
    lookup_none (suc n) f h = rw (h 0 (omega arith)) (lookup_none n (λ j. f (suc j)) (λ j l. h (suc j) (omega arith)))

    pub place_none : (n : ℕ) (f : ℕ → Held L) → ((j : ℕ) → j < n → same i (f j).id ≡ false) → place_of i (tab n f) ≡ None
    unfolding place_of tab
    place_none zero f h = refl
    place_none (suc n) f h = rw (h 0 (omega arith)) (ap (option_map suc) (place_none n (λ j. f (suc j)) (λ j l. h (suc j) (omega arith))))
