-- Laws of a list by its places: what a change of f makes of it.
-- Assumes nothing.
use mathlib.Core.Path.{◌≡◌, refl, ap, ◌∙◌}
use mathlib.Core.Bool.{Bool, true, false}
use mathlib.Core.List.{List, [], ◌∷◌, ◌++◌}
use Prim.Native.Nat.{ℕ, zero, suc, ◌+◌, ◌<◌, ◌≤◌}
use native.Mathlib.Omega.{arith}
use borrow.Author.Tests.{ltb-true, ltb-false}
use lib.ListN.{length, get_or, set, take, drop}
use Rattle.std.specs.Prelude.{if◌then◌else◌, None, Some, slice_get}
use Rattle.definition.specs.Table.{◌<?◌}
use Rattle.view.specs.Tab.{tab}

module _ {A : Type 0} where
  pub length_tab : (n : ℕ) (f : ℕ → A) → length (tab n f) ≡ n
  unfolding tab
  length_tab zero f = refl
  length_tab (suc n) f = ap suc (length_tab n (λ i. f (suc i)))

  pub get_d_tab : (n : ℕ) (f : ℕ → A) (i : ℕ) (z : A) → i < n → get_or (tab n f) i z ≡ f i
  unfolding tab
  get_d_tab zero f i z h = absurd (omega arith)
  get_d_tab (suc n) f zero z h = refl
  get_d_tab (suc n) f (suc i) z h = get_d_tab n (λ i. f (suc i)) i z (omega arith)

  get_elem_in : (n : ℕ) (f : ℕ → A) (i : ℕ) → i < n → slice_get (tab n f) i ≡ Some (f i)
  unfolding tab
  get_elem_in zero f i h = absurd (omega arith)
  get_elem_in (suc n) f zero h = refl
  get_elem_in (suc n) f (suc i) h = get_elem_in n (λ i. f (suc i)) i (omega arith)

  get_elem_out : (n : ℕ) (f : ℕ → A) (i : ℕ) → n ≤ i → slice_get (tab n f) i ≡ None
  unfolding tab
  get_elem_out zero f i h = refl
  get_elem_out (suc n) f zero h = absurd (omega arith)
  get_elem_out (suc n) f (suc i) h = get_elem_out n (λ i. f (suc i)) i (omega arith)

  pub get_elem_tab : (n : ℕ) (f : ℕ → A) (i : ℕ) → slice_get (tab n f) i ≡ (if i <? n then Some (f i) else None)
  get_elem_tab n f i = go (i <? n) refl
    where
      go : (b : Bool) → (i <? n) ≡ b → slice_get (tab n f) i ≡ (if b then Some (f i) else None)
      go true e = get_elem_in n f i (ltb-true i n e)
      go false e = get_elem_out n f i (ltb-false i n e)

  cons : {a b : A} {l m : List A} → a ≡ b → l ≡ m → ◌≡◌ {A = List A} (a ∷ l) (b ∷ m)
  cons p q = λ i. p i ∷ q i

  pub tab_same : (n : ℕ) (f g : ℕ → A) → ((i : ℕ) → i < n → g i ≡ f i) → tab n g ≡ tab n f
  unfolding tab
  tab_same zero f g h = refl
  tab_same (suc n) f g h = cons (h 0 (omega arith)) (tab_same n (λ i. f (suc i)) (λ i. g (suc i)) (λ i k. h (suc i) (omega arith)))

  -- one place is another
  pub tab_set : (n p : ℕ) (f g : ℕ → A) → p < n → ((i : ℕ) → i < n → (i ≡ p → ⊥) → g i ≡ f i) → tab n g ≡ set (tab n f) p (g p)
  unfolding tab
  tab_set zero p f g k h = absurd (omega arith)
  tab_set (suc n) zero f g k h = cons refl (tab_same n (λ i. f (suc i)) (λ i. g (suc i)) (λ i l. h (suc i) (omega arith) (λ e. omega arith)))
  tab_set (suc n) (suc p) f g k h =
      cons (h 0 (omega arith) (λ e. omega arith))
      (tab_set n p (λ i. f (suc i)) (λ i. g (suc i)) (omega arith) (λ i l ne. h (suc i) (omega arith) (λ e. ne (omega arith))))

  -- the first q places and one more: an append at q = n, a cut below
  pub tab_cut : (n q : ℕ) (f g : ℕ → A) → q ≤ n → ((i : ℕ) → i < q → g i ≡ f i) → tab (suc q) g ≡ take q (tab n f) ++ (g q ∷ [])
  unfolding tab
  tab_cut n zero f g k h = refl
  tab_cut zero (suc q) f g k h = absurd (omega arith)
  tab_cut (suc n) (suc q) f g k h = cons (h 0 (omega arith)) (tab_cut n q (λ i. f (suc i)) (λ i. g (suc i)) (omega arith) (λ i l. h (suc i) (omega arith)))

  -- the places from k on
  pub tab_drop : (n k m : ℕ) (f g : ℕ → A) → k + m ≡ n → ((i : ℕ) → i < m → g i ≡ f (k + i)) → tab m g ≡ drop k (tab n f)
  unfolding tab
  tab_drop n zero m f g e h =
      let p : m ≡ n = omega arith in
      let q : (i : ℕ) → 0 + i ≡ i = λ i. omega arith in
      tab_same m f g (λ i l. h i l ∙ ap f (q i)) ∙ ap (λ (x : ℕ). tab x f) p
  tab_drop zero (suc k) m f g e h = absurd (omega arith)
  tab_drop (suc n) (suc k) m f g e h =
      let q : (i : ℕ) → suc k + i ≡ suc (k + i) = λ i. omega arith in
      tab_drop n k m (λ i. f (suc i)) g (omega arith) (λ i l. h i l ∙ ap f (q i))

  -- a place is opened
  pub tab_open : (n p : ℕ) (f g : ℕ → A) → p ≤ n → ((i : ℕ) → i < p → g i ≡ f i) → ((i : ℕ) → p ≤ i → i < n → g (suc i) ≡ f i)
      → tab (suc n) g ≡ take p (tab n f) ++ (g p ∷ drop p (tab n f))
  unfolding tab
  tab_open n zero f g k h j = cons refl (tab_same n f (λ i. g (suc i)) (λ i l. j i (omega arith) l))
  tab_open zero (suc p) f g k h j = absurd (omega arith)
  tab_open (suc n) (suc p) f g k h j =
      cons (h 0 (omega arith))
      (tab_open n p (λ i. f (suc i)) (λ i. g (suc i)) (omega arith) (λ i l. h (suc i) (omega arith)) (λ i l m. j (suc i) (omega arith) (omega arith)))
