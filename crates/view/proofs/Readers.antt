-- What the definition reads of a replica is what is read of its header and its places.
-- Assumes nothing.
use mathlib.Core.Path.{◌≡◌, refl, sym, ap}
use mathlib.Core.Bool.{Bool, true, false}
use mathlib.Core.List.{List}
use Prim.Native.Nat.{ℕ, zero, suc, ◌+◌, ◌-◌, ◌<◌, ◌≤◌, pred}
use native.Mathlib.Omega.{arith}
use borrow.Author.Tests.{eqb-true, eqb-false, ltb-true, leb-true, leb-false, ne_eqb, not-false}
use lib.ListN.{get_or}
use Rattle.std.specs.Prelude.{if◌then◌else◌, Option, None, Some, option_map}
use Rattle.definition.specs.Table.{◌=?◌, ◌<?◌, ◌≤?◌, first_of, or_zero, u64_max}
use Rattle.definition.specs.Log as D
use Rattle.definition.proofs.Laws.{Clear, clear}
use Rattle.ids.specs.declared.Lsn.{Lsn}
use Rattle.view.specs.declared.RecoveredRaftLogEntry.{RecoveredRaftLogEntry}
use Rattle.view.specs.declared.Header.{Header}
use Rattle.view.specs.Decisions.{new_rows}
use Rattle.view.specs.Tab.{tab}
use Rattle.view.specs.Meaning.{lsn_of, no_entry, entry_at, view_of, base_of}
use Rattle.view.specs.Readers.{first_index_of, boundary_of, last_entry_of, last_index_of, last_of, place_of, at_place, first_retained_of}
use Rattle.view.proofs.Tab.{length_tab, get_elem_tab}

first_of_tab : (n : ℕ) (l : Lsn) (f : ℕ → D.Entry ℕ) → (f 0).lsn ≡ l.0 → D.first_lsn (tab n f) ≡ lsn_of (if n =? 0 then None else Some l)
unfolding tab
first_of_tab zero l f e = refl
first_of_tab (suc n) l f e =
    let z : (suc n =? 0) ≡ false = ne_eqb (suc n) 0 (λ x. omega arith) in
    rw z (ap Some e)

module _ (h : Header) (es : List RecoveredRaftLogEntry) (cs : List ℕ) where
  pub count_is : D.count (view_of h es cs) ≡ h.len
  unfolding D.count view_of
  count_is = length_tab h.len (entry_at es cs)

  pub base_is : D.base (view_of h es cs) ≡ base_of h
  unfolding D.base view_of
  base_is = refl

  pub first_index_is : D.first_index (view_of h es cs) ≡ first_index_of h
  unfolding D.first_index
  first_index_is = rw (count_is, base_is)

  pub boundary_is : D.snapshot_boundary (view_of h es cs) ≡ boundary_of h
  unfolding D.snapshot_boundary view_of
  boundary_is = refl

  pub place_is : (x : ℕ) → D.place (view_of h es cs) x ≡ x - base_of h
  unfolding D.place
  place_is x = rw base_is

  entries_are : (view_of h es cs).entries ≡ tab h.len (entry_at es cs)
  unfolding view_of
  entries_are = refl

  -- the entry held at an index
  pub at_is : (x : ℕ) → D.at (view_of h es cs) x ≡ at_place (place_of h x) (entry_at es cs)
  unfolding D.at
  at_is x = rw (base_is, place_is x, entries_are, get_elem_tab h.len (entry_at es cs) (x - base_of h)) (go (base_of h ≤? x) (x - base_of h <? h.len))
    where
      go : (a b : Bool) →
          ◌≡◌ {A = Option (D.Entry ℕ)} (if a then (if b then Some (entry_at es cs (x - base_of h)) else None) else None)
          (at_place (if a then (if b then Some (x - base_of h) else None) else None) (entry_at es cs))
      go true true = refl
      go true false = refl
      go false b = refl

  pub first_retained_is : D.first_retained_lsn (view_of h es cs) ≡ lsn_of (first_retained_of h (get_or es 0 no_entry))
  unfolding D.first_retained_lsn
  first_retained_is = rw entries_are (go h.len)
    where
      go : (n : ℕ) → D.first_lsn (tab n (entry_at es cs)) ≡ lsn_of (if n =? 0 then None else Some (get_or es 0 no_entry).lsn)
      go n = first_of_tab n (get_or es 0 no_entry).lsn (entry_at es cs) refl

  -- Where the indices keep their limit nothing is cut off.
  module _ (fits : base_of h + h.len ≤ u64_max + 1) where
    last_entry : last_entry_of h ≡ pred (base_of h + h.len)
    last_entry = omega arith

    pub last_index_is : D.last_index (view_of h es cs) ≡ last_index_of h
    unfolding D.last_index
    last_index_is = rw (count_is, boundary_is, base_is, last_entry) (go (h.len =? 0) (h.snapshot_index =? 0))
      where
        go : (a b : Bool) →
            ◌≡◌ {A = Option ℕ} (if a then option_map (λ (x : ℕ × ℕ). x.0) (if b then None else Some (h.snapshot_index, h.snapshot_term)) else Some (pred (base_of h + h.len)))
            (if a then (if b then None else Some h.snapshot_index) else Some (pred (base_of h + h.len)))
        go true true = refl
        go true false = refl
        go false b = refl

    pub last_is : D.last (view_of h es cs) ≡ last_of h
    unfolding D.last
    last_is = rw last_index_is (go (h.len =? 0) (h.snapshot_index =? 0) refl)
      where
        go : (a b : Bool) → (h.snapshot_index =? 0) ≡ b →
            ◌≡◌ {A = ℕ} (or_zero (λ n. n) (if a then (if b then None else Some h.snapshot_index) else Some (last_entry_of h)))
            (if a then h.snapshot_index else last_entry_of h)
        go true true e = sym (eqb-true h.snapshot_index 0 e)
        go true false e = refl
        go false b e = refl

-- An index that is held stands at its place.
pub record Held (h : Header) (x q : ℕ) : Type 0 where
  pub below : q < h.len
  pub index : base_of h + q ≡ x

pub held_at_lem : (h : Header) (x q : ℕ) → place_of h x ≡ Some q → Held h x q
held_at_lem h x q = go (base_of h ≤? x) (x - base_of h <? h.len) refl refl
  where
    go : (a b : Bool) → (base_of h ≤? x) ≡ a → (x - base_of h <? h.len) ≡ b
        → ◌≡◌ {A = Option ℕ} (if a then (if b then Some (x - base_of h) else None) else None) (Some q) → Held h x q
    go true true p r e =
        let f : base_of h ≤ x = leb-true (base_of h) x p in
        let l : x - base_of h < h.len = ltb-true (x - base_of h) h.len r in
        let s : x - base_of h ≡ q = cc in
        record { below = omega arith; index = omega arith }
    go true false p r e = absurd (let z : ◌≡◌ {A = ℕ} 0 1 = cc in omega arith)
    go false b p r e = absurd (let z : ◌≡◌ {A = ℕ} 0 1 = cc in omega arith)

-- The index after the last is the place after the last entry.
pub place_next : (h : Header) (x : ℕ) → x ≡ last_of h + 1 → x ≤ u64_max → x - base_of h ≡ h.len
place_next h x next small = go (h.len =? 0) refl
  where
    go : (b : Bool) → (h.len =? 0) ≡ b → x - base_of h ≡ h.len
    go true t =
        let last : last_of h ≡ h.snapshot_index = rw t in
        let z : h.len ≡ 0 = eqb-true h.len 0 t in
        omega arith
    go false t =
        let last : last_of h ≡ last_entry_of h = rw t in
        let z : h.len ≡ 0 → ⊥ = eqb-false h.len 0 t in
        omega arith

-- What the rows of an index that is not held leave: the index is the next (30), there is room (32), and its place is the one after the
-- last entry.
pub record Appends (h : Header) (x : ℕ) : Type 0 where
  pub next : x ≡ last_of h + 1
  pub room : h.len < 64
  pub place : x - base_of h ≡ h.len

pub appends : (h : Header) (prior x term : ℕ) → x ≤ u64_max → first_of (new_rows h prior x term) ≡ None → Appends h x
appends h prior x term small n =
    let k : Clear (new_rows h prior x term) = clear (new_rows h prior x term) n in
    let next : x ≡ last_of h + 1 = eqb-true x (last_of h + 1) (not-false (x =? last_of h + 1) k.1.0) in
    record { next = next; room = leb-false 64 h.len k.1.1.1.0; place = place_next h x next small }
