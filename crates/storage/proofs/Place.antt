-- What the definition finds for an identity, and keeps for it, by the place where it stands.
-- Assumes nothing.
use mathlib.Core.Path.{◌≡◌, refl, sym, ap, ◌∙◌}
use mathlib.Core.Bool.{Bool, true, false, true≢false}
use mathlib.Core.List.{List, [], ◌∷◌, ◌++◌}
use Prim.Native.Nat.{ℕ, zero, suc, ◌<◌, ◌≤◌}
use native.Mathlib.Omega.{arith}
use borrow.Author.Tests.{ltb-true, ltb-false, eqb-true, eqb-false}
use lib.Dec.{ltb, eqb}
use lib.ListN.{length, get_or, set, take, drop}
use Rattle.std.specs.Prelude.{if◌then◌else◌, None, Some}
use Rattle.definition.specs.Records.{Identity, same, before}
use Rattle.definition.specs.Log as D
use Rattle.definition.specs.Recovery.{Held, held, lookup, place_of, put, ascending, scan}
use Rattle.definition.proofs.Order.{same_eq, same_self, before_trans, before_same}
use Rattle.ids.specs.declared.Lsn.{Lsn}
use Rattle.ids.specs.declared.RaftReplicaIdentity.{RaftReplicaIdentity}
use Rattle.ids.specs.Identity.{identity_of}
use Rattle.view.specs.declared.Header.{Header}
use Rattle.view.specs.Meaning.{lsn_of, id_of}
use Rattle.view.specs.Model.{empty_header}
use Rattle.view.proofs.Tab.{length_tab}
use Rattle.storage.specs.declared.RecoveredRaftStorage.{RecoveredRaftStorage}
use Rattle.storage.specs.Model.{no_header, head_at, scan_next, opened, opened_store}
use Rattle.storage.specs.Meaning.{held_at, log_at, meaning, Linked, Step}
use Rattle.storage.specs.Place.{owners_of, no_owner, stands_at, Stands}
use Rattle.storage.proofs.Rank.{not_same_back, else_before, ascending_at, lookup_at, place_at, put_at, put_between, lookup_none, place_none}
use Rattle.storage.proofs.Walk.{get_d_next}
use Rattle.storage.proofs.Open.{low_head, new_head, open_means}

-- The identity at a place.
pub owner_at : (hs : List Header) (j : ℕ) → get_or (owners_of hs) j no_owner ≡ (get_or hs j no_header).identity
owner_at [] j = refl
owner_at (h ∷ hs) zero = refl
owner_at (h ∷ hs) (suc j) = owner_at hs j

-- A header that keeps its identity leaves them as they are.
pub owners_set : (hs : List Header) (p : ℕ) (h : Header) → h.identity ≡ (get_or hs p no_header).identity → owners_of (set hs p h) ≡ owners_of hs
owners_set [] p h e = refl
owners_set (x ∷ hs) zero h e = ap (λ (o : RaftReplicaIdentity). o ∷ owners_of hs) e
owners_set (x ∷ hs) (suc p) h e = ap (λ (os : List RaftReplicaIdentity). x.identity ∷ os) (owners_set hs p h e)

-- The walk finds the place.
module _ (i : Identity) where
  before_at : List RaftReplicaIdentity → ℕ → Bool
  before_at os j = before (identity_of (get_or os j no_owner)) i

  next_at : (os : List RaftReplicaIdentity) (j : ℕ) → before_at os (suc j) ≡ before_at (drop 1 os) j
  unfolding before_at
  next_at os j = ap (λ (o : RaftReplicaIdentity). before (identity_of o) i) (sym (get_d_next os j no_owner))

  walk_low : (n : ℕ) (os : List RaftReplicaIdentity) (j : ℕ) → j < stands_at i n os → before_at os j ≡ true
  unfolding stands_at before_at
  walk_low zero os j l = absurd (omega arith)
  walk_low (suc n) os j l = go (before_at os 0) refl j l (walk_low n (drop 1 os))
    where
      go : (b : Bool) → before_at os 0 ≡ b → (j : ℕ) → j < (if b then suc (stands_at i n (drop 1 os)) else 0)
          → ((j : ℕ) → j < stands_at i n (drop 1 os) → before_at (drop 1 os) j ≡ true) → before_at os j ≡ true
      go false e j l r = absurd (omega arith)
      go true e zero l r = e
      go true e (suc j) l r = next_at os j ∙ r j (omega arith)

  walk_within : (n : ℕ) (os : List RaftReplicaIdentity) → stands_at i n os ≤ n
  unfolding stands_at before_at
  walk_within zero os = omega arith
  walk_within (suc n) os = go (before_at os 0) (walk_within n (drop 1 os))
    where
      go : (b : Bool) → stands_at i n (drop 1 os) ≤ n → (if b then suc (stands_at i n (drop 1 os)) else 0) ≤ suc n
      go true r = omega arith
      go false r = omega arith

  walk_stop : (n : ℕ) (os : List RaftReplicaIdentity) → stands_at i n os < n → before_at os (stands_at i n os) ≡ false
  unfolding stands_at before_at
  walk_stop zero os l = absurd (omega arith)
  walk_stop (suc n) os l = go (before_at os 0) refl l (walk_stop n (drop 1 os))
    where
      go : (b : Bool) → before_at os 0 ≡ b → (if b then suc (stands_at i n (drop 1 os)) else 0) < suc n
          → (stands_at i n (drop 1 os) < n → before_at (drop 1 os) (stands_at i n (drop 1 os)) ≡ false)
          → before_at os (if b then suc (stands_at i n (drop 1 os)) else 0) ≡ false
      go true e l r = next_at os (stands_at i n (drop 1 os)) ∙ r (omega arith)
      go false e l r = e

  at_head : (s : RecoveredRaftStorage) (j : ℕ) → before (id_of (head_at s j)) i ≡ before_at (owners_of s.heads) j
  unfolding before_at
  at_head s j = ap (λ (o : RaftReplicaIdentity). before (identity_of o) i) (sym (owner_at s.heads j))

  pub stands : (s : RecoveredRaftStorage) → Stands s i (stands_at i s.held (owners_of s.heads))
  stands s =
      let os : List RaftReplicaIdentity = owners_of s.heads in
      record {
        low = λ j l. at_head s j ∙ walk_low s.held os j l;
        within = walk_within s.held os;
        stop = λ l. at_head s (stands_at i s.held os) ∙ walk_stop s.held os l;
      }

-- There is one such place.
pub stands_one : (s : RecoveredRaftStorage) (i : Identity) (p q : ℕ) → Stands s i p → Stands s i q → p ≡ q
stands_one s i p q a b = go (ltb p q) refl (ltb q p) refl
  where
    go : (x : Bool) → ltb p q ≡ x → (y : Bool) → ltb q p ≡ y → p ≡ q
    go true e y e' =
        let l : p < q = ltb-true p q e in
        absurd (true≢false (sym (b.low p l) ∙ a.stop (omega (arith, b.within))))
    go false e true e' =
        let l : q < p = ltb-true q p e' in
        absurd (true≢false (sym (a.low q l) ∙ b.stop (omega (arith, a.within))))
    go false e false e' = omega (arith, ltb-false p q e, ltb-false q p e')

not_before : (i : Identity) → before i i ≡ false
not_before i = go (before i i) refl
  where
    go : (b : Bool) → before i i ≡ b → b ≡ false
    go false e = refl
    go true e = sym (same_self i) ∙ before_same i i e

-- After a record was scanned.
pub scanned_is : (s s' : RecoveredRaftStorage) (st st' : List ℕ) (l : Lsn) (r : List (Held (D.Log ℕ))) → s'.scan ≡ scan_next s.scan l → (meaning s' st').replicas ≡ r
    → meaning s' st' ≡ scan (meaning s st) l.0 r
unfolding meaning scan
scanned_is s s' st st' l r e m = λ t. record { replicas = m t; scanned_records = (e t).scanned_records; last_scanned_lsn = lsn_of (e t).last_scanned_lsn }

set_at : {A : Type 0} (l : List A) (p : ℕ) (x y : A) → p ≤ length l → set (take p l ++ (x ∷ drop p l)) p y ≡ take p l ++ (y ∷ drop p l)
set_at [] zero x y h = refl
set_at [] (suc p) x y h = absurd (omega arith)
set_at (a ∷ l) zero x y h = refl
set_at {A} (a ∷ l) (suc p) x y h = ap (λ (m : List A). a ∷ m) (set_at l p x y (omega arith))

pub replicas_length : (s : RecoveredRaftStorage) (st : List ℕ) → length (meaning s st).replicas ≡ s.held
unfolding meaning
replicas_length s st = length_tab s.held (held_at s st)

module _ (s : RecoveredRaftStorage) (st : List ℕ) (i : Identity) (p : ℕ) (k : Stands s i p) where
  -- It is held at p.
  module _ (lt : p < s.held) (eq : same i (id_of (head_at s p)) ≡ true) where
    pub held_found : lookup i (meaning s st).replicas ≡ Some (log_at s st p)
    unfolding meaning
    held_found = lookup_at i s.held p (held_at s st) k.low lt eq

    pub held_place : place_of i (meaning s st).replicas ≡ Some p
    unfolding meaning
    held_place = place_at i s.held p (held_at s st) k.low lt eq

    not_yet : before i (id_of (head_at s p)) ≡ false
    not_yet = go (before i (id_of (head_at s p))) refl
      where
        go : (b : Bool) → before i (id_of (head_at s p)) ≡ b → b ≡ false
        go false x = refl
        go true x = sym eq ∙ before_same i (id_of (head_at s p)) x

    held_put : (v : D.Log ℕ) → put i v (meaning s st).replicas ≡ set (meaning s st).replicas p (held i v)
    unfolding meaning
    held_put v = put_at i v s.held p (held_at s st) k.low lt not_yet eq

    -- a step there keeps a log for it
    pub held_step : (v : D.Log ℕ) (s' : RecoveredRaftStorage) (st' : List ℕ) → Step s st p (held (id_of (head_at s p)) v) s' st'
        → (meaning s' st').replicas ≡ put i v (meaning s st).replicas
    held_step v s' st' q =
        q.means ∙ ap (λ (j : Identity). set (meaning s st).replicas p (held j v)) (sym (same_eq i (id_of (head_at s p)) eq)) ∙ sym (held_put v)

  -- It is not held; it would stand at p.
  module _ (ne : p < s.held → same i (id_of (head_at s p)) ≡ false) where
    over : p < s.held → before i (id_of (head_at s p)) ≡ true
    over l = else_before i (id_of (head_at s p)) (k.stop l) (ne l)

    open_put : (v : D.Log ℕ) → put i v (meaning s st).replicas ≡ take p (meaning s st).replicas ++ (held i v ∷ drop p (meaning s st).replicas)
    unfolding meaning
    open_put v = put_between i v s.held p (held_at s st) k.low k.within over

    module _ (asc : ascending (meaning s st).replicas ≡ true) where
      none_same : (j : ℕ) → j < s.held → same i (id_of (head_at s j)) ≡ false
      unfolding meaning
      none_same j l = go (ltb j p) refl (eqb j p) refl
        where
          go : (b : Bool) → ltb j p ≡ b → (c : Bool) → eqb j p ≡ c → same i (id_of (head_at s j)) ≡ false
          go true e c e' = not_same_back (id_of (head_at s j)) i (k.low j (ltb-true j p e))
          go false e true e' = let x : j ≡ p = eqb-true j p e' in rw x (ne (omega arith))
          go false e false e' =
              let lp : p < j = omega (arith, ltb-false j p e, eqb-false j p e') in
              let mid : before (id_of (head_at s p)) (id_of (head_at s j)) ≡ true = ascending_at s.held (held_at s st) asc p j lp l in
              before_same i (id_of (head_at s j)) (before_trans i (id_of (head_at s p)) (id_of (head_at s j)) (over (omega arith)) mid)

      pub open_found : lookup i (meaning s st).replicas ≡ None
      unfolding meaning
      open_found = lookup_none i s.held (held_at s st) none_same

      pub open_place : place_of i (meaning s st).replicas ≡ None
      unfolding meaning
      open_place = place_none i s.held (held_at s st) none_same

-- A place is opened for an identity that is not held, and perhaps a step follows there.
module _ (s : RecoveredRaftStorage) (st : List ℕ) (i : RaftReplicaIdentity) (p : ℕ) (k : Stands s (identity_of i) p)
    (ne : p < s.held → same (identity_of i) (id_of (head_at s p)) ≡ false) (lk : Linked s st) (lt : s.held < 8) where
  pub opened_put : (meaning (opened s p (empty_header i)) (opened_store st p s.held)).replicas ≡ put (identity_of i) D.empty (meaning s st).replicas
  opened_put = open_means s st p i lk k.within lt ∙ sym (open_put s st (identity_of i) p k ne D.empty)

  pub opened_step : (v : D.Log ℕ) (s' : RecoveredRaftStorage) (st' : List ℕ)
      → Step (opened s p (empty_header i)) (opened_store st p s.held) p (held (id_of (head_at (opened s p (empty_header i)) p)) v) s' st'
      → (meaning s' st').replicas ≡ put (identity_of i) v (meaning s st).replicas
  opened_step v s' st' q =
      q.means
      ∙ ap (λ (h : Header). set (meaning (opened s p (empty_header i)) (opened_store st p s.held)).replicas p (held (id_of h) v)) (new_head s st p i lk k.within lt)
      ∙ ap (λ (l : List (Held (D.Log ℕ))). set l p (held (identity_of i) v)) (open_means s st p i lk k.within lt)
      ∙ set_at (meaning s st).replicas p (held (identity_of i) D.empty) (held (identity_of i) v) (omega (arith, k.within, replicas_length s st))
      ∙ sym (open_put s st (identity_of i) p k ne v)

  -- There it is held then.
  pub opened_stands : Stands (opened s p (empty_header i)) (identity_of i) p
  opened_stands =
      record {
        low = λ j l. ap (λ (h : Header). before (id_of h) (identity_of i)) (low_head s st p i lk k.within lt j l) ∙ k.low j l;
        within = omega (arith, k.within);
        stop = λ l. ap (λ (h : Header). before (id_of h) (identity_of i)) (new_head s st p i lk k.within lt) ∙ not_before (identity_of i);
      }

  pub opened_same : same (identity_of i) (id_of (head_at (opened s p (empty_header i)) p)) ≡ true
  opened_same = ap (λ (h : Header). same (identity_of i) (id_of h)) (new_head s st p i lk k.within lt) ∙ same_self (identity_of i)
