-- Finding a replica's place: the turns of the walk, and what the answer says of the definition's replicas.
-- Assumes nothing.
use mathlib.Core.Path.{◌≡◌, refl, ◌∙◌}
use mathlib.Core.Bool.{Bool, true, false, cond, not}
use mathlib.Core.List.{List, [], ◌∷◌}
use Prim.Native.Nat.{ℕ, zero, suc, ◌+◌, ◌<◌, ◌≤◌}
use native.Mathlib.Omega.{arith}
use borrow.Author.Tests.{leb-true, leb-false, lt-leb}
use lib.Dec.{leb}
use lib.ListN.{get_or, length, take}
use Rattle.std.specs.Prelude.{if◌then◌else◌, None, Some, Result, Ok, Err, unwrap_or}
use Rattle.std.specs.List.{position_from}
use Rattle.definition.specs.Records.{Identity, same, before}
use Rattle.definition.specs.Recovery.{lookup, place_of, ascending}
use Rattle.ids.specs.declared.RaftReplicaIdentity.{RaftReplicaIdentity}
use Rattle.ids.specs.Identity.{identity_of}
use Rattle.view.specs.declared.Header.{Header}
use Rattle.view.specs.Meaning.{id_of}
use Rattle.storage.specs.declared.RecoveredRaftStorage.{RecoveredRaftStorage}
use Rattle.storage.specs.Model.{head_at}
use Rattle.storage.specs.Meaning.{log_at, meaning}
use Rattle.storage.specs.Place.{owners_of, no_owner, stands_at, Stands}
use Rattle.storage.specs.Finding.{found_from, found_in, found_at}
use Rattle.storage.proofs.Place.{owner_at, stands, held_found, held_place, open_found, open_place}

-- The walk as the library's: the first of the n headers that does not stand before i, or the end.
first_from : (i : Identity) (k n : ℕ) (hs : List Header) → n ≤ length hs
    → unwrap_or (position_from (λ h. not (before (id_of h) i)) k (take n hs)) (k + n) ≡ k + stands_at i n (owners_of hs)
unfolding stands_at
first_from i k zero hs l = refl
first_from i k (suc n) [] l = absurd (omega arith)
first_from i k (suc n) (h ∷ hs) l = go (first_from i (k + 1) n hs (omega arith)) (before (id_of h) i)
  where
    go : unwrap_or (position_from (λ h. not (before (id_of h) i)) (k + 1) (take n hs)) (k + 1 + n) ≡ k + 1 + stands_at i n (owners_of hs)
        → (b : Bool)
        → unwrap_or (cond (not b) (Some k) (position_from (λ h. not (before (id_of h) i)) (k + 1) (take n hs))) (k + suc n)
        ≡ k + (if b then suc (stands_at i n (owners_of hs)) else 0)
    go e true = let z : k + 1 + n ≡ k + suc n = omega arith in (rw z at e) ∙ omega arith
    go e false = omega arith

pub first_stands : (i : Identity) (n : ℕ) (hs : List Header) → n ≤ length hs
    → unwrap_or (position_from (λ h. not (before (id_of h) i)) 0 (take n hs)) n ≡ stands_at i n (owners_of hs)
first_stands i n hs l = let z : 0 + n ≡ n = omega arith in (rw z at (first_from i 0 n hs l)) ∙ omega arith

-- A held place that is the identity's own.
pub is_held : (os : List RaftReplicaIdentity) (n : ℕ) (i : Identity) (p : ℕ) → p ≡ stands_at i n os → p < n → same i (identity_of (get_or os p no_owner)) ≡ true → Ok p ≡ found_in os n i
is_held os n i p e l m = rw (← e, lt-leb n p l, m)

-- What the answer says of the places.
abbrev pub Told : RecoveredRaftStorage → Identity → Result ℕ ℕ → Type 0
Told s i (Ok p) = Stands s i p × (p < s.held) × (same i (id_of (head_at s p)) ≡ true)
Told s i (Err p) = Stands s i p × (p < s.held → same i (id_of (head_at s p)) ≡ false)

pub found_told : (s : RecoveredRaftStorage) (i : Identity) → Told s i (found_at s i)
found_told s i = go (stands_at i s.held (owners_of s.heads)) (stands i s)
  where
    go : (p : ℕ) → Stands s i p → Told s i (found_from (owners_of s.heads) s.held i p)
    go p k = rw (owner_at s.heads p) (on (leb s.held p) refl (same i (id_of (head_at s p))) refl)
      where
        on : (b : Bool) → leb s.held p ≡ b → (c : Bool) → same i (id_of (head_at s p)) ≡ c → Told s i (cond b (Err p) (cond c (Ok p) (Err p)))
        on true e c e' = (k, λ l. absurd (omega (arith, leb-true s.held p e)))
        on false e true e' = (k, leb-false s.held p e, e')
        on false e false e' = (k, λ l. e')

-- And of the definition's replicas.
module _ (s : RecoveredRaftStorage) (st : List ℕ) (i : Identity) (p : ℕ) where
  pub at_lookup : Told s i (Ok p) → lookup i (meaning s st).replicas ≡ Some (log_at s st p)
  at_lookup t = held_found s st i p t.0 t.1 t.2

  pub at_place : Told s i (Ok p) → place_of i (meaning s st).replicas ≡ Some p
  at_place t = held_place s st i p t.0 t.1 t.2

  module _ (asc : ascending (meaning s st).replicas ≡ true) where
    pub missing_lookup : Told s i (Err p) → lookup i (meaning s st).replicas ≡ None
    missing_lookup t = open_found s st i p t.0 t.1 asc

    pub missing_place : Told s i (Err p) → place_of i (meaning s st).replicas ≡ None
    missing_place t = open_place s st i p t.0 t.1 asc
