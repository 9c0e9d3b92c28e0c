-- The test whether two pointers' records are the same (40) holds exactly of equal ones.
-- Assumes nothing.
use Prim.Native.Nat.{ℕ}
use mathlib.Core.Path.{◌≡◌, refl, sym, ◌∙◌}
use mathlib.Core.Bool.{Bool, true, ◌&&◌, and_assoc, and-true}
use mathlib.Core.List.{List, [], ◌∷◌}
use borrow.Author.Tests.{eqb-true, eq-eqb}
use Rattle.definition.specs.Table.{◌=?◌}
use Rattle.definition.specs.Log.{PointerRecord, same_pointer_record}
use Rattle.definition.proofs.Laws.{and_l, and_r, and_i}

-- Pairs of numbers that are equal, each; the test, and the facts.
abbrev equal : List (ℕ × ℕ) → Bool
equal [] = true
equal ((x, y) ∷ l) = x =? y && equal l

abbrev Equal : List (ℕ × ℕ) → Type 0
Equal [] = Unit {0}
Equal ((x, y) ∷ l) = (x ≡ y) × Equal l

equal_facts : (l : List (ℕ × ℕ)) → equal l ≡ true → Equal l
equal_facts [] e = tt
equal_facts ((x, y) ∷ l) e = (eqb-true x y (and_l (x =? y) (equal l) e), equal_facts l (and_r (x =? y) (equal l) e))

equal_test : (l : List (ℕ × ℕ)) → Equal l → equal l ≡ true
equal_test [] h = refl
equal_test ((x, y) ∷ l) h = and_i (x =? y) (equal l) (eq-eqb x y h.0) (equal_test l h.1)

-- The numbers of two pointers' records.
abbrev pairs : PointerRecord → PointerRecord → List (ℕ × ℕ)
pairs p q =
    (p.identity.group, q.identity.group)
    ∷ (p.identity.replica, q.identity.replica)
    ∷ (p.snapshot.version, q.snapshot.version)
    ∷ (p.snapshot.snapshot_id, q.snapshot.snapshot_id)
    ∷ (p.snapshot.last_included_index, q.snapshot.last_included_index)
    ∷ (p.snapshot.last_included_term, q.snapshot.last_included_term)
    ∷ (p.snapshot.applied_index, q.snapshot.applied_index)
    ∷ (p.snapshot.size_bytes, q.snapshot.size_bytes)
    ∷ (p.snapshot.rest, q.snapshot.rest)
    ∷ (p.snapshot.checksum.a, q.snapshot.checksum.a)
    ∷ (p.snapshot.checksum.b, q.snapshot.checksum.b)
    ∷ (p.snapshot.checksum.c, q.snapshot.checksum.c)
    ∷ (p.snapshot.checksum.d, q.snapshot.checksum.d)
    ∷ []

same_is : (p q : PointerRecord) → same_pointer_record p q ≡ equal (pairs p q)
same_is p q = simp (and_assoc, and-true)

pub record_eq : (p q : PointerRecord) → same_pointer_record p q ≡ true → p ≡ q
record_eq p q e =
    let (group, (replica, (version, (id, (index, (term, (applied, (size, (rest, (a, (b, (c, (d, z))))))))))))) = equal_facts (pairs p q) (sym (same_is p q) ∙ e) in
    λ i.
    record {
      identity = record { group = group i; replica = replica i };
      snapshot =
          record {
            version = version i;
            snapshot_id = id i;
            last_included_index = index i;
            last_included_term = term i;
            applied_index = applied i;
            size_bytes = size i;
            rest = rest i;
            checksum = record { a = a i; b = b i; c = c i; d = d i };
          };
    }

pub record_self : (p : PointerRecord) → same_pointer_record p p ≡ true
record_self p =
    same_is p p
    ∙ equal_test (pairs p p) (refl, (refl, (refl, (refl, (refl, (refl, (refl, (refl, (refl, (refl, (refl, (refl, (refl, tt)))))))))))))
