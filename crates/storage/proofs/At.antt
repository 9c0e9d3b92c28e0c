-- A change at one replica: another header, other entries and other bytes in its own places. The others mean what they meant.
-- Assumes nothing.
use mathlib.Core.Path.{◌≡◌, refl, sym, ap, ◌∙◌}
use mathlib.Core.Bool.{Bool, true, false}
use mathlib.Core.Logic.{⊎_elim, ◌⊎◌, inl, inr}
use mathlib.Core.List.{List, ◌++◌}
use Prim.Native.Nat.{ℕ, suc, ◌+◌, ◌*◌, ◌<◌, ◌≤◌}
use native.Mathlib.Nat.{add-zero, mul-le-mul_left}
use native.Mathlib.Omega.{arith}
use borrow.Author.Tests.{ltb-true, ltb-false, eqb-true, eqb-false}
use lib.Dec.{ltb, eqb}
use lib.ListN.{length, set, take, drop, length-append, length-set}
use lib.Seq.{drop_at, get_or-set_same, get_or-set_other, length-take-le}
use Rattle.definition.specs.Log.{Log}
use Rattle.definition.specs.Recovery.{Held}
use Rattle.store.specs.Splice.{part, splice}
use Rattle.store.proofs.Part.{length_part, part_before, part_in, part_after, block_own, in_block, length_splice}
use Rattle.view.specs.declared.Header.{Header}
use Rattle.view.specs.declared.RecoveredRaftLogEntry.{RecoveredRaftLogEntry}
use Rattle.view.specs.Meaning.{held_of, Fits}
use Rattle.view.proofs.Tab.{tab_set}
use Rattle.storage.specs.declared.Scan.{Scan}
use Rattle.storage.specs.declared.RecoveredRaftStorage.{RecoveredRaftStorage}
use Rattle.storage.specs.Model.{no_header, head_at, entries_in, bytes_in, changed, changed_store}
use Rattle.storage.specs.Meaning.{held_at, meaning, Linked, Step}

apart : (j p : ℕ) → (j ≡ p → ⊥) → (j < p) ⊎ (p < j)
apart j p ne = go (ltb j p) refl
  where
    go : (b : Bool) → ltb j p ≡ b → (j < p) ⊎ (p < j)
    go true e = inl (ltb-true j p e)
    go false e = inr (omega (arith, ltb-false j p e))

-- Blocks of w: a change of block p is in no other.
block_other : {A : Type 0} (w : ℕ) (d : List A) (p : ℕ) (ys : List A) (j : ℕ) → length ys ≡ w → w * p ≤ length d → (j ≡ p → ⊥)
    → part (w * j) w (splice d (w * p) ys) ≡ part (w * j) w d
block_other w d p ys j e l ne =
    ⊎_elim (λ (h : j < p). part_before d (w * p) ys (w * j) w (lower h) l) (λ (h : p < j). part_after d (w * p) ys (w * j) w (upper h) l) (apart j p ne)
  where
    lower : j < p → w * j + w ≤ w * p
    lower h = omega (arith, mul-le-mul_left {m = suc j} {n = p} w h)

    upper : p < j → w * p + length ys ≤ w * j
    upper h = omega (arith, mul-le-mul_left {m = suc p} {n = j} w h)

module _ {A : Type 0} where
  -- A block that is replaced twice, and an element by itself.
  splice_over : (d : List A) (at : ℕ) (xs ys : List A) → length xs ≡ length ys → at + length xs ≤ length d → splice (splice d at xs) at ys ≡ splice d at ys
  unfolding splice
  splice_over d at xs ys e h =
      let a : length (take at d) ≡ at = length-take-le at d (omega arith) in
      let p : List A = take at d ++ xs in
      let q : List A = drop (at + length xs) d in
      let ep : length p ≡ at + length ys = length-append (take at d) xs ∙ (omega arith) in
      let t : take at (p ++ q) ≡ take at d = part_before d at xs 0 at (omega arith) (omega arith) in
      let u : drop (at + length ys) (p ++ q) ≡ drop (at + length ys) d = drop_at p q (at + length ys) ep ∙ ap (λ (n : ℕ). drop (at + n) d) e in
      rw (t, u)

  -- A block of w is replaced, and then n of it move to its front.
  pub block_front : (d : List A) (a w k n : ℕ) (ys : List A) → length ys ≡ w → a + w ≤ length d → k + n ≤ w
      → splice (splice d a ys) a (part (a + k) n (splice d a ys)) ≡ splice d a (splice ys 0 (part k n ys))
  block_front d a w k n ys e h m =
      let zs : List A = part k n ys in
      let lz : length zs ≡ n = length_part k n ys (omega arith) in
      let ls : length (splice ys 0 zs) ≡ length ys = length_splice ys 0 zs (omega arith) in
      let ld : length (splice d a ys) ≡ length d = length_splice d a ys (omega arith) in
      ap (λ (l : List A). splice (splice d a ys) a l) (part_in d a ys k n (omega arith) (omega arith))
      ∙ ap (λ (x : ℕ). splice (splice d a ys) x zs) (sym (add-zero a))
      ∙ in_block (splice d a ys) a w 0 zs (omega arith) (omega arith)
      ∙ ap (λ (l : List A). splice (splice d a ys) a (splice l 0 zs)) (block_own d a ys w e (omega arith))
      ∙ splice_over d a ys (splice ys 0 zs) (sym ls) (omega arith)

module _ (s : RecoveredRaftStorage) (st : List ℕ) (p : ℕ) (k : Linked s st) (lt : p < s.held) where
  pub entries_length : length (entries_in s p) ≡ 64
  entries_length = length_part (64 * p) 64 s.entries (omega (arith, k))

  pub bytes_length : length (bytes_in st p) ≡ 4096
  bytes_length = length_part (4096 * p) 4096 st (omega (arith, k))

  module _ (h : Header) (es : List RecoveredRaftLogEntry) (cs : List ℕ) (n : Scan) (le : length es ≡ 64) (lc : length cs ≡ 4096) where
    abbrev s' : RecoveredRaftStorage
    s' = changed s p h es n

    abbrev st' : List ℕ
    st' = changed_store st p cs

    own_head : head_at s' p ≡ h
    own_head = get_or-set_same s.heads p h no_header (omega (arith, k))

    own_entries : entries_in s' p ≡ es
    own_entries = block_own s.entries (64 * p) es 64 le (omega (arith, k))

    own_bytes : bytes_in st' p ≡ cs
    own_bytes = block_own st (4096 * p) cs 4096 lc (omega (arith, k))

    other_head : (j : ℕ) → (j ≡ p → ⊥) → head_at s' j ≡ head_at s j
    other_head j ne = get_or-set_other s.heads p j h no_header ne

    other_entries : (j : ℕ) → (j ≡ p → ⊥) → entries_in s' j ≡ entries_in s j
    other_entries j ne = block_other 64 s.entries p es j le (omega (arith, k)) ne

    other_bytes : (j : ℕ) → (j ≡ p → ⊥) → bytes_in st' j ≡ bytes_in st j
    other_bytes j ne = block_other 4096 st p cs j lc (omega (arith, k)) ne

    at_replica : (meaning s' st').replicas ≡ set (meaning s st).replicas p (held_of h es cs)
    unfolding meaning
    at_replica =
        tab_set s.held p (held_at s st) (held_at s' st') lt (λ j l ne. rw (other_head j ne, other_entries j ne, other_bytes j ne))
        ∙ rw (own_head, own_entries, own_bytes)

    at_linked : Fits h es cs → Linked s' st'
    at_linked f =
        record {
          eight = length-set s.heads p h ∙ k.eight;
          all = length_splice s.entries (64 * p) es (omega (arith, k)) ∙ k.all;
          size = length_splice st (4096 * p) cs (omega (arith, k)) ∙ k.size;
          few = k.few;
          own = fits;
          free = λ j l l'. other_bytes j (λ e. omega arith) ∙ k.free j l l';
        }
      where
        fits : (j : ℕ) → j < s.held → Fits (head_at s' j) (entries_in s' j) (bytes_in st' j)
        fits j l = go (eqb j p) refl
          where
            go : (b : Bool) → eqb j p ≡ b → Fits (head_at s' j) (entries_in s' j) (bytes_in st' j)
            go true e = rw (eqb-true j p e, own_head, own_entries, own_bytes) f
            go false e = rw (other_head j (eqb-false j p e), other_entries j (eqb-false j p e), other_bytes j (eqb-false j p e)) (k.own j l)

    -- A step, by its blocks.
    pub step_at : (a : Held (Log ℕ)) → Fits h es cs → held_of h es cs ≡ a → Step s st p a s' st'
    step_at a f e =
        record {
          means = at_replica ∙ ap (λ (x : Held (Log ℕ)). set (meaning s st).replicas p x) e;
          linked = at_linked f;
        }
