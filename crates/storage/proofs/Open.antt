-- A place is opened for a new replica: it is empty there, and the others mean what they meant.
-- Assumes nothing.
use mathlib.Core.Path.{◌≡◌, refl, sym, ap, ◌∙◌}
use mathlib.Core.Bool.{Bool, true, false}
use mathlib.Core.List.{List, ◌∷◌, ◌++◌}
use Prim.Native.Nat.{ℕ, suc, ◌+◌, ◌-◌, ◌*◌, ◌<◌, ◌≤◌}
use native.Mathlib.Omega.{arith}
use native.Mathlib.Nat.{add-zero}
use native.Mathlib.Numerals.{add-one}
use borrow.Author.Tests.{ltb-true, ltb-false, eqb-true, eqb-false}
use lib.Dec.{ltb, eqb}
use lib.ListN.{length, get_or, take, drop, length-append}
use Rattle.definition.specs.Log as D
use Rattle.definition.specs.Recovery.{held}
use Rattle.ids.specs.declared.RaftReplicaIdentity.{RaftReplicaIdentity}
use Rattle.ids.specs.Identity.{identity_of}
use Rattle.store.specs.Splice.{part}
use Rattle.store.specs.Zeros.{zeros}
use Rattle.store.proofs.Part.{part_before, part_after, part_in, part_left, part_right, part_part, length_part, get_d_in, get_d_before, get_d_part, length_splice}
use Rattle.store.proofs.Zeros.{length_zeros, part_zeros}
use Rattle.view.specs.declared.Header.{Header}
use Rattle.view.specs.declared.RecoveredRaftLogEntry.{RecoveredRaftLogEntry}
use Rattle.view.specs.Meaning.{Fits}
use Rattle.view.specs.Model.{empty_header}
use Rattle.view.proofs.Tab.{tab_open}
use Rattle.view.specs.Tab.{tab}
use Rattle.view.proofs.Head.{empty_view, empty_fits}
use Rattle.storage.specs.declared.RecoveredRaftStorage.{RecoveredRaftStorage}
use Rattle.storage.specs.Model.{no_header, head_at, entries_in, bytes_in, opened, opened_store}
use Rattle.storage.specs.Meaning.{held_at, log_at, meaning, Linked}

module _ (s : RecoveredRaftStorage) (st : List ℕ) (p : ℕ) (i : RaftReplicaIdentity) (k : Linked s st) (le : p ≤ s.held) (lt : s.held < 8) where
  abbrev s' : RecoveredRaftStorage
  s' = opened s p (empty_header i)

  abbrev st' : List ℕ
  st' = opened_store st p s.held

  abbrev hs : List Header
  hs = empty_header i ∷ part p (s.held - p) s.heads

  abbrev es : List RecoveredRaftLogEntry
  es = part (64 * p) (64 * (s.held - p)) s.entries

  abbrev bs : List ℕ
  bs = part (4096 * p) (4096 * (s.held - p)) st

  length_hs : length hs ≡ s.held - p + 1
  length_hs = ap suc (length_part p (s.held - p) s.heads (omega (arith, k))) ∙ sym (add-one (s.held - p))

  length_es : length es ≡ 64 * (s.held - p)
  length_es = length_part (64 * p) (64 * (s.held - p)) s.entries (omega (arith, k))

  length_bs : length (zeros 4096 ++ bs) ≡ 4096 + 4096 * (s.held - p)
  length_bs = length-append (zeros 4096) bs ∙ omega (arith, length_zeros 4096, length_part (4096 * p) (4096 * (s.held - p)) st (omega (arith, k)))

  -- below p
  pub low_head : (j : ℕ) → j < p → head_at s' j ≡ head_at s j
  low_head j l = get_d_before s.heads p hs j no_header l (omega (arith, k))

  low_entries : (j : ℕ) → j < p → entries_in s' j ≡ entries_in s j
  low_entries j l = part_before s.entries (64 * (p + 1)) es (64 * j) 64 (omega arith) (omega (arith, k))

  low_bytes : (j : ℕ) → j < p → bytes_in st' j ≡ bytes_in st j
  low_bytes j l = part_before st (4096 * p) (zeros 4096 ++ bs) (4096 * j) 4096 (omega arith) (omega (arith, k))

  -- at p
  pub new_head : head_at s' p ≡ empty_header i
  new_head = ap (λ (x : ℕ). get_or s'.heads x no_header) (sym (add-zero p)) ∙ get_d_in s.heads p hs 0 no_header (omega (arith, length_hs)) (omega (arith, k))

  new_bytes : bytes_in st' p ≡ zeros 4096
  new_bytes =
      ap (λ (x : ℕ). part x 4096 st') (sym (add-zero (4096 * p)))
      ∙ part_in st (4096 * p) (zeros 4096 ++ bs) 0 4096 (omega (arith, length_bs)) (omega (arith, k))
      ∙ part_left 0 4096 (zeros 4096) bs (omega (arith, length_zeros 4096))
      ∙ part_zeros 4096 0 4096 (omega arith)

  -- above p
  module _ (j : ℕ) (l : p ≤ j) (l' : j < s.held) where
    high_head : head_at s' (suc j) ≡ head_at s j
    high_head =
        let e : suc j ≡ p + suc (j - p) = omega arith in
        let e' : p + (j - p) ≡ j = omega arith in
        ap (λ (x : ℕ). get_or s'.heads x no_header) e
        ∙ get_d_in s.heads p hs (suc (j - p)) no_header (omega (arith, length_hs)) (omega (arith, k))
        ∙ get_d_part p (s.held - p) s.heads (j - p) no_header (omega arith)
        ∙ ap (λ (x : ℕ). get_or s.heads x no_header) e'

    high_entries : entries_in s' (suc j) ≡ entries_in s j
    high_entries =
        let e : 64 * suc j ≡ 64 * (p + 1) + 64 * (j - p) = omega arith in
        let e' : 64 * p + 64 * (j - p) ≡ 64 * j = omega arith in
        ap (λ (x : ℕ). part x 64 s'.entries) e
        ∙ part_in s.entries (64 * (p + 1)) es (64 * (j - p)) 64 (omega (arith, length_es)) (omega (arith, k))
        ∙ part_part (64 * p) (64 * (s.held - p)) s.entries (64 * (j - p)) 64 (omega arith) (omega (arith, k))
        ∙ ap (λ (x : ℕ). part x 64 s.entries) e'

    high_bytes : bytes_in st' (suc j) ≡ bytes_in st j
    high_bytes =
        let e : 4096 * suc j ≡ 4096 * p + (length (zeros 4096) + 4096 * (j - p)) = omega (arith, length_zeros 4096) in
        let e' : 4096 * p + 4096 * (j - p) ≡ 4096 * j = omega arith in
        ap (λ (x : ℕ). part x 4096 st') e
        ∙ part_in st (4096 * p) (zeros 4096 ++ bs) (length (zeros 4096) + 4096 * (j - p)) 4096 (omega (arith, length_bs, length_zeros 4096)) (omega (arith, k))
        ∙ part_right (4096 * (j - p)) 4096 (zeros 4096) bs
        ∙ part_part (4096 * p) (4096 * (s.held - p)) st (4096 * (j - p)) 4096 (omega arith) (omega (arith, k))
        ∙ ap (λ (x : ℕ). part x 4096 st) e'

  pub open_means : (meaning s' st').replicas ≡ take p (meaning s st).replicas ++ (held (identity_of i) D.empty ∷ drop p (meaning s st).replicas)
  unfolding meaning
  open_means =
      ap (λ (x : ℕ). tab x (held_at s' st')) (add-one s.held)
      ∙ tab_open s.held p (held_at s st) (held_at s' st') le
      (λ j l. rw (low_head j l, low_entries j l, low_bytes j l))
      (λ j l l'. rw (high_head j l l', high_entries j l l', high_bytes j l l'))
      ∙ rw (new_head, empty_view i (entries_in s' p) (bytes_in st' p))

  -- the new replica's log
  pub new_log : log_at s' st' p ≡ D.empty
  new_log = rw new_head (empty_view i (entries_in s' p) (bytes_in st' p))

  pub open_linked : Linked s' st'
  open_linked =
      record {
        eight = length_splice s.heads p hs (omega (arith, k, length_hs)) ∙ k.eight;
        all = length_splice s.entries (64 * (p + 1)) es (omega (arith, k, length_es)) ∙ k.all;
        size = length_splice st (4096 * p) (zeros 4096 ++ bs) (omega (arith, k, length_bs)) ∙ k.size;
        few = omega arith;
        own = own;
        free = λ j l l'. part_after st (4096 * p) (zeros 4096 ++ bs) (4096 * j) 4096 (omega (arith, length_bs)) (omega (arith, k)) ∙ k.free j (omega arith) l';
      }
    where
      own : (j : ℕ) → j < s.held + 1 → Fits (head_at s' j) (entries_in s' j) (bytes_in st' j)
      own j l = go (ltb j p) refl (eqb j p) refl
        where
          go : (b : Bool) → ltb j p ≡ b → (b' : Bool) → eqb j p ≡ b' → Fits (head_at s' j) (entries_in s' j) (bytes_in st' j)
          go true e b' e' =
              let lj : j < p = ltb-true j p e in
              rw (low_head j lj, low_entries j lj, low_bytes j lj) (k.own j (omega arith))
          go false e true e' = rw (eqb-true j p e', new_head, new_bytes) (empty_fits i (entries_in s' p))
          go false e false e' =
              let a : p ≤ j - 1 = omega (arith, ltb-false j p e, eqb-false j p e') in
              let b : j - 1 < s.held = omega (arith, ltb-false j p e, eqb-false j p e') in
              let ej : j ≡ suc (j - 1) = omega (arith, ltb-false j p e, eqb-false j p e') in
              rw (ej, high_head (j - 1) a b, high_entries (j - 1) a b, high_bytes (j - 1) a b) (k.own (j - 1) b)
