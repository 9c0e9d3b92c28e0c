-- An entry placed in one block, or renewed: what it means, and that the block still fits.
-- Assumes nothing.
use mathlib.Core.Path.{◌≡◌, refl, sym, ap, ◌∙◌}
use mathlib.Core.Bool.{Bool, true, false}
use mathlib.Core.List.{List, [], ◌∷◌, ◌++◌}
use Prim.Native.Nat.{ℕ, ◌+◌, ◌-◌, ◌*◌, ◌<◌, ◌≤◌}
use native.Mathlib.Omega.{arith}
use native.Mathlib.Numerals.{add-one}
use native.Mathlib.Nat.{add-zero}
use borrow.Author.Tests.{ltb-true, ltb-false, eqb-true, eqb-false}
use lib.Dec.{ltb, eqb}
use lib.ListN.{length, get_or, take, length-append}
use lib.Seq.{get_or-set_same, get_or-set_other, take_all}
use Rattle.definition.specs.Table.{u64_max}
use Rattle.definition.specs.Log as D
use Rattle.store.specs.Splice.{splice, part}
use Rattle.store.specs.Zeros.{zeros}
use Rattle.store.proofs.Part.{part_before, part_after, part_in, part_left, part_right}
use Rattle.store.proofs.Zeros.{length_zeros, part_zeros, padded_none}
use Rattle.view.specs.declared.EntryPayload.{EntryPayload}
use Rattle.view.specs.declared.RecoveredRaftLogEntry.{RecoveredRaftLogEntry}
use Rattle.view.specs.declared.Header.{Header}
use Rattle.view.specs.Tab.{tab}
use Rattle.view.specs.Meaning.{no_entry, cell_at, cell_of, size_of, payload_in, entry_of, entry_at, view_of, base_of, Fits, Cell, record_at}
use Rattle.view.specs.Model.{with_entry, placed_entries, placed_bytes, appended_bytes}
use Rattle.view.proofs.Tab.{tab_set, tab_cut}

abbrev pub by_payload : D.Entry ℕ → List ℕ
by_payload e = cell_of e.payload

-- Only count and boundary of a header are asked.
pub head_fits : {h h' : Header} {es : List RecoveredRaftLogEntry} {cs : List ℕ} → Fits h es cs → h'.len ≡ h.len → h'.snapshot_index ≡ h.snapshot_index → Fits h' es cs
head_fits f e b =
    record {
      short = omega (arith, f.short);
      indices = omega (arith, f.indices);
      sizes = λ q l. f.sizes q (omega arith);
      used = λ q l. f.used q (omega arith);
      spare = λ q l l'. f.spare q (omega arith) l';
    }

-- An entry at place q, zeros in the m cells after it.
module _ (h : Header) (es : List RecoveredRaftLogEntry) (cs : List ℕ) (e : RecoveredRaftLogEntry) (c : List ℕ) (q m : ℕ) (f : Fits h es cs) (le : length es ≡ 64) (lc : length cs ≡ 4096) (k : Cell e c) (ql : q ≤ h.len) (qm : q + 1 + m ≤ 64) where
  abbrev es' : List RecoveredRaftLogEntry
  es' = placed_entries es q e

  abbrev cs' : List ℕ
  cs' = placed_bytes cs q c m

  wide : length (c ++ zeros (64 * m)) ≡ 64 + 64 * m
  wide = length-append c (zeros (64 * m)) ∙ omega (arith, length_zeros (64 * m), k)

  cell_before : (i : ℕ) → i < q → cell_at cs' i ≡ cell_at cs i
  cell_before i l = part_before cs (64 * q) (c ++ zeros (64 * m)) (64 * i) 64 (omega arith) (omega arith)

  cell_own : cell_at cs' q ≡ c
  cell_own =
      ap (λ (x : ℕ). part x 64 cs') (sym (add-zero (64 * q)))
      ∙ part_in cs (64 * q) (c ++ zeros (64 * m)) 0 64 (omega (arith, wide)) (omega arith)
      ∙ part_left 0 64 c (zeros (64 * m)) (omega (arith, k))
      ∙ take_all 64 c (omega (arith, k))

  entry_before : (i : ℕ) → i < q → entry_at es' cs' i ≡ entry_at es cs i
  entry_before i l = rw (get_or-set_other es q i e no_entry (λ x. omega arith), cell_before i l)

  entry_own : entry_at es' cs' q ≡ entry_of e c
  entry_own = rw (get_or-set_same es q e no_entry (omega arith), cell_own)

  pub placed_entries_lem : tab (q + 1) (entry_at es' cs') ≡ take q (tab h.len (entry_at es cs)) ++ (entry_of e c ∷ [])
  placed_entries_lem =
      ap (λ (x : ℕ). tab x (entry_at es' cs')) (add-one q)
      ∙ tab_cut h.len q (entry_at es cs) (entry_at es' cs') ql entry_before
      ∙ rw entry_own

  -- what the definition makes of it
  pub placed_view : (x : ℕ) → D.same_term (view_of h es cs) (record_at x e c) ≡ false → D.place (view_of h es cs) x ≡ q
      → view_of (with_entry h (q + 1) e.lsn) es' cs' ≡ D.with_entry (record_at x e c) e.lsn.0 (view_of h es cs)
  unfolding view_of D.with_entry D.placed
  placed_view x a b = rw (a, b, placed_entries_lem)

  pub placed_fits : h.len ≤ q + 1 + m → base_of h + q ≤ u64_max → Fits (with_entry h (q + 1) e.lsn) es' cs'
  placed_fits em ei = record { short = omega arith; indices = omega arith; sizes = sizes; used = used; spare = spare }
    where
      sizes : (i : ℕ) → i < q + 1 → size_of (get_or es' i no_entry).payload ≤ 64
      sizes i l = go (eqb i q) refl
        where
          go : (b : Bool) → eqb i q ≡ b → size_of (get_or es' i no_entry).payload ≤ 64
          go true x = rw (eqb-true i q x, get_or-set_same es q e no_entry (omega arith)) k.small
          go false x = rw (get_or-set_other es q i e no_entry (eqb-false i q x)) (f.sizes i (omega (arith, eqb-false i q x)))

      used : (i : ℕ) → i < q + 1 → cell_at cs' i ≡ cell_of (entry_at es' cs' i).payload
      used i l = go (eqb i q) refl
        where
          go : (b : Bool) → eqb i q ≡ b → cell_at cs' i ≡ cell_of (entry_at es' cs' i).payload
          go true x = rw (eqb-true i q x) (cell_own ∙ k.holds ∙ ap by_payload (sym entry_own))
          go false x =
              let li : i < q = omega (arith, eqb-false i q x) in
              cell_before i li ∙ f.used i (omega arith) ∙ ap by_payload (sym (entry_before i li))

      spare : (i : ℕ) → q + 1 ≤ i → i < 64 → cell_at cs' i ≡ zeros 64
      spare i l l' = go (ltb i (q + 1 + m)) refl
        where
          go : (b : Bool) → ltb i (q + 1 + m) ≡ b → cell_at cs' i ≡ zeros 64
          go true x =
              let j : ℕ = i - (q + 1) in
              let lj : i < q + 1 + m = ltb-true i (q + 1 + m) x in
              let ei : 64 * i ≡ 64 * q + (length c + 64 * j) = omega (arith, k) in
              ap (λ (y : ℕ). part y 64 cs') ei
              ∙ part_in cs (64 * q) (c ++ zeros (64 * m)) (length c + 64 * j) 64 (omega (arith, wide, k)) (omega arith)
              ∙ part_right (64 * j) 64 c (zeros (64 * m))
              ∙ part_zeros (64 * m) (64 * j) 64 (omega arith)
          go false x =
              part_after cs (64 * q) (c ++ zeros (64 * m)) (64 * i) 64 (omega (arith, wide, ltb-false i (q + 1 + m) x)) (omega arith)
              ∙ f.spare i (omega (arith, ltb-false i (q + 1 + m) x)) l'

-- Where nothing is cleared, the bytes are those of an append.
pub appended_bytes_lem : (cs : List ℕ) (q : ℕ) (c : List ℕ) → placed_bytes cs q c 0 ≡ appended_bytes cs q c
appended_bytes_lem cs q c = ap (λ (l : List ℕ). splice cs (64 * q) l) (padded_none c)

-- The entry at place q with another LSN.
module _ (h : Header) (es : List RecoveredRaftLogEntry) (cs : List ℕ) (e : RecoveredRaftLogEntry) (q : ℕ) (f : Fits h es cs) (le : length es ≡ 64) (lt : q < h.len) (same : e.payload ≡ (get_or es q no_entry).payload) where
  renewed_own : entry_at (placed_entries es q e) cs q ≡ entry_of e (cell_at cs q)
  renewed_own = rw (get_or-set_same es q e no_entry (omega (arith, f.short)))

  renewed_other : (i : ℕ) → (i ≡ q → ⊥) → entry_at (placed_entries es q e) cs i ≡ entry_at es cs i
  renewed_other i ne = rw (get_or-set_other es q i e no_entry ne)

  pub renewed_view : (x : ℕ) → D.same_term (view_of h es cs) (record_at x e (cell_at cs q)) ≡ true → D.place (view_of h es cs) x ≡ q
      → view_of (with_entry h h.len e.lsn) (placed_entries es q e) cs ≡ D.with_entry (record_at x e (cell_at cs q)) e.lsn.0 (view_of h es cs)
  unfolding view_of D.with_entry D.placed
  renewed_view x a b =
      rw (a, b, tab_set h.len q (entry_at es cs) (entry_at (placed_entries es q e) cs) lt (λ i l ne. renewed_other i ne), renewed_own)

  pub renewed_fits : Fits (with_entry h h.len e.lsn) (placed_entries es q e) cs
  renewed_fits = record { short = f.short; indices = f.indices; sizes = sizes; used = used; spare = f.spare }
    where
      sizes : (i : ℕ) → i < h.len → size_of (get_or (placed_entries es q e) i no_entry).payload ≤ 64
      sizes i l = go (eqb i q) refl
        where
          go : (b : Bool) → eqb i q ≡ b → size_of (get_or (placed_entries es q e) i no_entry).payload ≤ 64
          go true x = rw (eqb-true i q x, get_or-set_same es q e no_entry (omega (arith, f.short)), same) (f.sizes q lt)
          go false x = rw (get_or-set_other es q i e no_entry (eqb-false i q x)) (f.sizes i l)

      used : (i : ℕ) → i < h.len → cell_at cs i ≡ cell_of (entry_at (placed_entries es q e) cs i).payload
      used i l = go (eqb i q) refl
        where
          go : (b : Bool) → eqb i q ≡ b → cell_at cs i ≡ cell_of (entry_at (placed_entries es q e) cs i).payload
          go true x =
              rw (eqb-true i q x) (f.used q lt ∙ ap (λ (y : EntryPayload). cell_of (payload_in y (cell_at cs q))) (sym same) ∙ ap by_payload (sym renewed_own))
          go false x = f.used i l ∙ ap by_payload (sym (renewed_other i (eqb-false i q x)))
