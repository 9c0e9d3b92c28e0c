-- A pointer that drops the first k entries of one block: what it means, and that the block still fits.
-- Assumes nothing.
use mathlib.Core.Path.{◌≡◌, refl, sym, ap, ◌∙◌}
use mathlib.Core.Bool.{Bool, true, false, cond}
use mathlib.Core.List.{List}
use Prim.Native.Nat.{ℕ, ◌+◌, ◌-◌, ◌*◌, ◌<◌, ◌≤◌, min, max}
use native.Mathlib.Omega.{arith}
use native.Mathlib.Nat.{zero-add}
use borrow.Author.Tests.{ltb-true, ltb-false, le-leb, lt-leb}
use lib.Dec.{ltb}
use lib.ListN.{length, length-drop, get_or, drop, drop_of_length-le}
use Rattle.std.specs.Prelude.{if◌then◌else◌, Option, None, Some}
use Rattle.definition.specs.Table.{◌<?◌, ◌≤?◌, u64_max}
use Rattle.definition.specs.Log as D
use Rattle.ids.specs.declared.Lsn.{Lsn}
use Rattle.store.specs.Splice.{part}
use Rattle.store.specs.Zeros.{zeros}
use Rattle.store.proofs.Part.{length_part, part_left, part_right, part_part, get_d_in, get_d_part}
use Rattle.store.proofs.Zeros.{part_zeros}
use Rattle.codec.specs.declared.RaftSnapshotPointerRecord.{RaftSnapshotPointerRecord}
use Rattle.codec.specs.Records.{vote_of, hard_state_of, maybe_hard_state_of, pointer_of}
use Rattle.view.specs.declared.RecoveredRaftLogEntry.{RecoveredRaftLogEntry}
use Rattle.view.specs.declared.Header.{Header}
use Rattle.view.specs.Tab.{tab}
use Rattle.view.specs.Meaning.{no_entry, cell_at, cell_of, entry_at, view_of, base_of, Fits}
use Rattle.view.specs.Model.{unvoted_hard, raised_hard, covered_by, with_pointer, dropped_entries, dropped_bytes}
use Rattle.view.proofs.Tab.{length_tab, tab_drop}
use Rattle.view.proofs.Block.{by_payload}
use Rattle.codec.specs.declared.HardState.{HardState}

module _ (h : Header) (es : List RecoveredRaftLogEntry) (cs : List ℕ) (k : ℕ) (f : Fits h es cs) (le : length es ≡ 64) (lc : length cs ≡ 4096) (lk : k ≤ h.len) where
  abbrev es' : List RecoveredRaftLogEntry
  es' = dropped_entries es k h.len

  abbrev cs' : List ℕ
  cs' = dropped_bytes cs k

  abbrev moved : List ℕ
  moved = part (64 * k) (4096 - 64 * k) cs

  length_kept : length (part k (h.len - k) es) ≡ h.len - k
  length_kept = length_part k (h.len - k) es (omega (arith, f.short))

  length_moved : length moved ≡ 4096 - 64 * k
  length_moved = length_part (64 * k) (4096 - 64 * k) cs (omega (arith, f.short))

  cell_moved : (i : ℕ) → k + i < 64 → cell_at cs' i ≡ cell_at cs (k + i)
  cell_moved i l =
      let e : 64 * k + 64 * i ≡ 64 * (k + i) = omega arith in
      part_left (64 * i) 64 moved (zeros (64 * k)) (omega (arith, length_moved))
      ∙ part_part (64 * k) (4096 - 64 * k) cs (64 * i) 64 (omega arith) (omega arith)
      ∙ ap (λ (x : ℕ). part x 64 cs) e

  cell_cleared : (i : ℕ) → 64 ≤ k + i → i < 64 → cell_at cs' i ≡ zeros 64
  cell_cleared i l l' =
      let j : ℕ = k + i - 64 in
      let e : 64 * i ≡ length moved + 64 * j = omega (arith, length_moved, f.short) in
      ap (λ (x : ℕ). part x 64 cs') e
      ∙ part_right (64 * j) 64 moved (zeros (64 * k))
      ∙ part_zeros (64 * k) (64 * j) 64 (omega arith)

  element_moved : (i : ℕ) → i < h.len - k → get_or es' i no_entry ≡ get_or es (k + i) no_entry
  element_moved i l =
      ap (λ (x : ℕ). get_or es' x no_entry) (sym (zero-add i))
      ∙ get_d_in es 0 (part k (h.len - k) es) i no_entry (omega (arith, length_kept)) (omega arith)
      ∙ get_d_part k (h.len - k) es i no_entry l

  entry_moved : (i : ℕ) → i < h.len - k → entry_at es' cs' i ≡ entry_at es cs (k + i)
  entry_moved i l = rw (element_moved i l, cell_moved i (omega (arith, f.short)))

  dropped_entries_lem : tab (h.len - k) (entry_at es' cs') ≡ drop k (tab h.len (entry_at es cs))
  dropped_entries_lem = tab_drop h.len k (h.len - k) (entry_at es cs) (entry_at es' cs') (omega arith) entry_moved

  -- any header after it
  after_fits : (h' : Header) → h'.len ≡ h.len - k → base_of h' + h'.len ≤ u64_max + 1 → Fits h' es' cs'
  after_fits h' eh ei =
      record {
        short = omega (arith, f.short);
        indices = ei;
        sizes = λ i l. rw (element_moved i (omega arith)) (f.sizes (k + i) (omega arith));
        used = used;
        spare = spare;
      }
    where
      used : (i : ℕ) → i < h'.len → cell_at cs' i ≡ cell_of (entry_at es' cs' i).payload
      used i l =
          let li : i < h.len - k = omega arith in
          cell_moved i (omega (arith, f.short)) ∙ f.used (k + i) (omega arith) ∙ ap by_payload (sym (entry_moved i li))

      spare : (i : ℕ) → h'.len ≤ i → i < 64 → cell_at cs' i ≡ zeros 64
      spare i l l' = go (ltb (k + i) 64) refl
        where
          go : (b : Bool) → ltb (k + i) 64 ≡ b → cell_at cs' i ≡ zeros 64
          go true x =
              let li : k + i < 64 = ltb-true (k + i) 64 x in
              cell_moved i li ∙ f.spare (k + i) (omega arith) li
          go false x = cell_cleared i (ltb-false (k + i) 64 x) l'

raised_means : (p : RaftSnapshotPointerRecord) (o : Option HardState) → hard_state_of (raised_hard p o) ≡ D.raised_by (pointer_of p) (maybe_hard_state_of o)
unfolding D.raised_by
raised_means p None = refl
raised_means p (Some o) = go (o.current_term <? p.last_included_term) refl
  where
    go : (b : Bool) → (o.current_term <? p.last_included_term) ≡ b →
        hard_state_of (cond b (unvoted_hard p.last_included_term p.last_included_index) (record { current_term = o.current_term; voted_for = o.voted_for; commit = max o.commit p.last_included_index }))
        ≡ (if p.last_included_term ≤? o.current_term then record { current_term = o.current_term; voted_for = vote_of o.voted_for; commit = max o.commit p.last_included_index }
        else record { current_term = p.last_included_term; voted_for = None; commit = p.last_included_index })
    go true e = rw (lt-leb p.last_included_term o.current_term (ltb-true o.current_term p.last_included_term e))
    go false e = rw (le-leb p.last_included_term o.current_term (ltb-false o.current_term p.last_included_term e))

-- past the end nothing is left, however far
drop_most : {A : Type 0} (l : List A) (j : ℕ) → drop (min (length l) j) l ≡ drop j l
drop_most l j = go (ltb j (length l)) refl
  where
    go : (b : Bool) → ltb j (length l) ≡ b → drop (min (length l) j) l ≡ drop j l
    go true e =
        let h : j < length l = ltb-true j (length l) e in
        let r : min (length l) j ≡ j = omega arith in
        ap (λ (x : ℕ). drop x l) r
    go false e =
        let h : length l ≤ j = ltb-false j (length l) e in
        let h' : length l ≤ min (length l) j = omega arith in
        drop_of_length-le l h' ∙ sym (drop_of_length-le l h)

module _ (h : Header) (es : List RecoveredRaftLogEntry) (cs : List ℕ) (p : RaftSnapshotPointerRecord) (l : Lsn) (f : Fits h es cs) (le : length es ≡ 64) (lc : length cs ≡ 4096) where
  abbrev k : ℕ
  k = covered_by h p.last_included_index

  -- as many as are not beyond it
  pub covered_is : k ≡ D.count (view_of h es cs) - length (D.beyond (pointer_of p) (view_of h es cs))
  unfolding view_of D.beyond D.base D.count
  covered_is =
      let far : ℕ = min (p.last_included_index + 1) u64_max - base_of h in
      omega (arith, length_tab h.len (entry_at es cs), length-drop far (tab h.len (entry_at es cs)))

  pub pointer_view : view_of (with_pointer h p l k) (dropped_entries es k h.len) (dropped_bytes cs k) ≡ D.with_pointer (pointer_of p) l.0 (view_of h es cs)
  unfolding view_of D.with_pointer D.beyond D.base
  pointer_view =
      let t : List (D.Entry ℕ) = tab h.len (entry_at es cs) in
      let lt : length t ≡ h.len = length_tab h.len (entry_at es cs) in
      let far : ℕ = min (p.last_included_index + 1) u64_max - base_of h in
      let e : drop k t ≡ drop far t = ap (λ (y : ℕ). drop (min y far) t) (sym lt) ∙ drop_most t far in
      rw (dropped_entries_lem h es cs k f le lc (omega arith), e, raised_means p h.hard_state)

  pub pointer_fits : Fits (with_pointer h p l k) (dropped_entries es k h.len) (dropped_bytes cs k)
  pointer_fits = after_fits h es cs k f le lc (omega arith) (with_pointer h p l k) refl (omega (arith, f.indices))
