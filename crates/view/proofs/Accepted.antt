-- What is accepted does what the definition does: each answer of a decision with the change of the model that it calls for.
-- Assumes nothing.
use mathlib.Core.Path.{◌≡◌, refl, ap, ◌∙◌}
use mathlib.Core.Bool.{Bool, true, false, ◌&&◌, not, true≢false}
use mathlib.Core.List.{List, ◌∷◌, ◌++◌}
use Prim.Native.Nat.{ℕ, ◌+◌, ◌-◌, ◌*◌, ◌≤◌}
use native.Mathlib.Omega.{arith}
use borrow.Author.Tests.{eqb-true, eq-eqb, not-false}
use lib.ListN.{length, get_or, length-append, length-set}
use Rattle.std.specs.Prelude.{if◌then◌else◌, Option, None, Some}
use Rattle.definition.specs.Table.{◌=?◌, Row, ◌when◌, first_of, is_some, u64_max}
use Rattle.definition.specs.Recovery.{refusal_of}
use Rattle.definition.specs.Records.{LogEntry, same_payload, unfit}
use Rattle.definition.specs.Log as D
use Rattle.definition.proofs.Laws.{clear}
use Rattle.ids.specs.declared.Lsn.{Lsn}
use Rattle.store.specs.Splice.{part}
use Rattle.store.specs.Zeros.{zeros}
use Rattle.store.proofs.Part.{length_splice, length_part}
use Rattle.store.proofs.Zeros.{length_zeros}
use Rattle.codec.specs.declared.HardState.{HardState}
use Rattle.codec.specs.declared.RaftLogEntryRecord.{RaftLogEntryRecord}
use Rattle.codec.specs.declared.RaftSnapshotPointerRecord.{RaftSnapshotPointerRecord}
use Rattle.codec.specs.Records.{payload_of, hard_state_of, pointer_of, log_entry_of}
use Rattle.view.specs.declared.Existing.{Existing}
use Rattle.view.specs.declared.RecoveredRaftLogEntry.{RecoveredRaftLogEntry}
use Rattle.view.specs.declared.Header.{Header}
use Rattle.view.specs.Meaning.{no_entry, cell_at, entry_at, view_of, base_of, Fits, Cell, record_at, Means}
use Rattle.view.specs.Model.{with_entry, with_hard_state, covered_by, with_pointer, maximum_term, finished, placed_entries, renewed_entry, placed_bytes, appended_bytes, dropped_entries, dropped_bytes}
use Rattle.view.specs.Readers.{place_of}
use Rattle.view.specs.Kept.{kept_entry, cell_for}
use Rattle.view.specs.Decisions.{answered, Tells, new_rows, held_rows, held_from, accepted_held, replayed}
use Rattle.view.proofs.Block.{placed_view, placed_fits, appended_bytes_lem, renewed_view, renewed_fits}
use Rattle.view.proofs.Dropped.{pointer_view, pointer_fits}
use Rattle.view.proofs.Head.{hard_state_view, hard_state_fits, finished_view, finished_fits}
use Rattle.view.proofs.Readers.{place_is, at_is, Held, held_at_lem, Appends, appends}
use Rattle.view.proofs.Kept.{kept_record, kept_cell}
use Rattle.view.proofs.Same.{payload_eq}

abbrev pub refusing : D.Answer → Bool
refusing a = is_some (refusal_of a)

-- An answer that is no refusal: no row refuses, and it is the accepted one.
record Taken (o : Option ℕ) (a b : D.Answer) : Type 0 where
  passed : o ≡ None
  same : a ≡ b

taken : (o : Option ℕ) (a b : D.Answer) → refusing b ≡ false → answered o a ≡ b → Taken o a b
taken None a b z e = record { passed = refl; same = e }
taken (Some n) a b z e = absurd (true≢false (ap refusing e ∙ z))

-- Nor does the first row: an entry that is taken after 24, or 25, is taken by the replay.
pub past_first : (r : Row) (l : List Row) (a b : D.Answer) → refusing b ≡ false → answered (first_of (r ∷ l)) a ≡ b → answered (first_of l) a ≡ b
past_first (n when true) l a b z e = absurd (true≢false (ap refusing e ∙ z))
past_first (n when false) l a b z e = e

-- An entry at an index that is held is renewed in the same term, and else replaces.
module _ (h : Header) (old index term : ℕ) where
  never_appended : accepted_held h old index term ≡ D.appended → ⊥
  never_appended = go (old =? term)
    where
      go : (b : Bool) → ◌≡◌ {A = D.Answer} (if b then D.idempotentReplay else D.replaced_suffix (record { removed_entries = held_from h index })) D.appended → ⊥
      go true e = let z : ◌≡◌ {A = ℕ} 0 1 = cc in omega arith
      go false e = let z : ◌≡◌ {A = ℕ} 0 1 = cc in omega arith

  renewed_term : accepted_held h old index term ≡ D.idempotentReplay → (old =? term) ≡ true
  renewed_term = go (old =? term)
    where
      go : (b : Bool) → ◌≡◌ {A = D.Answer} (if b then D.idempotentReplay else D.replaced_suffix (record { removed_entries = held_from h index })) D.idempotentReplay → b ≡ true
      go true e = refl
      go false e = absurd (let z : ◌≡◌ {A = ℕ} 0 1 = cc in omega arith)

  replaced_term : (n : D.Removed) → accepted_held h old index term ≡ D.replaced_suffix n → (old =? term) ≡ false
  replaced_term n = go (old =? term)
    where
      go : (b : Bool) → ◌≡◌ {A = D.Answer} (if b then D.idempotentReplay else D.replaced_suffix (record { removed_entries = held_from h index })) (D.replaced_suffix n) → b ≡ false
      go true e = absurd (let z : ◌≡◌ {A = ℕ} 0 1 = cc in omega arith)
      go false e = refl

-- A record's entry, kept at LSN l, in a block that fits.
module _ (h : Header) (es : List RecoveredRaftLogEntry) (cs : List ℕ) (f : Fits h es cs) (le : length es ≡ 64) (lc : length cs ≡ 4096)
    (r : RaftLogEntryRecord) (lent : List ℕ) (l : Lsn) (u : unfit (payload_of r.payload lent) ≡ false) (small : r.index ≤ u64_max) where
  abbrev log : D.Log ℕ
  log = view_of h es cs

  abbrev e : RecoveredRaftLogEntry
  e = kept_entry r l

  abbrev c : List ℕ
  c = cell_for r.payload lent

  abbrev after : D.Log ℕ
  after = D.with_entry (log_entry_of r lent) l.0 log

  -- an entry at place q, zeros in the m cells after it
  placed_means : (q m : ℕ) → q ≤ h.len → q + 1 + m ≤ 64 → h.len ≤ q + 1 + m → base_of h + q ≤ u64_max
      → D.same_term log (record_at r.index e c) ≡ false → D.place log r.index ≡ q
      → Means (with_entry h (q + 1) l) (placed_entries es q e) (placed_bytes cs q c m) after
  placed_means q m ql qm em ei st pl =
      let k : Cell e c = kept_cell r l lent u in
      let w : length (c ++ zeros (64 * m)) ≡ 64 + 64 * m = length-append c (zeros (64 * m)) ∙ omega (arith, length_zeros (64 * m), k) in
      record {
        view = placed_view h es cs e c q m f le lc k ql qm r.index st pl ∙ ap (λ (d : LogEntry). D.with_entry d l.0 log) (kept_record r l lent u);
        fits = placed_fits h es cs e c q m f le lc k ql qm em ei;
        places = length-set es q e ∙ le;
        bytes = length_splice cs (64 * q) (c ++ zeros (64 * m)) (omega (arith, w)) ∙ lc;
      }

  not_held : D.at log r.index ≡ None → D.same_term log (record_at r.index e c) ≡ false
  unfolding D.same_term
  not_held p = rw p

  same_term_lem : (o : D.Entry ℕ) (b : Bool) (d : LogEntry) → D.at log d.index ≡ Some o → (o.term =? d.term) ≡ b → D.same_term log d ≡ b
  unfolding D.same_term
  same_term_lem o b d p q = rw p q

  appended_means : (prior : ℕ) → D.at log r.index ≡ None → first_of (new_rows h prior r.index r.term) ≡ None
      → Means (with_entry h (h.len + 1) l) (placed_entries es h.len e) (appended_bytes cs h.len c) after
  appended_means prior p n =
      let k : Appends h r.index = appends h prior r.index r.term small n in
      rw (appended_bytes_lem cs h.len c) at
      (placed_means h.len 0 (omega arith) (omega (arith, k.room)) (omega arith) (omega (arith, k.next, k.place)) (not_held p) (place_is h es cs r.index ∙ k.place))

  -- held at place q
  module _ (q : ℕ) (at-q : place_of h r.index ≡ Some q) where
    there : Held h r.index q
    there = held_at_lem h r.index q at-q

    held_there : D.at log r.index ≡ Some (entry_at es cs q)
    held_there = at_is h es cs r.index ∙ rw at-q

    place_there : D.place log r.index ≡ q
    place_there = place_is h es cs r.index ∙ omega (arith, there)

    replaced_means : ((entry_at es cs q).term =? r.term) ≡ false
        → Means (with_entry h (q + 1) l) (placed_entries es q e) (placed_bytes cs q c (63 - q)) after
    replaced_means t =
        placed_means q (63 - q) (omega (arith, there)) (omega (arith, there, f.short)) (omega (arith, there, f.short)) (omega (arith, there))
        (same_term_lem (entry_at es cs q) false (record_at r.index e c) held_there t) place_there

    abbrev e' : RecoveredRaftLogEntry
    e' = renewed_entry (get_or es q no_entry) l

    renewed_record : ((entry_at es cs q).term =? r.term) ≡ true → same_payload (entry_at es cs q).payload (payload_of r.payload lent) ≡ true
        → record_at r.index e' (cell_at cs q) ≡ log_entry_of r lent
    renewed_record t s =
        let a : (entry_at es cs q).term ≡ r.term = eqb-true (entry_at es cs q).term r.term t in
        let b : (entry_at es cs q).payload ≡ payload_of r.payload lent = payload_eq (entry_at es cs q).payload (payload_of r.payload lent) s in
        λ i. record { index = r.index; term = a i; payload = b i }

    renewed_means : ((entry_at es cs q).term =? r.term) ≡ true → same_payload (entry_at es cs q).payload (payload_of r.payload lent) ≡ true
        → Means (with_entry h h.len l) (placed_entries es q e') cs after
    renewed_means t s =
        record {
          view =
              renewed_view h es cs e' q f le there.below refl r.index
              (same_term_lem (entry_at es cs q) true (record_at r.index e' (cell_at cs q)) held_there (eq-eqb (get_or es q no_entry).term (get_or es q no_entry).term refl)) place_there
              ∙ ap (λ (d : LogEntry). D.with_entry d l.0 log) (renewed_record t s);
          fits = renewed_fits h es cs e' q f le there.below refl;
          places = length-set es q e' ∙ le;
          bytes = lc;
        }

  -- By the answer of the replay, where what is told of the index is so.
  module _ (old : Option Existing) (prior : ℕ) (tells : Tells old (D.at log r.index) (log_entry_of r lent)) where
    pub when_appended : replayed h old prior r.index r.term ≡ D.appended
        → Means (with_entry h (h.len + 1) l) (placed_entries es h.len e) (appended_bytes cs h.len c) after
    when_appended = go old (D.at log r.index) refl tells
      where
        go : (x : Option Existing) (a : Option (D.Entry ℕ)) → D.at log r.index ≡ a → Tells x a (log_entry_of r lent) → replayed h x prior r.index r.term ≡ D.appended
            → Means (with_entry h (h.len + 1) l) (placed_entries es h.len e) (appended_bytes cs h.len c) after
        go None None p t w = appended_means prior p (taken (first_of (new_rows h prior r.index r.term)) D.appended D.appended refl w).passed
        go None (Some o) p t w = absurd t
        go (Some x) None p t w = absurd t
        go (Some x) (Some o) p t w =
            absurd (never_appended h x.term r.index r.term (taken (first_of (held_rows h x.term x.same_payload prior r.index r.term)) (accepted_held h x.term r.index r.term) D.appended refl w).same)

    -- at place q
    module _ (q : ℕ) (at-q : place_of h r.index ≡ Some q) where
      told : Tells old (Some (entry_at es cs q)) (log_entry_of r lent)
      told = rw (held_there q at-q) at tells

      pub when_replaced : (n : D.Removed) → replayed h old prior r.index r.term ≡ D.replaced_suffix n
          → Means (with_entry h (q + 1) l) (placed_entries es q e) (placed_bytes cs q c (63 - q)) after
      when_replaced n = go old told
        where
          go : (x : Option Existing) → Tells x (Some (entry_at es cs q)) (log_entry_of r lent) → replayed h x prior r.index r.term ≡ D.replaced_suffix n
              → Means (with_entry h (q + 1) l) (placed_entries es q e) (placed_bytes cs q c (63 - q)) after
          go None t w = absurd t
          go (Some x) t w =
              replaced_means q at-q
              (rw t.0 (replaced_term h x.term r.index r.term n (taken (first_of (held_rows h x.term x.same_payload prior r.index r.term)) (accepted_held h x.term r.index r.term) (D.replaced_suffix n) refl w).same))

      pub when_renewed : replayed h old prior r.index r.term ≡ D.idempotentReplay
          → Means (with_entry h h.len l) (placed_entries es q (renewed_entry (get_or es q no_entry) l)) cs after
      when_renewed = go old told
        where
          go : (x : Option Existing) → Tells x (Some (entry_at es cs q)) (log_entry_of r lent) → replayed h x prior r.index r.term ≡ D.idempotentReplay
              → Means (with_entry h h.len l) (placed_entries es q (renewed_entry (get_or es q no_entry) l)) cs after
          go None t w = absurd t
          go (Some x) t w =
              let y : Taken (first_of (held_rows h x.term x.same_payload prior r.index r.term)) (accepted_held h x.term r.index r.term) D.idempotentReplay =
              taken (first_of (held_rows h x.term x.same_payload prior r.index r.term)) (accepted_held h x.term r.index r.term) D.idempotentReplay refl w in
              let v : (x.term =? r.term) ≡ true = renewed_term h x.term r.index r.term y.same in
              let z : (x.term =? r.term && not x.same_payload) ≡ false = (clear (held_rows h x.term x.same_payload prior r.index r.term) y.passed).0 in
              let s' : x.same_payload ≡ true = not-false x.same_payload (rw v at z) in
              renewed_means q at-q (rw t.0 v) (t.1 (eqb-true x.term r.term v) ∙ s')

-- A hard state, a pointer and finishing.
module _ (h : Header) (es : List RecoveredRaftLogEntry) (cs : List ℕ) (f : Fits h es cs) (le : length es ≡ 64) (lc : length cs ≡ 4096) where
  pub hard_state_means : (x : HardState) (l : Lsn) → Means (with_hard_state h x l) es cs (D.with_hard_state (hard_state_of x) l.0 (view_of h es cs))
  hard_state_means x l = record { view = hard_state_view h es cs x l; fits = hard_state_fits h es cs x l f; places = le; bytes = lc }

  pub pointer_means : (p : RaftSnapshotPointerRecord) (l : Lsn) (k : ℕ) → k ≡ covered_by h p.last_included_index
      → Means (with_pointer h p l k) (dropped_entries es k h.len) (dropped_bytes cs k) (D.with_pointer (pointer_of p) l.0 (view_of h es cs))
  pointer_means p l k ek = rw ek (go (covered_by h p.last_included_index) refl)
    where
      go : (j : ℕ) → covered_by h p.last_included_index ≡ j
          → Means (with_pointer h p l j) (dropped_entries es j h.len) (dropped_bytes cs j) (D.with_pointer (pointer_of p) l.0 (view_of h es cs))
      go j ej =
          let lj : j ≤ h.len = omega arith in
          let a : length (part j (h.len - j) es) ≡ h.len - j = length_part j (h.len - j) es (omega (arith, f.short)) in
          let b : length (part (64 * j) (4096 - 64 * j) cs) ≡ 4096 - 64 * j = length_part (64 * j) (4096 - 64 * j) cs (omega (arith, f.short)) in
          record {
            view = rw ej at (pointer_view h es cs p l f le lc);
            fits = rw ej at (pointer_fits h es cs p l f le lc);
            places = length_splice es 0 (part j (h.len - j) es) (omega (arith, f.short)) ∙ le;
            bytes = length-append (part (64 * j) (4096 - 64 * j) cs) (zeros (64 * j)) ∙ omega (arith, length_zeros (64 * j), f.short);
          }

  pub finished_means : Means (finished h (maximum_term h es)) es cs (D.normalize_hard_state_term (view_of h es cs))
  finished_means =
      record { view = finished_view h es cs (omega (arith, f.short)); fits = finished_fits h es cs (omega (arith, f.short)) f; places = le; bytes = lc }
