-- Where a record looks, and what is left of its replica's block, as the model has it.
-- Assumes nothing.
use mathlib.Core.Path.{◌≡◌, refl, ap, ◌∙◌}
use mathlib.Core.Bool.{Bool, true, false}
use mathlib.Core.List.{List, ◌++◌, append-nil}
use Prim.Native.Nat.{ℕ, ◌+◌, ◌-◌, ◌*◌, ◌<◌, ◌≤◌}
use native.Mathlib.Omega.{arith}
use borrow.Author.Tests.{ltb-true}
use lib.ListN.{length, length-append}
use lib.Seq.{drop-length}
use Rattle.std.specs.Prelude.{if◌then◌else◌, Option, None, Some, Ok}
use Rattle.definition.specs.Table.{◌<?◌, first_of}
use Rattle.ids.specs.declared.Lsn.{Lsn}
use Rattle.ids.specs.Identity.{identity_of}
use Rattle.store.specs.Splice.{part, splice}
use Rattle.store.specs.Zeros.{zeros, padded}
use Rattle.store.proofs.Part.{length_part, join}
use Rattle.store.proofs.Zeros.{length_zeros}
use Rattle.codec.specs.declared.RaftLogEntryRecord.{RaftLogEntryRecord}
use Rattle.codec.specs.declared.RaftSnapshotPointerRecord.{RaftSnapshotPointerRecord}
use Rattle.view.specs.declared.Header.{Header}
use Rattle.view.specs.declared.RecoveredRaftLogEntry.{RecoveredRaftLogEntry}
use Rattle.view.specs.Decisions.{pointer_rows_of}
use Rattle.view.specs.Kept.{cell_for, Comparable, Writable}
use Rattle.view.specs.Meaning.{base_of}
use Rattle.view.specs.Model.{with_pointer, covered_by, placed_bytes, dropped_bytes}
use Rattle.view.specs.Readers.{place_of}
use Rattle.view.proofs.Kept.{kept_cell}
use Rattle.view.proofs.Readers.{Held, held_at_lem}
use Rattle.replay.specs.Plan.{look_of, held_term_in, pointed, pointer_plan, Replayable}

pub look_below : (h : Header) (x : ℕ) → look_of h x < 64
look_below h x = go (x - base_of h <? 64) refl
  where
    go : (b : Bool) → (x - base_of h <? 64) ≡ b → (if b then x - base_of h else 0) < 64
    go true p = ltb-true _ _ p
    go false p = omega arith

-- A held place is one of 64.
pub held_below : (h : Header) (x q : ℕ) → place_of h x ≡ Some q → h.len ≤ 64 → q < 64
held_below h x q e l = let k : Held h x q = held_at_lem h x q e in omega (arith, k.below)

module _ (h : Header) (e : RecoveredRaftLogEntry) (r : RaftLogEntryRecord) (cs lent : List ℕ) (k : Replayable h e r cs lent) where
  -- A held entry may be compared with the record, and the record's cell may be written.
  pub comparable : (q : ℕ) → place_of h r.index ≡ Some q → Comparable e.payload cs (64 * q) r.payload lent
  comparable q p =
      let l : q < 64 = held_below h r.index q p k.holds.short in
      record { inside = omega (arith, k.holds.bytes); small = k.holds.small q p; fit = k.fit }

  pub writable : (q : ℕ) → q < 64 → Writable cs (64 * q) r.payload lent
  writable q l = record { inside = omega (arith, k.holds.bytes); fit = k.fit }

  -- A cell was put, then the cells after it were cleared.
  pub placed_is : (q : ℕ) (l : Lsn) (cs' cs'' : List ℕ) → q < 64
      → cs' ≡ splice cs (64 * q) (cell_for r.payload lent)
      → cs'' ≡ splice cs' (0 + 64 * (q + 1)) (zeros (4096 - 64 * (q + 1)))
      → cs'' ≡ placed_bytes cs q (cell_for r.payload lent) (63 - q)
  placed_is q l cs' cs'' room e' e'' =
      let z : 4096 - 64 * (q + 1) ≡ 64 * (63 - q) = omega arith in
      let w : length (cell_for r.payload lent) ≡ 64 = (kept_cell r l lent k.fit).size in
      e''
      ∙ ap (λ (x : List ℕ). splice x (0 + 64 * (q + 1)) (zeros (4096 - 64 * (q + 1)))) e'
      ∙ join cs (64 * q) (cell_for r.payload lent) (zeros (4096 - 64 * (q + 1))) (0 + 64 * (q + 1)) (omega (arith, k.holds.bytes)) (omega (arith, w))
      ∙ ap (λ (n : ℕ). splice cs (64 * q) (cell_for r.payload lent ++ zeros n)) z

-- A whole list in the place of another.
splice_whole : (d ys : List ℕ) → length ys ≡ length d → splice d 0 ys ≡ ys
unfolding splice
splice_whole d ys e =
    let z : 0 + length ys ≡ length d = omega arith in
    rw (z, drop-length) (append-nil ys)

-- The first k cells went, and zeros stand after the others.
pub dropped_is : (cs : List ℕ) (k : ℕ) (cs' : List ℕ) → length cs ≡ 4096 → k ≤ 64
    → cs' ≡ splice cs 0 (padded (part (0 + 64 * k) (4096 - 64 * k) cs) (64 * k)) → cs' ≡ dropped_bytes cs k
dropped_is cs k cs' l b e =
    let z : 0 + 64 * k ≡ 64 * k = omega arith in
    let a : length (part (64 * k) (4096 - 64 * k) cs) ≡ 4096 - 64 * k = length_part (64 * k) (4096 - 64 * k) cs (omega arith) in
    let w : length (padded (part (64 * k) (4096 - 64 * k) cs) (64 * k)) ≡ length cs = rw (length-append, length_zeros, a) (omega arith) in
    e
    ∙ ap (λ (x : ℕ). splice cs 0 (padded (part x (4096 - 64 * k) cs) (64 * k))) z
    ∙ splice_whole cs (padded (part (64 * k) (4096 - 64 * k) cs) (64 * k)) w

-- A pointer covers at most what is held.
pub covered_few : (h : Header) (x k : ℕ) → k ≡ covered_by h x → h.len ≤ 64 → k ≤ 64
covered_few h x k e l = omega arith

-- A pointer that no row refuses was kept, and the entries that it covers went.
pub plan_installs : (h : Header) (e : RecoveredRaftLogEntry) (p : RaftSnapshotPointerRecord) (l : Lsn) (cs : List ℕ) (t : Option ℕ) (k : ℕ) (h' : Header) (cs' : List ℕ)
    → t ≡ held_term_in (place_of h p.last_included_index) e.term
    → first_of (pointer_rows_of (identity_of p.identity) h p t) ≡ None
    → k ≡ covered_by h p.last_included_index → h' ≡ with_pointer h p l k → cs' ≡ dropped_bytes cs k
    → pointed (Ok h') h e cs' ≡ pointer_plan h e p l cs
plan_installs h e p l cs t k h' cs' et row ek eh eb =
    let gone : h.len - (h.len - covered_by h p.last_included_index) ≡ covered_by h p.last_included_index = omega arith in
    rw (← et, row, eh, eb, ek, gone)
