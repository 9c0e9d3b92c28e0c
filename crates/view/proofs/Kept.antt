-- A fit record, kept: its cell is a cell, and what is kept means what the record said.
-- Assumes nothing.
use Rattle.std.specs.Prelude.{Some}
use mathlib.Core.Path.{◌≡◌, refl, sym, ◌∙◌}
use mathlib.Core.Bool.{Bool, true, false, true≢false}
use mathlib.Core.List.{List, []}
use Prim.Native.Nat.{ℕ, ◌+◌, ◌-◌, ◌≤◌}
use native.Mathlib.Omega.{arith}
use borrow.Author.Tests.{leb-true, leb-false, ltb-false, le-leb, eq-eqb}
use lib.ListN.{length, take, drop, length-append}
use lib.Seq.{take_at, take-take}
use Rattle.definition.specs.Table.{◌≤?◌, same_bytes}
use Rattle.definition.specs.Records.{command_of, normal, inside, unfit, same_payload}
use Rattle.ids.specs.declared.Lsn.{Lsn}
use Rattle.store.specs.Splice.{part}
use Rattle.store.specs.Zeros.{zeros, padded}
use Rattle.store.proofs.Part.{length_part}
use Rattle.store.proofs.Zeros.{length_zeros, pad_to_is}
use Rattle.codec.specs.declared.DurableRaftEntryPayload.{DurableRaftEntryPayload}
use Rattle.codec.specs.declared.DurableRaftEntryPayload.TheVariants as Z
use Rattle.codec.specs.declared.RaftLogEntryRecord.{RaftLogEntryRecord}
use Rattle.codec.specs.Records.{payload_of, log_entry_of}
use Rattle.codec.proofs.Commands.{outside_unfit, inside_unfit}
use Rattle.view.specs.declared.EntryPayload.{EntryPayload}
use Rattle.view.specs.declared.EntryPayload.TheVariants as Y
use Rattle.view.specs.declared.RecoveredRaftLogEntry.{RecoveredRaftLogEntry}
use Rattle.view.specs.Meaning.{cell_of, payload_in, entry_of, Cell, record_at}
use Rattle.view.specs.Kept.{kept_payload, kept_entry, cell_for, existing_of, Comparable, Writable}
use Rattle.view.specs.Decisions.{Tells}

-- A fit command lies in the lent bytes and has at most 64.
pub record Fit (place len : ℕ) (lent : List ℕ) : Type 0 where
  pub there : place + len ≤ length lent
  pub small : len ≤ 64

pub fit_command : (place len : ℕ) (lent : List ℕ) → unfit (normal (command_of lent place len)) ≡ false → Fit place len lent
fit_command place len lent u = go (place + len ≤? length lent) refl
  where
    go : (b : Bool) → (place + len ≤? length lent) ≡ b → Fit place len lent
    go true e =
        let l : place + len ≤ length lent = leb-true (place + len) (length lent) e in
        record { there = l; small = ltb-false 64 len (sym (inside_unfit lent place len l) ∙ u) }
    go false e = absurd (true≢false (sym (outside_unfit lent place len (leb-false (place + len) (length lent) e)) ∙ u))

pub command_is : (place len : ℕ) (lent : List ℕ) → place + len ≤ length lent → command_of lent place len ≡ inside (part place len lent)
unfolding command_of
command_is place len lent l = rw (le-leb (place + len) (length lent) l)

-- n bytes and zeros after them begin with the bytes, and are the cell of these
begins : (b : List ℕ) (n : ℕ) → length b ≡ n → take n (padded b (64 - n)) ≡ b
begins b n e = take_at b (zeros (64 - n)) n e

filled : (b : List ℕ) (n : ℕ) → length b ≡ n → n ≤ 64 → padded b (64 - n) ≡ cell_of (normal (inside (take n (padded b (64 - n)))))
filled b n e h = rw (begins b n e, pad_to_is 64 b (omega arith), e)

pub kept_means : (y : DurableRaftEntryPayload) (lent : List ℕ) → unfit (payload_of y lent) ≡ false → payload_in (kept_payload y) (cell_for y lent) ≡ payload_of y lent
kept_means (Z.Normal place len) lent u =
    let k : Fit place len lent = fit_command place len lent u in
    rw (begins (part place len lent) len (length_part place len lent k.there), command_is place len lent k.there)
kept_means (Z.Configuration kind version replica) lent u = refl

pub kept_record : (r : RaftLogEntryRecord) (l : Lsn) (lent : List ℕ) → unfit (payload_of r.payload lent) ≡ false → record_at r.index (kept_entry r l) (cell_for r.payload lent) ≡ log_entry_of r lent
kept_record r l lent u = let p : payload_in (kept_payload r.payload) (cell_for r.payload lent) ≡ payload_of r.payload lent = kept_means r.payload lent u in
    λ t. record { index = r.index; term = r.term; payload = p t }

cell_for_lem : (t : ℕ) (l : Lsn) (y : DurableRaftEntryPayload) (lent : List ℕ) → unfit (payload_of y lent) ≡ false → Cell (record { term = t; lsn = l; payload = kept_payload y }) (cell_for y lent)
cell_for_lem t l (Z.Normal place len) lent u =
    let k : Fit place len lent = fit_command place len lent u in
    let e : length (part place len lent) ≡ len = length_part place len lent k.there in
    record {
      size = length-append (part place len lent) (zeros (64 - len)) ∙ omega (arith, length_zeros (64 - len), k);
      small = k.small;
      holds = filled (part place len lent) len e k.small;
    }
cell_for_lem t l (Z.Configuration kind version replica) lent u =
    record { size = length_zeros 64; small = omega arith; holds = sym (pad_to_is 64 [] (omega arith)) }

pub kept_cell : (r : RaftLogEntryRecord) (l : Lsn) (lent : List ℕ) → unfit (payload_of r.payload lent) ≡ false → Cell (kept_entry r l) (cell_for r.payload lent)
kept_cell r l lent u = cell_for_lem r.term l r.payload lent u

-- A held command beside a record's: the first bytes of its cell are those of the store.
same_command_lem : (store : List ℕ) (at len : ℕ) (lent : List ℕ) (place size : ℕ) → len ≤ 64 → place + size ≤ length lent
    → same_payload (normal (inside (take len (part at 64 store)))) (normal (command_of lent place size)) ≡ same_bytes (part at len store) (part place size lent)
same_command_lem store at len lent place size h k = rw (command_is place size lent k, take-take len 64 (drop at store) h)

module _ (kept : EntryPayload) (store : List ℕ) (at : ℕ) (payload : DurableRaftEntryPayload) (lent : List ℕ) (len place size : ℕ) (k : Comparable kept store at payload lent) (e : kept ≡ Y.Normal len) (e' : payload ≡ Z.Normal place size) where
  short : len ≤ 64
  short = rw e at k.small

  fits_lent : Fit place size lent
  fits_lent = fit_command place size lent (rw e' at k.fit)

  pub cells_there : (at + len ≤ length store) × (place + size ≤ length lent)
  cells_there = (omega (arith, short, k.inside), fits_lent.there)

  pub cells_same : same_payload (payload_in kept (part at 64 store)) (payload_of payload lent) ≡ same_bytes (part at len store) (part place size lent)
  cells_same = rw (e, e') (same_command_lem store at len lent place size short fits_lent.there)

-- What is told of a held entry is so.
pub existing_tells : (e : RecoveredRaftLogEntry) (cell : List ℕ) (r : RaftLogEntryRecord) (lent : List ℕ) → Tells (Some (existing_of e cell r lent)) (Some (entry_of e cell)) (log_entry_of r lent)
existing_tells e cell r lent = (refl, λ t. rw (eq-eqb e.term r.term t))

-- Writing a command's cell asks no more.
pub command_there : (store : List ℕ) (at : ℕ) (payload : DurableRaftEntryPayload) (lent : List ℕ) (place len : ℕ) → Writable store at payload lent → payload ≡ Z.Normal place len
    → (at + 64 ≤ length store) × (len ≤ 64) × (place + len ≤ length lent)
command_there store at payload lent place len k e =
    let x : Fit place len lent = fit_command place len lent (rw e at k.fit) in
    (k.inside, x.small, x.there)
