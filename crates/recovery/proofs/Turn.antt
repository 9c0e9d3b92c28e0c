-- A record settled at its replica's place: what the code reads and writes there is the model's.
-- Assumes nothing.
use Rattle.std.specs.Prelude.{Option, None, Some}
use mathlib.Core.Path.{◌≡◌, refl, sym, ap, subst, ◌∙◌}
use mathlib.Core.Bool.{true, false}
use Rattle.definition.specs.Records.{unfit, form_rows}
use Rattle.definition.specs.Log as D
use Rattle.replay.specs.Plan.{index_of, look_of, Plan, as_it_was, plan_of, Holds, Settleable}
use Rattle.storage.specs.Model.{no_header, head_at, bytes_in, with_head, changed_store}
use Rattle.routing.specs.Observe.{Stepped, moved_entries, written, plan_at}
use Rattle.routing.proofs.Stepped.{Drops, plan_drops, plan_keeps}
use mathlib.Core.List.{List}
use Prim.Native.Nat.{ℕ, ◌+◌, ◌-◌, ◌*◌, ◌<◌, ◌≤◌}
use native.Mathlib.Omega.{arith}
use native.Mathlib.Nat.{add-sub_cancel_left}
use borrow.Author.Tests.{le-leb, lt-ltb, le-ltb}
use lib.ListN.{length, length-set, get_or, set, take, drop}
use Rattle.definition.specs.Table.{first_of, u64_max}
use Rattle.definition.specs.Two.{fits}
use Rattle.definition.proofs.Laws.{clear}
use Rattle.ids.specs.declared.Lsn.{Lsn}
use Rattle.store.specs.Splice.{part}
use Rattle.store.proofs.Part.{length_part, get_d_part, set_self, splice_self, pasted}
use Rattle.store.proofs.Part as P
use borrow.Rule.Slice.PartMut.{put_mid}
use lib.Seq.{paste}
use Rattle.recovery.specs.Steps.{settled}
use Rattle.codec.specs.declared.RaftLogEntryRecord.{RaftLogEntryRecord}
use Rattle.codec.specs.declared.RaftWalRecord.{RaftWalRecord}
use Rattle.codec.specs.declared.RaftWalRecord.TheVariants as W
use Rattle.codec.specs.declared.WalRecord.{WalRecord}
use Rattle.codec.specs.Records.{payload_of, kind_of, owner_of, body_of, record_of}
use Rattle.view.specs.declared.Header.{Header}
use Rattle.view.specs.declared.RecoveredRaftLogEntry.{RecoveredRaftLogEntry}
use Rattle.view.specs.Meaning.{no_entry, size_of}
use Rattle.view.specs.Readers.{place_of}
use Rattle.view.proofs.Readers.{Held, held_at_lem}
use Rattle.replay.proofs.Settled.{look_held}
use Rattle.storage.specs.declared.RecoveredRaftStorage.{RecoveredRaftStorage}
use Rattle.storage.specs.Meaning.{Linked}
use Rattle.storage.specs.Place.{owners_of}
use Rattle.storage.proofs.Place.{owners_set}
use Rattle.routing.specs.Admits.{index_in}

-- A plan leaves each place its replica.
pub owners_kept : (t : RecoveredRaftStorage) (p : ℕ) (e b : RecoveredRaftLogEntry) (k : RaftWalRecord) (l : Lsn) (cs lent : List ℕ)
    → owners_of (set t.heads p (plan_of (head_at t p) e b k l cs lent).head) ≡ owners_of t.heads
owners_kept t p e b k l cs lent = owners_set t.heads p (plan_of (head_at t p) e b k l cs lent).head (plan_keeps (head_at t p) e b k l cs lent)

-- A machine's record fits: its index is a 64-bit number.
pub fits_record : (r : WalRecord) (lent : List ℕ) → index_in r.body < 18446744073709551616 → fits (record_of r lent) ≡ true
fits_record r lent = go r.body
  where
    go : (b : Option RaftWalRecord) → index_in b < 18446744073709551616 → fits (record { lsn = r.lsn.0; body = body_of b lent }) ≡ true
    go None l = refl
    go (Some (W.Entry e)) l = le-leb e.index u64_max (omega (arith, l))
    go (Some (W.HardState h)) l = refl
    go (Some (W.SnapshotPointer p)) l = le-leb p.last_included_index u64_max (omega (arith, l))

-- A command that passes its form lies in the lent bytes.
command_fits : (r : RaftLogEntryRecord) (lent : List ℕ) → first_of (form_rows (owner_of (W.Entry r)) (kind_of (W.Entry r) lent)) ≡ None → unfit (payload_of r.payload lent) ≡ false
unfolding form_rows
command_fits r lent f = (clear (form_rows (owner_of (W.Entry r)) (kind_of (W.Entry r) lent)) f).1.1.1.1.1.1.1.0

-- The block that is lent, and the store with another block there.
pub block_is : (u : List ℕ) (p : ℕ) → take (4096 * p + 4096 - 4096 * p) (drop (4096 * p) u) ≡ bytes_in u p
block_is u p = ap (λ (n : ℕ). take n (drop (4096 * p) u)) (add-sub_cancel_left (4096 * p) 4096)

module _ (t : RecoveredRaftStorage) (u : List ℕ) (p : ℕ) (k : RaftWalRecord) (l : Lsn) (lent : List ℕ) where
  abbrev h : Header
  h = head_at t p

  abbrev x : ℕ
  x = index_of k

  -- What settling asks.
  module _ (w : Linked t u) (lt : p < t.held) (form : first_of (form_rows (owner_of k) (kind_of k lent)) ≡ None) where
    holds : (index : ℕ) → Holds h (get_or t.entries (64 * p + look_of h index) no_entry) index (take (4096 * p + 4096 - 4096 * p) (drop (4096 * p) u))
    holds index =
        record {
          bytes = ap length (block_is u p) ∙ length_part (4096 * p) 4096 u (omega (arith, w, lt));
          short = (w.own p lt).short;
          small = small;
        }
      where
        small : (q : ℕ) → place_of h index ≡ Some q → size_of (get_or t.entries (64 * p + look_of h index) no_entry).payload ≤ 64
        small q e =
            let m : Held h index q = held_at_lem h index q e in
            let s : size_of (get_or (part (64 * p) 64 t.entries) q no_entry).payload ≤ 64 = (w.own p lt).sizes q m.below in
            let a : get_or (part (64 * p) 64 t.entries) q no_entry ≡ get_or t.entries (64 * p + q) no_entry = get_d_part (64 * p) 64 t.entries q no_entry (omega (arith, m, (w.own p lt).short)) in
            let b : look_of h index ≡ q = look_held h index q (w.own p lt).short e in
            rw (b, ← a) s

    settleable : Settleable h (get_or t.entries (64 * p + look_of h x) no_entry) k (take (4096 * p + 4096 - 4096 * p) (drop (4096 * p) u)) lent
    settleable = go k form
      where
        go : (k : RaftWalRecord) → first_of (form_rows (owner_of k) (kind_of k lent)) ≡ None
            → Settleable h (get_or t.entries (64 * p + look_of h (index_of k)) no_entry) k (take (4096 * p + 4096 - 4096 * p) (drop (4096 * p) u)) lent
        go (W.Entry r) f = record { holds = holds r.index; fit = command_fits r lent f }
        go (W.HardState r) f = holds 0
        go (W.SnapshotPointer q) f = holds q.last_included_index

    pub settleable_at : (n : ℕ) → n ≡ look_of h x → Settleable h (get_or t.entries (64 * p + n) no_entry) k (take (4096 * p + 4096 - 4096 * p) (drop (4096 * p) u)) lent
    settleable_at n e = rw e settleable

  -- What was read and planned is the model's plan; written, it is the model's step.
  module _ (n n' : ℕ) (eq : n ≡ look_of h x) (eq' : n' ≡ look_of h (x - 1)) where
    abbrev read_plan : Plan
    read_plan = plan_of h (get_or t.entries (64 * p + n) no_entry) (get_or t.entries (64 * p + n') no_entry) k l (take (4096 * p + 4096 - 4096 * p) (drop (4096 * p) u)) lent

    plan_is : read_plan ≡ plan_at t u p k l lent
    plan_is = λ j. plan_of h (get_or t.entries (64 * p + eq j) no_entry) (get_or t.entries (64 * p + eq' j) no_entry) k l (block_is u p j) lent

    abbrev by_plan : Plan → Stepped
    by_plan d = record { answer = d.answer; state = written t p (look_of h x) d t.scan; store = changed_store u p d.bytes }

    -- Only the header changes, or nothing does.
    pub only_head : length u ≡ 32768 → p < 8 → (a : D.Answer) (h' : Header)
        → read_plan ≡ record { answer = a; head = h'; entry = get_or t.entries (64 * p + n) no_entry; dropped = 0; bytes = take (4096 * p + 4096 - 4096 * p) (drop (4096 * p) u) }
        → settled t u p k l lent ≡ record { answer = a; state = record { heads = set t.heads p h'; entries = t.entries; held = t.held; scan = t.scan }; store = u }
    only_head w lt a h' pl =
        ap by_plan (sym plan_is ∙ pl)
        ∙ λ j. record {
          answer = a;
          state = with_head t p h' (same j) t.scan;
          store = (ap (λ (cs : List ℕ). changed_store u p cs) (block_is u p) ∙ splice_self u (4096 * p) 4096 (omega (arith, w, lt))) j;
        }
      where
        same : set t.entries (64 * p + look_of h x) (get_or t.entries (64 * p + n) no_entry) ≡ t.entries
        same = ap (λ (m : ℕ). set t.entries (64 * p + m) (get_or t.entries (64 * p + n) no_entry)) (sym eq) ∙ set_self t.entries (64 * p + n) no_entry

    pub nothing : length u ≡ 32768 → p < 8 → (m : ℕ)
        → read_plan ≡ as_it_was (D.refused m) h (get_or t.entries (64 * p + n) no_entry) (take (4096 * p + 4096 - 4096 * p) (drop (4096 * p) u))
        → settled t u p k l lent ≡ record { answer = D.refused m; state = t; store = u }
    nothing w lt m pl =
        only_head w lt (D.refused m) h pl
        ∙ λ j. record { answer = D.refused m; state = record { heads = set_self t.heads p no_header j; entries = t.entries; held = t.held; scan = t.scan }; store = u }

    -- A plan that the code has written: its header, its entry, and its bytes in the block.
    module _ (d : Plan) (ed : d ≡ read_plan) (ly : length d.bytes ≡ length (take (4096 * p + 4096 - 4096 * p) (drop (4096 * p) u))) (w : Linked t u) (lt : p < t.held) where
      whole : length d.bytes ≡ 4096
      whole = ly ∙ ap length (block_is u p) ∙ length_part (4096 * p) 4096 u (omega (arith, w, lt))

      -- the state, with the entries then
      abbrev left : List RecoveredRaftLogEntry → Stepped
      left es =
          record {
            answer = d.answer;
            state = record { heads = set t.heads p d.head; entries = es; held = t.held; scan = t.scan };
            store = put_mid (4096 * p) (4096 * p + 4096 - 4096 * p) u d.bytes;
          }

      abbrev own : List RecoveredRaftLogEntry
      own = set t.entries (64 * p + n) d.entry

      settled_with : (es : List RecoveredRaftLogEntry) → moved_entries own (64 * p) d.dropped d.head.len ≡ es → settled t u p k l lent ≡ left es
      settled_with es ee =
          ap by_plan (sym (ed ∙ plan_is))
          ∙ λ j. record {
            answer = d.answer;
            state = with_head t p d.head (moved j) t.scan;
            store = sym (P.written u (4096 * p) (4096 * p + 4096 - 4096 * p) d.bytes d.bytes refl (add-sub_cancel_left (4096 * p) 4096 ∙ sym whole)) j;
          }
        where
          moved : moved_entries (set t.entries (64 * p + look_of h x) d.entry) (64 * p) d.dropped d.head.len ≡ es
          moved = ap (λ (m : ℕ). moved_entries (set t.entries (64 * p + m) d.entry) (64 * p) d.dropped d.head.len) (sym eq) ∙ ee

      pub settled_here : d.dropped ≤ 0 → settled t u p k l lent ≡ left own
      settled_here z = settled_with own (rw (le-ltb 0 d.dropped z))

      -- What is dropped and what is left keep to the block.
      pub moved_fits : 0 < d.dropped → (64 * p + d.dropped + d.head.len ≤ 512) × (length own ≡ 512)
      moved_fits z =
          let y : Drops h d = subst (λ (y : Plan). Drops h y) (sym (ed ∙ plan_is)) (plan_drops h (get_or t.entries (64 * p + look_of h x) no_entry) (get_or t.entries (64 * p + look_of h (x - 1)) no_entry) k l (bytes_in u p) lent) in
          (omega (arith, (y z).0, (y z).1, (w.own p lt).short, w, lt), length-set t.entries (64 * p + n) d.entry ∙ w.all)

      pub settled_moved : 0 < d.dropped → (k' : ℕ) → k' ≡ d.head.len → (es : List RecoveredRaftLogEntry) → es ≡ paste own (64 * p) (drop (64 * p + d.dropped) own) k' → settled t u p k l lent ≡ left es
      settled_moved z k' e es m =
          let room : 64 * p + d.dropped + d.head.len ≤ length own = omega (arith, (moved_fits z).0, (moved_fits z).1) in
          settled_with es (rw (lt-ltb 0 d.dropped z) (sym (m ∙ pasted own (64 * p) (64 * p + d.dropped) d.head.len k' e room)))
