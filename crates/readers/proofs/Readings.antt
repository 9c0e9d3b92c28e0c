-- What is read at a place, of a replica, and of its entries.
-- Assumes nothing.
use Rattle.std.specs.Prelude.{Option, None, Some, slice_get}
use mathlib.Core.Path.{◌≡◌, refl, sym, ap, ◌∙◌}
use mathlib.Core.List.{List, [], ◌∷◌}
use Prim.Native.Nat.{ℕ, zero, suc, ◌+◌, ◌-◌, ◌*◌, ◌<◌, ◌≤◌}
use native.Mathlib.Omega.{arith}
use borrow.Author.Tests.{lt-ltb, le-ltb}
use lib.ListN.{length, get_or, take}
use Rattle.definition.specs.Records.{normal, inside}
use Rattle.definition.specs.Log as D
use Rattle.definition.specs.Recovery.{replica_of, replica_at, least, minimum_recovery_lsn, pad_to, command_bytes}
use Rattle.ids.specs.Identity.{identity_of}
use Rattle.ids.specs.declared.RaftReplicaIdentity.{RaftReplicaIdentity}
use Rattle.store.specs.Splice.{part}
use Rattle.store.proofs.Part.{length_part, part_part}
use Rattle.view.specs.declared.EntryPayload.{EntryPayload}
use Rattle.view.specs.declared.EntryPayload.TheVariants as Y
use Rattle.view.specs.declared.Header.{Header}
use Rattle.view.specs.declared.RecoveredRaftLogEntry.{RecoveredRaftLogEntry}
use Rattle.view.specs.Meaning.{lsn_of, no_entry, cell_at, size_of, payload_in, entry_at, view_of, base_of}
use Rattle.view.specs.Readers as H
use Rattle.view.proofs.Tab.{length_tab, get_elem_tab}
use Rattle.view.proofs.Readers.{at_is, place_is, held_at_lem, first_retained_is}
use Rattle.storage.specs.declared.RecoveredRaftStorage.{RecoveredRaftStorage}
use Rattle.storage.specs.Model.{entries_in, bytes_in}
use Rattle.storage.specs.Meaning.{held_at, meaning}
use Rattle.readers.specs.declared.Own.{Own}
use Rattle.readers.specs.Own.{minimum_of}
use Rattle.readers.specs.Reads.{payload_with, entry_with, place_in, cell_in, cell_for, command_of}
use Rattle.readers.proofs.Owns.{log_in, Owns, place_in_lem}
use Rattle.ids.specs.declared.Lsn.{Lsn}

-- Of the state.
pub held_is : (s : RecoveredRaftStorage) (st : List ℕ) → length (meaning s st).replicas ≡ s.held
unfolding meaning
held_is s st = length_tab s.held (held_at s st)

-- At a replica place.
module _ (s : RecoveredRaftStorage) (st : List ℕ) (p : ℕ) where
  pub past_is : s.held ≤ p → replica_at p (meaning s st) ≡ None
  unfolding replica_at meaning
  past_is l = rw (get_elem_tab s.held (held_at s st) p, le-ltb p s.held l)

  pub place_is_held : p < s.held → replica_at p (meaning s st) ≡ Some (held_at s st p)
  unfolding replica_at meaning
  place_is_held l = rw (get_elem_tab s.held (held_at s st) p, lt-ltb p s.held l)

-- Of a header and the first of its entries.
module _ (h : Header) (es : List RecoveredRaftLogEntry) (cs : List ℕ) {first : RecoveredRaftLogEntry} (e : first ≡ get_or es 0 no_entry) where
  pub retained_is : {x : Option Lsn} → x ≡ H.first_retained_of h first → D.first_retained_lsn (view_of h es cs) ≡ lsn_of x
  retained_is r = first_retained_is h es cs ∙ ap (λ (y : RecoveredRaftLogEntry). lsn_of (H.first_retained_of h y)) (sym e) ∙ ap lsn_of (sym r)

  pub minimum_is : minimum_recovery_lsn (view_of h es cs) ≡ minimum_of h first
  unfolding minimum_recovery_lsn view_of
  minimum_is = ap (λ (v : Option ℕ). least (lsn_of h.snapshot_pointer_lsn) (least (lsn_of h.hard_state_lsn) v)) (retained_is refl)

-- A command that is no longer than its cell.
pad_take : (n : ℕ) (c : List ℕ) → n ≤ length c → take n c ≡ pad_to n c
unfolding pad_to
pad_take zero c l = refl
pad_take (suc n) [] l = absurd (omega arith)
pad_take (suc n) (x ∷ c) l = ap (λ (r : List ℕ). x ∷ r) (pad_take n c (omega arith))

payload_with_lem : (x : EntryPayload) (c : List ℕ) → size_of x ≤ length c → payload_in x c ≡ payload_with x c
payload_with_lem (Y.Normal n) c l = ap (λ (r : List ℕ). normal (inside r)) (pad_take n c l)
payload_with_lem (Y.Configuration kind version replica) c l = refl

-- Cell q of block p is cell 64 * p + q of the store.
pub cell_in_lem : (st : List ℕ) (p q : ℕ) → length st ≡ 32768 → p < 8 → q < 64 → cell_at (bytes_in st p) q ≡ cell_at st (64 * p + q)
cell_in_lem st p q l h h' =
    let e : 4096 * p + 64 * q ≡ 64 * (64 * p + q) = omega arith in
    part_part (4096 * p) 4096 st (64 * q) 64 (omega arith) (omega arith) ∙ ap (λ (a : ℕ). part a 64 st) e

-- Of a replica's entries.
module _ {s : RecoveredRaftStorage} {st : List ℕ} {i : RaftReplicaIdentity} {o : Own} (w : Owns s st i o) where
  abbrev own : ℕ → D.Entry ℕ
  own = entry_at (entries_in s o.place) (bytes_in st o.place)

  -- A held entry, with its cell.
  kept_with : (q : ℕ) {e : RecoveredRaftLogEntry} → e ≡ get_or (entries_in s o.place) q no_entry → q < o.head.len
      → own q ≡ entry_with e (cell_in s st (identity_of i) q)
  kept_with q {e = e} a l =
      let x : RecoveredRaftLogEntry = get_or (entries_in s o.place) q no_entry in
      let c : List ℕ = cell_at (bytes_in st o.place) q in
      let m : length (bytes_in st o.place) ≡ 4096 = length_part (4096 * o.place) 4096 st (omega (arith, w.low, w.size)) in
      let n : length c ≡ 64 = length_part (64 * q) 64 (bytes_in st o.place) (omega (arith, l, w.short, m)) in
      (λ t. record { term = x.term; payload = payload_with_lem x.payload c (omega (arith, w.sizes q l, n)) t; lsn = x.lsn.0 })
      ∙ ap (λ (y : RecoveredRaftLogEntry). entry_with y c) (sym a)
      ∙ ap (λ (p : ℕ). entry_with e (cell_at (bytes_in st p) q)) (sym (place_in_lem w))

  -- At an entry place.
  module _ (q : ℕ) where
    pub at_past : o.head.len ≤ q → slice_get (log_in s st o).entries q ≡ None
    unfolding view_of
    at_past l = rw (get_elem_tab o.head.len own q, le-ltb q o.head.len l)

    at_own : q < o.head.len → slice_get (log_in s st o).entries q ≡ Some (own q)
    unfolding view_of
    at_own l = rw (get_elem_tab o.head.len own q, lt-ltb q o.head.len l)

    pub at_held : {e : RecoveredRaftLogEntry} → e ≡ get_or (entries_in s o.place) q no_entry → q < o.head.len
        → slice_get (log_in s st o).entries q ≡ Some (entry_with e (cell_in s st (identity_of i) q))
    at_held a l = at_own l ∙ ap Some (kept_with q a l)

  -- At an index.
  module _ (x : ℕ) where
    index_is : D.at (log_in s st o) x ≡ H.at_place (H.place_of o.head x) own
    index_is = at_is o.head (entries_in s o.place) (bytes_in st o.place) x

    pub index_none : H.place_of o.head x ≡ None → D.at (log_in s st o) x ≡ None
    index_none e = rw e at index_is

    module _ {q : ℕ} (e : H.place_of o.head x ≡ Some q) where
      pub index_below : q < o.head.len
      index_below = (held_at_lem o.head x q e).below

      index_held : D.at (log_in s st o) x ≡ Some (own q)
      index_held = rw e at index_is

      place_is_q : q ≡ D.place (replica_of (identity_of i) (meaning s st)) x
      place_is_q =
          let a : base_of o.head + q ≡ x = (held_at_lem o.head x q e).index in
          let d : q ≡ x - base_of o.head = omega arith in
          d ∙ sym (place_is o.head (entries_in s o.place) (bytes_in st o.place) x) ∙ ap (λ (l : D.Log ℕ). D.place l x) w.view

      module _ {y : RecoveredRaftLogEntry} (a : y ≡ get_or (entries_in s o.place) q no_entry) where
        pub index_entry : D.at (log_in s st o) x ≡ Some (entry_with y (cell_for s st (identity_of i) x))
        index_entry = index_held ∙ ap Some (kept_with q a index_below) ∙ ap (λ (n : ℕ). Some (entry_with y (cell_in s st (identity_of i) n))) place_is_q

        pub index_command : command_of (D.at (log_in s st o) x) ≡ command_bytes (payload_in y.payload (cell_at st (64 * o.place + q)))
        index_command =
            ap command_of index_held
            ∙ ap (λ (z : RecoveredRaftLogEntry). command_bytes (payload_in z.payload (cell_at (bytes_in st o.place) q))) (sym a)
            ∙ ap (λ (c : List ℕ). command_bytes (payload_in y.payload c)) (cell_in_lem st o.place q w.size w.low (omega (arith, index_below, w.short)))

  pub replica_read : view_of o.head (entries_in s (place_in s st (identity_of i))) (bytes_in st (place_in s st (identity_of i))) ≡ replica_of (identity_of i) (meaning s st)
  replica_read = ap (λ (p : ℕ). view_of o.head (entries_in s p) (bytes_in st p)) (place_in_lem w) ∙ w.view
