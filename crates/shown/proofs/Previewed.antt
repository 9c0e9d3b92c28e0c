-- What a tried batch shows of an index is what the definition shows.
-- Assumes nothing.
use Rattle.std.specs.Prelude.{Option, None, Some, Ok}
use mathlib.Core.Path.{◌≡◌, refl, sym, ap, subst, ◌∙◌}
use mathlib.Core.Bool.{true}
use mathlib.Core.List.{List}
use Prim.Native.Nat.{ℕ, ◌+◌, ◌*◌, ◌-◌, ◌<◌, ◌≤◌}
use native.Mathlib.Omega.{arith}
use borrow.Author.Tests.{lt-ltb}
use lib.ListN.{length, take, get_or}
use lib.Seq.{length-take-le}
use Rattle.definition.specs.Table.{every, or_zero}
use Rattle.definition.specs.Records.{Identity}
use Rattle.definition.specs.Log.{Entry, Log, at, place}
use Rattle.definition.specs.Recovery.{place_of, replica_of}
use Rattle.definition.specs.Batch as M
use Rattle.definition.proofs.Sound.{replica_sound}
use Rattle.definition.proofs.Store.{state_sound}
use Rattle.ids.specs.declared.RaftReplicaIdentity.{RaftReplicaIdentity}
use Rattle.ids.specs.Identity.{identity_of}
use Rattle.store.proofs.Part.{length_part}
use Rattle.view.specs.declared.EntryPayload.{EntryPayload}
use Rattle.view.specs.declared.EntryPayload.TheVariants as Y
use Rattle.view.specs.declared.Header.{Header}
use Rattle.view.specs.declared.RecoveredRaftLogEntry.{RecoveredRaftLogEntry}
use Rattle.view.specs.Meaning.{no_entry, size_of, payload_in, cell_at, entry_at, view_of, base_of}
use Rattle.view.specs.Readers as R
use Rattle.view.proofs.Readers.{count_is, base_is, place_is, at_is, Held, held_at_lem}
use Rattle.replay.specs.Plan.{look_of}
use Rattle.replay.proofs.Settled.{look_held}
use Rattle.storage.specs.declared.RecoveredRaftStorage.{RecoveredRaftStorage}
use Rattle.storage.specs.Meaning.{meaning, recovery_of}
use Rattle.readers.specs.declared.Own.{Own}
use Rattle.readers.specs.Own.{own_in}
use Rattle.readers.proofs.Owns.{log_in, Owns}
use Rattle.batches.specs.declared.RaftPersistenceBatch.{RaftPersistenceBatch}
use Rattle.batches.specs.Meaning as B
use Rattle.preview.specs.declared.Preview.{Preview}
use Rattle.preview.specs.Preview.{Ran}
use Rattle.persistence.specs.Prepares.{Stands}
use Rattle.shown.specs.Shows.{shown_of, payload_shown, place_shown, shown_by}
use Rattle.shown.proofs.Unsupplied.{Holds, unsupplied}

-- Where the log holds the index, that is the place looked at.
look_holds : (h : Header) (es : List RecoveredRaftLogEntry) (cs : List ℕ) (x : ℕ) → h.len ≤ 64 → Holds (view_of h es cs) x → x - base_of h ≡ look_of h x
look_holds h es cs x l k =
    let z : x - base_of h < 64 = omega (arith, k.below, k.from, count_is h es cs, base_is h es cs) in
    rw (lt-ltb (x - base_of h) 64 z)

module _ (s : RecoveredRaftStorage) (st : List ℕ) (i : RaftReplicaIdentity) (o : Own) (w : Owns s st i o) (b : RaftPersistenceBatch) (lent : List ℕ) (index : ℕ) where
  abbrev own : Identity
  own = identity_of i

  abbrev batch : M.Batch
  batch = B.batch_of b lent

  abbrev was : Log ℕ
  was = replica_of own (meaning s st)

  abbrev from : Option ℕ
  from = M.supplied index (B.entries_of b.entries.now lent)

  own_place : or_zero (λ p. p) (place_of own (meaning s st).replicas) ≡ o.place
  own_place = go (place_of own (meaning s st).replicas) ∙ ap (λ (x : Own). x.place) (sym w.stands)
    where
      go : (x : Option ℕ) → or_zero (λ p. p) x ≡ (own_in s i x).place
      go None = refl
      go (Some p) = refl

  store_place_lem : Holds was index → 4096 * o.place + 64 * look_of o.head index ≡ M.store_place own (meaning s st) index
  unfolding M.store_place
  store_place_lem h =
      let k : Holds (log_in s st o) index = subst (λ (g : Log ℕ). Holds g index) (sym w.view) h in
      let l : place was index ≡ look_of o.head index =
      ap (λ (g : Log ℕ). place g index) (sym w.view) ∙ place_is o.head _ _ index ∙ look_holds o.head _ _ index w.short k in
      omega (arith, own_place, l)

  -- A payload, in its cell.
  payload_shows : (y : EntryPayload) (cell : List ℕ) → size_of y ≤ 64 → length cell ≡ 64 → (from ≡ None → Holds was index)
      → shown_of (payload_shown o from y index) ≡ M.shown_as from (M.store_place own (meaning s st) index) (payload_in y cell)
  payload_shows (Y.Configuration kind version replica) cell z l h = refl
  payload_shows (Y.Normal n) cell z l h = go from h
    where
      size : n ≡ length (take n cell)
      size = sym (length-take-le n cell (omega arith))

      go : (x : Option ℕ) → (x ≡ None → Holds was index)
          → shown_of (payload_shown o x (Y.Normal n) index) ≡ M.shown_as x (M.store_place own (meaning s st) index) (payload_in (Y.Normal n) cell)
      go (Some f) k = ap (M.of_batch f) size
      go None k = ap (λ (a : ℕ). M.of_log a n) (store_place_lem (k refl)) ∙ ap (M.of_log (M.store_place own (meaning s st) index)) size

  -- A preview that stands for the definition's.
  module _ (x : Ran) (v : M.Preview) (k : Stands x v) (e : M.prepare_on own batch was ≡ Ok v) (fit : every M.fits_entry batch.entries ≡ true) where
    abbrev p : Preview
    p = x.preview

    abbrev there : ℕ → Entry ℕ
    there = entry_at p.entries x.bytes

    previewed_holds : (q : ℕ) → R.place_of p.head index ≡ Some q → Holds v.log index
    previewed_holds q a =
        let h : Held p.head index q = held_at_lem p.head index q a in
        subst (λ (g : Log ℕ). Holds g index) k.means.view (record {
          from = omega (arith, h.index, base_is p.head p.entries x.bytes);
          below = omega (arith, h.index, h.below, base_is p.head p.entries x.bytes, count_is p.head p.entries x.bytes);
        })

    held_before : (q : ℕ) → R.place_of p.head index ≡ Some q → from ≡ None → Holds was index
    held_before q a u =
        unsupplied own batch was index v (replica_sound (meaning s st) (state_sound (recovery_of s st) w.whole) own) fit u e (previewed_holds q a)

    abbrev shown_entry : Option (Entry ℕ) → M.Shown
    shown_entry y = elim y [ None ↦ M.nothing | Some g ↦ M.shown_as from (M.store_place own (meaning s st) index) g.payload ]

    place_shows : (q : Option ℕ) → R.place_of p.head index ≡ q
        → shown_of (place_shown q (payload_shown o from (get_or p.entries (look_of p.head index) no_entry).payload index)) ≡ shown_entry (R.at_place q there)
    place_shows None a = refl
    place_shows (Some q) a =
        let h : Held p.head index q = held_at_lem p.head index q a in
        let c : length (cell_at x.bytes q) ≡ 64 = length_part (64 * q) 64 x.bytes (omega (arith, h.below, k.means.fits.short, k.means.bytes)) in
        rw (look_held p.head index q k.means.fits.short a)
        (payload_shows (get_or p.entries q no_entry).payload (cell_at x.bytes q) (k.means.fits.sizes q h.below) c (held_before q a))

    pub preview_shows : shown_of (shown_by o x.preview (M.supplied index (B.entries_of b.entries.now lent)) index) ≡ M.shown_in (identity_of i) (meaning s st) (B.batch_of b lent) (Ok v) index
    unfolding M.shown_in
    preview_shows =
        place_shows (R.place_of p.head index) refl
        ∙ ap shown_entry (sym (at_is p.head p.entries x.bytes index) ∙ ap (λ (g : Log ℕ). at g index) k.means.view)
