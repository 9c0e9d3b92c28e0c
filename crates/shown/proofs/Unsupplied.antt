-- An index that a preview holds and that the batch did not supply is held by the log before the batch.
-- Assumes nothing.
use mathlib.Core.Path.{◌≡◌, refl, sym, subst}
use mathlib.Core.Bool.{Bool, true, false}
use mathlib.Core.List.{List, [], ◌∷◌}
use Prim.Native.Nat.{ℕ, ◌+◌, ◌<◌, ◌≤◌}
use native.Mathlib.Omega.{arith}
use borrow.Author.Tests.{eqb-true, eqb-false, leb-true, leb-false, not-false}
use Rattle.std.specs.Prelude.{if◌then◌else◌, Option, None, Some, Result, Ok, Err}
use Rattle.definition.specs.Table.{◌=?◌, ◌≠?◌, ◌<?◌, Row, first_of, every, is_some, or_zero, if_some, u64_max}
use Rattle.definition.specs.Records.{Identity, LogEntry, HardState}
use Rattle.definition.specs.Log.{Log, PointerRecord, base, count, last, is_held, kept_pointer, entry_at_or_below_snapshot, replay_rows, with_entry, with_pointer, with_hard}
use Rattle.definition.specs.Batch.{BatchEntry, Batch, Preview, preview_pointer, preview_entry, preview_hard_state, previewed, batch_rows, batch_pointer_rows, batch_entry_rows, batch_hard_state_rows, hard_state_before_log_term, concluded, hardened, extended, pointed, prepare_on, supplied, fits_entry}
use Rattle.definition.proofs.Laws.{and_l, and_r, Clear, clear, none_some}
use Rattle.definition.proofs.SoundLog.{SoundLog, else_false, base_is, last_is, placed_few, not_below, beyond_count}

-- A log holds an index.
pub record Holds (log : Log ℕ) (x : ℕ) : Type 0 where
  pub from : base log ≤ x
  pub below : x < base log + count log

-- An entry that is accepted: what is held then is its own index, or was held before.
module _ (e : LogEntry) (t : ℕ) (log : Log ℕ) (x : ℕ) where
  entry_base : base (with_entry e t log) ≡ base log
  unfolding base with_entry
  entry_base = refl

  entry_count_lem : (is_held log e.index ≡ true → count (with_entry e t log) ≤ count log) × (count (with_entry e t log) ≤ count log + 1)
  unfolding count with_entry
  entry_count_lem = placed_few e t log

  abbrev Taken : Type 0
  Taken = Clear (entry_at_or_below_snapshot e log ∷ replay_rows e log)

  -- an index that is not held is the next (30)
  next_index : e.index ≤ u64_max → Taken → is_held log e.index ≡ false → e.index ≡ base log + count log
  unfolding replay_rows
  next_index m c h =
      let above : log.snapshot_index < e.index = leb-false e.index log.snapshot_index c.0 in
      let next : e.index ≡ last log + 1 =
      eqb-true e.index (last log + 1) (not-false (e.index =? last log + 1) (else_false (is_held log e.index) (e.index ≠? last log + 1) c.1.1.1.1.0 h)) in
      omega (arith, last_is log (omega (arith, above, m)), base_is log)

  entry_holds : e.index ≤ u64_max → Taken → (e.index =? x) ≡ false → Holds (with_entry e t log) x → Holds log x
  entry_holds m c o h = go (is_held log e.index) refl
    where
      go : (b : Bool) → is_held log e.index ≡ b → Holds log x
      go true w = record { from = omega (arith, h.from, entry_base); below = omega (arith, h.below, entry_base, entry_count_lem.0 w) }
      go false w =
          record {
            from = omega (arith, h.from, entry_base);
            below = omega (arith, h.below, entry_base, entry_count_lem.1, next_index m c w, eqb-false e.index x o);
          }

-- A pointer that is accepted only drops entries from the front.
pointer_holds : (i : Identity) (p : PointerRecord) (t : ℕ) (log : Log ℕ) (x : ℕ) → SoundLog log
    → if_some (λ o. p.snapshot.last_included_index <? o.snapshot.last_included_index) (kept_pointer i log) ≡ false
    → Holds (with_pointer p.snapshot t log) x → Holds log x
unfolding base count with_pointer
pointer_holds i p t log x s c h =
    let low : log.snapshot_index ≤ p.snapshot.last_included_index = not_below p.snapshot t log i s c in
    record { from = omega (arith, h.from, low); below = omega (arith, h.from, h.below, low, beyond_count p.snapshot t log) }

-- A hard state leaves the log.
hard_holds : (h : Option HardState) (log : Log ℕ) (x : ℕ) → Holds (with_hard h log) x → Holds log x
unfolding base count with_hard
hard_holds h log x k = record { from = k.from; below = k.below }

-- A part of a preparation that is accepted.
accepted : (rows : List Row) (v w : Preview) (go : Preview → Result Preview ℕ) → previewed rows v go ≡ Ok w → (first_of rows ≡ None) × (go v ≡ Ok w)
accepted rows v w go = pick (first_of rows)
  where
    pick : (o : Option ℕ) → ◌≡◌ {A = Result Preview ℕ} (elim o [ Some n ↦ Err n | None ↦ go v ]) (Ok w) → (o ≡ None) × (go v ≡ Ok w)
    pick None z = (refl, z)
    pick (Some n) z = absurd (let y : ◌≡◌ {A = ℕ} 0 1 = cc in omega arith)

-- What was not supplied by any is neither the first nor supplied by the others.
unsupplied_cons : (x : ℕ) (e : BatchEntry) (es : List BatchEntry) → supplied x (e ∷ es) ≡ None → (supplied x es ≡ None) × ((e.log_entry.index =? x) ≡ false)
unsupplied_cons x e es = go (supplied x es) (e.log_entry.index =? x)
  where
    go : (o : Option ℕ) (b : Bool) → ◌≡◌ {A = Option ℕ} (if is_some o then o else (if b then Some e.from else None)) None → (o ≡ None) × (b ≡ false)
    go None true z = absurd (none_some (sym z))
    go None false z = (refl, refl)
    go (Some n) b z = absurd (none_some (sym z))

module _ (i : Identity) (b : Batch) (was : Log ℕ) (x : ℕ) (w : Preview) where
  concluded_holds : (v : Preview) → concluded i b was v ≡ Ok w → Holds w.log x → Holds v.log x
  unfolding concluded
  concluded_holds v z h =
      let y : v ≡ w = same (accepted (hard_state_before_log_term b was v ∷ []) v w Ok z).1 in
      subst (λ (u : Preview). Holds u.log x) (sym y) h
    where
      same : ◌≡◌ {A = Result Preview ℕ} (Ok v) (Ok w) → v ≡ w
      same q = cc

  hardened_holds : (s : Option HardState) (v : Preview) → hardened i b was s v ≡ Ok w → Holds w.log x → Holds v.log x
  unfolding hardened
  hardened_holds None v z h = concluded_holds v z h
  hardened_holds (Some s) v z h =
      hard_holds (Some s) v.log x
      (concluded_holds (preview_hard_state i s v) (accepted (batch_hard_state_rows i b was s v) (preview_hard_state i s v) w (concluded i b was) z).1 h)

  extended_holds : (es : List BatchEntry) (v : Preview) → every fits_entry es ≡ true → supplied x es ≡ None → extended i b was es v ≡ Ok w → Holds w.log x → Holds v.log x
  unfolding extended batch_entry_rows
  extended_holds [] v m u z h = hardened_holds b.hard_state v z h
  extended_holds (e ∷ es) v m u z h =
      let a = accepted (batch_entry_rows i b was e.log_entry v) (preview_entry i e.log_entry v) w (extended i b was es) z in
      let c = clear (batch_entry_rows i b was e.log_entry v) a.0 in
      let n = unsupplied_cons x e es u in
      entry_holds e.log_entry (v.lsn + 1) v.log x (leb-true e.log_entry.index u64_max (and_l (fits_entry e) (every fits_entry es) m)) c.1.1.1.1.1.1 n.1
      (extended_holds es (preview_entry i e.log_entry v) (and_r (fits_entry e) (every fits_entry es) m) n.0 a.1 h)

  -- Of a sound log, where the entries' indices have 64 bits.
  module _ (k : SoundLog was) (m : every fits_entry b.entries ≡ true) (u : supplied x b.entries ≡ None) where
    pointed_holds : (s : Option PointerRecord) (v : Preview) → v.log ≡ was → pointed i b was s v ≡ Ok w → Holds w.log x → Holds v.log x
    unfolding pointed batch_pointer_rows
    pointed_holds None v l z h = extended_holds b.entries v m u z h
    pointed_holds (Some p) v l z h =
        let a = accepted (batch_pointer_rows i b was p v) (preview_pointer p v) w (extended i b was b.entries) z in
        let c = clear (batch_pointer_rows i b was p v) a.0 in
        rw l
        (pointer_holds i p (v.lsn + 1) was x k c.1.1.1.1.1.1.1.1.0
        (subst (λ (g : Log ℕ). Holds (with_pointer p.snapshot (v.lsn + 1) g) x) l (extended_holds b.entries (preview_pointer p v) m u a.1 h)))

    pub unsupplied : prepare_on i b was ≡ Ok w → Holds w.log x → Holds was x
    unfolding prepare_on
    unsupplied z h =
        let v : Preview = record { log = was; lsn = or_zero (λ t. t) was.last_replayed_lsn; records = [] } in
        pointed_holds b.snapshot v refl (accepted (batch_rows i b was) v w (pointed i b was b.snapshot) z).1 h
