-- A log of a healthy journal, and what an accepted record keeps of it (document 02, Q-2).
-- Assumes nothing.
use Prim.Native.Nat.{ℕ, zero, suc, ◌+◌, ◌-◌, ◌<◌, ◌≤◌, min}
use mathlib.Core.Path.{◌≡◌, refl, sym, ap, ◌∙◌}
use mathlib.Core.Bool.{Bool, true, false, ◌&&◌, ◌||◌, not, true≢false, false≢true}
use mathlib.Core.List.{List, [], ◌∷◌, ◌++◌}
use native.Mathlib.Omega.{arith}
use lib.ListN.{length, take, drop, set, length-take, length-set, length-append}
use borrow.Author.Tests.{ltb-true, ltb-false, leb-true, leb-false, eqb-true, le-leb, lt-leb, eq-eqb, not-false}
use Rattle.std.specs.Prelude.{if◌then◌else◌, Option, None, Some, option_map, unwrap_or, slice_get}
use Rattle.definition.specs.Table.{◌=?◌, ◌≠?◌, ◌<?◌, ◌≤?◌, if_some, is_some, or_zero, u64_max}
use Rattle.definition.specs.Records.{Identity, LogEntry, HardState, Pointer, Kind, entry, hard_state, pointer, form_rows}
use Rattle.definition.specs.Log.{Entry, Log, empty, base, count, last, place, at, is_held, same_term, predecessor_term, PointerRecord, same_pointer_record, replay_rows, hard_state_successor_rows, snapshot_successor_rows, install_rows, rows, placed, with_entry, with_hard_state, beyond, with_pointer, accept}
use Rattle.definition.specs.Two.{fits_kind}
use Rattle.definition.specs.Healthy.{low_kind, never_fall, Healthy}
use Rattle.definition.proofs.Laws.{and_l, and_r, and_i, then_false, Clear}
use Rattle.definition.proofs.Same.{record_eq}
use Rattle.definition.proofs.SoundLog.{SoundLog, else_false, empty_sound, truncated_is, pointer_is, base_is, last_is, held_place, not_below, beyond_count, accept_sound}

-- What stands at a place of a list.
module _ {A : Type 0} where
  there : (l : List A) (n : ℕ) → n < length l → is_some (slice_get l n) ≡ true
  there [] n h = absurd (omega arith)
  there (a ∷ l) zero h = refl
  there (a ∷ l) (suc n) h = there l n (omega arith)

  gone : (l : List A) (n : ℕ) → length l ≤ n → is_some (slice_get l n) ≡ false
  gone [] n h = refl
  gone (a ∷ l) zero h = absurd (omega arith)
  gone (a ∷ l) (suc n) h = gone l n (omega arith)

-- Terms along a list.
module _ {T : Type 0} where
  -- The last term of a list that begins behind the term b.
  abbrev last_term : ℕ → List (Entry T) → ℕ
  last_term b [] = b
  last_term b (e ∷ es) = last_term e.term es

  -- An entry of the same term in the place of another.
  fall_set : (b : ℕ) (es : List (Entry T)) (q : ℕ) (n : Entry T) → ((x : Entry T) → slice_get es q ≡ Some x → x.term ≡ n.term)
      → never_fall b es ≡ true → never_fall b (set es q n) ≡ true
  unfolding never_fall
  fall_set b [] q n h e = refl
  fall_set b (x ∷ es) zero n h e = rw (← h x refl) e
  fall_set b (x ∷ es) (suc q) n h e =
      and_i (b ≤? x.term) (never_fall x.term (set es q n)) (and_l (b ≤? x.term) (never_fall x.term es) e)
      (fall_set x.term es q n h (and_r (b ≤? x.term) (never_fall x.term es) e))

  -- A cut, and one more whose term is not below.
  fall_cut : (b : ℕ) (es : List (Entry T)) (q : ℕ) (n : Entry T) → last_term b (take q es) ≤ n.term → never_fall b es ≡ true
      → never_fall b (take q es ++ n ∷ []) ≡ true
  unfolding never_fall
  fall_cut b es zero n h e = and_i (b ≤? n.term) true (le-leb b n.term h) refl
  fall_cut b [] (suc q) n h e = and_i (b ≤? n.term) true (le-leb b n.term h) refl
  fall_cut b (x ∷ es) (suc q) n h e =
      and_i (b ≤? x.term) (never_fall x.term (take q es ++ n ∷ [])) (and_l (b ≤? x.term) (never_fall x.term es) e)
      (fall_cut x.term es q n h (and_r (b ≤? x.term) (never_fall x.term es) e))

  -- What is left behind a place whose term is t.
  fall_drop : (b t : ℕ) (es : List (Entry T)) (n : ℕ) → ((x : Entry T) → slice_get es n ≡ Some x → x.term ≡ t)
      → never_fall b es ≡ true → never_fall t (drop (suc n) es) ≡ true
  unfolding never_fall
  fall_drop b t [] n h e = refl
  fall_drop b t (x ∷ es) zero h e = rw (← h x refl) (and_r (b ≤? x.term) (never_fall x.term es) e)
  fall_drop b t (x ∷ es) (suc n) h e = fall_drop x.term t es n h (and_r (b ≤? x.term) (never_fall x.term es) e)

  -- The last term of a cut behind a place is the term at the place.
  last_cut : (b : ℕ) (es : List (Entry T)) (n : ℕ) → n < length es
      → last_term b (take (suc n) es) ≡ unwrap_or (option_map (λ e. e.term) (slice_get es n)) b
  last_cut b [] n h = absurd (omega arith)
  last_cut b (x ∷ es) zero h = refl
  last_cut b (x ∷ es) (suc n) h = last_cut x.term es n (omega arith) ∙ go (slice_get es n) (there es n (omega arith))
    where
      go : (o : Option (Entry T)) → is_some o ≡ true
          → unwrap_or (option_map (λ (e : Entry T). e.term) o) x.term ≡ unwrap_or (option_map (λ (e : Entry T). e.term) o) b
      go None e = absurd (false≢true e)
      go (Some y) e = refl

-- Below 2^64 - 1 the boundary leaves the next index free, and the places follow it without a gap.
module _ {T : Type 0} (log : Log T) (s : SoundLog log) (low : log.snapshot_index < u64_max) where
  first_is : base log ≡ log.snapshot_index + 1
  first_is = base_is log ∙ omega arith

  pub ends : last log ≡ log.snapshot_index + count log
  ends = last_is log low

  pub place_is : (n : ℕ) → place log n ≡ n - (log.snapshot_index + 1)
  unfolding place
  place_is n = ap (λ (b : ℕ). n - b) first_is

  at_is : (n : ℕ) → log.snapshot_index < n → at log n ≡ slice_get log.entries (n - (log.snapshot_index + 1))
  unfolding at
  at_is n h = rw (place_is, le-leb (base log) n (omega (arith, first_is)))

  below_is : (n : ℕ) → n ≤ log.snapshot_index → at log n ≡ None
  unfolding at
  below_is n h = rw (lt-leb (base log) n (omega (arith, first_is)))

  pub gapless : (n : ℕ) → is_held log n ≡ (log.snapshot_index <? n && n ≤? last log)
  unfolding is_held count
  gapless n = go (log.snapshot_index <? n) refl
    where
      go : (b : Bool) → (log.snapshot_index <? n) ≡ b → is_some (at log n) ≡ (b && n ≤? last log)
      go false e = rw (below_is n (ltb-false log.snapshot_index n e))
      go true e = rw (at_is n (ltb-true log.snapshot_index n e)) (within (n ≤? last log) refl)
        where
          above : log.snapshot_index < n
          above = ltb-true log.snapshot_index n e

          within : (c : Bool) → (n ≤? last log) ≡ c → is_some (slice_get log.entries (n - (log.snapshot_index + 1))) ≡ c
          within true f = there log.entries (n - (log.snapshot_index + 1)) (omega (arith, above, ends, leb-true n (last log) f))
          within false f = gone log.entries (n - (log.snapshot_index + 1)) (omega (arith, above, ends, leb-false n (last log) f))

-- What is carried from record to record.
pub record Fit {T : Type 0} (log : Log T) : Type 0 where
  pub sound : SoundLog log
  pub low : log.snapshot_index < u64_max
  pub rising : never_fall log.snapshot_term log.entries ≡ true
  pub committed : log.committed_index ≤ last log

pub fit_healthy : {T : Type 0} (log : Log T) → Fit log → Healthy log
fit_healthy log f =
    record { without_a_gap = gapless log f.sound f.low; as_many = ends log f.sound f.low; terms_never_fall = f.rising; committed = f.committed }

pub empty_fit : {T : Type 0} → Fit {T = T} empty
unfolding empty never_fall last
empty_fit = record { sound = empty_sound; low = omega arith; rising = refl; committed = omega arith }

-- An entry that is accepted: above the boundary, at a held place or the next, its term not below the one before it.
module _ {T : Type 0} (i : Identity) (version : ℕ) (e : LogEntry) (t : T) (log : Log T) (f : Fit log) (c : Clear (rows i (entry version e) log)) where
  q : ℕ
  q = e.index - (log.snapshot_index + 1)

  above : log.snapshot_index < e.index
  unfolding rows replay_rows
  above = omega (arith, leb-false e.index log.progress.truncated_through_index c.0, truncated_is log f.sound)

  there_is : at log e.index ≡ slice_get log.entries q
  unfolding q
  there_is = at_is log f.sound f.low e.index above

  new_is : is_held log e.index ≡ false → e.index ≡ last log + 1
  unfolding rows replay_rows
  new_is h =
      eqb-true e.index (last log + 1)
      (not-false (e.index =? last log + 1) (else_false (is_held log e.index) (e.index ≠? last log + 1) c.1.1.1.1.0 h))

  held_within : is_held log e.index ≡ true → q < count log
  unfolding q
  held_within h = omega (arith, held_place log e.index h, place_is log f.sound f.low e.index)

  new_within : is_held log e.index ≡ false → q ≡ count log
  unfolding q
  new_within h = omega (arith, new_is h, ends log f.sound f.low)

  reaches : q ≤ count log
  reaches = go (is_held log e.index) refl
    where
      go : (b : Bool) → is_held log e.index ≡ b → q ≤ count log
      go true h = omega (arith, held_within h)
      go false h = omega (arith, new_within h)

  -- The term before its place.
  before_is : predecessor_term log e.index ≡ last_term log.snapshot_term (take q log.entries)
  unfolding predecessor_term q count
  before_is = go (e.index - (log.snapshot_index + 1)) refl
    where
      go : (n : ℕ) → e.index - (log.snapshot_index + 1) ≡ n
          → unwrap_or (option_map (λ (x : Entry T). x.term) (at log (e.index - 1))) log.snapshot_term ≡ last_term log.snapshot_term (take n log.entries)
      go zero x = rw (below_is log f.sound f.low (e.index - 1) (omega (arith, above)))
      go (suc n) x =
          rw (at_is log f.sound f.low (e.index - 1) (omega (arith, above)), same_place)
          (sym (last_cut log.snapshot_term log.entries n (omega (arith, reaches))))
        where
          same_place : e.index - 1 - (log.snapshot_index + 1) ≡ n
          same_place = omega (arith, above)

  new : Entry T
  new = record { term = e.term; payload = e.payload; lsn = t }

  entry_rising : never_fall log.snapshot_term (placed e t log) ≡ true
  unfolding placed same_term q new rows replay_rows
  entry_rising = rw (place_is log f.sound f.low e.index) (go (same_term log e) refl)
    where
      held : if_some (λ old. old.term =? e.term) (at log e.index) ≡ true → (x : Entry T) → slice_get log.entries q ≡ Some x → x.term ≡ e.term
      held h x y = eqb-true x.term e.term (ap (if_some (λ old. old.term =? e.term)) (sym (there_is ∙ y)) ∙ h)

      low : same_term log e ≡ false → last_term log.snapshot_term (take q log.entries) ≤ e.term
      low h =
          omega (
            arith,
            before_is,
            ltb-false e.term (predecessor_term log e.index) (else_false (same_term log e) (e.term <? predecessor_term log e.index) c.1.1.1.1.1.0 h),
          )

      go : (b : Bool) → same_term log e ≡ b
          → never_fall log.snapshot_term (if b then set log.entries q new else take q log.entries ++ new ∷ []) ≡ true
      go true h = fall_set log.snapshot_term log.entries q new (held h) f.rising
      go false h = fall_cut log.snapshot_term log.entries q new (low h) f.rising

  -- How many there are then: as many where the term is the same, else up to the entry's own place.
  count_same : same_term log e ≡ true → length (placed e t log) ≡ count log
  unfolding placed count new
  count_same h = rw h (length-set log.entries (place log e.index) new)

  count_other : same_term log e ≡ false → length (placed e t log) ≡ q + 1
  unfolding placed count q new
  count_other h = rw (h, place_is log f.sound f.low e.index) (length-append (take q log.entries) (new ∷ []) ∙ cut)
    where
      cut : length (take q log.entries) + 1 ≡ q + 1
      cut = omega (arith, length-take q log.entries, reaches)

  -- By 27 a replaced entry is not agreed.
  unagreed : same_term log e ≡ false → is_held log e.index ≡ true → log.committed_index < log.snapshot_index + (q + 1)
  unfolding rows replay_rows q
  unagreed x y = omega (arith, above, leb-false e.index log.committed_index (go (is_held log e.index) (same_term log e) y x c.1.1.0))
    where
      go : (a b : Bool) → a ≡ true → b ≡ false → (a && not b && e.index ≤? log.committed_index) ≡ false → (e.index ≤? log.committed_index) ≡ false
      go true false m n z = z
      go true true m n z = absurd (true≢false n)
      go false b m n z = absurd (false≢true m)

  entry_committed : SoundLog (with_entry e t log) → log.committed_index ≤ last (with_entry e t log)
  unfolding with_entry count
  entry_committed s' = go (same_term log e) (is_held log e.index) refl refl
    where
      now_last : last (with_entry e t log) ≡ log.snapshot_index + length (placed e t log)
      now_last = ends (with_entry e t log) s' f.low

      go : (a b : Bool) → same_term log e ≡ a → is_held log e.index ≡ b → log.committed_index ≤ last (with_entry e t log)
      go true b x y = omega (arith, now_last, count_same x, f.committed, ends log f.sound f.low)
      go false true x y = omega (arith, now_last, count_other x, unagreed x y)
      go false false x y = omega (arith, now_last, count_other x, f.committed, ends log f.sound f.low, new_within y)

  entry_fit : SoundLog (with_entry e t log) → Fit (with_entry e t log)
  unfolding with_entry
  entry_fit s' = record { sound = s'; low = f.low; rising = entry_rising; committed = entry_committed s' }

  pub entry_at : (log.snapshot_index + 1 + place log e.index ≡ e.index) × (place log e.index ≤ length log.entries)
  unfolding q count
  entry_at =
      let p : place log e.index ≡ e.index - (log.snapshot_index + 1) = place_is log f.sound f.low e.index in (omega (arith, above), omega (arith, reaches))

-- A hard state: its commit is at most the last index, by 37.
hard_fit : {T : Type 0} (i : Identity) (version : ℕ) (h : HardState) (t : T) (log : Log T) → Fit log → Clear (rows i (hard_state version h) log)
    → SoundLog (with_hard_state h t log) → Fit (with_hard_state h t log)
unfolding rows hard_state_successor_rows with_hard_state count
hard_fit i version h t log f c s' =
    record {
      sound = s';
      low = f.low;
      rising = f.rising;
      committed = omega (arith, ltb-false (last log) h.commit c.1.1.1.1.0, ends log f.sound f.low, ends (with_hard_state h t log) s' f.low);
    }

-- A pointer below 2^64 - 1.
module _ {T : Type 0} (i : Identity) (p : Pointer) (t : T) (log : Log T) (f : Fit log) (c : Clear (rows i (pointer p) log)) (small : p.last_included_index < u64_max) where
  not_under : log.snapshot_index ≤ p.last_included_index
  unfolding rows snapshot_successor_rows
  not_under = not_below p t log i f.sound c.0

  pub pointer_at : (log.snapshot_index ≤ p.last_included_index) × (beyond p log ≡ drop (p.last_included_index - log.snapshot_index) log.entries)
  unfolding beyond
  pointer_at =
      let e : min (p.last_included_index + 1) u64_max - base log ≡ p.last_included_index - log.snapshot_index = omega (arith, base_is log, f.low, not_under, small) in
      (not_under, ap (λ (n : ℕ). drop n log.entries) e)

  -- At the boundary's own index it is the kept pointer, by 40, and so of the boundary's term.
  same_boundary : (p.last_included_index ≡ 0 → ⊥) → p.last_included_index ≡ log.snapshot_index → p.last_included_term ≡ log.snapshot_term
  unfolding rows snapshot_successor_rows
  same_boundary nonzero e = go log.snapshot (pointer_is log f.sound) term_is c.1.0
    where
      term_is : log.snapshot_term ≡ or_zero (λ x. x.last_included_term) log.snapshot
      term_is =
          eqb-true _ _
          (and_r (log.snapshot_index =? or_zero (λ x. x.last_included_index) log.snapshot)
          (log.snapshot_term =? or_zero (λ x. x.last_included_term) log.snapshot) f.sound.pointers)

      me : PointerRecord
      me = record { identity = i; snapshot = p }

      go : (o : Option Pointer) → log.snapshot_index ≡ or_zero (λ x. x.last_included_index) o → log.snapshot_term ≡ or_zero (λ x. x.last_included_term) o
          → if_some {A = PointerRecord} (λ o. p.last_included_index =? o.snapshot.last_included_index && not (same_pointer_record me o))
          (option_map (λ x. record { identity = i; snapshot = x }) o)
          ≡ false
          → p.last_included_term ≡ log.snapshot_term
      go None a b x = absurd (nonzero (omega (arith, e)))
      go (Some o) a b x =
          let kept : PointerRecord = record { identity = i; snapshot = o } in
          let at_same = then_false (p.last_included_index =? o.last_included_index) (not (same_pointer_record me kept)) x (eq-eqb _ _ (e ∙ a)) in
          ap (λ (r : PointerRecord). r.snapshot.last_included_term) (record_eq me kept (not-false (same_pointer_record me kept) at_same)) ∙ sym b

  -- The entry at its index has its term, by 42.
  told : (x : Entry T) → log.snapshot_index < p.last_included_index → slice_get log.entries (p.last_included_index - (log.snapshot_index + 1)) ≡ Some x
      → x.term ≡ p.last_included_term
  unfolding rows snapshot_successor_rows install_rows
  told x h y =
      eqb-true x.term p.last_included_term
      (not-false (x.term =? p.last_included_term)
      (ap (if_some (λ e. e.term ≠? p.last_included_term)) (sym (at_is log f.sound f.low p.last_included_index h ∙ y)) ∙ c.1.1.1.0))

  pointer_rising : (p.last_included_index ≡ 0 → ⊥) → never_fall p.last_included_term (beyond p log) ≡ true
  pointer_rising nonzero = rw (pointer_at.1) (go (p.last_included_index - log.snapshot_index) refl)
    where
      go : (n : ℕ) → p.last_included_index - log.snapshot_index ≡ n → never_fall p.last_included_term (drop n log.entries) ≡ true
      go zero x = rw (same_boundary nonzero (omega (arith, not_under))) f.rising
      go (suc n) x =
          let e : p.last_included_index - (log.snapshot_index + 1) ≡ n = omega arith in
          fall_drop log.snapshot_term p.last_included_term log.entries n (λ y z. told y (omega arith) (ap (slice_get log.entries) e ∙ z)) f.rising

  pointer_fit : (p.last_included_index ≡ 0 → ⊥) → SoundLog (with_pointer p t log) → Fit (with_pointer p t log)
  unfolding with_pointer count
  pointer_fit nonzero s' =
      record {
        sound = s';
        low = small;
        rising = pointer_rising nonzero;
        committed =
            omega (arith, ends (with_pointer p t log) s' small, ends log f.sound f.low, f.committed, beyond_count p t log, base_is log, not_under);
      }

-- Any record that its form and its log let pass.
pub accept_fit : {T : Type 0} (i : Identity) (k : Kind) (t : T) (log : Log T) → Fit log → Clear (form_rows i k) → Clear (rows i k log)
    → fits_kind k ≡ true → low_kind k ≡ true → Fit (accept k t log)
unfolding form_rows accept
accept_fit i (entry version e) t log f g c m l = entry_fit i version e t log f c (accept_sound i (entry version e) t log f.sound g c m)
accept_fit i (hard_state version h) t log f g c m l = hard_fit i version h t log f c (accept_sound i (hard_state version h) t log f.sound g c m)
accept_fit i (pointer p) t log f g c m l =
    pointer_fit i p t log f c (ltb-true p.last_included_index u64_max l) (nonzero p.last_included_index p.last_included_term g.1.1.1.1.0)
    (accept_sound i (pointer p) t log f.sound g c m)
  where
    nonzero : (a b : ℕ) → (a =? 0 || b =? 0) ≡ false → a ≡ 0 → ⊥
    nonzero a b e h = go (a =? 0) (eq-eqb a 0 h) e
      where
        go : (c : Bool) → c ≡ true → (c || b =? 0) ≡ false → ⊥
        go true x y = true≢false y
        go false x y = false≢true x
