-- What any healthy journal guarantees, carried from record to record (document 02, Q-2).
-- Assumes nothing.
use Prim.Native.Nat.{ℕ, zero, suc, ◌+◌, ◌-◌, ◌≤◌}
use mathlib.Core.Path.{◌≡◌, refl, sym, ap, ◌∙◌, subst}
use mathlib.Core.Logic.{◌⊎◌, inl, inr}
use mathlib.Core.Bool.{Bool, true, false}
use mathlib.Core.List.{List, [], ◌∷◌, ◌++◌}
use native.Mathlib.Omega.{arith}
use native.Mathlib.Nat.{zero-add, suc-add}
use lib.ListN.{length, take, drop, set}
use borrow.Author.Tests.{ltb-true}
use Rattle.std.specs.Prelude.{if◌then◌else◌, Some, slice_get}
use Rattle.definition.specs.Table.{every, u64_max}
use Rattle.definition.specs.Records.{Identity, Kind, entry, hard_state, pointer, form_rows, Content, content, Record}
use Rattle.definition.specs.Log.{Entry, Log, empty, base, count, snapshot_boundary, last_index, last, place, same_term, rows, placed, with_entry, with_hard_state, with_pointer, accept, normalize_hard_state_term, with_hard}
use Rattle.definition.specs.Two.{fits_kind, fits_content, fits}
use Rattle.definition.specs.Healthy.{low_kind, low_content, low_pointer, AcceptedRecord, Brought, Guaranteed, EachReplica, Guarantee}
use Rattle.definition.proofs.Laws.{every_nth, none_some, Clear}
use Rattle.definition.proofs.SoundLog.{normalize_sound}
use Rattle.definition.proofs.Carried.{Carries, carried}
use Rattle.definition.proofs.Healthy.{Fit, fit_healthy, empty_fit, accept_fit, entry_at, pointer_at}

-- What stands at a place of a list after a change.
module _ {A : Type 0} where
  -- What stands there was put there, or stood there before.
  abbrev Stands : List A → ℕ → A → ℕ → A → Type 0
  Stands l n b q x = ((q ≡ n) × (b ≡ x)) ⊎ (slice_get l q ≡ Some x)

  stands_suc : (a : A) (l : List A) (n : ℕ) (b : A) (q : ℕ) (x : A) → Stands l n b q x → Stands (a ∷ l) (suc n) b (suc q) x
  stands_suc a l n b q x (inl h) = inl (ap suc h.0, h.1)
  stands_suc a l n b q x (inr h) = inr h

  get_set : (l : List A) (n : ℕ) (b : A) (q : ℕ) (x : A) → slice_get (set l n b) q ≡ Some x → Stands l n b q x
  get_set [] n b q x e = inr e
  get_set (a ∷ l) zero b zero x e = inl (refl, cc e)
  get_set (a ∷ l) zero b (suc q) x e = inr e
  get_set (a ∷ l) (suc n) b zero x e = inr e
  get_set (a ∷ l) (suc n) b (suc q) x e = stands_suc a l n b q x (get_set l n b q x e)

  get_cut : (l : List A) (n : ℕ) (b : A) (q : ℕ) (x : A) → n ≤ length l → slice_get (take n l ++ b ∷ []) q ≡ Some x → Stands l n b q x
  get_cut l zero b zero x h e = inl (refl, cc e)
  get_cut l zero b (suc q) x h e = absurd (none_some e)
  get_cut [] (suc n) b q x h e = absurd (omega arith)
  get_cut (a ∷ l) (suc n) b zero x h e = inr e
  get_cut (a ∷ l) (suc n) b (suc q) x h e = stands_suc a l n b q x (get_cut l n b q x (omega arith) e)

  get_drop : (k : ℕ) (l : List A) (q : ℕ) → slice_get (drop k l) q ≡ slice_get l (k + q)
  get_drop zero l q = ap (slice_get l) (sym (zero-add q))
  get_drop (suc k) [] q = refl
  get_drop (suc k) (a ∷ l) q = get_drop k l q ∙ ap (slice_get (a ∷ l)) (sym (suc-add k q))

-- Every entry of a log comes from somewhere, at its index.
module _ {T : Type 0} (Src : ℕ → Entry T → Type 0) where
  abbrev Comes : Log T → Type 0
  Comes log = (q : ℕ) (e : Entry T) → slice_get log.entries q ≡ Some e → Src (log.snapshot_index + 1 + q) e

  -- What a record brings: an entry, itself at its index.
  abbrev Brings : Kind → T → Type 0
  Brings (entry version e) t = Src e.index (record { term = e.term; payload = e.payload; lsn = t })
  Brings (hard_state version h) t = Unit {0}
  Brings (pointer p) t = Unit {0}

  -- What is carried for a replica.
  record Good (log : Log T) : Type 0 where
    pub fit : Fit log
    pub comes : Comes log

  empty_good : Good empty
  unfolding empty
  empty_good = record { fit = empty_fit; comes = λ q e x. absurd (none_some x) }

  accept_comes : (i : Identity) (k : Kind) (t : T) (log : Log T) → Fit log → Clear (rows i k log) → low_kind k ≡ true → Brings k t → Comes log
      → Comes (accept k t log)
  unfolding accept with_entry with_hard_state with_pointer placed count
  accept_comes i (entry version e) t log f c l b h q x y = go (same_term log e) y
    where
      new : Entry T
      new = record { term = e.term; payload = e.payload; lsn = t }

      -- Its index is boundary plus one plus its place, which is held or the next.
      is : (log.snapshot_index + 1 + place log e.index ≡ e.index) × (place log e.index ≤ length log.entries)
      is = entry_at i version e t log f c

      here : Stands log.entries (place log e.index) new q x → Src (log.snapshot_index + 1 + q) x
      here (inl z) =
          let m : e.index ≡ log.snapshot_index + 1 + q = omega (arith, is, z.0) in
          subst (λ (n : ℕ). Src n x) m (subst (Src e.index) z.1 b)
      here (inr z) = h q x z

      go : (d : Bool)
          → slice_get (if d then set log.entries (place log e.index) new else take (place log e.index) log.entries ++ new ∷ []) q ≡ Some x
          → Src (log.snapshot_index + 1 + q) x
      go true y = here (get_set log.entries (place log e.index) new q x y)
      go false y = here (get_cut log.entries (place log e.index) new q x is.1 y)
  accept_comes i (hard_state version d) t log f c l b h q x y = h q x y
  accept_comes i (pointer p) t log f c l b h q x y =
      let k : ℕ = p.last_included_index - log.snapshot_index in
      let z = pointer_at i p t log f c (ltb-true p.last_included_index u64_max l) in
      let m : log.snapshot_index + 1 + (k + q) ≡ p.last_included_index + 1 + q = omega (arith, z.0) in
      subst (λ (n : ℕ). Src n x) m
      (h (k + q) x (sym (get_drop k log.entries q) ∙ ap (λ (es : List (Entry T)). slice_get es q) (sym z.1) ∙ y))

  accept_good : (i : Identity) (k : Kind) (t : T) (log : Log T) → Clear (form_rows i k) → Clear (rows i k log) → fits_kind k ≡ true → low_kind k ≡ true
      → Brings k t → Good log → Good (accept k t log)
  accept_good i k t log f c m l b g =
      record { fit = accept_fit i k t log g.fit f c m l; comes = accept_comes i k t log g.fit c l b g.comes }

  -- Finishing keeps it.
  normalize_good : (log : Log T) → Good log → Good (normalize_hard_state_term log)
  unfolding normalize_hard_state_term with_hard last last_index snapshot_boundary base count
  normalize_good log g =
      record {
        fit = record { sound = normalize_sound log g.fit.sound; low = g.fit.low; rising = g.fit.rising; committed = g.fit.committed };
        comes = g.comes;
      }

-- A list from empty.
module _ (all : List Record) (m : every fits all ≡ true) (l : every low_pointer all ≡ true) where
  abbrev GoodOf : Identity → Log ℕ → Type 0
  GoodOf i log = Good (Brought all i) log

  brings : (i : Identity) (k : Kind) (lsn : ℕ) → AcceptedRecord all i k lsn → Brings (Brought all i) k lsn
  brings i (entry version e) lsn a = record { version = version; by = a }
  brings i (hard_state version h) lsn a = tt
  brings i (pointer p) lsn a = tt

  -- What is said of each of the list: it is a machine's, and its pointer low.
  of_list : (p : Content → Bool) → every (λ r. p (content r)) all ≡ true → (i : Identity) (k : Kind) (lsn : ℕ) → AcceptedRecord all i k lsn
      → p (Some (i, k)) ≡ true
  of_list p e i k lsn a = ap p (sym a.says) ∙ every_nth (λ r. p (content r)) all a.n a.by a.nth e

  carries_good : Carries all GoodOf
  carries_good =
      record {
        of_empty = λ i. empty_good (Brought all i);
        accepting = λ i k lsn log a f c g.
            accept_good (Brought all i) i k lsn log f c (of_list fits_content m i k lsn a) (of_list low_content l i k lsn a) (brings i k lsn a) g;
        finishing = λ i log g. normalize_good (Brought all i) log g;
      }

  guaranteed : EachReplica all GoodOf → EachReplica all (Guaranteed all)
  guaranteed c =
      record { after_the_last = λ i log e. holds log (c.after_the_last i log e); after_finishing = λ i log e. holds log (c.after_finishing i log e) }
    where
      holds : {i : Identity} (log : Log ℕ) → GoodOf i log → Guaranteed all i log
      holds log g = record { healthy = fit_healthy log g.fit; brought = g.comes }

pub guarantee : Guarantee
guarantee rs m l = guaranteed rs m l (carried rs (GoodOf rs m l) (carries_good rs m l))
