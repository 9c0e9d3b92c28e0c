-- The loop over the entries of a batch: what is asked of the whole is what is asked of the rest.
-- Assumes nothing.
use Rattle.std.specs.Prelude.{Option, None, Some, Result, Ok, Err}
use mathlib.Core.Path.{◌≡◌, refl, sym, ap, subst, ◌∙◌}
use mathlib.Core.Bool.{Bool, true, false, ◌&&◌}
use mathlib.Core.List.{List}
use Prim.Native.Nat.{ℕ, ◌+◌, ◌-◌, ◌<◌, ◌≤◌}
use native.Mathlib.Omega.{arith}
use native.Mathlib.Numerals.{add-one}
use borrow.Author.Tests.{eqb-true, eq-eqb, le-leb, lt-ltb}
use lib.ListN.{length, get_or, drop}
use lib.Seq.{drop-cons}
use Rattle.std.proofs.lemmas.List.{drop_all}
use Rattle.definition.specs.Table.{◌=?◌, ◌≤?◌, first_of, u64_max}
use Rattle.definition.proofs.Laws.{none_some}
use Rattle.ids.specs.declared.RaftReplicaIdentity.{RaftReplicaIdentity}
use Rattle.ids.specs.declared.Refusal.{Refusal}
use Rattle.ids.specs.Refusal.{checked_of}
use Rattle.codec.specs.declared.RaftLogEntryRecord.{RaftLogEntryRecord}
use Rattle.codec.specs.Records.{log_entry_of}
use Rattle.view.specs.declared.Header.{Header}
use Rattle.view.specs.Meaning.{base_of}
use Rattle.view.specs.Readers.{place_of}
use Rattle.view.proofs.Readers.{Held, held_at_lem}
use Rattle.batches.specs.declared.BatchEntry.{BatchEntry}
use Rattle.preview.specs.declared.Preview.{Preview}
use Rattle.batches.specs.Checks.{entry_form_rows}
use Rattle.batches.specs.Meaning.{blank, record_of}
use Rattle.preview.specs.Preview.{holds_at, within, spot_in, spot_of, Ran, ran_with, ran, taken_at, formed_by, entry_ran, onward, extend_over, Reached, Leaves, Sits, Takes}
use Rattle.preview.specs.Extends.{Next}
use Rattle.preview.proofs.Supplied.{entry_next}

-- The search for the place of an index. A place that holds it is the one ..
both_true : (a b : Bool) → (a && b) ≡ true → (a ≡ true) × (b ≡ true)
both_true true true e = (refl, refl)
both_true true false e = absurd (let z : ◌≡◌ {A = ℕ} 0 1 = cc in omega arith)
both_true false b e = absurd (let z : ◌≡◌ {A = ℕ} 0 1 = cc in omega arith)

module _ (h : Header) (x q : ℕ) where
  pub spot_found : h.len ≤ 64 → q < h.len → holds_at h q x ≡ true → within q ≡ spot_of h x
  spot_found short l e =
      let f : (base_of h ≤? x ≡ true) × (x - base_of h =? q ≡ true) = both_true (base_of h ≤? x) (x - base_of h =? q) e in
      let at : x - base_of h ≡ q = eqb-true (x - base_of h) q f.1 in
      let p : place_of h x ≡ Some (x - base_of h) = rw (f.0, lt-ltb (x - base_of h) h.len (omega arith)) in
      let a : within q ≡ q = rw (lt-ltb q 64 (omega arith)) in
      a ∙ sym at ∙ sym (ap (λ (y : Option ℕ). spot_in y h.len) p)

  -- .. and where all of them do not, it is the one after the last.
  pub spot_missing : (k : ℕ) → q ≡ h.len → h.len ≤ k → ((j : ℕ) → j < k → holds_at h j x ≡ false) → within q ≡ spot_of h x
  spot_missing k z m all = go (place_of h x) refl
    where
      go : (p : Option ℕ) → place_of h x ≡ p → within q ≡ spot_in p h.len
      go None e = ap within z
      go (Some j) e =
          let y : Held h x j = held_at_lem h x j e in
          let b : base_of h + j ≡ x = y.index in
          let t : j < k = omega (arith, y.below) in
          let u : holds_at h j x ≡ true = rw (le-leb (base_of h) x (omega arith), eq-eqb (x - base_of h) j (omega arith)) in
          absurd (let w : true ≡ false = sym u ∙ all j t in let z : ◌≡◌ {A = ℕ} 0 1 = cc in omega arith)

-- A turn, by what an entry leaves.
turn_ends : (x y : Ran) (rest : Ran → Ran) (k : ℕ) → x ≡ y → y.refused ≡ Some k → onward x.refused x (rest x) ≡ y
turn_ends x y rest k e w = ap (λ (z : Ran). onward z.refused z (rest z)) e ∙ ap (λ (o : Option ℕ). onward o y (rest y)) w

turn_goes : (x y : Ran) (rest : Ran → Ran) → x ≡ y → y.refused ≡ None → onward x.refused x (rest x) ≡ rest y
turn_goes x y rest e w = ap (λ (z : Ran). onward z.refused z (rest z)) e ∙ ap (λ (o : Option ℕ). onward o y (rest y)) w

module _ (d : RaftReplicaIdentity) (es : List BatchEntry) (lent : List ℕ) where
  abbrev left : ℕ → Preview → List ℕ → Ran
  left i p cs = extend_over d (drop i es) lent p cs

  abbrev rest : ℕ → Ran → Ran
  rest i x = left (i + 1) x.preview x.bytes

  -- the record of entry i
  abbrev own : ℕ → RaftLogEntryRecord
  own i = record_of d (get_or es i blank)

  abbrev one : ℕ → Preview → List ℕ → Ran
  one i p cs = entry_ran p (own i) cs lent

  extend_step : (i : ℕ) (p : Preview) (cs : List ℕ) → i < length es → left i p cs ≡ onward (one i p cs).refused (one i p cs) (rest i (one i p cs))
  unfolding extend_over
  extend_step i p cs h = rw (drop-cons es i blank h, add-one i)

  extend_none : (i : ℕ) (p : Preview) (cs : List ℕ) → length es ≤ i → left i p cs ≡ ran None p cs
  unfolding extend_over
  extend_none i p cs h = rw (drop_all i es h)

  reached_step : (i : ℕ) (p : Preview) (cs : List ℕ) → i < length es → (own i).index ≤ u64_max
      → ((one i p cs).refused ≡ None → Reached d (drop (i + 1) es) lent (one i p cs).preview (one i p cs).bytes)
      → Reached d (drop i es) lent p cs
  unfolding Reached
  reached_step i p cs h small more = rw (drop-cons es i blank h) (small, rw (add-one i) at more)

  reached_none : (i : ℕ) (p : Preview) (cs : List ℕ) → length es ≤ i → Reached d (drop i es) lent p cs
  unfolding Reached
  reached_none i p cs h = rw (drop_all i es h) tt

  -- Where the loop's test is reached: i entries were taken.
  pub record Running (p₀ : Preview) (cs₀ : List ℕ) (p : Preview) (cs : List ℕ) (o : Result (Unit {0}) Refusal) (i : ℕ) : Type 0 where
    pub ready : o ≡ (Ok tt)
    pub sits : Sits p cs
    pub whole : extend_over d es lent p₀ cs₀ ≡ left i p cs
    pub reached : Reached d (drop i es) lent p cs → Reached d es lent p₀ cs₀
    pub long : length cs ≡ length cs₀

  module _ (p₀ : Preview) (cs₀ : List ℕ) (p : Preview) (cs : List ℕ) (o : Result (Unit {0}) Refusal) (i : ℕ) (k : Running p₀ cs₀ p cs o i) where
    -- all were taken
    pub run_end : length es ≤ i → Leaves (ran_with o p cs) (extend_over d es lent p₀ cs₀) (Reached d es lent p₀ cs₀)
    run_end l =
        record {
          is = ap (λ (a : Result (Unit {0}) Refusal). ran_with a p cs) k.ready ∙ sym (k.whole ∙ extend_none i p cs l);
          read = k.reached (reached_none i p cs l);
        }

    module _ (l : i < length es) (r : RaftLogEntryRecord) (er : r ≡ own i) (small : r.index ≤ u64_max) (a : Result (Unit {0}) Refusal) (ea : checked_of a ≡ first_of (entry_form_rows p.lsn (log_entry_of r lent))) where
      step : extend_over d es lent p₀ cs₀ ≡ onward (one i p cs).refused (one i p cs) (rest i (one i p cs))
      step = k.whole ∙ extend_step i p cs l

      step_reached : ((one i p cs).refused ≡ None → Reached d (drop (i + 1) es) lent (one i p cs).preview (one i p cs).bytes) → Reached d es lent p₀ cs₀
      step_reached more =
          let e : r.index ≡ (own i).index = ap (λ (z : RaftLogEntryRecord). z.index) er in
          k.reached (reached_step i p cs l (omega arith) more)

      -- refused, and the whole with it
      ends : (y : Ran) (n : ℕ) → one i p cs ≡ y → y.refused ≡ Some n → Leaves y (extend_over d es lent p₀ cs₀) (Reached d es lent p₀ cs₀)
      ends y n e w =
          record {
            is = sym (step ∙ turn_ends (one i p cs) y (rest i) n e w);
            read = step_reached (λ q. absurd (none_some (sym q ∙ ap (λ (x : Ran). x.refused) e ∙ w)));
          }

      -- refused for its form
      formed_out : (c : ℕ) → first_of (entry_form_rows p.lsn (log_entry_of r lent)) ≡ Some c → entry_ran p r cs lent ≡ ran (Some c) p cs
      unfolding entry_ran
      formed_out c w = ap (λ (z : Option ℕ). formed_by z p cs (taken_at p (spot_of p.head r.index) r cs lent)) w

      pub run_formed : (why : Refusal) → a ≡ Err why → Leaves (ran_with (Err why) p cs) (extend_over d es lent p₀ cs₀) (Reached d es lent p₀ cs₀)
      run_formed why w =
          ends (ran (checked_of (Err why)) p cs) _ (ap (λ (z : RaftLogEntryRecord). entry_ran p z cs lent) (sym er) ∙ formed_out _ (sym ea ∙ ap checked_of w)) refl

      -- taken at the place of its index
      module _ (ok : a ≡ (Ok tt)) (q : ℕ) (place : q ≡ spot_of p.head r.index) where
        formed : first_of (entry_form_rows p.lsn (log_entry_of r lent)) ≡ None
        formed = sym ea ∙ ap checked_of ok

        pub run_takes : Takes p q r cs lent
        run_takes = record { sits = k.sits; place = place; formed = formed }

        module _ (z : Result (Unit {0}) Refusal) (t : Preview) (cs' : List ℕ) (et : ran_with z t cs' ≡ taken_at p q r cs lent) where
          formed_in : entry_ran p r cs lent ≡ taken_at p q r cs lent
          unfolding entry_ran
          formed_in =
              ap (λ (z : Option ℕ). formed_by z p cs (taken_at p (spot_of p.head r.index) r cs lent)) formed
              ∙ ap (λ (z : ℕ). taken_at p z r cs lent) (sym place)

          one_is : one i p cs ≡ ran_with z t cs'
          one_is = ap (λ (z : RaftLogEntryRecord). entry_ran p z cs lent) (sym er) ∙ formed_in ∙ sym et

          pub run_refused : (why : Refusal) → z ≡ Err why → Leaves (ran_with (Err why) t cs') (extend_over d es lent p₀ cs₀) (Reached d es lent p₀ cs₀)
          run_refused why w =
              subst (λ (a : Result (Unit {0}) Refusal). Leaves (ran_with a t cs') (extend_over d es lent p₀ cs₀) (Reached d es lent p₀ cs₀)) w (ends (ran_with z t cs') _ one_is (ap checked_of w))

          pub run_next : z ≡ (Ok tt) → Running p₀ cs₀ t cs' o (i + 1)
          run_next w =
              let y : entry_ran p r cs lent ≡ ran_with z t cs' = formed_in ∙ sym et in
              let m : Next p cs (log_entry_of r lent) (entry_ran p r cs lent) = entry_next p cs k.sits r lent small (ap (λ (z : Ran). z.refused) y ∙ ap checked_of w) in
              let m' : Next p cs (log_entry_of r lent) (ran_with z t cs') = rw y at m in
              record {
                ready = k.ready;
                sits = record { fits = m'.means.fits; places = m'.means.places; bytes = m'.means.bytes };
                whole = step ∙ turn_goes (one i p cs) (ran_with z t cs') (rest i) one_is (ap checked_of w);
                reached = λ g. step_reached (λ q. subst (λ (x : Ran). Reached d (drop (i + 1) es) lent x.preview x.bytes) (sym one_is) g);
                long = omega (arith, m'.means.bytes, k.sits.bytes, k.long);
              }
