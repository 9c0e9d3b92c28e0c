-- The pointer, the hard state and the terms of a batch do to a preview what the definition says, and so does the whole preparation.
-- Assumes nothing.
use Rattle.std.specs.Prelude.{Option, None, Some, option_map, Result, Ok}
use mathlib.Core.Path.{◌≡◌, refl, sym, ap, subst, ◌∙◌}
use mathlib.Core.Logic.{inl, inr}
use mathlib.Core.List.{List, [], ◌∷◌}
use Prim.Native.Nat.{ℕ, ◌+◌}
use native.Mathlib.Omega.{arith}
use lib.ListN.{length, get_or}
use Rattle.definition.specs.Table.{Row, first_of}
use Rattle.definition.specs.Records.{Identity}
use Rattle.definition.specs.Log as D
use Rattle.definition.specs.Batch as M
use Rattle.definition.proofs.Laws.{none_some}
use Rattle.ids.specs.declared.RaftReplicaIdentity.{RaftReplicaIdentity}
use Rattle.ids.specs.Identity.{identity_of}
use Rattle.codec.specs.declared.HardState.{HardState}
use Rattle.codec.specs.declared.RaftSnapshotPointerRecord.{RaftSnapshotPointerRecord}
use Rattle.codec.specs.Records.{hard_state_of, maybe_hard_state_of, pointer_of, pointer_record_of, maybe_pointer_of}
use Rattle.view.specs.declared.Header.{Header}
use Rattle.view.specs.declared.RecoveredRaftLogEntry.{RecoveredRaftLogEntry}
use Rattle.view.specs.Meaning.{no_entry, view_of, Fits, Means}
use Rattle.view.specs.Model.{covered_by, maximum_term}
use Rattle.view.specs.Readers.{last_of, place_of, at_place}
use Rattle.view.proofs.Accepted.{pointer_means}
use Rattle.view.proofs.Block.{head_fits}
use Rattle.view.proofs.Head.{hard_view}
use Rattle.view.proofs.Told.{term_at_is}
use Rattle.replay.specs.Plan.{look_of, held_term_in}
use Rattle.replay.proofs.Settled.{look_held}
use Rattle.batches.specs.declared.RaftPersistenceBatch.{RaftPersistenceBatch}
use Rattle.preview.specs.declared.Preview.{Preview}
use Rattle.batches.specs.Checks.{pointer_rows, hard_state_rows, term_rows}
use Rattle.batches.specs.Meaning.{entries_of, batch_of}
use Rattle.preview.specs.Preview.{Ran, ran, formed_by, onward, extend_over, Reached}
use Rattle.preview.specs.Extends.{Ends, Extends}
use Rattle.persistence.specs.Prepare.{held_at, pointed_with, point_ran, hardened_with, harden_ran, conclude_ran, point_in, harden_in, followed, lastly_ran, entries_ran, pointed_ran, beginning, prepare_ran, PointedReached, BatchReached}
use Rattle.persistence.specs.Prepares.{Stands, Steps, Prepares}
use Rattle.batches.proofs.Rows.{pointer_rows_lem, hard_state_means, term_means}
use Rattle.preview.proofs.Extending.{refused_by, passed_by, extends}

formed_is : (o : Option ℕ) (p : Preview) (cs : List ℕ) (q : Preview) (ds : List ℕ) → (formed_by o p cs (ran None q ds)).refused ≡ o
formed_is None p cs q ds = refl
formed_is (Some n) p cs q ds = refl

-- A refusal ends it, else what follows is asked.
ends_followed : (x : Ran) (rest : Preview → List ℕ → Ran) (whole : Result M.Preview ℕ) → Ends x whole → Ends (followed x rest) whole
ends_followed x rest whole a =
    record {
      number = a.number;
      refused = ap (λ (o : Option ℕ). (onward o x (rest x.preview x.bytes)).refused) a.refused ∙ a.refused;
      says = a.says;
    }

goes_followed : (x : Ran) (rest : Preview → List ℕ → Ran) (whole : Result M.Preview ℕ) → x.refused ≡ None
    → Prepares (rest x.preview x.bytes) whole → Prepares (followed x rest) whole
goes_followed x rest whole e q = subst (λ (o : Option ℕ). Prepares (onward o x (rest x.preview x.bytes)) whole) (sym e) q

carry : (x : Ran) (whole next : Result M.Preview ℕ) → whole ≡ next → Prepares x next → Prepares x whole
carry x whole next e q = subst (λ (w : Result M.Preview ℕ). Prepares x w) (sym e) q

-- A part that is refused by the definition's rows, and leaves the definition's preview where it is not.
steps : (x : Ran) (rows : List Row) (v : M.Preview) (go : M.Preview → Result M.Preview ℕ) → first_of rows ≡ x.refused → (x.refused ≡ None → Stands x v)
    → Steps x v go (M.previewed rows v go)
steps x rows v go w s = pick x.refused refl
  where
    pick : (o : Option ℕ) → x.refused ≡ o → Steps x v go (M.previewed rows v go)
    pick (Some n) e = inl (record { number = n; refused = e; says = refused_by rows v go n (w ∙ e) })
    pick None e = inr (record { refused = e; says = passed_by rows v go (w ∙ e); stands = s e })

follow_step : (x : Ran) (v : M.Preview) (go : M.Preview → Result M.Preview ℕ) (whole : Result M.Preview ℕ) (rest : Preview → List ℕ → Ran) → Steps x v go whole
    → (x.refused ≡ None → Stands x v → Prepares (rest x.preview x.bytes) (go v)) → Prepares (followed x rest) whole
follow_step x v go whole rest (inl a) k = inl (ends_followed x rest whole a)
follow_step x v go whole rest (inr a) k =
    goes_followed x rest whole a.refused (carry (rest x.preview x.bytes) whole (go v) a.says (k a.refused a.stands))

module _ (i : Identity) (p : Preview) (cs : List ℕ) (v : M.Preview) (m : Means p.head p.entries cs v.log) (at : v.lsn ≡ p.lsn) where
  abbrev log : D.Log ℕ
  log = view_of p.head p.entries cs

  -- The pointer.
  module _ (r : RaftSnapshotPointerRecord) where
    abbrev x : ℕ
    x = r.last_included_index

    told : option_map (λ o. o.term) (D.at log x) ≡ (held_at p x)
    told = term_at_is p.head p.entries cs x ∙ go (place_of p.head x) refl
      where
        go : (q : Option ℕ) → place_of p.head x ≡ q
            → at_place q (λ (q : ℕ). (get_or p.entries q no_entry).term) ≡ (held_term_in q (get_or p.entries (look_of p.head x) no_entry).term)
        go None w = refl
        go (Some q) w = ap (λ (y : ℕ). Some (get_or p.entries y no_entry).term) (sym (look_held p.head x q m.fits.short w))

    abbrev k : ℕ
    k = covered_by p.head x

    pub point_refuses : (b : M.Batch) → first_of (M.batch_pointer_rows i b v.log (pointer_record_of r) v) ≡ (point_ran i p r cs).refused
    unfolding point_ran
    point_refuses b =
        ap (λ (g : D.Log ℕ). first_of (M.batch_pointer_rows i b g (pointer_record_of r) v)) (sym m.view)
        ∙ pointer_rows_lem i b v p.head p.entries cs m.fits (sym m.view) r (held_at p x) told
        ∙ ap (λ (n : ℕ). first_of (pointer_rows i p.head n (held_at p x) r)) at
        ∙ sym (formed_is (first_of (pointer_rows i p.head p.lsn (held_at p x) r)) p cs (pointed_with p r k cs).preview (pointed_with p r k cs).bytes)

    pointed_log : D.with_pointer (pointer_of r) (p.lsn + 1) log ≡ D.with_pointer (pointer_of r) (v.lsn + 1) v.log
    pointed_log =
        ap (λ (n : ℕ). D.with_pointer (pointer_of r) (n + 1) log) (sym at) ∙ ap (λ (g : D.Log ℕ). D.with_pointer (pointer_of r) (v.lsn + 1) g) m.view

    pub point_next : (point_ran i p r cs).refused ≡ None → Stands (point_ran i p r cs) (M.preview_pointer (pointer_record_of r) v)
    unfolding point_ran
    point_next = go (first_of (pointer_rows i p.head p.lsn (held_at p x) r))
      where
        go : (o : Option ℕ) → (formed_by o p cs (pointed_with p r k cs)).refused ≡ None → Stands (formed_by o p cs (pointed_with p r k cs)) (M.preview_pointer (pointer_record_of r) v)
        go (Some n) z = absurd (none_some (sym z))
        go None z =
            record {
              means =
                  subst (λ (g : D.Log ℕ). Means (pointed_with p r k cs).preview.head (pointed_with p r k cs).preview.entries (pointed_with p r k cs).bytes g) pointed_log
                  (pointer_means p.head p.entries cs m.fits m.places m.bytes r (record { 0 = p.lsn + 1 }) k refl);
              lsn = ap (λ (n : ℕ). n + 1) at;
            }

    -- It is the definition's step.
    pub points : (b : M.Batch) (go : M.Preview → Result M.Preview ℕ)
        → Steps (point_ran i p r cs) (M.preview_pointer (pointer_record_of r) v) go (M.previewed (M.batch_pointer_rows i b v.log (pointer_record_of r) v) (M.preview_pointer (pointer_record_of r) v) go)
    points b go = steps (point_ran i p r cs) (M.batch_pointer_rows i b v.log (pointer_record_of r) v) (M.preview_pointer (pointer_record_of r) v) go (point_refuses b) point_next

  -- The hard state and the terms, where k is the header that was kept before the batch.
  module _ (b : RaftPersistenceBatch) (lent : List ℕ) (k : Header) (ks : List RecoveredRaftLogEntry) (kcs : List ℕ) where
    abbrev was : D.Log ℕ
    was = view_of k ks kcs

    abbrev batch : M.Batch
    batch = batch_of b lent

    pub harden_refuses : (h : HardState) → first_of (M.batch_hard_state_rows i batch was (hard_state_of h) v) ≡ (harden_ran k.hard_state b.snapshot h p cs).refused
    unfolding harden_ran
    harden_refuses h =
        ap first_of (hard_state_means b lent k ks kcs v p.head p.entries cs (sym m.view) m.fits i h)
        ∙ sym (formed_is (first_of (hard_state_rows k.hard_state b.snapshot (last_of p.head) h)) p cs (hardened_with p h) cs)

    pub harden_next : (h : HardState) → (harden_ran k.hard_state b.snapshot h p cs).refused ≡ None
        → Stands (harden_ran k.hard_state b.snapshot h p cs) (M.preview_hard_state i (hard_state_of h) v)
    unfolding harden_ran
    harden_next h = go (first_of (hard_state_rows k.hard_state b.snapshot (last_of p.head) h))
      where
        go : (o : Option ℕ) → (formed_by o p cs (ran None (hardened_with p h) cs)).refused ≡ None
            → Stands (formed_by o p cs (ran None (hardened_with p h) cs)) (M.preview_hard_state i (hard_state_of h) v)
        go (Some n) z = absurd (none_some (sym z))
        go None z =
            record {
              means =
                  record {
                    view = hard_view p.head p.entries cs (Some h) ∙ ap (λ (g : D.Log ℕ). D.with_hard (Some (hard_state_of h)) g) m.view;
                    fits = head_fits m.fits refl refl;
                    places = m.places;
                    bytes = m.bytes;
                  };
              lsn = at;
            }

    pub hardens : (h : HardState) (go : M.Preview → Result M.Preview ℕ)
        → Steps (harden_ran k.hard_state b.snapshot h p cs) (M.preview_hard_state i (hard_state_of h) v) go
        (M.previewed (M.batch_hard_state_rows i batch was (hard_state_of h) v) (M.preview_hard_state i (hard_state_of h) v) go)
    hardens h go =
        steps (harden_ran k.hard_state b.snapshot h p cs) (M.batch_hard_state_rows i batch was (hard_state_of h) v) (M.preview_hard_state i (hard_state_of h) v) go (harden_refuses h) (harden_next h)

    pub concludes : Prepares (conclude_ran b.hard_state k.hard_state p cs) (M.concluded i batch was v)
    unfolding conclude_ran M.concluded
    concludes = go (first_of (term_rows b.hard_state k.hard_state p.head.snapshot_term (maximum_term p.head p.entries))) refl
      where
        rows : M.hard_state_before_log_term batch was v ∷ [] ≡ term_rows b.hard_state k.hard_state p.head.snapshot_term (maximum_term p.head p.entries)
        rows = term_means b lent k ks kcs v p.head p.entries cs (sym m.view) (omega (arith, m.places, m.fits.short))

        go : (o : Option ℕ) → first_of (term_rows b.hard_state k.hard_state p.head.snapshot_term (maximum_term p.head p.entries)) ≡ o
            → Prepares (ran (first_of (term_rows b.hard_state k.hard_state p.head.snapshot_term (maximum_term p.head p.entries))) p cs)
            (M.previewed (M.hard_state_before_log_term batch was v ∷ []) v Ok)
        go (Some n) w = inl (record { number = n; refused = w; says = refused_by (M.hard_state_before_log_term batch was v ∷ []) v Ok n (ap first_of rows ∙ w) })
        go None w =
            inr (record {
              next = v;
              refused = w;
              says = passed_by (M.hard_state_before_log_term batch was v ∷ []) v Ok (ap first_of rows ∙ w);
              stands = record { means = m; lsn = at };
            })

-- The hard state, if there is one, then the terms.
module _ (i : Identity) (b : RaftPersistenceBatch) (lent : List ℕ) (k : Header) (ks : List RecoveredRaftLogEntry) (kcs : List ℕ) where
  abbrev before : D.Log ℕ
  before = view_of k ks kcs

  abbrev asking : M.Batch
  asking = batch_of b lent

  abbrev kept : Option HardState
  kept = k.hard_state

  abbrev terms : Preview → List ℕ → Ran
  terms = conclude_ran b.hard_state kept

  module _ (p : Preview) (cs : List ℕ) (v : M.Preview) (m : Means p.head p.entries cs v.log) (at : v.lsn ≡ p.lsn) where
    hardened_none : M.hardened i asking before None v ≡ M.concluded i asking before v
    unfolding M.hardened
    hardened_none = refl

    hardened_some : (h : HardState) → Steps (harden_ran kept b.snapshot h p cs) (M.preview_hard_state i (hard_state_of h) v) (M.concluded i asking before) (M.hardened i asking before (Some (hard_state_of h)) v)
    unfolding M.hardened
    hardened_some h = hardens i p cs v m at b lent k ks kcs h (M.concluded i asking before)

    lastly_of : (hs : Option HardState) → Prepares (followed (harden_in kept b.snapshot hs p cs) terms) (M.hardened i asking before (maybe_hard_state_of hs) v)
    lastly_of None =
        carry (terms p cs) (M.hardened i asking before None v) (M.concluded i asking before v) hardened_none (concludes i p cs v m at b lent k ks kcs)
    lastly_of (Some h) =
        follow_step (harden_ran kept b.snapshot h p cs) (M.preview_hard_state i (hard_state_of h) v) (M.concluded i asking before) (M.hardened i asking before (Some (hard_state_of h)) v) terms
        (hardened_some h)
        (λ w y. concludes i (harden_ran kept b.snapshot h p cs).preview (harden_ran kept b.snapshot h p cs).bytes (M.preview_hard_state i (hard_state_of h) v) y.means y.lsn b lent k ks kcs)

    pub lastly : Prepares (lastly_ran b.snapshot b.hard_state kept p cs) (M.hardened i asking before asking.hard_state v)
    unfolding lastly_ran
    lastly = lastly_of b.hard_state

  -- The entries before that.
  module _ (d : RaftReplicaIdentity) (p : Preview) (cs : List ℕ) (v : M.Preview) (m : Means p.head p.entries cs v.log) (at : v.lsn ≡ p.lsn) (reached : Reached d b.entries.now lent p cs) where
    abbrev es : List M.BatchEntry
    es = entries_of b.entries.now lent

    abbrev came : Ran
    came = extend_over d b.entries.now lent p cs

    abbrev rest : Preview → List ℕ → Ran
    rest = lastly_ran b.snapshot b.hard_state kept

    entries_go : Extends came i asking before (M.extended i asking before es v) → Prepares (followed came rest) (M.extended i asking before es v)
    entries_go (inl a) = inl (ends_followed came rest (M.extended i asking before es v) a)
    entries_go (inr g) =
        goes_followed came rest (M.extended i asking before es v) g.refused
        (carry (rest came.preview came.bytes) (M.extended i asking before es v) (M.hardened i asking before asking.hard_state g.next) g.says
        (lastly came.preview came.bytes g.next g.means g.lsn))

    pub entries_prepare : Prepares (entries_ran d b kept lent p cs) (M.extended i asking before es v)
    unfolding entries_ran
    entries_prepare = entries_go (extends i asking before d lent b.entries.now p cs v m at reached)

-- The whole, on what is kept of the replica.
module _ (d : RaftReplicaIdentity) (b : RaftPersistenceBatch) (lent : List ℕ)
    (h : Header) (hs : List RecoveredRaftLogEntry) (cs : List ℕ) (f : Fits h hs cs) (le : length hs ≡ 64) (lc : length cs ≡ 4096) (reached : BatchReached d b lent (beginning h hs) cs) where
  abbrev own : Identity
  own = identity_of d

  abbrev base : D.Log ℕ
  base = view_of h hs cs

  abbrev asked : M.Batch
  asked = batch_of b lent

  abbrev p₀ : Preview
  p₀ = beginning h hs

  abbrev v₀ : M.Preview
  v₀ = record { log = base; lsn = p₀.lsn; records = [] }

  abbrev follow : Preview → List ℕ → Ran
  follow = entries_ran d b h.hard_state lent

  m₀ : Means h hs cs base
  m₀ = record { view = refl; fits = f; places = le; bytes = lc }

  pointed_none : M.pointed own asked base None v₀ ≡ M.extended own asked base asked.entries v₀
  unfolding M.pointed
  pointed_none = refl

  pointed_some : (r : RaftSnapshotPointerRecord)
      → Steps (point_ran own p₀ r cs) (M.preview_pointer (pointer_record_of r) v₀) (M.extended own asked base asked.entries) (M.pointed own asked base (Some (pointer_record_of r)) v₀)
  unfolding M.pointed
  pointed_some r = points own p₀ cs v₀ m₀ refl r asked (M.extended own asked base asked.entries)

  pointed_of : (s : Option RaftSnapshotPointerRecord) → PointedReached d b lent p₀ s cs
      → Prepares (followed (point_in own p₀ s cs) follow) (M.pointed own asked base (maybe_pointer_of s) v₀)
  pointed_of None k =
      carry (follow p₀ cs) (M.pointed own asked base None v₀) (M.extended own asked base asked.entries v₀) pointed_none
      (entries_prepare own b lent h hs cs d p₀ cs v₀ m₀ refl (k refl))
  pointed_of (Some r) k =
      follow_step (point_ran own p₀ r cs) (M.preview_pointer (pointer_record_of r) v₀) (M.extended own asked base asked.entries) (M.pointed own asked base (Some (pointer_record_of r)) v₀) follow
      (pointed_some r)
      (λ w y. entries_prepare own b lent h hs cs d (point_ran own p₀ r cs).preview (point_ran own p₀ r cs).bytes (M.preview_pointer (pointer_record_of r) v₀) y.means y.lsn (k w))

  pointed_prepare : PointedReached d b lent p₀ b.snapshot cs → Prepares (pointed_ran d b h.hard_state lent p₀ cs) (M.pointed own asked base asked.snapshot v₀)
  unfolding pointed_ran
  pointed_prepare k = pointed_of b.snapshot k

  prepare_is : M.prepare_on own asked base ≡ M.previewed (M.batch_rows own asked base) v₀ (M.pointed own asked base asked.snapshot)
  unfolding M.prepare_on view_of
  prepare_is = refl

  -- Preparing is the definition's: refused by that number, or ok with that preview.
  pub prepares : Prepares (prepare_ran d b lent (beginning h hs) cs) (M.prepare_on (identity_of d) (batch_of b lent) (view_of h hs cs))
  unfolding prepare_ran
  prepares = go (first_of (M.batch_rows own asked base)) refl
    where
      go : (o : Option ℕ) → first_of (M.batch_rows own asked base) ≡ o
          → Prepares (formed_by o p₀ cs (pointed_ran d b h.hard_state lent p₀ cs)) (M.prepare_on own asked base)
      go (Some n) w =
          inl (record {
            number = n;
            refused = refl;
            says = prepare_is ∙ refused_by (M.batch_rows own asked base) v₀ (M.pointed own asked base asked.snapshot) n w;
          })
      go None w =
          carry (pointed_ran d b h.hard_state lent p₀ cs) (M.prepare_on own asked base) (M.pointed own asked base asked.snapshot v₀)
          (prepare_is ∙ passed_by (M.batch_rows own asked base) v₀ (M.pointed own asked base asked.snapshot) w) (pointed_prepare (reached w))
