-- What the parts of a preparation did is what the model does.
-- Assumes nothing.
use Rattle.std.specs.Prelude.{Option, None, Some, Result, Ok, Err}
use mathlib.Core.Path.{◌≡◌, refl, sym, ap, subst, ◌∙◌}
use mathlib.Core.List.{List, [], ◌∷◌, ◌++◌}
use Prim.Native.Nat.{ℕ, ◌+◌, ◌<◌, ◌≤◌}
use native.Mathlib.Omega.{arith}
use borrow.Author.Tests.{ltb-false, leb-false}
use lib.ListN.{length}
use Rattle.std.specs.Result.{IsErrAnd}
use Rattle.std.proofs.lemmas.Result.{err_from_is_err_and}
use Rattle.definition.specs.Table.{Row, first_of, u64_max}
use Rattle.definition.specs.Records.{Identity}
use Rattle.definition.specs.Log as D
use Rattle.definition.specs.Batch as M
use Rattle.definition.proofs.Laws.{clear, clear_r, none_some}
use Rattle.ids.specs.declared.RaftReplicaIdentity.{RaftReplicaIdentity}
use Rattle.ids.specs.declared.Refusal.{Refusal}
use Rattle.ids.specs.Identity.{identity_of}
use Rattle.ids.specs.Refusal.{checked_of}
use Rattle.codec.specs.declared.HardState.{HardState}
use Rattle.codec.specs.declared.RaftSnapshotPointerRecord.{RaftSnapshotPointerRecord}
use Rattle.codec.specs.Records.{pointer_record_of}
use Rattle.view.specs.declared.Header.{Header}
use Rattle.view.specs.Decisions.{successor_rows_of, install_rows_of}
use Rattle.view.specs.Meaning.{view_of}
use Rattle.view.specs.Model.{with_pointer, covered_by, maximum_term, dropped_bytes}
use Rattle.view.specs.Readers.{last_of}
use Rattle.batches.specs.declared.RaftPersistenceBatch.{RaftPersistenceBatch}
use Rattle.preview.specs.declared.Preview.{Preview}
use Rattle.batches.specs.Checks.{lsn_exhausted, pointer_form_rows, pointer_rows, hard_state_rows, term_rows}
use Rattle.batches.specs.Meaning.{entries_of, batch_of}
use Rattle.batches.proofs.Entries.{entries_count}
use Rattle.preview.specs.Preview.{Ran, ran_with, ran, formed_by, onward, extend_over, Leaves, Reached, Sits}
use Rattle.persistence.specs.Prepare.{held_at, moved_down, pointed_with, point_ran, hard_header, hardened_with, harden_ran, conclude_ran, point_in, harden_in, followed, lastly_ran, entries_ran, pointed_ran, prepare_ran, PointedReached, BatchReached}
use Rattle.persistence.specs.Prepares.{Stands}
use Rattle.persistence.proofs.Prepared.{point_next}

-- A refusal that is handed on.
handed : {why : Refusal} (q : Result (Unit {0}) Refusal) → IsErrAnd q (λ v. v ≡ why) → q ≡ Err why
handed q u = let e = err_from_is_err_and q u in e.1 ∙ ap Err e.2

-- The pointer.
module _ (i : Identity) (p : Preview) (r : RaftSnapshotPointerRecord) (cs : List ℕ) (held : Option ℕ) (a : Result (Unit {0}) Refusal)
    (eh : held ≡ held_at p r.last_included_index) (ea : checked_of a ≡ first_of (pointer_rows i p.head p.lsn held r)) where
  abbrev rows : List Row
  rows = pointer_rows i p.head p.lsn (held_at p r.last_included_index) r

  abbrev k : ℕ
  k = covered_by p.head r.last_included_index

  told : checked_of a ≡ first_of rows
  told = ea ∙ ap (λ (x : Option ℕ). first_of (pointer_rows i p.head p.lsn x r)) eh

  pub point_out : {why : Refusal} → a ≡ Err why → (q : Result (Unit {0}) Refusal) → IsErrAnd q (λ v. v ≡ why) → ran_with q p cs ≡ point_ran i p r cs
  unfolding point_ran
  point_out e q u =
      ap (λ (x : Result (Unit {0}) Refusal). ran_with x p cs) (handed q u)
      ∙ ap (λ (o : Option ℕ). formed_by o p cs (pointed_with p r k cs)) (sym (ap checked_of e) ∙ told)

  module _ (e : a ≡ (Ok tt)) where
    no_row : None ≡ first_of rows
    no_row = sym (ap checked_of e) ∙ told

    pub point_lsn : p.lsn < u64_max
    point_lsn =
        let front : List Row = pointer_form_rows (pointer_record_of r) ++ M.snapshot_identity_mismatch i (pointer_record_of r) ∷ [] in
        let c = clear rows (sym no_row) in
        let after : List Row = lsn_exhausted p.lsn ∷ install_rows_of p.head r (held_at p r.last_included_index) in
        leb-false u64_max p.lsn (clear_r (successor_rows_of i p.head.snapshot r) after c.1.1.1.1.1.1.1.1).0

    pub point_in_lem : (n : ℕ) (h : Header) (t : Preview) (cs' : List ℕ) → n ≡ k → h ≡ with_pointer p.head r (record { 0 = p.lsn + 1 }) n → t ≡ moved_down p n → cs' ≡ dropped_bytes cs n
        → ran_with (Ok tt) (record { head = h; entries = t.entries; lsn = p.lsn + 1 }) cs' ≡ point_ran i p r cs
    unfolding point_ran
    point_in_lem n h t cs' en eh et ec =
        ap (λ (x : Header). ran None (record { head = x; entries = t.entries; lsn = p.lsn + 1 }) cs') eh
        ∙ ap (λ (x : Preview). ran None (record { head = with_pointer p.head r (record { 0 = p.lsn + 1 }) n; entries = x.entries; lsn = p.lsn + 1 }) cs') et
        ∙ ap (λ (x : List ℕ). ran None (pointed_with p r n cs).preview x) ec
        ∙ ap (λ (x : ℕ). pointed_with p r x cs) en
        ∙ ap (λ (o : Option ℕ). formed_by o p cs (pointed_with p r k cs)) no_row

-- Where a pointer, if there is one, is taken, the preview still fits its block.
module _ (i : Identity) (p : Preview) (cs : List ℕ) (s : Sits p cs) where
  pointed_fits : (x : Option RaftSnapshotPointerRecord) → (point_in i p x cs).refused ≡ None → Sits (point_in i p x cs).preview (point_in i p x cs).bytes
  pointed_fits None w = s
  pointed_fits (Some r) w =
      let v : M.Preview = record { log = view_of p.head p.entries cs; lsn = p.lsn; records = [] } in
      let y : Stands (point_ran i p r cs) (M.preview_pointer (pointer_record_of r) v) =
      point_next i p cs v (record { view = refl; fits = s.fits; places = s.places; bytes = s.bytes }) refl r w in
      record { fits = y.means.fits; places = y.means.places; bytes = y.means.bytes }

  pub pointed_sits : (x : Option RaftSnapshotPointerRecord) {a : Result (Unit {0}) Refusal} {t : Preview} {cs' : List ℕ} → ran_with a t cs' ≡ point_in i p x cs → a ≡ (Ok tt) → Sits t cs'
  pointed_sits x et e =
      subst (λ (y : Ran). Sits y.preview y.bytes) (sym et) (pointed_fits x (sym (ap (λ (y : Ran). y.refused) et) ∙ ap checked_of e))

-- What was read of the entries: none where a pointer is refused, else what is read on the preview that it leaves.
module _ (d : RaftReplicaIdentity) (b : RaftPersistenceBatch) (lent : List ℕ) (p : Preview) (s : Option RaftSnapshotPointerRecord) (cs : List ℕ)
    {y : Ran} (et : y ≡ point_in (identity_of d) p s cs) where
  pub reached_out : {n : ℕ} → y.refused ≡ Some n → PointedReached d b lent p s cs
  reached_out e w = absurd (none_some (sym w ∙ sym (ap (λ (y : Ran). y.refused) et) ∙ e))

  pub reached_in : Reached d b.entries.now lent y.preview y.bytes → PointedReached d b lent p s cs
  reached_in k w = subst (λ (y : Ran). Reached d b.entries.now lent y.preview y.bytes) et k

-- The hard state.
module _ (kept : Option HardState) (snapshot : Option RaftSnapshotPointerRecord) (h : HardState) (p : Preview) (last : ℕ) (a : Result (Unit {0}) Refusal)
    (el : last ≡ last_of p.head) (ea : checked_of a ≡ first_of (hard_state_rows kept snapshot last h)) where
  hard_told : checked_of a ≡ first_of (hard_state_rows kept snapshot (last_of p.head) h)
  hard_told = ea ∙ ap (λ (x : ℕ). first_of (hard_state_rows kept snapshot x h)) el

  pub harden_out : {why : Refusal} → a ≡ Err why → (q : Result (Unit {0}) Refusal) → IsErrAnd q (λ v. v ≡ why) → (cs : List ℕ) → ran_with q p cs ≡ harden_ran kept snapshot h p cs
  unfolding harden_ran
  harden_out e q u cs =
      ap (λ (x : Result (Unit {0}) Refusal). ran_with x p cs) (handed q u)
      ∙ ap (λ (o : Option ℕ). formed_by o p cs (ran None (hardened_with p h) cs)) (sym (ap checked_of e) ∙ hard_told)

  pub harden_in_lem : (x : Header) → a ≡ (Ok tt) → x ≡ hard_header p.head h → (cs : List ℕ)
      → ran_with (Ok tt) (record { head = x; entries = p.entries; lsn = p.lsn }) cs ≡ harden_ran kept snapshot h p cs
  unfolding harden_ran
  harden_in_lem x e ex cs =
      ap (λ (y : Header). ran None (record { head = y; entries = p.entries; lsn = p.lsn }) cs) ex
      ∙ ap (λ (o : Option ℕ). formed_by o p cs (ran None (hardened_with p h) cs)) (sym (ap checked_of e) ∙ hard_told)

-- The terms.
pub concluded_is : (hard kept : Option HardState) (p : Preview) (o : Result (Unit {0}) Refusal)
    → checked_of o ≡ first_of (term_rows hard kept p.head.snapshot_term (maximum_term p.head p.entries)) → (cs : List ℕ)
    → ran_with o p cs ≡ conclude_ran hard kept p cs
unfolding conclude_ran
concluded_is hard kept p o e cs = ap (λ (x : Option ℕ). ran x p cs) e

-- One part after another.
module _ {a : Result (Unit {0}) Refusal} {t : Preview} {cs : List ℕ} (x : Ran) (rest : Preview → List ℕ → Ran) (et : ran_with a t cs ≡ x) where
  pub followed_out : {why : Refusal} → a ≡ Err why → (q : Result (Unit {0}) Refusal) → IsErrAnd q (λ v. v ≡ why) → ran_with q t cs ≡ followed x rest
  followed_out e q u =
      ap (λ (z : Result (Unit {0}) Refusal). ran_with z t cs) (handed q u ∙ sym e)
      ∙ sym (ap (λ (o : Option ℕ). onward o (ran_with a t cs) (rest t cs)) (ap checked_of e))
      ∙ ap (λ (y : Ran). followed y rest) et

  pub followed_in : a ≡ (Ok tt) → {y : Ran} → y ≡ rest t cs → y ≡ followed x rest
  followed_in e ey =
      ey ∙ sym (ap (λ (o : Option ℕ). onward o (ran_with a t cs) (rest t cs)) (ap checked_of e)) ∙ ap (λ (z : Ran). followed z rest) et

pub lastly_is : (snapshot : Option RaftSnapshotPointerRecord) (hard kept : Option HardState) (p : Preview) (cs : List ℕ)
    → followed (harden_in kept snapshot hard p cs) (conclude_ran hard kept) ≡ lastly_ran snapshot hard kept p cs
unfolding lastly_ran
lastly_is snapshot hard kept p cs = refl

module _ (d : RaftReplicaIdentity) (b : RaftPersistenceBatch) (kept : Option HardState) (lent : List ℕ) (p : Preview) (cs : List ℕ) where
  pub entries_is : followed (extend_over d b.entries.now lent p cs) (lastly_ran b.snapshot b.hard_state kept) ≡ entries_ran d b kept lent p cs
  unfolding entries_ran
  entries_is = refl

  pub pointed_is : followed (point_in (identity_of d) p b.snapshot cs) (entries_ran d b kept lent) ≡ pointed_ran d b kept lent p cs
  unfolding pointed_ran
  pointed_is = refl

-- The batch as a whole.
module _ (d : RaftReplicaIdentity) (b : RaftPersistenceBatch) (lent : List ℕ) (p : Preview) (cs : List ℕ) (a : Result (Unit {0}) Refusal)
    (ea : (lent : List ℕ) (was : D.Log ℕ) → checked_of a ≡ first_of (M.batch_rows (identity_of d) (batch_of b lent) was)) where
  -- One that 43 does not refuse has at most 32 entries.
  pub batch_few : a ≡ (Ok tt) → length b.entries.now ≤ 32
  unfolding M.batch_rows
  batch_few e =
      let was : D.Log ℕ = view_of p.head p.entries cs in
      let w : first_of (M.batch_rows (identity_of d) (batch_of b lent) was) ≡ None = sym (ea lent was) ∙ ap checked_of e in
      let c = clear (M.batch_rows (identity_of d) (batch_of b lent) was) w in
      omega (arith, ltb-false 32 (length (entries_of b.entries.now lent)) c.1.1.0, entries_count b.entries.now lent)

  pub prepare_out : {why : Refusal} → a ≡ Err why → (q : Result (Unit {0}) Refusal) → IsErrAnd q (λ v. v ≡ why) → Leaves (ran_with q p cs) (prepare_ran d b lent p cs) (BatchReached d b lent p cs)
  unfolding prepare_ran
  prepare_out e q u =
      let r = sym (ap checked_of e) ∙ ea lent (view_of p.head p.entries cs) in
      record {
        is = ap (λ (x : Result (Unit {0}) Refusal). ran_with x p cs) (handed q u) ∙ ap (λ (o : Option ℕ). formed_by o p cs (pointed_ran d b p.head.hard_state lent p cs)) r;
        read = λ w. absurd (none_some (sym w ∙ sym r));
      }

  pub prepare_in : a ≡ (Ok tt) → {x : Ran} → Leaves x (pointed_ran d b p.head.hard_state lent p cs) (PointedReached d b lent p b.snapshot cs)
      → Leaves x (prepare_ran d b lent p cs) (BatchReached d b lent p cs)
  unfolding prepare_ran
  prepare_in e k =
      record {
        is = k.is ∙ ap (λ (o : Option ℕ). formed_by o p cs (pointed_ran d b p.head.hard_state lent p cs)) (sym (ap checked_of e) ∙ ea lent (view_of p.head p.entries cs));
        read = λ w. k.read;
      }
