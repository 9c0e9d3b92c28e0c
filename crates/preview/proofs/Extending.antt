-- The entries of a batch on a preview are the definition's: refused by the number that ends it, or what follows them is asked on the
-- preview that they leave.
-- Assumes nothing.
use Rattle.std.specs.Prelude.{Option, None, Some, Result, Err}
use mathlib.Core.Path.{◌≡◌, refl, sym, ap, subst, ◌∙◌}
use mathlib.Core.Logic.{inl, inr}
use mathlib.Core.Bool.{Bool, true}
use mathlib.Core.List.{List, [], ◌∷◌}
use Prim.Native.Nat.{ℕ, ◌+◌}
use borrow.Author.Tests.{le-leb}
use Rattle.definition.specs.Table.{◌≤?◌, Row, first_of, every, u64_max}
use Rattle.definition.specs.Records.{Identity}
use Rattle.definition.specs.Log as D
use Rattle.definition.specs.Batch as M
use Rattle.definition.proofs.Laws.{and_i, none_some}
use Rattle.ids.specs.declared.RaftReplicaIdentity.{RaftReplicaIdentity}
use Rattle.codec.specs.Records.{log_entry_of}
use Rattle.view.specs.Meaning.{view_of, Means}
use Rattle.batches.specs.declared.BatchEntry.{BatchEntry}
use Rattle.preview.specs.declared.Preview.{Preview}
use Rattle.batches.specs.Meaning.{entry_of, entries_of, record_of}
use Rattle.preview.specs.Preview.{Ran, entry_ran, onward, extend_over, Reached, Sits}
use Rattle.preview.specs.Extends.{Next, Extends}
use Rattle.preview.proofs.Supplied.{entry_next, entry_refuses}

-- Refused by the first row, else what follows.
pub refused_by : (rows : List Row) (v : M.Preview) (go : M.Preview → Result M.Preview ℕ) (n : ℕ) → first_of rows ≡ Some n → M.previewed rows v go ≡ Err n
refused_by rows v go n w = rw (w, M.previewed)

pub passed_by : (rows : List Row) (v : M.Preview) (go : M.Preview → Result M.Preview ℕ) → first_of rows ≡ None → M.previewed rows v go ≡ go v
passed_by rows v go w = rw (w, M.previewed)

module _ (i : Identity) (batch : M.Batch) (was : D.Log ℕ) where
  -- The definition's step, by what its rows say.
  extended_none : (v : M.Preview) → M.extended i batch was [] v ≡ M.hardened i batch was batch.hard_state v
  unfolding M.extended
  extended_none v = refl

  extended_refused : (e : M.BatchEntry) (l : List M.BatchEntry) (v : M.Preview) (n : ℕ) → first_of (M.batch_entry_rows i batch was e.log_entry v) ≡ Some n
      → M.extended i batch was (e ∷ l) v ≡ Err n
  unfolding M.extended
  extended_refused e l v n w = refused_by (M.batch_entry_rows i batch was e.log_entry v) (M.preview_entry i e.log_entry v) (M.extended i batch was l) n w

  extended_next : (e : M.BatchEntry) (l : List M.BatchEntry) (v : M.Preview) → first_of (M.batch_entry_rows i batch was e.log_entry v) ≡ None
      → M.extended i batch was (e ∷ l) v ≡ M.extended i batch was l (M.preview_entry i e.log_entry v)
  unfolding M.extended
  extended_next e l v w = passed_by (M.batch_entry_rows i batch was e.log_entry v) (M.preview_entry i e.log_entry v) (M.extended i batch was l) w

  -- One entry more, before the rest.
  longer : (e : M.BatchEntry) (l : List M.BatchEntry) (v : M.Preview) (x : Ran) → first_of (M.batch_entry_rows i batch was e.log_entry v) ≡ None
      → Extends x i batch was (M.extended i batch was l (M.preview_entry i e.log_entry v)) → Extends x i batch was (M.extended i batch was (e ∷ l) v)
  longer e l v x w y = subst (λ (r : Result M.Preview ℕ). Extends x i batch was r) (sym (extended_next e l v w)) y

  -- The entries of a batch, where those that are reached have an index of 64 bits.
  module _ (d : RaftReplicaIdentity) (lent : List ℕ) where
    -- One entry, and what the rest of the batch does on the preview that it leaves.
    module _ (e : BatchEntry) (p : Preview) (cs : List ℕ) (v : M.Preview) (m : Means p.head p.entries cs v.log) (at : v.lsn ≡ p.lsn) where
      abbrev x : Ran
      x = entry_ran p (record_of d e) cs lent

      sits : Sits p cs
      sits = record { fits = m.fits; places = m.places; bytes = m.bytes }

      rows : first_of (M.batch_entry_rows i batch was (log_entry_of (record_of d e) lent) v) ≡ x.refused
      rows = entry_refuses p cs sits (record_of d e) lent i batch was v (sym m.view) at

      same_log_lem : D.with_entry (log_entry_of (record_of d e) lent) (p.lsn + 1) (view_of p.head p.entries cs) ≡ D.with_entry (log_entry_of (record_of d e) lent) (v.lsn + 1) v.log
      same_log_lem =
          ap (λ (n : ℕ). D.with_entry (log_entry_of (record_of d e) lent) (n + 1) (view_of p.head p.entries cs)) (sym at)
          ∙ ap (λ (g : D.Log ℕ). D.with_entry (log_entry_of (record_of d e) lent) (v.lsn + 1) g) m.view

      turn : (es : List BatchEntry) (l : List M.BatchEntry) → Reached d (e ∷ es) lent p cs
          → (next : (p : Preview) (cs : List ℕ) (v : M.Preview) → Means p.head p.entries cs v.log → v.lsn ≡ p.lsn → Reached d es lent p cs → Extends (extend_over d es lent p cs) i batch was (M.extended i batch was l v))
          → (o : Option ℕ) → x.refused ≡ o
          → Extends (onward o x (extend_over d es lent x.preview x.bytes)) i batch was (M.extended i batch was (entry_of lent e ∷ l) v)
      unfolding Reached
      turn es l k next (Some c) w = inl (record { number = c; refused = w; says = extended_refused (entry_of lent e) l v c (rows ∙ w) })
      turn es l k next None w =
          let y : Next p cs (log_entry_of (record_of d e) lent) x = entry_next p cs sits (record_of d e) lent k.0 w in
          longer (entry_of lent e) l v (extend_over d es lent x.preview x.bytes) (rows ∙ w)
          (next x.preview x.bytes (M.preview_entry i (log_entry_of (record_of d e) lent) v)
          (subst (λ (g : D.Log ℕ). Means x.preview.head x.preview.entries x.bytes g) same_log_lem y.means)
          (ap (λ (n : ℕ). n + 1) at ∙ sym y.lsn) (k.1 w))

    pub extends : (es : List BatchEntry) (p : Preview) (cs : List ℕ) (v : M.Preview) → Means p.head p.entries cs v.log → v.lsn ≡ p.lsn → Reached d es lent p cs
        → Extends (extend_over d es lent p cs) i batch was (M.extended i batch was (entries_of es lent) v)
    unfolding extend_over entries_of
    extends [] p cs v m at k = inr (record { next = v; refused = refl; says = extended_none v; means = m; lsn = at })
    extends (e ∷ es) p cs v m at k = turn e p cs v m at es (entries_of es lent) k (extends es) (entry_ran p (record_of d e) cs lent).refused refl

    -- Where none is refused all are reached.
    pub all_fit : (es : List BatchEntry) (p : Preview) (cs : List ℕ) → Reached d es lent p cs → (extend_over d es lent p cs).refused ≡ None
        → every M.fits_entry (entries_of es lent) ≡ true
    unfolding Reached extend_over entries_of
    all_fit [] p cs k z = refl
    all_fit (e ∷ es) p cs k z = go (λ w. all_fit es x.preview x.bytes (k.1 w)) x.refused refl z
      where
        x : Ran
        x = entry_ran p (record_of d e) cs lent

        fit : List M.BatchEntry → Bool
        fit l = every M.fits_entry l

        go : (x.refused ≡ None → (extend_over d es lent x.preview x.bytes).refused ≡ None → fit (entries_of es lent) ≡ true)
            → (o : Option ℕ) → x.refused ≡ o → (onward o x (extend_over d es lent x.preview x.bytes)).refused ≡ None
            → fit (entry_of lent e ∷ entries_of es lent) ≡ true
        go more (Some n) w z = absurd (none_some (sym (sym w ∙ z)))
        go more None w z = and_i (e.index ≤? u64_max) (fit (entries_of es lent)) (le-leb e.index u64_max k.0) (more w z)
