-- What the entries of a batch mean after one line more: the line's entry stands behind those before.
-- Assumes nothing.
use mathlib.Core.Path.{◌≡◌, sym, ap, ◌∙◌}
use mathlib.Core.Bool.{Bool, true, false, ◌&&◌, false≢true}
use mathlib.Core.List.{List, [], ◌∷◌, ◌++◌}
use Prim.Native.Nat.{ℕ}
use lib.ListN.{length}
use Rattle.std.specs.Prelude.{if◌then◌else◌, Option, None, Some, unwrap_or}
use Rattle.std.proofs.lemmas.List.{map-append}
use Rattle.definition.specs.Table.{◌<?◌, is_some}
use Rattle.batches.specs.declared.BatchEntry.{BatchEntry}
use Rattle.batches.specs.Meaning.{entry_of, entries_of}
use Rattle.batch_text.specs.Order.{given_of, is_open, add_entry}
use Rattle.batch_text.specs.declared.Given.{Given}

module _ (e : BatchEntry) (lent : List ℕ) where
  pub entry_added : (es : List BatchEntry) → entries_of (es ++ (e ∷ [])) lent ≡ entries_of es lent ++ (entry_of lent e ∷ [])
  unfolding entries_of
  entry_added es = map-append (entry_of lent) es (e ∷ [])

  pub line_added : (g next : Given) → add_entry g e ≡ Some next → entries_of next.entries.items lent ≡ entries_of g.entries.items lent ++ (entry_of lent e ∷ [])
  unfolding add_entry
  line_added g next = go (is_open g && length g.entries.items <? 64)
    where
      more : Given
      more = given_of g.snapshot (g.entries.items ++ (e ∷ [])) g.hard_state g.shows

      go : (x : Bool) → (if x then Some more else None) ≡ Some next → entries_of next.entries.items lent ≡ entries_of g.entries.items lent ++ (entry_of lent e ∷ [])
      go true p = sym (ap (λ (o : Option Given). entries_of (unwrap_or o more).entries.items lent) p) ∙ entry_added g.entries.items
      go false p = absurd (false≢true (ap is_some p))
