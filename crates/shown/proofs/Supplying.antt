-- The loop over a batch's entries finds what the latest of them supplies.
-- Assumes nothing.
use Rattle.std.specs.Prelude.{if◌then◌else◌, Option, None, Some}
use mathlib.Core.Path.{◌≡◌, refl, ap, ◌∙◌}
use mathlib.Core.Bool.{Bool, true, false}
use mathlib.Core.List.{List, [], ◌∷◌, ◌++◌, map}
use Prim.Native.Nat.{ℕ, ◌+◌, ◌<◌}
use lib.ListN.{length, get_or, take}
use Rattle.std.proofs.lemmas.List.{map_more}
use Rattle.definition.specs.Table.{◌=?◌, is_some}
use Rattle.definition.specs.Batch.{BatchEntry, supplied}
use Rattle.batches.specs.declared.BatchEntry as E
use Rattle.batches.specs.Meaning.{blank, from_of, entry_of, entries_of}

-- The latest of some entries and one more.
supplied_last : (x : ℕ) (es : List BatchEntry) (e : BatchEntry) → supplied x (es ++ (e ∷ [])) ≡ (if e.log_entry.index =? x then Some e.from else supplied x es)
supplied_last x [] e = refl
supplied_last x (a ∷ es) e = ap (λ (o : Option ℕ). if is_some o then o else own) (supplied_last x es e) ∙ go (e.log_entry.index =? x)
  where
    own : Option ℕ
    own = if a.log_entry.index =? x then Some a.from else None

    go : (b : Bool) → (if is_some (if b then Some e.from else supplied x es) then (if b then Some e.from else supplied x es) else own)
        ≡ (if b then Some e.from else (if is_some (supplied x es) then supplied x es else own))
    go true = refl
    go false = refl

pub supply_turn : (es : List E.BatchEntry) (lent : List ℕ) (index i : ℕ) → i < length es
    → supplied index (entries_of (take (i + 1) es) lent) ≡ (if (get_or es i blank).index =? index then Some (from_of (get_or es i blank).payload) else supplied index (entries_of (take i es) lent))
unfolding entries_of
supply_turn es lent index i l =
    rw (map_more (entry_of lent) es i blank l) (supplied_last index (map (entry_of lent) (take i es)) (entry_of lent (get_or es i blank)))
