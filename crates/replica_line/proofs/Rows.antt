-- Groups of fields, one behind the other.
-- Assumes nothing.
use mathlib.Core.Path.{◌≡◌, refl, ap, ◌∙◌}
use mathlib.Core.List.{List, [], ◌∷◌, ◌++◌, append_assoc}
use Prim.Native.Nat.{ℕ}
use Rattle.tables.specs.Tables.{row}
use Rattle.batch_tables.specs.Lines.{spaced}
use Rattle.replica_line.specs.Model.{spaced_all}

all_append : (fs gs : List (List ℕ)) → spaced_all fs ++ spaced_all gs ≡ spaced_all (fs ++ gs)
unfolding spaced_all
all_append [] gs = refl
all_append (f ∷ fs) gs = append_assoc (spaced f) (spaced_all fs) (spaced_all gs) ∙ ap (λ (l : List ℕ). spaced f ++ l) (all_append fs gs)

all_row : (fs : List (List ℕ)) (g : List ℕ) (gs : List (List ℕ)) → spaced_all fs ++ row (g ∷ gs) ≡ row (fs ++ (g ∷ gs))
unfolding spaced_all row
all_row [] g gs = refl
all_row (f ∷ []) g gs = simp append_assoc
all_row (f ∷ f' ∷ fs) g gs =
    append_assoc (spaced f) (spaced_all (f' ∷ fs)) (row (g ∷ gs))
    ∙ ap (λ (l : List ℕ). spaced f ++ l) (all_row (f' ∷ fs) g gs)
    ∙ append_assoc f (32 ∷ []) (row (f' ∷ fs ++ (g ∷ gs)))

-- behind a text
module _ (t : List ℕ) (a b c : List (List ℕ)) where
  pub spaced_groups : (d : List (List ℕ)) → t ++ spaced_all a ++ spaced_all b ++ spaced_all c ++ spaced_all d ≡ t ++ spaced_all (a ++ b ++ c ++ d)
  spaced_groups d = rw (← all_append (a ++ b ++ c) d, ← all_append (a ++ b) c, ← all_append a b) (simp append_assoc)

  -- the last group ends the line
  pub group_row : (g : List ℕ) (gs : List (List ℕ)) → t ++ spaced_all a ++ spaced_all b ++ spaced_all c ++ row (g ∷ gs) ≡ t ++ row (a ++ b ++ c ++ (g ∷ gs))
  group_row g gs = rw (← all_row (a ++ b ++ c) g gs, ← all_append (a ++ b) c, ← all_append a b) (simp append_assoc)
