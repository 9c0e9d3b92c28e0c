-- The commit of a lent header is advanced as the definition says.
-- Assumes nothing.
use Rattle.std.specs.Prelude.{Result}
use mathlib.Core.Path.{◌≡◌, refl, sym, ap, subst, ◌∙◌}
use mathlib.Core.Bool.{Bool, true, false, cond}
use mathlib.Core.List.{List, [], ◌∷◌}
use Prim.Native.Nat.{ℕ}
use lib.Dec.{ltb}
use Rattle.definition.specs.Table.{◌<?◌, ◌when◌, first_of}
use Rattle.definition.specs.Records.{HardState}
use Rattle.definition.specs.Log.{view_commit_regression}
use Rattle.definition.proofs.Laws.{none_some}
use Rattle.ids.specs.Refusal.{checked_of}
use Rattle.view.specs.declared.Header.{Header}
use Rattle.view.specs.declared.RecoveredRaftLogEntry.{RecoveredRaftLogEntry}
use Rattle.view.specs.Meaning.{view_of, with_committed}
use Rattle.view.specs.Model.{with_commit}
use Rattle.lent.specs.Commit.{commit_row, advanced_to, SameButCommit, AdvancesCommit}
use Rattle.ids.specs.declared.Refusal.{Refusal}

-- h itself is one of these: with the commit that it has.
same : (h : Header) (commit : ℕ) → SameButCommit h (with_commit h commit)
same h commit =
    record {
      identity = refl;
      len = refl;
      snapshot_index = refl;
      snapshot_term = refl;
      last_replayed_lsn = refl;
      hard_state = refl;
      hard_state_lsn = refl;
      snapshot = refl;
      snapshot_pointer_lsn = refl;
      progress = refl;
    }

module _ (h : Header) (commit : ℕ) (r : Result (Unit {0}) Refusal) (e : checked_of r ≡ first_of (commit_row h commit ∷ [])) where
  answers : (x : HardState) → x.commit ≡ commit → (es : List RecoveredRaftLogEntry) (cs : List ℕ) → checked_of r ≡ first_of (view_commit_regression x (view_of h es cs) ∷ [])
  unfolding view_of
  answers x q es cs = e ∙ ap (λ (n : ℕ). first_of ((38 when n <? h.committed_index) ∷ [])) (sym q)

  advanced_means : (es : List RecoveredRaftLogEntry) (cs : List ℕ) → view_of (with_commit h commit) es cs ≡ with_committed commit (view_of h es cs)
  unfolding view_of
  advanced_means es cs = refl

  pub advances : (h' : Header) → h' ≡ advanced_to h commit → AdvancesCommit h commit r h'
  advances h' p = subst (AdvancesCommit h commit r) (sym p) (go (ltb commit h.committed_index) e)
    where
      go : (b : Bool) → checked_of r ≡ first_of ((38 when b) ∷ []) → AdvancesCommit h commit r (cond b h (with_commit h commit))
      go true q =
          record {
            answer = answers;
            accepted = λ u. absurd (none_some (sym u ∙ q));
            refused = λ n u. refl;
            means = λ u. absurd (none_some (sym u ∙ q));
            others = same h h.committed_index;
          }
      go false q =
          record {
            answer = answers;
            accepted = λ u. refl;
            refused = λ n u. absurd (none_some (sym q ∙ u));
            means = λ u. advanced_means;
            others = same h commit;
          }
