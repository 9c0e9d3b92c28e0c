-- What is told of the places to a decision is so: terms by place, and the entry held at a record's index.
-- Assumes nothing.
use Rattle.std.specs.Prelude.{Option, None, Some, option_map}
use mathlib.Core.Path.{◌≡◌, refl}
use mathlib.Core.List.{List}
use Prim.Native.Nat.{ℕ, ◌-◌}
use lib.ListN.{get_or}
use Rattle.definition.specs.Records.{LogEntry}
use Rattle.definition.specs.Log as D
use Rattle.codec.specs.declared.RaftLogEntryRecord.{RaftLogEntryRecord}
use Rattle.codec.specs.Records.{log_entry_of}
use Rattle.view.specs.declared.RecoveredRaftLogEntry.{RecoveredRaftLogEntry}
use Rattle.view.specs.declared.Header.{Header}
use Rattle.view.specs.Meaning.{no_entry, cell_at, entry_at, view_of}
use Rattle.view.specs.Readers.{place_of, at_place, term_at, prior_of}
use Rattle.view.specs.Kept.{existing_of}
use Rattle.view.specs.Decisions.{Tells}
use Rattle.view.proofs.Readers.{at_is}
use Rattle.view.proofs.Kept.{existing_tells}

place_map : {A B : Type 0} (p : Option ℕ) (g : A → B) (f : ℕ → A) → option_map g (at_place p f) ≡ at_place p (λ q. g (f q))
place_map None g f = refl
place_map (Some q) g f = refl

module _ (h : Header) (es : List RecoveredRaftLogEntry) (cs : List ℕ) where
  pub term_at_is : (x : ℕ) → option_map (λ o. o.term) (D.at (view_of h es cs) x) ≡ term_at h es x
  term_at_is x = rw (at_is h es cs x) (place_map (place_of h x) (λ (o : D.Entry ℕ). o.term) (entry_at es cs))

  boundary_term : (view_of h es cs).snapshot_term ≡ h.snapshot_term
  unfolding view_of
  boundary_term = refl

  pub predecessor_is : (x : ℕ) → D.predecessor_term (view_of h es cs) x ≡ prior_of h es x
  unfolding D.predecessor_term
  predecessor_is x = rw (term_at_is (x - 1), boundary_term)

  pub tells_none : (d : LogEntry) → place_of h d.index ≡ None → Tells None (D.at (view_of h es cs) d.index) d
  tells_none d p = rw (at_is h es cs d.index, p) tt

  pub tells_held : (r : RaftLogEntryRecord) (lent : List ℕ) (q : ℕ) → place_of h r.index ≡ Some q
      → Tells (Some (existing_of (get_or es q no_entry) (cell_at cs q) r lent)) (D.at (view_of h es cs) r.index) (log_entry_of r lent)
  tells_held r lent q p = rw (at_is h es cs r.index, p) (existing_tells (get_or es q no_entry) (cell_at cs q) r lent)
