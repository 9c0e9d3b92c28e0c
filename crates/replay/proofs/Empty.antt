-- What a replica that holds nothing refuses changes nothing there.
-- Assumes nothing.
use Rattle.std.specs.Prelude.{ℕ, ◌-◌, ◌≡◌, Bool, true, false, List, ◌∷◌, if◌then◌else◌, Option, None, Some}
use mathlib.Core.Path.{refl, ap, ◌∙◌}
use native.Mathlib.Omega.{arith}
use borrow.Author.Tests.{le-ltb}
use Rattle.definition.specs.Table.{◌≤?◌, ◌when◌, first_of}
use Rattle.definition.specs.Log as D
use Rattle.definition.specs.Recovery.{refusal_of}
use Rattle.definition.proofs.Laws.{none_some}
use Rattle.ids.specs.declared.Lsn.{Lsn}
use Rattle.ids.specs.declared.RaftReplicaIdentity.{RaftReplicaIdentity}
use Rattle.ids.specs.Identity.{identity_of}
use Rattle.codec.specs.declared.RaftWalRecord.{RaftWalRecord}
use Rattle.codec.specs.declared.RaftWalRecord.TheVariants as W
use Rattle.view.specs.declared.Header.{Header}
use Rattle.view.specs.declared.RecoveredRaftLogEntry.{RecoveredRaftLogEntry}
use Rattle.view.specs.Decisions.{answered, entry_answer, replay_rows_of, hard_state_rows_of, pointer_rows_of}
use Rattle.view.specs.Model.{empty_header}
use Rattle.view.specs.Readers.{place_of}
use Rattle.replay.specs.Plan.{identity_in, existing_in, prior_in, held_term_in, Plan, as_it_was, decided, entry_plan, unless_row, empty_refuses, plan_of}

none_held : (i : RaftReplicaIdentity) (x : ℕ) → place_of (empty_header i) x ≡ None
none_held i x = rw (le-ltb (x - 1) 0 (omega arith)) (go (1 ≤? x))
  where
    go : (b : Bool) → ◌≡◌ {A = Option ℕ} (if b then None else None) None
    go true = refl
    go false = refl

-- An appended entry, unless a row refuses it.
refused_by : (o : Option ℕ) (n : ℕ) → refusal_of (answered o D.appended) ≡ Some n → answered o D.appended ≡ D.refused n
refused_by None n e = absurd (none_some e)
refused_by (Some m) n e = let q : m ≡ n = cc in ap D.refused q

module _ (e b : RecoveredRaftLogEntry) (l : Lsn) (cs lent : List ℕ) (n : ℕ) where
  by_row : (o : Option ℕ) (h : Header) (d : Plan) → o ≡ Some n → unless_row o h e cs d ≡ as_it_was (D.refused n) h e cs
  by_row o h d q = ap (λ (x : Option ℕ). unless_row x h e cs d) q

  empty_plan : (k : RaftWalRecord) → empty_refuses k ≡ Some n
      → plan_of (empty_header (identity_in k)) e b k l cs lent ≡ as_it_was (D.refused n) (empty_header (identity_in k)) e cs
  empty_plan (W.Entry r) q =
      let h : Header = empty_header r.identity in
      let is : decided h e b r cs lent ≡ entry_answer h None 0 r.index r.term =
      (λ j. entry_answer h (existing_in (none_held r.identity r.index j) e cs r lent) (prior_in (none_held r.identity (r.index - 1) j) 0 b.term) r.index r.term) in
      ap (λ (a : D.Answer). entry_plan a h e r l cs lent)
      (is ∙ refused_by (first_of ((24 when r.index ≤? 0) ∷ replay_rows_of h None 0 r.index r.term)) n q)
  empty_plan (W.HardState r) q = by_row (first_of (hard_state_rows_of (empty_header r.identity) r.hard_state)) (empty_header r.identity) _ q
  empty_plan (W.SnapshotPointer p) q =
      by_row (first_of (pointer_rows_of (identity_of p.identity) (empty_header p.identity) p (held_term_in (place_of (empty_header p.identity) p.last_included_index) e.term)))
      (empty_header p.identity) _
      (ap (λ (o : Option ℕ). first_of (pointer_rows_of (identity_of p.identity) (empty_header p.identity) p (held_term_in o e.term))) (none_held p.identity p.last_included_index) ∙ q)

  -- At a header that is an empty replica's.
  pub refused_on_empty : (k : RaftWalRecord) (h : Header) → h ≡ empty_header (identity_in k) → empty_refuses k ≡ Some n → plan_of h e b k l cs lent ≡ as_it_was (D.refused n) h e cs
  refused_on_empty k h eh q = rw eh (empty_plan k q)
