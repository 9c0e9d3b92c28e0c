-- What an entry of a batch does to a preview that fits is the definition's step: refused by the same row, or the same log at the
-- next LSN.
-- Assumes nothing.
use mathlib.Core.Path.{◌≡◌, refl, sym, ap, ◌∙◌}
use mathlib.Core.Bool.{Bool, true, false, true≢false}
use mathlib.Core.List.{List, ◌∷◌, ◌++◌}
use Prim.Native.Nat.{ℕ, ◌+◌, ◌-◌, ◌≤◌}
use native.Mathlib.Omega.{arith}
use borrow.Author.Tests.{lt-ltb}
use lib.ListN.{get_or, set}
use Rattle.std.specs.Prelude.{if◌then◌else◌, Option, None, Some, unwrap_or}
use Rattle.definition.specs.Table.{◌=?◌, ◌≤?◌, Row, ◌when◌, first_of, u64_max}
use Rattle.definition.specs.Records.{Identity, unfit}
use Rattle.definition.specs.Log as D
use Rattle.definition.specs.Recovery.{refusal_of}
use Rattle.definition.specs.Batch as M
use Rattle.definition.proofs.Laws.{clear, or_else, first_join, none_some}
use Rattle.ids.specs.declared.Lsn.{Lsn}
use Rattle.codec.specs.declared.RaftLogEntryRecord.{RaftLogEntryRecord}
use Rattle.codec.specs.Records.{payload_of, log_entry_of}
use Rattle.view.specs.declared.Existing.{Existing}
use Rattle.view.specs.declared.Header.{Header}
use Rattle.view.specs.declared.RecoveredRaftLogEntry.{RecoveredRaftLogEntry}
use Rattle.view.specs.Decisions.{answered, Tells, held_from, new_rows, replay_rows_of, accepted_as, replayed}
use Rattle.view.specs.Meaning.{no_entry, base_of, view_of, Means}
use Rattle.view.specs.Readers.{place_of, at_place}
use Rattle.view.proofs.Accepted.{refusing, past_first, when_appended, when_replaced, when_renewed}
use Rattle.view.proofs.Readers.{Appends, appends}
use Rattle.view.proofs.Told.{predecessor_is, tells_none, tells_held}
use Rattle.replay.specs.Plan.{look_of, existing_in, prior_in, Plan, entry_plan}
use Rattle.replay.proofs.Settled.{look_held, passed, same_answer_lem, is_appended, is_replayed, accepted_replayed}
use Rattle.preview.specs.declared.Preview.{Preview}
use Rattle.batches.specs.Checks.{entry_form_rows}
use Rattle.preview.specs.Preview.{spot_in, spot_of, Ran, written_by, plan_at, taken_at, formed_by, entry_ran, Sits}
use Rattle.preview.specs.Extends.{Next}
use Rattle.batches.proofs.Rows.{entry_rows}

-- An answer of a plan refuses by the row that made it one.
plan_refusal : (o : Option ℕ) (a : D.Answer) (h : Header) (e : RecoveredRaftLogEntry) (r : RaftLogEntryRecord) (l : Lsn) (cs lent : List ℕ) → refusing a ≡ false
    → refusal_of (entry_plan (answered o a) h e r l cs lent).answer ≡ o
plan_refusal (Some n) a h e r l cs lent z = refl
plan_refusal None D.counted h e r l cs lent z = refl
plan_refusal None D.appended h e r l cs lent z = refl
plan_refusal None D.idempotentReplay h e r l cs lent z = refl
plan_refusal None D.hard_state_kept h e r l cs lent z = refl
plan_refusal None (D.pointer_kept n) h e r l cs lent z = refl
plan_refusal None D.finished h e r l cs lent z = refl
plan_refusal None (D.replaced_suffix m) h e r l cs lent z = refl
plan_refusal None (D.refused n) h e r l cs lent z = absurd (true≢false z)

written_refuses : (o : Option ℕ) (p : Preview) (q : ℕ) (d : Plan) → (written_by o p q d).refused ≡ o
written_refuses None p q d = refl
written_refuses (Some n) p q d = refl

formed_refuses : (o : Option ℕ) (p : Preview) (cs : List ℕ) (x : Ran) → (formed_by o p cs x).refused ≡ or_else o x.refused
formed_refuses None p cs x = refl
formed_refuses (Some n) p cs x = refl

module _ (p : Preview) (cs : List ℕ) (s : Sits p cs) (r : RaftLogEntryRecord) (lent : List ℕ) where
  abbrev h : Header
  h = p.head

  abbrev es : List RecoveredRaftLogEntry
  es = p.entries

  abbrev log : D.Log ℕ
  log = view_of h es cs

  abbrev spot : ℕ
  spot = spot_of h r.index

  abbrev e : RecoveredRaftLogEntry
  e = get_or es spot no_entry

  abbrev b : RecoveredRaftLogEntry
  b = get_or es (look_of h (r.index - 1)) no_entry

  abbrev l : Lsn
  l = record { 0 = p.lsn + 1 }

  abbrev old : Option Existing
  old = existing_in (place_of h r.index) e cs r lent

  abbrev prior : ℕ
  prior = prior_in (place_of h (r.index - 1)) h.snapshot_term b.term

  tells : Tells old (D.at log r.index) (log_entry_of r lent)
  tells = go (place_of h r.index) refl
    where
      go : (q : Option ℕ) → place_of h r.index ≡ q → Tells (existing_in q (get_or es (spot_in q h.len) no_entry) cs r lent) (D.at log r.index) (log_entry_of r lent)
      go None w = tells_none h es cs (log_entry_of r lent) w
      go (Some q) w = tells_held h es cs r lent q w

  predecessor : D.predecessor_term log r.index ≡ prior
  predecessor = predecessor_is h es cs r.index ∙ go (place_of h (r.index - 1)) refl
    where
      go : (q : Option ℕ) → place_of h (r.index - 1) ≡ q → unwrap_or (at_place q (λ (q : ℕ). (get_or es q no_entry).term)) h.snapshot_term ≡ prior_in q h.snapshot_term b.term
      go None w = refl
      go (Some q) w = sym (ap (λ (x : ℕ). (get_or es x no_entry).term) (look_held h (r.index - 1) q s.fits.short w))

  abbrev first : Row
  first = 25 when r.index ≤? h.snapshot_index

  abbrev rest : List Row
  rest = replay_rows_of h old prior r.index r.term

  abbrev accepted : D.Answer
  accepted = accepted_as h old r.index r.term

  abbrev plan : Plan
  plan = plan_at p spot r cs lent

  refusal_is : refusal_of plan.answer ≡ first_of (first ∷ rest)
  refusal_is = plan_refusal (first_of (first ∷ rest)) accepted h e r l cs lent (accepted_replayed h old r.index r.term).0

  -- the place after the last, of an append
  appended_place : r.index ≤ u64_max → replayed h old prior r.index r.term ≡ D.appended → (look_of h r.index ≡ h.len) × (spot ≡ h.len)
  appended_place small = go (place_of h r.index) refl
    where
      go : (q : Option ℕ) → place_of h r.index ≡ q → replayed h (existing_in q (get_or es (spot_in q h.len) no_entry) cs r lent) prior r.index r.term ≡ D.appended
          → (look_of h r.index ≡ h.len) × (spot_in q h.len ≡ h.len)
      go None w v =
          let o : first_of (new_rows h prior r.index r.term) ≡ None = passed (first_of (new_rows h prior r.index r.term)) D.appended D.appended refl v in
          let k : Appends h r.index = appends h prior r.index r.term small o in
          (rw (lt-ltb (r.index - base_of h) 64 (omega (arith, k.room, k.place))) k.place, rw (lt-ltb h.len 64 k.room) refl)
      go (Some q) w v =
          absurd (on ((get_or es q no_entry).term =? r.term) (same_answer_lem (first_of (replay_rows_of h (existing_in (Some q) (get_or es q no_entry) cs r lent) prior r.index r.term)) (accepted_as h (existing_in (Some q) (get_or es q no_entry) cs r lent) r.index r.term) D.appended refl v))
        where
          on : (c : Bool) → ◌≡◌ {A = D.Answer} (if c then D.idempotentReplay else D.replaced_suffix (record { removed_entries = held_from h r.index })) D.appended → ⊥
          on true y = true≢false (sym (ap is_appended y))
          on false y = true≢false (sym (ap is_appended y))

  -- At an index that is not held nothing but an append is answered.
  place_held : (a : D.Answer) → refusing a ≡ false → is_appended a ≡ false → replayed h old prior r.index r.term ≡ a → place_of h r.index ≡ Some spot
  place_held a z ne = go (place_of h r.index) refl
    where
      go : (q : Option ℕ) → place_of h r.index ≡ q → replayed h (existing_in q (get_or es (spot_in q h.len) no_entry) cs r lent) prior r.index r.term ≡ a
          → place_of h r.index ≡ Some (spot_in q h.len)
      go (Some q) w v = w
      go None w v = absurd (true≢false (ap is_appended (same_answer_lem (first_of (replay_rows_of h None prior r.index r.term)) D.appended a z v) ∙ ne))

  abbrev after : D.Log ℕ
  after = D.with_entry (log_entry_of r lent) l.0 log

  module _ (fit : unfit (payload_of r.payload lent) ≡ false) (small : r.index ≤ u64_max) where
    wrote : (a : D.Answer) → refusing a ≡ false → is_replayed a ≡ true → replayed h old prior r.index r.term ≡ a
        → Means (entry_plan a h e r l cs lent).head (set es spot (entry_plan a h e r l cs lent).entry) (entry_plan a h e r l cs lent).bytes after
    wrote D.appended z y v =
        rw ((appended_place small v).0, (appended_place small v).1) (when_appended h es cs s.fits s.places s.bytes r lent l fit small old prior tells v)
    wrote D.idempotentReplay z y v =
        when_renewed h es cs s.fits s.places s.bytes r lent l fit small old prior tells spot (place_held D.idempotentReplay refl refl v) v
    wrote (D.replaced_suffix m) z y v =
        let w : place_of h r.index ≡ Some spot = place_held (D.replaced_suffix m) refl refl v in
        rw (look_held h r.index spot s.fits.short w) (when_replaced h es cs s.fits s.places s.bytes r lent l fit small old prior tells spot w m v)
    wrote D.counted z y v = absurd (true≢false (sym y))
    wrote D.hard_state_kept z y v = absurd (true≢false (sym y))
    wrote (D.pointer_kept n) z y v = absurd (true≢false (sym y))
    wrote D.finished z y v = absurd (true≢false (sym y))
    wrote (D.refused n) z y v = absurd (true≢false z)

    abbrev NextOf : Ran → Type 0
    NextOf x = Next p cs (log_entry_of r lent) x

    -- accepted by every row
    planned_next : (o : Option ℕ) → first_of (first ∷ rest) ≡ o → o ≡ None → NextOf (written_by None p spot (entry_plan (answered o accepted) h e r l cs lent))
    planned_next (Some n) w z = absurd (none_some (sym z))
    planned_next None w z =
        let a : (refusing accepted ≡ false) × (is_replayed accepted ≡ true) = accepted_replayed h old r.index r.term in
        let t : answered (first_of (first ∷ rest)) accepted ≡ accepted = ap (λ (o : Option ℕ). answered o accepted) w in
        record { means = wrote accepted a.0 a.1 (past_first first rest accepted accepted a.0 t); lsn = refl }

    taken_next : (o : Option ℕ) → refusal_of plan.answer ≡ o → o ≡ None → NextOf (written_by o p spot plan)
    taken_next (Some n) w z = absurd (none_some (sym z))
    taken_next None w z = planned_next (first_of (first ∷ rest)) refl (sym refusal_is ∙ w)

  -- What its form allows.
  pub form_fit : first_of (entry_form_rows p.lsn (log_entry_of r lent)) ≡ None → unfit (payload_of r.payload lent) ≡ false
  form_fit w = (clear (entry_form_rows p.lsn (log_entry_of r lent)) w).1.1.1.1.1.0

  -- An entry that is not refused: the log is the definition's next.
  pub entry_next : r.index ≤ u64_max → (entry_ran p r cs lent).refused ≡ None → Next p cs (log_entry_of r lent) (entry_ran p r cs lent)
  unfolding entry_ran
  entry_next small = go (first_of (entry_form_rows p.lsn (log_entry_of r lent))) refl
    where
      go : (o : Option ℕ) → first_of (entry_form_rows p.lsn (log_entry_of r lent)) ≡ o → (formed_by o p cs (taken_at p spot r cs lent)).refused ≡ None
          → Next p cs (log_entry_of r lent) (formed_by o p cs (taken_at p spot r cs lent))
      go (Some n) w z = absurd (none_some (sym z))
      go None w z =
          taken_next (form_fit w) small (refusal_of plan.answer) refl (sym (written_refuses (refusal_of plan.answer) p spot plan) ∙ z)

  -- An entry is refused by the definition's rows.
  pub entry_refuses : (i : Identity) (batch : M.Batch) (was : D.Log ℕ) (v : M.Preview) → v.log ≡ view_of p.head p.entries cs → v.lsn ≡ p.lsn
      → first_of (M.batch_entry_rows i batch was (log_entry_of r lent) v) ≡ (entry_ran p r cs lent).refused
  unfolding entry_ran
  entry_refuses i batch was v means at =
      entry_rows i batch v h es cs s.fits means was (log_entry_of r lent) old prior tells predecessor
      ∙ ap (λ (n : ℕ). first_of (entry_form_rows n (log_entry_of r lent) ++ first ∷ rest)) at
      ∙ first_join (entry_form_rows p.lsn (log_entry_of r lent)) (first ∷ rest)
      ∙ sym
      (formed_refuses (first_of (entry_form_rows p.lsn (log_entry_of r lent))) p cs (taken_at p spot r cs lent)
      ∙ ap (or_else (first_of (entry_form_rows p.lsn (log_entry_of r lent)))) (written_refuses (refusal_of plan.answer) p spot plan ∙ refusal_is))
