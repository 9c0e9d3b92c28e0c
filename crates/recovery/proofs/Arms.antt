-- What the decision on an entry settles, and that on a pointer.
-- Assumes nothing.
use Rattle.std.specs.Prelude.{Option, None, Some, Result, Ok, Err}
use mathlib.Core.Path.{◌≡◌, refl, sym, ap, ◌∙◌}
use mathlib.Core.List.{List, []}
use Prim.Native.Nat.{ℕ, ◌+◌, ◌-◌, ◌*◌, ◌<◌, ◌≤◌}
use native.Mathlib.Omega.{arith}
use borrow.Rule.Slice.PartMut.{put_mid}
use lib.ListN.{length, get_or, set, take, drop}
use lib.Seq.{paste}
use Rattle.definition.specs.Table.{first_of}
use Rattle.definition.specs.Log as D
use Rattle.definition.specs.Recovery.{refusal_of}
use Rattle.ids.specs.Identity.{identity_of}
use Rattle.store.proofs.Part.{set_self}
use Rattle.codec.specs.declared.RaftSnapshotPointerRecord.{RaftSnapshotPointerRecord}
use Rattle.codec.specs.declared.RaftWalRecord.TheVariants as W
use Rattle.view.specs.Meaning.{no_entry}
use Rattle.view.specs.Model.{with_pointer, covered_by, dropped_bytes}
use Rattle.view.specs.Readers.{place_of}
use Rattle.storage.specs.declared.RecoveredRaftStorage.{RecoveredRaftStorage}
use Rattle.storage.specs.Meaning.{Linked}
use Rattle.storage.specs.Model.{no_header, head_at}
use Rattle.routing.specs.Observe.{Stepped}
use Rattle.recovery.specs.Steps.{settled}
use Rattle.recovery.proofs.Turn.{settled_here, moved_fits, settled_moved}
use Rattle.ids.specs.declared.Lsn.{Lsn}
use Rattle.ids.specs.declared.Refusal.{Refusal}
use Rattle.ids.specs.Refusal.{number_of}
use Rattle.codec.specs.declared.RaftLogEntryRecord.{RaftLogEntryRecord}
use Rattle.view.specs.declared.Header.{Header}
use Rattle.view.specs.declared.RaftLogReplayOutcome.{RaftLogReplayOutcome}
use Rattle.view.specs.declared.RaftLogReplayOutcome.TheVariants as A
use Rattle.view.specs.declared.RecoveredRaftLogEntry.{RecoveredRaftLogEntry}
use Rattle.view.specs.Decisions.{outcome_of, pointer_rows_of}
use Rattle.replay.specs.Plan.{look_of, held_term_in, Plan, decided, as_it_was, entry_plan, entry_written, replay_plan, unless_row, pointed, pointer_plan}

-- An entry that is accepted answers no refusal.
pub entry_accepted : (v : RaftLogReplayOutcome) (h : Header) (e : RecoveredRaftLogEntry) (r : RaftLogEntryRecord) (l : Lsn) (cs lent : List ℕ)
    → refusal_of (entry_plan (outcome_of (Ok v)) h e r l cs lent).answer ≡ None
entry_accepted A.Appended h e r l cs lent = refl
entry_accepted A.IdempotentReplay h e r l cs lent = refl
entry_accepted (A.ReplacedSuffix m) h e r l cs lent = refl

-- An entry that is decided is refused, or written.
module _ (h : Header) (e b : RecoveredRaftLogEntry) (r : RaftLogEntryRecord) (l : Lsn) (cs lent : List ℕ) where
  pub entry_refuses : (o : Result RaftLogReplayOutcome Refusal) (why : Refusal) → outcome_of o ≡ decided h e b r cs lent → o ≡ Err why
      → replay_plan h e b r l cs lent ≡ as_it_was (D.refused (number_of why)) h e cs
  entry_refuses o why eo ew = ap (λ (a : D.Answer). entry_plan a h e r l cs lent) (sym eo ∙ ap outcome_of ew)

  pub entry_planned : (o : Result RaftLogReplayOutcome Refusal) (v : RaftLogReplayOutcome) → outcome_of o ≡ decided h e b r cs lent → o ≡ Ok v
      → (e' : RecoveredRaftLogEntry) (cs' : List ℕ) → entry_written v h r.index l e' cs' ≡ entry_plan (outcome_of (Ok v)) h e r l cs lent
      → entry_written v h r.index l e' cs' ≡ replay_plan h e b r l cs lent
  entry_planned o v eo ev e' cs' ed = ed ∙ ap (λ (a : D.Answer). entry_plan a h e r l cs lent) (sym (ap outcome_of ev) ∙ eo)

-- A pointer at place p: o is what was answered, ys the block then.
module _ (t : RecoveredRaftStorage) (u : List ℕ) (p : ℕ) (x : RaftSnapshotPointerRecord) (l : Lsn) (n : ℕ) (eq : n ≡ look_of (head_at t p) x.last_included_index)
    (o : Result Header Refusal) (ys : List ℕ)
    (eo : pointed o (head_at t p) (get_or t.entries (64 * p + n) no_entry) ys ≡ pointer_plan (head_at t p) (get_or t.entries (64 * p + n) no_entry) x l (take (4096 * p + 4096 - 4096 * p) (drop (4096 * p) u)))
    (ly : length ys ≡ length (take (4096 * p + 4096 - 4096 * p) (drop (4096 * p) u))) (w : Linked t u) (lt : p < t.held) where
  abbrev head : Header
  head = head_at t p

  abbrev e : RecoveredRaftLogEntry
  e = get_or t.entries (64 * p + n) no_entry

  abbrev settling : Stepped
  settling = settled t u p (W.SnapshotPointer x) l []

  abbrev store : List ℕ
  store = put_mid (4096 * p) (4096 * p + 4096 - 4096 * p) u ys

  -- no entry of the log is another
  same : set t.entries (64 * p + n) e ≡ t.entries
  same = set_self t.entries (64 * p + n) no_entry

  pub pointer_refused : (why : Refusal) → o ≡ Err why → settling ≡ record { answer = D.refused (number_of why); state = t; store = store }
  pointer_refused why ew =
      settled_here t u p (W.SnapshotPointer x) l [] n _ eq refl (as_it_was (D.refused (number_of why)) head e ys)
      (ap (λ (y : Result Header Refusal). pointed y head e ys) (sym ew) ∙ eo) ly w lt (omega arith)
      ∙ λ j. record {
        answer = D.refused (number_of why);
        state = record { heads = set_self t.heads p no_header j; entries = same j; held = t.held; scan = t.scan };
        store = store;
      }

  module _ (h' : Header) (eh : o ≡ Ok h') where
    abbrev gone : ℕ
    gone = head.len - h'.len

    abbrev d : Plan
    d = pointed (Ok h') head e ys

    is : d ≡ pointer_plan head e x l (take (4096 * p + 4096 - 4096 * p) (drop (4096 * p) u))
    is = ap (λ (y : Result Header Refusal). pointed y head e ys) (sym eh) ∙ eo

    abbrev kept : List RecoveredRaftLogEntry → Stepped
    kept es =
        record { answer = D.pointer_kept gone; state = record { heads = set t.heads p h'; entries = es; held = t.held; scan = t.scan }; store = store }

    pub pointer_shorter : h'.len ≤ head.len
    pointer_shorter = omega (arith, ap (λ (y : Plan). y.head.len) is, by_row (first_of (pointer_rows_of (identity_of x.identity) head x (held_term_in (place_of head x.last_included_index) e.term))))
      where
        by_row : (r : Option ℕ)
            → (unless_row r head e (take (4096 * p + 4096 - 4096 * p) (drop (4096 * p) u)) (record { answer = D.pointer_kept (covered_by head x.last_included_index); head = with_pointer head x l (covered_by head x.last_included_index); entry = e; dropped = covered_by head x.last_included_index; bytes = dropped_bytes (take (4096 * p + 4096 - 4096 * p) (drop (4096 * p) u)) (covered_by head x.last_included_index) })).head.len ≤ head.len
        by_row (Some m) = omega arith
        by_row None = omega arith

    pub pointer_stays : gone ≤ 0 → settling ≡ kept t.entries
    pointer_stays z = settled_here t u p (W.SnapshotPointer x) l [] n _ eq refl d is ly w lt z ∙ ap kept same

    pub pointer_fits : 0 < gone → 64 * p + gone + h'.len ≤ 512
    pointer_fits z = (moved_fits t u p (W.SnapshotPointer x) l [] n _ eq refl d is ly w lt z).0

    pub pointer_moves : 0 < gone → (k' : ℕ) → k' ≡ h'.len → (es : List RecoveredRaftLogEntry) → es ≡ paste t.entries (64 * p) (drop (64 * p + gone) t.entries) k' → settling ≡ kept es
    pointer_moves z k' ek es m =
        settled_moved t u p (W.SnapshotPointer x) l [] n _ eq refl d is ly w lt z k' ek es
        (m ∙ ap (λ (y : List RecoveredRaftLogEntry). paste y (64 * p) (drop (64 * p + gone) y) k') (sym same))
