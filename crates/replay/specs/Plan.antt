-- The model of what a record does to its replica: the answer, and what stands in the replica's places then. It looks at the
-- header, at the entry places of its index and of the index before, and at the replica's block of the store.
-- Assumes nothing.
use Rattle.std.specs.Prelude.{◌≡◌, false, List, ℕ, ◌+◌, ◌-◌, ◌≤◌, length, set, if◌then◌else◌, Option, None, Some, Result, Ok, Err}
use Rattle.definition.specs.Table.{◌<?◌, first_of}
use Rattle.definition.specs.Records.{unfit}
use Rattle.definition.specs.Log as D
use Rattle.definition.specs.Recovery.{refusal_of}
use Rattle.ids.specs.declared.Lsn.{Lsn}
use Rattle.ids.specs.declared.RaftReplicaIdentity.{RaftReplicaIdentity}
use Rattle.ids.specs.declared.Refusal.{Refusal}
use Rattle.ids.specs.Identity.{identity_of}
use Rattle.ids.specs.Refusal.{number_of}
use Rattle.codec.specs.declared.HardState.{HardState}
use Rattle.codec.specs.declared.RaftLogEntryRecord.{RaftLogEntryRecord}
use Rattle.codec.specs.declared.RaftSnapshotPointerRecord.{RaftSnapshotPointerRecord}
use Rattle.codec.specs.declared.RaftWalRecord.{RaftWalRecord}
use Rattle.codec.specs.declared.RaftWalRecord.TheVariants as W
use Rattle.codec.specs.Records.{payload_of}
use Rattle.view.specs.declared.Existing.{Existing}
use Rattle.view.specs.declared.Header.{Header}
use Rattle.view.specs.declared.RecoveredRaftLogEntry.{RecoveredRaftLogEntry}
use Rattle.view.specs.declared.RaftLogReplayOutcome.{RaftLogReplayOutcome}
use Rattle.view.specs.Decisions.{outcome_of, entry_answer, hard_state_rows_of, pointer_rows_of}
use Rattle.view.specs.Kept.{kept_entry, cell_for, existing_of}
use Rattle.view.specs.Meaning.{base_of, cell_at, size_of}
use Rattle.view.specs.Model.{empty_header, with_entry, with_hard_state, with_pointer, covered_by, renewed_entry, placed_bytes, appended_bytes, dropped_entries, dropped_bytes}
use Rattle.view.specs.Readers.{place_of}
use Rattle.replay.specs.declared.Observation.{Observation}
use Rattle.replay.specs.declared.Observation.TheVariants as O

-- What an answer means.
abbrev pub answer_of : Result Observation Refusal → D.Answer
answer_of (Ok O.Counted) = D.counted
answer_of (Ok O.Appended) = D.appended
answer_of (Ok O.IdempotentReplay) = D.idempotentReplay
answer_of (Ok (O.ReplacedSuffix r)) = D.replaced_suffix (record { removed_entries = r.removed_entries })
answer_of (Ok O.HardStateKept) = D.hard_state_kept
answer_of (Ok (O.PointerKept n)) = D.pointer_kept n
answer_of (Err why) = D.refused (number_of why)

-- Whose record it is.
abbrev pub identity_in : RaftWalRecord → RaftReplicaIdentity
identity_in (W.Entry r) = r.identity
identity_in (W.HardState r) = r.identity
identity_in (W.SnapshotPointer p) = p.identity

-- The index that a record looks at; a hard state looks at none.
abbrev pub index_of : RaftWalRecord → ℕ
index_of (W.Entry r) = r.index
index_of (W.HardState r) = 0
index_of (W.SnapshotPointer p) = p.last_included_index

-- The entry place of an index, one of 64; 0 where it has none.
abbrev pub look_of : Header → ℕ → ℕ
look_of h x = if x - base_of h <? 64 then x - base_of h else 0

-- What is held at a record's index, by the entry e at the place looked at.
abbrev pub existing_in : Option ℕ → RecoveredRaftLogEntry → List ℕ → RaftLogEntryRecord → List ℕ → Option Existing
existing_in None e cs r lent = None
existing_in (Some q) e cs r lent = Some (existing_of e (cell_at cs q) r lent)

-- The term before an index: the boundary's, or that of the entry at the place looked at.
abbrev pub prior_in : Option ℕ → ℕ → ℕ → ℕ
prior_in None boundary term = boundary
prior_in (Some q) boundary term = term

abbrev pub held_term_in : Option ℕ → ℕ → Option ℕ
held_term_in None term = None
held_term_in (Some q) term = Some term

-- The answer; the header, the entry at the place looked at and the bytes of the block then; how many entries go from the front.
pub record Plan : Type 0 where
  pub answer : D.Answer
  pub head : Header
  pub entry : RecoveredRaftLogEntry
  pub dropped : ℕ
  pub bytes : List ℕ

-- A record that is refused.
abbrev pub as_it_was : D.Answer → Header → RecoveredRaftLogEntry → List ℕ → Plan
as_it_was a h e cs = record { answer = a; head = h; entry = e; dropped = 0; bytes = cs }

-- An entry that is answered.
abbrev pub entry_plan : D.Answer → Header → RecoveredRaftLogEntry → RaftLogEntryRecord → Lsn → List ℕ → List ℕ → Plan
entry_plan D.appended h e r l cs lent =
    record {
      answer = D.appended;
      head = with_entry h (look_of h r.index + 1) l;
      entry = kept_entry r l;
      dropped = 0;
      bytes = appended_bytes cs (look_of h r.index) (cell_for r.payload lent);
    }
entry_plan D.idempotentReplay h e r l cs lent =
    record { answer = D.idempotentReplay; head = with_entry h h.len l; entry = renewed_entry e l; dropped = 0; bytes = cs }
entry_plan (D.replaced_suffix m) h e r l cs lent =
    record {
      answer = D.replaced_suffix m;
      head = with_entry h (look_of h r.index + 1) l;
      entry = kept_entry r l;
      dropped = 0;
      bytes = placed_bytes cs (look_of h r.index) (cell_for r.payload lent) (63 - look_of h r.index);
    }
entry_plan D.counted h e r l cs lent = as_it_was D.counted h e cs
entry_plan D.hard_state_kept h e r l cs lent = as_it_was D.hard_state_kept h e cs
entry_plan (D.pointer_kept n) h e r l cs lent = as_it_was (D.pointer_kept n) h e cs
entry_plan D.finished h e r l cs lent = as_it_was D.finished h e cs
entry_plan (D.refused n) h e r l cs lent = as_it_was (D.refused n) h e cs

-- What an entry is answered (24, 26 to 32).
abbrev pub decided : Header → RecoveredRaftLogEntry → RecoveredRaftLogEntry → RaftLogEntryRecord → List ℕ → List ℕ → D.Answer
decided h e b r cs lent =
    entry_answer h (existing_in (place_of h r.index) e cs r lent) (prior_in (place_of h (r.index - 1)) h.snapshot_term b.term) r.index r.term

-- How many entries are held after it.
abbrev pub len_after : D.Answer → Header → ℕ → ℕ
len_after D.appended h x = look_of h x + 1
len_after (D.replaced_suffix m) h x = look_of h x + 1
len_after D.idempotentReplay h x = h.len
len_after D.counted h x = h.len
len_after D.hard_state_kept h x = h.len
len_after (D.pointer_kept n) h x = h.len
len_after D.finished h x = h.len
len_after (D.refused n) h x = h.len

-- An entry of a decided outcome, by the entry and the block that the code leaves.
abbrev pub entry_written : RaftLogReplayOutcome → Header → ℕ → Lsn → RecoveredRaftLogEntry → List ℕ → Plan
entry_written o h x l e cs =
    record { answer = outcome_of (Ok o); head = with_entry h (len_after (outcome_of (Ok o)) h x) l; entry = e; dropped = 0; bytes = cs }

abbrev pub replay_plan : Header → RecoveredRaftLogEntry → RecoveredRaftLogEntry → RaftLogEntryRecord → Lsn → List ℕ → List ℕ → Plan
replay_plan h e b r l cs lent = entry_plan (decided h e b r cs lent) h e r l cs lent

-- A row refuses, or the plan is another.
abbrev pub unless_row : Option ℕ → Header → RecoveredRaftLogEntry → List ℕ → Plan → Plan
unless_row (Some n) h e cs d = as_it_was (D.refused n) h e cs
unless_row None h e cs d = d

-- A hard state (33 to 38).
abbrev pub hard_state_plan : Header → RecoveredRaftLogEntry → HardState → Lsn → List ℕ → Plan
hard_state_plan h e x l cs =
    unless_row (first_of (hard_state_rows_of h x)) h e cs (record { answer = D.hard_state_kept; head = with_hard_state h x l; entry = e; dropped = 0; bytes = cs })

-- A pointer (39 to 42).
abbrev pub pointer_plan : Header → RecoveredRaftLogEntry → RaftSnapshotPointerRecord → Lsn → List ℕ → Plan
pointer_plan h e p l cs =
    let k = covered_by h p.last_included_index in
    unless_row (first_of (pointer_rows_of (identity_of p.identity) h p (held_term_in (place_of h p.last_included_index) e.term))) h e cs
    (record { answer = D.pointer_kept k; head = with_pointer h p l k; entry = e; dropped = k; bytes = dropped_bytes cs k })

-- A pointer, by the header and the block that the code leaves: as many entries went as the header has fewer.
abbrev pub pointed : Result Header Refusal → Header → RecoveredRaftLogEntry → List ℕ → Plan
pointed (Ok h') h e cs = record { answer = D.pointer_kept (h.len - h'.len); head = h'; entry = e; dropped = h.len - h'.len; bytes = cs }
pointed (Err why) h e cs = as_it_was (D.refused (number_of why)) h e cs

-- What refuses a record at a replica that holds nothing.
abbrev pub empty_refuses : RaftWalRecord → Option ℕ
empty_refuses (W.Entry r) = refusal_of (entry_answer (empty_header r.identity) None 0 r.index r.term)
empty_refuses (W.HardState r) = first_of (hard_state_rows_of (empty_header r.identity) r.hard_state)
empty_refuses (W.SnapshotPointer p) = first_of (pointer_rows_of (identity_of p.identity) (empty_header p.identity) p None)

abbrev pub plan_of : Header → RecoveredRaftLogEntry → RecoveredRaftLogEntry → RaftWalRecord → Lsn → List ℕ → List ℕ → Plan
plan_of h e b (W.Entry r) l cs lent = replay_plan h e b r l cs lent
plan_of h e b (W.HardState r) l cs lent = hard_state_plan h e r.hard_state l cs
plan_of h e b (W.SnapshotPointer p) l cs lent = pointer_plan h e p l cs

-- The entries of the block then: one written at place q, and the first ones gone.
abbrev pub entries_after : Header → List RecoveredRaftLogEntry → ℕ → Plan → List RecoveredRaftLogEntry
entries_after h es q d = dropped_entries (set es q d.entry) d.dropped h.len

-- The block is whole, and what is held keeps its limits.
pub record Holds (h : Header) (e : RecoveredRaftLogEntry) (x : ℕ) (cs : List ℕ) : Type 0 where
  pub bytes : length cs ≡ 4096
  pub short : h.len ≤ 64
  pub small : (q : ℕ) → place_of h x ≡ Some q → size_of e.payload ≤ 64

-- And the record's command lies in the lent bytes.
pub record Replayable (h : Header) (e : RecoveredRaftLogEntry) (r : RaftLogEntryRecord) (cs : List ℕ) (lent : List ℕ) : Type 0 where
  pub holds : Holds h e r.index cs
  pub fit : unfit (payload_of r.payload lent) ≡ false

abbrev pub Settleable : Header → RecoveredRaftLogEntry → RaftWalRecord → List ℕ → List ℕ → Type 0
Settleable h e (W.Entry r) cs lent = Replayable h e r cs lent
Settleable h e (W.HardState r) cs lent = Holds h e 0 cs
Settleable h e (W.SnapshotPointer p) cs lent = Holds h e p.last_included_index cs
