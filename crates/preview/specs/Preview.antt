-- The model of the entries of a batch on a preview: what one does, and what the rest of them do.
-- Assumes nothing.
use Rattle.std.specs.Prelude.{ℕ, ◌+◌, ◌-◌, ◌≤◌, ◌≡◌, List, [], ◌∷◌, Bool, ◌&&◌, length, get_or, set, if◌then◌else◌, Option, None, Some, Result}
use Rattle.definition.specs.Table.{◌=?◌, ◌<?◌, ◌≤?◌, first_of, u64_max}
use Rattle.definition.specs.Log as D
use Rattle.definition.specs.Recovery.{refusal_of}
use Rattle.ids.specs.declared.Lsn.{Lsn}
use Rattle.ids.specs.declared.RaftReplicaIdentity.{RaftReplicaIdentity}
use Rattle.ids.specs.declared.Refusal.{Refusal}
use Rattle.ids.specs.Refusal.{checked_of}
use Rattle.codec.specs.declared.RaftLogEntryRecord.{RaftLogEntryRecord}
use Rattle.codec.specs.Records.{log_entry_of}
use Rattle.view.specs.declared.Header.{Header}
use Rattle.view.specs.declared.RecoveredRaftLogEntry.{RecoveredRaftLogEntry}
use Rattle.view.specs.Decisions.{replay_answer}
use Rattle.view.specs.Meaning.{no_entry, base_of, Fits}
use Rattle.view.specs.Readers.{place_of}
use Rattle.replay.specs.Plan.{look_of, existing_in, prior_in, Plan, entry_plan}
use Rattle.batches.specs.declared.BatchEntry.{BatchEntry}
use Rattle.preview.specs.declared.Preview.{Preview}
use Rattle.batches.specs.Checks.{entry_form_rows}
use Rattle.batches.specs.Meaning.{record_of}

-- What an entry is answered (25 to 32), and its plan.
abbrev pub supplied : Header → RecoveredRaftLogEntry → RecoveredRaftLogEntry → RaftLogEntryRecord → List ℕ → List ℕ → D.Answer
supplied h e b r cs lent =
    replay_answer h (existing_in (place_of h r.index) e cs r lent) (prior_in (place_of h (r.index - 1)) h.snapshot_term b.term) r.index r.term

abbrev pub supply_plan : Header → RecoveredRaftLogEntry → RecoveredRaftLogEntry → RaftLogEntryRecord → Lsn → List ℕ → List ℕ → Plan
supply_plan h e b r l cs lent = entry_plan (supplied h e b r cs lent) h e r l cs lent

-- Whether an index is the one of place q.
abbrev pub holds_at : Header → ℕ → ℕ → Bool
holds_at h q x = base_of h ≤? x && x - base_of h =? q

-- The entry place that is looked at: the one at which an index is held, else the one after the last, where there is one.
abbrev pub within : ℕ → ℕ
within n = if n <? 64 then n else 0

abbrev pub spot_in : Option ℕ → ℕ → ℕ
spot_in None n = within n
spot_in (Some q) n = q

abbrev pub spot_of : Header → ℕ → ℕ
spot_of h x = spot_in (place_of h x) h.len

-- The refusal that ended it, the preview, and the bytes of its block.
pub record Ran : Type 0 where
  pub refused : Option ℕ
  pub preview : Preview
  pub bytes : List ℕ

-- By the answer.
abbrev pub ran_with : Result (Unit {0}) Refusal → Preview → List ℕ → Ran
ran_with a p cs = record { refused = checked_of a; preview = p; bytes = cs }

abbrev pub ran : Option ℕ → Preview → List ℕ → Ran
ran o p cs = record { refused = o; preview = p; bytes = cs }

-- A plan, refused or written with place q: an accepted entry takes the next LSN.
abbrev pub written_by : Option ℕ → Preview → ℕ → Plan → Ran
written_by (Some n) p q d = ran (Some n) p d.bytes
written_by None p q d = ran None (record { head = d.head; entries = set p.entries q d.entry; lsn = p.lsn + 1 }) d.bytes

-- The plan of a record that looks at place q of a preview.
abbrev pub plan_at : Preview → ℕ → RaftLogEntryRecord → List ℕ → List ℕ → Plan
plan_at p q r cs lent =
    supply_plan p.head (get_or p.entries q no_entry) (get_or p.entries (look_of p.head (r.index - 1)) no_entry) r (record { 0 = p.lsn + 1 }) cs lent

abbrev pub taken_at : Preview → ℕ → RaftLogEntryRecord → List ℕ → List ℕ → Ran
taken_at p q r cs lent = written_by (refusal_of (plan_at p q r cs lent).answer) p q (plan_at p q r cs lent)

-- An entry: refused for its form (46, 3, 8, 9, 4, 10), else taken (25 to 32).
abbrev pub formed_by : Option ℕ → Preview → List ℕ → Ran → Ran
formed_by (Some n) p cs x = ran (Some n) p cs
formed_by None p cs x = x

unfoldable pub entry_ran : Preview → RaftLogEntryRecord → List ℕ → List ℕ → Ran
entry_ran p r cs lent = formed_by (first_of (entry_form_rows p.lsn (log_entry_of r lent))) p cs (taken_at p (spot_of p.head r.index) r cs lent)

-- The first refused entry ends it, else the rest follows.
abbrev pub onward : Option ℕ → Ran → Ran → Ran
onward (Some n) x rest = x
onward None x rest = rest

-- The entries of the batch.
unfoldable pub extend_over : RaftReplicaIdentity → List BatchEntry → List ℕ → Preview → List ℕ → Ran
extend_over d [] lent p cs = ran None p cs
extend_over d (e ∷ es) lent p cs =
    onward (entry_ran p (record_of d e) cs lent).refused (entry_ran p (record_of d e) cs lent)
    (extend_over d es lent (entry_ran p (record_of d e) cs lent).preview (entry_ran p (record_of d e) cs lent).bytes)

-- Every entry that is reached has an index of 64 bits, as the loop reads it.
unfoldable pub Reached : RaftReplicaIdentity → List BatchEntry → List ℕ → Preview → List ℕ → Type 0
Reached d [] lent p cs = Unit {0}
Reached d (e ∷ es) lent p cs =
    (e.index ≤ u64_max)
    × ((entry_ran p (record_of d e) cs lent).refused ≡ None → Reached d es lent (entry_ran p (record_of d e) cs lent).preview (entry_ran p (record_of d e) cs lent).bytes)

-- What a part of a preparation leaves is the model's, and of the entries that it reached Read holds.
pub record Leaves (x model : Ran) (Read : Type 0) : Type 0 where
  pub is : x ≡ model
  pub read : Read

-- A preview and its block fit.
pub record Sits (p : Preview) (cs : List ℕ) : Type 0 where
  pub fits : Fits p.head p.entries cs
  pub places : length p.entries ≡ 64
  pub bytes : length cs ≡ 4096

-- And place q is the one of a record whose form is good.
pub record Takes (p : Preview) (q : ℕ) (r : RaftLogEntryRecord) (cs : List ℕ) (lent : List ℕ) : Type 0 where
  pub sits : Sits p cs
  pub place : q ≡ spot_of p.head r.index
  pub formed : first_of (entry_form_rows p.lsn (log_entry_of r lent)) ≡ None
