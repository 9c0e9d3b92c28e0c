-- The lines of what preparing answered. A command is a place and a length in the lent bytes; `commands` are those that were given.
-- Assumes nothing.
use Rattle.std.specs.Prelude.{ℕ, List, [], length, get_or, take, drop, Option, None, Some, Result, Ok, Err}
use Rattle.ids.specs.Identity.{identity_of}
use Rattle.ids.specs.Refusal.{number_of}
use Rattle.ids.specs.declared.Refusal.{Refusal}
use Rattle.codec.specs.declared.DurableRaftEntryPayload.{DurableRaftEntryPayload}
use Rattle.codec.specs.declared.DurableRaftEntryPayload.TheVariants as Y
use Rattle.codec.specs.declared.RaftLogEntryRecord.{RaftLogEntryRecord}
use Rattle.codec.specs.declared.RaftWalRecord.{RaftWalRecord}
use Rattle.codec.specs.declared.RaftWalRecord.TheVariants as W
use Rattle.codec.specs.Records.{change_of, hard_state_of, pointer_of}
use Rattle.arrayvec.specs.ArrayVec.{ArrayVec}
use Rattle.tables.specs.Model.{lines_to}
use Rattle.persistence.specs.declared.PreparedRecord.{PreparedRecord}
use Rattle.batch_tables.specs.Lines.{least_number, normal_fields, change_fields, entry_line, hard_state_line, pointer_line, refused_batch}
use Rattle.ids.specs.declared.Refusal.{Refusal}

-- The commands that were given, and the bytes that were lent.
pub record Given : Type 0 where
  pub commands : List (List ℕ)
  pub lent : List ℕ

abbrev pub payload_fields : DurableRaftEntryPayload → List (List ℕ) → List ℕ → List (List ℕ)
payload_fields (Y.Normal place len) commands lent = normal_fields (least_number commands (take len (drop place lent)))
payload_fields (Y.Configuration kind version replica) commands lent = change_fields (change_of kind) version replica.0

abbrev pub entry_text : RaftLogEntryRecord → List (List ℕ) → List ℕ → List ℕ
entry_text e commands lent = entry_line e.format_version (identity_of e.identity) e.index e.term (payload_fields e.payload commands lent)

abbrev pub raft_text : RaftWalRecord → List (List ℕ) → List ℕ → List ℕ
raft_text (W.Entry e) commands lent = entry_text e commands lent
raft_text (W.HardState h) commands lent = hard_state_line h.format_version (identity_of h.identity) (hard_state_of h.hard_state)
raft_text (W.SnapshotPointer p) commands lent = pointer_line (identity_of p.identity) (pointer_of p)

-- A record of no Raft kind is no line.
abbrev pub record_text : Option RaftWalRecord → List (List ℕ) → List ℕ → List ℕ
record_text None commands lent = []
record_text (Some r) commands lent = raft_text r commands lent

-- What a read past the end of a list gives.
abbrev pub no_record : PreparedRecord
no_record = record { body = None }

-- The records, one after the other.
abbrev pub record_texts : List PreparedRecord → List (List ℕ) → List ℕ → List ℕ
record_texts records commands lent = lines_to (length records) (λ i. record_text (get_or records i no_record).body commands lent)

-- A refusal, or the records.
unfoldable pub prepared_text : Result (ArrayVec PreparedRecord) Refusal → List (List ℕ) → List ℕ → List ℕ
prepared_text (Ok l) commands lent = record_texts l.items commands lent
prepared_text (Err why) commands lent = refused_batch (number_of why)
