-- What the code reads off a line of a batch, and what that means. Fields 0 to count - 1 are closed, the last one is open.
-- Assumes nothing.
use Rattle.std.specs.Prelude.{ℕ, Bool, true, false, ◌&&◌, List, if◌then◌else◌, Option, None, Some, option_map, option_and_then}
use Rattle.definition.specs.Table.{◌=?◌, u64_max}
use Rattle.definition.specs.Records.{Identity}
use Rattle.ids.specs.declared.RaftReplicaIdentity.{RaftReplicaIdentity}
use Rattle.ids.specs.Identity.{identity_of}
use Rattle.codec.specs.declared.DurableRaftEntryPayload.{DurableRaftEntryPayload}
use Rattle.codec.specs.declared.HardState.{HardState}
use Rattle.codec.specs.declared.RaftSnapshotPointerRecord.{RaftSnapshotPointerRecord}
use Rattle.codec.specs.Records as R
use Rattle.text.specs.Field.{number_on, word_field, letter_field, vote_on}
use Rattle.text.specs.Record.{field_at, identity_from, hard_state_from, pointer_on, payload_on, line_header}
use Rattle.text.specs.declared.line.Line.{Line}
use Rattle.batches.specs.declared.BatchEntry.{BatchEntry}
use Rattle.batches.specs.Meaning.{entry_of}
use Rattle.batch_text.specs.Text.{finish_word, batch_word, show_word, Said, pointer, entry, hard_state, show}
use Rattle.batch_text.specs.declared.BatchLine.{BatchLine}
use Rattle.batch_text.specs.declared.BatchLine.TheVariants as L

-- a word, and `count` fields behind it
abbrev pub headed_line : Line → ℕ → List ℕ → Bool
headed_line l count word = l.count =? count && word_field (field_at l 0) word

-- finish: '0' is 48, '1' is 49
unfoldable pub finish_on : Line → Option Bool
finish_on l =
    if headed_line l 1 finish_word
    then (if letter_field l.field 48 then Some false else (if letter_field l.field 49 then Some true else None))
    else None

-- batch
unfoldable pub identity_on : Line → Option RaftReplicaIdentity
identity_on l = if headed_line l 2 batch_word then identity_from (number_on (field_at l 1)) (number_on l.field) else None

-- P
abbrev pub snapshot_on : Line → Option RaftSnapshotPointerRecord
snapshot_on l = if l.count =? 10 then pointer_on l 1 else None

-- H
abbrev pub hard_state_on : Line → Option HardState
hard_state_on l = if l.count =? 3 then hard_state_from (number_on (field_at l 1)) (vote_on (field_at l 2)) (number_on l.field) else None

-- E
abbrev pub entry_from : Option ℕ → Option ℕ → Option DurableRaftEntryPayload → Option BatchEntry
entry_from i t p = option_and_then (λ index. option_and_then (λ term. option_map (λ payload. record { index = index; term = term; payload = payload }) p) t) i

abbrev pub entry_on : Line → List ℕ → Option BatchEntry
entry_on l lens = entry_from (number_on (field_at l 1)) (number_on (field_at l 2)) (payload_on l 3 lens)

-- by its letter: 'P' 80, 'H' 72, 'E' 69; or `show`
unfoldable pub line_on : Line → List ℕ → Option BatchLine
line_on l lens =
    if letter_field (field_at l 0) 80 then option_map L.Pointer (snapshot_on l)
    else (if letter_field (field_at l 0) 72 then option_map L.HardState (hard_state_on l)
    else (if letter_field (field_at l 0) 69 then option_map L.Entry (entry_on l lens)
    else option_map L.Show (line_header l show_word u64_max)))

-- ---- what they mean

abbrev pub finish_number : Bool → ℕ
finish_number finished = if finished then 1 else 0

abbrev pub maybe_finish_of : Option Bool → Option ℕ
maybe_finish_of o = option_map finish_number o

abbrev pub maybe_identity_of : Option RaftReplicaIdentity → Option Identity
maybe_identity_of o = option_map identity_of o

abbrev pub said_of : BatchLine → List ℕ → Said
said_of (L.Pointer p) lent = pointer (R.pointer_record_of p)
said_of (L.Entry e) lent = entry (entry_of lent e).log_entry
said_of (L.HardState h) lent = hard_state (R.hard_state_of h)
said_of (L.Show n) lent = show n

abbrev pub maybe_said_of : Option BatchLine → List ℕ → Option Said
maybe_said_of o lent = option_map (λ l. said_of l lent) o
