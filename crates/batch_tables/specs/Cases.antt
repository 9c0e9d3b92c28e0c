-- Computed tests of the lines that `batch` prints. Each is one declaration over a list.
-- Assumes nothing.
use Rattle.std.specs.Prelude.{ℕ, Bool, true, false, List, [], ◌∷◌, ◌++◌, replicate, take, T, None, Some, Result, Ok, Err}
use Prim.Native.Char.{code}
use Prim.Native.String.{String, [] as empty, ◌∷◌ as ◌then◌}
use Rattle.definition.specs.Table.{◌=?◌, u64_max, every, same_bytes}
use Rattle.definition.specs.Records.{Identity, addLearner, promoteLearner, removeReplica}
use Rattle.ids.specs.declared.Refusal.TheVariants as F
use Rattle.ids.specs.declared.RaftReplicaIdentity.{RaftReplicaIdentity}
use Rattle.codec.specs.declared.ConfChangeKind.TheVariants as K
use Rattle.codec.specs.declared.DurableRaftEntryPayload.{DurableRaftEntryPayload}
use Rattle.codec.specs.declared.DurableRaftEntryPayload.TheVariants as Y
use Rattle.codec.specs.declared.RaftWalRecord.TheVariants as W
use Rattle.tables.specs.Tables.{digits_within, decimal, row}
use Rattle.tables.specs.Model.{lines_to}
use Rattle.persistence.specs.declared.PreparedRecord.{PreparedRecord}
use Rattle.arrayvec.specs.ArrayVec.{ArrayVec}
use Rattle.ids.specs.declared.Refusal.{Refusal}
use Rattle.batch_tables.specs.Lines.{hex_text, least_from, least_number, normal_fields, change_fields, entry_line, hard_state_line, pointer_line, refused_batch, journal_refused, shown_line, minimum_line}
use Rattle.batch_tables.specs.Model.{no_record, prepared_text}

-- the bytes of a text, and of a line
bytes : String → List ℕ
bytes empty = []
bytes (c then s) = code c ∷ bytes s

is : List ℕ → String → Bool
is l s = same_bytes l (bytes s ++ (10 ∷ []))

-- ---- single lines

id : Identity
id = record { group = 2; replica = 3 }

lines : List Bool
lines =
    is (refused_batch 43) "refused 43"
    ∷ is (journal_refused 12 27) "journal refused 12 27"
    ∷ is (journal_refused u64_max 2) "journal refused 18446744073709551615 2"
    ∷ is (shown_line 5 true (0 ∷ 9 ∷ 16 ∷ 171 ∷ 255 ∷ [])) "shown 5 batch 000910abff"
    ∷ is (shown_line 0 false (65 ∷ [])) "shown 0 log 41"
    ∷ is (shown_line 5 true []) "shown 5 batch"
    ∷ is (shown_line u64_max false []) "shown 18446744073709551615 log"
    ∷ is (minimum_line None) "minimum -"
    ∷ is (minimum_line (Some 0)) "minimum 0"
    ∷ is (minimum_line (Some u64_max)) "minimum 18446744073709551615"
    -- each field has its own place
    ∷ is (entry_line 1 id 4 5 (normal_fields 6)) "E 1 2 3 4 5 N 6"
    ∷ is (entry_line 1 id 4 5 (change_fields addLearner 6 7)) "E 1 2 3 4 5 A 6 7"
    ∷ is (entry_line 1 id 4 5 (change_fields promoteLearner 6 7)) "E 1 2 3 4 5 P 6 7"
    ∷ is (entry_line 1 id 4 5 (change_fields removeReplica 6 7)) "E 1 2 3 4 5 R 6 7"
    ∷ is (hard_state_line 1 id (record { current_term = 4; voted_for = None; commit = 5 })) "H 1 2 3 4 - 5"
    ∷ is (hard_state_line 1 id (record { current_term = 4; voted_for = Some 6; commit = 5 })) "H 1 2 3 4 6 5"
    ∷ is
    (pointer_line id (record {
      version = 1;
      snapshot_id = 4;
      last_included_index = 5;
      last_included_term = 6;
      applied_index = 7;
      size_bytes = 8;
      rest = 9;
      checksum = record { a = 81985529216486895; b = 18364758544493064720; c = 1; d = 12297829382473034410 };
    }))
    "P 1 2 3 4 5 6 7 8 9 0123456789abcdeffedcba98765432100000000000000001aaaaaaaaaaaaaaaa"
    ∷ []

each_line : T (every (λ b. b) lines)
unfolding bytes is id lines digits_within decimal row hex_text
each_line = tt

-- ---- commands by number: the least with the same bytes

commands : List (List ℕ)
commands = (65 ∷ []) ∷ (65 ∷ 66 ∷ []) ∷ (65 ∷ []) ∷ [] ∷ []

numbers : List Bool
numbers =
    (least_number commands (65 ∷ []) =? 1)
    ∷ (least_number commands (65 ∷ 66 ∷ []) =? 2)
    ∷ (least_number commands [] =? 4)
    ∷ (least_number commands (66 ∷ []) =? 0)
    ∷ (least_number commands (65 ∷ 66 ∷ 67 ∷ []) =? 0)
    ∷ (least_number [] [] =? 0)
    ∷ []

each_number : T (every (λ b. b) numbers)
unfolding commands numbers least_from
each_number = tt

-- ---- the whole answer; of the lent bytes, 65 for each command, the first are looked at

who : RaftReplicaIdentity
who = record { raft_group_id = record { 0 = 2 }; replica_id = record { 0 = 3 } }

lent : List ℕ
lent = 65 ∷ 66 ∷ replicate 65 65

an_entry : ℕ → DurableRaftEntryPayload → PreparedRecord
an_entry index p = record { body = Some (W.Entry (record { format_version = 1; identity = who; index = index; term = 5; payload = p })) }

a_hard_state : PreparedRecord
a_hard_state =
    record {
      body = Some (W.HardState (record { format_version = 1; identity = who; hard_state = record { current_term = 5; voted_for = None; commit = 8 } }));
    }

a_pointer : PreparedRecord
a_pointer =
    record {
      body = Some (W.SnapshotPointer (record {
        format_version = 1;
        identity = who;
        snapshot_id = 4;
        last_included_index = 5;
        last_included_term = 6;
        applied_index = 5;
        size_bytes = 8;
        rest = 9;
        checksum = record { a = 0; b = 0; c = 0; d = 255 };
      }));
    }

-- records, as many as the count says
ready : ℕ → List PreparedRecord → Result (ArrayVec PreparedRecord) Refusal
ready count records = Ok (record { items = take count records })

answers : List Bool
answers =
    is (prepared_text (Err F.CommitBeyondLog) commands lent) "refused 49"
    ∷ same_bytes (prepared_text (ready 0 (a_hard_state ∷ [])) commands lent) []
    ∷ is (prepared_text (ready 1 (a_hard_state ∷ a_pointer ∷ [])) commands lent) "H 1 2 3 5 - 8"
    ∷ same_bytes
    (prepared_text (ready 4 (a_pointer ∷ an_entry 6 (Y.Normal 0 2) ∷ an_entry 7 (Y.Configuration K.RemoveReplica 8 (record { 0 = 9 })) ∷ a_hard_state ∷ no_record ∷ [])) commands lent)
    (bytes "P 1 2 3 4 5 6 5 8 9 00000000000000000000000000000000000000000000000000000000000000ff"
    ++ (10 ∷ bytes "E 1 2 3 6 5 N 2")
    ++ (10 ∷ bytes "E 1 2 3 7 5 R 8 9")
    ++ (10 ∷ bytes "H 1 2 3 5 - 8")
    ++ (10 ∷ []))
    -- a command by its bytes, wherever it stands; none
    ∷ is (prepared_text (ready 1 (an_entry 6 (Y.Normal 2 1) ∷ [])) commands lent) "E 1 2 3 6 5 N 1"
    ∷ is (prepared_text (ready 1 (an_entry 6 (Y.Normal 66 0) ∷ [])) commands lent) "E 1 2 3 6 5 N 4"
    ∷ is (prepared_text (ready 1 (an_entry 6 (Y.Normal 1 1) ∷ [])) commands lent) "E 1 2 3 6 5 N 0"
    ∷ []

each_answer : T (every (λ b. b) answers)
unfolding bytes is commands who lent an_entry a_hard_state a_pointer ready answers digits_within decimal row hex_text lines_to least_from prepared_text
each_answer = tt
