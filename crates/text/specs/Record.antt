-- What the code reads off a line: a record, or a header's number. Fields 0 to count - 1 are closed, the last one is open.
-- Assumes nothing.
use Rattle.std.specs.Prelude.{ℕ, ◌+◌, ◌-◌, ◌*◌, ◌≤◌, ◌≡◌, ◌&&◌, List, [], ◌∷◌, length, get_or, take, drop, if◌then◌else◌, Option, None, Some, option_map, option_and_then}
use Rattle.definition.specs.Table.{◌=?◌, ◌<?◌, ◌≤?◌}
use Rattle.definition.specs.Records.{Record}
use Rattle.ids.specs.declared.RaftReplicaIdentity.{RaftReplicaIdentity}
use Rattle.ids.specs.declared.ReplicaId.{ReplicaId}
use Rattle.codec.specs.declared.ConfChangeKind.{ConfChangeKind}
use Rattle.codec.specs.declared.ConfChangeKind.TheVariants as K
use Rattle.codec.specs.declared.DurableRaftEntryPayload.{DurableRaftEntryPayload}
use Rattle.codec.specs.declared.DurableRaftEntryPayload.TheVariants as Y
use Rattle.codec.specs.declared.Checksum.{Checksum}
use Rattle.codec.specs.declared.HardState.{HardState}
use Rattle.codec.specs.declared.RaftHardStateRecord.{RaftHardStateRecord}
use Rattle.codec.specs.declared.RaftLogEntryRecord.{RaftLogEntryRecord}
use Rattle.codec.specs.declared.RaftSnapshotPointerRecord.{RaftSnapshotPointerRecord}
use Rattle.codec.specs.declared.RaftWalRecord.{RaftWalRecord}
use Rattle.codec.specs.declared.RaftWalRecord.TheVariants as W
use Rattle.codec.specs.declared.WalRecord.{WalRecord}
use Rattle.codec.specs.Records.{record_of}
use Rattle.text.specs.Text.{at_most}
use Rattle.text.specs.Field.{no_field, number_on, version_on, word_field, letter_field, vote_on, checksum_on}
use Rattle.text.specs.declared.field.Field.{Field}
use Rattle.text.specs.declared.line.Line.{Line}

abbrev pub field_at : Line → ℕ → Field
field_at l k = get_or l.fields k no_field

-- group and replica
abbrev pub identity_from : Option ℕ → Option ℕ → Option RaftReplicaIdentity
identity_from g r = option_and_then (λ n. option_map (λ m. record { raft_group_id = record { 0 = n }; replica_id = record { 0 = m } }) r) g

-- term, vote and commit
abbrev pub hard_state_from : Option ℕ → Option (Option ReplicaId) → Option ℕ → Option HardState
hard_state_from t v c = option_and_then (λ n. option_and_then (λ w. option_map (λ m. record { current_term = n; voted_for = w; commit = m }) c) v) t

-- version, identity, ID, index, term, applied, size, rest and checksum
abbrev pub pointer_from : Option ℕ → Option RaftReplicaIdentity → Option ℕ → Option ℕ → Option ℕ → Option ℕ → Option ℕ → Option ℕ → Option Checksum
    → Option RaftSnapshotPointerRecord
pointer_from v i d x t a z r s =
    option_and_then (λ version.
    option_and_then (λ identity.
    option_and_then (λ id.
    option_and_then (λ index.
    option_and_then (λ term.
    option_and_then (λ applied.
    option_and_then (λ size.
    option_and_then (λ rest.
    option_map (λ sum. record {
      format_version = version;
      identity = identity;
      snapshot_id = id;
      last_included_index = index;
      last_included_term = term;
      applied_index = applied;
      size_bytes = size;
      rest = rest;
      checksum = sum;
    }) s) r) z) a) t) x) d) i) v

-- a pointer, from field k on
unfoldable pub pointer_on : Line → ℕ → Option RaftSnapshotPointerRecord
pointer_on l k =
    pointer_from (version_on (field_at l k)) (identity_from (number_on (field_at l (k + 1))) (number_on (field_at l (k + 2))))
    (number_on (field_at l (k + 3))) (number_on (field_at l (k + 4))) (number_on (field_at l (k + 5))) (number_on (field_at l (k + 6)))
    (number_on (field_at l (k + 7))) (number_on (field_at l (k + 8))) (checksum_on l.sum)

-- a command's place and length: 65 bytes are kept for each
abbrev pub place_of : ℕ → List ℕ → DurableRaftEntryPayload
place_of n lens = Y.Normal (65 * (n - 1)) (get_or lens (n - 1) 0)

abbrev pub at_most256 : ℕ → ℕ
at_most256 n = if n <? 256 then n else 256

unfoldable pub command_at : ℕ → List ℕ → Option DurableRaftEntryPayload
command_at n lens = if 1 ≤? n && n ≤? 256 && n ≤? length lens then Some (place_of n lens) else None

unfoldable pub change_on : Field → Option ConfChangeKind
change_on f =
    if letter_field f 65 then Some K.AddLearner
    else (if letter_field f 80 then Some K.PromoteLearner
    else (if letter_field f 82 then Some K.RemoveReplica
    else None))

abbrev pub configuration_from : Option ConfChangeKind → Option ℕ → Option ℕ → Option DurableRaftEntryPayload
configuration_from c v r = option_and_then (λ kind. option_and_then (λ version. option_map (λ n. Y.Configuration kind version (record { 0 = n })) r) v) c

-- a payload, from field k on
unfoldable pub payload_on : Line → ℕ → List ℕ → Option DurableRaftEntryPayload
payload_on l k lens =
    if l.count =? k + 1 && letter_field (field_at l k) 78 then option_and_then (λ n. command_at n lens) (number_on l.field)
    else (if l.count =? k + 2
    then configuration_from (change_on (field_at l k)) (number_on (field_at l (k + 1))) (number_on l.field)
    else None)

-- F
abbrev pub foreign_from : Option ℕ → Option WalRecord
foreign_from lsn = option_map (λ n. record { lsn = record { 0 = n }; body = None }) lsn

unfoldable pub foreign_on : Line → Option WalRecord
foreign_on l = if l.count =? 1 then foreign_from (number_on l.field) else None

-- H
abbrev pub hard_state_record_from : Option ℕ → Option RaftReplicaIdentity → Option HardState → Option RaftHardStateRecord
hard_state_record_from v i h = option_and_then (λ version. option_and_then (λ identity. option_map (λ s. record { format_version = version; identity = identity; hard_state = s }) h) i) v

unfoldable pub hard_state_on : Line → Option RaftHardStateRecord
hard_state_on l =
    if l.count =? 7
    then hard_state_record_from (version_on (field_at l 2)) (identity_from (number_on (field_at l 3)) (number_on (field_at l 4)))
    (hard_state_from (number_on (field_at l 5)) (vote_on (field_at l 6)) (number_on l.field))
    else None

-- P
abbrev pub pointer_record_on : Line → Option RaftSnapshotPointerRecord
pointer_record_on l = if l.count =? 11 then pointer_on l 2 else None

-- E
abbrev pub entry_from : Option ℕ → Option RaftReplicaIdentity → Option ℕ → Option ℕ → Option DurableRaftEntryPayload → Option RaftLogEntryRecord
entry_from v i x t p =
    option_and_then (λ version.
    option_and_then (λ identity.
    option_and_then (λ index.
    option_and_then (λ term.
    option_map (λ payload. record { format_version = version; identity = identity; index = index; term = term; payload = payload }) p) t) x) i) v

unfoldable pub entry_on : Line → List ℕ → Option RaftLogEntryRecord
entry_on l lens =
    entry_from (version_on (field_at l 2)) (identity_from (number_on (field_at l 3)) (number_on (field_at l 4)))
    (number_on (field_at l 5)) (number_on (field_at l 6)) (payload_on l 7 lens)

-- by its letter: 'H' 72, 'P' 80, 'E' 69
abbrev pub body_on : Line → List ℕ → Option RaftWalRecord
body_on l lens =
    if letter_field (field_at l 0) 72 then option_map W.HardState (hard_state_on l)
    else (if letter_field (field_at l 0) 80 then option_map W.SnapshotPointer (pointer_record_on l)
    else (if letter_field (field_at l 0) 69 then option_map W.Entry (entry_on l lens)
    else None))

-- 'F' 70; or the LSN, and the body
abbrev pub raft_from : Option ℕ → Option RaftWalRecord → Option WalRecord
raft_from lsn body = option_and_then (λ n. option_map (λ k. record { lsn = record { 0 = n }; body = Some k }) body) lsn

unfoldable pub line_record : Line → List ℕ → Option WalRecord
line_record l lens = if letter_field (field_at l 0) 70 then foreign_on l else raft_from (number_on (field_at l 1)) (body_on l lens)

-- a word of at most 16 bytes, and a number up to `most`
unfoldable pub line_header : Line → List ℕ → ℕ → Option ℕ
line_header l word most = if l.count =? 1 && word_field (field_at l 0) word then at_most most (number_on l.field) else None

-- ---- what they mean

-- the commands that stand in the lent bytes, 65 bytes for each
unfoldable pub laid : List ℕ → List ℕ → List (List ℕ)
laid [] lent = []
laid (n ∷ lens) lent = take n lent ∷ laid lens (drop 65 lent)

-- those that are given
abbrev pub commands_in : ℕ → List ℕ → List ℕ → List (List ℕ)
commands_in count lens lent = laid (take (at_most256 count) lens) lent

-- each has at most 65 bytes, and 256 of them have room
pub record Lent (lens : List ℕ) (lent : List ℕ) : Type 0 where
  pub short : (i : ℕ) → get_or lens i 0 ≤ 65
  pub room : length lent ≡ 16640

abbrev pub maybe_record_of : Option WalRecord → List ℕ → Option Record
maybe_record_of o lent = option_map (λ r. record_of r lent) o
