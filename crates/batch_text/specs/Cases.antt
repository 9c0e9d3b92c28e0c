-- Computed tests of the lines of a batch, and of which may stand where. Each is one declaration over a list.
-- Assumes nothing.
use Rattle.std.specs.Prelude.{ℕ, Bool, true, false, not, ◌&&◌, List, [], ◌∷◌, length, map, get_or, replicate, T, Option, None, Some, unwrap_or}
use Prim.Native.Char.{code}
use Prim.Native.String.{String, [] as empty, ◌∷◌ as ◌then◌}
use Rattle.definition.specs.Table.{◌=?◌, every, u64_max, is_some}
use Rattle.definition.specs.Records.{Identity, same, addLearner, promoteLearner, removeReplica, Payload, normal, inside, configuration, same_payload, Checksum, same_pointer}
use Rattle.text.specs.Text.{numeral_from, hex_digit, hex_from, fields_from}
use Rattle.codec.specs.declared.DurableRaftEntryPayload.TheVariants as Y
use Rattle.batches.specs.declared.BatchEntry.{BatchEntry}
use Rattle.batch_text.specs.Text.{Said, pointer, entry, hard_state, show, finish_line, batch_line, fields_say, line_says}
use Rattle.batch_text.specs.Order.{given_of, no_batch, add_pointer, add_entry, add_hard_state, add_show, added}
use Rattle.batch_text.specs.declared.BatchLine.{BatchLine}
use Rattle.batch_text.specs.declared.BatchLine.TheVariants as L
use Rattle.batch_text.specs.declared.Given.{Given}

-- the bytes of a text
bytes : String → List ℕ
bytes empty = []
bytes (c then s) = code c ∷ bytes s

-- ---- equality

same_number : Option ℕ → Option ℕ → Bool
same_number None None = true
same_number None (Some b) = false
same_number (Some a) None = false
same_number (Some a) (Some b) = a =? b

same_identity : Option Identity → Option Identity → Bool
same_identity None None = true
same_identity None (Some j) = false
same_identity (Some i) None = false
same_identity (Some i) (Some j) = same i j

same_said : Said → Said → Bool
same_said (pointer p) (pointer q) = same p.identity q.identity && same_pointer p.snapshot q.snapshot
same_said (pointer p) (entry b) = false
same_said (pointer p) (hard_state b) = false
same_said (pointer p) (show n) = false
same_said (entry a) (pointer q) = false
same_said (entry a) (entry b) = a.index =? b.index && a.term =? b.term && same_payload a.payload b.payload
same_said (entry a) (hard_state b) = false
same_said (entry a) (show n) = false
same_said (hard_state a) (pointer q) = false
same_said (hard_state a) (entry b) = false
same_said (hard_state a) (hard_state b) = a.current_term =? b.current_term && same_number a.voted_for b.voted_for && a.commit =? b.commit
same_said (hard_state a) (show n) = false
same_said (show m) (pointer q) = false
same_said (show m) (entry b) = false
same_said (show m) (hard_state b) = false
same_said (show m) (show n) = m =? n

says_this : Option Said → Option Said → Bool
says_this None None = true
says_this None (Some b) = false
says_this (Some a) None = false
says_this (Some a) (Some b) = same_said a b

-- ---- finish and batch

finishes : String → Option ℕ → Bool
finishes s o = same_number (finish_line (bytes s)) o

whose : String → Option Identity → Bool
whose s o = same_identity (batch_line (bytes s)) o

heads : List Bool
heads =
    finishes "finish 0" (Some 0)
    ∷ finishes "finish 1" (Some 1)
    ∷ finishes "finish 2" None
    ∷ finishes "finish 01" None
    ∷ finishes "finish 00" None
    ∷ finishes "finish " None
    ∷ finishes "finish" None
    ∷ finishes "finish  1" None
    ∷ finishes "finish 1 " None
    ∷ finishes " finish 1" None
    ∷ finishes "Finish 1" None
    ∷ finishes "finisk 1" None
    ∷ finishes "finishs 1" None
    ∷ finishes "" None
    ∷ whose "batch 2 3" (Some (record { group = 2; replica = 3 }))
    ∷ whose "batch 0 0" (Some (record { group = 0; replica = 0 }))
    ∷ whose "batch 007 18446744073709551615" (Some (record { group = 7; replica = u64_max }))
    ∷ whose "batch 1 18446744073709551616" None
    ∷ whose "batch 18446744073709551616 1" None
    ∷ whose "batch 1" None
    ∷ whose "batch 1 " None
    ∷ whose "batch 1 2 3" None
    ∷ whose "batch  2" None
    ∷ whose "batch 1 -" None
    ∷ whose "Batch 1 2" None
    ∷ whose "finish 1 2" None
    ∷ []

each_head : T (every (λ b. b) heads)
unfolding bytes same_number same_identity finishes whose heads numeral_from fields_from finish_line batch_line
each_head = tt

-- ---- lines; command 1 is the byte 65, command 2 has no bytes

commands : List (List ℕ)
commands = (65 ∷ []) ∷ [] ∷ []

says : String → Said → Bool
says s a = says_this (line_says commands (bytes s)) (Some a)

unread : String → Bool
unread s = says_this (line_says commands (bytes s)) None

e : ℕ → ℕ → Payload → Said
e index term p = entry (record { index = index; term = term; payload = p })

h : ℕ → Option ℕ → ℕ → Said
h term vote commit = hard_state (record { current_term = term; voted_for = vote; commit = commit })

-- the four numbers of the checksum of the line below, as they stand
sum : Checksum
sum = record { a = 81985529216486895; b = 18364758544493064720; c = 1; d = 12297829382473034410 }

p : Said
p =
    pointer (record {
      identity = record { group = 2; replica = 3 };
      snapshot = record {
        version = 1;
        snapshot_id = 4;
        last_included_index = 5;
        last_included_term = 6;
        applied_index = 7;
        size_bytes = 8;
        rest = 9;
        checksum = sum;
      };
    })

lines : List Bool
lines =
    -- each field has its own place
    says "E 3 4 N 1" (e 3 4 (normal (inside (65 ∷ []))))
    ∷ says "E 3 4 N 002" (e 3 4 (normal (inside [])))
    ∷ says "E 3 4 A 5 6" (e 3 4 (configuration addLearner 5 6))
    ∷ says "E 3 4 P 5 6" (e 3 4 (configuration promoteLearner 5 6))
    ∷ says "E 3 4 R 5 6" (e 3 4 (configuration removeReplica 5 6))
    ∷ says "E 0 18446744073709551615 R 0 0" (e 0 u64_max (configuration removeReplica 0 0))
    ∷ says "H 3 - 5" (h 3 None 5)
    ∷ says "H 3 4 5" (h 3 (Some 4) 5)
    ∷ says "H 3 0 5" (h 3 (Some 0) 5)
    ∷ says "show 0" (show 0)
    ∷ says "show 18446744073709551615" (show u64_max)
    ∷ says "P 1 2 3 4 5 6 7 8 9 0123456789abcdefFEDCBA98765432100000000000000001aaaaaaaaaaaaaaaa" p
    -- a command that was not given, another letter, a field too few or too many, a field left empty, a number past its range
    ∷ unread "E 3 4 N 0"
    ∷ unread "E 3 4 N 3"
    ∷ unread "E 3 4 B 5 6"
    ∷ unread "E 3 4 N 1 2"
    ∷ unread "E 3 4 A 5"
    ∷ unread "E 3 4 A 5 6 7"
    ∷ unread "E 3 4"
    ∷ unread "E 3 N 1"
    ∷ unread "E  4 N 1"
    ∷ unread "e 3 4 N 1"
    ∷ unread "E 18446744073709551616 4 N 1"
    ∷ unread "E 3 18446744073709551616 N 1"
    ∷ unread "H 3 - 5 6"
    ∷ unread "H 3 -"
    ∷ unread "H 3 -- 5"
    ∷ unread "H - - 5"
    ∷ unread "H 3 - -"
    ∷ unread "show"
    ∷ unread "show "
    ∷ unread "show -"
    ∷ unread "show 1 2"
    ∷ unread "shows 1"
    ∷ unread "show 18446744073709551616"
    ∷ unread "P 4294967296 2 3 4 5 6 7 8 9 0123456789abcdefFEDCBA98765432100000000000000001aaaaaaaaaaaaaaaa"
    ∷ unread "P 1 2 3 4 5 6 7 8 9 0123456789abcdefFEDCBA98765432100000000000000001aaaaaaaaaaaaaaa"
    ∷ unread "P 1 2 3 4 5 6 7 8 9 0123456789abcdefFEDCBA98765432100000000000000001aaaaaaaaaaaaaaaaa"
    ∷ unread "P 1 2 3 4 5 6 7 8 9 0123456789abcdefFEDCBA98765432100000000000000001aaaaaaaaaaaaaaag"
    ∷ unread "P 0 1 2 3 4 5 6 7 8 9 0123456789abcdefFEDCBA98765432100000000000000001aaaaaaaaaaaaaaaa"
    ∷ unread "P 1 2 3 4 5 6 7 8 0123456789abcdefFEDCBA98765432100000000000000001aaaaaaaaaaaaaaaa"
    ∷ unread "F 5"
    ∷ unread ""
    ∷ unread " "
    ∷ []

each_line : T (every (λ b. b) lines)
unfolding bytes same_number same_said says_this commands says unread e h sum p lines numeral_from hex_digit hex_from fields_from fields_say line_says
each_line = tt

-- ---- which line may stand where

a_pointer : BatchLine
a_pointer =
    L.Pointer (record {
      format_version = 1;
      identity = record { raft_group_id = record { 0 = 1 }; replica_id = record { 0 = 1 } };
      snapshot_id = 7;
      last_included_index = 5;
      last_included_term = 2;
      applied_index = 5;
      size_bytes = 9;
      rest = 3;
      checksum = record { a = 1; b = 2; c = 3; d = 4 };
    })

an_entry : ℕ → BatchLine
an_entry n = L.Entry (record { index = n; term = 2; payload = Y.Normal 65 3 })

a_hard_state : BatchLine
a_hard_state = L.HardState (record { current_term = 2; voted_for = None; commit = 5 })

-- all lines are taken, in this order
takes : Given → List BatchLine → Bool
takes g [] = true
takes g (l ∷ ls) = is_some (added g l) && takes (unwrap_or (added g l) g) ls

after : Given → List BatchLine → Given
after g [] = g
after g (l ∷ ls) = after (unwrap_or (added g l) g) ls

entries : ℕ → List BatchLine
entries n = replicate n (an_entry 9)

-- the index of the entry at a place, 0 where there is none
index_at : ℕ → Given → ℕ
index_at i g = get_or (map (λ (e : BatchEntry). e.index) g.entries.items) i 0

orders : List Bool
orders =
    takes no_batch []
    ∷ takes no_batch (a_pointer ∷ an_entry 6 ∷ an_entry 7 ∷ a_hard_state ∷ L.Show 1 ∷ L.Show 2 ∷ [])
    ∷ takes no_batch (L.Show 1 ∷ L.Show 1 ∷ [])
    ∷ takes no_batch (entries 64)
    ∷ not (takes no_batch (entries 65))
    ∷ not (takes no_batch (a_pointer ∷ a_pointer ∷ []))
    ∷ not (takes no_batch (an_entry 6 ∷ a_pointer ∷ []))
    ∷ not (takes no_batch (a_hard_state ∷ a_pointer ∷ []))
    ∷ not (takes no_batch (L.Show 1 ∷ a_pointer ∷ []))
    ∷ not (takes no_batch (a_hard_state ∷ an_entry 6 ∷ []))
    ∷ not (takes no_batch (L.Show 1 ∷ an_entry 6 ∷ []))
    ∷ not (takes no_batch (a_hard_state ∷ a_hard_state ∷ []))
    ∷ not (takes no_batch (L.Show 1 ∷ a_hard_state ∷ []))
    ∷ takes (given_of None [] None 4095) (L.Show 1 ∷ [])
    ∷ not (takes (given_of None [] None 4096) (L.Show 1 ∷ []))
    -- entries at their places
    ∷ (length (after no_batch (an_entry 6 ∷ an_entry 7 ∷ [])).entries.items =? 2)
    ∷ (index_at 0 (after no_batch (an_entry 6 ∷ an_entry 7 ∷ [])) =? 6)
    ∷ (index_at 1 (after no_batch (an_entry 6 ∷ an_entry 7 ∷ [])) =? 7)
    ∷ (index_at 2 (after no_batch (an_entry 6 ∷ an_entry 7 ∷ [])) =? 0)
    ∷ (length (after no_batch (entries 40)).entries.items =? 40)
    ∷ (index_at 31 (after no_batch (entries 40)) =? 9)
    ∷ (index_at 39 (after no_batch (entries 40)) =? 9)
    ∷ (index_at 40 (after no_batch (entries 40)) =? 0)
    ∷ ((after no_batch (L.Show 4 ∷ L.Show 4 ∷ [])).shows =? 2)
    ∷ []

each_order : T (every (λ b. b) orders)
unfolding a_pointer an_entry a_hard_state takes after entries index_at orders add_pointer add_entry add_hard_state add_show
each_order = tt
