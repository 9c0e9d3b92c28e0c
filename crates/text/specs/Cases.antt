-- Computed tests of the lines: document 01's example, and each edge. Each is one declaration over a list.
-- Assumes nothing.
use Rattle.std.specs.Prelude.{ℕ, Bool, true, false, ◌&&◌, List, [], ◌∷◌, ◌++◌, replicate, T, Option, None, Some}
use Prim.Native.Char.{code}
use Prim.Native.String.{String, [] as empty, ◌∷◌ as ◌then◌}
use Rattle.definition.specs.Table.{◌=?◌, every, u64_max, same_bytes}
use Rattle.definition.specs.Records.{same, addLearner, promoteLearner, removeReplica, Payload, normal, inside, configuration, same_payload, Checksum, same_pointer, Kind, entry, hard_state, pointer, Body, foreign, raft, Record}
use Rattle.text.specs.Text.{numeral_from, number, u32_max, hex_digit, hex_from, hex_bytes, command_line, fields_from, record_fields, record_line, header_line, commands_word, records_word}

-- the bytes of a text
bytes : String → List ℕ
bytes empty = []
bytes (c then s) = code c ∷ bytes s

-- ---- equality

same_option : {A : Type 0} → (A → A → Bool) → Option A → Option A → Bool
same_option p None None = true
same_option p None (Some b) = false
same_option p (Some a) None = false
same_option p (Some a) (Some b) = p a b

same_number : ℕ → ℕ → Bool
same_number a b = a =? b

same_kind : Kind → Kind → Bool
same_kind (entry v x) (entry w y) = v =? w && x.index =? y.index && x.term =? y.term && same_payload x.payload y.payload
same_kind (entry v x) (hard_state w y) = false
same_kind (entry v x) (pointer y) = false
same_kind (hard_state v x) (entry w y) = false
same_kind (hard_state v x) (hard_state w y) = v =? w && x.current_term =? y.current_term && same_option same_number x.voted_for y.voted_for && x.commit =? y.commit
same_kind (hard_state v x) (pointer y) = false
same_kind (pointer x) (entry w y) = false
same_kind (pointer x) (hard_state w y) = false
same_kind (pointer x) (pointer y) = same_pointer x y

same_body : Body → Body → Bool
same_body foreign foreign = true
same_body foreign (raft j y) = false
same_body (raft i x) foreign = false
same_body (raft i x) (raft j y) = same i j && same_kind x y

same_record : Record → Record → Bool
same_record r s = r.lsn =? s.lsn && same_body r.body s.body

-- ---- numbers

reads : ℕ → ℕ → List ℕ → Bool
reads most n s = same_option same_number (number most s) (Some n)

malformed : ℕ → List ℕ → Bool
malformed most s = same_option same_number (number most s) None

zeros : List ℕ
zeros = replicate 300 48

numbers : List Bool
numbers =
    reads u64_max 0 (bytes "0")
    ∷ reads u64_max 7 (bytes "7")
    ∷ reads u64_max 907 (bytes "907")
    ∷ reads u64_max u64_max (bytes "18446744073709551615")
    ∷ malformed u64_max (bytes "18446744073709551616")
    ∷ malformed u64_max (bytes "18446744073709551620")
    ∷ malformed u64_max (bytes "20000000000000000000")
    ∷ malformed u64_max (bytes "99999999999999999999")
    ∷ malformed u64_max (bytes "184467440737095516150")
    ∷ reads u32_max u32_max (bytes "4294967295")
    ∷ malformed u32_max (bytes "4294967296")
    ∷ reads 256 256 (bytes "256")
    ∷ malformed 256 (bytes "257")
    -- leading zeros, however many
    ∷ reads u64_max 7 (bytes "007")
    ∷ reads u64_max 0 (zeros)
    ∷ reads u64_max u64_max (zeros ++ bytes "18446744073709551615")
    ∷ malformed u64_max (zeros ++ bytes "18446744073709551616")
    -- no digit, a sign, a space, a point, the bytes beside the digits, a carriage return, a zero byte
    ∷ malformed u64_max []
    ∷ malformed u64_max (bytes "-1")
    ∷ malformed u64_max (bytes "+1")
    ∷ malformed u64_max (bytes " 1")
    ∷ malformed u64_max (bytes "1 ")
    ∷ malformed u64_max (bytes "1.0")
    ∷ malformed u64_max (bytes "1/")
    ∷ malformed u64_max (bytes "1:")
    ∷ malformed u64_max (bytes "a")
    ∷ malformed u64_max (49 ∷ 13 ∷ [])
    ∷ malformed u64_max (0 ∷ 49 ∷ [])
    ∷ malformed u64_max (49 ∷ 0 ∷ [])
    ∷ []

each_number : T (every (λ b. b) numbers)
unfolding bytes same_option same_number reads malformed zeros numbers numeral_from
each_number = tt

-- ---- command lines

holds : List ℕ → List ℕ → Bool
holds s l = same_option same_bytes (command_line s) (Some l)

none_there : List ℕ → Bool
none_there s = same_option same_bytes (command_line s) None

command_lines : List Bool
command_lines =
    holds [] []
    ∷ holds (bytes "41") (65 ∷ [])
    ∷ holds (bytes "00ff7F") (0 ∷ 255 ∷ 127 ∷ [])
    ∷ holds (bytes "aBcDeF09") (171 ∷ 205 ∷ 239 ∷ 9 ∷ [])
    ∷ holds (replicate 130 70) (replicate 65 255)
    ∷ none_there (replicate 132 70)
    ∷ none_there (replicate 131 70)
    ∷ none_there (replicate 129 70)
    -- an odd number of digits, and the bytes beside the digits
    ∷ none_there (bytes "4")
    ∷ none_there (bytes "414")
    ∷ none_there (bytes "4g")
    ∷ none_there (bytes "G4")
    ∷ none_there (bytes "4/")
    ∷ none_there (bytes "4:")
    ∷ none_there (bytes "4@")
    ∷ none_there (bytes "4`")
    ∷ none_there (bytes " 41")
    ∷ none_there (bytes "41 ")
    ∷ none_there (bytes "4 1")
    ∷ none_there (bytes "0x41")
    ∷ none_there (52 ∷ 49 ∷ 13 ∷ [])
    ∷ none_there (52 ∷ 49 ∷ 13 ∷ 13 ∷ [])
    ∷ none_there (0 ∷ 0 ∷ [])
    ∷ []

each_command : T (every (λ b. b) command_lines)
unfolding bytes same_option holds none_there command_lines hex_digit hex_bytes
each_command = tt

-- ---- headers

counts : List ℕ → ℕ → ℕ → List ℕ → Bool
counts word most n s = same_option same_number (header_line word most s) (Some n)

no_header : List ℕ → ℕ → List ℕ → Bool
no_header word most s = same_option same_number (header_line word most s) None

headers : List Bool
headers =
    counts commands_word 256 1 (bytes "commands 1")
    ∷ counts commands_word 256 0 (bytes "commands 0")
    ∷ counts commands_word 256 256 (bytes "commands 256")
    ∷ counts commands_word 256 256 (bytes "commands 000256")
    ∷ no_header commands_word 256 (bytes "commands 257")
    ∷ no_header commands_word 256 (bytes "commands 18446744073709551616")
    ∷ counts records_word 4096 3 (bytes "records 3")
    ∷ counts records_word 4096 4096 (bytes "records 4096")
    ∷ no_header records_word 4096 (bytes "records 4097")
    ∷ no_header commands_word 256 (bytes "records 3")
    ∷ no_header records_word 4096 (bytes "commands 3")
    ∷ no_header commands_word 256 (bytes "Commands 1")
    ∷ no_header commands_word 256 (bytes "command 1")
    ∷ no_header commands_word 256 (bytes "commandss 1")
    ∷ no_header commands_word 256 (bytes "commands")
    ∷ no_header commands_word 256 (bytes "commands ")
    ∷ no_header commands_word 256 (bytes "commands  1")
    ∷ no_header commands_word 256 (bytes " commands 1")
    ∷ no_header commands_word 256 (bytes "commands 1 ")
    ∷ no_header commands_word 256 (bytes "commands 1 1")
    ∷ no_header commands_word 256 (bytes "commands 1" ++ (13 ∷ []))
    ∷ no_header commands_word 256 []
    ∷ []

each_header : T (every (λ b. b) headers)
unfolding bytes same_option same_number counts no_header headers numeral_from fields_from header_line
each_header = tt

-- ---- records; command 1 is the byte 65, command 2 has no bytes

commands : List (List ℕ)
commands = (65 ∷ []) ∷ [] ∷ []

says : String → Record → Bool
says s r = same_option same_record (record_line commands (bytes s)) (Some r)

no_record : List ℕ → Bool
no_record s = same_option same_record (record_line commands s) None

of : ℕ → ℕ → ℕ → Kind → Record
of lsn group replica k = record { lsn = lsn; body = raft (record { group = group; replica = replica }) k }

e : ℕ → ℕ → ℕ → Payload → Kind
e version index term p = entry version (record { index = index; term = term; payload = p })

h : ℕ → ℕ → Option ℕ → ℕ → Kind
h version term vote commit = hard_state version (record { current_term = term; voted_for = vote; commit = commit })

-- the four numbers of the checksum of the line below, as they stand
sum : Checksum
sum = record { a = 81985529216486895; b = 18364758544493064720; c = 1; d = 12297829382473034410 }

records : List Bool
records =
    -- document 01's example
    says "E 5 1 1 1 1 1 N 1" (of 5 1 1 (e 1 1 1 (normal (inside (65 ∷ [])))))
    ∷ says "E 6 1 1 1 2 2 N 1" (of 6 1 1 (e 1 2 2 (normal (inside (65 ∷ [])))))
    ∷ says "H 7 1 1 1 1 - 2" (of 7 1 1 (h 1 1 None 2))
    -- each field has its own place
    ∷ says "E 1 2 3 4 5 6 N 2" (of 1 3 4 (e 2 5 6 (normal (inside []))))
    ∷ says "E 1 2 3 4 5 6 A 7 8" (of 1 3 4 (e 2 5 6 (configuration addLearner 7 8)))
    ∷ says "E 1 2 3 4 5 6 P 7 8" (of 1 3 4 (e 2 5 6 (configuration promoteLearner 7 8)))
    ∷ says "E 1 2 3 4 5 6 R 7 8" (of 1 3 4 (e 2 5 6 (configuration removeReplica 7 8)))
    ∷ says "H 1 2 3 4 5 6 7" (of 1 3 4 (h 2 5 (Some 6) 7))
    ∷ says "H 1 2 3 4 5 0 7" (of 1 3 4 (h 2 5 (Some 0) 7))
    ∷ says "F 9" (record { lsn = 9; body = foreign })
    ∷ says "F 0" (record { lsn = 0; body = foreign })
    ∷ says "F 18446744073709551615" (record { lsn = u64_max; body = foreign })
    ∷ says "P 1 2 3 4 5 6 7 8 9 10 0123456789abcdefFEDCBA98765432100000000000000001aaaaaaaaaaaaaaaa"
    (of 1 3 4 (pointer (record { version = 2; snapshot_id = 5; last_included_index = 6; last_included_term = 7; applied_index = 8; size_bytes = 9; rest = 10; checksum = sum })))
    -- a record's version up to 2^32 - 1, any other number up to 2^64 - 1, leading zeros
    ∷ says "E 0001 4294967295 18446744073709551615 18446744073709551615 18446744073709551615 18446744073709551615 N 0000000000000000000000001"
    (of 1 u64_max u64_max (e u32_max u64_max u64_max (normal (inside (65 ∷ [])))))
    ∷ says "E 1 1 1 1 1 1 A 18446744073709551615 18446744073709551615" (of 1 1 1 (e 1 1 1 (configuration addLearner u64_max u64_max)))
    ∷ says "E 0 0 0 0 0 0 A 0 0" (of 0 0 0 (e 0 0 0 (configuration addLearner 0 0)))
    ∷ every (λ s. no_record (bytes s))
    ("E 1 4294967296 1 1 1 1 N 1"
    ∷ "H 1 4294967296 1 1 1 - 2"
    ∷ "P 1 4294967296 3 4 5 6 7 8 9 10 0123456789abcdefFEDCBA98765432100000000000000001aaaaaaaaaaaaaaaa"
    ∷ "E 18446744073709551616 1 1 1 1 1 N 1"
    ∷ "E 1 1 18446744073709551616 1 1 1 N 1"
    ∷ "E 1 1 1 18446744073709551616 1 1 N 1"
    ∷ "E 1 1 1 1 18446744073709551616 1 N 1"
    ∷ "E 1 1 1 1 1 18446744073709551616 N 1"
    ∷ "E 1 1 1 1 1 1 A 18446744073709551616 1"
    ∷ "E 1 1 1 1 1 1 A 1 18446744073709551616"
    ∷ "H 1 1 1 1 18446744073709551616 - 2"
    ∷ "H 1 1 1 1 1 18446744073709551616 2"
    ∷ "H 1 1 1 1 1 - 18446744073709551616"
    ∷ "F 18446744073709551616"
    -- a command number that is not given
    ∷ "E 5 1 1 1 1 1 N 0"
    ∷ "E 5 1 1 1 1 1 N 3"
    ∷ "E 5 1 1 1 1 1 N 18446744073709551615"
    ∷ "E 5 1 1 1 1 1 N 18446744073709551616"
    ∷ "E 5 1 1 1 1 1 N -"
    -- letters
    ∷ "e 5 1 1 1 1 1 N 1"
    ∷ "E 5 1 1 1 1 1 n 1"
    ∷ "E 5 1 1 1 1 1 a 1 1"
    ∷ "E 5 1 1 1 1 1 N 1 1"
    ∷ "E 5 1 1 1 1 1 A 1"
    ∷ "E 5 1 1 1 1 1 B 1 1"
    ∷ "E 5 1 1 1 1 1 AA 1 1"
    ∷ "EE 5 1 1 1 1 1 N 1"
    ∷ "f 1"
    ∷ "G 1"
    ∷ "FF 1"
    ∷ "h 7 1 1 1 1 - 2"
    ∷ "H 7 1 1 1 1 -- 2"
    ∷ "H 7 1 1 1 1 none 2"
    ∷ "H 7 1 1 1 - 1 2"
    -- a field too many or missing, an empty one, a space at an end
    ∷ ""
    ∷ " "
    ∷ "E"
    ∷ "F"
    ∷ "F "
    ∷ "F  1"
    ∷ " F 1"
    ∷ "F 1 "
    ∷ "F 1 1"
    ∷ "E 5 1 1 1 1 N 1"
    ∷ "E 5 1 1 1 1 1 1 N 1"
    ∷ "E 5 1 1 1 1 1 N"
    ∷ "E 5 1 1 1 1 1 N "
    ∷ "E 5 1 1 1 1 1  N 1"
    ∷ "E 5 1 1 1 1 1 N 1 "
    ∷ "E 5 1 1 1 1 1 A 1 1 1"
    ∷ "H 7 1 1 1 1 - 2 1"
    ∷ "H 7 1 1 1 1 -"
    ∷ "H 7 1 1 1 1  2"
    ∷ "1 2 3 4 5 6 7 8 9 10 11 12 13 14"
    ∷ "E 1 2 3 4 5 6 A 7 8 9 10 11 12 13"
    -- checksums: 63, 65 and 128 digits, a byte that is none, a thirteenth field
    ∷ "P 1 2 3 4 5 6 7 8 9 10 123456789abcdefFEDCBA98765432100000000000000001aaaaaaaaaaaaaaaa"
    ∷ "P 1 2 3 4 5 6 7 8 9 10 00123456789abcdefFEDCBA98765432100000000000000001aaaaaaaaaaaaaaaa"
    ∷ "P 1 2 3 4 5 6 7 8 9 10 0123456789abcdefFEDCBA98765432100000000000000001aaaaaaaaaaaaaaaa0123456789abcdefFEDCBA98765432100000000000000001aaaaaaaaaaaaaaaa"
    ∷ "P 1 2 3 4 5 6 7 8 9 10 g123456789abcdefFEDCBA98765432100000000000000001aaaaaaaaaaaaaaaa"
    ∷ "P 1 2 3 4 5 6 7 8 9 10 0123456789abcdefFEDCBA98765432100000000000000001aaaaaaaaaaaaaaaG"
    ∷ "P 1 2 3 4 5 6 7 8 9 10 0123456789abcdefFEDCBA98765432100000000000000001aaaaaaaaaaaaaaaa "
    ∷ "P 1 2 3 4 5 6 7 8 9 10 0123456789abcdefFEDCBA98765432100000000000000001aaaaaaaaaaaaaaaa 1"
    ∷ "P 1 2 3 4 5 6 7 8 9 0123456789abcdefFEDCBA98765432100000000000000001aaaaaaaaaaaaaaaa"
    ∷ "P 1 2 3 4 5 6 7 8 9 x 0123456789abcdefFEDCBA98765432100000000000000001aaaaaaaaaaaaaaaa"
    ∷ "P 1 2 3 4 5 6 7 8 9 10 "
    ∷ [])
    -- a carriage return, a tab, a zero byte
    ∷ no_record (bytes "F 9" ++ (13 ∷ []))
    ∷ no_record (bytes "F" ++ (9 ∷ 57 ∷ []))
    ∷ no_record (bytes "F 9" ++ (0 ∷ []))
    ∷ no_record (0 ∷ bytes "F 9")
    ∷ []

each_record : T (every (λ b. b) records)
unfolding bytes same_option same_number same_kind same_body same_record commands says no_record of e h sum records numeral_from hex_digit hex_from fields_from record_fields record_line
each_record = tt
