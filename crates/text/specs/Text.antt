-- The lines of a journal (document 01, 'The program `recover` reads standard input'). A line is its bytes, without the newline.
-- Assumes nothing.
use Rattle.std.specs.Prelude.{ℕ, ◌+◌, ◌-◌, ◌*◌, Bool, ◌&&◌, ◌||◌, List, [], ◌∷◌, ◌++◌, length, get_or, take, drop, if◌then◌else◌, Option, None, Some}
use Rattle.definition.specs.Table.{◌=?◌, ◌<?◌, ◌≤?◌, u64_max, is_some, or_zero, every, same_bytes}
use Rattle.definition.specs.Records.{Identity, Change, addLearner, promoteLearner, removeReplica, Payload, normal, inside, configuration, Checksum, Kind, entry, hard_state, pointer, foreign, raft, Record}

-- 2^32 - 1, the largest version of a record.
abbrev pub u32_max : ℕ
u32_max = 4294967295

-- ---- numbers: decimal digits, leading zeros taken

-- '0' to '9'
abbrev pub is_digit : ℕ → Bool
is_digit b = 48 ≤? b && b ≤? 57

-- what n grows to by the digits of s
unfoldable pub numeral_from : ℕ → List ℕ → Option ℕ
numeral_from n [] = Some n
numeral_from n (b ∷ s) = if is_digit b then numeral_from (n * 10 + (b - 48)) s else None

-- digits only, at least one
abbrev pub numeral : List ℕ → Option ℕ
numeral [] = None
numeral (b ∷ s) = numeral_from 0 (b ∷ s)

abbrev pub at_most : ℕ → Option ℕ → Option ℕ
at_most most None = None
at_most most (Some n) = if n ≤? most then Some n else None

-- a number up to `most`
abbrev pub number : ℕ → List ℕ → Option ℕ
number most s = at_most most (numeral s)

-- whether it is one, and which (0 where it is none)
abbrev pub is_number : ℕ → List ℕ → Bool
is_number most s = is_some (number most s)

abbrev pub value : ℕ → List ℕ → ℕ
value most s = or_zero (λ n. n) (number most s)

-- ---- hex digits, in either case

-- '0' to '9', 'A' to 'F', 'a' to 'f'; 16 for any other byte
unfoldable pub hex_digit : ℕ → ℕ
hex_digit b =
    if b <? 48 then 16
    else (if b ≤? 57 then b - 48
    else (if b <? 65 then 16
    else (if b ≤? 70 then b - 55
    else (if b <? 97 then 16
    else (if b ≤? 102 then b - 87
    else 16)))))

abbrev pub is_hex : ℕ → Bool
is_hex b = hex_digit b ≤? 15

-- what n grows to by the hex digits of s
unfoldable pub hex_from : ℕ → List ℕ → ℕ
hex_from n [] = n
hex_from n (b ∷ s) = hex_from (n * 16 + hex_digit b) s

-- two digits a byte
abbrev pub with_byte : ℕ → Option (List ℕ) → Option (List ℕ)
with_byte x None = None
with_byte x (Some l) = Some (x ∷ l)

unfoldable pub hex_bytes : List ℕ → Option (List ℕ)
hex_bytes [] = Some []
hex_bytes (a ∷ []) = None
hex_bytes (a ∷ b ∷ s) = if is_hex a && is_hex b then with_byte (hex_digit a * 16 + hex_digit b) (hex_bytes s) else None

-- a command line: up to 65 bytes
abbrev pub at_most_bytes : ℕ → Option (List ℕ) → Option (List ℕ)
at_most_bytes most None = None
at_most_bytes most (Some l) = if length l ≤? most then Some l else None

abbrev pub command_line : List ℕ → Option (List ℕ)
command_line s = at_most_bytes 65 (hex_bytes s)

-- 64 digits: four numbers of 16 digits
abbrev pub is_checksum : List ℕ → Bool
is_checksum s = length s =? 64 && every is_hex s

abbrev pub checksum : List ℕ → Checksum
checksum s =
    record {
      a = hex_from 0 (take 16 s);
      b = hex_from 0 (take 16 (drop 16 s));
      c = hex_from 0 (take 16 (drop 32 s));
      d = hex_from 0 (take 16 (drop 48 s));
    }

-- ---- fields: what stands between single spaces; two spaces have an empty field between them

-- f: the field so far
unfoldable pub fields_from : List ℕ → List ℕ → List (List ℕ)
fields_from f [] = f ∷ []
fields_from f (b ∷ s) = if b =? 32 then f ∷ fields_from [] s else fields_from (f ++ (b ∷ [])) s

abbrev pub fields : List ℕ → List (List ℕ)
fields s = fields_from [] s

-- field k, from 0
abbrev pub nth : ℕ → List (List ℕ) → List ℕ
nth k fs = get_or fs k []

-- whether a field is this one letter
abbrev pub is_letter : List ℕ → ℕ → Bool
is_letter f b = same_bytes f (b ∷ [])

-- ---- records

-- LSN, version, group and replica: fields 1 to 4
abbrev pub is_owned : List (List ℕ) → Bool
is_owned fs =
    is_number u64_max (nth 1 fs)
    && is_number u32_max (nth 2 fs)
    && is_number u64_max (nth 3 fs)
    && is_number u64_max (nth 4 fs)

abbrev pub owner : List (List ℕ) → Identity
owner fs = record { group = value u64_max (nth 3 fs); replica = value u64_max (nth 4 fs) }

abbrev pub owned : List (List ℕ) → Kind → Record
owned fs k = record { lsn = value u64_max (nth 1 fs); body = raft (owner fs) k }

abbrev pub version : List (List ℕ) → ℕ
version fs = value u32_max (nth 2 fs)

-- F LSN
abbrev pub foreign_record : List (List ℕ) → Option Record
foreign_record fs =
    if length fs =? 2 && is_letter (nth 0 fs) 70 && is_number u64_max (nth 1 fs)
    then Some (record { lsn = value u64_max (nth 1 fs); body = foreign })
    else None

-- '-' (45) for no vote, or a replica
abbrev pub is_vote : List ℕ → Bool
is_vote f = is_letter f 45 || is_number u64_max f

abbrev pub vote : List ℕ → Option ℕ
vote f = if is_letter f 45 then None else Some (value u64_max f)

-- H LSN version group replica term vote commit
abbrev pub hard_state_record : List (List ℕ) → Option Record
hard_state_record fs =
    if length fs =? 8 && is_letter (nth 0 fs) 72 && is_owned fs && is_number u64_max (nth 5 fs) && is_number u64_max (nth 7 fs) && is_vote (nth 6 fs)
    then Some (owned fs (hard_state (version fs) (record { current_term = value u64_max (nth 5 fs); voted_for = vote (nth 6 fs); commit = value u64_max (nth 7 fs) })))
    else None

-- command n of those given, from 1
abbrev pub command : List (List ℕ) → ℕ → Option Payload
command commands n = if 1 ≤? n && n ≤? length commands then Some (normal (inside (nth (n - 1) commands))) else None

-- 'A' adds a learner, 'P' promotes, 'R' removes
abbrev pub change : List ℕ → Option Change
change f =
    if is_letter f 65 then Some addLearner
    else (if is_letter f 80 then Some promoteLearner
    else (if is_letter f 82 then Some removeReplica
    else None))

abbrev pub changed : Option Change → ℕ → ℕ → Option Payload
changed None v r = None
changed (Some c) v r = Some (configuration c v r)

-- N number; or A, P, R version replica
abbrev pub payload : List (List ℕ) → List (List ℕ) → Option Payload
payload commands fs =
    if length fs =? 9
    then (if is_letter (nth 7 fs) 78 && is_number u64_max (nth 8 fs) then command commands (value u64_max (nth 8 fs)) else None)
    else (if length fs =? 10 && is_number u64_max (nth 8 fs) && is_number u64_max (nth 9 fs)
    then changed (change (nth 7 fs)) (value u64_max (nth 8 fs)) (value u64_max (nth 9 fs))
    else None)

abbrev pub entry_of : List (List ℕ) → Option Payload → Option Record
entry_of fs None = None
entry_of fs (Some p) = Some (owned fs (entry (version fs) (record { index = value u64_max (nth 5 fs); term = value u64_max (nth 6 fs); payload = p })))

-- E LSN version group replica index term, then the payload
abbrev pub entry_record : List (List ℕ) → List (List ℕ) → Option Record
entry_record commands fs =
    if is_letter (nth 0 fs) 69 && is_owned fs && is_number u64_max (nth 5 fs) && is_number u64_max (nth 6 fs) then entry_of fs (payload commands fs) else None

-- P LSN version group replica ID index term applied size rest checksum
abbrev pub pointer_record : List (List ℕ) → Option Record
pointer_record fs =
    if length fs =? 12
    && is_letter (nth 0 fs) 80
    && is_owned fs
    && is_number u64_max (nth 5 fs)
    && is_number u64_max (nth 6 fs)
    && is_number u64_max (nth 7 fs)
    && is_number u64_max (nth 8 fs)
    && is_number u64_max (nth 9 fs)
    && is_number u64_max (nth 10 fs)
    && is_checksum (nth 11 fs)
    then Some (owned fs (pointer (record {
      version = version fs;
      snapshot_id = value u64_max (nth 5 fs);
      last_included_index = value u64_max (nth 6 fs);
      last_included_term = value u64_max (nth 7 fs);
      applied_index = value u64_max (nth 8 fs);
      size_bytes = value u64_max (nth 9 fs);
      rest = value u64_max (nth 10 fs);
      checksum = checksum (nth 11 fs);
    })))
    else None

abbrev pub first : Option Record → Option Record → Option Record
first None b = b
first (Some a) b = Some a

-- the form that the fields have: 'F' 70, 'H' 72, 'P' 80, 'E' 69
unfoldable pub record_fields : List (List ℕ) → List (List ℕ) → Option Record
record_fields commands fs = first (foreign_record fs) (first (hard_state_record fs) (first (pointer_record fs) (entry_record commands fs)))

-- the record of a line, with the commands that were given
unfoldable pub record_line : List (List ℕ) → List ℕ → Option Record
record_line commands s = record_fields commands (fields s)

-- ---- headers: a word and a number

-- "commands"
abbrev pub commands_word : List ℕ
commands_word = 99 ∷ 111 ∷ 109 ∷ 109 ∷ 97 ∷ 110 ∷ 100 ∷ 115 ∷ []

-- "records"
abbrev pub records_word : List ℕ
records_word = 114 ∷ 101 ∷ 99 ∷ 111 ∷ 114 ∷ 100 ∷ 115 ∷ []

unfoldable pub header_line : List ℕ → ℕ → List ℕ → Option ℕ
header_line word most s =
    if length (fields s) =? 2 && same_bytes (nth 0 (fields s)) word then number most (nth 1 (fields s)) else None
