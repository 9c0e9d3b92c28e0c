-- What the program `batch` prints, as ASCII bytes: numbers in decimal, single spaces, and a newline at the end of each line. A record has
-- the fields of a journal's line (document 01) without the LSN.
-- Assumes nothing.
use Rattle.std.specs.Prelude.{ℕ, suc, ◌+◌, ◌/◌, ◌%◌, Bool, true, false, List, [], ◌∷◌, ◌++◌, if◌then◌else◌, Option, None, Some}
use Rattle.definition.specs.Table.{◌<?◌, same_bytes}
use Rattle.definition.specs.Records.{Identity, Change, addLearner, promoteLearner, removeReplica, HardState, Checksum, Pointer}
use Rattle.tables.specs.Tables.{decimal, row, refused_word, hard_fields}

-- a field and a space behind it
abbrev pub spaced : List ℕ → List ℕ
spaced f = f ++ (32 ∷ [])

-- ---- hex digits, in small letters

abbrev pub hex_glyph : ℕ → ℕ
hex_glyph n = if n <? 10 then 48 + n else 87 + n

abbrev pub hex_pair : ℕ → List ℕ
hex_pair b = hex_glyph (b / 16) ∷ hex_glyph (b % 16) ∷ []

-- two digits a byte
unfoldable pub hex_text : List ℕ → List ℕ
hex_text [] = []
hex_text (b ∷ s) = hex_pair b ++ hex_text s

-- a number of 64 bits as 8 bytes, the highest first
abbrev pub word_bytes : ℕ → List ℕ
word_bytes n =
    n / 72057594037927936 % 256
    ∷ n / 281474976710656 % 256
    ∷ n / 1099511627776 % 256
    ∷ n / 4294967296 % 256
    ∷ n / 16777216 % 256
    ∷ n / 65536 % 256
    ∷ n / 256 % 256
    ∷ n % 256
    ∷ []

abbrev pub word_text : ℕ → List ℕ
word_text n = hex_text (word_bytes n)

abbrev pub checksum_text : Checksum → List ℕ
checksum_text c = word_text c.a ++ word_text c.b ++ word_text c.c ++ word_text c.d

-- ---- commands by number

-- the least number, from k on, of a command with these bytes; 0 where none has them
unfoldable pub least_from : ℕ → List (List ℕ) → List ℕ → ℕ
least_from k [] bytes = 0
least_from k (c ∷ cs) bytes = if same_bytes c bytes then k else least_from (suc k) cs bytes

abbrev pub least_number : List (List ℕ) → List ℕ → ℕ
least_number commands bytes = least_from 1 commands bytes

-- ---- records

-- version, group, replica
abbrev pub owner_fields : ℕ → Identity → List (List ℕ) → List (List ℕ)
owner_fields version i fields = decimal version ∷ decimal i.group ∷ decimal i.replica ∷ fields

-- the same, a space behind each
abbrev pub owner_text : ℕ → Identity → List ℕ
owner_text version i = spaced (decimal version) ++ (spaced (decimal i.group) ++ spaced (decimal i.replica))

-- 'N' and the command's number
abbrev pub normal_fields : ℕ → List (List ℕ)
normal_fields number = (78 ∷ []) ∷ decimal number ∷ []

-- 'A' adds a learner, 'P' promotes, 'R' removes; expected version, replica
abbrev pub change_letter : Change → ℕ
change_letter addLearner = 65
change_letter promoteLearner = 80
change_letter removeReplica = 82

abbrev pub change_fields : Change → ℕ → ℕ → List (List ℕ)
change_fields c version replica = (change_letter c ∷ []) ∷ decimal version ∷ decimal replica ∷ []

-- E version group replica index term, then the payload
abbrev pub entry_line : ℕ → Identity → ℕ → ℕ → List (List ℕ) → List ℕ
entry_line version i index term payload = row ((69 ∷ []) ∷ owner_fields version i (decimal index ∷ decimal term ∷ payload))

-- H version group replica term vote commit
abbrev pub hard_state_line : ℕ → Identity → HardState → List ℕ
hard_state_line version i h = row ((72 ∷ []) ∷ owner_fields version i (hard_fields h))

-- ID, index, term, applied, size and rest, a space behind each
abbrev pub snapshot_text : Pointer → List ℕ
snapshot_text p =
    spaced (decimal p.snapshot_id)
    ++ spaced (decimal p.last_included_index)
    ++ spaced (decimal p.last_included_term)
    ++ spaced (decimal p.applied_index)
    ++ spaced (decimal p.size_bytes)
    ++ spaced (decimal p.rest)

-- P version group replica ID index term applied size rest checksum
abbrev pub pointer_line : Identity → Pointer → List ℕ
pointer_line i p =
    row ((80 ∷ [])
    ∷ owner_fields p.version i
    (decimal p.snapshot_id
    ∷ decimal p.last_included_index
    ∷ decimal p.last_included_term
    ∷ decimal p.applied_index
    ∷ decimal p.size_bytes
    ∷ decimal p.rest
    ∷ checksum_text p.checksum
    ∷ []))

-- ---- the other lines

-- refused NUMBER
abbrev pub refused_batch : ℕ → List ℕ
refused_batch number = row (refused_word ∷ decimal number ∷ [])

-- "journal"
abbrev pub journal_word : List ℕ
journal_word = 106 ∷ 111 ∷ 117 ∷ 114 ∷ 110 ∷ 97 ∷ 108 ∷ []

-- journal refused LSN NUMBER
abbrev pub journal_refused : ℕ → ℕ → List ℕ
journal_refused lsn number = row (journal_word ∷ refused_word ∷ decimal lsn ∷ decimal number ∷ [])

-- "shown", and "batch" or "log"
abbrev pub shown_word : List ℕ
shown_word = 115 ∷ 104 ∷ 111 ∷ 119 ∷ 110 ∷ []

abbrev pub source_word : Bool → List ℕ
source_word true = 98 ∷ 97 ∷ 116 ∷ 99 ∷ 104 ∷ []
source_word false = 108 ∷ 111 ∷ 103 ∷ []

-- the command in hex, no field where it has no byte
abbrev pub command_fields : List ℕ → List (List ℕ)
command_fields [] = []
command_fields (b ∷ s) = hex_text (b ∷ s) ∷ []

-- the same behind the field before it, to the end of the line
abbrev pub command_text : List ℕ → List ℕ
command_text [] = 10 ∷ []
command_text (b ∷ s) = (32 ∷ []) ++ hex_text (b ∷ s) ++ (10 ∷ [])

-- shown INDEX log|batch [HEX]
abbrev pub shown_line : ℕ → Bool → List ℕ → List ℕ
shown_line index of_batch bytes = row (shown_word ∷ decimal index ∷ source_word of_batch ∷ command_fields bytes)

-- "minimum"
abbrev pub minimum_word : List ℕ
minimum_word = 109 ∷ 105 ∷ 110 ∷ 105 ∷ 109 ∷ 117 ∷ 109 ∷ []

-- minimum LSN, or minimum -
abbrev pub lsn_field : Option ℕ → List ℕ
lsn_field None = 45 ∷ []
lsn_field (Some n) = decimal n

abbrev pub minimum_line : Option ℕ → List ℕ
minimum_line lsn = row (minimum_word ∷ lsn_field lsn ∷ [])
