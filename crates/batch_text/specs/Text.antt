-- The lines of a batch, behind a journal. A line is its bytes, without the newline; fields, numbers and checksums are a journal's.
-- Assumes nothing.
use Rattle.std.specs.Prelude.{ℕ, ◌&&◌, List, [], ◌∷◌, length, if◌then◌else◌, Option, None, Some}
use Rattle.definition.specs.Table.{◌=?◌, u64_max, same_bytes}
use Rattle.definition.specs.Records.{Identity, Payload, LogEntry, HardState}
use Rattle.definition.specs.Log.{PointerRecord}
use Rattle.text.specs.Text.{u32_max, number, is_number, value, is_checksum, checksum, fields, nth, is_letter, is_vote, vote, command, change, changed}

-- "finish", "batch" and "show"
abbrev pub finish_word : List ℕ
finish_word = 102 ∷ 105 ∷ 110 ∷ 105 ∷ 115 ∷ 104 ∷ []

abbrev pub batch_word : List ℕ
batch_word = 98 ∷ 97 ∷ 116 ∷ 99 ∷ 104 ∷ []

abbrev pub show_word : List ℕ
show_word = 115 ∷ 104 ∷ 111 ∷ 119 ∷ []

-- finish 0|1: the last field is that digit alone
unfoldable pub finish_line : List ℕ → Option ℕ
finish_line s =
    if length (fields s) =? 2 && same_bytes (nth 0 (fields s)) finish_word
    then (if is_letter (nth 1 (fields s)) 48 then Some 0 else (if is_letter (nth 1 (fields s)) 49 then Some 1 else None))
    else None

-- batch GROUP REPLICA
unfoldable pub batch_line : List ℕ → Option Identity
batch_line s =
    if length (fields s) =? 3 && same_bytes (nth 0 (fields s)) batch_word && is_number u64_max (nth 1 (fields s)) && is_number u64_max (nth 2 (fields s))
    then Some (record { group = value u64_max (nth 1 (fields s)); replica = value u64_max (nth 2 (fields s)) })
    else None

-- What a line behind these says.
pub data Said : Type 0 where
  pointer : PointerRecord → Said
  entry : LogEntry → Said
  hard_state : HardState → Said
  show : ℕ → Said

-- P version group replica ID index term applied size rest checksum: 'P' is 80
abbrev pub pointer_said : List (List ℕ) → Option Said
pointer_said fs =
    if length fs =? 11
    && is_letter (nth 0 fs) 80
    && is_number u32_max (nth 1 fs)
    && is_number u64_max (nth 2 fs)
    && is_number u64_max (nth 3 fs)
    && (is_number u64_max (nth 4 fs)
    && is_number u64_max (nth 5 fs)
    && is_number u64_max (nth 6 fs)
    && is_number u64_max (nth 7 fs)
    && is_number u64_max (nth 8 fs)
    && is_number u64_max (nth 9 fs)
    && is_checksum (nth 10 fs))
    then Some (pointer (record {
      identity = record { group = value u64_max (nth 2 fs); replica = value u64_max (nth 3 fs) };
      snapshot = record {
        version = value u32_max (nth 1 fs);
        snapshot_id = value u64_max (nth 4 fs);
        last_included_index = value u64_max (nth 5 fs);
        last_included_term = value u64_max (nth 6 fs);
        applied_index = value u64_max (nth 7 fs);
        size_bytes = value u64_max (nth 8 fs);
        rest = value u64_max (nth 9 fs);
        checksum = checksum (nth 10 fs);
      };
    }))
    else None

-- H term vote commit: 'H' is 72
abbrev pub hard_state_said : List (List ℕ) → Option Said
hard_state_said fs =
    if length fs =? 4 && is_letter (nth 0 fs) 72 && is_number u64_max (nth 1 fs) && is_number u64_max (nth 3 fs) && is_vote (nth 2 fs)
    then Some (hard_state (record { current_term = value u64_max (nth 1 fs); voted_for = vote (nth 2 fs); commit = value u64_max (nth 3 fs) }))
    else None

-- show INDEX
abbrev pub index_said : Option ℕ → Option Said
index_said None = None
index_said (Some n) = Some (show n)

abbrev pub show_said : List (List ℕ) → Option Said
show_said fs = index_said (if length fs =? 2 && same_bytes (nth 0 fs) show_word then number u64_max (nth 1 fs) else None)

-- N number ('N' is 78); or A, P, R version replica
abbrev pub payload_said : List (List ℕ) → List (List ℕ) → Option Payload
payload_said commands fs =
    if length fs =? 5
    then (if is_letter (nth 3 fs) 78 && is_number u64_max (nth 4 fs) then command commands (value u64_max (nth 4 fs)) else None)
    else (if length fs =? 6 && is_number u64_max (nth 4 fs) && is_number u64_max (nth 5 fs)
    then changed (change (nth 3 fs)) (value u64_max (nth 4 fs)) (value u64_max (nth 5 fs))
    else None)

abbrev pub entry_with : List (List ℕ) → Option Payload → Option Said
entry_with fs None = None
entry_with fs (Some p) = Some (entry (record { index = value u64_max (nth 1 fs); term = value u64_max (nth 2 fs); payload = p }))

-- E index term, then the payload: 'E' is 69
abbrev pub entry_said : List (List ℕ) → List (List ℕ) → Option Said
entry_said commands fs =
    if is_letter (nth 0 fs) 69 && is_number u64_max (nth 1 fs) && is_number u64_max (nth 2 fs) then entry_with fs (payload_said commands fs) else None

abbrev pub first : Option Said → Option Said → Option Said
first None b = b
first (Some a) b = Some a

-- what a line says, with the commands that were given
unfoldable pub fields_say : List (List ℕ) → List (List ℕ) → Option Said
fields_say commands fs = first (pointer_said fs) (first (hard_state_said fs) (first (show_said fs) (entry_said commands fs)))

unfoldable pub line_says : List (List ℕ) → List ℕ → Option Said
line_says commands s = fields_say commands (fields s)
