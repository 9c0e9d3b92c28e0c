-- What the program `steps` prints of records and of a state, over the definition, as ASCII bytes: numbers in decimal, `-` for none, single
-- spaces, and a newline at the end of each line.
-- Assumes nothing.
use Rattle.std.specs.Prelude.{ℕ, suc, List, [], ◌∷◌, ◌++◌, Option, None, Some}
use Rattle.definition.specs.Records.{Payload, normal, configuration, inside, outside, Pointer, Record}
use Rattle.definition.specs.Log.{Entry, Log, base, Answer, counted, appended, idempotentReplay, hard_state_kept, pointer_kept, finished, replaced_suffix, refused}
use Rattle.definition.specs.Recovery.{Held, State, fresh_state, joined, state_answers, state_after, finish_state}
use Rattle.tables.specs.Tables.{decimal, row, refused_word, vote_field as maybeField}
use Rattle.batch_tables.specs.Lines.{hex_text, checksum_text, change_fields}
use Rattle.replica_line.specs.Lines.{line_of, replica_line}

-- ---- the words

-- "foreign"
abbrev pub foreign_word : List ℕ
foreign_word = 102 ∷ 111 ∷ 114 ∷ 101 ∷ 105 ∷ 103 ∷ 110 ∷ []

-- "appended"
abbrev pub appended_word : List ℕ
appended_word = 97 ∷ 112 ∷ 112 ∷ 101 ∷ 110 ∷ 100 ∷ 101 ∷ 100 ∷ []

-- "repeated"
abbrev pub repeated_word : List ℕ
repeated_word = 114 ∷ 101 ∷ 112 ∷ 101 ∷ 97 ∷ 116 ∷ 101 ∷ 100 ∷ []

-- "replaced"
abbrev pub replaced_word : List ℕ
replaced_word = 114 ∷ 101 ∷ 112 ∷ 108 ∷ 97 ∷ 99 ∷ 101 ∷ 100 ∷ []

-- "hard-state"
abbrev pub hard_state_word : List ℕ
hard_state_word = 104 ∷ 97 ∷ 114 ∷ 100 ∷ 45 ∷ 115 ∷ 116 ∷ 97 ∷ 116 ∷ 101 ∷ []

-- "pointer"
abbrev pub pointer_word : List ℕ
pointer_word = 112 ∷ 111 ∷ 105 ∷ 110 ∷ 116 ∷ 101 ∷ 114 ∷ []

-- "finished"
abbrev pub finished_word : List ℕ
finished_word = 102 ∷ 105 ∷ 110 ∷ 105 ∷ 115 ∷ 104 ∷ 101 ∷ 100 ∷ []

-- "scanned"
abbrev pub scanned_word : List ℕ
scanned_word = 115 ∷ 99 ∷ 97 ∷ 110 ∷ 110 ∷ 101 ∷ 100 ∷ []

-- "last"
abbrev pub last_word : List ℕ
last_word = 108 ∷ 97 ∷ 115 ∷ 116 ∷ []

-- "entry"
abbrev pub entry_word : List ℕ
entry_word = 101 ∷ 110 ∷ 116 ∷ 114 ∷ 121 ∷ []

-- ---- a record's line

-- What a record was answered.
abbrev pub answer_fields : Answer → List (List ℕ)
answer_fields counted = foreign_word ∷ []
answer_fields appended = appended_word ∷ []
answer_fields idempotentReplay = repeated_word ∷ []
answer_fields hard_state_kept = hard_state_word ∷ []
answer_fields finished = finished_word ∷ []
answer_fields (replaced_suffix r) = replaced_word ∷ decimal r.removed_entries ∷ []
answer_fields (pointer_kept n) = pointer_word ∷ []
answer_fields (refused n) = refused_word ∷ decimal n ∷ []

-- LSN and answer
abbrev pub step_line : ℕ → Answer → List ℕ
step_line lsn a = row (decimal lsn ∷ answer_fields a)

-- Records and their answers, line by line.
unfoldable pub step_lines : List Record → List Answer → List ℕ
step_lines [] answers = []
step_lines (r ∷ rs) [] = []
step_lines (r ∷ rs) (a ∷ answers) = step_line r.lsn a ++ step_lines rs answers

-- ---- a replica's pointer and its entries, two spaces in front

abbrev pub indented : List ℕ → List ℕ
indented l = 32 ∷ 32 ∷ l

-- ID, index, term, applied, size, rest, checksum; no line without a pointer
abbrev pub pointer_line : Option Pointer → List ℕ
pointer_line None = []
pointer_line (Some p) =
    indented (row (pointer_word
    ∷ decimal p.snapshot_id
    ∷ decimal p.last_included_index
    ∷ decimal p.last_included_term
    ∷ decimal p.applied_index
    ∷ decimal p.size_bytes
    ∷ decimal p.rest
    ∷ checksum_text p.checksum
    ∷ []))

-- 'N' and the bytes in hex, the empty field for none; or the change. A command outside what was lent is never kept.
abbrev pub payload_fields : Payload → List (List ℕ)
payload_fields (normal (inside bytes)) = (78 ∷ []) ∷ hex_text bytes ∷ []
payload_fields (normal outside) = (78 ∷ []) ∷ [] ∷ []
payload_fields (configuration c version replica) = change_fields c version replica

-- index, term, LSN, payload
unfoldable pub entry_line : ℕ → ℕ → ℕ → Payload → List ℕ
entry_line index term lsn p = indented (row (entry_word ∷ decimal index ∷ decimal term ∷ decimal lsn ∷ payload_fields p))

-- The first has the index after the boundary's, each other one the next.
unfoldable pub entry_lines : ℕ → List (Entry ℕ) → List ℕ
entry_lines index [] = []
entry_lines index (e ∷ es) = entry_line index e.term e.lsn e.payload ++ entry_lines (suc index) es

-- ---- a state

-- How many records were scanned, and the last one's LSN.
abbrev pub scan_line : ℕ → Option ℕ → List ℕ
scan_line scanned last = row (scanned_word ∷ decimal scanned ∷ last_word ∷ maybeField last ∷ [])

abbrev pub replica_text : Held (Log ℕ) → List ℕ
replica_text a = replica_line (line_of a) ++ pointer_line a.log.snapshot ++ entry_lines (base a.log) a.log.entries

unfoldable pub state_text : State → List ℕ
state_text s = scan_line s.scanned_records s.last_scanned_lsn ++ joined replica_text s.replicas

-- ---- the whole answer: each record's line, the state, and the state once more when it is finished

unfoldable pub steps_text : List Record → List ℕ
steps_text rs =
    let s = state_after fresh_state rs in
    step_lines rs (state_answers fresh_state rs) ++ state_text s ++ row (finished_word ∷ []) ++ state_text (finish_state s).next
