-- What the program `recover` prints (document 01, 'The program `recover` reads ..'), as ASCII bytes: numbers in decimal, single
-- spaces, and a newline at the end of each line.
-- Assumes nothing.
use Rattle.std.specs.Prelude.{ℕ, zero, suc, ◌+◌, ◌/◌, ◌%◌, max, Bool, true, false, List, [], ◌∷◌, ◌++◌, length, Option, None, Some}
use Rattle.definition.specs.Table.{◌<?◌}
use Rattle.definition.specs.Records.{Identity, HardState}
use Rattle.definition.specs.Log.{Entry, Log, base, count}
use Rattle.definition.specs.Recovery.{Held, State, joined}

-- The digits of n, the most significant first and no zero in front; those before the last by `front`, of a tenth of n.
abbrev pub digits_over : (ℕ → List ℕ) → ℕ → Bool → List ℕ
digits_over front n true = (48 + n) ∷ []
digits_over front n false = front (n / 10) ++ ((48 + n % 10) ∷ [])

-- k bounds how many digits stand before the last.
unfoldable pub digits_within : ℕ → ℕ → List ℕ
digits_within zero n = (48 + n) ∷ []
digits_within (suc k) n = digits_over (digits_within k) n (n <? 10)

-- A number in decimal: no more than n digits stand before the last.
unfoldable pub decimal : ℕ → List ℕ
decimal n = digits_within n n

-- A line: the fields with single spaces (32) between, and a newline (10).
unfoldable pub row : List (List ℕ) → List ℕ
row [] = 10 ∷ []
row (f ∷ []) = f ++ (10 ∷ [])
row (f ∷ g ∷ fs) = f ++ (32 ∷ row (g ∷ fs))

-- The words.
abbrev pub replicas_word : List ℕ
replicas_word = 114 ∷ 101 ∷ 112 ∷ 108 ∷ 105 ∷ 99 ∷ 97 ∷ 115 ∷ []

abbrev pub entries_word : List ℕ
entries_word = 101 ∷ 110 ∷ 116 ∷ 114 ∷ 105 ∷ 101 ∷ 115 ∷ []

abbrev pub refused_word : List ℕ
refused_word = 114 ∷ 101 ∷ 102 ∷ 117 ∷ 115 ∷ 101 ∷ 100 ∷ []

abbrev pub line_word : List ℕ
line_word = 108 ∷ 105 ∷ 110 ∷ 101 ∷ []

abbrev pub malformed_word : List ℕ
malformed_word = 109 ∷ 97 ∷ 108 ∷ 102 ∷ 111 ∷ 114 ∷ 109 ∷ 101 ∷ 100 ∷ []

-- `-` for no vote.
abbrev pub vote_field : Option ℕ → List ℕ
vote_field None = 45 ∷ []
vote_field (Some v) = decimal v

-- Current term, vote, commit.
abbrev pub hard_fields : HardState → List (List ℕ)
hard_fields h = decimal h.current_term ∷ vote_field h.voted_for ∷ decimal h.commit ∷ []

-- What is shown of a replica's hard state: its term and vote, and "the larger of the hard state's commit and the view's" (document 02,
-- Q-3). Without a hard state its term and commit count as 0, and there is no vote.
abbrev pub shown_hard : Option HardState → ℕ → HardState
shown_hard None committed = record { current_term = 0; voted_for = None; commit = committed }
shown_hard (Some h) committed = record { current_term = h.current_term; voted_for = h.voted_for; commit = max h.commit committed }

-- group, replica, boundary index, boundary term, then what is shown of the hard state
abbrev pub replica_line : Identity → ℕ → ℕ → HardState → List ℕ
replica_line i index term hard = row (decimal i.group ∷ decimal i.replica ∷ decimal index ∷ decimal term ∷ hard_fields hard)

-- group, replica, index, term, LSN
abbrev pub entry_line : Identity → ℕ → ℕ → ℕ → List ℕ
entry_line i index term lsn = row (decimal i.group ∷ decimal i.replica ∷ decimal index ∷ decimal term ∷ decimal lsn ∷ [])

-- A replica's line, and its entries' lines: the first has the index after the boundary's, each other one the next.
abbrev pub line_of : Held (Log ℕ) → List ℕ
line_of a = replica_line a.id a.log.snapshot_index a.log.snapshot_term (shown_hard a.log.hard_state a.log.committed_index)

unfoldable pub lines_from : Identity → ℕ → List (Entry ℕ) → List ℕ
lines_from i index [] = []
lines_from i index (e ∷ es) = entry_line i index e.term e.lsn ++ lines_from i (suc index) es

abbrev pub entry_lines_of : Held (Log ℕ) → List ℕ
entry_lines_of a = lines_from a.id (base a.log) a.log.entries

-- All entries of all replicas.
unfoldable pub entry_count : List (Held (Log ℕ)) → ℕ
entry_count [] = 0
entry_count (a ∷ l) = count a.log + entry_count l

-- `replicas N` and `entries N`: a word and a number.
abbrev pub count_line : List ℕ → ℕ → List ℕ
count_line word n = row (word ∷ decimal n ∷ [])

-- The tables of a state.
unfoldable pub tables : State → List ℕ
tables s =
    count_line replicas_word (length s.replicas)
    ++ joined line_of s.replicas
    ++ count_line entries_word (entry_count s.replicas)
    ++ joined entry_lines_of s.replicas

-- refused LSN NUMBER
unfoldable pub refused_line : ℕ → ℕ → List ℕ
refused_line lsn number = row (refused_word ∷ decimal lsn ∷ decimal number ∷ [])

-- line K malformed
unfoldable pub malformed_line : ℕ → List ℕ
malformed_line k = row (line_word ∷ decimal k ∷ malformed_word ∷ [])
