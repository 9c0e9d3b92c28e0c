-- A replica's line, over the definition, as ASCII bytes: numbers in decimal, `-` for none, single spaces, and a newline at its end.
-- Assumes nothing.
use Rattle.std.specs.Prelude.{ℕ, List, [], ◌∷◌, ◌++◌, Option, None, Some}
use Rattle.definition.specs.Records.{Identity, HardState}
use Rattle.definition.specs.Frontier.{RaftProgress}
use Rattle.definition.specs.Log.{Log, count, first_index, last_index, snapshot_boundary, first_retained_lsn}
use Rattle.definition.specs.Recovery.{Held, minimum_recovery_lsn}
use Rattle.tables.specs.Tables.{decimal, row, hard_fields, vote_field as maybeField}
use Rattle.batch_tables.specs.Lines.{minimum_word}

-- ---- the words

-- "replica"
abbrev pub replica_word : List ℕ
replica_word = 114 ∷ 101 ∷ 112 ∷ 108 ∷ 105 ∷ 99 ∷ 97 ∷ []

-- "boundary"
abbrev pub boundary_word : List ℕ
boundary_word = 98 ∷ 111 ∷ 117 ∷ 110 ∷ 100 ∷ 97 ∷ 114 ∷ 121 ∷ []

-- "progress"
abbrev pub progress_word : List ℕ
progress_word = 112 ∷ 114 ∷ 111 ∷ 103 ∷ 114 ∷ 101 ∷ 115 ∷ 115 ∷ []

-- "commit"
abbrev pub commit_word : List ℕ
commit_word = 99 ∷ 111 ∷ 109 ∷ 109 ∷ 105 ∷ 116 ∷ []

-- "hard"
abbrev pub hard_word : List ℕ
hard_word = 104 ∷ 97 ∷ 114 ∷ 100 ∷ []

-- "hard-lsn"
abbrev pub hard_lsn_word : List ℕ
hard_lsn_word = 104 ∷ 97 ∷ 114 ∷ 100 ∷ 45 ∷ 108 ∷ 115 ∷ 110 ∷ []

-- "pointer-lsn"
abbrev pub pointer_lsn_word : List ℕ
pointer_lsn_word = 112 ∷ 111 ∷ 105 ∷ 110 ∷ 116 ∷ 101 ∷ 114 ∷ 45 ∷ 108 ∷ 115 ∷ 110 ∷ []

-- "replayed"
abbrev pub replayed_word : List ℕ
replayed_word = 114 ∷ 101 ∷ 112 ∷ 108 ∷ 97 ∷ 121 ∷ 101 ∷ 100 ∷ []

-- "log"
abbrev pub log_word : List ℕ
log_word = 108 ∷ 111 ∷ 103 ∷ []

-- ---- the line

-- What it says.
pub record Line : Type 0 where
  pub id : Identity
  pub boundary : Option (ℕ × ℕ)
  pub progress : RaftProgress
  pub committed : ℕ
  pub hard : Option HardState
  pub hard_lsn : Option ℕ
  pub pointer_lsn : Option ℕ
  pub replayed : Option ℕ
  pub minimum : Option ℕ
  pub entries : ℕ
  pub first : Option ℕ
  pub last : Option ℕ
  pub retained : Option ℕ

-- Zeros where there is no boundary.
abbrev pub boundary_fields : Option (ℕ × ℕ) → List (List ℕ)
boundary_fields None = boundary_word ∷ decimal 0 ∷ decimal 0 ∷ []
boundary_fields (Some (index, term)) = boundary_word ∷ decimal index ∷ decimal term ∷ []

abbrev pub progress_fields : RaftProgress → List (List ℕ)
progress_fields p = progress_word ∷ decimal p.truncated_through_index ∷ decimal p.truncated_through_term ∷ decimal p.applied_index ∷ []

-- Current term, vote, commit.
abbrev pub kept_fields : Option HardState → List (List ℕ)
kept_fields None = hard_word ∷ (45 ∷ []) ∷ []
kept_fields (Some h) = hard_word ∷ hard_fields h

abbrev pub position_fields : Line → List (List ℕ)
position_fields l =
    (replica_word ∷ decimal l.id.group ∷ decimal l.id.replica ∷ [])
    ++ boundary_fields l.boundary
    ++ progress_fields l.progress
    ++ (commit_word ∷ decimal l.committed ∷ [])

abbrev pub lsn_fields : Line → List (List ℕ)
lsn_fields l =
    hard_lsn_word
    ∷ maybeField l.hard_lsn
    ∷ pointer_lsn_word
    ∷ maybeField l.pointer_lsn
    ∷ replayed_word
    ∷ maybeField l.replayed
    ∷ minimum_word
    ∷ maybeField l.minimum
    ∷ []

-- Entry count, first index, last index, first retained LSN.
abbrev pub range_fields : Line → List (List ℕ)
range_fields l = log_word ∷ decimal l.entries ∷ maybeField l.first ∷ maybeField l.last ∷ maybeField l.retained ∷ []

unfoldable pub replica_line : Line → List ℕ
replica_line l = row (position_fields l ++ kept_fields l.hard ++ lsn_fields l ++ range_fields l)

-- Of a replica that is held.
abbrev pub line_of : Held (Log ℕ) → Line
line_of a =
    record {
      id = a.id;
      boundary = snapshot_boundary a.log;
      progress = a.log.progress;
      committed = a.log.committed_index;
      hard = a.log.hard_state;
      hard_lsn = a.log.hard_state_lsn;
      pointer_lsn = a.log.snapshot_pointer_lsn;
      replayed = a.log.last_replayed_lsn;
      minimum = minimum_recovery_lsn a.log;
      entries = count a.log;
      first = first_index a.log;
      last = last_index a.log;
      retained = first_retained_lsn a.log;
    }
