-- The line on the declared types: what the code writes, also of a header that keeps no limit. A last index past 2^64 - 1 is 2^64 - 1.
-- Assumes nothing.
use Rattle.std.specs.Prelude.{List, [], ◌∷◌, ◌++◌, ℕ}
use Rattle.frontier.specs.Progress.{progress_of}
use Rattle.codec.specs.Records.{maybe_hard_state_of}
use Rattle.view.specs.declared.Header.{Header}
use Rattle.view.specs.declared.RecoveredRaftLogEntry.{RecoveredRaftLogEntry}
use Rattle.view.specs.Meaning.{lsn_of, id_of}
use Rattle.view.specs.Readers.{first_index_of, boundary_of, last_index_of, first_retained_of}
use Rattle.readers.specs.Own.{minimum_of}
use Rattle.batch_tables.specs.Lines.{spaced}
use Rattle.replica_line.specs.Lines.{Line}

-- Fields, a space behind each.
unfoldable pub spaced_all : List (List ℕ) → List ℕ
spaced_all [] = []
spaced_all (f ∷ fs) = spaced f ++ spaced_all fs

-- What the line says, by a header and the entry at place 0.
abbrev pub line_in : Header → RecoveredRaftLogEntry → Line
line_in h first =
    record {
      id = id_of h;
      boundary = boundary_of h;
      progress = progress_of h.progress;
      committed = h.committed_index;
      hard = maybe_hard_state_of h.hard_state;
      hard_lsn = lsn_of h.hard_state_lsn;
      pointer_lsn = lsn_of h.snapshot_pointer_lsn;
      replayed = lsn_of h.last_replayed_lsn;
      minimum = minimum_of h first;
      entries = h.len;
      first = first_index_of h;
      last = last_index_of h;
      retained = lsn_of (first_retained_of h first);
    }
