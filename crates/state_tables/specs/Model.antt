-- The output on the declared types: what the code writes, also of a state that keeps no limit. Places held count as at most 8, a replica's
-- entries as at most 64, an index past 2^64 - 1 is 2^64 - 1, and a command has the bytes that its cell of the store has.
-- Assumes nothing.
use Rattle.std.specs.Prelude.{List, ◌++◌, ℕ, ◌+◌, ◌*◌, get_or}
use Rattle.view.specs.declared.RecoveredRaftLogEntry.{RecoveredRaftLogEntry}
use Rattle.view.specs.Meaning.{lsn_of, snapshot_of, payload_in, no_entry, cell_at, base_of}
use Rattle.storage.specs.declared.Scan.{Scan}
use Rattle.storage.specs.declared.RecoveredRaftStorage.{RecoveredRaftStorage}
use Rattle.storage.specs.Model.{head_at}
use Rattle.tables.specs.Model.{lines_to, index_at, len_of, held_in}
use Rattle.replica_line.specs.Lines.{replica_line}
use Rattle.state_tables.specs.Lines.{pointer_line, entry_line, scan_line}
use Rattle.replica_line.specs.Model.{line_in}

-- ---- a replica's lines

-- The line of an entry with cell k of the store.
abbrev pub entry_in : ℕ → RecoveredRaftLogEntry → List ℕ → ℕ → List ℕ
entry_in index e st k = entry_line index e.term e.lsn.0 (payload_in e.payload (cell_at st k))

-- Of entry place q of replica place p.
abbrev pub place_in : RecoveredRaftStorage → List ℕ → ℕ → ℕ → List ℕ
place_in s st p q = entry_in (index_at (base_of (head_at s p)) q) (get_or s.entries (64 * p + q) no_entry) st (64 * p + q)

abbrev pub entries_in : RecoveredRaftStorage → List ℕ → ℕ → List ℕ
entries_in s st p = lines_to (len_of (head_at s p)) (place_in s st p)

unfoldable pub replica_in : RecoveredRaftStorage → List ℕ → ℕ → List ℕ
replica_in s st p = replica_line (line_in (head_at s p) (get_or s.entries (64 * p) no_entry)) ++ pointer_line (snapshot_of (head_at s p).snapshot) ++ entries_in s st p

-- ---- all that the code writes of a state

abbrev pub scan_in : Scan → List ℕ
scan_in n = scan_line n.scanned_records (lsn_of n.last_scanned_lsn)

unfoldable pub state_in : RecoveredRaftStorage → List ℕ → List ℕ
state_in s st = scan_in s.scan ++ lines_to (held_in s) (replica_in s st)
