-- The output on the flat state: what the code writes, also of a state that keeps no limit. Places held count as at most 8, a
-- replica's entries as at most 64, and an index past 2^64 - 1 is 2^64 - 1.
-- Assumes nothing.
use Rattle.std.specs.Prelude.{List, [], ◌++◌, ℕ, zero, suc, ◌+◌, ◌*◌, min, get_or}
use Rattle.definition.specs.Table.{u64_max}
use Rattle.codec.specs.Records.{maybe_hard_state_of}
use Rattle.view.specs.declared.Header.{Header}
use Rattle.view.specs.declared.RecoveredRaftLogEntry.{RecoveredRaftLogEntry}
use Rattle.view.specs.Meaning.{no_entry, id_of, base_of}
use Rattle.storage.specs.declared.RecoveredRaftStorage.{RecoveredRaftStorage}
use Rattle.storage.specs.Model.{no_header, head_at}
use Rattle.tables.specs.Tables.{replicas_word, entries_word, shown_hard, replica_line, entry_line, count_line}

-- f 0, f 1, .. below n, one after the other; and their sum.
unfoldable pub lines_to : ℕ → (ℕ → List ℕ) → List ℕ
lines_to zero f = []
lines_to (suc n) f = lines_to n f ++ f n

unfoldable pub sum_to : ℕ → (ℕ → ℕ) → ℕ
sum_to zero f = 0
sum_to (suc n) f = sum_to n f + f n

-- A replica's line, by its header.
abbrev pub head_line : Header → List ℕ
head_line h = replica_line (id_of h) h.snapshot_index h.snapshot_term (shown_hard (maybe_hard_state_of h.hard_state) h.committed_index)

-- The index of entry place q, where place 0 has the index `first`.
abbrev pub index_at : ℕ → ℕ → ℕ
index_at first q = min (first + q) u64_max

-- The line of e at entry place q of a replica with header h.
abbrev pub place_line : Header → RecoveredRaftLogEntry → ℕ → List ℕ
place_line h e q = entry_line (id_of h) (index_at (base_of h) q) e.term e.lsn.0

-- How many entries are written of a replica, and how many replicas.
abbrev pub len_of : Header → ℕ
len_of h = min h.len 64

abbrev pub held_in : RecoveredRaftStorage → ℕ
held_in s = min s.held 8

-- The lines of the entries of replica place p.
abbrev pub log_lines : RecoveredRaftStorage → ℕ → List ℕ
log_lines s p = lines_to (len_of (head_at s p)) (λ q. place_line (head_at s p) (get_or s.entries (64 * p + q) no_entry) q)

-- Both counts and the replicas' lines between them, by the headers and how many of these are held.
abbrev pub head_lines : List Header → ℕ → List ℕ
head_lines hs held =
    count_line replicas_word held
    ++ lines_to held (λ p. head_line (get_or hs p no_header))
    ++ count_line entries_word (sum_to held (λ p. len_of (get_or hs p no_header)))

-- All that the code writes of a state.
unfoldable pub tables_of : RecoveredRaftStorage → List ℕ
tables_of s = head_lines s.heads (held_in s) ++ lines_to (held_in s) (log_lines s)
