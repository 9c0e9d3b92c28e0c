-- The state on the declared types: what stands at a place, a fresh state, and what each change leaves. What is not said stays.
-- Entry place q of replica place p is entries[64 * p + q], its command's bytes store[4096 * p + 64 * q ..].
-- Assumes nothing.
use Rattle.std.specs.Prelude.{cond, List, ◌∷◌, ◌++◌, ℕ, ◌+◌, ◌-◌, ◌*◌, ltb, get_or, set, replicate, None, Some}
use Rattle.ids.specs.declared.Lsn.{Lsn}
use Rattle.store.specs.Splice.{part, splice}
use Rattle.store.specs.Zeros.{zeros}
use Rattle.view.specs.declared.Header.{Header}
use Rattle.view.specs.declared.RecoveredRaftLogEntry.{RecoveredRaftLogEntry}
use Rattle.view.specs.Tab.{tab}
use Rattle.view.specs.Meaning.{no_entry}
use Rattle.view.specs.Model.{empty_header, maximum_term, finished}
use Rattle.storage.specs.declared.Scan.{Scan}
use Rattle.storage.specs.declared.RecoveredRaftStorage.{RecoveredRaftStorage}

-- What a read past the end of the headers gives, and what stands where no replica does.
abbrev pub no_header : Header
no_header = empty_header (record { raft_group_id = record { 0 = 0 }; replica_id = record { 0 = 0 } })

-- Nothing held, nothing scanned, every place blank.
abbrev pub fresh_storage : RecoveredRaftStorage
fresh_storage =
    record {
      heads = replicate 8 no_header;
      entries = replicate 512 no_entry;
      held = 0;
      scan = record { scanned_records = 0; last_scanned_lsn = None };
    }

-- The header, the entries and the bytes at replica place p.
abbrev pub head_at : RecoveredRaftStorage → ℕ → Header
head_at s p = get_or s.heads p no_header

abbrev pub entries_in : RecoveredRaftStorage → ℕ → List RecoveredRaftLogEntry
entries_in s p = part (64 * p) 64 s.entries

abbrev pub bytes_in : List ℕ → ℕ → List ℕ
bytes_in st p = part (4096 * p) 4096 st

-- A record at LSN l was scanned.
abbrev pub scan_next : Scan → Lsn → Scan
scan_next n l = record { scanned_records = n.scanned_records + 1; last_scanned_lsn = Some l }

-- Another header at p, other entries, another scan.
abbrev pub with_head : RecoveredRaftStorage → ℕ → Header → List RecoveredRaftLogEntry → Scan → RecoveredRaftStorage
with_head s p h es n = record { heads = set s.heads p h; entries = es; held = s.held; scan = n }

-- Any change at one replica: another header, 64 other entries and 4,096 other bytes at p. Each below is one of these.
abbrev pub changed : RecoveredRaftStorage → ℕ → Header → List RecoveredRaftLogEntry → Scan → RecoveredRaftStorage
changed s p h es n = with_head s p h (splice s.entries (64 * p) es) n

abbrev pub changed_store : List ℕ → ℕ → List ℕ → List ℕ
changed_store st p cs = splice st (4096 * p) cs

-- Another header only.
abbrev pub headed : RecoveredRaftStorage → ℕ → Header → Scan → RecoveredRaftStorage
headed s p h n = with_head s p h s.entries n

-- The scan only.
abbrev pub scanned_only : RecoveredRaftStorage → Scan → RecoveredRaftStorage
scanned_only s n = record { heads = s.heads; entries = s.entries; held = s.held; scan = n }

-- A place is opened at p for header h: the heads, entries and blocks of the replicas from p on move up.
abbrev pub opened : RecoveredRaftStorage → ℕ → Header → RecoveredRaftStorage
opened s p h =
    record {
      heads = splice s.heads p (h ∷ part p (s.held - p) s.heads);
      entries = splice s.entries (64 * (p + 1)) (part (64 * p) (64 * (s.held - p)) s.entries);
      held = s.held + 1;
      scan = s.scan;
    }

abbrev pub opened_store : List ℕ → ℕ → ℕ → List ℕ
opened_store st p held = splice st (4096 * p) (zeros 4096 ++ part (4096 * p) (4096 * (held - p)) st)

-- The headers of the first j places are finished.
abbrev pub finished_head : RecoveredRaftStorage → ℕ → Header
finished_head s p = finished (head_at s p) (maximum_term (head_at s p) (entries_in s p))

abbrev pub finished_to : ℕ → RecoveredRaftStorage → RecoveredRaftStorage
finished_to j s =
    record { heads = tab 8 (λ p. cond (ltb p j) (finished_head s p) (head_at s p)); entries = s.entries; held = s.held; scan = s.scan }

abbrev pub finished_storage : RecoveredRaftStorage → RecoveredRaftStorage
finished_storage s = finished_to s.held s
