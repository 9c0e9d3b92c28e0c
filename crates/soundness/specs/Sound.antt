-- The test of soundness, as it walks: the headers, the held entries and their cells, and zeros in the rest of each block and of
-- the store. What it stands for: the definition's soundness of what state and store mean, and the limits that this cannot see.
-- Assumes nothing.
use Rattle.std.specs.Prelude.{◌≡◌, Bool, true, ◌&&◌, List, [], ◌∷◌, ℕ, zero, suc, ◌<◌, ◌≤◌, length, get_or, take, drop, Option}
use Rattle.definition.specs.Table.{◌=?◌, ◌<?◌, ◌≤?◌, all_of, u64_max}
use Rattle.definition.specs.Records.{before}
use Rattle.definition.specs.Recovery.{sound}
use Rattle.store.specs.Zeros.{all_zero}
use Rattle.view.specs.declared.Header.{Header}
use Rattle.view.specs.declared.RecoveredRaftLogEntry.{RecoveredRaftLogEntry}
use Rattle.view.specs.Meaning.{lsn_of, no_entry, size_of, id_of}
use Rattle.clauses.specs.Clauses.{head_ok, entry_ok}
use Rattle.storage.specs.declared.RecoveredRaftStorage.{RecoveredRaftStorage}
use Rattle.storage.specs.Model.{no_header, head_at, entries_in}
use Rattle.storage.specs.Meaning.{recovery_of}

-- n held entries, and zeros.
unfoldable pub entries_ok : Option ℕ → ℕ → List RecoveredRaftLogEntry → List ℕ → Bool
entries_ok last zero es cs = all_zero cs
entries_ok last (suc n) es cs = entry_ok last (get_or es 0 no_entry) (take 64 cs) && entries_ok last n (drop 1 es) (drop 64 cs)

abbrev pub replica_ok : Option ℕ → Header → List RecoveredRaftLogEntry → List ℕ → Bool
replica_ok last h es cs = head_ok last h && entries_ok last h.len es cs

-- n held replicas, and zeros.
unfoldable pub replicas_ok : Option ℕ → ℕ → List Header → List RecoveredRaftLogEntry → List ℕ → Bool
replicas_ok last zero hs es st = all_zero st
replicas_ok last (suc n) hs es st =
    replica_ok last (get_or hs 0 no_header) (take 64 es) (take 4096 st) && replicas_ok last n (drop 1 hs) (drop 64 es) (drop 4096 st)

-- Each of n headers is before the next.
unfoldable pub heads_rise : ℕ → List Header → Bool
heads_rise zero hs = true
heads_rise (suc zero) hs = true
heads_rise (suc (suc n)) hs = before (id_of (get_or hs 0 no_header)) (id_of (get_or hs 1 no_header)) && heads_rise (suc n) (drop 1 hs)

unfoldable pub sound_clauses : RecoveredRaftStorage → List ℕ → List Bool
sound_clauses s st =
    (length st =? 32768)
    ∷ (s.held ≤? 8)
    ∷ (s.scan.scanned_records <? u64_max)
    ∷ heads_rise s.held s.heads
    ∷ replicas_ok (lsn_of s.scan.last_scanned_lsn) s.held s.heads s.entries st
    ∷ []

abbrev pub sound_test : RecoveredRaftStorage → List ℕ → Bool
sound_test s st = all_of (sound_clauses s st)

-- Counts and lengths keep their limits. A longer command would mean the 64 bytes of its cell, so the meaning cannot tell.
pub record Limits (s : RecoveredRaftStorage) : Type 0 where
  pub few : s.held ≤ 8
  pub short : (p : ℕ) → p < s.held → (head_at s p).len ≤ 64
  pub sizes : (p : ℕ) → p < s.held → (q : ℕ) → q < (head_at s p).len → size_of (get_or (entries_in s p) q no_entry).payload ≤ 64

pub record Sound (s : RecoveredRaftStorage) (st : List ℕ) : Type 0 where
  pub limits : Limits s
  pub whole : sound (recovery_of s st) ≡ true
