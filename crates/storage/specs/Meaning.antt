-- What a state and its store mean: a state of the definition. The meaning is total.
-- Assumes nothing.
use Rattle.std.specs.Prelude.{◌≡◌, List, ℕ, ◌<◌, ◌≤◌, length, set}
use Rattle.definition.specs.Records.{Content}
use Rattle.definition.specs.Log.{Log, Answer}
use Rattle.definition.specs.Recovery.{Held, out, State, Recovery, routed}
use Rattle.store.specs.Zeros.{zeros}
use Rattle.view.specs.Tab.{tab}
use Rattle.view.specs.Meaning.{lsn_of, view_of, held_of, Fits}
use Rattle.storage.specs.declared.RecoveredRaftStorage.{RecoveredRaftStorage}
use Rattle.storage.specs.Model.{head_at, entries_in, bytes_in}

-- The replica at place p, and its log.
abbrev pub held_at : RecoveredRaftStorage → List ℕ → ℕ → Held (Log ℕ)
held_at s st p = held_of (head_at s p) (entries_in s p) (bytes_in st p)

abbrev pub log_at : RecoveredRaftStorage → List ℕ → ℕ → Log ℕ
log_at s st p = view_of (head_at s p) (entries_in s p) (bytes_in st p)

unfoldable pub meaning : RecoveredRaftStorage → List ℕ → State
meaning s st =
    record {
      replicas = tab s.held (held_at s st);
      scanned_records = s.scan.scanned_records;
      last_scanned_lsn = lsn_of s.scan.last_scanned_lsn;
    }

-- With the store that is lent beside it.
abbrev pub recovery_of : RecoveredRaftStorage → List ℕ → Recovery
recovery_of s st = record { state = meaning s st; store = st }

-- Counts and lengths keep their limits; the store is the held commands' bytes, and zeros.
pub record Linked (s : RecoveredRaftStorage) (st : List ℕ) : Type 0 where
  pub eight : length s.heads ≡ 8
  pub all : length s.entries ≡ 512
  pub size : length st ≡ 32768
  pub few : s.held ≤ 8
  pub own : (p : ℕ) → p < s.held → Fits (head_at s p) (entries_in s p) (bytes_in st p)
  pub free : (p : ℕ) → s.held ≤ p → p < 8 → bytes_in st p ≡ zeros 4096

-- What a step at replica place p leaves: at p this, the other replicas as they were, and a store that fits.
pub record Step (s : RecoveredRaftStorage) (st : List ℕ) (p : ℕ) (a : Held (Log ℕ)) (s' : RecoveredRaftStorage) (st' : List ℕ) : Type 0 where
  pub means : (meaning s' st').replicas ≡ set (meaning s st).replicas p a
  pub linked : Linked s' st'

-- What an observed record leaves: the definition's answer, a state that means the definition's next one, and a store that fits.
pub record Observes (s : RecoveredRaftStorage) (st : List ℕ) (lsn : ℕ) (c : Content) (a : Answer) (s' : RecoveredRaftStorage) (st' : List ℕ) : Type 0 where
  pub means : routed (meaning s st) lsn c ≡ out a (meaning s' st')
  pub linked : Linked s' st'
