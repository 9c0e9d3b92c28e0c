-- What opening a place asks.
-- Assumes nothing.
use Rattle.std.specs.Prelude.{List, ℕ, ◌<◌, ◌≤◌}
use Rattle.storage.specs.declared.RecoveredRaftStorage.{RecoveredRaftStorage}
use Rattle.storage.specs.Meaning.{Linked}

-- A place may be opened at p.
pub record Opens (s : RecoveredRaftStorage) (st : List ℕ) (p : ℕ) : Type 0 where
  pub linked : Linked s st
  pub within : p ≤ s.held
  pub room : s.held < 8
