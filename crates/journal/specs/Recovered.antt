-- What reading a journal leaves, whatever the reads bring.
-- Assumes nothing.
use Rattle.std.specs.Prelude.{ℕ, ◌+◌, ◌%◌, ◌^◌, ◌≡◌, true, List, length}
use Rattle.definition.specs.Table.{every}
use Rattle.definition.specs.Records.{Record}
use Rattle.definition.specs.Recovery.{fresh, answers, observed, is_accepted}
use Rattle.definition.specs.Two.{fits}
use Rattle.storage.specs.declared.RecoveredRaftStorage.{RecoveredRaftStorage}
use Rattle.storage.specs.Meaning.{recovery_of}
use Rattle.soundness.specs.Sound.{sound_test}

-- State and store are sound, and what the definition leaves of n records of a machine, observed from empty and all accepted.
pub record Follows (n : ℕ) (s : RecoveredRaftStorage) (st : List ℕ) : Type 0 where
  pub records : List Record
  pub count : length records ≡ n
  pub machine : every fits records ≡ true
  pub accepted : every is_accepted (answers fresh records) ≡ true
  pub left : recovery_of s st ≡ observed fresh records
  pub sound : sound_test s st ≡ true

-- The number of the line behind so many headers, commands and records, as far as 64 bits go.
abbrev pub line_number : ℕ → ℕ → ℕ → ℕ
line_number headers commands records = (headers + commands + records + 1) % 2 ^ 64
