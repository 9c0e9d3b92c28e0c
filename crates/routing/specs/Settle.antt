-- What a record is answered at the place where its replica stands, and what it leaves.
-- Assumes nothing.
use Rattle.std.specs.Prelude.{◌≡◌, ◌⊎◌, List, ℕ, None, Some}
use Rattle.definition.specs.Table.{first_of}
use Rattle.definition.specs.Records.{Identity, Kind}
use Rattle.definition.specs.Log as D
use Rattle.definition.specs.Recovery.{held}
use Rattle.ids.specs.declared.Lsn.{Lsn}
use Rattle.view.specs.Meaning.{id_of}
use Rattle.storage.specs.declared.RecoveredRaftStorage.{RecoveredRaftStorage}
use Rattle.storage.specs.Model.{head_at, scan_next, scanned_only}
use Rattle.storage.specs.Meaning.{log_at, Step}

-- A record of kind b, at LSN l, of the replica i that stands at p: a row refuses it, and it is scanned only ..
pub record Refuses (s : RecoveredRaftStorage) (st : List ℕ) (p : ℕ) (i : Identity) (b : Kind) (l : Lsn) (a : D.Answer) (s' : RecoveredRaftStorage) (st' : List ℕ) : Type 0 where
  pub number : ℕ
  pub row : first_of (D.rows i b (log_at s st p)) ≡ Some number
  pub answer : a ≡ D.refused number
  pub state : s' ≡ scanned_only s (scan_next s.scan l)
  pub store : st' ≡ st

-- .. or none does, and it is kept there.
pub record Accepts (s : RecoveredRaftStorage) (st : List ℕ) (p : ℕ) (i : Identity) (b : Kind) (l : Lsn) (a : D.Answer) (s' : RecoveredRaftStorage) (st' : List ℕ) : Type 0 where
  pub row : first_of (D.rows i b (log_at s st p)) ≡ None
  pub answer : a ≡ D.answer_to b (log_at s st p)
  pub step : Step s st p (held (id_of (head_at s p)) (D.accept b l.0 (log_at s st p))) s' st'
  pub scan : s'.scan ≡ scan_next s.scan l

abbrev pub Settles : RecoveredRaftStorage → List ℕ → ℕ → Identity → Kind → Lsn → D.Answer → RecoveredRaftStorage → List ℕ → Type 0
Settles s st p i b l a s' st' = Refuses s st p i b l a s' st' ⊎ Accepts s st p i b l a s' st'
