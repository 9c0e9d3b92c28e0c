-- What a record of one replica is answered by the definition, and what its header, entries and bytes mean then.
-- Assumes nothing.
use Rattle.std.specs.Prelude.{◌≡◌, ◌⊎◌, List, ℕ, ◌-◌, length, get_or, None, Some}
use Rattle.definition.specs.Table.{first_of}
use Rattle.definition.specs.Records.{Identity, Kind}
use Rattle.definition.specs.Log as D
use Rattle.view.specs.declared.Header.{Header}
use Rattle.view.specs.declared.RecoveredRaftLogEntry.{RecoveredRaftLogEntry}
use Rattle.view.specs.Meaning.{no_entry, id_of, view_of, Fits, Means}
use Rattle.replay.specs.Plan.{Plan, look_of}

-- e and b are the entries that a record at index x looks at.
pub record Looks (h : Header) (es : List RecoveredRaftLogEntry) (cs : List ℕ) (x : ℕ) (e b : RecoveredRaftLogEntry) : Type 0 where
  pub fits : Fits h es cs
  pub places : length es ≡ 64
  pub bytes : length cs ≡ 4096
  pub own : e ≡ get_or es (look_of h x) no_entry
  pub before : b ≡ get_or es (look_of h (x - 1)) no_entry

-- A row refuses, and nothing changes ..
pub record Refuses (h : Header) (es : List RecoveredRaftLogEntry) (cs : List ℕ) (i : Identity) (k : Kind) (d : Plan) (es' : List RecoveredRaftLogEntry) : Type 0 where
  pub number : ℕ
  pub row : first_of (D.rows i k (view_of h es cs)) ≡ Some number
  pub answer : d.answer ≡ D.refused number
  pub head : d.head ≡ h
  pub entries : es' ≡ es
  pub store : d.bytes ≡ cs

-- .. or none does, and the log is the definition's next.
pub record Accepts (h : Header) (es : List RecoveredRaftLogEntry) (cs : List ℕ) (i : Identity) (k : Kind) (lsn : ℕ) (d : Plan) (es' : List RecoveredRaftLogEntry) : Type 0 where
  pub row : first_of (D.rows i k (view_of h es cs)) ≡ None
  pub answer : d.answer ≡ D.answer_to k (view_of h es cs)
  pub means : Means d.head es' d.bytes (D.accept k lsn (view_of h es cs))
  pub same : id_of d.head ≡ id_of h

abbrev pub Settled : Header → List RecoveredRaftLogEntry → List ℕ → Identity → Kind → ℕ → Plan → List RecoveredRaftLogEntry → Type 0
Settled h es cs i k lsn d es' = Refuses h es cs i k d es' ⊎ Accepts h es cs i k lsn d es'
