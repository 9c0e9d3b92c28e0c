-- What a record is before its replica is looked for.
-- Assumes nothing.
use Rattle.std.specs.Prelude.{◌≡◌, List, ℕ, Option, None, Some}
use Rattle.definition.specs.Table.{first_of}
use Rattle.definition.specs.Records.{form_rows}
use Rattle.ids.specs.Refusal.{number_of}
use Rattle.codec.specs.declared.RaftWalRecord.{RaftWalRecord}
use Rattle.codec.specs.declared.WalRecord.{WalRecord}
use Rattle.codec.specs.Records.{kind_of, owner_of}
use Rattle.replay.specs.Plan.{index_of}
use Rattle.storage.specs.declared.Scan.{Scan}
use Rattle.storage.specs.Model.{scan_next}
use Rattle.routing.specs.declared.Admission.{Admission}
use Rattle.routing.specs.declared.Admission.TheVariants as A
use Rattle.routing.specs.Observe.{scan_rows}

-- A replica's record that is refused for its form.
pub record Malformed (body : Option RaftWalRecord) (lent : List ℕ) (n : ℕ) : Type 0 where
  pub kind : RaftWalRecord
  pub is : body ≡ Some kind
  pub row : first_of (form_rows (owner_of kind) (kind_of kind lent)) ≡ Some n

-- What a record is before its replica is looked for: refused by 1 or 2; of no Raft kind; refused for its form; its replica's.
abbrev pub Admitted : Admission → Scan → WalRecord → List ℕ → Type 0
Admitted (A.Refused why) n r lent = first_of (scan_rows n r.lsn) ≡ Some (number_of why)
Admitted (A.Counted next) n r lent = (first_of (scan_rows n r.lsn) ≡ None) × (next ≡ scan_next n r.lsn) × (r.body ≡ None)
Admitted (A.Malformed next why) n r lent =
    (first_of (scan_rows n r.lsn) ≡ None) × (next ≡ scan_next n r.lsn) × Malformed r.body lent (number_of why)
Admitted (A.Raft next k) n r lent =
    (first_of (scan_rows n r.lsn) ≡ None) × (next ≡ scan_next n r.lsn) × (r.body ≡ Some k)
    × (first_of (form_rows (owner_of k) (kind_of k lent)) ≡ None)

-- The index that a record looks at.
abbrev pub index_in : Option RaftWalRecord → ℕ
index_in None = 0
index_in (Some k) = index_of k
