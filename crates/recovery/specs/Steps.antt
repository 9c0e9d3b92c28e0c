-- The parts of observing one record.
-- Assumes nothing.
use Rattle.std.specs.Prelude.{◌≡◌, cond, List, ℕ, ◌<◌, leb, None, Result, Ok, Err}
use Rattle.definition.specs.Table.{first_of, unless}
use Rattle.definition.specs.Records.{form_rows}
use Rattle.ids.specs.declared.Lsn.{Lsn}
use Rattle.codec.specs.declared.RaftWalRecord.{RaftWalRecord}
use Rattle.codec.specs.Records.{kind_of, owner_of}
use Rattle.view.specs.Model.{empty_header}
use Rattle.replay.specs.Plan.{identity_in, index_of, look_of, empty_refuses}
use Rattle.storage.specs.declared.RecoveredRaftStorage.{RecoveredRaftStorage}
use Rattle.storage.specs.Meaning.{Linked}
use Rattle.storage.specs.Model.{head_at, changed_store, opened, opened_store}
use Rattle.routing.specs.Observe.{Stepped, written, plan_at}

-- The place of a record's replica, or what refuses the record, and the state and store then.
pub record Placed : Type 0 where
  pub place : Result ℕ ℕ
  pub state : RecoveredRaftStorage
  pub store : List ℕ

-- A replica that is not held is refused where 8 are (23), and else its place is opened, whether an empty replica takes the record or not.
abbrev pub placed_by : Result ℕ ℕ → RecoveredRaftStorage → List ℕ → RaftWalRecord → Placed
placed_by (Ok p) s st k = record { place = Ok p; state = s; store = st }
placed_by (Err p) s st k =
    cond (leb 8 s.held) (record { place = Err 23; state = s; store = st })
    (record { place = unless (empty_refuses k) p; state = opened s p (empty_header (identity_in k)); store = opened_store st p s.held })

-- A record of good form may be settled at replica place p.
pub record Settling (s : RecoveredRaftStorage) (st : List ℕ) (p : ℕ) (k : RaftWalRecord) (lent : List ℕ) : Type 0 where
  pub linked : Linked s st
  pub below : p < s.held
  pub form : first_of (form_rows (owner_of k) (kind_of k lent)) ≡ None

-- What it does there, when it has been counted.
abbrev pub settled : RecoveredRaftStorage → List ℕ → ℕ → RaftWalRecord → Lsn → List ℕ → Stepped
settled s st p k l lent =
    let d = plan_at s st p k l lent in
    record { answer = d.answer; state = written s p (look_of (head_at s p) (index_of k)) d s.scan; store = changed_store st p d.bytes }
