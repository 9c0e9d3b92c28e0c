-- The model of observing: one record, and a chunk of them. What is not said stays.
-- Assumes nothing.
use Rattle.std.specs.Prelude.{cond, List, [], ◌∷◌, map, ℕ, suc, ◌+◌, ◌-◌, ◌*◌, ltb, leb, get_or, set, Option, None, Some, Result, Ok, Err}
use Rattle.definition.specs.Table.{◌≤?◌, Row, ◌when◌, first_of, if_some, u64_max}
use Rattle.definition.specs.Records.{Record, form_rows}
use Rattle.definition.specs.Log as D
use Rattle.definition.specs.Recovery.{observe, refusal_of, Recovery}
use Rattle.ids.specs.declared.Lsn.{Lsn}
use Rattle.store.specs.Splice.{part, splice}
use Rattle.codec.specs.declared.RaftWalRecord.{RaftWalRecord}
use Rattle.codec.specs.declared.WalRecord.{WalRecord}
use Rattle.codec.specs.Records.{kind_of, owner_of, record_of}
use Rattle.view.specs.Meaning.{lsn_of, no_entry}
use Rattle.view.specs.declared.RecoveredRaftLogEntry.{RecoveredRaftLogEntry}
use Rattle.view.specs.Model.{empty_header}
use Rattle.replay.specs.Plan.{identity_in, index_of, look_of, Plan, plan_of}
use Rattle.storage.specs.declared.Scan.{Scan}
use Rattle.storage.specs.declared.RecoveredRaftStorage.{RecoveredRaftStorage}
use Rattle.storage.specs.Model.{head_at, bytes_in, scan_next, scanned_only, with_head, changed_store, opened, opened_store}
use Rattle.soundness.specs.Sound.{sound_test}
use Rattle.storage.specs.Finding.{found_at}

-- An answer, and the state and store then.
pub record Stepped : Type 0 where
  pub answer : D.Answer
  pub state : RecoveredRaftStorage
  pub store : List ℕ

-- 1, where the count of scanned records is at its end, and 2.
abbrev pub scan_rows : Scan → Lsn → List Row
scan_rows n l = (1 when u64_max ≤? n.scanned_records) ∷ (2 when if_some (λ x. l.0 ≤? x) (lsn_of n.last_scanned_lsn)) ∷ []

-- The record is scanned, and no replica changes.
abbrev pub only_scanned : D.Answer → RecoveredRaftStorage → List ℕ → Lsn → Stepped
only_scanned a s st l = record { answer = a; state = scanned_only s (scan_next s.scan l); store = st }

-- A plan is written at replica place p and entry place q; the entries from the front go.
abbrev pub moved_entries : List RecoveredRaftLogEntry → ℕ → ℕ → ℕ → List RecoveredRaftLogEntry
moved_entries es at k n = cond (ltb 0 k) (splice es at (part (at + k) n es)) es

abbrev pub written : RecoveredRaftStorage → ℕ → ℕ → Plan → Scan → RecoveredRaftStorage
written s p q d n = with_head s p d.head (moved_entries (set s.entries (64 * p + q) d.entry) (64 * p) d.dropped d.head.len) n

-- What a record does at replica place p: it looks at two entries there.
abbrev pub plan_at : RecoveredRaftStorage → List ℕ → ℕ → RaftWalRecord → Lsn → List ℕ → Plan
plan_at s st p k l lent =
    plan_of (head_at s p) (get_or s.entries (64 * p + look_of (head_at s p) (index_of k)) no_entry)
    (get_or s.entries (64 * p + look_of (head_at s p) (index_of k - 1)) no_entry) k l (bytes_in st p) lent

unfoldable pub settled_at : RecoveredRaftStorage → List ℕ → ℕ → RaftWalRecord → Lsn → List ℕ → Stepped
settled_at s st p k l lent =
    let d = plan_at s st p k l lent in
    record { answer = d.answer; state = written s p (look_of (head_at s p) (index_of k)) d (scan_next s.scan l); store = changed_store st p d.bytes }

-- At the place of its replica; a replica that is not held is refused where 8 are (23), and else its place is opened first.
abbrev pub found_step : Result ℕ ℕ → RecoveredRaftStorage → List ℕ → RaftWalRecord → Lsn → List ℕ → Stepped
found_step (Ok p) s st k l lent = settled_at s st p k l lent
found_step (Err p) s st k l lent =
    cond (leb 8 s.held) (only_scanned (D.refused 23) s st l)
    (settled_at (opened s p (empty_header (identity_in k))) (opened_store st p s.held) p k l lent)

-- 3 to 22.
abbrev pub form_step : Option ℕ → RecoveredRaftStorage → List ℕ → RaftWalRecord → Lsn → List ℕ → Stepped
form_step (Some n) s st k l lent = only_scanned (D.refused n) s st l
form_step None s st k l lent = found_step (found_at s (owner_of k)) s st k l lent

abbrev pub body_step : Option RaftWalRecord → RecoveredRaftStorage → List ℕ → Lsn → List ℕ → Stepped
body_step None s st l lent = only_scanned D.counted s st l
body_step (Some k) s st l lent = form_step (first_of (form_rows (owner_of k) (kind_of k lent))) s st k l lent

-- 1 and 2 change nothing.
abbrev pub scan_step : Option ℕ → RecoveredRaftStorage → List ℕ → WalRecord → List ℕ → Stepped
scan_step (Some n) s st r lent = record { answer = D.refused n; state = s; store = st }
scan_step None s st r lent = body_step r.body s st r.lsn lent

-- One record, on a state that was sound but for its count.
unfoldable pub stepped : RecoveredRaftStorage → List ℕ → WalRecord → List ℕ → Stepped
stepped s st r lent = scan_step (first_of (scan_rows s.scan r.lsn)) s st r lent

-- From a state that is sound; another is refused by 1, and nothing changes.
abbrev pub observed_of : RecoveredRaftStorage → List ℕ → WalRecord → List ℕ → Stepped
observed_of s st r lent = cond (sound_test s st) (stepped s st r lent) (record { answer = D.refused 1; state = s; store = st })

-- Records until the first refusal: how many were taken, the last one's answer, and the state and store then.
pub record Ran : Type 0 where
  pub taken : ℕ
  pub answer : D.Answer
  pub state : RecoveredRaftStorage
  pub store : List ℕ

abbrev pub ran_by : Option ℕ → Stepped → Ran → Ran
ran_by (Some n) x rest = record { taken = 0; answer = x.answer; state = x.state; store = x.store }
ran_by None x rest = record { taken = suc rest.taken; answer = rest.answer; state = rest.state; store = rest.store }

unfoldable pub ran_from : D.Answer → RecoveredRaftStorage → List ℕ → List WalRecord → List ℕ → Ran
ran_from a s st [] lent = record { taken = 0; answer = a; state = s; store = st }
ran_from a s st (r ∷ rs) lent =
    ran_by (refusal_of (stepped s st r lent).answer) (stepped s st r lent)
    (ran_from (stepped s st r lent).answer (stepped s st r lent).state (stepped s st r lent).store rs lent)

-- From a state that is sound; another is refused by 1, and nothing changes.
abbrev pub run_of : RecoveredRaftStorage → List ℕ → List WalRecord → List ℕ → Ran
run_of s st rs lent = cond (sound_test s st) (ran_from D.counted s st rs lent) (record { taken = 0; answer = D.refused 1; state = s; store = st })

-- The definition's answer to the last record that a chunk observes; `a` where there is none.
abbrev pub last_by : Option ℕ → D.Answer → D.Answer → D.Answer
last_by (Some n) own rest = own
last_by None own rest = rest

unfoldable pub last_answer : D.Answer → Recovery → List Record → D.Answer
last_answer a w [] = a
last_answer a w (r ∷ rs) =
    last_by (refusal_of (observe w r).answer) (observe w r).answer (last_answer (observe w r).answer (observe w r).next rs)

-- What the records mean, with the bytes lent beside them.
abbrev pub journal_of : List WalRecord → List ℕ → List Record
journal_of rs lent = map (λ r. record_of r lent) rs
