-- The model of the decisions, on a header and small values, row by row in document 01's order; and what their answers mean.
-- Assumes nothing.
use Rattle.std.specs.Prelude.{Bool, ◌&&◌, not, List, [], ◌∷◌, ◌++◌, ℕ, ◌+◌, ◌-◌, ◌≡◌, if◌then◌else◌, Option, None, Some, Result, Ok, Err, option_map}
use Rattle.definition.specs.Table.{◌=?◌, ◌≠?◌, ◌<?◌, ◌≤?◌, Row, ◌when◌, first_of, if_some}
use Rattle.definition.specs.Records.{Identity, LogEntry, same_payload}
use Rattle.definition.specs.Log as D
use Rattle.ids.specs.declared.Refusal.{Refusal}
use Rattle.ids.specs.Refusal.{number_of}
use Rattle.codec.specs.declared.HardState.{HardState}
use Rattle.codec.specs.declared.RaftSnapshotPointerRecord.{RaftSnapshotPointerRecord}
use Rattle.codec.specs.Records.{hard_state_of, maybe_hard_state_of, pointer_of}
use Rattle.view.specs.declared.Existing.{Existing}
use Rattle.view.specs.declared.RaftLogReplayOutcome.{RaftLogReplayOutcome}
use Rattle.view.specs.declared.RaftLogReplayOutcome.TheVariants as A
use Rattle.view.specs.declared.Header.{Header}
use Rattle.view.specs.Meaning.{snapshot_of, base_of}
use Rattle.view.specs.Readers.{last_of}

-- What an outcome means.
abbrev pub outcome_of : Result RaftLogReplayOutcome Refusal → D.Answer
outcome_of (Ok A.Appended) = D.appended
outcome_of (Ok A.IdempotentReplay) = D.idempotentReplay
outcome_of (Ok (A.ReplacedSuffix r)) = D.replaced_suffix (record { removed_entries = r.removed_entries })
outcome_of (Err why) = D.refused (number_of why)

-- An answer, unless a row refuses.
abbrev pub answered : Option ℕ → D.Answer → D.Answer
answered (Some n) a = D.refused n
answered None a = a

-- What is told of the entry held at a record's index is so. Whether the payload is the same counts only in the same term.
abbrev pub Tells : Option Existing → Option (D.Entry ℕ) → LogEntry → Type 0
Tells None None e = Unit {0}
Tells None (Some o) e = ⊥
Tells (Some x) None e = ⊥
Tells (Some x) (Some o) e = (o.term ≡ x.term) × (x.term ≡ e.term → same_payload o.payload e.payload ≡ x.same_payload)

-- An entry of an index and a term, where `old` is held at the index and `prior` is the predecessor's term.
-- At an index that is not held (28, 30 to 32).
abbrev pub new_rows : Header → ℕ → ℕ → ℕ → List Row
new_rows h prior index term =
    (28 when h.len =? 0 && h.snapshot_index =? 0 && index ≠? 1)
    ∷ (30 when index ≠? last_of h + 1)
    ∷ (31 when term <? prior)
    ∷ (32 when 64 ≤? h.len)
    ∷ []

-- At an index that is held, with the term `old` (26, 27, 31).
abbrev pub held_rows : Header → ℕ → Bool → ℕ → ℕ → ℕ → List Row
held_rows h old same prior index term =
    (26 when old =? term && not same)
    ∷ (27 when not (old =? term) && index ≤? h.committed_index)
    ∷ (31 when not (old =? term) && term <? prior)
    ∷ []

abbrev pub replay_rows_of : Header → Option Existing → ℕ → ℕ → ℕ → List Row
replay_rows_of h None prior index term = new_rows h prior index term
replay_rows_of h (Some x) prior index term = held_rows h x.term x.same_payload prior index term

-- How many entries stand at an index and after it.
abbrev pub held_from : Header → ℕ → ℕ
held_from h index = h.len - (index - base_of h)

-- What an accepted entry is answered.
abbrev pub accepted_held : Header → ℕ → ℕ → ℕ → D.Answer
accepted_held h old index term = if old =? term then D.idempotentReplay else D.replaced_suffix (record { removed_entries = held_from h index })

abbrev pub accepted_as : Header → Option Existing → ℕ → ℕ → D.Answer
accepted_as h None index term = D.appended
accepted_as h (Some x) index term = accepted_held h x.term index term

abbrev pub replayed : Header → Option Existing → ℕ → ℕ → ℕ → D.Answer
replayed h old prior index term = answered (first_of (replay_rows_of h old prior index term)) (accepted_as h old index term)

-- observe_record's: 24, then the replay.
abbrev pub entry_answer : Header → Option Existing → ℕ → ℕ → ℕ → D.Answer
entry_answer h old prior index term =
    answered (first_of ((24 when index ≤? h.progress.truncated_through_index) ∷ replay_rows_of h old prior index term)) (accepted_as h old index term)

-- A batch's: 25, then the replay.
abbrev pub replay_answer : Header → Option Existing → ℕ → ℕ → ℕ → D.Answer
replay_answer h old prior index term =
    answered (first_of ((25 when index ≤? h.snapshot_index) ∷ replay_rows_of h old prior index term)) (accepted_as h old index term)

-- A hard state (33 to 38).
abbrev pub hard_state_rows_of : Header → HardState → List Row
hard_state_rows_of h x =
    D.hard_state_successor_rows (hard_state_of x) (maybe_hard_state_of h.hard_state)
    ++ (37 when last_of h <? x.commit) ∷ (38 when x.commit <? h.committed_index) ∷ []

abbrev pub successor_rows_of : Identity → Option RaftSnapshotPointerRecord → RaftSnapshotPointerRecord → List Row
successor_rows_of i kept p =
    D.snapshot_successor_rows (record { identity = i; snapshot = pointer_of p }) (option_map (λ q. record { identity = i; snapshot = q }) (snapshot_of kept))

-- A pointer beside the log, where `held` is the term of the entry held at its index (41, 42).
abbrev pub install_rows_of : Header → RaftSnapshotPointerRecord → Option ℕ → List Row
install_rows_of h p held =
    (41 when h.snapshot_index <? p.last_included_index && p.last_included_term <? h.snapshot_term)
    ∷ (42 when if_some (λ t. t ≠? p.last_included_term) held)
    ∷ []

abbrev pub pointer_rows_of : Identity → Header → RaftSnapshotPointerRecord → Option ℕ → List Row
pointer_rows_of i h p held = successor_rows_of i h.snapshot p ++ install_rows_of h p held
