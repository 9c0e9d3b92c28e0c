-- Refusal 29, retired (document 02, Q-2): document 01's tables with it, and that it never occurs. Quoted words are the customer's.
-- Assumes nothing.
use Rattle.std.specs.Prelude.{ℕ, ◌≡◌, true, ◌&&◌, not, List, [], ◌∷◌, Option, None, Some, Result, Ok, Err}
use Rattle.definition.specs.Table.{◌=?◌, Row, ◌when◌, first_of, or_zero, u64_max}
use Rattle.definition.specs.Records.{Identity, LogEntry, Kind, entry, hard_state, pointer, zero_configuration_replica_id, zero_configuration_version, zero_log_index, zero_term, command_unfit}
use Rattle.definition.specs.Log.{Log, PointerRecord, is_held, last, conflicting_payload, committed_prefix_overwrite, missing_log_prefix, non_contiguous_append, log_term_regression, log_full, entry_at_or_below_truncation, entry_at_or_below_snapshot, rows}
use Rattle.definition.specs.Recovery.{State, Recovery, replica_of, sound_state, ask}
use Rattle.definition.specs.Batch.{Batch, BatchEntry, Preview, preview_lsn_exhausted, preview_entry, preview_pointer, previewed, batch_rows, batch_pointer_rows, hardened, prepare, fits_batch}
use Rattle.definition.specs.Two.{fits_kind}

module _ {T : Type 0} where
  -- 29. Index not held and the last index is 2^64 - 1.
  abbrev pub log_index_exhausted : LogEntry → Log T → Row
  log_index_exhausted e log = 29 when not (is_held log e.index) && last log =? u64_max

  -- Document 01's 26 to 32, 29 among them.
  unfoldable pub replay_rows_of_01 : LogEntry → Log T → List Row
  replay_rows_of_01 e log =
      conflicting_payload e log
      ∷ committed_prefix_overwrite e log
      ∷ missing_log_prefix e log
      ∷ log_index_exhausted e log
      ∷ non_contiguous_append e log
      ∷ log_term_regression e log
      ∷ log_full e log
      ∷ []

  -- Document 01's table of an observation.
  unfoldable pub rows_of_01 : Identity → Kind → Log T → List Row
  rows_of_01 i (entry version e) log = entry_at_or_below_truncation e log ∷ replay_rows_of_01 e log
  rows_of_01 i (hard_state version h) log = rows i (hard_state version h) log
  rows_of_01 i (pointer p) log = rows i (pointer p) log

-- Document 01's preparation of a batch, 29 among 25 to 32; all else is `prepare`'s.
module _ (i : Identity) (b : Batch) (was : Log ℕ) where
  unfoldable pub batch_entry_rows_of_01 : LogEntry → Preview → List Row
  batch_entry_rows_of_01 e v =
      preview_lsn_exhausted v
      ∷ zero_configuration_replica_id e
      ∷ zero_log_index e
      ∷ zero_term e
      ∷ zero_configuration_version e
      ∷ command_unfit e
      ∷ entry_at_or_below_snapshot e v.log
      ∷ replay_rows_of_01 e v.log

  unfoldable pub extended_of_01 : List BatchEntry → Preview → Result Preview ℕ
  extended_of_01 [] v = hardened i b was b.hard_state v
  extended_of_01 (e ∷ es) v = previewed (batch_entry_rows_of_01 e.log_entry v) (preview_entry i e.log_entry v) (extended_of_01 es)

  unfoldable pub pointed_of_01 : Option PointerRecord → Preview → Result Preview ℕ
  pointed_of_01 None v = extended_of_01 b.entries v
  pointed_of_01 (Some p) v = previewed (batch_pointer_rows i b was p v) (preview_pointer p v) (extended_of_01 b.entries)

  unfoldable pub prepare_on_of_01 : Result Preview ℕ
  prepare_on_of_01 =
      let v : Preview = record { log = was; lsn = or_zero (λ t. t) was.last_replayed_lsn; records = [] } in
      previewed (batch_rows i b was) v (pointed_of_01 b.snapshot)

unfoldable pub prepare_of_01 : Recovery → Identity → Batch → Result Preview ℕ
prepare_of_01 w i b = elim (ask (replica_of i) w) [ Ok was ↦ prepare_on_of_01 i b was | Err n ↦ Err n ]

-- "29 never occurs on a sound state": every replica of it, held or not, answers a machine's record by document 01's table as by the
-- table without 29, and so it does every machine's batch; and by neither is 29 the answer.
pub record Retires29 : Type 0 where
  pub observing :
      (s : State) → sound_state s ≡ true → (i : Identity) (k : Kind) → fits_kind k ≡ true
      → first_of (rows_of_01 i k (replica_of i s)) ≡ first_of (rows i k (replica_of i s))
  pub never_observing :
      (s : State) → sound_state s ≡ true → (i : Identity) (k : Kind) → fits_kind k ≡ true
      → first_of (rows_of_01 i k (replica_of i s)) ≡ Some 29 → ⊥
  pub preparing : (w : Recovery) (i : Identity) (b : Batch) → fits_batch b ≡ true → prepare_of_01 w i b ≡ prepare w i b
  pub never_preparing : (w : Recovery) (i : Identity) (b : Batch) → fits_batch b ≡ true → prepare_of_01 w i b ≡ Err 29 → ⊥
