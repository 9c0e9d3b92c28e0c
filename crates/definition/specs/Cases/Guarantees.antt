-- What any healthy journal guarantees, and document 01's table with 29 (document 02, Q-2), on examples.
-- Assumes nothing.
use Rattle.std.specs.Prelude.{ℕ, ◌+◌, Bool, ◌&&◌, not, List, [], ◌∷◌, ◌++◌, map, T, Option, None, Some}
use Rattle.definition.specs.Table.{◌=?◌, ◌<?◌, ◌≤?◌, first_of, every, u64_max}
use Rattle.definition.specs.Records.{Record, entry, form_rows}
use Rattle.definition.specs.Log.{Log, counted, appended, idempotentReplay, hard_state_kept, pointer_kept, refused, replaced_suffix, PointerRecord, empty, base, count, snapshot_boundary, last_index, last, place, at, is_held, predecessor_term, same_term, same_content, hard_state_successor_rows, snapshot_successor_rows, replay_rows, install_rows, rows, answer_to, placed, with_entry, with_hard_state, beyond, raised_by, with_pointer, accept}
use Rattle.definition.specs.Recovery.{fresh_state, lookup, put, keep, ascending, judged, settled, admitted, visit, log_clauses, kept_lsns, held_clauses, state_clauses, sound_state, scan, route_by, routed, guarded, observe_state, state_after, replica_of, is_accepted}
use Rattle.definition.specs.Batch.{Batch, fits_batch}
use Rattle.definition.specs.Healthy.{low_pointer, never_fall}
use Rattle.definition.specs.Retired.{replay_rows_of_01, rows_of_01}
use Rattle.definition.specs.Cases.Samples.{one, byte, log_entry, snapshot_at, E, H, P, F, k_e, same_option, same_number}

-- Terms along entries, behind a boundary's term.
falls_not : ℕ → List ℕ → Bool
falls_not term terms = never_fall term (map (λ t. k_e t 1) terms)

terms : List Bool
terms =
    falls_not 0 []
    ∷ falls_not 3 (3 ∷ 3 ∷ 4 ∷ [])
    ∷ not (falls_not 3 (2 ∷ []))
    ∷ not (falls_not 0 (1 ∷ 3 ∷ 2 ∷ []))
    ∷ []

left : List Record → Log ℕ
left rs = replica_of one (state_after fresh_state rs)

-- The guarantee of a log, asked at some indices, the held ones among them.
holds : Log ℕ → List ℕ → List ℕ → Bool
holds log held others =
    every (λ n. is_held log n && log.snapshot_index <? n && n ≤? last log) held
    && every (λ n. not (is_held log n) && not (log.snapshot_index <? n && n ≤? last log)) others
    && last log =? log.snapshot_index + count log
    && never_fall log.snapshot_term log.entries
    && log.committed_index ≤? last log

replaced_and_cut : List Record
replaced_and_cut = E 1 1 1 ∷ E 2 2 1 ∷ E 3 3 1 ∷ H 4 1 None 1 ∷ E 5 2 3 ∷ E 6 3 3 ∷ P 7 2 3 ∷ E 8 4 3 ∷ []

guaranteed : List Bool
guaranteed =
    holds (left []) [] (0 ∷ 1 ∷ 2 ∷ [])
    ∷ holds (left replaced_and_cut) (3 ∷ 4 ∷ []) (0 ∷ 1 ∷ 2 ∷ 5 ∷ 6 ∷ [])
    -- with records refused among them: 28, 31, 2, 37
    ∷ holds (left (E 1 2 1 ∷ E 2 1 2 ∷ E 3 2 1 ∷ E 3 2 2 ∷ H 4 2 None 2 ∷ E 5 2 3 ∷ F 6 ∷ [])) (1 ∷ 2 ∷ []) (0 ∷ 3 ∷ [])
    -- a pointer beyond the log, and one at the last index below the end
    ∷ holds (left (replaced_and_cut ++ P 9 9 3 ∷ [])) [] (4 ∷ 8 ∷ 9 ∷ 10 ∷ [])
    ∷ holds (left (P 1 18446744073709551614 1 ∷ E 2 u64_max 1 ∷ [])) (u64_max ∷ []) (18446744073709551614 ∷ 0 ∷ [])
    -- case k, which is left out: behind a pointer at 2^64 - 1 the boundary's own index stays held
    ∷ is_held (left at_the_end) u64_max
    ∷ ((left at_the_end).snapshot_index =? u64_max)
    ∷ not (every low_pointer at_the_end)
    ∷ every low_pointer replaced_and_cut
    ∷ low_pointer (P 1 18446744073709551614 1)
    ∷ low_pointer (F 1)
    ∷ []
  where
    at_the_end : List Record
    at_the_end = P 1 18446744073709551614 1 ∷ E 2 u64_max 1 ∷ P 3 u64_max 1 ∷ []

-- The answers to accepted records, and another.
answered : List Bool
answered =
    every is_accepted (counted ∷ appended ∷ idempotentReplay ∷ replaced_suffix (record { removed_entries = 1 }) ∷ hard_state_kept ∷ pointer_kept 2 ∷ [])
    ∷ not (is_accepted (refused 2))
    ∷ []

-- What an entry is refused by, in document 01's table and in the one without 29.
by_01 : Log ℕ → ℕ → ℕ → Option ℕ → Bool
by_01 log index term n = same_option same_number (first_of (rows_of_01 one (entry 1 (log_entry index term (byte 65))) log)) n

now : Log ℕ → ℕ → ℕ → Option ℕ → Bool
now log index term n = same_option same_number (first_of (rows one (entry 1 (log_entry index term (byte 65))) log)) n

batch : Option ℕ → List ℕ → Batch
batch p es =
    record {
      snapshot = pointed p;
      entries = map (λ n. record { log_entry = log_entry n 1 (byte 65); from = 0 }) es;
      hard_state = None;
    }
  where
    pointed : Option ℕ → Option PointerRecord
    pointed None = None
    pointed (Some n) = Some (record { identity = one; snapshot = snapshot_at n 1 })

retired : List Bool
retired =
    -- no machine's number comes past 2^64 - 1: there alone the tables part
    by_01 (left (P 1 u64_max 2 ∷ [])) (u64_max + 1) 2 (Some 29)
    ∷ now (left (P 1 u64_max 2 ∷ [])) (u64_max + 1) 2 None
    ∷ by_01 (left (P 1 u64_max 2 ∷ [])) (u64_max + 2) 1 (Some 29)
    ∷ now (left (P 1 u64_max 2 ∷ [])) (u64_max + 2) 1 (Some 30)
    -- 28 before 29 and 30
    ∷ by_01 empty 2 1 (Some 28)
    ∷ now empty 2 1 (Some 28)
    ∷ by_01 (left (E 1 1 1 ∷ [])) 3 1 (Some 30)
    ∷ now (left (E 1 1 1 ∷ [])) 3 1 (Some 30)
    -- at the end of the indices: the last is held, and repeated
    ∷ by_01 (left (P 1 18446744073709551614 1 ∷ E 2 u64_max 1 ∷ [])) u64_max 1 None
    ∷ now (left (P 1 18446744073709551614 1 ∷ E 2 u64_max 1 ∷ [])) u64_max 1 None
    -- machines' batches
    ∷ fits_batch (batch None [])
    ∷ fits_batch (batch None (1 ∷ u64_max ∷ []))
    ∷ fits_batch (batch (Some u64_max) (1 ∷ []))
    ∷ not (fits_batch (batch None (1 ∷ (u64_max + 1) ∷ [])))
    ∷ not (fits_batch (batch (Some (u64_max + 1)) []))
    ∷ []

each_guarantee : T (every (λ b. b) (terms ++ guaranteed ++ answered ++ retired))
unfolding falls_not terms left holds replaced_and_cut guaranteed answered by_01 now batch retired never_fall replay_rows_of_01 rows_of_01 form_rows empty base count snapshot_boundary last_index last place at is_held predecessor_term same_term same_content hard_state_successor_rows snapshot_successor_rows replay_rows install_rows rows answer_to placed with_entry with_hard_state beyond raised_by with_pointer accept fresh_state lookup put keep ascending judged settled admitted visit log_clauses kept_lsns held_clauses state_clauses sound_state scan route_by routed guarded observe_state state_after replica_of
each_guarantee = tt
