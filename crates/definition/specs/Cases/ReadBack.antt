-- A batch's records, read back after a cut (document 02, Q-14), on examples.
-- Assumes nothing.
use Rattle.std.specs.Prelude.{ℕ, ◌+◌, Bool, true, false, ◌&&◌, not, List, [], ◌∷◌, ◌++◌, length, take, T, Option, None, Some, Result, Ok, Err}
use Rattle.definition.specs.Table.{◌=?◌, every}
use Rattle.definition.specs.Records.{same_payload, same_pointer, HardState, Record, form_rows}
use Rattle.definition.specs.Log.{Log, Answer, appended, hard_state_kept, pointer_kept, refused, PointerRecord, empty, base, count, snapshot_boundary, last_index, last, place, at, is_held, predecessor_term, same_term, same_content, hard_state_successor_rows, snapshot_successor_rows, replay_rows, install_rows, rows, answer_to, placed, with_entry, with_hard_state, beyond, raised_by, with_pointer, accept, largest_term, maximum_observed_term, normalized_to, normalized_hard_state, with_hard, normalize_hard_state_term}
use Rattle.definition.specs.Recovery.{all_accepted, held, State, fresh_state, lookup, put, keep, ascending, judged, settled, admitted, visit, log_clauses, kept_lsns, held_clauses, state_clauses, sound_state, scan, route_by, routed, guarded, observe_state, normalized, normalized_state, state_answers, state_after, replica_of}
use Rattle.definition.specs.Batch.{BatchEntry, Batch, Prepared, Preview, batch_rows, batch_pointer_rows, batch_entry_rows, batch_hard_state_rows, concluded, hardened, extended, pointed, prepare_on}
use Rattle.definition.specs.Two.{map_entry}
use Rattle.definition.specs.ReadBack.{commits_less, bare_entries}
use Rattle.definition.specs.Cases.Samples.{one, id, byte, log_entry, hard_of, snapshot_at, of, E, H, P, up_to, k_e, no_log, plain_log, state_of, only, same_option, same_list, same_hard, replaced, passes, from_state}

batch : Option PointerRecord → List BatchEntry → Option HardState → Batch
batch p es h = record { snapshot = p; entries = es; hard_state = h }

e : ℕ → ℕ → BatchEntry
e index term = record { log_entry = log_entry index term (byte 65); from = 0 }

p : ℕ → ℕ → Option PointerRecord
p index term = Some (record { identity = one; snapshot = snapshot_at index term })

h : ℕ → Option ℕ → ℕ → Option HardState
h term vote commit = Some (hard_of term vote commit)

after : List Record → State
after rs = state_after fresh_state rs

-- The records of an answer under LSNs from n on.
written : ℕ → Prepared → List Record
written n [] = []
written n (x ∷ l) = of x.0 n x.1 ∷ written (n + 1) l

-- Entries, boundary and pointer are the preview's, LSNs apart.
shown : Preview → Log ℕ → Bool
shown v log =
    same_list (λ x y. x.term =? y.term && same_payload x.payload y.payload) (bare_entries v.log) (bare_entries log)
    && v.log.snapshot_index =? log.snapshot_index
    && v.log.snapshot_term =? log.snapshot_term
    && same_option same_pointer v.log.snapshot log.snapshot

-- And the hard state is.
shown_whole : Preview → Log ℕ → Bool
shown_whole v log = shown v log && same_option same_hard v.log.hard_state log.hard_state

-- A batch prepared on one state; the first k of its records observed on another, from LSN 100 on: the answers, and what is left.
read : State → State → Batch → ℕ → List Answer → (Preview → Log ℕ → Bool) → Bool
read prepared_on read_on b k answers left = go (prepare_on one b (replica_of one prepared_on))
  where
    go : Result Preview ℕ → Bool
    go (Ok v) = passes (from_state read_on (written 100 (take k v.records)) answers (λ s. left v (replica_of one s)))
    go (Err n) = false

holds : ℕ → Preview → Log ℕ → Bool
holds n v log = count log =? n

-- Case j: the view's commit is 5, the hard state 2, none, 3.
case_j : State
case_j = after (E 1 1 2 ∷ E 2 2 2 ∷ E 3 3 2 ∷ E 4 4 2 ∷ E 5 5 2 ∷ H 6 1 None 5 ∷ P 7 3 2 ∷ [])

commit_4 : Batch
commit_4 = batch None [] (h 2 None 4)

commit_5 : Batch
commit_5 = batch None [] (h 2 None 5)

commits : List Bool
commits =
    read case_j case_j commit_4 1 (refused 38 ∷ []) (λ v log. true)
    ∷ read case_j case_j commit_5 1 (hard_state_kept ∷ []) shown_whole
    ∷ commits_less commit_4 (replica_of one case_j)
    ∷ not (commits_less commit_5 (replica_of one case_j))
    ∷ not (commits_less (batch None (e 6 2 ∷ []) None) (replica_of one case_j))
    ∷ []

-- Each cut of an answer.
entry_1 : State
entry_1 = after (E 1 1 4 ∷ [])

two : Batch
two = batch None (e 2 4 ∷ []) (h 4 (Some 1) 1)

pointed_batch : Batch
pointed_batch = batch (p 2 1) (e 3 2 ∷ e 4 2 ∷ []) (h 2 None 2)

entries_3 : State
entries_3 = after (E 1 1 1 ∷ E 2 2 1 ∷ E 3 3 1 ∷ H 4 1 (Some 3) 1 ∷ [])

first_entry : Batch
first_entry = batch None (e 1 1 ∷ []) (h 1 None 1)

cuts : List Bool
cuts =
    read entry_1 entry_1 two 0 [] (holds 1)
    ∷ read entry_1 entry_1 two 1 (appended ∷ []) (holds 2)
    ∷ read entry_1 entry_1 two 2 (appended ∷ hard_state_kept ∷ []) shown_whole
    ∷ read entries_3 entries_3 pointed_batch 1 (pointer_kept 2 ∷ []) (holds 1)
    ∷ read entries_3 entries_3 pointed_batch 2 (pointer_kept 2 ∷ replaced 1 ∷ []) (holds 1)
    ∷ read entries_3 entries_3 pointed_batch 3 (pointer_kept 2 ∷ replaced 1 ∷ appended ∷ []) (holds 2)
    ∷ read entries_3 entries_3 pointed_batch 4 (pointer_kept 2 ∷ replaced 1 ∷ appended ∷ hard_state_kept ∷ []) shown_whole
    -- a replica that is not held
    ∷ read (after []) (after []) first_entry 2 (appended ∷ hard_state_kept ∷ []) shown_whole
    ∷ []

-- Prepared on the finished state, read back where it is not finished; the other way round the records may be refused.
finishing : List Bool
finishing =
    read (normalized_state entry_1) entry_1 (batch None (e 2 4 ∷ []) None) 1 (appended ∷ []) (λ v log. shown v log && not (shown_whole v log))
    ∷ read entry_1 (normalized_state entry_1) (batch (p 7 2) [] (h 3 None 7)) 2 (pointer_kept 1 ∷ refused 33 ∷ []) (λ v log. true)
    ∷ []

-- No room: for a ninth replica, and for the last of 34 records.
eight : State
eight = state_of (up_to (λ n. held (id 2 n) (plain_log (k_e 1 1 ∷ []) (Some 1))) 8) 8 (Some 8)

counting : ℕ → State
counting n = only no_log n (Some 9)

longest : Batch
longest = batch (p 1 1) (up_to (λ n. e (n + 1) 1) 32) (h 1 None 1)

takes_all : ℕ → Bool
takes_all n = go (prepare_on one longest no_log)
  where
    go : Result Preview ℕ → Bool
    go (Ok v) = all_accepted (state_answers (counting n) (written 100 v.records)) && length v.records =? 34
    go (Err m) = false

rooms : List Bool
rooms =
    read eight eight first_entry 2 (refused 23 ∷ refused 23 ∷ []) (holds 0)
    ∷ takes_all 18446744073709551581
    ∷ not (takes_all 18446744073709551582)
    ∷ all_accepted (appended ∷ hard_state_kept ∷ [])
    ∷ not (all_accepted (appended ∷ refused 38 ∷ []))
    ∷ []

each_cut : T (every (λ b. b) (commits ++ cuts ++ finishing ++ rooms))
unfolding batch e p h after written shown shown_whole read holds case_j commit_4 commit_5 commits entry_1 two pointed_batch entries_3 first_entry cuts finishing eight counting longest takes_all rooms map_entry form_rows empty base count snapshot_boundary last_index last place at is_held predecessor_term same_term same_content hard_state_successor_rows snapshot_successor_rows replay_rows install_rows rows answer_to placed with_entry with_hard_state beyond raised_by with_pointer accept largest_term maximum_observed_term normalized_to normalized_hard_state with_hard normalize_hard_state_term fresh_state lookup put keep ascending judged settled admitted visit log_clauses kept_lsns held_clauses state_clauses sound_state scan route_by routed guarded observe_state normalized normalized_state state_answers state_after replica_of batch_rows batch_pointer_rows batch_entry_rows batch_hard_state_rows concluded hardened extended pointed prepare_on
each_cut = tt
