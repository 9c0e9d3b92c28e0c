-- The store: the bytes that records leave, stores that are not sound, and whole calls over a state with its store.
-- Assumes nothing.
use Rattle.std.specs.Prelude.{ℕ, ◌+◌, Bool, true, false, ◌&&◌, not, List, [], ◌∷◌, ◌++◌, length, replicate, take, drop, T, if◌then◌else◌, None, Some, Result, Ok, Err}
use Rattle.definition.specs.Table.{◌=?◌, every, u64_max, same_bytes}
use Rattle.definition.specs.Records.{Payload, normal, configuration, addLearner, inside, entry, pointer, Record, form_rows}
use Rattle.definition.specs.Log.{Answer, appended, pointer_kept, finished, refused, empty, base, count, snapshot_boundary, last_index, last, place, at, is_held, predecessor_term, same_term, same_content, hard_state_successor_rows, snapshot_successor_rows, replay_rows, install_rows, rows, answer_to, placed, with_entry, with_hard_state, beyond, raised_by, with_pointer, accept, largest_term, maximum_observed_term, normalized_to, normalized_hard_state, with_hard, normalize_hard_state_term}
use Rattle.definition.specs.Recovery.{held, State, Recovery, fresh_state, fresh, lookup, put, keep, ascending, judged, settled, admitted, visit, log_clauses, kept_lsns, held_clauses, state_clauses, sound_state, pad_to, block, layout, sound_store, sound, scan, route_by, routed, guarded, observe_state, normalized, normalized_state, finish_state, stored, with_store, observe, finish, answers, observe_until_refused, ask, place_of, replica_of}
use Rattle.definition.specs.Batch.{Batch, batch_rows, batch_pointer_rows, batch_entry_rows, batch_hard_state_rows, concluded, hardened, extended, pointed, prepare_on, prepare, Shown, nothing, of_log, of_batch, store_place, shown_in, previewed_at}
use Rattle.definition.specs.Cases.Samples.{of, id, byte, log_entry, hard_of, snapshot_at, E, F, up_to, k_e, k_ep, log_of, plain_log, no_log, state_of, only, same_option, same_number, same_list, same_state, same_answer, replaced}

-- Stores: zeros, with bytes written from a place on.
write : ℕ → List ℕ → List ℕ → List ℕ
write at bytes store = take at store ++ bytes ++ drop (at + length bytes) store

writes : List (ℕ × List ℕ) → List ℕ
writes [] = replicate 32768 0
writes ((at, bytes) ∷ more) = write at bytes (writes more)

record Stored : Type 0 where
  before : Recovery
  observed_record : Record
  expected : Answer
  after : List ℕ

-- A record observed in a state over a store.
on_store : State → List ℕ → Record → Answer → List ℕ → Stored
on_store s store r a store' = record { before = record { state = s; store = store }; observed_record = r; expected = a; after = store' }

-- Refused by 1: the state and the store stay as they were.
stays : State → List ℕ → Record → Stored
stays s store r = on_store s store r (refused 1) store

stores : Stored → Bool
stores c =
    let o = observe c.before c.observed_record in
    same_answer o.answer c.expected && same_bytes o.next.store c.after
    && (if answer_is1 c.expected then same_state o.next.state c.before.state else true)
  where
    answer_is1 : Answer → Bool
    answer_is1 a = same_answer a (refused 1)

command : List ℕ → Payload
command bytes = normal (inside bytes)

-- Two replicas: three entries and one.
two : State
two =
    state_of
    (held (id 1 1) (plain_log (k_ep 1 1 (command (1 ∷ 2 ∷ [])) ∷ k_ep 1 2 (configuration addLearner 1 1) ∷ k_ep 1 3 (command (3 ∷ [])) ∷ []) (Some 3))
    ∷ held (id 1 3) (plain_log (k_ep 1 4 (command (4 ∷ [])) ∷ []) (Some 4)) ∷ []) 4 (Some 4)

store_of_two : List ℕ
store_of_two = writes ((0, 1 ∷ 2 ∷ []) ∷ (128, 3 ∷ []) ∷ (4096, 4 ∷ []) ∷ [])

storing : List Stored
storing =
    -- an append: byte 4,096 × 1 + 64 × 1
    on_store two store_of_two (of (id 1 3) 5 (entry 1 (log_entry 2 1 (command (5 ∷ 6 ∷ []))))) appended (writes ((0, 1 ∷ 2 ∷ []) ∷ (128, 3 ∷ []) ∷ (4096, 4 ∷ []) ∷ (4160, 5 ∷ 6 ∷ []) ∷ []))
    -- a replacement clears what it cuts
    ∷ on_store two store_of_two (of (id 1 1) 5 (entry 1 (log_entry 1 2 (command (7 ∷ []))))) (replaced 3) (writes ((0, 7 ∷ []) ∷ (4096, 4 ∷ []) ∷ []))
    -- a pointer drops, and the rest moves down
    ∷ on_store two store_of_two (of (id 1 1) 5 (pointer (snapshot_at 2 1))) (pointer_kept 2) (writes ((0, 3 ∷ []) ∷ (4096, 4 ∷ []) ∷ []))
    -- a new replica between: the blocks after it move up, also where its record is refused
    ∷ on_store two store_of_two (of (id 1 2) 5 (entry 1 (log_entry 2 1 (command (7 ∷ []))))) (refused 28) (writes ((0, 1 ∷ 2 ∷ []) ∷ (128, 3 ∷ []) ∷ (8192, 4 ∷ []) ∷ []))
    -- not sound: the state and the store stay as they were
    ∷ stays two (writes ((0, 1 ∷ 2 ∷ []) ∷ (128, 3 ∷ []) ∷ (4096, 4 ∷ []) ∷ (32767, 9 ∷ []) ∷ [])) (F 5)
    ∷ []

-- Not sound: the length, a byte of no held command (behind a command, of a configuration, of a free place), a wrong byte.
unsound : List (List ℕ)
unsound =
    take 32767 store_of_two
    ∷ (store_of_two ++ 0 ∷ [])
    ∷ writes ((0, 1 ∷ 2 ∷ 9 ∷ []) ∷ (128, 3 ∷ []) ∷ (4096, 4 ∷ []) ∷ [])
    ∷ writes ((0, 1 ∷ 2 ∷ []) ∷ (64, 9 ∷ []) ∷ (128, 3 ∷ []) ∷ (4096, 4 ∷ []) ∷ [])
    ∷ writes ((0, 1 ∷ 2 ∷ []) ∷ (128, 3 ∷ []) ∷ (4095, 9 ∷ 4 ∷ []) ∷ [])
    ∷ writes ((0, 1 ∷ 2 ∷ []) ∷ (128, 3 ∷ []) ∷ (4096, 5 ∷ []) ∷ [])
    ∷ []

each_store : T (every stores storing && every (λ st. not (sound_store (record { state = two; store = st }))) unsound)
unfolding write writes on_store stays stores command two store_of_two storing unsound form_rows empty base count snapshot_boundary last_index last place at is_held predecessor_term same_term same_content hard_state_successor_rows snapshot_successor_rows replay_rows install_rows rows answer_to placed with_entry with_hard_state beyond raised_by with_pointer accept lookup put keep ascending judged settled admitted visit log_clauses kept_lsns held_clauses state_clauses sound_state scan route_by routed guarded observe_state pad_to block layout sound_store stored with_store observe
each_store = tt

-- Finishing, a chunk until its first refusal, and the readers, over a fresh recovery and over a store that is not sound.
short : Recovery
short = record { state = fresh_state; store = [] }

seven : List Record
seven = E 1 1 1 ∷ F 2 ∷ E 3 3 1 ∷ E 4 2 1 ∷ []

is_refusal : {A : Type 0} → ℕ → Result A ℕ → Bool
is_refusal n (Ok a) = false
is_refusal n (Err m) = m =? n

reads : {A : Type 0} → (A → Bool) → Result A ℕ → Bool
reads p (Ok a) = p a
reads p (Err m) = false

whole_calls : List Bool
whole_calls =
    let c = observe_until_refused fresh seven in
    let d = observe_until_refused fresh (E 1 1 1 ∷ F 2 ∷ []) in
    let f = finish d.left in
    (c.taken =? 2)
    ∷ same_option same_number c.ended (Some 30)
    ∷ same_state c.left.state (only (plain_log (k_e 1 1 ∷ []) (Some 1)) 3 (Some 3))
    ∷ same_bytes c.left.store (writes ((0, 65 ∷ []) ∷ []))
    ∷ (d.taken =? 2)
    ∷ same_option same_number d.ended None
    ∷ same_state d.left.state (only (plain_log (k_e 1 1 ∷ []) (Some 1)) 2 (Some 2))
    ∷ same_state f.next.state (only (log_of (k_e 1 1 ∷ []) 0 0 0 (Some 1) (Some (hard_of 1 None 0)) None None None) 2 (Some 2))
    ∷ same_bytes f.next.store d.left.store
    ∷ same_answer f.answer finished
    ∷ same_answer (finish short).answer (refused 1)
    ∷ same_list same_answer (answers short (F 1 ∷ [])) (refused 1 ∷ [])
    ∷ sound fresh
    ∷ not (sound short)
    ∷ not (sound (record { state = state_of [] u64_max None; store = replicate 32768 0 }))
    ∷ reads (λ n. n =? 1) (ask (λ s. length s.replicas) d.left)
    ∷ is_refusal 1 (ask (λ s. length s.replicas) short)
    ∷ []

each_whole_call : T (every (λ b. b) whole_calls)
unfolding write writes short seven is_refusal reads whole_calls fresh fresh_state form_rows empty base count snapshot_boundary last_index last place at is_held predecessor_term same_term same_content hard_state_successor_rows snapshot_successor_rows replay_rows install_rows rows answer_to placed with_entry with_hard_state beyond raised_by with_pointer accept lookup put keep ascending judged settled admitted visit log_clauses kept_lsns held_clauses state_clauses sound_state sound scan route_by routed guarded observe_state pad_to block layout sound_store stored with_store observe largest_term maximum_observed_term normalized_to normalized_hard_state with_hard normalize_hard_state_term normalized normalized_state finish_state finish answers observe_until_refused ask
each_whole_call = tt

-- A batch over a state with its store: 1 before all others, an identity not held while 8 are, the command shown.
eight : State
eight = state_of (up_to (λ n. held (id 1 n) no_log) 8) 8 (Some 8)

over : State → ℕ → Recovery
over s n = record { state = s; store = replicate n 0 }

nothing_tried : Batch
nothing_tried = record { snapshot = None; entries = []; hard_state = None }

one_tried : Batch
one_tried = record { snapshot = None; entries = record { log_entry = log_entry 1 1 (byte 65); from = 70 } ∷ []; hard_state = Some (hard_of 1 None 1) }

is_shown : Shown → ℕ → ℕ → Bool
is_shown nothing from size = false
is_shown (of_log a b) from size = false
is_shown (of_batch a b) from size = a =? from && b =? size

is_nothing : Shown → Bool
is_nothing nothing = true
is_nothing (of_log a b) = false
is_nothing (of_batch a b) = false

preparing : List Bool
preparing =
    is_shown (previewed_at (over eight 32768) (id 2 1) one_tried 1) 70 1
    ∷ is_nothing (previewed_at (over eight 32767) (id 2 1) one_tried 1)
    ∷ is_refusal 1 (prepare (over eight 32767) (id 0 0) nothing_tried)
    ∷ is_refusal 1 (prepare (over (state_of [] u64_max None) 32768) (id 0 0) nothing_tried)
    ∷ []

each_prepare : T (every (λ b. b) preparing)
unfolding eight over nothing_tried one_tried is_shown is_nothing preparing command is_refusal reads lookup place_of replica_of store_place shown_in previewed_at prepare ask pad_to block layout sound_store ascending log_clauses kept_lsns held_clauses state_clauses sound_state batch_rows batch_pointer_rows batch_entry_rows batch_hard_state_rows concluded hardened extended pointed prepare_on empty base count snapshot_boundary last_index last place at is_held predecessor_term same_term same_content hard_state_successor_rows replay_rows placed with_entry beyond raised_by with_pointer with_hard largest_term maximum_observed_term
each_prepare = tt
