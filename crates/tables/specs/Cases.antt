-- Computed tests of the output; the bytes of each are spelt out, a line of text to a line.
-- Assumes nothing.
use Rattle.std.specs.Prelude.{Bool, List, [], ◌∷◌, T, None, Some}
use Rattle.definition.specs.Table.{u64_max, every, same_bytes}
use Rattle.definition.specs.Records.{form_rows}
use Rattle.definition.specs.Log.{empty, base, count, snapshot_boundary, last_index, last, place, at, is_held, predecessor_term, same_term, same_content, hard_state_successor_rows, snapshot_successor_rows, replay_rows, install_rows, rows, answer_to, placed, with_entry, with_hard_state, beyond, raised_by, with_pointer, accept, largest_term, maximum_observed_term, normalized_to, normalized_hard_state, with_hard, normalize_hard_state_term}
use Rattle.definition.specs.Recovery.{held, State, fresh_state, lookup, put, keep, ascending, judged, settled, admitted, visit, log_clauses, kept_lsns, held_clauses, state_clauses, sound_state, scan, route_by, routed, guarded, observe_state, state_after, normalized, normalized_state, finish_state}
use Rattle.definition.specs.Cases.Samples.{id, hard_of, snapshot_at, E, H, k_e, log_of, plain_log, no_log, state_of}
use Rattle.tables.specs.Tables.{digits_within, decimal, row, lines_from, entry_count, tables, refused_line, malformed_line}

-- Document 01's example: three records observed, and finished.
example : State
example = (finish_state (state_after fresh_state (E 5 1 1 ∷ E 6 2 2 ∷ H 7 1 None 2 ∷ []))).next

pub cases : List Bool
cases =
    -- 0
    same_bytes (decimal 0)
    (48 ∷ [])
    -- 9
    ∷ same_bytes (decimal 9)
    (57 ∷ [])
    -- 10
    ∷ same_bytes (decimal 10)
    (49 ∷ 48 ∷ [])
    -- 99
    ∷ same_bytes (decimal 99)
    (57 ∷ 57 ∷ [])
    -- 100
    ∷ same_bytes (decimal 100)
    (49 ∷ 48 ∷ 48 ∷ [])
    -- 10203
    ∷ same_bytes (decimal 10203)
    (49 ∷ 48 ∷ 50 ∷ 48 ∷ 51 ∷ [])
    -- 2^64 - 1
    ∷ same_bytes (decimal u64_max)
    (49 ∷ 56 ∷ 52 ∷ 52 ∷ 54 ∷ 55 ∷ 52 ∷ 52 ∷ 48 ∷ 55 ∷ 51 ∷ 55 ∷ 48 ∷ 57 ∷ 53 ∷ 53 ∷ 49 ∷ 54 ∷ 49 ∷ 53 ∷ [])
    -- line 3 malformed
    ∷ same_bytes (malformed_line 3)
    (108 ∷ 105 ∷ 110 ∷ 101 ∷ 32 ∷ 51 ∷ 32 ∷ 109 ∷ 97 ∷ 108 ∷ 102 ∷ 111 ∷ 114 ∷ 109 ∷ 101 ∷ 100 ∷ 10 ∷ [])
    -- refused 12 27
    ∷ same_bytes (refused_line 12 27)
    (114 ∷ 101 ∷ 102 ∷ 117 ∷ 115 ∷ 101 ∷ 100 ∷ 32 ∷ 49 ∷ 50 ∷ 32 ∷ 50 ∷ 55 ∷ 10 ∷ [])
    -- no replica at all
    ∷ same_bytes (tables fresh_state)
    (114 ∷ 101 ∷ 112 ∷ 108 ∷ 105 ∷ 99 ∷ 97 ∷ 115 ∷ 32 ∷ 48 ∷ 10
    ∷ 101 ∷ 110 ∷ 116 ∷ 114 ∷ 105 ∷ 101 ∷ 115 ∷ 32 ∷ 48 ∷ 10 ∷ [])
    -- document 01's example
    ∷ same_bytes (tables example)
    (114 ∷ 101 ∷ 112 ∷ 108 ∷ 105 ∷ 99 ∷ 97 ∷ 115 ∷ 32 ∷ 49 ∷ 10
    ∷ 49 ∷ 32 ∷ 49 ∷ 32 ∷ 48 ∷ 32 ∷ 48 ∷ 32 ∷ 50 ∷ 32 ∷ 45 ∷ 32 ∷ 50 ∷ 10
    ∷ 101 ∷ 110 ∷ 116 ∷ 114 ∷ 105 ∷ 101 ∷ 115 ∷ 32 ∷ 50 ∷ 10
    ∷ 49 ∷ 32 ∷ 49 ∷ 32 ∷ 49 ∷ 32 ∷ 49 ∷ 32 ∷ 53 ∷ 10
    ∷ 49 ∷ 32 ∷ 49 ∷ 32 ∷ 50 ∷ 32 ∷ 50 ∷ 32 ∷ 54 ∷ 10 ∷ [])
    -- no entries, no hard state
    ∷ same_bytes (tables (state_of (held (id 3 4) no_log ∷ []) 1 (Some 1)))
    (114 ∷ 101 ∷ 112 ∷ 108 ∷ 105 ∷ 99 ∷ 97 ∷ 115 ∷ 32 ∷ 49 ∷ 10
    ∷ 51 ∷ 32 ∷ 52 ∷ 32 ∷ 48 ∷ 32 ∷ 48 ∷ 32 ∷ 48 ∷ 32 ∷ 45 ∷ 32 ∷ 48 ∷ 10
    ∷ 101 ∷ 110 ∷ 116 ∷ 114 ∷ 105 ∷ 101 ∷ 115 ∷ 32 ∷ 48 ∷ 10 ∷ [])
    -- a vote; the view's commit, which is the larger
    ∷ same_bytes (tables (state_of (held (id 1 2) (log_of [] 0 0 6 None (Some (hard_of 7 (Some 10) 5)) (Some 3) None None) ∷ []) 1 (Some 3)))
    (114 ∷ 101 ∷ 112 ∷ 108 ∷ 105 ∷ 99 ∷ 97 ∷ 115 ∷ 32 ∷ 49 ∷ 10
    ∷ 49 ∷ 32 ∷ 50 ∷ 32 ∷ 48 ∷ 32 ∷ 48 ∷ 32 ∷ 55 ∷ 32 ∷ 49 ∷ 48 ∷ 32 ∷ 54 ∷ 10
    ∷ 101 ∷ 110 ∷ 116 ∷ 114 ∷ 105 ∷ 101 ∷ 115 ∷ 32 ∷ 48 ∷ 10 ∷ [])
    -- the hard state's commit, which is the larger
    ∷ same_bytes (tables (state_of (held (id 1 2) (log_of [] 0 0 4 None (Some (hard_of 7 (Some 10) 5)) (Some 3) None None) ∷ []) 1 (Some 3)))
    (114 ∷ 101 ∷ 112 ∷ 108 ∷ 105 ∷ 99 ∷ 97 ∷ 115 ∷ 32 ∷ 49 ∷ 10
    ∷ 49 ∷ 32 ∷ 50 ∷ 32 ∷ 48 ∷ 32 ∷ 48 ∷ 32 ∷ 55 ∷ 32 ∷ 49 ∷ 48 ∷ 32 ∷ 53 ∷ 10
    ∷ 101 ∷ 110 ∷ 116 ∷ 114 ∷ 105 ∷ 101 ∷ 115 ∷ 32 ∷ 48 ∷ 10 ∷ [])
    -- no hard state: the view's commit
    ∷ same_bytes (tables (state_of (held (id 1 2) (log_of [] 0 0 6 None None None None None) ∷ []) 1 (Some 3)))
    (114 ∷ 101 ∷ 112 ∷ 108 ∷ 105 ∷ 99 ∷ 97 ∷ 115 ∷ 32 ∷ 49 ∷ 10
    ∷ 49 ∷ 32 ∷ 50 ∷ 32 ∷ 48 ∷ 32 ∷ 48 ∷ 32 ∷ 48 ∷ 32 ∷ 45 ∷ 32 ∷ 54 ∷ 10
    ∷ 101 ∷ 110 ∷ 116 ∷ 114 ∷ 105 ∷ 101 ∷ 115 ∷ 32 ∷ 48 ∷ 10 ∷ [])
    -- a boundary: entries from the index after it on
    ∷ same_bytes (tables (state_of (held (id 2 1) (log_of (k_e 4 9 ∷ k_e 5 12 ∷ []) 9 3 9 (Some 12) (Some (hard_of 5 None 9)) None (Some (snapshot_at 9 3)) (Some 8)) ∷ []) 3 (Some 12)))
    (114 ∷ 101 ∷ 112 ∷ 108 ∷ 105 ∷ 99 ∷ 97 ∷ 115 ∷ 32 ∷ 49 ∷ 10
    ∷ 50 ∷ 32 ∷ 49 ∷ 32 ∷ 57 ∷ 32 ∷ 51 ∷ 32 ∷ 53 ∷ 32 ∷ 45 ∷ 32 ∷ 57 ∷ 10
    ∷ 101 ∷ 110 ∷ 116 ∷ 114 ∷ 105 ∷ 101 ∷ 115 ∷ 32 ∷ 50 ∷ 10
    ∷ 50 ∷ 32 ∷ 49 ∷ 32 ∷ 49 ∷ 48 ∷ 32 ∷ 52 ∷ 32 ∷ 57 ∷ 10
    ∷ 50 ∷ 32 ∷ 49 ∷ 32 ∷ 49 ∷ 49 ∷ 32 ∷ 53 ∷ 32 ∷ 49 ∷ 50 ∷ 10 ∷ [])
    -- the largest boundary, whose own entry is held
    ∷ same_bytes (tables (state_of (held (id 1 1) (log_of (k_e 1 2 ∷ []) u64_max 1 u64_max (Some 3) (Some (hard_of 1 None u64_max)) None (Some (snapshot_at u64_max 1)) (Some 3)) ∷ []) 3 (Some 3)))
    (114 ∷ 101 ∷ 112 ∷ 108 ∷ 105 ∷ 99 ∷ 97 ∷ 115 ∷ 32 ∷ 49 ∷ 10
    ∷ 49 ∷ 32 ∷ 49 ∷ 32 ∷ 49 ∷ 56 ∷ 52 ∷ 52 ∷ 54 ∷ 55 ∷ 52 ∷ 52 ∷ 48 ∷ 55 ∷ 51 ∷ 55 ∷ 48 ∷ 57 ∷ 53 ∷ 53 ∷ 49 ∷ 54 ∷ 49 ∷ 53 ∷ 32 ∷ 49 ∷ 32 ∷ 49 ∷ 32 ∷ 45 ∷ 32 ∷ 49 ∷ 56 ∷ 52 ∷ 52 ∷ 54 ∷ 55 ∷ 52 ∷ 52 ∷ 48 ∷ 55 ∷ 51 ∷ 55 ∷ 48 ∷ 57 ∷ 53 ∷ 53 ∷ 49 ∷ 54 ∷ 49 ∷ 53 ∷ 10
    ∷ 101 ∷ 110 ∷ 116 ∷ 114 ∷ 105 ∷ 101 ∷ 115 ∷ 32 ∷ 49 ∷ 10
    ∷ 49 ∷ 32 ∷ 49 ∷ 32 ∷ 49 ∷ 56 ∷ 52 ∷ 52 ∷ 54 ∷ 55 ∷ 52 ∷ 52 ∷ 48 ∷ 55 ∷ 51 ∷ 55 ∷ 48 ∷ 57 ∷ 53 ∷ 53 ∷ 49 ∷ 54 ∷ 49 ∷ 53 ∷ 32 ∷ 49 ∷ 32 ∷ 50 ∷ 10 ∷ [])
    -- three replicas, of which the second has no entries: lines in order
    ∷ same_bytes (tables (state_of (held (id 1 1) (plain_log (k_e 1 2 ∷ []) (Some 2)) ∷ held (id 1 2) no_log ∷ held (id 4 1) (plain_log (k_e 1 5 ∷ k_e 2 6 ∷ []) (Some 6)) ∷ []) 6 (Some 6)))
    (114 ∷ 101 ∷ 112 ∷ 108 ∷ 105 ∷ 99 ∷ 97 ∷ 115 ∷ 32 ∷ 51 ∷ 10
    ∷ 49 ∷ 32 ∷ 49 ∷ 32 ∷ 48 ∷ 32 ∷ 48 ∷ 32 ∷ 48 ∷ 32 ∷ 45 ∷ 32 ∷ 48 ∷ 10
    ∷ 49 ∷ 32 ∷ 50 ∷ 32 ∷ 48 ∷ 32 ∷ 48 ∷ 32 ∷ 48 ∷ 32 ∷ 45 ∷ 32 ∷ 48 ∷ 10
    ∷ 52 ∷ 32 ∷ 49 ∷ 32 ∷ 48 ∷ 32 ∷ 48 ∷ 32 ∷ 48 ∷ 32 ∷ 45 ∷ 32 ∷ 48 ∷ 10
    ∷ 101 ∷ 110 ∷ 116 ∷ 114 ∷ 105 ∷ 101 ∷ 115 ∷ 32 ∷ 51 ∷ 10
    ∷ 49 ∷ 32 ∷ 49 ∷ 32 ∷ 49 ∷ 32 ∷ 49 ∷ 32 ∷ 50 ∷ 10
    ∷ 52 ∷ 32 ∷ 49 ∷ 32 ∷ 49 ∷ 32 ∷ 49 ∷ 32 ∷ 53 ∷ 10
    ∷ 52 ∷ 32 ∷ 49 ∷ 32 ∷ 50 ∷ 32 ∷ 50 ∷ 32 ∷ 54 ∷ 10 ∷ [])
    ∷ []

pub each_output : T (every (λ b. b) cases)
unfolding example cases digits_within decimal row lines_from entry_count tables refused_line malformed_line form_rows empty base count snapshot_boundary last_index last place at is_held predecessor_term same_term same_content hard_state_successor_rows snapshot_successor_rows replay_rows install_rows rows answer_to placed with_entry with_hard_state beyond raised_by with_pointer accept largest_term maximum_observed_term normalized_to normalized_hard_state with_hard normalize_hard_state_term fresh_state lookup put keep ascending judged settled admitted visit log_clauses kept_lsns held_clauses state_clauses sound_state scan route_by routed guarded observe_state state_after normalized normalized_state finish_state
each_output = tt
