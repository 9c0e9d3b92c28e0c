-- Computed tests of the output; the text of each line is spelt out.
-- Assumes nothing.
use Rattle.std.specs.Prelude.{ℕ, Bool, List, [], ◌∷◌, ◌++◌, T, replicate, None, Some}
use Prim.Native.Char.{code}
use Prim.Native.String.{String, [] as empty, ◌∷◌ as ◌then◌}
use Rattle.definition.specs.Table.{u64_max, every, same_bytes}
use Rattle.definition.specs.Records.{normal, configuration, inside, outside, addLearner, promoteLearner, removeReplica, form_rows}
use Rattle.definition.specs.Log as D
use Rattle.definition.specs.Log.{Log, counted, appended, idempotentReplay, hard_state_kept, pointer_kept, finished, replaced_suffix, refused}
use Rattle.definition.specs.Recovery as C
use Rattle.definition.specs.Recovery.{held, fresh_state}
use Rattle.definition.specs.Cases.Samples.{id, hard_of, snapshot_at, E, Ep, H, P, F, k_e, k_ep, log_of, plain_log, no_log, state_of}
use Rattle.tables.specs.Tables.{digits_within, decimal, row}
use Rattle.batch_tables.specs.Lines.{hex_text}
use Rattle.replica_line.specs.Lines.{replica_line}
use Rattle.state_tables.specs.Lines.{step_line, step_lines, entry_line, entry_lines, state_text, steps_text}

-- the bytes of a text, and of lines of text
bytes : String → List ℕ
bytes empty = []
bytes (c then s) = code c ∷ bytes s

unlines : List String → List ℕ
unlines [] = []
unlines (s ∷ l) = bytes s ++ (10 ∷ unlines l)

is : List ℕ → List String → Bool
is l s = same_bytes l (unlines s)

-- ---- a record's line: each answer's word

said : ℕ → D.Answer → String → Bool
said lsn a s = is (step_line lsn a) (s ∷ [])

answers : List Bool
answers =
    said 0 counted "0 foreign"
    ∷ said 5 appended "5 appended"
    ∷ said 6 idempotentReplay "6 repeated"
    ∷ said 7 (replaced_suffix (record { removed_entries = 64 })) "7 replaced 64"
    ∷ said 8 hard_state_kept "8 hard-state"
    ∷ said 9 (pointer_kept 64) "9 pointer"
    ∷ said u64_max (refused 42) "18446744073709551615 refused 42"
    ∷ said 10 (refused 2) "10 refused 2"
    -- no answer to a record
    ∷ said 11 finished "11 finished"
    ∷ []

each_answer : T (every (λ b. b) answers)
unfolding bytes unlines is said answers digits_within decimal row
each_answer = tt

-- ---- states

-- Each number of this log has its own value.
distinct : Log ℕ
distinct =
    record {
      entries = k_ep 21 22 (normal (inside (0 ∷ 9 ∷ 16 ∷ 171 ∷ 255 ∷ []))) ∷ k_ep 23 24 (configuration removeReplica 25 26) ∷ [];
      snapshot_index = 3;
      snapshot_term = 4;
      committed_index = 8;
      last_replayed_lsn = Some 14;
      progress = record { truncated_through_index = 5; truncated_through_term = 6; applied_index = 7 };
      hard_state = Some (hard_of 9 (Some 10) 11);
      hard_state_lsn = Some 12;
      snapshot =
          Some (record {
            version = 1;
            snapshot_id = 31;
            last_included_index = 32;
            last_included_term = 33;
            applied_index = 34;
            size_bytes = 35;
            rest = 36;
            checksum = record { a = 81985529216486895; b = 18364758544493064720; c = 1; d = 12297829382473034410 };
          });
      snapshot_pointer_lsn = Some 13;
    }

states : List Bool
states =
    -- nothing held, nothing scanned
    is (state_text fresh_state) ("scanned 0 last -" ∷ [])
    -- each field has its own place
    ∷ is (state_text (state_of (held (id 1 2) distinct ∷ []) 41 (Some 42)))
    ("scanned 41 last 42"
    ∷ "replica 1 2 boundary 3 4 progress 5 6 7 commit 8 hard 9 10 11 hard-lsn 12 pointer-lsn 13 replayed 14 minimum 12 log 2 4 5 22"
    ∷ "  pointer 31 32 33 34 35 36 0123456789abcdeffedcba98765432100000000000000001aaaaaaaaaaaaaaaa"
    ∷ "  entry 4 21 22 N 000910abff"
    ∷ "  entry 5 23 24 R 25 26"
    ∷ [])
    -- a replica that holds nothing
    ∷ is (state_text (state_of (held (id 3 4) no_log ∷ []) 1 (Some 1)))
    ("scanned 1 last 1"
    ∷ "replica 3 4 boundary 0 0 progress 0 0 0 commit 0 hard - hard-lsn - pointer-lsn - replayed - minimum - log 0 - - -"
    ∷ [])
    -- no vote, and an LSN of zero
    ∷ is (state_text (state_of (held (id 3 4) (log_of [] 0 0 0 None (Some (hard_of 2 None 0)) (Some 0) None None) ∷ []) 1 (Some 0)))
    ("scanned 1 last 0"
    ∷ "replica 3 4 boundary 0 0 progress 0 0 0 commit 0 hard 2 - 0 hard-lsn 0 pointer-lsn - replayed - minimum 0 log 0 - - -"
    ∷ [])
    -- no entries behind a boundary: a last index and no first
    ∷ is (state_text (state_of (held (id 1 1) (log_of [] 7 2 7 (Some 9) (Some (hard_of 2 None 7)) None (Some (snapshot_at 7 2)) (Some 9)) ∷ []) 1 (Some 9)))
    ("scanned 1 last 9"
    ∷ "replica 1 1 boundary 7 2 progress 7 2 7 commit 7 hard 2 - 7 hard-lsn - pointer-lsn 9 replayed 9 minimum 9 log 0 - 7 -"
    ∷ "  pointer 7 7 2 7 1 1 0000000000000001000000000000000000000000000000000000000000000000"
    ∷ [])
    -- the empty command, and each kind of change
    ∷ is
    (state_text (state_of
    (held (id 1 1) (plain_log (k_ep 1 2 (normal (inside [])) ∷ k_ep 1 3 (configuration addLearner 4 5) ∷ k_ep 1 6 (configuration promoteLearner 7 8) ∷ k_ep 1 9 (configuration removeReplica u64_max u64_max) ∷ []) (Some 9)) ∷ []) 4 (Some 9)))
    ("scanned 4 last 9"
    ∷ "replica 1 1 boundary 0 0 progress 0 0 0 commit 0 hard - hard-lsn - pointer-lsn - replayed 9 minimum 2 log 4 1 4 2"
    ∷ "  entry 1 1 2 N "
    ∷ "  entry 2 1 3 A 4 5"
    ∷ "  entry 3 1 6 P 7 8"
    ∷ "  entry 4 1 9 R 18446744073709551615 18446744073709551615"
    ∷ [])
    -- a command of 64 bytes
    ∷ is (entry_line 1 1 1 (normal (inside (replicate 64 97))))
    ("  entry 1 1 1 N 61616161616161616161616161616161616161616161616161616161616161616161616161616161616161616161616161616161616161616161616161616161" ∷ [])
    -- a command outside what was lent, which is never kept
    ∷ is (entry_line 1 2 3 (normal outside)) ("  entry 1 2 3 N " ∷ [])
    -- the largest boundary, whose own entry is held
    ∷ is (state_text (state_of (held (id 1 1) (log_of (k_e 1 2 ∷ []) u64_max 1 u64_max (Some 3) (Some (hard_of 1 None u64_max)) None (Some (snapshot_at u64_max 1)) (Some 3)) ∷ []) 3 (Some 3)))
    ("scanned 3 last 3"
    ∷ "replica 1 1 boundary 18446744073709551615 1 progress 18446744073709551615 1 18446744073709551615 commit 18446744073709551615 hard 1 - 18446744073709551615 hard-lsn - pointer-lsn 3 replayed 3 minimum 2 log 1 18446744073709551615 18446744073709551615 2"
    ∷ "  pointer 7 18446744073709551615 1 18446744073709551615 1 1 0000000000000001000000000000000000000000000000000000000000000000"
    ∷ "  entry 18446744073709551615 1 2 N 41"
    ∷ [])
    -- the minimum is the pointer's, the hard state's, the first entry's
    ∷ is (state_text (state_of (held (id 1 1) (log_of (k_e 1 7 ∷ []) 1 1 1 (Some 8) None (Some 6) (Some (snapshot_at 1 1)) (Some 5)) ∷ held (id 1 2) (log_of (k_e 1 7 ∷ []) 1 1 1 (Some 8) None (Some 5) (Some (snapshot_at 1 1)) (Some 6)) ∷ held (id 2 1) (log_of (k_e 1 5 ∷ []) 1 1 1 (Some 8) None (Some 6) (Some (snapshot_at 1 1)) (Some 7)) ∷ []) 9 (Some 9)))
    ("scanned 9 last 9"
    ∷ "replica 1 1 boundary 1 1 progress 1 1 1 commit 1 hard - hard-lsn 6 pointer-lsn 5 replayed 8 minimum 5 log 1 2 2 7"
    ∷ "  pointer 7 1 1 1 1 1 0000000000000001000000000000000000000000000000000000000000000000"
    ∷ "  entry 2 1 7 N 41"
    ∷ "replica 1 2 boundary 1 1 progress 1 1 1 commit 1 hard - hard-lsn 5 pointer-lsn 6 replayed 8 minimum 5 log 1 2 2 7"
    ∷ "  pointer 7 1 1 1 1 1 0000000000000001000000000000000000000000000000000000000000000000"
    ∷ "  entry 2 1 7 N 41"
    ∷ "replica 2 1 boundary 1 1 progress 1 1 1 commit 1 hard - hard-lsn 6 pointer-lsn 7 replayed 8 minimum 5 log 1 2 2 5"
    ∷ "  pointer 7 1 1 1 1 1 0000000000000001000000000000000000000000000000000000000000000000"
    ∷ "  entry 2 1 5 N 41"
    ∷ [])
    ∷ []

each_state : T (every (λ b. b) states)
unfolding bytes unlines is distinct states digits_within decimal row hex_text replica_line entry_line entry_lines state_text fresh_state D.base D.count D.snapshot_boundary D.first_index D.last_index D.first_retained_lsn C.minimum_recovery_lsn
each_state = tt

-- ---- the whole answer: records of every kind, some refused

journal : List Bool
journal =
    is
    (steps_text (E 5 1 1 ∷ E 6 2 2 ∷ E 7 2 2 ∷ Ep 8 2 3 (configuration addLearner 4 5) ∷ H 9 2 (Some 3) 1 ∷ F 10 ∷ P 11 1 1 ∷ E 11 3 3 ∷ E 12 5 3 ∷ []))
    ("5 appended"
    ∷ "6 appended"
    ∷ "7 repeated"
    ∷ "8 replaced 1"
    ∷ "9 hard-state"
    ∷ "10 foreign"
    ∷ "11 pointer"
    ∷ "11 refused 2"
    ∷ "12 refused 30"
    ∷ "scanned 8 last 12"
    ∷ "replica 1 1 boundary 1 1 progress 1 1 1 commit 1 hard 2 3 1 hard-lsn 9 pointer-lsn 11 replayed 11 minimum 8 log 1 2 2 8"
    ∷ "  pointer 7 1 1 1 1 1 0000000000000001000000000000000000000000000000000000000000000000"
    ∷ "  entry 2 3 8 A 4 5"
    ∷ "finished"
    ∷ "scanned 8 last 12"
    ∷ "replica 1 1 boundary 1 1 progress 1 1 1 commit 1 hard 3 - 1 hard-lsn 9 pointer-lsn 11 replayed 11 minimum 8 log 1 2 2 8"
    ∷ "  pointer 7 1 1 1 1 1 0000000000000001000000000000000000000000000000000000000000000000"
    ∷ "  entry 2 3 8 A 4 5"
    ∷ [])
    -- no records
    ∷ is (steps_text []) ("scanned 0 last -" ∷ "finished" ∷ "scanned 0 last -" ∷ [])
    ∷ []

each_journal : T (every (λ b. b) journal)
unfolding bytes unlines is journal digits_within decimal row hex_text step_lines replica_line entry_line entry_lines state_text steps_text form_rows D.empty D.base D.count D.snapshot_boundary D.first_index D.last_index D.last D.place D.at D.first_retained_lsn D.is_held D.predecessor_term D.same_term D.same_content D.hard_state_successor_rows D.snapshot_successor_rows D.replay_rows D.install_rows D.rows D.answer_to D.placed D.with_entry D.with_hard_state D.beyond D.raised_by D.with_pointer D.accept D.largest_term D.maximum_observed_term D.normalized_to D.normalized_hard_state D.with_hard D.normalize_hard_state_term fresh_state C.lookup C.put C.keep C.ascending C.judged C.settled C.admitted C.visit C.log_clauses C.kept_lsns C.held_clauses C.state_clauses C.sound_state C.scan C.route_by C.routed C.guarded C.observe_state C.state_answers C.state_after C.normalized C.normalized_state C.finish_state C.minimum_recovery_lsn
each_journal = tt
