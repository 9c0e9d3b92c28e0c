-- What a batch's answer says can be written and read back, wherever the power is cut (document 02, Q-14). Quoted words are the
-- customer's.
-- Assumes nothing.
use Rattle.std.specs.Prelude.{ℕ, ◌+◌, ◌≤◌, ◌≡◌, ◌⊎◌, Bool, true, false, ◌||◌, List, map, length, take, Some, Ok}
use Rattle.definition.specs.Table.{◌<?◌, every, if_some, is_some, u64_max}
use Rattle.definition.specs.Records.{Identity, same, content, Record}
use Rattle.definition.specs.Log.{Entry, Log}
use Rattle.definition.specs.Recovery.{lookup, State, replica_of, all_accepted, Recovery, fresh, sound, observed, answers, finish}
use Rattle.definition.specs.Batch.{Batch, Preview, prepare}
use Rattle.definition.specs.Two.{Rising, fits, map_entry}

-- The batch has a hard state whose commit is below the view's.
abbrev pub commits_less : Batch → Log ℕ → Bool
commits_less b was = if_some (λ h. h.commit <? was.committed_index) b.hard_state

-- What is asked of the recovery that reads the records ws of a batch of the replica i.
pub record Admits (w : Recovery) (i : Identity) (b : Batch) (ws : List Record) : Type 0 where
  -- "whose own commit, if any, is not below the view's"
  pub commit : commits_less b (replica_of i w.state) ≡ false
  -- "if the identity is already held or fewer than 8 replicas are"
  pub room : (is_some (lookup i w.state.replicas) || length w.state.replicas <? 8) ≡ true
  -- "and the .. scanned count [is] at least 34 below 2^64 - 1". Of "the last scanned LSN" the same is not asked: that LSNs rise above it
  -- says that there are as many as the records need.
  pub counts : w.state.scanned_records + 34 ≤ u64_max
  -- "written under rising LSNs above the last scanned"
  pub rising : Rising w.state.last_scanned_lsn ws

-- A batch of the replica i that was accepted, and a journal ws that goes on with the first k records of its answer.
pub record Written (w : Recovery) (i : Identity) (b : Batch) (v : Preview) (k : ℕ) (ws : List Record) : Type 0 where
  -- "an accepted batch for it": prepared on this recovery, or when it was finished, as by a box that then loses power and reads its
  -- journal again, unfinished
  pub accepted : (prepare w i b ≡ Ok v) ⊎ (prepare (finish w).next i b ≡ Ok v)
  pub admitted : Admits w i b ws
  -- "its first k records, for any k"
  pub first_k : map content ws ≡ map Some (take k v.records)

-- Entries without their LSNs.
abbrev pub bare_entries : Log ℕ → List (Entry (Unit {0}))
bare_entries log = map (map_entry (λ n. tt)) log.entries

-- "that replica's entries, boundary .. are the preview's, LSNs apart", and its pointer is, whose boundary it is.
pub record SameEntries (a b : Log ℕ) : Type 0 where
  pub entries : bare_entries a ≡ bare_entries b
  pub index : a.snapshot_index ≡ b.snapshot_index
  pub term : a.snapshot_term ≡ b.snapshot_term
  pub pointer : a.snapshot ≡ b.snapshot

-- What k records of the batch leave, s before them and t behind them.
pub record Left (s t : State) (i : Identity) (b : Batch) (v : Preview) (k : ℕ) : Type 0 where
  -- "every other replica is untouched throughout", since k is any
  pub others : (j : Identity) → same j i ≡ false → lookup j t.replicas ≡ lookup j s.replicas
  -- "After all of them"
  pub same_entries : length v.records ≤ k → SameEntries v.log (replica_of i t)
  -- "and hard state, where the batch has one"
  pub hard_state : length v.records ≤ k → is_some b.hard_state ≡ true → v.log.hard_state ≡ (replica_of i t).hard_state

pub record ReadsBack (w : Recovery) (i : Identity) (b : Batch) (v : Preview) (k : ℕ) (ws : List Record) : Type 0 where
  -- "are all accepted"
  pub accepted : all_accepted (answers w ws) ≡ true
  pub left : Left w.state (observed w ws).state i b v k

-- On any sound recovery. The records are machines' (`fits`).
abbrev pub ReadBack : Type 0
ReadBack =
    (w : Recovery) → sound w ≡ true → (i : Identity) (b : Batch) (v : Preview) (k : ℕ) (ws : List Record) → every fits ws ≡ true
    → Written w i b v k ws
    → ReadsBack w i b v k ws

-- "take a replica in a state reached from empty by accepted records". That all were accepted is not asked.
abbrev pub ReadBackFromEmpty : Type 0
ReadBackFromEmpty =
    (rs : List Record) → every fits rs ≡ true → (i : Identity) (b : Batch) (v : Preview) (k : ℕ) (ws : List Record) → every fits ws ≡ true
    → Written (observed fresh rs) i b v k ws
    → ReadsBack (observed fresh rs) i b v k ws
