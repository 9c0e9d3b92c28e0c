-- What any healthy journal guarantees (document 02, Q-2). Quoted words are the customer's.
-- Assumes nothing.
use Rattle.std.specs.Prelude.{ℕ, ◌+◌, ◌≤◌, ◌≡◌, Bool, true, ◌&&◌, List, [], ◌∷◌, None, Some, option_map, slice_get}
use Rattle.definition.specs.Table.{◌<?◌, ◌≤?◌, every, u64_max}
use Rattle.definition.specs.Records.{Identity, Kind, entry, hard_state, pointer, Content, content, Record}
use Rattle.definition.specs.Log.{Entry, Log, count, last, is_held}
use Rattle.definition.specs.Recovery.{lookup, fresh, observed, answers, is_accepted}
use Rattle.definition.specs.Two.{fits, replicas_left}

-- "every pointer index is below 2^64 - 1"
abbrev pub low_kind : Kind → Bool
low_kind (entry version e) = true
low_kind (hard_state version h) = true
low_kind (pointer p) = p.last_included_index <? u64_max

abbrev pub low_content : Content → Bool
low_content None = true
low_content (Some (i, k)) = low_kind k

abbrev pub low_pointer : Record → Bool
low_pointer r = low_content (content r)

module _ {T : Type 0} where
  -- "terms never fall along them", from a term on.
  unfoldable pub never_fall : ℕ → List (Entry T) → Bool
  never_fall term [] = true
  never_fall term (e ∷ es) = term ≤? e.term && never_fall e.term es

  pub record Healthy (log : Log T) : Type 0 where
    -- "each replica's entries run without a gap from boundary plus one": held are the indices above the boundary up to the last, and
    -- there are as many entries
    pub without_a_gap : (n : ℕ) → is_held log n ≡ (log.snapshot_index <? n && n ≤? last log)
    pub as_many : last log ≡ log.snapshot_index + count log
    -- "starting at the boundary term"
    pub terms_never_fall : never_fall log.snapshot_term log.entries ≡ true
    -- "the view's commit is at most the last index, none counting as zero"
    pub committed : log.committed_index ≤ last log

-- A record of a list from empty that was accepted: the nth, which says k of the replica i under an LSN.
pub record AcceptedRecord (rs : List Record) (i : Identity) (k : Kind) (lsn : ℕ) : Type 0 where
  pub n : ℕ
  pub by : Record
  pub nth : slice_get rs n ≡ Some by
  pub accepted : option_map is_accepted (slice_get (answers fresh rs) n) ≡ Some true
  pub under : by.lsn ≡ lsn
  pub says : content by ≡ Some (i, k)

-- An entry is the one that an accepted record of its replica and index brought.
pub record Brought (rs : List Record) (i : Identity) (index : ℕ) (e : Entry ℕ) : Type 0 where
  pub version : ℕ
  pub by : AcceptedRecord rs i (entry version (record { index = index; term = e.term; payload = e.payload })) e.lsn

-- What is guaranteed of a replica.
pub record Guaranteed (rs : List Record) (i : Identity) (log : Log ℕ) : Type 0 where
  pub healthy : Healthy log
  pub brought : (q : ℕ) (e : Entry ℕ) → slice_get log.entries q ≡ Some e → Brought rs i (log.snapshot_index + 1 + q) e

-- Each replica of a recovery from empty has a log of which P holds: after the last record, and after finishing.
pub record EachReplica (rs : List Record) (P : Identity → Log ℕ → Type 0) : Type 0 where
  pub after_the_last : (i : Identity) (log : Log ℕ) → lookup i (observed fresh rs).state.replicas ≡ Some log → P i log
  pub after_finishing : (i : Identity) (log : Log ℕ) → lookup i (replicas_left rs) ≡ Some log → P i log

-- "for a recovery from empty in which all records were accepted". The records are machines' (`fits`). That all were accepted is not
-- asked: what a refused record leaves is as healthy.
abbrev pub Guarantee : Type 0
Guarantee = (rs : List Record) → every fits rs ≡ true → every low_pointer rs ≡ true → EachReplica rs (Guaranteed rs)
