-- What is read of a header, on its fields alone. The last index keeps to 64 bits, also where the header's limits do not.
-- Assumes nothing.
use Rattle.std.specs.Prelude.{List, ℕ, ◌+◌, ◌-◌, pred, min, get_or, if◌then◌else◌, Option, None, Some, unwrap_or}
use Rattle.definition.specs.Table.{◌=?◌, ◌<?◌, ◌≤?◌, u64_max}
use Rattle.view.specs.declared.RecoveredRaftLogEntry.{RecoveredRaftLogEntry}
use Rattle.view.specs.declared.Header.{Header}
use Rattle.view.specs.Meaning.{no_entry, base_of}
use Rattle.ids.specs.declared.Lsn.{Lsn}

abbrev pub first_index_of : Header → Option ℕ
first_index_of h = if h.len =? 0 then None else Some (base_of h)

abbrev pub boundary_of : Header → Option (ℕ × ℕ)
boundary_of h = if h.snapshot_index =? 0 then None else Some (h.snapshot_index, h.snapshot_term)

-- The last entry's index, of one entry at least.
abbrev pub last_entry_of : Header → ℕ
last_entry_of h = min (pred (base_of h + h.len)) u64_max

abbrev pub last_index_of : Header → Option ℕ
last_index_of h =
    if h.len =? 0 then (if h.snapshot_index =? 0 then None else Some h.snapshot_index)
    else Some (last_entry_of h)

-- The last index, none is 0.
abbrev pub last_of : Header → ℕ
last_of h = if h.len =? 0 then h.snapshot_index else last_entry_of h

-- Where an index is held.
abbrev pub place_of : Header → ℕ → Option ℕ
place_of h index = if base_of h ≤? index then (if index - base_of h <? h.len then Some (index - base_of h) else None) else None

-- What a place holds, by the entries at places.
abbrev pub at_place : {A : Type 0} → Option ℕ → (ℕ → A) → Option A
at_place None f = None
at_place (Some q) f = Some (f q)

-- The first held entry's LSN, `first` the entry at place 0.
abbrev pub first_retained_of : Header → RecoveredRaftLogEntry → Option Lsn
first_retained_of h first = if h.len =? 0 then None else Some first.lsn

-- The term at an index, and the predecessor's: the entry's before the index, else the boundary's.
abbrev pub term_at : Header → List RecoveredRaftLogEntry → ℕ → Option ℕ
term_at h es index = at_place (place_of h index) (λ q. (get_or es q no_entry).term)

abbrev pub prior_of : Header → List RecoveredRaftLogEntry → ℕ → ℕ
prior_of h es index = unwrap_or (term_at h es (index - 1)) h.snapshot_term
