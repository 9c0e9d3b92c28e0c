-- The two commits of a replica, its hard state's and its view's (document 02, Q-3): on what a list of records leaves, the larger is
-- the view's. Only states made by hand tell "the larger" from the view's.
-- Assumes nothing.
use Rattle.std.specs.Prelude.{ℕ, ◌≤◌, List, Option, None, Some}
use Rattle.definition.specs.Records.{HardState, Record}
use Rattle.definition.specs.Log.{Log}
use Rattle.definition.specs.Healthy.{EachReplica}

-- A hard state's commit is at most c, where there is one.
abbrev pub CommitWithin : ℕ → Option HardState → Type 0
CommitWithin c None = Unit {0}
CommitWithin c (Some h) = h.commit ≤ c

-- The view's commit is the larger, or the two are equal.
abbrev pub WithinView : Log ℕ → Type 0
WithinView log = CommitWithin log.committed_index log.hard_state

-- From empty, whatever was refused on the way.
abbrev pub ViewsIsLarger : Type 0
ViewsIsLarger = (rs : List Record) → EachReplica rs (λ i log. WithinView log)
