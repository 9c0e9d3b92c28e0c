-- The tables of two checks, taken apart where the code calls another check.
-- Assumes nothing.
use Rattle.std.specs.Prelude.{Option}
use Prim.Native.Nat.{ℕ}
use mathlib.Core.Path.{◌≡◌, ap, ◌∙◌}
use mathlib.Core.Bool.{false}
use mathlib.Core.List.{List, [], ◌∷◌, ◌++◌}
use Rattle.definition.specs.Table.{◌=?◌, ◌<?◌, Row, ◌when◌, first_of}
use Rattle.definition.specs.Records.{zero_vote}
use Rattle.definition.specs.Log.{hard_state_successor_rows}
use Rattle.definition.proofs.Laws.{or_else, first_join}
use Rattle.codec.specs.declared.HardState.{HardState}
use Rattle.codec.specs.declared.RaftSnapshotPointerRecord.{RaftSnapshotPointerRecord}
use Rattle.codec.specs.Records.{hard_state_of, maybe_hard_state_of, maybe_pointer_of}
use Rattle.batches.specs.Checks.{beyond_pointer_rows, hard_state_rows}

-- Where neither 13 nor 15 refuses.
module _ (kept : Option HardState) (snapshot : Option RaftSnapshotPointerRecord) (last : ℕ) (h : HardState) where
  abbrev follows : List Row
  follows = hard_state_successor_rows (hard_state_of h) (maybe_hard_state_of kept)

  abbrev reaches : List Row
  reaches = beyond_pointer_rows (maybe_pointer_of snapshot) h

  abbrev ends : List Row
  ends = (49 when last <? h.commit) ∷ []

  pub hard_join : zero_vote (hard_state_of h) ≡ false → (h.current_term =? 0) ≡ false →
      first_of (hard_state_rows kept snapshot last h) ≡ or_else (first_of follows) (or_else (first_of reaches) (first_of ends))
  hard_join a b = rw (a, b) (first_join follows (reaches ++ ends) ∙ ap (or_else (first_of follows)) (first_join reaches ends))
