-- Which line may stand where: at most one pointer, then at most 64 entries, then at most one hard state, then at most 4,096 lines `show`.
-- Assumes nothing.
use Rattle.std.specs.Prelude.{ℕ, ◌+◌, Bool, not, ◌&&◌, List, [], ◌∷◌, ◌++◌, length, if◌then◌else◌, Option, None, Some}
use Rattle.definition.specs.Table.{◌=?◌, ◌<?◌, is_some}
use Rattle.codec.specs.declared.HardState.{HardState}
use Rattle.codec.specs.declared.RaftSnapshotPointerRecord.{RaftSnapshotPointerRecord}
use Rattle.batches.specs.declared.BatchEntry.{BatchEntry}
use Rattle.batch_text.specs.declared.BatchLine.{BatchLine}
use Rattle.batch_text.specs.declared.BatchLine.TheVariants as L
use Rattle.batch_text.specs.declared.Given.{Given}

-- the lines by their parts
abbrev pub given_of : Option RaftSnapshotPointerRecord → List BatchEntry → Option HardState → ℕ → Given
given_of p es h shows = record { snapshot = p; entries = record { items = es }; hard_state = h; shows = shows }

-- no line yet
abbrev pub no_batch : Given
no_batch = given_of None [] None 0

-- no hard state and no `show` yet
abbrev pub is_open : Given → Bool
is_open g = g.shows =? 0 && not (is_some g.hard_state)

-- a batch with one line more; none where the line may not stand there
unfoldable pub add_pointer : Given → RaftSnapshotPointerRecord → Option Given
add_pointer g p =
    if is_open g && length g.entries.items =? 0 && not (is_some g.snapshot)
    then Some (given_of (Some p) g.entries.items g.hard_state g.shows)
    else None

unfoldable pub add_entry : Given → BatchEntry → Option Given
add_entry g e =
    if is_open g && length g.entries.items <? 64
    then Some (given_of g.snapshot (g.entries.items ++ (e ∷ [])) g.hard_state g.shows)
    else None

unfoldable pub add_hard_state : Given → HardState → Option Given
add_hard_state g h = if is_open g then Some (given_of g.snapshot g.entries.items (Some h) g.shows) else None

unfoldable pub add_show : Given → Option Given
add_show g = if g.shows <? 4096 then Some (given_of g.snapshot g.entries.items g.hard_state (g.shows + 1)) else None

abbrev pub added : Given → BatchLine → Option Given
added g (L.Pointer p) = add_pointer g p
added g (L.Entry e) = add_entry g e
added g (L.HardState h) = add_hard_state g h
added g (L.Show n) = add_show g
