-- `journal::read_chunk`: a record was read at each turn.
use Rattle.std.proofs.Common.{◌≡◌}
use Rattle.arrayvec.specs.ArrayVec.{array_vec_len}
use Rattle.journal.proofs.read_chunk.Given as goal

abbrev pub invariant-loop : goal.invariant-loop
invariant-loop l = array_vec_len l.records ≡ l.counter
