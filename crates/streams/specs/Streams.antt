-- What a program ends with.
-- Assumes nothing.
use Rattle.std.specs.Prelude.{ℕ, Result, Ok, Err}
use Rattle.streams.specs.declared.Failed.{Failed}

abbrev pub status_of : Result (Unit {0}) Failed → ℕ
status_of (Ok v) = 0
status_of (Err f) = 1
