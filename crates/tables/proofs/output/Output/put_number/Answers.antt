-- `Output::put_number` meets its contract: the digits are the fewest that hold the number, and these are the definition's.
use mathlib.Core.List.{append_assoc}
use Rattle.tables.proofs.Digits.{digits_decimal}
use Rattle.tables.proofs.output.Output.put_number.Goals as goal

pub returns-clause-text : goal.returns-clause-text
returns-clause-text g c = rw (c.put-2.ensures, c.put.ensures, c.decimal-k.ensures.digits, digits_decimal _ _ c.decimal-k.ensures.len, append_assoc)
