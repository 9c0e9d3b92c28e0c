-- `replica_line::put_lsns` meets its contract.
use Rattle.std.proofs.Common.{append_assoc}
use mathlib.Core.List.{append-nil}
use Rattle.replica_line.specs.Model.{spaced_all}
use Rattle.replica_line.proofs.put_lsns.Goals as goal

pub returns-clause-text : goal.returns-clause-text
unfolding spaced_all
returns-clause-text g c =
    simp (c.put_named-4.ensures.text, c.put_named-3.ensures.text, c.put_named-2.ensures.text, c.put_named.ensures.text, c.minimum_of.ensures, append_assoc, append-nil)
