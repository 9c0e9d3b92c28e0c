-- `entries_ok` meets its contract. The invariant: what is asked of all is what is asked of the rest.
use Rattle.std.proofs.Common.{◌≡◌, length}
use Rattle.view.specs.Meaning.{lsn_of}
use Rattle.soundness.specs.Sound.{entries_ok}
use Rattle.soundness.proofs.Step.{entries_left}
use Rattle.soundness.proofs.entries_ok.Given as goal

abbrev pub invariant-loop-q : goal.invariant-loop-q
invariant-loop-q l = entries_ok (lsn_of l.last) (length l.entries) l.entries l.block ≡ entries_left (lsn_of l.last) (length l.entries) l.entries l.block l.q
