-- `entry` meets its contract.
use Rattle.std.specs.Prelude.{List, ℕ, option_map}
use Rattle.ids.specs.Identity.{identity_of}
use Rattle.storage.specs.declared.RecoveredRaftStorage.{RecoveredRaftStorage}
use Rattle.readers.specs.Reads.{entry_with, cell_for}
use Rattle.readers.proofs.Sound.{reads_in, reads_refused}
use Rattle.readers.proofs.entry.Goals as goal

pub returns-in_err-new : goal.returns-in_err-new
returns-in_err-new c = reads_refused c.new.ensures c.in_err-new.was _ c.from_residual.ensures.0 c.from_residual.ensures.1 _

pub returns : goal.returns
returns c =
    reads_in c.new.ensures c.in_ok-new.was (λ (p : RecoveredRaftStorage × List ℕ). option_map (λ e. entry_with e (cell_for p.0 p.1 (identity_of c.args.identity) c.args.index)) c.entry.result) c.entry.ensures
