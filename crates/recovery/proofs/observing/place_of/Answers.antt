-- `observing::place_of` meets its contract.
use mathlib.Core.Path.{sym, ◌∙◌}
use native.Mathlib.Omega.{arith}
use Rattle.recovery.proofs.Placing.{missing_within}
use Rattle.recovery.proofs.observing.place_of.Goals as goal

pub open_place-requires : goal.open_place-requires
open_place-requires c =
    record {
      linked = c.requires;
      within = omega (arith, missing_within c.args.t.now _ _ (sym c.find.ensures ∙ c.in-Err.is));
      room = omega (arith, c.if-t-ge8.false);
    }
