-- `fixed_vec::FixedVec::push`: one place more is used.
use Rattle.std.proofs.Common.{rules}
use Rattle.fixed_vec.proofs.Blanks.{blanks_left}
use Rattle.fixed_vec.proofs.FixedVec.push.Goals as goal

pub invariant_of-self : goal.invariant_of-self
invariant_of-self g c = (search rules, search rules, blanks_left _ _ _ _ _ c.self.invariant.2)
