-- `finish_all` meets its contract.
use Rattle.std.proofs.Common.{◌≡◌, ◌*◌, ◌<◌, length, rules, arith}
use native.Mathlib.Nat.{add-sub_cancel_left}
use Rattle.view.specs.Model.{maximum_term}
use Rattle.storage.specs.Model.{head_at, entries_in}
use Rattle.finishing.proofs.Finishes.{finishing_start, finishing_turn, finishing_end}
use Rattle.finishing.proofs.finish_all.Goals as goal

pub loop-j-init : goal.loop-j-init
loop-j-init c = let l : length c.args.state.heads ≡ 8 = search rules in finishing_start _ l c.requires

pub loop-j-preserved : goal.loop-j-preserved
loop-j-preserved c =
    let l = c.loop-j in
    let w : l.j < 8 = omega (arith, c.requires.few) in
    let m : c.maximum_term-m.result ≡ maximum_term (head_at l.t l.j) (entries_in l.t l.j) = rw (add-sub_cancel_left (64 * l.j) 64) at c.maximum_term-m.ensures in
    finishing_turn c.args.state l.t l.j c.maximum_term-m.result _ w l.invariant m c.normalize_hard_state_term.ensures

pub returns : goal.returns
returns c = finishing_end c.args.state c.loop-j.t c.loop-j.j c.loop-j.invariant (omega arith) (omega arith)
