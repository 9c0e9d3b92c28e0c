-- `prepare::move_entries` meets its contract.
use mathlib.Core.Path.{◌≡◌, refl, ap, ◌∙◌}
use Prim.Native.Nat.{◌-◌}
use native.Mathlib.Omega.{arith}
use mathlib.Core.List.{List}
use lib.ListN.{length}
use borrow.Author.Rules.{rules}
use Rattle.view.specs.declared.RecoveredRaftLogEntry.{RecoveredRaftLogEntry}
use Rattle.store.proofs.Part.{pasted}
use Rattle.persistence.proofs.prepare.move_entries.Goals as goal

pub returns : goal.returns
returns c =
    let p = c.args.preview.now in
    let l : length p.entries ≡ 64 = search (rules, c.well_formed) in
    ap (λ (es : List RecoveredRaftLogEntry). (record { head = p.head; entries = es; lsn = p.lsn }))
    (c.copy_within.ensures.after ∙ pasted p.entries 0 c.args.k (p.head.len - c.args.k) _ refl (omega (arith, l, c.requires.0, c.requires.1)))
