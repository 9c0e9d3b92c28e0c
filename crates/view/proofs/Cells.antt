-- A normal payload's command: the first bytes of its cell.
-- Assumes nothing.
use mathlib.Core.Path.{◌≡◌, ap}
use mathlib.Core.List.{List}
use Prim.Native.Nat.{ℕ, ◌+◌, ◌-◌, ◌*◌, ◌≤◌}
use native.Mathlib.Nat.{add-sub_cancel_left}
use native.Mathlib.Omega.{arith}
use lib.ListN.{drop}
use lib.Seq.{take-take}
use Rattle.definition.specs.Recovery.{command_bytes}
use Rattle.store.specs.Splice.{part}
use Rattle.view.specs.declared.EntryPayload.{EntryPayload}
use Rattle.view.specs.declared.EntryPayload.TheVariants as Y
use Rattle.view.specs.Meaning.{cell_at, payload_in, size_of}

pub normal_small : (x : EntryPayload) (n : ℕ) → x ≡ Y.Normal n → size_of x ≤ 64 → n ≤ 64
normal_small x n e h = let k : size_of x ≡ n = ap size_of e in omega (arith, h, k)

pub normal_command : (x : EntryPayload) (n q : ℕ) (b : List ℕ) → x ≡ Y.Normal n → n ≤ 64
    → part (64 * q) (64 * q + n - 64 * q) b ≡ command_bytes (payload_in x (cell_at b q))
normal_command x n q b e h = rw (e, add-sub_cancel_left (64 * q) n, take-take n 64 (drop (64 * q) b) h)
