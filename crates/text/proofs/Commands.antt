-- A command line: what one byte writes, and a line in two pieces.
-- Assumes nothing.
use mathlib.Core.Path.{◌≡◌, refl, ap, ◌∙◌}
use mathlib.Core.Bool.{Bool, true, false, not, ◌&&◌}
use mathlib.Core.List.{List, [], ◌∷◌, ◌++◌}
use Prim.Native.Nat.{ℕ, ◌+◌, ◌*◌, ◌/◌, ◌%◌, ◌<◌, ◌≤◌}
use borrow.Author.Tests.{eq-eqb, ne_eqb, lt-ltb, le-ltb, le-leb, lt-leb}
use lib.ListN.{length, set, length-set}
use Rattle.std.specs.Prelude.{if◌then◌else◌, None}
use Rattle.definition.specs.Table.{◌=?◌, ◌<?◌, ◌≤?◌}
use Rattle.text.specs.Text.{hex_digit, is_hex}
use Rattle.text.specs.Line.{piece, taken}
use Rattle.text.specs.Command.{pushed_command, pushed_out, fed_command, fed_out}
use Rattle.text.specs.declared.command.Command.{Command}
use Rattle.text.proofs.Lines.{piece_on}

module _ (out : List ℕ) (at : ℕ) (c : Command) (b : ℕ) where
  pub no_digit : 15 < hex_digit b → out ≡ pushed_out out at c b
  unfolding pushed_out
  no_digit h = rw (lt-leb (hex_digit b) 15 h)

  pub first_digit : hex_digit b ≤ 15 → c.digits % 2 ≡ 0 → out ≡ pushed_out out at c b
  unfolding pushed_out
  first_digit h e = rw (le-leb (hex_digit b) 15 h, eq-eqb (c.digits % 2) 0 e)

  pub too_long : hex_digit b ≤ 15 → (c.digits % 2 ≡ 0 → ⊥) → 130 ≤ c.digits → out ≡ pushed_out out at c b
  unfolding pushed_out
  too_long h n l = rw (le-leb (hex_digit b) 15 h, ne_eqb (c.digits % 2) 0 n, le-ltb c.digits 130 l)

  pub no_room : hex_digit b ≤ 15 → (c.digits % 2 ≡ 0 → ⊥) → c.digits < 130 → length out < at + 65 → out ≡ pushed_out out at c b
  unfolding pushed_out
  no_room h n l r = rw (le-leb (hex_digit b) 15 h, ne_eqb (c.digits % 2) 0 n, lt-ltb c.digits 130 l, lt-leb (at + 65) (length out) r)

  pub second_digit : hex_digit b ≤ 15 → (c.digits % 2 ≡ 0 → ⊥) → c.digits < 130 → at + 65 ≤ length out
      → set out (at + c.digits / 2) (c.half % 16 * 16 + hex_digit b) ≡ pushed_out out at c b
  unfolding pushed_out
  second_digit h n l r = rw (le-leb (hex_digit b) 15 h, ne_eqb (c.digits % 2) 0 n, lt-ltb c.digits 130 l, le-leb (at + 65) (length out) r)

-- a command line in two pieces is the whole
pub command_pieces : (c : Command) (a b : List ℕ) → fed_command (fed_command c a) b ≡ fed_command c (a ++ b)
unfolding fed_command
command_pieces c [] b = refl
command_pieces c (x ∷ a) b = command_pieces (pushed_command c x) a b

pub out_pieces : (out : List ℕ) (at : ℕ) (c : Command) (a b : List ℕ) → fed_out (fed_out out at c a) at (fed_command c a) b ≡ fed_out out at c (a ++ b)
unfolding fed_command fed_out
out_pieces out at c [] b = refl
out_pieces out at c (x ∷ a) b = out_pieces (pushed_out out at c x) at (pushed_command c x) a b

-- where a call took no newline, the next one goes on with the same command line
module _ (c : Command) (a b : List ℕ) (e : taken a ≡ None) where
  pub command_on : fed_command (fed_command c (piece a)) (piece b) ≡ fed_command c (piece (a ++ b))
  command_on = command_pieces c (piece a) (piece b) ∙ ap (fed_command c) (piece_on a b e)

  pub out_on : (out : List ℕ) (at : ℕ) → fed_out (fed_out out at c (piece a)) at (fed_command c (piece a)) (piece b) ≡ fed_out out at c (piece (a ++ b))
  out_on out at = out_pieces out at c (piece a) (piece b) ∙ ap (fed_out out at c) (piece_on a b e)

pub length_out : (s out : List ℕ) (at : ℕ) (c : Command) → length (fed_out out at c s) ≡ length out
unfolding fed_out pushed_out
length_out [] out at c = refl
length_out (b ∷ s) out at c = length_out s (pushed_out out at c b) at (pushed_command c b) ∙ go (is_hex b && not (c.digits % 2 =? 0) && c.digits <? 130 && at + 65 ≤? length out)
  where
    go : (x : Bool) → length (if◌then◌else◌ {A = List ℕ} x (set out (at + c.digits / 2) (c.half % 16 * 16 + hex_digit b)) out) ≡ length out
    go true = length-set out (at + c.digits / 2) (c.half % 16 * 16 + hex_digit b)
    go false = refl
