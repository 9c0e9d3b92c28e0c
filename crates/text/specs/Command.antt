-- What the code keeps of a command line, and what it writes: each pair of hex digits is a byte, at most 65 of them from `at` on.
-- Assumes nothing.
use Rattle.std.specs.Prelude.{ℕ, ◌+◌, ◌*◌, ◌/◌, ◌%◌, true, false, not, ◌&&◌, List, [], ◌∷◌, length, set, if◌then◌else◌, Option, None, Some}
use Rattle.definition.specs.Table.{◌=?◌, ◌<?◌, ◌≤?◌}
use Rattle.text.specs.Text.{hex_digit, is_hex}
use Rattle.text.specs.Field.{counted}
use Rattle.text.specs.declared.command.Command.{Command}

-- no byte yet
abbrev pub blank_command : Command
blank_command = record { digits = 0; half = 0; hex = true }

-- one more byte
unfoldable pub pushed_command : Command → ℕ → Command
pushed_command c b =
    if is_hex b
    then record { digits = counted 131 c.digits; half = hex_digit b; hex = c.hex }
    else record { digits = counted 131 c.digits; half = c.half; hex = false }

-- what it writes: the second digit of a pair, where 65 bytes have room
unfoldable pub pushed_out : List ℕ → ℕ → Command → ℕ → List ℕ
pushed_out out at c b =
    if is_hex b && not (c.digits % 2 =? 0) && c.digits <? 130 && at + 65 ≤? length out
    then set out (at + c.digits / 2) (c.half % 16 * 16 + hex_digit b)
    else out

-- all of s
unfoldable pub fed_command : Command → List ℕ → Command
fed_command c [] = c
fed_command c (b ∷ s) = fed_command (pushed_command c b) s

unfoldable pub fed_out : List ℕ → ℕ → Command → List ℕ → List ℕ
fed_out out at c [] = out
fed_out out at c (b ∷ s) = fed_out (pushed_out out at c b) at (pushed_command c b) s

-- the bytes of a whole line, where it is a command
unfoldable pub len_of : Command → Option ℕ
len_of c = if c.hex && c.digits % 2 =? 0 && c.digits ≤? 130 then Some (c.digits / 2) else None
