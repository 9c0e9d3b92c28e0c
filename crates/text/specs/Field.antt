-- What the code keeps of a field, byte by byte, and what it says.
-- Assumes nothing.
use Rattle.std.specs.Prelude.{ℕ, ◌+◌, ◌-◌, ◌*◌, ◌%◌, Bool, ◌&&◌, List, [], ◌∷◌, length, set, replicate, if◌then◌else◌, Option, None, Some, option_map}
use Rattle.std.specs.List.{starts_with}
use Rattle.definition.specs.Table.{◌=?◌, ◌<?◌, ◌≤?◌, u64_max}
use Rattle.ids.specs.declared.ReplicaId.{ReplicaId}
use Rattle.codec.specs.declared.Checksum.{Checksum}
use Rattle.text.specs.Text.{u32_max, is_digit, at_most, hex_digit, is_hex}
use Rattle.text.specs.declared.field.Field.{Field}
use Rattle.text.specs.declared.field.Sum.{Sum}

-- no byte yet; and the field that a read past the end of an array gives
abbrev pub blank_field : Field
blank_field = record { len = 0; word = replicate 16 0; number = Some 0 }

abbrev pub no_field : Field
no_field = record { len = 0; word = []; number = None }

abbrev pub blank_sum : Sum
blank_sum = record { len = 0; checksum = Some (record { a = 0; b = 0; c = 0; d = 0 }) }

-- one more, up to `most`
abbrev pub counted : ℕ → ℕ → ℕ
counted most n = if n <? most then n + 1 else most

-- one more digit of a decimal number up to 2^64 - 1
abbrev pub pushed_digit : ℕ → ℕ → Option ℕ
pushed_digit n b = if is_digit b && n * 10 + (b - 48) ≤? u64_max then Some (n * 10 + (b - 48)) else None

abbrev pub pushed_number : Option ℕ → ℕ → Option ℕ
pushed_number None b = None
pushed_number (Some n) b = pushed_digit n b

unfoldable pub pushed_field : Field → ℕ → Field
pushed_field f b =
    record {
      len = counted 17 f.len;
      word = if f.len <? 16 then set f.word f.len b else f.word;
      number = pushed_number f.number b;
    }

-- the number of a hex digit
abbrev pub hex_of : ℕ → Option ℕ
hex_of b = if is_hex b then Some (hex_digit b) else None

-- one more digit: the number d grows, or the numbers go on by one
abbrev pub shifted_checksum : ℕ → Checksum → ℕ → Checksum
shifted_checksum len x digit =
    if len % 16 =? 0
    then record { a = x.b; b = x.c; c = x.d; d = digit }
    else record { a = x.a; b = x.b; c = x.c; d = x.d % 1152921504606846976 * 16 + digit }

abbrev pub pushed_checksum : ℕ → Option Checksum → ℕ → Option Checksum
pushed_checksum len None b = None
pushed_checksum len (Some x) b = option_map (shifted_checksum len x) (hex_of b)

unfoldable pub pushed_sum : Sum → ℕ → Sum
pushed_sum s b = record { len = counted 65 s.len; checksum = pushed_checksum s.len s.checksum b }

-- up to the space or the end
unfoldable pub up_to_space : List ℕ → List ℕ
up_to_space [] = []
up_to_space (b ∷ s) = if b =? 32 then [] else b ∷ up_to_space s

-- all of s
unfoldable pub fed_field : Field → List ℕ → Field
fed_field f [] = f
fed_field f (b ∷ s) = fed_field (pushed_field f b) s

unfoldable pub fed_sum : Sum → List ℕ → Sum
fed_sum f [] = f
fed_sum f (b ∷ s) = fed_sum (pushed_sum f b) s

-- ---- what a field says: a number up to 2^64 - 1, a record's version, a word of at most 16 bytes, a vote, a checksum

abbrev pub number_on : Field → Option ℕ
number_on f = if f.len =? 0 then None else f.number

abbrev pub version_on : Field → Option ℕ
version_on f = at_most u32_max (number_on f)

abbrev pub word_field : Field → List ℕ → Bool
word_field f w = f.len =? length w && starts_with ◌=?◌ f.word w

abbrev pub letter_field : Field → ℕ → Bool
letter_field f b = word_field f (b ∷ [])

-- '-' (45) for no vote
abbrev pub vote_from : Bool → Option ℕ → Option (Option ReplicaId)
vote_from none o = if none then Some None else option_map (λ n. Some (record { 0 = n })) o

abbrev pub vote_on : Field → Option (Option ReplicaId)
vote_on f = vote_from (letter_field f 45) (number_on f)

abbrev pub checksum_on : Sum → Option Checksum
checksum_on s = if s.len =? 64 then s.checksum else None
