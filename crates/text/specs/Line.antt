-- What the code keeps of a line: what it is so far, and what reading on makes of it.
-- Assumes nothing.
use Rattle.std.specs.Prelude.{ℕ, ◌+◌, Bool, true, false, List, [], ◌∷◌, replicate, set, if◌then◌else◌, Option, option_map, position}
use Rattle.definition.specs.Table.{◌=?◌, ◌<?◌}
use Rattle.text.specs.Field.{blank_field, blank_sum, counted, pushed_field, pushed_sum, fed_field, fed_sum}
use Rattle.text.specs.declared.line.Line.{Line}

-- no byte yet
abbrev pub blank_line : Line
blank_line = record { fields = replicate 12 blank_field; count = 0; field = blank_field; sum = blank_sum }

-- the field is closed: behind 12 only that there are more is kept
unfoldable pub closed : Line → Line
closed l =
    record {
      fields = if l.count <? 12 then set l.fields l.count l.field else l.fields;
      count = counted 13 l.count;
      field = blank_field;
      sum = if l.count <? 10 then l.sum else blank_sum;
    }

-- one more byte of the field; from the 11th field on it may be a checksum
unfoldable pub extended : Line → ℕ → Line
extended l b =
    record {
      fields = l.fields;
      count = l.count;
      field = pushed_field l.field b;
      sum = if l.count <? 10 then l.sum else pushed_sum l.sum b;
    }

-- more bytes of the field
abbrev pub extended_by : Line → List ℕ → Line
extended_by l s =
    record { fields = l.fields; count = l.count; field = fed_field l.field s; sum = if l.count <? 10 then l.sum else fed_sum l.sum s }

-- one more byte of the line
abbrev pub pushed : Line → ℕ → Line
pushed l b = if b =? 32 then closed l else extended l b

unfoldable pub fed : Line → List ℕ → Line
fed l [] = l
fed l (b ∷ s) = fed (pushed l b) s

-- up to the newline or the end, and whether a newline is there
unfoldable pub piece : List ℕ → List ℕ
piece [] = []
piece (b ∷ s) = if b =? 10 then [] else b ∷ piece s

unfoldable pub has_newline : List ℕ → Bool
has_newline [] = false
has_newline (b ∷ s) = if b =? 10 then true else has_newline s

-- where the first newline stands, and how many bytes a line takes with it
abbrev pub newline_at : List ℕ → Option ℕ
newline_at s = position (λ b. b =? 10) s

abbrev pub taken : List ℕ → Option ℕ
taken s = option_map (λ i. i + 1) (newline_at s)
