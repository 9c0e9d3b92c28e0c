-- What the code reads off a whole header line is the number that it says.
-- Assumes nothing.
use mathlib.Core.Path.{◌≡◌}
use mathlib.Core.Bool.{◌&&◌}
use mathlib.Core.List.{List, [], ◌∷◌, ◌++◌}
use Prim.Native.Nat.{ℕ, ◌≤◌}
use native.Mathlib.Omega.{arith}
use lib.ListN.{length}
use Rattle.std.specs.Prelude.{if◌then◌else◌, None}
use Rattle.definition.specs.Table.{◌=?◌, u64_max, same_bytes}
use Rattle.text.specs.Text.{numeral, number, nth, header_line, commands_word, records_word}
use Rattle.text.specs.Line.{blank_line, fed}
use Rattle.text.specs.Record.{line_header}
use Rattle.text.specs.declared.line.Line.{Line}
use Rattle.text.proofs.Numbers.{number_is, narrow}
use Rattle.text.proofs.Words.{word_is}
use Rattle.text.proofs.Whole.{Holds, ended}
use Rattle.text.proofs.Forms.{by_count}

module _ (l : Line) (done : List (List ℕ)) (f : List ℕ) (h : Holds l done f) (word : List ℕ) (most : ℕ) where
  abbrev all : List (List ℕ)
  all = done ++ (f ∷ [])

  pub header_fields : length word ≤ 16 → most ≤ u64_max
      → line_header l word most ≡ (if length all =? 2 && same_bytes (nth 0 all) word then number most (nth 1 all) else None)
  unfolding line_header
  header_fields w k =
      by_count l done f h 1 (omega arith)
      (λ c m r. rw (c, m, r.at 0 (omega arith), word_is (nth 0 all) word w, r.last, number_is (nth 1 all), narrow most k (numeral (nth 1 all))))
      (λ c m. rw (c, m))

-- THE LAW of a header: a word of at most 16 bytes, and a number up to `most`
pub header_is : (s word : List ℕ) (most : ℕ) → length word ≤ 16 → most ≤ u64_max → line_header (fed blank_line s) word most ≡ header_line word most s
unfolding header_line
header_is s word most w k = let e = ended s in rw e.parts (header_fields (fed blank_line s) e.done e.f e.holds word most w k)

pub commands_is : (s : List ℕ) → line_header (fed blank_line s) commands_word 256 ≡ header_line commands_word 256 s
commands_is s = header_is s commands_word 256 (omega arith) (omega arith)

pub records_is : (s : List ℕ) → line_header (fed blank_line s) records_word 4096 ≡ header_line records_word 4096 s
records_is s = header_is s records_word 4096 (omega arith) (omega arith)
