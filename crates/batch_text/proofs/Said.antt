-- What the code reads off a whole line of a batch is what the line says.
-- Assumes nothing.
use mathlib.Core.Path.{◌≡◌, refl, sym, ap, ◌∙◌}
use mathlib.Core.Bool.{Bool, true, false, ◌&&◌, and-false}
use mathlib.Core.List.{List, [], ◌∷◌, ◌++◌}
use Prim.Native.Nat.{ℕ}
use native.Mathlib.Omega.{arith}
use lib.ListN.{length, take}
use Rattle.std.specs.Prelude.{if◌then◌else◌, Option, None, Some, option_map}
use Rattle.definition.specs.Table.{◌=?◌, u64_max, is_some, same_bytes}
use Rattle.codec.specs.declared.DurableRaftEntryPayload.{DurableRaftEntryPayload}
use Rattle.text.specs.Text.{number, is_number, value, nth, is_letter}
use Rattle.text.specs.Field.{number_on, letter_field, vote_on}
use Rattle.text.specs.Line.{blank_line, fed}
use Rattle.text.specs.Record.{field_at, identity_from, hard_state_from, pointer_on, line_header, at_most256, commands_in, Lent}
use Rattle.text.specs.declared.line.Line.{Line}
use Rattle.text.proofs.Whole.{Holds, ended}
use Rattle.text.proofs.Given.{maybe_payload_of}
use Rattle.text.proofs.Forms.{num, word, letter, letter_last, num_last, of, nothing, hard_state_is, pointer_is, by_count, one_word, one_letter, of_payload}
use Rattle.text.proofs.Headers.{header_fields}
use Rattle.batch_text.specs.Text as T
use Rattle.batch_text.specs.Text.{Said, finish_word, batch_word, show_word, finish_line, batch_line, fields_say, line_says}
use Rattle.batch_text.specs.Line.{finish_on, identity_on, snapshot_on, hard_state_on, entry_from, entry_on, line_on, maybe_finish_of, maybe_identity_of, said_of, maybe_said_of}
use Rattle.batch_text.specs.declared.BatchLine.{BatchLine}
use Rattle.batch_text.specs.declared.BatchLine.TheVariants as L

-- ---- a form by what its fields say

-- a line made of one part
made : {A : Type 0} (C : A → BatchLine) (x : Bool) (o : Option A) (lent : List ℕ)
    → maybe_said_of (if x then option_map C o else None) lent ≡ (if x then option_map (λ a. said_of (C a) lent) o else None)
made C x o lent = grind arith

abbrev entry_made : Bool → Option ℕ → Option ℕ → List ℕ → Option DurableRaftEntryPayload → Option Said
entry_made x i t lent o = maybe_said_of (if x then option_map L.Entry (entry_from i t o) else None) lent

entry_said : (x : Bool) (i t : Option ℕ) (lent : List ℕ) (o : Option DurableRaftEntryPayload)
    → entry_made x i t lent o
    ≡ (if x && is_some i && is_some t then option_map (λ q. T.entry (record { index = of i; term = of t; payload = q })) (maybe_payload_of o lent) else None)
entry_said x i t lent o = grind arith

finish_said : (x y z : Bool)
    → maybe_finish_of (if x then (if y then Some false else (if z then Some true else None)) else None) ≡ (if x then (if y then Some 0 else (if z then Some 1 else None)) else None)
finish_said x y z = grind arith

identity_said : (x : Bool) (g r : Option ℕ)
    → maybe_identity_of (if x then identity_from g r else None) ≡ (if x && is_some g && is_some r then Some (record { group = of g; replica = of r }) else None)
identity_said x g r = grind arith

-- a line that has one of three letters at most, or is a `show`
chosen : (x y z : Bool) (p q r t : Option BatchLine) (lent : List ℕ) → (x ≡ true → y ≡ false) → (x ≡ true → z ≡ false) → (y ≡ true → z ≡ false)
    → (x ≡ true → t ≡ None) → (y ≡ true → t ≡ None) → (z ≡ true → t ≡ None)
    → maybe_said_of (if x then p else (if y then q else (if z then r else t))) lent
    ≡ T.first (maybe_said_of (if x then p else None) lent) (T.first (maybe_said_of (if y then q else None) lent) (T.first (maybe_said_of t lent) (maybe_said_of (if z then r else None) lent)))
chosen x y z p q r t lent a b c d e f = grind (arith, a, b, c, d, e, f)

module _ (l : Line) (done : List (List ℕ)) (f : List ℕ) (h : Holds l done f) where
  abbrev all : List (List ℕ)
  all = done ++ (f ∷ [])

  -- ---- H

  abbrev hard_state_if : Option BatchLine
  hard_state_if = if letter_field (field_at l 0) 72 then option_map L.HardState (hard_state_on l) else None

  hard_state_line : (lent : List ℕ) → maybe_said_of hard_state_if lent ≡ T.hard_state_said all
  hard_state_line lent =
      by_count l done f h 3 (omega arith)
      (λ c m r.
      let t0 = letter r 0 72 (omega arith) in
      rw (c, m)
      ((λ i. maybe_said_of (if t0 i then option_map L.HardState (hard_state_from (number_on (field_at l 1)) (vote_on (field_at l 2)) (number_on l.field)) else None) lent)
      ∙ made L.HardState (is_letter (nth 0 all) 72) _ lent
      ∙ hard_state_is T.hard_state (is_letter (nth 0 all) 72) 1 r))
      (λ c m. rw (c, m) (made L.HardState (letter_field (field_at l 0) 72) None lent ∙ nothing (letter_field (field_at l 0) 72)))

  -- ---- P

  abbrev pointer_if : Option BatchLine
  pointer_if = if letter_field (field_at l 0) 80 then option_map L.Pointer (snapshot_on l) else None

  pointer_line : (lent : List ℕ) → maybe_said_of pointer_if lent ≡ T.pointer_said all
  pointer_line lent =
      by_count l done f h 10 (omega arith)
      (λ c m r.
      let t0 = letter r 0 80 (omega arith) in
      rw (c, m)
      ((λ i. maybe_said_of (if t0 i then option_map L.Pointer (pointer_on l 1) else None) lent)
      ∙ made L.Pointer (is_letter (nth 0 all) 80) (pointer_on l 1) lent
      ∙ pointer_is T.pointer (is_letter (nth 0 all) 80) 1 (omega arith) r))
      (λ c m. rw (c, m) (made L.Pointer (letter_field (field_at l 0) 80) None lent ∙ nothing (letter_field (field_at l 0) 80)))

  -- ---- show

  abbrev show_of : Option BatchLine
  show_of = option_map L.Show (line_header l show_word u64_max)

  shown : (o : Option ℕ) (lent : List ℕ) → maybe_said_of (option_map L.Show o) lent ≡ T.index_said o
  shown None lent = refl
  shown (Some n) lent = refl

  show_is : (lent : List ℕ) → maybe_said_of show_of lent ≡ T.show_said all
  show_is lent = shown (line_header l show_word u64_max) lent ∙ ap T.index_said (header_fields l done f h show_word u64_max (omega arith) (omega arith))

  -- ---- E, with the commands whose lengths are given

  module _ (count : ℕ) (lens lent : List ℕ) (g : Lent lens lent) where
    abbrev given : List ℕ
    given = take (at_most256 count) lens

    abbrev commands : List (List ℕ)
    commands = commands_in count lens lent

    abbrev entry_if : Option BatchLine
    entry_if = if letter_field (field_at l 0) 69 then option_map L.Entry (entry_on l given) else None

    entry_is : maybe_said_of entry_if lent ≡ T.entry_said commands all
    entry_is =
        of_payload l done f h count lens lent g 3 (omega arith)
        (entry_made (letter_field (field_at l 0) 69) (number_on (field_at l 1)) (number_on (field_at l 2)) lent)
        (λ o. if is_letter (nth 0 all) 69 && is_number u64_max (nth 1 all) && is_number u64_max (nth 2 all) then T.entry_with all o else None)
        (entry_said (letter_field (field_at l 0) 69) (number_on (field_at l 1)) (number_on (field_at l 2)) lent None
        ∙ nothing _
        ∙ sym (nothing (is_letter (nth 0 all) 69 && is_number u64_max (nth 1 all) && is_number u64_max (nth 2 all))))
        (λ n k r p.
        let t0 = letter r 0 69 (omega arith) in
        let n1 = num r 1 (omega arith) in
        let n2 = num r 2 (omega arith) in
        (λ i. entry_made (t0 i) (n1 i) (n2 i) lent (Some p))
        ∙ entry_said (is_letter (nth 0 all) 69) (number u64_max (nth 1 all)) (number u64_max (nth 2 all)) lent (Some p))

    -- ---- the form that it has: one letter at most, or `show`

    not_show : (a : ℕ) → same_bytes (a ∷ []) show_word ≡ false → letter_field (field_at l 0) a ≡ true → line_header l show_word u64_max ≡ None
    unfolding line_header
    not_show a d e = rw (one_word l done f h (a ∷ []) show_word (omega arith) (omega arith) d e, and-false (l.count =? 1))

    said_are : maybe_said_of (line_on l given) lent ≡ fields_say commands all
    unfolding line_on fields_say
    said_are =
        let one = one_letter l done f h in
        chosen (letter_field (field_at l 0) 80) (letter_field (field_at l 0) 72) (letter_field (field_at l 0) 69)
        (option_map L.Pointer (snapshot_on l)) (option_map L.HardState (hard_state_on l)) (option_map L.Entry (entry_on l given)) show_of lent
        (one 80 72 refl) (one 80 69 refl) (one 72 69 refl)
        (λ e. ap (option_map L.Show) (not_show 80 refl e)) (λ e. ap (option_map L.Show) (not_show 72 refl e)) (λ e. ap (option_map L.Show) (not_show 69 refl e))
        ∙ (λ i. T.first (pointer_line lent i) (T.first (hard_state_line lent i) (T.first (show_is lent i) (entry_is i))))

  -- ---- finish and batch

  finish_fields : maybe_finish_of (finish_on l) ≡ (if length all =? 2 && same_bytes (nth 0 all) finish_word then (if is_letter (nth 1 all) 48 then Some 0 else (if is_letter (nth 1 all) 49 then Some 1 else None)) else None)
  unfolding finish_on
  finish_fields =
      by_count l done f h 1 (omega arith)
      (λ c m r.
      let w = word r 0 finish_word (omega arith) (omega arith) in
      let t0 = letter_last r 48 in
      let t1 = letter_last r 49 in
      rw (c, m)
      ((λ i. maybe_finish_of (if w i then (if t0 i then Some false else (if t1 i then Some true else None)) else None))
      ∙ finish_said (same_bytes (nth 0 all) finish_word) (is_letter (nth 1 all) 48) (is_letter (nth 1 all) 49)))
      (λ c m. rw (c, m))

  identity_fields : maybe_identity_of (identity_on l) ≡ (if length all =? 3 && same_bytes (nth 0 all) batch_word && is_number u64_max (nth 1 all) && is_number u64_max (nth 2 all) then Some (record { group = value u64_max (nth 1 all); replica = value u64_max (nth 2 all) }) else None)
  unfolding identity_on
  identity_fields =
      by_count l done f h 2 (omega arith)
      (λ c m r.
      let w = word r 0 batch_word (omega arith) (omega arith) in
      let n1 = num r 1 (omega arith) in
      let n2 = num_last r in
      rw (c, m)
      ((λ i. maybe_identity_of (if w i then identity_from (n1 i) (n2 i) else None))
      ∙ identity_said (same_bytes (nth 0 all) batch_word) (number u64_max (nth 1 all)) (number u64_max (nth 2 all))))
      (λ c m. rw (c, m))

-- ---- THE LAWS: a whole line, in pieces of any size

-- says what it says, with the commands that stand in the lent bytes
pub said_is : (s : List ℕ) (count : ℕ) (lens lent : List ℕ) → Lent lens lent
    → maybe_said_of (line_on (fed blank_line s) (take (at_most256 count) lens)) lent ≡ line_says (commands_in count lens lent) s
unfolding line_says
said_is s count lens lent g =
    let e = ended s in
    said_are (fed blank_line s) e.done e.f e.holds count lens lent g ∙ ap (λ (fs : List (List ℕ)). fields_say (commands_in count lens lent) fs) (sym e.parts)

pub finish_is : (s : List ℕ) → maybe_finish_of (finish_on (fed blank_line s)) ≡ finish_line s
unfolding finish_line
finish_is s = let e = ended s in rw e.parts (finish_fields (fed blank_line s) e.done e.f e.holds)

pub batch_is : (s : List ℕ) → maybe_identity_of (identity_on (fed blank_line s)) ≡ batch_line s
unfolding batch_line
batch_is s = let e = ended s in rw e.parts (identity_fields (fed blank_line s) e.done e.f e.holds)
