-- What the code reads off a whole line is the record that the line says.
-- Assumes nothing.
use mathlib.Core.Path.{◌≡◌, refl, sym, ap, ◌∙◌}
use mathlib.Core.Bool.{Bool, true, false, ◌&&◌, and_assoc}
use mathlib.Core.List.{List, [], ◌∷◌, ◌++◌}
use Prim.Native.Nat.{ℕ}
use native.Mathlib.Omega.{arith}
use lib.ListN.{take}
use Rattle.std.specs.Prelude.{if◌then◌else◌, Option, None, Some, option_map}
use Rattle.definition.specs.Table.{u64_max, is_some}
use Rattle.definition.specs.Records as D
use Rattle.definition.specs.Log.{PointerRecord}
use Rattle.codec.specs.declared.DurableRaftEntryPayload.{DurableRaftEntryPayload}
use Rattle.codec.specs.declared.HardState.{HardState}
use Rattle.codec.specs.declared.RaftSnapshotPointerRecord.{RaftSnapshotPointerRecord}
use Rattle.codec.specs.declared.RaftWalRecord.{RaftWalRecord}
use Rattle.codec.specs.declared.RaftWalRecord.TheVariants as W
use Rattle.codec.specs.declared.WalRecord.{WalRecord}
use Rattle.codec.specs.Records.{hard_state_of, pointer_record_of}
use Rattle.text.specs.Text.{u32_max, number, is_number, nth, is_letter, is_owned, version, foreign_record, hard_state_record, entry_of, entry_record, pointer_record, first, record_fields, record_line}
use Rattle.text.specs.Field.{number_on, version_on, letter_field, vote_on}
use Rattle.text.specs.Line.{blank_line, fed}
use Rattle.text.specs.Record.{field_at, identity_from, hard_state_from, pointer_on, foreign_from, foreign_on, hard_state_record_from, hard_state_on, pointer_record_on, entry_from, entry_on, raft_from, line_record, maybe_record_of, at_most256, commands_in, Lent}
use Rattle.text.specs.declared.line.Line.{Line}
use Rattle.text.proofs.Whole.{Holds, ended}
use Rattle.text.proofs.Given.{maybe_payload_of}
use Rattle.text.proofs.Forms.{num, ver, letter, num_last, of, nothing, hard_state_is, pointer_is, by_count, one_letter, of_payload}

-- ---- a form by what its fields say

foreign_said : (x : Bool) (o : Option ℕ) (lent : List ℕ)
    → maybe_record_of (if x then foreign_from o else None) lent ≡ (if x && is_some o then Some (record { lsn = of o; body = D.foreign }) else None)
foreign_said x o lent = grind arith

-- the record of a replica: LSN, group, replica and kind
abbrev said : Option ℕ → Option ℕ → Option ℕ → D.Kind → D.Record
said a g r k = record { lsn = of a; body = D.raft (record { group = of g; replica = of r }) k }

owned_hard_state : (x : Bool) (a v g r : Option ℕ) (o : Option HardState) (lent : List ℕ)
    → maybe_record_of (if x then raft_from a (option_map W.HardState (hard_state_record_from v (identity_from g r) o)) else None) lent
    ≡ (if x && (is_some a && is_some v && is_some g && is_some r) then option_map (λ h. said a g r (D.hard_state (of v) (hard_state_of h))) o else None)
owned_hard_state x a v g r o lent = grind arith

-- the record of a pointer
abbrev pointed : Option ℕ → PointerRecord → D.Record
pointed a p = record { lsn = of a; body = D.raft p.identity (D.pointer p.snapshot) }

owned_pointer : (x : Bool) (a : Option ℕ) (o : Option RaftSnapshotPointerRecord) (lent : List ℕ)
    → maybe_record_of (if x then raft_from a (option_map W.SnapshotPointer o) else None) lent
    ≡ (if x && is_some a then option_map (λ p. pointed a (pointer_record_of p)) o else None)
owned_pointer x a o lent = grind arith

abbrev entry_made : Bool → Option ℕ → Option ℕ → Option ℕ → Option ℕ → Option ℕ → Option ℕ → List ℕ → Option DurableRaftEntryPayload → Option D.Record
entry_made x a v g r i t lent o = maybe_record_of (if x then raft_from a (option_map W.Entry (entry_from v (identity_from g r) i t o)) else None) lent

owned_entry : (x : Bool) (a v g r i t : Option ℕ) (lent : List ℕ) (o : Option DurableRaftEntryPayload)
    → entry_made x a v g r i t lent o
    ≡ (if x && (is_some a && is_some v && is_some g && is_some r) && is_some i && is_some t
    then option_map (λ q. said a g r (D.entry (of v) (record { index = of i; term = of t; payload = q }))) (maybe_payload_of o lent)
    else None)
owned_entry x a v g r i t lent o = grind arith

no_body : (x : Bool) (lsn : Option ℕ) (lent : List ℕ) → maybe_record_of (if x then raft_from lsn None else None) lent ≡ None
no_body x lsn lent = grind arith

-- a line that has one of four forms at most
chosen : (x y z w : Bool) → (x ≡ true → y ≡ false) → (x ≡ true → z ≡ false) → (x ≡ true → w ≡ false) → (y ≡ true → z ≡ false) → (y ≡ true → w ≡ false) → (z ≡ true → w ≡ false)
    → (a : Option WalRecord) (n : Option ℕ) (b c d : Option RaftWalRecord) (lent : List ℕ)
    → maybe_record_of (if x then a else raft_from n (if y then b else (if z then c else (if w then d else None)))) lent
    ≡ first (maybe_record_of (if x then a else None) lent) (first (maybe_record_of (if y then raft_from n b else None) lent) (first (maybe_record_of (if z then raft_from n c else None) lent) (maybe_record_of (if w then raft_from n d else None) lent)))
chosen x y z w p q r s t u a n b c d lent = grind (arith, p, q, r, s, t, u)

module _ (l : Line) (done : List (List ℕ)) (f : List ℕ) (h : Holds l done f) where
  abbrev all : List (List ℕ)
  all = done ++ (f ∷ [])

  -- ---- F

  abbrev foreign_if : Option WalRecord
  foreign_if = if letter_field (field_at l 0) 70 then foreign_on l else None

  foreign_is : (lent : List ℕ) → maybe_record_of foreign_if lent ≡ foreign_record all
  unfolding foreign_on
  foreign_is lent =
      by_count l done f h 1 (omega arith)
      (λ c m r.
      let t0 = letter r 0 70 (omega arith) in
      let n1 = num_last r in
      rw (c, m) ((λ i. maybe_record_of (if t0 i then foreign_from (n1 i) else None) lent)
      ∙ foreign_said (is_letter (nth 0 all) 70) (number u64_max (nth 1 all)) lent))
      (λ c m. rw (c, m) (ap (λ (o : Option WalRecord). maybe_record_of o lent) (nothing (letter_field (field_at l 0) 70))))

  -- ---- H

  abbrev hard_state_if : Option WalRecord
  hard_state_if = if letter_field (field_at l 0) 72 then raft_from (number_on (field_at l 1)) (option_map W.HardState (hard_state_on l)) else None

  hard_state_line : (lent : List ℕ) → maybe_record_of hard_state_if lent ≡ hard_state_record all
  unfolding hard_state_on
  hard_state_line lent =
      by_count l done f h 7 (omega arith)
      (λ c m r.
      let t0 = letter r 0 72 (omega arith) in
      let n1 = num r 1 (omega arith) in
      let v2 = ver r 2 (omega arith) in
      let n3 = num r 3 (omega arith) in
      let n4 = num r 4 (omega arith) in
      rw (c, m)
      ((λ i. maybe_record_of (if t0 i then raft_from (n1 i) (option_map W.HardState (hard_state_record_from (v2 i) (identity_from (n3 i) (n4 i)) (hard_state_from (number_on (field_at l 5)) (vote_on (field_at l 6)) (number_on l.field)))) else None) lent)
      ∙ owned_hard_state (is_letter (nth 0 all) 72) (number u64_max (nth 1 all)) (number u32_max (nth 2 all)) (number u64_max (nth 3 all)) (number u64_max (nth 4 all)) _ lent
      ∙ hard_state_is (λ h. said (number u64_max (nth 1 all)) (number u64_max (nth 3 all)) (number u64_max (nth 4 all)) (D.hard_state (version all) h)) (is_letter (nth 0 all) 72 && is_owned all) 5 r))
      (λ c m. rw (c, m) (no_body (letter_field (field_at l 0) 72) (number_on (field_at l 1)) lent))

  -- ---- P

  abbrev pointer_if : Option WalRecord
  pointer_if = if letter_field (field_at l 0) 80 then raft_from (number_on (field_at l 1)) (option_map W.SnapshotPointer (pointer_record_on l)) else None

  pointer_line : (lent : List ℕ) → maybe_record_of pointer_if lent ≡ pointer_record all
  pointer_line lent =
      by_count l done f h 11 (omega arith)
      (λ c m r.
      let t0 = letter r 0 80 (omega arith) in
      let n1 = num r 1 (omega arith) in
      rw (c, m)
      ((λ i. maybe_record_of (if t0 i then raft_from (n1 i) (option_map W.SnapshotPointer (pointer_on l 2)) else None) lent)
      ∙ owned_pointer (is_letter (nth 0 all) 80) (number u64_max (nth 1 all)) (pointer_on l 2) lent
      ∙ pointer_is (pointed (number u64_max (nth 1 all))) (is_letter (nth 0 all) 80 && is_number u64_max (nth 1 all)) 2 (omega arith) r
      ∙ simp (and_assoc)))
      (λ c m. rw (c, m) (no_body (letter_field (field_at l 0) 80) (number_on (field_at l 1)) lent))

  -- ---- E, with the commands whose lengths are given

  module _ (count : ℕ) (lens lent : List ℕ) (g : Lent lens lent) where
    abbrev given : List ℕ
    given = take (at_most256 count) lens

    abbrev commands : List (List ℕ)
    commands = commands_in count lens lent

    abbrev entry_if : Option WalRecord
    entry_if = if letter_field (field_at l 0) 69 then raft_from (number_on (field_at l 1)) (option_map W.Entry (entry_on l given)) else None

    entry_is : maybe_record_of entry_if lent ≡ entry_record commands all
    unfolding entry_on
    entry_is =
        of_payload l done f h count lens lent g 7 (omega arith)
        (entry_made (letter_field (field_at l 0) 69) (number_on (field_at l 1)) (version_on (field_at l 2)) (number_on (field_at l 3)) (number_on (field_at l 4)) (number_on (field_at l 5)) (number_on (field_at l 6)) lent)
        (λ o. if is_letter (nth 0 all) 69 && is_owned all && is_number u64_max (nth 5 all) && is_number u64_max (nth 6 all) then entry_of all o else None)
        (owned_entry (letter_field (field_at l 0) 69) (number_on (field_at l 1)) (version_on (field_at l 2)) (number_on (field_at l 3)) (number_on (field_at l 4)) (number_on (field_at l 5)) (number_on (field_at l 6)) lent None
        ∙ nothing _
        ∙ sym (nothing (is_letter (nth 0 all) 69 && is_owned all && is_number u64_max (nth 5 all) && is_number u64_max (nth 6 all))))
        (λ n k r p.
        let t0 = letter r 0 69 (omega arith) in
        let n1 = num r 1 (omega arith) in
        let v2 = ver r 2 (omega arith) in
        let n3 = num r 3 (omega arith) in
        let n4 = num r 4 (omega arith) in
        let n5 = num r 5 (omega arith) in
        let n6 = num r 6 (omega arith) in
        (λ i. entry_made (t0 i) (n1 i) (v2 i) (n3 i) (n4 i) (n5 i) (n6 i) lent (Some p))
        ∙ owned_entry (is_letter (nth 0 all) 69) (number u64_max (nth 1 all)) (number u32_max (nth 2 all)) (number u64_max (nth 3 all)) (number u64_max (nth 4 all)) (number u64_max (nth 5 all)) (number u64_max (nth 6 all)) lent (Some p))

    -- ---- the form that it has: one letter at most

    fields_are : maybe_record_of (line_record l given) lent ≡ record_fields commands all
    unfolding line_record record_fields
    fields_are =
        let one = one_letter l done f h in
        chosen (letter_field (field_at l 0) 70) (letter_field (field_at l 0) 72) (letter_field (field_at l 0) 80) (letter_field (field_at l 0) 69)
        (one 70 72 refl) (one 70 80 refl) (one 70 69 refl) (one 72 80 refl) (one 72 69 refl) (one 80 69 refl)
        (foreign_on l) (number_on (field_at l 1)) (option_map W.HardState (hard_state_on l)) (option_map W.SnapshotPointer (pointer_record_on l)) (option_map W.Entry (entry_on l given)) lent
        ∙ (λ i. first (foreign_is lent i) (first (hard_state_line lent i) (first (pointer_line lent i) (entry_is i))))

-- THE LAW: a whole line, in pieces of any size, says its record, with the commands that stand in the lent bytes.
pub record_is : (s : List ℕ) (count : ℕ) (lens lent : List ℕ) → Lent lens lent
    → maybe_record_of (line_record (fed blank_line s) (take (at_most256 count) lens)) lent ≡ record_line (commands_in count lens lent) s
unfolding record_line
record_is s count lens lent g =
    let e = ended s in
    fields_are (fed blank_line s) e.done e.f e.holds count lens lent g ∙ ap (λ (fs : List (List ℕ)). record_fields (commands_in count lens lent) fs) (sym e.parts)
