-- What the code reads off a line by place, and what the fields say: a pointer, a hard state and a payload wherever they begin, and
-- whatever is made of them.
-- Assumes nothing.
use mathlib.Core.Path.{◌≡◌, refl, sym, ap, ◌∙◌}
use mathlib.Core.Bool.{Bool, true, false, ◌&&◌, ◌||◌}
use mathlib.Core.List.{List, [], ◌∷◌, ◌++◌}
use Prim.Native.Nat.{ℕ, ◌+◌, ◌<◌, ◌≤◌}
use native.Mathlib.Omega.{arith}
use borrow.Author.Tests.{eq-eqb, ne_eqb, eqb-true, eqb-false, ltb-true, ltb-false}
use lib.ListN.{length, take, length-append}
use lib.Seq.{get_or-append_seam}
use Rattle.std.specs.Prelude.{if◌then◌else◌, Option, None, Some, option_map, option_and_then}
use Rattle.definition.specs.Table.{◌=?◌, ◌<?◌, u64_max, is_some, or_zero, same_bytes}
use Rattle.definition.specs.Records as D
use Rattle.definition.specs.Log.{PointerRecord}
use Rattle.codec.specs.declared.Checksum.{Checksum}
use Rattle.codec.specs.declared.ConfChangeKind.{ConfChangeKind}
use Rattle.codec.specs.declared.DurableRaftEntryPayload.{DurableRaftEntryPayload}
use Rattle.codec.specs.Records.{change_of, payload_of, checksum_of, hard_state_of, pointer_record_of}
use Rattle.text.specs.Text.{u32_max, number, is_number, value, is_checksum, checksum, nth, is_letter, is_vote, vote, command, change, changed}
use Rattle.text.specs.Field.{number_on, version_on, word_field, letter_field, vote_from, vote_on, checksum_on}
use Rattle.text.specs.Record.{field_at, identity_from, hard_state_from, pointer_from, pointer_on, command_at, change_on, configuration_from, payload_on, at_most256, commands_in, Lent}
use Rattle.text.specs.declared.field.Field.{Field}
use Rattle.text.specs.declared.line.Line.{Line}
use Rattle.text.proofs.Numbers.{field_of, number_is, version_is}
use Rattle.text.proofs.Words.{word_is, letter_is, other_word}
use Rattle.text.proofs.Sums.{sum_of, sum_is, checksum_from}
use Rattle.text.proofs.Whole.{Holds, nth_other}
use Rattle.text.proofs.Given.{maybe_payload_of, command_is}

-- ---- a line of n + 1 fields, read by place

pub record Reads (l : Line) (fs : List (List ℕ)) (n : ℕ) : Type 0 where
  pub at : (k : ℕ) → k < n → field_at l k ≡ field_of (nth k fs)
  pub last : l.field ≡ field_of (nth n fs)
  pub sum : 10 ≤ n → l.sum ≡ sum_of (nth n fs)

module _ {l : Line} {fs : List (List ℕ)} {n : ℕ} (r : Reads l fs n) where
  pub num : (k : ℕ) → k < n → number_on (field_at l k) ≡ number u64_max (nth k fs)
  num k h = ap (λ (g : Field). number_on g) (r.at k h) ∙ number_is (nth k fs)

  pub ver : (k : ℕ) → k < n → version_on (field_at l k) ≡ number u32_max (nth k fs)
  ver k h = ap (λ (g : Field). version_on g) (r.at k h) ∙ version_is (nth k fs)

  pub word : (k : ℕ) (w : List ℕ) → k < n → length w ≤ 16 → word_field (field_at l k) w ≡ same_bytes (nth k fs) w
  word k w h i = ap (λ (g : Field). word_field g w) (r.at k h) ∙ word_is (nth k fs) w i

  pub letter : (k b : ℕ) → k < n → letter_field (field_at l k) b ≡ is_letter (nth k fs) b
  letter k b h = word k (b ∷ []) h (omega arith)

  pub letter_last : (b : ℕ) → letter_field l.field b ≡ is_letter (nth n fs) b
  letter_last b = ap (λ (g : Field). letter_field g b) r.last ∙ letter_is (nth n fs) b

  pub num_last : number_on l.field ≡ number u64_max (nth n fs)
  num_last = ap (λ (g : Field). number_on g) r.last ∙ number_is (nth n fs)

  checksum_last : 10 ≤ n → checksum_on l.sum ≡ (if is_checksum (nth n fs) then Some (checksum_from (nth n fs)) else None)
  checksum_last h = ap checksum_on (r.sum h) ∙ sum_is (nth n fs)

-- ---- what the parts say

pub nothing : {A : Type 0} (x : Bool) → ◌≡◌ {A = Option A} (if x then None else None) None
nothing true = refl
nothing false = refl

-- a number, 0 where it is none
abbrev pub of : Option ℕ → ℕ
of o = or_zero (λ n. n) o

hard_state_said : {B : Type 0} (s : D.HardState → B) (x : Bool) (t : Option ℕ) (d : Bool) (o c : Option ℕ)
    → (if x then option_map (λ h. s (hard_state_of h)) (hard_state_from t (vote_from d o) c) else None)
    ≡ (if x && is_some t && is_some c && (d || is_some o)
    then Some (s (record { current_term = of t; voted_for = if d then None else Some (of o); commit = of c }))
    else None)
hard_state_said s x t d o c = grind arith

-- what is made of a pointer, by what its fields say
abbrev pub of_pointer : {B : Type 0} → (PointerRecord → B) → Bool → Option ℕ → Option ℕ → Option ℕ → Option ℕ → Option ℕ → Option ℕ → Option ℕ → Option ℕ → Option ℕ → Bool → D.Checksum → Option B
of_pointer s x v g r d i t p z e y m =
    if x && is_some v && is_some g && is_some r && (is_some d && is_some i && is_some t && is_some p && is_some z && is_some e && y)
    then Some (s (record {
      identity = record { group = of g; replica = of r };
      snapshot = record {
        version = of v;
        snapshot_id = of d;
        last_included_index = of i;
        last_included_term = of t;
        applied_index = of p;
        size_bytes = of z;
        rest = of e;
        checksum = m;
      };
    }))
    else None

pointer_said : {B : Type 0} (s : PointerRecord → B) (x : Bool) (v g r d i t p z e : Option ℕ) (y : Bool) (m : Checksum)
    → (if x then option_map (λ q. s (pointer_record_of q)) (pointer_from v (identity_from g r) d i t p z e (if y then Some m else None)) else None)
    ≡ of_pointer s x v g r d i t p z e y (checksum_of m)
pointer_said s x v g r d i t p z e y m = grind arith

command_said : (t : Bool) (o : Option ℕ) (ls lent : List ℕ) (cs : List (List ℕ)) → ((n : ℕ) → maybe_payload_of (command_at n ls) lent ≡ command cs n)
    → maybe_payload_of (if t then option_and_then (λ n. command_at n ls) o else None) lent ≡ (if t && is_some o then command cs (of o) else None)
command_said false o ls lent cs e = refl
command_said true None ls lent cs e = refl
command_said true (Some n) ls lent cs e = e n

configuration_said : (c : Option ConfChangeKind) (v r : Option ℕ) (lent : List ℕ)
    → maybe_payload_of (configuration_from c v r) lent ≡ (if is_some v && is_some r then changed (option_map change_of c) (of v) (of r) else None)
configuration_said c v r lent = grind arith

change_is : (g : Field) (w : List ℕ) → ((b : ℕ) → letter_field g b ≡ is_letter w b) → option_map change_of (change_on g) ≡ change w
unfolding change_on
change_is g w t = rw (t 65, t 80, t 82) (grind arith)

-- ---- a hard state and a pointer from field k on, to the last field

module _ {l : Line} {fs : List (List ℕ)} {B : Type 0} where
  pub hard_state_is : (s : D.HardState → B) (x : Bool) (k : ℕ) → Reads l fs (k + 2)
      → (if x then option_map (λ h. s (hard_state_of h)) (hard_state_from (number_on (field_at l k)) (vote_on (field_at l (k + 1))) (number_on l.field)) else None)
      ≡ (if x && is_number u64_max (nth k fs) && is_number u64_max (nth (k + 2) fs) && is_vote (nth (k + 1) fs)
      then Some (s (record { current_term = value u64_max (nth k fs); voted_for = vote (nth (k + 1) fs); commit = value u64_max (nth (k + 2) fs) }))
      else None)
  hard_state_is s x k r =
      let t = num r k (omega arith) in
      let d = letter r (k + 1) 45 (omega arith) in
      let o = num r (k + 1) (omega arith) in
      let c = num_last r in
      (λ i. if x then option_map (λ h. s (hard_state_of h)) (hard_state_from (t i) (vote_from (d i) (o i)) (c i)) else None)
      ∙ hard_state_said s x (number u64_max (nth k fs)) (is_letter (nth (k + 1) fs) 45) (number u64_max (nth (k + 1) fs)) (number u64_max (nth (k + 2) fs))

  pub pointer_is : (s : PointerRecord → B) (x : Bool) (k : ℕ) → 1 ≤ k → Reads l fs (k + 9)
      → (if x then option_map (λ q. s (pointer_record_of q)) (pointer_on l k) else None)
      ≡ of_pointer s x (number u32_max (nth k fs)) (number u64_max (nth (k + 1) fs)) (number u64_max (nth (k + 2) fs)) (number u64_max (nth (k + 3) fs))
      (number u64_max (nth (k + 4) fs)) (number u64_max (nth (k + 5) fs)) (number u64_max (nth (k + 6) fs)) (number u64_max (nth (k + 7) fs))
      (number u64_max (nth (k + 8) fs)) (is_checksum (nth (k + 9) fs)) (checksum (nth (k + 9) fs))
  unfolding pointer_on
  pointer_is s x k h r =
      let n : (j : ℕ) → j < 9 → number_on (field_at l (k + j)) ≡ number u64_max (nth (k + j) fs) = λ j m. num r (k + j) (omega arith) in
      let v = ver r k (omega arith) in
      let n1 = n 1 (omega arith) in
      let n2 = n 2 (omega arith) in
      let n3 = n 3 (omega arith) in
      let n4 = n 4 (omega arith) in
      let n5 = n 5 (omega arith) in
      let n6 = n 6 (omega arith) in
      let n7 = n 7 (omega arith) in
      let n8 = n 8 (omega arith) in
      let m = checksum_last r (omega arith) in
      (λ i. if x then option_map (λ q. s (pointer_record_of q)) (pointer_from (v i) (identity_from (n1 i) (n2 i)) (n3 i) (n4 i) (n5 i) (n6 i) (n7 i) (n8 i) (m i)) else None)
      ∙ pointer_said s x (number u32_max (nth k fs)) (number u64_max (nth (k + 1) fs)) (number u64_max (nth (k + 2) fs)) (number u64_max (nth (k + 3) fs))
      (number u64_max (nth (k + 4) fs)) (number u64_max (nth (k + 5) fs)) (number u64_max (nth (k + 6) fs)) (number u64_max (nth (k + 7) fs))
      (number u64_max (nth (k + 8) fs)) (is_checksum (nth (k + 9) fs)) (checksum_from (nth (k + 9) fs))

-- ---- a whole line by the number of its fields

module _ (l : Line) (done : List (List ℕ)) (f : List ℕ) (h : Holds l done f) where
  abbrev all : List (List ℕ)
  all = done ++ (f ∷ [])

  reads : (n : ℕ) → length done ≡ n → n ≤ 12 → Reads l all n
  reads n e i =
      let seam : nth n all ≡ f = ap (λ (k : ℕ). nth k all) (sym e) ∙ get_or-append_seam done f [] [] in
      record {
        at = λ k j. h.at k (omega arith) ∙ ap field_of (sym (nth_other done f k (λ p. omega arith)));
        last = h.last ∙ ap field_of (sym seam);
        sum = λ k. h.sum (omega arith) ∙ ap sum_of (sym seam);
      }

  -- it has n + 1, which the code counts as n closed ones, or another number
  pub by_count : {P : Type 0} (n : ℕ) → n ≤ 11
      → ((l.count =? n) ≡ true → (length all =? n + 1) ≡ true → Reads l all n → P)
      → ((l.count =? n) ≡ false → (length all =? n + 1) ≡ false → P)
      → P
  by_count {P} n i is isnt = go (length done =? n) refl
    where
      m : length all ≡ length done + 1
      m = length-append done (f ∷ [])

      go : (x : Bool) → (length done =? n) ≡ x → P
      go true p =
          let e = eqb-true (length done) n p in
          let c = h.few (omega arith) in
          let u = m in
          is (eq-eqb l.count n (omega arith)) (eq-eqb (length all) (n + 1) (omega arith)) (reads n e (omega arith))
      go false p =
          let e = eqb-false (length done) n p in
          let u = m in
          isnt (ne_eqb l.count n (λ q. other (12 <? length done) refl q)) (ne_eqb (length all) (n + 1) (λ q. e (omega arith)))
        where
          other : (x : Bool) → (12 <? length done) ≡ x → l.count ≡ n → ⊥
          other true r q = let c = h.many (ltb-true 12 (length done) r) in omega arith
          other false r q = let c = h.few (ltb-false 12 (length done) r) in eqb-false (length done) n p (omega arith)

  -- its first field is not two words, and not two letters
  pub one_word : (u v : List ℕ) → length u ≤ 16 → length v ≤ 16 → same_bytes u v ≡ false → word_field (field_at l 0) u ≡ true → word_field (field_at l 0) v ≡ false
  one_word u v a b d e =
      let at : (w : List ℕ) → length w ≤ 16 → word_field (field_at l 0) w ≡ same_bytes (nth 0 done) w = λ w n. ap (λ (k : Field). word_field k w) (h.at 0 (omega arith)) ∙ word_is (nth 0 done) w n in
      at v b ∙ other_word (nth 0 done) u v d (sym (at u a) ∙ e)

  pub one_letter : (a b : ℕ) → same_bytes (a ∷ []) (b ∷ []) ≡ false → letter_field (field_at l 0) a ≡ true → letter_field (field_at l 0) b ≡ false
  one_letter a b = one_word (a ∷ []) (b ∷ []) (omega arith) (omega arith)

  -- ---- a payload from field k on, with the commands whose lengths are given

  module _ (count : ℕ) (lens lent : List ℕ) (g : Lent lens lent) (k : ℕ) (few : k + 2 ≤ 11) where
    abbrev given : List ℕ
    given = take (at_most256 count) lens

    abbrev commands : List (List ℕ)
    commands = commands_in count lens lent

    abbrev pub payload_at : Option D.Payload
    payload_at =
        if length all =? k + 1 + 1
        then (if is_letter (nth k all) 78 && is_number u64_max (nth (k + 1) all) then command commands (value u64_max (nth (k + 1) all)) else None)
        else (if length all =? k + 2 + 1 && is_number u64_max (nth (k + 1) all) && is_number u64_max (nth (k + 2) all)
        then changed (change (nth k all)) (value u64_max (nth (k + 1) all)) (value u64_max (nth (k + 2) all))
        else None)

    payload_is : maybe_payload_of (payload_on l k given) lent ≡ payload_at
    unfolding payload_on
    payload_is =
        by_count (k + 1) (omega arith)
        (λ c m r.
        let d : (l.count =? k + 2) ≡ false = let e = eqb-true l.count (k + 1) c in ne_eqb l.count (k + 2) (λ q. omega arith) in
        let t = letter r k 78 (omega arith) in
        let n = num_last r in
        rw (c, m, d)
        ((λ i. maybe_payload_of (if t i then option_and_then (λ n. command_at n given) (n i) else None) lent)
        ∙ command_said (is_letter (nth k all) 78) (number u64_max (nth (k + 1) all)) given lent commands (λ n. command_is n count lens lent g)))
        (λ c m. by_count (k + 2) few
        (λ d o r.
        let v = num r (k + 1) (omega arith) in
        let n = num_last r in
        rw (c, m, d, o)
        ((λ i. maybe_payload_of (configuration_from (change_on (field_at l k)) (v i) (n i)) lent)
        ∙ configuration_said (change_on (field_at l k)) (number u64_max (nth (k + 1) all)) (number u64_max (nth (k + 2) all)) lent
        ∙ rw (change_is (field_at l k) (nth k all) (λ b. letter r k b (omega arith)))))
        (λ d o. rw (c, m, d, o)))

    -- what is made of a payload says what is said of it, where the fields before it read so
    pub of_payload : {B : Type 0} (F : Option DurableRaftEntryPayload → Option B) (y : Option D.Payload → Option B)
        → F None ≡ y None
        → ((n : ℕ) → k < n → Reads l all n → (p : DurableRaftEntryPayload) → F (Some p) ≡ y (Some (payload_of p lent)))
        → F (payload_on l k given) ≡ y payload_at
    unfolding payload_on
    of_payload {B} F y none some =
        by_count (k + 1) (omega arith) (λ c m r. each (some (k + 1) (omega arith) r) (payload_on l k given) ∙ ap y payload_is)
        (λ c m. by_count (k + 2) few (λ d o r. each (some (k + 2) (omega arith) r) (payload_on l k given) ∙ ap y payload_is)
        (λ d o. rw (c, m, d, o) none))
      where
        each : ((p : DurableRaftEntryPayload) → F (Some p) ≡ y (Some (payload_of p lent))) → (o : Option DurableRaftEntryPayload) → F o ≡ y (maybe_payload_of o lent)
        each e None = none
        each e (Some p) = e p
