-- A whole line as the code keeps it, and its fields.
-- Assumes nothing.
use mathlib.Core.Path.{◌≡◌, refl, sym, ◌∙◌}
use mathlib.Core.Bool.{Bool, true, false}
use mathlib.Core.List.{List, [], ◌∷◌, ◌++◌, append_assoc}
use Prim.Native.Nat.{ℕ, ◌+◌, ◌<◌, ◌≤◌}
use native.Mathlib.Omega.{arith}
use borrow.Author.Tests.{lt-ltb, le-ltb, ltb-true, ltb-false, eqb-true, eqb-false}
use lib.ListN.{length, get_or, set, length-append, length-set, get_or-replicate, get_or-append, get_or-eq_default}
use lib.Seq.{get_or-set_same, get_or-set_other, get_or-append_seam}
use Rattle.std.specs.Prelude.{if◌then◌else◌}
use Rattle.definition.specs.Table.{◌=?◌, ◌<?◌}
use Rattle.text.specs.Text.{fields_from, fields, nth}
use Rattle.text.specs.Field.{no_field, blank_field, blank_sum, fed_field, fed_sum}
use Rattle.text.specs.Line.{blank_line, closed, extended, fed}
use Rattle.text.specs.Record.{field_at}
use Rattle.text.specs.declared.field.Field.{Field}
use Rattle.text.specs.declared.line.Line.{Line}
use Rattle.text.proofs.Numbers.{field_of, fed_snoc}
use Rattle.text.proofs.Sums.{sum_of, sum_snoc}

-- the line has these closed fields, and f open
pub record Holds (l : Line) (done : List (List ℕ)) (f : List ℕ) : Type 0 where
  pub few : length done ≤ 12 → l.count ≡ length done
  pub many : 12 < length done → l.count ≡ 13
  pub size : length l.fields ≡ 12
  pub at : (k : ℕ) → k < 12 → field_at l k ≡ field_of (nth k done)
  pub last : l.field ≡ field_of f
  pub early : length done < 10 → l.sum ≡ blank_sum
  pub sum : 10 ≤ length done → l.sum ≡ sum_of f

-- the count is below what it is held against just where the fields are
pub count_low : {l : Line} {done : List (List ℕ)} {f : List ℕ} → Holds l done f → (n : ℕ) → n ≤ 12 → length done < n → l.count < n
count_low {l} {done} h n i k = let e = h.few (omega arith) in omega arith

pub count_high : {l : Line} {done : List (List ℕ)} {f : List ℕ} → Holds l done f → (n : ℕ) → n ≤ 12 → n ≤ length done → n ≤ l.count
count_high {l} {done} h n i k = go (12 <? length done) refl
  where
    go : (x : Bool) → (12 <? length done) ≡ x → n ≤ l.count
    go true e = let m = h.many (ltb-true 12 (length done) e) in omega arith
    go false e = let m = h.few (ltb-false 12 (length done) e) in omega arith

holds_blank : Holds blank_line [] []
unfolding fed_field fed_sum
holds_blank =
    record {
      few = λ k. refl;
      many = λ k. omega arith;
      size = refl;
      at = λ k i. get_or-replicate 12 k blank_field no_field i;
      last = refl;
      early = λ k. refl;
      sum = λ k. refl;
    }

holds_extended : (l : Line) (done : List (List ℕ)) (f : List ℕ) (b : ℕ) → Holds l done f → Holds (extended l b) done (f ++ (b ∷ []))
unfolding extended
holds_extended l done f b h =
    record {
      few = h.few;
      many = h.many;
      size = h.size;
      at = h.at;
      last = rw h.last (sym (fed_snoc f blank_field b));
      early = λ k. rw (lt-ltb l.count 10 (count_low h 10 (omega arith) k)) (h.early k);
      sum = λ k. rw (le-ltb l.count 10 (count_high h 10 (omega arith) k), h.sum k) (sym (sum_snoc f blank_sum b));
    }

pub nth_other : (done : List (List ℕ)) (f : List ℕ) (k : ℕ) → (k ≡ length done → ⊥) → nth k (done ++ (f ∷ [])) ≡ nth k done
nth_other done f k n = go (k <? length done) refl
  where
    go : (x : Bool) → (k <? length done) ≡ x → nth k (done ++ (f ∷ [])) ≡ nth k done
    go true e = get_or-append done (f ∷ []) [] k (ltb-true k (length done) e)
    go false e =
        let i = ltb-false k (length done) e in
        let m : length (done ++ (f ∷ [])) ≡ length done + 1 = length-append done (f ∷ []) in
        let p : length (done ++ (f ∷ [])) ≤ k = omega arith in
        get_or-eq_default (done ++ (f ∷ [])) [] p ∙ sym (get_or-eq_default done [] i)

holds_closed : (l : Line) (done : List (List ℕ)) (f : List ℕ) → Holds l done f → Holds (closed l) (done ++ (f ∷ [])) []
unfolding closed fed_field fed_sum
holds_closed l done f h =
    let m : length (done ++ (f ∷ [])) ≡ length done + 1 = length-append done (f ∷ []) in
    record {
      few = λ k. rw (lt-ltb l.count 13 (let e = h.few (omega arith) in omega arith)) (let e = h.few (omega arith) in omega arith);
      many = λ k. many (l.count <? 13) refl (omega arith);
      size = size (l.count <? 12);
      at = λ k i. at k i (length done <? 12) refl (k =? length done) refl;
      last = refl;
      early = λ k. rw (lt-ltb l.count 10 (count_low h 10 (omega arith) (omega arith))) (h.early (omega arith));
      sum = λ k. sum (length done <? 10) refl;
    }
  where
    many : (x : Bool) → (l.count <? 13) ≡ x → 12 ≤ length done → (if x then l.count + 1 else 13) ≡ 13
    many true e k = let a = ltb-true l.count 13 e in let b = count_high h 12 (omega arith) k in omega arith
    many false e k = refl

    size : (x : Bool) → length (if◌then◌else◌ {A = List Field} x (set l.fields l.count l.field) l.fields) ≡ 12
    size true = length-set l.fields l.count l.field ∙ h.size
    size false = h.size

    at : (k : ℕ) → k < 12 → (x : Bool) → (length done <? 12) ≡ x → (y : Bool) → (k =? length done) ≡ y
        → get_or (if◌then◌else◌ {A = List Field} (l.count <? 12) (set l.fields l.count l.field) l.fields) k no_field ≡ field_of (nth k (done ++ (f ∷ [])))
    at k i true p true q =
        let a = ltb-true (length done) 12 p in
        let e : l.count ≡ length done = h.few (omega arith) in
        let d : k ≡ length done = eqb-true k (length done) q in
        let z = h.size in
        rw (lt-ltb l.count 12 (omega arith), d, e, get_or-set_same l.fields (length done) l.field no_field (omega arith), get_or-append_seam done f [] []) h.last
    at k i true p false q =
        let a = ltb-true (length done) 12 p in
        let e : l.count ≡ length done = h.few (omega arith) in
        let n : k ≡ length done → ⊥ = eqb-false k (length done) q in
        rw (lt-ltb l.count 12 (omega arith), e, get_or-set_other l.fields (length done) k l.field no_field n, nth_other done f k n) (h.at k i)
    at k i false p y q =
        let a = ltb-false (length done) 12 p in
        let n : k ≡ length done → ⊥ = λ e. omega arith in
        rw (le-ltb l.count 12 (count_high h 12 (omega arith) a), nth_other done f k n) (h.at k i)

    sum : (x : Bool) → (length done <? 10) ≡ x → (if l.count <? 10 then l.sum else blank_sum) ≡ blank_sum
    sum true e = let a = ltb-true (length done) 10 e in rw (lt-ltb l.count 10 (count_low h 10 (omega arith) a)) (h.early a)
    sum false e = let a = ltb-false (length done) 10 e in rw (le-ltb l.count 10 (count_high h 10 (omega arith) a))

-- the line that has these fields, the last one open
pub record Ended (l : Line) (fs : List (List ℕ)) : Type 0 where
  pub done : List (List ℕ)
  pub f : List ℕ
  pub holds : Holds l done f
  pub parts : fs ≡ done ++ (f ∷ [])

walk : (s : List ℕ) (l : Line) (done : List (List ℕ)) (f : List ℕ) → Holds l done f → Ended (fed l s) (done ++ fields_from f s)
unfolding fed fields_from
walk [] l done f h = record { done = done; f = f; holds = h; parts = refl }
walk (b ∷ s) l done f h = go (b =? 32) (walk s)
  where
    go : (x : Bool) → ((l : Line) (done : List (List ℕ)) (f : List ℕ) → Holds l done f → Ended (fed l s) (done ++ fields_from f s))
        → Ended (fed (if x then closed l else extended l b) s) (done ++ (if x then f ∷ fields_from [] s else fields_from (f ++ (b ∷ [])) s))
    go true r =
        rw (append_assoc done (f ∷ []) (fields_from [] s)) at (r (closed l) (done ++ (f ∷ [])) [] (holds_closed l done f h))
    go false r = r (extended l b) done (f ++ (b ∷ [])) (holds_extended l done f b h)

pub ended : (s : List ℕ) → Ended (fed blank_line s) (fields s)
ended s = walk s blank_line [] [] holds_blank
