-- The commands that were given, by number.
-- Assumes nothing.
use mathlib.Core.Path.{◌≡◌, refl, ap, ◌∙◌}
use mathlib.Core.Bool.{Bool, true, false, ◌&&◌}
use mathlib.Core.List.{List, [], ◌∷◌}
use Prim.Native.Nat.{ℕ, zero, suc, ◌+◌, ◌-◌, ◌*◌, ◌<◌, ◌≤◌}
use native.Mathlib.Omega.{arith}
use borrow.Author.Tests.{ltb-true, ltb-false, leb-true, leb-false, le-leb, lt-leb}
use lib.ListN.{length, get_or, take, drop, length-take, get_or-eq_default}
use lib.Seq.{get_or-take, drop-drop}
use Rattle.std.specs.Prelude.{if◌then◌else◌, Option, None, Some, option_map}
use Rattle.definition.specs.Table.{◌<?◌, ◌≤?◌}
use Rattle.definition.specs.Records as D
use Rattle.codec.specs.declared.DurableRaftEntryPayload.{DurableRaftEntryPayload}
use Rattle.codec.specs.Records.{payload_of}
use Rattle.text.specs.Text.{nth, command}
use Rattle.text.specs.Record.{at_most256, place_of, command_at, laid, commands_in, Lent}

pub most_256 : (n : ℕ) → at_most256 n ≤ 256
most_256 n = go (n <? 256) refl
  where
    go : (b : Bool) → (n <? 256) ≡ b → (if b then n else 256) ≤ 256
    go true e = let h = ltb-true n 256 e in omega arith
    go false e = omega arith

length_laid : (ls lent : List ℕ) → length (laid ls lent) ≡ length ls
unfolding laid
length_laid [] lent = refl
length_laid (n ∷ ls) lent = ap suc (length_laid ls (drop 65 lent))

nth_laid : (ls lent : List ℕ) (i : ℕ) → i < length ls → nth i (laid ls lent) ≡ take (get_or ls i 0) (drop (65 * i) lent)
unfolding laid
nth_laid [] lent i h = absurd (omega arith)
nth_laid (n ∷ ls) lent zero h = refl
nth_laid (n ∷ ls) lent (suc i) h =
    let e : 65 + 65 * i ≡ 65 * suc i = omega arith in
    nth_laid ls (drop 65 lent) i (omega arith) ∙ ap (take (get_or ls i 0)) (drop-drop (65 * i) 65 lent ∙ ap (λ (x : ℕ). drop x lent) e)

-- what a payload means
abbrev pub maybe_payload_of : Option DurableRaftEntryPayload → List ℕ → Option D.Payload
maybe_payload_of o lent = option_map (λ p. payload_of p lent) o

module _ (ls lent : List ℕ) (few : length ls ≤ 256) (short : (i : ℕ) → get_or ls i 0 ≤ 65) (room : length lent ≡ 16640) (n : ℕ) where
  laid_command : maybe_payload_of (command_at n ls) lent ≡ command (laid ls lent) n
  unfolding command_at D.command_of
  laid_command = go (1 ≤? n) refl (n ≤? length ls) refl
    where
      none : (z : Bool) → maybe_payload_of (if z && false then Some (place_of n ls) else None) lent ≡ None
      none true = refl
      none false = refl

      go : (x : Bool) → (1 ≤? n) ≡ x → (y : Bool) → (n ≤? length ls) ≡ y → maybe_payload_of (command_at n ls) lent ≡ command (laid ls lent) n
      go false p y q = rw p
      go true p false q =
          let h = leb-false n (length ls) q in
          rw (p, q, lt-leb n (length (laid ls lent)) (rw (length_laid ls lent) h)) (none (n ≤? 256))
      go true p true q =
          let a = leb-true 1 n p in
          let h = leb-true n (length ls) q in
          let s = short (n - 1) in
          let e : nth (n - 1) (laid ls lent) ≡ take (get_or ls (n - 1) 0) (drop (65 * (n - 1)) lent) = nth_laid ls lent (n - 1) (omega arith) in
          rw (p, q, le-leb n 256 (omega arith), le-leb n (length (laid ls lent)) (rw (length_laid ls lent) h), le-leb (65 * (n - 1) + get_or ls (n - 1) 0) (length lent) (omega arith), e)

-- of the lengths that are kept, those of the commands that are given
pub command_is : (n count : ℕ) (lens lent : List ℕ) → Lent lens lent
    → maybe_payload_of (command_at n (take (at_most256 count) lens)) lent ≡ command (commands_in count lens lent) n
command_is n count lens lent g =
    let m = most_256 count in
    let l : length (take (at_most256 count) lens) ≤ 256 = rw (length-take (at_most256 count) lens) (omega arith) in
    laid_command (take (at_most256 count) lens) lent l short g.room n
  where
    short : (i : ℕ) → get_or (take (at_most256 count) lens) i 0 ≤ 65
    short i = go (i <? at_most256 count) refl
      where
        go : (x : Bool) → (i <? at_most256 count) ≡ x → get_or (take (at_most256 count) lens) i 0 ≤ 65
        go true e = rw (get_or-take (at_most256 count) lens i 0 (ltb-true i (at_most256 count) e)) (g.short i)
        go false e =
            let h = ltb-false i (at_most256 count) e in
            let l : length (take (at_most256 count) lens) ≤ i = rw (length-take (at_most256 count) lens) (omega arith) in
            rw (get_or-eq_default (take (at_most256 count) lens) 0 l) (omega arith)
