-- The walks of the test of soundness, one turn at a time: what is asked of the rest is what is asked of the next and of the rest
-- after it.
-- Assumes nothing.
use Rattle.std.specs.Prelude.{Option}
use mathlib.Core.Path.{◌≡◌, refl, ap, ◌∙◌}
use mathlib.Core.Bool.{Bool, true, ◌&&◌}
use mathlib.Core.List.{List, [], ◌∷◌}
use Prim.Native.Nat.{ℕ, zero, suc, ◌+◌, ◌-◌, ◌*◌, ◌<◌, ◌≤◌}
use native.Mathlib.Numerals.{add-one}
use native.Mathlib.Nat.{add-sub_cancel_left}
use native.Mathlib.Omega.{arith}
use lib.ListN.{length, get_or, take, drop}
use lib.Seq.{drop-drop}
use Rattle.std.proofs.lemmas.List.{length-take-le}
use Rattle.definition.specs.Records.{before}
use Rattle.store.specs.Splice.{part}
use Rattle.store.specs.Zeros.{all_zero}
use Rattle.view.specs.declared.Header.{Header}
use Rattle.view.specs.declared.RecoveredRaftLogEntry.{RecoveredRaftLogEntry}
use Rattle.view.specs.Meaning.{no_entry, id_of}
use Rattle.storage.specs.Model.{no_header}
use Rattle.clauses.specs.Clauses.{entry_ok}
use Rattle.soundness.specs.Sound.{entries_ok, replica_ok, replicas_ok, heads_rise}
use Rattle.storage.proofs.Walk.{first_left, second_left, past}

module _ (last : Option ℕ) where
  -- What is asked of the entries from q on, of n.
  abbrev pub entries_left : ℕ → List RecoveredRaftLogEntry → List ℕ → ℕ → Bool
  entries_left n es cs q = entries_ok last (n - q) (drop q es) (drop (64 * q) cs)

  pub entries_step : (n : ℕ) (es : List RecoveredRaftLogEntry) (cs : List ℕ) (q : ℕ) → q < n
      → entries_left n es cs q ≡ (entry_ok last (get_or es q no_entry) (part (64 * q) 64 cs) && entries_left n es cs (q + 1))
  unfolding entries_ok
  entries_step n es cs q h =
      let e : n - q ≡ suc (n - (q + 1)) = (omega arith) ∙ add-one (n - (q + 1)) in
      rw (e, first_left es q no_entry, past 64 cs q, drop-drop 1 q es)

  pub entries_end : (n : ℕ) (es : List RecoveredRaftLogEntry) (cs : List ℕ) (q : ℕ) → n ≤ q → q ≤ n → entries_left n es cs q ≡ all_zero (drop (64 * n) cs)
  unfolding entries_ok
  entries_end n es cs q h k =
      let e : n - q ≡ 0 = omega arith in
      let d : q ≡ n = omega arith in
      ap (λ (m : ℕ). entries_ok last m (drop q es) (drop (64 * q) cs)) e ∙ ap (λ (m : ℕ). all_zero (drop (64 * m) cs)) d

  -- What is asked of the replicas from p on, of n.
  abbrev pub replicas_left : ℕ → List Header → List RecoveredRaftLogEntry → List ℕ → ℕ → Bool
  replicas_left n hs es st p = replicas_ok last (n - p) (drop p hs) (drop (64 * p) es) (drop (4096 * p) st)

  pub replicas_step : (n : ℕ) (hs : List Header) (es : List RecoveredRaftLogEntry) (st : List ℕ) (p : ℕ) → p < n
      → replicas_left n hs es st p ≡ (replica_ok last (get_or hs p no_header) (part (64 * p) 64 es) (part (4096 * p) 4096 st) && replicas_left n hs es st (p + 1))
  unfolding replicas_ok
  replicas_step n hs es st p h =
      let e : n - p ≡ suc (n - (p + 1)) = (omega arith) ∙ add-one (n - (p + 1)) in
      rw (e, first_left hs p no_header, past 64 es p, past 4096 st p, drop-drop 1 p hs)

  pub replicas_turn : (n : ℕ) (hs : List Header) (es : List RecoveredRaftLogEntry) (st : List ℕ) (p : ℕ) → p < n
      → replicas_left n hs es st p
      ≡ (replica_ok last (get_or hs p no_header) (take (64 * p + 64 - 64 * p) (drop (64 * p) es)) (take (4096 * p + 4096 - 4096 * p) (drop (4096 * p) st)) && replicas_left n hs es st (p + 1))
  replicas_turn n hs es st p h = rw (add-sub_cancel_left (64 * p) 64, add-sub_cancel_left (4096 * p) 4096) (replicas_step n hs es st p h)

  pub replicas_end : (n : ℕ) (hs : List Header) (es : List RecoveredRaftLogEntry) (st : List ℕ) (p : ℕ) → n ≤ p → p ≤ n → replicas_left n hs es st p ≡ all_zero (drop (4096 * n) st)
  unfolding replicas_ok
  replicas_end n hs es st p h k =
      let e : n - p ≡ 0 = omega arith in
      let d : p ≡ n = omega arith in
      ap (λ (m : ℕ). replicas_ok last m (drop p hs) (drop (64 * p) es) (drop (4096 * p) st)) e ∙ ap (λ (m : ℕ). all_zero (drop (4096 * m) st)) d

-- The first n of a list are all that is asked of n of them.
entries_first : (last : Option ℕ) (n : ℕ) (es : List RecoveredRaftLogEntry) (cs : List ℕ) → n ≤ length es → entries_ok last n (take n es) cs ≡ entries_ok last n es cs
unfolding entries_ok
entries_first last zero es cs l = refl
entries_first last (suc n) [] cs l = absurd (omega arith)
entries_first last (suc n) (e ∷ es) cs l = ap (λ (b : Bool). entry_ok last e (take 64 cs) && b) (entries_first last n es (drop 64 cs) (omega arith))

pub entries_taken : (last : Option ℕ) (n : ℕ) (es : List RecoveredRaftLogEntry) (cs : List ℕ) → n ≤ length es → entries_ok last (length (take n es)) (take n es) cs ≡ entries_ok last n es cs
entries_taken last n es cs l = let e : length (take n es) ≡ n = length-take-le n es l in ap (λ (m : ℕ). entries_ok last m (take n es) cs) e ∙ entries_first last n es cs l

-- What is asked of the order of the headers from i on, of n.
abbrev pub heads_left : ℕ → List Header → ℕ → Bool
heads_left n hs i = heads_rise (n - i) (drop i hs)

pub heads_step : (n : ℕ) (hs : List Header) (i : ℕ) → i + 1 < n
    → heads_left n hs i ≡ (before (id_of (get_or hs i no_header)) (id_of (get_or hs (i + 1) no_header)) && heads_left n hs (i + 1))
unfolding heads_rise
heads_step n hs i h =
    let e : n - (i + 1) ≡ suc (n - (i + 2)) = (omega arith) ∙ add-one (n - (i + 2)) in
    let f : n - i ≡ suc (suc (n - (i + 2))) = (omega arith) ∙ add-one (n - (i + 1)) ∙ ap suc e in
    rw (f, e, first_left hs i no_header, second_left hs i no_header, drop-drop 1 i hs)

pub heads_turn : (n : ℕ) (hs : List Header) (i : ℕ) → 1 ≤ i → i < n
    → heads_left n hs (i - 1) ≡ (before (id_of (get_or hs (i - 1) no_header)) (id_of (get_or hs i no_header)) && heads_left n hs (i + 1 - 1))
heads_turn n hs i one l =
    let e : i - 1 + 1 ≡ i = omega arith in
    let f : i + 1 - 1 ≡ i = omega arith in
    rw f (rw e at (heads_step n hs (i - 1) (omega arith)))

one_rises : (n : ℕ) (hs : List Header) → n ≤ 1 → heads_rise n hs ≡ true
unfolding heads_rise
one_rises zero hs h = refl
one_rises (suc zero) hs h = refl
one_rises (suc (suc n)) hs h = absurd (omega arith)

pub heads_end : (n : ℕ) (hs : List Header) (i : ℕ) → n ≤ i + 1 → heads_left n hs i ≡ true
heads_end n hs i h = one_rises (n - i) (drop i hs) (omega arith)
