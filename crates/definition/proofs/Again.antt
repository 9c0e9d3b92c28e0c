-- Finishing twice is finishing once (document 02, Q-5).
-- Assumes nothing.
use Prim.Native.Nat.{ℕ}
use mathlib.Core.Path.{◌≡◌, refl, ap, ap₂, ◌∙◌}
use mathlib.Core.Bool.{Bool, true, false}
use mathlib.Core.List.{List, [], ◌∷◌}
use native.Mathlib.Omega.{arith}
use borrow.Author.Tests.{le-ltb}
use Rattle.std.specs.Prelude.{if◌then◌else◌, Option, None, Some}
use Rattle.definition.specs.Table.{◌=?◌, ◌<?◌}
use Rattle.definition.specs.Records.{HardState}
use Rattle.definition.specs.Log.{Log, finished, maximum_observed_term, normalized_to, normalized_hard_state, with_hard, normalize_hard_state_term}
use Rattle.definition.specs.Recovery.{Held, held, out, State, Recovery, sound, normalized, normalized_state}
use Rattle.definition.specs.Chaining.{FinishingTwice}
use Rattle.definition.proofs.Store.{laid, finish_unsound, finish_whole, finish_sound}

-- Once finished, no hard state is below the largest term.
normalized_again : (m c : ℕ) (o : Option HardState) → normalized_to m c (Some (normalized_to m c o)) ≡ normalized_to m c o
unfolding normalized_to
normalized_again m c None = rw (le-ltb m m (omega arith))
normalized_again m c (Some o) = go (o.current_term <? m) refl
  where
    raised : HardState
    raised = record { current_term = m; voted_for = None; commit = o.commit }

    go : (b : Bool) → (o.current_term <? m) ≡ b → normalized_to m c (Some (if b then raised else o)) ≡ (if◌then◌else◌ {A = HardState} b raised o)
    go true e = rw (le-ltb m m (omega arith))
    go false e = rw e

module _ {T : Type 0} where
  pub normalize_twice : (log : Log T) → normalize_hard_state_term (normalize_hard_state_term log) ≡ normalize_hard_state_term log
  unfolding normalize_hard_state_term with_hard normalized_hard_state maximum_observed_term
  normalize_twice log = ap (λ (h : Option HardState). with_hard h log) (go (maximum_observed_term log =? 0))
    where
      once : Option HardState
      once = Some (normalized_to (maximum_observed_term log) log.committed_index log.hard_state)

      go : (b : Bool)
          → (if b then (if b then log.hard_state else once)
          else Some (normalized_to (maximum_observed_term log) log.committed_index (if b then log.hard_state else once)))
          ≡ (if b then log.hard_state else once)
      go true = refl
      go false = ap {B = Option HardState} Some (normalized_again (maximum_observed_term log) log.committed_index log.hard_state)

normalized_twice : (l : List (Held (Log ℕ))) → normalized (normalized l) ≡ normalized l
unfolding normalized
normalized_twice [] = refl
normalized_twice (a ∷ l) = ap₂ (λ (x : Log ℕ) (r : List (Held (Log ℕ))). held a.id x ∷ r) (normalize_twice a.log) (normalized_twice l)

state_twice : (s : State) → normalized_state (normalized_state s) ≡ normalized_state s
unfolding normalized_state
state_twice s = λ i. record { replicas = normalized_twice s.replicas i; scanned_records = s.scanned_records; last_scanned_lsn = s.last_scanned_lsn }

pub finishing_twice : (w : Recovery) → FinishingTwice w
unfolding laid
finishing_twice w = go (sound w) refl
  where
    go : (b : Bool) → sound w ≡ b → FinishingTwice w
    go true e =
        rw (finish_whole w e)
        (finish_whole (laid (normalized_state w.state)) (rw (finish_whole w e) at (finish_sound w e))
        ∙ ap (λ (s : State). out finished (laid s)) (state_twice w.state))
    go false e = rw (finish_unsound w e) (finish_unsound w e)
