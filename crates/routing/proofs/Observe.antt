-- State and store together: what the definition's `observe` makes of them.
-- Assumes nothing.
use mathlib.Core.Path.{◌≡◌, sym, ap, ◌∙◌}
use mathlib.Core.Bool.{Bool, true, false}
use mathlib.Core.List.{List}
use Prim.Native.Nat.{ℕ}
use Rattle.definition.specs.Table.{◌≤?◌, if_some}
use Rattle.definition.specs.Records.{Record, content}
use Rattle.definition.specs.Log.{Answer, refused}
use Rattle.definition.specs.Recovery.{Out, out, State, sound_state, Recovery, routed, guarded, observe_state, observe}
use Rattle.definition.proofs.Store.{laid, observe_laid}
use Rattle.view.specs.Meaning.{lsn_of}
use Rattle.storage.specs.declared.RecoveredRaftStorage.{RecoveredRaftStorage}
use Rattle.storage.specs.Meaning.{meaning, recovery_of, Linked, Observes}
use Rattle.storage.proofs.Store.{recovery_laid}

state_stale : (t : State) (r : Record) → sound_state t ≡ true → if_some (λ x. r.lsn ≤? x) t.last_scanned_lsn ≡ true → observe_state t r ≡ out (refused 2) t
unfolding observe_state guarded
state_stale t r e q = rw (e, q)

state_routed : (t : State) (r : Record) → sound_state t ≡ true → if_some (λ x. r.lsn ≤? x) t.last_scanned_lsn ≡ false → observe_state t r ≡ routed t r.lsn (content r)
unfolding observe_state guarded
state_routed t r e q = rw (e, q)

-- The LSN is at or below the last scanned.
abbrev pub stale : RecoveredRaftStorage → ℕ → Bool
stale s lsn = if_some (λ x. lsn ≤? x) (lsn_of s.scan.last_scanned_lsn)

module _ (s : RecoveredRaftStorage) (st : List ℕ) (k : Linked s st) (e : sound_state (meaning s st) ≡ true) where
  -- Observing.
  module _ (r : Record) where
    by_state : (o : Out State) → observe_state (meaning s st) r ≡ o → observe (recovery_of s st) r ≡ out o.answer (laid o.next)
    by_state o p =
        ap (λ (w : Recovery). observe w r) (recovery_laid s st k) ∙ observe_laid (meaning s st) r ∙ ap (λ (x : Out State). out x.answer (laid x.next)) p

    -- 2
    pub stale_observed : stale s r.lsn ≡ true → observe (recovery_of s st) r ≡ out (refused 2) (recovery_of s st)
    unfolding meaning
    stale_observed q =
        by_state (out (refused 2) (meaning s st)) (state_stale (meaning s st) r e q) ∙ ap (λ (w : Recovery). out (refused 2) w) (sym (recovery_laid s st k))

    module _ (q : stale s r.lsn ≡ false) (a : Answer) (s' : RecoveredRaftStorage) (st' : List ℕ) (o : Observes s st r.lsn (content r) a s' st') where
      next_is : observe_state (meaning s st) r ≡ out a (meaning s' st')
      unfolding meaning
      next_is = state_routed (meaning s st) r e q ∙ o.means

      pub observed_is : observe (recovery_of s st) r ≡ out a (recovery_of s' st')
      observed_is = by_state (out a (meaning s' st')) next_is ∙ ap (λ (w : Recovery). out a w) (sym (recovery_laid s' st' o.linked))
