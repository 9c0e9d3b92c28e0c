-- What a recovery from empty carries: a fact that is of the empty log, and that each accepted record and finishing keep, is of each
-- replica after any records, accepted or not, and after finishing.
-- Assumes nothing.
use Prim.Native.Nat.{ℕ, suc, ◌+◌}
use mathlib.Core.Path.{◌≡◌, refl, sym, ap, ap₂, ◌∙◌, subst}
use mathlib.Core.Bool.{Bool, true, false}
use mathlib.Core.List.{List, [], ◌∷◌, ◌++◌}
use native.Mathlib.Omega.{arith}
use native.Mathlib.Nat.{zero-add}
use lib.ListN.{length}
use Rattle.std.specs.Prelude.{if◌then◌else◌, not, Option, None, Some, option_map, unwrap_or, slice_get}
use Rattle.definition.specs.Table.{◌≤?◌, first_of, is_some}
use Rattle.definition.specs.Records.{Identity, same, Kind, form_rows, Content, content, Record}
use Rattle.definition.specs.Log.{Log, empty, rows, accept, normalize_hard_state_term}
use Rattle.definition.specs.Recovery.{lookup, Out, too_many_replicas, judged, settled, admitted, visit, State, fresh_state, sound_state, scan, route_by, routed, guarded, unsound_state, non_increasing_wal_lsn, observe_state, normalized, normalized_state, finish_state, is_accepted, Recovery, fresh, answers, finish, state_answers, state_after}
use Rattle.definition.specs.Two.{replicas_left}
use Rattle.definition.specs.Healthy.{AcceptedRecord, EachReplica}
use Rattle.definition.proofs.Laws.{none_some, Clear, clear, clear_l}
use Rattle.definition.proofs.Order.{same_eq, updated, lookup_keep, lookup_map}
use Rattle.definition.proofs.Never.{answer_to_accepted}
use Rattle.definition.proofs.Sound.{finish_is, finish_stays}
use Rattle.definition.proofs.Store.{laid, answers_fresh, observed_fresh, observed_state, finish_laid}

-- m is what is left of l from the place n on.
module _ {A : Type 0} where
  abbrev From : List A → ℕ → List A → Type 0
  From l n m = (q : ℕ) → slice_get l (n + q) ≡ slice_get m q

  from_next : (l : List A) (n : ℕ) (a : A) (m : List A) → From l n (a ∷ m) → From l (n + 1) m
  from_next l n a m h q = let e : n + 1 + q ≡ n + suc q = omega arith in ap (slice_get l) e ∙ h (suc q)

module _ (all : List Record) (P : Identity → Log ℕ → Type 0) where
  pub record Carries : Type 0 where
    pub of_empty : (i : Identity) → P i empty
    pub accepting :
        (i : Identity) (k : Kind) (lsn : ℕ) (log : Log ℕ) → AcceptedRecord all i k lsn → Clear (form_rows i k) → Clear (rows i k log) → P i log
        → P i (accept k lsn log)
    pub finishing : (i : Identity) (log : Log ℕ) → P i log → P i (normalize_hard_state_term log)

  -- P of what is held, where something is.
  abbrev IfHeld : Identity → Option (Log ℕ) → Type 0
  IfHeld i None = Unit {0}
  IfHeld i (Some log) = P i log

  abbrev All : State → Type 0
  All s = (i : Identity) → IfHeld i (lookup i s.replicas)

  held_is : (i : Identity) (o : Option (Log ℕ)) (log : Log ℕ) → IfHeld i o → o ≡ Some log → P i log
  held_is i None log h e = absurd (none_some e)
  held_is i (Some was) log h e = let z : was ≡ log = cc e in subst (P i) z h

  module _ (c : Carries) where
    -- A record at its replica, accepted or not.
    module _ (i : Identity) (k : Kind) (lsn : ℕ) where
      abbrev AcceptedBy : Out (Option (Log ℕ)) → Type 0
      AcceptedBy o = is_accepted o.answer ≡ true → AcceptedRecord all i k lsn

      judged_carried : (o : Option ℕ) (was : Option (Log ℕ)) (log : Log ℕ) → first_of (rows i k log) ≡ o → Clear (form_rows i k) → P i log
          → AcceptedBy (judged o k lsn log) → IfHeld i (updated was (judged o k lsn log).next)
      unfolding judged
      judged_carried (Some n) was log r f h a = h
      judged_carried None was log r f h a =
          c.accepting i k lsn log (a (ap (λ o. not (is_some o)) (answer_to_accepted k log))) f (clear (rows i k log) r) h

      admitted_carried : (o : Option ℕ) (full : Bool) (was : Option (Log ℕ)) → first_of (form_rows i k ++ too_many_replicas full was ∷ []) ≡ o
          → IfHeld i was → AcceptedBy (admitted o i k lsn was) → IfHeld i (updated was (admitted o i k lsn was).next)
      unfolding admitted settled
      admitted_carried (Some n) full was e h a = h
      admitted_carried None full was e h a =
          judged_carried (first_of (rows i k (unwrap_or was empty))) was (unwrap_or was empty) refl
          (clear_l (form_rows i k) (too_many_replicas full was ∷ []) (clear (form_rows i k ++ too_many_replicas full was ∷ []) e)) (log_has was h) a
        where
          log_has : (was : Option (Log ℕ)) → IfHeld i was → P i (unwrap_or was empty)
          log_has None h = c.of_empty i
          log_has (Some log) h = h

    -- What an accepted record of the list is.
    abbrev AcceptedIn : Content → ℕ → Type 0
    AcceptedIn None lsn = Unit {0}
    AcceptedIn (Some (i, k)) lsn = AcceptedRecord all i k lsn

    nth_accepted : (n : ℕ) (r : Record) (x : Content) → slice_get all n ≡ Some r
        → option_map is_accepted (slice_get (answers fresh all) n) ≡ Some true → content r ≡ x → AcceptedIn x r.lsn
    nth_accepted n r None h a e = tt
    nth_accepted n r (Some (i, k)) h a e = record { n = n; by = r; nth = h; accepted = a; under = refl; says = e }

    routed_carried : (s : State) (lsn : ℕ) (x : Content) → (is_accepted (routed s lsn x).answer ≡ true → AcceptedIn x lsn) → All s
        → All (routed s lsn x).next
    unfolding route_by routed scan visit
    routed_carried s lsn None a h i = h i
    routed_carried s lsn (Some (j, k)) a h i = rw lookup_keep (go (same i j) refl)
      where
        was : Option (Log ℕ)
        was = lookup j s.replicas

        full : Bool
        full = 8 ≤? length s.replicas

        refusal : Option ℕ
        refusal = first_of (form_rows j k ++ too_many_replicas full was ∷ [])

        new : Option (Log ℕ)
        new = (admitted refusal j k lsn was).next

        go : (d : Bool) → same i j ≡ d → IfHeld i (if d then updated (lookup i s.replicas) new else lookup i s.replicas)
        go true e =
            subst (λ (x : Identity). IfHeld x (updated (lookup x s.replicas) new)) (sym (same_eq i j e))
            (admitted_carried j k lsn refusal full was refl (h j) a)
        go false e = h i

    guarded_carried : (o : Option ℕ) (s : State) (lsn : ℕ) (x : Content) → (is_accepted (guarded o s lsn x).answer ≡ true → AcceptedIn x lsn) → All s
        → All (guarded o s lsn x).next
    unfolding guarded
    guarded_carried (Some n) s lsn x a h = h
    guarded_carried None s lsn x a h = routed_carried s lsn x a h

    -- The rest of the list, from its nth record on.
    rest_carried : (n : ℕ) (s : State) (rs : List Record) → From all n rs → From (answers fresh all) n (state_answers s rs) → All s
        → All (state_after s rs)
    unfolding state_answers state_after observe_state
    rest_carried n s [] f a h = h
    rest_carried n s (r ∷ rs) f a h =
        let o : Out State = observe_state s r in
        rest_carried (n + 1) o.next rs (from_next all n r rs f) (from_next (answers fresh all) n o.answer (state_answers o.next rs) a)
        (guarded_carried (first_of (unsound_state s ∷ non_increasing_wal_lsn s r.lsn ∷ [])) s r.lsn (content r)
        (λ e. nth_accepted (n + 0) r (content r) (f 0) (ap (option_map is_accepted) (a 0) ∙ ap Some e) refl) h)

    end : State
    end = state_after fresh_state all

    end_carried : All end
    unfolding end fresh_state lookup
    end_carried =
        rest_carried 0 fresh_state all (λ q. ap (slice_get all) (zero-add q)) (λ q. ap₂ slice_get (answers_fresh all) (zero-add q)) (λ i. tt)

    -- Finished, or left where that is refused.
    finished_carried : All (finish_state end).next
    unfolding normalized_state normalized
    finished_carried i = go (sound_state end) refl
      where
        mapped : (o : Option (Log ℕ)) → IfHeld i o → IfHeld i (option_map normalize_hard_state_term o)
        mapped None h = tt
        mapped (Some log) h = c.finishing i log h

        go : (b : Bool) → sound_state end ≡ b → IfHeld i (lookup i (finish_state end).next.replicas)
        go true e =
            subst (λ (o : Option (Log ℕ)). IfHeld i o)
            (sym (ap (λ (o : Out State). lookup i o.next.replicas) (finish_is end e) ∙ lookup_map (λ k log. normalize_hard_state_term log) i end.replicas))
            (mapped (lookup i end.replicas) (end_carried i))
        go false e = subst (λ (o : Out State). IfHeld i (lookup i o.next.replicas)) (sym (finish_stays end e)) (end_carried i)

    left_is : replicas_left all ≡ (finish_state end).next.replicas
    unfolding replicas_left laid end
    left_is =
        ap (λ (w : Recovery). (finish w).next.state.replicas) (observed_fresh all)
        ∙ ap (λ (o : Out Recovery). o.next.state.replicas) (finish_laid (state_after fresh_state all))

    pub carried : EachReplica all P
    unfolding end
    carried =
        record {
          after_the_last = λ i log e. held_is i (lookup i end.replicas) log (end_carried i) (sym (ap (λ (s : State). lookup i s.replicas) (observed_state all)) ∙ e);
          after_finishing = λ i log e. held_is i (lookup i (finish_state end).next.replicas) log (finished_carried i) (sym (ap (lookup i) left_is) ∙ e);
        }
