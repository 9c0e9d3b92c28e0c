-- Records of one replica that its log takes one after the other, observed in a state with room for it: all are accepted, the replica's
-- log is their fold, and no other replica changes.
-- Assumes nothing.
use Prim.Native.Nat.{ℕ, ◌+◌, ◌≤◌, ◌<◌}
use mathlib.Core.Path.{◌≡◌, refl, sym, ap, ◌∙◌, subst}
use mathlib.Core.Bool.{Bool, true, false, ◌||◌, not, and-false}
use mathlib.Core.List.{List, [], ◌∷◌, ◌++◌}
use native.Mathlib.Omega.{arith}
use lib.ListN.{length}
use borrow.Author.Tests.{ltb-true, lt-leb}
use Rattle.std.specs.Prelude.{Option, None, Some, unwrap_or}
use Rattle.definition.specs.Table.{◌<?◌, ◌≤?◌, first_of, is_some, every, u64_max}
use Rattle.definition.specs.Records.{Identity, same, Kind, form_rows, Content, content, Record}
use Rattle.definition.specs.Log.{Log, empty, rows, answer_to, accept}
use Rattle.definition.specs.Recovery.{lookup, put, keep, Out, out, too_many_replicas, judged, settled, admitted, visit, State, scan, route_by, routed, observe_state, all_accepted, is_accepted, state_answers, state_after, replica_of}
use Rattle.definition.specs.Two.{Above, Rising, fits}
use Rattle.definition.proofs.Laws.{and_l, and_r, and_i, Clear, clear_i, unclear}
use Rattle.definition.proofs.Order.{same_self, lookup_put}
use Rattle.definition.proofs.Never.{answer_to_accepted}
use Rattle.definition.proofs.Sound.{Steady, steady_test, observe_routed, routed_steady, routed_scanned, routed_last}

-- The log after records of its replica that it takes.
abbrev pub onward : Content → ℕ → Log ℕ → Log ℕ
onward None t log = log
onward (Some (j, k)) t log = accept k t log

abbrev pub fold_log : Log ℕ → List Record → Log ℕ
fold_log log [] = log
fold_log log (r ∷ rs) = fold_log (onward (content r) r.lsn log) rs

-- A record of the replica i that passes for its form, and that its log takes.
abbrev pub Taken : Identity → Log ℕ → Content → Type 0
Taken i log None = ⊥
Taken i log (Some (j, k)) = (j ≡ i) × Clear (form_rows i k) × Clear (rows i k log)

abbrev pub AllTaken : Identity → Log ℕ → List Record → Type 0
AllTaken i log [] = Unit {0}
AllTaken i log (r ∷ rs) = Taken i log (content r) × AllTaken i (onward (content r) r.lsn log) rs

-- There is room for the replica.
abbrev pub room_for : Identity → State → Bool
room_for i s = is_some (lookup i s.replicas) || length s.replicas <? 8

-- Then 23 does not refuse it.
not_full : (was : Option (Log ℕ)) (n : ℕ) → (is_some was || n <? 8) ≡ true → Clear (too_many_replicas (8 ≤? n) was ∷ [])
not_full (Some log) n e = (and-false (8 ≤? n), tt)
not_full None n e = (rw (lt-leb 8 n (ltb-true n 8 e)), tt)

module _ (s : State) (i : Identity) (k : Kind) (t : ℕ) (f : Clear (form_rows i k)) (q : Clear (rows i k (replica_of i s)))
    (room : room_for i s ≡ true) where
  abbrev full : Bool
  full = 8 ≤? length s.replicas

  let_through : first_of (form_rows i k ++ too_many_replicas full (lookup i s.replicas) ∷ []) ≡ None
  let_through = unclear _ (clear_i (form_rows i k) _ f (not_full (lookup i s.replicas) (length s.replicas) room))

  takes : visit full i k t (lookup i s.replicas) ≡ out (answer_to k (replica_of i s)) (Some (accept k t (replica_of i s)))
  unfolding visit admitted settled judged replica_of
  takes = rw (let_through, unclear (rows i k (replica_of i s)) q)

  routes_to : routed s t (Some (i, k)) ≡ out (answer_to k (replica_of i s)) (scan s t (put i (accept k t (replica_of i s)) s.replicas))
  unfolding route_by routed keep
  routes_to = rw takes

-- What observing one such record does.
record Takes (s : State) (i : Identity) (r : Record) : Type 0 where
  answered : is_accepted (observe_state s r).answer ≡ true
  own : replica_of i (observe_state s r).next ≡ onward (content r) r.lsn (replica_of i s)
  there : is_some (lookup i (observe_state s r).next.replicas) ≡ true
  others : (j : Identity) → same j i ≡ false → lookup j (observe_state s r).next.replicas ≡ lookup j s.replicas
  steady : Steady (observe_state s r).next
  scanned : (observe_state s r).next.scanned_records ≡ s.scanned_records + 1
  last : (observe_state s r).next.last_scanned_lsn ≡ Some r.lsn

module _ (s : State) (i : Identity) (r : Record) (d : Steady s) (n : s.scanned_records < u64_max) (up : Above s.last_scanned_lsn r.lsn)
    (m : fits r ≡ true) (room : room_for i s ≡ true) where
  is_routed : observe_state s r ≡ routed s r.lsn (content r)
  is_routed = observe_routed s r (steady_test s d n) up

  takes_content : (c : Content) → content r ≡ c → Taken i (replica_of i s) c → Takes s i r
  unfolding scan replica_of
  takes_content None e x = absurd x
  takes_content (Some (j, k)) e (same_id, form, clear) =
      record {
        answered = ap (λ (o : Out State). is_accepted o.answer) is ∙ ap (λ o. not (is_some o)) (answer_to_accepted k was);
        own =
            ap (λ (o : Out State). replica_of i o.next) is
            ∙ ap (λ (o : Option (Log ℕ)). unwrap_or o empty) found
            ∙ sym (ap (λ (c : Content). onward c r.lsn was) e);
        there = ap (λ (o : Out State). is_some (lookup i o.next.replicas)) is ∙ ap is_some found;
        others = λ j a. ap (λ (o : Out State). lookup j o.next.replicas) is ∙ rw (lookup_put, a);
        steady = subst (λ (o : Out State). Steady o.next) (sym is_routed) (routed_steady s r.lsn (content r) d up m);
        scanned = ap (λ (o : Out State). o.next.scanned_records) is_routed ∙ routed_scanned s r.lsn (content r);
        last = ap (λ (o : Out State). o.next.last_scanned_lsn) is_routed ∙ routed_last s r.lsn (content r);
      }
    where
      was : Log ℕ
      was = replica_of i s

      new : Log ℕ
      new = accept k r.lsn was

      is : observe_state s r ≡ out (answer_to k was) (scan s r.lsn (put i new s.replicas))
      is =
          is_routed
          ∙ ap (routed s r.lsn) (e ∙ ap (λ (u : Identity). Some (u, k)) same_id)
          ∙ routes_to s i k r.lsn form clear room

      found : lookup i (put i new s.replicas) ≡ Some new
      found = rw (lookup_put, same_self)

  takes_one : Taken i (replica_of i s) (content r) → Takes s i r
  takes_one x = takes_content (content r) refl x

-- What observing them all does.
pub record Took (s : State) (i : Identity) (ws : List Record) : Type 0 where
  pub accepted : all_accepted (state_answers s ws) ≡ true
  pub own : replica_of i (state_after s ws) ≡ fold_log (replica_of i s) ws
  pub others : (j : Identity) → same j i ≡ false → lookup j (state_after s ws).replicas ≡ lookup j s.replicas

pub took : (s : State) (i : Identity) (ws : List Record) → Steady s → s.scanned_records + length ws ≤ u64_max → Rising s.last_scanned_lsn ws
    → every fits ws ≡ true → room_for i s ≡ true → AllTaken i (replica_of i s) ws → Took s i ws
unfolding state_answers state_after
took s i [] d n up m room x = record { accepted = refl; own = refl; others = λ j e. refl }
took s i (r ∷ rs) d n up m room (x, xs) =
    let one : Takes s i r = takes_one s i r d (omega arith) up.0 (and_l (fits r) (every fits rs) m) room x in
    let next : State = (observe_state s r).next in
    let rest : Took next i rs =
    took next i rs one.steady (omega (arith, one.scanned)) (subst (λ (x : Option ℕ). Rising x rs) (sym one.last) up.1)
    (and_r (fits r) (every fits rs) m) (rw one.there) (subst (λ (l : Log ℕ). AllTaken i l rs) (sym one.own) xs) in
    record {
      accepted = and_i (is_accepted (observe_state s r).answer) (all_accepted (state_answers next rs)) one.answered rest.accepted;
      own = rest.own ∙ ap (λ (l : Log ℕ). fold_log l rs) one.own;
      others = λ j e. rest.others j e ∙ one.others j e;
    }
