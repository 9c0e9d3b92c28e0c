-- A chunk, record by record: what is asked of the whole is what is asked of the rest.
-- Assumes nothing.
use Rattle.std.specs.Prelude.{Option, None, Some}
use mathlib.Core.Path.{◌≡◌, refl, sym, ap, ◌∙◌}
use mathlib.Core.Bool.{true, true≢false}
use mathlib.Core.List.{List, [], ◌∷◌}
use Prim.Native.Nat.{ℕ, suc, ◌+◌, ◌<◌, ◌≤◌}
use native.Mathlib.Omega.{arith}
use native.Mathlib.Numerals.{add-one}
use native.Mathlib.Nat.{add-zero, zero-add}
use lib.ListN.{length, get_or, take, drop}
use lib.Seq.{drop-cons, drop-length}
use Rattle.definition.specs.Table.{present, every}
use Rattle.definition.specs.Records.{Record}
use Rattle.definition.specs.Log as D
use Rattle.definition.specs.Recovery.{Out, out, Recovery, observe, refusal_of, Chunk, spent, one_more, observe_until_refused}
use Rattle.definition.specs.Two.{fits}
use Rattle.definition.proofs.Laws.{and_i}
use Rattle.codec.specs.declared.WalRecord.{WalRecord}
use Rattle.codec.specs.Records.{record_of}
use Rattle.storage.specs.declared.RecoveredRaftStorage.{RecoveredRaftStorage}
use Rattle.storage.specs.Meaning.{recovery_of}
use Rattle.soundness.specs.Sound.{sound_test}
use Rattle.recovery.specs.declared.observing.ObservedChunk.{ObservedChunk}
use Rattle.routing.specs.Observe.{Stepped, stepped, Ran, ran_by, ran_from, last_by, last_answer, journal_of}
use Rattle.recovery.specs.Runs.{ran_of, Runs}
use Rattle.soundness.proofs.Sound.{test_sound}
use Rattle.routing.proofs.Ready.{Ready, ready_test}

-- i records more were taken before.
abbrev pub later : ℕ → Ran → Ran
later i x = record { taken = i + x.taken; answer = x.answer; state = x.state; store = x.store }

abbrev pub later_chunk : ℕ → Chunk → Chunk
later_chunk i x = record { taken = i + x.taken; ended = x.ended; left = x.left }

-- One record, by the definition's answer to it.
abbrev chunk_by : Option ℕ → Recovery → Chunk → Chunk
chunk_by (Some n) next rest = record { taken = 0; ended = Some n; left = next }
chunk_by None next rest = one_more rest

chunk_step : (w : Recovery) (r : Record) (rs : List Record) (o : Option ℕ) → refusal_of (observe w r).answer ≡ o
    → observe_until_refused w (r ∷ rs) ≡ chunk_by o (observe w r).next (observe_until_refused (observe w r).next rs)
unfolding observe_until_refused
chunk_step w r rs (Some n) e = rw (e, observe_until_refused)
chunk_step w r rs None e = rw (e, observe_until_refused)

last_step : (a : D.Answer) (w : Recovery) (r : Record) (rs : List Record)
    → last_answer a w (r ∷ rs) ≡ last_by (refusal_of (observe w r).answer) (observe w r).answer (last_answer (observe w r).answer (observe w r).next rs)
unfolding last_answer
last_step a w r rs = refl

ran_step : (a : D.Answer) (s : RecoveredRaftStorage) (st : List ℕ) (r : WalRecord) (rs : List WalRecord) (lent : List ℕ)
    → ran_from a s st (r ∷ rs) lent
    ≡ ran_by (refusal_of (stepped s st r lent).answer) (stepped s st r lent)
    (ran_from (stepped s st r lent).answer (stepped s st r lent).state (stepped s st r lent).store rs lent)
unfolding ran_from
ran_step a s st r rs lent = refl

module _ (s : RecoveredRaftStorage) (st : List ℕ) (rs : List WalRecord) (lent : List ℕ) where
  -- i records were taken; t and u are the state and the store then, a the last answer.
  pub record Running (t : RecoveredRaftStorage) (u : List ℕ) (a : D.Answer) (i : ℕ) : Type 0 where
    pub within : i ≤ length rs
    pub ready : Ready t u
    pub model : ran_from D.counted s st rs lent ≡ later i (ran_from a t u (drop i rs) lent)
    pub chunk : observe_until_refused (recovery_of s st) (journal_of rs lent) ≡ later_chunk i (observe_until_refused (recovery_of t u) (journal_of (drop i rs) lent))
    pub last : last_answer D.counted (recovery_of s st) (journal_of rs lent) ≡ last_answer a (recovery_of t u) (journal_of (drop i rs) lent)
    pub machine : (n : ℕ) → every fits (take n (journal_of (drop i rs) lent)) ≡ true → every fits (take (i + n) (journal_of rs lent)) ≡ true

  -- What is left at the end, of a sound state.
  module _ (eight : length s.heads ≡ 8) (all : length s.entries ≡ 512) (f : sound_test s st ≡ true) where
    abbrev leaves : Ran → Chunk
    leaves x = record { taken = x.taken; ended = refusal_of x.answer; left = recovery_of x.state x.store }

    ends : (x : Ran) (d : ObservedChunk) (st' : List ℕ) → ran_from D.counted s st rs lent ≡ x → observe_until_refused (recovery_of s st) (journal_of rs lent) ≡ leaves x
        → last_answer D.counted (recovery_of s st) (journal_of rs lent) ≡ x.answer → every fits (take (spent (leaves x)) (journal_of rs lent)) ≡ true
        → Ready x.state x.store → ran_of d st' ≡ x → Runs s st rs lent d st'
    ends x d st' em ec el ef ready ed =
        record {
          model = ed ∙ sym (rw f em);
          means = λ q. ec ∙ ap leaves (sym ed);
          last = λ q. el ∙ ap (λ (y : Ran). y.answer) (sym ed);
          machine = λ q. ap (λ (y : Ran). every fits (take (spent (leaves y)) (journal_of rs lent))) ed ∙ ef;
          stays = λ q l. ready_test d.state st' (rw (← ed) at ready) l;
          refused = λ q. absurd (true≢false (sym f ∙ q));
          unsound = λ q. absurd (true≢false (sym (test_sound s st eight all f).whole ∙ q));
        }

  pub running_start : Ready s st → Running s st D.counted 0
  running_start k =
      record {
        within = omega arith;
        ready = k;
        model = ap (λ (n : ℕ). record { taken = n; answer = (ran_from D.counted s st rs lent).answer; state = (ran_from D.counted s st rs lent).state; store = (ran_from D.counted s st rs lent).store }) (sym (zero-add (ran_from D.counted s st rs lent).taken));
        chunk = ap (λ (n : ℕ). record { taken = n; ended = (observe_until_refused (recovery_of s st) (journal_of rs lent)).ended; left = (observe_until_refused (recovery_of s st) (journal_of rs lent)).left }) (sym (zero-add (observe_until_refused (recovery_of s st) (journal_of rs lent)).taken));
        last = refl;
        machine = λ n e. ap (λ (j : ℕ). every fits (take j (journal_of rs lent))) (zero-add n) ∙ e;
      }

  -- The next record, and what its step leaves.
  module _ (t : RecoveredRaftStorage) (u : List ℕ) (a : D.Answer) (i : ℕ) (k : Running t u a i) (z r : WalRecord) (lt : i < length rs) (er : r ≡ get_or rs i z) where
    abbrev rest : List WalRecord
    rest = drop (i + 1) rs

    next_is : drop i rs ≡ r ∷ rest
    next_is = drop-cons rs i z lt ∙ (λ t. er' t ∷ drop (n t) rs)
      where
        er' : get_or rs i z ≡ r
        er' = sym er

        n : suc i ≡ i + 1
        n = sym (add-one i)

    abbrev w : Recovery
    w = recovery_of t u

    abbrev more : List Record
    more = journal_of rest lent

    module _ (x : Stepped) (ex : stepped t u r lent ≡ x) (eo : observe w (record_of r lent) ≡ out x.answer (recovery_of x.state x.store))
        (m : fits (record_of r lent) ≡ true)
      where
        ran_is : ran_from a t u (drop i rs) lent ≡ ran_by (refusal_of x.answer) x (ran_from x.answer x.state x.store rest lent)
        ran_is =
            ap (λ (l : List WalRecord). ran_from a t u l lent) next_is ∙ ran_step a t u r rest lent
            ∙ ap (λ (y : Stepped). ran_by (refusal_of y.answer) y (ran_from y.answer y.state y.store rest lent)) ex

        chunk_is : (o : Option ℕ) → refusal_of x.answer ≡ o
            → observe_until_refused w (journal_of (drop i rs) lent)
            ≡ chunk_by o (recovery_of x.state x.store) (observe_until_refused (recovery_of x.state x.store) more)
        chunk_is o e =
            ap (λ (l : List WalRecord). observe_until_refused w (journal_of l lent)) next_is
            ∙ chunk_step w (record_of r lent) more o (ap (λ (y : Out Recovery). refusal_of y.answer) eo ∙ e)
            ∙ ap (λ (y : Out Recovery). chunk_by o y.next (observe_until_refused y.next more)) eo

        last_is : last_answer a w (journal_of (drop i rs) lent)
            ≡ last_by (refusal_of x.answer) x.answer (last_answer x.answer (recovery_of x.state x.store) more)
        last_is =
            ap (λ (l : List WalRecord). last_answer a w (journal_of l lent)) next_is ∙ last_step a w (record_of r lent) more
            ∙ ap (λ (y : Out Recovery). last_by (refusal_of y.answer) y.answer (last_answer y.answer y.next more)) eo

        machine_is : (n : ℕ) → every fits (take n more) ≡ true → every fits (take (i + suc n) (journal_of rs lent)) ≡ true
        machine_is n h =
            k.machine (suc n)
            (ap (λ (l : List WalRecord). every fits (take (suc n) (journal_of l lent))) next_is ∙ and_i (fits (record_of r lent)) (every fits (take n more)) m h)

        -- It is taken.
        pub running_takes : refusal_of x.answer ≡ None → Ready x.state x.store → Running x.state x.store x.answer (i + 1)
        running_takes e ready =
            record {
              within = omega arith;
              ready = ready;
              model = k.model ∙ ap (later i) (ran_is ∙ ap (λ (o : Option ℕ). ran_by o x (ran_from x.answer x.state x.store rest lent)) e)
                  ∙ ap (λ (n : ℕ). record { taken = n; answer = (ran_from x.answer x.state x.store rest lent).answer; state = (ran_from x.answer x.state x.store rest lent).state; store = (ran_from x.answer x.state x.store rest lent).store }) (one_past (ran_from x.answer x.state x.store rest lent).taken);
              chunk = k.chunk ∙ ap (later_chunk i) (chunk_is None e)
                  ∙ ap (λ (n : ℕ). record { taken = n; ended = (observe_until_refused (recovery_of x.state x.store) more).ended; left = (observe_until_refused (recovery_of x.state x.store) more).left }) (one_past (observe_until_refused (recovery_of x.state x.store) more).taken);
              last = k.last ∙ last_is ∙ ap (λ (o : Option ℕ). last_by o x.answer (last_answer x.answer (recovery_of x.state x.store) more)) e;
              machine = λ n h. ap (λ (j : ℕ). every fits (take j (journal_of rs lent))) (sym (one_past n)) ∙ machine_is n h;
            }
          where
            one_past : (n : ℕ) → i + suc n ≡ i + 1 + n
            one_past n = omega arith

        -- It is refused, and the chunk ends.
        pub running_refused : length s.heads ≡ 8 → length s.entries ≡ 512 → sound_test s st ≡ true → (n : ℕ) → x.answer ≡ D.refused n → Ready x.state x.store
            → (d : ObservedChunk) (st' : List ℕ) → ran_of d st' ≡ record { taken = i; answer = x.answer; state = x.state; store = x.store } → Runs s st rs lent d st'
        running_refused eight all f n e ready d st' ed =
            let q : refusal_of x.answer ≡ Some n = ap refusal_of e in
            ends eight all f (record { taken = i; answer = x.answer; state = x.state; store = x.store }) d st'
            (k.model ∙ ap (later i) (ran_is ∙ ap (λ (o : Option ℕ). ran_by o x (ran_from x.answer x.state x.store rest lent)) q)
            ∙ ap (λ (m : ℕ). record { taken = m; answer = x.answer; state = x.state; store = x.store }) (add-zero i))
            (k.chunk ∙ ap (later_chunk i) (chunk_is (Some n) q)
            ∙ λ j. record { taken = add-zero i j; ended = sym q j; left = recovery_of x.state x.store })
            (k.last ∙ last_is ∙ ap (λ (o : Option ℕ). last_by o x.answer (last_answer x.answer (recovery_of x.state x.store) more)) q)
            (ap (λ (o : Option ℕ). every fits (take (i + length (present o)) (journal_of rs lent))) q ∙ machine_is 0 refl)
            ready ed

  -- All were taken.
  pub running_end : length s.heads ≡ 8 → length s.entries ≡ 512 → sound_test s st ≡ true → (t : RecoveredRaftStorage) (u : List ℕ) (a : D.Answer) (i : ℕ) → Running t u a i → length rs ≤ i
      → refusal_of a ≡ None → (d : ObservedChunk) (st' : List ℕ) → ran_of d st' ≡ record { taken = i; answer = a; state = t; store = u } → Runs s st rs lent d st'
  unfolding ran_from observe_until_refused last_answer
  running_end eight all f t u a i k le e d st' ed =
      let ei : i ≡ length rs = omega (arith, k.within) in
      let none_left : drop i rs ≡ [] = ap (λ (n : ℕ). drop n rs) ei ∙ drop-length rs in
      ends eight all f (record { taken = i; answer = a; state = t; store = u }) d st'
      (k.model ∙ ap (λ (l : List WalRecord). later i (ran_from a t u l lent)) none_left ∙ ap (λ (m : ℕ). record { taken = m; answer = a; state = t; store = u }) (add-zero i))
      (k.chunk ∙ ap (λ (l : List WalRecord). later_chunk i (observe_until_refused (recovery_of t u) (journal_of l lent))) none_left
      ∙ λ j. record { taken = add-zero i j; ended = sym e j; left = recovery_of t u })
      (k.last ∙ ap (λ (l : List WalRecord). last_answer a (recovery_of t u) (journal_of l lent)) none_left)
      (ap (λ (o : Option ℕ). every fits (take (i + length (present o)) (journal_of rs lent))) e ∙ k.machine 0 refl)
      k.ready ed
