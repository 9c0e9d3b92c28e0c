-- What the contracts promise of a run of calls is the definition's run; so the claim on two recoveries, the guarantee (document 02,
-- Q-2) and what is said of the two commits (Q-3) speak of the program.
-- Assumes nothing.
use Rattle.std.specs.Prelude.{Option, None, Some}
use mathlib.Core.Path.{◌≡◌, refl, sym, ap, subst, ◌∙◌}
use mathlib.Core.Bool.{true}
use mathlib.Core.List.{List, [], ◌∷◌, ◌++◌}
use Prim.Native.Nat.{ℕ, ◌+◌, ◌<◌, ◌≤◌}
use native.Mathlib.Omega.{arith}
use lib.ListN.{length, take, length-append, length-map}
use Rattle.definition.specs.Table.{first_of, every, u64_max}
use Rattle.definition.specs.Records.{Identity, Record, Content, content}
use Rattle.definition.specs.Log as D
use Rattle.definition.specs.Recovery.{Out, out, State, Recovery, Chunk, spent, lookup, fresh, unsound_state, unsound_store, non_increasing_wal_lsn, routed, guarded, observe_state, stored, with_store, observe, finish, answers, observed}
use Rattle.definition.specs.Two.{fits, finish_answer, replicas_left, store_left, Outcome, outcome, Agreement}
use Rattle.definition.specs.Healthy.{Guaranteed, EachReplica}
use Rattle.definition.specs.Commits.{WithinView}
use Rattle.definition.proofs.Sound.{routed_scanned}
use Rattle.definition.proofs.Laws.{and_i, every_append}
use Rattle.definition.proofs.Chunk.{Cut, cut, answers_append, observed_append}
use Rattle.definition.proofs.Final.{two_recoveries}
use Rattle.definition.proofs.Guaranteed.{guarantee}
use Rattle.definition.proofs.Commits.{views_is_larger}
use Rattle.store.specs.Zeros.{zeros}
use Rattle.codec.specs.Records.{record_of}
use Rattle.replay.specs.Plan.{answer_of}
use Rattle.storage.specs.declared.RecoveredRaftStorage.{RecoveredRaftStorage}
use Rattle.storage.specs.Model.{fresh_storage}
use Rattle.storage.specs.Meaning.{meaning, recovery_of}
use Rattle.soundness.specs.Sound.{sound_test}
use Rattle.soundness.proofs.Fresh.{fresh_recovery, fresh_test}
use Rattle.finishing.specs.declared.Finished.{Finished}
use Rattle.finishing.specs.Finishes.{finished_of}
use Rattle.routing.specs.Observe.{journal_of}
use Rattle.recovery.specs.Runs.{chunk_of, chunk_records}
use Rattle.recovery.specs.Program.{Call, one, chunk, Kept, records_of, answers_of, state_after_calls, store_after_calls, Recovers, outcome_of, ProgramAgrees, ChunkTells, EachOfRun, ProgramGuarantees, ProgramViewsIsLarger}

-- A record is counted once at most.
abbrev pub scanned : Recovery → ℕ
scanned w = w.state.scanned_records

guarded_scanned : (o : Option ℕ) (s : State) (lsn : ℕ) (c : Content) → (guarded o s lsn c).next.scanned_records ≤ s.scanned_records + 1
unfolding guarded
guarded_scanned (Some n) s lsn c = omega arith
guarded_scanned None s lsn c = let e : (routed s lsn c).next.scanned_records ≡ s.scanned_records + 1 = routed_scanned s lsn c in omega arith

observe_scanned : (w : Recovery) (r : Record) → scanned (observe w r).next ≤ scanned w + 1
unfolding observe with_store stored observe_state
observe_scanned w r = go (first_of (unsound_store w ∷ [])) refl
  where
    go : (o : Option ℕ) → first_of (unsound_store w ∷ []) ≡ o → scanned (observe w r).next ≤ scanned w + 1
    go (Some n) e = rw (e, with_store) (omega arith)
    go None e = rw (e, with_store) (guarded_scanned (first_of (unsound_state w.state ∷ non_increasing_wal_lsn w.state r.lsn ∷ [])) w.state r.lsn (content r))

pub observed_scanned : (w : Recovery) (rs : List Record) → scanned (observed w rs) ≤ scanned w + length rs
unfolding observed
observed_scanned w [] = omega arith
observed_scanned w (r ∷ rs) =
    let a : scanned (observe w r).next ≤ scanned w + 1 = observe_scanned w r in
    let b : scanned (observed (observe w r).next rs) ≤ scanned (observe w r).next + length rs = observed_scanned (observe w r).next rs in
    omega arith

-- What calls leave.
pub record Left (s : RecoveredRaftStorage) (st : List ℕ) (cs : List Call) : Type 0 where
  pub answered : answers_of s st cs ≡ answers (recovery_of s st) (records_of cs)
  pub left : recovery_of (state_after_calls s cs) (store_after_calls st cs) ≡ observed (recovery_of s st) (records_of cs)
  pub sound : sound_test (state_after_calls s cs) (store_after_calls st cs) ≡ true
  pub machine : every fits (records_of cs) ≡ true

abbrev pub counted : RecoveredRaftStorage → ℕ
counted s = s.scan.scanned_records

pub count_is : (s : RecoveredRaftStorage) (st : List ℕ) (w : Recovery) → recovery_of s st ≡ w → counted s ≡ scanned w
unfolding meaning
count_is s st w e = ap scanned e

count_of : (s : RecoveredRaftStorage) (st : List ℕ) → counted s ≡ scanned (recovery_of s st)
unfolding meaning
count_of s st = refl

pub calls_are : (s : RecoveredRaftStorage) (st : List ℕ) (cs : List Call) → Kept s st cs → sound_test s st ≡ true → counted s + length (records_of cs) < u64_max → Left s st cs
unfolding answers observed
calls_are s st [] k f n = record { answered = refl; left = refl; sound = f; machine = refl }
calls_are s st (one r lent d st₁ ∷ cs) (o, k) f n =
    let x : Record = record_of r lent in
    let m : observe (recovery_of s st) x ≡ out (answer_of d.answer) (recovery_of d.state st₁) = o.means f in
    let next : (observe (recovery_of s st) x).next ≡ recovery_of d.state st₁ = ap (λ (y : Out Recovery). y.next) m in
    let c : counted d.state ≤ counted s + 1 = omega (arith, count_is d.state st₁ (observe (recovery_of s st) x).next (sym next), observe_scanned (recovery_of s st) x, count_of s st) in
    let rest : Left d.state st₁ cs = calls_are d.state st₁ cs k (o.stays f (omega arith)) (omega arith) in
    record {
      answered =
          (λ j. sym (ap (λ (y : Out Recovery). y.answer) m) j ∷ rest.answered j) ∙ ap (λ (w : Recovery). (observe (recovery_of s st) x).answer ∷ answers w (records_of cs)) (sym next);
      left = rest.left ∙ ap (λ (w : Recovery). observed w (records_of cs)) (sym next);
      sound = rest.sound;
      machine = and_i (fits x) (every fits (records_of cs)) (o.machine f) rest.machine;
    }
calls_are s st (chunk ws lent d st₁ ∷ cs) (o, k) f n =
    let w : Recovery = recovery_of s st in
    let xs : List Record = chunk_records ws lent d st₁ in
    let next : recovery_of d.state st₁ ≡ observed w xs =
    subst (λ (c : Chunk). c.left ≡ observed w (take (spent c) (journal_of ws lent))) (o.means f) (cut w (journal_of ws lent)).left in
    let e : length (xs ++ records_of cs) ≡ length xs + length (records_of cs) = length-append xs (records_of cs) in
    let c : counted d.state ≤ counted s + length xs = omega (arith, count_is d.state st₁ (observed w xs) next, observed_scanned w xs, count_of s st) in
    let rest : Left d.state st₁ cs = calls_are d.state st₁ cs k (o.stays f (omega arith)) (omega arith) in
    record {
      answered =
          ap (λ (l : List D.Answer). answers w xs ++ l) rest.answered ∙ ap (λ (v : Recovery). answers w xs ++ answers v (records_of cs)) next
          ∙ sym (answers_append w xs (records_of cs));
      left = rest.left ∙ ap (λ (v : Recovery). observed v (records_of cs)) next ∙ sym (observed_append w xs (records_of cs));
      sound = rest.sound;
      machine = every_append fits xs (records_of cs) ∙ and_i (every fits xs) (every fits (records_of cs)) (o.machine f) rest.machine;
    }

-- A whole recovery.
module _ (cs : List Call) (d : Finished) (k : Recovers cs d) (few : length (records_of cs) < u64_max) where
  abbrev s : RecoveredRaftStorage
  s = state_after_calls fresh_storage cs

  abbrev st : List ℕ
  st = store_after_calls (zeros 32768) cs

  run : Left fresh_storage (zeros 32768) cs
  run = calls_are fresh_storage (zeros 32768) cs k.kept fresh_test (omega arith)

  told : answers_of fresh_storage (zeros 32768) cs ≡ answers fresh (records_of cs)
  told = run.answered ∙ ap (λ (w : Recovery). answers w (records_of cs)) fresh_recovery

  observed_is : observed fresh (records_of cs) ≡ recovery_of s st
  observed_is = ap (λ (w : Recovery). observed w (records_of cs)) (sym fresh_recovery) ∙ sym run.left

  done : finish (observed fresh (records_of cs)) ≡ out (finished_of d.answer) (recovery_of d.state st)
  done = ap finish observed_is ∙ k.finishes.means run.sound

  finishing_is : finish_answer (records_of cs) ≡ finished_of d.answer
  unfolding finish_answer
  finishing_is = ap (λ (o : Out Recovery). o.answer) done

  replicas_are : replicas_left (records_of cs) ≡ (meaning d.state st).replicas
  unfolding replicas_left
  replicas_are = ap (λ (o : Out Recovery). o.next.state.replicas) done

  -- What holds of each replica of the records' recovery holds of the run's.
  each_of_run : (P : Identity → D.Log ℕ → Type 0) → EachReplica (records_of cs) P → EachOfRun cs d P
  each_of_run P h =
      record {
        after_the_last = λ i log e. h.after_the_last i log (ap (λ (w : Recovery). lookup i w.state.replicas) observed_is ∙ e);
        after_finishing = λ i log e. h.after_finishing i log (ap (lookup i) replicas_are ∙ e);
      }

  store_is : store_left (records_of cs) ≡ st
  unfolding store_left
  store_is = ap (λ (o : Out Recovery). o.next.store) done

  outcome_is : outcome (records_of cs) ≡ outcome_of cs d
  outcome_is i =
      record { records = records_of cs; answered = sym told i; finishing = finishing_is i; replicas = replicas_are i; store = store_is i }

pub program_agrees : ProgramAgrees
program_agrees A B d e r a b =
    let few_A : length (records_of A) < u64_max = r.few_A in
    let few_B : length (records_of B) < u64_max = r.few_B in
    subst (λ (x : Outcome). Agreement x (outcome_of B e)) (outcome_is A d a few_A)
    (subst (λ (y : Outcome). Agreement (outcome (records_of A)) y) (outcome_is B e b few_B)
    (two_recoveries (records_of A) (records_of B) (run A d a few_A).machine (run B e b few_B).machine r))

pub chunk_tells : ChunkTells
chunk_tells s st ws lent d st' f r =
    let w : Recovery = recovery_of s st in
    let k : Cut w (journal_of ws lent) (chunk_of d st') = subst (Cut w (journal_of ws lent)) (r.means f) (cut w (journal_of ws lent)) in
    record {
      accepted = k.accepted;
      ended = k.said;
      whole = λ e. k.all e ∙ length-map ws (λ x. record_of x lent);
      last = r.last f;
    }

pub program_guarantees : ProgramGuarantees
program_guarantees cs d few l k = each_of_run cs d k few (Guaranteed (records_of cs)) (guarantee (records_of cs) (run cs d k few).machine l)

pub program_views_is_larger : ProgramViewsIsLarger
program_views_is_larger cs d few k = each_of_run cs d k few (λ i log. WithinView log) (views_is_larger (records_of cs))
