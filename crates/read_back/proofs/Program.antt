-- What the contracts promise of preparing and observing is the definition's; so what is written can be read back by the program.
-- Assumes nothing.
use Rattle.std.specs.Prelude.{None, Some, Result, Ok, Err}
use mathlib.Core.Path.{◌≡◌, refl, sym, ap, subst, ◌∙◌}
use mathlib.Core.Logic.{◌⊎◌, inl, inr}
use mathlib.Core.Bool.{Bool, true, false, true≢false}
use mathlib.Core.List.{List, [], ◌∷◌, map, nil≢cons}
use Prim.Native.Nat.{ℕ, zero, suc}
use native.Mathlib.Omega.{arith}
use lib.ListN.{length, take, length-map}
use Rattle.definition.specs.Table.{every}
use Rattle.definition.specs.Records.{Record, Content, content_of, content, Body, raft}
use Rattle.definition.specs.Recovery.{Out, State, Recovery, Chunk, spent, sound, finish, observed, observe_until_refused}
use Rattle.definition.specs.Two.{Rising, fits}
use Rattle.definition.specs.Batch as M
use Rattle.definition.specs.ReadBack as B
use Rattle.definition.proofs.Chunk.{Cut, cut, accepted_ends, spent_all, whole_taken, whole_left}
use Rattle.definition.proofs.Rising.{rising_first}
use Rattle.definition.proofs.ReadBack.{read_back}
use Rattle.store.specs.Zeros.{zeros}
use Rattle.codec.specs.declared.WalRecord.{WalRecord}
use Rattle.codec.specs.Records.{body_of, record_of}
use Rattle.storage.specs.declared.RecoveredRaftStorage.{RecoveredRaftStorage}
use Rattle.storage.specs.Model.{fresh_storage}
use Rattle.storage.specs.Meaning.{meaning, recovery_of}
use Rattle.soundness.specs.Sound.{sound_test}
use Rattle.soundness.proofs.Fresh.{fresh_test}
use Rattle.finishing.specs.declared.Finished.{Finished}
use Rattle.finishing.specs.Finishes.{Finishes}
use Rattle.routing.specs.Observe.{journal_of}
use Rattle.recovery.specs.declared.observing.ObservedChunk.{ObservedChunk}
use Rattle.recovery.specs.Runs.{chunk_of, chunk_records, Runs}
use Rattle.recovery.specs.Program.{state_after_calls, store_after_calls}
use Rattle.recovery.proofs.Program.{Left, calls_are}
use Rattle.arrayvec.specs.ArrayVec.{ArrayVec}
use Rattle.persistence.specs.declared.PreparedRecord.{PreparedRecord}
use Rattle.persistence.specs.Answer as A
use Rattle.persistence.specs.Answer.{bodies_of, said_by, bodies_in, PreparesBatch}
use Rattle.read_back.specs.Program.{Asked, owner_of, batch_in, Journal, Prepared, unfinished, finished, Written, ReadsBack, ProgramReadBack, ProgramReadBackFromEmpty}

-- An answer that is not a refusal was given on a state and a store that are sound, and is the definition's.
record Told (w : Recovery) (a : Asked) (l : ArrayVec PreparedRecord) : Type 0 where
  preview : M.Preview
  is : M.prepare w (owner_of a) (batch_in a) ≡ Ok preview
  says : bodies_of a.lent l.items ≡ said_by preview.records

module _ (p : RecoveredRaftStorage) (pst : List ℕ) (a : Asked) (l : ArrayVec PreparedRecord) (k : PreparesBatch p pst a.owner a.batch a.lent (Ok l)) where
  answered_sound : sound_test p pst ≡ true
  unfolding A.answer_of
  answered_sound = go (sound_test p pst) refl
    where
      go : (b : Bool) → sound_test p pst ≡ b → b ≡ true
      go true e = refl
      go false e = let z : ◌≡◌ {A = ℕ} 0 1 = cc (k.refused e) in absurd (omega arith)

  told : Told (recovery_of p pst) a l
  unfolding A.answer_of
  told = go (M.prepare (recovery_of p pst) (owner_of a) (batch_in a)) refl (k.means answered_sound)
    where
      go : (r : Result M.Preview ℕ) → M.prepare (recovery_of p pst) (owner_of a) (batch_in a) ≡ r
          → ◌≡◌ {A = Result (List Body) ℕ} (Ok (bodies_of a.lent l.items)) (bodies_in r)
          → Told (recovery_of p pst) a l
      go (Ok v) e q = record { preview = v; is = e; says = let z : bodies_of a.lent l.items ≡ said_by v.records = cc in z }
      go (Err n) e q = let z : ◌≡◌ {A = ℕ} 0 1 = cc in absurd (omega arith)

-- Of the state that is read back, or when it is finished.
record Comes (w : Recovery) (a : Asked) (l : ArrayVec PreparedRecord) : Type 0 where
  preview : M.Preview
  is : (M.prepare w (owner_of a) (batch_in a) ≡ Ok preview) ⊎ (M.prepare (finish w).next (owner_of a) (batch_in a) ≡ Ok preview)
  says : bodies_of a.lent l.items ≡ said_by preview.records

finished_test : (p : RecoveredRaftStorage) (pst : List ℕ) (f : Finished) → Finishes p pst f → sound_test f.state pst ≡ true → sound_test p pst ≡ true
finished_test p pst f fin e = go (sound_test p pst) refl
  where
    go : (b : Bool) → sound_test p pst ≡ b → b ≡ true
    go true q = refl
    go false q = sym q ∙ ap (λ (x : RecoveredRaftStorage). sound_test x pst) (sym (fin.kept q)) ∙ e

comes : (s : RecoveredRaftStorage) (st : List ℕ) (a : Asked) (l : ArrayVec PreparedRecord) → Prepared s st a l → Comes (recovery_of s st) a l
comes s st a l (unfinished p pst same k) =
    let t : Told (recovery_of p pst) a l = told p pst a l k in
    record { preview = t.preview; is = inl (ap (λ (w : Recovery). M.prepare w (owner_of a) (batch_in a)) (sym same) ∙ t.is); says = t.says }
comes s st a l (finished p pst f same fin k) =
    let t : Told (recovery_of f.state pst) a l = told f.state pst a l k in
    let next : (finish (recovery_of s st)).next ≡ recovery_of f.state pst =
    ap (λ (w : Recovery). (finish w).next) (sym same)
    ∙ ap (λ (o : Out Recovery). o.next) (fin.means (finished_test p pst f fin (answered_sound f.state pst a l k))) in
    record { preview = t.preview; is = inr (ap (λ (w : Recovery). M.prepare w (owner_of a) (batch_in a)) next ∙ t.is); says = t.says }

-- What the journal says.
contents_are : (bytes : List ℕ) (ws : List WalRecord) → map content (journal_of ws bytes) ≡ map content_of (map (λ r. body_of r.body bytes) ws)
contents_are bytes [] = refl
contents_are bytes (r ∷ ws) = ap {B = List Content} (λ l. content_of (body_of r.body bytes) ∷ l) (contents_are bytes ws)

said_contents : (k : ℕ) (p : M.Prepared) → map content_of (take k (said_by p)) ≡ map Some (take k p)
said_contents zero p = refl
said_contents (suc k) [] = refl
said_contents (suc k) (x ∷ p) = ap {B = List Content} (λ l. Some x ∷ l) (said_contents k p)

-- The first n of records that say the first of an answer do so too.
first_part : (n k : ℕ) (ws : List Record) (p : M.Prepared) → map content ws ≡ map Some (take k p) → (m : ℕ) × (map content (take n ws) ≡ map Some (take m p))
first_part zero k ws p e = (0, refl)
first_part (suc n) k [] p e = (0, refl)
first_part (suc n) zero (r ∷ ws) p e = absurd (nil≢cons (sym e))
first_part (suc n) (suc k) (r ∷ ws) [] e = absurd (nil≢cons (sym e))
first_part (suc n) (suc k) (r ∷ ws) (x ∷ p) e =
    let head : content r ≡ Some x = cc e in
    let tail : map content ws ≡ map Some (take k p) = cc e in
    let rest = first_part n k ws p tail in
    (suc rest.0, λ i. head i ∷ rest.1 i)

-- What observing does with them, where the answer comes of a preview.
back : (s : RecoveredRaftStorage) (st : List ℕ) (a : Asked) (l : ArrayVec PreparedRecord) (k : ℕ) (j : Journal) (c : ObservedChunk) (st' : List ℕ)
    → sound_test s st ≡ true → Comes (recovery_of s st) a l → Written s st a l k j → Runs s st j.records j.lent c st'
    → ReadsBack s st a l k j c st'
back s st a l k j c st' tested m w r =
    record {
      taken = ap (λ (x : Chunk). x.taken) (sym chunk) ∙ whole_taken before records none ∙ length-map j.records (λ x. record_of x j.lent);
      accepted = ap (λ (x : Chunk). x.ended) (sym chunk) ∙ none;
      preview = m.preview;
      comes = m.is;
      as_many = sym (length-map l.items (λ x. body_of x.body a.lent)) ∙ ap length m.says ∙ length-map m.preview.records (λ x. raft x.0 x.1);
      left = subst (λ (x : State). B.Left (meaning s st) x (owner_of a) (batch_in a) m.preview k) (sym left) b.left;
    }
  where
    before : Recovery
    before = recovery_of s st

    records : List Record
    records = journal_of j.records j.lent

    whole : (b : Bool) → sound before ≡ b → b ≡ true
    whole true e = refl
    whole false e = absurd (true≢false (sym tested ∙ r.unsound e))

    first_k : map content records ≡ map Some (take k m.preview.records)
    first_k =
        contents_are j.lent j.records
        ∙ ap (map content_of) w.first_k
        ∙ ap (λ (x : List Body). map content_of (take k x)) m.says
        ∙ said_contents k m.preview.records

    reads : (n : ℕ) (ws : List Record) → every fits ws ≡ true → Rising before.state.last_scanned_lsn ws
        → map content ws ≡ map Some (take n m.preview.records)
        → B.ReadsBack before (owner_of a) (batch_in a) m.preview n ws
    reads n ws fit rising first =
        read_back before (whole (sound before) refl) (owner_of a) (batch_in a) m.preview n ws fit
        (record {
          accepted = m.is;
          admitted = record { commit = w.admitted.commit; room = w.admitted.room; counts = w.admitted.counts; rising = rising };
          first_k = first;
        })

    chunk : observe_until_refused before records ≡ chunk_of c st'
    chunk = r.means tested

    observed_first : Cut before records (chunk_of c st')
    observed_first = subst (Cut before records) chunk (cut before records)

    -- Those that were observed are a machine's, so they are accepted; so they are all.
    ended : (chunk_of c st').ended ≡ None
    ended =
        let part = first_part (spent (chunk_of c st')) k records m.preview.records first_k in
        accepted_ends before records (chunk_of c st') observed_first
        (reads part.0 (chunk_records j.records j.lent c st') (r.machine tested)
        (rising_first before.state.last_scanned_lsn (spent (chunk_of c st')) records w.admitted.rising)
        part.1).accepted

    b : B.ReadsBack before (owner_of a) (batch_in a) m.preview k records
    b =
        reads k records
        (subst (λ (ws : List Record). every fits ws ≡ true) (spent_all before records (chunk_of c st') observed_first ended) (r.machine tested))
        w.admitted.rising first_k

    none : (observe_until_refused before records).ended ≡ None
    none = ap (λ (x : Chunk). x.ended) chunk ∙ ended

    left : meaning c.state st' ≡ (observed before records).state
    left = ap (λ (x : Chunk). x.left.state) (sym chunk) ∙ ap (λ (x : Recovery). x.state) (whole_left before records none)

pub program_read_back : ProgramReadBack
program_read_back s st a l k j c st' tested w r = back s st a l k j c st' tested (comes s st a l w.accepted) w r

pub program_read_back_from_empty : ProgramReadBackFromEmpty
program_read_back_from_empty cs kept few a l k j c st' w r =
    let left : Left fresh_storage (zeros 32768) cs = calls_are fresh_storage (zeros 32768) cs kept fresh_test (omega arith) in
    program_read_back (state_after_calls fresh_storage cs) (store_after_calls (zeros 32768) cs) a l k j c st' left.sound w r
