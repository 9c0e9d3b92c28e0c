-- The successor checks chain, hold across a gap, and let each valid one follow itself (document 02, Q-5).
-- Assumes nothing.
use Rattle.std.specs.Prelude.{Option, None, Some}
use Prim.Native.Nat.{ℕ, zero, suc, ◌≤◌}
use mathlib.Core.Path.{◌≡◌, refl, sym, ap, ◌∙◌}
use mathlib.Core.Bool.{Bool, true, false, ◌&&◌, not, true≢false}
use mathlib.Core.List.{List, [], ◌∷◌, ◌++◌, map}
use native.Mathlib.Omega.{arith}
use borrow.Author.Tests.{ltb-false, eqb-true, le-ltb, eq-eqb, not-false}
use Rattle.definition.specs.Table.{◌=?◌, ◌≠?◌, Row, first_of, present}
use Rattle.definition.specs.Records.{HardState, zero_vote, zero_voted_for_replica_id, zero_current_term}
use Rattle.definition.specs.Frontier.{RaftProgress, truncation_regression, applied_regression, boundary_term_changed, progress_rows, progress_successor_rows, validate_progress, validate_progress_successor}
use Rattle.definition.specs.Log.{PointerRecord, same_pointer_record, vote_changed, vote_cleared, hard_state_successor_rows, validate_hard_state_successor, snapshot_successor_rows, validate_snapshot_successor}
use Rattle.definition.specs.Chaining.{HardStateFollows, PointerFollows, ProgressFollows, validate_hard_state, polled, Chain, Poll, Chains, Polls, FollowsItself}
use Rattle.definition.proofs.Laws.{then_false, Clear, clear, unclear, clear_l, clear_r, clear_i, first_join, or_else}
use Rattle.definition.proofs.Same.{record_eq, record_self}

-- A test that counts only where two numbers are equal.
where_equal : (x y : ℕ) (b : Bool) → (x =? y && b) ≡ false → x ≡ y → b ≡ false
where_equal x y b e q = then_false (x =? y) b e (eq-eqb x y q)

unless_equal : (x y : ℕ) (b : Bool) → (x ≡ y → b ≡ false) → (x =? y && b) ≡ false
unless_equal x y b h = go (x =? y) refl
  where
    go : (c : Bool) → (x =? y) ≡ c → (c && b) ≡ false
    go true e = h (eqb-true x y e)
    go false e = refl

-- What the three checks share: a number (a term, an index) never falls, and while it stays something else holds.
module _ {A : Type 0} (number : A → ℕ) (Keeps : A → A → Type 0) where
  record Later (old new : A) : Type 0 where
    rises : number old ≤ number new
    keeps : number new ≡ number old → Keeps old new

  later_chain : ((a b c : A) → Keeps a b → Keeps b c → Keeps a c) → (a b c : A) → Later a b → Later b c → Later a c
  later_chain t a b c p q =
      record {
        rises = omega arith;
        keeps = λ e. t a b c (p.keeps (omega arith)) (q.keeps (omega arith));
      }

-- Hard states: the term (33) with the vote (35, 36), and the commit (34). Within a term a vote neither changes nor goes.
Stays : Option ℕ → Option ℕ → Type 0
Stays v w = (vote_changed v w ≡ false) × (vote_cleared v w ≡ false)

vote_chain : (u v w : Option ℕ) → Stays u v → Stays v w → Stays u w
unfolding Stays
vote_chain None v w p q = (refl, refl)
vote_chain (Some a) None w p q = absurd (true≢false p.1)
vote_chain (Some a) (Some b) None p q = absurd (true≢false q.1)
vote_chain (Some a) (Some b) (Some c) p q = (ap (λ (x : ℕ). x ≠? c) (eqb-true a b (not-false (a =? b) p.0)) ∙ q.0, refl)

vote_self : (v : Option ℕ) → Stays v v
unfolding Stays
vote_self None = (refl, refl)
vote_self (Some a) = (ap not (eq-eqb a a refl), refl)

abbrev HardStateLater : HardState → HardState → Type 0
HardStateLater o h = Later (λ x. x.current_term) (λ x y. Stays x.voted_for y.voted_for) o h × (o.commit ≤ h.commit)

hard_facts : (o h : HardState) → Clear (hard_state_successor_rows h (Some o)) → HardStateLater o h
unfolding hard_state_successor_rows Stays
hard_facts o h c = (
  record {
    rises = ltb-false _ _ c.0;
    keeps = λ e. (where_equal _ _ _ c.1.1.0 e, where_equal _ _ _ c.1.1.1.0 e);
  },
  ltb-false _ _ c.1.0,
)

hard_test : (o h : HardState) → HardStateLater o h → Clear (hard_state_successor_rows h (Some o))
unfolding hard_state_successor_rows Stays
hard_test o h (l, m) =
    (le-ltb _ _ l.rises, (le-ltb _ _ m, (unless_equal _ _ _ (λ e. (l.keeps e).0), (unless_equal _ _ _ (λ e. (l.keeps e).1), tt))))

hard_later : (a b c : HardState) → HardStateLater a b → HardStateLater b c → HardStateLater a c
hard_later a b c p q =
    (later_chain _ _ (λ x y z. vote_chain x.voted_for y.voted_for z.voted_for) a b c p.0 q.0, omega arith)

-- The whole check: 13 of either side, 15, 33 to 36.
abbrev check_rows : Option HardState → HardState → List Row
check_rows old h = map zero_voted_for_replica_id (h ∷ present old) ++ zero_current_term h ∷ hard_state_successor_rows h old

hard_chain : Chain HardStateFollows
unfolding validate_hard_state_successor hard_state_successor_rows
hard_chain None b c p q =
    let y : Clear (check_rows (Some b) c) = clear (check_rows (Some b) c) q in
    unclear (check_rows None c) (y.0, (y.1.1.0, (refl, (refl, (refl, (refl, tt))))))
hard_chain (Some a) b c p q =
    let x : Clear (check_rows (Some a) b) = clear (check_rows (Some a) b) p in
    let y : Clear (check_rows (Some b) c) = clear (check_rows (Some b) c) q in
    let z = hard_test a c (hard_later a b c (hard_facts a b x.1.1.1) (hard_facts b c y.1.1.1)) in
    unclear (check_rows (Some a) c) (y.0, (x.1.0, (y.1.1.0, z)))

hard_self : (h : HardState) → validate_hard_state_successor (Some h) h ≡ validate_hard_state h
unfolding validate_hard_state_successor validate_hard_state
hard_self h = go (zero_vote h) (h.current_term =? 0) refl refl
  where
    go : (a b : Bool) → zero_vote h ≡ a → (h.current_term =? 0) ≡ b → first_of (check_rows (Some h) h) ≡ validate_hard_state h
    go true b x y = rw x
    go false true x y = rw (x, y)
    go false false x y =
        rw (x, y)
        (unclear (hard_state_successor_rows h (Some h)) (hard_test h h (record { rises = omega arith; keeps = λ e. vote_self h.voted_for }, omega arith)))

-- Pointers: the index (39) with the whole record (40).
abbrev PointerLater : PointerRecord → PointerRecord → Type 0
PointerLater o p = Later (λ x. x.snapshot.last_included_index) (λ x y. y ≡ x) o p

pointer_facts : (o p : PointerRecord) → Clear (snapshot_successor_rows p (Some o)) → PointerLater o p
unfolding snapshot_successor_rows
pointer_facts o p c =
    record { rises = ltb-false _ _ c.0; keeps = λ e. record_eq p o (not-false (same_pointer_record p o) (where_equal _ _ _ c.1.0 e)) }

pointer_test : (o p : PointerRecord) → PointerLater o p → Clear (snapshot_successor_rows p (Some o))
unfolding snapshot_successor_rows
pointer_test o p l =
    (le-ltb _ _ l.rises, (unless_equal _ _ _ (λ e. ap (λ (x : PointerRecord). not (same_pointer_record p x)) (sym (l.keeps e)) ∙ ap not (record_self p)), tt))

pointer_chain : Chain PointerFollows
unfolding validate_snapshot_successor snapshot_successor_rows
pointer_chain None b c p q = refl
pointer_chain (Some a) b c p q =
    let x = pointer_facts a b (clear (snapshot_successor_rows b (Some a)) p) in
    let y = pointer_facts b c (clear (snapshot_successor_rows c (Some b)) q) in
    unclear (snapshot_successor_rows c (Some a)) (pointer_test a c (later_chain _ _ (λ u v w e f. f ∙ e) a b c x y))

pointer_self : (p : PointerRecord) → validate_snapshot_successor (Some p) p ≡ None
unfolding validate_snapshot_successor
pointer_self p = unclear (snapshot_successor_rows p (Some p)) (pointer_test p p (record { rises = omega arith; keeps = λ e. refl }))

-- Progress: the truncation index (54) with its term (56), and the applied index (55). 51 to 53 are the new one's own.
abbrev later_rows : RaftProgress → RaftProgress → List Row
later_rows p o = truncation_regression p o ∷ applied_regression p o ∷ boundary_term_changed p o ∷ []

abbrev ProgressLater : RaftProgress → RaftProgress → Type 0
ProgressLater o p = Later (λ x. x.truncated_through_index) (λ x y. y.truncated_through_term ≡ x.truncated_through_term) o p × (o.applied_index ≤ p.applied_index)

progress_facts : (o p : RaftProgress) → Clear (later_rows p o) → ProgressLater o p
progress_facts o p c =
    (record { rises = ltb-false _ _ c.0; keeps = λ e. eqb-true _ _ (not-false _ (where_equal _ _ _ c.1.1.0 e)) }, ltb-false _ _ c.1.0)

progress_test : (o p : RaftProgress) → ProgressLater o p → Clear (later_rows p o)
progress_test o p (l, m) = (le-ltb _ _ l.rises, (le-ltb _ _ m, (unless_equal _ _ _ (λ e. ap not (eq-eqb _ _ (l.keeps e))), tt)))

progress_chain : Chain ProgressFollows
unfolding validate_progress validate_progress_successor progress_successor_rows
progress_chain None b c p q = unclear (progress_rows c) (clear_l (progress_rows c) (later_rows c b) (clear (progress_successor_rows c b) q))
progress_chain (Some a) b c p q =
    let x = progress_facts a b (clear_r (progress_rows b) (later_rows b a) (clear (progress_successor_rows b a) p)) in
    let z : Clear (progress_rows c ++ later_rows c b) = clear (progress_successor_rows c b) q in
    let y = progress_facts b c (clear_r (progress_rows c) (later_rows c b) z) in
    unclear (progress_successor_rows c a)
    (clear_i (progress_rows c) (later_rows c a) (clear_l (progress_rows c) (later_rows c b) z)
    (progress_test a c (later_chain _ _ (λ u v w e f. f ∙ e) a b c x.0 y.0, omega arith)))

progress_self : (p : RaftProgress) → validate_progress_successor p p ≡ validate_progress p
unfolding validate_progress validate_progress_successor progress_successor_rows
progress_self p =
    first_join (progress_rows p) (later_rows p p)
    ∙ ap (or_else (first_of (progress_rows p))) (unclear (later_rows p p) (progress_test p p (record { rises = omega arith; keeps = λ e. refl }, omega arith)))
    ∙ or_none (first_of (progress_rows p))
  where
    or_none : (o : Option ℕ) → or_else o None ≡ o
    or_none None = refl
    or_none (Some n) = refl

pub chains : Chains
chains = record { hard_states = hard_chain; pointers = pointer_chain; progresses = progress_chain }

pub follows_itself : FollowsItself
follows_itself = record { hard_states = hard_self; pointers = pointer_self; progresses = progress_self }

-- What chains may be polled.
poll : {A : Type 0} (Follows : Option A → A → Type 0) → Chain Follows → Poll Follows
unfolding polled
poll F t [] o l h = tt
poll F t (n ∷ gaps) o [] h = tt
poll F t (zero ∷ gaps) o (a ∷ l) h = (h.0, poll F t gaps (Some a) l h.1)
poll F t (suc n ∷ gaps) o (a ∷ []) h = tt
poll F t (suc n ∷ gaps) o (a ∷ b ∷ l) h = poll F t (n ∷ gaps) o (b ∷ l) (t o a b h.0 h.1.0, h.1.1)

pub polls : Polls
polls =
    record {
      hard_states = poll HardStateFollows hard_chain;
      pointers = poll PointerFollows pointer_chain;
      progresses = poll ProgressFollows progress_chain;
    }
