-- The successor checks across a gap, and finishing again (document 02, Q-5). Quoted words are the customer's.
-- Assumes nothing.
use Rattle.std.specs.Prelude.{ℕ, zero, suc, ◌≡◌, List, [], ◌∷◌, Option, None, Some}
use Rattle.definition.specs.Table.{first_of}
use Rattle.definition.specs.Records.{HardState, zero_voted_for_replica_id, zero_current_term}
use Rattle.definition.specs.Frontier.{RaftProgress, validate_progress, validate_progress_successor}
use Rattle.definition.specs.Log.{PointerRecord, validate_hard_state_successor, validate_snapshot_successor}
use Rattle.definition.specs.Recovery.{Recovery, finish}

-- A hard state by itself: 13, 15. (A progress by itself: `validate_progress`, 51 to 53.)
unfoldable pub validate_hard_state : HardState → Option ℕ
validate_hard_state h = first_of (zero_voted_for_replica_id h ∷ zero_current_term h ∷ [])

-- "may follow": the check refuses by no number. What comes before may be absent; a progress is then checked by itself.
abbrev pub HardStateFollows : Option HardState → HardState → Type 0
HardStateFollows old h = validate_hard_state_successor old h ≡ None

abbrev pub PointerFollows : Option PointerRecord → PointerRecord → Type 0
PointerFollows old p = validate_snapshot_successor old p ≡ None

abbrev pub ProgressFollows : Option RaftProgress → RaftProgress → Type 0
ProgressFollows None p = validate_progress p ≡ None
ProgressFollows (Some old) p = validate_progress_successor p old ≡ None

-- What a poll sees of a list of states, where each gap says how many are passed over before the next one seen: "every tenth state" is
-- 9, 9, ..
unfoldable pub polled : {A : Type 0} → List ℕ → List A → List A
polled [] l = []
polled (gap ∷ gaps) [] = []
polled (zero ∷ gaps) (a ∷ l) = a ∷ polled gaps l
polled (suc gap ∷ gaps) (a ∷ l) = polled (gap ∷ gaps) l

-- Of one check:
module _ {A : Type 0} (Follows : Option A → A → Type 0) where
  -- "if the second may follow the first and the third the second, the third may follow the first"
  abbrev pub Chain : Type 0
  Chain = (first : Option A) (second third : A) → Follows first second → Follows (Some second) third → Follows first third

  -- Each of a list may follow the one before it.
  abbrev pub EachFollows : Option A → List A → Type 0
  EachFollows first [] = Unit {0}
  EachFollows first (a ∷ l) = Follows first a × EachFollows (Some a) l

  -- "the successor checks across the gap": where each state may follow the one before it, each one seen may follow the one seen before.
  abbrev pub Poll : Type 0
  Poll = (gaps : List ℕ) (first : Option A) (l : List A) → EachFollows first l → EachFollows first (polled gaps l)

-- "all three checks (hard state, pointer, progress) chain"
pub record Chains : Type 0 where
  pub hard_states : Chain HardStateFollows
  pub pointers : Chain PointerFollows
  pub progresses : Chain ProgressFollows

-- "polls every tenth state and wants the successor checks across the gap"
pub record Polls : Type 0 where
  pub hard_states : Poll HardStateFollows
  pub pointers : Poll PointerFollows
  pub progresses : Poll ProgressFollows

-- "each valid hard state, pointer and progress may follow itself": after itself a hard state or a progress is refused exactly as by
-- itself, and a pointer never.
pub record FollowsItself : Type 0 where
  pub hard_states : (h : HardState) → validate_hard_state_successor (Some h) h ≡ validate_hard_state h
  pub pointers : (p : PointerRecord) → validate_snapshot_successor (Some p) p ≡ None
  pub progresses : (p : RaftProgress) → validate_progress_successor p p ≡ validate_progress p

-- "finishing a recovery twice equals finishing it once": answer, state and store. It holds of every recovery, sound or not.
abbrev pub FinishingTwice : Recovery → Type 0
FinishingTwice w = finish (finish w).next ≡ finish w
