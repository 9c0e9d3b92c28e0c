-- Payloads that the definition's test finds the same are equal.
-- Assumes nothing.
use mathlib.Core.Path.{◌≡◌, refl, ap}
use mathlib.Core.Bool.{Bool, true, ◌&&◌, false≢true}
use native.Mathlib.Omega.{arith}
use borrow.Author.Tests.{eqb-true}
use Rattle.definition.specs.Table.{◌=?◌}
use Rattle.definition.specs.Records.{Command, inside, outside, Change, addLearner, promoteLearner, removeReplica, Payload, normal, configuration, same_command, same_payload, change_number}
use Rattle.definition.proofs.Store.{same_bytes_eq}
use Rattle.definition.proofs.Laws.{and_l, and_r}

command_eq : (a b : Command) → same_command a b ≡ true → a ≡ b
command_eq (inside a) (inside b) e = ap inside (same_bytes_eq a b e)
command_eq (inside a) outside e = absurd (false≢true e)
command_eq outside (inside b) e = absurd (false≢true e)
command_eq outside outside e = refl

change_eq : (a b : Change) → change_number a ≡ change_number b → a ≡ b
change_eq addLearner addLearner e = refl
change_eq addLearner promoteLearner e = absurd (omega arith)
change_eq addLearner removeReplica e = absurd (omega arith)
change_eq promoteLearner addLearner e = absurd (omega arith)
change_eq promoteLearner promoteLearner e = refl
change_eq promoteLearner removeReplica e = absurd (omega arith)
change_eq removeReplica addLearner e = absurd (omega arith)
change_eq removeReplica promoteLearner e = absurd (omega arith)
change_eq removeReplica removeReplica e = refl

pub payload_eq : (a b : Payload) → same_payload a b ≡ true → a ≡ b
payload_eq (normal a) (normal b) e = ap normal (command_eq a b e)
payload_eq (normal a) (configuration c v r) e = absurd (false≢true e)
payload_eq (configuration c v r) (normal b) e = absurd (false≢true e)
payload_eq (configuration c v r) (configuration c' v' r') e =
    let cv : Bool = change_number c =? change_number c' && v =? v' in
    let x : cv ≡ true = and_l cv (r =? r') e in
    let p : c ≡ c' = change_eq c c' (eqb-true (change_number c) (change_number c') (and_l (change_number c =? change_number c') (v =? v') x)) in
    let q : v ≡ v' = eqb-true v v' (and_r (change_number c =? change_number c') (v =? v') x) in
    let s : r ≡ r' = eqb-true r r' (and_r cv (r =? r') e) in
    λ t. configuration (p t) (q t) (s t)
