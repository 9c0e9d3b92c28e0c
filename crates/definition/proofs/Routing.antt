-- Routing over whatever is held for a replica: where one way of visiting is another seen through a map, the whole is. Counts beside a log,
-- or a history for a log, are seen as the log.
-- Assumes nothing.
use Rattle.std.specs.Prelude.{ℕ, Bool, List, length, Option, None, Some, option_map, ◌≡◌}
use mathlib.Core.Path.{refl, sym, ap, ap₂, ◌∙◌}
use lib.ListN.{length-map}
use Rattle.definition.specs.Table.{◌≤?◌}
use Rattle.definition.specs.Records.{Identity, Kind, Content}
use Rattle.definition.specs.Recovery.{Held, held, lookup, keep, Out, out, Visit, route_by}
use Rattle.definition.proofs.Order.{map_held, lookup_map, put_map}

module _ {L M : Type 0} (g : L → M) where
  abbrev pub seen : List (Held L) → List (Held M)
  seen l = map_held (λ i x. g x) l

  -- The visit w is v, seen through g.
  abbrev pub Seen : Visit L → Visit M → Type 0
  Seen v w =
      (full : Bool) (i : Identity) (k : Kind) (t : ℕ) (was : Option L)
      → w full i k t (option_map g was) ≡ out (v full i k t was).answer (option_map g (v full i k t was).next)

  keep_seen : (i : Identity) (o : Option L) (l : List (Held L)) → keep i (option_map g o) (seen l) ≡ seen (keep i o l)
  unfolding keep
  keep_seen i None l = refl
  keep_seen i (Some x) l = sym (put_map (λ j y. g y) i x l)

  pub route_seen : (v : Visit L) (w : Visit M) → Seen v w → (l : List (Held L)) (lsn : ℕ) (c : Content)
      → route_by w (seen l) lsn c ≡ out (route_by v l lsn c).answer (seen (route_by v l lsn c).next)
  unfolding route_by
  route_seen v w h l lsn None = refl
  route_seen v w h l lsn (Some (i, k)) =
      let o : Out (Option L) = v (8 ≤? length l) i k lsn (lookup i l) in
      ap (λ (x : Out (Option M)). out x.answer (keep i x.next (seen l)))
      (ap₂ (λ (n : ℕ) (x : Option M). w (8 ≤? n) i k lsn x) (length-map l (λ a. held a.id (g a.log))) (lookup_map (λ j y. g y) i l) ∙ h (8 ≤? length l) i k lsn (lookup i l))
      ∙ ap (out o.answer) (keep_seen i o.next l)
