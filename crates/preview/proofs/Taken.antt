-- What taking an entry asks: a place of the block, an LSN that has a next one, an entry that can be compared and written.
-- Assumes nothing.
use mathlib.Core.Path.{◌≡◌, refl, ap, ◌∙◌}
use mathlib.Core.Bool.{Bool, true, false}
use mathlib.Core.List.{List}
use Prim.Native.Nat.{ℕ, ◌<◌, ◌≤◌}
use native.Mathlib.Omega.{arith}
use borrow.Author.Tests.{ltb-true, leb-false}
use lib.ListN.{get_or}
use Rattle.std.specs.Prelude.{if◌then◌else◌, Option, None, Some}
use Rattle.definition.specs.Table.{◌<?◌, u64_max}
use Rattle.definition.proofs.Laws.{clear}
use Rattle.codec.specs.declared.RaftLogEntryRecord.{RaftLogEntryRecord}
use Rattle.codec.specs.Records.{log_entry_of}
use Rattle.view.specs.declared.Header.{Header}
use Rattle.view.specs.Meaning.{no_entry}
use Rattle.view.specs.Readers.{place_of}
use Rattle.view.proofs.Readers.{Held, held_at_lem}
use Rattle.replay.specs.Plan.{Replayable}
use Rattle.preview.specs.declared.Preview.{Preview}
use Rattle.batches.specs.Checks.{entry_form_rows}
use Rattle.preview.specs.Preview.{within, spot_in, spot_of, Takes}
use Rattle.preview.proofs.Supplied.{form_fit}

within_below : (n : ℕ) → within n < 64
within_below n = go (n <? 64) refl
  where
    go : (b : Bool) → (n <? 64) ≡ b → (if b then n else 0) < 64
    go true e = ltb-true n 64 e
    go false e = let z : 0 < 64 = omega arith in z

spot_below : (h : Header) (x : ℕ) → h.len ≤ 64 → spot_of h x < 64
spot_below h x l = go (place_of h x) refl
  where
    go : (o : Option ℕ) → place_of h x ≡ o → spot_in o h.len < 64
    go None e = within_below h.len
    go (Some q) e = let k : Held h x q = held_at_lem h x q e in let b : q < h.len = k.below in omega arith

module _ (p : Preview) (q : ℕ) (r : RaftLogEntryRecord) (cs lent : List ℕ) (t : Takes p q r cs lent) where
  pub take_below : q < 64
  take_below = rw t.place (spot_below p.head r.index t.sits.fits.short)

  pub take_lsn : p.lsn < u64_max
  take_lsn = leb-false u64_max p.lsn (clear (entry_form_rows p.lsn (log_entry_of r lent)) t.formed).0

  at_held : (k : ℕ) → place_of p.head r.index ≡ Some k → q ≡ k
  at_held k e = t.place ∙ ap (λ (x : Option ℕ). spot_in x p.head.len) e

  pub take_replayable : Replayable p.head (get_or p.entries q no_entry) r cs lent
  take_replayable =
      record {
        holds =
            record {
              bytes = t.sits.bytes;
              short = t.sits.fits.short;
              small = λ k e. rw (at_held k e) (t.sits.fits.sizes k (held_at_lem p.head r.index k e).below);
            };
        fit = form_fit p cs t.sits r lent t.formed;
      }
