-- Changes as they were made: what the way back from the way back is.
use Rattle.std.proofs.Math.Option.{Option, get_or}
use Rattle.std.specs.Prelude.{List, [], ◌∷◌}
use Rattle.theory.specs.Keyed.{Keyed}
use Rattle.theory.specs.Store.{get}
use Rattle.theory.specs.Step.{Op, ins, upd, del, Change, at, after}

module _ (K : Keyed) where
  open K use {Rec}

  -- the record with which a change was made, where o stood at its key: a delete's is the one that it removed
  abbrev pub rec_made : Op → Rec → Option Rec → Rec
  rec_made ins r o = r
  rec_made upd r o = r
  rec_made del r o = get_or o r

  -- the change as it was made
  unfoldable pub made : List Rec → Change Rec → Change Rec
  made st c = record { op = c.op; rec = rec_made c.op c.rec (get K (at K c) st) }

  -- changes as they were made, each over the state in which it was
  abbrev pub as_made : List Rec → List (Change Rec) → List (Change Rec)
  as_made st [] = []
  as_made st (c ∷ cs) = made st c ∷ as_made (after K st c) cs
