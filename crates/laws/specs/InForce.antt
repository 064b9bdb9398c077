-- The record in force is what a load would leave at that key if the file were taken.
use Rattle.std.specs.Prelude.{◌≡◌, ℕ, suc, length}
use Rattle.std.proofs.Math.Option.{Option, none, some}
use mathlib.Core.List.{List, ◌∷◌, ◌++◌}
use Rattle.theory.specs.Store.{get}
use Rattle.theory.specs.Step.{Op, Change, new}
use Rattle.meaning.specs.Format.{Format}
use Rattle.meaning.specs.Records.{Rec, keyed, key_of}

module _ (F : Format) where
  -- what the last body line naming a key says of the value v that stands there afterwards: it is that line's, or, where none names it, the holding's
  abbrev pub NamedSays : List ℕ → List Rec → List (Change Rec) → Option (ℕ × Op) → Option Rec → Type 0
  NamedSays q st cs none v = v ≡ get (keyed F) q st
  NamedSays q st cs (some l) v =
      (pre : List (Change Rec))
      × (c : Change Rec)
      × (post : List (Change Rec))
      × (cs ≡ pre ++ (c ∷ post))
      × (l.0 ≡ suc (length pre))
      × (l.1 ≡ c.op)
      × (q ≡ key_of F c.rec)
      × (v ≡ new c.op c.rec)
