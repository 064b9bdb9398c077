-- Demand 2: a file is taken exactly if the holding is sound, every line and step is allowed and the undo fits; what a load leaves then, and when it refuses.
use Rattle.std.specs.Prelude.{T, length}
use mathlib.Core.List.{List}
use Prim.Native.Nat.{ℕ, ◌≤◌}
use Rattle.theory.specs.Store.{get, Asc}
use Rattle.theory.specs.Refs.{met}
use Rattle.theory.specs.Step.{Change, allowed, at, after}
use Rattle.theory.specs.Trail.{final, Each, Through}
use Rattle.meaning.specs.Format.{Format}
use Rattle.meaning.specs.Records.{Rec, keyed, refs_of}
use Rattle.meaning.specs.File.{Frame}
use Rattle.meaning.specs.Steps.{few, fits}
use Rattle.meaning.specs.Undo.{undo_bytes}
use Rattle.laws.specs.SoundHolding.{SoundHolding}
use Rattle.laws.specs.SoundFile.{SoundFile}

module _ (F : Format) where
  -- ---- steps, without running them

  -- a step is lawful: insert needs its key absent, update and delete need it present; and afterwards there are at most 8,192 records and every reference is met
  pub record StepLawful (st : List Rec) (c : Change Rec) : Type 0 where
    pub keyed? : T (allowed c.op (get (keyed F) (at (keyed F) c) st))
    pub few_records : T (few (after (keyed F) st c))
    pub references : T (met (keyed F) (refs_of F) (after (keyed F) st c))

  -- a step is allowed: it is lawful, and afterwards the holding is not longer than its buffer
  pub record StepAllowed (room : ℕ) (st : List Rec) (c : Change Rec) : Type 0 where
    pub lawful : StepLawful st c
    pub roomy : T (fits room (after (keyed F) st c))

  -- each step is allowed where the steps before it lead
  abbrev pub StepsAllowed : ℕ → List Rec → List (Change Rec) → Type 0
  StepsAllowed room = Each (after (keyed F)) (StepAllowed room)

  -- ---- all is allowed

  -- everything is allowed: the holding is sound, every line of the file is allowed at its place, there is room at the start, and every step is allowed
  pub record Allowed (old b : List ℕ) (room : ℕ) : Type 0 where
    pub st : List Rec
    pub fr : Frame
    pub cs : List (Change Rec)
    pub held : SoundHolding F old st
    pub lines : SoundFile F b fr cs
    pub starts : T (fits room st)
    pub steps : StepsAllowed room st cs

  -- the records afterwards
  abbrev pub after_all : {old b : List ℕ} {room : ℕ} → Allowed old b room → List Rec
  after_all a = final (after (keyed F)) a.st a.cs

  -- the undo isn't longer than its buffer
  abbrev pub UndoFits : List ℕ → List ℕ → ℕ → Type 0
  UndoFits old b undo_room = length (undo_bytes F old b) ≤ undo_room

  -- ---- all is lawful, where a sound holding and buffers with room at every step are given

  -- every line of the file is allowed at its place, and every step is lawful over the records st
  pub record Lawful (st : List Rec) (b : List ℕ) : Type 0 where
    pub fr : Frame
    pub cs : List (Change Rec)
    pub lines : SoundFile F b fr cs
    pub steps : Each (after (keyed F)) StepLawful st cs

  -- there is room before the first step and after each
  abbrev pub Roomy : ℕ → List Rec → List ℕ → Type 0
  Roomy room st b = (fr : Frame) (cs : List (Change Rec)) → SoundFile F b fr cs → Through (after (keyed F)) (λ s. T (fits room s)) st cs

  -- ---- the states of a run

  -- records that may stand at any time: each key once and in order, every reference met, at most 8,192, and not longer than the buffer
  pub record Whole (room : ℕ) (st : List Rec) : Type 0 where
    pub ascending : Asc (keyed F) st
    pub references : T (met (keyed F) (refs_of F) st)
    pub few_records : T (few st)
    pub roomy : T (fits room st)
