-- The two checks by their answers: 0 just where every line is allowed in its place, and a fault that nothing after it can change.
use Rattle.std.specs.Prelude.{List, ℕ}
use Rattle.theory.specs.Step.{Change}
use Rattle.meaning.specs.Format.{Format}
use Rattle.meaning.specs.Records.{Rec}
use Rattle.meaning.specs.File.{Frame}
use Rattle.laws.specs.SoundHolding.{SoundHolding}
use Rattle.laws.specs.SoundFile.{SoundFile}

module _ (F : Format) where
  -- ---- a file

  -- a sound file, whatever it says
  pub record SomeFile (b : List ℕ) : Type 0 where
    pub frame : Frame
    pub changes : List (Change Rec)
    pub sounds : SoundFile F b frame changes

  -- ---- a holding

  -- a sound holding, whatever it holds
  pub record SomeHolding (b : List ℕ) : Type 0 where
    pub state : List Rec
    pub sounds : SoundHolding F b state
