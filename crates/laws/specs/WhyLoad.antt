-- Why a load is refused, and with which numbers: its holding, its file, the start, or the first step that isn't allowed; and, last, the length of
-- its undo.
use Rattle.std.specs.Prelude.{◌≡◌}
use mathlib.Core.List.{List}
use Prim.Native.Nat.{ℕ}
use Rattle.std.proofs.Math.Dec.{T}
use Rattle.theory.specs.Step.{Change}
use Rattle.theory.specs.Answer.{took, refused}
use Rattle.meaning.specs.Format.{Format}
use Rattle.meaning.specs.Records.{Rec}
use Rattle.meaning.specs.File.{Frame}
use Rattle.meaning.specs.Load.{check_file, check_holding}
use Rattle.meaning.specs.Steps.{fits}
use Rattle.meaning.specs.Answers.{Answer}
use Rattle.laws.specs.SoundHolding.{SoundHolding}
use Rattle.laws.specs.SoundFile.{SoundFile}
use Rattle.laws.specs.Checks.{SomeFile, SomeHolding}
use Rattle.laws.specs.Demand2.{Allowed}
use Rattle.laws.specs.StepFails.{FirstRefused}
use Rattle.meaning.specs.Codes.{holding_too_long, holding_unsound}

-- ---- numbers

-- code, line and field are these
abbrev pub Numbered : ℕ → ℕ → ℕ → ℕ → ℕ → ℕ → Type 0
Numbered code line field c l f = (code ≡ c) × (line ≡ l) × (field ≡ f)

-- and so is the place
abbrev pub Located : ℕ → ℕ → ℕ → ℕ → ℕ → ℕ → ℕ → ℕ → Type 0
Located code line field place c l f p = Numbered code line field c l f × (place ≡ p)

module _ (F : Format) where
  -- ---- a holding or a file is one of two

  -- the bytes are no sound holding
  abbrev pub Unsound : List ℕ → Type 0
  Unsound old = SomeHolding F old → ⊥

  -- the bytes are no sound file
  abbrev pub Faulty : List ℕ → Type 0
  Faulty b = SomeFile F b → ⊥

  -- a sound holding of the records st, and a sound file that says the changes cs
  pub record BothSound (old b : List ℕ) : Type 0 where
    pub st : List Rec
    pub fr : Frame
    pub cs : List (Change Rec)
    pub held : SoundHolding F old st
    pub lines : SoundFile F b fr cs

  -- why a file is refused over a holding with those numbers, but for 17, where the holding may take `room` bytes: the four exclude one another
  pub data Reason (room : ℕ) (old b : List ℕ) (code line field place : ℕ) : Type 0 where
    -- 14: the holding is unsound, and its check names the line
    bad_holding : Unsound old → Located code line field place holding_unsound (check_holding F old).line 0 0 → Reason room old b code line field place
    -- the holding is sound and the file isn't: the numbers of its check
    bad_file : SomeHolding F old → Faulty b → Located code line field place (check_file F b).code (check_file F b).line (check_file F b).field (check_file F b).place
        → Reason room old b code line field place
    -- 13 at line 0: both are sound, and the holding is longer than its room before the first step
    no_start : (m : BothSound old b) → (T (fits room m.st) → ⊥) → Located code line field place holding_too_long 0 0 0 → Reason room old b code line field place
    -- there is room at the start, and a step is the first that is refused; the first body line stands on line 2
    bad_step : (m : BothSound old b) → T (fits room m.st) → FirstRefused F 2 room m.st m.cs line code → field ≡ 0 → place ≡ 0 → Reason room old b code line field place

  -- what the end of a load says, but for 17
  abbrev pub TriedSays : ℕ → List ℕ → List ℕ → Answer → Type 0
  TriedSays room old b (took new n) = Allowed F old b room
  TriedSays room old b (refused r) = Reason room old b r.code r.line r.field r.place
