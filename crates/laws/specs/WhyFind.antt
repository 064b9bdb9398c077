-- Why find answers as it does: the held line that it hands back, or the test that refuses.
use Rattle.std.specs.Prelude.{◌≡◌, List, [], ◌∷◌, ℕ}
use Rattle.std.proofs.Math.Option.{none, some}
use Rattle.theory.specs.Store.{get}
use Rattle.meaning.specs.Kinds.{Kind, numbered_among}
use Rattle.meaning.specs.Format.{Format}
use Rattle.meaning.specs.Records.{Rec, keyed}
use Rattle.meaning.specs.Load.{check_holding}
use Rattle.meaning.specs.Enquiries.{Found, first}
use Rattle.laws.specs.SoundHolding.{SoundHolding}
use Rattle.laws.specs.Find.{FoundIt}
use Rattle.laws.specs.WhyLoad.{Unsound}
use Rattle.laws.specs.WhyField.{Answers}

module _ (F : Format) where
  open F use {enquiries}

  -- find of a kind and a number: the four exclude one another
  pub data FindAnswers (old : List ℕ) (kind n : ℕ) (x : Found) : Type 0 where
    -- 15: the kind can't be asked for
    not_asked : numbered_among enquiries kind ≡ none → Answers x 15 0 0 → FindAnswers old kind n x
    -- 14: the holding is unsound, and its check names the line
    unsound_holding : (k : Kind) → numbered_among enquiries kind ≡ some k → Unsound F old → Answers x 14 (check_holding F old).line 0 → FindAnswers old kind n x
    -- 11: no record of a sound holding has that key
    absent : (k : Kind) (st : List Rec) → numbered_among enquiries kind ≡ some k → SoundHolding F old st → get (keyed F) (kind ∷ n ∷ []) st ≡ none → Answers x 11 0 0
        → FindAnswers old kind n x
    -- 0: one has, and the part is that record's line in the holding
    found : (k : Kind) → numbered_among enquiries kind ≡ some k → FoundIt F old kind n x → x.slice ≡ first → Answers x 0 0 0 → FindAnswers old kind n x
