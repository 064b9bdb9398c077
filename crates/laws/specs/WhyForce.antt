-- Why the record in force is answered as it is: the last body line that names its key, the held line where none does, or the test that refuses.
use Rattle.std.specs.Prelude.{◌≡◌, T, drop}
use Rattle.std.proofs.Math.Option.{none, some}
use mathlib.Core.List.{List, [], ◌∷◌, ◌++◌}
use Prim.Native.Nat.{ℕ, ◌+◌}
use Rattle.std.proofs.Math.ListN.{length, take}
use Rattle.theory.specs.Step.{del, Change}
use Rattle.theory.specs.Run.{free}
use Rattle.meaning.specs.Kinds.{Kind, numbered_among}
use Rattle.meaning.specs.Format.{Format}
use Rattle.meaning.specs.Records.{Rec, keyed, key_of}
use Rattle.meaning.specs.Load.{check_file, check_holding}
use Rattle.meaning.specs.Enquiries.{Found, second}
use Rattle.laws.specs.SoundFile.{SaysChange}
use Rattle.laws.specs.Checks.{SomeHolding}
use Rattle.laws.specs.WhyLoad.{Unsound, Faulty, BothSound}
use Rattle.laws.specs.WhyFile.{line_at}
use Rattle.laws.specs.WhyField.{Answers}
use Rattle.laws.specs.WhyFind.{FindAnswers}

module _ (F : Format) where
  open F use {enquiries}

  -- ---- the last body line that names a key

  -- a change names the key q, and none after it does
  pub record LastNames (q : List ℕ) (cs : List (Change Rec)) : Type 0 where
    pub before : List (Change Rec)
    pub change : Change Rec
    pub rest : List (Change Rec)
    pub whole : cs ≡ before ++ (change ∷ rest)
    pub names : q ≡ key_of F change.rec
    pub later : T (free (keyed F) q rest)

  -- ---- what is answered

  -- the record in force of a kind and a number if the file were taken: the six exclude one another
  pub data ForceAnswers (old b : List ℕ) (kind n : ℕ) (x : Found) : Type 0 where
    -- 15: the kind can't be asked for
    not_asked : numbered_among enquiries kind ≡ none → Answers x 15 0 0 → ForceAnswers old b kind n x
    -- 14: the holding is unsound, and its check names the line
    unsound_holding : (k : Kind) → numbered_among enquiries kind ≡ some k → Unsound F old → Answers x 14 (check_holding F old).line 0 → ForceAnswers old b kind n x
    -- the holding is sound and the file isn't: the numbers of its check
    faulty_file : (k : Kind) → numbered_among enquiries kind ≡ some k → SomeHolding F old → Faulty F b → Answers x (check_file F b).code (check_file F b).line (check_file F b).field
        → ForceAnswers old b kind n x
    -- 11: the last body line that names the key is a delete
    deleted : (k : Kind) (m : BothSound F old b) → numbered_among enquiries kind ≡ some k → (w : LastNames (kind ∷ n ∷ []) m.cs) → w.change.op ≡ del → Answers x 11 0 0
        → ForceAnswers old b kind n x
    -- 0: the last body line that names the key is an insert or an update, and the part is that line of the file, without CR LF
    in_file : (k : Kind) (m : BothSound F old b) → numbered_among enquiries kind ≡ some k → (w : LastNames (kind ∷ n ∷ []) m.cs) → (w.change.op ≡ del → ⊥)
        → SaysChange F (1 + length w.before) (line_at b (2 + length w.before)).text w.change
        → take x.size (drop x.start b) ≡ (line_at b (2 + length w.before)).text → x.slice ≡ second → Answers x 0 0 0 → ForceAnswers old b kind n x
    -- no body line names the key: what find answers
    unnamed : (k : Kind) (m : BothSound F old b) → numbered_among enquiries kind ≡ some k → T (free (keyed F) (kind ∷ n ∷ []) m.cs) → FindAnswers F old kind n x
        → ForceAnswers old b kind n x
