-- What a sound file is, line by line in paper 01's words and without running the check; and that the check finds exactly that.
use Rattle.std.specs.Prelude.{◌≡◌}
use mathlib.Core.List.{List, [], ◌∷◌, ◌++◌}
use Prim.Native.Nat.{ℕ, suc, ◌+◌, ◌≤◌}
use Rattle.std.proofs.Math.ListN.{length}
use Rattle.theory.specs.Decimal.{value}
use Rattle.theory.specs.Step.{Change}
use Rattle.meaning.specs.Lines.{fields_of, Line, lines_of}
use Rattle.meaning.specs.Kinds.{Kind, Role, header_line, body_line, metadata_line, trailer_line, role}
use Rattle.meaning.specs.Format.{Format, named, pro_order, record_count}
use Rattle.meaning.specs.Records.{Rec, change_of}
use Rattle.meaning.specs.File.{Frame, Sheet, most_body}
use Rattle.laws.specs.LinesAndFields.{ends_all}
use Rattle.laws.specs.SoundLine.{SoundLine}

module _ (F : Format) where
  open F use {fields}

  -- ---- the rules

  -- a sound line of a role: of some kind that has it
  pub record RoleLine (o : Role) (t : List ℕ) : Type 0 where
    pub kind : Kind
    pub roles : role kind ≡ o
    pub sounds : SoundLine F kind t

  -- body line n says the change c
  pub record SaysChange (n : ℕ) (t : List ℕ) (c : Change Rec) : Type 0 where
    pub line : RoleLine body_line t
    pub numbered : value (named pro_order (fields line.kind) (fields_of t)) ≡ n
    pub says : change_of line.kind t ≡ c

  -- the lines from body line n on say the changes, one each
  abbrev pub SaysChanges : ℕ → List (List ℕ) → List (Change Rec) → Type 0
  SaysChanges n [] [] = Unit {0}
  SaysChanges n [] (c ∷ cs) = ⊥
  SaysChanges n (t ∷ ts) [] = ⊥
  SaysChanges n (t ∷ ts) (c ∷ cs) = SaysChange n t c × SaysChanges (suc n) ts cs

  -- a trailer whose RECORD_COUNT is the number of body lines
  pub record Counts (n : ℕ) (t : List ℕ) : Type 0 where
    pub line : RoleLine trailer_line t
    pub counts : value (named record_count (fields line.kind) (fields_of t)) ≡ n

  -- the bytes are a sound file: a header, at most 4,096 body lines numbered from 1, metadata and a trailer, each ended by CR LF
  pub record SoundFile (b : List ℕ) (fr : Frame) (cs : List (Change Rec)) : Type 0 where
    pub texts : List (List ℕ)
    pub lines : lines_of b ≡ ends_all (fr.header_text ∷ (texts ++ (fr.metadata_text ∷ fr.trailer_text ∷ [])))
    pub heading : RoleLine header_line fr.header_text
    pub body : SaysChanges 1 texts cs
    pub few : length cs ≤ most_body
    pub describing : RoleLine metadata_line fr.metadata_text
    pub closing : Counts (length cs) fr.trailer_text

  -- ---- and nothing else

  -- what a sheet says of the lines ls from the body on, after n body lines
  pub record InBody (n : ℕ) (ls : List Line) (s : Sheet) : Type 0 where
    pub texts : List (List ℕ)
    pub lines : ls ≡ ends_all (texts ++ (s.0.metadata_text ∷ s.0.trailer_text ∷ []))
    pub body : SaysChanges (suc n) texts s.1
    pub few : n + length s.1 ≤ most_body
    pub describing : RoleLine metadata_line s.0.metadata_text
    pub closing : Counts (n + length s.1) s.0.trailer_text
