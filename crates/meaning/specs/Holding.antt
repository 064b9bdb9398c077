-- Paper 01, 'The holding': a run of body lines with no header or trailer, and the check of it, code 14.
use Rattle.std.specs.Prelude.{Bool, true, false, ◌&&◌, List, [], ◌∷◌, ℕ, suc, leb, get_or}
use Rattle.std.proofs.Math.Option.{Option, none, some}
use Rattle.theory.specs.Tri.{is_lt}
use Rattle.base.specs.Lists.{pick, same, keep_if}
use Rattle.theory.specs.Lex.{lex}
use Rattle.theory.specs.Decimal.{dec}
use Rattle.theory.specs.Refs.{meets}
use Rattle.theory.specs.Run.{as_inserts}
use Rattle.theory.specs.Step.{ins}
use Rattle.meaning.specs.Lines.{Line, lines_of, ends_well, identifier, fields_of}
use Rattle.meaning.specs.Kinds.{Kind, Role, header_line, body_line, metadata_line, trailer_line, role}
use Rattle.meaning.specs.Format.{Format, kind_of}
use Rattle.meaning.specs.Answers.{Fault}
use Rattle.meaning.specs.Sound.{form_fault}
use Rattle.meaning.specs.Records.{Rec, content_of, key_of, refs_of, keyed, letter, change_texts, joined}

-- a held kind
unfoldable pub is_held : Role → Bool
is_held header_line = false
is_held body_line = true
is_held metadata_line = false
is_held trailer_line = false

-- a holding has at most 8,192 lines, so so many records
abbrev pub most_records : ℕ
most_records = 8192

-- no fault
unfoldable pub is_sound : Option Fault → Bool
is_sound none = true
is_sound (some f) = false

-- what a holding comes to: its records, or its lowest faulty line
pub data Held : Type 0 where
  sound : List Rec → Held
  unsound : ℕ → Held

-- a record in front of those of the lines after it
unfoldable pub add_rec : Rec → Held → Held
add_rec r (sound st) = sound (r ∷ st)
add_rec r (unsound n) = unsound n

-- the bytes of a holding: its records as inserts, numbered from 1
unfoldable pub written : List Rec → List ℕ
written st = joined (change_texts 1 (as_inserts st))

module _ (F : Format) where
  -- line n of a holding: a sound line of a held kind, CHANGE_TYPE "I", PRO_ORDER the line's own number without leading zeros
  unfoldable pub held_test : ℕ → Kind → List ℕ → Bool
  held_test n k t = is_held (role k) && (is_sound (form_fault F k t none) && (same (get_or (fields_of t) 1 []) (letter ins) && same (get_or (fields_of t) 2 []) (dec n)))

  -- the record of such a line, where its identifier is known
  unfoldable pub held_kind : ℕ → List ℕ → Option Kind → Option Rec
  held_kind n t none = none
  held_kind n t (some k) = keep_if (held_test n k t) (record { kind = k; content = content_of t })

  -- line n as it stands: it must end in CR LF and hold no other CR or LF
  unfoldable pub held_line : ℕ → Line → Option Rec
  held_line n l = pick (ends_well l) (held_kind n l.text (kind_of F (identifier l.text))) none

  -- keys strictly ascend: r stands after the key of the line before, if there is one
  unfoldable pub above : Option (List ℕ) → Rec → Bool
  above none r = true
  above (some k) r = is_lt (lex k (key_of F r))

  -- a line that is unsound, out of order or the 8,193rd is the lowest faulty one; else the lines after it are asked
  unfoldable pub on_held : ℕ → Option (List ℕ) → Option Rec → (Rec → Held) → Held
  on_held n lo none go = unsound n
  on_held n lo (some r) go = pick (above lo r && leb n most_records) (add_rec r (go r)) (unsound n)

  -- tested first for form, order, PRO_ORDER and number of lines over all lines
  unfoldable pub scan : ℕ → Option (List ℕ) → List Line → Held
  scan n lo [] = sound []
  scan n lo (l ∷ ls) = on_held n lo (held_line n l) (λ r. scan (suc n) (some (key_of F r)) ls)

  -- then for references: the lowest record, counted from n, whose references are not all met in st
  unfoldable pub referring : List Rec → ℕ → List Rec → Held
  referring st n [] = sound st
  referring st n (r ∷ rs) = pick (meets (keyed F) (refs_of F) st r) (referring st (suc n) rs) (unsound n)

  -- references only where all lines are sound
  unfoldable pub on_scan : Held → Held
  on_scan (unsound n) = unsound n
  on_scan (sound st) = referring st 1 st

  -- the check of a holding's bytes
  unfoldable pub read_holding : List ℕ → Held
  read_holding b = on_scan (scan 1 none (lines_of b))
