-- The laws of the lines that entries name: the record of a held line, and of a body line's change.
use mathlib.Core.Path.{◌≡◌, refl, sym, ap, ◌∙◌}
use mathlib.Core.Bool.{Bool, true, false}
use mathlib.Core.Option.{Option, none, some, some-injective}
use mathlib.Core.List.{List, [], ◌∷◌, nil≢cons}
use Prim.Native.Nat.{ℕ}
use native.Mathlib.Decide.{dec_le}
use native.Mathlib.Nat.{lt_of_not-le}
use lib.ListN.{length, drop}
use Rattle.base.specs.Lists.{pick, keep_if}
use Rattle.base.specs.Tests.{some≢none}
use Rattle.meaning.specs.Lines.{Line, lines_of, ends_well, identifier}
use Rattle.meaning.specs.Kinds.{Kind, Role}
use Rattle.meaning.specs.Format.{kind_of}
use Rattle.meaning.specs.Table.{scottish}
use Rattle.meaning.specs.Records.{Rec, content_of, change_of}
use Rattle.meaning.specs.Holding.{held_test, held_kind, held_line}
use Rattle.laws.specs.SoundFile.{RoleLine}
use Rattle.text.proofs.LineLaws.{lines_at, lines_end}
use Rattle.entries.specs.Entries.{rec_of, line_at}

-- a line's record, where its kind is known
pub rec_known : (t : List ℕ) (k : Kind) → kind_of scottish (identifier t) ≡ some k → rec_of t ≡ record { kind = k; content = content_of t }
unfolding rec_of
rec_known t k e = rw e

-- as it is in a sound line of a role
pub role_known : (o : Role) (t : List ℕ) (r : RoleLine scottish o t) → rec_of t ≡ record { kind = r.kind; content = content_of t }
role_known o t r = rec_known t r.kind r.sounds.identified

-- the record of a held line is its text's
pub rec_held : (n : ℕ) (l : Line) (r : Rec) → held_line scottish n l ≡ some r → rec_of l.text ≡ r
unfolding held_line held_kind keep_if
rec_held n l r = ending (ends_well l)
  where
    kept : (k : Kind) → kind_of scottish (identifier l.text) ≡ some k → (c : Bool) → keep_if c (record { kind = k; content = content_of l.text }) ≡ some r → rec_of l.text ≡ r
    kept k i true e = rec_known l.text k i ∙ some-injective (record { kind = k; content = content_of l.text }) r e
    kept k i false e = absurd (some≢none (sym e))

    kinded : (o : Option Kind) → kind_of scottish (identifier l.text) ≡ o → held_kind scottish n l.text o ≡ some r → rec_of l.text ≡ r
    kinded none i e = absurd (some≢none (sym e))
    kinded (some k) i e = kept k i (held_test scottish n k l.text) e

    ending : (c : Bool) → pick c (held_kind scottish n l.text (kind_of scottish (identifier l.text))) none ≡ some r → rec_of l.text ≡ r
    ending true e = kinded (kind_of scottish (identifier l.text)) refl e
    ending false e = absurd (some≢none (sym e))

-- the record of a change is its line's
pub rec_change : (t : List ℕ) (k : Kind) → kind_of scottish (identifier t) ≡ some k → rec_of t ≡ (change_of k t).rec
unfolding change_of
rec_change t k e = rec_known t k e

-- ---- the line at an offset

abbrev first_text : List Line → List ℕ
first_text [] = []
first_text (l ∷ ls) = l.text

-- the first of the lines from an offset on is the line there
pub line_there : (s : List ℕ) (at : ℕ) (l : Line) (ls : List Line) → lines_of (drop at s) ≡ l ∷ ls → line_at s at ≡ l.text
unfolding line_at
line_there s at l ls e = elim (dec_le (length s) at) [ yes m ↦ absurd (nil≢cons (sym (lines_end s at m) ∙ e)) | no m ↦ ap first_text (sym (lines_at s at (lt_of_not-le m)) ∙ e) ]

-- its record, where it is a held line
pub held_there : (s : List ℕ) (at n : ℕ) (l : Line) (ls : List Line) (r : Rec) → lines_of (drop at s) ≡ l ∷ ls → held_line scottish n l ≡ some r → rec_of (line_at s at) ≡ r
held_there s at n l ls r e q = rw (line_there s at l ls e) (rec_held n l r q)
