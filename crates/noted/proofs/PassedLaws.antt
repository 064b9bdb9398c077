-- The laws of a line that was passed: its text, its record, its fields, and the places that the table has of them.
use mathlib.Core.Path.{◌≡◌, sym, ◌∙◌}
use mathlib.Core.Bool.{Bool, true, false, not, ◌&&◌, ◌||◌}
use mathlib.Core.List.{List, [], ◌∷◌, map}
use Prim.Native.Nat.{ℕ, zero, suc, ◌-◌, ◌≤◌, ◌<◌}
use native.Mathlib.Omega.{arith}
use borrow.Author.Tests.{le-ltb}
use lib.Dec.{T, leb, ltb, leb→le}
use lib.ListN.{length, get_or, take, drop, length-map}
use Rattle.base.specs.Lists.{all, zeros}
use Rattle.base.specs.Tests.{and_l, and_r}
use Rattle.meaning.specs.Lines.{fields_of}
use Rattle.meaning.specs.Forms.{Form, number, at_least1, decimal, date, time, text, change_type, xref_type, file_type, key_text, is_textual, sound_as}
use Rattle.meaning.specs.Kinds.{Kind, kinds}
use Rattle.meaning.specs.Format.{field_number}
use Rattle.meaning.specs.Table.{fields, key_names, refers_to, scottish}
use Rattle.meaning.specs.Records.{content_of}
use Rattle.laws.specs.Kinds.{every}
use Rattle.text.proofs.LineLaws.{ends_there}
use Rattle.text.proofs.FieldLaws.{fields_many}
use Rattle.layout.specs.declared.records.Layout.{Layout}
use Rattle.layout.specs.Rows.{bare, row_of, places_of, padded, sources, laid_out}
use Rattle.layout.proofs.CheckLaws.{fields_high, low_sound}
use Rattle.pass.specs.Kinds.{PassedAs}
use Rattle.entries.specs.Entries.{rec_of, line_at}
use Rattle.entries.specs.Fields.{after_fields}
use Rattle.entries.proofs.FieldLaws.{field_after}
use Rattle.entries.proofs.LineLaws.{rec_known}

-- ---- a field of the line

-- from the fourth on it is one of the content
pub placed_content : (t : List ℕ) (p : ℕ) → 4 ≤ p → get_or (fields_of t) (p - 1) [] ≡ get_or (fields_of (content_of t)) (p - 4) []
unfolding after_fields content_of
placed_content t p h =
    let z : p - 1 ≡ suc (suc (suc (p - 4))) = omega arith in
    rw z (field_after (suc (suc (suc (p - 4)))) t ∙ sym (field_after (p - 4) (content_of t)))

module _ (k : Kind) (s a : List ℕ) (at e : ℕ) (p : PassedAs k s a at e) where
  -- the line stands up to its CR LF
  pub passed_line : line_at s at ≡ take (e - at) (drop at s)
  unfolding line_at
  passed_line = rw (ends_there s at e p.line.plain (sym p.line.ended))

  -- its record is of the kind that was found
  pub passed_record : rec_of (line_at s at) ≡ record { kind = k; content = content_of (take (e - at) (drop at s)) }
  passed_record = rw passed_line (rec_known (take (e - at) (drop at s)) k p.kind)

  -- it has as many fields as its kind
  pub passed_many : length (fields_of (take (e - at) (drop at s))) ≡ length (fields k)
  passed_many = fields_many (take (e - at) (drop at s)) (length (fields k)) p.parted.many

  -- and there is room for the ends of all
  pub passed_room : length (fields k) ≤ length a
  passed_room = omega (arith, fields_high k, p.parted.room)

  -- each is sound
  pub passed_sound : (i : ℕ) → i < length (fields k) → T (sound_as scottish.text_rule (row_of k i).0 (row_of k i).1 (get_or (fields_of (take (e - at) (drop at s))) i []))
  unfolding row_of
  passed_sound i h = low_sound 1 (map bare (fields k)) (fields_of (take (e - at) (drop at s))) i p.line.low (rw length-map h) (rw passed_many h)

-- ---- the places of a key, and of what is referred to

-- the number of a sound field of the form is told by its first byte
abbrev pub told_apart : Form → Bool
told_apart (number w) = true
told_apart (at_least1 w) = true
told_apart (decimal w d) = false
told_apart date = false
told_apart time = false
told_apart (text w) = false
told_apart change_type = false
told_apart xref_type = true
told_apart file_type = false
told_apart (key_text letter) = true

-- the form is no text's
abbrev pub is_plain : Form → Bool
is_plain m = not (is_textual m)

-- a place is that of a field whose form passes the test, or none of the content's
abbrev pub placed : (Form → Bool) → Kind → ℕ → Bool
placed q k p = leb p (length (fields k)) && (ltb p 4 || q (row_of k (p - 1)).0)

all_there : (q : ℕ → Bool) (ps : List ℕ) → T (q 0) → T (all q ps) → (j : ℕ) → T (q (get_or ps j 0))
all_there q [] z t j = z
all_there q (p ∷ ps) z t zero = and_l (q p) (all q ps) t
all_there q (p ∷ ps) z t (suc j) = all_there q ps z (and_r (q p) (all q ps) t) j

module _ (q : Form → Bool) (k : Kind) (p : ℕ) (t : T (placed q k p)) where
  -- none is past the last field
  pub placed_in : p ≤ length (fields k)
  placed_in = leb→le p (length (fields k)) (and_l (leb p (length (fields k))) (ltb p 4 || q (row_of k (p - 1)).0) t)

  -- and the forms of the others pass
  pub placed_form : 4 ≤ p → T (q (row_of k (p - 1)).0)
  placed_form h = rw (le-ltb p 4 h) at (and_r (leb p (length (fields k))) (ltb p 4 || q (row_of k (p - 1)).0) t)

module _ (k : Kind) (l : Layout) (e : l ≡ laid_out k) (j : ℕ) where
  -- a key's fields are told apart
  pub key_placed : T (placed told_apart k (get_or l.key j 0))
  unfolding kinds laid_out places_of padded zeros field_number fields key_names row_of
  key_placed = rw e (all_there (placed told_apart k) (laid_out k).key (every (λ k. placed told_apart k 0) tt k) (every (λ k. all (placed told_apart k) (laid_out k).key) tt k) j)

  -- and no record refers to another by a text
  pub by_placed : T (placed is_plain k (get_or l.by j 0))
  unfolding kinds laid_out places_of padded zeros sources field_number fields refers_to row_of is_textual
  by_placed = rw e (all_there (placed is_plain k) (laid_out k).by (every (λ k. placed is_plain k 0) tt k) (every (λ k. all (placed is_plain k) (laid_out k).by) tt k) j)
