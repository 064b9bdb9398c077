-- How long a buffer is always enough: for the undo of a file, for the undo of that undo, and for the holding before the first step and after each.
use Rattle.std.specs.Prelude.{◌≡◌, refl, Bool, ℕ, suc, ◌+◌, ◌*◌, ◌≤◌, ◌<◌, leb, eqb}
use Rattle.std.proofs.Math.Path.{sym, ap}
use Rattle.std.proofs.Common.{◌∙◌, length-append}
use Rattle.std.proofs.Math.Bool.{true, false}
use Rattle.std.proofs.Math.Option.{none}
use mathlib.Core.List.{List, [], ◌∷◌, ◌++◌}
use native.Mathlib.Omega.{arith}
use Rattle.std.proofs.Math.Dec.{T, leb→le, le→leb, eqb→eq}
use Rattle.std.proofs.Math.ListN.{length}
use Rattle.base.specs.ListLaws.{same_eq}
use Rattle.base.specs.Lists.{all, pick, same, bytes}
use Rattle.base.specs.Tests.{and_in, and_l, and_r, or_out}
use Rattle.theory.specs.Decimal.{dec, width, value}
use Rattle.theory.specs.DecimalLaws.{length_dec, width_below}
use Rattle.theory.specs.Fold.{sum}
use Rattle.theory.specs.Step.{Op, ins, upd, del, Change, after, back}
use Rattle.theory.specs.Trail.{final, Through, undo}
use Rattle.theory.proofs.TrailLaws.{length_undo}
use Rattle.theory.specs.Run.{as_inserts}
use Rattle.theory.specs.Answer.{file}
use Rattle.theory.specs.Written.{tally}
use Rattle.theory.proofs.WrittenLaws.{tally_snoc}
use Rattle.theory.specs.AsMade.{as_made}
use Rattle.theory.proofs.AsMadeLaws.{length_made, undo_undo}
use Rattle.theory.proofs.RoomLaws.{width_value, tally_fewer, tally_least, sum_append, weight, after_weighs, after_length, undo_weighs, made_weighs}
use Rattle.meaning.specs.Lines.{fields_of, identifier}
use Rattle.meaning.specs.Forms.{Form, number, change_type, change_types, has_form, is_empty, sound_as, is_number, is_digit, one_of}
use Rattle.meaning.specs.Kinds.{Kind, kinds, ident, role}
use Rattle.meaning.specs.Format.{Format, opening, knows, named, man}
use Rattle.meaning.specs.Sound.{sound_field}
use Rattle.meaning.specs.Records.{Rec, content_of, own_fields, letter, change_text, change_of, change_texts, joined, keyed}
use Rattle.meaning.specs.File.{Frame, read_file, write_file}
use Rattle.meaning.specs.Holding.{is_held, sound, read_holding, written}
use Rattle.meaning.specs.Steps.{fits, step_rules}
use Rattle.meaning.specs.Undo.{undo_bytes, undo_held, undo_sheet}
use Rattle.laws.specs.Kinds.{every}
use Rattle.laws.specs.Regular.{holds, Regular}
use Rattle.laws.specs.Digits.{digit_high}
use Rattle.laws.specs.LinesAndFields.{unlines, lines_join, unlines_ends}
use Rattle.laws.specs.SoundLine.{EachSound, sound_form}
use Rattle.laws.specs.Body.{kind_out, kind_known, first_field_lem, body_out}
use Rattle.laws.specs.SoundHolding.{SoundHolding, held_sound}
use Rattle.laws.specs.SoundFile.{SaysChange, SaysChanges, SoundFile}
use Rattle.laws.proofs.SoundFile.{read_sound}
use Rattle.laws.proofs.Checks.{held_bytes}
use Rattle.laws.proofs.Takes.{Takes, met_old, good_old, new_held}
use Rattle.laws.specs.Demand2.{Roomy}
use Rattle.laws.proofs.Demand3.{steps_back, undo_is_lem, undo_reads}

-- ---- how long lines are

-- a line with its CR LF
abbrev long : List ℕ → ℕ
long t = 2 + length t

-- a record's content
abbrev content_long : Rec → ℕ
content_long r = length r.content

-- lines as bytes are as long as they are together, each with its CR LF
joined_length : (ts : List (List ℕ)) → length (joined ts) ≡ sum long ts
unfolding joined
joined_length [] = refl
joined_length (t ∷ ts) = omega (arith, length-append t (13 ∷ 10 ∷ joined ts), joined_length ts)

three_length : (f1 f2 f3 u : List ℕ) → length (f1 ++ (44 ∷ (f2 ++ (44 ∷ (f3 ++ (44 ∷ u)))))) ≡ 3 + length f1 + length f2 + length f3 + length u
three_length f1 f2 f3 u =
    omega (arith, length-append f1 (44 ∷ (f2 ++ (44 ∷ (f3 ++ (44 ∷ u))))), length-append f2 (44 ∷ (f3 ++ (44 ∷ u))), length-append f3 (44 ∷ u))

-- an identifier has two bytes
pub ident_long : (k : Kind) → length (ident k) ≡ 2
unfolding kinds ident bytes
ident_long k = eqb→eq (length (ident k)) 2 (every (λ k. eqb (length (ident k)) 2) tt k)

-- CHANGE_TYPE has three
pub letter_long : (o : Op) → length (letter o) ≡ 3
unfolding letter bytes
letter_long ins = refl
letter_long upd = refl
letter_long del = refl

-- the line of a change has ten bytes around its number and its content
change_long : (n : ℕ) (c : Change Rec) → long (change_text n c) ≡ 10 + width n + content_long c.rec
unfolding change_text
change_long n c =
    omega (arith, three_length (ident c.rec.kind) (letter c.op) (dec n) c.rec.content, ident_long c.rec.kind, letter_long c.op, length_dec n)

changes_long : (n : ℕ) (cs : List (Change Rec)) → sum long (change_texts n cs) ≡ 10 * length cs + tally n (length cs) + sum (λ c. content_long c.rec) cs
unfolding change_texts
changes_long n [] = refl
changes_long n (c ∷ cs) = omega (arith, change_long n c, changes_long (suc n) cs)

inserts_weigh : (st : List Rec) → sum (λ c. content_long c.rec) (as_inserts st) ≡ sum content_long st
inserts_weigh [] = refl
inserts_weigh (r ∷ rs) = omega (arith, inserts_weigh rs)

-- as many inserts as records
pub inserts_length : (st : List Rec) → length (as_inserts st) ≡ length st
inserts_length [] = refl
inserts_length (r ∷ rs) = ap suc (inserts_length rs)

-- how long a holding is
written_long : (st : List Rec) → length (written st) ≡ 10 * length st + tally 1 (length st) + sum content_long st
unfolding written
written_long st =
    joined_length (change_texts 1 (as_inserts st)) ∙ changes_long 1 (as_inserts st) ∙ rw (inserts_weigh st, inserts_length st)

-- the lines of a frame
frame_long : Frame → ℕ
frame_long fr = long fr.header_text + long fr.metadata_text + long fr.trailer_text

-- how long lines around a body are
around_long : (fr : Frame) (ts : List (List ℕ)) → length (joined (fr.header_text ∷ (ts ++ (fr.metadata_text ∷ fr.trailer_text ∷ [])))) ≡ frame_long fr + sum long ts
unfolding frame_long
around_long fr ts =
    joined_length (fr.header_text ∷ (ts ++ (fr.metadata_text ∷ fr.trailer_text ∷ [])))
    ∙ omega (arith, sum_append long ts (fr.metadata_text ∷ fr.trailer_text ∷ []))

-- how long a file is as it is written
file_long : (fr : Frame) (cs : List (Change Rec)) → length (write_file fr cs) ≡ frame_long fr + 10 * length cs + tally 1 (length cs) + sum (λ c. content_long c.rec) cs
unfolding write_file
file_long fr cs = around_long fr (change_texts 1 cs) ∙ omega (arith, changes_long 1 cs)

-- ---- CHANGE_TYPE and PRO_ORDER as they may stand in a file

one_long : (w : ℕ) (vs : List (List ℕ)) (f : List ℕ) → T (all (λ v. eqb (length v) w) vs) → T (one_of vs f) → T (eqb (length f) w)
unfolding one_of
one_long w [] f a t = absurd t
one_long w (v ∷ vs) f a t =
    or_out (same f v) (one_of vs f) (eqb (length f) w) (λ s. rw (same_eq f v s) (and_l (eqb (length v) w) _ a)) (one_long w vs f (and_r (eqb (length v) w) _ a)) t

module _ (F : Format) where
  -- a field that must be filled has its form
  filled_form : (m : Form) (f : List ℕ) → T (sound_as F.text_rule m true f) → T (has_form F.text_rule m f)
  unfolding sound_as
  filled_form m f t = go (is_empty m f) t
    where
      go : (c : Bool) → T (pick c false (has_form F.text_rule m f)) → T (has_form F.text_rule m f)
      go true t = absurd t
      go false t = t

  -- CHANGE_TYPE has three bytes
  type_long : (f : List ℕ) → T (sound_field F (man "CHANGE_TYPE" change_type) f) → length f ≡ 3
  unfolding sound_field has_form bytes
  type_long f t = eqb→eq (length f) 3 (one_long 3 change_types f tt (filled_form change_type f t))

  -- PRO_ORDER has at least as many as the digits of its value
  order_long : (f : List ℕ) → T (sound_field F (man "PRO_ORDER" (number 16)) f) → width (value f) ≤ length f
  unfolding sound_field has_form is_number
  order_long f t =
      let n = filled_form (number 16) f t in
      let d = and_r (leb 1 (length f)) _ n in
      width_value is_digit digit_high f (and_r (leb (length f) 16) (all is_digit f) d) (omega (arith, leb→le 1 (length f) (and_l (leb 1 (length f)) _ n)))

  module _ (regular : Regular F) where
    open regular use {opens}

    -- ---- a file is at least as long as it is written anew

    -- a body line is at least as long as the line of its change
    line_least : (n : ℕ) (t : List ℕ) (c : Change Rec) → SaysChange F n t c → length (change_text n c) ≤ length t
    unfolding is_held holds named change_of
    line_least n t c s =
        let k = s.line.kind in
        let l = s.line.sounds in
        let h : T (holds F k) = and_in (knows F k) (is_held (role k)) (kind_known F (identifier t) k l.identified) (rw s.line.roles tt) in
        let b = body_out F regular k t none h (sound_form F k t none l) in
        let u = content_of t in
        let e : EachSound F (opening ++ own_fields F k) (b.f1 ∷ b.f2 ∷ b.f3 ∷ fields_of u) = rw (opens k h, b.cuts.cut) at l.formed in
        let v : value b.f3 ≡ n = rw (opens k h, b.cuts.cut) at s.numbered in
        let i : b.f1 ≡ ident k = first_field_lem t k b.f1 _ (kind_out F (identifier t) k l.identified) b.cuts.cut in
        let r : content_long c.rec ≡ length u = ap (λ c. content_long c.rec) (sym s.says) in
        omega (
          arith,
          change_long n c,
          r,
          ap length b.cuts.whole,
          three_length b.f1 b.f2 b.f3 u,
          ap length i,
          ident_long k,
          type_long b.f2 e.1.0,
          order_long b.f3 e.1.1.0,
          ap width v,
        )

    lines_least : (n : ℕ) (ts : List (List ℕ)) (cs : List (Change Rec)) → SaysChanges F n ts cs → sum long (change_texts n cs) ≤ sum long ts
    unfolding change_texts
    lines_least n [] [] s = omega arith
    lines_least n [] (c ∷ cs) s = absurd s
    lines_least n (t ∷ ts) [] s = absurd s
    lines_least n (t ∷ ts) (c ∷ cs) s = omega (arith, line_least n t c s.0, lines_least (suc n) ts cs s.1)

    -- a sound file is at least as long as the file that is written of what it says
    pub file_least : (b : List ℕ) (fr : Frame) (cs : List (Change Rec)) → SoundFile F b fr cs → length (write_file fr cs) ≤ length b
    unfolding write_file
    file_least b fr cs s =
        let ts = s.texts in
        let e : b ≡ joined (fr.header_text ∷ (ts ++ (fr.metadata_text ∷ fr.trailer_text ∷ []))) = sym (lines_join b) ∙ ap unlines s.lines ∙ unlines_ends _ in
        omega (arith, ap length e, around_long fr ts, around_long fr (change_texts 1 cs), lines_least 1 ts cs s.body)

    module _ (room : ℕ) (old b new : List ℕ) (a : Takes F regular room old b new) where
      -- ---- the undo

      -- the file is at least as long as it is written anew
      taken_least : length (write_file a.fr a.cs) ≤ length b
      taken_least = file_least b a.fr a.cs (read_sound F b a.fr a.cs a.read)

      undo_long : length (undo_bytes F old b) ≡ frame_long a.fr + 10 * length a.cs + tally 1 (length a.cs) + weight (keyed F) content_long (steps_back F regular room old b new a)
      undo_long =
          ap length (undo_is_lem F regular room old b new a)
          ∙ file_long a.fr (steps_back F regular room old b new a)
          ∙ rw (length_undo (after (keyed F)) (back (keyed F)) a.st a.cs)

    -- the undo of a file that is taken is no longer than the old holding and twice the file
    pub undo_enough : (room : ℕ) (old b new : List ℕ) → Takes F regular room old b new → length (undo_bytes F old b) ≤ length old + 2 * length b
    undo_enough room old b new a =
        omega (
          arith,
          undo_long room old b new a,
          taken_least room old b new a,
          file_long a.fr a.cs,
          undo_weighs (keyed F) content_long a.st a.cs,
          ap length (met_old F regular room old b new a).0,
          written_long a.st,
        )

    -- ---- the undo of the undo

    undo_of_lem : (old b : List ℕ) (st : List Rec) (fr : Frame) (cs : List (Change Rec)) → read_holding F old ≡ sound st → read_file F b ≡ file (fr, cs)
        → undo_bytes F old b ≡ write_file fr (undo (after (keyed F)) (back (keyed F)) st cs)
    unfolding undo_bytes undo_held undo_sheet
    undo_of_lem old b st fr cs h r = rw (h, r)

    -- the undo of the undo is the file's header, metadata and trailer around the changes as they were made
    pub undo_of_undo : (room : ℕ) (old b new : List ℕ) (a : Takes F regular room old b new)
        → undo_bytes F new (undo_bytes F old b) ≡ write_file a.fr (as_made (keyed F) a.st a.cs)
    undo_of_undo room old b new a =
        let st = final (after (keyed F)) a.st a.cs in
        undo_of_lem new (undo_bytes F old b) st a.fr (steps_back F regular room old b new a)
        (held_sound new st (read_holding F new) (new_held F regular room old b new a)) (undo_reads F regular room old b new a)
        ∙ ap (write_file a.fr) (undo_undo (keyed F) (step_rules F room) a.st a.cs (good_old F regular room old b new a) a.takes)

    -- it is no longer than the file and its undo
    pub undo_of_undo_enough : (room : ℕ) (old b new : List ℕ) → Takes F regular room old b new → length (undo_bytes F new (undo_bytes F old b)) ≤ length b + length (undo_bytes F old b)
    undo_of_undo_enough room old b new a =
        let cs = as_made (keyed F) a.st a.cs in
        let l : tally 1 (length cs) ≡ tally 1 (length a.cs) = ap (tally 1) (length_made (keyed F) a.st a.cs) in
        omega (
          arith,
          ap length (undo_of_undo room old b new a),
          file_long a.fr cs,
          l,
          length_made (keyed F) a.st a.cs,
          made_weighs (keyed F) content_long a.st a.cs,
          undo_long room old b new a,
          taken_least room old b new a,
          file_long a.fr a.cs,
        )

    -- ---- the holding before the first step and after each

    -- a step makes a holding of fewer than 99,999 records longer by no more than fifteen bytes and the content of its record
    step_long : (st : List Rec) (c : Change Rec) → length st < 99999 → length (written (after (keyed F) st c)) ≤ length (written st) + 15 + content_long c.rec
    step_long st c h =
        let s = after (keyed F) st c in
        let m = after_length (keyed F) st c in
        let w : width (1 + length st) ≤ 5 = width_below 4 (1 + length st) (omega arith) in
        omega (
          arith,
          written_long s,
          written_long st,
          m,
          tally_fewer 1 (length s) (suc (length st)) m,
          tally_snoc 1 (length st),
          w,
          after_weighs (keyed F) content_long st c,
        )

    steps_room : (room : ℕ) (st : List Rec) (cs : List (Change Rec)) → length st + length cs ≤ 99999
        → length (written st) + 15 * length cs + weight (keyed F) content_long cs ≤ room → Through (after (keyed F)) (λ s. T (fits room s)) st cs
    unfolding fits
    steps_room room st [] n h = le→leb (length (written st)) room (omega arith)
    steps_room room st (c ∷ cs) n h =
        let s = after (keyed F) st c in (
          le→leb (length (written st)) room (omega arith),
          steps_room room s cs (omega (arith, after_length (keyed F) st c)) (omega (arith, step_long st c (omega arith))),
        )

    -- a buffer as long as the old holding, the file and four bytes for each of 4,096 lines has room at every step
    pub room_enough_lem : (old b : List ℕ) (st : List Rec) (room : ℕ) → SoundHolding F old st → length old + length b + 16384 ≤ room → Roomy F room st b
    room_enough_lem old b st room s h fr cs f =
        steps_room room st cs (omega (arith, s.few, f.few))
        (omega (arith, ap length (held_bytes F old st s), file_least b fr cs f, file_long fr cs, tally_least 1 (length cs), f.few))
