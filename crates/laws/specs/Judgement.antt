-- A line in its place is accepted just where it ends well, is a sound line of a known kind that may stand there, and has the right numbers.
use Rattle.std.specs.Prelude.{◌≡◌, Bool, true, false, List, ℕ, suc, ◌<◌, eqb}
use Rattle.std.proofs.Math.Path.{refl, ap}
use Rattle.std.proofs.Common.{◌∙◌}
use Rattle.std.proofs.Math.Option.{Option, none, some}
use Rattle.std.proofs.Math.Dec.{T, eqb→eq, lt→ltb}
use Rattle.std.proofs.Math.Facts.{yes_eqb}
use Rattle.base.specs.Lists.{all, pick}
use Rattle.base.specs.Tests.{and_r, T_true, ask_ok, ok_ask}
use Rattle.theory.specs.Decimal.{value}
use Rattle.meaning.specs.Lines.{plain, fields_of, identifier, Line, ends_well}
use Rattle.meaning.specs.Kinds.{Kind, Role, body_line, trailer_line, role}
use Rattle.meaning.specs.Format.{Format, kind_of, named, field_number, pro_order, record_count}
use Rattle.meaning.specs.Sound.{form_fault}
use Rattle.meaning.specs.File.{Stage, next, has_room, count_fault, Judged, bad, good, line_fault, verdict, judge_kind, judge_text, judge_line, most_body}
use Rattle.meaning.specs.Answers.{Fault, of_line, of_field}
use Rattle.meaning.specs.Codes.{too_many_body_lines, ending_wrong, not_running_number, record_count_wrong}
use Rattle.laws.specs.LinesAndFields.{ends, line_ends}
use Rattle.laws.specs.SoundLine.{SoundLine, form_sound, sound_form}

module _ (F : Format) where
  open F use {fields}

  -- ---- what the judgement of a line says

  -- line l, at place p after n body lines, is accepted as a line of kind k, and q is the place after it
  pub record Judges (p : Stage) (n : ℕ) (l : Line) (k : Kind) (q : Stage) : Type 0 where
    pub ending : T (ends_well l)
    pub kind : kind_of F (identifier l.text) ≡ some k
    pub place : next p (role k) ≡ some q
    pub form : line_fault F k n l.text ≡ none

  -- the same of a judgement
  abbrev pub JudgedIs : Stage → ℕ → Line → Judged → Type 0
  JudgedIs p n l (bad f) = Unit {0}
  JudgedIs p n l (good k q) = Judges p n l k q

  -- and that is so of every line
  pub judged : (p : Stage) (n : ℕ) (l : Line) → JudgedIs p n l (judge_line F p n l)
  unfolding judge_line judge_text judge_kind verdict
  judged p n l = ended (ends_well l) refl
    where
      formed : (k : Kind) (q : Stage) → T (ends_well l) → kind_of F (identifier l.text) ≡ some k → next p (role k) ≡ some q
          → (o : Option Fault) → line_fault F k n l.text ≡ o → JudgedIs p n l (verdict o k q)
      formed k q e i x none f = record { ending = e; kind = i; place = x; form = f }
      formed k q e i x (some w) f = tt

      placed : (k : Kind) → T (ends_well l) → kind_of F (identifier l.text) ≡ some k → (o : Option Stage) → next p (role k) ≡ o → JudgedIs p n l (judge_kind F n l.text k o)
      placed k e i none x = tt
      placed k e i (some q) x = formed k q e i x (line_fault F k n l.text) refl

      kinded : T (ends_well l) → (o : Option Kind) → kind_of F (identifier l.text) ≡ o → JudgedIs p n l (judge_text F p n l.text o)
      kinded e none i = tt
      kinded e (some k) i = placed k e i (next p (role k)) refl

      ended : (c : Bool) → ends_well l ≡ c → JudgedIs p n l (pick c (judge_text F p n l.text (kind_of F (identifier l.text))) (bad (of_line ending_wrong)))
      ended true e = kinded (rw e tt) (kind_of F (identifier l.text)) refl
      ended false e = tt

  judges : (p : Stage) (n : ℕ) (l : Line) (k : Kind) (q : Stage) → Judges p n l k q → judge_line F p n l ≡ good k q
  unfolding judge_line judge_text judge_kind verdict
  judges p n l k q j = rw (T_true (ends_well l) j.ending, j.kind, j.place, j.form)

  -- ---- in the words of a sound line

  -- there is room for the line, and its PRO_ORDER or RECORD_COUNT is right
  pub record Numbers (o : Role) (n : ℕ) (k : Kind) (t : List ℕ) : Type 0 where
    pub room : T (has_room o n)
    pub count : count_fault F o n k t ≡ none

  -- a line that is accepted is a sound line, ended by CR LF, with the right numbers
  pub line_sound : (p : Stage) (n : ℕ) (l : Line) (k : Kind) (q : Stage) → Judges p n l k q → (l ≡ ends l.text) × SoundLine F k l.text × Numbers (role k) n k l.text
  unfolding ends_well line_fault
  line_sound p n l k q j =
      let t = l.text in
      let a = ok_ask (has_room (role k) n) (of_line too_many_body_lines) (form_fault F k t (count_fault F (role k) n k t)) j.form in
      let s = form_sound F k t (count_fault F (role k) n k t) (and_r l.ended (all plain t) j.ending) j.kind a.1 in
      (line_ends l j.ending, s.0, record { room = a.0; count = s.1 })

  -- and such a line is accepted, where one of its role may stand
  pub sound_line : (p : Stage) (n : ℕ) (t : List ℕ) (k : Kind) (q : Stage) (o : Role) → role k ≡ o → next p o ≡ some q → SoundLine F k t → Numbers o n k t
      → judge_line F p n (ends t) ≡ good k q
  unfolding ends_well line_fault
  sound_line p n t k q o r x s u =
      judges p n (ends t) k q
      (record {
        ending = s.plains;
        kind = s.identified;
        place = ap (next p) r ∙ x;
        form = rw r (ask_ok (has_room o n) (of_line too_many_body_lines) (form_fault F k t (count_fault F o n k t)) u.room ∙ sound_form F k t (count_fault F o n k t) s ∙ u.count);
      })

  -- ---- code 7 and code 8

  -- code 7 is not given: PRO_ORDER is the running number
  pub count_order : (n : ℕ) (k : Kind) (t : List ℕ) → count_fault F body_line n k t ≡ none → value (named pro_order (fields k) (fields_of t)) ≡ suc n
  unfolding count_fault
  count_order n k t e = eqb→eq _ _ (ok_ask (eqb (value (named pro_order (fields k) (fields_of t))) (suc n)) (of_field not_running_number (field_number 1 pro_order (fields k))) none e).0

  -- code 8 is not given: RECORD_COUNT is the number of body lines
  pub count_lines : (n : ℕ) (k : Kind) (t : List ℕ) → count_fault F trailer_line n k t ≡ none → value (named record_count (fields k) (fields_of t)) ≡ n
  unfolding count_fault
  count_lines n k t e = eqb→eq _ _ (ok_ask (eqb (value (named record_count (fields k) (fields_of t))) n) (of_field record_count_wrong (field_number 1 record_count (fields k))) none e).0

  -- a body line with the running number, while there is room, has the right numbers
  pub order_counts : (n : ℕ) (k : Kind) (t : List ℕ) → n < most_body → value (named pro_order (fields k) (fields_of t)) ≡ suc n → Numbers body_line n k t
  unfolding has_room count_fault
  order_counts n k t h v = record { room = lt→ltb n most_body h; count = ask_ok _ _ none (yes_eqb v) }

  -- and so has a trailer that counts the body lines
  pub lines_counts : (n : ℕ) (k : Kind) (t : List ℕ) → value (named record_count (fields k) (fields_of t)) ≡ n → Numbers trailer_line n k t
  unfolding has_room count_fault
  lines_counts n k t v = record { room = tt; count = ask_ok _ _ none (yes_eqb v) }
