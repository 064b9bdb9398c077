-- The laws of what is found, and of the part that is handed back.
use mathlib.Core.Path.{◌≡◌, refl, sym, ap, ◌∙◌, subst}
use mathlib.Core.Bool.{true, false}
use mathlib.Core.List.{List}
use Prim.Native.Nat.{ℕ, ◌-◌, ◌≤◌}
use native.Mathlib.Omega.{arith}
use borrow.Author.Rules.{rules}
use borrow.Author.Tests.{le-leb}
use denote.Ref.{Bor}
use lib.ListN.{length, get_or, length-take, length-drop}
use Rattle.std.specs.Prelude.{Option, Some, None, Result, Ok, Err, IsSome, IsErrAnd, IfErr}
use Rattle.std.specs.Option.{ok_or}
use Rattle.meaning.specs.Lines.{lines_of}
use Rattle.meaning.specs.Enquiries.{refusal, part_of}
use Rattle.answers.specs.declared.refusal.Refusal.{Refusal}
use Rattle.answers.specs.declared.numbers.Verdict.{Verdict}
use Rattle.answers.specs.Meant.{refusal_meant, verdict_said, verdict_list}
use Rattle.text.specs.Parts.{StandsIn}
use Rattle.enquiries.specs.declared.lines.Span.{Span}
use Rattle.enquiries.specs.declared.finding.Side.{Side}
use Rattle.enquiries.specs.declared.finding.Side.TheVariants.{Holding}
use Rattle.enquiries.specs.declared.finding.Part.{Part}
use Rattle.enquiries.specs.Finding.{slice_meant, part_meant, found_said}
use Rattle.enquiries.specs.Handed.{Handed, LineSpan, LineIs}
use Rattle.enquiries.proofs.LineSeekLaws.{no_line}

-- a line that is there
module _ (s : List ℕ) (n : ℕ) (o : Option Span) (i : LineIs s n o) where
  -- is found
  pub line_there : 1 ≤ n → n ≤ length (lines_of s) → IsSome o
  line_there u k = go o i
    where
      go : (o : Option Span) → LineIs s n o → IsSome o
      go (Some t) i = refl
      go None i = absurd (let z : true ≡ false = sym (rw (le-leb 1 n u, le-leb n (length (lines_of s)) k)) ∙ i in let y : ◌≡◌ {A = ℕ} 1 0 = cc in omega arith)

  -- where it stands
  pub line_span : (t : Span) → o ≡ Some t → LineSpan s n t
  line_span t e = subst (LineIs s n) e i

  -- and is that part
  pub found_line : (b : Side) (t : Span) → o ≡ Some t → part_meant (record { side = b; start = t.start; size = t.end - t.start }) ≡ part_of (slice_meant b) (lines_of s) (n - 1)
  unfolding part_of
  found_line b t e =
      let l = line_span t e in
      let y : t.end - t.start ≡ length (get_or (lines_of s) (n - 1) no_line).text = omega (arith, simp (length-take, length-drop) at (ap length l.text), l.from) in
      rw (← l.starts, ← y)

pub ruleset finding = (rules, line_there, line_span, found_line)

-- ---- a refusal

-- one that is passed on
pub refused_on : (x : Result Part Refusal) (d : Refusal) → IsErrAnd x (λ e. e ≡ d) → found_said x ≡ refusal (refusal_meant d)
refused_on (Ok p) d h = absurd h
refused_on (Err e) d h = ap (λ r. refusal (refusal_meant r)) h

-- it names no byte where that one doesn't
pub unplaced_on : {T : Type 0} (x : Result T Refusal) (d : Refusal) → IsErrAnd x (λ e. e ≡ d) → d.place ≡ 0 → IfErr x (λ e. e.place ≡ 0)
unplaced_on (Ok t) d h z = absurd h
unplaced_on (Err e) d h z = ap (λ r. r.place) h ∙ z

-- nor where it is that of a part that isn't there
pub unplaced_none : {S T : Type 0} (o : Option S) (e : Refusal) → e.place ≡ 0 → (d : Refusal) → ok_or o e ≡ Err d → (x : Result T Refusal) → IsErrAnd x (λ b. b ≡ d) → IfErr x (λ b. b.place ≡ 0)
unplaced_none {S} o e u d z x h = unplaced_on x d h (go o z)
  where
    go : (o : Option S) → ok_or o e ≡ Err d → d.place ≡ 0
    go (Some s) z = absurd (let v : ◌≡◌ {A = Result S Refusal} (Ok s) (Err d) = z in cc)
    go None z = let v : e ≡ d = cc in ap (λ r. r.place) (sym v) ∙ u

-- its part is one of the holding
pub side_refused : (o : Result Part Refusal) (r : Refusal) → o ≡ Err r → slice_meant Holding ≡ (found_said o).slice
unfolding refusal
side_refused o r e = rw e

pub ruleset sides = (rules, side_refused)

-- ---- the part

-- a refusal hands back an empty one
pub hand_none : (s p : Bor (List ℕ)) (o : Result Part Refusal) (r : Refusal) (v : Verdict) (x : List ℕ) → o ≡ Err r → v ≡ verdict_said {T = Part} (Err r) → x ≡ verdict_list v → StandsIn p s 0 0 → Handed (found_said o) s p x
unfolding refusal
hand_none s p o r v x e f w h = rw e (record { numbers = w ∙ ap verdict_list f; part = h })

pub ruleset handing = (rules, hand_none)
