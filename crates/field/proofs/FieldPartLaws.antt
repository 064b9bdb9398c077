-- The laws of one field of a line.
use mathlib.Core.Path.{◌≡◌, refl, ap, ◌∙◌, subst}
use mathlib.Core.Bool.{Bool, true, false, not, ◌&&◌}
use mathlib.Core.List.{List, []}
use Prim.Native.Nat.{ℕ, ◌+◌, ◌-◌, ◌≤◌, ◌<◌}
use native.Mathlib.Omega.{arith}
use borrow.Author.Rules.{rules}
use borrow.Author.Tests.{lt-ltb, le-leb, lt-leb}
use lib.Dec.{leb}
use lib.ListN.{length, get_or, take, drop, length-take, length-drop}
use Rattle.std.specs.Prelude.{Option, Some, None, Result, Ok, Err}
use Rattle.std.specs.Option.{ok_or}
use Rattle.base.specs.Lists.{pick}
use Rattle.meaning.specs.Lines.{fields_of, odd_quotes}
use Rattle.meaning.specs.Enquiries.{Found, first, refusal, fields_spanned, field_part, field_in, field_of}
use Rattle.meaning.specs.Answers.{no_fault, alone}
use Rattle.meaning.specs.Codes.{no_such_part}
use Rattle.answers.specs.declared.refusal.Refusal.{Refusal}
use Rattle.answers.specs.Meant.{refusal_meant}
use Rattle.text.specs.Places.{field_count, field_end, field_start, FieldAt}
use Rattle.enquiries.specs.declared.lines.Span.{Span}
use Rattle.enquiries.specs.declared.finding.Side.TheVariants.{Holding}
use Rattle.enquiries.specs.Finding.{part_meant}
use Rattle.enquiries.specs.Handed.{LineSpan, LineIs}
use Rattle.field.specs.FieldIs.{FieldSpan, FieldIs}

-- there is no field 0
pub field_zero : (t : List ℕ) (n : ℕ) → n < 1 → FieldIs t n None
field_zero t n h = go (not (odd_quotes t))
  where
    go : (b : Bool) → (b && (leb 1 n && leb n (length (fields_of t)))) ≡ false
    go true = rw (lt-leb 1 n h)
    go false = refl

module _ (t : List ℕ) (n k c : ℕ) (h : 1 ≤ n) (m : k ≡ n - 1) (e : c ≡ field_count t) where
  -- none past the last, and none where quotes are odd
  pub field_past : c ≤ k → FieldIs t n None
  unfolding field_count
  field_past l = go (odd_quotes t) e
    where
      go : (b : Bool) → c ≡ pick b 0 (length (fields_of t)) → (not b && (leb 1 n && leb n (length (fields_of t)))) ≡ false
      go true q = refl
      go false q = rw (le-leb 1 n h, lt-leb n (length (fields_of t)) (omega arith))

  -- where there are enough, the quotes are even
  counts : k < c → (odd_quotes t ≡ false) × (c ≡ length (fields_of t))
  unfolding field_count
  counts l = go (odd_quotes t) refl e
    where
      go : (b : Bool) → odd_quotes t ≡ b → c ≡ pick b 0 (length (fields_of t)) → (odd_quotes t ≡ false) × (c ≡ length (fields_of t))
      go true o q = absurd (omega arith)
      go false o q = (o, q)

  -- else it stands from its start to its end
  pub field_there : (a f : ℕ) → k < c → FieldAt t k a → f ≡ field_end t a → a ≤ f → f ≤ length t → FieldSpan t n (record { start = a; end = f })
  unfolding field_start
  field_there a f l p q u v =
      let w = counts l in
      record {
        exists = rw (w.0, le-leb 1 n h, le-leb n (length (fields_of t)) (omega arith));
        starts = rw (← m) (p.starts ∙ rw (lt-ltb k (length (fields_of t)) (omega arith)));
        size = rw (← m) (sized w);
        from = u;
        within = v;
      }
    where
      sized : (odd_quotes t ≡ false) × (c ≡ length (fields_of t)) → f - a ≡ length (get_or (fields_of t) k [])
      sized w =
          let s : length (take (f - a) (drop a t)) ≡ length (get_or (fields_of t) k []) = ap length (rw (← q) at p.stands) in
          omega (arith, simp (length-take, length-drop) at s)

pub ruleset fieldat = (rules, field_zero, field_past, field_there)

-- ---- the answer

-- the field's part, where there is one
abbrev there : ℕ → List ℕ → ℕ → Found
there at t f = record { answer = no_fault; slice = first; start = at + fields_spanned (take (f - 1) (fields_of t)); size = length (get_or (fields_of t) (f - 1) []) }

-- the meaning's questions as one
in_line : (at : ℕ) (t : List ℕ) (f : ℕ) → field_in at t f ≡ pick (not (odd_quotes t) && (leb 1 f && leb f (length (fields_of t)))) (there at t f) (refusal (alone no_such_part))
unfolding field_in field_part
in_line at t f = go (odd_quotes t)
  where
    go : (b : Bool) → pick b (refusal (alone no_such_part)) (pick (leb 1 f && leb f (length (fields_of t))) (there at t f) (refusal (alone no_such_part))) ≡ pick (not b && (leb 1 f && leb f (length (fields_of t)))) (there at t f) (refusal (alone no_such_part))
    go true = refl
    go false = refl

module _ (b : List ℕ) (l f : ℕ) (o : Option Span) (w : LineIs b l o) (e : Refusal) where
  -- no such line
  pub found_no_line : (d : Refusal) → ok_or o e ≡ Err d → refusal_meant e ≡ alone no_such_part → refusal (refusal_meant d) ≡ field_of b l f
  unfolding field_of
  found_no_line d k s = go o w k
    where
      go : (o : Option Span) → LineIs b l o → ok_or o e ≡ Err d → refusal (refusal_meant d) ≡ field_of b l f
      go None w k = let z : e ≡ d = cc in rw (w, ← z, s)
      go (Some r) w k = absurd (let z : ◌≡◌ {A = Result Span Refusal} (Ok r) (Err d) = k in cc)

  module _ (r : Span) (k : ok_or o e ≡ Ok r) where
    -- the line
    pub line_found : LineSpan b l r
    line_found = go o w k
      where
        go : (o : Option Span) → LineIs b l o → ok_or o e ≡ Ok r → LineSpan b l r
        go None w k = absurd (let z : ◌≡◌ {A = Result Span Refusal} (Err e) (Ok r) = k in cc)
        go (Some s) w k = let z : s ≡ r = cc in subst (LineSpan b l) z w

    -- the line's bytes
    abbrev text : List ℕ
    text = take (r.end - r.start) (drop r.start b)

    -- the line is there
    in_bytes : field_of b l f ≡ field_in r.start text f
    unfolding field_of
    in_bytes = let m = line_found in rw (m.exists, ← m.starts, ← m.text)

    module _ (p : Option Span) (v : FieldIs text f p) where
      -- no such field
      pub found_no_field : (d : Refusal) → ok_or p e ≡ Err d → refusal_meant e ≡ alone no_such_part → refusal (refusal_meant d) ≡ field_of b l f
      found_no_field d m s = rw (in_bytes, in_line r.start text f) (go p v m)
        where
          go : (p : Option Span) → FieldIs text f p → ok_or p e ≡ Err d → refusal (refusal_meant d) ≡ pick (not (odd_quotes text) && (leb 1 f && leb f (length (fields_of text)))) (there r.start text f) (refusal (alone no_such_part))
          go None v m = let z : e ≡ d = cc in rw (v, ← z, s)
          go (Some q) v m = absurd (let z : ◌≡◌ {A = Result Span Refusal} (Ok q) (Err d) = m in cc)

      -- the field, where it stands
      pub field_found : (q : Span) → ok_or p e ≡ Ok q → FieldSpan text f q
      field_found q m = go p v m
        where
          go : (p : Option Span) → FieldIs text f p → ok_or p e ≡ Ok q → FieldSpan text f q
          go None v m = absurd (let z : ◌≡◌ {A = Result Span Refusal} (Err e) (Ok q) = m in cc)
          go (Some s) v m = let z : s ≡ q = cc in subst (FieldSpan text f) z v

      pub found_field : (q : Span) → ok_or p e ≡ Ok q → part_meant (record { side = Holding; start = r.start + q.start; size = q.end - q.start }) ≡ field_of b l f
      found_field q m = let g = field_found q m in rw (in_bytes, in_line r.start text f, g.exists, ← g.starts, ← g.size) refl

pub ruleset fieldfound = (rules, found_no_line, line_found, found_no_field, field_found, found_field)
