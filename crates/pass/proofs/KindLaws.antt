-- The laws of a line by its kind: it begins with the kind's identifier, and the rows are the kind's.
use mathlib.Core.Path.{◌≡◌, refl, sym, ap, ◌∙◌}
use mathlib.Core.Bool.{true, ◌&&◌}
use mathlib.Core.Option.{some}
use mathlib.Core.List.{List, ◌∷◌, ◌++◌, map}
use Prim.Native.Nat.{ℕ, suc, ◌+◌, ◌-◌, ◌≤◌, ◌<◌}
use native.Mathlib.Omega.{arith}
use lib.Dec.{T, eqb, eqb→eq}
use Rattle.std.specs.Prelude.{Option as Answer, IfSome}
use Rattle.std.proofs.lemmas.Option.{IfSome_then}
use lib.ListN.{length, get_or, drop, length-map, take-append-drop, get_or-map}
use lib.Seq.{drop-drop}
use Rattle.base.specs.Lists.{all, bytes, same}
use Rattle.base.specs.Tests.{and_l, and_r}
use Rattle.base.proofs.Walk.{at_cons}
use Rattle.meaning.specs.Forms.{is_digit, is_number, has_form, is_textual, is_empty, sound_as}
use Rattle.meaning.specs.Lines.{plain, identifier}
use Rattle.meaning.specs.Kinds.{Kind, kinds, ident}
use Rattle.meaning.specs.Format.{kind_of}
use Rattle.meaning.specs.Table.{fields, scottish}
use Rattle.laws.specs.Kinds.{every, alike}
use Rattle.laws.specs.Scottish.{scottish_knows}
use Rattle.laws.specs.Body.{kind_out, ident_in}
use Rattle.text.specs.Places.{plain_len, plain_end}
use Rattle.words.specs.Words.{upto}
use Rattle.layout.specs.declared.kinds.Kind.{Kind as Code}
use Rattle.layout.specs.Meant.{kind_meant}
use Rattle.layout.specs.Rows.{bare, row_of, decoded}
use Rattle.layout.proofs.TableLaws.{codes, rows_right, no_row_lem}
use Rattle.layout.proofs.CheckLaws.{fields_low, fields_high}
use Rattle.pass.specs.Passed.{Passed, Started}
use Rattle.pass.specs.Kinds.{Begins, PassedAs}
use Rattle.pass.proofs.TidyLaws.{plain_past}
use Rattle.pass.proofs.UptoLaws.{upto_then, upto_one}

-- a kind's identifier is two plain bytes
two_plain : (k : Kind) → T (eqb (length (ident k)) 2 && all plain (ident k))
unfolding kinds ident bytes plain
two_plain k = every (λ k. eqb (length (ident k)) 2 && all plain (ident k)) tt k

comma_plain : (r : List ℕ) → plain_len (44 ∷ r) ≡ suc (plain_len r)
unfolding plain_len plain
comma_plain r = refl

-- with a comma they are three bytes before the line's end
three : (k : Kind) (r : List ℕ) → plain_len (ident k ++ (44 ∷ r)) ≡ suc (suc (suc (plain_len r)))
three k r =
    let two : length (ident k) ≡ 2 = eqb→eq (length (ident k)) 2 (and_l (eqb (length (ident k)) 2) (all plain (ident k)) (two_plain k)) in
    plain_past (ident k) (44 ∷ r) (and_r (eqb (length (ident k)) 2) (all plain (ident k)) (two_plain k)) ∙ omega (arith, two, comma_plain r)

-- so the line is longer, and its identifier is the kind's
pub kind_line :
    (k : Kind) (s : List ℕ) (at e : ℕ) → at + 2 < length s → kind_of scottish (upto s at (at + 2)) ≡ some k → get_or s (at + 2) 0 ≡ 44 → e ≡ plain_end s at
    → kind_of scottish (identifier (upto s at e)) ≡ some k
kind_line k s at e h o c p =
    let i : upto s at (at + 2) ≡ ident k = kind_out scottish (upto s at (at + 2)) k o in
    let n : at + (at + 2 - at) ≡ at + 2 = omega arith in
    let d : drop at s ≡ ident k ++ (44 ∷ drop (at + 2 + 1) s) = sym (take-append-drop (at + 2 - at) (drop at s)) ∙ rw (drop-drop (at + 2 - at) at s, n, i, at_cons s (at + 2) h, c) in
    let m : plain_len (drop at s) ≡ suc (suc (suc (plain_len (drop (at + 2 + 1) s)))) = rw d (three k (drop (at + 2 + 1) s)) in
    let long : at + 2 + 1 ≤ e = omega arith in
    let join : upto s at e ≡ ident k ++ (44 ∷ upto s (at + 2 + 1) e) =
    upto_then s at (at + 2) e (omega arith) (omega arith) ∙ rw (i, upto_then s (at + 2) (at + 2 + 1) e (omega arith) long, upto_one s (at + 2) h, c) in
    rw join (ident_in scottish k (upto s (at + 2 + 1) e) (scottish_knows k))

-- an identifier is sound as the first field
ident_sound : (k : Kind) → sound_as scottish.text_rule (row_of k 0).0 (row_of k 0).1 (ident k) ≡ true
unfolding kinds row_of fields ident bytes sound_as is_empty is_textual has_form is_number is_digit same
ident_sound k = alike (λ k. sound_as scottish.text_rule (row_of k 0).0 (row_of k 0).1 (ident k)) (λ k. true) refl k

-- ---- a kind's rows, as code has them

module _ (k : Kind) (rows : List ℕ) (e : rows ≡ codes k) where
  -- what they say is what the meaning's table says
  rows_say : map decoded rows ≡ map bare (fields k)
  rows_say = rw e (rows_right k)

  rows_many : length rows ≡ length (fields k)
  rows_many = simp length-map at (ap length rows_say)

  -- they are few
  pub rows_few : length rows ≤ 32
  rows_few = omega (arith, rows_many, fields_high k)

  -- the first of them is that of an identifier
  first_says : decoded (get_or rows 0 0) ≡ row_of k 0
  unfolding row_of
  first_says = rw (← no_row_lem, ← rows_say) (sym (get_or-map decoded rows 0 0))

  -- so a line that begins with the kind's is begun well
  pub kind_started : (s a : List ℕ) (at : ℕ) → get_or a 0 0 ≡ 2 → Begins s at (some k) → Started rows s a at
  kind_started s a at d b = record {
    noted = d;
    inside = b.0;
    comma = b.2;
    some = omega (arith, rows_many, fields_low k);
    sound = ap (λ r. sound_as scottish.text_rule r.0 r.1 (upto s at (at + 2))) first_says ∙ rw (kind_out scottish (upto s at (at + 2)) k b.1) (ident_sound k);
  }

  -- a line that they passed is one of the kind
  pub kind_passed : (s a : List ℕ) (at x : ℕ) → Begins s at (some k) → 32 ≤ length a → x < length s → Passed (map decoded rows) s a at x → PassedAs k s a at x
  kind_passed s a at x b w l p =
      let q : Passed (map bare (fields k)) s a at x = rw rows_say at p in
      record {
        line = q;
        kind = kind_line k s at x b.0 b.1 b.2 q.plain;
        parted = record { many = rw length-map at q.many; noted = q.noted; room = w };
        inside = l;
      }

-- ---- in the arm of a kind, by the enum of the code

module _ (kind kind' : Code) (e : kind ≡ kind') (rows s : List ℕ) (at : ℕ) (q : rows ≡ codes (kind_meant kind')) (b : Begins s at (some (kind_meant kind))) where
  -- its rows are walked
  pub arm_started : (a : List ℕ) → 32 ≤ length a → get_or a 0 0 ≡ 2 → (length rows ≤ length a) × Started rows s a at
  arm_started a w n = (omega (arith, rows_few (kind_meant kind') rows q), kind_started (kind_meant kind') rows q s a at n (rw e at b))

  -- what they pass is a line of the kind
  pub arm_passed :
      (a a' : List ℕ) (o : Answer ℕ) → 32 ≤ length a → (length a' ≡ length a) × IfSome o (λ r. Passed (map decoded rows) s a' at r × (r < length s))
      → (length a' ≡ length a) × IfSome o (λ r. PassedAs (kind_meant kind) s a' at r)
  arm_passed a a' o w p =
      (p.0, IfSome_then o p.1 (λ r l. rw e (kind_passed (kind_meant kind') rows q s a' at r (rw e at b) (omega (arith, p.0)) l.1 l.0)))
