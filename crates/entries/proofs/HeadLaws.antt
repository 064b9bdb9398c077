-- The laws of how a line begins: two fields that are known by seven bytes, and the kind that the first field tells.
use mathlib.Core.Path.{◌≡◌, refl, sym, ap, subst, ◌∙◌}
use mathlib.Core.Bool.{Bool, true, false, not, ◌&&◌}
use mathlib.Core.Option.{Option, none, some}
use mathlib.Core.List.{List, [], ◌∷◌}
use Rattle.std.specs.Prelude as std
use Rattle.std.specs.Prelude.{Some, None}
use Rattle.std.specs.Option.{unwrap_or}
use Prim.Native.Nat.{ℕ, suc, ◌+◌, ◌-◌, ◌≤◌, ◌<◌}
use native.Mathlib.Omega.{arith}
use borrow.Author.Rules.{rules}
use lib.Dec.{T, eqb, leb, ltb, leb→le, eqb→eq}
use lib.ListN.{length, get_or, take, drop}
use Rattle.base.specs.Lists.{pick, all, up_to}
use Rattle.base.specs.Tests.{and_l, and_r}
use Rattle.base.specs.ListLaws.{all_map}
use Rattle.meaning.specs.Lines.{identifier, is_sep, turned, fields_of, after_field}
use Rattle.meaning.specs.Kinds.{Kind, header, ident}
use Rattle.meaning.specs.Format.{kind_of}
use Rattle.meaning.specs.Table.{scottish}
use Rattle.laws.specs.Body.{ident_quiet, kind_out, first_field_lem}
use Rattle.laws.specs.LinesAndFields.{quiet, no_quote}
use Rattle.text.specs.Places.{field_len}
use Rattle.text.proofs.FieldLaws.{fields_next}
use Rattle.layout.specs.declared.kinds.Kind as code
use Rattle.layout.specs.Meant.{kind_meant, kind_found}
use Rattle.entries.specs.Entries.{known, line_at}
use Rattle.entries.specs.Fields.{after_fields, first_field, paired, lettered}
use Rattle.entries.proofs.FieldLaws.{end_in, end_over, end_comma, end_quote, past_turn, first_here}

-- ---- tests, one after another

-- a test that is met leaves it to the next
pub and_then : (p v c : Bool) → p ≡ true → v ≡ c → v ≡ (p && c)
and_then p v c t e = rw t e

-- one that is not decides
pub and_not : (p v c : Bool) → p ≡ false → v ≡ false → v ≡ (p && c)
and_not p v c f e = rw f e

-- with its own answer
pub and_same : (p v c : Bool) → p ≡ false → v ≡ p → v ≡ (p && c)
and_same p v c f e = and_not p v c f (e ∙ f)

-- three of them leave it to a fourth, or decide
pub three : (a b c d u v : Bool) → u ≡ (a && b) → v ≡ (u && c) → (v ≡ true → d ≡ (a && (b && (c && d)))) × (v ≡ false → v ≡ (a && (b && (c && d))))
three a b c d u v e f = go a b c (f ∙ ap (λ z. z && c) e)
  where
    no : {A : Type 0} → v ≡ false → v ≡ true → A
    no q t = let z : ◌≡◌ {A = Bool} false true = sym q ∙ t in cc

    go : (a b c : Bool) → v ≡ ((a && b) && c) → (v ≡ true → d ≡ (a && (b && (c && d)))) × (v ≡ false → v ≡ (a && (b && (c && d))))
    go true true true q = (λ t. refl, λ f. no f q)
    go true true false q = (λ t. no q t, λ f. f)
    go true false c q = (λ t. no q t, λ f. f)
    go false b c q = (λ t. no q t, λ f. f)

-- and so do four to a fifth
pub four : (a b c d e u v w : Bool) → u ≡ (a && b) → v ≡ (u && c) → w ≡ (v && d) → (w ≡ true → e ≡ (a && (b && (c && (d && e))))) × (w ≡ false → w ≡ (a && (b && (c && (d && e)))))
four a b c d e u v w p q r = go a b c d (r ∙ ap (λ z. z && d) (q ∙ ap (λ z. z && c) p))
  where
    no : {A : Type 0} → w ≡ false → w ≡ true → A
    no q t = let z : ◌≡◌ {A = Bool} false true = sym q ∙ t in cc

    go : (a b c d : Bool) → w ≡ (((a && b) && c) && d) → (w ≡ true → e ≡ (a && (b && (c && (d && e))))) × (w ≡ false → w ≡ (a && (b && (c && (d && e)))))
    go true true true true q = (λ t. refl, λ f. no f q)
    go true true true false q = (λ t. no q t, λ f. f)
    go true true false d q = (λ t. no q t, λ f. f)
    go true false c d q = (λ t. no q t, λ f. f)
    go false b c d q = (λ t. no q t, λ f. f)

-- ---- a line that begins as a held one does

-- two bytes above commas and quotes, and a comma
record Pair (s : List ℕ) (at : ℕ) : Type 0 where
  room : at + 2 < length s
  one : 44 < get_or s at 0
  two : 44 < get_or s (at + 1) 0
  comma : get_or s (at + 2) 0 ≡ 44

pair_told : (s : List ℕ) (at : ℕ) → T (paired s at) → Pair s at
unfolding paired
pair_told s at t =
    let t1 = and_r (leb 3 (length s - at)) _ t in
    let t2 = and_r (ltb 44 (get_or s at 0)) _ t1 in
    record {
      room = omega (arith, leb→le 3 (length s - at) (and_l (leb 3 (length s - at)) _ t));
      one = leb→le 45 (get_or s at 0) (and_l (ltb 44 (get_or s at 0)) _ t1);
      two = leb→le 45 (get_or s (at + 1) 0) (and_l (ltb 44 (get_or s (at + 1) 0)) _ t2);
      comma = eqb→eq (get_or s (at + 2) 0) 44 (and_r (ltb 44 (get_or s (at + 1) 0)) _ t2);
    }

-- the third ends the first field
pair_field : (s : List ℕ) (at : ℕ) → Pair s at → at + 2 ≡ at + field_len false (line_at s at)
pair_field s at h =
    let z2 : at + 1 + 1 ≡ at + 2 = omega arith in
    let x = at + field_len false (line_at s at) in
    let e1 = end_over s false at x refl (omega (arith, h.room)) h.one in
    let e2 : end_in s false (at + 2) ≡ x = rw z2 at (end_over s false (at + 1) x e1 (omega (arith, h.room)) h.two) in
    end_comma s false (at + 2) x e2 h.room h.comma refl

-- so what stands before it is that field
pub pair_end : (s : List ℕ) (at : ℕ) (b : Bool) → b ≡ paired s at → b ≡ true → take (at + 2 - at) (drop at s) ≡ first_field (line_at s at)
pair_end s at b p t = first_here s at (at + 2) (pair_field s at (pair_told s at (subst T (sym t ∙ p) tt)))

-- and there are bytes enough
pub pair_room : (s : List ℕ) (at : ℕ) (b : Bool) → b ≡ paired s at → b ≡ true → at + 2 ≤ length s
pair_room s at b p t = omega (arith, (pair_told s at (subst T (sym t ∙ p) tt)).room)

pub ruleset pairing = (rules, pair_end, pair_room)

-- seven bytes on two fields are passed
head_passed : (s : List ℕ) (at : ℕ) → T (paired s at && lettered s at) → (line_at s (at + 7) ≡ after_fields 2 (line_at s at)) × (at + 7 ≤ length s)
unfolding lettered after_fields
head_passed s at t =
    let h = pair_told s at (and_l (paired s at) _ t) in
    let t1 = and_r (paired s at) _ t in
    let n = leb→le 7 (length s - at) (and_l (leb 7 (length s - at)) _ t1) in
    let t2 = and_r (leb 7 (length s - at)) _ t1 in
    let t3 = and_r (eqb (get_or s (at + 3) 0) 34) _ t2 in
    let t4 = and_r (ltb 44 (get_or s (at + 4) 0)) _ t3 in
    let z3 : at + 2 + 1 ≡ at + 3 = omega arith in
    let z4 : at + 3 + 1 ≡ at + 4 = omega arith in
    let z5 : at + 4 + 1 ≡ at + 5 = omega arith in
    let z6 : at + 5 + 1 ≡ at + 6 = omega arith in
    let z7 : at + 6 + 1 ≡ at + 7 = omega arith in
    let x = after_fields 2 (line_at s at) in
    let one : after_fields 1 (line_at s (at + 3)) ≡ x = rw z3 at (past_turn s at 2 x refl (at + 2) (pair_field s at h) (omega arith) h.room h.comma) in
    let y = at + 3 + field_len false (line_at s (at + 3)) in
    let e4 : end_in s true (at + 4) ≡ y = rw z4 at (end_quote s false (at + 3) y refl (omega arith) (eqb→eq (get_or s (at + 3) 0) 34 (and_l (eqb (get_or s (at + 3) 0) 34) _ t2))) in
    let e5 : end_in s true (at + 5) ≡ y = rw z5 at (end_over s true (at + 4) y e4 (omega arith) (leb→le 45 (get_or s (at + 4) 0) (and_l (ltb 44 (get_or s (at + 4) 0)) _ t3))) in
    let e6 : end_in s false (at + 6) ≡ y = rw z6 at (end_quote s true (at + 5) y e5 (omega arith) (eqb→eq (get_or s (at + 5) 0) 34 (and_l (eqb (get_or s (at + 5) 0) 34) _ t4))) in
    let c = eqb→eq (get_or s (at + 6) 0) 44 (and_r (eqb (get_or s (at + 5) 0) 34) _ t4) in
    (rw z7 at (past_turn s (at + 3) 1 x one (at + 6) (end_comma s false (at + 6) y e6 (omega arith) c refl) (omega arith) (omega arith) c), omega arith)

-- so one more is passed from there
pub head_content : (s : List ℕ) (at r : ℕ) (b : Bool) → b ≡ (paired s at && lettered s at) → b ≡ true → line_at s r ≡ after_fields 1 (line_at s (at + 7)) → line_at s r ≡ after_fields 3 (line_at s at)
unfolding after_fields
head_content s at r b p t e = e ∙ ap (after_field false) (head_passed s at (subst T (sym t ∙ p) tt)).0

-- and there are bytes enough
pub head_room : (s : List ℕ) (at : ℕ) (b : Bool) → b ≡ (paired s at && lettered s at) → b ≡ true → at + 7 ≤ length s
head_room s at b p t = (head_passed s at (subst T (sym t ∙ p) tt)).1

pub ruleset heading = (rules, head_content, head_room)

-- ---- the kind

-- a first field that has no quote is the identifier
quiet_first : (t : List ℕ) → T (all no_quote (first_field t)) → first_field t ≡ up_to 44 t
unfolding first_field up_to field_len is_sep turned no_quote
quiet_first [] h = refl
quiet_first (x ∷ r) h = go (eqb x 44) (eqb x 34) refl h (quiet_first r)
  where
    go :
        (c d : Bool) → eqb x 34 ≡ d → T (all no_quote (take (pick c 0 (suc (field_len (pick d true false) r))) (x ∷ r)))
        → (T (all no_quote (take (field_len false r) r)) → take (field_len false r) r ≡ up_to 44 r)
        → take (pick c 0 (suc (field_len (pick d true false) r))) (x ∷ r) ≡ pick c [] (x ∷ up_to 44 r)
    go true d e h ih = refl
    go false true e h ih = absurd (rw e at (and_l (no_quote x) _ h))
    go false false e h ih = ap (λ l. x ∷ l) (ih (and_r (no_quote x) _ h))

-- the kind is known by the first field as by the identifier
kind_first : (t : List ℕ) → kind_of scottish (first_field t) ≡ kind_of scottish (identifier t)
unfolding identifier fields_of first_field quiet no_quote
kind_first t = go (kind_of scottish (identifier t)) (kind_of scottish (first_field t)) refl refl
  where
    go : (o p : Option Kind) → kind_of scottish (identifier t) ≡ o → kind_of scottish (first_field t) ≡ p → kind_of scottish (first_field t) ≡ kind_of scottish (identifier t)
    go (some k) p e f = ap (kind_of scottish) (first_field_lem t k (first_field t) _ (kind_out scottish (identifier t) k e) (fields_next false t) ∙ sym (kind_out scottish (identifier t) k e))
    go none (some k) e f = ap (kind_of scottish) (quiet_first t (rw (kind_out scottish (first_field t) k f) (all_map quiet no_quote (λ x. and_r (not (eqb x 44)) (not (eqb x 34))) (ident k) (ident_quiet k))))
    go none none e f = f ∙ sym e

pub kind_by_first : (t f : List ℕ) (r : std.Option code.Kind) → f ≡ first_field t → kind_found r ≡ kind_of scottish f → kind_found r ≡ kind_of scottish (identifier t)
kind_by_first t f r q g = g ∙ rw q (kind_first t)

module _ (t : List ℕ) (r : std.Option code.Kind) (g : kind_found r ≡ kind_of scottish (identifier t)) where
  -- the kind of a line is its identifier's; an unknown one is taken for a header's
  pub kind_known : (h k : code.Kind) → kind_meant h ≡ header → k ≡ unwrap_or r h → kind_meant k ≡ known (kind_of scottish (identifier t))
  kind_known h k z u = ap kind_meant u ∙ go r ∙ ap known g
    where
      go : (o : std.Option code.Kind) → kind_meant (unwrap_or o h) ≡ known (kind_found o)
      go (Some x) = refl
      go None = z

pub ruleset kinding = (rules, kind_by_first, kind_known)
