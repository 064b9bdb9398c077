-- The laws of the walk over a line's fields: k of them are passed, a comma after each, and the next one starts at i.
use mathlib.Core.Path.{◌≡◌, refl, sym, ap, ◌∙◌, subst}
use mathlib.Core.Bool.{Bool, true, false, ◌&&◌}
use mathlib.Core.Option.{none}
use mathlib.Core.List.{List, [], ◌∷◌, ◌++◌, map, append_assoc, append-nil}
use Prim.Native.Nat.{ℕ, suc, ◌+◌, ◌-◌, ◌≤◌, ◌<◌}
use native.Mathlib.Numerals.{add-one}
use native.Mathlib.Omega.{arith}
use borrow.Author.Tests.{eq-eqb}
use lib.Dec.{T, eqb, eqb→eq}
use lib.ListN.{length, get_or, take, drop, set, length-append, length-map, drop_of_length-le, take-append-drop, get_or-map}
use lib.Seq.{drop-cons, drop-drop, take-suc-set, get_or-take}
use Rattle.base.specs.Lists.{all, ask}
use Rattle.base.specs.ListLaws.{all_append}
use Rattle.base.specs.Tests.{and_l}
use Rattle.meaning.specs.Lines.{plain, is_sep, turned, fields_from, fields_of, quote_after, odd_quotes, has_fields}
use Rattle.meaning.specs.Forms.{sound_as}
use Rattle.meaning.specs.Table.{scottish}
use Rattle.text.specs.Places.{ends_here, ends_from, field_ends, plain_end, plain_len}
use Rattle.layout.specs.Rows.{Row, no_row, form_decoded, filled_decoded, decoded, sound_by}
use Rattle.layout.specs.Check.{lowest_bad}
use Rattle.pass.specs.Tidy.{tidy}
use Rattle.words.specs.Words.{upto}
use Rattle.pass.specs.Past.{Seen}
use Rattle.pass.specs.Passed.{Passed, Started}
use Rattle.pass.proofs.UptoLaws.{upto_then, upto_one, upto_length}
use Rattle.pass.proofs.TidyLaws.{tidy_quotes, tidy_ends, tidy_plain, before_comma, at_last, plain_before}
use Rattle.pass.proofs.FormLaws.{sound_tidy}

-- whatever follows the fields that are passed is cut, quoted and noted as if it stood alone
pub record Walked (rs : List Row) (s a : List ℕ) (at k i : ℕ) : Type 0 where
  pub fs : List (List ℕ)
  pub many : length fs ≡ k
  pub cuts : (t : List ℕ) → fields_from false (upto s at i ++ t) ≡ fs ++ fields_from false t
  pub quotes : (t : List ℕ) → quote_after false (upto s at i ++ t) ≡ quote_after false t
  pub ends : (t : List ℕ) → ends_from false 0 (upto s at i ++ t) ≡ take k a ++ ends_from false (i - at) t
  pub plains : T (all plain (upto s at i))
  pub low : (gs : List (List ℕ)) → lowest_bad 1 rs (fs ++ gs) ≡ lowest_bad (suc k) (drop k rs) gs
  pub forward : at ≤ i
  pub within : i ≤ length s

-- at the start none is passed
pub walk_start : (rs : List Row) (s a : List ℕ) (at : ℕ) → at ≤ length s → Walked rs s a at 0 at
walk_start rs s a at h =
    let z : at - at ≡ 0 = omega arith in
    record {
      fs = [];
      many = refl;
      cuts = λ t. rw z;
      quotes = λ t. rw z;
      ends = λ t. rw z;
      plains = rw z tt;
      low = λ gs. refl;
      forward = omega arith;
      within = h;
    }

-- ---- a comma, and nothing, after a field

comma_quotes : (t : List ℕ) → quote_after false (44 ∷ t) ≡ quote_after false t
unfolding quote_after turned
comma_quotes t = refl

comma_plain : T (all plain (44 ∷ []))
unfolding plain
comma_plain = tt

comma_ends : (p t : List ℕ) (n m : ℕ) → suc n ≡ m → p ++ ends_from false n (44 ∷ t) ≡ (p ++ (n ∷ [])) ++ ends_from false m t
unfolding ends_from is_sep turned
comma_ends p t n m h = rw (h, append_assoc p (n ∷ []) (ends_from false m t))

last_ends : (n : ℕ) → ends_from false n [] ≡ n ∷ []
unfolding ends_from
last_ends n = refl

last_quotes : quote_after false [] ≡ false
unfolding quote_after
last_quotes = refl

no_more : (n : ℕ) (rs : List Row) (k : ℕ) → length rs ≤ k → lowest_bad n (drop k rs) [] ≡ none
unfolding lowest_bad
no_more n rs k h = rw (drop_of_length-le rs {i = k} h)

counted : (n : ℕ) (t : List ℕ) → odd_quotes t ≡ false → length (fields_of t) ≡ n → true ≡ has_fields n t
unfolding has_fields
counted n t e c = rw (e, c, eq-eqb n n refl)

module _ (rs : List Row) (s a : List ℕ) (at k i e : ℕ) (w : Walked rs s a at k i) (g : i ≤ e) (l : e ≤ length s) (j : k < length rs) (r : k < length a)
    (sound : sound_as scottish.text_rule (get_or rs k no_row).0 (get_or rs k no_row).1 (upto s i e) ≡ true) where
  f : List ℕ
  f = upto s i e

  neat : T (tidy false (upto s i e))
  neat = sound_tidy (get_or rs k no_row).0 (get_or rs k no_row).1 (upto s i e) sound

  row_here : drop k rs ≡ get_or rs k no_row ∷ drop (k + 1) rs
  row_here = rw (add-one, drop-cons rs k no_row)

  -- one more end is noted
  noted : take (k + 1) (set a k (e - at)) ≡ take k a ++ ((e - at) ∷ [])
  noted = rw (add-one k) (take-suc-set a k (e - at) r)

  -- where the field ends
  place : i - at + length (upto s i e) ≡ e - at
  place = let v = w.forward in omega (arith, upto_length s i e l)

  -- one more field, sound
  low_more : (gs : List (List ℕ)) → lowest_bad 1 rs (w.fs ++ (upto s i e ∷ gs)) ≡ lowest_bad (suc (k + 1)) (drop (k + 1) rs) gs
  unfolding lowest_bad ask
  low_more gs = w.low (upto s i e ∷ gs) ∙ rw (row_here, sound, add-one k)

  -- a comma follows
  pub walk_turn : e < length s → get_or s e 0 ≡ 44 → Walked rs s (set a k (e - at)) at (k + 1) (e + 1)
  walk_turn h c =
      let v = w.forward in
      let join : upto s at (e + 1) ≡ upto s at i ++ (upto s i e ++ (44 ∷ [])) =
      upto_then s at i (e + 1) v (omega arith) ∙ ap (λ x. upto s at i ++ x) (upto_then s i e (e + 1) g (omega arith) ∙ rw (upto_one s e h, c)) in
      let more : (t : List ℕ) → upto s at (e + 1) ++ t ≡ upto s at i ++ (upto s i e ++ (44 ∷ t)) =
      λ t. rw (join, append_assoc (upto s at i) (upto s i e ++ (44 ∷ [])) t, append_assoc (upto s i e) (44 ∷ []) t) in
      record {
        fs = w.fs ++ (upto s i e ∷ []);
        many = let m = w.many in omega (arith, length-append w.fs (upto s i e ∷ []));
        cuts = λ t. rw (more t) (w.cuts (upto s i e ++ (44 ∷ t)) ∙ rw (before_comma (upto s i e) t neat, append_assoc w.fs (upto s i e ∷ []) (fields_from false t)));
        quotes = λ t. rw (more t) (w.quotes (upto s i e ++ (44 ∷ t)) ∙ tidy_quotes false (upto s i e) (44 ∷ t) neat ∙ comma_quotes t);
        ends = λ t. rw (more t) (w.ends (upto s i e ++ (44 ∷ t)) ∙ rw (tidy_ends false (i - at) (upto s i e) (44 ∷ t) neat, place, noted) (comma_ends (take k a) t (e - at) (e + 1 - at) (omega arith)));
        plains = rw join (all_append plain (upto s at i) (upto s i e ++ (44 ∷ [])) w.plains (all_append plain (upto s i e) (44 ∷ []) (tidy_plain false (upto s i e) neat) comma_plain));
        low = λ gs. rw (append_assoc w.fs (upto s i e ∷ []) gs) (low_more gs);
        forward = omega arith;
        within = omega arith;
      }

  -- a CR LF follows the last
  pub walk_end : k + 1 ≡ length rs → ends_here (drop e s) ≡ true → Passed rs s (set a k (e - at)) at e
  unfolding fields_of odd_quotes field_ends
  walk_end n c =
      let v = w.forward in
      let join : upto s at e ≡ upto s at i ++ (upto s i e ++ []) = upto_then s at i e v g ∙ ap (λ x. upto s at i ++ x) (sym (append-nil (upto s i e))) in
      let cut : fields_of (upto s at e) ≡ w.fs ++ (upto s i e ∷ []) = rw join (w.cuts (upto s i e ++ []) ∙ ap (λ x. w.fs ++ x) (at_last (upto s i e) neat)) in
      let count : length (fields_of (upto s at e)) ≡ length rs = let m = w.many in ap length cut ∙ omega (arith, length-append w.fs (upto s i e ∷ [])) in
      let even : odd_quotes (upto s at e) ≡ false = rw join (w.quotes (upto s i e ++ []) ∙ tidy_quotes false (upto s i e) [] neat ∙ last_quotes) in
      let ends : field_ends (upto s at e) ≡ take (k + 1) (set a k (e - at)) =
      rw join (w.ends (upto s i e ++ []) ∙ rw (tidy_ends false (i - at) (upto s i e) [] neat, place, noted, last_ends (e - at))) in
      record {
        forward = omega arith;
        within = l;
        plain = sym (flat c);
        ended = sym c;
        many = counted (length rs) (upto s at e) even count;
        noted = record { ends = λ m p q. sym (rw ends (get_or-take (k + 1) (set a k (e - at)) m 0 (omega (arith, count)))) };
        low = rw cut (sym (low_more [] ∙ no_more (suc (k + 1)) rs (k + 1) (omega arith)));
      }
    where
      whole : T (all plain (upto s at e))
      whole = let v = w.forward in rw (upto_then s at i e v g) (all_append plain (upto s at i) (upto s i e) w.plains (tidy_plain false (upto s i e) neat))

      cr : (r : List ℕ) → ends_here r ≡ true → plain_len (upto s at e ++ r) ≡ e - at
      cr [] x = let z : ◌≡◌ {A = Bool} false true = x in cc
      cr (y ∷ []) x = let z : ◌≡◌ {A = Bool} false true = x in cc
      cr (y ∷ (y2 ∷ r)) x = let z : y ≡ 13 = yes y y2 x in rw z (plain_before (upto s at e) (y2 ∷ r) whole ∙ upto_length s at e l)
        where
          yes : (y y2 : ℕ) → (eqb y 13 && eqb y2 10) ≡ true → y ≡ 13
          yes y y2 x = eqb→eq y 13 (and_l (eqb y 13) (eqb y2 10) (rw x tt))

      flat : ends_here (drop e s) ≡ true → plain_end s at ≡ e
      flat c =
          let v = w.forward in
          let n : at + (e - at) ≡ e = omega arith in
          let whole-s : drop at s ≡ upto s at e ++ drop e s = sym (take-append-drop (e - at) (drop at s)) ∙ rw (drop-drop (e - at) at s, n) in
          rw (whole-s, cr (drop e s) c) n

-- ---- the same by rows as code has them

-- a row of the code's, as the meaning has it
row_decoded : (rows : List ℕ) (k : ℕ) → get_or (map decoded rows) k no_row ≡ decoded (get_or rows k 0)
unfolding form_decoded filled_decoded
row_decoded rows k = get_or-map decoded rows k 0

module _ (rows s a : List ℕ) (at k i e : ℕ) (w : Walked (map decoded rows) s a at k i) (j : k < length rows) (r : length rows ≤ length a)
    (p : Seen (sound_by (get_or rows k 0)) s i e) where
  sound_here : sound_as scottish.text_rule (get_or (map decoded rows) k no_row).0 (get_or (map decoded rows) k no_row).1 (upto s i e) ≡ true
  sound_here = rw (row_decoded rows k) p.holds

  -- a comma follows
  pub line_turn : get_or s e 0 ≡ 44 → Walked (map decoded rows) s (set a k (e - at)) at (k + 1) (e + 1)
  line_turn c = walk_turn (map decoded rows) s a at k i e w p.forward (omega (arith, p.inside)) (rw length-map j) (omega arith) sound_here p.inside c

  -- a CR LF follows the last
  pub line_end_lem : k + 1 ≡ length rows → (b : Bool) → b ≡ ends_here (drop e s) → b ≡ true → Passed (map decoded rows) s (set a k (e - at)) at e
  line_end_lem n b q t = walk_end (map decoded rows) s a at k i e w p.forward (omega (arith, p.inside)) (rw length-map j) (omega arith) sound_here (rw length-map n) (sym q ∙ t)

-- the first field is passed already
pub line_start : (rows s a : List ℕ) (at : ℕ) → length rows ≤ length a → Started rows s a at → Walked (map decoded rows) s a at 1 (at + 3)
line_start rows s a at r w =
    let h : at + 2 < length s = w.inside in
    let m : 1 ≤ length rows = w.some in
    let t : Walked (map decoded rows) s (set a 0 (at + 2 - at)) at (0 + 1) (at + 2 + 1) =
    line_turn rows s a at 0 at (at + 2) (walk_start (map decoded rows) s a at (omega arith)) (omega arith) r (record { forward = omega arith; inside = h; holds = w.sound }) w.comma in
    let x : at + 2 - at ≡ 2 = omega arith in
    let y : at + 2 + 1 ≡ at + 3 = omega arith in
    subst (λ b. Walked (map decoded rows) s b at 1 (at + 3)) (set_same a w.noted (omega arith)) (rw (x, y) at t)
  where
    set_same : (b : List ℕ) → get_or b 0 0 ≡ 2 → 1 ≤ length b → set b 0 2 ≡ b
    set_same [] e h = absurd (omega arith)
    set_same (x ∷ b) e h = ap (λ y. y ∷ b) (sym e)
