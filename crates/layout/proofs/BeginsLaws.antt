-- How the tests of what a sound field may begin with meet the meaning's Place.
use mathlib.Core.Path.{◌≡◌, refl, sym, ap, ◌∙◌}
use mathlib.Core.Bool.{Bool, true, false, ◌||◌, or-false}
use mathlib.Core.List.{List, [], ◌∷◌, ◌++◌, map}
use Prim.Native.Nat.{ℕ, zero, suc, ◌+◌, ◌-◌, ◌≤◌, ◌<◌}
use native.Mathlib.Omega.{arith}
use borrow.Author.Rules.{rules}
use borrow.Author.Tests.{not-true, not-false}
use borrow.Rule.Slice.PartMut.{put_mid}
use lib.ListN.{length, get_or, take, drop, set, replicate, length-append, length-drop}
use lib.Seq.{take_at, take_all}
use Rattle.std.specs.List.{list_any}
use Rattle.base.specs.Lists.{bytes}
use Rattle.base.proofs.Walk.{at_cons, at_end_lem}
use Rattle.text.specs.Front.{in_front}
use Rattle.text.proofs.FrontLaws.{front_then}
use Rattle.meaning.specs.Forms.{Form, quoted, is_textual, empty_of}
use Rattle.meaning.specs.Place.{goes_on, begins, samples, sample_characters}
use Rattle.form.specs.Codes.{in_quotes}
use Rattle.form.specs.Meant.{meant}
use Rattle.layout.specs.Rows.{form_decoded, sound_by}
use Rattle.layout.specs.Longest.{most_of_any}
use Rattle.form.specs.declared.Form.{Form as Code}
use Rattle.form.specs.declared.Form.TheVariants.{Decimal}
use Rattle.layout.proofs.LongestLaws.{begins_longer, goes_over, short_row_lem, wide_decimal}

-- ---- two parts, one behind the other

module _ (p e old new : List ℕ) (n : ℕ) (pn : n ≡ length p) (w : new ≡ in_front p old) (l : length p + length e ≤ length old) where
  -- both stand in front
  pub both_front : (last : List ℕ) → last ≡ in_front e (take (length new - n) (drop n new)) → put_mid n (length new - n) new last ≡ in_front (p ++ e) old
  both_front last v = front_then p e old new last n pn w v

-- they are as long as both
pub both_length : (p e : List ℕ) (n m : ℕ) → n ≡ length p → m ≡ length e → n + m ≡ length (p ++ e)
both_length p e n m a b = omega (arith, length-append p e)

module _ (p e old new : List ℕ) (n : ℕ) (pn : n ≡ length (p ++ e)) (w : new ≡ in_front (p ++ e) old) where
  -- what stands in front is both
  pub together : (row : ℕ) (r : Bool) → r ≡ sound_by row (take (n - 0) (drop 0 new)) → r ≡ sound_by row (p ++ e)
  unfolding in_front
  together row r q =
      let z : n - 0 ≡ length (p ++ e) = omega (arith, pn) in
      q ∙ ap (sound_by row) (rw (w, z) (take_at (p ++ e) (drop (length (p ++ e)) old) (length (p ++ e)) refl))

pub ruleset parts = (rules, both_front, both_length, together)

-- ---- the ends of a sample

module _ (sound : List ℕ → Bool) (p s : List ℕ) (i : ℕ) (x : Bool) (e : goes_on sound p (drop i s) ≡ x) where
  -- this end goes on
  pub goes_stop : i < length s → (b : Bool) → b ≡ sound (p ++ take (length s - i) (drop i s)) → b ≡ true → true ≡ x
  unfolding goes_on
  goes_stop h b q t =
      let w : take (length s - i) (drop i s) ≡ drop i s = take_all (length s - i) (drop i s) (rw (length-drop i s) (omega arith)) in
      let k : true ≡ sound (p ++ (get_or s i 0 ∷ drop (i + 1) s)) = sym t ∙ q ∙ rw (w, at_cons s i h) in
      rw (at_cons s i h, sym k) at e

  -- it does not, and a shorter one is tried
  pub goes_turn : i < length s → (b : Bool) → b ≡ sound (p ++ take (length s - i) (drop i s)) → b ≡ false → goes_on sound p (drop (i + 1) s) ≡ x
  unfolding goes_on
  goes_turn h b q t =
      let w : take (length s - i) (drop i s) ≡ drop i s = take_all (length s - i) (drop i s) (rw (length-drop i s) (omega arith)) in
      let k : false ≡ sound (p ++ (get_or s i 0 ∷ drop (i + 1) s)) = sym t ∙ q ∙ rw (w, at_cons s i h) in
      rw (at_cons s i h, sym k) at e

  -- nothing is left of it
  pub goes_done : length s ≤ i → (b : Bool) → b ≡ sound p → b ≡ x
  unfolding goes_on
  goes_done h b q = q ∙ rw (at_end_lem s i h) at e

pub ruleset going = (rules, not-true, not-false, short_row_lem, goes_over, goes_stop, goes_turn, goes_done)

-- ---- one sample and those after it

module _ (sound : List ℕ → Bool) (p s : List ℕ) (ss : List (List ℕ)) (b : Bool) (e : b ≡ goes_on sound p s) where
  -- the first sample goes on
  pub begins_first : b ≡ true → true ≡ begins sound (s ∷ ss) p
  unfolding begins
  begins_first t = rw (sym e ∙ t)

  -- the others are asked
  pub begins_others : b ≡ false → (r : Bool) → r ≡ begins sound ss p → r ≡ begins sound (s ∷ ss) p
  unfolding begins
  begins_others t r q = rw (sym e ∙ t) q

-- one alone
pub begins_last : (sound : List ℕ → Bool) (p s : List ℕ) (r : Bool) → r ≡ goes_on sound p s → r ≡ begins sound (s ∷ []) p
unfolding begins
begins_last sound p s r e = e ∙ sym (or-false (goes_on sound p s))

pub ruleset beginning = (rules, not-true, not-false, begins_longer, begins_first, begins_others, begins_last)

-- ---- codes in quotes

-- one of them goes on
pub quoted_told : (sound : List ℕ → Bool) (p codes : List ℕ) (r : Bool) → r ≡ list_any (λ c. goes_on sound p (34 ∷ c ∷ 34 ∷ [])) codes → r ≡ begins sound (in_quotes codes) p
unfolding begins in_quotes
quoted_told sound p codes r e = e ∙ go codes
  where
    go : (codes : List ℕ) → list_any (λ c. goes_on sound p (34 ∷ c ∷ 34 ∷ [])) codes ≡ begins sound (in_quotes codes) p
    go [] = refl
    go (c ∷ codes) = rw (go codes)

-- ---- a number with a point

-- of so many that are alike, the first are so many
take_alike : (d n x : ℕ) → d ≤ n → take d (replicate n x) ≡ replicate d x
take_alike zero n x h = refl
take_alike (suc d) zero x h = absurd (omega arith)
take_alike (suc d) (suc n) x h = ap (λ l. x ∷ l) (take_alike d n x (omega arith))

-- 0, a point and zeros, of which as many are lent as there are decimals
noughts : (d : ℕ) → 2 + d ≤ most_of_any → take (2 + d - 0) (drop 0 (set (replicate 1022 48) 1 46)) ≡ bytes "0." ++ replicate d 48
unfolding bytes
noughts d h =
    let z : 2 + d - 0 ≡ suc (suc d) = omega arith in
    rw z (ap (λ l. 48 ∷ 46 ∷ l) (take_alike d 1020 48 (omega arith)))

pub decimal_goes : (sound : List ℕ → Bool) (p : List ℕ) (d : ℕ) (r : Bool) → 2 + d ≤ most_of_any → r ≡ goes_on sound p (take (2 + d - 0) (drop 0 (set (replicate 1022 48) 1 46)))
    → r ≡ goes_on sound p (bytes "0." ++ replicate d 48)
decimal_goes sound p d r h e = e ∙ ap (goes_on sound p) (noughts d h)

-- ---- a key

-- the sample with a letter put in
pub key_goes : (sound : List ℕ → Bool) (p : List ℕ) (letter : ℕ) (r : Bool)
    → r ≡ goes_on sound p (set (34 ∷ 48 ∷ 48 ∷ 48 ∷ 48 ∷ 46 ∷ 48 ∷ 48 ∷ 48 ∷ 48 ∷ 48 ∷ 48 ∷ 48 ∷ 48 ∷ 48 ∷ 34 ∷ []) 5 letter)
    → r ≡ goes_on sound p (quoted (bytes "0000" ++ (letter ∷ bytes "000000000")))
unfolding bytes
key_goes sound p letter r e = e

pub ruleset sampled = (rules, decimal_goes, key_goes)

-- ---- a text

-- a run of tests, each asked where those before it fail
pub or_here : (v a x y : Bool) → v ≡ a → a ≡ true → a ≡ x → v ≡ (x || y)
or_here v a true y e t f = e ∙ f
or_here v a false y e t f = let z : false ≡ true = sym f ∙ t in cc

pub or_next : (v a b x y : Bool) → v ≡ b → a ≡ false → a ≡ x → b ≡ y → v ≡ (x || y)
or_next v a b true y e t f g = let z : true ≡ false = sym f ∙ t in cc
or_next v a b false y e t f g = e ∙ g

-- a text's samples, one after another
text_samples : (sound : List ℕ → Bool) (p : List ℕ) → begins sound (map quoted sample_characters) p
    ≡ (goes_on sound p (34 ∷ 97 ∷ 34 ∷ []) || (goes_on sound p (34 ∷ 224 ∷ 160 ∷ 128 ∷ 34 ∷ []) || (goes_on sound p (34 ∷ 240 ∷ 144 ∷ 128 ∷ 128 ∷ 34 ∷ []) || goes_on sound p (34 ∷ 241 ∷ 128 ∷ 128 ∷ 128 ∷ 34 ∷ []))))
unfolding begins sample_characters bytes
text_samples sound p = rw or-false

module _ (sound : List ℕ → Bool) (p : List ℕ) (v : Bool) (e : v ≡ ((goes_on sound p (34 ∷ 97 ∷ 34 ∷ []) || goes_on sound p (34 ∷ 224 ∷ 160 ∷ 128 ∷ 34 ∷ [])) || goes_on sound p (34 ∷ 240 ∷ 144 ∷ 128 ∷ 128 ∷ 34 ∷ []))) where
  -- one of the first three goes on, or the last is asked
  text_either : (a b c d v : Bool) → v ≡ ((a || b) || c) → (a || (b || (c || d))) ≡ (v || d)
  text_either true b c d v e = rw e
  text_either false true c d v e = rw e
  text_either false false c d v e = rw e

  text_is : begins sound (map quoted sample_characters) p ≡ (v || goes_on sound p (34 ∷ 241 ∷ 128 ∷ 128 ∷ 128 ∷ 34 ∷ []))
  text_is =
      text_samples sound p
      ∙ text_either (goes_on sound p (34 ∷ 97 ∷ 34 ∷ [])) (goes_on sound p (34 ∷ 224 ∷ 160 ∷ 128 ∷ 34 ∷ [])) (goes_on sound p (34 ∷ 240 ∷ 144 ∷ 128 ∷ 128 ∷ 34 ∷ []))
      (goes_on sound p (34 ∷ 241 ∷ 128 ∷ 128 ∷ 128 ∷ 34 ∷ [])) v e

  pub text_first : v ≡ true → v ≡ begins sound (map quoted sample_characters) p
  text_first t = t ∙ sym (rw t at text_is)

  pub text_last : v ≡ false → (r : Bool) → r ≡ goes_on sound p (34 ∷ 241 ∷ 128 ∷ 128 ∷ 128 ∷ 34 ∷ []) → r ≡ begins sound (map quoted sample_characters) p
  text_last t r q = q ∙ sym (rw t at text_is)

-- ---- the empty field

module _ (form m : Form) (f : form ≡ m) (sound : List ℕ → Bool) (p : List ℕ) (t r : Bool) (e : t ≡ is_textual form) where
  -- two quotes for text
  pub empty_text : t ≡ true → r ≡ goes_on sound p (34 ∷ 34 ∷ []) → r ≡ goes_on sound p (empty_of m)
  empty_text h q = rw (← f, sym e ∙ h) q

  -- no bytes for the rest
  pub empty_bare : t ≡ false → r ≡ sound p → r ≡ goes_on sound p (empty_of m)
  unfolding goes_on
  empty_bare h q = rw (← f, sym e ∙ h) q

pub ruleset emptied = (rules, not-true, not-false, empty_text, empty_bare)

-- ---- the samples of a form, in the arm of that form

module _ (sound : List ℕ → Bool) (p : List ℕ) (form : Code) (m : Form) (i : meant form ≡ m) (arm : Code) (f : form ≡ arm) where
  -- all of them at once
  pub arm_all : (r : Bool) (ss : List (List ℕ)) → r ≡ begins sound ss p → samples (meant arm) ≡ ss → r ≡ begins sound (samples m) p
  arm_all r ss e a = rw (← i, f, a) e

  -- one alone
  pub arm_one : (r : Bool) (s : List ℕ) → r ≡ goes_on sound p s → samples (meant arm) ≡ s ∷ [] → r ≡ begins sound (samples m) p
  arm_one r s e a = arm_all r (s ∷ []) (begins_last sound p s r e) a

  -- the first, whatever follows it
  pub arm_first : (b : Bool) (s : List ℕ) → b ≡ goes_on sound p s → b ≡ true → samples (meant arm) ≡ s ∷ drop 1 (samples (meant arm)) → true ≡ begins sound (samples m) p
  unfolding begins
  arm_first b s e t a = arm_all true (s ∷ drop 1 (samples (meant arm))) (rw (sym e ∙ t)) a

  -- the second of two
  pub arm_second : (b r : Bool) (s u : List ℕ) → b ≡ goes_on sound p s → b ≡ false → r ≡ goes_on sound p u → samples (meant arm) ≡ s ∷ u ∷ [] → r ≡ begins sound (samples m) p
  unfolding begins
  arm_second b r s u e t q a = arm_all r (s ∷ u ∷ []) (rw (sym e ∙ t) (q ∙ sym (or-false (goes_on sound p u)))) a

-- the sample of a number with a point has room
pub decimal_room : (row : ℕ) (form : Code) (w d : ℕ) → meant form ≡ form_decoded row → form ≡ Decimal w d → 2 + d ≤ most_of_any
decimal_room row form w d m f = omega (arith, wide_decimal row form m w d f)

pub ruleset filling = (rules, not-true, not-false, quoted_told, arm_all, arm_one, arm_first, arm_second, decimal_room)
