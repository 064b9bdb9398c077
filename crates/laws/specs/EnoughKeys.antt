-- Paper 02, request 01: whatever begins a key goes on with the end of the sample.
use Rattle.std.specs.Prelude.{◌≡◌, refl, Bool, false, ◌&&◌, eqb, length, replicate}
use Rattle.std.proofs.Common.{ap}
use Rattle.std.proofs.Math.Bool.{true}
use mathlib.Core.List.{List, [], ◌∷◌, ◌++◌}
use Prim.Native.Nat.{ℕ, suc}
use Rattle.std.proofs.Math.Dec.{T, eqb_refl, eqb→eq}
use Rattle.std.proofs.Math.ListN.{drop, get_or}
use Rattle.std.proofs.Math.Facts.{yes_eqb}
use Rattle.base.specs.Lists.{all, same, part, bytes}
use Rattle.base.specs.Tests.{and_in, and_l, and_r}
use Rattle.meaning.specs.Forms.{key_text, is_digit, is_digits, quoted, inside, TextRule, is_text, is_key}
use Rattle.meaning.specs.Place.{samples}
use Rattle.laws.specs.PlaceLaws.{begins_first, Enough}
use Rattle.laws.specs.EnoughNumbers.{noughts}
use Rattle.laws.specs.EnoughDates.{spell, spelled}
use Rattle.laws.specs.ContentLaws.{text_in_lem, text_quoted, text_content, Ruled}

-- ---- a test for each byte

-- as many bytes as tests, each passing its own
fits : List (ℕ → Bool) → List ℕ → Bool
fits [] [] = true
fits [] (x ∷ f) = false
fits (t ∷ ts) [] = false
fits (t ∷ ts) (x ∷ f) = t x && fits ts f

-- what begins bytes that fit goes on with what is left of others that do
fits_fill : (ts : List (ℕ → Bool)) (p r s : List ℕ) → T (fits ts (p ++ r)) → T (fits ts s) → T (fits ts (p ++ drop (length p) s))
unfolding fits
fits_fill ts [] r s t u = u
fits_fill [] (x ∷ p) r s t u = absurd t
fits_fill (c ∷ ts) (x ∷ p) r [] t u = absurd u
fits_fill (c ∷ ts) (x ∷ p) r (y ∷ s) t u =
    and_in (c x) (fits ts (p ++ drop (length p) s)) (and_l (c x) (fits ts (p ++ r)) t)
    (fits_fill ts p r s (and_r (c x) (fits ts (p ++ r)) t) (and_r (c y) (fits ts s) u))

-- so many digits, then the rest
fits_digits : (l : List ℕ) (ts : List (ℕ → Bool)) (g : List ℕ) → T (all is_digit l) → T (fits ts g) → T (fits (replicate (length l) is_digit ++ ts) (l ++ g))
unfolding fits
fits_digits [] ts g d t = t
fits_digits (x ∷ l) ts g d t = and_in (is_digit x) _ (and_l (is_digit x) (all is_digit l) d) (fits_digits l ts g (and_r (is_digit x) (all is_digit l) d) t)

-- and back
digits_fits : (l : List ℕ) (ts : List (ℕ → Bool)) (g : List ℕ) → T (fits (replicate (length l) is_digit ++ ts) (l ++ g)) → T (all is_digit l) × T (fits ts g)
unfolding fits
digits_fits [] ts g t = (tt, t)
digits_fits (x ∷ l) ts g t =
    let h = digits_fits l ts g (and_r (is_digit x) (fits (replicate (length l) is_digit ++ ts) (l ++ g)) t) in
    (and_in (is_digit x) (all is_digit l) (and_l (is_digit x) (fits (replicate (length l) is_digit ++ ts) (l ++ g)) t) h.0, h.1)

-- they are as many
fits_length : (ts : List (ℕ → Bool)) (f : List ℕ) → T (fits ts f) → length f ≡ length ts
unfolding fits
fits_length [] [] t = refl
fits_length [] (x ∷ f) t = absurd t
fits_length (c ∷ ts) [] t = absurd t
fits_length (c ∷ ts) (x ∷ f) t = ap suc (fits_length ts f (and_r (c x) (fits ts f) t))

-- ---- a key

-- this byte
is : ℕ → ℕ → Bool
is x y = eqb y x

-- the tests of a key's bytes from the letter on
abbrev shape_from : ℕ → List (ℕ → Bool)
shape_from letter = is letter ∷ (replicate 9 is_digit ++ (is 34 ∷ []))

-- of all sixteen
key_shape : ℕ → List (ℕ → Bool)
key_shape letter = is 34 ∷ (replicate 4 is_digit ++ shape_from letter)

-- the sample
key_sample : ℕ → List ℕ
key_sample letter = quoted (bytes "0000" ++ (letter ∷ bytes "000000000"))

-- its bytes pass them
sample_fits : (letter : ℕ) → T (fits (key_shape letter) (key_sample letter))
unfolding fits key_shape is key_sample bytes is_digit
sample_fits letter = and_in (eqb letter letter) true (eqb_refl letter) tt

module _ (rule : TextRule) where
  -- this letter may stand in a key with noughts
  unfoldable pub key_letter : ℕ → Bool
  key_letter letter = rule 14 (replicate 4 48 ++ (letter ∷ replicate 9 48))

  -- every key is sixteen bytes
  key_length : (letter : ℕ) (f : List ℕ) → T (is_key rule letter f) → length f ≡ 16
  unfolding is_key
  key_length letter f t =
      let digits = is_digits 4 (part f 1 5) && (same (part f 5 6) (letter ∷ []) && is_digits 9 (part f 6 15)) in
      eqb→eq (length f) 16 (and_l (eqb (length f) 16) digits (and_r (is_text rule 14 f) (eqb (length f) 16 && digits) t))

  module _ (ruled : Ruled rule) where
    -- ---- a key spelled out

    module _ (letter a b c d e f g h i j k m n : ℕ) where
      abbrev four : List ℕ
      four = a ∷ b ∷ c ∷ d ∷ []

      abbrev nine : List ℕ
      nine = e ∷ f ∷ g ∷ h ∷ i ∷ j ∷ k ∷ m ∷ n ∷ []

      -- its bytes from the letter on
      abbrev last : ℕ → ℕ → List ℕ
      last l z = l ∷ (nine ++ (z ∷ []))

      -- all sixteen
      abbrev key : ℕ → ℕ → ℕ → List ℕ
      key q l z = q ∷ (four ++ last l z)

      -- four digits, the letter, nine digits, in quotes, are a key
      key_in : T (key_letter letter) → T (all is_digit four) → T (all is_digit nine) → T (is_key rule letter (quoted (four ++ (letter ∷ nine))))
      unfolding key_letter is_key part is_digits same
      key_in c a4 a9 =
          let t : T (rule 14 (four ++ (letter ∷ nine))) = ruled.keyed letter (replicate 4 48) (replicate 9 48) four nine (noughts 4) (noughts 9) a4 a9 c in
          and_in (is_text rule 14 (quoted (four ++ (letter ∷ nine)))) _ (text_in_lem rule 14 (four ++ (letter ∷ nine)) t)
          (and_in (all is_digit four) _ a4 (and_in (eqb letter letter && true) (all is_digit nine) (and_in (eqb letter letter) true (eqb_refl letter) tt) a9))

      -- so are sixteen bytes that fit
      key_fit : (q l z : ℕ) → T (key_letter letter) → T (fits (key_shape letter) (key q l z)) → T (is_key rule letter (key q l z))
      unfolding key_shape is fits
      key_fit q l z c t =
          let rest = fits (replicate 9 is_digit ++ (is 34 ∷ [])) (nine ++ (z ∷ [])) in
          let u = digits_fits four (shape_from letter) (last l z) (and_r (eqb q 34) (fits (replicate 4 is_digit ++ shape_from letter) (four ++ last l z)) t) in
          let v = digits_fits nine (is 34 ∷ []) (z ∷ []) (and_r (eqb l letter) rest u.1) in
          rw (eqb→eq q 34 (and_l (eqb q 34) _ t), eqb→eq l letter (and_l (eqb l letter) rest u.1), eqb→eq z 34 (and_l (eqb z 34) true v.1))
          (key_in c u.0 v.0)

      -- and those of a key fit
      key_out : (q l z : ℕ) → T (is_key rule letter (key q l z)) → T (key_letter letter) × T (fits (key_shape letter) (key q l z))
      unfolding key_letter key_shape is fits is_key inside part is_digits same
      key_out q l z t =
          let F : List ℕ = key q l z in
          let within = all is_digit four && ((eqb l letter && true) && all is_digit nine) in
          let w = and_l (is_text rule 14 F) within t in
          let x = and_r (is_text rule 14 F) within t in
          let y = and_r (all is_digit four) ((eqb l letter && true) && all is_digit nine) x in
          let eq : F ≡ quoted (inside F) = text_quoted rule 14 F w in
          let d4 : T (all is_digit four) = and_l (all is_digit four) ((eqb l letter && true) && all is_digit nine) x in
          let d9 : T (all is_digit nine) = and_r (eqb l letter && true) (all is_digit nine) y in
          let le : T (eqb l letter) = and_l (eqb l letter) true (and_l (eqb l letter && true) (all is_digit nine) y) in (
            rw (eqb→eq l letter le) at (ruled.keyed l four nine (replicate 4 48) (replicate 9 48) d4 d9 (noughts 4) (noughts 9) (text_content rule 14 F w)),
            and_in (eqb q 34) _ (yes_eqb (ap (λ v. get_or v 0 0) eq))
                (fits_digits four (shape_from letter) (last l z) d4
                (and_in (eqb l letter) (fits (replicate 9 is_digit ++ (is 34 ∷ [])) (nine ++ (z ∷ []))) le
                (fits_digits nine (is 34 ∷ []) (z ∷ []) d9 (and_in (eqb z 34) true (yes_eqb (ap (λ v. get_or v 15 0) eq)) tt)))),
          )

    -- ---- any key

    -- a key is sixteen bytes that fit, with a letter that may stand there
    key_fits : (letter : ℕ) (f : List ℕ) → T (is_key rule letter f) → T (key_letter letter) × T (fits (key_shape letter) f)
    unfolding spell
    key_fits letter f t =
        let e = spelled 16 f (key_length letter f t) in
        let u : T (is_key rule letter (spell 16 f)) = rw e t in
        let v : T (key_letter letter) × T (fits (key_shape letter) (spell 16 f)) = key_out letter _ _ _ _ _ _ _ _ _ _ _ _ _ _ _ _ u in
        rw e at v

    -- and such bytes are a key
    fits_key : (letter : ℕ) (f : List ℕ) → T (key_letter letter) → T (fits (key_shape letter) f) → T (is_key rule letter f)
    unfolding spell key_shape
    fits_key letter f c t =
        let e = spelled 16 f (fits_length (key_shape letter) f t) in
        let u : T (fits (key_shape letter) (spell 16 f)) = rw e t in
        let v : T (is_key rule letter (spell 16 f)) = key_fit letter _ _ _ _ _ _ _ _ _ _ _ _ _ _ _ _ c u in
        rw e at v

    -- so the sample is enough
    pub enough_key : (letter : ℕ) → Enough (is_key rule letter) (samples (key_text letter))
    unfolding samples key_sample
    enough_key letter p r t =
        let k = key_fits letter (p ++ r) t in
        begins_first (is_key rule letter) p (key_sample letter) [] (length p)
        (fits_key letter (p ++ drop (length p) (key_sample letter)) k.0 (fits_fill (key_shape letter) p r (key_sample letter) k.1 (sample_fits letter)))

-- where one rule allows the letter as another does, its keys are the other's
pub key_carry :
    (one two : TextRule) → Ruled one → Ruled two → (letter : ℕ) → (T (key_letter one letter) → T (key_letter two letter)) → (f : List ℕ)
    → T (is_key one letter f) → T (is_key two letter f)
key_carry one two r s letter l f t =
    let k = key_fits one r letter f t in
    fits_key two s letter f (l k.0) k.1
