-- A key by the tests of the code: every byte of it is ASCII, so no walk for a text is needed.
use mathlib.Core.Path.{◌≡◌, refl, sym, ◌∙◌, subst}
use mathlib.Core.Bool.{Bool, true, false, not, ◌&&◌, and-false}
use mathlib.Core.List.{List, [], ◌∷◌, ◌++◌}
use Prim.Native.Nat.{ℕ, ◌-◌}
use native.Mathlib.Decide.{dec_le}
use native.Mathlib.Omega.{arith}
use borrow.Author.Tests.{eq-eqb}
use lib.Dec.{T, leb, ltb, eqb, leb→le, eqb→eq, lt→ltb}
use lib.ListN.{length, get_or}
use Rattle.base.specs.Lists.{all, same, part}
use Rattle.base.specs.Tests.{and_in, and_l, and_r, same_test, T_true}
use Rattle.base.specs.ListLaws.{all_map, all_append, append_all, same_eq}
use Rattle.meaning.specs.Characters.{at_most}
use Rattle.meaning.specs.Forms.{is_digit, is_digits, is_text_byte, quoted, inside, by_characters, is_text, is_key}
use Rattle.laws.specs.Digits.{digit_high}
use Rattle.laws.specs.ContentLaws.{digit_text, key_size}
use Rattle.laws.specs.EnoughNumbers.{digits_each}
use Rattle.laws.specs.EnoughDates.{spell, spelled}
use Rattle.laws.specs.Ascii.{is_ascii}
use Rattle.laws.specs.CharacterLaws.{key_letter_lem}
use Rattle.form.specs.Characters.{is_ascii_text}
use Rattle.form.proofs.CharacterLaws.{ascii_width}
use Rattle.form.proofs.TextLaws.{quotes}

-- ---- what stands between the quotes

-- a digit is ASCII of a text
digit_ascii_text : (x : ℕ) → T (is_digit x) → T (is_ascii_text x)
unfolding is_ascii_text
digit_ascii_text x t = and_in (is_text_byte x) (ltb x 127) (digit_text x t) (lt→ltb x 127 (omega (arith, digit_high x t)))

-- a byte of ASCII that may stand in a text is below DEL
below : (x : ℕ) → T (is_text_byte x) → T (is_ascii x) → T (ltb x 127)
unfolding is_text_byte is_ascii
below x s h =
    let d : T (not (eqb x 127)) = and_r (not (eqb x 34)) (not (eqb x 127)) (and_r (leb 32 x) (not (eqb x 34) && not (eqb x 127)) s) in
    elim (dec_le 127 x) [ yes k ↦ absurd (subst T (ne_true x (omega (arith, leb→le x 127 h))) d) | no k ↦ lt→ltb x 127 (omega arith) ]
  where
    ne_true : (x : ℕ) → x ≡ 127 → not (eqb x 127) ≡ false
    ne_true x e = rw (eq-eqb x 127 e)

-- four digits, a letter and nine digits may, just where the letter is ASCII of a text
between : (letter : ℕ) (a b : List ℕ) → T (is_digits 4 a) → T (is_digits 9 b) → by_characters 14 (a ++ (letter ∷ b)) ≡ is_ascii_text letter
unfolding by_characters is_ascii_text
between letter a b da db = same_test (by_characters 14 (a ++ (letter ∷ b))) (is_ascii_text letter) there back
  where
    t : List ℕ
    t = a ++ (letter ∷ b)

    there : T (by_characters 14 t) → T (is_ascii_text letter)
    there u =
        let s = and_l (is_text_byte letter) (all is_text_byte b) (append_all is_text_byte a (letter ∷ b) (and_l (all is_text_byte t) (at_most 14 [] t) u)).1 in
        and_in (is_text_byte letter) (ltb letter 127) s (below letter s (key_letter_lem letter a b da db (and_r (all is_text_byte t) (at_most 14 [] t) u)))

    each : T (is_ascii_text letter) → T (all is_ascii_text t)
    each u =
        all_append is_ascii_text a (letter ∷ b) (all_map is_digit is_ascii_text digit_ascii_text a (digits_each 4 a da))
        (and_in (is_ascii_text letter) (all is_ascii_text b) u (all_map is_digit is_ascii_text digit_ascii_text b (digits_each 9 b db)))

    back : T (is_ascii_text letter) → T (by_characters 14 t)
    back u = subst T (sym (ascii_width 14 t (T_true (all is_ascii_text t) (each u)))) (key_size letter a b da db)

-- ---- the tests

-- of a letter and a field
unfoldable pub key_tests : ℕ → List ℕ → Bool
key_tests letter f =
    is_ascii_text letter
    && (eqb (length f) 16
    && (eqb (get_or f 0 0) 34
    && (eqb (get_or f 15 0) 34 && (is_digits 4 (part f 1 5) && (same (part f 5 6) (letter ∷ []) && is_digits 9 (part f 6 15))))))

-- sixteen bytes without the first and the last
inside_parts : (f : List ℕ) → length f ≡ 16 → inside f ≡ part f 1 5 ++ (part f 5 6 ++ part f 6 15)
inside_parts f e = subst (λ g. inside g ≡ part g 1 5 ++ (part g 5 6 ++ part g 6 15)) (spelled 16 f e) spelt
  where
    spelt : inside (spell 16 f) ≡ part (spell 16 f) 1 5 ++ (part (spell 16 f) 5 6 ++ part (spell 16 f) 6 15)
    spelt = unfold inside part spell in refl

-- the same tests in another order, where two of them say the same once the others hold
reorder :
    (q r c a d l e : Bool) → (T d → T l → T e → c ≡ a)
    → (((q && r) && c) && (d && (l && e))) ≡ (a && (q && (r && (d && (l && e)))))
reorder false r c a d l e f = sym (and-false a)
reorder true false c a d l e f = sym (and-false a)
reorder true true c a false l e f = and-false c ∙ sym (and-false a)
reorder true true c a true false e f = and-false c ∙ sym (and-false a)
reorder true true c a true true false f = and-false c ∙ sym (and-false a)
reorder true true c a true true true f = rw (f tt tt tt)

module _ (letter : ℕ) (f : List ℕ) where
  -- what stands between the quotes of sixteen bytes
  within :
      length f ≡ 16 → T (is_digits 4 (part f 1 5)) → T (same (part f 5 6) (letter ∷ [])) → T (is_digits 9 (part f 6 15))
      → by_characters 14 (inside f) ≡ is_ascii_text letter
  within e d l n = rw (inside_parts f e, same_eq (part f 5 6) (letter ∷ []) l) (between letter (part f 1 5) (part f 6 15) d n)

  -- a key is what passes the tests
  pub key_tests_lem : (r : Bool) → r ≡ key_tests letter f → r ≡ is_key by_characters letter f
  unfolding is_key is_text key_tests
  key_tests_lem r q = q ∙ sym (go (eqb (length f) 16) refl)
    where
      last : Bool
      last = is_digits 4 (part f 1 5) && (same (part f 5 6) (letter ∷ []) && is_digits 9 (part f 6 15))

      go : (b : Bool) → eqb (length f) 16 ≡ b
          → ((same f (quoted (inside f)) && by_characters 14 (inside f)) && (b && last))
          ≡ (is_ascii_text letter && (b && (eqb (get_or f 0 0) 34 && (eqb (get_or f 15 0) 34 && last))))
      go false e = and-false (same f (quoted (inside f)) && by_characters 14 (inside f)) ∙ sym (and-false (is_ascii_text letter))
      go true e =
          let n : length f ≡ 16 = eqb→eq (length f) 16 (subst T (sym e) tt) in
          let z : length f - 1 ≡ 15 = omega arith in
          rw (quotes f (omega arith), z)
          (reorder (eqb (get_or f 0 0) 34) (eqb (get_or f 15 0) 34) (by_characters 14 (inside f)) (is_ascii_text letter)
          (is_digits 4 (part f 1 5)) (same (part f 5 6) (letter ∷ [])) (is_digits 9 (part f 6 15)) (within n))
