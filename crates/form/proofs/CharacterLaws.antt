-- The characters of a text, one after another, as the code counts them.
use mathlib.Core.Path.{◌≡◌, refl, sym, ap, ◌∙◌, subst}
use mathlib.Core.Bool.{Bool, true, false, ◌&&◌, ◌||◌, and-true, and-false, and_assoc}
use mathlib.Core.List.{List, [], ◌∷◌}
use Prim.Native.Nat.{ℕ, zero, suc, ◌+◌, ◌-◌, ◌≤◌, ◌<◌}
use native.Mathlib.Omega.{arith}
use borrow.Author.Rules.{rules}
use borrow.Author.Tests.{not-true, not-false, le-leb, lt-leb, lt-ltb, le-ltb, ne_eqb}
use lib.Dec.{T, leb, ltb, eqb, leb→le, le→leb, ltb→lt, lt→ltb, eqb-suc-zero, leb-zero, leb-suc-zero, leb-suc-suc, eqb→eq}
use lib.ListN.{length, get_or, take, drop, length-drop}
use lib.Seq.{take_all}
use Rattle.base.specs.Lists.{all, pick}
use Rattle.base.specs.Tests.{and_l, and_r, same_test, T_true}
use Rattle.std.specs.Prelude.{Option, Some, None, unwrap_or, is_some}
use Rattle.std.specs.Bool.{then_some}
use Rattle.base.specs.ListLaws.{all_map}
use Rattle.meaning.specs.Characters.{Range, ◌to◌, is_in, tail, characters, starts, follows, at_most}
use Rattle.meaning.specs.Forms.{is_text_byte, by_characters}
use Rattle.laws.specs.Ascii.{is_ascii, ascii_starts, ascii_follows, ascii_most}
use Rattle.form.specs.Characters.{is_ascii_text, in_first, in_each, character_length}
use Rattle.form.proofs.FirstByteLaws.{low_ascii, beyond}

-- ---- a text of ASCII

-- it is ASCII
text_ascii : (x : ℕ) → T (is_ascii_text x) → T (is_ascii x)
unfolding is_ascii_text is_ascii
text_ascii x t = le→leb x 127 (omega (arith, ltb→lt x 127 (and_r (is_text_byte x) (ltb x 127) t)))

-- so its bytes are its characters, and they alone count
pub ascii_width : (w : ℕ) (t : List ℕ) → all is_ascii_text t ≡ true → by_characters w t ≡ leb (length t) w
unfolding by_characters is_ascii_text
ascii_width w t e =
    let h : T (all is_ascii_text t) = subst T (sym e) tt in
    rw (T_true (all is_text_byte t) (all_map is_ascii_text is_text_byte (λ x c. and_l (is_text_byte x) (ltb x 127) c) t h))
    (ascii_most w t (all_map is_ascii_text is_ascii text_ascii t h))

-- ---- a character of more than one byte

-- two tests exchanged
swap : (a b c : Bool) → (a && (b && c)) ≡ (b && (a && c))
swap true b c = refl
swap false b c = sym (and-false b)

-- these ranges are tails
are_tails : List Range → Bool
are_tails [] = true
are_tails (a to b ∷ rs) = eqb a 0x80 && (eqb b 0xBF && are_tails rs)

-- a range of bytes that are no ASCII
is_high : Range → Bool
is_high (a to b) = leb 0x80 a

-- ranges of such, in which all after the first are tails
wanted : List Range → Bool
wanted rs = all is_high rs && are_tails (drop 1 rs)

-- such ranges follow whatever begins one of these rows
follows_wanted : (rows : List (List Range)) (x : ℕ) → T (all (λ row. wanted (drop 1 row)) rows) → T (wanted (follows rows x))
unfolding follows wanted are_tails
follows_wanted [] x t = tt
follows_wanted ([] ∷ rows) x t = follows_wanted rows x t
follows_wanted ((r ∷ rs) ∷ rows) x t = go (is_in r x) (follows_wanted rows x (and_r (wanted rs) (all (λ row. wanted (drop 1 row)) rows) t))
  where
    go : (b : Bool) → T (wanted (follows rows x)) → T (wanted (pick b rs (follows rows x)))
    go true u = and_l (wanted rs) (all (λ row. wanted (drop 1 row)) rows) t
    go false u = u

-- as they do in the table
table_wanted : (x : ℕ) → T (wanted (follows characters x))
unfolding characters wanted is_high are_tails
table_wanted x = follows_wanted characters x tt

-- where each row has two ranges or more, something follows
follows_some : (rows : List (List Range)) (x : ℕ) → T (all (λ row. leb 2 (length row)) rows) → starts rows x ≡ leb 1 (length (follows rows x))
unfolding starts follows
follows_some [] x t = refl
follows_some ([] ∷ rows) x t = absurd t
follows_some ((r ∷ []) ∷ rows) x t = absurd t
follows_some ((r ∷ (s ∷ rs)) ∷ rows) x t = go (is_in r x) (follows_some rows x (and_r (leb 2 (length (r ∷ (s ∷ rs)))) (all (λ row. leb 2 (length row)) rows) t))
  where
    go : (b : Bool) → starts rows x ≡ leb 1 (length (follows rows x)) → (b || starts rows x) ≡ leb 1 (length (pick b (s ∷ rs) (follows rows x)))
    go true e = sym (le-leb 1 (suc (length rs)) (omega arith))
    go false e = e

module _ (x : ℕ) (h : 0x80 ≤ x) where
  -- as it does in the rows after that of ASCII, which a byte that is none looks past
  high_starts : starts characters x ≡ leb 1 (length (follows characters x))
  unfolding starts follows characters
  high_starts = rw (beyond 0 0x7F x (omega arith)) (follows_some (drop 1 characters) x tt)

  -- and it may stand in a text
  high_text : is_text_byte x ≡ true
  unfolding is_text_byte
  high_text = rw (le-leb 32 x (omega arith), ne_eqb x 34 (λ e. omega arith), ne_eqb x 127 (λ e. omega arith))

-- bytes that begin with a tail in each of so many ranges
each_tail : (rs : List Range) (u : List ℕ) → T (are_tails rs) → in_each rs u ≡ (leb (length rs) (length u) && all (is_in tail) (take (length rs) u))
unfolding in_each are_tails
each_tail [] u t = rw (leb-zero (length u))
each_tail (a to b ∷ rs) [] t = rw (leb-suc-zero (length rs))
each_tail (a to b ∷ rs) (y ∷ u) t =
    let e : a ≡ 0x80 = eqb→eq a 0x80 (and_l (eqb a 0x80) (eqb b 0xBF && are_tails rs) t) in
    let f = and_r (eqb a 0x80) (eqb b 0xBF && are_tails rs) t in
    let g : b ≡ 0xBF = eqb→eq b 0xBF (and_l (eqb b 0xBF) (are_tails rs) f) in
    rw (e, g, each_tail rs u (and_r (eqb b 0xBF) (are_tails rs) f), leb-suc-suc (length rs) (length u))
    (swap (is_in tail y) (leb (length rs) (length u)) (all (is_in tail) (take (length rs) u)))

-- so do they where the first of them is another range
each_after :
    (rs : List Range) (u : List ℕ) → T (wanted rs) → 1 ≤ length rs
    → in_each rs u ≡ (leb (length rs) (length u) && (in_first rs (get_or u 0 0) && all (is_in tail) (take (length rs - 1) (drop 1 u))))
unfolding in_each wanted in_first
each_after [] u t n = absurd (omega arith)
each_after (r ∷ rs) [] t n = rw (leb-suc-zero (length rs))
each_after (r ∷ rs) (y ∷ u) t n =
    let z : suc (length rs) - 1 ≡ length rs = omega arith in
    rw (z, each_tail rs u (and_r (all is_high (r ∷ rs)) (are_tails rs) t), leb-suc-suc (length rs) (length u))
    (swap (is_in r y) (leb (length rs) (length u)) (all (is_in tail) (take (length rs) u)))

-- ---- how many bytes the first character has

-- no bytes begin with none
pub length_empty : (t : List ℕ) → length t ≤ 0 → None ≡ character_length t
unfolding character_length
length_empty [] h = refl
length_empty (x ∷ t) h = absurd (omega arith)

-- a first byte x, and what follows it
module _ (t : List ℕ) (h : 0 < length t) (x : ℕ) (p : x ≡ get_or t 0 0) where
  abbrev wants : List Range
  wants = follows characters x

  -- ASCII is one byte
  pub length_ascii : x < 0x80 → then_some {T = ℕ} (is_text_byte x) 1 ≡ character_length t
  unfolding character_length in_each
  length_ascii l = rw p (go t h (rw p at l))
    where
      chosen : (b : Bool) → then_some {T = ℕ} b 1 ≡ pick b (Some 1) None
      chosen true = refl
      chosen false = refl

      go : (t : List ℕ) → 0 < length t → get_or t 0 0 < 0x80 → then_some {T = ℕ} (is_text_byte (get_or t 0 0)) 1 ≡ character_length t
      go [] h l = absurd (omega arith)
      go (x ∷ u) h l = let a = low_ascii x l in rw (ascii_follows x a, ascii_starts x a, and-true (is_text_byte x)) (chosen (is_text_byte x))

  module _ (l : 0x80 ≤ x) (n : ℕ) (q : n ≡ length wants) where
    -- nothing begins so
    pub length_none : n ≡ 0 → None ≡ character_length t
    unfolding character_length
    length_none e = go t (rw p at l) (rw p at (sym q ∙ e))
      where
        go : (t : List ℕ) → 0x80 ≤ get_or t 0 0 → length (follows characters (get_or t 0 0)) ≡ 0 → None ≡ character_length t
        go [] l z = refl
        go (x ∷ u) l z = rw (high_starts x l, z, and-false (is_text_byte x))

    module _ (m : 0 < n) where
      -- the second byte is as it is wanted, and tails come after it
      length_high :
          character_length t ≡ pick (ltb n (length t) && (in_first wants (get_or t 1 0) && all (is_in tail) (take (n + 1 - 2) (drop 2 t)))) (Some (n + 1)) None
      unfolding character_length
      length_high = rw p (go t h (rw p at l) n (rw p at q) m)
        where
          go : (t : List ℕ) → 0 < length t → 0x80 ≤ get_or t 0 0 → (n : ℕ) → n ≡ length (follows characters (get_or t 0 0)) → 0 < n
              → character_length t
              ≡ pick (ltb n (length t) && (in_first (follows characters (get_or t 0 0)) (get_or t 1 0) && all (is_in tail) (take (n + 1 - 2) (drop 2 t)))) (Some (n + 1)) None
          go [] h l n q m = absurd (omega arith)
          go (x ∷ u) h l n q m =
              let z : n + 1 - 2 ≡ n - 1 = omega arith in
              let y : n + 1 ≡ suc n = omega arith in
              let c = follows characters x in
              let v : leb (length c) (length u) ≡ ltb (length c) (suc (length u)) = same_test (leb (length c) (length u)) (ltb (length c) (suc (length u))) (λ k. lt→ltb (length c) (suc (length u)) (omega (arith, leb→le (length c) (length u) k))) (λ k. le→leb (length c) (length u) (omega (arith, ltb→lt (length c) (suc (length u)) k))) in
              rw (z, y, q, high_text x l, high_starts x l, le-leb 1 (length c) (omega (arith, q)), each_after c u (table_wanted x) (omega (arith, q)), v)

      -- the bytes end before it does
      pub length_cut : length t ≤ n → None ≡ character_length t
      length_cut e = rw (length_high, le-ltb n (length t) e)

      module _ (k : n < length t) (c : Bool) (r : c ≡ in_first wants (get_or t 1 0)) where
        -- the second byte is another
        pub length_second : c ≡ false → None ≡ character_length t
        length_second e = rw (length_high, lt-ltb n (length t) k, sym r ∙ e)

        module _ (e : c ≡ true) (d : Bool) (s : d ≡ all (is_in tail) (take (n + 1 - 2) (drop 2 t))) where
          -- one of those after it is no tail
          pub length_third : d ≡ false → None ≡ character_length t
          length_third f = rw (length_high, lt-ltb n (length t) k, sym r ∙ e, sym s ∙ f)

          -- the character is whole
          pub length_whole : d ≡ true → Some (n + 1) ≡ character_length t
          length_whole f = rw (length_high, lt-ltb n (length t) k, sym r ∙ e, sym s ∙ f)

pub ruleset character = (rules, not-true, not-false, length_empty, length_ascii, length_none, length_cut, length_second, length_third, length_whole)

-- ---- one character after another

-- after what is wanted come the other characters
at_most_each : (w : ℕ) (rs : List Range) (u : List ℕ) → at_most w rs u ≡ (in_each rs u && at_most w [] (drop (length rs) u))
unfolding at_most in_each
at_most_each w [] u = refl
at_most_each w (r ∷ rs) [] = refl
at_most_each w (r ∷ rs) (x ∷ u) = rw (at_most_each w rs u) (sym (and_assoc (is_in r x) (in_each rs u) (at_most w [] (drop (length rs) u))))

-- bytes that are no ASCII may stand in a text
high_in : (r : Range) (x : ℕ) → T (is_high r) → T (is_in r x) → is_text_byte x ≡ true
unfolding is_high is_in
high_in (a to b) x t i = high_text x (omega (arith, leb→le 0x80 a t, leb→le a x (and_l (leb a x) (leb x b) i)))

text_each : (rs : List Range) (u : List ℕ) → T (all is_high rs) → T (in_each rs u) → all is_text_byte u ≡ all is_text_byte (drop (length rs) u)
unfolding in_each
text_each [] u t i = refl
text_each (r ∷ rs) [] t i = absurd i
text_each (r ∷ rs) (x ∷ u) t i =
    rw (high_in r x (and_l (is_high r) (all is_high rs) t) (and_l (is_in r x) (in_each rs u) i))
    (text_each rs u (and_r (is_high r) (all is_high rs) t) (and_r (is_in r x) (in_each rs u) i))

-- the ranges are not more than the bytes
each_short : (rs : List Range) (u : List ℕ) → T (in_each rs u) → length rs ≤ length u
unfolding in_each
each_short [] u t = omega arith
each_short (r ∷ rs) [] t = absurd t
each_short (r ∷ rs) (x ∷ u) t = omega (arith, each_short rs u (and_r (is_in r x) (in_each rs u) t))

-- a character of a text in front
abbrev stands : ℕ → List ℕ → Bool
stands x u = is_text_byte x && (starts characters x && in_each (follows characters x) u)

-- a text of one character more
one_more : (w x : ℕ) (u : List ℕ) → by_characters (suc w) (x ∷ u) ≡ (stands x u && by_characters w (drop (length (follows characters x)) u))
unfolding by_characters at_most wanted
one_more w x u =
    rw (at_most_each w (follows characters x) u)
    (go (is_text_byte x) (starts characters x) (in_each (follows characters x) u)
    (text_each (follows characters x) u (and_l (all is_high (follows characters x)) (are_tails (drop 1 (follows characters x))) (table_wanted x))))
  where
    k : ℕ
    k = length (follows characters x)

    go : (a b c : Bool) → (T c → all is_text_byte u ≡ all is_text_byte (drop k u))
        → ((a && all is_text_byte u) && (b && (c && at_most w [] (drop k u)))) ≡ ((a && (b && c)) && (all is_text_byte (drop k u) && at_most w [] (drop k u)))
    go false b c e = refl
    go true false c e = and-false (all is_text_byte u)
    go true true false e = and-false (all is_text_byte u)
    go true true true e = rw (e tt)

-- a value is not the lack of one, and is itself
some_none : (a : ℕ) → Some a ≡ None → ⊥
some_none a e = subst (λ o. T (is_some o)) e tt

some_same : (a b : ℕ) → Some a ≡ Some b → a ≡ b
some_same a b e = ap (λ (o : Option ℕ). unwrap_or o 0) e

-- no character stands in front: a text only where nothing does
pub next_none : (w : ℕ) (r : List ℕ) → character_length r ≡ None → eqb (length r) 0 ≡ by_characters w r
unfolding by_characters at_most character_length
next_none w [] e = refl
next_none zero (x ∷ u) e = eqb-suc-zero (length u) ∙ sym (and-false (all is_text_byte (x ∷ u)))
next_none (suc w) (x ∷ u) e = eqb-suc-zero (length u) ∙ sym (one_more w x u ∙ ap (λ b. b && by_characters w (drop (length (follows characters x)) u)) (go (stands x u) e))
  where
    go : (b : Bool) → pick b (Some (suc (length (follows characters x)))) None ≡ None → b ≡ false
    go true e = absurd (some_none _ e)
    go false e = refl

module _ (r : List ℕ) (n : ℕ) (e : character_length r ≡ Some n) where
  -- a character stands in front, but none may
  pub next_full : false ≡ by_characters 0 r
  unfolding by_characters at_most character_length
  next_full = go r e
    where
      go : (r : List ℕ) → character_length r ≡ Some n → false ≡ by_characters 0 r
      go [] e = absurd (some_none n (sym e))
      go (x ∷ u) e = sym (and-false (all is_text_byte (x ∷ u)))

  -- one may: what is after it decides
  pub next_more : (w : ℕ) → by_characters (suc w) r ≡ by_characters w (drop n r)
  unfolding character_length
  next_more w = go r e
    where
      go : (r : List ℕ) → character_length r ≡ Some n → by_characters (suc w) r ≡ by_characters w (drop n r)
      go [] e = absurd (some_none n (sym e))
      go (x ∷ u) e = by_test (stands x u) (one_more w x u) e
        where
          k : ℕ
          k = length (follows characters x)

          by_test : (b : Bool) → by_characters (suc w) (x ∷ u) ≡ (b && by_characters w (drop k u)) → pick b (Some (suc k)) None ≡ Some n
              → by_characters (suc w) (x ∷ u) ≡ by_characters w (drop n (x ∷ u))
          by_test true o e = rw (← some_same (suc k) n e) o
          by_test false o e = absurd (some_none n (sym e))

  -- it is not longer than the bytes
  pub next_short : (1 ≤ n) × (n ≤ length r)
  unfolding character_length
  next_short = go r e
    where
      go : (r : List ℕ) → character_length r ≡ Some n → (1 ≤ n) × (n ≤ length r)
      go [] e = absurd (some_none n (sym e))
      go (x ∷ u) e = by_test (stands x u) refl e
        where
          by_test : (b : Bool) → stands x u ≡ b → pick b (Some (suc (length (follows characters x)))) None ≡ Some n → (1 ≤ n) × (n ≤ suc (length u))
          by_test true q e =
              let s : T (stands x u) = subst T (sym q) tt in
              let i = and_r (starts characters x) (in_each (follows characters x) u) (and_r (is_text_byte x) (starts characters x && in_each (follows characters x) u) s) in
              let z = some_same _ n e in
              (omega arith, omega (arith, each_short (follows characters x) u i))
          by_test false q e = absurd (some_none n (sym e))

-- the loop: with so many characters left, what is left decides
module _ (t r : List ℕ) (w left : ℕ) (v : by_characters left r ≡ by_characters w t) where
  -- no character stands in front
  pub left_none : character_length r ≡ None → eqb (length r) 0 ≡ by_characters w t
  left_none e = next_none left r e ∙ v

  module _ (n : ℕ) (e : character_length r ≡ Some n) where
    -- one too many
    pub left_wide : left ≡ 0 → false ≡ by_characters w t
    left_wide z = next_full r n e ∙ ap (λ k. by_characters k r) (sym z) ∙ v

    -- one more, of n bytes
    pub left_within : n ≤ length r
    left_within = (next_short r n e).1

    whole : take (length r - n) (drop n r) ≡ drop n r
    whole = take_all (length r - n) (drop n r) (rw (length-drop n r) (omega arith))

    pub left_less : length (take (length r - n) (drop n r)) < length r
    left_less = rw (whole, length-drop n r) (omega (arith, (next_short r n e).0, (next_short r n e).1))

    pub left_more : (left ≡ 0 → ⊥) → by_characters (left - 1) (take (length r - n) (drop n r)) ≡ by_characters w t
    left_more k = let z : suc (left - 1) ≡ left = omega arith in rw (whole, ← next_more r n e (left - 1), z) v

pub ruleset counting = (rules, left_none, left_wide, left_within, left_less, left_more)
