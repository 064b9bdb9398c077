-- Paper 02, request 02: the rule that counts characters is as the laws of places ask; and how many bytes its characters have.
use Rattle.std.specs.Prelude.{◌≡◌, refl, Bool, true, false, ◌&&◌, ◌||◌, List, [], ◌∷◌, ◌++◌, ℕ, zero, suc, ◌+◌, ◌*◌, ◌≤◌, T, leb, length}
use Rattle.std.proofs.Common.{arith, leb→le, le→leb}
use Rattle.base.specs.Lists.{all, pick}
use Rattle.base.specs.Tests.{and_in, and_l, and_r}
use Rattle.base.specs.ListLaws.{all_map, all_append, append_all}
use Rattle.meaning.specs.Characters.{Range, ◌to◌, is_in, characters, starts, follows, at_most}
use Rattle.meaning.specs.Forms.{is_digit, is_digits, is_text_byte, by_characters}
use Rattle.meaning.specs.Place.{begins, sample_characters}
use Rattle.meaning.specs.Computes.{computed}
use Rattle.laws.specs.Digits.{digit_high}
use Rattle.laws.specs.PlaceLaws.{begins_carry, Enough}
use Rattle.laws.specs.EnoughNumbers.{digits_length, digits_each}
use Rattle.laws.specs.ContentLaws.{Ruled, key_bytes, key_size}
use Rattle.laws.specs.Ascii.{is_ascii, ascii, digit_ascii, ascii_most, ascii_past}

-- what follows from a row, where the byte is in its first range, is so of the row that the byte begins
row_of :
    (X : List Range → Type 0) (p : List Range → Bool) (rows : List (List Range)) (x : ℕ) → T (all p rows)
    → ((r : Range) (rs : List Range) → T (p (r ∷ rs)) → T (is_in r x) → X rs) → T (starts rows x) → X (follows rows x)
unfolding starts follows
row_of X p [] x t f s = absurd s
row_of X p ([] ∷ rows) x t f s = row_of X p rows x (and_r (p []) (all p rows) t) f s
row_of X p ((r ∷ rs) ∷ rows) x t f s = go (is_in r x) refl (λ s. row_of X p rows x (and_r (p (r ∷ rs)) (all p rows) t) f s) s
  where
    go : (b : Bool) → is_in r x ≡ b → (T (starts rows x) → X (follows rows x)) → T (b || starts rows x) → X (pick b rs (follows rows x))
    go true e more s = f r rs (and_l (p (r ∷ rs)) (all p rows) t) (rw e tt)
    go false e more s = more s

-- ---- how many bytes

-- at most four a character
short_row : List Range → Bool
short_row row = leb (length row) 4

rows_short : T (all short_row characters)
unfolding short_row characters
rows_short = tt

pub most_bytes : (w : ℕ) (owed : List Range) (t : List ℕ) → T (at_most w owed t) → length t ≤ length owed + 4 * w
unfolding at_most short_row
most_bytes w [] [] t = omega arith
most_bytes w (r ∷ rs) [] t = absurd t
most_bytes w (r ∷ rs) (x ∷ u) t = omega (arith, most_bytes w rs u (and_r (is_in r x) (at_most w rs u) t))
most_bytes zero [] (x ∷ u) t = absurd t
most_bytes (suc w) [] (x ∷ u) t =
    let cs = follows characters x in
    let s = and_l (starts characters x) (at_most w cs u) t in
    let three = row_of (λ rs. length rs ≤ 3) short_row characters x rows_short (λ r rs k i. omega (arith, leb→le (length (r ∷ rs)) 4 k)) s in
    omega (arith, three, most_bytes w cs u (and_r (starts characters x) (at_most w cs u) t))

-- ---- whatever begins what may stand in a text goes on with the end of a sample character

-- what may stand in a text after what the character before still wants
text_from : ℕ → List Range → List ℕ → Bool
text_from w owed t = all is_text_byte t && at_most w owed t

-- what is wanted can be had by the end of a sample character
had : List Range → Bool
had owed = begins (text_from 0 owed) sample_characters []

-- and so can what is wanted after each byte of it
ends_had : List Range → Bool
ends_had [] = true
ends_had (r ∷ rs) = had rs && ends_had rs

rows_had : T (all ends_had characters)
unfolding computed ends_had had text_from
rows_had = tt

none_had : T (had [] && ends_had [])
unfolding computed ends_had had text_from
none_had = tt

-- a greater width takes more
wider : (w : ℕ) (owed : List Range) (t : List ℕ) → T (at_most 0 owed t) → T (at_most w owed t)
unfolding at_most
wider w [] [] t = t
wider w (r ∷ rs) [] t = absurd t
wider w (r ∷ rs) (x ∷ u) t = and_in (is_in r x) (at_most w rs u) (and_l (is_in r x) (at_most 0 rs u) t) (wider w rs u (and_r (is_in r x) (at_most 0 rs u) t))
wider w [] (x ∷ u) t = absurd t

-- one byte more
carried :
    (w v : ℕ) (owed owing : List Range) (step : Bool) (x : ℕ) (q : List ℕ) → T (is_text_byte x) → T step
    → ((t : List ℕ) → at_most w owed (x ∷ t) ≡ (step && at_most v owing t)) → T (begins (text_from v owing) sample_characters q) → T (begins (text_from w owed) sample_characters (x ∷ q))
unfolding text_from
carried w v owed owing step x q b s e t =
    begins_carry (text_from v owing) (text_from w owed) q (x ∷ q)
    (λ h k. and_in (is_text_byte x && all is_text_byte (q ++ h)) (at_most w owed (x ∷ (q ++ h)))
    (and_in (is_text_byte x) (all is_text_byte (q ++ h)) b (and_l (all is_text_byte (q ++ h)) (at_most v owing (q ++ h)) k))
    (rw (e (q ++ h)) (and_in step (at_most v owing (q ++ h)) s (and_r (all is_text_byte (q ++ h)) (at_most v owing (q ++ h)) k)))) sample_characters t

-- what begins at most w characters goes on with the end of a sample character, where what is wanted can be had
begun_goes :
    (w : ℕ) (owed : List Range) (q r : List ℕ) → T (had owed && ends_had owed) → T (all is_text_byte q) → T (at_most w owed (q ++ r))
    → T (begins (text_from w owed) sample_characters q)
unfolding text_from had ends_had at_most
begun_goes w owed [] r h b t =
    begins_carry (text_from 0 owed) (text_from w owed) [] []
    (λ e k. and_in (all is_text_byte e) (at_most w owed e) (and_l (all is_text_byte e) (at_most 0 owed e) k)
    (wider w owed e (and_r (all is_text_byte e) (at_most 0 owed e) k))) sample_characters (and_l (had owed) (ends_had owed) h)
begun_goes w (c ∷ cs) (x ∷ q) r h b t =
    carried w w (c ∷ cs) cs (is_in c x) x q (and_l (is_text_byte x) (all is_text_byte q) b) (and_l (is_in c x) (at_most w cs (q ++ r)) t) (λ t. refl)
    (begun_goes w cs q r (and_r (had (c ∷ cs)) (ends_had (c ∷ cs)) h) (and_r (is_text_byte x) (all is_text_byte q) b) (and_r (is_in c x) (at_most w cs (q ++ r)) t))
begun_goes zero [] (x ∷ q) r h b t = absurd t
begun_goes (suc w) [] (x ∷ q) r h b t =
    let cs = follows characters x in
    let s = and_l (starts characters x) (at_most w cs (q ++ r)) t in
    carried (suc w) w [] cs (starts characters x) x q (and_l (is_text_byte x) (all is_text_byte q) b) s (λ t. refl)
    (begun_goes w cs q r (row_of (λ rs. T (had rs && ends_had rs)) ends_had characters x rows_had (λ c rs k i. k) s) (and_r (is_text_byte x) (all is_text_byte q) b)
    (and_r (starts characters x) (at_most w cs (q ++ r)) t))

characters_goes : (w : ℕ) → Enough (by_characters w) sample_characters
unfolding by_characters text_from
characters_goes w q r t =
    let b = all is_text_byte (q ++ r) in
    let m = at_most w [] (q ++ r) in
    begun_goes w [] q r none_had (append_all is_text_byte q r (and_l b m t)).0 (and_r b m t)

-- ---- where something may stand, the letter a may

characters_one : (w x : ℕ) (u : List ℕ) → T (by_characters w (x ∷ u)) → T (by_characters w (97 ∷ []))
unfolding computed
characters_one zero x u t = absurd (and_r (all is_text_byte (x ∷ u)) false t)
characters_one (suc w) x u t = tt

-- ---- where a key may stand, it may with other digits

-- a row is of ASCII alone, or its second range is of other bytes
apart : List Range → Bool
apart [] = true
apart (a to b ∷ []) = leb b 127
apart (a to b ∷ (c to d ∷ rs)) = leb 128 c

rows_apart : T (all apart characters)
unfolding apart characters
rows_apart = tt

-- so a character that a digit follows at once is ASCII
alone : (x y w : ℕ) (u : List ℕ) → T (is_digit y) → T (at_most w [] (x ∷ (y ∷ u))) → T (is_ascii x)
unfolding at_most apart is_in is_ascii
alone x y zero u d t = absurd t
alone x y (suc w) u d t =
    let s = starts characters x in
    let m = at_most w (follows characters x) (y ∷ u) in
    row_of (λ rs. T (at_most w rs (y ∷ u)) → T (is_ascii x)) apart characters x rows_apart here (and_l s m t) (and_r s m t)
  where
    here : (r : Range) (rs : List Range) → T (apart (r ∷ rs)) → T (is_in r x) → T (at_most w rs (y ∷ u)) → T (is_ascii x)
    here (a to b) [] p i t = le→leb x 127 (omega (arith, leb→le b 127 p, leb→le x b (and_r (leb a x) (leb x b) i)))
    here (a to b) (c to e ∷ rs) p i t =
        absurd (omega (arith, leb→le 128 c p, digit_high y d, leb→le c y (and_l (leb c y) (leb y e) (and_l (leb c y && leb y e) (at_most w rs u) t))))

-- a letter between digits is
pub key_letter_lem : (letter : ℕ) (a b : List ℕ) → T (is_digits 4 a) → T (is_digits 9 b) → T (at_most 14 [] (a ++ (letter ∷ b))) → T (is_ascii letter)
key_letter_lem letter a [] da db t = absurd (omega (arith, digits_length 9 [] db))
key_letter_lem letter a (y ∷ b) da db t =
    let v = ascii_past 14 a (letter ∷ (y ∷ b)) (all_map is_digit is_ascii digit_ascii a (digits_each 4 a da)) t in
    alone letter y v.0 b (and_l (is_digit y) (all is_digit b) (digits_each 9 (y ∷ b) db)) v.2

-- and digits with such a letter are fourteen characters
key_characters : (letter : ℕ) (c d : List ℕ) → T (is_digits 4 c) → T (is_digits 9 d) → T (is_ascii letter) → T (at_most 14 [] (c ++ (letter ∷ d)))
key_characters letter c d dc dd l =
    let front : T (ascii c) = all_map is_digit is_ascii digit_ascii c (digits_each 4 c dc) in
    let back : T (ascii d) = all_map is_digit is_ascii digit_ascii d (digits_each 9 d dd) in
    rw (ascii_most 14 (c ++ (letter ∷ d)) (all_append is_ascii c (letter ∷ d) front (and_in (is_ascii letter) (ascii d) l back))) (key_size letter c d dc dd)

characters_keyed :
    (letter : ℕ) (a b c d : List ℕ) → T (is_digits 4 a) → T (is_digits 9 b) → T (is_digits 4 c) → T (is_digits 9 d)
    → T (by_characters 14 (a ++ (letter ∷ b))) → T (by_characters 14 (c ++ (letter ∷ d)))
unfolding by_characters
characters_keyed letter a b c d da db dc dd t =
    let e = all is_text_byte (a ++ (letter ∷ b)) in
    let m = at_most 14 [] (a ++ (letter ∷ b)) in
    and_in (all is_text_byte (c ++ (letter ∷ d))) (at_most 14 [] (c ++ (letter ∷ d))) (key_bytes letter a b c d dc dd (and_l e m t))
    (key_characters letter c d dc dd (key_letter_lem letter a b da db (and_r e m t)))

-- it is so
pub characters_ruled : Ruled by_characters
characters_ruled = record { goes = characters_goes; one = characters_one; keyed = characters_keyed }
