-- RFC 3629's table, as the code asks it: how many bytes follow a character's first byte, and which may come second.
use mathlib.Core.Path.{◌≡◌, refl, ◌∙◌}
use mathlib.Core.Bool.{Bool, true, false, and-false}
use mathlib.Core.List.{List, [], ◌∷◌, ◌++◌}
use Prim.Native.Nat.{ℕ, ◌≤◌, ◌<◌}
use native.Mathlib.Decide.{dec_le}
use native.Mathlib.Omega.{arith}
use borrow.Author.Rules.{rules}
use borrow.Author.Tests.{le-leb, lt-leb}
use lib.Dec.{T, leb, ltb, leb→le, le→leb, ltb→lt}
use lib.ListN.{length, take, drop}
use Rattle.base.specs.Lists.{all}
use Rattle.base.specs.Tests.{and_l, and_r}
use Rattle.meaning.specs.Characters.{Range, ◌to◌, is_in, tail, characters, follows}
use Rattle.laws.specs.Ascii.{is_ascii, ascii_follows}
use Rattle.form.specs.Characters.{in_first}

-- ---- a byte and a range

pub low_ascii : (x : ℕ) → x < 0x80 → T (is_ascii x)
unfolding is_ascii
low_ascii x h = le→leb x 127 (omega arith)

within : (a b x : ℕ) → a ≤ x → x ≤ b → is_in (a to b) x ≡ true
unfolding is_in
within a b x l h = rw (le-leb a x l, le-leb x b h)

below : (a b x : ℕ) → x < a → is_in (a to b) x ≡ false
unfolding is_in
below a b x h = rw (lt-leb a x h)

pub beyond : (a b x : ℕ) → b < x → is_in (a to b) x ≡ false
unfolding is_in
beyond a b x h = rw (lt-leb x b h) (and-false (leb a x))

-- ---- what follows a first byte

-- a row whose first range ends below n
ends_below : ℕ → List Range → Bool
ends_below n [] = true
ends_below n (a to b ∷ rs) = ltb b n

-- a row whose first range begins at n or above
begins_from : ℕ → List Range → Bool
begins_from n [] = true
begins_from n (a to b ∷ rs) = leb n a

module _ (x : ℕ) where
  -- a byte looks past the rows that end below it
  past : (n : ℕ) (rows rest : List (List Range)) → T (all (ends_below n) rows) → n ≤ x → follows (rows ++ rest) x ≡ follows rest x
  unfolding follows ends_below
  past n [] rest t h = refl
  past n ([] ∷ rows) rest t h = past n rows rest t h
  past n ((a to b ∷ rs) ∷ rows) rest t h =
      rw (beyond a b x (omega (arith, ltb→lt b n (and_l (ltb b n) (all (ends_below n) rows) t)))) (past n rows rest (and_r (ltb b n) (all (ends_below n) rows) t) h)

  -- so it finds the row that it begins
  in_row :
      (a b : ℕ) (rows : List (List Range)) (rs : List Range) (rest : List (List Range)) → T (all (ends_below a) rows) → a ≤ x → x ≤ b
      → follows (rows ++ ((a to b ∷ rs) ∷ rest)) x ≡ rs
  unfolding follows
  in_row a b rows rs rest t l h = past a rows ((a to b ∷ rs) ∷ rest) t l ∙ go
    where
      go : follows ((a to b ∷ rs) ∷ rest) x ≡ rs
      go = rw (within a b x l h)

  -- and none among rows that begin above it
  none_above : (n : ℕ) (rows : List (List Range)) → T (all (begins_from n) rows) → x < n → follows rows x ≡ []
  unfolding follows begins_from
  none_above n [] t h = refl
  none_above n ([] ∷ rows) t h = none_above n rows t h
  none_above n ((a to b ∷ rs) ∷ rows) t h =
      rw (below a b x (omega (arith, leb→le n a (and_l (leb n a) (all (begins_from n) rows) t)))) (none_above n rows (and_r (leb n a) (all (begins_from n) rows) t) h)

  -- nothing follows a byte that begins no row: a tail, and C0 and C1, which could begin only what is overlong
  follows_tail : 0x80 ≤ x → x < 0xC2 → follows characters x ≡ []
  unfolding characters ends_below begins_from
  follows_tail l h = past 0x80 (take 1 characters) (drop 1 characters) tt l ∙ none_above 0xC2 (drop 1 characters) tt h

  -- or F5 and above
  follows_above : 0xF5 ≤ x → follows characters x ≡ []
  unfolding characters follows ends_below
  follows_above l = past 0xF5 characters [] tt l

  -- UTF8-2
  follows_two : 0xC2 ≤ x → x < 0xE0 → follows characters x ≡ tail ∷ []
  unfolding characters ends_below
  follows_two l h = in_row 0xC2 0xDF (take 1 characters) (tail ∷ []) (drop 2 characters) tt l (omega arith)

  -- the second row of UTF8-3, between E0 and ED
  follows_three : 0xE0 < x → x < 0xED → follows characters x ≡ tail ∷ tail ∷ []
  unfolding characters ends_below
  follows_three l h = in_row 0xE1 0xEC (take 3 characters) (tail ∷ tail ∷ []) (drop 4 characters) tt (omega arith) (omega arith)

  -- its last row, after ED
  follows_private : 0xED < x → x < 0xF0 → follows characters x ≡ tail ∷ tail ∷ []
  unfolding characters ends_below
  follows_private l h = in_row 0xEE 0xEF (take 5 characters) (tail ∷ tail ∷ []) (drop 6 characters) tt (omega arith) (omega arith)

  -- the second row of UTF8-4, between F0 and F4
  follows_four : 0xF0 < x → x < 0xF4 → follows characters x ≡ tail ∷ tail ∷ tail ∷ []
  unfolding characters ends_below
  follows_four l h = in_row 0xF1 0xF3 (take 7 characters) (tail ∷ tail ∷ tail ∷ []) (drop 8 characters) tt (omega arith) (omega arith)

  -- ---- how many bytes follow

  pub tails_none : x < 0xC2 → 0 ≡ length (follows characters x)
  tails_none h = elim (dec_le x 0x7F) [ yes a ↦ rw (ascii_follows x (low_ascii x (omega arith))) | no a ↦ rw (follows_tail (omega arith) h) ]

  pub tails_one : 0xC2 ≤ x → x < 0xE0 → 1 ≡ length (follows characters x)
  tails_one l h = rw (follows_two l h)

  -- E0 to EF, in four rows
  pub tails_two : 0xE0 ≤ x → x < 0xF0 → 2 ≡ length (follows characters x)
  unfolding follows characters is_in
  tails_two l h =
      elim (dec_le x 0xE0) [
        | yes a ↦ let e : x ≡ 0xE0 = omega arith in rw e
        | no a ↦ elim (dec_le x 0xEC) [
          | yes b ↦ rw (follows_three (omega arith) (omega arith))
          | no b ↦ elim (dec_le x 0xED) [ yes c ↦ let e : x ≡ 0xED = omega arith in rw e | no c ↦ rw (follows_private (omega arith) h) ]
        ]
      ]

  -- F0 to F4, in three rows
  pub tails_three : 0xF0 ≤ x → x < 0xF5 → 3 ≡ length (follows characters x)
  unfolding follows characters is_in
  tails_three l h =
      elim (dec_le x 0xF0) [
        | yes a ↦ let e : x ≡ 0xF0 = omega arith in rw e
        | no a ↦ elim (dec_le x 0xF3) [ yes b ↦ rw (follows_four (omega arith) (omega arith)) | no b ↦ let e : x ≡ 0xF4 = omega arith in rw e ]
      ]

  pub tails_above : 0xF5 ≤ x → 0 ≡ length (follows characters x)
  tails_above l = rw (follows_above l)

pub ruleset tailing = (rules, tails_none, tails_one, tails_two, tails_three, tails_above)

-- ---- the second byte

-- a first byte that others follow: four have a row to themselves, and after any other a tail comes second
data Leads (x : ℕ) : Type 0 where
  e0 : x ≡ 0xE0 → Leads x
  ed : x ≡ 0xED → Leads x
  f0 : x ≡ 0xF0 → Leads x
  f4 : x ≡ 0xF4 → Leads x
  other : (rs : List Range) → follows characters x ≡ tail ∷ rs → Leads x

module _ (x : ℕ) where
  leads_two : 0xE0 ≤ x → x < 0xF0 → Leads x
  leads_two l h =
      elim (dec_le x 0xE0) [
        | yes a ↦ e0 (omega arith)
        | no a ↦ elim (dec_le x 0xEC) [
          | yes b ↦ other (tail ∷ []) (follows_three x (omega arith) (omega arith))
          | no b ↦ elim (dec_le x 0xED) [ yes c ↦ ed (omega arith) | no c ↦ other (tail ∷ []) (follows_private x (omega arith) h) ]
        ]
      ]

  leads_three : 0xF0 ≤ x → x < 0xF5 → Leads x
  leads_three l h =
      elim (dec_le x 0xF0) [
        | yes a ↦ f0 (omega arith)
        | no a ↦ elim (dec_le x 0xF3) [ yes b ↦ other (tail ∷ tail ∷ []) (follows_four x (omega arith) (omega arith)) | no b ↦ f4 (omega arith) ]
      ]

  leads : 1 ≤ length (follows characters x) → Leads x
  leads n =
      elim (dec_le x 0xC1) [
        | yes a ↦ absurd (omega (arith, tails_none x (omega arith)))
        | no a ↦ elim (dec_le x 0xDF) [
          | yes b ↦ other [] (follows_two x (omega arith) (omega arith))
          | no b ↦ elim (dec_le x 0xEF) [
            | yes c ↦ leads_two (omega arith) (omega arith)
            | no c ↦ elim (dec_le x 0xF4) [ yes d ↦ leads_three (omega arith) (omega arith) | no d ↦ absurd (omega (arith, tails_above x (omega arith))) ]
          ]
        ]
      ]

-- the row that each of the four has
module _ (x : ℕ) where
  -- after E0 less would be overlong
  pub row_e0 : x ≡ 0xE0 → follows characters x ≡ 0xA0 to 0xBF ∷ tail ∷ []
  unfolding follows characters is_in
  row_e0 e = rw e

  -- after ED more would be a surrogate
  pub row_ed : x ≡ 0xED → follows characters x ≡ 0x80 to 0x9F ∷ tail ∷ []
  unfolding follows characters is_in
  row_ed e = rw e

  -- after F0 less would be overlong
  pub row_f0 : x ≡ 0xF0 → follows characters x ≡ 0x90 to 0xBF ∷ tail ∷ tail ∷ []
  unfolding follows characters is_in
  row_f0 e = rw e

  -- after F4 more would be above U+10FFFF
  pub row_f4 : x ≡ 0xF4 → follows characters x ≡ 0x80 to 0x8F ∷ tail ∷ tail ∷ []
  unfolding follows characters is_in
  row_f4 e = rw e

module _ (x y : ℕ) where
  module _ (a b : ℕ) (rs : List Range) (e : follows characters x ≡ a to b ∷ rs) where
    -- the second byte is in the row's range
    pub second_in : a ≤ y → y ≤ b → true ≡ in_first (follows characters x) y
    unfolding in_first
    second_in l h = rw (e, within a b y l h)

    -- or below it
    pub second_below : y < a → false ≡ in_first (follows characters x) y
    unfolding in_first
    second_below h = rw (e, below a b y h)

    -- or above it
    pub second_above : b < y → false ≡ in_first (follows characters x) y
    unfolding in_first
    second_above h = rw (e, beyond a b y h)

  -- after any other a tail comes second
  pub second_other :
      1 ≤ length (follows characters x) → (x ≡ 0xE0 → ⊥) → (x ≡ 0xED → ⊥) → (x ≡ 0xF0 → ⊥) → (x ≡ 0xF4 → ⊥) → is_in tail y ≡ in_first (follows characters x) y
  unfolding in_first
  second_other n a b c d = go (leads x n)
    where
      go : Leads x → is_in tail y ≡ in_first (follows characters x) y
      go (e0 e) = absurd (a e)
      go (ed e) = absurd (b e)
      go (f0 e) = absurd (c e)
      go (f4 e) = absurd (d e)
      go (other rs e) = rw e

pub ruleset second = (rules, row_e0, row_ed, row_f0, row_f4, second_in, second_below, second_above, second_other)
