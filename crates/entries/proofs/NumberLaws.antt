-- The laws of the number of a field that is read as it is walked.
use mathlib.Core.Path.{◌≡◌, refl, sym, ◌∙◌}
use mathlib.Core.Bool.{Bool, true, false, not, ◌||◌}
use mathlib.Core.List.{List, []}
use Prim.Native.Nat.{ℕ, suc, ◌+◌, ◌-◌, ◌*◌, ◌≤◌, ◌<◌, min, ◌^◌}
use mir.Syntax.{w64}
use mir.Val.{Fits}
use native.Mathlib.Decide.{dec_lt}
use native.Mathlib.Omega.{arith}
use borrow.Author.Rules.{rules}
use borrow.Author.Tests.{eq-eqb}
use lib.Dec.{T, eqb}
use lib.ListN.{length, get_or, take}
use lib.Seq.{take-nil}
use Rattle.base.specs.Lists.{zeros}
use Rattle.theory.specs.Decimal.{value, value_f}
use Rattle.meaning.specs.Lines.{is_sep, fields_of}
use Rattle.meaning.specs.Forms.{Form, is_textual, is_empty}
use Rattle.meaning.specs.Kinds.{Kind, kinds}
use Rattle.meaning.specs.Format.{field_number}
use Rattle.meaning.specs.Table.{fields, key_names}
use Rattle.laws.specs.Kinds.{every}
use Rattle.text.specs.Places.{field_len}
use Rattle.text.proofs.NumberLaws.{worth_turn, worth_fits, ten_fits}
use Rattle.layout.specs.declared.records.Layout.{Layout}
use Rattle.layout.specs.Rows.{row_of, places_of, padded, laid_out}
use Rattle.keys.specs.Numbers.{digits_in, number_of}
use Rattle.keys.specs.Places.{number_at, empty_at}
use Rattle.keys.proofs.PlaceLaws.{number_text, number_plain, number_none, number_there, empty_there}
use Rattle.entries.specs.Entries.{line_at}
use Rattle.entries.specs.Fields.{after_fields, first_field}
use Rattle.entries.proofs.FieldLaws.{pass_over, line_over, line_byte, field_after}

-- ---- the walk of a number, at i

-- the bytes that are left of it
abbrev pub left_of : List ℕ → ℕ → ℕ → List ℕ
left_of s at i = take (16 - (i - at)) (first_field (line_at s i))

-- at the start all are
pub value_start : (s : List ℕ) (at : ℕ) → value_f 0 (left_of s at at) ≡ value (take 16 (first_field (line_at s at)))
unfolding value
value_start s at = let z : 16 - (at - at) ≡ 16 = omega arith in rw z

module _ (s : List ℕ) (at i v x : ℕ) (e : value_f v (left_of s at i) ≡ x) (a : at ≤ i) (most : ℕ) (q : most ≡ min (length s) (at + 16)) where
  module _ (m : i < most) where
    -- a comma ends it
    pub value_comma : get_or s i 0 ≡ 44 → v ≡ x
    unfolding value_f first_field field_len is_sep
    value_comma c = rw (line_byte s i (omega arith) (λ z. absurd (omega arith)), eq-eqb (get_or s i 0) 44 c, take-nil {A = ℕ} (16 - (i - at))) at e

    -- a byte above is a digit more
    pub value_turn : (d : ℕ) → 48 ≤ get_or s i 0 → d ≡ get_or s i 0 - 48 → value_f (v * 10 + d) (left_of s at (i + 1)) ≡ x
    unfolding value_f first_field field_len
    value_turn d b r =
        let p = pass_over s false i (omega arith) (omega arith) in
        let n : 16 - (i - at) ≡ suc (16 - (i + 1 - at)) = omega arith in
        rw r (rw (n, p.byte, p.joins, p.turns) at e)

    module _ (w : v + 23 ≤ 23 * 10 ^ (i - at)) where
      -- which is little enough for as many
      pub worth_next : (d : ℕ) → d ≤ 207 → v * 10 + d + 23 ≤ 23 * 10 ^ (i + 1 - at)
      worth_next d h = let z : i + 1 - at ≡ i - at + 1 = omega arith in rw z (worth_turn v (i - at) d w h)

      -- so that it can be written
      pub next_fits : (d : ℕ) → d ≤ 207 → Fits w64 (v * 10 + d)
      next_fits d h = worth_fits v (i - at) 16 d w (omega arith) (omega arith) h

      pub tenfold_fits : Fits w64 (v * 10)
      tenfold_fits = ten_fits v (i - at) 16 w (omega arith) (omega arith)

  -- no room is left for more
  pub value_done : at ≤ length s → i ≤ most → most ≤ i → v ≡ x
  unfolding value_f first_field
  value_done b g h = go (dec_lt (length s) (at + 16))
    where
      go : Dec (length s < at + 16) → v ≡ x
      go (yes l) = rw (line_over s i (omega arith), take-nil {A = ℕ} (field_len false []), take-nil {A = ℕ} (16 - (i - at))) at e
      go (no l) = let n : 16 - (i - at) ≡ 0 = omega arith in rw n at e

-- another byte leaves it to the field
pub value_field : (f t : List ℕ) (n : ℕ) → f ≡ first_field t → n ≡ value (take 16 f) → n ≡ value (take 16 (first_field t))
value_field f t n p e = rw (← p) e

pub ruleset valuing = (rules, value_start, value_comma, value_turn, value_done, value_field, worth_next, next_fits, tenfold_fits)

-- ---- the number of a field

module _ (m : Form) (t : List ℕ) (b : Bool) (p : b ≡ is_textual m) (n : ℕ) where
  -- a text's is that of its digits
  pub here_text : (f : List ℕ) → b ≡ true → f ≡ first_field t → n ≡ value (digits_in f) → n ≡ number_of m (first_field t)
  here_text f q u e = rw (← u) (number_text m f b p n q e)

  -- a number's is its value
  pub here_plain : b ≡ false → n ≡ value (take 16 (first_field t)) → n ≡ number_of m (first_field t)
  here_plain q e = number_plain m (first_field t) b p n q e

pub ruleset numbering = (rules, here_text, here_plain)

-- ---- what stands at a place

module _ (k : Kind) (s : List ℕ) (c p i : ℕ) (m : Form) (h : 4 ≤ p) (u : m ≡ (row_of k (p - 1)).0) (w : line_at s i ≡ after_fields (p - 4) (line_at s c)) where
  -- the field there
  field_placed : first_field (line_at s i) ≡ get_or (fields_of (line_at s c)) (p - 4) []
  field_placed = rw w (sym (field_after (p - 4) (line_at s c)))

  -- its number
  pub number_placed_lem : (n : ℕ) → n ≡ number_of m (first_field (line_at s i)) → n ≡ number_at k (line_at s c) p
  number_placed_lem n e = number_there k (line_at s c) p m (first_field (line_at s i)) h u field_placed n e

  -- and whether it is empty
  pub empty_placed : (b : Bool) → b ≡ is_empty m (first_field (line_at s i)) → b ≡ empty_at k (line_at s c) p
  empty_placed b e = empty_there k (line_at s c) p m (first_field (line_at s i)) h u field_placed b e

pub ruleset placing = (rules, number_none, number_placed_lem)

-- ---- the first number of a key

-- no kind's key begins with a text in field 4
first_plain : (k : Kind) → get_or (laid_out k).key 0 0 ≡ 4 → is_textual (row_of k 3).0 ≡ false
unfolding kinds laid_out places_of padded zeros field_number fields key_names row_of is_textual
first_plain k e = go (eqb (get_or (laid_out k).key 0 0) 4) (is_textual (row_of k 3).0) (eq-eqb (get_or (laid_out k).key 0 0) 4 e) (every (λ k. not (eqb (get_or (laid_out k).key 0 0) 4) || not (is_textual (row_of k 3).0)) tt k)
  where
    go : (a b : Bool) → a ≡ true → T (not a || not b) → b ≡ false
    go true true e t = absurd t
    go true false e t = refl
    go false b e t = let z : ◌≡◌ {A = Bool} false true = e in cc

module _ (k : Kind) (s : List ℕ) (c n : ℕ) (l : Layout) (e : l ≡ laid_out k) where
  -- it is the value there
  pub first_value : get_or l.key 0 0 ≡ 4 → n ≡ value (take 16 (first_field (line_at s c))) → n ≡ number_at k (line_at s c) (get_or (laid_out k).key 0 0)
  first_value p q =
      let r : get_or (laid_out k).key 0 0 ≡ 4 = rw (← e) p in
      rw r (number_placed_lem k s c 4 c (row_of k 3).0 (omega arith) refl (unfold after_fields in refl) n (number_plain (row_of k 3).0 (first_field (line_at s c)) (is_textual (row_of k 3).0) refl n (first_plain k r) q))

  -- or what stands at another place
  pub first_there : n ≡ number_at k (line_at s c) (get_or l.key 0 0) → n ≡ number_at k (line_at s c) (get_or (laid_out k).key 0 0)
  first_there q = q ∙ rw e

pub ruleset firsts = (rules, first_value, first_there)
