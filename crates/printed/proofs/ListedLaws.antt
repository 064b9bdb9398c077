-- The laws of numbers that are written with commas.
use mathlib.Core.Path.{◌≡◌, sym, ap, ◌∙◌}
use mathlib.Core.List.{List, [], ◌∷◌, ◌++◌, append_assoc}
use Prim.Native.Nat.{ℕ, ◌+◌, ◌-◌, ◌^◌, ◌≤◌, ◌<◌}
use native.Mathlib.Omega.{arith}
use borrow.Author.Rules.{rules}
use borrow.Rule.Slice.PartMut.{put_mid}
use lib.ListN.{length, take, drop, length-append}
use mir.Syntax.{w64}
use mir.Val.{Fits}
use Rattle.theory.specs.Decimal.{width, dec}
use Rattle.theory.specs.DecimalLaws.{length_dec}
use Rattle.meaning.specs.Answers.{Numbers}
use Rattle.meaning.specs.Program.{comma_separated, print_numbers}
use Rattle.text.specs.Front.{in_front}
use Rattle.text.proofs.FrontLaws.{front_same, front_then, front_room, front_last}
use Rattle.text.proofs.NumberLaws.{width_most}
use Rattle.printed.specs.Printed.{number_then, three_then}

-- ---- a number, and what stands after it

module _ (x : ℕ) (h : Fits w64 x) (mark old : List ℕ) (room : 20 + length mark ≤ length old) where
  -- the number has room
  pub number_room : width x ≤ length old
  number_room = omega (arith, width_most x h)

  module _ (n : ℕ) (p : n ≡ width x) where
    -- how much is written
    pub number_count : (m : ℕ) → m ≡ length mark → n + m ≡ length (number_then x mark)
    unfolding number_then
    number_count m r = omega (arith, length-append (dec x) mark, length_dec x)

    -- and that it is not much
    pub number_most : (m : ℕ) → m ≡ length mark → n + m ≤ 20 + length mark
    number_most m r = omega (arith, width_most x h)

    -- so the sum fits
    pub number_fits : (m : ℕ) → m ≡ length mark → length old < 2 ^ 64 → Fits w64 (n + m)
    number_fits m r b = omega (arith, width_most x h)

    module _ (new : List ℕ) (q : new ≡ in_front (dec x) old) where
      -- it stands within what was lent
      pub number_within : n ≤ length new
      number_within = omega (arith, width_most x h, length_dec x, front_same (dec x) old new (omega (arith, width_most x h, length_dec x)) q)

      -- the mark has room
      pub mark_room : length mark ≤ length (take (length new - n) (drop n new))
      mark_room = front_room (dec x) old new n (length mark) (p ∙ sym (length_dec x)) q (omega (arith, width_most x h))

      -- with the mark both are there
      pub number_done : (last : List ℕ) → last ≡ in_front mark (take (length new - n) (drop n new)) → put_mid n (length new - n) new last ≡ in_front (number_then x mark) old
      unfolding number_then
      number_done last w = front_then (dec x) mark old new last n (p ∙ sym (length_dec x)) q w

pub ruleset numbered = (rules, number_room, number_within, number_count, number_most, number_fits, mark_room, number_done)

-- ---- three numbers

-- how much is written
pub three_count : (a b c : ℕ) (mark : List ℕ) (n m k : ℕ) → n ≡ length (number_then a (44 ∷ [])) → m ≡ length (number_then b (44 ∷ [])) → k ≡ length (number_then c mark)
    → n + m + k ≡ length (three_then a b c mark)
unfolding three_then
three_count a b c mark n m k p q r =
    omega (arith, length-append (number_then a (44 ∷ [])) (number_then b (44 ∷ []) ++ number_then c mark), length-append (number_then b (44 ∷ [])) (number_then c mark))

module _ (a b c : ℕ) (mark old new : List ℕ) (n : ℕ) (room : 62 + length mark ≤ length old) (p : n ≡ length (number_then a (44 ∷ []))) (s : n ≤ 21)
    (q : new ≡ in_front (number_then a (44 ∷ [])) old) where
  module _ (m : ℕ) (last : List ℕ) (r : m ≡ length (number_then b (44 ∷ []))) (t : m ≤ 21) (u : last ≡ in_front (number_then b (44 ∷ [])) (take (length new - n) (drop n new))) where
    -- with the third all are there
    pub three_done : (end : List ℕ)
        → end ≡ in_front (number_then c mark) (take (length (put_mid n (length new - n) new last) - (n + m)) (drop (n + m) (put_mid n (length new - n) new last)))
        → put_mid (n + m) (length (put_mid n (length new - n) new last) - (n + m)) (put_mid n (length new - n) new last) end ≡ in_front (three_then a b c mark) old
    unfolding three_then
    three_done end w = front_last (number_then a (44 ∷ [])) (number_then b (44 ∷ [])) (number_then c mark) old new last end n m p q r u w

pub ruleset threefold = (rules, three_count, three_done)

-- ---- all numbers of an answer

-- code, line and field, with a comma after them
abbrev told : Numbers → List ℕ
told a = three_then a.code a.line a.field (44 ∷ [])

-- the counts, likewise
abbrev counted : Numbers → List ℕ
counted a = three_then a.inserts a.updates a.deletes (44 ∷ [])

-- the place, with CR LF
abbrev placed : Numbers → List ℕ
placed a = number_then a.place (13 ∷ 10 ∷ [])

-- these are all
parts : (a : Numbers) → told a ++ (counted a ++ placed a) ≡ print_numbers a
unfolding three_then number_then print_numbers comma_separated
parts a = simp append_assoc

-- how much is written
pub listed_count : (a : Numbers) (n m k : ℕ) → n ≡ length (told a) → m ≡ length (counted a) → k ≡ length (placed a) → n + m + k ≡ length (print_numbers a)
listed_count a n m k p q r = omega (arith, length-append (told a) (counted a ++ placed a), length-append (counted a) (placed a), ap length (parts a))

module _ (a : Numbers) (old new : List ℕ) (n : ℕ) (room : 148 ≤ length old) (p : n ≡ length (told a)) (s : n ≤ 63) (q : new ≡ in_front (told a) old) where
  module _ (m : ℕ) (last : List ℕ) (r : m ≡ length (counted a)) (t : m ≤ 63) (u : last ≡ in_front (counted a) (take (length new - n) (drop n new))) where
    -- with it all are there
    pub listed_done : (end : List ℕ)
        → end ≡ in_front (placed a) (take (length (put_mid n (length new - n) new last) - (n + m)) (drop (n + m) (put_mid n (length new - n) new last)))
        → put_mid (n + m) (length (put_mid n (length new - n) new last) - (n + m)) (put_mid n (length new - n) new last) end ≡ in_front (print_numbers a) old
    listed_done end w = front_last (told a) (counted a) (placed a) old new last end n m p q r u w ∙ ap (λ t. in_front t old) (parts a)

pub ruleset listed = (rules, listed_count, listed_done)
