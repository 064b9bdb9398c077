-- The laws of a buffer that is filled: its result in front, then zeros to its end.
use mathlib.Core.Path.{◌≡◌, sym, ap, ◌∙◌}
use mathlib.Core.Bool.{true, false, false≢true}
use mathlib.Core.List.{List, ◌++◌, append-nil}
use Prim.Native.Nat.{ℕ, ◌-◌, ◌≤◌, ◌<◌}
use native.Mathlib.Omega.{arith}
use borrow.Author.Rules.{rules}
use borrow.Author.Tests.{le-leb, lt-leb}
use borrow.Rule.Slice.PartMut.{put_mid}
use lib.Dec.{leb}
use lib.ListN.{length, take, drop, length-append, length-take, length-drop, drop_of_length-le}
use Rattle.base.specs.Lists.{zeros}
use Rattle.base.specs.ListLaws.{length_zeros}
use Rattle.meaning.specs.Load.{then_zeros}
use Rattle.text.specs.Front.{in_front}
use Rattle.text.proofs.FrontLaws.{front_then}
use Rattle.writer.specs.Room.{Put}

-- what is as long as the whole leaves nothing of it
all_front : (w old : List ℕ) → length old ≤ length w → in_front w old ≡ w
unfolding in_front
all_front w old h = ap (λ l. w ++ l) (drop_of_length-le old h) ∙ append-nil w

-- the rest made zeros
pub fill_rest : (w old new last : List ℕ) (n : ℕ) → n ≡ length w → new ≡ in_front w old → length w ≤ length old → length new ≡ length old → last ≡ zeros (length (take (length new - n) (drop n new)))
    → put_mid n (length new - n) new last ≡ then_zeros (length old) w
unfolding then_zeros
fill_rest w old new last n e f h l z =
    let t : length (take (length new - n) (drop n new)) ≡ length old - length w = simp (length-take, length-drop) (omega arith) in
    let b : last ≡ zeros (length old - length w) = z ∙ ap zeros t in
    let g : last ≡ in_front (zeros (length old - length w)) (take (length new - n) (drop n new)) = b ∙ sym (all_front (zeros (length old - length w)) (take (length new - n) (drop n new)) (omega (arith, t, length_zeros (length old - length w)))) in
    front_then w (zeros (length old - length w)) old new last n e f g
    ∙ all_front (w ++ zeros (length old - length w)) old (omega (arith, length-append w (zeros (length old - length w)), length_zeros (length old - length w)))

pub ruleset filling = (rules, fill_rest)

-- ---- where the result fits

-- it doesn't
pub fill_not : (text old out : List ℕ) → length old < length text → (false ≡ leb (length text) (length old)) × (false ≡ true → out ≡ then_zeros (length old) text)
fill_not text old out h = (sym (lt-leb (length text) (length old) h), λ t. absurd (false≢true t))

module _ (text old new : List ℕ) (n : ℕ) (w : Put text (length old) old n new) where
  -- it ends within the buffer
  pub fill_in : length new ≡ length old → n ≤ length new
  fill_in s = omega (arith, w.fits, w.size)

  -- and zeros follow
  pub fill_all : (last : List ℕ) → length new ≡ length old → last ≡ zeros (length (take (length new - n) (drop n new)))
      → (true ≡ leb (length text) (length old)) × (true ≡ true → put_mid n (length new - n) new last ≡ then_zeros (length old) text)
  fill_all last s z = (sym (le-leb (length text) (length old) w.fits), λ y. fill_rest text old new last n w.size w.front w.fits s z)
