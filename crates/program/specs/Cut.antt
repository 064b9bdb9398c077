-- It is enough to read 65,537 bytes of an input: a file that goes on after them is too long whatever they are.
use Rattle.std.specs.Prelude.{◌≡◌, refl, Bool, true, false, ◌||◌, List, [], ℕ, suc, ◌≤◌, ◌<◌, length, take}
use Rattle.std.proofs.Common.{sym, ap, ◌∙◌, arith, lt→ltb, take_all, length-take-le}
use Rattle.std.proofs.Math.Option.{Option, some, get_or}
use Rattle.std.proofs.Math.Decide.{dec_le}
use Rattle.base.specs.Lists.{pick}
use Rattle.base.specs.Tests.{T_true}
use Rattle.meaning.specs.Table.{scottish}
use Rattle.meaning.specs.Load.{load}
use Rattle.meaning.specs.Program.{program_room, unusable, print_numbers, print_load, program}
use Rattle.meaning.specs.Codes.{input_unusable}
use Rattle.meaning.specs.Answers.{alone, refused_with}

-- 18 where either is unusable
pub first_18 : (old b : Option (List ℕ)) → true ≡ unusable old → print_numbers (refused_with (alone input_unusable)) ≡ program scottish old b
unfolding program
first_18 old b e = rw (← e)

pub second_18 : (old b : Option (List ℕ)) → true ≡ unusable b → print_numbers (refused_with (alone input_unusable)) ≡ program scottish old b
unfolding program
second_18 old b e = go (unusable old)
  where
    go : (x : Bool) → print_numbers (refused_with (alone input_unusable)) ≡ pick (x || unusable b) (print_numbers (refused_with (alone input_unusable))) (print_load (load scottish program_room program_room (get_or old []) (get_or b [])))
    go true = refl
    go false = rw (← e)

-- more than 65,536 bytes are unusable
too_long : (s : List ℕ) → program_room < length s → true ≡ unusable (some s)
unfolding unusable
too_long s h = sym (T_true (unusable (some s)) (lt→ltb program_room (length s) h))

-- the cut of a holding is answered as the whole of it
pub cut_holding : (s : List ℕ) (b : Option (List ℕ)) → program scottish (some (take (suc program_room) s)) b ≡ program scottish (some s) b
cut_holding s b = go (dec_le (length s) (suc program_room))
  where
    go : Dec (length s ≤ (suc program_room)) → program scottish (some (take (suc program_room) s)) b ≡ program scottish (some s) b
    go (yes h) = ap (λ t. program scottish (some t) b) (take_all (suc program_room) s h)
    go (no h) = sym (first_18 (some (take (suc program_room) s)) b (too_long (take (suc program_room) s) (omega (arith, length-take-le (suc program_room) s (omega arith))))) ∙ first_18 (some s) b (too_long s (omega arith))

-- and so is that of a change
pub cut_change : (old : Option (List ℕ)) (s : List ℕ) → program scottish old (some (take (suc program_room) s)) ≡ program scottish old (some s)
cut_change old s = go (dec_le (length s) (suc program_room))
  where
    go : Dec (length s ≤ (suc program_room)) → program scottish old (some (take (suc program_room) s)) ≡ program scottish old (some s)
    go (yes h) = ap (λ t. program scottish old (some t)) (take_all (suc program_room) s h)
    go (no h) = sym (second_18 old (some (take (suc program_room) s)) (too_long (take (suc program_room) s) (omega (arith, length-take-le (suc program_room) s (omega arith))))) ∙ second_18 old (some s) (too_long s (omega arith))
