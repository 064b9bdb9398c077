-- What `position` answers, where the length stands in for a place that is not there: `unwrap_or(s.len())`.
use Rattle.std.specs.Prelude.{◌≡◌, refl, Bool, true, false, not, cond, List, ℕ, ◌≤◌, length, Option, Some, None}
use Rattle.std.specs.List.{position, position_or_len}
use Rattle.std.specs.Option.{unwrap_or}
use Rattle.std.proofs.Common.{◌∙◌, arith}
use Rattle.std.proofs.lemmas.List.Sums.{prefix_len-le-length}
use borrow.Author.Tests.{ltb-false}
use lib.Dec.{ltb}

-- it is within the list
pub position_within : {A : Type 0} (p : A → Bool) (l : List A) → position_or_len p l ≤ length l
position_within p l = prefix_len-le-length (λ x. not (p x)) l

-- and it is that place
pub position_end : {A : Type 0} (p : A → Bool) (l : List A) (r : Option ℕ) (n : ℕ) → r ≡ position p l → n ≡ unwrap_or r (length l) → n ≡ position_or_len p l
position_end p l r n e q = q ∙ rw e (go (ltb (position_or_len p l) (length l)) refl)
  where
    go : (b : Bool) → ltb (position_or_len p l) (length l) ≡ b → unwrap_or (cond b (Some (position_or_len p l)) None) (length l) ≡ position_or_len p l
    go true e = refl
    go false e = omega (arith, ltb-false (position_or_len p l) (length l) e, position_within p l)
