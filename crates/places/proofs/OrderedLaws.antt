-- The laws of entries in order: their keys ascend by numbers too, and beside each entry stands the tag of its key.
use mathlib.Core.Path.{◌≡◌, sym, ap, ◌∙◌}
use mathlib.Core.List.{List}
use Prim.Native.Nat.{ℕ, ◌<◌}
use native.Mathlib.Nat.{add-zero}
use native.Mathlib.Omega.{arith}
use lib.ListN.{length, get_or, length-take, length-map}
use lib.Seq.{get_or-take, get_or-drop}
use Rattle.theory.specs.Store.{Asc}
use Rattle.keys.specs.Numbers.{key_numbers, numbered}
use Rattle.keys.proofs.KeyLaws.{asc_numbered}
use Rattle.entries.specs.Entries.{record_of}
use Rattle.entries.specs.Tags.{tag_of}
use Rattle.places.specs.Places.{says}
use Rattle.places.specs.Counts.{by_key}
use Rattle.places.specs.Ordered.{Ordered}
use Rattle.places.proofs.SaysLaws.{map_drop, length_says, says_at}

module _ (h f a t : List ℕ) (n : ℕ) (g : Ordered h f a t n) where
  -- keys of sound records ascend by their numbers
  pub ordered_asc : Asc numbered (says h f a n)
  ordered_asc = asc_numbered (says h f a n) g.fines g.asc

  -- there is a tag for each entry
  pub tagged_in : (i : ℕ) → i < n → i < length t
  tagged_in i m = omega (arith, length-take n t, ap length g.tagged, length-map (says h f a n) (λ r. tag_of (key_numbers r)), length_says h f a n g.within)

  -- that of its key
  pub tagged_at : (i : ℕ) → i < n → get_or t i 0 ≡ tag_of (key_numbers (record_of h f (get_or a i 0)))
  tagged_at i m =
      sym (get_or-take n t i 0 m) ∙ ap (λ s. get_or s i 0) g.tagged
      ∙ sym (get_or-drop i (by_key tag_of (says h f a n)) 0 0 ∙ ap (λ j. get_or (by_key tag_of (says h f a n)) j 0) (add-zero i))
      ∙ ap (λ s. get_or s 0 0) (sym (map_drop (λ r. tag_of (key_numbers r)) i (says h f a n)) ∙ ap (by_key tag_of) (says_at h f a n g.within i m))
