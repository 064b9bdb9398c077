-- Paper 02, request 01: in a field of any row of the Scottish table, the place that the definition gives is right, and no other number is.
use Rattle.std.specs.Prelude.{◌≡◌, Bool, List, [], ◌∷◌, ℕ, zero, suc, ◌<◌, T, length, get_or}
use Rattle.std.proofs.Common.{arith}
use Rattle.base.specs.Lists.{all}
use Rattle.base.specs.Tests.{and_l, and_r}
use Rattle.meaning.specs.Forms.{TextRule, by_characters, sound_as}
use Rattle.meaning.specs.Place.{place_as}
use Rattle.meaning.specs.Kinds.{Kind}
use Rattle.meaning.specs.Format.{Field}
use Rattle.meaning.specs.Table.{fields, scottish}
use Rattle.meaning.specs.Before.{by_bytes, before}
use Rattle.meaning.specs.Sound.{sound_field, place_in}
use Rattle.meaning.specs.Computes.{computed}
use Rattle.laws.specs.Kinds.{every}
use Rattle.laws.specs.Placed.{Placed}
use Rattle.laws.specs.PlaceLaws.{placed_once}
use Rattle.laws.specs.CharacterLaws.{characters_ruled}
use Rattle.laws.specs.ContentLaws.{Ruled, bytes_ruled}
use Rattle.laws.specs.PlaceRight.{begins_as, place_right}
use Rattle.laws.specs.LineFails.{no_field}

-- row i of a kind, counted from 0
abbrev pub row_at : Kind → ℕ → Field
row_at k i = get_or (fields k) i no_field

-- a test of every row holds of each
pub all_at : (t : Field → Bool) (ds : List Field) (i : ℕ) → i < length ds → T (all t ds) → T (t (get_or ds i no_field))
all_at t [] i h u = absurd (omega arith)
all_at t (d ∷ ds) zero h u = and_l (t d) (all t ds) u
all_at t (d ∷ ds) (suc i) h u = all_at t ds i (omega arith) (and_r (t d) (all t ds) u)

-- under a rule for texts, some field is sound as the row has it: the empty run of bytes begins one
can_begin : TextRule → Field → Bool
can_begin rule d = begins_as rule d.form d.filled []

-- where that is so of every row of the table, the place that the definition gives is right
placed_under :
    (rule : TextRule) → Ruled rule → ((k : Kind) → T (all (can_begin rule) (fields k))) → (k : Kind) (i : ℕ) → i < length (fields k)
    → (f : List ℕ) → Placed (sound_as rule (row_at k i).form (row_at k i).filled) f (place_as rule (row_at k i).form (row_at k i).filled f)
unfolding can_begin
placed_under rule ruled able k i h = place_right rule ruled (row_at k i).form (row_at k i).filled (all_at (can_begin rule) (fields k) i h (able k))

-- it is so of characters
pub scottish_placed : (k : Kind) (i : ℕ) → i < length (fields k) → (f : List ℕ) → Placed (sound_field scottish (row_at k i)) f (place_in scottish (row_at k i) f)
unfolding computed begins_as can_begin
scottish_placed = placed_under by_characters characters_ruled (λ k. every (λ k. all (can_begin by_characters) (fields k)) tt k)

-- and of bytes: 'before' means the place that request 01 asks for, with bytes counted
pub before_placed : (k : Kind) (i : ℕ) → i < length (fields k) → (f : List ℕ) → Placed (sound_field before (row_at k i)) f (place_in before (row_at k i) f)
unfolding computed begins_as can_begin by_bytes
before_placed = placed_under by_bytes bytes_ruled (λ k. every (λ k. all (can_begin by_bytes) (fields k)) tt k)

-- and no other number is
pub scottish_only : (k : Kind) (i : ℕ) → i < length (fields k) → (f : List ℕ) (p : ℕ) → Placed (sound_field scottish (row_at k i)) f p → p ≡ place_in scottish (row_at k i) f
scottish_only k i h f p a = placed_once (sound_field scottish (row_at k i)) f p (place_in scottish (row_at k i) f) a (scottish_placed k i h f)
