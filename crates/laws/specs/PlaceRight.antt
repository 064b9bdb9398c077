-- Paper 02, request 01: the place that the definition gives is the place that the request asks for, and the only one.
use Rattle.std.specs.Prelude.{◌≡◌, Bool, ◌↔◌, List, [], ◌∷◌, ◌++◌, ℕ, T}
use Rattle.meaning.specs.Forms.{Form, TextRule, empty_of, sound_as}
use Rattle.meaning.specs.Place.{begins, samples, place_as}
use Rattle.laws.specs.Placed.{Placed}
use Rattle.laws.specs.PlaceLaws.{begins_rest, place_is, placed_once}
use Rattle.laws.specs.ContentLaws.{Ruled}
use Rattle.laws.specs.Enough.{enough}

module _ (rule : TextRule) where
  -- the bytes p begin a sound field of the form
  unfoldable pub begins_as : Form → Bool → List ℕ → Bool
  begins_as m filled p = begins (sound_as rule m filled) (empty_of m ∷ samples m) p

  module _ (ruled : Ruled rule) where
    -- and that is so just where some rest makes them sound
    pub begins_right : (m : Form) (filled : Bool) (p : List ℕ) → T (begins_as m filled p) ↔ ((r : List ℕ) × T (sound_as rule m filled (p ++ r)))
    unfolding begins_as
    begins_right m filled p = (begins_rest (sound_as rule m filled) p (empty_of m ∷ samples m), λ r. enough rule ruled m filled p r.0 r.1)

    -- the place is what the request says, for every form that has a sound field at all: a text of no width that must be filled has none, so nothing begins one
    pub place_right : (m : Form) (filled : Bool) → T (begins_as m filled []) → (f : List ℕ) → Placed (sound_as rule m filled) f (place_as rule m filled f)
    unfolding begins_as place_as
    place_right m filled able f = place_is (sound_as rule m filled) (empty_of m ∷ samples m) (enough rule ruled m filled) able f

    -- and no other number is
    pub place_only : (m : Form) (filled : Bool) → T (begins_as m filled []) → (f : List ℕ) (p : ℕ) → Placed (sound_as rule m filled) f p → p ≡ place_as rule m filled f
    place_only m filled able f p h = placed_once (sound_as rule m filled) f p (place_as rule m filled f) h (place_right m filled able f)
