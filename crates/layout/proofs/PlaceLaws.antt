-- How the loop that tries one beginning of a field after another meets the meaning's place.
use mathlib.Core.Path.{◌≡◌, sym, ◌∙◌}
use mathlib.Core.Bool.{Bool, true, false}
use mathlib.Core.List.{List, [], ◌∷◌, ◌++◌}
use Prim.Native.Nat.{ℕ, suc, ◌+◌, ◌-◌, ◌≤◌, ◌<◌}
use native.Mathlib.Numerals.{add-one}
use native.Mathlib.Omega.{arith}
use borrow.Author.Rules.{rules}
use borrow.Author.Tests.{not-true, not-false}
use lib.ListN.{length, get_or, take, drop}
use lib.Seq.{take-suc}
use Rattle.base.specs.Lists.{pick}
use Rattle.base.proofs.Walk.{at_cons, at_end_lem}
use Rattle.meaning.specs.Forms.{empty_of}
use Rattle.meaning.specs.Table.{scottish}
use Rattle.meaning.specs.Place.{begins, reach, place, samples, place_as}
use Rattle.layout.specs.Rows.{form_decoded, filled_decoded, sound_by}

module _ (row : ℕ) (f : List ℕ) where
  -- the place
  abbrev place_of : ℕ
  place_of = place_as scottish.text_rule (form_decoded row) (filled_decoded row) f

  -- the test of what begins a sound field
  abbrev begun : List ℕ → Bool
  begun = begins (sound_by row) (empty_of (form_decoded row) ∷ samples (form_decoded row))

  -- a sound field has no place
  pub place_none : (s : Bool) → s ≡ sound_by row f → s ≡ true → 0 ≡ place_of
  unfolding place_as place
  place_none s e t = rw (sym e ∙ t)

  -- how far the bytes of the field go on
  abbrev far : ℕ
  far = reach begun [] f

  place_some : (s : Bool) (i : ℕ) → s ≡ sound_by row f → s ≡ false → i ≡ far → i + 1 ≡ place_of
  unfolding place_as place
  place_some s i e t h = rw (sym e ∙ t, h) (add-one far)

  -- i bytes go on, and what is left is tried
  abbrev pub Going : ℕ → Type 0
  Going i = (i + reach begun (take i f) (drop i f) ≡ far) × (i ≤ length f)

  pub going_first : Going 0
  going_first = (omega arith, omega arith)

  module _ (i : ℕ) (g : Going i) where
    front : i < length f → take (i + 1) f ≡ take i f ++ (get_or f i 0 ∷ [])
    front h = rw add-one (take-suc f i 0 h)

    step : i < length f → (c : Bool) → c ≡ begun (take (i + 1 - 0) (drop 0 f)) → i + pick c (suc (reach begun (take (i + 1) f) (drop (i + 1) f))) 0 ≡ far
    unfolding reach
    step h c e =
        let z : i + 1 - 0 ≡ i + 1 = omega arith in
        let k : c ≡ begun (take i f ++ (get_or f i 0 ∷ [])) = rw (← front h, ← z) e in
        rw (k, front h) (rw (at_cons f i h) at g.0)

  -- the bytes up to the next one's end are tried
  module _ (e : ℕ) (g : Going (e - 1)) (l : 1 ≤ e) where
    next : e - 1 + 1 ≡ e
    next = omega arith

    tried : e ≤ length f → (c : Bool) → c ≡ begun (take (e - 0) (drop 0 f)) → e - 1 + pick c (suc (reach begun (take e f) (drop e f))) 0 ≡ far
    tried h c q = rw next at (step (e - 1) g (omega arith) c (rw next q))

    -- one more byte goes on
    pub going_more : e ≤ length f → (c : Bool) → c ≡ begun (take (e - 0) (drop 0 f)) → c ≡ true → Going (e + 1 - 1)
    going_more h c q t = let z : e + 1 - 1 ≡ e = omega arith in rw z (omega (arith, rw t at (tried h c q)), h)

    -- the next byte does not
    pub place_stop : (s : Bool) → s ≡ sound_by row f → s ≡ false → e ≤ length f → (c : Bool) → c ≡ begun (take (e - 0) (drop 0 f)) → c ≡ false → e ≡ place_of
    place_stop s o t h c k u = sym next ∙ place_some s (e - 1) o t (omega (arith, rw u at (tried h c k)))

  -- the field stops too soon
  stopped : (i : ℕ) → Going i → (s : Bool) → s ≡ sound_by row f → s ≡ false → length f ≤ i → length f + 1 ≡ place_of
  unfolding reach
  stopped i g s e t h = let z : length f ≡ i = omega (arith, g.1) in rw z (place_some s i e t (omega (arith, rw (at_end_lem f i h) at g.0)))

  module _ (e : ℕ) (g : Going (e - 1)) (s : Bool) (q : s ≡ sound_by row f) (t : s ≡ false) where
    -- where there is no byte
    pub place_end : length f < e → length f + 1 ≡ place_of
    place_end h = stopped (e - 1) g s q t (omega arith)

    -- where its last byte goes on
    pub place_last : 1 ≤ e → e ≤ length f → length f ≤ e → (c : Bool) → c ≡ begun (take (e - 0) (drop 0 f)) → c ≡ true → length f + 1 ≡ place_of
    place_last l h m c k u = let w = going_more e g l h c k u in stopped (e + 1 - 1) w s q t (omega arith)

pub ruleset placing = (rules, not-true, not-false, place_none, going_first, going_more, place_stop, place_end, place_last)
