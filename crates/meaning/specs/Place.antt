-- Paper 02, request 01: the place in a field, from 1, of the first byte at which no sound field could go on.
use Rattle.std.specs.Prelude.{Bool, false, ◌||◌, List, [], ◌∷◌, ◌++◌, map, ℕ, suc, replicate}
use Rattle.base.specs.Lists.{pick, bytes}
use Rattle.meaning.specs.Forms.{Form, number, at_least1, decimal, date, time, text, change_type, xref_type, file_type, key_text, TextRule, change_types, xref_types, file_types, quoted, empty_of, sound_as}

-- the bytes p are sound with the end of a sample after them: with all of it, with what is left after its first bytes, or with nothing
unfoldable pub goes_on : (List ℕ → Bool) → List ℕ → List ℕ → Bool
goes_on sound p [] = sound p
goes_on sound p (x ∷ s) = sound (p ++ (x ∷ s)) || goes_on sound p s

-- the bytes p begin a sound field: they go on with the end of one of the samples
unfoldable pub begins : (List ℕ → Bool) → List (List ℕ) → List ℕ → Bool
begins sound [] p = false
begins sound (s ∷ ss) p = goes_on sound p s || begins sound ss p

-- how many of the bytes f can go on, one after another, after the bytes p
unfoldable pub reach : (List ℕ → Bool) → List ℕ → List ℕ → ℕ
reach begun p [] = 0
reach begun p (x ∷ f) = pick (begun (p ++ (x ∷ []))) (suc (reach begun (p ++ (x ∷ [])) f)) 0

-- the place: of the byte after those that can go on, or one past the end of a field that stops too soon; 0 where the field is sound
unfoldable pub place : (List ℕ → Bool) → List (List ℕ) → List ℕ → ℕ
place sound samples f = pick (sound f) 0 (suc (reach (begins sound samples) [] f))

-- characters to put into a text: the letter a, U+0800, U+10000 and U+40000, whose ends end every character that is begun
unfoldable pub sample_characters : List (List ℕ)
sample_characters = bytes "a" ∷ (0xE0 ∷ 0xA0 ∷ 0x80 ∷ []) ∷ (0xF0 ∷ 0x90 ∷ 0x80 ∷ 0x80 ∷ []) ∷ (0xF1 ∷ 0x80 ∷ 0x80 ∷ 0x80 ∷ []) ∷ []

-- filled fields of a form, chosen so that whatever begins a filled field goes on with the end of one of them (laws: Enough proves that it does)
unfoldable pub samples : Form → List (List ℕ)
samples (number w) = bytes "1" ∷ []
samples (at_least1 w) = bytes "1" ∷ []
samples (decimal w d) = (bytes "0." ++ replicate d 48) ∷ []
samples date = bytes "9999-11-11" ∷ bytes "9999-11-30" ∷ []
samples time = bytes "000000" ∷ []
samples (text w) = map quoted sample_characters
samples change_type = change_types
samples xref_type = xref_types
samples file_type = file_types
samples (key_text letter) = quoted (bytes "0000" ++ (letter ∷ bytes "000000000")) ∷ []

module _ (rule : TextRule) where
  -- the place in a field of a form, which must be filled or may be empty
  unfoldable pub place_as : Form → Bool → List ℕ → ℕ
  place_as m filled f = place (sound_as rule m filled) (empty_of m ∷ samples m) f
