-- Places in times, computed. tests/cases writes the answers.
use Rattle.std.specs.Prelude.{◌≡◌, refl, List, [], ◌∷◌, ◌++◌, ℕ}
use Rattle.base.specs.Lists.{bytes}
use Rattle.meaning.specs.Forms.{Form, time}
use Rattle.meaning.specs.Computes.{computed}
use Rattle.field_places.specs.Places.{misses}

-- a form, a field, and its places where it must be filled and where it may be empty
unfoldable pub cases : List (Form × List ℕ × List ℕ)
cases =
    (time, [], (1 ∷ 0 ∷ []))
    ∷ (time, (bytes "\""), (1 ∷ 1 ∷ []))
    ∷ (time, (bytes "\"\""), (1 ∷ 1 ∷ []))
    ∷ (time, (bytes "\"\"\""), (1 ∷ 1 ∷ []))
    ∷ (time, (bytes "0"), (2 ∷ 2 ∷ []))
    ∷ (time, (bytes "00000000"), (7 ∷ 7 ∷ []))
    ∷ (time, (bytes "1582-01-01"), (3 ∷ 3 ∷ []))
    ∷ (time, (bytes "0001-01-01"), (5 ∷ 5 ∷ []))
    ∷ (time, (bytes "1900-02-29"), (5 ∷ 5 ∷ []))
    ∷ (time, (bytes "2001-13"), (5 ∷ 5 ∷ []))
    ∷ (time, (bytes "2001-02-3"), (5 ∷ 5 ∷ []))
    ∷ (time, (bytes "2001-04-31"), (5 ∷ 5 ∷ []))
    ∷ (time, (bytes "2000-02-29"), (5 ∷ 5 ∷ []))
    ∷ (time, (bytes "240000"), (2 ∷ 2 ∷ []))
    ∷ (time, (bytes "-0.00"), (1 ∷ 1 ∷ []))
    ∷ (time, (bytes "12345678.00"), (7 ∷ 7 ∷ []))
    ∷ (time, (bytes "\"C" ++ ((195 ∷ []) ++ (bytes "\""))), (1 ∷ 1 ∷ []))
    ∷ (time, (bytes "\"" ++ ((195 ∷ []) ++ (bytes "\""))), (1 ∷ 1 ∷ []))
    ∷ (time, (bytes "\"" ++ ((224 ∷ 128 ∷ []) ++ (bytes "\""))), (1 ∷ 1 ∷ []))
    ∷ (time, (bytes "\"" ++ ((237 ∷ 160 ∷ []) ++ (bytes "\""))), (1 ∷ 1 ∷ []))
    ∷ (time, (bytes "\"" ++ ((192 ∷ []) ++ (bytes "\""))), (1 ∷ 1 ∷ []))
    ∷ (time, (bytes "\"" ++ ((245 ∷ []) ++ (bytes "\""))), (1 ∷ 1 ∷ []))
    ∷ (time, (bytes "\"" ++ ((255 ∷ []) ++ (bytes "\""))), (1 ∷ 1 ∷ []))
    ∷ (time, (bytes "-"), (1 ∷ 1 ∷ []))
    ∷ (time, (bytes "."), (1 ∷ 1 ∷ []))
    ∷ (time, (bytes "-."), (1 ∷ 1 ∷ []))
    ∷ (time, (bytes "--1.00"), (1 ∷ 1 ∷ []))
    ∷ (time, (bytes "1..00"), (2 ∷ 2 ∷ []))
    ∷ (time, ((192 ∷ 192 ∷ [])), (1 ∷ 1 ∷ []))
    ∷ (time, (bytes "23605" ++ ((223 ∷ []) ++ (bytes "9"))), (3 ∷ 3 ∷ []))
    ∷ (time, (bytes "24159"), (2 ∷ 2 ∷ []))
    ∷ (time, (bytes "246060"), (2 ∷ 2 ∷ []))
    ∷ (time, (bytes "24226059"), (2 ∷ 2 ∷ []))
    ∷ (time, (bytes "246006"), (2 ∷ 2 ∷ []))
    ∷ (time, (bytes "3" ++ ((143 ∷ 128 ∷ []))), (1 ∷ 1 ∷ []))
    ∷ (time, (bytes "244923"), (2 ∷ 2 ∷ []))
    ∷ (time, (bytes "10601216"), (3 ∷ 3 ∷ []))
    ∷ (time, (bytes "20600" ++ ((9 ∷ []))), (3 ∷ 3 ∷ []))
    ∷ (time, (bytes "195925"), (0 ∷ 0 ∷ []))
    ∷ (time, (bytes "206-59"), (3 ∷ 3 ∷ []))
    ∷ (time, ((223 ∷ []) ++ (bytes "246060")), (1 ∷ 1 ∷ []))
    ∷ (time, (bytes "2"), (2 ∷ 2 ∷ []))
    ∷ (time, (bytes "205960"), (5 ∷ 5 ∷ []))
    ∷ (time, (bytes "62360" ++ ((223 ∷ []))), (1 ∷ 1 ∷ []))
    ∷ (time, (bytes "206052"), (3 ∷ 3 ∷ []))
    ∷ (time, (bytes "3"), (1 ∷ 1 ∷ []))
    ∷ (time, (bytes "23"), (3 ∷ 3 ∷ []))
    ∷ (time, (bytes "235"), (4 ∷ 4 ∷ []))
    ∷ (time, (bytes "236"), (3 ∷ 3 ∷ []))
    ∷ (time, (bytes "2359"), (5 ∷ 5 ∷ []))
    ∷ (time, (bytes "23596"), (5 ∷ 5 ∷ []))
    ∷ (time, (bytes "23595"), (6 ∷ 6 ∷ []))
    ∷ (time, (bytes "2359590"), (7 ∷ 7 ∷ []))
    ∷ (time, (bytes "23:59"), (3 ∷ 3 ∷ []))
    ∷ []

-- each field has the places that the reference gave
pub agreed : misses 0 cases ≡ []
unfolding computed misses cases
agreed = refl
