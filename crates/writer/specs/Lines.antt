-- The lines that are written.
use Rattle.std.specs.Prelude.{List, [], ◌∷◌, ◌++◌, ℕ}
use Rattle.theory.specs.Step.{Op, Change}
use Rattle.meaning.specs.Kinds.{Kind, ident}
use Rattle.meaning.specs.Records.{Rec, letter, change_text}

-- the line of a change, numbered n, with its CR LF
unfoldable pub line_bytes : ℕ → Change Rec → List ℕ
line_bytes n c = change_text n c ++ (13 ∷ 10 ∷ [])

-- what stands before a line's number: identifier and CHANGE_TYPE, each with its comma
unfoldable pub line_front : Kind → Op → List ℕ
line_front k o = ident k ++ (44 ∷ (letter o ++ (44 ∷ [])))

-- what stands after it: a comma, the content, CR LF
unfoldable pub line_back : List ℕ → List ℕ
line_back c = 44 ∷ (c ++ (13 ∷ 10 ∷ []))
