-- The tables can fail: a case with one wrong number, or one wrong byte of either buffer, is found.
use Rattle.std.specs.Prelude.{◌≡◌, refl, List, [], ◌∷◌, ℕ}
use Rattle.meaning.specs.Computes.{computed}
use Rattle.cases.specs.Cases.{Case, misses, opened}

-- no holding and no file: 3 at line 1 and nothing written, where the case says which line and which bytes are wanted
unfoldable pub empty : ℕ → List ℕ → List ℕ → Case
empty line out undone = record {
  old = [];
  change = [];
  room = 2;
  undo_room = 3;
  file_wants = 3 ∷ line ∷ 0 ∷ 0 ∷ 0 ∷ 0 ∷ 0 ∷ [];
  held_wants = 0 ∷ 0 ∷ 0 ∷ [];
  load_wants = 3 ∷ 1 ∷ 0 ∷ 0 ∷ 0 ∷ 0 ∷ 0 ∷ [];
  output = out;
  undo_output = undone;
}

-- of six such cases, the two that want another line and the two that want a byte are named
pub control : misses 0 (empty 1 [] [] ∷ empty 2 [] [] ∷ empty 1 [] [] ∷ empty 0 [] [] ∷ empty 1 (1 ∷ []) [] ∷ empty 1 [] (1 ∷ []) ∷ []) ≡ 1 ∷ 3 ∷ 4 ∷ 5 ∷ []
unfolding computed opened empty
control = refl
