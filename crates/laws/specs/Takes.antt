-- Loads and undos of this format are those of the theory, so a file that is taken is one that the theory takes; and what the theory says of it.
use Rattle.std.specs.Prelude.{List, ℕ}
use Rattle.meaning.specs.Format.{Format}
use Rattle.meaning.specs.Records.{Rec}
use Rattle.meaning.specs.Holding.{Held, sound, unsound, read_holding}
use Rattle.theory.specs.Apply as A
use Rattle.meaning.specs.Answers.{Refusal, of_line, at_line}
use Rattle.meaning.specs.Steps.{key_code, room_tests}
use Rattle.meaning.specs.Codes.{holding_unsound}

module _ (F : Format) where
  -- ---- the definitions of the meaning are those of the theory

  -- the line of a holding's lowest fault
  unfoldable pub bad_line : List ℕ → ℕ
  bad_line b = go (read_holding F b)
    where
      go : Held → ℕ
      go (sound st) = 0
      go (unsound n) = n

  -- what the theory asks besides
  abbrev pub terms : A.Terms Refusal Rec
  terms = record { Room = ℕ; late = room_tests; key_code = key_code; faulty = λ b. at_line (bad_line b) (of_line holding_unsound); stopped = λ line code. at_line line (of_line code) }
