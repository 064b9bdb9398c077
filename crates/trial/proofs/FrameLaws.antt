-- The laws of a file's frame: its first line, and what follows its body, are copied as they stand.
use mathlib.Core.Path.{◌≡◌, sym, ap, ◌∙◌}
use mathlib.Core.List.{List, [], ◌∷◌, ◌++◌, append_assoc}
use Prim.Native.Nat.{ℕ, suc, ◌+◌, ◌≤◌, ◌<◌}
use native.Mathlib.Omega.{arith}
use lib.ListN.{length, take, drop, length-append, length-drop}
use lib.Seq.{length-take-le, take_at}
use Rattle.theory.specs.Step.{Change}
use Rattle.meaning.specs.Lines.{Line, lines_of}
use Rattle.meaning.specs.Table.{scottish}
use Rattle.meaning.specs.Records.{Rec, change_texts, joined}
use Rattle.meaning.specs.File.{Frame, write_file}
use Rattle.laws.specs.LinesAndFields.{ends_all, unlines, lines_join, unlines_ends, joined_append, ends_past}
use Rattle.laws.specs.SoundFile.{SoundFile}
use Rattle.laws.proofs.SoundFile.{says_length}
use Rattle.text.specs.Places.{line_len, line_end}
use Rattle.text.proofs.LineLaws.{line_len_le, lines_at}

abbrev first_text : List Line → List ℕ
first_text [] = []
first_text (l ∷ ls) = l.text

module _ (f : List ℕ) (fr : Frame) (cs : List (Change Rec)) (w : SoundFile scottish f fr cs) where
  -- the first line with its CR LF
  abbrev opening : List ℕ
  opening = fr.header_text ++ (13 ∷ 10 ∷ [])

  -- metadata and trailer
  abbrev closing : List (List ℕ)
  closing = fr.metadata_text ∷ fr.trailer_text ∷ []

  bytes : f ≡ opening ++ (joined w.texts ++ joined closing)
  unfolding joined
  bytes =
      sym (lines_join f) ∙ ap unlines w.lines ∙ unlines_ends (fr.header_text ∷ (w.texts ++ closing))
      ∙ ap (λ x. fr.header_text ++ (13 ∷ (10 ∷ x))) (joined_append w.texts closing)
      ∙ sym (append_assoc fr.header_text (13 ∷ 10 ∷ []) (joined w.texts ++ joined closing))

  long : length f ≡ length opening + (length (joined w.texts) + length (joined closing))
  long = ap length bytes ∙ omega (arith, length-append opening (joined w.texts ++ joined closing), length-append (joined w.texts) (joined closing))

  opened : length opening ≡ length fr.header_text + 2
  opened = length-append fr.header_text (13 ∷ 10 ∷ [])

  closed : 0 < length (joined closing)
  unfolding joined
  closed = omega (arith, length-append fr.metadata_text (13 ∷ (10 ∷ joined (fr.trailer_text ∷ []))))

  first : fr.header_text ≡ take (line_len f) f
  first = ap first_text (sym w.lines ∙ lines_at f 0 (omega (arith, long, opened)))

  start : length opening ≡ line_end f 0 + 2
  start = omega (arith, opened, ap length first, length-take-le (line_len f) f (line_len_le f))

  front : take (line_end f 0 + 2) f ≡ opening
  front = ap (take (line_end f 0 + 2)) bytes ∙ take_at opening (joined w.texts ++ joined closing) (line_end f 0 + 2) start

  module _ (e n : ℕ) (q : lines_of (drop e f) ≡ drop (n + 1) (lines_of f)) (k : n ≡ length cs) where
    past : drop (n + 1) (lines_of f) ≡ ends_all closing
    past =
        let z : n + 1 ≡ suc (length w.texts) = omega (arith, says_length scottish 1 w.texts cs w.body) in
        rw z (ap (drop (suc (length w.texts))) w.lines ∙ ends_past w.texts closing)

    rest : drop e f ≡ joined closing
    rest = sym (lines_join (drop e f)) ∙ ap unlines (q ∙ past) ∙ unlines_ends closing

    -- the body ends within the file
    pub frame_ends : e ≤ length f
    frame_ends = omega (arith, length-drop e f, ap length rest, closed)

    -- and not before it starts
    pub frame_opens : line_end f 0 + 2 ≤ e
    frame_opens = omega (arith, length-drop e f, ap length rest, closed, long, start)

    -- a file with this frame
    pub frame_copied : (bs : List (Change Rec)) → write_file fr bs ≡ take (line_end f 0 + 2) f ++ (joined (change_texts 1 bs) ++ drop e f)
    unfolding write_file joined
    frame_copied bs =
        ap (λ x. fr.header_text ++ (13 ∷ (10 ∷ x))) (joined_append (change_texts 1 bs) closing)
        ∙ sym (append_assoc fr.header_text (13 ∷ 10 ∷ []) (joined (change_texts 1 bs) ++ joined closing))
        ∙ rw (front, rest)
