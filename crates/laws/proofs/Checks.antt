-- The two checks by their answers: 0 just where every line is allowed in its place, and a fault that nothing after it can change.
use Rattle.std.specs.Prelude.{◌≡◌, List, ◌++◌, ℕ, ◌+◌, ◌≤◌}
use Rattle.std.proofs.Math.Path.{refl, sym, ap}
use Rattle.std.proofs.Common.{◌∙◌, arith}
use Rattle.std.proofs.Math.ListN.{length}
use Rattle.theory.specs.Step.{Change}
use Rattle.theory.specs.Answer.{fault, file, counts}
use Rattle.meaning.specs.Lines.{Line, lines_of}
use Rattle.meaning.specs.Format.{Format}
use Rattle.meaning.specs.Records.{Rec}
use Rattle.meaning.specs.File.{Frame, Sheet, at_start, read_from, read_file}
use Rattle.meaning.specs.Holding.{Held, sound, unsound, read_holding, written}
use Rattle.meaning.specs.Load.{checked, check_file, held_numbers, check_holding}
use Rattle.meaning.specs.Answers.{Read, no_fault, taken_with}
use Rattle.laws.specs.Regular.{Regular}
use Rattle.laws.specs.LinesAndFields.{unlines, lines_join, unlines_ends}
use Rattle.laws.specs.SoundHolding.{SoundHolding, sound_held, held_is_sound}
use Rattle.laws.specs.SoundFile.{SoundFile}
use Rattle.laws.proofs.SoundFile.{sound_read, read_sound}
use Rattle.laws.specs.FileRefusals.{ReadIn, among, file_codes_lem}
use Rattle.laws.specs.FirstFault.{SameFault}
use Rattle.laws.proofs.FirstFault.{nothing_after}
use Rattle.laws.specs.Checks.{SomeFile, SomeHolding}

module _ (F : Format) where
  -- ---- a file

  -- a file whose every line is allowed in its place gets 0, and its body lines are counted
  pub file_checked : (b : List ℕ) (fr : Frame) (cs : List (Change Rec)) → SoundFile F b fr cs → check_file F b ≡ taken_with (counts cs)
  unfolding check_file checked
  file_checked b fr cs s = rw (sound_read F b fr cs s)

  -- a refusal counts nothing
  pub refused_counts : (b : List ℕ) → ((check_file F b).code ≡ 0 → ⊥) → ((check_file F b).inserts ≡ 0) × ((check_file F b).updates ≡ 0) × ((check_file F b).deletes ≡ 0)
  unfolding check_file checked
  refused_counts b n = go (read_file F b) n
    where
      go : (r : Read Sheet) → ((checked r).code ≡ 0 → ⊥) → ((checked r).inserts ≡ 0) × ((checked r).updates ≡ 0) × ((checked r).deletes ≡ 0)
      go (fault r) n = (refl, refl, refl)
      go (file s) n = absurd (n refl)

  -- files that agree in their first lines get the same answer, where the first fault is at one of those
  pub same_answer : (b c : List ℕ) (ls ms ns : List Line) → lines_of b ≡ ls ++ ms → lines_of c ≡ ls ++ ns → ((check_file F b).code ≡ 0 → ⊥) → (check_file F b).line ≤ length ls → check_file F c ≡ check_file F b
  unfolding check_file checked read_file
  same_answer b c ls ms ns p q n h =
      rw (p, q) (go (read_from F 1 at_start 0 (ls ++ ms)) (read_from F 1 at_start 0 (ls ++ ns)) (nothing_after F 1 at_start 0 ls ms ns) (rw p at n) (rw p at h))
    where
      go : (r s : Read Sheet) → SameFault (1 + length ls) r s → ((checked r).code ≡ 0 → ⊥) → (checked r).line ≤ length ls → checked s ≡ checked r
      go (fault r) s i n h = ap checked (i (omega arith))
      go (file x) s i n h = absurd (n refl)

  -- ---- a holding

  -- its bytes are its records as they are written
  pub held_bytes : (b : List ℕ) (st : List Rec) → SoundHolding F b st → b ≡ written st
  unfolding written
  held_bytes b st s = sym (lines_join b) ∙ ap unlines s.lines ∙ unlines_ends _

  module _ (regular : Regular F) where
    -- ---- only such a file, and only such a holding, gets 0

    -- a file that gets 0 is sound
    pub checked_file : (b : List ℕ) → (check_file F b).code ≡ 0 → SomeFile F b
    unfolding check_file checked
    checked_file b e = go (read_file F b) refl (file_codes_lem F regular b) e
      where
        go : (r : Read Sheet) → read_file F b ≡ r → ReadIn r → (checked r).code ≡ 0 → SomeFile F b
        go (fault r) q i z = absurd (unfold among in (rw z at i))
        go (file s) q i z = record { frame = s.0; changes = s.1; sounds = read_sound F b s.0 s.1 q }

    -- a sound holding gets 0
    pub holding_checked : (b : List ℕ) (st : List Rec) → SoundHolding F b st → check_holding F b ≡ no_fault
    unfolding check_holding held_numbers
    holding_checked b st s = rw (sound_held F regular b st s)

    -- and a holding that gets 0 is sound
    pub checked_holding : (b : List ℕ) → (check_holding F b).code ≡ 0 → SomeHolding F b
    unfolding check_holding held_numbers
    checked_holding b e = go (read_holding F b) refl e
      where
        go : (h : Held) → read_holding F b ≡ h → (held_numbers h).code ≡ 0 → SomeHolding F b
        go (sound st) q z = record { state = st; sounds = held_is_sound F regular b st q }
        go (unsound n) q z = absurd (omega (arith, z))

    -- a holding's records are determined by its bytes
    pub held_only : (b : List ℕ) (st ss : List Rec) → SoundHolding F b st → SoundHolding F b ss → st ≡ ss
    held_only b st ss s t = let e : sound st ≡ sound ss = sym (sound_held F regular b st s) ∙ sound_held F regular b ss t in cc
