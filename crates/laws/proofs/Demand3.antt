-- Demand 3 for one file: what its undo says, and that it is a sound file; that it is taken and gives the old holding back stands in Takes.
use Rattle.std.specs.Prelude.{◌≡◌, ℕ, T, length}
use Rattle.std.proofs.Math.Path.{refl, sym, ap}
use Rattle.std.proofs.Common.{◌∙◌, subst, arith}
use mathlib.Core.List.{List, [], ◌∷◌, ◌++◌}
use Rattle.theory.specs.Step.{Op, ins, upd, del, Change, after, inv, back}
use Rattle.theory.specs.Trail.{final, undo}
use Rattle.theory.specs.Answer.{file, count, is_op, counts}
use Rattle.theory.proofs.TrailLaws.{length_undo}
use Rattle.theory.proofs.RunLaws.{fine_undo}
use Rattle.theory.proofs.RoomLaws.{sum_append}
use Rattle.meaning.specs.Format.{Format}
use Rattle.meaning.specs.Records.{Rec, keyed, change_texts}
use Rattle.meaning.specs.File.{Frame, read_file, write_file}
use Rattle.meaning.specs.Holding.{read_holding, written}
use Rattle.meaning.specs.Load.{checked, check_file}
use Rattle.meaning.specs.Answers.{taken_with}
use Rattle.meaning.specs.Undo.{undo_bytes, undo_sheet, undo_held}
use Rattle.laws.specs.Regular.{Regular}
use Rattle.laws.specs.LinesAndFields.{ends_all, unlines, lines_join, unlines_ends}
use Rattle.laws.specs.Body.{fine}
use Rattle.laws.specs.SoundHolding.{held_sound}
use Rattle.laws.specs.SoundFile.{SaysChanges, SoundFile}
use Rattle.laws.proofs.SoundFile.{read_sound}
use Rattle.laws.specs.FileReadBack.{suits}
use Rattle.laws.proofs.FileReadBack.{file_reads, file_says}
use Rattle.laws.proofs.Takes.{Takes, met_old}
use Rattle.laws.specs.Demand3.{exchanged}

op_inv : (o p : Op) → is_op o (inv p) ≡ is_op (inv o) p
op_inv ins ins = refl
op_inv ins upd = refl
op_inv ins del = refl
op_inv upd ins = refl
op_inv upd upd = refl
op_inv upd del = refl
op_inv del ins = refl
op_inv del upd = refl
op_inv del del = refl

module _ (F : Format) where
  -- ---- what the undo counts

  count_undo : (o : Op) (st : List Rec) (cs : List (Change Rec)) → count o (undo (after (keyed F)) (back (keyed F)) st cs) ≡ count (inv o) cs
  unfolding count back
  count_undo o st [] = refl
  count_undo o st (c ∷ cs) =
      sum_append (λ c. is_op o c.op) (undo (after (keyed F)) (back (keyed F)) (after (keyed F) st c) cs) (back (keyed F) st c ∷ [])
      ∙ omega (arith, count_undo o (after (keyed F) st c) cs, op_inv o c.op)

  -- ---- an empty body

  no_texts : (n : ℕ) (ts : List (List ℕ)) → SaysChanges F n ts [] → ts ≡ []
  no_texts n [] s = refl
  no_texts n (t ∷ ts) s = absurd s

  empty_file : (b : List ℕ) (fr : Frame) → SoundFile F b fr [] → b ≡ write_file fr []
  unfolding write_file change_texts
  empty_file b fr s =
      let around : List (List ℕ) → List (List ℕ) = λ ts. fr.header_text ∷ (ts ++ (fr.metadata_text ∷ fr.trailer_text ∷ [])) in
      sym (lines_join b) ∙ ap unlines (s.lines ∙ ap (λ ts. ends_all (around ts)) (no_texts 1 s.texts s.body)) ∙ unlines_ends (around [])

  module _ (regular : Regular F) where
    module _ (room : ℕ) (old b new : List ℕ) (a : Takes F regular room old b new) where
      -- ---- the undo's bytes

      -- the steps backwards
      abbrev pub steps_back : List (Change Rec)
      steps_back = undo (after (keyed F)) (back (keyed F)) a.st a.cs

      -- the undo's bytes are the file's header, metadata and trailer around the steps backwards
      pub undo_is_lem : undo_bytes F old b ≡ write_file a.fr steps_back
      unfolding undo_bytes undo_held undo_sheet
      undo_is_lem = rw (held_sound old a.st (read_holding F old) a.held, a.read)

      -- and they are read as that
      pub undo_reads : read_file F (undo_bytes F old b) ≡ file (a.fr, steps_back)
      undo_reads =
          let f = file_says F regular b a.fr a.cs a.read in
          let s : T (suits F a.fr (length steps_back)) = rw (length_undo (after (keyed F)) (back (keyed F)) a.st a.cs) f.0 in
          rw undo_is_lem (file_reads F regular a.fr steps_back s (fine_undo (keyed F) (fine F) a.st a.cs (met_old F regular room old b new a).1.fines f.1))

      -- the undo is a sound file
      pub undo_sound : SoundFile F (undo_bytes F old b) a.fr steps_back
      undo_sound = read_sound F (undo_bytes F old b) a.fr steps_back undo_reads

      -- the check of it answers the file's counts with inserts and deletes exchanged
      pub undo_checks : check_file F (undo_bytes F old b) ≡ taken_with (exchanged (counts a.cs))
      unfolding check_file checked
      undo_checks = rw (undo_reads, count_undo ins a.st a.cs, count_undo upd a.st a.cs, count_undo del a.st a.cs)

    -- ---- an empty body: the holding is unchanged and the undo is the file itself

    -- a file without body lines leaves the holding as it is, and is its own undo
    pub empty_body : (room : ℕ) (old b new : List ℕ) (a : Takes F regular room old b new) → a.cs ≡ [] → (new ≡ old) × (undo_bytes F old b ≡ b)
    empty_body room old b new a e =
        let s : SoundFile F b a.fr [] = subst (SoundFile F b a.fr) e (read_sound F b a.fr a.cs a.read) in (
          a.made ∙ ap (λ cs. written (final (after (keyed F)) a.st cs)) e ∙ sym (met_old F regular room old b new a).0,
          undo_is_lem room old b new a ∙ ap (λ cs. write_file a.fr (undo (after (keyed F)) (back (keyed F)) a.st cs)) e ∙ sym (empty_file b a.fr s),
        )
