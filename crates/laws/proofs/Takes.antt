-- Loads and undos of this format are those of the theory, so a file that is taken is one that the theory takes; and what the theory says of it.
use Rattle.std.specs.Prelude.{◌≡◌, Bool, List, ℕ, ◌≤◌, ◌<◌, T, length}
use Rattle.std.proofs.Math.Path.{refl}
use Rattle.std.proofs.Common.{◌∙◌, arith, le→leb}
use Rattle.std.proofs.Math.Bool.{true, false}
use Rattle.std.proofs.Math.Option.{none, some}
use Rattle.std.proofs.Math.Dec.{leb, leb→le}
use Rattle.base.specs.ListLaws.{append_all}
use Rattle.base.specs.Lists.{all, pick, ask, zeros}
use Rattle.base.specs.Tests.{and_l, bools, T_true}
use Rattle.theory.specs.Step.{Change, fails, after, passes}
use Rattle.theory.specs.Trail.{final}
use Rattle.theory.specs.Run.{Out, done, stop, Good}
use Rattle.theory.specs.Answer.{fault, file, took, refused, counts}
use Rattle.theory.specs.ReadBack.{Sound}
use Rattle.theory.proofs.RunLaws.{fine_final, good_final}
use Rattle.theory.proofs.ApplyLaws.{says_apply, apply_took, back_one}
use Rattle.meaning.specs.Format.{Format}
use Rattle.meaning.specs.Records.{Rec, keyed}
use Rattle.meaning.specs.File.{Sheet, read_file}
use Rattle.meaning.specs.Holding.{Held, sound, unsound, read_holding, written}
use Rattle.meaning.specs.Load.{outcome, from_start, on_file, on_holding, if_undo_fits, tried, load, then_zeros, loaded, load_file}
use Rattle.laws.specs.Regular.{Regular}
use Rattle.laws.specs.Body.{fine}
use Rattle.laws.specs.HoldingReadBack.{held_records, holding}
use Rattle.laws.proofs.FileReadBack.{files}
use Rattle.theory.specs.Apply as A
use Rattle.meaning.specs.Answers.{Read, Answer, taken_with, refused_with, alone}
use Rattle.meaning.specs.Steps.{fits, step_rules, held_tests, run_steps, room_tests}
use Rattle.meaning.specs.Undo.{undo_bytes, undo_sheet, undo_held}
use Rattle.meaning.specs.Codes.{holding_too_long, undo_too_long}
use Rattle.laws.specs.Takes.{bad_line, terms}

module _ (F : Format) where
  module _ (regular : Regular F) where
    -- ---- the definitions of the meaning are those of the theory

    -- a load as the theory has it, which knows no 17
    abbrev theirs : ℕ → List ℕ → List ℕ → Answer
    theirs = A.apply (keyed F) (holding F regular) (files F regular) (terms F)

    -- the file b is taken over the holding old, with a buffer of `room` bytes and one long enough for its undo, and gives the holding new
    abbrev pub Takes : ℕ → List ℕ → List ℕ → List ℕ → Type 0
    Takes = A.Applied (keyed F) (holding F regular) (files F regular) (terms F)

    same_run : (cs : List (Change Rec)) (o : Out (List Rec)) → outcome cs o ≡ A.outcome (keyed F) (holding F regular) (files F regular) (terms F) cs o
    unfolding outcome A.outcome
    same_run cs (done st) = refl
    same_run cs (stop n w) = refl

    same_start : (room : ℕ) (st : List Rec) (s : Sheet) → from_start F room st s ≡ A.on_file (keyed F) (holding F regular) (files F regular) (terms F) room st (file s)
    unfolding from_start A.on_file fits fails ask A.if_room
    same_start room st s = go (leb (length (written st)) room)
      where
        go : (c : Bool) → pick c (outcome s.1 (run_steps F room st s.1)) (refused (alone holding_too_long))
            ≡ A.if_room (keyed F) (holding F regular) (files F regular) (terms F) (ask c holding_too_long none)
            (A.outcome (keyed F) (holding F regular) (files F regular) (terms F) s.1 (run_steps F room st s.1))
        go true = same_run s.1 (run_steps F room st s.1)
        go false = refl

    same_file : (room : ℕ) (st : List Rec) (r : Read Sheet) → on_file F room st r ≡ A.on_file (keyed F) (holding F regular) (files F regular) (terms F) room st r
    unfolding on_file A.on_file
    same_file room st (fault r) = refl
    same_file room st (file s) = same_start room st s

    same_held : (room : ℕ) (old b : List ℕ) (h : Held) → read_holding F old ≡ h → on_holding F room b h ≡ A.on_hold (keyed F) (holding F regular) (files F regular) (terms F) room old b (held_records h)
    unfolding on_holding A.on_hold held_records bad_line
    same_held room old b (unsound n) e = rw e
    same_held room old b (sound st) e = same_file room st (read_file F b)

    same_tried : (room : ℕ) (old b : List ℕ) → tried F room old b ≡ theirs room old b
    unfolding tried A.apply
    same_tried room old b = same_held room old b (read_holding F old) refl

    same_sheet : (st : List Rec) (r : Read Sheet) → undo_sheet F st r ≡ A.undo_file (keyed F) (holding F regular) (files F regular) (terms F) st r
    unfolding undo_sheet A.undo_file
    same_sheet st (fault r) = refl
    same_sheet st (file s) = refl

    same_undo : (old b : List ℕ) → undo_bytes F old b ≡ A.undo_of (keyed F) (holding F regular) (files F regular) (terms F) old b
    unfolding undo_bytes A.undo_of A.undo_hold undo_held held_records
    same_undo old b = go (read_holding F old)
      where
        go : (h : Held) → undo_held F b h ≡ A.undo_hold (keyed F) (holding F regular) (files F regular) (terms F) b (held_records h)
        go (unsound n) = refl
        go (sound st) = same_sheet st (read_file F b)

    -- ---- what is taken

    -- such a file passes every test but that of the undo, and gives the new holding and the counts of its body lines
    pub tried_took : (room : ℕ) (old b new : List ℕ) (a : Takes room old b new) → tried F room old b ≡ took new (counts a.cs)
    tried_took room old b new a = same_tried room old b ∙ apply_took (keyed F) (holding F regular) (files F regular) (terms F) room old b new a

    -- and so the load takes it where the undo isn't longer than its buffer
    pub load_took : (room undo_room : ℕ) (old b new : List ℕ) (a : Takes room old b new) → length (undo_bytes F old b) ≤ undo_room
        → load F room undo_room old b ≡ took new (counts a.cs)
    unfolding load if_undo_fits
    load_took room undo_room old b new a h =
        rw (tried_took room old b new a, T_true (leb (length (undo_bytes F old b)) undo_room) (le→leb (length (undo_bytes F old b)) undo_room h))

    -- what is answered and left then
    pub taken : (room undo_room : ℕ) (old b new : List ℕ) (a : Takes room old b new) → length (undo_bytes F old b) ≤ undo_room
        → load_file F old b room undo_room
        ≡ record { answer = taken_with (counts a.cs); output = then_zeros room new; undo = then_zeros undo_room (undo_bytes F old b) }
    unfolding load_file loaded
    taken room undo_room old b new a h = rw (load_took room undo_room old b new a h)

    -- and what where the undo is longer
    pub taken_long : (room undo_room : ℕ) (old b new : List ℕ) → Takes room old b new → undo_room < length (undo_bytes F old b)
        → load_file F old b room undo_room ≡ record { answer = refused_with (alone undo_too_long); output = zeros room; undo = zeros undo_room }
    unfolding load_file loaded load if_undo_fits
    taken_long room undo_room old b new a h = rw (tried_took room old b new a) (go (leb (length (undo_bytes F old b)) undo_room) refl)
      where
        go : (c : Bool) → leb (length (undo_bytes F old b)) undo_room ≡ c
            → loaded room undo_room (undo_bytes F old b) (pick c (took new (counts a.cs)) (refused (alone undo_too_long)))
            ≡ record { answer = refused_with (alone undo_too_long); output = zeros room; undo = zeros undo_room }
        go true e = absurd (omega (arith, h, leb→le (length (undo_bytes F old b)) undo_room (rw e tt)))
        go false e = refl

    -- an answer that takes a file is of a file that is taken
    abbrev pub TookSays : ℕ → List ℕ → List ℕ → Answer → Type 0
    TookSays room old b (took new n) = Takes room old b new
    TookSays room old b (refused r) = Unit {0}

    -- and that is so of every answer: only such a file is taken
    pub took_takes : (room : ℕ) (old b : List ℕ) → TookSays room old b (tried F room old b)
    took_takes room old b = rw (same_tried room old b) (go (theirs room old b) (says_apply (keyed F) (holding F regular) (files F regular) (terms F) room old b))
      where
        go : (x : Answer) → A.Says (keyed F) (holding F regular) (files F regular) (terms F) room old b x → TookSays room old b x
        go (took new n) s = s.0
        go (refused r) s = tt

    -- the undo of a taken file is itself taken, and gives the old bytes back
    pub undo_takes : (room : ℕ) (old b new : List ℕ) → Takes room old b new → Takes room new (undo_bytes F old b) old
    undo_takes room old b new a = rw (same_undo old b) (back_one (keyed F) (holding F regular) (files F regular) (terms F) room old b new a)

    module _ (room : ℕ) (old b new : List ℕ) (a : Takes room old b new) where
      -- the old holding's records are sound, and its bytes are theirs
      pub met_old : (old ≡ written a.st) × Sound (keyed F) (fine F) (held_tests F) a.st
      met_old = (holding F regular).holds old a.st a.held

      -- the old holding passes every test that a step must pass
      pub good_old : Good (keyed F) (step_rules F room) a.st
      good_old = record { asc = met_old.1.asc; pass = all_in }
        where
          all_in : T (passes (step_rules F room).tests a.st)
          all_in =
              let p = met_old.1.pass in
              let q = a.starts in
              search bools

      -- and so does the new one
      pub good_new : Good (keyed F) (step_rules F room) (final (after (keyed F)) a.st a.cs)
      good_new = good_final (keyed F) (step_rules F room) a.st a.cs good_old a.takes

      -- the new holding is read as the records after all steps
      pub new_held : held_records (read_holding F new) ≡ some (final (after (keyed F)) a.st a.cs)
      new_held =
          let st2 = final (after (keyed F)) a.st a.cs in
          let p = append_all (λ t. t.1 st2) (held_tests F) (room_tests room) good_new.pass in
          let f = (files F regular).says b a.fr a.cs a.read in
          let fines : T (all (fine F) st2) = fine_final (keyed F) (fine F) a.st a.cs met_old.1.fines f.1 in
          rw a.made ((holding F regular).writes st2 (record { asc = good_new.asc; fines = fines; pass = p.0 }))

      -- the new holding is not longer than its buffer
      pub new_fits : length new ≤ room
      unfolding fits
      new_fits =
          let st2 = final (after (keyed F)) a.st a.cs in
          let p = append_all (λ t. t.1 st2) (held_tests F) (room_tests room) good_new.pass in
          rw a.made (leb→le (length (written st2)) room (and_l (leb (length (written st2)) room) true p.1))
