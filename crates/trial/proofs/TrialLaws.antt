-- The laws of a trial: what is answered at each refusal, and what a file that is taken leaves.
use mathlib.Core.Path.{◌≡◌, refl, sym, ap, ◌∙◌}
use mathlib.Core.List.{List, ◌++◌}
use Prim.Native.Nat.{ℕ, ◌+◌, ◌≤◌, ◌<◌}
use native.Mathlib.Omega.{arith}
use borrow.Author.Tests.{le-leb, lt-leb}
use lib.Dec.{T}
use lib.ListN.{length, take, drop}
use Rattle.base.specs.Lists.{pick}
use Rattle.theory.specs.Step.{after, back}
use Rattle.theory.proofs.TrailLaws.{length_undo}
use Rattle.theory.specs.Answer.{fault, file, took, refused, counts}
use Rattle.meaning.specs.Table.{scottish}
use Rattle.meaning.specs.Records.{Rec, keyed, change_texts, joined}
use Rattle.meaning.specs.File.{Sheet, read_file}
use Rattle.meaning.specs.Holding.{sound, unsound, read_holding, written, most_records}
use Rattle.meaning.specs.Load.{outcome, from_start, on_file, on_holding, tried, checked, check_file}
use Rattle.meaning.specs.Steps.{fits, run_steps}
use Rattle.meaning.specs.Undo.{undo_sheet, undo_held, undo_bytes, undo_body}
use Rattle.laws.specs.FileRefusals.{ReadIn, among, file_codes_lem}
use Rattle.laws.specs.SoundHolding.{held_is_sound}
use Rattle.laws.specs.SoundFile.{SoundFile}
use Rattle.laws.proofs.SoundFile.{read_sound}
use Rattle.laws.proofs.Checks.{held_bytes}
use Rattle.laws.specs.Scottish.{scottish_regular}
use Rattle.text.specs.Places.{line_end}
use Rattle.std.specs.Prelude.{Result, Ok, Err, IsErrAnd}
use Rattle.std.specs.Result.{result_unwrap_or}
use Rattle.std.proofs.Common.{subst}
use Rattle.answers.specs.declared.numbers.Counts.{Counts}
use Rattle.answers.specs.declared.refusal.Refusal.{Refusal}
use Rattle.answers.specs.Meant.{counts_meant, refusal_meant, said}
use Rattle.answers.proofs.SaidLaws.{code_above, refusal_said}
use Rattle.meaning.specs.Codes.{holding_too_long, holding_unsound}
use Rattle.meaning.specs.Answers.{of_line, at_line, alone, taken_with, refused_with, Read}
use Rattle.places.specs.Places.{says}
use Rattle.places.specs.Changes.{steps_back}
use Rattle.places.proofs.BackLaws.{length_back}
use Rattle.holding.specs.Read.{records_of, SoundIs, HeldIs}
use Rattle.holding.proofs.ReadLaws.{Refused, held_state, held_ordered}
use Rattle.judge.specs.Ready.{IsShort, Ready}
use Rattle.steps.specs.declared.run.Ran.{Ran}
use Rattle.steps.specs.Run.{is_file, changes_of, ran_as, Kept, Runs}
use Rattle.writer.specs.Runs.{back_texts}
use Rattle.trial.specs.declared.Trial.{Trial}
use Rattle.trial.specs.Trial.{undo_text, Taken, Tries}
use Rattle.trial.proofs.FrameLaws.{frame_ends, frame_opens, frame_copied}

-- ---- each refusal

-- 14 for an unsound holding
pub trial_unsound : (h f : List ℕ) (room l : ℕ) → read_holding scottish h ≡ unsound l → tried scottish room h f ≡ refused (at_line l (of_line holding_unsound))
unfolding tried on_holding
trial_unsound h f room l e = ap (on_holding scottish room f) e

-- what the reading of a holding refuses
pub trial_unheld : (h f : List ℕ) (room : ℕ) (a o tl : List ℕ) (r : Result ℕ ℕ) → HeldIs h r a o tl → (q : Result ℕ Refusal) → Refused r q → (d : Refusal) → q ≡ Err d → tried scottish room h f ≡ refused (refusal_meant d)
trial_unheld h f room a o tl (Ok n) s q m d e = absurd (let z : ◌≡◌ {A = Result ℕ Refusal} (Err d) (Ok n) = sym e ∙ m in cc)
trial_unheld h f room a o tl (Err l) s q m d e =
    let v : refusal_meant d ≡ at_line l (of_line holding_unsound) = subst (λ x. IsErrAnd x (λ d. refusal_meant d ≡ at_line l (of_line holding_unsound))) e m in
    trial_unsound h f room l s ∙ ap refused (sym v)

-- what it takes
pub trial_held : (h : List ℕ) (a o tl : List ℕ) (r : Result ℕ ℕ) → HeldIs h r a o tl → (q : Result ℕ Refusal) → Refused r q → (n : ℕ) → q ≡ Ok n → SoundIs h n a o tl
trial_held h a o tl (Ok x) s q m n e = let z : ◌≡◌ {A = Result ℕ Refusal} (Ok x) (Ok n) = sym m ∙ e in let y : x ≡ n = ap (λ r. result_unwrap_or r 0) z in subst (λ k. SoundIs h k a o tl) y s
trial_held h a o tl (Err l) s q m n e = absurd (subst (λ x. IsErrAnd x (λ d. refusal_meant d ≡ at_line l (of_line holding_unsound))) e m)

-- an error that is handed on
pub tries_err : (h f b t u : List ℕ) (room : ℕ) (d : Refusal) → tried scottish room h f ≡ refused (refusal_meant d) → (p : Result Trial Refusal) → IsErrAnd p (λ y. y ≡ d) → Tries h f b t u room p
tries_err h f b t u room d e (Ok r) w = absurd w
tries_err h f b t u room d e (Err y) w = e ∙ ap (λ x. refused (refusal_meant x)) (sym w)

module _ (h f : List ℕ) (room m : ℕ) (a o tl : List ℕ) (w : SoundIs h m a o tl) where
  -- the holding's records
  abbrev st : List Rec
  st = records_of (read_holding scottish h)

  sounds : read_holding scottish h ≡ sound st
  sounds = w.sound

  bytes : h ≡ written st
  bytes = held_bytes scottish h st (held_is_sound scottish scottish_regular h st sounds)

  -- so the file is judged
  on_file_lem : tried scottish room h f ≡ on_file scottish room st (read_file scottish f)
  unfolding tried on_holding
  on_file_lem = ap (on_holding scottish room f) sounds

  -- the file's own fault
  pub trial_faulty : (r : Refusal) → said (Err r) ≡ check_file scottish f → tried scottish room h f ≡ refused (refusal_meant r)
  unfolding check_file
  trial_faulty r e = on_file_lem ∙ go (read_file scottish f) e
    where
      go : (u : Read Sheet) → refused_with (refusal_meant r) ≡ checked u → on_file scottish room st u ≡ refused (refusal_meant r)
      go (fault q) p = unfold on_file checked in ap refused (sym (refusal_said r q p))
      go (file s) p = absurd (unfold checked in code_above r.code (ap (λ y. y.code) p))

  module _ (c : Counts) (e : said (Ok c) ≡ check_file scottish f) where
    -- what was read of the file
    pub record Reads : Type 0 where
      pub sheet : Sheet
      pub reads : read_file scottish f ≡ file sheet
      pub counted : counts_meant c ≡ counts sheet.1

    read : Reads
    unfolding check_file
    read = go (read_file scottish f) refl (file_codes_lem scottish scottish_regular f) e
      where
        go : (u : Read Sheet) → read_file scottish f ≡ u → ReadIn u → taken_with (counts_meant c) ≡ checked u → Reads
        go (fault r) q i p = absurd (unfold checked among in (rw (sym (ap (λ y. y.code) p)) at i))
        go (file s) q i p = unfold checked in record { sheet = s; reads = q; counted = ap (λ n. record { inserts = n.inserts; updates = n.updates; deletes = n.deletes }) p }

    -- it is a sound file
    pub is_file_lem : T (is_file (read_file scottish f))
    is_file_lem = rw read.reads tt

    -- so the room is asked for
    on_start : tried scottish room h f ≡ from_start scottish room st read.sheet
    unfolding on_file
    on_start = on_file_lem ∙ ap (on_file scottish room st) read.reads

    -- 13 for the start
    pub trial_short : room < length h → tried scottish room h f ≡ refused (alone holding_too_long)
    unfolding from_start fits
    trial_short s = on_start ∙ rw (lt-leb (length (written st)) room (omega (arith, ap length bytes)))

    module _ (s : length h ≤ room) where
      -- so the steps are made
      on_steps : tried scottish room h f ≡ outcome read.sheet.1 (run_steps scottish room st read.sheet.1)
      unfolding from_start fits
      on_steps = on_start ∙ ap (λ b. pick b (outcome read.sheet.1 (run_steps scottish room st read.sheet.1)) (refused (alone holding_too_long))) (le-leb (length (written st)) room (omega (arith, ap length bytes)))

      -- the holding as it stands is ready for them
      pub trial_ready : most_records ≤ length a → most_records ≤ length o → most_records ≤ length tl → IsShort room → IsShort (length h) → IsShort (length f)
          → Ready h f a o tl room (record { count = m; size = length h })
      trial_ready p d k u v x =
          let y : says h f a m ≡ st = w.listed.says f in
          record {
            holds = record {
              ordered = held_ordered h a o tl m w f p;
              pass = rw y (held_state h a o tl m w).pass;
              sized = ap length bytes ∙ ap (λ l. length (written l)) (sym y);
              fits = s;
              room_short = u;
              held_short = v;
              file_short = x;
            };
            counted = rw y w.told;
            space = p;
            tag_space = d;
            count_space = k;
          }

      said_held : says h f a m ≡ st
      said_held = w.listed.says f

      module _ (b o' tl' t u : List ℕ) where
        -- the run of the file's changes
        ran : (x : Result Ran Refusal) → Runs h f a b o' tl' t u room (record { count = m; size = length h }) x → ran_as h f b x ≡ run_steps scottish room st read.sheet.1
        ran x y = y.ended ∙ ap (λ l. run_steps scottish room l (changes_of (read_file scottish f))) said_held ∙ ap (λ u. run_steps scottish room st (changes_of u)) read.reads

        -- a step is refused
        pub trial_stopped : (r : Refusal) → Runs h f a b o' tl' t u room (record { count = m; size = length h }) (Err r) → tried scottish room h f ≡ refused (refusal_meant r)
        unfolding outcome
        trial_stopped r y = on_steps ∙ ap (outcome read.sheet.1) (sym (ran (Err r) y)) ∙ ap refused (sym (y.refused r refl))

        module _ (n : Ran) (y : Runs h f a b o' tl' t u room (record { count = m; size = length h }) (Ok n)) where
          kept : Kept h f a t u (record { count = m; size = length h }) n
          kept = y.kept n refl

          ready : Ready h f b o' tl' room n.state
          ready = y.ready n refl

          -- all steps made
          made : tried scottish room h f ≡ took (written (says h f b n.state.count)) (counts_meant c)
          unfolding outcome
          made = on_steps ∙ ap (outcome read.sheet.1) (sym (ran (Ok n) y)) ∙ ap (took (written (says h f b n.state.count))) (sym read.counted)

          -- and how they are taken back
          backed : steps_back h f t u n.steps ≡ undo_body scottish st read.sheet.1
          backed = kept.backed ∙ ap (λ l. undo_body scottish l (changes_of (read_file scottish f))) said_held ∙ ap (λ u. undo_body scottish st (changes_of u)) read.reads

          file_sound : SoundFile scottish f read.sheet.0 read.sheet.1
          file_sound = read_sound scottish f read.sheet.0 read.sheet.1 read.reads

          many : n.steps ≡ length read.sheet.1
          many = sym (length_back h f t u n.steps) ∙ ap length backed ∙ length_undo (after (keyed scottish)) (back (keyed scottish)) st read.sheet.1

          undoes : undo_bytes scottish h f ≡ undo_text h f t u n.steps n.end
          unfolding undo_bytes undo_held undo_sheet back_texts undo_text
          undoes =
              ap (undo_held scottish f) sounds ∙ ap (undo_sheet scottish st) read.reads
              ∙ frame_copied f read.sheet.0 read.sheet.1 file_sound n.end n.steps kept.rest many (undo_body scottish st read.sheet.1)
              ∙ ap (λ l. take (line_end f 0 + 2) f ++ (joined (change_texts 1 l) ++ drop n.end f)) (sym backed)

          -- what a file that is taken leaves
          pub trial_done : Taken h f b t u room (record { counts = c; count = n.state.count; steps = n.steps; end = n.end })
          trial_done = record {
            made = made;
            held = ready.holds.ordered.within;
            fits = omega (arith, ready.holds.sized, ready.holds.fits);
            few = kept.few;
            opens = frame_opens f read.sheet.0 read.sheet.1 file_sound n.end n.steps kept.rest many;
            ends = frame_ends f read.sheet.0 read.sheet.1 file_sound n.end n.steps kept.rest many;
            undoes = undoes;
          }
