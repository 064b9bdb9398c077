-- The laws of load: what it leaves where the trial refuses, where the undo is too long, and where the file is taken.
use mathlib.Core.Path.{◌≡◌, refl, sym, ap, ◌∙◌}
use mathlib.Core.Bool.{Bool, true, false, false≢true}
use mathlib.Core.List.{List}
use Prim.Native.Nat.{ℕ, ◌≤◌}
use native.Mathlib.Omega.{arith}
use lib.Dec.{leb}
use lib.ListN.{length}
use Rattle.base.specs.Lists.{zeros}
use Rattle.theory.specs.Answer.{took, refused}
use Rattle.meaning.specs.Table.{scottish}
use Rattle.meaning.specs.Codes.{undo_too_long}
use Rattle.meaning.specs.File.{most_body}
use Rattle.meaning.specs.Holding.{written}
use Rattle.meaning.specs.Load.{then_zeros, loaded, if_undo_fits, tried, load, load_file}
use Rattle.meaning.specs.Answers.{alone}
use Rattle.meaning.specs.Undo.{undo_bytes}
use Rattle.places.specs.Places.{says}
use Rattle.std.specs.Prelude.{Result, Ok, Err, IsErrAnd, is_err}
use Rattle.answers.specs.declared.numbers.Counts.{Counts}
use Rattle.answers.specs.declared.refusal.Refusal.{Refusal}
use Rattle.answers.specs.Meant.{answer_said, counts_meant, refusal_meant}
use Rattle.trial.specs.declared.Trial.{Trial}
use Rattle.trial.specs.Trial.{undo_text, Taken}
use Rattle.loader.specs.Lent.{Lent}
use Rattle.loader.specs.Outcome.{Outcome, TakenAs}

-- what the trial refuses
pub load_refused : (h f : List ℕ) (room undo_room : ℕ) (r : Refusal) → tried scottish room h f ≡ refused (refusal_meant r) → load scottish room undo_room h f ≡ refused (refusal_meant r)
unfolding load if_undo_fits
load_refused h f room undo_room r e = ap (if_undo_fits undo_room (undo_bytes scottish h f)) e

-- on a refusal both buffers are zeros
pub load_cleared : (h f : List ℕ) (room undo_room : ℕ) (r : Refusal) (out undo : List ℕ) → load scottish room undo_room h f ≡ refused (refusal_meant r) → out ≡ zeros room → undo ≡ zeros undo_room
    → Outcome h f room undo_room (answer_said (Err r)) out undo
unfolding load_file loaded
load_cleared h f room undo_room r out undo e o z = rw e (refl, o, z)

-- so it refuses that, with the buffers as they were
pub load_stopped : (h f : List ℕ) (room undo_room : ℕ) (d : Refusal) → tried scottish room h f ≡ refused (refusal_meant d) → (p : Result Counts Refusal) → IsErrAnd p (λ y. y ≡ d) → (out undo : List ℕ) → length out ≡ room
    → length undo ≡ undo_room → TakenAs h f room undo_room p out undo
load_stopped h f room undo_room d e (Ok n) w out undo o z = absurd w
load_stopped h f room undo_room d e (Err y) w out undo o z = (load_refused h f room undo_room d e ∙ ap (λ x. refused (refusal_meant x)) (sym w), o, z)

-- with both buffers zeros
pub load_refused_is : (h f : List ℕ) (room undo_room : ℕ) (p : Result Counts Refusal) (x y : List ℕ) → TakenAs h f room undo_room p x y → (out undo : List ℕ) → is_err p ≡ true → out ≡ zeros (length x) → undo ≡ zeros (length y)
    → Outcome h f room undo_room (answer_said p) out undo
load_refused_is h f room undo_room (Ok n) x y w out undo e o z = absurd (false≢true e)
load_refused_is h f room undo_room (Err r) x y w out undo e o z = load_cleared h f room undo_room r out undo w.0 (o ∙ ap zeros w.1) (z ∙ ap zeros w.2)

module _ (h f b t u : List ℕ) (room : ℕ) (r : Trial) (w : Taken h f b t u room r) where
  -- there is an entry for each step
  pub load_steps : most_body ≤ length t → r.steps ≤ length t
  load_steps l = omega (arith, w.few)

  -- the writer of the undo is lent what it asks for
  pub load_lent : most_body ≤ length u → Lent f u r.steps r.end
  load_lent l = record { each = omega (arith, w.few); opens = w.opens; ends = w.ends }

  module _ (undo_room : ℕ) where
    -- the undo as it is written
    abbrev text : List ℕ
    text = undo_text h f t u r.steps r.end

    module _ (c : Bool) (e : c ≡ leb (length text) undo_room) where
      tells : load scottish room undo_room h f ≡ if_undo_fits undo_room text (took (written (says h f b r.count)) (counts_meant r.counts))
      unfolding load
      tells = ap (λ x. if_undo_fits undo_room x (tried scottish room h f)) w.undoes ∙ ap (if_undo_fits undo_room text) w.made

      -- the undo is too long
      pub load_long : c ≡ false → load scottish room undo_room h f ≡ refused (alone undo_too_long)
      unfolding if_undo_fits
      load_long y = tells ∙ rw (← e, y)

      -- the file is taken
      pub load_done : c ≡ true → (out undo : List ℕ) → out ≡ then_zeros room (written (says h f b r.count)) → undo ≡ then_zeros undo_room text
          → Outcome h f room undo_room (answer_said (Ok r.counts)) out undo
      unfolding load_file loaded if_undo_fits
      load_done y out undo o z = rw (w.undoes, tells, ← e, y) (refl, o, z)
