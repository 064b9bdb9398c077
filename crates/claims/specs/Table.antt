-- Paper 01, 'Both sides of each line': the lines marked [p] as one table under one claim; and its worked example, of what the operations answer and leave.
use Rattle.std.specs.Prelude.{◌≡◌, true, List, [], ◌∷◌, ◌++◌, ℕ, T, eqb, length}
use Rattle.std.proofs.Common.{ap, ◌∙◌}
use Rattle.base.specs.Lists.{all}
use Rattle.meaning.specs.Load.{then_zeros}
use Rattle.meaning.specs.Examples.{claims, paper_lines, places, place_lines, lines, taken, old_is, change_is, new_is, undo_is, worked_example, printed_whole}
use Rattle.text.specs.Front.{in_front}
use Rattle.answers.specs.Meant.{answer_of}
use Rattle.answers.specs.declared.numbers.Answer.{Answer}
use Rattle.loader.specs.Outcome.{Outcome}
use Rattle.program.specs.Outcome.{PrintOutcome}

-- the lines marked [p]: each is answered as the paper says
pub p_table : T (all (λ c. eqb c.answer c.wanted) claims)
p_table = paper_lines

-- places of fields, as paper 02's request 01 is read
pub place_table : T (all (λ c. eqb c.answer c.wanted) places)
place_table = place_lines

-- the paper's file over the paper's holding: taken, with one insert and one update; the new holding is the paper's, and the undo is an update of 500
-- with the old content, then a delete of the cross reference
pub worked : (r : Answer) (out undo : List ℕ) → Outcome old_is change_is 200 400 r out undo
    → (r ≡ answer_of (taken 1 1 0)) × (out ≡ then_zeros 200 new_is) × (undo ≡ then_zeros 400 undo_is)
worked r out undo o =
    let w = worked_example.0 in
    (o.0 ∙ ap (λ x. answer_of x.answer) w, o.1 ∙ ap (λ x. x.output) w, o.2 ∙ ap (λ x. x.undo) w)

-- handed in, the undo gives the old holding back, and its own undo is the paper's file
pub worked_back : (r : Answer) (out undo : List ℕ) → Outcome new_is undo_is 200 400 r out undo
    → (r ≡ answer_of (taken 0 1 1)) × (out ≡ then_zeros 200 old_is) × (undo ≡ then_zeros 400 change_is)
worked_back r out undo o =
    let w = worked_example.1 in
    (o.0 ∙ ap (λ x. answer_of x.answer) w, o.1 ∙ ap (λ x. x.output) w, o.2 ∙ ap (λ x. x.undo) w)

-- printed whole
pub printed : (before after : List ℕ) (n : ℕ) → PrintOutcome true old_is true change_is before n after
    → (n ≡ length (lines ("0,0,0,1,1,0,0" ∷ []) ++ new_is)) × (after ≡ in_front (lines ("0,0,0,1,1,0,0" ∷ []) ++ new_is) before)
printed before after n o = let w = printed_whole.0 in (o.0 ∙ ap length w, o.1 ∙ ap (λ x. in_front x before) w)
