-- Demand 2, of the numbers that load answers and the bytes that it leaves.
use Rattle.std.specs.Prelude.{◌≡◌, ◌↔◌, List, ℕ, suc, ◌≤◌, T, length, get_or}
use Rattle.std.proofs.Common.{sym, ap, ◌∙◌}
use Rattle.std.proofs.Math.Option.{some}
use Rattle.theory.specs.Answer.{count}
use Rattle.theory.specs.Store.{get}
use Rattle.theory.specs.Step.{ins, upd, del, after}
use Rattle.theory.specs.Trail.{Through}
use Rattle.theory.specs.Run.{last, free}
use Rattle.meaning.specs.Lines.{lines_of}
use Rattle.meaning.specs.Table.{scottish}
use Rattle.meaning.specs.Records.{Rec, keyed, change_text}
use Rattle.meaning.specs.Holding.{written}
use Rattle.meaning.specs.Load.{then_zeros, check_holding}
use Rattle.meaning.specs.Answers.{no_fault}
use Rattle.meaning.specs.Undo.{undo_bytes}
use Rattle.laws.specs.LinesAndFields.{ends}
use Rattle.laws.specs.LinePart.{no_line}
use Rattle.laws.specs.HoldingReadBack.{insert_of}
use Rattle.laws.specs.SoundHolding.{SoundHolding}
use Rattle.laws.proofs.Checks.{holding_checked}
use Rattle.laws.proofs.Takes.{new_fits}
use Rattle.laws.specs.Find.{record_line}
use Rattle.laws.specs.Demand2.{Allowed, after_all, UndoFits, Lawful, Roomy, Whole}
use Rattle.laws.proofs.Demand2.{lawful_exactly, taken_exactly, allowed_takes, allowed_done, at_every_state, last_line, unnamed, new_sound}
use Rattle.laws.specs.Scottish.{scottish_regular}
use Rattle.answers.specs.Meant.{answer_of, verdict_of}
use Rattle.answers.specs.declared.numbers.Answer.{Answer}
use Rattle.answers.specs.declared.numbers.Verdict.{Verdict}
use Rattle.loader.specs.Outcome.{Outcome}

module _ (old file : List ℕ) (room undo_room : ℕ) (r : Answer) (out undo : List ℕ) (o : Outcome old file room undo_room r out undo) where
  -- given a sound holding and buffers with room at every step and for the undo, a file is taken exactly if every line and every step is allowed
  pub taken_if : (st : List Rec) → SoundHolding scottish old st → Roomy scottish room st file → UndoFits scottish old file undo_room → (r.code ≡ 0) ↔ Lawful scottish st file
  taken_if st h w u =
      let t = lawful_exactly scottish scottish_regular old file room undo_room st h w u in
      (λ e. t.0 (sym (ap (λ x. x.code) o.0) ∙ e), λ l. ap (λ x. x.code) o.0 ∙ t.1 l)

  -- the same with nothing given: taken exactly if the holding is sound, every line is allowed at its place, every step is allowed and has room, and so has the undo
  pub taken_only : (r.code ≡ 0) ↔ (Allowed scottish old file room × UndoFits scottish old file undo_room)
  taken_only =
      let t = taken_exactly scottish scottish_regular old file room undo_room in
      (λ e. t.0 (sym (ap (λ x. x.code) o.0) ∙ e), λ a. ap (λ x. x.code) o.0 ∙ t.1 a)

  module _ (a : Allowed scottish old file room) where
    module _ (u : UndoFits scottish old file undo_room) where
      -- the new holding is the old one with the file's inserts, updates and deletes made in their order, and zeros follow it
      pub new_holding : (out ≡ then_zeros room (written (after_all scottish a))) × (length (written (after_all scottish a)) ≤ room)
      new_holding = (
        o.1 ∙ ap (λ x. x.output) (allowed_done scottish scottish_regular old file room undo_room a u),
        new_fits scottish scottish_regular room old file _ (allowed_takes scottish scottish_regular old file room a),
      )

      -- each counted in the answer
      pub counted : (r.inserts ≡ count ins a.cs) × (r.updates ≡ count upd a.cs) × (r.deletes ≡ count del a.cs)
      counted =
          let e = o.0 ∙ ap (λ x. answer_of x.answer) (allowed_done scottish scottish_regular old file room undo_room a u) in
          (ap (λ x. x.inserts) e, ap (λ x. x.updates) e, ap (λ x. x.deletes) e)

      -- the other buffer holds the undo, and zeros follow it
      pub undo_left : (undo ≡ then_zeros undo_room (undo_bytes scottish old file)) × (length (undo_bytes scottish old file) ≤ undo_room)
      undo_left = (o.2 ∙ ap (λ x. x.undo) (allowed_done scottish scottish_regular old file room undo_room a u), u)

    -- each key once, each reference met after each step
    pub after_each_step : Through (after (keyed scottish)) (Whole scottish room) a.st a.cs
    after_each_step = at_every_state scottish scottish_regular old file room a

    -- the record at a key is what the last line naming it says
    pub last_says : (k : List ℕ) → get (keyed scottish) k (after_all scottish a) ≡ last (keyed scottish) k a.cs (get (keyed scottish) k a.st)
    last_says k = last_line scottish scottish_regular old file room a k

    -- a key that no line names keeps its content byte for byte
    pub unnamed_kept : (k : List ℕ) → T (free (keyed scottish) k a.cs) → get (keyed scottish) k (after_all scottish a) ≡ get (keyed scottish) k a.st
    unnamed_kept k f = unnamed scottish scottish_regular old file room a k f

    -- each record that no line named is unchanged but for its running number: its line in the old holding and its line in the new one
    pub unnamed_line : (k : List ℕ) (x : Rec) → T (free (keyed scottish) k a.cs) → get (keyed scottish) k a.st ≡ some x
        → ((m : ℕ) × (get_or (lines_of old) m no_line ≡ ends (change_text (suc m) (insert_of x))))
        × ((n : ℕ) × (get_or (lines_of (written (after_all scottish a))) n no_line ≡ ends (change_text (suc n) (insert_of x))))
    unnamed_line k x f g = (
      record_line scottish old a.st k x a.held g,
      record_line scottish (written (after_all scottish a)) (after_all scottish a) k x (new_sound scottish scottish_regular old file room a) (unnamed_kept k f ∙ g),
    )

    -- the new holding is sound: check_holding answers 0
    pub new_checks : (v : Verdict) → v ≡ verdict_of (check_holding scottish (written (after_all scottish a))) → v ≡ verdict_of no_fault
    new_checks v e = e ∙ ap verdict_of (holding_checked scottish scottish_regular _ (after_all scottish a) (new_sound scottish scottish_regular old file room a))
