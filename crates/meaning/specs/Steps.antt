-- Paper 01, 'Steps': what a step leaves, the code with which it is refused, and the steps of a file in their order. How a record is put, replaced and taken away at its key
-- stands in theory's Step and Store.
use Rattle.std.specs.Prelude.{Bool, List, [], ◌∷◌, ◌++◌, ℕ, leb, length}
use Rattle.std.proofs.Math.Option.{Option}
use Rattle.theory.specs.Step.{Op, ins, upd, del, Change, Test, Rules, after, judge}
use Rattle.theory.specs.Refs.{met}
use Rattle.theory.specs.Run.{Out, run}
use Rattle.base.specs.Lists.{at_most}
use Rattle.meaning.specs.Format.{Format}
use Rattle.meaning.specs.Codes.{key_held, key_absent, too_many_records, reference_unmet, holding_too_long}
use Rattle.meaning.specs.Records.{Rec, keyed, refs_of}
use Rattle.meaning.specs.Holding.{most_records, written}

-- insert needs its key absent, update and delete need it present: the code where what stands at the key is not so
abbrev pub key_code : Op → ℕ
key_code ins = key_held
key_code upd = key_absent
key_code del = key_absent

-- there is no 8,193rd record
abbrev pub few : List Rec → Bool
few = at_most most_records

-- the holding, renumbered from 1, is not longer than its buffer of `room` bytes
unfoldable pub fits : ℕ → List Rec → Bool
fits room st = leb (length (written st)) room

-- the test of the buffer
abbrev pub room_tests : ℕ → List (Test Rec)
room_tests room = (holding_too_long, fits room) ∷ []

module _ (F : Format) where
  -- the tests that every holding passes: not too many records, and every reference in it is met
  abbrev pub held_tests : List (Test Rec)
  held_tests = (too_many_records, few) ∷ (reference_unmet, met (keyed F) (refs_of F)) ∷ []

  -- the step order is 10 or 11, then of the holding after the step 16, 12, 13
  abbrev pub step_rules : ℕ → Rules Rec
  step_rules room = record { key_code = key_code; tests = held_tests ++ room_tests room }

  -- the holding after a step: insert and update put the record whole at its key, delete takes away what stands at its key
  abbrev pub after_step : List Rec → Change Rec → List Rec
  after_step = after (keyed F)

  -- the code with which a step is refused, or none
  abbrev pub step_code : ℕ → List Rec → Change Rec → Option ℕ
  step_code room = judge (keyed F) (step_rules room)

  -- the steps one after another, up to the first that is refused: body line n stands on line n + 1
  abbrev pub run_steps : ℕ → List Rec → List (Change Rec) → Out (List Rec)
  run_steps room = run (keyed F) (step_rules room) 2
