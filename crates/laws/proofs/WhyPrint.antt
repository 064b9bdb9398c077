-- Why the program prints what it prints: 18 alone, or the load's numbers and, on 0, the new holding.
use Rattle.std.specs.Prelude.{◌≡◌, refl, true, false, ◌||◌}
use Rattle.std.proofs.Common.{sym, ◌∙◌}
use Rattle.std.proofs.Math.Path.{ap}
use Rattle.std.proofs.Math.Option.{Option, some}
use mathlib.Core.List.{List, ◌++◌}
use Prim.Native.Nat.{ℕ}
use Rattle.theory.specs.Answer.{took, refused}
use Rattle.meaning.specs.Format.{Format}
use Rattle.meaning.specs.Holding.{written}
use Rattle.meaning.specs.Codes.{input_unusable}
use Rattle.meaning.specs.Answers.{Answer, alone, refused_with}
use Rattle.meaning.specs.Load.{load, loaded, load_file}
use Rattle.meaning.specs.Undo.{undo_bytes}
use Rattle.meaning.specs.Program.{program_room, unusable, print_numbers, print_load, program}
use Rattle.laws.specs.Regular.{Regular}
use Rattle.laws.proofs.Takes.{load_took, taken}
use Rattle.laws.specs.Demand2.{Allowed, after_all, UndoFits}
use Rattle.laws.proofs.Demand2.{allowed_takes}

module _ (F : Format) where
  -- 18 where an input is unreadable or too long
  pub prints_18 : (old b : Option (List ℕ)) → (unusable old || unusable b) ≡ true → program F old b ≡ print_numbers (refused_with (alone input_unusable))
  unfolding program
  prints_18 old b e = rw e

  -- else the numbers of the load alone, where it refuses
  pub prints_refused : (old b : List ℕ) → (unusable (some old) || unusable (some b)) ≡ false → ((load_file F old b program_room program_room).answer.code ≡ 0 → ⊥)
      → program F (some old) (some b) ≡ print_numbers (load_file F old b program_room program_room).answer
  unfolding program print_load load_file loaded
  prints_refused old b e n = rw e (go (load F program_room program_room old b) n)
    where
      u : List ℕ
      u = undo_bytes F old b

      go : (x : Answer) → ((loaded program_room program_room u x).answer.code ≡ 0 → ⊥) → print_load x ≡ print_numbers (loaded program_room program_room u x).answer
      go (took new c) n = absurd (n refl)
      go (refused r) n = refl

  -- and the new holding after them, where it takes the change
  pub prints_taken : Regular F → (old b : List ℕ) → (unusable (some old) || unusable (some b)) ≡ false → (a : Allowed F old b program_room) → UndoFits F old b program_room
      → program F (some old) (some b) ≡ print_numbers (load_file F old b program_room program_room).answer ++ written (after_all F a)
  unfolding program print_load
  prints_taken regular old b e a h =
      let new = written (after_all F a) in
      let t = allowed_takes F regular old b program_room a in
      rw e (ap print_load (load_took F regular program_room program_room old b new t h) ∙ ap (λ x. print_numbers x.answer ++ new) (sym (taken F regular program_room program_room old b new t h)))
