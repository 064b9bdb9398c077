-- A file that is taken with some room is refused with any other room only for want of room: with 13 or 17, and nothing else.
use Rattle.std.specs.Prelude.{◌≡◌, refl, Bool, false, T, leb, length}
use Rattle.std.proofs.Math.Bool.{true}
use Rattle.std.proofs.Math.Option.{Option, none, some}
use mathlib.Core.List.{List, [], ◌∷◌}
use Prim.Native.Nat.{ℕ, suc}
use Rattle.base.specs.Lists.{pick, ask}
use Rattle.base.specs.Tests.{and_l, and_r, T_true}
use Rattle.theory.specs.Store.{get}
use Rattle.theory.specs.Refs.{met}
use Rattle.theory.specs.Step.{Change, fails, allowed, at, after, judge}
use Rattle.theory.specs.Run.{Out, done, stop, on, run, Taken}
use Rattle.theory.specs.Answer.{took, refused}
use Rattle.theory.proofs.StepLaws.{ok_judge}
use Rattle.meaning.specs.Format.{Format}
use Rattle.meaning.specs.Records.{Rec, keyed, refs_of}
use Rattle.meaning.specs.Holding.{read_holding}
use Rattle.meaning.specs.Load.{outcome, from_start, on_file, on_holding, if_undo_fits, tried, load, loaded, load_file}
use Rattle.meaning.specs.Steps.{few, fits, step_rules, run_steps}
use Rattle.meaning.specs.Answers.{Answer, alone}
use Rattle.meaning.specs.Undo.{undo_bytes}
use Rattle.meaning.specs.Codes.{holding_too_long, all_done, undo_too_long}
use Rattle.laws.specs.Regular.{Regular}
use Rattle.laws.specs.SoundHolding.{held_sound}
use Rattle.laws.specs.FileRefusals.{among}
use Rattle.laws.proofs.Takes.{Takes}

-- a run stops with 13 alone
abbrev Only13 : Out (List Rec) → Type 0
Only13 (done st) = Unit {0}
Only13 (stop l w) = w ≡ holding_too_long

-- a step is refused with 13 alone
abbrev None13 : Option ℕ → Type 0
None13 none = Unit {0}
None13 (some w) = w ≡ holding_too_long

ask_13 : (b : Bool) → None13 (ask b holding_too_long none)
unfolding ask
ask_13 true = tt
ask_13 false = refl

-- an answer refuses with 13 alone
abbrev Tried13 : Answer → Type 0
Tried13 (took new n) = Unit {0}
Tried13 (refused r) = r.code ≡ holding_too_long

module _ (F : Format) where
  step_13 : (room space : ℕ) (st : List Rec) (c : Change Rec) → judge (keyed F) (step_rules F room) st c ≡ none → None13 (judge (keyed F) (step_rules F space) st c)
  unfolding judge fails ask
  step_13 room space st c e =
      let st2 = after (keyed F) st c in
      let a = ok_judge (keyed F) (step_rules F room) st c e in
      let f : few st2 ≡ true = T_true (few st2) (and_l (few st2) _ a.1) in
      let m : met (keyed F) (refs_of F) st2 ≡ true = T_true (met (keyed F) (refs_of F) st2) (and_l (met (keyed F) (refs_of F) st2) _ (and_r (few st2) _ a.1)) in
      rw (T_true (allowed c.op (get (keyed F) (at (keyed F) c) st)) a.0, f, m) (ask_13 (fits space st2))

  run_13 : (room space n : ℕ) (st : List Rec) (cs : List (Change Rec)) → Taken (keyed F) (step_rules F room) st cs → Only13 (run (keyed F) (step_rules F space) n st cs)
  unfolding run
  run_13 room space n st [] t = tt
  run_13 room space n st (c ∷ cs) t =
      let st2 = after (keyed F) st c in
      go (judge (keyed F) (step_rules F space) st c) (step_13 room space st c t.0) (run (keyed F) (step_rules F space) (suc n) st2 cs) (run_13 room space (suc n) st2 cs t.1)
    where
      go : (o : Option ℕ) → None13 o → (r : Out (List Rec)) → Only13 r → Only13 (on o n r)
      go none i r h = unfold on in h
      go (some w) i r h = unfold on in i

  module _ (regular : Regular F) where
    tried_13 : (room space : ℕ) (old b new : List ℕ) → Takes F regular room old b new → Tried13 (tried F space old b)
    unfolding tried on_holding on_file from_start outcome
    tried_13 room space old b new a =
        rw (held_sound old a.st (read_holding F old) a.held, a.read) (start (fits space a.st))
      where
        ran : (o : Out (List Rec)) → Only13 o → Tried13 (outcome a.cs o)
        ran (done st) i = tt
        ran (stop l w) i = i

        start : (c : Bool) → Tried13 (pick c (outcome a.cs (run_steps F space a.st a.cs)) (refused (alone holding_too_long)))
        start true = ran (run_steps F space a.st a.cs) (run_13 room space 2 a.st a.cs a.takes)
        start false = refl

    -- with any room for the new holding and any for the undo: 0, 13 or 17
    pub room_refusals : (room : ℕ) (old b new : List ℕ) → Takes F regular room old b new → (space undoSpace : ℕ)
        → T (among (load_file F old b space undoSpace).answer.code (all_done ∷ holding_too_long ∷ undo_too_long ∷ []))
    unfolding load_file loaded load if_undo_fits among
    room_refusals room old b new a space undoSpace = go (tried F space old b) (tried_13 room space old b new a)
      where
        u : List ℕ
        u = undo_bytes F old b

        Given : Answer → Type 0
        Given x = T (among (loaded space undoSpace u x).answer.code (all_done ∷ holding_too_long ∷ undo_too_long ∷ []))

        either : (c : Bool) (x y : Answer) → Given x → Given y → Given (pick c x y)
        either true x y p q = p
        either false x y p q = q

        go : (x : Answer) → Tried13 x → Given (if_undo_fits undoSpace u x)
        go (took n m) h = either (leb (length u) undoSpace) _ _ tt tt
        go (refused r) h = rw h tt
