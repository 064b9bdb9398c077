-- Which codes a load refuses with, but for 17: 14 for the holding, the file check's, and those of the steps; and at which line a step is refused.
use Rattle.std.specs.Prelude.{Bool, true, false, ◌||◌, ℕ, suc, ◌+◌, ◌≤◌, ◌<◌, T, eqb, length}
use Rattle.std.proofs.Math.Option.{Option, none, some}
use mathlib.Core.List.{List, [], ◌∷◌, ◌++◌}
use native.Mathlib.Omega.{arith}
use Rattle.base.specs.Lists.{pick, ask}
use Rattle.theory.specs.Store.{get}
use Rattle.theory.specs.Step.{Op, ins, upd, del, Change, Test, fails, allowed, at, after, judge}
use Rattle.theory.specs.Run.{Out, done, stop, on, run}
use Rattle.theory.specs.Answer.{fault, file, took, refused}
use Rattle.meaning.specs.Format.{Format}
use Rattle.meaning.specs.Records.{Rec, keyed}
use Rattle.meaning.specs.File.{Sheet, read_file}
use Rattle.meaning.specs.Holding.{Held, sound, unsound, read_holding}
use Rattle.meaning.specs.Load.{outcome, from_start, on_file, on_holding, tried}
use Rattle.meaning.specs.Steps.{key_code, fits, step_rules, run_steps}
use Rattle.meaning.specs.Answers.{Read, Answer, alone}
use Rattle.meaning.specs.Codes.{holding_too_long, key_held, key_absent, too_many_records, reference_unmet, holding_unsound}
use Rattle.laws.specs.Regular.{Regular}
use Rattle.laws.specs.FileRefusals.{among, file_codes, ReadIn, file_codes_lem}

-- the codes of the steps, and 13 for the start
abbrev pub step_codes : List ℕ
step_codes = key_held ∷ key_absent ∷ too_many_records ∷ reference_unmet ∷ holding_too_long ∷ []

-- the codes of a load but for 17: the holding's, the file's, the steps'
abbrev pub tried_codes : List ℕ
tried_codes = holding_unsound ∷ (file_codes ++ step_codes)

among_l : (c : ℕ) (xs ys : List ℕ) → T (among c xs) → T (among c (xs ++ ys))
unfolding among
among_l c [] ys t = absurd t
among_l c (x ∷ xs) ys t = go (eqb c x) t (λ u. among_l c xs ys u)
  where
    go : (b : Bool) → T (b || among c xs) → (T (among c xs) → T (among c (xs ++ ys))) → T (b || among c (xs ++ ys))
    go true t i = tt
    go false t i = i t

among_r : (c : ℕ) (xs ys : List ℕ) → T (among c ys) → T (among c (xs ++ ys))
unfolding among
among_r c [] ys t = t
among_r c (x ∷ xs) ys t = go (eqb c x) (among_r c xs ys t)
  where
    go : (b : Bool) → T (among c (xs ++ ys)) → T (b || among c (xs ++ ys))
    go true i = tt
    go false i = i

-- ---- what a refusal looks like

-- a step's code, where it is refused, is one of those
abbrev CodeIn : Option ℕ → Type 0
CodeIn none = Unit {0}
CodeIn (some w) = T (among w step_codes)

ask_in : (b : Bool) (w : ℕ) (rest : Option ℕ) → T (among w step_codes) → CodeIn rest → CodeIn (ask b w rest)
unfolding ask
ask_in true w rest p r = r
ask_in false w rest p r = p

-- each test has one of those codes
abbrev TestsIn : List (Test Rec) → Type 0
TestsIn [] = Unit {0}
TestsIn (t ∷ ts) = T (among t.0 step_codes) × TestsIn ts

fails_in : (ts : List (Test Rec)) (st : List Rec) → TestsIn ts → CodeIn (fails ts st)
unfolding fails
fails_in [] st i = tt
fails_in (t ∷ ts) st i = ask_in (t.1 st) t.0 (fails ts st) i.0 (fails_in ts st i.1)

op_in : (o : Op) → T (among (key_code o) step_codes)
unfolding among
op_in ins = tt
op_in upd = tt
op_in del = tt

-- a run from line n on that stops does so at one of its m lines, with the code of a step
abbrev pub OutIn : ℕ → ℕ → Out (List Rec) → Type 0
OutIn n m (done st) = Unit {0}
OutIn n m (stop l w) = T (among w step_codes) × (n ≤ l) × (l < n + m)

-- a refusal has one of those codes
abbrev pub AnswerIn : Answer → Type 0
AnswerIn (took new n) = Unit {0}
AnswerIn (refused r) = T (among r.code tried_codes)

module _ (F : Format) where
  -- ---- every refusal looks so

  step_in : (room : ℕ) (st : List Rec) (c : Change Rec) → CodeIn (judge (keyed F) (step_rules F room) st c)
  unfolding judge
  step_in room st c =
      ask_in (allowed c.op (get (keyed F) (at (keyed F) c) st)) (key_code c.op) (fails (step_rules F room).tests (after (keyed F) st c)) (op_in c.op)
      (fails_in (step_rules F room).tests (after (keyed F) st c) (unfold among in (tt, (tt, (tt, tt)))))

  -- a run of steps stops so
  pub run_in : (room n : ℕ) (st : List Rec) (cs : List (Change Rec)) → OutIn n (length cs) (run (keyed F) (step_rules F room) n st cs)
  unfolding run
  run_in room n st [] = tt
  run_in room n st (c ∷ cs) =
      let st2 = after (keyed F) st c in
      go (judge (keyed F) (step_rules F room) st c) (step_in room st c) (run (keyed F) (step_rules F room) (suc n) st2 cs) (run_in room (suc n) st2 cs)
    where
      go : (o : Option ℕ) → CodeIn o → (r : Out (List Rec)) → OutIn (suc n) (length cs) r → OutIn n (length (c ∷ cs)) (on o n r)
      go none i (done s) h = unfold on in tt
      go none i (stop l w) h = unfold on in (h.0, omega (arith, h.1), omega (arith, h.2))
      go (some w) i r h = unfold on in (i, omega arith, omega arith)

  module _ (regular : Regular F) where
    -- and a load refuses so, whatever the holding, the file and the buffer
    pub tried_in : (room : ℕ) (old b : List ℕ) → AnswerIn (tried F room old b)
    unfolding tried on_holding on_file from_start outcome among
    tried_in room old b = holds (read_holding F old)
      where
        ran : (cs : List (Change Rec)) (o : Out (List Rec)) → OutIn 2 (length cs) o → AnswerIn (outcome cs o)
        ran cs (done st) i = tt
        ran cs (stop l w) i = among_r w (holding_unsound ∷ file_codes) step_codes i.0

        starts : (c : Bool) (st : List Rec) (s : Sheet) → AnswerIn (pick c (outcome s.1 (run_steps F room st s.1)) (refused (alone holding_too_long)))
        starts true st s = ran s.1 (run_steps F room st s.1) (run_in room 2 st s.1)
        starts false st s = tt

        files : (st : List Rec) (r : Read Sheet) → ReadIn r → AnswerIn (on_file F room st r)
        files st (fault r) i = among_r r.code (holding_unsound ∷ []) (file_codes ++ step_codes) (among_l r.code file_codes step_codes i)
        files st (file s) i = starts (fits room st) st s

        holds : (h : Held) → AnswerIn (on_holding F room b h)
        holds (unsound n) = tt
        holds (sound st) = files st (read_file F b) (file_codes_lem F regular b)
