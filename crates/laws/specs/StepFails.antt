-- Why a step is refused: with the code of the first test that it fails; and a run of steps at the first step that is refused, on that step's own line.
use Rattle.std.specs.Prelude.{◌≡◌, Bool, true, false, T}
use Rattle.std.proofs.Math.Path.{refl}
use Rattle.std.proofs.Common.{ap, subst}
use Rattle.std.proofs.Math.Option.{Option, none, some}
use mathlib.Core.List.{List, [], ◌∷◌, ◌++◌}
use Prim.Native.Nat.{ℕ, suc, ◌+◌}
use Rattle.std.proofs.Math.Nat.{add-zero}
use native.Mathlib.Omega.{arith}
use Rattle.std.proofs.Math.ListN.{length}
use Rattle.base.specs.Lists.{ask}
use Rattle.base.specs.Tests.{T_true}
use Rattle.theory.specs.Store.{get}
use Rattle.theory.specs.Refs.{met}
use Rattle.theory.specs.Step.{Change, fails, allowed, at, after, judge}
use Rattle.theory.specs.Trail.{final}
use Rattle.theory.specs.Run.{Out, done, stop, on, run}
use Rattle.meaning.specs.Format.{Format}
use Rattle.meaning.specs.Records.{Rec, keyed, refs_of}
use Rattle.meaning.specs.Steps.{key_code, few, fits, step_rules}
use Rattle.laws.specs.Demand2.{StepLawful, StepAllowed, StepsAllowed}
use Rattle.meaning.specs.Codes.{reference_unmet, holding_too_long, too_many_records}

-- a test that doesn't hold is false
pub no_true : (b : Bool) → (T b → ⊥) → b ≡ false
no_true true n = absurd (n tt)
no_true false n = refl

-- and a false one doesn't hold
pub false_no : (b : Bool) → b ≡ false → T b → ⊥
false_no true e t = subst T e t
false_no false e t = t

module _ (F : Format) where
  -- ---- one step

  -- what stands at a step's key lets it be made
  abbrev pub KeyAllows : List Rec → Change Rec → Type 0
  KeyAllows st c = T (allowed c.op (get (keyed F) (at (keyed F) c) st))

  -- the first test that a step fails, by its code: its key, 10 or 11; then, of the records after it, 16 for their number, 12 for their references, 13 for their room
  pub data FailsWith (room : ℕ) (st : List Rec) (c : Change Rec) (code : ℕ) : Type 0 where
    at_key : (KeyAllows st c → ⊥) → code ≡ key_code c.op → FailsWith room st c code
    too_many : KeyAllows st c → (T (few (after (keyed F) st c)) → ⊥) → code ≡ too_many_records → FailsWith room st c code
    unmet : KeyAllows st c → T (few (after (keyed F) st c)) → (T (met (keyed F) (refs_of F) (after (keyed F) st c)) → ⊥) → code ≡ reference_unmet → FailsWith room st c code
    no_room : StepLawful F st c → (T (fits room (after (keyed F) st c)) → ⊥) → code ≡ holding_too_long → FailsWith room st c code

  -- what the judgement of a step says
  abbrev JudgeSays : ℕ → List Rec → Change Rec → Option ℕ → Type 0
  JudgeSays room st c none = StepAllowed F room st c
  JudgeSays room st c (some w) = FailsWith room st c w

  judge_says : (room : ℕ) (st : List Rec) (c : Change Rec) → JudgeSays room st c (judge (keyed F) (step_rules F room) st c)
  unfolding judge fails ask
  judge_says room st c = go (allowed c.op (get (keyed F) (at (keyed F) c) st)) refl (few st2) refl (met (keyed F) (refs_of F) st2) refl (fits room st2) refl
    where
      st2 : List Rec
      st2 = after (keyed F) st c

      go : (k : Bool) → allowed c.op (get (keyed F) (at (keyed F) c) st) ≡ k → (n : Bool) → few st2 ≡ n → (m : Bool) → met (keyed F) (refs_of F) st2 ≡ m
          → (r : Bool) → fits room st2 ≡ r → JudgeSays room st c (ask k (key_code c.op) (ask n too_many_records (ask m reference_unmet (ask r holding_too_long none))))
      go false ek n en m em r er = at_key (false_no _ ek) refl
      go true ek false en m em r er = too_many (rw ek tt) (false_no _ en) refl
      go true ek true en false em r er = unmet (rw ek tt) (rw en tt) (false_no _ em) refl
      go true ek true en true em false er = no_room (record { keyed? = rw ek tt; few_records = rw en tt; references = rw em tt }) (false_no _ er) refl
      go true ek true en true em true er = record { lawful = record { keyed? = rw ek tt; few_records = rw en tt; references = rw em tt }; roomy = rw er tt }

  module _ (room : ℕ) (st : List Rec) (c : Change Rec) where
    abbrev key_test : Bool
    key_test = allowed c.op (get (keyed F) (at (keyed F) c) st)

    abbrev few_test : Bool
    few_test = few (after (keyed F) st c)

    abbrev met_test : Bool
    met_test = met (keyed F) (refs_of F) (after (keyed F) st c)

    abbrev room_test : Bool
    room_test = fits room (after (keyed F) st c)

    allowed_judge : StepAllowed F room st c → judge (keyed F) (step_rules F room) st c ≡ none
    unfolding judge fails ask
    allowed_judge s =
        let l = s.lawful in
        rw (T_true key_test l.keyed?, T_true few_test l.few_records, T_true met_test l.references, T_true room_test s.roomy)

    fails_judge : (w : ℕ) → FailsWith room st c w → judge (keyed F) (step_rules F room) st c ≡ some w
    unfolding judge fails ask
    fails_judge w (at_key n e) = rw (no_true key_test n, e)
    fails_judge w (too_many k n e) = rw (T_true key_test k, no_true few_test n, e)
    fails_judge w (unmet k f n e) = rw (T_true key_test k, T_true few_test f, no_true met_test n, e)
    fails_judge w (no_room l n e) = rw (T_true key_test l.keyed?, T_true few_test l.few_records, T_true met_test l.references, no_true room_test n, e)

  -- ---- a run of steps, of which the first stands on line n

  -- the first step that is refused: the steps before it are allowed, it fails with that code over the records that they lead to, and that is its own line
  pub record FirstRefused (n room : ℕ) (st : List Rec) (cs : List (Change Rec)) (line code : ℕ) : Type 0 where
    pub before : List (Change Rec)
    pub step : Change Rec
    pub rest : List (Change Rec)
    pub whole : cs ≡ before ++ (step ∷ rest)
    pub allows : StepsAllowed F room st before
    pub refuses : FailsWith room (final (after (keyed F)) st before) step code
    pub own : line ≡ n + length before

  -- what the end of a run says of its steps
  abbrev pub RunSays : ℕ → ℕ → List Rec → List (Change Rec) → Out (List Rec) → Type 0
  RunSays n room st cs (done s) = StepsAllowed F room st cs
  RunSays n room st cs (stop line code) = FirstRefused n room st cs line code

  says_more : (n room : ℕ) (st : List Rec) (c : Change Rec) (cs : List (Change Rec)) → StepAllowed F room st c
      → (o : Out (List Rec)) → RunSays (suc n) room (after (keyed F) st c) cs o → RunSays n room st (c ∷ cs) o
  says_more n room st c cs a (done s) r = (a, r)
  says_more n room st c cs a (stop line code) r = record {
    before = c ∷ r.before;
    step = r.step;
    rest = r.rest;
    whole = ap (λ x. c ∷ x) r.whole;
    allows = (a, r.allows);
    refuses = r.refuses;
    own = omega (arith, r.own);
  }

  -- a run that stops does so at the first step that is refused
  pub run_says : (n room : ℕ) (st : List Rec) (cs : List (Change Rec)) → RunSays n room st cs (run (keyed F) (step_rules F room) n st cs)
  unfolding run on
  run_says n room st [] = tt
  run_says n room st (c ∷ cs) =
      let st2 = after (keyed F) st c in
      go (judge (keyed F) (step_rules F room) st c) (judge_says room st c) (run (keyed F) (step_rules F room) (suc n) st2 cs) (run_says (suc n) room st2 cs)
    where
      go : (o : Option ℕ) → JudgeSays room st c o → (r : Out (List Rec)) → RunSays (suc n) room (after (keyed F) st c) cs r → RunSays n room st (c ∷ cs) (on o n r)
      go none a r s = says_more n room st c cs a r s
      go (some w) f r s = record { before = []; step = c; rest = cs; whole = refl; allows = tt; refuses = f; own = omega arith }

  stops : (n room : ℕ) (st : List Rec) (before : List (Change Rec)) (c : Change Rec) (rest : List (Change Rec)) (w : ℕ) → StepsAllowed F room st before
      → FailsWith room (final (after (keyed F)) st before) c w → run (keyed F) (step_rules F room) n st (before ++ (c ∷ rest)) ≡ stop (n + length before) w
  unfolding run on
  stops n room st [] c rest w a f = rw (fails_judge room st c w f, add-zero n)
  stops n room st (b ∷ before) c rest w a f =
      let e : suc n + length before ≡ n + length (b ∷ before) = omega arith in
      rw (allowed_judge room st b a.0, ← e) (stops (suc n) room (after (keyed F) st b) before c rest w a.1 f)

  -- and at that step it stops
  pub refused_stops : (n room : ℕ) (st : List Rec) (cs : List (Change Rec)) (line code : ℕ) → FirstRefused n room st cs line code
      → run (keyed F) (step_rules F room) n st cs ≡ stop line code
  refused_stops n room st cs line code r = rw (r.whole, r.own) (stops n room st r.before r.step r.rest code r.allows r.refuses)
