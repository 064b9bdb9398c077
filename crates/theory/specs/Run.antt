-- A run of changes: how it ends, and what it leaves at each key.
use Rattle.std.specs.Prelude.{◌≡◌, Bool, ℕ, suc, ◌+◌, T, length}
use Rattle.std.proofs.Math.Option.{Option, none, some}
use mathlib.Core.List.{List, [], ◌∷◌, ◌++◌}
use Rattle.base.specs.Lists.{all, pick}
use Rattle.theory.specs.Keyed.{Keyed}
use Rattle.theory.specs.Store.{Asc}
use Rattle.theory.specs.Refs.{apart}
use Rattle.theory.specs.Step.{ins, Change, Rules, passes, new, at, after, judge}
use Rattle.theory.specs.Trail.{final, Each}

-- how a run ends: with a state, or at the line of the first change that is refused, with its code
pub data Out (S : Type 0) : Type 0 where
  done : S → Out S
  stop : ℕ → ℕ → Out S

-- the end at line n where its change is refused, else that of the rest
unfoldable pub on : {S : Type 0} → Option ℕ → ℕ → Out S → Out S
on none n rest = rest
on (some w) n rest = stop n w

-- the changes that insert these records
abbrev pub as_inserts : {R : Type 0} → List R → List (Change R)
as_inserts [] = []
as_inserts (r ∷ rs) = record { op = ins; rec = r } ∷ as_inserts rs

module _ (K : Keyed) where
  open K use {Key, Rec}

  -- what the last change that names the key leaves there, and o where none names it
  unfoldable pub last : Key → List (Change Rec) → Option Rec → Option Rec
  last k [] o = o
  last k (c ∷ cs) o = last k cs (pick (apart K k (at K c)) o (new c.op c.rec))

  -- no change names the key
  abbrev pub free : Key → List (Change Rec) → Bool
  free k cs = all (λ c. apart K k (at K c)) cs

  -- the record of a change passes a test of records
  abbrev pub fine_c : (Rec → Bool) → Change Rec → Bool
  fine_c fine c = fine c.rec

  module _ (rules : Rules Rec) where
    -- the run of the changes that stand from line n on
    unfoldable pub run : ℕ → List Rec → List (Change Rec) → Out (List Rec)
    unfolding on
    run n st [] = done st
    run n st (c ∷ cs) = on (judge K rules st c) n (run (suc n) (after K st c) cs)

    -- a change is not refused
    abbrev pub Ok : List Rec → Change Rec → Type 0
    Ok st c = judge K rules st c ≡ none

    -- no change is refused where it is made
    abbrev pub Taken : List Rec → List (Change Rec) → Type 0
    Taken = Each (after K) Ok

    -- a sound state: its keys ascend, and it passes every test
    pub record Good (st : List Rec) : Type 0 where
      pub asc : Asc K st
      pub pass : T (passes rules.tests st)

    -- the changes before are taken, and the change at that line is refused with that code
    pub record Stopped (n : ℕ) (st : List Rec) (cs : List (Change Rec)) (line code : ℕ) : Type 0 where
      pub pre : List (Change Rec)
      pub bad : Change Rec
      pub post : List (Change Rec)
      pub whole : cs ≡ pre ++ bad ∷ post
      pub taken : Taken st pre
      pub fault : judge K rules (final (after K) st pre) bad ≡ some code
      pub stands : line ≡ n + length pre

    -- what the end of a run says of its changes
    abbrev pub Tells : ℕ → List Rec → List (Change Rec) → Out (List Rec) → Type 0
    Tells n st cs (done st') = Taken st cs × (st' ≡ final (after K) st cs)
    Tells n st cs (stop line code) = Stopped n st cs line code
