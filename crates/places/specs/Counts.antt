-- How often the records in force refer to a key, and the counts of that beside their places.
use Rattle.std.specs.Prelude.{◌≡◌, Bool, true, false, List, [], ◌∷◌, map, ℕ, ◌+◌, ◌-◌, ◌≤◌, ◌<◌, T, get_or, set}
use Rattle.std.proofs.Math.Option.{Option}
use Rattle.base.specs.Lists.{pick}
use Rattle.theory.specs.Fold.{sum}
use Rattle.theory.specs.Store.{cons?}
use Rattle.theory.specs.Rank.{rank}
use Rattle.theory.specs.Refs.{apart, has, meets}
use Rattle.meaning.specs.Records.{Rec}
use Rattle.keys.specs.Numbers.{key_numbers, ref_numbers, numbered}
use Rattle.places.specs.Places.{met_by}

-- ---- what is counted

-- one where two keys are equal
unfoldable pub once : List ℕ → List ℕ → ℕ
once j k = pick (apart numbered j k) 0 1

-- how many of some keys are k
unfoldable pub times : List ℕ → List (List ℕ) → ℕ
times k [] = 0
times k (j ∷ js) = once j k + times k js

-- how often a record refers to k
unfoldable pub refers : List ℕ → Rec → ℕ
refers k r = times k (ref_numbers r)

-- how often records do
unfoldable pub tally : List Rec → List ℕ → ℕ
tally st k = sum (refers k) st

-- a number for the key of each record
abbrev pub by_key : (List ℕ → ℕ) → List Rec → List ℕ
by_key w st = map (λ r. w (key_numbers r)) st

-- ---- how it is counted

-- a count with m more, or less
unfoldable pub moved : Bool → ℕ → ℕ → ℕ
moved true m c = c + m
moved false m c = c - m

-- a count can be moved by one
abbrev pub Movable : Bool → ℕ → Type 0
Movable true c = c < 65535
Movable false c = 1 ≤ c

-- the counts beside the records of st with one reference counted in or out, at the place of its key
unfoldable pub noted : Bool → List Rec → List ℕ → List ℕ → List ℕ
noted up st t k = set t (rank numbered k st) (moved up 1 (get_or t (rank numbered k st) 0))

-- and with several
unfoldable pub noted_all : Bool → List Rec → List ℕ → List (List ℕ) → List ℕ
noted_all up st t [] = t
noted_all up st t (k ∷ ks) = noted_all up st (noted up st t k) ks

-- the counts of keys can be moved, one after another, as long as the keys stand
abbrev pub Open : Bool → List Rec → List ℕ → List (List ℕ) → Type 0
Open up st t [] = Unit {0}
Open up st t (k ∷ ks) = T (has numbered st k) → Movable up (get_or t (rank numbered k st) 0) × Open up st (noted up st t k) ks

-- ---- as code has it

-- one reference of the record whose key is `own`: whether it is met, and then the counts with it
pub record NotesOne (up : Bool) (st : List Rec) (own : List ℕ) (o : Option (List ℕ)) (t u : List ℕ) (b : Bool) : Type 0 where
  pub met : b ≡ met_by st own o
  pub noted : b ≡ true → u ≡ noted_all up st t (cons? o [])

-- a record's references: whether they are met, and then the counts with them
pub record Notes (up : Bool) (st : List Rec) (x : Rec) (t u : List ℕ) (b : Bool) : Type 0 where
  pub met : b ≡ meets numbered ref_numbers st x
  pub noted : b ≡ true → u ≡ noted_all up st t (ref_numbers x)
