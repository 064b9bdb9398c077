-- A state, which is a list of records in order of their keys, with one way to write and one way to look up.
use Rattle.std.specs.Prelude.{◌≡◌}
use Rattle.std.proofs.Math.Option.{Option, none, some}
use mathlib.Core.List.{List, [], ◌∷◌}
use Rattle.theory.specs.Tri.{Tri, lt, eq, gt}
use Rattle.theory.specs.Keyed.{Keyed}

-- a list with one element in front, or with none
abbrev pub cons? : {A : Type 0} → Option A → List A → List A
cons? none xs = xs
cons? (some r) xs = r ∷ xs

module _ (K : Keyed) where
  open K use {Key, Rec, cmp, key}

  -- the records of a holding, one after another
  abbrev pub State : Type 0
  State = List Rec

  -- the write, once the key is compared with the first record's: before it, in its place, or in the rest
  unfoldable pub puts : Tri → Option Rec → Rec → State → State → State
  puts lt o x xs rest = cons? o (x ∷ xs)
  puts eq o x xs rest = cons? o xs
  puts gt o x xs rest = x ∷ rest

  -- the state in which a record, or none, stands at the key
  unfoldable pub put : Key → Option Rec → State → State
  unfolding puts
  put k o [] = cons? o []
  put k o (x ∷ xs) = puts (cmp k (key x)) o x xs (put k o xs)

  -- the look-up, once the key is compared with the first record's: none, that record, or what the rest has
  unfoldable pub gets : Tri → Rec → Option Rec → Option Rec
  gets lt x rest = none
  gets eq x rest = some x
  gets gt x rest = rest

  -- the record that stands at the key, or none
  unfoldable pub get : Key → State → Option Rec
  unfolding gets
  get k [] = none
  get k (x ∷ xs) = gets (cmp k (key x)) x (get k xs)

  -- the key stands before the first record's
  abbrev pub Low : Key → State → Type 0
  Low k [] = Unit {0}
  Low k (x ∷ xs) = cmp k (key x) ≡ lt

  -- keys strictly ascend
  abbrev pub Asc : State → Type 0
  Asc [] = Unit {0}
  Asc (x ∷ xs) = Low (key x) xs × Asc xs

  -- what may stand at the key: a record of that key, or none
  abbrev pub At : Key → Option Rec → Type 0
  At k none = Unit {0}
  At k (some r) = key r ≡ k
