-- One change: what it leaves at its key, when it is refused and with which of the codes given, and how it is taken back.
use Rattle.std.specs.Prelude.{Bool, not, List, [], ◌∷◌, ℕ}
use Rattle.std.proofs.Math.Option.{Option, none, some, get_or}
use Rattle.base.specs.Lists.{some?, all, ask}
use Rattle.theory.specs.Keyed.{Keyed}
use Rattle.theory.specs.Store.{put, get}

-- insert, update, delete
pub data Op : Type 0 where
  ins upd del : Op

-- an operation and the record that it is about
pub record Change (R : Type 0) : Type 0 where
  pub op : Op
  pub rec : R

-- what stands at the key afterwards
abbrev pub new : {R : Type 0} → Op → R → Option R
new ins r = some r
new upd r = some r
new del r = none

-- what stands at the key before lets the operation be made
abbrev pub allowed : {R : Type 0} → Op → Option R → Bool
allowed ins o = not (some? o)
allowed upd o = some? o
allowed del o = some? o

-- the operation that takes the operation back
abbrev pub inv : Op → Op
inv ins = del
inv upd = upd
inv del = ins

-- ---- tests in order

-- a test of the state, and its code
abbrev pub Test : Type 0 → Type 0
Test R = ℕ × (List R → Bool)

-- the state passes every test
abbrev pub passes : {R : Type 0} → List (Test R) → List R → Bool
passes ts st = all (λ t. t.1 st) ts

-- the code of the first test that the state fails
unfoldable pub fails : {R : Type 0} → List (Test R) → List R → Option ℕ
unfolding ask
fails [] st = none
fails (t ∷ ts) st = ask (t.1 st) t.0 (fails ts st)

-- what a step must meet: the code of an operation that what stands at its key does not allow, and the tests of the state after it
pub record Rules (R : Type 0) : Type 0 where
  pub key_code : Op → ℕ
  pub tests : List (Test R)

-- ---- a step

module _ (K : Keyed) where
  open K use {Key, Rec, key}

  -- the key that a change names
  abbrev pub at : Change Rec → Key
  at c = key c.rec

  -- the state after a change, allowed or not
  unfoldable pub after : List Rec → Change Rec → List Rec
  after st c = put K (at c) (new c.op c.rec) st

  -- the change back: an insert becomes a delete of what was inserted, an update an update to what stood there, a delete an insert of what was removed
  unfoldable pub back : List Rec → Change Rec → Change Rec
  back st c = record { op = inv c.op; rec = get_or (get K (at c) st) c.rec }

  -- the code with which a change is refused, or none: first what stands at its key, then the tests of the state after it
  unfoldable pub judge : Rules Rec → List Rec → Change Rec → Option ℕ
  judge rules st c = ask (allowed c.op (get K (at c) st)) (rules.key_code c.op) (fails rules.tests (after st c))
