-- The tests of a step, once of the whole state after it, and once of the change, of what it meets and of the length before; whatever their codes and the most records are.
use Rattle.std.specs.Prelude.{Bool, true, List, [], ◌∷◌, ℕ, suc, ◌+◌, ◌-◌, leb, length}
use Rattle.std.proofs.Math.Option.{Option, none, some}
use Rattle.base.specs.Lists.{all, ask, at_most}
use Rattle.theory.specs.Keyed.{Keyed}
use Rattle.theory.specs.Store.{get}
use Rattle.theory.specs.Refs.{met, meets, clear}
use Rattle.theory.specs.Decimal.{width}
use Rattle.theory.specs.Step.{Op, ins, upd, del, Change, Rules, at, allowed}
use Rattle.theory.specs.Written.{Printed, render, bare}

-- the codes of the tests, in their order, and how many records there may be
pub record Codes : Type 0 where
  pub key_code : Op → ℕ
  pub many : ℕ
  pub unmet : ℕ
  pub long : ℕ
  pub most : ℕ

-- ---- of the whole state

-- the bytes of the state fit into the room
unfoldable pub fits : {R : Type 0} → Printed R → ℕ → List R → Bool
fits P room st = leb (length (render P st)) room

-- what a step must meet: not too many records, every reference met, and the bytes fit
abbrev pub rules : Codes → (K : Keyed) → (K.Rec → List K.Key) → Printed K.Rec → ℕ → Rules K.Rec
rules w K refs P room = record { key_code = w.key_code; tests = (w.many, at_most w.most) ∷ (w.unmet, met K refs) ∷ (w.long, fits P room) ∷ [] }

-- ---- of the change

-- there are not too many records afterwards: only an insert can make them so
unfoldable pub few_after : {R : Type 0} → ℕ → Op → List R → Bool
few_after n ins st = leb (suc (length st)) n
few_after n upd st = true
few_after n del st = true

-- every reference is met afterwards: the new record's are, or no record refers to the one that goes
unfoldable pub met_after : (K : Keyed) (refs : K.Rec → List K.Key) → Op → K.Rec → List K.Rec → Bool
met_after K refs ins r st = meets K refs st r
met_after K refs upd r st = meets K refs st r
met_after K refs del r st = all (clear K refs (K.key r)) st

-- how many bytes there are afterwards, where there are n before and o stands at the key
unfoldable pub size_after : {R : Type 0} → Printed R → Op → R → Option R → List R → ℕ → ℕ
size_after P ins r o st n = n + bare P r + width (suc (length st))
size_after P upd r none st n = n
size_after P upd r (some q) st n = n + bare P r - bare P q
size_after P del r none st n = n
size_after P del r (some q) st n = n - bare P q - width (length st)

-- the code with which a change is refused, or none
unfoldable pub fast : Codes → (K : Keyed) (refs : K.Rec → List K.Key) (P : Printed K.Rec) → ℕ → List K.Rec → Change K.Rec → Option ℕ
fast w K refs P room st c =
    ask (allowed c.op (get K (at K c) st)) (w.key_code c.op)
    (ask (few_after w.most c.op st) w.many
    (ask (met_after K refs c.op c.rec st) w.unmet
    (ask (leb (size_after P c.op c.rec (get K (at K c) st) st (length (render P st))) room) w.long none)))
