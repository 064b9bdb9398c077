-- What reading a file and applying it can answer, whatever a refusal says.
use Rattle.std.specs.Prelude.{List, ℕ}
use Rattle.theory.specs.Fold.{sum}
use Rattle.theory.specs.Step.{Op, ins, upd, del, Change}

-- what reading a file gives: its fault, or what the file says
pub data Read (E F : Type 0) : Type 0 where
  fault : E → Read E F
  file : F → Read E F

-- how many inserts, updates and deletes there are
pub record Counts : Type 0 where
  pub inserts : ℕ
  pub updates : ℕ
  pub deletes : ℕ

-- what applying a file gives: the new holding's bytes and the counts of its changes; or a refusal
pub data Answer (E : Type 0) : Type 0 where
  took : List ℕ → Counts → Answer E
  refused : E → Answer E

-- 1 where the two operations are the same, else 0
abbrev pub is_op : Op → Op → ℕ
is_op ins ins = 1
is_op ins upd = 0
is_op ins del = 0
is_op upd ins = 0
is_op upd upd = 1
is_op upd del = 0
is_op del ins = 0
is_op del upd = 0
is_op del del = 1

-- how many of the changes have that operation
unfoldable pub count : {R : Type 0} → Op → List (Change R) → ℕ
count o cs = sum (λ c. is_op o c.op) cs

-- how many have each
abbrev pub counts : {R : Type 0} → List (Change R) → Counts
counts cs = record { inserts = count ins cs; updates = count upd cs; deletes = count del cs }
