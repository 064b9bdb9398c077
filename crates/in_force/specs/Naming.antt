-- What the lines of a file say of a key, as code answers it.
use Rattle.std.proofs.Math.Option.{Option, none, some}
use Rattle.std.specs.Prelude.{List, [], ◌∷◌, ℕ, suc, get_or}
use Rattle.base.specs.Lists.{pick}
use Rattle.theory.specs.Tri.{is_eq}
use Rattle.theory.specs.Lex.{lex}
use Rattle.theory.specs.Step.{Op, ins, upd, del}
use Rattle.meaning.specs.Lines.{Line, fields_of}
use Rattle.meaning.specs.Records.{op_of}
use Rattle.keys.specs.Numbers.{key_numbers}
use Rattle.entries.specs.Entries.{rec_of}
use Rattle.in_force.specs.declared.naming.Naming.{Naming}
use Rattle.in_force.specs.declared.naming.Naming.TheVariants.{Unnamed, Deleted, Named}

-- what line n says of the key that it names: a delete leaves no record, else the record stands there
unfoldable pub said_by : ℕ → Op → Naming
said_by n ins = Named n
said_by n upd = Named n
said_by n del = Deleted

-- what line n says of a key, which it may not name
unfoldable pub named_by : List ℕ → ℕ → List ℕ → Naming
named_by k n t = pick (is_eq (lex k (key_numbers (rec_of t)))) (said_by n (op_of (get_or (fields_of t) 1 []))) Unnamed

-- a later line that names the key counts
unfoldable pub later_of : Naming → Naming → Naming
later_of before Unnamed = before
later_of before Deleted = Deleted
later_of before (Named n) = Named n

-- what the lines from line n on say of a key, after those before
unfoldable pub last_named : List ℕ → ℕ → List Line → Naming → Naming
last_named k n [] o = o
last_named k n (l ∷ ls) o = last_named k (suc n) ls (later_of o (named_by k n l.text))

-- the meaning's last body line of a key, whose place counts from 0
unfoldable pub naming_of : Option (ℕ × Op) → Naming
naming_of none = Unnamed
naming_of (some l) = said_by (suc l.0) l.1
