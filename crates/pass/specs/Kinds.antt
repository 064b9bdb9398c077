-- A line that was passed, by its kind.
use Rattle.std.specs.Prelude.{◌≡◌, List, map, ℕ, ◌+◌, ◌<◌, Option, IfSome, length, get_or}
use Rattle.std.proofs.Math.Option.{Option as Maybe, none, some}
use Rattle.meaning.specs.Lines.{identifier}
use Rattle.meaning.specs.Kinds.{Kind}
use Rattle.meaning.specs.Format.{kind_of}
use Rattle.meaning.specs.Table.{fields, scottish}
use Rattle.words.specs.Words.{upto}
use Rattle.layout.specs.Meant.{kind_meant}
use Rattle.layout.specs.Rows.{bare}
use Rattle.layout.specs.Check.{Parted}
use Rattle.pass.specs.declared.kind.Passed.{Passed as Line}
use Rattle.pass.specs.Passed.{Passed}

-- a line begins with the two bytes of a kind and a comma, if a kind was found
abbrev pub Begins : List ℕ → ℕ → Maybe Kind → Type 0
Begins s at none = Unit {0}
Begins s at (some k) = (at + 2 < length s) × (kind_of scottish (upto s at (at + 2)) ≡ some k) × (get_or s (at + 2) 0 ≡ 44)

-- a line of a kind was passed up to its CR LF at e: what codes 1, 2, 4 and 5 ask of it holds, and its ends are noted
pub record PassedAs (k : Kind) (s a : List ℕ) (at e : ℕ) : Type 0 where
  pub line : Passed (map bare (fields k)) s a at e
  pub kind : kind_of scottish (identifier (upto s at e)) ≡ some k
  pub parted : Parted k (upto s at e) a
  pub inside : e < length s

-- if a line was found, it was passed as what it is said to be
abbrev pub FoundAs : List ℕ → ℕ → List ℕ → Option Line → Type 0
FoundAs s at a r = IfSome r (λ l. PassedAs (kind_meant l.kind) s a at l.end)
