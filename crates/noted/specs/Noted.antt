-- Where the fields start by which a record refers to others, as they are noted of its line.
use Rattle.std.specs.Prelude.{◌≡◌, List, [], ◌∷◌, ℕ, ◌+◌, ◌/◌, ◌%◌, ◌≤◌, eqb, length, get_or, take}
use Rattle.std.proofs.Math.Option.{Option, none, some}
use Rattle.base.specs.Lists.{pick}
use Rattle.theory.specs.Decimal.{value}
use Rattle.meaning.specs.Records.{Rec}
use Rattle.layout.specs.Rows.{laid_out}
use Rattle.keys.specs.Numbers.{ref_at}
use Rattle.entries.specs.Entries.{rec_of, line_at}
use Rattle.entries.specs.Fields.{first_field}

-- the key of a kind's number by the field so many bytes into the line at `at`; 1 byte stands for no field
unfoldable pub ref_there : List ℕ → ℕ → ℕ → ℕ → Option (List ℕ)
ref_there s at to off = pick (eqb off 1) none (some (to ∷ (value (take 16 (first_field (line_at s (at + off)))) ∷ (0 ∷ (0 ∷ [])))))

-- the two places that are noted of the line at `at` in one number, to the base 65,536, are those by which its record refers to others
pub record RefsNoted (s : List ℕ) (at v : ℕ) (x : Rec) : Type 0 where
  pub own : x ≡ rec_of (line_at s at)
  pub first : ref_at x.kind x.content 0 ≡ ref_there s at (get_or (laid_out x.kind).to 0 0) (v % 65536)
  pub second : ref_at x.kind x.content 1 ≡ ref_there s at (get_or (laid_out x.kind).to 1 0) (v / 65536)
  pub first_in : at + v % 65536 ≤ length s
  pub second_in : at + v / 65536 ≤ length s
