-- The line that find hands back lies within the holding.
use mathlib.Core.Path.{◌≡◌}
use mathlib.Core.Option.{Option, none, some}
use mathlib.Core.List.{List}
use Prim.Native.Nat.{ℕ, ◌+◌, ◌≤◌}
use borrow.Author.Rules.{rules}
use lib.ListN.{length}
use Rattle.meaning.specs.Lines.{lines_of}
use Rattle.meaning.specs.Kinds.{Kind, numbered_among}
use Rattle.meaning.specs.Table.{enquiries, scottish}
use Rattle.meaning.specs.Holding.{Held, sound, unsound, read_holding}
use Rattle.meaning.specs.Enquiries.{Found, first, part_of, held_at, held_part, find_in, find_kind, find}
use Rattle.meaning.specs.Codes.{key_absent, holding_unsound, kind_not_asked}
use Rattle.meaning.specs.Answers.{of_line, at_line, alone}
use Rattle.enquiries.proofs.WithinLaws.{Within, nothing, line_within, either}

first_within : (a b : List ℕ) (i : ℕ) → Within (part_of first (lines_of a) i) a b
unfolding part_of
first_within a b i = line_within a i

-- the held line, or an empty part
pub held_within : (a b : List ℕ) (o : Option ℕ) → Within (held_part a o) a b
unfolding held_part
held_within a b none = nothing (alone key_absent) a b
held_within a b (some i) = first_within a b i

find_within : (a b : List ℕ) (kind n : ℕ) → Within (find scottish a kind n) a b
unfolding find find_kind find_in
find_within a b kind n = asked (numbered_among enquiries kind)
  where
    holds : (q : List ℕ) (h : Held) → Within (find_in scottish a q h) a b
    holds q (unsound m) = nothing (at_line m (of_line holding_unsound)) a b
    holds q (sound st) = held_within a b (held_at scottish q 0 st)

    asked : (k : Option Kind) → Within (find_kind scottish a n k) a b
    asked none = nothing (alone kind_not_asked) a b
    asked (some k) = holds _ (read_holding scottish a)

-- the line that find finds
pub find_fits : (a : List ℕ) (kind n : ℕ) (g : Found) → g ≡ find scottish a kind n → g.start + g.size ≤ length a
find_fits a kind n g e = either a (find scottish a kind n) g e (find_within a a kind n)

pub ruleset handing = (rules, find_fits)
