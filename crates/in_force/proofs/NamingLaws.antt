-- The laws of the last line that names a key.
use mathlib.Core.Path.{◌≡◌, ap, ◌∙◌}
use mathlib.Core.Bool.{Bool, true, false}
use mathlib.Core.List.{List, []}
use Prim.Native.Nat.{ℕ, ◌+◌, ◌-◌, ◌≤◌, ◌<◌}
use native.Mathlib.Numerals.{add-one}
use native.Mathlib.Omega.{arith}
use borrow.Author.Rules.{rules}
use borrow.Author.Tests.{not-true, not-false}
use lib.ListN.{length, get_or, take, drop}
use Rattle.theory.specs.Tri.{is_eq}
use Rattle.theory.specs.Lex.{lex}
use Rattle.theory.specs.Step.{Op}
use Rattle.meaning.specs.Lines.{lines_of, fields_of}
use Rattle.meaning.specs.Records.{op_of}
use Rattle.text.specs.Places.{line_len, line_end}
use Rattle.text.proofs.LineLaws.{lines_at, lines_end}
use Rattle.keys.specs.Numbers.{key_numbers}
use Rattle.entries.specs.Entries.{rec_of, line_at}
use Rattle.entries.proofs.EntryLaws.{line_here_lem}
use Rattle.volume.specs.declared.lines.Change.{Change}
use Rattle.volume.specs.declared.lines.Change.TheVariants.{Insert, Update, Delete}
use Rattle.volume.specs.Meant.{change_meant}
use Rattle.in_force.specs.declared.naming.Naming.{Naming}
use Rattle.in_force.specs.declared.naming.Naming.TheVariants.{Unnamed, Deleted, Named}
use Rattle.in_force.specs.Naming.{said_by, named_by, later_of, last_named}

-- ---- one line

module _ (n : ℕ) (c : Change) where
  -- an insert
  pub said_insert : c ≡ Insert → Named n ≡ said_by n (change_meant c)
  unfolding said_by
  said_insert e = rw e

  -- an update
  pub said_update : c ≡ Update → Named n ≡ said_by n (change_meant c)
  unfolding said_by
  said_update e = rw e

  -- a delete
  pub said_delete : c ≡ Delete → Deleted ≡ said_by n (change_meant c)
  unfolding said_by
  said_delete e = rw e

pub ruleset saying = (rules, said_insert, said_update, said_delete)

module _ (f k j : List ℕ) (at n : ℕ) (b : Bool) (q : b ≡ is_eq (lex k j)) (u : j ≡ key_numbers (rec_of (line_at f at))) where
  -- a line of another key
  pub named_other : b ≡ false → Unnamed ≡ named_by k n (line_at f at)
  unfolding named_by
  named_other t = rw (← u, ← q, t)

  -- a line of that key
  pub named_here : (e : ℕ) (o : Op) (x : Naming) → b ≡ true → e ≡ line_end f at → o ≡ op_of (get_or (fields_of (take (e - at) (drop at f))) 1 []) → x ≡ said_by n o → x ≡ named_by k n (line_at f at)
  unfolding named_by
  named_here e o x t l w y = rw (← u, ← q, t) (y ∙ ap (said_by n) (w ∙ ap (λ z. op_of (get_or (fields_of z) 1 [])) (line_here_lem f at e l)))

pub ruleset naming = (rules, not-true, not-false, named_other, named_here)

-- ---- the later of two

module _ (a b : Naming) where
  -- a line that does not name the key
  pub later_unnamed : b ≡ Unnamed → a ≡ later_of a b
  unfolding later_of
  later_unnamed e = rw e

  -- one that deletes its record
  pub later_deleted : b ≡ Deleted → b ≡ later_of a b
  unfolding later_of
  later_deleted e = rw e

  -- one on which it stands
  pub later_named : (n : ℕ) → b ≡ Named n → b ≡ later_of a b
  unfolding later_of
  later_named n e = rw e

pub ruleset latest = (rules, later_unnamed, later_deleted, later_named)

-- ---- the walk

module _ (f k : List ℕ) (at n : ℕ) (o x : Naming) (w : last_named k n (lines_of (drop at f)) o ≡ x) where
  -- one line is passed
  pub walk_turn : (e : ℕ) (h p : Naming) → at < length f → h ≡ named_by k n (line_at f at) → p ≡ later_of o h → e ≡ line_end f at → last_named k (n + 1) (lines_of (drop (e + 2) f)) p ≡ x
  unfolding last_named line_at
  walk_turn e h p l g y q =
      let i : at + (line_len (drop at f) + 2) ≡ e + 2 = omega arith in
      rw (add-one n, y, g, ← i) (rw (lines_at f at l) at w)

  -- at the end all are
  pub walk_done : length f ≤ at → o ≡ x
  unfolding last_named
  walk_done l = rw (lines_end f at l) at w

pub ruleset walking = (rules, walk_turn, walk_done)
