-- The laws of the line of an entry's record.
use mathlib.Core.Path.{◌≡◌, sym, ap, ◌∙◌}
use mathlib.Core.List.{List, []}
use Rattle.std.specs.Prelude.{Option}
use Prim.Native.Nat.{ℕ, ◌+◌, ◌/◌, ◌%◌, ◌≤◌, ◌<◌}
use native.Mathlib.Omega.{arith}
use borrow.Author.Rules.{rules}
use lib.ListN.{length, get_or}
use Rattle.theory.specs.Step.{Op, inv}
use Rattle.theory.specs.Decimal.{width}
use Rattle.meaning.specs.Lines.{fields_of}
use Rattle.meaning.specs.Kinds.{Kind}
use Rattle.meaning.specs.Records.{Rec, op_of}
use Rattle.text.specs.Front.{in_front}
use Rattle.entries.specs.Entries.{rec_of, line_at, record_of}
use Rattle.entries.proofs.EntryLaws.{entry_held, entry_filed, line_past, line_here_lem}
use Rattle.places.specs.Changes.{op_at}
use Rattle.writer.specs.Lines.{line_bytes}
use Rattle.writer.specs.Room.{Put, PutIfFits}
use Rattle.writer.proofs.LineLaws.{length_line}

-- the text of the line at an offset
pub ruleset linetext = (rules, line_past, line_here_lem)

-- ---- the same record

-- an even entry's line stands in the holding
pub held_is : (h f : List ℕ) (v : ℕ) → v % 2 ≡ 0 → rec_of (line_at h (v / 2)) ≡ record_of h f v
held_is h f v e = sym (entry_held h f v e)

-- an odd one's in the file
pub filed_is : (h f : List ℕ) (v : ℕ) → (v % 2 ≡ 0 → ⊥) → rec_of (line_at f (v / 2)) ≡ record_of h f v
filed_is h f v e = sym (entry_filed h f v e)

-- so what is written of a record's line where it fits is that of the same record's
pub same_put : (n room : ℕ) (o : Op) (q r : Rec) (old new : List ℕ) (x : Option ℕ) → PutIfFits (line_bytes n (record { op = o; rec = q })) room old x new → q ≡ r
    → PutIfFits (line_bytes n (record { op = o; rec = r })) room old x new
same_put n room o q r old new x h e = rw (← e) h

pub ruleset entryline = (rules, same_put, held_is, filed_is)

-- ---- a line that is written where it fits

module _ (t c : List ℕ) (n room : ℕ) (o : Op) (e : c ≡ (rec_of t).content) where
  line_long : length (line_bytes n (record { op = o; rec = rec_of t })) ≡ 10 + width n + length c
  line_long = length_line n (rec_of t).kind o (rec_of t).content ∙ rw e

  -- it doesn't fit
  pub record_long : room < 10 + width n + length c → room < length (line_bytes n (record { op = o; rec = rec_of t }))
  record_long h = omega (arith, line_long)

  -- it does, and is written
  pub record_put : (k : Kind) (old new : List ℕ) (m : ℕ) → 10 + width n + length c ≤ room → k ≡ (rec_of t).kind
      → m ≡ length (line_bytes n (record { op = o; rec = record { kind = k; content = c } })) → new ≡ in_front (line_bytes n (record { op = o; rec = record { kind = k; content = c } })) old
      → Put (line_bytes n (record { op = o; rec = rec_of t })) room old m new
  record_put k old new m h q l w =
      let r : ◌≡◌ {A = Rec} (record { kind = k; content = c }) (rec_of t) = rw (q, e) in
      record {
        fits = omega (arith, line_long);
        size = l ∙ ap (λ x. length (line_bytes n (record { op = o; rec = x }))) r;
        front = w ∙ ap (λ x. in_front (line_bytes n (record { op = o; rec = x })) old) r;
      }

-- a step is taken back by the inverse of what its line says
pub back_is : (f t : List ℕ) (v : ℕ) (o b : Op) → t ≡ line_at f (v / 2) → o ≡ op_of (get_or (fields_of t) 1 []) → b ≡ inv o → b ≡ inv (op_at f v)
unfolding op_at
back_is f t v o b q e u = u ∙ rw (e, q)

pub ruleset stepback = (rules, back_is)
