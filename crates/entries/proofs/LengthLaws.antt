-- The laws of the lengths of records' contents.
use mathlib.Core.Path.{◌≡◌, ap, ◌∙◌}
use mathlib.Core.Bool.{false}
use mathlib.Core.List.{List}
use Prim.Native.Nat.{ℕ, suc, ◌≤◌}
use native.Mathlib.Omega.{arith}
use borrow.Author.Rules.{rules}
use lib.ListN.{length, take, drop, length-drop, length-take}
use Rattle.meaning.specs.Lines.{after_field}
use Rattle.meaning.specs.Records.{Rec, content_of}
use Rattle.text.specs.Places.{line_len, field_len}
use Rattle.text.proofs.FieldLaws.{after_drop}
use Rattle.entries.specs.Entries.{rec_of, line_at}

after_short : (t : List ℕ) → length (after_field false t) ≤ length t
after_short t = rw (after_drop false t) (omega (arith, length-drop (suc (field_len false t)) t))

-- a content is no longer than the bytes that its line stands in
content_short : (s : List ℕ) (at : ℕ) → length (rec_of (line_at s at)).content ≤ length s
unfolding rec_of content_of line_at
content_short s at =
    let t : List ℕ = take (line_len (drop at s)) (drop at s) in
    omega (arith, after_short (after_field false (after_field false t)), after_short (after_field false t), after_short t, length-take (line_len (drop at s)) (drop at s), length-drop at s)

module _ (s : List ℕ) (at : ℕ) (x : Rec) (c : List ℕ) (e : rec_of (line_at s at) ≡ x) (u : c ≡ (rec_of (line_at s at)).content) where
  -- so is that of an entry's record, by its line
  pub long_entry : length c ≡ length x.content
  long_entry = ap length u ∙ ap (λ r. length r.content) e

  pub within_entry : (m : ℕ) → length s ≤ m → length c ≤ m
  within_entry m l = omega (arith, ap length u, content_short s at)

pub ruleset longentry = (rules, long_entry, within_entry)
