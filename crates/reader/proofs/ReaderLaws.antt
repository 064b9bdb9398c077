-- The laws of a reader's places.
use mathlib.Core.Path.{◌≡◌, refl, sym, ap, ap₂, ◌∙◌}
use mathlib.Core.Bool.{Bool, true, false}
use mathlib.Core.List.{List, [], ◌∷◌, map}
use Prim.Native.Nat.{ℕ, ◌+◌, ◌-◌, ◌≤◌, ◌<◌}
use native.Mathlib.Omega.{arith}
use borrow.Author.Rules.{rules}
use borrow.Author.Tests.{lt-ltb, le-ltb, ltb-false}
use denote.Ref.{Bor}
use lib.Dec.{ltb}
use lib.ListN.{length, take, drop}
use Rattle.base.specs.Lists.{pick}
use Rattle.base.proofs.Walk.{at_end_lem}
use Rattle.meaning.specs.Lines.{Line, lines_of}
use Rattle.text.specs.Places.{line_len, line_end}
use Rattle.text.specs.Parts.{StandsIn}
use Rattle.text.proofs.LineLaws.{lines_at, lines_end}
use Rattle.reader.specs.Reading.{start_in, next_line, lines_left}

-- past the end the line is empty
pub line_past : (s r : Bor (List ℕ)) (at : ℕ) → length s.now < at → StandsIn r s 0 (0 - 0) → StandsIn r s (start_in s.now at) (line_len (drop at s.now))
unfolding start_in line_len
line_past s r at h p = rw (lt-ltb (length s.now) at h, at_end_lem s.now at (omega arith)) p

-- else it runs up to its end
pub line_here_lem : (s r : Bor (List ℕ)) (at e : ℕ) → at ≤ length s.now → e ≡ line_end s.now at → StandsIn r s at (e - at) → StandsIn r s (start_in s.now at) (line_len (drop at s.now))
unfolding start_in
line_here_lem s r at e h q p = let size : e - at ≡ line_len (drop at s.now) = omega arith in rw (le-ltb (length s.now) at h) (rw size at p)

pub ruleset lines = (rules, line_past, line_here_lem)

-- past the end the next line is the end
pub next_past : (s : List ℕ) (at : ℕ) → length s < at → length s ≡ next_line s at
unfolding next_line
next_past s at h = rw (lt-ltb (length s) at h)

-- past a line that is ended
pub next_more : (s : List ℕ) (at e : ℕ) → at ≤ length s → e ≡ line_end s at → e < length s → e + 2 ≡ next_line s at
unfolding next_line
next_more s at e h q l = rw (le-ltb (length s) at h, ← q, lt-ltb e (length s) l)

-- and past the last, which need not be
pub next_last : (s : List ℕ) (at e : ℕ) → at ≤ length s → e ≡ line_end s at → length s ≤ e → e ≡ next_line s at
unfolding next_line
next_last s at e h q l = rw (le-ltb (length s) at h, ← q, le-ltb e (length s) l)

pub ruleset past = (rules, next_past, next_more, next_last)

-- ---- the lines that are left

-- past the end there are none
pub left_none : (s : List ℕ) (at : ℕ) → length s ≤ at → lines_left s at ≡ []
unfolding lines_left
left_none s at h = rw (lines_end s at h)

-- else the first is the one that the reader stands at
pub left_first : (s t : Bor (List ℕ)) (line : List ℕ) (at n : ℕ) → at < length s.now → line ≡ take (line_len (drop at s.now)) (drop (start_in s.now at) s.now) → t ≡ s → n ≡ next_line s.now at
    → lines_left s.now at ≡ line ∷ lines_left t.now n
unfolding lines_left start_in next_line
left_first s t line at n h e f g =
    let here : start_in s.now at ≡ at = rw (le-ltb (length s.now) at (omega arith)) in
    ap texts (lines_at s.now at h) ∙ ap₂ (λ x xs. x ∷ texts xs) (sym (rw here at e)) (rw f (rest (ltb (line_end s.now at) (length s.now)) refl (rw (le-ltb (length s.now) at (omega arith)) at g)))
  where
    texts : List Line → List (List ℕ)
    texts ls = map (λ l. l.text) ls

    rest : (b : Bool) → ltb (line_end s.now at) (length s.now) ≡ b → n ≡ pick b (line_end s.now at + 2) (line_end s.now at)
        → lines_of (drop (at + (line_len (drop at s.now) + 2)) s.now) ≡ lines_of (drop n s.now)
    rest true w q = ap (λ k. lines_of (drop k s.now)) (omega arith)
    rest false w q =
        let over : length s.now ≤ line_end s.now at = ltb-false (line_end s.now at) (length s.now) w in
        lines_end s.now (at + (line_len (drop at s.now) + 2)) (omega arith) ∙ sym (lines_end s.now n (omega arith))
