-- The laws of the walk to a line.
use mathlib.Core.Path.{◌≡◌, refl, sym, ap, ◌∙◌}
use mathlib.Core.Bool.{true, false, ◌&&◌}
use mathlib.Core.List.{List, [], ◌∷◌}
use Prim.Native.Nat.{ℕ, zero, suc, ◌+◌, ◌-◌, ◌≤◌, ◌<◌}
use native.Mathlib.Decide.{dec_le}
use native.Mathlib.Nat.{add-zero, lt_of_not-le}
use native.Mathlib.Omega.{arith}
use borrow.Author.Rules.{rules}
use borrow.Author.Tests.{lt-ltb, le-ltb, le-leb, lt-leb, ltb-true}
use lib.Dec.{ltb, leb, leb-suc-suc}
use lib.ListN.{length, get_or, take, drop, length-take, length-drop}
use Rattle.base.specs.Lists.{pick}
use Rattle.meaning.specs.Lines.{Line, lines_of}
use Rattle.meaning.specs.Enquiries.{spanned}
use Rattle.text.specs.Places.{line_len, line_end}
use Rattle.text.proofs.LineLaws.{lines_at, lines_end}
use Rattle.enquiries.specs.Handed.{LineSpan}

-- no line
abbrev pub no_line : Line
no_line = record { text = []; ended = false }

-- the line at an offset
abbrev pub line_here : List ℕ → ℕ → Line
line_here b at = record { text = take (line_len (drop at b)) (drop at b); ended = ltb (line_len (drop at b)) (length (drop at b)) }

-- `left` lines are to be passed before the one that is sought
pub record Seeking (b : List ℕ) (n at left : ℕ) : Type 0 where
  pub exists : ltb left (length (lines_of (drop at b))) ≡ (leb 1 n && leb n (length (lines_of b)))
  pub starts : ltb left (length (lines_of (drop at b))) ≡ true → at + spanned (take left (lines_of (drop at b))) ≡ spanned (take (n - 1) (lines_of b))
  pub text : get_or (lines_of (drop at b)) left no_line ≡ get_or (lines_of b) (n - 1) no_line

-- at the start all lines before it are
pub seek_start : (b : List ℕ) (n : ℕ) → 1 ≤ n → Seeking b n 0 (n - 1)
seek_start b zero h = absurd (omega arith)
seek_start b (suc m) h = record {
  exists = rw (less, le-leb 1 (suc m) h) refl;
  starts = λ t. omega arith;
  text = refl;
}
  where
    less : suc m - 1 ≡ m
    less = omega arith

-- a line that another follows does not reach the end of the bytes
short_there : (b : List ℕ) (at m : ℕ) → at < length b → ltb m (length (lines_of (drop (at + (line_len (drop at b) + 2)) b))) ≡ true → line_len (drop at b) < length b - at
short_there b at m h t =
    elim (dec_le (length b - at) (line_len (drop at b)))
    [ yes k ↦ absurd (omega (arith, ltb-true m 0 (rw (lines_end b (at + (line_len (drop at b) + 2)) (omega arith)) at t))) | no k ↦ lt_of_not-le k ]

-- one line is passed
pub seek_turn : (b : List ℕ) (n at left e : ℕ) → Seeking b n at left → at < length b → e ≡ line_end b at → (left ≡ 0 → ⊥) → Seeking b n (e + 2) (left - 1)
unfolding spanned
seek_turn b n at zero e s h q z = absurd (z refl)
seek_turn b n at (suc m) e s h q z = rw (less, next) (record {
  exists = sym (leb-suc-suc (suc m) (length rest)) ∙ (rw split at s.exists);
  starts = λ t. begins t;
  text = rw split at s.text;
})
  where
    rest : List Line
    rest = lines_of (drop (at + (line_len (drop at b) + 2)) b)

    less : suc m - 1 ≡ m
    less = omega arith

    next : e + 2 ≡ at + (line_len (drop at b) + 2)
    next = omega arith

    split : lines_of (drop at b) ≡ line_here b at ∷ rest
    split = lines_at b at h

    begins : ltb m (length rest) ≡ true → at + (line_len (drop at b) + 2) + spanned (take m rest) ≡ spanned (take (n - 1) (lines_of b))
    begins t =
        let k = short_there b at m h t in
        let u : ltb (suc m) (suc (length rest)) ≡ true = leb-suc-suc (suc m) (length rest) ∙ t in
        let w : at + (length (line_here b at).text + (pick (line_here b at).ended 2 0 + spanned (take m rest))) ≡ spanned (take (n - 1) (lines_of b)) = (rw split at s.starts) u in
        let d : (line_here b at).ended ≡ true = lt-ltb (line_len (drop at b)) (length (drop at b)) (simp length-drop (omega arith)) in
        let l : length (line_here b at).text ≡ line_len (drop at b) = simp (length-take, length-drop) (omega arith) in
        omega (arith, rw (d, l) at w)

-- here it is
pub seek_here : (b : List ℕ) (n at left e : ℕ) → Seeking b n at left → at < length b → e ≡ line_end b at → left ≡ 0 → at ≤ e → e ≤ length b → LineSpan b n (record { start = at; end = e })
unfolding spanned
seek_here b n at (suc m) e s h q z a l = absurd (omega arith)
seek_here b n at zero e s h q z a l = record {
  exists = sym s.exists ∙ there;
  starts = sym (add-zero at) ∙ s.starts there;
  text = rw size (ap (λ x. x.text) (rw split at s.text));
  from = a;
  within = l;
}
  where
    split : lines_of (drop at b) ≡ line_here b at ∷ lines_of (drop (at + (line_len (drop at b) + 2)) b)
    split = lines_at b at h

    there : ltb 0 (length (lines_of (drop at b))) ≡ true
    there = lt-ltb 0 (length (lines_of (drop at b))) (omega (arith, ap length split))

    size : e - at ≡ line_len (drop at b)
    size = omega arith

-- past the last line there is none
pub seek_none : (b : List ℕ) (n at left : ℕ) → Seeking b n at left → length b ≤ at → (leb 1 n && leb n (length (lines_of b))) ≡ false
seek_none b n at left s h = sym (rw (lines_end b at h) at s.exists) ∙ le-ltb left 0 (omega arith)

-- nor is there a line 0
pub seek_zero : (b : List ℕ) (n : ℕ) → n < 1 → (leb 1 n && leb n (length (lines_of b))) ≡ false
seek_zero b n h = rw (lt-leb 1 n h)

pub ruleset seekline = (rules, seek_start, seek_turn, seek_here, seek_none, seek_zero)
