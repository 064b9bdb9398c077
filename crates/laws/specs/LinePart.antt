-- The part that is handed back for a line is that line's bytes, without CR LF.
use Rattle.std.specs.Prelude.{◌≡◌, refl, Bool, true, false, List, [], ◌∷◌, ◌++◌, ℕ, zero, suc, ◌+◌, ◌<◌, length, get_or, take, drop}
use Rattle.std.proofs.Common.{sym, ap, ◌∙◌, add-zero, zero-add, arith}
use Rattle.std.proofs.Math.Seq.{take-append_seam, drop-append-add}
use Rattle.base.specs.Lists.{pick}
use Rattle.meaning.specs.Lines.{Line, lines_of}
use Rattle.meaning.specs.Enquiries.{spanned, Slice, part_of}
use Rattle.laws.specs.LinesAndFields.{unlines, lines_join}

-- no line
abbrev pub no_line : Line
no_line = record { text = []; ended = false }

-- a line's ending
abbrev pub ending : Bool → List ℕ
ending e = pick e (13 ∷ 10 ∷ []) []

ending_length : (e : Bool) → length (ending e) ≡ pick e 2 0
ending_length true = refl
ending_length false = refl

-- what stands x bytes after a line's start: the line from there on, its ending, and the lines after it
pub line_drop : (ls : List Line) (i x : ℕ) → i < length ls
    → drop (spanned (take i ls) + x) (unlines ls) ≡ drop x ((get_or ls i no_line).text ++ (ending (get_or ls i no_line).ended ++ unlines (drop (suc i) ls)))
unfolding spanned unlines
line_drop [] i x h = absurd (omega arith)
line_drop (l ∷ ls) zero x h = ap (λ n. drop n (l.text ++ (ending l.ended ++ unlines ls))) (zero-add x)
line_drop (l ∷ ls) (suc i) x h =
    let s = spanned (take i ls) in
    let e : length l.text + (pick l.ended 2 0 + s) + x ≡ length l.text + (length (ending l.ended) + (s + x)) = omega (arith, ending_length l.ended) in
    ap (λ n. drop n (l.text ++ (ending l.ended ++ unlines ls))) e
    ∙ drop-append-add l.text (ending l.ended ++ unlines ls) (length (ending l.ended) + (s + x))
    ∙ drop-append-add (ending l.ended) (unlines ls) (s + x)
    ∙ line_drop ls i x (omega arith)

-- the bytes at the part's place are the bytes of line i
pub part_is : (s : Slice) (b : List ℕ) (i : ℕ) → i < length (lines_of b)
    → take (part_of s (lines_of b) i).size (drop (part_of s (lines_of b) i).start b) ≡ (get_or (lines_of b) i no_line).text
unfolding part_of
part_is s b i h =
    let ls = lines_of b in
    let t = (get_or ls i no_line).text in
    let at = spanned (take i ls) in
    ap (λ x. take (length t) (drop at x)) (sym (lines_join b))
    ∙ ap (λ n. take (length t) (drop n (unlines ls))) (sym (add-zero at))
    ∙ ap (take (length t)) (line_drop ls i 0 h)
    ∙ take-append_seam t (ending (get_or ls i no_line).ended ++ unlines (drop (suc i) ls))
