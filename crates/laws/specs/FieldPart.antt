-- The part that 'one field of a line' hands back is that field's bytes, with its quotes.
use Rattle.std.specs.Prelude.{◌≡◌, false, List, [], ◌∷◌, ◌++◌, ℕ, zero, suc, ◌+◌, ◌<◌, length, get_or, take, drop}
use Rattle.std.proofs.Common.{sym, ap, ◌∙◌, append_assoc, arith}
use Rattle.std.proofs.Math.Seq.{take-append_seam, drop-append-add}
use Rattle.meaning.specs.Lines.{fields_from, fields_of, lines_of}
use Rattle.meaning.specs.Enquiries.{spanned, fields_spanned}
use Rattle.laws.specs.LinesAndFields.{unlines, lines_join, commas, fields_commas}
use Rattle.laws.specs.LinePart.{no_line, ending, line_drop}

-- the bytes at a field's place are the field, whatever follows the line
field_bytes_lem : (fs : List (List ℕ)) (j : ℕ) (more : List ℕ) → j < length fs
    → take (length (get_or fs j [])) (drop (fields_spanned (take j fs)) (commas fs ++ more)) ≡ get_or fs j []
unfolding commas fields_spanned
field_bytes_lem [] j more h = absurd (omega arith)
field_bytes_lem (f ∷ []) zero more h = take-append_seam f more
field_bytes_lem (f ∷ []) (suc j) more h = absurd (omega arith)
field_bytes_lem (f ∷ (g ∷ fs)) zero more h =
    ap (take (length f)) (append_assoc f (44 ∷ commas (g ∷ fs)) more) ∙ take-append_seam f ((44 ∷ commas (g ∷ fs)) ++ more)
field_bytes_lem (f ∷ (g ∷ fs)) (suc j) more h =
    let s = fields_spanned (take j (g ∷ fs)) in
    let r : List ℕ = 44 ∷ commas (g ∷ fs) in
    let e : suc (length f + s) ≡ length f + suc s = omega arith in
    let d = ap (λ n. drop n ((f ++ r) ++ more)) e ∙ ap (drop (length f + suc s)) (append_assoc f r more) ∙ drop-append-add f (r ++ more) (suc s) in
    ap (take (length (get_or (g ∷ fs) j []))) d ∙ field_bytes_lem (g ∷ fs) j more (omega arith)

-- field j of line i, both counted from 0: the bytes at its place are the field, with its quotes
pub field_is : (b : List ℕ) (i j : ℕ) → i < length (lines_of b) → j < length (fields_of (get_or (lines_of b) i no_line).text)
    → take (length (get_or (fields_of (get_or (lines_of b) i no_line).text) j []))
    (drop (spanned (take i (lines_of b)) + fields_spanned (take j (fields_of (get_or (lines_of b) i no_line).text))) b)
    ≡ get_or (fields_of (get_or (lines_of b) i no_line).text) j []
unfolding fields_of
field_is b i j hi hj =
    let ls = lines_of b in
    let t = (get_or ls i no_line).text in
    let fs = fields_from false t in
    let more = ending (get_or ls i no_line).ended ++ unlines (drop (suc i) ls) in
    let x = fields_spanned (take j fs) in
    ap (λ y. take (length (get_or fs j [])) (drop (spanned (take i ls) + x) y)) (sym (lines_join b))
    ∙ ap (take (length (get_or fs j []))) (line_drop ls i x hi)
    ∙ ap (λ y. take (length (get_or fs j [])) (drop x (y ++ more))) (sym (fields_commas false t).0)
    ∙ field_bytes_lem fs j more hj
