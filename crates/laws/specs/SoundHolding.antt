-- What a sound holding is, rule by rule in paper 01's words; and that the check finds exactly that.
use Rattle.std.specs.Prelude.{◌≡◌, ℕ, suc, ◌+◌, ◌≤◌}
use Rattle.std.proofs.Math.Path.{sym, ap}
use Rattle.std.proofs.Common.{◌∙◌, arith}
use Rattle.std.proofs.Math.Bool.{true}
use Rattle.std.proofs.Math.Option.{some, some-injective}
use mathlib.Core.List.{List, [], ◌∷◌}
use Rattle.std.proofs.Math.Dec.{T, le→leb, leb→le}
use Rattle.std.proofs.Math.ListN.{length}
use Rattle.base.specs.Lists.{all, at_most}
use Rattle.base.specs.Tests.{and_in, and_l, and_r, bools, some≢none}
use Rattle.theory.specs.Store.{Asc}
use Rattle.theory.specs.Refs.{met}
use Rattle.theory.specs.Step.{passes}
use Rattle.theory.specs.Run.{as_inserts}
use Rattle.meaning.specs.Lines.{lines_of}
use Rattle.meaning.specs.Kinds.{body_line, role}
use Rattle.meaning.specs.Format.{Format}
use Rattle.meaning.specs.Records.{Rec, change_text, keyed, refs_of, change_texts}
use Rattle.meaning.specs.Holding.{Held, sound, unsound, read_holding, written, most_records}
use Rattle.meaning.specs.Steps.{few, held_tests}
use Rattle.laws.specs.Regular.{Regular}
use Rattle.laws.specs.LinesAndFields.{ends_all, unlines, lines_join, lines_in, unlines_ends}
use Rattle.laws.specs.SoundLine.{SoundLine}
use Rattle.laws.specs.Body.{fine, fine_body, change_made, fine_line, line_fine}
use Rattle.laws.specs.HoldingReadBack.{insert_of, held_records, plain_texts, fine_inserts, holding}

-- a check that comes to records has found the holding sound, with those records
pub held_sound : (b : List ℕ) (st : List Rec) (h : Held) → held_records h ≡ some st → h ≡ sound st
unfolding held_records
held_sound b st (sound s) e = ap sound (some-injective s st e)
held_sound b st (unsound n) e = absurd (some≢none (sym e))

module _ (F : Format) where
  -- the lines of a holding, numbered from n on: each a sound line of a held kind
  abbrev pub SoundLines : ℕ → List Rec → Type 0
  SoundLines n [] = Unit {0}
  SoundLines n (r ∷ rs) = (role r.kind ≡ body_line) × SoundLine F r.kind (change_text n (insert_of r)) × SoundLines (suc n) rs

  -- the bytes are a sound holding of the records st: its lines are theirs, with CHANGE_TYPE "I" and PRO_ORDER the line's own number without leading zeros;
  -- each is sound; keys strictly ascend; references are met; at most 8,192 lines
  pub record SoundHolding (b : List ℕ) (st : List Rec) : Type 0 where
    pub lines : lines_of b ≡ ends_all (change_texts 1 (as_inserts st))
    pub sounds : SoundLines 1 st
    pub ascending : Asc (keyed F) st
    pub references : T (met (keyed F) (refs_of F) st)
    pub few : length st ≤ most_records

  module _ (regular : Regular F) where
    fine_lines : (n : ℕ) (st : List Rec) → n + length st ≤ suc most_records → T (all (fine F) st) → SoundLines n st
    fine_lines n [] h f = tt
    fine_lines n (r ∷ rs) h f =
        let g = and_l (fine F r) (all (fine F) rs) f in
        (fine_body F r g, fine_line F regular n (insert_of r) (omega arith) g, fine_lines (suc n) rs (omega arith) (and_r (fine F r) (all (fine F) rs) f))

    lines_fine : (n : ℕ) (st : List Rec) → SoundLines n st → T (all (fine F) st)
    unfolding change_text
    lines_fine n [] s = tt
    lines_fine n (r ∷ rs) s =
        let k = r.kind in
        let f : T (fine F r) = rw (change_made n (insert_of r)).content_m at (line_fine F regular k (change_text n (insert_of r)) s.0 s.1) in
        and_in (fine F r) (all (fine F) rs) f (lines_fine (suc n) rs s.2)

    -- the check takes every sound holding
    pub sound_held : (b : List ℕ) (st : List Rec) → SoundHolding b st → read_holding F b ≡ sound st
    sound_held b st s =
        let w : b ≡ written st = unfold written in sym (lines_join b) ∙ ap unlines s.lines ∙ unlines_ends (change_texts 1 (as_inserts st)) in
        let c : T (few st) = unfold at_most in le→leb (length st) most_records s.few in
        let p : T (passes (held_tests F) st) = and_in (few st) _ c (and_in (met (keyed F) (refs_of F) st) true s.references tt) in
        held_sound b st (read_holding F b) (rw w ((holding F regular).writes st (record { asc = s.ascending; fines = lines_fine 1 st s.sounds; pass = p })))

    -- and nothing else
    pub held_is_sound : (b : List ℕ) (st : List Rec) → read_holding F b ≡ sound st → SoundHolding b st
    unfolding held_records at_most written
    held_is_sound b st e =
        let h = (holding F regular).holds b st (ap held_records e) in
        let q = h.1.pass in
        let c : length st ≤ most_records = leb→le (length st) most_records (search bools) in
        record {
          lines = ap lines_of h.0 ∙ lines_in (change_texts 1 (as_inserts st)) (plain_texts F 1 (as_inserts st) (fine_inserts F st h.1.fines));
          sounds = fine_lines 1 st (omega arith) h.1.fines;
          ascending = h.1.asc;
          references = search bools;
          few = c;
        }
