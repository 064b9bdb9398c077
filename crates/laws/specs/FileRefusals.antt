-- What each refusal of the file check looks like, as paper 01's table has it: its code is 1 to 9, and its field is the code's.
use Rattle.std.specs.Prelude.{◌≡◌, ◌&&◌, ◌||◌, leb}
use Rattle.std.proofs.Math.Path.{refl}
use Rattle.std.proofs.Common.{sym, arith, eqb→eq, le→leb}
use Rattle.std.proofs.Math.Bool.{Bool, true, false}
use Rattle.std.proofs.Math.Option.{Option, none, some}
use mathlib.Core.List.{List, [], ◌∷◌}
use Prim.Native.Nat.{ℕ, zero, suc, ◌≤◌}
use Prim.Native.String.{String}
use Rattle.std.proofs.Math.Dec.{T, eqb}
use lib.Text.{eqt}
use Rattle.std.proofs.Math.Facts.{yes_eqb}
use Rattle.base.specs.Tests.{and_in, or_l}
use Rattle.base.specs.Lists.{pick, ask}
use Rattle.theory.specs.Answer.{fault, file}
use Rattle.meaning.specs.Lines.{fields_of, identifier, Line, lines_of, ends_well}
use Rattle.meaning.specs.Kinds.{Kind, ident, Role, header_line, body_line, metadata_line, trailer_line, role}
use Rattle.meaning.specs.Format.{Format, Field, kind_of, knows, named, field_number, pro_order, record_count, start_date, end_date}
use Rattle.meaning.specs.Sound.{sound_field, forms, dates_agree, field_fault, form_fault, if_malformed}
use Rattle.meaning.specs.File.{Stage, next, count_fault, Judged, bad, good, line_fault, verdict, judge_kind, judge_text, judge_line, Sheet, adds, body_after, at_start, in_body, after_metadata, after_trailer, at_end, on_line, read_from, read_file}
use Rattle.meaning.specs.Holding.{is_held}
use Rattle.meaning.specs.Answers.{Read, Fault, of_line, of_field}
use Rattle.meaning.specs.Codes.{field_malformed, field_count_wrong, too_many_body_lines, ending_wrong, end_before_start, not_running_number, record_count_wrong, identifier_unknown, out_of_place}
use Rattle.laws.specs.Kinds.{any, found_any}
use Rattle.laws.specs.Regular.{holds, Regular}
use Rattle.laws.specs.Body.{kind_in, kind_known}

-- a kind that has no field of that name has no bytes of it
pub none_named : (n : ℕ) (s : String) (ds : List Field) (fs : List (List ℕ)) → field_number (suc n) s ds ≡ 0 → named s ds fs ≡ []
unfolding field_number named
none_named n s [] fs e = refl
none_named n s (d ∷ ds) [] e = refl
none_named n s (d ∷ ds) (f ∷ fs) e = go (eqt s d.name) (none_named (suc n) s ds fs) e
  where
    go : (c : Bool) → (field_number (suc (suc n)) s ds ≡ 0 → named s ds fs ≡ []) → pick c (suc n) (field_number (suc (suc n)) s ds) ≡ 0 → pick c f (named s ds fs) ≡ []
    go true i e = absurd (omega (arith, e))
    go false i e = i e

-- ---- codes

-- a code is one of those listed
unfoldable pub among : ℕ → List ℕ → Bool
among c [] = false
among c (x ∷ xs) = eqb c x || among c xs

-- the codes of the file check
abbrev pub file_codes : List ℕ
file_codes =
    ending_wrong ∷ identifier_unknown ∷ out_of_place ∷ field_count_wrong ∷ field_malformed ∷ end_before_start ∷ not_running_number ∷ record_count_wrong ∷ too_many_body_lines ∷ []

-- a fault that is read has one of those codes
abbrev pub ReadIn : Read Sheet → Type 0
ReadIn (fault r) = T (among r.code file_codes)
ReadIn (file s) = Unit {0}

module _ (F : Format) where
  open F use {known, fields}

  -- ---- the shape of a fault

  -- END_DATE's own number in a kind that the format knows
  unfoldable pub end_number : ℕ → Bool
  end_number f = leb 1 f && any (λ k. eqb f (field_number 1 end_date (fields k))) known

  -- code and field: 1, 3, 4 and 9 with no field, 2 with field 1, 5 with a field, 6 with END_DATE, 7 and 8 with field 3
  unfoldable pub shaped : Fault → Bool
  shaped f =
      (eqb f.code ending_wrong && eqb f.field 0)
      || ((eqb f.code identifier_unknown && eqb f.field 1)
      || ((eqb f.code out_of_place && eqb f.field 0)
      || ((eqb f.code field_count_wrong && eqb f.field 0)
      || ((eqb f.code field_malformed && leb 1 f.field)
      || ((eqb f.code end_before_start && end_number f.field)
      || ((eqb f.code not_running_number && eqb f.field 3)
      || ((eqb f.code record_count_wrong && eqb f.field 3)
      || (eqb f.code too_many_body_lines && eqb f.field 0))))))))

  -- a fault, where there is one, has that shape
  abbrev Shaped : Option Fault → Type 0
  Shaped none = Unit {0}
  Shaped (some f) = T (shaped f)

  ask_shaped : (b : Bool) (f : Fault) (rest : Option Fault) → T (shaped f) → Shaped rest → Shaped (ask b f rest)
  unfolding ask
  ask_shaped true f rest p r = r
  ask_shaped false f rest p r = p

  -- ---- of a line

  -- a fault with code 5 and a field is
  five : (f : Fault) → f.code ≡ field_malformed → 1 ≤ f.field → T (shaped f)
  unfolding shaped
  five f c h = rw c (or_l (leb 1 f.field) _ (le→leb 1 f.field h))

  forms_shaped : (n : ℕ) (ds : List Field) (fs : List (List ℕ)) (rest : Option Fault) → Shaped rest → Shaped (forms F (suc n) ds fs rest)
  unfolding forms if_malformed
  forms_shaped n [] fs rest r = r
  forms_shaped n (d ∷ ds) [] rest r = r
  forms_shaped n (d ∷ ds) (f ∷ fs) rest r = ask_shaped (sound_field F d f) _ (forms F (suc (suc n)) ds fs rest) (five _ refl (omega arith)) (forms_shaped (suc n) ds fs rest r)

  -- END_DATE's place in a known kind is such a number, or 0 where the kind has no END_DATE
  end_or_none : (k : Kind) → T (knows F k) → T (end_number (field_number 1 end_date (fields k)) || eqb (field_number 1 end_date (fields k)) 0)
  unfolding end_number kind_of
  end_or_none k h = go (field_number 1 end_date (fields k)) refl
    where
      is_end : ℕ → Kind → Bool
      is_end m j = eqb m (field_number 1 end_date (fields j))

      go : (m : ℕ) → field_number 1 end_date (fields k) ≡ m → T ((leb 1 m && any (is_end m) known) || eqb m 0)
      go zero e = tt
      go (suc m) e =
          let t : T (any (is_end (suc m)) known) = found_any (is_end (suc m)) known (ident k) k (kind_in F k h) (yes_eqb (sym e)) in
          or_l (leb 1 (suc m) && any (is_end (suc m)) known) (eqb (suc m) 0) (and_in (leb 1 (suc m)) (any (is_end (suc m)) known) (le→leb 1 (suc m) (omega arith)) t)

  -- 6 names END_DATE: a kind that has none isn't given it
  six_shaped : (k : Kind) (fs : List (List ℕ)) (rest : Option Fault) → T (knows F k) → Shaped rest
      → Shaped (ask (dates_agree (named start_date (fields k) fs) (named end_date (fields k) fs)) (of_field end_before_start (field_number 1 end_date (fields k))) rest)
  unfolding shaped ask dates_agree
  six_shaped k fs rest h r = go (end_number (field_number 1 end_date (fields k))) refl (end_or_none k h)
    where
      agree : Bool
      agree = dates_agree (named start_date (fields k) fs) (named end_date (fields k) fs)

      go : (c : Bool) → end_number (field_number 1 end_date (fields k)) ≡ c → T (c || eqb (field_number 1 end_date (fields k)) 0) → Shaped (ask agree (of_field end_before_start (field_number 1 end_date (fields k))) rest)
      go true e t = ask_shaped agree (of_field end_before_start (field_number 1 end_date (fields k))) rest (or_l (end_number (field_number 1 end_date (fields k))) _ (rw e tt)) r
      go false e t =
          let z : named end_date (fields k) fs ≡ [] = none_named 0 end_date (fields k) fs (eqb→eq _ 0 t) in
          rw z r

  -- the same of the judgement of a line
  abbrev BadShaped : Judged → Type 0
  BadShaped (bad f) = T (shaped f)
  BadShaped (good k p) = Unit {0}

  -- ---- of a file

  -- the same of what is read
  abbrev pub ReadShaped : Read Sheet → Type 0
  ReadShaped (fault r) = T (shaped (of_field r.code r.field))
  ReadShaped (file s) = Unit {0}

  adds_shaped : (o : Role) (k : Kind) (t : List ℕ) (r : Read Sheet) → ReadShaped r → ReadShaped (adds o k t r)
  unfolding adds
  adds_shaped o k t (fault r) i = i
  adds_shaped o k t (file s) i = tt

  on_shaped : (i : ℕ) (t : List ℕ) (go : Kind → Stage → Read Sheet) → ((k : Kind) (q : Stage) → ReadShaped (go k q))
      → (j : Judged) → BadShaped j → ReadShaped (on_line i t j go)
  unfolding on_line shaped
  on_shaped i t go h (bad f) b = b
  on_shaped i t go h (good k q) b = adds_shaped (role k) k t (go k q) (h k q)

  shaped_among : (c f : ℕ) → T (shaped (of_field c f)) → T (among c file_codes)
  unfolding shaped among
  shaped_among c f =
      or (eqb c 1) (eqb f 0) _ _ (or (eqb c 2) (eqb f 1) _ _ (or (eqb c 3) (eqb f 0) _ _ (or (eqb c 4) (eqb f 0) _ _ (or (eqb c 5) (leb 1 f) _ _
      (or (eqb c 6) (end_number f) _ _ (or (eqb c 7) (eqb f 3) _ _ (or (eqb c 8) (eqb f 3) _ _ (nine (eqb c 9) (eqb f 0)))))))))
    where
      or : (a x b d : Bool) → (T b → T d) → T ((a && x) || b) → T (a || d)
      or true x b d i t = tt
      or false x b d i t = i t

      nine : (a x : Bool) → T (a && x) → T (a || false)
      nine true x t = tt
      nine false x t = t

  module _ (regular : Regular F) where
    open regular use {opens, count_third}

    -- ---- every refusal has that shape, and so its code is one of 1 to 9

    seven_shaped : (k : Kind) → T (knows F k) → role k ≡ body_line → T (shaped (of_field not_running_number (field_number 1 pro_order (fields k))))
    unfolding shaped field_number holds is_held
    seven_shaped k h e = rw (opens k (and_in (knows F k) (is_held (role k)) h (rw e tt))) tt

    eight_shaped : (k : Kind) → T (knows F k) → role k ≡ trailer_line → T (shaped (of_field record_count_wrong (field_number 1 record_count (fields k))))
    unfolding shaped
    eight_shaped k h e = rw (count_third k h e) tt

    count_shaped : (o : Role) (n : ℕ) (k : Kind) (t : List ℕ) → T (knows F k) → role k ≡ o → Shaped (count_fault F o n k t)
    unfolding count_fault
    count_shaped header_line n k t h e = tt
    count_shaped body_line n k t h e = ask_shaped _ (of_field not_running_number (field_number 1 pro_order (fields k))) none (seven_shaped k h e) tt
    count_shaped metadata_line n k t h e = tt
    count_shaped trailer_line n k t h e = ask_shaped _ (of_field record_count_wrong (field_number 1 record_count (fields k))) none (eight_shaped k h e) tt

    line_shaped : (k : Kind) (n : ℕ) (t : List ℕ) → T (knows F k) → Shaped (line_fault F k n t)
    unfolding line_fault form_fault field_fault shaped
    line_shaped k n t h =
        ask_shaped _ (of_line too_many_body_lines) _ tt
        (ask_shaped _ (of_line field_count_wrong) _ tt
        (forms_shaped 0 (fields k) (fields_of t) _
        (six_shaped k (fields_of t) _ h (count_shaped (role k) n k t h refl))))

    judge_shaped : (p : Stage) (n : ℕ) (l : Line) → BadShaped (judge_line F p n l)
    unfolding judge_line judge_text judge_kind verdict shaped
    judge_shaped p n l = ended (ends_well l)
      where
        formed : (k : Kind) (q : Stage) (o : Option Fault) → Shaped o → BadShaped (verdict o k q)
        formed k q none i = tt
        formed k q (some f) i = i

        placed : (k : Kind) (o : Option Stage) → T (knows F k) → BadShaped (judge_kind F n l.text k o)
        placed k none h = tt
        placed k (some q) h = formed k q (line_fault F k n l.text) (line_shaped k n l.text h)

        kinded : (o : Option Kind) → kind_of F (identifier l.text) ≡ o → BadShaped (judge_text F p n l.text o)
        kinded none e = tt
        kinded (some k) e = placed k (next p (role k)) (kind_known F (identifier l.text) k e)

        ended : (c : Bool) → BadShaped (pick c (judge_text F p n l.text (kind_of F (identifier l.text))) (bad (of_line ending_wrong)))
        ended true = kinded (kind_of F (identifier l.text)) refl
        ended false = tt

    read_shaped : (i : ℕ) (p : Stage) (n : ℕ) (ls : List Line) → ReadShaped (read_from F i p n ls)
    unfolding read_from at_end shaped
    read_shaped i at_start n [] = tt
    read_shaped i in_body n [] = tt
    read_shaped i after_metadata n [] = tt
    read_shaped i after_trailer n [] = tt
    read_shaped i p n (l ∷ ls) =
        on_shaped i l.text (λ k q. read_from F (suc i) q (body_after (role k) n) ls) (λ k q. read_shaped (suc i) q (body_after (role k) n) ls)
        (judge_line F p n l) (judge_shaped p n l)

    -- every refusal of the file check has its code's field
    pub file_shape : (b : List ℕ) → ReadShaped (read_file F b)
    unfolding read_file
    file_shape b = read_shaped 1 at_start 0 (lines_of b)

    -- the file check refuses with 1 to 9
    pub file_codes_lem : (b : List ℕ) → ReadIn (read_file F b)
    file_codes_lem b = go (read_file F b) (file_shape b)
      where
        go : (r : Read Sheet) → ReadShaped r → ReadIn r
        go (fault r) s = shaped_among r.code r.field s
        go (file s) i = tt
