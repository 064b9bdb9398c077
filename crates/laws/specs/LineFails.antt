-- Why a line of a file is refused at its stage: the first of paper 01's tests that it fails, in the order 1, 2, 3, 9, 4, 5, 6, 7, 8, and with 5 the place in the field;
-- and that it is refused just so.
use Rattle.std.specs.Prelude.{◌≡◌, ◌⊎◌, Bool, T, length, get_or}
use Rattle.std.proofs.Math.Path.{refl, sym, subst}
use Rattle.std.proofs.Common.{◌∙◌, arith, eqb→eq}
use Rattle.std.proofs.Math.Logic.{inl, inr}
use Rattle.std.proofs.Math.Bool.{true, false}
use Rattle.std.proofs.Math.Option.{Option, none, some}
use mathlib.Core.List.{List, [], ◌∷◌}
use Prim.Native.Nat.{ℕ, suc, ◌+◌, ◌-◌, ◌≤◌, ◌<◌}
use Rattle.std.proofs.Math.Dec.{eqb}
use Rattle.std.proofs.Math.Facts.{yes_eqb}
use Rattle.base.specs.Lists.{pick, ask}
use Rattle.base.specs.Tests.{T_true}
use Rattle.theory.specs.Decimal.{value}
use Rattle.meaning.specs.Lines.{fields_of, has_fields, identifier, Line, ends_well}
use Rattle.meaning.specs.Forms.{number}
use Rattle.meaning.specs.Kinds.{Kind, Role, header_line, body_line, metadata_line, trailer_line, role}
use Rattle.meaning.specs.Format.{Format, Field, may, kind_of, named, field_number, pro_order, record_count, start_date, end_date}
use Rattle.meaning.specs.Sound.{sound_field, place_in, forms, dates_agree, field_fault, form_fault, if_malformed}
use Rattle.meaning.specs.File.{Stage, next, has_room, count_fault, Judged, bad, good, line_fault, verdict, judge_kind, judge_text, judge_line}
use Rattle.meaning.specs.Answers.{Fault, of_line, of_field}
use Rattle.laws.specs.SoundLine.{EachSound, each_forms}
use Rattle.laws.specs.StepFails.{no_true, false_no}
use Rattle.meaning.specs.Codes.{ending_wrong, identifier_unknown, out_of_place, field_count_wrong, field_malformed, end_before_start, not_running_number, record_count_wrong, too_many_body_lines}

-- what stands for a row that is not there
abbrev pub no_field : Field
no_field = may "" (number 0)

module _ (F : Format) where
  open F use {fields}

  -- ---- the tests

  -- one of the fields, counted from n, is malformed at that place, and those before it are sound
  abbrev pub Lowest : ℕ → List Field → List (List ℕ) → ℕ → ℕ → Type 0
  Lowest n [] fs field place = ⊥
  Lowest n (d ∷ ds) [] field place = ⊥
  Lowest n (d ∷ ds) (f ∷ fs) field place = ((T (sound_field F d f) → ⊥) × (field ≡ n) × (place ≡ place_in F d f)) ⊎ (T (sound_field F d f) × Lowest (suc n) ds fs field place)

  -- field i, counted from 0, is malformed at that place
  abbrev pub Malformed : List Field → List (List ℕ) → ℕ → ℕ → Type 0
  Malformed ds fs i place = (T (sound_field F (get_or ds i no_field) (get_or fs i [])) → ⊥) × (place ≡ place_in F (get_or ds i no_field) (get_or fs i []))

  -- line l ends well, its identifier is known as kind k's, and a line of that kind may stand at stage p
  pub record Stands (p : Stage) (l : Line) (k : Kind) : Type 0 where
    pub ending : T (ends_well l)
    pub kind : kind_of F (identifier l.text) ≡ some k
    pub after : Stage
    pub may : next p (role k) ≡ some after

  -- the dates of a line of kind k agree
  abbrev pub Dated : Kind → List ℕ → Type 0
  Dated k t = T (dates_agree (named start_date (fields k) (fields_of t)) (named end_date (fields k) (fields_of t)))

  -- it passes all that is asked of its own bytes: room for it among the body lines, its number of fields, their forms, its dates
  pub record Formed (n : ℕ) (l : Line) (k : Kind) : Type 0 where
    pub room : T (has_room (role k) n)
    pub count : T (has_fields (length (fields k)) l.text)
    pub forms : EachSound F (fields k) (fields_of l.text)
    pub dated : Dated k l.text

  -- the first test that line l, at stage p after n body lines, fails: its code, its field and its place
  pub data LineFails (p : Stage) (n : ℕ) (l : Line) (code field place : ℕ) : Type 0 where
    -- 1: line ending wrong
    ending : (T (ends_well l) → ⊥) → code ≡ ending_wrong → field ≡ 0 → place ≡ 0 → LineFails p n l code field place
    -- 2: identifier unknown
    unknown : T (ends_well l) → kind_of F (identifier l.text) ≡ none → code ≡ identifier_unknown → field ≡ 1 → place ≡ 0 → LineFails p n l code field place
    -- 3: out of place
    misplaced : (k : Kind) → T (ends_well l) → kind_of F (identifier l.text) ≡ some k → next p (role k) ≡ none → code ≡ out_of_place → field ≡ 0 → place ≡ 0 → LineFails p n l code field place
    -- 9: one body line too many
    too_many : (k : Kind) → Stands p l k → (T (has_room (role k) n) → ⊥) → code ≡ too_many_body_lines → field ≡ 0 → place ≡ 0 → LineFails p n l code field place
    -- 4: field count wrong
    miscounted : (k : Kind) → Stands p l k → T (has_room (role k) n) → (T (has_fields (length (fields k)) l.text) → ⊥) → code ≡ field_count_wrong → field ≡ 0 → place ≡ 0 → LineFails p n l code field place
    -- 5: field malformed, the lowest such
    malformed : (k : Kind) → Stands p l k → T (has_room (role k) n) → T (has_fields (length (fields k)) l.text) → Lowest 1 (fields k) (fields_of l.text) field place → code ≡ field_malformed
        → LineFails p n l code field place
    -- 6: END_DATE before START_DATE
    misdated : (k : Kind) → Stands p l k → T (has_room (role k) n) → T (has_fields (length (fields k)) l.text) → EachSound F (fields k) (fields_of l.text) → (Dated k l.text → ⊥)
        → code ≡ end_before_start → field ≡ field_number 1 end_date (fields k) → place ≡ 0 → LineFails p n l code field place
    -- 7: PRO_ORDER of a body line not the running number
    misnumbered : (k : Kind) → Stands p l k → Formed n l k → role k ≡ body_line → (value (named pro_order (fields k) (fields_of l.text)) ≡ suc n → ⊥)
        → code ≡ not_running_number → field ≡ field_number 1 pro_order (fields k) → place ≡ 0 → LineFails p n l code field place
    -- 8: RECORD_COUNT of a trailer not the number of body lines
    mistold : (k : Kind) → Stands p l k → Formed n l k → role k ≡ trailer_line → (value (named record_count (fields k) (fields_of l.text)) ≡ n → ⊥)
        → code ≡ record_count_wrong → field ≡ field_number 1 record_count (fields k) → place ≡ 0 → LineFails p n l code field place

  -- ---- a line that is refused fails so

  -- what a judgement says of a line that is refused
  abbrev pub JudgedFails : Stage → ℕ → Line → Judged → Type 0
  JudgedFails p n l (bad f) = LineFails p n l f.code f.field f.place
  JudgedFails p n l (good k q) = Unit {0}

  -- the lowest malformed field, or none
  abbrev FormsSay : ℕ → List Field → List (List ℕ) → Option Fault → Option Fault → Type 0
  FormsSay n ds fs rest o = ((x : Fault) × Lowest n ds fs x.field x.place × (x.code ≡ field_malformed) × (o ≡ some x)) ⊎ (EachSound F ds fs × (o ≡ rest))

  forms_say : (n : ℕ) (ds : List Field) (fs : List (List ℕ)) (rest : Option Fault) → FormsSay n ds fs rest (forms F n ds fs rest)
  unfolding forms if_malformed ask
  forms_say n [] fs rest = inr (tt, refl)
  forms_say n (d ∷ ds) [] rest = inr (tt, refl)
  forms_say n (d ∷ ds) (f ∷ fs) rest = go _ refl refl refl (sound_field F d f) refl (forms_say (suc n) ds fs rest)
    where
      go : (x : Fault) → x.code ≡ field_malformed → x.field ≡ n → x.place ≡ place_in F d f → (c : Bool) → sound_field F d f ≡ c → FormsSay (suc n) ds fs rest (forms F (suc n) ds fs rest)
          → FormsSay n (d ∷ ds) (f ∷ fs) rest (ask c x (forms F (suc n) ds fs rest))
      go x p q r false e s = inl (x, inl (false_no _ e, q, r), p, refl)
      go x p q r true e (inl w) = inl (w.0, inr (rw e tt, w.1), w.2, w.3)
      go x p q r true e (inr w) = inr ((rw e tt, w.0), w.1)

  -- a fault with that code, that field and that place is found
  abbrev FaultWith : Option Fault → ℕ → ℕ → ℕ → Type 0
  FaultWith o code field place = (x : Fault) × (o ≡ some x) × (x.code ≡ code) × (x.field ≡ field) × (x.place ≡ place)

  lowest_forms : (n : ℕ) (ds : List Field) (fs : List (List ℕ)) (rest : Option Fault) (field place : ℕ) → Lowest n ds fs field place → FaultWith (forms F n ds fs rest) field_malformed field place
  unfolding forms if_malformed ask
  lowest_forms n [] fs rest field place w = absurd w
  lowest_forms n (d ∷ ds) [] rest field place w = absurd w
  lowest_forms n (d ∷ ds) (f ∷ fs) rest field place (inl w) = rw (no_true (sound_field F d f) w.0) (_, refl, refl, sym w.1, sym w.2)
  lowest_forms n (d ∷ ds) (f ∷ fs) rest field place (inr w) = rw (T_true (sound_field F d f) w.0) (lowest_forms (suc n) ds fs rest field place w.1)

  -- the lowest malformed field is one that the kind has, and is malformed at that place
  pub lowest_within : (n : ℕ) (ds : List Field) (fs : List (List ℕ)) (field place : ℕ) → Lowest n ds fs field place → (n ≤ field) × (field < n + length ds) × Malformed ds fs (field - n) place
  lowest_within n [] fs field place w = absurd w
  lowest_within n (d ∷ ds) [] field place w = absurd w
  lowest_within n (d ∷ ds) (f ∷ fs) field place (inl w) =
      let e : field - n ≡ 0 = omega (arith, w.1) in
      (omega (arith, w.1), omega (arith, w.1), rw e (w.0, w.2))
  lowest_within n (d ∷ ds) (f ∷ fs) field place (inr w) =
      let i = lowest_within (suc n) ds fs field place w.1 in
      let e : field - n ≡ suc (field - suc n) = omega (arith, i.0) in
      (omega (arith, i.0), omega (arith, i.1), rw e i.2)

  count_fails : (p : Stage) (n : ℕ) (l : Line) (k : Kind) (q : Stage) → Stands p l k → Formed n l k → (o : Role) → role k ≡ o
      → JudgedFails p n l (verdict (count_fault F o n k l.text) k q)
  unfolding count_fault ask verdict
  count_fails p n l k q s w header_line r = tt
  count_fails p n l k q s w metadata_line r = tt
  count_fails p n l k q s w body_line r = go (eqb (value (named pro_order (fields k) (fields_of l.text))) (suc n)) refl
    where
      go : (c : Bool) → eqb (value (named pro_order (fields k) (fields_of l.text))) (suc n) ≡ c → JudgedFails p n l (verdict (ask c (of_field not_running_number (field_number 1 pro_order (fields k))) none) k q)
      go true e = tt
      go false e = misnumbered k s w r (λ z. false_no _ e (yes_eqb z)) refl refl refl
  count_fails p n l k q s w trailer_line r = go (eqb (value (named record_count (fields k) (fields_of l.text))) n) refl
    where
      go : (c : Bool) → eqb (value (named record_count (fields k) (fields_of l.text))) n ≡ c → JudgedFails p n l (verdict (ask c (of_field record_count_wrong (field_number 1 record_count (fields k))) none) k q)
      go true e = tt
      go false e = mistold k s w r (λ z. false_no _ e (yes_eqb z)) refl refl refl

  form_fails : (p : Stage) (n : ℕ) (l : Line) (k : Kind) (q : Stage) → Stands p l k → T (has_room (role k) n)
      → JudgedFails p n l (verdict (form_fault F k l.text (count_fault F (role k) n k l.text)) k q)
  unfolding form_fault field_fault ask
  form_fails p n l k q s r = go (has_fields (length (fields k)) l.text) refl
    where
      t : List ℕ
      t = l.text

      agree : Bool
      agree = dates_agree (named start_date (fields k) (fields_of t)) (named end_date (fields k) (fields_of t))

      rest : Option Fault
      rest = count_fault F (role k) n k t

      dates : T (has_fields (length (fields k)) t) → EachSound F (fields k) (fields_of t) → (c : Bool) → agree ≡ c
          → JudgedFails p n l (verdict (ask c (of_field end_before_start (field_number 1 end_date (fields k))) rest) k q)
      dates h f true e = count_fails p n l k q s (record { room = r; count = h; forms = f; dated = rw e tt }) (role k) refl
      dates h f false e = unfold verdict in misdated k s r h f (false_no agree e) refl refl refl

      fielded : T (has_fields (length (fields k)) t) → (o : Option Fault) → FormsSay 1 (fields k) (fields_of t) (ask agree (of_field end_before_start (field_number 1 end_date (fields k))) rest) o
          → JudgedFails p n l (verdict o k q)
      fielded h o (inl w) = subst (λ x. JudgedFails p n l (verdict x k q)) (sym w.3) (unfold verdict in malformed k s r h w.1 w.2)
      fielded h o (inr w) = subst (λ x. JudgedFails p n l (verdict x k q)) (sym w.1) (dates h w.0 agree refl)

      go : (c : Bool) → has_fields (length (fields k)) t ≡ c
          → JudgedFails p n l (verdict (ask c (of_line field_count_wrong) (forms F 1 (fields k) (fields_of t) (ask agree (of_field end_before_start (field_number 1 end_date (fields k))) rest))) k q)
      go false e = unfold verdict in miscounted k s r (false_no _ e) refl refl refl
      go true e = fielded (rw e tt) (forms F 1 (fields k) (fields_of t) (ask agree (of_field end_before_start (field_number 1 end_date (fields k))) rest)) (forms_say 1 (fields k) (fields_of t) (ask agree (of_field end_before_start (field_number 1 end_date (fields k))) rest))

  -- a line that is refused fails one of the tests
  pub judge_fails : (p : Stage) (n : ℕ) (l : Line) → JudgedFails p n l (judge_line F p n l)
  unfolding judge_line judge_text judge_kind line_fault ask
  judge_fails p n l = ended (ends_well l) refl
    where
      roomed : (k : Kind) (q : Stage) → Stands p l k → (c : Bool) → has_room (role k) n ≡ c
          → JudgedFails p n l (verdict (ask c (of_line too_many_body_lines) (form_fault F k l.text (count_fault F (role k) n k l.text))) k q)
      roomed k q s false e = unfold verdict in too_many k s (false_no _ e) refl refl refl
      roomed k q s true e = form_fails p n l k q s (rw e tt)

      placed : (k : Kind) → T (ends_well l) → kind_of F (identifier l.text) ≡ some k → (o : Option Stage) → next p (role k) ≡ o → JudgedFails p n l (judge_kind F n l.text k o)
      placed k e i none x = misplaced k e i x refl refl refl
      placed k e i (some q) x = roomed k q (record { ending = e; kind = i; after = q; may = x }) (has_room (role k) n) refl

      kinded : T (ends_well l) → (o : Option Kind) → kind_of F (identifier l.text) ≡ o → JudgedFails p n l (judge_text F p n l.text o)
      kinded e none i = unknown e i refl refl refl
      kinded e (some k) i = placed k e i (next p (role k)) refl

      ended : (c : Bool) → ends_well l ≡ c → JudgedFails p n l (pick c (judge_text F p n l.text (kind_of F (identifier l.text))) (bad (of_line ending_wrong)))
      ended true e = kinded (rw e tt) (kind_of F (identifier l.text)) refl
      ended false e = ending (false_no _ e) refl refl refl

  -- ---- and a line that fails so is refused so

  stands_judged : (p : Stage) (n : ℕ) (l : Line) (k : Kind) (s : Stands p l k) (f : Fault) → line_fault F k n l.text ≡ some f → judge_line F p n l ≡ bad f
  unfolding judge_line judge_text judge_kind verdict
  stands_judged p n l k s f e = rw (T_true (ends_well l) s.ending, s.kind, s.may, e)

  formed_line : (n : ℕ) (l : Line) (k : Kind) (o : Role) → role k ≡ o → Formed n l k → line_fault F k n l.text ≡ count_fault F o n k l.text
  unfolding line_fault form_fault field_fault ask
  formed_line n l k o r w =
      rw (T_true (has_room (role k) n) w.room, T_true (has_fields (length (fields k)) l.text) w.count)
      (each_forms F 1 (fields k) (fields_of l.text) _ w.forms
      ∙ rw (T_true (dates_agree (named start_date (fields k) (fields_of l.text)) (named end_date (fields k) (fields_of l.text))) w.dated, r))

  no_eqb_false : (a b : ℕ) → (a ≡ b → ⊥) → eqb a b ≡ false
  no_eqb_false a b n = no_true (eqb a b) (λ t. n (eqb→eq a b t))

  -- a line is refused with that code, that field and that place
  abbrev pub RefusedWith : Stage → ℕ → Line → ℕ → ℕ → ℕ → Type 0
  RefusedWith p n l code field place = (x : Fault) × (judge_line F p n l ≡ bad x) × (x.code ≡ code) × (x.field ≡ field) × (x.place ≡ place)

  just_so : (p : Stage) (n : ℕ) (l : Line) (code field place : ℕ) → place ≡ 0 → judge_line F p n l ≡ bad (of_field code field) → RefusedWith p n l code field place
  just_so p n l code field place z e = (of_field code field, e, refl, refl, sym z)

  -- a line that fails one of the tests is refused with its code, field and place
  pub fails_judged : (p : Stage) (n : ℕ) (l : Line) (code field place : ℕ) → LineFails p n l code field place → RefusedWith p n l code field place
  unfolding line_fault form_fault field_fault count_fault ask
  fails_judged p n l code field place (ending w c f z) = just_so p n l code field place z (unfold judge_line in rw (no_true (ends_well l) w, c, f))
  fails_judged p n l code field place (unknown w i c f z) = just_so p n l code field place z (unfold judge_line judge_text in rw (T_true (ends_well l) w, i, c, f))
  fails_judged p n l code field place (misplaced k w i x c f z) = just_so p n l code field place z (unfold judge_line judge_text judge_kind in rw (T_true (ends_well l) w, i, x, c, f))
  fails_judged p n l code field place (too_many k s r c f z) = just_so p n l code field place z (stands_judged p n l k s (of_field code field) (rw (no_true (has_room (role k) n) r, c, f)))
  fails_judged p n l code field place (miscounted k s r h c f z) =
      just_so p n l code field place z (stands_judged p n l k s (of_field code field) (rw (T_true (has_room (role k) n) r, no_true (has_fields (length (fields k)) l.text) h, c, f)))
  fails_judged p n l code field place (malformed k s r h w c) =
      let fs = fields_of l.text in
      let rest = ask (dates_agree (named start_date (fields k) fs) (named end_date (fields k) fs)) (of_field end_before_start (field_number 1 end_date (fields k))) (count_fault F (role k) n k l.text) in
      let a = lowest_forms 1 (fields k) fs rest field place w in
      (a.0, stands_judged p n l k s a.0 (rw (T_true (has_room (role k) n) r, T_true (has_fields (length (fields k)) l.text) h) a.1), a.2 ∙ sym c, a.3, a.4)
  fails_judged p n l code field place (misdated k s r h w d c f z) =
      let a = dates_agree (named start_date (fields k) (fields_of l.text)) (named end_date (fields k) (fields_of l.text)) in
      just_so p n l code field place z (stands_judged p n l k s (of_field code field)
      (rw (T_true (has_room (role k) n) r, T_true (has_fields (length (fields k)) l.text) h, c, f) (each_forms F 1 (fields k) (fields_of l.text) _ w ∙ rw (no_true a d))))
  fails_judged p n l code field place (misnumbered k s w r d c f z) =
      just_so p n l code field place z (stands_judged p n l k s (of_field code field) (formed_line n l k body_line r w ∙ rw (no_eqb_false (value (named pro_order (fields k) (fields_of l.text))) (suc n) d, c, f)))
  fails_judged p n l code field place (mistold k s w r d c f z) =
      just_so p n l code field place z (stands_judged p n l k s (of_field code field) (formed_line n l k trailer_line r w ∙ rw (no_eqb_false (value (named record_count (fields k) (fields_of l.text))) n d, c, f)))
