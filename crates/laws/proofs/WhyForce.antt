-- Why the record in force is answered as it is: the last body line that names its key, the held line where none does, or the test that refuses.
use Rattle.std.specs.Prelude.{◌≡◌, T, get_or, drop}
use Rattle.std.proofs.Math.Path.{refl, ap, subst}
use Rattle.std.proofs.Common.{sym, ◌∙◌, add-zero}
use Rattle.std.proofs.Math.Bool.{true}
use Rattle.std.proofs.Math.Option.{Option, none, some}
use mathlib.Core.List.{List, [], ◌∷◌, ◌++◌, append_assoc, append-nil}
use Prim.Native.Nat.{ℕ, suc, ◌+◌, ◌-◌, ◌<◌}
use native.Mathlib.Omega.{arith}
use Rattle.std.proofs.Math.ListN.{length, length-append, take}
use Rattle.base.specs.ListLaws.{same_refl, all_snoc}
use Rattle.base.specs.Lists.{pick, same}
use Rattle.base.specs.Tests.{T_true}
use Rattle.theory.specs.Decimal.{value}
use Rattle.theory.specs.Refs.{apart}
use Rattle.theory.proofs.RefsLaws.{by_key_lem}
use Rattle.theory.specs.Step.{Op, ins, upd, del, Change}
use Rattle.theory.specs.Run.{free}
use Rattle.theory.specs.Answer.{fault, file}
use Rattle.meaning.specs.Lines.{lines_of}
use Rattle.meaning.specs.Kinds.{Kind, ident, numbered_among}
use Rattle.meaning.specs.Format.{Format}
use Rattle.meaning.specs.Records.{Rec, keyed, key_of}
use Rattle.meaning.specs.File.{Sheet, read_file}
use Rattle.meaning.specs.Holding.{Held, sound, unsound, read_holding}
use Rattle.meaning.specs.Load.{checked, check_file, held_numbers, check_holding}
use Rattle.meaning.specs.Enquiries.{second, refusal, part_of, last_naming, unless_deleted, in_force_part, in_force_file, in_force_held, in_force_kind, in_force}
use Rattle.meaning.specs.Answers.{Read, Refusal}
use Rattle.laws.specs.Regular.{Regular}
use Rattle.laws.specs.LinesAndFields.{ends_all}
use Rattle.laws.specs.LinePart.{no_line, part_is}
use Rattle.laws.specs.SoundHolding.{held_is_sound}
use Rattle.laws.specs.SoundFile.{SaysChange, SaysChanges}
use Rattle.laws.proofs.SoundFile.{read_sound}
use Rattle.laws.specs.Find.{EnquiredIs, enquired_is}
use Rattle.laws.proofs.InForce.{apart_same}
use Rattle.laws.specs.WhyLoad.{BothSound}
use Rattle.laws.proofs.WhyLoad.{unsound_is, fault_faulty}
use Rattle.laws.specs.WhyField.{Answers}
use Rattle.laws.specs.WhyFind.{FindAnswers}
use Rattle.laws.proofs.WhyFind.{find_sound, find_answers}
use Rattle.laws.specs.WhyForce.{LastNames, ForceAnswers, deleted, faulty_file, in_file, not_asked, unnamed, unsound_holding}

abbrev IsDel : Op → Type 0
IsDel ins = ⊥
IsDel upd = ⊥
IsDel del = Unit {0}

module _ (F : Format) where
  open F use {enquiries}

  -- ---- the last body line that names a key

  -- what is found of a key: no change names it, or the last that does is at that place, counted from 1, and does that
  abbrev NamingSays : List ℕ → List (Change Rec) → Option (ℕ × Op) → Type 0
  NamingSays q cs none = T (free (keyed F) q cs)
  NamingSays q cs (some l) = (w : LastNames F q cs) × (l.0 ≡ suc (length w.before)) × (l.1 ≡ w.change.op)

  naming_on : (q : List ℕ) (pre : List (Change Rec)) (c : Change Rec) → T (apart (keyed F) q (key_of F c.rec)) → (o : Option (ℕ × Op)) → NamingSays q pre o
      → NamingSays q (pre ++ (c ∷ [])) o
  naming_on q pre c d none s = all_snoc (λ c. apart (keyed F) q (key_of F c.rec)) pre c s d
  naming_on q pre c d (some l) s =
      let w = s.0 in (
        record {
          before = w.before;
          change = w.change;
          rest = w.rest ++ (c ∷ []);
          whole = ap (λ x. x ++ (c ∷ [])) w.whole ∙ append_assoc w.before (w.change ∷ w.rest) (c ∷ []);
          names = w.names;
          later = all_snoc (λ c. apart (keyed F) q (key_of F c.rec)) w.rest c w.later d;
        },
        s.1,
        s.2,
      )

  naming_says : (q : List ℕ) (pre cs : List (Change Rec)) (i : ℕ) (o : Option (ℕ × Op)) → i ≡ suc (length pre) → NamingSays q pre o → NamingSays q (pre ++ cs) (last_naming F q i cs o)
  unfolding last_naming
  naming_says q pre [] i o e s = rw (append-nil pre) s
  naming_says q pre (c ∷ cs) i o e s =
      let k = key_of F c.rec in
      subst (λ x. NamingSays q x (last_naming F q (suc i) cs (pick (same q k) (some (i, c.op)) o))) (append_assoc pre (c ∷ []) cs)
      (naming_says q (pre ++ (c ∷ [])) cs (suc i) (pick (same q k) (some (i, c.op)) o) (omega (arith, e, length-append pre (c ∷ [])))
      (by_key_lem (keyed F) q k here (λ d. rw (apart_same F q k d) (naming_on q pre c d o s))))
    where
      here : q ≡ key_of F c.rec → NamingSays q (pre ++ (c ∷ [])) (pick (same q (key_of F c.rec)) (some (i, c.op)) o)
      here h =
          let b : same q (key_of F c.rec) ≡ true = rw h (T_true (same (key_of F c.rec) (key_of F c.rec)) (same_refl (key_of F c.rec))) in
          rw b (record { before = pre; change = c; rest = []; whole = refl; names = h; later = tt }, e, refl)

  -- ---- its line in the file

  -- a change of a sound file is said by the body line at its place
  body_says : (n : ℕ) (ts : List (List ℕ)) (before : List (Change Rec)) (c : Change Rec) (rest : List (Change Rec)) (more : List (List ℕ)) → SaysChanges F n ts (before ++ (c ∷ rest))
      → (length before < length (ends_all (ts ++ more))) × SaysChange F (n + length before) (get_or (ends_all (ts ++ more)) (length before) no_line).text c
  body_says n [] [] c rest more s = absurd s
  body_says n [] (b ∷ before) c rest more s = absurd s
  body_says n (t ∷ ts) [] c rest more s = (omega arith, rw (add-zero n) s.0)
  body_says n (t ∷ ts) (b ∷ before) c rest more s =
      let i = body_says (suc n) ts before c rest more s.1 in
      let e : suc n + length before ≡ n + length (b ∷ before) = omega arith in
      (omega (arith, i.0), subst (λ m. SaysChange F m (get_or (ends_all (ts ++ more)) (length before) no_line).text c) e i.1)

  -- so that change stands on the file's line two further on, and there is such a line
  file_says : (b : List ℕ) (q : List ℕ) (old : List ℕ) (m : BothSound F old b) (w : LastNames F q m.cs)
      → (suc (length w.before) < length (lines_of b)) × SaysChange F (1 + length w.before) (get_or (lines_of b) (suc (length w.before)) no_line).text w.change
  file_says b q old m w =
      let fr = m.fr in
      let s = m.lines in
      let i = body_says 1 s.texts w.before w.change w.rest (fr.metadata_text ∷ fr.trailer_text ∷ []) (subst (SaysChanges F 1 s.texts) w.whole s.body) in
      rw s.lines (omega (arith, i.0), i.1)

  -- ---- what is answered

  force_15 : (old b : List ℕ) (kind n : ℕ) → numbered_among enquiries kind ≡ none → Answers (in_force F old b kind n) 15 0 0
  unfolding in_force in_force_kind refusal
  force_15 old b kind n e = rw e (refl, refl, refl)

  force_14 : (old b : List ℕ) (kind n : ℕ) (k : Kind) (l : ℕ) → numbered_among enquiries kind ≡ some k → read_holding F old ≡ unsound l
      → Answers (in_force F old b kind n) 14 (check_holding F old).line 0
  unfolding in_force in_force_kind in_force_held refusal check_holding held_numbers
  force_14 old b kind n k l e r = rw (e, r) (refl, refl, refl)

  force_file : (old b : List ℕ) (kind n : ℕ) (k : Kind) (st : List Rec) (r : Refusal) → numbered_among enquiries kind ≡ some k → read_holding F old ≡ sound st → read_file F b ≡ fault r
      → Answers (in_force F old b kind n) (check_file F b).code (check_file F b).line (check_file F b).field
  unfolding in_force in_force_kind in_force_held in_force_file refusal check_file checked
  force_file old b kind n k st x e r q = rw (e, r, q) (refl, refl, refl)

  -- the record in force of a sound holding and a sound file
  force_sound : (old b : List ℕ) (kind n : ℕ) (k : Kind) (st : List Rec) (s : Sheet) → numbered_among enquiries kind ≡ some k → read_holding F old ≡ sound st → read_file F b ≡ file s
      → in_force F old b kind n ≡ in_force_part F old b (kind ∷ n ∷ []) st (last_naming F (kind ∷ n ∷ []) 1 s.1 none)
  unfolding in_force in_force_kind in_force_held in_force_file
  force_sound old b kind n k st s e r q =
      let i : value (ident k) ≡ kind = subst (EnquiredIs kind) e (enquired_is enquiries kind) in
      rw (e, i, r, q)

  -- what the last naming line does decides
  force_named : (old b : List ℕ) (kind n : ℕ) (k : Kind) (m : BothSound F old b) → numbered_among enquiries kind ≡ some k → (w : LastNames F (kind ∷ n ∷ []) m.cs)
      → (i : ℕ) → i ≡ suc (length w.before) → (o : Op) → o ≡ w.change.op → ForceAnswers F old b kind n (unless_deleted o (part_of second (lines_of b) i))
  unfolding unless_deleted refusal
  force_named old b kind n k m e w i d o z = go o z
    where
      there : (w.change.op ≡ del → ⊥) → ForceAnswers F old b kind n (part_of second (lines_of b) i)
      there u =
          let s = file_says b (kind ∷ n ∷ []) old m w in
          let p : take (part_of second (lines_of b) i).size (drop (part_of second (lines_of b) i).start b) ≡ (get_or (lines_of b) (suc (length w.before)) no_line).text =
          part_is second b i (omega (arith, d, s.0)) ∙ ap (λ j. (get_or (lines_of b) j no_line).text) d in
          let v : 2 + length w.before - 1 ≡ suc (length w.before) = omega arith in
          in_file k m e w u (rw v s.1) (rw v p) (unfold part_of in refl) (unfold part_of in (refl, refl, refl))

      go : (o : Op) → o ≡ w.change.op → ForceAnswers F old b kind n (unless_deleted o (part_of second (lines_of b) i))
      go ins z = there (λ v. subst IsDel (sym (z ∙ v)) tt)
      go upd z = there (λ v. subst IsDel (sym (z ∙ v)) tt)
      go del z = deleted k m e w (sym z) (refl, refl, refl)

  module _ (regular : Regular F) where
    -- and that is so of every enquiry
    pub force_answers : (old b : List ℕ) (kind n : ℕ) → ForceAnswers F old b kind n (in_force F old b kind n)
    force_answers old b kind n = asked (numbered_among enquiries kind) refl
      where
        q : List ℕ
        q = kind ∷ n ∷ []

        placed : (k : Kind) (m : BothSound F old b) → numbered_among enquiries kind ≡ some k → read_holding F old ≡ sound m.st
            → (o : Option (ℕ × Op)) → NamingSays q m.cs o → ForceAnswers F old b kind n (in_force_part F old b q m.st o)
        placed k m e r none s = unfold in_force_part in unnamed k m e s (subst (FindAnswers F old kind n) (find_sound F old kind n k m.st e r) (find_answers F regular old kind n))
        placed k m e r (some l) s = unfold in_force_part in force_named old b kind n k m e s.0 l.0 s.1 l.1 s.2

        files : (k : Kind) (st : List Rec) → numbered_among enquiries kind ≡ some k → read_holding F old ≡ sound st → (r : Read Sheet) → read_file F b ≡ r
            → ForceAnswers F old b kind n (in_force F old b kind n)
        files k st e h (fault x) r =
            faulty_file k e (record { state = st; sounds = held_is_sound F regular old st h }) (fault_faulty F b x r) (force_file old b kind n k st x e h r)
        files k st e h (file s) r =
            let m : BothSound F old b = record { st = st; fr = s.0; cs = s.1; held = held_is_sound F regular old st h; lines = read_sound F b s.0 s.1 r } in
            rw (force_sound old b kind n k st s e h r) (placed k m e h (last_naming F q 1 s.1 none) (naming_says q [] s.1 1 none refl tt))

        holds : (k : Kind) → numbered_among enquiries kind ≡ some k → (h : Held) → read_holding F old ≡ h → ForceAnswers F old b kind n (in_force F old b kind n)
        holds k e (unsound l) h = unsound_holding k e (unsound_is F regular old l h) (force_14 old b kind n k l e h)
        holds k e (sound st) h = files k st e h (read_file F b) refl

        asked : (o : Option Kind) → numbered_among enquiries kind ≡ o → ForceAnswers F old b kind n (in_force F old b kind n)
        asked none e = not_asked e (force_15 old b kind n e)
        asked (some k) e = holds k e (read_holding F old) refl
