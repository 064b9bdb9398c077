-- Holdings, written and read back: the bytes of sound records are read as those records, and bytes that are read are what would be written.
use Rattle.std.specs.Prelude.{◌≡◌, Bool, ◌&&◌, ℕ, suc, ◌+◌, ◌≤◌, ◌<◌, get_or}
use Rattle.std.proofs.Math.Path.{refl, sym, ap, ap₂, subst}
use Rattle.std.proofs.Common.{◌∙◌, le→leb}
use Rattle.std.proofs.Math.Bool.{true, false}
use Rattle.std.proofs.Math.Option.{Option, none, some}
use mathlib.Core.List.{List, [], ◌∷◌}
use native.Mathlib.Omega.{arith}
use Rattle.std.proofs.Math.Dec.{T, leb, leb→le}
use Rattle.std.proofs.Math.ListN.{length}
use Rattle.base.specs.ListLaws.{same_refl, same_eq}
use Rattle.base.specs.Lists.{all, pick, same, keep_if, at_most}
use Rattle.base.specs.Tests.{and_in, and_l, and_r, bools, T_true}
use Rattle.theory.specs.Lex.{lex}
use Rattle.theory.specs.Decimal.{dec}
use Rattle.theory.specs.Store.{Asc, Low}
use Rattle.theory.specs.Refs.{met, meets}
use Rattle.theory.specs.Step.{ins, Change}
use Rattle.theory.specs.Run.{as_inserts}
use Rattle.theory.specs.ReadBack.{Sound, Holding}
use Rattle.theory.specs.TriLaws.{is_lt_lem}
use Rattle.meaning.specs.Lines.{plain, fields_of, identifier, Line, lines_of, ends_well}
use Rattle.meaning.specs.Kinds.{Kind, ident, role}
use Rattle.meaning.specs.Format.{Format, kind_of, knows}
use Rattle.meaning.specs.Sound.{form_fault}
use Rattle.meaning.specs.Records.{Rec, content_of, letter, change_text, keyed, refs_of, change_texts, key_of}
use Rattle.meaning.specs.Holding.{is_held, is_sound, Held, sound, unsound, read_holding, written, held_test, held_kind, held_line, add_rec, above, on_held, scan, referring, on_scan, most_records}
use Rattle.meaning.specs.Steps.{held_tests}
use Rattle.laws.specs.Regular.{holds, Regular}
use Rattle.laws.specs.LinesAndFields.{ends, ends_all, line_ends, unlines, lines_join, lines_in, unlines_ends, cut_is}
use Rattle.laws.specs.Body.{ident_in, kind_out, kind_known, fine_known, fine_body, first_field_lem, fine, sound_none, none_sound, body_out, content_fine, change_made, plain_change, body_in}

-- a held record is an insert
abbrev pub insert_of : Rec → Change Rec
insert_of r = record { op = ins; rec = r }

-- the records of a sound holding
unfoldable pub held_records : Held → Option (List Rec)
held_records (sound st) = some st
held_records (unsound n) = none

module _ (F : Format) where
  -- ---- one line

  held_go : (n : ℕ) (t : List ℕ) (k : Kind) → T (ends_well (ends t)) → kind_of F (identifier t) ≡ some k → T (held_test F n k t)
      → held_line F n (ends t) ≡ some (record { kind = k; content = content_of t })
  unfolding held_line held_kind keep_if
  held_go n t k e f h = rw (T_true (ends_well (ends t)) e, f, T_true (held_test F n k t) h)

  -- a line that is read as a record is that record's line
  abbrev pub HeldIs : ℕ → Line → Option Rec → Type 0
  HeldIs n l none = Unit {0}
  HeldIs n l (some r) = (l ≡ ends (change_text n (insert_of r))) × T (fine F r)

  -- ---- all lines

  -- the first record's key is above that of the line before, if there is one
  abbrev pub Above : Option (List ℕ) → List Rec → Type 0
  Above none st = Unit {0}
  Above (some k) st = Low (keyed F) k st

  above_in : (lo : Option (List ℕ)) (r : Rec) (rs : List Rec) → Above lo (r ∷ rs) → T (above F lo r)
  unfolding above
  above_in none r rs h = tt
  above_in (some k) r rs h = rw h tt

  above_out : (lo : Option (List ℕ)) (r : Rec) (rs : List Rec) → T (above F lo r) → Above lo (r ∷ rs)
  unfolding above
  above_out none r rs t = tt
  above_out (some k) r rs t = is_lt_lem (lex k (key_of F r)) t

  above_nil : (lo : Option (List ℕ)) → Above lo []
  above_nil none = tt
  above_nil (some k) = tt

  -- the lines, numbered from n on, are those of fine records whose keys ascend, and not too many
  pub record Reads (n : ℕ) (lo : Option (List ℕ)) (ls : List Line) (st : List Rec) : Type 0 where
    pub lines : ls ≡ ends_all (change_texts n (as_inserts st))
    pub fines : T (all (fine F) st)
    pub aboves : Above lo st
    pub asc : Asc (keyed F) st
    pub short : n + length st ≤ suc most_records

  -- the same of what the first pass comes to
  abbrev pub Scanned : ℕ → Option (List ℕ) → List Line → Held → Type 0
  Scanned n lo ls (unsound m) = Unit {0}
  Scanned n lo ls (sound st) = Reads n lo ls st

  scanned_add : (n : ℕ) (lo : Option (List ℕ)) (l : Line) (ls : List Line) (r : Rec) → HeldIs n l (some r) → T (above F lo r)
      → (s : Held) → Scanned (suc n) (some (key_of F r)) ls s → Scanned n lo (l ∷ ls) (add_rec r s)
  unfolding add_rec change_texts
  scanned_add n lo l ls r w o (unsound m) i = tt
  scanned_add n lo l ls r w o (sound rs) i = record {
    lines = ap₂ (λ x y. x ∷ y) w.0 i.lines;
    fines = and_in (fine F r) (all (fine F) rs) w.1 i.fines;
    aboves = above_out lo r rs o;
    asc = (i.aboves, i.asc);
    short = omega (arith, i.short);
  }

  scanned_line : (n : ℕ) (lo : Option (List ℕ)) (l : Line) (ls : List Line) (go : Rec → Held) → (n ≤ most_records → (r : Rec) → Scanned (suc n) (some (key_of F r)) ls (go r))
      → (o : Option Rec) → HeldIs n l o → Scanned n lo (l ∷ ls) (on_held F n lo o go)
  unfolding on_held
  scanned_line n lo l ls go i none w = tt
  scanned_line n lo l ls go i (some r) w = when (above F lo r && leb n most_records) refl
    where
      when : (c : Bool) → (above F lo r && leb n most_records) ≡ c → Scanned n lo (l ∷ ls) (pick c (add_rec r (go r)) (unsound n))
      when true q =
          let t : T (above F lo r && leb n most_records) = rw q tt in
          scanned_add n lo l ls r w (and_l (above F lo r) (leb n most_records) t) (go r) (i (leb→le n most_records (and_r (above F lo r) (leb n most_records) t)) r)
      when false q = tt

  -- ---- references

  refer_in : (st : List Rec) (n : ℕ) (rs : List Rec) → T (all (meets (keyed F) (refs_of F) st) rs) → referring F st n rs ≡ sound st
  unfolding referring
  refer_in st n [] t = refl
  refer_in st n (r ∷ rs) t =
      rw (T_true (meets (keyed F) (refs_of F) st r) (and_l (meets (keyed F) (refs_of F) st r) _ t)) (refer_in st (suc n) rs (and_r (meets (keyed F) (refs_of F) st r) _ t))

  -- what the second pass finds sound has every reference met
  abbrev Refers : List Rec → List Rec → Held → Type 0
  Refers st rs (unsound n) = Unit {0}
  Refers st rs (sound s) = (s ≡ st) × T (all (meets (keyed F) (refs_of F) st) rs)

  refer_out : (st : List Rec) (n : ℕ) (rs : List Rec) → Refers st rs (referring F st n rs)
  unfolding referring
  refer_out st n [] = (refl, tt)
  refer_out st n (r ∷ rs) = go (meets (keyed F) (refs_of F) st r) refl (referring F st (suc n) rs) (refer_out st (suc n) rs)
    where
      go : (c : Bool) → meets (keyed F) (refs_of F) st r ≡ c → (h : Held) → Refers st rs h → Refers st (r ∷ rs) (pick c h (unsound n))
      go true e (unsound m) i = tt
      go true e (sound s) i = (i.0, and_in (meets (keyed F) (refs_of F) st r) _ (rw e tt) i.1)
      go false e h i = tt

  -- ---- whole holdings

  -- the lines of changes to fine records are plain
  pub plain_texts : (n : ℕ) (cs : List (Change Rec)) → T (all (λ c. fine F c.rec) cs) → T (all (all plain) (change_texts n cs))
  unfolding change_texts
  plain_texts n [] f = tt
  plain_texts n (c ∷ cs) f =
      and_in (all plain (change_text n c)) _ (plain_change F n c (and_l (fine F c.rec) _ f)) (plain_texts (suc n) cs (and_r (fine F c.rec) _ f))

  -- records are as fine as their inserts
  pub fine_inserts : (st : List Rec) → T (all (fine F) st) → T (all (λ c. fine F c.rec) (as_inserts st))
  fine_inserts [] f = tt
  fine_inserts (r ∷ rs) f = and_in (fine F r) _ (and_l (fine F r) _ f) (fine_inserts rs (and_r (fine F r) _ f))

  -- the bytes are what would be written of the records, and these are sound
  abbrev HeldSays : List ℕ → Option (List Rec) → Type 0
  HeldSays b none = Unit {0}
  HeldSays b (some st) = (b ≡ written st) × Sound (keyed F) (fine F) (held_tests F) st

  module _ (regular : Regular F) where
    -- ---- one line, written and read back

    held_in : (n : ℕ) (r : Rec) → n < 10000 → T (fine F r) → held_line F n (ends (change_text n (insert_of r))) ≡ some r
    unfolding ends_well held_test change_text fine
    held_in n r h f =
        let c = insert_of r in
        let t = change_text n c in
        let m = change_made n c in
        let k : T (is_held (role r.kind)) = unfold is_held in rw (fine_body F r f) tt in
        let s : T (is_sound (form_fault F r.kind t none)) = none_sound (form_fault F r.kind t none) (body_in F regular n c none h f) in
        let i = and_in (same (letter ins) (letter ins)) (same (dec n) (dec n)) (same_refl (letter ins)) (same_refl (dec n)) in
        let g : T (same (get_or (fields_of t) 1 []) (letter ins) && same (get_or (fields_of t) 2 []) (dec n)) = rw m.fields_m i in
        let w : T (held_test F n r.kind t) = and_in (is_held (role r.kind)) _ k (and_in (is_sound (form_fault F r.kind t none)) _ s g) in
        held_go n t r.kind (plain_change F n c f) (ident_in F r.kind _ (fine_known F r f)) w
        ∙ ap (λ x. some (record { kind = r.kind; content = x })) m.content_m

    held_main : (n : ℕ) (l : Line) (k : Kind) → T (ends_well l) → kind_of F (identifier l.text) ≡ some k → T (held_test F n k l.text)
        → HeldIs n l (some (record { kind = k; content = content_of l.text }))
    unfolding ends_well held_test change_text holds
    held_main n l k e i h =
        let t = l.text in
        let hk : T (holds F k) = and_in (knows F k) (is_held (role k)) (kind_known F (identifier t) k i) (and_l (is_held (role k)) _ h) in
        let h2 = and_r (is_held (role k)) _ h in
        let hs : form_fault F k t none ≡ none = sound_none (form_fault F k t none) (and_l (is_sound (form_fault F k t none)) _ h2) in
        let h3 = and_r (is_sound (form_fault F k t none)) _ h2 in
        let b = body_out F regular k t none hk hs in
        let g2 : T (same b.f2 (letter ins)) = subst (λ fs. T (same (get_or fs 1 []) (letter ins))) b.cuts.cut (and_l (same (get_or (fields_of t) 1 []) (letter ins)) _ h3) in
        let g3 : T (same b.f3 (dec n)) = subst (λ fs. T (same (get_or fs 2 []) (dec n))) b.cuts.cut (and_r (same (get_or (fields_of t) 1 []) (letter ins)) _ h3) in
        let e1 : b.f1 ≡ ident k = first_field_lem t k b.f1 _ (kind_out F (identifier t) k i) b.cuts.cut in
        let e2 : b.f2 ≡ letter ins = same_eq b.f2 (letter ins) g2 in
        let e3 : b.f3 ≡ dec n = same_eq b.f3 (dec n) g3 in
        let w : t ≡ change_text n (insert_of (record { kind = k; content = content_of t })) = cut_is t b.f1 b.f2 b.f3 (ident k) (letter ins) (dec n) b.cuts e1 e2 e3 in
        (line_ends l e ∙ ap ends w, content_fine F regular k t none hk (and_r l.ended _ e) hs)

    -- a line that is held is a fine record's
    pub held_out : (n : ℕ) (l : Line) → HeldIs n l (held_line F n l)
    unfolding held_line
    held_out n l = ending (ends_well l) refl
      where
        kept : (k : Kind) → T (ends_well l) → kind_of F (identifier l.text) ≡ some k → (c : Bool) → held_test F n k l.text ≡ c
            → HeldIs n l (keep_if c (record { kind = k; content = content_of l.text }))
        kept k e i true q = unfold keep_if in held_main n l k e i (rw q tt)
        kept k e i false q = unfold keep_if in tt

        kinded : T (ends_well l) → (o : Option Kind) → kind_of F (identifier l.text) ≡ o → HeldIs n l (held_kind F n l.text o)
        kinded e none i = unfold held_kind in tt
        kinded e (some k) i = unfold held_kind in kept k e i (held_test F n k l.text) refl

        ending : (c : Bool) → ends_well l ≡ c → HeldIs n l (pick c (held_kind F n l.text (kind_of F (identifier l.text))) none)
        ending true e = kinded (rw e tt) (kind_of F (identifier l.text)) refl
        ending false e = tt

    -- ---- all lines, written and read back

    scan_in : (n : ℕ) (lo : Option (List ℕ)) (st : List Rec) → T (all (fine F) st) → Above lo st → Asc (keyed F) st → n + length st ≤ suc most_records
        → scan F n lo (ends_all (change_texts n (as_inserts st))) ≡ sound st
    unfolding scan change_texts on_held add_rec
    scan_in n lo [] f h a c = refl
    scan_in n lo (r ∷ rs) f h a c =
        let o : T (above F lo r && leb n most_records) = and_in (above F lo r) (leb n most_records) (above_in lo r rs h) (le→leb n most_records (omega arith)) in
        let i = scan_in (suc n) (some (key_of F r)) rs (and_r (fine F r) (all (fine F) rs) f) a.0 a.1 (omega arith) in
        rw (held_in n r (omega arith) (and_l (fine F r) (all (fine F) rs) f), T_true (above F lo r && leb n most_records) o, i)

    -- the records that the first pass comes to are fine, in order and not too many
    pub scanned : (n : ℕ) (lo : Option (List ℕ)) (ls : List Line) → n ≤ suc most_records → Scanned n lo ls (scan F n lo ls)
    unfolding scan change_texts
    scanned n lo [] h = record { lines = refl; fines = tt; aboves = above_nil lo; asc = tt; short = omega arith }
    scanned n lo (l ∷ ls) h =
        scanned_line n lo l ls (λ r. scan F (suc n) (some (key_of F r)) ls) (λ g r. scanned (suc n) (some (key_of F r)) ls (omega arith)) (held_line F n l) (held_out n l)

    -- ---- whole holdings, written and read back

    -- the written bytes of sound records are read as those records
    pub writes : (st : List Rec) → Sound (keyed F) (fine F) (held_tests F) st → held_records (read_holding F (written st)) ≡ some st
    unfolding held_records read_holding written on_scan met at_most
    writes st s =
        let q = s.pass in
        let c : length st ≤ most_records = leb→le (length st) most_records (search bools) in
        let m : T (all (meets (keyed F) (refs_of F) st) st) = search bools in
        let l = lines_in (change_texts 1 (as_inserts st)) (plain_texts 1 (as_inserts st) (fine_inserts st s.fines)) in
        rw (l, scan_in 1 none st s.fines tt s.asc (omega arith), refer_in st 1 st m)

    -- and bytes that are read are what would be written of sound records
    pub held_says : (b : List ℕ) → HeldSays b (held_records (read_holding F b))
    unfolding read_holding
    held_says b = go (scan F 1 none (lines_of b)) (scanned 1 none (lines_of b) (omega arith))
      where
        refd : (st : List Rec) → Reads 1 none (lines_of b) st → (h : Held) → Refers st st h → HeldSays b (held_records h)
        refd st r (unsound n) i = unfold held_records in tt
        refd st r (sound s) i = unfold held_records written met at_most in
            let p = and_in (leb (length st) most_records) _ (le→leb (length st) most_records (omega (arith, r.short))) (and_in (all (meets (keyed F) (refs_of F) st) st) true i.1 tt) in
            subst (λ x. HeldSays b (some x)) (sym i.0) (
              sym (lines_join b) ∙ ap unlines r.lines ∙ unlines_ends (change_texts 1 (as_inserts st)),
              record { asc = r.asc; fines = r.fines; pass = p },
            )

        go : (h : Held) → Scanned 1 none (lines_of b) h → HeldSays b (held_records (on_scan F h))
        go (unsound n) i = unfold on_scan held_records in tt
        go (sound st) i = unfold on_scan in refd st i (referring F st 1 st) (refer_out st 1 st)

    -- holdings of this format, as the theory asks for them
    abbrev pub holding : Holding (keyed F)
    holding = record {
      fine = fine F;
      always = (held_tests F);
      write = written;
      hold = λ b. held_records (read_holding F b);
      writes = writes;
      holds = λ b st e. subst (HeldSays b) e (held_says b);
    }
