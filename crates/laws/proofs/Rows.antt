-- Paper 01, 'Numbers given back': the codes that each operation can give, with the line and the field that go with each; and that it gives no others.
-- Paper 02, request 01: a place stands beside 5 alone.
use Rattle.std.specs.Prelude.{◌≡◌, refl, Bool, false, ◌&&◌, ◌||◌, eqb, get_or, take}
use Rattle.std.proofs.Common.{ap, ◌∙◌, arith, eqb→eq, le→leb, length-append}
use Rattle.std.proofs.Math.Bool.{true}
use Rattle.std.proofs.Math.Option.{Option, none, some}
use mathlib.Core.List.{List, [], ◌∷◌, ◌++◌}
use Prim.Native.Nat.{ℕ, suc, ◌+◌, ◌-◌, ◌≤◌, ◌<◌}
use Rattle.std.proofs.Math.Decide.{dec_le}
use Rattle.std.proofs.Math.Dec.{T, leb}
use Rattle.std.proofs.Math.ListN.{length}
use Rattle.base.specs.Lists.{pick}
use Rattle.base.specs.Tests.{and_in, T_true, or_l, or_r}
use Rattle.theory.specs.Decimal.{value}
use Rattle.theory.specs.Step.{Op, ins, upd, del, Change}
use Rattle.theory.specs.Run.{Out, done, stop}
use Rattle.theory.specs.Answer.{fault, file, took, refused}
use Rattle.meaning.specs.Lines.{Line, lines_of, fields_of, odd_quotes}
use Rattle.meaning.specs.Kinds.{Kind, ident, numbered_among}
use Rattle.meaning.specs.Format.{Format, Field}
use Rattle.meaning.specs.Place.{place, place_as}
use Rattle.meaning.specs.Sound.{sound_field, place_in}
use Rattle.meaning.specs.Records.{Rec}
use Rattle.meaning.specs.File.{Stage, at_start, Sheet, read_from, read_file}
use Rattle.meaning.specs.Holding.{Held, sound, unsound, read_holding}
use Rattle.meaning.specs.Load.{outcome, from_start, on_file, on_holding, if_undo_fits, tried, load, checked, check_file, held_numbers, check_holding, loaded, load_file}
use Rattle.meaning.specs.Enquiries.{Found, refusal, spanned, part_of, held_at, held_part, find_in, find_kind, find, last_naming, unless_deleted, in_force_part, in_force_file, in_force_held, in_force_kind, in_force, field_part, field_in, field_of, first, second}
use Rattle.meaning.specs.Answers.{Read, Answer, Numbers, no_fault, alone, of_line, of_field, Refusal, at_line}
use Rattle.meaning.specs.Steps.{fits, run_steps}
use Rattle.meaning.specs.Undo.{undo_bytes}
use Rattle.meaning.specs.Codes.{holding_too_long, all_done, out_of_place, field_malformed, too_many_body_lines, key_absent, holding_unsound, kind_not_asked, undo_too_long, no_such_part}
use Rattle.laws.specs.Regular.{Regular}
use Rattle.laws.specs.LinesAndFields.{ends_all}
use Rattle.laws.specs.LinePart.{no_line}
use Rattle.laws.proofs.SoundFile.{says_length, read_sound}
use Rattle.laws.specs.FileRefusals.{shaped, ReadShaped, file_shape, among}
use Rattle.laws.specs.FirstFault.{FaultAt}
use Rattle.laws.proofs.FirstFault.{file_fault_at}
use Rattle.laws.specs.HoldingRefusals.{HeldAt, holding_fault_at}
use Rattle.laws.specs.LoadRefusals.{step_codes, OutIn, run_in}
use Rattle.laws.specs.StepFails.{no_true}
use Rattle.laws.specs.LineFails.{LineFails, ending, unknown, misplaced, too_many, miscounted, malformed, misdated, misnumbered, mistold, lowest_within}
use Rattle.laws.specs.WhyLoad.{Reason, bad_holding, bad_file, no_start, bad_step, TriedSays}
use Rattle.laws.proofs.WhyLoad.{tried_says, step_code_lem}
use Rattle.laws.specs.WhyFile.{fault_at, at_its_end, ReadFails, read_fails}
use Rattle.laws.specs.Rows.{Row, fitting, given, nought, within, rows, FoundIn, pointed, field_rows, held_rows, holding_rows, step_rows, find_rows, file_rows, check_rows, tried_rows, load_rows, force_rows}

-- ---- rows after rows

or_map : (a b c : Bool) → (T b → T c) → T (a || b) → T (a || c)
or_map true b c i t = tt
or_map false b c i t = i t

given_l : (rs ss : List Row) (c l f : ℕ) → T (given rs c l f) → T (given (rs ++ ss) c l f)
unfolding given
given_l [] ss c l f t = absurd t
given_l (r ∷ rs) ss c l f t = or_map (fitting r c l f) (given rs c l f) (given (rs ++ ss) c l f) (given_l rs ss c l f) t

given_r : (rs ss : List Row) (c l f : ℕ) → T (given ss c l f) → T (given (rs ++ ss) c l f)
unfolding given
given_r [] ss c l f t = t
given_r (r ∷ rs) ss c l f t = or_r (fitting r c l f) (given (rs ++ ss) c l f) (given_r rs ss c l f t)

-- a listed code at one of the lines, with no field
rows_given : (line : ℕ → Bool) (cs : List ℕ) (c l : ℕ) → T (line l) → T (among c cs) → T (given (rows line cs) c l 0)
unfolding given among
rows_given line [] c l h t = absurd t
rows_given line (x ∷ cs) c l h t = go (eqb c x) (rows_given line cs c l h) t
  where
    go : (b : Bool) → (T (among c cs) → T (given (rows line cs) c l 0)) → T (b || among c cs) → T ((b && (line l && true)) || given (rows line cs) c l 0)
    go true i t = or_l (line l && true) (given (rows line cs) c l 0) (and_in (line l) true h tt)
    go false i t = i t

in_lines : (a b l : ℕ) → a ≤ l → l ≤ b → T (within a b l)
in_lines a b l h k = and_in (leb a l) (leb l b) (le→leb a l h) (le→leb l b k)

or_false : (a : Bool) → (a || false) ≡ a
or_false true = refl
or_false false = refl

length_ends : (ts : List (List ℕ)) → length (ends_all ts) ≡ length ts
length_ends [] = refl
length_ends (t ∷ ts) = ap suc (length_ends ts)

-- ---- what stands in rows

-- a refusal stands in these rows
abbrev RefusalIn : List Row → Answer → Type 0
RefusalIn rs (took new n) = Unit {0}
RefusalIn rs (refused r) = T (given rs r.code r.line r.field)

-- the numbers stand in these rows
abbrev NumbersIn : List Row → Numbers → Type 0
NumbersIn rs s = T (given rs s.code s.line s.field)

refusal_in_lem : (rs : List Row) (r : Refusal) → T (given rs r.code r.line r.field) → FoundIn rs (refusal r)
unfolding refusal
refusal_in_lem rs r t = record { numbers = t; empty = λ n. refl }

-- whatever holds of each of two answers holds of the one that is picked
either : (P : Answer → Type 0) (c : Bool) (x y : Answer) → P x → P y → P (pick c x y)
either P true x y p q = p
either P false x y p q = q

-- ---- a place

-- the numbers are so
abbrev Pointed : Numbers → Type 0
Pointed s = T (pointed s.code s.place)

-- beside another code the place is 0
pub pointed_none : (c p : ℕ) → T (pointed c p) → (c ≡ field_malformed → ⊥) → p ≡ 0
unfolding pointed
pointed_none c p t n = eqb→eq p 0 (rw (no_true (eqb c field_malformed) (λ u. n (eqb→eq c field_malformed u))) at t)

-- and 0 may stand there
none_pointed : (c : ℕ) → (c ≡ field_malformed → ⊥) → T (pointed c 0)
unfolding pointed
none_pointed c n = rw (no_true (eqb c field_malformed) (λ u. n (eqb→eq c field_malformed u))) tt

-- ---- one field of a line

-- the three numbers of one field of a line
pub field_given : (b : List ℕ) (l f : ℕ) → FoundIn field_rows (field_of b l f)
unfolding field_of field_in field_part field_rows given
field_given b l f = lined (leb 1 l && leb l (length (lines_of b)))
  where
    t : List ℕ
    t = (get_or (lines_of b) (l - 1) no_line).text

    fielded : (at size : ℕ) (c : Bool) → FoundIn field_rows (pick c (record { answer = no_fault; slice = first; start = at; size = size }) (refusal (alone no_such_part)))
    fielded at size true = record { numbers = tt; empty = λ n. absurd (n refl) }
    fielded at size false = refusal_in_lem _ (alone no_such_part) tt

    quoted : (at : ℕ) (c : Bool) → FoundIn field_rows (pick c (refusal (alone no_such_part)) (field_part at (fields_of t) f))
    quoted at true = refusal_in_lem _ (alone no_such_part) tt
    quoted at false = fielded _ _ (leb 1 f && leb f (length (fields_of t)))

    lined : (c : Bool) → FoundIn field_rows (pick c (field_in (spanned (take (l - 1) (lines_of b))) t f) (refusal (alone no_such_part)))
    lined true = quoted (spanned (take (l - 1) (lines_of b))) (odd_quotes t)
    lined false = refusal_in_lem _ (alone no_such_part) tt

module _ (F : Format) where
  open F use {fields, enquiries}

  -- ---- the file

  shaped_given : (n c l f : ℕ) → T (shaped F (of_field c f)) → 1 ≤ l → l ≤ 1 + n → (l ≡ 1 + n → c ≡ out_of_place) → T (given (file_rows F n) c l f)
  unfolding given file_rows shaped
  shaped_given n c l f s a b e = go (dec_le l n)
    where
      first : leb 1 l ≡ true
      first = T_true (leb 1 l) (le→leb 1 l a)

      last : leb l (suc n) ≡ true
      last = T_true (leb l (suc n)) (le→leb l (suc n) (omega (arith, b)))

      go : Dec (l ≤ n) → T (given (file_rows F n) c l f)
      go (yes h) = rw (first, last, T_true (leb l n) (le→leb l n h), or_false (eqb c too_many_body_lines && eqb f 0)) s
      go (no h) = let z : c ≡ out_of_place = e (omega arith) in rw (z, first, last) (rw z at s)

  -- a file's fault stands in its rows; a file without one has three lines beside its body
  abbrev FileGiven : List ℕ → Read Sheet → Type 0
  FileGiven b (fault r) = T (given (file_rows F (length (lines_of b))) r.code r.line r.field)
  FileGiven b (file s) = length (lines_of b) ≡ length s.1 + 3

  -- ---- the holding

  held_given : (n l : ℕ) → (1 ≤ l) × (l < 1 + n) → T (given (held_rows n) holding_unsound l 0)
  unfolding held_rows
  held_given n l i = rows_given (within 1 n) (holding_unsound ∷ []) holding_unsound l (in_lines 1 n l i.0 (omega (arith, i.1))) (unfold among in tt)

  -- the three numbers of the check of a holding
  pub holding_given : (b : List ℕ) → T (given (holding_rows b) (check_holding F b).code (check_holding F b).line (check_holding F b).field)
  unfolding holding_rows check_holding held_numbers
  holding_given b = go (read_holding F b) (holding_fault_at F b)
    where
      go : (h : Held) → HeldAt 1 (length (lines_of b)) h
          → T (given (rows nought (all_done ∷ []) ++ held_rows (length (lines_of b))) (held_numbers h).code (held_numbers h).line (held_numbers h).field)
      go (unsound l) i = given_r (rows nought (all_done ∷ [])) _ holding_unsound l 0 (held_given (length (lines_of b)) l i)
      go (sound st) i = unfold given in tt

  -- ---- enquiries

  held_in : (old : List ℕ) (o : Option ℕ) → FoundIn (find_rows old) (held_part old o)
  unfolding held_part part_of find_rows given
  held_in old none = refusal_in_lem _ (alone key_absent) tt
  held_in old (some i) = record { numbers = tt; empty = λ n. absurd (n refl) }

  unsound_in : (old : List ℕ) (l : ℕ) → (1 ≤ l) × (l < 1 + length (lines_of old)) → FoundIn (find_rows old) (refusal (at_line l (of_line holding_unsound)))
  unfolding find_rows
  unsound_in old l i = refusal_in_lem _ (at_line l (of_line holding_unsound)) (given_r (rows nought (all_done ∷ kind_not_asked ∷ key_absent ∷ [])) _ holding_unsound l 0 (held_given (length (lines_of old)) l i))

  -- the three numbers of find
  pub find_given : (old : List ℕ) (kind n : ℕ) → FoundIn (find_rows old) (find F old kind n)
  unfolding find find_kind find_in
  find_given old kind n = asked (numbered_among enquiries kind)
    where
      held : (q : List ℕ) (h : Held) → HeldAt 1 (length (lines_of old)) h → FoundIn (find_rows old) (find_in F old q h)
      held q (unsound l) i = unsound_in old l i
      held q (sound st) i = held_in old (held_at F q 0 st)

      asked : (o : Option Kind) → FoundIn (find_rows old) (find_kind F old n o)
      asked none = refusal_in_lem _ (alone kind_not_asked) (unfold find_rows given in tt)
      asked (some k) = held (value (ident k) ∷ n ∷ []) (read_holding F old) (holding_fault_at F old)

  more_in : (old b : List ℕ) (f : Found) → FoundIn (find_rows old) f → FoundIn (force_rows F old b) f
  unfolding force_rows
  more_in old b f i = record { numbers = given_l (find_rows old) _ _ _ _ i.numbers; empty = i.empty }

  -- ---- a place: the file

  -- a field that isn't sound has a place
  has_place : (d : Field) (f : List ℕ) (p : ℕ) → (T (sound_field F d f) → ⊥) → p ≡ place_in F d f → 1 ≤ p
  unfolding sound_field place_in place_as place
  has_place d f p n e = rw (e, no_true (sound_field F d f) n) (omega arith)

  -- a line that fails a test has a place with 5 alone
  line_pointed : (p : Stage) (n : ℕ) (l : Line) (code field place : ℕ) → LineFails F p n l code field place → T (pointed code place)
  unfolding pointed
  line_pointed p n l code field place (ending w c f z) = rw (c, z) tt
  line_pointed p n l code field place (unknown w i c f z) = rw (c, z) tt
  line_pointed p n l code field place (misplaced k w i x c f z) = rw (c, z) tt
  line_pointed p n l code field place (too_many k s r c f z) = rw (c, z) tt
  line_pointed p n l code field place (miscounted k s r h c f z) = rw (c, z) tt
  line_pointed p n l code field place (malformed k s r h w c) =
      let v = (lowest_within F 1 (fields k) (fields_of l.text) field place w).2 in
      rw c (le→leb 1 place (has_place _ _ place v.0 v.1))
  line_pointed p n l code field place (misdated k s r h w d c f z) = rw (c, z) tt
  line_pointed p n l code field place (misnumbered k s w r d c f z) = rw (c, z) tt
  line_pointed p n l code field place (mistold k s w r d c f z) = rw (c, z) tt

  -- and so has the check of a file
  pub check_pointed : (b : List ℕ) → Pointed (check_file F b)
  unfolding check_file checked read_file pointed
  check_pointed b = go (read_from F 1 at_start 0 (lines_of b)) (read_fails F 1 at_start 0 (lines_of b))
    where
      go : (r : Read Sheet) → ReadFails F 1 at_start 0 (lines_of b) r → Pointed (checked r)
      go (fault r) (fault_at w) = line_pointed w.stage w.body w.here r.code r.field r.place w.fails
      go (fault r) (at_its_end q m w u d) = rw (d.0.0, d.1) tt
      go (file s) w = tt

  module _ (regular : Regular F) where
    -- ---- the file

    file_given : (b : List ℕ) → FileGiven b (read_file F b)
    file_given b = go (read_file F b) refl (file_shape F regular b) (file_fault_at F b)
      where
        go : (r : Read Sheet) → read_file F b ≡ r → ReadShaped F r → FaultAt 1 (length (lines_of b)) r → FileGiven b r
        go (fault r) e s a = shaped_given (length (lines_of b)) r.code r.line r.field s a.0 a.1 a.2
        go (file s) e h a =
            let w = read_sound F b s.0 s.1 e in
            let fr = s.0 in
            let all = fr.header_text ∷ (w.texts ++ (fr.metadata_text ∷ fr.trailer_text ∷ [])) in
            ap length w.lines ∙ length_ends all ∙ omega (arith, length-append w.texts (fr.metadata_text ∷ fr.trailer_text ∷ []), says_length F 1 w.texts s.1 w.body)

    -- the numbers of the check of a file
    pub check_given : (b : List ℕ) → T (given (check_rows F b) (check_file F b).code (check_file F b).line (check_file F b).field)
    unfolding check_rows check_file checked
    check_given b = go (read_file F b) (file_given b)
      where
        go : (r : Read Sheet) → FileGiven b r → T (given (rows nought (all_done ∷ []) ++ (file_rows F) (length (lines_of b))) (checked r).code (checked r).line (checked r).field)
        go (fault r) i = given_r (rows nought (all_done ∷ [])) _ r.code r.line r.field i
        go (file s) i = unfold given in tt

    -- ---- a load

    tried_given : (room : ℕ) (old b : List ℕ) → RefusalIn (tried_rows F old b) (tried F room old b)
    unfolding tried on_holding on_file from_start outcome tried_rows step_rows
    tried_given room old b = holds (read_holding F old) (holding_fault_at F old)
      where
        n : ℕ
        n = length (lines_of b)

        stepped : (c l f : ℕ) → T (given (rows nought (holding_too_long ∷ []) ++ step_rows b) c l f) → T (given (tried_rows F old b) c l f)
        stepped c l f t = given_r (held_rows (length (lines_of old))) _ c l f (given_r (file_rows F n) _ c l f t)

        ran : (cs : List (Change Rec)) → n ≡ length cs + 3 → (o : Out (List Rec)) → OutIn 2 (length cs) o → RefusalIn (tried_rows F old b) (outcome cs o)
        ran cs e (done st) i = tt
        ran cs e (stop l w) i =
            stepped w l 0 (given_r (rows nought (holding_too_long ∷ [])) _ w l 0 (rows_given (within 2 (n - 2)) step_codes w l (in_lines 2 (n - 2) l i.1 (omega (arith, i.2, e))) i.0))

        starts : (c : Bool) (st : List Rec) (s : Sheet) → n ≡ length s.1 + 3
            → RefusalIn (tried_rows F old b) (pick c (outcome s.1 (run_steps F room st s.1)) (refused (alone holding_too_long)))
        starts true st s e = ran s.1 e (run_steps F room st s.1) (run_in F room 2 st s.1)
        starts false st s e = stepped holding_too_long 0 0 (unfold given in tt)

        files : (st : List Rec) (r : Read Sheet) → FileGiven b r → RefusalIn (tried_rows F old b) (on_file F room st r)
        files st (fault r) i = given_r (held_rows (length (lines_of old))) _ r.code r.line r.field (given_l (file_rows F n) _ r.code r.line r.field i)
        files st (file s) i = starts (fits room st) st s i

        holds : (h : Held) → HeldAt 1 (length (lines_of old)) h → RefusalIn (tried_rows F old b) (on_holding F room b h)
        holds (unsound l) i = given_l (held_rows (length (lines_of old))) _ holding_unsound l 0 (held_given (length (lines_of old)) l i)
        holds (sound st) i = files st (read_file F b) (file_given b)

    -- the numbers of a load
    pub load_given : (old b : List ℕ) (room undo_room : ℕ) → NumbersIn (load_rows F old b) (load_file F old b room undo_room).answer
    unfolding load_rows load_file loaded load if_undo_fits
    load_given old b room undo_room = go (tried F room old b) (tried_given room old b)
      where
        u : List ℕ
        u = undo_bytes F old b

        Given : Answer → Type 0
        Given x = NumbersIn (rows nought (all_done ∷ undo_too_long ∷ []) ++ (tried_rows F) old b) (loaded room undo_room u x).answer

        go : (x : Answer) → RefusalIn (tried_rows F old b) x → Given (if_undo_fits undo_room u x)
        go (took new n) t = either Given (leb (length u) undo_room) _ _ (unfold given in tt) (unfold given in tt)
        go (refused r) t = given_r (rows nought (all_done ∷ undo_too_long ∷ [])) _ r.code r.line r.field t

    -- ---- a place: a load

    -- what refuses a file has a place with 5 alone
    reason_pointed : (room : ℕ) (old b : List ℕ) (c l f p : ℕ) → Reason F room old b c l f p → T (pointed c p)
    unfolding pointed among
    reason_pointed room old b c l f p (bad_holding n d) = rw (d.0.0, d.1) tt
    reason_pointed room old b c l f p (bad_file s n d) = rw (d.0.0, d.1) (check_pointed b)
    reason_pointed room old b c l f p (no_start m n d) = rw (d.0.0, d.1) tt
    reason_pointed room old b c l f p (bad_step m t r d z) = rw z (none_pointed c (λ e. rw e at (step_code_lem F room _ _ c r.refuses)))

    -- and so has a load
    pub load_pointed : (old b : List ℕ) (room undo_room : ℕ) → Pointed (load_file F old b room undo_room).answer
    unfolding load_file loaded load if_undo_fits pointed
    load_pointed old b room undo_room = go (tried F room old b) (tried_says F regular room old b)
      where
        u : List ℕ
        u = undo_bytes F old b

        go : (x : Answer) → TriedSays F room old b x → Pointed (loaded room undo_room u (if_undo_fits undo_room u x)).answer
        go (took new n) w = either (λ x. Pointed (loaded room undo_room u x).answer) (leb (length u) undo_room) _ _ tt tt
        go (refused r) w = reason_pointed room old b r.code r.line r.field r.place w

    -- ---- the record in force

    -- the three numbers of the record in force
    pub force_given : (old b : List ℕ) (kind n : ℕ) → FoundIn (force_rows F old b) (in_force F old b kind n)
    unfolding in_force in_force_kind in_force_held in_force_file in_force_part
    force_given old b kind n = asked (numbered_among enquiries kind)
      where
        named_in : (o : Op) (i : ℕ) → FoundIn (find_rows old) (unless_deleted o (part_of second (lines_of b) i))
        named_in ins i = unfold unless_deleted part_of find_rows given in record { numbers = tt; empty = λ n. absurd (n refl) }
        named_in upd i = unfold unless_deleted part_of find_rows given in record { numbers = tt; empty = λ n. absurd (n refl) }
        named_in del i = unfold unless_deleted find_rows given in refusal_in_lem _ (alone key_absent) tt

        part : (q : List ℕ) (st : List Rec) (o : Option (ℕ × Op)) → FoundIn (force_rows F old b) (in_force_part F old b q st o)
        part q st none = more_in old b _ (held_in old (held_at F q 0 st))
        part q st (some l) = more_in old b _ (named_in l.1 l.0)

        files : (q : List ℕ) (st : List Rec) (r : Read Sheet) → FileGiven b r → FoundIn (force_rows F old b) (in_force_file F old b q st r)
        files q st (fault r) i = refusal_in_lem _ r (unfold force_rows in given_r (find_rows old) _ r.code r.line r.field i)
        files q st (file s) i = part q st (last_naming F q 1 s.1 none)

        held : (q : List ℕ) (h : Held) → HeldAt 1 (length (lines_of old)) h → FoundIn (force_rows F old b) (in_force_held F old b q h)
        held q (unsound l) i = more_in old b _ (unsound_in old l i)
        held q (sound st) i = files q st (read_file F b) (file_given b)

        asked : (o : Option Kind) → FoundIn (force_rows F old b) (in_force_kind F old b n o)
        asked none = more_in old b _ (refusal_in_lem _ (alone kind_not_asked) (unfold find_rows given in tt))
        asked (some k) = held (value (ident k) ∷ n ∷ []) (read_holding F old) (holding_fault_at F old)
