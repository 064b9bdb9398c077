-- Paper 02, request 02: 'the answer it had before'. A file of ASCII against a holding of ASCII gets the same answer from any two formats that differ
-- in their rule for texts alone and say the same of fields of ASCII; so from paper 01's format as it was and as it is.
use Rattle.std.specs.Prelude.{◌≡◌, Bool, true, ◌&&◌, ℕ, suc, ◌<◌, T, eqb, length, get_or}
use Rattle.std.proofs.Math.Path.{refl, ap, fun_ext}
use Rattle.std.proofs.Common.{ap₂, ◌∙◌, arith}
use Rattle.std.proofs.Math.Bool.{false}
use Rattle.std.proofs.Math.Option
use Rattle.std.proofs.Math.Option.{Option, none, some}
use mathlib.Core.List.{List, [], ◌∷◌}
use Prim.Native.String.{String}
use Rattle.base.specs.Lists.{all, pick, ask}
use Rattle.base.specs.Tests.{and_in, and_l, and_r}
use Rattle.theory.specs.Lex.{lex}
use Rattle.theory.specs.LexLaws.{lex_order}
use Rattle.theory.specs.Keyed.{Keyed}
use Rattle.theory.specs.Refs.{meets, met}
use Rattle.theory.specs.Step.{Op, Change, Rules, after, back}
use Rattle.theory.specs.Run.{run}
use Rattle.theory.specs.Trail.{undo}
use Rattle.theory.specs.Answer.{fault, file}
use Rattle.meaning.specs.Lines.{Line, cr, lf, grow, lines_of, turned, is_sep, add_byte, fields_from, fields_of, has_fields, identifier}
use Rattle.meaning.specs.Forms.{TextRule, by_characters}
use Rattle.meaning.specs.Kinds.{Kind, Role, header_line, body_line, metadata_line, trailer_line, role, kind_among, numbered_among}
use Rattle.meaning.specs.Format.{Format, Field, kind_of}
use Rattle.meaning.specs.Table.{scottish}
use Rattle.meaning.specs.Before.{with_texts, before}
use Rattle.meaning.specs.Codes.{field_count_wrong, too_many_records, reference_unmet}
use Rattle.meaning.specs.Answers.{Fault, of_line, Read}
use Rattle.meaning.specs.Sound.{if_malformed, forms, field_fault, form_fault}
use Rattle.meaning.specs.Records.{Rec, own_fields, value_named, empty_named, values_named, key_of, refs_from, refs_of, keyed}
use Rattle.meaning.specs.File.{Stage, Judged, bad, good, Sheet, count_fault, line_fault, judge_kind, judge_text, judge_line, adds, body_after, on_line, read_from, read_file, write_file}
use Rattle.meaning.specs.Holding.{Held, sound, unsound, held_test, held_kind, held_line, above, on_held, scan, referring, on_scan, read_holding}
use Rattle.meaning.specs.Steps.{key_code, few, room_tests, run_steps}
use Rattle.meaning.specs.Undo.{undo_body, undo_sheet, undo_held, undo_bytes}
use Rattle.meaning.specs.Load.{from_start, on_file, on_holding, tried, load, check_file, check_holding, load_file}
use Rattle.meaning.specs.Enquiries.{held_at, find_in, find_kind, find, last_naming, in_force_part, in_force_file, in_force_held, in_force_kind, in_force}
use Rattle.meaning.specs.Program.{program_room, program}
use Rattle.laws.specs.LineFails.{no_field}
use Rattle.laws.specs.Ascii.{is_ascii, ascii}
use Rattle.laws.specs.AsciiLaws.{SameField, scottish_ascii}

-- ---- lines and fields of ASCII

add_ascii : (c : Bool) (x : ℕ) (fs : List (List ℕ)) → T (is_ascii x) → T (all ascii fs) → T (all ascii (add_byte c x fs))
unfolding add_byte
add_ascii true x fs h t = t
add_ascii false x [] h t = and_in (is_ascii x && true) true (and_in (is_ascii x) true h tt) tt
add_ascii false x (f ∷ fs) h t =
    and_in (is_ascii x && ascii f) (all ascii fs) (and_in (is_ascii x) (ascii f) h (and_l (ascii f) (all ascii fs) t)) (and_r (ascii f) (all ascii fs) t)

fields_ascii : (q : Bool) (t : List ℕ) → T (ascii t) → T (all ascii (fields_from q t))
unfolding fields_from
fields_ascii q [] h = tt
fields_ascii q (x ∷ r) h =
    add_ascii (is_sep q x) x (fields_from (turned q x) r) (and_l (is_ascii x) (ascii r) h) (fields_ascii (turned q x) r (and_r (is_ascii x) (ascii r) h))

-- the text of a line is ASCII
abbrev ascii_line : Line → Bool
ascii_line l = ascii l.text

grow_ascii : (x : ℕ) (ls : List Line) → T (is_ascii x) → T (all ascii_line ls) → T (all ascii_line (grow x ls))
unfolding grow
grow_ascii x [] h t = and_in (is_ascii x && true) true (and_in (is_ascii x) true h tt) tt
grow_ascii x (l ∷ ls) h t =
    and_in (is_ascii x && ascii_line l) (all ascii_line ls) (and_in (is_ascii x) (ascii_line l) h (and_l (ascii_line l) (all ascii_line ls) t))
    (and_r (ascii_line l) (all ascii_line ls) t)

lines_ascii : (b : List ℕ) → T (ascii b) → T (all ascii_line (lines_of b))
unfolding lines_of
lines_ascii [] h = tt
lines_ascii (x ∷ []) h = grow_ascii x [] (and_l (is_ascii x) true h) tt
lines_ascii (x ∷ (y ∷ r)) h =
    let s = and_r (is_ascii x) (is_ascii y && ascii r) h in
    go (eqb x cr && eqb y lf) (lines_ascii r (and_r (is_ascii y) (ascii r) s)) (lines_ascii (y ∷ r) s)
  where
    go : (c : Bool) → T (all ascii_line (lines_of r)) → T (all ascii_line (lines_of (y ∷ r)))
        → T (all ascii_line (pick c (record { text = []; ended = true } ∷ lines_of r) (grow x (lines_of (y ∷ r)))))
    go true i j = i
    go false i j = grow_ascii x (lines_of (y ∷ r)) (and_l (is_ascii x) (is_ascii y && ascii r) h) j

-- a line goes on as the lines after it do
on_same : (i : ℕ) (t : List ℕ) (j : Judged) (f g : Kind → Stage → Read Sheet) → ((k : Kind) (q : Stage) → f k q ≡ g k q) → on_line i t j f ≡ on_line i t j g
unfolding on_line
on_same i t (bad w) f g h = refl
on_same i t (good k q) f g h = ap (adds (role k) k t) (h k q)

-- the records by a key
abbrev by_key : (Rec → List ℕ) → Keyed
by_key key = record { Key = List ℕ; Rec = Rec; cmp = lex; order = lex_order; key = key }

-- ---- a format and the same with another rule

-- two formats say the same of every field of ASCII, as each of these rows has it
abbrev pub SameRows : Format → Format → List Field → Type 0
SameRows F G ds = (i : ℕ) → i < length ds → (f : List ℕ) → T (ascii f) → SameField F G (get_or ds i no_field) f

module _ (F : Format) (rule : TextRule) where
  abbrev G : Format
  G = with_texts F rule

  -- ---- keys and references don't ask for the rule

  value_same : (r : Rec) (s : String) → value_named F r s ≡ value_named G r s
  unfolding value_named own_fields
  value_same r s = refl

  values_same : (r : Rec) (ss : List String) → values_named F r ss ≡ values_named G r ss
  unfolding values_named
  values_same r [] = refl
  values_same r (s ∷ ss) = rw (value_same r s, values_same r ss)

  empty_same : (r : Rec) (ss : List String) → empty_named F r ss ≡ empty_named G r ss
  unfolding empty_named own_fields
  empty_same r [] = refl
  empty_same r (s ∷ ss) = rw (empty_same r ss)

  refs_from_lem : (r : Rec) (ps : List (Kind × List String)) → refs_from F r ps ≡ refs_from G r ps
  unfolding refs_from
  refs_from_lem r [] = refl
  refs_from_lem r (p ∷ ps) = rw (empty_same r p.1, values_same r p.1, refs_from_lem r ps)

  key_of_lem : (r : Rec) → key_of F r ≡ key_of G r
  unfolding key_of
  key_of_lem r = rw (values_same r (F.key_names r.kind))

  keys_same : key_of F ≡ key_of G
  keys_same = fun_ext key_of_lem

  refs_same : refs_of F ≡ refs_of G
  unfolding refs_of
  refs_same = fun_ext (λ r. refs_from_lem r (F.refers_to r.kind))

  -- ---- nor do steps, the undo's body and look-ups

  run_same : (room : ℕ) (st : List Rec) (cs : List (Change Rec)) → run_steps F room st cs ≡ run_steps G room st cs
  run_same room st cs = ap₂ (λ key refs. run (by_key key) (rules key refs) 2 st cs) keys_same refs_same
    where
      rules : (Rec → List ℕ) → (Rec → List (List ℕ)) → Rules Rec
      rules key refs = record { key_code = key_code; tests = (too_many_records, few) ∷ (reference_unmet, met (by_key key) refs) ∷ room_tests room }

  body_same : (st : List Rec) (cs : List (Change Rec)) → undo_body F st cs ≡ undo_body G st cs
  body_same st cs = ap (λ key. undo (after (by_key key)) (back (by_key key)) st cs) keys_same

  start_same : (room : ℕ) (st : List Rec) (x : Read Sheet) → on_file F room st x ≡ on_file G room st x
  unfolding on_file from_start
  start_same room st (fault r) = refl
  start_same room st (file s) = rw (run_same room st s.1)

  sheet_same : (st : List Rec) (x : Read Sheet) → undo_sheet F st x ≡ undo_sheet G st x
  unfolding undo_sheet
  sheet_same st (fault r) = refl
  sheet_same st (file s) = ap (write_file s.0) (body_same st s.1)

  at_same : (q : List ℕ) (i : ℕ) (rs : List Rec) → held_at F q i rs ≡ held_at G q i rs
  unfolding held_at
  at_same q i [] = refl
  at_same q i (r ∷ rs) = rw (key_of_lem r, at_same q (suc i) rs)

  find_in_same : (old q : List ℕ) (x : Held) → find_in F old q x ≡ find_in G old q x
  unfolding find_in
  find_in_same old q (unsound n) = refl
  find_in_same old q (sound st) = rw (at_same q 0 st)

  naming_same : (q : List ℕ) (i : ℕ) (cs : List (Change Rec)) (o : Option (ℕ × Op)) → last_naming F q i cs o ≡ last_naming G q i cs o
  unfolding last_naming
  naming_same q i [] o = refl
  naming_same q i (c ∷ cs) o = rw (key_of_lem c.rec) (naming_same q (suc i) cs _)

  force_part_same : (old b q : List ℕ) (st : List Rec) (x : Option (ℕ × Op)) → in_force_part F old b q st x ≡ in_force_part G old b q st x
  unfolding in_force_part
  force_part_same old b q st none = rw (at_same q 0 st)
  force_part_same old b q st (some l) = refl

  force_file_same : (old b q : List ℕ) (st : List Rec) (x : Read Sheet) → in_force_file F old b q st x ≡ in_force_file G old b q st x
  unfolding in_force_file
  force_file_same old b q st (fault r) = refl
  force_file_same old b q st (file s) = rw (naming_same q 1 s.1 none) (force_part_same old b q st (last_naming G q 1 s.1 none))

  meets_same : (st : List Rec) (r : Rec) → meets (keyed F) (refs_of F) st r ≡ meets (keyed G) (refs_of G) st r
  meets_same st r = ap₂ (λ key refs. meets (by_key key) refs st r) keys_same refs_same

  refer_same : (st : List Rec) (n : ℕ) (rs : List Rec) → referring F st n rs ≡ referring G st n rs
  unfolding referring
  refer_same st n [] = refl
  refer_same st n (r ∷ rs) = rw (meets_same st r, refer_same st (suc n) rs)

  on_scan_same : (h : Held) → on_scan F h ≡ on_scan G h
  unfolding on_scan
  on_scan_same (unsound n) = refl
  on_scan_same (sound st) = refer_same st 1 st

  count_same : (o : Role) (n : ℕ) (k : Kind) (t : List ℕ) → count_fault F o n k t ≡ count_fault G o n k t
  unfolding count_fault
  count_same header_line n k t = refl
  count_same body_line n k t = refl
  count_same metadata_line n k t = refl
  count_same trailer_line n k t = refl

  -- ---- where both say the same of ASCII fields

  module _ (rows_same : (k : Kind) → SameRows F G (F.fields k)) where
    forms_same : (n : ℕ) (ds : List Field) (fs : List (List ℕ)) (rest : Option Fault) → SameRows F G ds → T (all ascii fs) → forms F n ds fs rest ≡ forms G n ds fs rest
    unfolding forms if_malformed
    forms_same n [] fs rest s h = refl
    forms_same n (d ∷ ds) [] rest s h = refl
    forms_same n (d ∷ ds) (f ∷ fs) rest s h =
        let e = s 0 (omega arith) f (and_l (ascii f) (all ascii fs) h) in
        rw (e.0, e.1, forms_same (suc n) ds fs rest (λ i l. s (suc i) (omega arith)) (and_r (ascii f) (all ascii fs) h))

    -- codes 4, 5 and 6 of a line
    line_same : (k : Kind) (t : List ℕ) (rest : Option Fault) → T (ascii t) → form_fault F k t rest ≡ form_fault G k t rest
    unfolding form_fault field_fault fields_of
    line_same k t rest h =
        ap (ask (has_fields (length (F.fields k)) t) (of_line field_count_wrong))
        (forms_same 1 (F.fields k) (fields_from false t) _ (rows_same k) (fields_ascii false t h))

    -- ---- a file

    placed_same : (n : ℕ) (t : List ℕ) (k : Kind) (o : Option Stage) → T (ascii t) → judge_kind F n t k o ≡ judge_kind G n t k o
    unfolding judge_kind line_fault
    placed_same n t k none h = refl
    placed_same n t k (some p) h = rw (count_same (role k) n k t, line_same k t (count_fault G (role k) n k t) h)

    known_same : (p : Stage) (n : ℕ) (t : List ℕ) (o : Option Kind) → T (ascii t) → judge_text F p n t o ≡ judge_text G p n t o
    unfolding judge_text
    known_same p n t none h = refl
    known_same p n t (some k) h = placed_same n t k _ h

    judge_same : (p : Stage) (n : ℕ) (l : Line) → T (ascii_line l) → judge_line F p n l ≡ judge_line G p n l
    unfolding judge_line kind_of
    judge_same p n l h = rw (known_same p n l.text (kind_among F.known (identifier l.text)) h)

    from_same : (i : ℕ) (p : Stage) (n : ℕ) (ls : List Line) → T (all ascii_line ls) → read_from F i p n ls ≡ read_from G i p n ls
    unfolding read_from
    from_same i p n [] h = refl
    from_same i p n (l ∷ ls) h =
        rw (judge_same p n l (and_l (ascii_line l) (all ascii_line ls) h))
        (on_same i l.text (judge_line G p n l) (λ k q. read_from F (suc i) q (body_after (role k) n) ls) (λ k q. read_from G (suc i) q (body_after (role k) n) ls)
        (λ k q. from_same (suc i) q (body_after (role k) n) ls (and_r (ascii_line l) (all ascii_line ls) h)))

    -- a file of ASCII says the same
    pub file_same : (b : List ℕ) → T (ascii b) → read_file F b ≡ read_file G b
    unfolding read_file
    file_same b h = from_same 1 _ 0 (lines_of b) (lines_ascii b h)

    -- ---- a holding

    kind_same : (n : ℕ) (t : List ℕ) (o : Option Kind) → T (ascii t) → held_kind F n t o ≡ held_kind G n t o
    unfolding held_kind held_test
    kind_same n t none h = refl
    kind_same n t (some k) h = rw (line_same k t none h)

    held_same : (n : ℕ) (l : Line) → T (ascii_line l) → held_line F n l ≡ held_line G n l
    unfolding held_line kind_of
    held_same n l h = rw (kind_same n l.text (kind_among F.known (identifier l.text)) h)

    above_same : (lo : Option (List ℕ)) (r : Rec) → above F lo r ≡ above G lo r
    unfolding above
    above_same none r = refl
    above_same (some k) r = rw (key_of_lem r)

    next_same : (n : ℕ) (lo : Option (List ℕ)) (o : Option Rec) (f g : Rec → Held) → ((r : Rec) → f r ≡ g r) → on_held F n lo o f ≡ on_held G n lo o g
    unfolding on_held
    next_same n lo none f g h = refl
    next_same n lo (some r) f g h = rw (above_same lo r, h r)

    scan_same : (n : ℕ) (lo : Option (List ℕ)) (ls : List Line) → T (all ascii_line ls) → scan F n lo ls ≡ scan G n lo ls
    unfolding scan
    scan_same n lo [] h = refl
    scan_same n lo (l ∷ ls) h =
        rw (held_same n l (and_l (ascii_line l) (all ascii_line ls) h))
        (next_same n lo (held_line G n l) (λ r. scan F (suc n) (some (key_of F r)) ls) (λ r. scan G (suc n) (some (key_of G r)) ls)
        (λ r. scan_same (suc n) (some (key_of F r)) ls (and_r (ascii_line l) (all ascii_line ls) h) ∙ ap (λ k. scan G (suc n) (some k) ls) (key_of_lem r)))

    -- a holding of ASCII holds the same
    pub holding_same : (b : List ℕ) → T (ascii b) → read_holding F b ≡ read_holding G b
    unfolding read_holding
    holding_same b h = rw (scan_same 1 none (lines_of b) (lines_ascii b h)) (on_scan_same (scan G 1 none (lines_of b)))

    -- ---- what hangs on both

    -- every test but that of the undo answers the same, and the new holding is the same
    pub tried_same : (room : ℕ) (old b : List ℕ) → T (ascii old) → T (ascii b) → tried F room old b ≡ tried G room old b
    unfolding tried
    tried_same room old b o h = rw (holding_same old o) (go (read_holding G old))
      where
        go : (x : Held) → on_holding F room b x ≡ on_holding G room b x
        go (unsound n) = unfold on_holding in refl
        go (sound st) = unfold on_holding in rw (file_same b h) (start_same room st (read_file G b))

    -- the undo is the same bytes
    pub undo_same : (old b : List ℕ) → T (ascii old) → T (ascii b) → undo_bytes F old b ≡ undo_bytes G old b
    unfolding undo_bytes
    undo_same old b o h = rw (holding_same old o) (go (read_holding G old))
      where
        go : (x : Held) → undo_held F b x ≡ undo_held G b x
        go (unsound n) = unfold undo_held in refl
        go (sound st) = unfold undo_held in rw (file_same b h) (sheet_same st (read_file G b))

    -- a line is found in the same place
    pub find_same : (old : List ℕ) (kind n : ℕ) → T (ascii old) → find F old kind n ≡ find G old kind n
    unfolding find
    find_same old kind n o = go (numbered_among F.enquiries kind)
      where
        go : (x : Option Kind) → find_kind F old n x ≡ find_kind G old n x
        go none = unfold find_kind in refl
        go (some k) = unfold find_kind in rw (holding_same old o) (find_in_same old _ (read_holding G old))

    force_held_same : (old b q : List ℕ) (x : Held) → T (ascii b) → in_force_held F old b q x ≡ in_force_held G old b q x
    unfolding in_force_held
    force_held_same old b q (unsound n) h = refl
    force_held_same old b q (sound st) h = rw (file_same b h) (force_file_same old b q st (read_file G b))

    -- and so is the record in force
    pub force_same : (old b : List ℕ) (kind n : ℕ) → T (ascii old) → T (ascii b) → in_force F old b kind n ≡ in_force G old b kind n
    unfolding in_force
    force_same old b kind n o h = go (numbered_among F.enquiries kind)
      where
        go : (x : Option Kind) → in_force_kind F old b n x ≡ in_force_kind G old b n x
        go none = unfold in_force_kind in refl
        go (some k) = unfold in_force_kind in rw (holding_same old o) (force_held_same old b _ (read_holding G old) h)

    -- ---- the other operations, of which these are made

    pub check_file_same : (b : List ℕ) → T (ascii b) → check_file F b ≡ check_file G b
    unfolding check_file
    check_file_same b h = rw (file_same b h)

    pub check_holding_same : (old : List ℕ) → T (ascii old) → check_holding F old ≡ check_holding G old
    unfolding check_holding
    check_holding_same old o = rw (holding_same old o)

    pub load_file_same : (old b : List ℕ) (room undo_room : ℕ) → T (ascii old) → T (ascii b) → load_file F old b room undo_room ≡ load_file G old b room undo_room
    unfolding load_file load
    load_file_same old b room undo_room o h = rw (undo_same old b o h, tried_same room old b o h)

    pub print_same : (old b : Option (List ℕ)) → T (ascii (Option.get_or old [])) → T (ascii (Option.get_or b [])) → program F old b ≡ program G old b
    unfolding program load
    print_same old b o h = rw (undo_same (Option.get_or old []) (Option.get_or b []) o h, tried_same program_room (Option.get_or old []) (Option.get_or b []) o h)

-- ---- paper 01's format, as it was before and as it is

-- check a file
pub file_as_before : (b : List ℕ) → T (ascii b) → check_file before b ≡ check_file scottish b
file_as_before = check_file_same before by_characters scottish_ascii

-- check a holding
pub holding_as_before : (old : List ℕ) → T (ascii old) → check_holding before old ≡ check_holding scottish old
holding_as_before = check_holding_same before by_characters scottish_ascii

-- load a file: the numbers, and every byte of both buffers
pub load_as_before : (old b : List ℕ) (room undo_room : ℕ) → T (ascii old) → T (ascii b) → load_file before old b room undo_room ≡ load_file scottish old b room undo_room
load_as_before = load_file_same before by_characters scottish_ascii

-- find: the numbers, and where the line stands
pub find_as_before : (old : List ℕ) (kind n : ℕ) → T (ascii old) → find before old kind n ≡ find scottish old kind n
find_as_before = find_same before by_characters scottish_ascii

-- the record in force: the same
pub in_force_as_before : (old b : List ℕ) (kind n : ℕ) → T (ascii old) → T (ascii b) → in_force before old b kind n ≡ in_force scottish old b kind n
in_force_as_before = force_same before by_characters scottish_ascii

-- the program: every byte that it prints, and an input that can't be read has none that aren't ASCII
pub print_as_before : (old b : Option (List ℕ)) → T (ascii (Option.get_or old [])) → T (ascii (Option.get_or b [])) → program before old b ≡ program scottish old b
print_as_before = print_same before by_characters scottish_ascii
