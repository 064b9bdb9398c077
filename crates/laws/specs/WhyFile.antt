-- Why a file is refused: its lowest faulty line fails a test at its stage, or the file ends before its trailer; and it is refused just so.
use Rattle.std.specs.Prelude.{◌≡◌, T, get_or}
use Rattle.std.proofs.Math.Path.{refl, subst}
use Rattle.std.proofs.Common.{sym, ap, ◌∙◌, zero-add, ltb→lt, lt→ltb}
use Rattle.std.proofs.Math.Option.{Option, none, some}
use mathlib.Core.List.{List, [], ◌∷◌, ◌++◌}
use Prim.Native.Nat.{ℕ, suc, ◌+◌, ◌-◌, ◌≤◌}
use Rattle.std.proofs.Math.Nat.{add-zero}
use native.Mathlib.Omega.{arith}
use Rattle.std.proofs.Math.ListN.{length}
use Rattle.std.proofs.Math.Decide.{dec_le}
use Rattle.base.specs.Tests.{some≢none}
use Rattle.theory.specs.Answer.{fault, file}
use Rattle.meaning.specs.Lines.{Line, lines_of, fields_of, identifier}
use Rattle.meaning.specs.Kinds.{Kind, Role, header_line, body_line, metadata_line, trailer_line, role}
use Rattle.meaning.specs.Format.{Format, kind_of, field_number, record_count, end_date}
use Rattle.meaning.specs.File.{Stage, next, has_room, Judged, bad, good, judge_line, Sheet, adds, body_after, at_start, in_body, after_metadata, after_trailer, at_end, on_line, read_from, read_file, most_body}
use Rattle.meaning.specs.Load.{checked, check_file}
use Rattle.meaning.specs.Answers.{Read, of_line, at_line, Fault}
use Rattle.laws.specs.FileRefusals.{among}
use Rattle.laws.specs.LinePart.{no_line}
use Rattle.laws.specs.Judgement.{Judges, JudgedIs, judged, line_sound}
use Rattle.laws.specs.WhyLoad.{Located}
use Rattle.laws.specs.LineFails.{Malformed, LineFails, ending, unknown, misplaced, too_many, miscounted, malformed, misdated, misnumbered, mistold, JudgedFails, judge_fails, fails_judged, lowest_within}
use Rattle.meaning.specs.Codes.{out_of_place, field_malformed, end_before_start, record_count_wrong, too_many_body_lines}

-- ---- the stage after the trailer

abbrev IsLast : Stage → Type 0
IsLast at_start = ⊥
IsLast in_body = ⊥
IsLast after_metadata = ⊥
IsLast after_trailer = Unit {0}

-- so many lines, n of them body lines, stand before a stage
abbrev Behind : Stage → ℕ → ℕ → Type 0
Behind at_start n i = (i ≡ 0) × (n ≡ 0)
Behind in_body n i = (i ≡ 1 + n) × (n ≤ most_body)
Behind after_metadata n i = (i ≡ 2 + n) × (n ≤ most_body)
Behind after_trailer n i = (i ≡ 3 + n) × (n ≤ most_body)

-- the same after one line more, where it may stand
abbrev NextBehind : Role → ℕ → ℕ → Option Stage → Type 0
NextBehind o n i none = Unit {0}
NextBehind o n i (some q) = Behind q (body_after o n) (suc i)

next_behind : (p : Stage) (o : Role) (n i : ℕ) → T (has_room o n) → Behind p n i → NextBehind o n i (next p o)
unfolding next body_after has_room
next_behind at_start header_line n i r b = (omega (arith, b.0, b.1), omega (arith, b.1))
next_behind at_start body_line n i r b = tt
next_behind at_start metadata_line n i r b = tt
next_behind at_start trailer_line n i r b = tt
next_behind in_body header_line n i r b = tt
next_behind in_body body_line n i r b = (omega (arith, b.0), omega (arith, ltb→lt n most_body r))
next_behind in_body metadata_line n i r b = (omega (arith, b.0), b.1)
next_behind in_body trailer_line n i r b = tt
next_behind after_metadata header_line n i r b = tt
next_behind after_metadata body_line n i r b = tt
next_behind after_metadata metadata_line n i r b = tt
next_behind after_metadata trailer_line n i r b = (omega (arith, b.0), b.1)
next_behind after_trailer header_line n i r b = tt
next_behind after_trailer body_line n i r b = tt
next_behind after_trailer metadata_line n i r b = tt
next_behind after_trailer trailer_line n i r b = tt

-- a body line without room is the one after the most that a file may have, and stands two lines further on
no_room_lem : (p : Stage) (o : Role) (q : Stage) (n i : ℕ) → next p o ≡ some q → (T (has_room o n) → ⊥) → Behind p n i → suc i ≡ 2 + most_body
unfolding next has_room
no_room_lem p header_line q n i x r b = absurd (r tt)
no_room_lem p metadata_line q n i x r b = absurd (r tt)
no_room_lem p trailer_line q n i x r b = absurd (r tt)
no_room_lem at_start body_line q n i x r b = absurd (some≢none (sym x))
no_room_lem in_body body_line q n i x r b = go (dec_le most_body n)
  where
    go : Dec (most_body ≤ n) → suc i ≡ 2 + most_body
    go (yes h) = omega (arith, b.0, b.1, h)
    go (no h) = absurd (r (lt→ltb n most_body (omega arith)))
no_room_lem after_metadata body_line q n i x r b = absurd (some≢none (sym x))
no_room_lem after_trailer body_line q n i x r b = absurd (some≢none (sym x))

at_append : (ls : List Line) (l : Line) (ms : List Line) → get_or (ls ++ (l ∷ ms)) (length ls) no_line ≡ l
at_append [] l ms = refl
at_append (x ∷ ls) l ms = at_append ls l ms

-- line number n of some bytes, counted from 1
abbrev pub line_at : List ℕ → ℕ → Line
line_at b n = get_or (lines_of b) (n - 1) no_line

module _ (F : Format) where
  open F use {fields}

  -- ---- where a file is refused

  -- each of the lines is accepted at its stage, from stage p after n body lines on, and they lead to stage q after m
  abbrev pub Leads : Stage → ℕ → List Line → Stage → ℕ → Type 0
  Leads p n [] q m = (p ≡ q) × (n ≡ m)
  Leads p n (l ∷ ls) q m = (k : Kind) × (r : Stage) × (judge_line F p n l ≡ good k r) × Leads r (body_after (role k) n) ls q m

  -- the lines before one are accepted and lead to its stage, where it fails a test with that code, field and place; the first line is number i
  pub record FaultyLine (i : ℕ) (p : Stage) (n : ℕ) (ls : List Line) (code line field place : ℕ) : Type 0 where
    pub before : List Line
    pub here : Line
    pub rest : List Line
    pub whole : ls ≡ before ++ (here ∷ rest)
    pub own : line ≡ i + length before
    pub stage : Stage
    pub body : ℕ
    pub leads : Leads p n before stage body
    pub fails : LineFails F stage body here code field place

  -- why lines are refused: at a faulty line, or with 3 at the line after the last, where they end before the trailer
  pub data Refused (i : ℕ) (p : Stage) (n : ℕ) (ls : List Line) (code line field place : ℕ) : Type 0 where
    fault_at : FaultyLine i p n ls code line field place → Refused i p n ls code line field place
    at_its_end : (q : Stage) (m : ℕ) → Leads p n ls q m → (q ≡ after_trailer → ⊥) → Located code line field place out_of_place (i + length ls) 0 0 → Refused i p n ls code line field place

  -- the same of a file
  abbrev pub FileFails : List ℕ → ℕ → ℕ → ℕ → ℕ → Type 0
  FileFails b = Refused 1 at_start 0 (lines_of b)

  -- ---- a file that is refused is refused so

  abbrev pub ReadFails : ℕ → Stage → ℕ → List Line → Read Sheet → Type 0
  ReadFails i p n ls (fault r) = Refused i p n ls r.code r.line r.field r.place
  ReadFails i p n ls (file s) = Unit {0}

  refused_more : (i : ℕ) (p : Stage) (n : ℕ) (x : Line) (ls : List Line) (k : Kind) (q : Stage) (c l f place : ℕ) → judge_line F p n x ≡ good k q
      → Refused (suc i) q (body_after (role k) n) ls c l f place → Refused i p n (x ∷ ls) c l f place
  refused_more i p n x ls k q c l f place e (fault_at w) =
      fault_at (record {
        before = x ∷ w.before;
        here = w.here;
        rest = w.rest;
        whole = ap (λ y. x ∷ y) w.whole;
        own = omega (arith, w.own);
        stage = w.stage;
        body = w.body;
        leads = (k, q, e, w.leads);
        fails = w.fails;
      })
  refused_more i p n x ls k q c l f place e (at_its_end r m w u d) = at_its_end r m (k, q, e, w) u ((d.0.0, omega (arith, d.0.1), d.0.2), d.1)

  adds_fails : (i : ℕ) (p : Stage) (n : ℕ) (x : Line) (ls : List Line) (k : Kind) (q : Stage) → judge_line F p n x ≡ good k q
      → (r : Read Sheet) → ReadFails (suc i) q (body_after (role k) n) ls r → ReadFails i p n (x ∷ ls) (adds (role k) k x.text r)
  unfolding adds
  adds_fails i p n x ls k q e (fault r) w = refused_more i p n x ls k q r.code r.line r.field r.place e w
  adds_fails i p n x ls k q e (file s) w = tt

  line_fails : (i : ℕ) (p : Stage) (n : ℕ) (x : Line) (ls : List Line) (go : Kind → Stage → Read Sheet) → ((k : Kind) (q : Stage) → ReadFails (suc i) q (body_after (role k) n) ls (go k q))
      → (j : Judged) → judge_line F p n x ≡ j → JudgedFails F p n x j → ReadFails i p n (x ∷ ls) (on_line i x.text j go)
  unfolding on_line
  line_fails i p n x ls go w (bad f) e d =
      fault_at (record { before = []; here = x; rest = ls; whole = refl; own = omega arith; stage = p; body = n; leads = (refl, refl); fails = d })
  line_fails i p n x ls go w (good k q) e d = adds_fails i p n x ls k q e (go k q) (w k q)

  pub read_fails : (i : ℕ) (p : Stage) (n : ℕ) (ls : List Line) → ReadFails i p n ls (read_from F i p n ls)
  unfolding read_from at_end
  read_fails i at_start n [] = at_its_end at_start n (refl, refl) (λ e. subst IsLast (sym e) tt) ((refl, omega arith, refl), refl)
  read_fails i in_body n [] = at_its_end in_body n (refl, refl) (λ e. subst IsLast (sym e) tt) ((refl, omega arith, refl), refl)
  read_fails i after_metadata n [] = at_its_end after_metadata n (refl, refl) (λ e. subst IsLast (sym e) tt) ((refl, omega arith, refl), refl)
  read_fails i after_trailer n [] = tt
  read_fails i p n (l ∷ ls) =
      line_fails i p n l ls (λ k q. read_from F (suc i) q (body_after (role k) n) ls) (λ k q. read_fails (suc i) q (body_after (role k) n) ls)
      (judge_line F p n l) refl (judge_fails F p n l)

  -- a file that gets another number than 0 has its fault there
  pub check_why : (b : List ℕ) → ((check_file F b).code ≡ 0 → ⊥) → FileFails b (check_file F b).code (check_file F b).line (check_file F b).field (check_file F b).place
  unfolding check_file checked read_file
  check_why b n = go (read_from F 1 at_start 0 (lines_of b)) (read_fails 1 at_start 0 (lines_of b)) n
    where
      go : (r : Read Sheet) → ReadFails 1 at_start 0 (lines_of b) r → ((checked r).code ≡ 0 → ⊥) → FileFails b (checked r).code (checked r).line (checked r).field (checked r).place
      go (fault r) w n = w
      go (file s) w n = absurd (n refl)

  -- ---- and a file with such a fault gets its numbers

  at_fault : (i : ℕ) (p : Stage) (n : ℕ) (before : List Line) (here : Line) (rest : List Line) (q : Stage) (m c f place : ℕ) → Leads p n before q m → LineFails F q m here c f place
      → (x : Fault) × (read_from F i p n (before ++ (here ∷ rest)) ≡ fault (at_line (i + length before) x)) × (x.code ≡ c) × (x.field ≡ f) × (x.place ≡ place)
  unfolding read_from on_line adds
  at_fault i p n [] here rest q m c f place w d =
      let a = fails_judged F q m here c f place d in
      (a.0, rw (w.0, w.1, a.1, add-zero i), a.2, a.3, a.4)
  at_fault i p n (x ∷ before) here rest q m c f place w d =
      let e : suc i + length before ≡ i + length (x ∷ before) = omega arith in
      let a = at_fault (suc i) w.1 (body_after (role w.0) n) before here rest q m c f place w.3 d in
      (a.0, rw (w.2, a.1, e), a.2, a.3, a.4)

  at_the_end : (i : ℕ) (p : Stage) (n : ℕ) (ls : List Line) (q : Stage) (m : ℕ) → Leads p n ls q m → (q ≡ after_trailer → ⊥) → read_from F i p n ls ≡ fault (at_line (i + length ls) (of_line out_of_place))
  unfolding read_from on_line adds at_end
  at_the_end i p n [] q m w u = rw (w.0, add-zero i) (go q u)
    where
      go : (q : Stage) → (q ≡ after_trailer → ⊥) → at_end i q ≡ fault (at_line i (of_line out_of_place))
      go at_start u = refl
      go in_body u = refl
      go after_metadata u = refl
      go after_trailer u = absurd (u refl)
  at_the_end i p n (x ∷ ls) q m w u =
      let e : suc i + length ls ≡ i + length (x ∷ ls) = omega arith in
      rw (w.2, at_the_end (suc i) w.1 (body_after (role w.0) n) ls q m w.3 u, e)

  -- the numbers of a file with such a fault are the fault's
  pub why_check : (b : List ℕ) (c l f p : ℕ) → FileFails b c l f p → Located (check_file F b).code (check_file F b).line (check_file F b).field (check_file F b).place c l f p
  unfolding check_file checked read_file
  why_check b c l f p (fault_at w) =
      let a = at_fault 1 at_start 0 w.before w.here w.rest w.stage w.body c f p w.leads w.fails in
      rw (w.whole, a.1, w.own) ((a.2, refl, a.3), a.4)
  why_check b c l f p (at_its_end q m w u d) = rw (at_the_end 1 at_start 0 (lines_of b) q m w u, d.0.0, d.0.1, d.0.2, d.1) ((refl, refl, refl), refl)

  -- ---- lines and fields by the code

  leads_behind : (p : Stage) (n : ℕ) (ls : List Line) (q : Stage) (m i : ℕ) → Leads p n ls q m → Behind p n i → Behind q m (i + length ls)
  leads_behind p n [] q m i w b = rw (add-zero i, ← w.0, ← w.1) b
  leads_behind p n (l ∷ ls) q m i w b =
      let e : suc i + length ls ≡ i + length (l ∷ ls) = omega arith in
      let k = w.0 in
      let j : Judges F p n l k w.1 = subst (JudgedIs F p n l) w.2 (judged F p n l) in
      let s = subst (NextBehind (role k) n i) j.place (next_behind p (role k) n i (line_sound F p n l k w.1 j).2.room b) in
      rw (← e) (leads_behind w.1 (body_after (role k) n) ls q m (suc i) w.3 s)

  -- what the code of a faulty line says of it, with i lines before it
  record Says (i : ℕ) (l : Line) (code field place : ℕ) : Type 0 where
    five : code ≡ field_malformed → (k : Kind) × (kind_of F (identifier l.text) ≡ some k) × (1 ≤ field) × (field ≤ length (fields k)) × Malformed F (fields k) (fields_of l.text) (field - 1) place
    six : code ≡ end_before_start → (k : Kind) × (kind_of F (identifier l.text) ≡ some k) × (field ≡ field_number 1 end_date (fields k))
    eight : code ≡ record_count_wrong → (k : Kind) × (kind_of F (identifier l.text) ≡ some k) × (role k ≡ trailer_line) × (field ≡ field_number 1 record_count (fields k))
    nine : code ≡ too_many_body_lines → suc i ≡ 2 + most_body

  -- the code is another
  other : (i : ℕ) (l : Line) (code field place w : ℕ) → code ≡ w → T (among w (1 ∷ 2 ∷ 3 ∷ 4 ∷ 7 ∷ [])) → Says i l code field place
  unfolding among
  other i l code field place w e t = record {
    five = λ z. absurd (rw (sym e ∙ z) at t);
    six = λ z. absurd (rw (sym e ∙ z) at t);
    eight = λ z. absurd (rw (sym e ∙ z) at t);
    nine = λ z. absurd (rw (sym e ∙ z) at t);
  }

  fails_say : (p : Stage) (n i : ℕ) (l : Line) (code field place : ℕ) → Behind p n i → LineFails F p n l code field place → Says i l code field place
  unfolding among
  fails_say p n i l code field place b (ending w c f o) = other i l code field place 1 c tt
  fails_say p n i l code field place b (unknown w k c f o) = other i l code field place 2 c tt
  fails_say p n i l code field place b (misplaced k w x y c f o) = other i l code field place 3 c tt
  fails_say p n i l code field place b (miscounted k s r h c f o) = other i l code field place 4 c tt
  fails_say p n i l code field place b (misnumbered k s w r d c f o) = other i l code field place 7 c tt
  fails_say p n i l code field place b (too_many k s r c f o) = record {
    five = λ z. absurd (omega (arith, c, z));
    six = λ z. absurd (omega (arith, c, z));
    eight = λ z. absurd (omega (arith, c, z));
    nine = λ z. no_room_lem p (role k) s.after n i s.may r b;
  }
  fails_say p n i l code field place b (malformed k s r h w c) = record {
    five = λ z. let v = lowest_within F 1 (fields k) _ field place w in (k, s.kind, v.0, omega (arith, v.1), v.2);
    six = λ z. absurd (omega (arith, c, z));
    eight = λ z. absurd (omega (arith, c, z));
    nine = λ z. absurd (omega (arith, c, z));
  }
  fails_say p n i l code field place b (misdated k s r h w d c f o) = record {
    five = λ z. absurd (omega (arith, c, z));
    six = λ z. (k, s.kind, f);
    eight = λ z. absurd (omega (arith, c, z));
    nine = λ z. absurd (omega (arith, c, z));
  }
  fails_say p n i l code field place b (mistold k s w r d c f o) = record {
    five = λ z. absurd (omega (arith, c, z));
    six = λ z. absurd (omega (arith, c, z));
    eight = λ z. (k, s.kind, r, f);
    nine = λ z. absurd (omega (arith, c, z));
  }

  file_says : (b : List ℕ) (c l f p : ℕ) → FileFails b c l f p → (c ≡ out_of_place → ⊥) → Says (l - 1) (line_at b l) c f p
  file_says b c l f p (at_its_end q m w u d) n = absurd (n d.0.0)
  file_says b c l f p (fault_at w) n =
      let e : l - 1 ≡ length w.before = omega (arith, w.own) in
      let h : line_at b l ≡ w.here = ap (λ i. get_or (lines_of b) i no_line) e ∙ ap (λ ls. get_or ls (length w.before) no_line) w.whole ∙ at_append w.before w.here w.rest in
      let s = leads_behind at_start 0 w.before w.stage w.body 0 w.leads (refl, refl) in
      rw (h, e) (fails_say w.stage w.body (length w.before) w.here c f p (rw (zero-add (length w.before)) at s) w.fails)

  -- 5 names a field that the line's kind has, and the place at which it is malformed
  pub five_field : (b : List ℕ) (l f p : ℕ) → FileFails b field_malformed l f p
      → (k : Kind) × (kind_of F (identifier (line_at b l).text) ≡ some k) × (1 ≤ f) × (f ≤ length (fields k)) × Malformed F (fields k) (fields_of (line_at b l).text) (f - 1) p
  five_field b l f p w = (file_says b field_malformed l f p w (λ z. omega (arith, z))).five refl

  -- 6 names that kind's END_DATE
  pub six_field : (b : List ℕ) (l f p : ℕ) → FileFails b end_before_start l f p → (k : Kind) × (kind_of F (identifier (line_at b l).text) ≡ some k) × (f ≡ field_number 1 end_date (fields k))
  six_field b l f p w = (file_says b end_before_start l f p w (λ z. omega (arith, z))).six refl

  -- 8 is given to a trailer, and names its RECORD_COUNT
  pub eight_line : (b : List ℕ) (l f p : ℕ) → FileFails b record_count_wrong l f p
      → (k : Kind) × (kind_of F (identifier (line_at b l).text) ≡ some k) × (role k ≡ trailer_line) × (f ≡ field_number 1 record_count (fields k))
  eight_line b l f p w = (file_says b record_count_wrong l f p w (λ z. omega (arith, z))).eight refl

  -- 9 stands on line 4,098 only
  pub nine_line : (b : List ℕ) (l f p : ℕ) → FileFails b too_many_body_lines l f p → l ≡ 4098
  nine_line b l f p w = let e = (file_says b too_many_body_lines l f p w (λ z. omega (arith, z))).nine refl in omega (arith, e)
