-- What a sound file is, line by line in paper 01's words and without running the check; and that the check finds exactly that.
use Rattle.std.specs.Prelude.{◌≡◌}
use Rattle.std.proofs.Math.Path.{refl, ap, ap₂, subst}
use Rattle.std.proofs.Common.{sym, ◌∙◌}
use Rattle.std.proofs.Math.Option.{some, some-injective}
use mathlib.Core.List.{List, [], ◌∷◌, ◌++◌}
use Prim.Native.Nat.{ℕ, suc, ◌+◌, ◌≤◌, ◌<◌}
use Rattle.std.proofs.Math.Nat.{add-zero, zero-add}
use native.Mathlib.Omega.{arith}
use Rattle.std.proofs.Math.Dec.{ltb→lt}
use Rattle.std.proofs.Math.ListN.{length}
use Rattle.base.specs.Tests.{some≢none}
use Rattle.theory.specs.Step.{Change}
use Rattle.theory.specs.Answer.{fault, file}
use Rattle.meaning.specs.Lines.{Line, lines_of}
use Rattle.meaning.specs.Kinds.{Kind, Role, header_line, body_line, metadata_line, trailer_line, role}
use Rattle.meaning.specs.Format.{Format}
use Rattle.meaning.specs.Records.{Rec, change_of}
use Rattle.meaning.specs.File.{Stage, next, has_room, count_fault, Judged, bad, good, judge_line, Frame, Sheet, adds, body_after, at_start, in_body, after_metadata, after_trailer, at_end, on_line, read_from, read_file, most_body, blank, add_line}
use Rattle.meaning.specs.Answers.{Read}
use Rattle.laws.specs.LinesAndFields.{ends, ends_all}
use Rattle.laws.specs.SoundLine.{SoundLine}
use Rattle.laws.specs.Judgement.{Judges, JudgedIs, judged, Numbers, line_sound, sound_line, count_order, count_lines, order_counts, lines_counts}
use Rattle.laws.specs.SoundFile.{RoleLine, SaysChange, SaysChanges, Counts, SoundFile, InBody}

-- the frame without its header
abbrev headless : List ℕ → List ℕ → Frame
headless m t = record { header_text = []; metadata_text = m; trailer_text = t }

module _ (F : Format) where
  open F use {fields}

  -- ---- the rules

  -- a change for each body line
  pub says_length : (n : ℕ) (ts : List (List ℕ)) (cs : List (Change Rec)) → SaysChanges F n ts cs → length ts ≡ length cs
  says_length n [] [] s = refl
  says_length n [] (c ∷ cs) s = absurd s
  says_length n (t ∷ ts) [] s = absurd s
  says_length n (t ∷ ts) (c ∷ cs) s = ap suc (says_length (suc n) ts cs s.1)

  -- ---- each such line is accepted in its place

  -- the header, at the start
  pub header_accepted : (t : List ℕ) (a : RoleLine F header_line t) → judge_line F at_start 0 (ends t) ≡ good a.kind in_body
  unfolding next has_room count_fault
  header_accepted t a = sound_line F at_start 0 t a.kind in_body header_line a.roles refl a.sounds (record { room = tt; count = refl })

  -- a body line that says a change, after n others, while there is room
  pub body_accepted : (n : ℕ) (t : List ℕ) (c : Change Rec) (a : SaysChange F (suc n) t c) → n < most_body → judge_line F in_body n (ends t) ≡ good a.line.kind in_body
  unfolding next
  body_accepted n t c a h =
      let l = a.line in
      sound_line F in_body n t l.kind in_body body_line l.roles refl l.sounds (order_counts F n l.kind t h a.numbered)

  -- metadata, after the body
  pub metadata_accepted : (n : ℕ) (t : List ℕ) (a : RoleLine F metadata_line t) → judge_line F in_body n (ends t) ≡ good a.kind after_metadata
  unfolding next has_room count_fault
  metadata_accepted n t a = sound_line F in_body n t a.kind after_metadata metadata_line a.roles refl a.sounds (record { room = tt; count = refl })

  -- a trailer that counts the body lines, after metadata
  pub trailer_accepted : (n : ℕ) (t : List ℕ) (a : Counts F n t) → judge_line F after_metadata n (ends t) ≡ good a.line.kind after_trailer
  unfolding next
  trailer_accepted n t a =
      let l = a.line in
      sound_line F after_metadata n t l.kind after_trailer trailer_line l.roles refl l.sounds (lines_counts F n l.kind t a.counts)

  -- ---- the check takes every sound file

  -- an accepted line in front of lines that are read
  read_line : (i : ℕ) (p : Stage) (n : ℕ) (l : Line) (ls : List Line) (k : Kind) (q : Stage) (o : Role) (s : Sheet) → judge_line F p n l ≡ good k q → role k ≡ o
      → read_from F (suc i) q (body_after o n) ls ≡ file s → read_from F i p n (l ∷ ls) ≡ file (add_line o k l.text s)
  unfolding read_from on_line adds
  read_line i p n l ls k q o s e r h = rw (e, r, h)

  body_taken : (i n : ℕ) (ts : List (List ℕ)) (cs : List (Change Rec)) (m t : List ℕ) → SaysChanges F (suc n) ts cs → n + length cs ≤ most_body
      → RoleLine F metadata_line m → Counts F (n + length cs) t → read_from F i in_body n (ends_all (ts ++ (m ∷ t ∷ []))) ≡ file (headless m t, cs)
  unfolding add_line body_after read_from at_end
  body_taken i n [] [] m t w l a at =
      let b : Counts F n t = subst (λ x. Counts F x t) (add-zero n) at in
      let last = read_line (suc i) after_metadata n (ends t) [] b.line.kind after_trailer trailer_line blank (trailer_accepted n t b) b.line.roles refl in
      read_line i in_body n (ends m) (ends t ∷ []) a.kind after_metadata metadata_line (headless [] t, []) (metadata_accepted n m a) a.roles last
  body_taken i n [] (c ∷ cs) m t w l a at = absurd w
  body_taken i n (x ∷ ts) [] m t w l a at = absurd w
  body_taken i n (x ∷ ts) (c ∷ cs) m t w l a at =
      let b = w.0.line in
      let e : n + length (c ∷ cs) ≡ suc n + length cs = omega arith in
      let j = body_accepted n x c w.0 (omega arith) in
      let rest = body_taken (suc i) (suc n) ts cs m t w.1 (omega arith) a (subst (λ z. Counts F z t) e at) in
      read_line i in_body n (ends x) (ends_all (ts ++ (m ∷ t ∷ []))) b.kind in_body body_line (headless m t, cs) j b.roles rest
      ∙ ap (λ z. file (headless m t, z ∷ cs)) w.0.says

  -- a sound file is read as what it says
  pub sound_read : (b : List ℕ) (fr : Frame) (cs : List (Change Rec)) → SoundFile F b fr cs → read_file F b ≡ file (fr, cs)
  unfolding read_file add_line body_after
  sound_read b fr cs s =
      let h = fr.header_text in
      let m = fr.metadata_text in
      let t = fr.trailer_text in
      let a = s.heading in
      let c : Counts F (0 + length cs) t = subst (λ x. Counts F x t) (sym (zero-add (length cs))) s.closing in
      let rest = body_taken 2 0 s.texts cs m t s.body (omega (arith, s.few)) s.describing c in
      ap (read_from F 1 at_start 0) s.lines
      ∙ read_line 1 at_start 0 (ends h) (ends_all (s.texts ++ (m ∷ t ∷ []))) a.kind in_body header_line (headless m t, cs) (header_accepted h a) a.roles rest

  -- ---- and nothing else

  -- the same from any place on
  abbrev ReadAt : Stage → ℕ → List Line → Sheet → Type 0
  ReadAt at_start n ls s = (rest : List Line) × (ls ≡ ends s.0.header_text ∷ rest) × RoleLine F header_line s.0.header_text × InBody F n rest s
  ReadAt in_body n ls s = InBody F n ls s
  ReadAt after_metadata n ls s = (ls ≡ ends s.0.trailer_text ∷ []) × Counts F n s.0.trailer_text × (s.1 ≡ [])
  ReadAt after_trailer n ls s = (ls ≡ []) × (s.1 ≡ [])

  -- the same of what is read, where that may be a fault
  abbrev ReadsAt : Stage → ℕ → List Line → Read Sheet → Type 0
  ReadsAt p n ls (fault r) = Unit {0}
  ReadsAt p n ls (file s) = ReadAt p n ls s

  -- a header in front changes nothing of what is said from the body on
  behind_header : (n : ℕ) (ls : List Line) (k : Kind) (t : List ℕ) (s : Sheet) → InBody F n ls s → InBody F n ls (add_line header_line k t s)
  unfolding add_line
  behind_header n ls k t s v = record { texts = v.texts; lines = v.lines; body = v.body; few = v.few; describing = v.describing; closing = v.closing }

  reads_file : (p q : Stage) (n : ℕ) (l : Line) (ls : List Line) (k : Kind) (o : Role) → n ≤ most_body → (l ≡ ends l.text) → SoundLine F k l.text
      → Numbers F o n k l.text → role k ≡ o → next p o ≡ some q → (s : Sheet) → ReadAt q (body_after o n) ls s → ReadAt p n (l ∷ ls) (add_line o k l.text s)
  unfolding next body_after add_line has_room
  reads_file at_start q n l ls k header_line h d sl nu r x s w =
      let v : InBody F n ls s = subst (λ q. ReadAt q n ls s) (sym (some-injective in_body q x)) w in
      (ls, ap (λ y. y ∷ ls) d, record { kind = k; roles = r; sounds = sl }, behind_header n ls k l.text s v)
  reads_file at_start q n l ls k body_line h d sl nu r x s w = absurd (some≢none (sym x))
  reads_file at_start q n l ls k metadata_line h d sl nu r x s w = absurd (some≢none (sym x))
  reads_file at_start q n l ls k trailer_line h d sl nu r x s w = absurd (some≢none (sym x))
  reads_file in_body q n l ls k header_line h d sl nu r x s w = absurd (some≢none (sym x))
  reads_file in_body q n l ls k body_line h d sl nu r x s w =
      let v : InBody F (suc n) ls s = subst (λ q. ReadAt q (suc n) ls s) (sym (some-injective in_body q x)) w in
      let g : suc n + length s.1 ≡ n + length (change_of k l.text ∷ s.1) = omega arith in
      let a : RoleLine F body_line l.text = record { kind = k; roles = r; sounds = sl } in
      record {
        texts = l.text ∷ v.texts;
        lines = ap₂ (λ y z. y ∷ z) d v.lines;
        body = (record { line = a; numbered = count_order F n k l.text nu.count; says = refl }, v.body);
        few = rw g at v.few;
        describing = v.describing;
        closing = subst (λ z. Counts F z s.0.trailer_text) g v.closing;
      }
  reads_file in_body q n l ls k metadata_line h d sl nu r x s w =
      let v : ReadAt after_metadata n ls s = subst (λ q. ReadAt q n ls s) (sym (some-injective after_metadata q x)) w in
      record {
        texts = [];
        lines = ap₂ (λ y z. y ∷ z) d v.0;
        body = rw v.2 tt;
        few = rw (v.2, add-zero n) h;
        describing = record { kind = k; roles = r; sounds = sl };
        closing = rw (v.2, add-zero n) v.1;
      }
  reads_file in_body q n l ls k trailer_line h d sl nu r x s w = absurd (some≢none (sym x))
  reads_file after_metadata q n l ls k header_line h d sl nu r x s w = absurd (some≢none (sym x))
  reads_file after_metadata q n l ls k body_line h d sl nu r x s w = absurd (some≢none (sym x))
  reads_file after_metadata q n l ls k metadata_line h d sl nu r x s w = absurd (some≢none (sym x))
  reads_file after_metadata q n l ls k trailer_line h d sl nu r x s w =
      let v : ReadAt after_trailer n ls s = subst (λ q. ReadAt q n ls s) (sym (some-injective after_trailer q x)) w in
      let a : RoleLine F trailer_line l.text = record { kind = k; roles = r; sounds = sl } in
      (ap₂ (λ y z. y ∷ z) d v.0, record { line = a; counts = count_lines F n k l.text nu.count }, v.1)
  reads_file after_trailer q n l ls k header_line h d sl nu r x s w = absurd (some≢none (sym x))
  reads_file after_trailer q n l ls k body_line h d sl nu r x s w = absurd (some≢none (sym x))
  reads_file after_trailer q n l ls k metadata_line h d sl nu r x s w = absurd (some≢none (sym x))
  reads_file after_trailer q n l ls k trailer_line h d sl nu r x s w = absurd (some≢none (sym x))

  -- the number of body lines stays within the limit
  few_after_lem : (o : Role) (n : ℕ) (k : Kind) (t : List ℕ) → n ≤ most_body → Numbers F o n k t → body_after o n ≤ most_body
  unfolding body_after has_room
  few_after_lem header_line n k t h nu = h
  few_after_lem body_line n k t h nu = ltb→lt n most_body nu.room
  few_after_lem metadata_line n k t h nu = h
  few_after_lem trailer_line n k t h nu = h

  reads_adds : (p q : Stage) (n : ℕ) (l : Line) (ls : List Line) (k : Kind) → n ≤ most_body → Judges F p n l k q
      → (s : Read Sheet) → ReadsAt q (body_after (role k) n) ls s → ReadsAt p n (l ∷ ls) (adds (role k) k l.text s)
  unfolding adds
  reads_adds p q n l ls k h j (fault r) w = tt
  reads_adds p q n l ls k h j (file s) w = let a = line_sound F p n l k q j in reads_file p q n l ls k (role k) h a.0 a.1 a.2 refl j.place s w

  reads_line : (i : ℕ) (p : Stage) (n : ℕ) (l : Line) (ls : List Line) (go : Kind → Stage → Read Sheet) → n ≤ most_body
      → ((k : Kind) (q : Stage) → Judges F p n l k q → ReadsAt q (body_after (role k) n) ls (go k q))
      → (j : Judged) → JudgedIs F p n l j → ReadsAt p n (l ∷ ls) (on_line i l.text j go)
  unfolding on_line
  reads_line i p n l ls go h w (bad f) e = tt
  reads_line i p n l ls go h w (good k q) e = reads_adds p q n l ls k h e (go k q) (w k q e)

  reads_from : (i : ℕ) (p : Stage) (n : ℕ) (ls : List Line) → n ≤ most_body → ReadsAt p n ls (read_from F i p n ls)
  unfolding read_from at_end
  reads_from i at_start n [] h = tt
  reads_from i in_body n [] h = tt
  reads_from i after_metadata n [] h = tt
  reads_from i after_trailer n [] h = (refl, refl)
  reads_from i p n (l ∷ ls) h =
      reads_line i p n l ls (λ k q. read_from F (suc i) q (body_after (role k) n) ls) h
      (λ k q j. reads_from (suc i) q (body_after (role k) n) ls (few_after_lem (role k) n k l.text h (line_sound F p n l k q j).2)) (judge_line F p n l) (judged F p n l)

  -- a file that is read is sound, and says what is read
  pub read_sound : (b : List ℕ) (fr : Frame) (cs : List (Change Rec)) → read_file F b ≡ file (fr, cs) → SoundFile F b fr cs
  unfolding read_file
  read_sound b fr cs e =
      let w : ReadsAt at_start 0 (lines_of b) (file (fr, cs)) = subst (ReadsAt at_start 0 (lines_of b)) e (reads_from 1 at_start 0 (lines_of b) (omega arith)) in
      let v = w.3 in
      let z : 0 + length cs ≡ length cs = zero-add (length cs) in
      record {
        texts = v.texts;
        lines = w.1 ∙ ap (λ y. ends fr.header_text ∷ y) v.lines;
        heading = w.2;
        body = v.body;
        few = rw z at v.few;
        describing = v.describing;
        closing = subst (λ y. Counts F y fr.trailer_text) z v.closing;
      }
