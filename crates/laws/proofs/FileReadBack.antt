-- Files, written and read back: a frame that suits its body, around changes to fine records, is read as written, and what is read is such a file.
use Rattle.std.specs.Prelude.{◌≡◌, ℕ, suc, ◌+◌, ◌≤◌, ◌<◌, leb}
use Rattle.std.proofs.Math.Path.{subst}
use Rattle.std.proofs.Math.Bool.{true}
use mathlib.Core.List.{List, [], ◌∷◌, ◌++◌}
use Rattle.std.proofs.Common.{arith}
use Rattle.std.proofs.Math.Dec.{T, le→leb, leb→le}
use Rattle.std.proofs.Math.ListN.{length}
use Rattle.base.specs.ListLaws.{all_append}
use Rattle.base.specs.Lists.{all}
use Rattle.base.specs.Tests.{and_in, and_l, and_r, bools}
use Rattle.theory.specs.Step.{Change}
use Rattle.theory.specs.Answer.{file}
use Rattle.theory.specs.ReadBack.{Files}
use Rattle.theory.specs.DecimalLaws.{value_dec}
use Rattle.meaning.specs.Lines.{plain}
use Rattle.meaning.specs.Kinds.{Kind, Role, header_line, metadata_line, trailer_line, role}
use Rattle.meaning.specs.Format.{Format, named}
use Rattle.meaning.specs.Answers.{Refusal}
use Rattle.meaning.specs.Records.{Rec, change_text, change_of, change_texts}
use Rattle.meaning.specs.File.{Stage, Judged, bad, good, judge_line, Frame, at_start, in_body, after_metadata, after_trailer, read_file, write_file, most_body}
use Rattle.laws.specs.Kinds.{role_refl, is_role_lem}
use Rattle.laws.specs.Regular.{Regular}
use Rattle.laws.specs.LinesAndFields.{ends, lines_in}
use Rattle.laws.specs.Body.{fine, fine_holds, fine_body, change_made, change_read, fine_line, line_fine}
use Rattle.laws.specs.HoldingReadBack.{plain_texts}
use Rattle.laws.specs.Judgement.{JudgedIs, judged, Numbers, line_sound, count_lines}
use Rattle.laws.specs.SoundFile.{RoleLine, SaysChange, SaysChanges, SoundFile}
use Rattle.laws.proofs.SoundFile.{header_accepted, metadata_accepted, trailer_accepted, sound_read, read_sound}
use Rattle.laws.specs.FileReadBack.{accepted, suits, fine_c}

module _ (F : Format) where
  -- ---- frames

  -- an accepted line is a sound line of its role, with the right numbers
  accepted_sound : (o : Role) (p : Stage) (n : ℕ) (t : List ℕ) → T (accepted o (judge_line F p n (ends t))) → (a : RoleLine F o t) × Numbers F o n a.kind t
  unfolding accepted
  accepted_sound o p n t a = go (judge_line F p n (ends t)) (judged F p n (ends t)) a
    where
      go : (j : Judged) → JudgedIs F p n (ends t) j → T (accepted o j) → (a : RoleLine F o t) × Numbers F o n a.kind t
      go (bad f) h a = absurd a
      go (good k q) h a =
          let s = line_sound F p n (ends t) k q h in
          let r = is_role_lem o (role k) a in
          (record { kind = k; roles = r; sounds = s.1 }, subst (λ o. Numbers F o n k t) r s.2)

  -- and a line that is judged good, with that role, is accepted
  good_accepted : (o : Role) (p : Stage) (n : ℕ) (t : List ℕ) (k : Kind) (q : Stage) → judge_line F p n (ends t) ≡ good k q → role k ≡ o → T (accepted o (judge_line F p n (ends t)))
  unfolding accepted
  good_accepted o p n t k q e r = rw (e, r) (role_refl o)

  module _ (regular : Regular F) where
    open regular use {opens}

    -- ---- what is written is read back

    -- the line of a change to a fine record, numbered n, says that change as body line n
    says_change : (n : ℕ) (c : Change Rec) → n < 10000 → T (fine_c F c) → SaysChange F n (change_text n c) c
    unfolding change_text named
    says_change n c h f =
        let k = c.rec.kind in
        let m = change_made n c in
        record {
          line = record { kind = k; roles = fine_body F c.rec f; sounds = fine_line F regular n c h f };
          numbered = rw (opens k (fine_holds F c.rec f), m.fields_m) (value_dec n);
          says = change_read n c;
        }

    says_changes : (n : ℕ) (cs : List (Change Rec)) → n + length cs ≤ 10000 → T (all (fine_c F) cs) → SaysChanges F n (change_texts n cs) cs
    unfolding change_texts
    says_changes n [] h f = tt
    says_changes n (c ∷ cs) h f =
        (says_change n c (omega arith) (and_l (fine_c F c) (all (fine_c F) cs) f), says_changes (suc n) cs (omega arith) (and_r (fine_c F c) (all (fine_c F) cs) f))

    -- a file that is written of them is sound
    written_sound : (fr : Frame) (cs : List (Change Rec)) → T (suits F fr (length cs)) → T (all (fine_c F) cs) → SoundFile F (write_file fr cs) fr cs
    unfolding write_file suits
    written_sound fr cs s f =
        let h = fr.header_text in
        let m = fr.metadata_text in
        let t = fr.trailer_text in
        let l : length cs ≤ most_body = leb→le (length cs) most_body (search bools) in
        let ah = accepted_sound header_line at_start 0 h (search bools) in
        let am = accepted_sound metadata_line in_body (length cs) m (search bools) in
        let bt = accepted_sound trailer_line after_metadata (length cs) t (search bools) in
        let ends2 : T (all (all plain) (m ∷ t ∷ [])) = and_in (all plain m) _ am.0.sounds.plains (and_in (all plain t) true bt.0.sounds.plains tt) in
        let body : T (all (all plain) (change_texts 1 cs ++ (m ∷ t ∷ []))) = all_append (all plain) (change_texts 1 cs) (m ∷ t ∷ []) (plain_texts F 1 cs f) ends2 in
        record {
          texts = change_texts 1 cs;
          lines = lines_in (h ∷ (change_texts 1 cs ++ (m ∷ t ∷ []))) (and_in (all plain h) _ ah.0.sounds.plains body);
          heading = ah.0;
          body = says_changes 1 cs (omega arith) f;
          few = l;
          describing = am.0;
          closing = record { line = bt.0; counts = count_lines F (length cs) bt.0.kind t bt.1.count };
        }

    -- what is written is read back
    pub file_reads : (fr : Frame) (cs : List (Change Rec)) → T (suits F fr (length cs)) → T (all (fine_c F) cs) → read_file F (write_file fr cs) ≡ file (fr, cs)
    file_reads fr cs s f = sound_read F (write_file fr cs) fr cs (written_sound fr cs s f)

    -- ---- what is read suits

    changes_fine : (n : ℕ) (ts : List (List ℕ)) (cs : List (Change Rec)) → SaysChanges F n ts cs → T (all (fine_c F) cs)
    unfolding change_of
    changes_fine n [] [] w = tt
    changes_fine n [] (c ∷ cs) w = absurd w
    changes_fine n (t ∷ ts) [] w = absurd w
    changes_fine n (t ∷ ts) (c ∷ cs) w =
        let a = w.0.line in
        and_in (fine_c F c) (all (fine_c F) cs) (subst (λ c. T (fine_c F c)) w.0.says (line_fine F regular a.kind t a.roles a.sounds)) (changes_fine (suc n) ts cs w.1)

    -- what is read is a frame that suits its body, around changes to fine records
    pub file_says : (b : List ℕ) (fr : Frame) (cs : List (Change Rec)) → read_file F b ≡ file (fr, cs) → T (suits F fr (length cs)) × T (all (fine_c F) cs)
    unfolding suits
    file_says b fr cs e =
        let s = read_sound F b fr cs e in
        let h = fr.header_text in
        let m = fr.metadata_text in
        let t = fr.trailer_text in
        let n = length cs in
        let l : T (leb n most_body) = le→leb n most_body s.few in
        let ah = good_accepted header_line at_start 0 h _ in_body (header_accepted F h s.heading) s.heading.roles in
        let am = good_accepted metadata_line in_body n m _ after_metadata (metadata_accepted F n m s.describing) s.describing.roles in
        let bt = good_accepted trailer_line after_metadata n t _ after_trailer (trailer_accepted F n t s.closing) s.closing.line.roles in
        let frame = and_in (accepted header_line (judge_line F at_start 0 (ends h))) _ ah (and_in (accepted metadata_line (judge_line F in_body n (ends m))) _ am bt) in
        (and_in (leb n most_body) _ l frame, changes_fine 1 s.texts cs s.body)

    -- files of this format, as the theory asks for them
    abbrev pub files : Files Refusal Rec (fine F)
    files = record { Frame = Frame; suits = suits F; read_file = read_file F; write_file = write_file; reads = file_reads; says = file_says }
