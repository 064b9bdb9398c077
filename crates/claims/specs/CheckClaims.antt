-- What is promised of the two checks, of the numbers that they answer: when they answer 0, and why each other number.
use Rattle.std.specs.Prelude.{◌≡◌, ◌↔◌, not, List, ℕ, ◌-◌, ◌≤◌, ◌<◌, T, length}
use Rattle.std.proofs.Common.{sym, ap, ◌∙◌, subst, arith}
use Rattle.std.proofs.Math.Option.{some}
use Rattle.theory.specs.Step.{ins, upd, del, Change}
use Rattle.theory.specs.Answer.{count}
use Rattle.meaning.specs.Lines.{identifier}
use Rattle.meaning.specs.Kinds.{Kind, trailer_line, role}
use Rattle.meaning.specs.Format.{kind_of, field_number, record_count, end_date}
use Rattle.meaning.specs.Table.{scottish}
use Rattle.meaning.specs.Sound.{sound_field}
use Rattle.meaning.specs.Records.{Rec}
use Rattle.meaning.specs.File.{Frame}
use Rattle.meaning.specs.Load.{check_file, check_holding}
use Rattle.laws.specs.SoundFile.{SoundFile}
use Rattle.laws.specs.Rows.{given, check_rows, holding_rows}
use Rattle.laws.proofs.Rows.{pointed_none}
use Rattle.laws.specs.Checks.{SomeFile, SomeHolding}
use Rattle.laws.proofs.Checks.{file_checked, checked_file, holding_checked, checked_holding}
use Rattle.laws.specs.StepFails.{no_true}
use Rattle.laws.specs.WhyLoad.{Located, Unsound}
use Rattle.laws.proofs.WhyLoad.{check_14}
use Rattle.laws.specs.WhyFile.{line_at, FileFails, check_why, why_check, five_field, six_field, eight_line, nine_line}
use Rattle.laws.specs.WhyField.{field_bytes}
use Rattle.laws.specs.Placed.{Placed}
use Rattle.laws.specs.Scottish.{scottish_regular}
use Rattle.laws.specs.ScottishPlaces.{row_at, scottish_placed, scottish_only}
use Rattle.answers.specs.Meant.{answer_of}
use Rattle.answers.specs.declared.numbers.Answer.{Answer}
use Rattle.answers.specs.Meant.{verdict_of}
use Rattle.answers.specs.declared.numbers.Verdict.{Verdict}
use Rattle.meaning.specs.Codes.{field_malformed, end_before_start, record_count_wrong, too_many_body_lines, holding_unsound}
use Rattle.claims.specs.Demand1.{InTable, check_refused, check_file_numbers, check_holding_numbers}
use Rattle.claims.specs.AsBefore.{FileAsBefore, file_before, HoldingAsBefore, holding_before}

-- ---- a file

-- what 5 says of the field of the file that it names, and of the place
pub record FiveClaims (file : List ℕ) (line field place : ℕ) : Type 0 where
  -- the line's kind
  pub kind : Kind
  pub known : kind_of scottish (identifier (line_at file line).text) ≡ some kind
  -- the field is one that the kind has
  pub from1 : 1 ≤ field
  pub at_most : field ≤ length (scottish.fields kind)
  -- and it isn't sound, as its row has it
  pub unsound : T (not (sound_field scottish (row_at kind (field - 1)) (field_bytes file line field)))
  -- paper 02, request 01: the place is the field's, and so at most one past its end
  pub placed : Placed (sound_field scottish (row_at kind (field - 1))) (field_bytes file line field) place
  -- and no other number is
  pub only : (p : ℕ) → Placed (sound_field scottish (row_at kind (field - 1))) (field_bytes file line field) p → p ≡ place

-- what check_file answers to a file
pub record FileClaims (file : List ℕ) (r : Answer) : Type 0 where
  -- the definition's numbers, and so one outcome only
  pub outcome : r ≡ answer_of (check_file scottish file)
  -- demand 1: a row of paper 01's table, and a place beside 5 alone
  pub tabled : InTable (check_rows scottish file) file r
  -- 0 exactly if the file is sound, line by line
  pub done : (r.code ≡ 0) ↔ SomeFile scottish file
  -- then its body lines are counted
  pub counted : (fr : Frame) (cs : List (Change Rec)) → SoundFile scottish file fr cs → (r.inserts ≡ count ins cs) × (r.updates ≡ count upd cs) × (r.deletes ≡ count del cs)
  -- else nothing is
  pub uncounted : (r.code ≡ 0 → ⊥) → (r.inserts ≡ 0) × (r.updates ≡ 0) × (r.deletes ≡ 0)
  -- a refusal names the first line that fails a test, or the line after the last, and the first test that it fails
  pub why : (r.code ≡ 0 → ⊥) → FileFails scottish file r.code r.line r.field r.place
  -- and a file that fails there is refused so
  pub exactly : (c l f p : ℕ) → FileFails scottish file c l f p → Located r.code r.line r.field r.place c l f p
  -- 5 names a malformed field that the line's kind has, and the place in it
  pub five : r.code ≡ field_malformed → FiveClaims file r.line r.field r.place
  -- 6 names that kind's END_DATE
  pub six : r.code ≡ end_before_start → (k : Kind) × (kind_of scottish (identifier (line_at file r.line).text) ≡ some k) × (r.field ≡ field_number 1 end_date (scottish.fields k))
  -- 8 is a trailer's, and names its RECORD_COUNT
  pub eight : r.code ≡ record_count_wrong → (k : Kind) × (kind_of scottish (identifier (line_at file r.line).text) ≡ some k) × (role k ≡ trailer_line) × (r.field ≡ field_number 1 record_count (scottish.fields k))
  -- 9 stands on line 4,098 only
  pub nine : r.code ≡ too_many_body_lines → r.line ≡ 4098
  -- any number but 5 has no place
  pub unplaced : (r.code ≡ field_malformed → ⊥) → r.place ≡ 0
  -- paper 02, request 02: of ASCII alone, the answer is what it was before, with bytes counted
  pub as_before : FileAsBefore file r

module _ (file : List ℕ) (r : Answer) (o : r ≡ answer_of (check_file scottish file)) where
  refused_there : (r.code ≡ 0 → ⊥) → FileFails scottish file r.code r.line r.field r.place
  refused_there n = rw o (check_why scottish file (λ e. n (ap (λ x. x.code) o ∙ e)))

  refused_with_lem : (c : ℕ) → r.code ≡ c → (c ≡ 0 → ⊥) → FileFails scottish file c r.line r.field r.place
  refused_with_lem c e n = subst (λ c. FileFails scottish file c r.line r.field r.place) e (refused_there (λ z. n (sym e ∙ z)))

  five_claims : r.code ≡ field_malformed → FiveClaims file r.line r.field r.place
  five_claims e =
      let w = five_field scottish file r.line r.field r.place (refused_with_lem field_malformed e (λ z. omega (arith, z))) in
      let i : r.field - 1 < length (scottish.fields w.0) = omega (arith, w.2, w.3) in
      let b = field_bytes file r.line r.field in
      record {
        kind = w.0;
        known = w.1;
        from1 = w.2;
        at_most = w.3;
        unsound = rw (no_true (sound_field scottish (row_at w.0 (r.field - 1)) b) w.4.0) tt;
        placed = subst (Placed (sound_field scottish (row_at w.0 (r.field - 1))) b) (sym w.4.1) (scottish_placed w.0 (r.field - 1) i b);
        only = λ p a. scottish_only w.0 (r.field - 1) i b p a ∙ sym w.4.1;
      }

  -- every answer of check_file is so
  pub file_claims : FileClaims file r
  file_claims = record {
    outcome = o;
    tabled = check_file_numbers file r o;
    done = (
      λ e. checked_file scottish scottish_regular file (sym (ap (λ x. x.code) o) ∙ e),
      λ s. ap (λ x. x.code) o ∙ ap (λ x. x.code) (file_checked scottish file s.frame s.changes s.sounds),
    );
    counted = λ fr cs s. let e = o ∙ ap answer_of (file_checked scottish file fr cs s) in (ap (λ x. x.inserts) e, ap (λ x. x.updates) e, ap (λ x. x.deletes) e);
    uncounted = check_refused file r o;
    why = refused_there;
    exactly = λ c l f p w. rw o (why_check scottish file c l f p w);
    five = five_claims;
    six = λ e. six_field scottish file r.line r.field r.place (refused_with_lem end_before_start e (λ z. omega (arith, z)));
    eight = λ e. eight_line scottish file r.line r.field r.place (refused_with_lem record_count_wrong e (λ z. omega (arith, z)));
    nine = λ e. nine_line scottish file r.line r.field r.place (refused_with_lem too_many_body_lines e (λ z. omega (arith, z)));
    unplaced = pointed_none r.code r.place (check_file_numbers file r o).place;
    as_before = file_before file r o;
  }

-- ---- a holding

-- what check_holding answers to a holding
pub record HoldingClaims (old : List ℕ) (v : Verdict) : Type 0 where
  -- the definition's numbers, and so one outcome only
  pub outcome : v ≡ verdict_of (check_holding scottish old)
  -- a row of paper 01's table
  pub tabled : T (given (holding_rows old) v.code v.line v.field)
  -- 0 exactly if the holding is sound, line by line
  pub done : (v.code ≡ 0) ↔ SomeHolding scottish old
  -- 14 exactly if it isn't
  pub unsound : (v.code ≡ holding_unsound) ↔ Unsound scottish old
  -- paper 02, request 02: of ASCII alone, the answer is what it was before, with bytes counted
  pub as_before : HoldingAsBefore old v

-- every answer of check_holding is so
pub holding_claims : (old : List ℕ) (v : Verdict) → v ≡ verdict_of (check_holding scottish old) → HoldingClaims old v
holding_claims old v o = record {
  outcome = o;
  tabled = check_holding_numbers old v o;
  done = (
    λ e. checked_holding scottish scottish_regular old (sym (ap (λ x. x.code) o) ∙ e),
    λ s. ap (λ x. x.code) o ∙ ap (λ x. x.code) (holding_checked scottish scottish_regular old s.state s.sounds),
  );
  unsound = rw o (check_14 scottish scottish_regular old);
  as_before = holding_before old v o;
}
