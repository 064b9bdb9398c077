-- What is promised of load, of the numbers that it answers and the bytes that it leaves: demands 1 and 2, why each number, and how much room is always enough.
use Rattle.std.specs.Prelude.{◌≡◌, refl, ◌↔◌, List, ℕ, ◌≤◌, ◌<◌, ◌+◌, ◌*◌, T, length}
use Rattle.std.proofs.Common.{sym, ap, ◌∙◌, arith}
use Rattle.theory.specs.Step.{ins, upd, del}
use Rattle.theory.specs.Answer.{count}
use Rattle.meaning.specs.Table.{scottish}
use Rattle.meaning.specs.Records.{Rec}
use Rattle.meaning.specs.File.{write_file}
use Rattle.meaning.specs.Holding.{written}
use Rattle.meaning.specs.Load.{then_zeros, check_file}
use Rattle.meaning.specs.Steps.{fits}
use Rattle.meaning.specs.Undo.{undo_body, undo_bytes}
use Rattle.meaning.specs.Codes.{field_malformed, holding_too_long, holding_unsound, undo_too_long}
use Rattle.laws.specs.SoundHolding.{SoundHolding}
use Rattle.laws.specs.Rows.{load_rows}
use Rattle.laws.specs.Checks.{SomeHolding}
use Rattle.laws.specs.Demand2.{Allowed, after_all, UndoFits, Lawful, Roomy}
use Rattle.laws.proofs.Demand2.{allowed_takes}
use Rattle.laws.proofs.Room.{undo_enough, room_enough_lem}
use Rattle.laws.specs.WhyLoad.{Located, Unsound, Faulty, BothSound, Reason, bad_file}
use Rattle.laws.proofs.WhyLoad.{reason_five, load_why, why_load, load_14, load_start, load_13, roomy_13, load_17, undo_body_lem}
use Rattle.laws.specs.Scottish.{scottish_regular}
use Rattle.answers.specs.Meant.{answer_of}
use Rattle.answers.specs.declared.numbers.Answer.{Answer}
use Rattle.loader.specs.Outcome.{Outcome}
use Rattle.claims.specs.Demand1.{Nothing, InTable, load_refused, load_numbers}
use Rattle.claims.specs.CheckClaims.{FiveClaims, file_claims}
use Rattle.claims.specs.Demand2.{taken_if, taken_only, new_holding, counted, undo_left}
use Rattle.claims.specs.AsBefore.{LoadAsBefore, load_before}

-- ---- why a load is refused, of the numbers answered, with `room` bytes for the holding

-- the numbers of a file over a holding, where they are neither 0 nor 17
pub record WhyRefused (old file : List ℕ) (room : ℕ) (r : Answer) : Type 0 where
  -- where there is a reason, the numbers are its
  pub exactly : (c l f p : ℕ) → Reason scottish room old file c l f p → Located r.code r.line r.field r.place c l f p
  -- 14 exactly if the holding is unsound
  pub unsound : (r.code ≡ holding_unsound) ↔ Unsound scottish old
  -- with a sound holding and a faulty file, the numbers of check_file
  pub faulty : SomeHolding scottish old → Faulty scottish file
      → Located r.code r.line r.field r.place (check_file scottish file).code (check_file scottish file).line (check_file scottish file).field (check_file scottish file).place
  -- 5 is the file's: it names a malformed field, and the place in it
  pub five : r.code ≡ field_malformed → FiveClaims file r.line r.field r.place
  -- with both sound, 13 at line 0 exactly if the holding doesn't fit at the start
  pub start : (m : BothSound scottish old file) → ((r.code ≡ holding_too_long) × (r.line ≡ 0)) ↔ (T (fits room m.st) → ⊥)
  -- with every line and every step lawful, 13 exactly if not every state of the holding fits, the first and those after each step
  pub roomless : (st : List Rec) → SoundHolding scottish old st → Lawful scottish st file → (r.code ≡ holding_too_long) ↔ (Roomy scottish room st file → ⊥)

-- what is refused with 5 is told as check_file tells it
five_told : (old file : List ℕ) (room : ℕ) (r : Answer) → Reason scottish room old file r.code r.line r.field r.place → r.code ≡ field_malformed
    → FiveClaims file r.line r.field r.place
five_told old file room r w e =
    let d = reason_five scottish room old file r.code r.line r.field r.place w e in
    let c = file_claims file (answer_of (check_file scottish file)) refl in
    rw (d.0.1, d.0.2, d.1) (c.five (sym d.0.0 ∙ e))

-- ---- load

-- what load answers to a file over a holding, with buffers of `room` bytes for the new holding and of `undo_room` for the undo, and leaves in them
pub record LoadClaims (old file : List ℕ) (room undo_room : ℕ) (r : Answer) (out undo : List ℕ) : Type 0 where
  -- the definition's numbers and bytes, and so one outcome only
  pub outcome : Outcome old file room undo_room r out undo
  -- demand 1: a row of paper 01's table, and a place beside 5 alone
  pub tabled : InTable (load_rows scottish old file) file r
  -- and on refusal zeros in both buffers, and nothing counted
  pub refused : (r.code ≡ 0 → ⊥) → Nothing room undo_room r out undo
  -- demand 2: taken exactly if all is allowed and the undo isn't longer than its buffer
  pub taken : (r.code ≡ 0) ↔ (Allowed scottish old file room × UndoFits scottish old file undo_room)
  -- with a sound holding, room at every step and room for the undo, exactly if every line and every step is lawful
  pub lawful : (st : List Rec) → SoundHolding scottish old st → Roomy scottish room st file → UndoFits scottish old file undo_room → (r.code ≡ 0) ↔ Lawful scottish st file
  -- then one buffer holds the old holding with the file's changes made in their order, and zeros
  pub new : (a : Allowed scottish old file room) → UndoFits scottish old file undo_room → (out ≡ then_zeros room (written (after_all scottish a))) × (length (written (after_all scottish a)) ≤ room)
  -- each counted in the answer
  pub counts : (a : Allowed scottish old file room) → UndoFits scottish old file undo_room
      → (r.inserts ≡ count ins a.cs) × (r.updates ≡ count upd a.cs) × (r.deletes ≡ count del a.cs)
  -- and the other holds the undo, and zeros
  pub undone : Allowed scottish old file room → UndoFits scottish old file undo_room → undo ≡ then_zeros undo_room (undo_bytes scottish old file)
  -- which is the file's own header, metadata and trailer around the steps taken backwards, numbered from 1
  pub body : (m : BothSound scottish old file) → undo_bytes scottish old file ≡ write_file m.fr (undo_body scottish m.st m.cs)
  -- 17 exactly if all is allowed, and the undo is longer than its buffer
  pub long : (r.code ≡ undo_too_long) ↔ (Allowed scottish old file room × (undo_room < length (undo_bytes scottish old file)))
  -- another refusal has a reason
  pub why : (r.code ≡ 0 → ⊥) → (r.code ≡ undo_too_long → ⊥) → Reason scottish room old file r.code r.line r.field r.place
  -- and each code is given exactly then
  pub whys : WhyRefused old file room r
  -- 13 is never given where the buffer for the new holding is as long as the old holding, the file and 16,384 bytes
  pub room_enough : length old + length file + 16384 ≤ room → r.code ≡ holding_too_long → ⊥
  -- nor 17 where that for the undo is as long as the old holding and twice the file
  pub undo_room_enough : length old + 2 * length file ≤ undo_room → r.code ≡ undo_too_long → ⊥
  -- paper 02, request 02: of ASCII alone, the answer is what it was before, with bytes counted
  pub as_before : LoadAsBefore old file room undo_room r out undo

module _ (old file : List ℕ) (room undo_room : ℕ) (r : Answer) (out undo : List ℕ) (o : Outcome old file room undo_room r out undo) where
  reason : (r.code ≡ 0 → ⊥) → (r.code ≡ undo_too_long → ⊥) → Reason scottish room old file r.code r.line r.field r.place
  reason n k = let e = ap (λ x. x.code) o.0 in rw o.0 (load_why scottish scottish_regular old file room undo_room (λ z. n (e ∙ z)) (λ z. k (e ∙ z)))

  only_14 : (r.code ≡ holding_unsound) ↔ Unsound scottish old
  only_14 = rw o.0 (load_14 scottish scottish_regular old file room undo_room)

  only_17 : (r.code ≡ undo_too_long) ↔ (Allowed scottish old file room × (undo_room < length (undo_bytes scottish old file)))
  only_17 = rw o.0 (load_17 scottish scottish_regular old file room undo_room)

  -- not 13 over a sound holding; over another it is 14
  never_13 : length old + length file + 16384 ≤ room → r.code ≡ holding_too_long → ⊥
  never_13 h e =
      let c = sym (ap (λ x. x.code) o.0) ∙ e in
      let n = only_14.1 (λ s. roomy_13 scottish scottish_regular old file room undo_room s.state s.sounds (room_enough_lem scottish scottish_regular old file s.state room s.sounds h) c) in
      omega (arith, e, n)

  never_17 : length old + 2 * length file ≤ undo_room → r.code ≡ undo_too_long → ⊥
  never_17 h e =
      let w = only_17.0 e in
      omega (arith, h, w.1, undo_enough scottish scottish_regular room old file _ (allowed_takes scottish scottish_regular old file room w.0))

  -- every outcome of load is so
  pub load_claims : LoadClaims old file room undo_room r out undo
  load_claims = record {
    outcome = o;
    tabled = load_numbers old file room undo_room r out undo o;
    refused = load_refused old file room undo_room r out undo o;
    taken = taken_only old file room undo_room r out undo o;
    lawful = taken_if old file room undo_room r out undo o;
    new = new_holding old file room undo_room r out undo o;
    counts = counted old file room undo_room r out undo o;
    undone = λ a u. (undo_left old file room undo_room r out undo o a u).0;
    body = undo_body_lem scottish scottish_regular old file;
    long = only_17;
    why = reason;
    whys = record {
      exactly = λ c l f p w. rw o.0 (why_load scottish scottish_regular old file room undo_room c l f p w);
      unsound = only_14;
      faulty = λ h n. rw o.0 (why_load scottish scottish_regular old file room undo_room _ _ _ _ (bad_file h n ((refl, refl, refl), refl)));
      five = λ e. five_told old file room r (reason (λ z. omega (arith, e, z)) (λ z. omega (arith, e, z))) e;
      start = λ m. rw o.0 (load_start scottish scottish_regular old file room undo_room m);
      roomless = λ st h l. rw o.0 (load_13 scottish scottish_regular old file room undo_room st h l);
    };
    room_enough = never_13;
    undo_room_enough = never_17;
    as_before = load_before old file room undo_room r out undo o;
  }
