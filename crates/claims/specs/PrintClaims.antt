-- What is promised of the program that loads a file, of the bytes that it prints: 18 alone, or load's numbers and, on 0, the new holding.
use Rattle.std.specs.Prelude.{◌≡◌, refl, Bool, false, ◌||◌, List, ◌++◌, ℕ, ◌<◌, length}
use Rattle.std.proofs.Common.{sym, ap, ◌∙◌, arith}
use Rattle.std.proofs.Math.Bool.{true}
use Rattle.std.proofs.lemmas.Bool.{false≢true}
use Rattle.std.proofs.Math.Option.{some}
use Rattle.meaning.specs.Table.{scottish}
use Rattle.meaning.specs.Holding.{written}
use Rattle.meaning.specs.Codes.{undo_too_long, input_unusable}
use Rattle.meaning.specs.Answers.{alone, refused_with}
use Rattle.meaning.specs.Load.{load_file}
use Rattle.meaning.specs.Undo.{undo_bytes}
use Rattle.meaning.specs.Program.{program_room, unusable, print_numbers, program}
use Rattle.laws.proofs.Takes.{taken_long}
use Rattle.laws.specs.Demand2.{Allowed, after_all, UndoFits}
use Rattle.laws.proofs.Demand2.{allowed_takes}
use Rattle.laws.proofs.WhyPrint.{prints_18, prints_refused, prints_taken}
use Rattle.laws.specs.Scottish.{scottish_regular}
use Rattle.text.specs.Front.{in_front}
use Rattle.program.specs.Outcome.{input_of, PrintOutcome}
use Rattle.claims.specs.AsBefore.{PrintAsBefore, print_before}

-- a text stands in the front of the buffer, n is its length, and the rest of the buffer is as it was
abbrev pub Prints : List ℕ → List ℕ → ℕ → List ℕ → Type 0
Prints text buffer n printed = (n ≡ length text) × (printed ≡ in_front text buffer)

-- what is printed of a holding and a change, each of which could be read or not
pub record PrintClaims (held : Bool) (holding : List ℕ) (sent : Bool) (change buffer : List ℕ) (n : ℕ) (printed : List ℕ) : Type 0 where
  -- the definition's bytes, and so one outcome only
  pub outcome : PrintOutcome held holding sent change buffer n printed
  -- 18 where an input is unreadable or too long
  pub eighteen : (unusable (input_of held holding) || unusable (input_of sent change)) ≡ true → Prints (print_numbers (refused_with (alone input_unusable))) buffer n printed
  -- else the numbers of load alone, where it refuses
  pub refuses : (unusable (input_of held holding) || unusable (input_of sent change)) ≡ false → ((load_file scottish holding change program_room program_room).answer.code ≡ 0 → ⊥)
      → Prints (print_numbers (load_file scottish holding change program_room program_room).answer) buffer n printed
  -- which are 17 and zeros where all is allowed and the undo is longer than 65,536 bytes
  pub seventeen : (unusable (input_of held holding) || unusable (input_of sent change)) ≡ false → Allowed scottish holding change program_room
      → program_room < length (undo_bytes scottish holding change) → Prints (print_numbers (refused_with (alone undo_too_long))) buffer n printed
  -- and the new holding after its numbers, where it takes the change
  pub takes : (unusable (input_of held holding) || unusable (input_of sent change)) ≡ false → (a : Allowed scottish holding change program_room) → UndoFits scottish holding change program_room
      → Prints (print_numbers (load_file scottish holding change program_room program_room).answer ++ written (after_all scottish a)) buffer n printed
  -- paper 02, request 02: of ASCII alone, the answer is what it was before, with bytes counted
  pub as_before : PrintAsBefore held holding sent change buffer n printed

or_true : (a : Bool) → (a || true) ≡ true
or_true true = refl
or_true false = refl

-- inputs that are usable were read
both_read : (held sent : Bool) (holding change : List ℕ) → (unusable (input_of held holding) || unusable (input_of sent change)) ≡ false
    → (input_of held holding ≡ some holding) × (input_of sent change ≡ some change)
both_read true true holding change e = (refl, refl)
both_read false sent holding change e = unfold unusable in absurd (false≢true (sym e))
both_read true false holding change e = absurd (false≢true (sym e ∙ (unfold unusable in or_true (unusable (input_of true holding)))))

module _ (held : Bool) (holding : List ℕ) (sent : Bool) (change buffer : List ℕ) (n : ℕ) (printed : List ℕ) where
  prints : (text : List ℕ) → program scottish (input_of held holding) (input_of sent change) ≡ text → PrintOutcome held holding sent change buffer n printed → Prints text buffer n printed
  prints text e o = (o.0 ∙ ap length e, o.1 ∙ ap (λ x. in_front x buffer) e)

  -- what is printed of two inputs that were read is printed where they are usable
  prints_usable : (text : List ℕ) → (unusable (input_of held holding) || unusable (input_of sent change)) ≡ false
      → ((unusable (some holding) || unusable (some change)) ≡ false → program scottish (some holding) (some change) ≡ text)
      → PrintOutcome held holding sent change buffer n printed → Prints text buffer n printed
  prints_usable text e f o = let b = both_read held sent holding change e in prints text (rw (b.0, b.1) (f (rw (b.0, b.1) at e))) o

  -- every outcome of print is so
  pub print_claims : PrintOutcome held holding sent change buffer n printed → PrintClaims held holding sent change buffer n printed
  print_claims o = record {
    outcome = o;
    eighteen = λ e. prints _ (prints_18 scottish (input_of held holding) (input_of sent change) e) o;
    refuses = λ e k. prints_usable _ e (λ d. prints_refused scottish holding change d k) o;
    seventeen = λ e a l.
        let t = allowed_takes scottish scottish_regular holding change program_room a in
        let w = ap (λ x. x.answer) (taken_long scottish scottish_regular program_room program_room holding change _ t l) in
        prints_usable _ e (λ d. prints_refused scottish holding change d (λ z. omega (arith, z, ap (λ x. x.code) w)) ∙ ap print_numbers w) o;
    takes = λ e a u. prints_usable _ e (λ d. prints_taken scottish scottish_regular holding change d a u) o;
    as_before = print_before held holding sent change buffer n printed o;
  }
