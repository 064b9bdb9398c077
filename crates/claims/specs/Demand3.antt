-- Demand 3, of what load answers and leaves: any run of files that are taken can be handed back, last first, to the holding that it began with.
-- The holdings are demand 2's: what stands before the zeros of an output is what demand 2 says (`left_is`). Each undo is the one that its file's load
-- wrote (`undo_bytes_lem`); going back, each call is lent room for its own undo, and `back_most` says how much is always enough.
use Rattle.std.specs.Prelude.{◌≡◌, List, [], ◌∷◌, ℕ, zero, suc, ◌≤◌, ◌+◌, ◌-◌, ◌*◌, T, length}
use Rattle.std.proofs.Math.Path.{sym, ap}
use Rattle.std.proofs.Common.{◌∙◌, subst}
use Rattle.theory.specs.Step.{Change}
use Rattle.theory.specs.AsMade.{as_made}
use Rattle.meaning.specs.Table.{scottish}
use Rattle.meaning.specs.Records.{Rec, keyed, joined}
use Rattle.meaning.specs.File.{Frame, Sheet, write_file}
use Rattle.meaning.specs.Holding.{read_holding, written}
use Rattle.meaning.specs.Load.{then_zeros, check_file}
use Rattle.meaning.specs.Answers.{taken_with}
use Rattle.meaning.specs.Undo.{undo_bytes}
use Rattle.meaning.specs.Codes.{holding_too_long, undo_too_long, all_done}
use Rattle.laws.specs.SoundFile.{SoundFile}
use Rattle.laws.proofs.SoundFile.{sound_read, read_sound}
use Rattle.laws.specs.FileRefusals.{among}
use Rattle.laws.specs.SoundHolding.{SoundHolding, held_sound, held_is_sound}
use Rattle.laws.proofs.Checks.{file_checked, held_only}
use Rattle.laws.proofs.Takes.{Takes, taken, undo_takes, met_old}
use Rattle.laws.specs.Demand2.{Allowed, after_all, UndoFits}
use Rattle.laws.proofs.Demand2.{allowed_takes, takes_more}
use Rattle.laws.proofs.Demand3.{steps_back, undo_is_lem, undo_sound, undo_checks, empty_body}
use Rattle.laws.proofs.Room as rooms
use Rattle.laws.proofs.RoomRefusals.{room_refusals}
use Rattle.laws.specs.Scottish.{scottish_regular}
use Rattle.answers.specs.Meant.{answer_of, counts_of}
use Rattle.answers.specs.declared.numbers.Answer.{Answer}
use Rattle.loader.specs.Outcome.{Outcome}
use Rattle.printed.specs.Printed.{bare}
use Rattle.printed.proofs.BareLaws.{bare_zeros, bare_joined}
use Rattle.claims.specs.Demand2.{taken_only, new_holding, undo_left}

-- ---- nights and their undos

-- a file that was taken over the holding old: the buffers it was lent, the numbers answered and the bytes left
pub record Night (old : List ℕ) : Type 0 where
  pub file : List ℕ
  pub room : ℕ
  pub undo_room : ℕ
  pub answer : Answer
  pub out : List ℕ
  pub undo : List ℕ
  pub outcome : Outcome old file room undo_room answer out undo
  pub taken : answer.code ≡ 0

-- the holding that it left: what stands before the zeros
abbrev pub left : {old : List ℕ} → Night old → List ℕ
left n = bare n.out

-- and the undo that it left, as a file
abbrev pub undo_of : {old : List ℕ} → Night old → List ℕ
undo_of n = bare n.undo

-- lines stay whole before the zeros
bare_filled : (room : ℕ) (ts : List (List ℕ)) → bare (then_zeros room (joined ts)) ≡ joined ts
unfolding then_zeros
bare_filled room ts = bare_zeros (joined ts) (room - length (joined ts)) ∙ bare_joined ts

module _ (old : List ℕ) (n : Night old) where
  -- all was allowed, and the undo fitted
  allowed : Allowed scottish old n.file n.room × UndoFits scottish old n.file n.undo_room
  allowed = (taken_only old n.file n.room n.undo_room n.answer n.out n.undo n.outcome).0 n.taken

  -- the holding that is left is demand 2's: the old one with the file's changes made in their order
  pub left_is : (a : Allowed scottish old n.file n.room) → left n ≡ written (after_all scottish a)
  unfolding written
  left_is a = ap bare (new_holding old n.file n.room n.undo_room n.answer n.out n.undo n.outcome a allowed.1).0 ∙ bare_filled n.room _

  takes : Takes scottish scottish_regular n.room old n.file (left n)
  takes = subst (Takes scottish scottish_regular n.room old n.file) (sym (left_is allowed.0)) (allowed_takes scottish scottish_regular old n.file n.room allowed.0)

  -- what the file says is determined by its bytes, and so are the records of the holding that it met
  same_sheet : (fr : Frame) (cs : List (Change Rec)) → SoundFile scottish n.file fr cs → ◌≡◌ {A = Sheet} (takes.fr, takes.cs) (fr, cs)
  same_sheet fr cs s = let e = sym takes.read ∙ sound_read scottish n.file fr cs s in cc

  same_records : (st : List Rec) → SoundHolding scottish old st → takes.st ≡ st
  same_records st h = let t = takes.st in held_only scottish scottish_regular old t st (held_is_sound scottish scottish_regular old t (held_sound old t (read_holding scottish old) takes.held)) h

  -- the undo that is left is the undo of the file over the holding that it met
  pub undo_bytes_lem : undo_of n ≡ undo_bytes scottish old n.file
  unfolding write_file
  undo_bytes_lem =
      let e = undo_is_lem scottish scottish_regular n.room old n.file (left n) takes in
      ap bare ((undo_left old n.file n.room n.undo_room n.answer n.out n.undo n.outcome allowed.0 allowed.1).0 ∙ ap (then_zeros n.undo_room) e)
      ∙ bare_filled n.undo_room _
      ∙ sym e

  -- each undo is itself a sound change file in the published layout, with the file's own header, metadata and trailer
  pub undo_file_lem : (fr : Frame) × (cs : List (Change Rec)) × SoundFile scottish n.file fr cs × ((back : List (Change Rec)) × SoundFile scottish (undo_of n) fr back)
  undo_file_lem =
      let t = takes in
      (t.fr, t.cs, read_sound scottish n.file t.fr t.cs t.read, (steps_back scottish scottish_regular n.room old n.file (left n) t, rw undo_bytes_lem (undo_sound scottish scottish_regular n.room old n.file (left n) t)))

  -- check_file takes it, and counts the file's deletes as inserts and its inserts as deletes
  pub undo_checked : (c : Answer) → c ≡ answer_of (check_file scottish (undo_of n)) → c ≡ answer_of (taken_with (counts_of n.answer.deletes n.answer.updates n.answer.inserts))
  undo_checked c e =
      let t = takes in
      let a = n.outcome.0 ∙ ap (λ x. answer_of x.answer) (taken scottish scottish_regular n.room n.undo_room old n.file (left n) t allowed.1) in
      e ∙ ap (λ b. answer_of (check_file scottish b)) undo_bytes_lem ∙ rw a (ap answer_of (undo_checks scottish scottish_regular n.room old n.file (left n) t))

  -- an empty body: the holding is unchanged and the undo is the file itself
  pub empty : (fr : Frame) → SoundFile scottish n.file fr [] → (left n ≡ old) × (undo_of n ≡ n.file)
  empty fr s =
      let t = takes in
      let b = empty_body scottish scottish_regular n.room old n.file (left n) t (ap (λ x. x.1) (same_sheet fr [] s)) in
      (b.0, undo_bytes_lem ∙ b.1)

  -- ---- the undo handed in over the holding that its file left

  back_takes : Takes scottish scottish_regular n.room (left n) (undo_of n) old
  back_takes = rw undo_bytes_lem (undo_takes scottish scottish_regular n.room old n.file (left n) takes)

  -- with any buffers it is refused only for want of room
  pub refused_for_room : (room undo_room : ℕ) (r : Answer) (out undo : List ℕ) → Outcome (left n) (undo_of n) room undo_room r out undo
      → T (among r.code (all_done ∷ holding_too_long ∷ undo_too_long ∷ []))
  refused_for_room room undo_room r out undo o = rw o.0 (room_refusals scottish scottish_regular n.room (left n) (undo_of n) old back_takes room undo_room)

  -- with a buffer as long as the one used going forward or longer, and room for its own undo, it is taken: it counts the file's deletes as inserts and its
  -- inserts as deletes, and leaves the holding that stood before its file, and its own undo
  pub back_is : (room undo_room : ℕ) (r : Answer) (out undo : List ℕ) → n.room ≤ room → length (undo_bytes scottish (left n) (undo_of n)) ≤ undo_room
      → Outcome (left n) (undo_of n) room undo_room r out undo
      → (r ≡ answer_of (taken_with (counts_of n.answer.deletes n.answer.updates n.answer.inserts)))
      × (out ≡ then_zeros room old) × (undo ≡ then_zeros undo_room (undo_bytes scottish (left n) (undo_of n)))
  back_is room undo_room r out undo h u o =
      let b = takes_more scottish scottish_regular (left n) (undo_of n) old n.room room h back_takes in
      let e = taken scottish scottish_regular room undo_room (left n) (undo_of n) old b u in
      let c = file_checked scottish (undo_of n) b.fr b.cs (read_sound scottish (undo_of n) b.fr b.cs b.read) in
      (undo_checked r (o.0 ∙ ap (λ x. answer_of x.answer) e ∙ sym (ap answer_of c)), o.1 ∙ ap (λ x. x.output) e, o.2 ∙ ap (λ x. x.undo) e)

  -- so it gives back, byte for byte, the holding that stood before its file
  pub gives_back_lem : (room undo_room : ℕ) (r : Answer) (out undo : List ℕ) → n.room ≤ room → length (undo_bytes scottish (left n) (undo_of n)) ≤ undo_room
      → Outcome (left n) (undo_of n) room undo_room r out undo → (r.code ≡ 0) × (out ≡ then_zeros room old) × (bare out ≡ old)
  unfolding written
  gives_back_lem room undo_room r out undo h u o =
      let m = (met_old scottish scottish_regular n.room old n.file (left n) takes).0 in
      let b = back_is room undo_room r out undo h u o in
      (ap (λ x. x.code) b.0, b.1, ap bare b.1 ∙ ap (λ x. bare (then_zeros room x)) m ∙ bare_filled room _ ∙ sym m)

  -- the undo that this writes is the file's header, metadata and trailer around the changes as they were made, a delete with the record that it removed
  pub undo_of_undo : (a : Allowed scottish old n.file n.room) → undo_bytes scottish (left n) (undo_of n) ≡ write_file a.fr (as_made (keyed scottish) a.st a.cs)
  undo_of_undo a =
      rw undo_bytes_lem (rooms.undo_of_undo scottish scottish_regular n.room old n.file (left n) takes)
      ∙ ap (λ x. write_file x.0 (as_made (keyed scottish) takes.st x.1)) (same_sheet a.fr a.cs a.lines)
      ∙ ap (λ st. write_file a.fr (as_made (keyed scottish) st a.cs)) (same_records a.st a.held)

  -- ---- how long undos are

  -- the file's is no longer than the old holding and twice the file
  pub undo_most : length (undo_of n) ≤ length old + 2 * length n.file
  undo_most = rw undo_bytes_lem (rooms.undo_enough scottish scottish_regular n.room old n.file (left n) takes)

  -- and the undo's own no longer than the file and the undo
  pub back_most : length (undo_bytes scottish (left n) (undo_of n)) ≤ length n.file + length (undo_of n)
  back_most = rw undo_bytes_lem (rooms.undo_of_undo_enough scottish scottish_regular n.room old n.file (left n) takes)

-- ---- any run of files taken one after another

-- each file meets the holding that the one before it left
abbrev pub Nights : ℕ → List ℕ → Type 0
Nights zero old = Unit {0}
Nights (suc k) old = (n : Night old) × Nights k (left n)

-- an undo handed in over the holding met, with a buffer as long as the one used going forward or longer, and what came of it
pub record Return (old : List ℕ) (n : Night old) (met : List ℕ) : Type 0 where
  pub room : ℕ
  pub enough : n.room ≤ room
  pub undo_room : ℕ
  -- room for the undo that this call writes; by `back_most` as much as the file and its undo have is enough
  pub own : length (undo_bytes scottish (left n) (undo_of n)) ≤ undo_room
  pub answer : Answer
  pub out : List ℕ
  pub undo : List ℕ
  pub outcome : Outcome met (undo_of n) room undo_room answer out undo

-- the undos handed in last first, each over the holding that the one before it left: the way back from the holding after the last night to the holding `to`
abbrev pub WayBack : (k : ℕ) (old : List ℕ) → Nights k old → List ℕ → Type 0
WayBack zero old ns to = to ≡ old
WayBack (suc k) old ns to = (met : List ℕ) × (w : WayBack k (left ns.0) ns.1 met) × (b : Return old ns.0 met) × (to ≡ bare b.out)

-- every undo is taken, and each gives back, byte for byte, the holding that stood before its file
abbrev pub AllBack : (k : ℕ) (old : List ℕ) (ns : Nights k old) (to : List ℕ) → WayBack k old ns to → Type 0
AllBack zero old ns to w = to ≡ old
AllBack (suc k) old ns to w = AllBack k (left ns.0) ns.1 w.0 w.1 × (w.2.answer.code ≡ 0) × (to ≡ old)

ends_there : (k : ℕ) (old : List ℕ) (ns : Nights k old) (to : List ℕ) (w : WayBack k old ns to) → AllBack k old ns to w → to ≡ old
ends_there zero old ns to w a = a
ends_there (suc k) old ns to w a = a.2

-- demand 3
pub demand_3 : (k : ℕ) (old : List ℕ) (ns : Nights k old) (to : List ℕ) (w : WayBack k old ns to) → AllBack k old ns to w
demand_3 zero old ns to w = w
demand_3 (suc k) old ns to w =
    let n = ns.0 in
    let i = demand_3 k (left n) ns.1 w.0 w.1 in
    let b = w.2 in
    let e = ends_there k (left n) ns.1 w.0 w.1 i in
    let o = subst (λ m. Outcome m (undo_of n) b.room b.undo_room b.answer b.out b.undo) e b.outcome in
    let g = gives_back_lem old n b.room b.undo_room b.answer b.out b.undo b.enough b.own o in
    (i, g.0, w.3 ∙ g.2)
