-- What is promised of a file that is taken and handed back: demand 3 for one file, of what the two loads answer and leave.
use Rattle.std.specs.Prelude.{◌≡◌, List, [], ◌∷◌, ℕ, ◌≤◌, ◌+◌, T, length}
use Rattle.std.proofs.Common.{ap, ◌∙◌, arith}
use Rattle.theory.specs.AsMade.{as_made}
use Rattle.meaning.specs.Table.{scottish}
use Rattle.meaning.specs.Records.{keyed}
use Rattle.meaning.specs.File.{write_file}
use Rattle.meaning.specs.Load.{then_zeros}
use Rattle.meaning.specs.Undo.{undo_bytes}
use Rattle.meaning.specs.Codes.{holding_too_long, undo_too_long, all_done}
use Rattle.laws.specs.FileRefusals.{among}
use Rattle.laws.specs.Demand2.{Allowed}
use Rattle.answers.specs.declared.numbers.Answer.{Answer}
use Rattle.loader.specs.Outcome.{Outcome}
use Rattle.printed.specs.Printed.{bare}
use Rattle.claims.specs.Demand3.{Night, undo_bytes_lem, refused_for_room, back_is, gives_back_lem, undo_of_undo, back_most}

-- a file taken over the holding old with a buffer of `room` bytes and one that has room for its undo, and that undo handed in over the holding that the file
-- left, with buffers of `backRoom` and `againRoom`: the two answers, and the bytes that the second leaves
pub record BackClaims (old file : List ℕ) (room backRoom againRoom : ℕ) (taken back : Answer) (out undo : List ℕ) : Type 0 where
  -- the undo of a file that was taken is refused only for want of room
  pub only_for_room : taken.code ≡ 0 → T (among back.code (all_done ∷ holding_too_long ∷ undo_too_long ∷ []))
  -- with a buffer as long as the one used going forward, and one as long as the file and its undo, it is taken and gives back, byte for byte, the holding that
  -- stood before
  pub gives_back : taken.code ≡ 0 → room ≤ backRoom → length file + length (undo_bytes scottish old file) ≤ againRoom → (back.code ≡ 0) × (out ≡ then_zeros backRoom old)
  -- it counts the file's deletes as inserts and its inserts as deletes
  pub exchanged : taken.code ≡ 0 → room ≤ backRoom → length file + length (undo_bytes scottish old file) ≤ againRoom
      → (back.inserts ≡ taken.deletes) × (back.updates ≡ taken.updates) × (back.deletes ≡ taken.inserts)
  -- and leaves as its own undo the file again: its header, metadata and trailer around its changes as they were made, a delete with the record that it removed
  pub again : taken.code ≡ 0 → room ≤ backRoom → length file + length (undo_bytes scottish old file) ≤ againRoom → (a : Allowed scottish old file room)
      → undo ≡ then_zeros againRoom (write_file a.fr (as_made (keyed scottish) a.st a.cs))

module _ (old file : List ℕ) (room undo_room backRoom againRoom : ℕ) (taken back : Answer) (new undone out undo : List ℕ) where
  -- whatever comes of the two is so
  pub back_claims : Outcome old file room undo_room taken new undone → Outcome (bare new) (bare undone) backRoom againRoom back out undo
      → BackClaims old file room backRoom againRoom taken back out undo
  back_claims o b = record {
    only_for_room = λ t. refused_for_room old (night t) backRoom againRoom back out undo b;
    gives_back = λ t h l. let g = gives_back_lem old (night t) backRoom againRoom back out undo h (own t l) b in (g.0, g.1);
    exchanged = λ t h l. let e = (back_is old (night t) backRoom againRoom back out undo h (own t l) b).0 in (ap (λ x. x.inserts) e, ap (λ x. x.updates) e, ap (λ x. x.deletes) e);
    again = λ t h l a. (back_is old (night t) backRoom againRoom back out undo h (own t l) b).2 ∙ ap (then_zeros againRoom) (undo_of_undo old (night t) a);
  }
    where
      night : taken.code ≡ 0 → Night old
      night t = record { file = file; room = room; undo_room = undo_room; answer = taken; out = new; undo = undone; outcome = o; taken = t }

      own : taken.code ≡ 0 → length file + length (undo_bytes scottish old file) ≤ againRoom → length (undo_bytes scottish (bare new) (bare undone)) ≤ againRoom
      own t l = omega (arith, l, back_most old (night t), ap length (undo_bytes_lem old (night t)))
