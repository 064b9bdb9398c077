-- The laws of what is printed.
use mathlib.Core.Path.{◌≡◌, refl, ap, ◌∙◌}
use Rattle.std.specs.Prelude as std
use Rattle.std.specs.Prelude.{Some, None, IsSome}
use Rattle.std.specs.Borrow.{Bor}
use mathlib.Core.Bool.{Bool, true, false, false≢true}
use mathlib.Core.List.{List, [], ◌++◌, append-nil}
use Prim.Native.Nat.{ℕ, ◌+◌, ◌-◌}
use native.Mathlib.Omega.{arith}
use borrow.Rule.Slice.PartMut.{put_mid}
use lib.Dec.{leb}
use lib.ListN.{length, take, drop, length-append}
use Rattle.base.specs.Lists.{pick}
use Rattle.theory.specs.Answer.{took, refused}
use Rattle.meaning.specs.Table.{scottish}
use Rattle.meaning.specs.Holding.{written}
use Rattle.meaning.specs.Load.{Loaded, loaded, if_undo_fits, tried, load, load_file, then_zeros}
use Rattle.meaning.specs.Undo.{undo_bytes}
use Rattle.meaning.specs.Program.{print_numbers, print_load, program, program_room, unusable}
use Rattle.meaning.specs.Answers.{Answer, alone}
use Rattle.laws.proofs.Takes.{TookSays, took_takes}
use Rattle.laws.specs.Scottish.{scottish_regular}
use Rattle.text.specs.Front.{in_front}
use Rattle.text.proofs.FrontLaws.{front_then}
use Rattle.answers.specs.Meant.{numbers_meant}
use Rattle.answers.specs.declared.numbers.Answer.{Answer as Numbers}
use Rattle.meaning.specs.Codes.{undo_too_long}
use Rattle.loader.specs.Outcome.{Outcome}
use Rattle.printed.specs.Printed.{bare}
use Rattle.printed.proofs.BareLaws.{bare_zeros, bare_joined}
use Rattle.program.specs.Outcome.{input_of, read_of}

-- a new holding stays whole
abbrev Whole : Answer → Type 0
Whole (took new n) = bare new ≡ new
Whole (refused r) = Unit {0}

load_whole : (room undo_room : ℕ) (old b : List ℕ) → Whole (load scottish room undo_room old b)
unfolding load if_undo_fits written
load_whole room undo_room old b = go (tried scottish room old b) (took_takes scottish scottish_regular room old b)
  where
    either : (c : Bool) (x y : Answer) → Whole x → Whole y → Whole (pick c x y)
    either true x y p q = p
    either false x y p q = q

    go : (x : Answer) → TookSays scottish scottish_regular room old b x → Whole (if_undo_fits undo_room (undo_bytes scottish old b) x)
    go (took new n) t = either (leb (length (undo_bytes scottish old b)) undo_room) (took new n) (refused (alone undo_too_long)) (rw t.made (bare_joined _)) tt
    go (refused r) t = tt

-- what load answers and what stands before the zeros of the new holding's buffer are what is printed
print_load_lem : (room undo_room : ℕ) (old b : List ℕ)
    → print_numbers (load_file scottish old b room undo_room).answer ++ bare (load_file scottish old b room undo_room).output ≡ print_load (load scottish room undo_room old b)
unfolding load_file loaded print_load then_zeros bare
print_load_lem room undo_room old b = go (load scottish room undo_room old b) (load_whole room undo_room old b)
  where
    left : Answer → Loaded
    left x = loaded room undo_room (undo_bytes scottish old b) x

    go : (x : Answer) → Whole x → print_numbers (left x).answer ++ bare (left x).output ≡ print_load x
    go (took new n) w = rw (bare_zeros new (room - length new), w)
    go (refused r) w = rw (bare_zeros [] room, append-nil)

-- the answer that is made of an outcome is its own
pub printed_as : (old b out undo : List ℕ) (x a : Numbers) → Outcome old b 65536 65536 x out undo → a ≡ x → Outcome old b 65536 65536 a out undo
printed_as old b out undo x a o e = rw e o

module _ (old b : List ℕ) (a : Numbers) (out undo : List ℕ) (o : Outcome old b 65536 65536 a out undo) (size : ℕ) (z : take size out ≡ bare out) where
  -- the same of the numbers and the bytes that the code has
  print_parts : print_numbers (numbers_meant a) ++ take (size - 0) (drop 0 out) ≡ print_load (load scottish 65536 65536 old b)
  print_parts =
      let s : size - 0 ≡ size = omega arith in
      rw (s, z, o.1, o.0) (print_load_lem 65536 65536 old b)

  module _ (n : ℕ) (p : n ≡ length (print_numbers (numbers_meant a))) where
    -- how much is written
    pub print_count : (m : ℕ) → m ≡ length (take (size - 0) (drop 0 out)) → n + m ≡ length (print_load (load scottish 65536 65536 old b))
    print_count m q = omega (arith, length-append (print_numbers (numbers_meant a)) (take (size - 0) (drop 0 out)), ap length print_parts)

    -- with the new holding all is there
    pub print_done : (free new last : List ℕ) → new ≡ in_front (print_numbers (numbers_meant a)) free → last ≡ in_front (take (size - 0) (drop 0 out)) (take (length new - n) (drop n new))
        → put_mid n (length new - n) new last ≡ in_front (print_load (load scottish 65536 65536 old b)) free
    print_done free new last e w = front_then (print_numbers (numbers_meant a)) (take (size - 0) (drop 0 out)) free new last n p e w ∙ ap (λ t. in_front t free) print_parts

-- ---- 18, then the load

-- else both were read, and load is asked
pub both_usable : (h s : Bool) (old b : List ℕ) → false ≡ unusable (input_of h old) → false ≡ unusable (input_of s b) → print_load (load scottish program_room program_room old b) ≡ program scottish (input_of h old) (input_of s b)
unfolding program unusable
both_usable true true old b e f = rw (← e, ← f)
both_usable false s old b e f = absurd (false≢true e)
both_usable true false old b e f = absurd (false≢true f)

-- what is written is that
pub print_all : (w p old new : List ℕ) (r : ℕ) → w ≡ p → r ≡ length w → new ≡ in_front w old → (r ≡ length p) × (new ≡ in_front p old)
print_all w p old new r e q f = (q ∙ ap length e, f ∙ ap (λ t. in_front t old) e)

-- so an input that is usable was read
pub usable_some : (o : std.Option (Bor (List ℕ))) → false ≡ unusable (read_of o) → IsSome o
unfolding unusable
usable_some (Some b) e = refl
usable_some None e = absurd (false≢true e)
