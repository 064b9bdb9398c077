-- The part that in_force hands back lies within the holding or within the file.
use mathlib.Core.Path.{◌≡◌, sym, ap, ◌∙◌, subst}
use mathlib.Core.Option.{Option, none, some}
use mathlib.Core.List.{List}
use Prim.Native.Nat.{ℕ, ◌+◌, ◌≤◌}
use Rattle.std.specs.Prelude.{Result}
use denote.Ref.{Bor}
use lib.ListN.{length}
use Rattle.theory.specs.Step.{Op, ins, upd, del}
use Rattle.theory.specs.Answer.{fault, file}
use Rattle.meaning.specs.Lines.{lines_of}
use Rattle.meaning.specs.Kinds.{Kind, numbered_among}
use Rattle.meaning.specs.Table.{enquiries, scottish}
use Rattle.meaning.specs.Records.{Rec}
use Rattle.meaning.specs.File.{Sheet, read_file}
use Rattle.meaning.specs.Holding.{Held, sound, unsound, read_holding}
use Rattle.meaning.specs.Enquiries.{second, Found, part_of, held_at, last_naming, unless_deleted, in_force_part, in_force_file, in_force_held, in_force_kind, in_force}
use Rattle.meaning.specs.Answers.{Read, of_line, at_line, alone}
use Rattle.meaning.specs.Codes.{key_absent, holding_unsound, kind_not_asked}
use Rattle.answers.specs.declared.refusal.Refusal.{Refusal}
use Rattle.enquiries.specs.declared.finding.Side.{Side}
use Rattle.enquiries.specs.declared.finding.Part.{Part}
use Rattle.enquiries.specs.Finding.{slice_meant, found_said}
use Rattle.enquiries.specs.Handed.{Handed, lent_as, HandedOf}
use Rattle.enquiries.proofs.WithinLaws.{Within, nothing, line_within}
use Rattle.find.proofs.HandLaws.{held_within}

second_within : (a b : List ℕ) (i : ℕ) → Within (part_of second (lines_of b) i) a b
unfolding part_of
second_within a b i = line_within b i

force_within : (a b : List ℕ) (kind n : ℕ) → Within (in_force scottish a b kind n) a b
unfolding in_force in_force_kind in_force_held in_force_file in_force_part unless_deleted
force_within a b kind n = asked (numbered_among enquiries kind)
  where
    says : (i : ℕ) (p : Op) → Within (unless_deleted p (part_of second (lines_of b) i)) a b
    says i ins = second_within a b i
    says i upd = second_within a b i
    says i del = nothing (alone key_absent) a b

    names : (q : List ℕ) (st : List Rec) (o : Option (ℕ × Op)) → Within (in_force_part scottish a b q st o) a b
    names q st none = held_within a b (held_at scottish q 0 st)
    names q st (some l) = says l.0 l.1

    reads : (q : List ℕ) (st : List Rec) (s : Read Sheet) → Within (in_force_file scottish a b q st s) a b
    reads q st (fault r) = nothing r a b
    reads q st (file s) = names q st (last_naming scottish q 1 s.1 none)

    holds : (q : List ℕ) (h : Held) → Within (in_force_held scottish a b q h) a b
    holds q (unsound m) = nothing (at_line m (of_line holding_unsound)) a b
    holds q (sound st) = reads q st (read_file scottish b)

    asked : (k : Option Kind) → Within (in_force_kind scottish a b n k) a b
    asked none = nothing (alone kind_not_asked) a b
    asked (some k) = holds _ (read_holding scottish a)

-- ---- the part

module _ (o : Result Part Refusal) (b : Side) (e : slice_meant b ≡ (found_said o).slice) (c : Side) (d : b ≡ c) where
  slice_told : slice_meant c ≡ (found_said o).slice
  slice_told = sym (ap slice_meant d) ∙ e

  -- it lies within its slice
  pub force_fits : (s t : List ℕ) (kind n : ℕ) → found_said o ≡ in_force scottish s t kind n → (found_said o).start + (found_said o).size ≤ length (lent_as (slice_meant c) s t)
  force_fits s t kind n f =
      subst (λ z. (found_said o).start + (found_said o).size ≤ length (lent_as z s t)) (sym slice_told)
      (subst (λ g. Within g s t) (sym f) (force_within s t kind n))

  -- and is handed back as it stands there
  pub force_handed : (f : Found) (s t p : Bor (List ℕ)) (x : List ℕ) → found_said o ≡ f → Handed (found_said o) (lent_as (slice_meant c) s t) p x → HandedOf f s t p x
  force_handed f s t p x g h = subst (λ y. HandedOf y s t p x) g (subst (λ z. Handed (found_said o) (lent_as z s t) p x) slice_told h)
