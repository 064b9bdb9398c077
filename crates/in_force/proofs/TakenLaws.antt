-- In force is what a load would leave: where a file would be taken, in_force shows the record that stands at the key afterwards, or 11.
use mathlib.Core.Path.{◌≡◌, refl, sym, ap, ◌∙◌, subst}
use mathlib.Core.Bool.{true}
use mathlib.Core.Option.{Option, none, some, some-injective}
use mathlib.Core.List.{List, [], ◌∷◌, ◌++◌}
use Prim.Native.Nat.{ℕ, suc, ◌<◌}
use native.Mathlib.Omega.{arith}
use denote.Ref.{Bor}
use lib.ListN.{length, get_or, take, drop}
use Rattle.base.specs.Lists.{some?}
use Rattle.base.specs.Tests.{some≢none}
use Rattle.theory.specs.Step.{Op, ins, upd, del, Change, new}
use Rattle.theory.specs.Store.{get}
use Rattle.meaning.specs.Lines.{Line, lines_of}
use Rattle.meaning.specs.Kinds.{numbered_among}
use Rattle.meaning.specs.Table.{enquiries, scottish}
use Rattle.meaning.specs.Records.{Rec, keyed, change_text}
use Rattle.meaning.specs.Enquiries.{Found, Slice, first, second, refusal, part_of, held_at, held_part, find, find_kind, find_in, last_naming, unless_deleted, in_force_part, in_force_file, in_force_held, in_force_kind, in_force}
use Rattle.laws.specs.Body.{ident_in, change_read}
use Rattle.laws.specs.LinesAndFields.{ends, ends_all}
use Rattle.laws.specs.HoldingReadBack.{insert_of}
use Rattle.laws.specs.SoundHolding.{SoundHolding, sound_held}
use Rattle.laws.specs.SoundFile.{SaysChanges}
use Rattle.laws.proofs.SoundFile.{sound_read}
use Rattle.laws.proofs.Checks.{held_only}
use Rattle.laws.specs.LinePart.{no_line, part_is}
use Rattle.laws.specs.Find.{FoundIt, find_finds, finds_find}
use Rattle.laws.specs.Demand2.{Allowed, after_all}
use Rattle.laws.specs.InForce.{NamedSays}
use Rattle.laws.proofs.InForce.{in_force_lem}
use Rattle.laws.specs.Scottish.{scottish_knows, scottish_regular}
use Rattle.answers.specs.Meant.{three_list}
use Rattle.entries.specs.Entries.{rec_of}
use Rattle.entries.proofs.LineLaws.{rec_change}
use Rattle.enquiries.specs.Handed.{lent_as, HandedOf}
use Rattle.find.proofs.FindLaws.{Asked, asked_is}
use Rattle.in_force.proofs.ForceLaws.{body_rec}

-- what is shown of the record at a key: 11 and no bytes, or 0 and a line that carries it
abbrev pub Shows : Option Rec → List ℕ → List ℕ → Type 0
Shows none a l = (a ≡ 11 ∷ 0 ∷ 0 ∷ []) × (l ≡ [])
Shows (some r) a l = (a ≡ 0 ∷ 0 ∷ 0 ∷ []) × (rec_of l ≡ r)

-- the bytes of a part, in the one of two that it stands in
abbrev bytes_in : List ℕ → List ℕ → Found → List ℕ
bytes_in a b f = take f.size (drop f.start (lent_as f.slice a b))

-- ---- the held line

-- the line of a record carries it
carries : (n : ℕ) (r : Rec) → rec_of (change_text n (insert_of r)) ≡ r
unfolding change_text
carries n r = rec_change (change_text n (insert_of r)) r.kind (ident_in scottish r.kind _ (scottish_knows r.kind)) ∙ ap (λ c. c.rec) (change_read n (insert_of r))

module _ (old b : List ℕ) (kind n : ℕ) (st : List Rec) (k : Asked kind) (h : SoundHolding scottish old st) where
  find_is : find scottish old kind n ≡ held_part old (held_at scottish (kind ∷ n ∷ []) 0 st)
  unfolding find find_kind find_in
  find_is = rw (k.known, sound_held scottish scottish_regular old st h, ← k.number)

  -- where a part is found, the record stands at the key
  found_there : (f : Found) → find scottish old kind n ≡ f → f.answer.code ≡ 0 → (r : Rec) × (m : ℕ) × (get (keyed scottish) (kind ∷ n ∷ []) st ≡ some r) × (take f.size (drop f.start old) ≡ change_text m (insert_of r))
  found_there f e z =
      let w : FoundIt scottish old kind n f = subst (FoundIt scottish old kind n) e (find_finds scottish scottish_regular old kind n (rw e z)) in
      (w.rec, w.number, subst (λ l. get (keyed scottish) (kind ∷ n ∷ []) l ≡ some w.rec) (held_only scottish scottish_regular old w.st st w.held h) w.looks, w.bytes)

  held_shows : (o : Option ℕ) → held_at scottish (kind ∷ n ∷ []) 0 st ≡ o → (v : Option Rec) → get (keyed scottish) (kind ∷ n ∷ []) st ≡ v → Shows v (three_list (held_part old o).answer) (bytes_in old b (held_part old o))
  unfolding held_part refusal part_of
  held_shows none e none g = (refl, refl)
  held_shows none e (some r) g =
      let z : (find scottish old kind n).answer.code ≡ 11 = ap (λ f. f.answer.code) (find_is ∙ ap (held_part old) e) in
      absurd (omega (arith, z, ap (λ a. a.code) (finds_find scottish scottish_regular old k.named kind n st r k.known h g)))
  held_shows (some i) e none g = let w = found_there (part_of first (lines_of old) i) (find_is ∙ ap (held_part old) e) refl in absurd (some≢none (sym w.2 ∙ g))
  held_shows (some i) e (some r) g =
      let w = found_there (part_of first (lines_of old) i) (find_is ∙ ap (held_part old) e) refl in
      (refl, ap rec_of w.3 ∙ carries w.1 w.0 ∙ some-injective w.0 r (sym w.2 ∙ g))

-- ---- the body line

-- the line of a body line's change
pub record LineOf (ls : List Line) (i : ℕ) (c : Change Rec) : Type 0 where
  pub text : List ℕ
  pub inside : i < length ls
  pub there : get_or ls i no_line ≡ ends text
  pub carried : rec_of text ≡ c.rec

line_of : (i : ℕ) (ts rest : List (List ℕ)) (pre : List (Change Rec)) (c : Change Rec) (post : List (Change Rec)) → SaysChanges scottish i ts (pre ++ (c ∷ post)) → LineOf (ends_all (ts ++ rest)) (length pre) c
line_of i [] rest [] c post s = absurd s
line_of i [] rest (x ∷ pre) c post s = absurd s
line_of i (t ∷ ts) rest [] c post s = record { text = t; inside = omega arith; there = refl; carried = body_rec i t c s.0 }
line_of i (t ∷ ts) rest (x ∷ pre) c post s = let l = line_of (suc i) ts rest pre c post s.1 in record { text = l.text; inside = omega (arith, l.inside); there = l.there; carried = l.carried }

-- ---- the record in force

module _ (old b : List ℕ) (room kind n : ℕ) (a : Allowed scottish old b room) (k : Asked kind) where
  force_is : in_force scottish old b kind n ≡ in_force_part scottish old b (kind ∷ n ∷ []) a.st (last_naming scottish (kind ∷ n ∷ []) 1 a.cs none)
  unfolding in_force in_force_kind in_force_held in_force_file
  force_is = rw (k.known, sound_held scottish scottish_regular old a.st a.held, sound_read scottish b a.fr a.cs a.lines, ← k.number)

  force_shows : (o : Option (ℕ × Op)) (v : Option Rec) → NamedSays scottish (kind ∷ n ∷ []) a.st a.cs o v
      → Shows v (three_list (in_force_part scottish old b (kind ∷ n ∷ []) a.st o).answer) (bytes_in old b (in_force_part scottish old b (kind ∷ n ∷ []) a.st o))
  unfolding in_force_part part_of unless_deleted refusal
  force_shows none v w = held_shows old b kind n a.st k a.held (held_at scottish (kind ∷ n ∷ []) 0 a.st) refl v (sym w)
  force_shows (some l) v w = go w.1.op l.1 w.5 v w.7
    where
      line : LineOf (lines_of b) l.0 w.1
      line =
          let s = a.lines in
          let x = line_of 1 s.texts (a.fr.metadata_text ∷ a.fr.trailer_text ∷ []) w.0 w.1 w.2 (subst (SaysChanges scottish 1 s.texts) w.3 s.body) in
          let y : LineOf (ends_all (a.fr.header_text ∷ (s.texts ++ (a.fr.metadata_text ∷ a.fr.trailer_text ∷ [])))) (suc (length w.0)) w.1 = record { text = x.text; inside = omega (arith, x.inside); there = x.there; carried = x.carried } in
          rw (s.lines, w.4) y

      stands : rec_of (bytes_in old b (part_of second (lines_of b) l.0)) ≡ w.1.rec
      stands = ap rec_of (part_is second b l.0 line.inside ∙ ap (λ x. x.text) line.there) ∙ line.carried

      go : (p q : Op) → q ≡ p → (v : Option Rec) → v ≡ new p w.1.rec → Shows v (three_list (unless_deleted q (part_of second (lines_of b) l.0)).answer) (bytes_in old b (unless_deleted q (part_of second (lines_of b) l.0)))
      go ins q e v g = rw (e, g) (refl, stands)
      go upd q e v g = rw (e, g) (refl, stands)
      go del q e v g = rw (e, g) (refl, refl)

-- where a file would be taken, what in_force answers and hands back is what a load would leave at that key
pub taken_shows : (s t r : Bor (List ℕ)) (kind n room : ℕ) (answer : List ℕ) → some? (numbered_among enquiries kind) ≡ true → (a : Allowed scottish s.now t.now room)
    → HandedOf (in_force scottish s.now t.now kind n) s t r answer → Shows (get (keyed scottish) (kind ∷ n ∷ []) (after_all scottish a)) answer r.now
taken_shows s t r kind n room answer e a h = rw (h.numbers, h.part.bytes ∙ side f.slice) shown
  where
    f : Found
    f = in_force scottish s.now t.now kind n

    side : (z : Slice) → take f.size (drop f.start (lent_as z s t).now) ≡ take f.size (drop f.start (lent_as z s.now t.now))
    side first = refl
    side second = refl

    v : Option Rec
    v = get (keyed scottish) (kind ∷ n ∷ []) (after_all scottish a)

    shown : Shows v (three_list f.answer) (bytes_in s.now t.now f)
    shown =
        subst (λ (g : Found). Shows v (three_list g.answer) (bytes_in s.now t.now g)) (sym (force_is s.now t.now room kind n a (asked_is kind e)))
        (force_shows s.now t.now room kind n a (asked_is kind e) (last_naming scottish (kind ∷ n ∷ []) 1 a.cs none) v (in_force_lem scottish scottish_regular s.now t.now room a (kind ∷ n ∷ [])))
