-- The laws of find: where a key stands among the records of a sound holding.
use mathlib.Core.Path.{◌≡◌, refl, sym, ap, ◌∙◌, subst}
use mathlib.Core.Bool.{Bool, true, false}
use mathlib.Core.Option.{Option, none, some, some-injective}
use mathlib.Core.List.{List, [], ◌∷◌}
use Prim.Native.Nat.{ℕ, suc, ◌+◌, ◌-◌, ◌≤◌, ◌<◌}
use native.Mathlib.Nat.{add-zero}
use native.Mathlib.Numerals.{add-one}
use native.Mathlib.Omega.{arith}
use borrow.Author.Rules.{rules}
use borrow.Author.Tests.{eq-eqb, ne_eqb}
use lib.Dec.{T, eqb, eqb→eq}
use lib.ListN.{length}
use Rattle.base.specs.Lists.{pick, all, same, some?, bytes, zeros}
use Rattle.base.specs.Tests.{T_true, some≢none}
use Rattle.base.specs.ListLaws.{same_eq, same_refl}
use Rattle.theory.specs.Tri.{Tri, lt, eq, gt, is_eq}
use Rattle.theory.specs.Lex.{lex}
use Rattle.theory.specs.LexLaws.{lex_order}
use Rattle.theory.specs.Decimal.{value, value_f}
use Rattle.theory.specs.Store.{get, gets, Low, Asc}
use Rattle.theory.proofs.StoreLaws.{low_down}
use Rattle.theory.specs.Rank.{rank, ranks}
use Rattle.meaning.specs.Lines.{lines_of}
use Rattle.meaning.specs.Kinds.{Kind, body_line, role, street, blpu, ident, numbered_among}
use Rattle.meaning.specs.Format.{form_named}
use Rattle.meaning.specs.Table.{fields, key_names, enquiries, scottish}
use Rattle.meaning.specs.Records.{Rec, own_fields, key_of, keyed, change_texts}
use Rattle.meaning.specs.Enquiries.{first, refusal, part_of, held_at, held_part, find_in, find_kind, find}
use Rattle.meaning.specs.Holding as meaning
use Rattle.meaning.specs.Holding.{sound, unsound, read_holding, most_records}
use Rattle.keys.specs.Numbers.{key_numbers, numbered}
use Rattle.keys.proofs.KeyLaws.{Agree, get_alike, rank_alike, number_agrees}
use Rattle.keys.proofs.FieldLaws.{numbers_in, narrow}
use Rattle.theory.specs.ReadBack.{Sound}
use Rattle.theory.specs.Run.{as_inserts}
use Rattle.meaning.specs.Steps.{held_tests}
use Rattle.laws.specs.LinesAndFields.{ends_all}
use Rattle.laws.specs.SoundHolding.{held_is_sound}
use Rattle.laws.specs.Body.{fine}
use Rattle.laws.specs.Scottish.{scottish_regular}
use Rattle.meaning.specs.Codes.{key_absent, holding_unsound, kind_not_asked}
use Rattle.meaning.specs.Answers as meant
use Rattle.meaning.specs.Answers.{of_line, at_line, alone}
use Rattle.answers.specs.declared.refusal.Refusal.{Refusal}
use Rattle.answers.specs.Meant.{refusal_meant}
use Rattle.enquiries.proofs.HandLaws.{refused_on}
use Rattle.std.specs.Prelude as std
use Rattle.std.specs.Prelude.{Some, None, Result, Ok, Err, IsErrAnd}
use Rattle.std.specs.Bool.{then_some}
use Rattle.std.specs.Option.{ok_or}
use Rattle.holding.specs.Read.{records_of, HeldIs}
use Rattle.holding.proofs.ReadLaws.{held_state, held_ordered, Refused}
use Rattle.places.specs.Places.{says}
use Rattle.places.specs.Ordered.{Ordered}
use Rattle.layout.specs.Rows.{padded}
use Rattle.enquiries.specs.declared.finding.Part.{Part}
use Rattle.enquiries.specs.Finding.{found_said}
use Rattle.find.specs.Found.{line_found, Enquired, unopened, OpenedAs}

-- ---- the kinds that can be asked for

-- a street
pub asked_street : (k n : ℕ) → n ≡ 11 → k ≡ n → eqb k n ≡ some? (numbered_among enquiries k)
unfolding numbered_among enquiries ident bytes value value_f
asked_street k n e q = eq-eqb k n q ∙ rw (eq-eqb k 11 (q ∙ e))

-- else a BLPU
pub asked_blpu : (k n m : ℕ) → n ≡ 11 → m ≡ 21 → (k ≡ n → ⊥) → eqb k m ≡ some? (numbered_among enquiries k)
unfolding numbered_among enquiries ident bytes value value_f
asked_blpu k n m e u q = rw (u, ne_eqb k 11 (λ z. q (z ∙ sym e))) (go (eqb k 21))
  where
    go : (b : Bool) → b ≡ some? (pick b (some blpu) none)
    go true = refl
    go false = refl

pub ruleset asked = (rules, asked_street, asked_blpu)

-- ---- where a key stands

-- keys that are not compared as equal are not the same
apart_same : (a b : List ℕ) (c : Tri) → lex a b ≡ c → (c ≡ eq → ⊥) → same a b ≡ false
apart_same a b c e n = go (same a b) refl
  where
    go : (s : Bool) → same a b ≡ s → s ≡ false
    go true q = absurd (n (sym e ∙ ap (lex a) (sym (same_eq a b (rw q tt))) ∙ lex_order.same a))
    go false q = refl

no_lt : lt ≡ eq → ⊥
no_lt e = let z : ◌≡◌ {A = ℕ} 0 1 = cc in omega arith

no_gt : gt ≡ eq → ⊥
no_gt e = let z : ◌≡◌ {A = ℕ} 0 1 = cc in omega arith

-- they are compared as equal just where they are the same
pub same_lex : (a b : List ℕ) → is_eq (lex a b) ≡ same a b
same_lex a b = go (lex a b) refl
  where
    go : (c : Tri) → lex a b ≡ c → is_eq c ≡ same a b
    go lt e = sym (apart_same a b lt e no_lt)
    go eq e = sym (T_true (same a b) (subst (λ x. T (same a x)) (lex_order.equal a b e) (same_refl a)))
    go gt e = sym (apart_same a b gt e no_gt)

-- a key before all records is that of none
held_low : (q : List ℕ) (i : ℕ) (st : List Rec) → Low (keyed scottish) q st → Asc (keyed scottish) st → held_at scottish q i st ≡ none
unfolding held_at
held_low q i [] l a = refl
held_low q i (r ∷ rs) l a = rw (apart_same q (key_of scottish r) lt l no_lt) (held_low q (suc i) rs (low_down (keyed scottish) q (key_of scottish r) rs l a.0) a.1)

-- the place of a key is how many records stand before it
held_rank : (q : List ℕ) (i : ℕ) (st : List Rec) → Asc (keyed scottish) st → held_at scottish q i st ≡ pick (some? (get (keyed scottish) q st)) (some (i + rank (keyed scottish) q st)) none
unfolding held_at get rank
held_rank q i [] a = refl
held_rank q i (r ∷ rs) a = go (lex q (key_of scottish r)) refl (held_rank q (suc i) rs a.1)
  where
    go : (c : Tri) → lex q (key_of scottish r) ≡ c → held_at scottish q (suc i) rs ≡ pick (some? (get (keyed scottish) q rs)) (some (suc i + rank (keyed scottish) q rs)) none
        → pick (same q (key_of scottish r)) (some i) (held_at scottish q (suc i) rs) ≡ pick (some? (gets (keyed scottish) c r (get (keyed scottish) q rs))) (some (i + ranks (keyed scottish) c (rank (keyed scottish) q rs))) none
    go lt e ih = unfold gets ranks in rw (apart_same q (key_of scottish r) lt e no_lt) (held_low q (suc i) rs (low_down (keyed scottish) q (key_of scottish r) rs e a.0) a.1)
    go eq e ih =
        let s : T (same q (key_of scottish r)) = subst (λ x. T (same q x)) (lex_order.equal q (key_of scottish r) e) (same_refl q) in
        unfold gets ranks in rw (T_true (same q (key_of scottish r)) s) (ap some (sym (add-zero i)))
    go gt e ih =
        let m : suc i + rank (keyed scottish) q rs ≡ i + suc (rank (keyed scottish) q rs) = omega arith in
        unfold gets ranks in rw (apart_same q (key_of scottish r) gt e no_gt) (ih ∙ ap (λ (x : ℕ). pick (some? (get (keyed scottish) q rs)) (some x) none) m)

-- the place of a line that is counted from 1
abbrev pub place_of : std.Option ℕ → Option ℕ
place_of (Some n) = some (n - 1)
place_of None = none

-- so its line is one more
held_line_lem : (a q : List ℕ) (st : List Rec) → T (all (fine scottish) st) → Asc (keyed scottish) st → Agree a q → held_at scottish q 0 st ≡ place_of (line_found a st)
unfolding line_found
held_line_lem a q st f asc e =
    held_rank q 0 st asc ∙ rw (get_alike st f a q e, rank_alike st f a q e) (go (some? (get (keyed scottish) q st)) (rank (keyed scottish) q st))
  where
    go : (b : Bool) (n : ℕ) → pick b (some (0 + n)) none ≡ place_of (pick b (Some (suc n)) None)
    go true n = let m : 0 + n ≡ suc n - 1 = omega arith in ap some m
    go false n = refl

-- a kind that can be asked for, and that a number is its key
pub record Asked (kind : ℕ) : Type 0 where
  pub named : Kind
  pub known : numbered_among enquiries kind ≡ some named
  pub number : kind ≡ value (ident named)
  pub numbers : T (numbers_in named (key_names named))
  pub single : length (key_names named) ≡ 1
  pub body : role named ≡ body_line

-- every kind that an enquiry may name is such a one
pub asked_is : (kind : ℕ) → some? (numbered_among enquiries kind) ≡ true → Asked kind
unfolding numbered_among enquiries
asked_is kind e = go (eqb kind (value (ident street))) refl (eqb kind (value (ident blpu))) refl e
  where
    go : (a : Bool) → eqb kind (value (ident street)) ≡ a → (b : Bool) → eqb kind (value (ident blpu)) ≡ b → some? (pick a (some street) (pick b (some blpu) none)) ≡ true → Asked kind
    go true p b q t = record { named = street; known = rw p; number = eqb→eq kind (value (ident street)) (rw p tt); numbers = unfold numbers_in key_names fields own_fields form_named narrow in tt; single = unfold key_names in refl; body = unfold role in refl }
    go false p true q t = record { named = blpu; known = rw (p, q); number = eqb→eq kind (value (ident blpu)) (rw q tt); numbers = unfold numbers_in key_names fields own_fields form_named narrow in tt; single = unfold key_names in refl; body = unfold role in refl }
    go false p false q t = let z : ◌≡◌ {A = Bool} false true = t in absurd (let y : ◌≡◌ {A = ℕ} 0 1 = cc in omega arith)

-- the number that is asked for is compared as the key is
pub asked_agrees : (kind n : ℕ) → Asked kind → Agree (kind ∷ n ∷ 0 ∷ 0 ∷ []) (kind ∷ n ∷ [])
unfolding padded zeros
asked_agrees kind n k = rw k.number (number_agrees k.named n k.numbers k.single)

-- no other kind can be asked for
pub no_kind : (kind : ℕ) (b : Bool) → b ≡ some? (numbered_among enquiries kind) → b ≡ false → numbered_among enquiries kind ≡ none
no_kind kind b e f = go (numbered_among enquiries kind) (sym e ∙ f)
  where
    go : (o : Option Kind) → some? o ≡ false → o ≡ none
    go none z = refl
    go (some k) z = let y : ◌≡◌ {A = Bool} true false = z in absurd (let x : ◌≡◌ {A = ℕ} 0 1 = cc in omega arith)

-- a key that stands has fewer records before it than there are
rank_in : (k : List ℕ) (st : List Rec) → some? (get numbered k st) ≡ true → rank numbered k st < length st
unfolding get rank
rank_in k [] e = let z : ◌≡◌ {A = Bool} false true = e in absurd (let y : ◌≡◌ {A = ℕ} 0 1 = cc in omega arith)
rank_in k (x ∷ xs) e = go (lex k (key_numbers x)) e (rank_in k xs)
  where
    go : (c : Tri) → some? (gets numbered c x (get numbered k xs)) ≡ true → (some? (get numbered k xs) ≡ true → rank numbered k xs < length xs) → ranks numbered c (rank numbered k xs) < suc (length xs)
    go lt e ih = unfold ranks in omega arith
    go eq e ih = unfold ranks in omega arith
    go gt e ih = unfold gets ranks in omega (arith, ih e)

-- so its line is one of theirs
line_in : (k : List ℕ) (st : List Rec) (l : ℕ) → line_found k st ≡ Some l → (1 ≤ l) × (l ≤ length st)
unfolding line_found
line_in k st l n = go (some? (get numbered k st)) (λ e. rank_in k st e) n
  where
    go : (b : Bool) → (b ≡ true → rank numbered k st < length st) → pick b (Some (suc (rank numbered k st))) None ≡ Some l → (1 ≤ l) × (l ≤ length st)
    go true h n = let e : suc (rank numbered k st) ≡ l = cc in (omega (arith, e), omega (arith, e, h refl))
    go false h n = absurd (let z : ◌≡◌ {A = std.Option ℕ} None (Some l) = n in cc)

-- a holding has as many lines as records
count_lines : (n : ℕ) (st : List Rec) → length (ends_all (change_texts n (as_inserts st))) ≡ length st
unfolding change_texts
count_lines n [] = refl
count_lines n (r ∷ rs) = ap suc (count_lines (suc n) rs)

-- ---- the held line

module _ (s a o : List ℕ) (r kind n : ℕ) (w : Enquired s a o r kind) where
  -- the holding's records
  abbrev st : List Rec
  st = records_of (read_holding scottish s)

  state : Sound (keyed scottish) (fine scottish) (held_tests scottish) st
  state = held_state s a o w.counts r w.read

  -- they are few
  pub held_few : r ≤ most_records
  held_few = w.read.listed.few

  -- and their entries are in order
  pub asked_ordered : Ordered s s a o r
  asked_ordered = held_ordered s a o w.counts r w.read s w.space

  -- what find says of it
  pub find_held : held_part s (held_at scottish (kind ∷ n ∷ []) 0 st) ≡ find scottish s kind n
  unfolding find find_kind find_in
  find_held =
      let k = asked_is kind w.asked in
      sym
      (ap (find_kind scottish s n) k.known
      ∙ ap (find_in scottish s (value (ident k.named) ∷ n ∷ [])) w.read.sound
      ∙ ap (λ v. held_part s (held_at scottish (v ∷ n ∷ []) 0 st)) (sym k.number))

  module _ (k : List ℕ) (y : k ≡ kind ∷ n ∷ 0 ∷ 0 ∷ []) (g : std.Option ℕ) (f : g ≡ line_found k (says s s a r)) (e : Refusal) (q : Result ℕ Refusal) (p : q ≡ ok_or g e) where
    here : g ≡ line_found (kind ∷ n ∷ 0 ∷ 0 ∷ []) st
    here = f ∙ ap (line_found k) (w.read.listed.says s) ∙ ap (λ j. line_found j st) y

    -- the key's place among them
    place : held_at scottish (kind ∷ n ∷ []) 0 st ≡ place_of g
    place = held_line_lem (kind ∷ n ∷ 0 ∷ 0 ∷ []) (kind ∷ n ∷ []) st state.fines state.asc (asked_agrees kind n (asked_is kind w.asked)) ∙ ap place_of (sym here)

    -- 11 for an absent key
    pub held_absent : refusal_meant e ≡ alone key_absent → (d : Refusal) → q ≡ Err d → (x : Result Part Refusal) → IsErrAnd x (λ b. b ≡ d) → found_said x ≡ held_part s (held_at scottish (kind ∷ n ∷ []) 0 st)
    unfolding held_part
    held_absent u d z x h = refused_on x d h ∙ go g place (sym p ∙ z)
      where
        go : (g : std.Option ℕ) → held_at scottish (kind ∷ n ∷ []) 0 st ≡ place_of g → ok_or g e ≡ Err d → refusal (refusal_meant d) ≡ held_part s (held_at scottish (kind ∷ n ∷ []) 0 st)
        go (Some l) i z = absurd (let v : ◌≡◌ {A = Result ℕ Refusal} (Ok l) (Err d) = z in cc)
        go None i z = let v : e ≡ d = cc in rw i (ap (λ r. refusal (refusal_meant r)) (sym v) ∙ ap refusal u)

    module _ (l : ℕ) (z : q ≡ Ok l) where
      stands : g ≡ Some l
      stands = go g (sym p ∙ z)
        where
          go : (g : std.Option ℕ) → ok_or g e ≡ Ok l → g ≡ Some l
          go (Some m) z = let v : m ≡ l = cc in ap Some v
          go None z = absurd (let v : ◌≡◌ {A = Result ℕ Refusal} (Err e) (Ok l) = z in cc)

      -- its line is one of the holding's
      pub held_in : (1 ≤ l) × (l ≤ length (lines_of s))
      held_in =
          let i = line_in (kind ∷ n ∷ 0 ∷ 0 ∷ []) st l (sym here ∙ stands) in
          (i.0, omega (arith, i.1, ap length (held_is_sound scottish scottish_regular s st w.read.sound).lines, count_lines 1 st))

      -- and is handed back
      pub held_there : part_of first (lines_of s) (l - 1) ≡ held_part s (held_at scottish (kind ∷ n ∷ []) 0 st)
      unfolding held_part
      held_there = rw (place, stands)

pub ruleset held = (rules, held_few, asked_ordered, held_absent, held_in, held_there)

-- ---- what comes first

module _ (h a o : List ℕ) (kind : ℕ) (b : Bool) (e : b ≡ some? (numbered_among enquiries kind)) where
  -- 15 for a kind that can't be asked for
  pub opened_other : b ≡ false → (r : Refusal) → refusal_meant r ≡ alone kind_not_asked → unopened (numbered_among enquiries kind) (read_holding scottish h) ≡ some (refusal_meant r)
  unfolding unopened
  opened_other f r u = rw (no_kind kind b e f, ← u)

  -- 14 for an unsound holding, else it may be searched
  pub opened : b ≡ true → (t : List ℕ) (r : Result ℕ ℕ) → HeldIs h r a o t → (q : Result ℕ Refusal) → Refused r q → most_records ≤ length a → OpenedAs h a o kind q
  unfolding unopened
  opened f t (Ok n) w q m l = rw m (record { asked = sym e ∙ f; counts = t; read = w; space = l })
  opened f t (Err n) w (Ok x) m l = absurd m
  opened f t (Err n) w (Err d) m l = rw ((asked_is kind (sym e ∙ f)).known, w, m)

pub ruleset opens = (rules, opened_other, opened)

-- find says as much
pub find_unopened : (h : List ℕ) (kind n : ℕ) (r : meant.Refusal) → unopened (numbered_among enquiries kind) (read_holding scottish h) ≡ some r → refusal r ≡ find scottish h kind n
unfolding find find_kind find_in unopened
find_unopened h kind n r e = asked (numbered_among enquiries kind) e
  where
    holds : (k : Kind) (q : List ℕ) (u : meaning.Held) → unopened (some k) u ≡ some r → refusal r ≡ find_in scottish h q u
    holds k q (sound l) e = absurd (some≢none (sym e))
    holds k q (unsound m) e = ap refusal (sym (some-injective (at_line m (of_line holding_unsound)) r e))

    asked : (o : Option Kind) → unopened o (read_holding scottish h) ≡ some r → refusal r ≡ find_kind scottish h n o
    asked none e = ap refusal (sym (some-injective (alone kind_not_asked) r e))
    asked (some k) e = holds k (value (ident k) ∷ n ∷ []) (read_holding scottish h) e

-- and names no byte
pub unopened_unplaced : (o : Option Kind) (u : meaning.Held) (r : meant.Refusal) → unopened o u ≡ some r → r.place ≡ 0
unfolding unopened
unopened_unplaced none u r e = ap (λ x. x.place) (sym (some-injective (alone kind_not_asked) r e))
unopened_unplaced (some k) (sound st) r e = absurd (some≢none (sym e))
unopened_unplaced (some k) (unsound m) r e = ap (λ x. x.place) (sym (some-injective (at_line m (of_line holding_unsound)) r e))

-- the answer of either
pub open_refused : (h a o : List ℕ) (kind : ℕ) (q : Result ℕ Refusal) (d : Refusal) → OpenedAs h a o kind q → q ≡ Err d → unopened (numbered_among enquiries kind) (read_holding scottish h) ≡ some (refusal_meant d)
open_refused h a o kind q d w e = subst (OpenedAs h a o kind) e w

pub open_found : (h a o : List ℕ) (kind : ℕ) (q : Result ℕ Refusal) (n : ℕ) → OpenedAs h a o kind q → q ≡ Ok n → Enquired h a o n kind
open_found h a o kind q n w e = subst (OpenedAs h a o kind) e w

-- ---- the line of a key

-- one more than how many stand before it, if it stands
pub line_told : (k : List ℕ) (st : List Rec) (i : ℕ) (b : Bool) → i ≡ rank numbered k st → b ≡ some? (get numbered k st) → (r : std.Option ℕ) → r ≡ then_some b (i + 1) → r ≡ line_found k st
unfolding line_found
line_told k st i b p q r e = e ∙ rw (← q, ← p) (go b)
  where
    go : (c : Bool) → then_some c (i + 1) ≡ pick c (Some (suc i)) None
    go true = ap Some (add-one i)
    go false = refl

pub ruleset found = (rules, line_told)
