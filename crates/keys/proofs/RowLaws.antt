-- The laws by which two keys are compared, and a key and a reference are read at the places that the table has for them.
use mathlib.Core.Path.{◌≡◌, refl, sym, ap, ap₂, ◌∙◌}
use mathlib.Core.Bool.{Bool, true, false, ◌||◌}
use mathlib.Core.Option.{Option, none, some}
use mathlib.Core.List.{List, [], ◌∷◌, ◌++◌, map}
use Prim.Native.Nat.{ℕ, zero, suc, ◌+◌, ◌-◌, ◌≤◌, ◌<◌}
use Prim.Native.String.{String}
use native.Mathlib.Omega.{arith}
use borrow.Author.Rules.{rules}
use borrow.Author.Tests.{le-ltb}
use lib.Dec.{T, leb, leb→le}
use lib.Text.{eqt}
use lib.ListN.{get_or, drop, drop_of_length-le}
use Rattle.std.specs.declared.cmp.Ordering.{Ordering}
use Rattle.std.specs.declared.cmp.Ordering.TheVariants.{Less, Equal, Greater}
use Rattle.std.specs.Ordering.{nat_cmp, ordering_then}
use Rattle.base.specs.Lists.{pick, all, zeros}
use Rattle.base.specs.Tests.{and_l, and_r}
use Rattle.theory.specs.Tri.{Tri, lt, eq, gt}
use Rattle.theory.specs.Lex.{cmp_n, and_then, lex, Is}
use Rattle.theory.specs.LexLaws.{is_cmp_n, cmp_n_is}
use Rattle.theory.specs.Decimal.{value}
use Rattle.meaning.specs.Lines.{fields_of}
use Rattle.meaning.specs.Forms.{is_empty}
use Rattle.meaning.specs.Kinds.{Kind, kinds, ident}
use Rattle.meaning.specs.Format.{Field, field_number, named, form_named}
use Rattle.meaning.specs.Table.{fields, key_names, refers_to, scottish}
use Rattle.meaning.specs.Records.{own_fields, empty_named}
use Rattle.laws.specs.Kinds.{every}
use Rattle.text.specs.Order.{tri_of}
use Rattle.text.proofs.OrderLaws.{tri_slice_cmp}
use Rattle.layout.specs.declared.records.Layout.{Layout}
use Rattle.layout.specs.Rows.{bare, no_row, row_of, places_of, padded, targets, sources, laid_out}
use Rattle.layout.proofs.CheckLaws.{place_from, named_at}
use Rattle.keys.specs.Numbers.{number_named, numbers_named, key_numbers, ref_key, ref_first, ref_at}
use Rattle.keys.specs.DigitLaws.{lex_one}
use Rattle.keys.proofs.KeyLaws.{rows_few}
use Rattle.keys.specs.Places.{field_at, number_at, empty_at}
use Rattle.keys.proofs.PlaceLaws.{empty_none}

-- ---- two keys

module _ (x y : ℕ) (xs ys : List ℕ) (o : Tri) where
  -- numbers that differ say the order
  pub lex_first : (x ≡ y → ⊥) → o ≡ cmp_n x y → o ≡ lex (x ∷ xs) (y ∷ ys)
  unfolding lex and_then
  lex_first n e = e ∙ go (cmp_n x y) (cmp_n_is x y)
    where
      go : (c : Tri) → Is c x y → c ≡ and_then c (lex xs ys)
      go lt h = refl
      go eq h = absurd (n h)
      go gt h = refl

  -- those that don't leave it to the rest
  pub lex_after : x ≡ y → o ≡ lex xs ys → o ≡ lex (x ∷ xs) (y ∷ ys)
  unfolding lex and_then
  lex_after h e = rw (is_cmp_n x y eq h) e

-- the last number says it in any case
pub lex_last : (x y : ℕ) (o : Tri) → o ≡ cmp_n x y → o ≡ lex (x ∷ []) (y ∷ [])
lex_last x y o e = e ∙ sym (lex_one x y)

-- a last answer is its own
then_last : (o : Ordering) → o ≡ ordering_then o Equal
then_last Less = refl
then_last Equal = refl
then_last Greater = refl

-- what std answers of four numbers, one after another
pub key_told : (a b c d x y z w : ℕ) (o : Ordering)
    → o ≡ ordering_then (nat_cmp a x) (ordering_then (nat_cmp b y) (ordering_then (nat_cmp c z) (nat_cmp d w)))
    → tri_of o ≡ lex (a ∷ b ∷ c ∷ d ∷ []) (x ∷ y ∷ z ∷ w ∷ [])
key_told a b c d x y z w o e =
    ap tri_of (e ∙ ap (λ l. ordering_then (nat_cmp a x) (ordering_then (nat_cmp b y) (ordering_then (nat_cmp c z) l))) (then_last (nat_cmp d w)))
    ∙ tri_slice_cmp (a ∷ b ∷ c ∷ d ∷ []) (x ∷ y ∷ z ∷ w ∷ [])

-- ---- a name's place in the content

-- the field of that name is one of the content's
abbrev pub own : Kind → String → Bool
own k s = leb 4 (field_number 1 s (fields k))

-- a place past j fields is the same among the others
place_drop : (j n : ℕ) (s : String) (ds : List Field) → suc n + j ≤ field_number (suc n) s ds → field_number (suc n) s ds ≡ field_number (suc n + j) s (drop j ds)
unfolding field_number
place_drop zero n s ds h = let z : suc n + 0 ≡ suc n = omega arith in rw z
place_drop (suc j) n s [] h = absurd (omega arith)
place_drop (suc j) n s (d ∷ ds) h = go (eqt s d.name) h (place_drop j (suc n) s ds)
  where
    go : (b : Bool) → suc n + suc j ≤ pick b (suc n) (field_number (suc (suc n)) s ds)
        → (suc (suc n) + j ≤ field_number (suc (suc n)) s ds → field_number (suc (suc n)) s ds ≡ field_number (suc (suc n) + j) s (drop j ds))
        → pick b (suc n) (field_number (suc (suc n)) s ds) ≡ field_number (suc n + suc j) s (drop j ds)
    go true h ih = absurd (omega arith)
    go false h ih = let z : suc n + suc j ≡ suc (suc n) + j = omega arith in rw z (ih (omega arith))

-- the form of a name is the one at its place
form_at : (n : ℕ) (s : String) (ds : List Field) → (field_number (suc n) s ds ≡ 0 → ⊥) → form_named s ds ≡ (get_or (map bare ds) (field_number (suc n) s ds - suc n) no_row).0
unfolding form_named field_number
form_at n s [] h = absurd (h refl)
form_at n s (d ∷ ds) h = go (eqt s d.name) h (place_from (suc (suc n)) s ds) (form_at (suc n) s ds)
  where
    go : (b : Bool) → (pick b (suc n) (field_number (suc (suc n)) s ds) ≡ 0 → ⊥) → ((field_number (suc (suc n)) s ds ≡ 0 → ⊥) → suc (suc n) ≤ field_number (suc (suc n)) s ds)
        → ((field_number (suc (suc n)) s ds ≡ 0 → ⊥) → form_named s ds ≡ (get_or (map bare ds) (field_number (suc (suc n)) s ds - suc (suc n)) no_row).0)
        → pick b d.form (form_named s ds) ≡ (get_or (bare d ∷ map bare ds) (pick b (suc n) (field_number (suc (suc n)) s ds) - suc n) no_row).0
    go true h l ih = let z : suc n - suc n ≡ 0 = omega arith in rw z
    go false h l ih =
        let m = l h in
        let z : field_number (suc (suc n)) s ds - suc n ≡ suc (field_number (suc (suc n)) s ds - suc (suc n)) = omega arith in
        rw z (ih h)

-- rows after j others
row_drop : (j : ℕ) (ds : List Field) (i : ℕ) → get_or (map bare (drop j ds)) i no_row ≡ get_or (map bare ds) (j + i) no_row
row_drop zero ds i = let z : 0 + i ≡ i = omega arith in rw z
row_drop (suc j) [] i = refl
row_drop (suc j) (d ∷ ds) i = let z : suc j + i ≡ suc (j + i) = omega arith in rw z (row_drop j ds i)

module _ (k : Kind) (c : List ℕ) (s : String) (o : T (own k s)) where
  high : 4 ≤ field_number 1 s (fields k)
  high = leb→le 4 (field_number 1 s (fields k)) o

  moved : field_number 1 s (fields k) ≡ field_number 4 s (own_fields scottish k)
  unfolding own_fields
  moved = place_drop 3 0 s (fields k) high

  -- a name's field is the one at its place
  name_field : named s (own_fields scottish k) (fields_of c) ≡ field_at c (field_number 1 s (fields k))
  unfolding field_at
  name_field = named_at 3 s (own_fields scottish k) (fields_of c) (λ z. absurd (omega (arith, high, moved))) ∙ rw moved

  -- and its form
  name_form : form_named s (own_fields scottish k) ≡ (row_of k (field_number 1 s (fields k) - 1)).0
  unfolding row_of own_fields
  name_form =
      let z : 3 + (field_number 4 s (own_fields scottish k) - 4) ≡ field_number 1 s (fields k) - 1 = omega (arith, high, moved) in
      form_at 3 s (own_fields scottish k) (λ z. absurd (omega (arith, high, moved)))
      ∙ ap (λ r. r.0) (row_drop 3 (fields k) (field_number 4 s (own_fields scottish k) - 4))
      ∙ ap (λ i. (get_or (map bare (fields k)) i no_row).0) z

  -- so is its number
  name_number : number_at k c (field_number 1 s (fields k)) ≡ number_named (record { kind = k; content = c }) s
  unfolding number_at number_named
  name_number = rw (le-ltb (field_number 1 s (fields k)) 4 high, name_field, name_form)

  -- and whether it is empty
  name_empty : empty_at k c (field_number 1 s (fields k)) ≡ empty_named scottish (record { kind = k; content = c }) (s ∷ [])
  unfolding empty_at empty_named
  name_empty = rw (le-ltb (field_number 1 s (fields k)) 4 high, name_field, name_form) (sym (or_false (is_empty (row_of k (field_number 1 s (fields k) - 1)).0 (field_at c (field_number 1 s (fields k))))))
    where
      or_false : (b : Bool) → (b || false) ≡ b
      or_false true = refl
      or_false false = refl

-- ---- a key

none_there : (k : Kind) (c : List ℕ) (m : ℕ) → map (number_at k c) (zeros m) ≡ zeros m
unfolding zeros number_at
none_there k c zero = refl
none_there k c (suc m) = ap (λ l. 0 ∷ l) (none_there k c m)

-- the numbers at the places of names, and zeros where there is none
padded_numbers : (k : Kind) (c : List ℕ) (m : ℕ) (ss : List String) → T (all (own k) ss)
    → map (number_at k c) (padded m (places_of k ss)) ≡ padded m (numbers_named (record { kind = k; content = c }) ss)
unfolding padded places_of numbers_named
padded_numbers k c zero ss t = refl
padded_numbers k c (suc m) [] t = none_there k c (suc m)
padded_numbers k c (suc m) (s ∷ ss) t = ap₂ (λ n l. n ∷ l) (name_number k c s (and_l (own k s) (all (own k) ss) t)) (padded_numbers k c m ss (and_r (own k s) (all (own k) ss) t))

-- the fields of every key are the content's
keys_own : (k : Kind) → T (all (own k) (key_names k))
unfolding kinds key_names fields field_number
keys_own k = every (λ k. all (own k) (key_names k)) tt k

-- three places, one by one
three : (f : ℕ → ℕ) (ns : List ℕ) → f (get_or (padded 3 ns) 0 0) ∷ f (get_or (padded 3 ns) 1 0) ∷ f (get_or (padded 3 ns) 2 0) ∷ [] ≡ map f (padded 3 ns)
unfolding padded zeros
three f [] = refl
three f (a ∷ []) = refl
three f (a ∷ (b ∷ [])) = refl
three f (a ∷ (b ∷ (c ∷ ns))) = refl

-- a key is the kind's number and those at the key's places
pub key_is : (k : Kind) (c : List ℕ) (l : Layout) (first second third : ℕ) → l ≡ laid_out k
    → first ≡ number_at k c (get_or l.key 0 0) → second ≡ number_at k c (get_or l.key 1 0) → third ≡ number_at k c (get_or l.key 2 0)
    → l.number ∷ first ∷ second ∷ third ∷ [] ≡ key_numbers (record { kind = k; content = c })
unfolding laid_out key_numbers
key_is k c l first second third e p q r =
    let n : l.number ≡ value (ident k) = ap (λ x. x.number) e in
    let m : l.key ≡ padded 3 (places_of k (key_names k)) = ap (λ x. x.key) e in
    rw (p, q, r, m, n) (ap (λ l. value (ident k) ∷ l) (three (number_at k c) (places_of k (key_names k)) ∙ padded_numbers k c 3 (key_names k) (keys_own k)))

pub ruleset keyed = (rules, key_is)

-- ---- references

-- a reference is by one field, and that is the content's
abbrev pub single : Kind → List String → Bool
single k [] = false
single k (s ∷ []) = own k s
single k (s ∷ (t ∷ ss)) = false

-- so are all
rows_single : (k : Kind) → T (all (λ p. single k p.1) (refers_to k))
unfolding kinds refers_to fields field_number
rows_single k = every (λ k. all (λ p. single k p.1) (refers_to k)) tt k

-- a number that is padded, where it is given
get_d_padded : (m : ℕ) (ns : List ℕ) (j : ℕ) → j < m → get_or (padded m ns) j 0 ≡ get_or ns j 0
unfolding padded
get_d_padded zero ns j h = absurd (omega arith)
get_d_padded (suc m) [] j h = zero_at (suc m) j
  where
    zero_at : (m j : ℕ) → get_or (zeros m) j 0 ≡ 0
    zero_at zero j = unfold zeros in refl
    zero_at (suc m) zero = unfold zeros in refl
    zero_at (suc m) (suc j) = zero_more m j (zero_at m j)
      where
        zero_more : (m j : ℕ) → get_or (zeros m) j 0 ≡ 0 → get_or (zeros (suc m)) (suc j) 0 ≡ 0
        zero_more m j e = unfold zeros in e
get_d_padded (suc m) (n ∷ ns) zero h = refl
get_d_padded (suc m) (n ∷ ns) (suc j) h = get_d_padded m ns j (omega arith)

-- what is referred to in a row, by its place
abbrev pub placed : Kind → List ℕ → ℕ → ℕ → Option (List ℕ)
placed k c to p = pick (empty_at k c p) none (some (to ∷ number_at k c p ∷ 0 ∷ 0 ∷ []))

row_first : (k : Kind) (c : List ℕ) (q : Kind × List String) (ss : List String) → q.1 ≡ ss → T (single k ss) → (ps : List (Kind × List String))
    → ref_first (record { kind = k; content = c }) (q ∷ ps) ≡ placed k c (value (ident q.0)) (get_or (places_of k (ss ++ sources ps)) 0 0)
row_first k c q [] e t ps = absurd t
row_first k c q (s ∷ (u ∷ ss)) e t ps = absurd t
row_first k c q (s ∷ []) e t ps = unfold ref_first ref_key places_of numbers_named padded zeros in (rw (e, name_empty k c s t, name_number k c s t))

row_at : (k : Kind) (c : List ℕ) (ps : List (Kind × List String)) → T (all (λ p. single k p.1) ps) → (j : ℕ)
    → ref_first (record { kind = k; content = c }) (drop j ps) ≡ placed k c (get_or (targets ps) j 0) (get_or (places_of k (sources ps)) j 0)
unfolding targets sources
row_at k c [] t zero = unfold ref_first places_of empty_at in refl
row_at k c [] t (suc j) = unfold ref_first places_of empty_at in refl
row_at k c (q ∷ ps) t zero = row_first k c q q.1 refl (and_l (single k q.1) (all (λ p. single k p.1) ps) t) ps
row_at k c (q ∷ ps) t (suc j) = row_at k c ps (and_r (single k q.1) (all (λ p. single k p.1) ps) t) j ∙ ap (placed k c (get_or (targets ps) j 0)) (next q.1 (and_l (single k q.1) (all (λ p. single k p.1) ps) t))
  where
    next : (ss : List String) → T (single k ss) → get_or (places_of k (sources ps)) j 0 ≡ get_or (places_of k (ss ++ sources ps)) (suc j) 0
    next [] t = absurd t
    next (s ∷ (u ∷ ss)) t = absurd t
    next (s ∷ []) t = unfold places_of in refl

-- there is no third row
pub ref_beyond : (k : Kind) (c : List ℕ) (j : ℕ) → 1 < j → none ≡ ref_at k c j
unfolding ref_at ref_first
ref_beyond k c j h = rw (drop_of_length-le (refers_to k) {i = j} (omega (arith, rows_few k)))

module _ (k : Kind) (c : List ℕ) (j : ℕ) (l : Layout) (e : l ≡ laid_out k) (h : j ≤ 1) where
  ref_placed : ref_at k c j ≡ placed k c (get_or l.to j 0) (get_or l.by j 0)
  unfolding ref_at laid_out
  ref_placed =
      let to : l.to ≡ padded 2 (targets (refers_to k)) = ap (λ x. x.to) e in
      let by : l.by ≡ padded 2 (places_of k (sources (refers_to k))) = ap (λ x. x.by) e in
      row_at k c (refers_to k) (rows_single k) j
      ∙ ap₂ (placed k c) (sym (rw to (get_d_padded 2 (targets (refers_to k)) j (omega arith)))) (sym (rw by (get_d_padded 2 (places_of k (sources (refers_to k))) j (omega arith))))

  module _ (b : Bool) (q : b ≡ empty_at k c (get_or l.by j 0)) where
    -- an empty field refers to nothing
    pub ref_none : b ≡ true → none ≡ ref_at k c j
    ref_none t = rw (ref_placed, sym q ∙ t)

    -- another to the key of its number
    pub ref_some : (n : ℕ) → b ≡ false → n ≡ number_at k c (get_or l.by j 0) → some (get_or l.to j 0 ∷ n ∷ 0 ∷ 0 ∷ []) ≡ ref_at k c j
    ref_some n t m = rw (ref_placed, sym q ∙ t, m)

  -- where there is no such row there is no field
  pub ref_low : get_or l.by j 0 < 4 → none ≡ ref_at k c j
  ref_low p = ref_none true (empty_none k c (get_or l.by j 0) p) refl
