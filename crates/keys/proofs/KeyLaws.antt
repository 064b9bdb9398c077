-- For sound records, keys as numbers stand in the order of keys as the meaning has them, and so do the keys that are referred to.
use Rattle.std.specs.Prelude.{◌≡◌, Bool, ◌&&◌, ◌||◌, ℕ, ◌≤◌, eqb, leb, length, drop}
use Rattle.std.proofs.Math.Path.{refl, sym, ap, subst}
use Rattle.std.proofs.Common.{◌∙◌, arith, leb→le, eqb→eq}
use Rattle.std.proofs.Math.Bool.{true, false}
use Rattle.std.proofs.Math.Option.{Option, none, some, some-injective}
use mathlib.Core.List.{List, [], ◌∷◌, append-nil}
use Prim.Native.String.{String}
use Rattle.std.proofs.Math.Dec.{T}
use Rattle.base.specs.Lists.{pick, all, bytes}
use Rattle.base.specs.Tests.{and_l, and_r, T_true}
use Rattle.theory.specs.Tri.{Tri, lt, eq, gt}
use Rattle.theory.specs.Lex.{cmp_n, Is, and_then, lex}
use Rattle.theory.specs.LexLaws.{cmp_n_is, lex_order}
use Rattle.theory.specs.Decimal.{value, value_f}
use Rattle.theory.specs.Store.{cons?, put, get, Asc}
use Rattle.theory.specs.Rank.{rank}
use Rattle.theory.proofs.AgreeLaws.{get_agree, put_agree, rank_agree, asc_agree}
use Rattle.theory.specs.Refs.{apart, has, meets, clear}
use Rattle.meaning.specs.Lines.{fields_of}
use Rattle.meaning.specs.Forms.{sound_as, value_of}
use Rattle.meaning.specs.Kinds.{Kind, kinds, ident, numbered_among}
use Rattle.meaning.specs.Format.{named, form_named}
use Rattle.meaning.specs.Table.{fields, key_names, refers_to, scottish}
use Rattle.meaning.specs.Records.{Rec, own_fields, value_named, values_named, empty_named, key_of, refs_from, refs_of, keyed}
use Rattle.laws.specs.Kinds.{every, alike}
use Rattle.laws.specs.Body.{fine}
use Rattle.layout.specs.Rows.{padded}
use Rattle.keys.specs.Numbers.{number_of, number_named, numbers_named, key_numbers, ref_key, ref_numbers_from, ref_numbers, ref_first, ref_at, numbered}
use Rattle.keys.specs.DigitLaws.{lex_one, lex_padded}
use Rattle.keys.proofs.FieldLaws.{filled_named, fine_field, narrow, numbers_in, Ordered, numbers_agree, lettered, text_agree, numbers_values, length_numbers}

-- ---- keys

-- lists of one head are compared by what follows it
first_agree : (n m : ℕ) (a b c d : List ℕ) → (n ≡ m → lex a b ≡ lex c d) → lex (n ∷ a) (m ∷ b) ≡ lex (n ∷ c) (m ∷ d)
unfolding lex and_then
first_agree n m a b c d f = go (cmp_n n m) (cmp_n_is n m)
  where
    go : (t : Tri) → Is t n m → and_then t (lex a b) ≡ and_then t (lex c d)
    go lt h = refl
    go eq h = f h
    go gt h = refl

-- a number is its kind's
number_in : (k : Kind) → numbered_among kinds (value (ident k)) ≡ some k
unfolding numbered_among kinds ident bytes value value_f
number_in k = alike (λ k. numbered_among kinds (value (ident k))) some refl k

-- a kind is known by its number
pub kind_told : (j k : Kind) → value (ident j) ≡ value (ident k) → j ≡ k
kind_told j k e = some-injective j k (sym (number_in j) ∙ ap (numbered_among kinds) e ∙ number_in k)

-- this one field of a kind is a key's text, and must be filled
unfoldable pub text_in : Kind → List String → Bool
text_in k [] = false
text_in k (s ∷ []) = lettered (form_named s (own_fields scottish k)) && filled_named s (own_fields scottish k)
text_in k (s ∷ (t ∷ ss)) = false

-- no key has more than three fields
few_names : (k : Kind) → length (key_names k) ≤ 3
unfolding kinds key_names
few_names k = leb→le (length (key_names k)) 3 (every (λ k. leb (length (key_names k)) 3) tt k)

-- they are numbers, or one is a key's text
keys_fit : (k : Kind) → T (numbers_in k (key_names k) || text_in k (key_names k))
unfolding kinds key_names fields own_fields form_named filled_named narrow lettered numbers_in text_in
keys_fit k = every (λ k. numbers_in k (key_names k) || text_in k (key_names k)) tt k

module _ (k : Kind) (c d : List ℕ) (f : T (fine scottish (record { kind = k; content = c }))) (g : T (fine scottish (record { kind = k; content = d }))) where
  -- two keys of one text
  text_key : (ss : List String) → T (text_in k ss) → Ordered (record { kind = k; content = c }) ss (record { kind = k; content = d }) ss
  unfolding text_in numbers_named number_named values_named value_named
  text_key [] t = absurd t
  text_key (s ∷ (u ∷ ss)) t = absurd t
  text_key (s ∷ []) t =
      let m = form_named s (own_fields scottish k) in
      let a = named s (own_fields scottish k) (fields_of c) in
      let b = named s (own_fields scottish k) (fields_of d) in
      let full : filled_named s (own_fields scottish k) ≡ true = T_true (filled_named s (own_fields scottish k)) (and_r (lettered m) (filled_named s (own_fields scottish k)) t) in
      let p : T (sound_as scottish.text_rule m true a) = subst (λ b. T (sound_as scottish.text_rule m b a)) full (fine_field (record { kind = k; content = c }) s f) in
      let q : T (sound_as scottish.text_rule m true b) = subst (λ e. T (sound_as scottish.text_rule m e b)) full (fine_field (record { kind = k; content = d }) s g) in
      lex_padded 3 (number_of m a ∷ []) (number_of m b ∷ []) refl (omega arith)
      ∙ lex_one (number_of m a) (number_of m b)
      ∙ text_agree m a b (and_l (lettered m) (filled_named s (own_fields scottish k)) t) p q
      ∙ sym (rw (append-nil (value_of m a), append-nil (value_of m b)))

  -- two keys of one kind
  same_kind : Ordered (record { kind = k; content = c }) (key_names k) (record { kind = k; content = d }) (key_names k)
  same_kind = go (numbers_in k (key_names k)) refl (keys_fit k)
    where
      go : (b : Bool) → numbers_in k (key_names k) ≡ b → T (b || text_in k (key_names k)) → Ordered (record { kind = k; content = c }) (key_names k) (record { kind = k; content = d }) (key_names k)
      go true e t =
          let n : T (numbers_in k (key_names k)) = rw e tt in
          numbers_agree (record { kind = k; content = c }) (record { kind = k; content = d }) f g (key_names k) (key_names k) n n refl (few_names k)
      go false e t = text_key (key_names k) t

-- keys as numbers stand in the order of keys
pub key_agrees : (r x : Rec) → T (fine scottish r) → T (fine scottish x) → lex (key_numbers r) (key_numbers x) ≡ lex (key_of scottish r) (key_of scottish x)
unfolding key_numbers key_of
key_agrees r x f g =
    first_agree (value (ident r.kind)) (value (ident x.kind)) (padded 3 (numbers_named r (key_names r.kind))) (padded 3 (numbers_named x (key_names x.kind))) (values_named scottish r (key_names r.kind))
    (values_named scottish x (key_names x.kind))
    (λ e. subst (λ k. (d : List ℕ) → T (fine scottish (record { kind = k; content = d })) → Ordered r (key_names r.kind) (record { kind = k; content = d }) (key_names k)) (kind_told r.kind x.kind e)
    (λ d h. same_kind r.kind r.content d f h) x.content g)

-- ---- references

-- a key as numbers and a key are alike: they are compared alike with the key of every sound record
abbrev pub Agree : List ℕ → List ℕ → Type 0
Agree a b = (x : Rec) → T (fine scottish x) → lex a (key_numbers x) ≡ lex b (key_of scottish x)

-- keys that are alike, one by one
abbrev pub Alike : List (List ℕ) → List (List ℕ) → Type 0
Alike [] [] = Unit {0}
Alike [] (b ∷ bs) = ⊥
Alike (a ∷ ns) [] = ⊥
Alike (a ∷ ns) (b ∷ bs) = Agree a b × Alike ns bs

-- a row refers by numbers to a kind whose key is as many numbers
unfoldable pub row_fits : Kind → Kind × List String → Bool
row_fits k p = numbers_in k p.1 && (numbers_in p.0 (key_names p.0) && eqb (length p.1) (length (key_names p.0)))

-- so do all
rows_fit : (k : Kind) → T (all (row_fits k) (refers_to k))
unfolding kinds refers_to key_names fields own_fields form_named narrow numbers_in row_fits
rows_fit k = every (λ k. all (row_fits k) (refers_to k)) tt k

row_agrees : (r : Rec) → T (fine scottish r) → (p : Kind × List String) → T (row_fits r.kind p) → Agree (ref_key r p) (value (ident p.0) ∷ values_named scottish r p.1)
unfolding ref_key key_numbers key_of row_fits
row_agrees r f p t x g =
    let a = and_l (numbers_in r.kind p.1) _ t in
    let b = and_r (numbers_in r.kind p.1) _ t in
    let n = and_l (numbers_in p.0 (key_names p.0)) _ b in
    let l : length p.1 ≡ length (key_names p.0) = eqb→eq (length p.1) (length (key_names p.0)) (and_r (numbers_in p.0 (key_names p.0)) _ b) in
    first_agree (value (ident p.0)) (value (ident x.kind)) (padded 3 (numbers_named r p.1)) (padded 3 (numbers_named x (key_names x.kind))) (values_named scottish r p.1) (values_named scottish x (key_names x.kind))
    (λ e. let k = kind_told p.0 x.kind e in
    numbers_agree r x f g p.1 (key_names x.kind) a (subst (λ k. T (numbers_in k (key_names k))) k n) (subst (λ k. length p.1 ≡ length (key_names k)) k l) (omega (arith, few_names p.0)))

rows_alike : (r : Rec) → T (fine scottish r) → (ps : List (Kind × List String)) → T (all (row_fits r.kind) ps) → Alike (ref_numbers_from r ps) (refs_from scottish r ps)
unfolding ref_numbers_from refs_from
rows_alike r f [] t = tt
rows_alike r f (p ∷ ps) t =
    go (empty_named scottish r p.1) (row_agrees r f p (and_l (row_fits r.kind p) (all (row_fits r.kind) ps) t)) (rows_alike r f ps (and_r (row_fits r.kind p) (all (row_fits r.kind) ps) t))
  where
    go : (b : Bool) → Agree (ref_key r p) (value (ident p.0) ∷ values_named scottish r p.1) → Alike (ref_numbers_from r ps) (refs_from scottish r ps)
        → Alike (pick b (ref_numbers_from r ps) (ref_key r p ∷ ref_numbers_from r ps)) (pick b (refs_from scottish r ps) ((value (ident p.0) ∷ values_named scottish r p.1) ∷ refs_from scottish r ps))
    go true h k = k
    go false h k = (h, k)

-- what a sound record refers to, as numbers and as keys, is alike
pub refs_alike : (r : Rec) → T (fine scottish r) → Alike (ref_numbers r) (refs_of scottish r)
unfolding ref_numbers refs_of
refs_alike r f = rows_alike r f (refers_to r.kind) (rows_fit r.kind)

-- a number stands for the key of a kind whose key is one number
pub number_agrees : (k : Kind) (n : ℕ) → T (numbers_in k (key_names k)) → length (key_names k) ≡ 1 → Agree (value (ident k) ∷ padded 3 (n ∷ [])) (value (ident k) ∷ n ∷ [])
unfolding key_numbers key_of
number_agrees k n t l x g =
    first_agree (value (ident k)) (value (ident x.kind)) (padded 3 (n ∷ [])) (padded 3 (numbers_named x (key_names x.kind))) (n ∷ []) (values_named scottish x (key_names x.kind))
    (λ e. let j = kind_told k x.kind e in
    let u : length (key_names x.kind) ≡ 1 = subst (λ k. length (key_names k) ≡ 1) j l in
    rw (numbers_values x g (key_names x.kind) (subst (λ k. T (numbers_in k (key_names k))) j t))
    (lex_padded 3 (n ∷ []) (numbers_named x (key_names x.kind)) (omega (arith, length_numbers x (key_names x.kind), u)) (omega arith)))

-- tests that are equal of keys that are alike are equal of lists
pub alike_all : (p q : List ℕ → Bool) → ((a b : List ℕ) → Agree a b → p a ≡ q b) → (ns bs : List (List ℕ)) → Alike ns bs → all p ns ≡ all q bs
alike_all p q f [] [] h = refl
alike_all p q f [] (b ∷ bs) h = absurd h
alike_all p q f (a ∷ ns) [] h = absurd h
alike_all p q f (a ∷ ns) (b ∷ bs) h = rw (f a b h.0, alike_all p q f ns bs h.1)

-- keys that are alike are apart from the key of the same sound records
pub agree_apart : (a b : List ℕ) → Agree a b → (x : Rec) → T (fine scottish x) → apart numbered a (key_numbers x) ≡ apart (keyed scottish) b (key_of scottish x)
unfolding apart
agree_apart a b h x g = rw (h x g)

-- a sound record's own key is alike
pub own_agrees : (r : Rec) → T (fine scottish r) → Agree (key_numbers r) (key_of scottish r)
own_agrees r f x g = key_agrees r x f g

-- ---- states of sound records

module _ (st : List Rec) (h : T (all (fine scottish) st)) where
  -- keys that are alike find the same record
  pub get_alike : (a b : List ℕ) → Agree a b → get numbered a st ≡ get (keyed scottish) b st
  get_alike a b e = get_agree numbered (List ℕ) lex lex_order (key_of scottish) (fine scottish) a b e st h

  -- they write at the same place
  pub put_alike : (a b : List ℕ) → Agree a b → (o : Option Rec) → put numbered a o st ≡ put (keyed scottish) b o st
  put_alike a b e o = put_agree numbered (List ℕ) lex lex_order (key_of scottish) (fine scottish) a b e o st h

  -- and as many records stand before them
  pub rank_alike : (a b : List ℕ) → Agree a b → rank numbered a st ≡ rank (keyed scottish) b st
  rank_alike a b e = rank_agree numbered (List ℕ) lex lex_order (key_of scottish) (fine scottish) a b e st h

  -- keys ascend by their numbers
  pub asc_numbered : Asc (keyed scottish) st → Asc numbered st
  asc_numbered a = asc_agree (keyed scottish) (List ℕ) lex lex_order key_numbers (fine scottish) (λ x y f g. sym (key_agrees x y f g)) st h a

  -- a record's references are met by their numbers where they are met
  pub meets_agree : (r : Rec) → T (fine scottish r) → meets numbered ref_numbers st r ≡ meets (keyed scottish) (refs_of scottish) st r
  unfolding meets has
  meets_agree r f = alike_all _ _ (λ a b e. rw (agree_apart a b e r f, get_alike a b e)) (ref_numbers r) (refs_of scottish r) (refs_alike r f)

-- a record does not refer to a sound one by its number where it does not
pub clear_agree : (r x : Rec) → T (fine scottish r) → T (fine scottish x) → clear numbered ref_numbers (key_numbers x) r ≡ clear (keyed scottish) (refs_of scottish) (key_of scottish x) r
unfolding clear
clear_agree r x f g = alike_all _ _ (λ a b e. agree_apart a b e x g) (ref_numbers r) (refs_of scottish r) (refs_alike r f)

-- ---- rows one by one

-- no kind has more than two rows
pub rows_few : (k : Kind) → length (refers_to k) ≤ 2
unfolding kinds refers_to
rows_few k = leb→le (length (refers_to k)) 2 (every (λ k. leb (length (refers_to k)) 2) tt k)

-- what a record refers to is what its rows give
pub refs_are : (r : Rec) → ref_numbers r ≡ cons? (ref_at r.kind r.content 0) (cons? (ref_at r.kind r.content 1) [])
unfolding ref_numbers ref_at
refs_are r = two (refers_to r.kind) (rows_few r.kind)
  where
    first : (p : Kind × List String) (ps : List (Kind × List String)) (l : List (List ℕ)) → ref_numbers_from r ps ≡ l → ref_numbers_from r (p ∷ ps) ≡ cons? (ref_first r (p ∷ ps)) l
    first p ps l e = unfold ref_numbers_from ref_first in (go (empty_named scottish r p.1))
      where
        go : (b : Bool) → pick b (ref_numbers_from r ps) (ref_key r p ∷ ref_numbers_from r ps) ≡ cons? (pick b none (some (ref_key r p))) l
        go true = e
        go false = ap (λ l. ref_key r p ∷ l) e

    two : (ps : List (Kind × List String)) → length ps ≤ 2 → ref_numbers_from r ps ≡ cons? (ref_first r (drop 0 ps)) (cons? (ref_first r (drop 1 ps)) [])
    two [] h = unfold ref_numbers_from ref_first in refl
    two (p ∷ []) h = first p [] _ (unfold ref_numbers_from ref_first in refl)
    two (p ∷ (q ∷ [])) h = first p (q ∷ []) _ (first q [] [] (unfold ref_numbers_from in refl))
    two (p ∷ (q ∷ (u ∷ ps))) h = absurd (omega arith)
