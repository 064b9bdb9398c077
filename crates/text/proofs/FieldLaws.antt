-- The laws of the identifier, fields and contents: by which the loops go, and how offsets stand to what the meaning says.
use mathlib.Core.Path.{◌≡◌, refl, ap, ◌∙◌, sym}
use mathlib.Core.Bool.{Bool, true, false, not, ◌&&◌}
use mathlib.Core.List.{List, [], ◌∷◌}
use Prim.Native.Nat.{ℕ, suc, ◌+◌, ◌-◌, ◌≤◌, ◌<◌}
use native.Mathlib.Nat.{add-zero, zero-add}
use native.Mathlib.Omega.{arith}
use borrow.Author.Tests.{eq-eqb, ne_eqb, eqb-true, lt-ltb}
use borrow.Author.Rules.{rules}
use lib.Dec.{eqb, ltb, eqb→eq, leb-suc-suc}
use lib.ListN.{length, get_or, drop, take, length-drop}
use lib.Seq.{drop-drop}
use Rattle.std.specs.Prelude.{nat_eq, Option}
use Rattle.std.specs.List.{position, position_or_len}
use Rattle.std.specs.Option.{unwrap_or}
use Rattle.base.specs.Lists.{pick, up_to}
use Rattle.base.specs.Tests.{and_r}
use Rattle.base.proofs.Walk.{at_cons, at_end_lem}
use Rattle.base.proofs.StdLists.{up_to_length}
use Rattle.base.proofs.StdPositions.{position_end, position_within}
use Rattle.meaning.specs.Lines.{identifier, is_sep, turned, add_byte, fields_from, fields_of, quote_after, odd_quotes, has_fields, after_field}
use Rattle.text.proofs.TailLaws.{tail, tail_below, tail_or, tail_end}
use Rattle.text.specs.Places.{field_count, field_len}

-- ---- the bytes before the first x

-- how many there are: `position`, or all
pub identifier_position : (t : List ℕ) (r : Option ℕ) (n : ℕ) → r ≡ position (λ y. nat_eq y 44) t → n ≡ unwrap_or r (length t) → (n ≡ length (identifier t)) × (n ≤ length t)
unfolding identifier
identifier_position t r n e p =
    let at : n ≡ position_or_len (λ y. nat_eq y 44) t = position_end (λ y. nat_eq y 44) t r n e p in
    (at ∙ sym (up_to_length 44 t), omega (arith, position_within (λ y. nat_eq y 44) t))

-- the bytes before x are the front of the line
up_part : (x : ℕ) (l : List ℕ) → take (length (up_to x l)) l ≡ up_to x l
unfolding up_to
up_part x [] = refl
up_part x (y ∷ r) = go (eqb y x) (up_part x r)
  where
    go : (b : Bool) → take (length (up_to x r)) r ≡ up_to x r → take (length (pick b [] (y ∷ up_to x r))) (y ∷ r) ≡ pick b [] (y ∷ up_to x r)
    go true e = refl
    go false e = ap (λ l. y ∷ l) e

-- the identifier is the front of the line
pub identifier_part : (t : List ℕ) → take (length (identifier t)) t ≡ identifier t
unfolding identifier
identifier_part t = up_part 44 t

-- ---- one byte

-- another byte than a comma separates nothing
pub sep_other : (q : Bool) (b : ℕ) → (b ≡ 44 → ⊥) → false ≡ is_sep q b
unfolding is_sep
sep_other true b n = refl
sep_other false b n = sym (ne_eqb b 44 n)

-- a quote turns quoting
pub turn_quote : (q : Bool) (b : ℕ) → b ≡ 34 → not q ≡ turned q b
unfolding turned
turn_quote q b e = rw (eq-eqb b 34 e)

-- another byte does not
pub turn_other : (q : Bool) (b : ℕ) → (b ≡ 34 → ⊥) → q ≡ turned q b
unfolding turned
turn_other q b n = rw (ne_eqb b 34 n)

-- a comma outside quotes separates
pub sep_here : (q : Bool) (b : ℕ) → b ≡ 44 → q ≡ false → is_sep q b ≡ true
unfolding is_sep
sep_here q b e o = rw (o, eq-eqb b 44 e)

-- nothing within quotes does
pub sep_inside : (q : Bool) (b : ℕ) → q ≡ true → is_sep q b ≡ false
unfolding is_sep
sep_inside q b o = rw o

-- a separator stands outside quotes
pub sep_outside : (q : Bool) (b : ℕ) → is_sep q b ≡ true → q ≡ false
unfolding is_sep
sep_outside true b e = sym e
sep_outside false b e = refl

-- and is no quote
pub sep_stays : (q : Bool) (b : ℕ) → is_sep q b ≡ true → turned q b ≡ q
unfolding is_sep turned
sep_stays true b e = let z : ◌≡◌ {A = Bool} false true = e in cc
sep_stays false b e = rw (eqb-true b 44 e)

-- ---- the walk that counts, where quoting is q and m separators are passed

-- there is a first field
pub fields_some : (q : Bool) (l : List ℕ) → 0 < length (fields_from q l)
unfolding fields_from add_byte
fields_some q [] = omega arith
fields_some q (x ∷ r) = go (is_sep q x) (fields_from (turned q x) r)
  where
    go : (b : Bool) (fs : List (List ℕ)) → 0 < length (add_byte b x fs)
    go true fs = omega arith
    go false [] = omega arith
    go false (f ∷ fs) = omega arith

-- the answer that is still to be found
abbrev pub count_at : List ℕ → Bool → ℕ → ℕ → ℕ
count_at l q m i = pick (quote_after q (drop i l)) 0 (m + length (fields_from q (drop i l)))

-- at the start none is passed
pub count_start : (l : List ℕ) → count_at l false 0 0 ≡ field_count l
unfolding field_count odd_quotes fields_of
count_start l = rw zero-add

-- a separator is one more
pub count_sep :
    (l : List ℕ) (q : Bool) (m i x : ℕ) (b : Bool) →
    count_at l q m i ≡ x → i < length l → b ≡ is_sep q (get_or l i 0) → b ≡ true → count_at l q (m + 1) (i + 1) ≡ x
unfolding quote_after fields_from add_byte
count_sep l q m i x b e h p t =
    let s : is_sep q (get_or l i 0) ≡ true = sym p ∙ t in
    let e' : found (turned q (get_or l i 0)) ≡ x = rw (at_cons l i h, s) at e in
    ap (λ (k : ℕ). pick (quote_after q (drop (i + 1) l)) 0 k) (omega arith) ∙ (rw (sep_stays q (get_or l i 0) s) at e')
  where
    found : Bool → ℕ
    found q' = pick (quote_after q' (drop (i + 1) l)) 0 (m + suc (length (fields_from q' (drop (i + 1) l))))

-- another byte is not
pub count_other :
    (l : List ℕ) (q : Bool) (m i x : ℕ) (b q' : Bool) →
    count_at l q m i ≡ x → i < length l → b ≡ is_sep q (get_or l i 0) → b ≡ false → q' ≡ turned q (get_or l i 0) → count_at l q' m (i + 1) ≡ x
unfolding quote_after fields_from add_byte
count_other l q m i x b q' e h p t k =
    let s : is_sep q (get_or l i 0) ≡ false = sym p ∙ t in
    rw k (go (fields_from (turned q (get_or l i 0)) (drop (i + 1) l)) (fields_some (turned q (get_or l i 0)) (drop (i + 1) l)) (rw (at_cons l i h, s) at e))
  where
    go :
        (fs : List (List ℕ)) → 0 < length fs →
        pick (quote_after (turned q (get_or l i 0)) (drop (i + 1) l)) 0 (m + length (add_byte false (get_or l i 0) fs)) ≡ x →
        pick (quote_after (turned q (get_or l i 0)) (drop (i + 1) l)) 0 (m + length fs) ≡ x
    go [] h e = absurd (omega arith)
    go (f ∷ fs) h e = e

-- an open quote counts nothing
pub count_open : (l : List ℕ) (q : Bool) (m i x : ℕ) → count_at l q m i ≡ x → length l ≤ i → q ≡ true → 0 ≡ x
unfolding quote_after
count_open l q m i x e h t = rw (at_end_lem l i h, t) at e

-- else the last field is one more
pub count_shut : (l : List ℕ) (q : Bool) (m i x : ℕ) → count_at l q m i ≡ x → length l ≤ i → q ≡ false → m + 1 ≡ x
unfolding quote_after fields_from
count_shut l q m i x e h t = rw (at_end_lem l i h, t) at e

-- another count than is counted is wrong; so is every count where the quotes are odd
pub fields_wrong : (t : List ℕ) (n c : ℕ) → c ≡ field_count t → (c ≡ n → ⊥) → false ≡ has_fields n t
unfolding has_fields field_count
fields_wrong t n c e z = go (odd_quotes t) (λ h. z (e ∙ h))
  where
    go : (b : Bool) → (pick b 0 (length (fields_of t)) ≡ n → ⊥) → false ≡ (not b && eqb (length (fields_of t)) n)
    go true h = refl
    go false h = sym (ne_eqb (length (fields_of t)) n h)

-- what is counted is right, unless it is 0
pub fields_right : (t : List ℕ) (n c : ℕ) → c ≡ field_count t → c ≡ n → 0 < n → true ≡ has_fields n t
unfolding has_fields field_count
fields_right t n c e z p = go (odd_quotes t) (sym e ∙ z)
  where
    go : (b : Bool) → pick b 0 (length (fields_of t)) ≡ n → true ≡ (not b && eqb (length (fields_of t)) n)
    go true h = absurd (omega arith)
    go false h = sym (eq-eqb (length (fields_of t)) n h)

-- such a line has so many
pub fields_many : (t : List ℕ) (n : ℕ) → true ≡ has_fields n t → length (fields_of t) ≡ n
unfolding has_fields
fields_many t n h = eqb→eq (length (fields_of t)) n (and_r (not (odd_quotes t)) (eqb (length (fields_of t)) n) (rw (← h) tt))

-- ---- the walk of a field, where quoting is q

-- where it ends
abbrev pub end_at : List ℕ → Bool → ℕ → ℕ
end_at l q i = i + field_len q (drop i l)

-- a separator ends it
pub end_stop : (l : List ℕ) (q : Bool) (i x : ℕ) (b : Bool) → end_at l q i ≡ x → i < length l → b ≡ is_sep q (get_or l i 0) → b ≡ true → i ≡ x
unfolding field_len
end_stop l q i x b e h p t = sym (add-zero i) ∙ (rw (at_cons l i h, sym p ∙ t) at e)

-- another byte is passed
pub end_turn :
    (l : List ℕ) (q : Bool) (i x : ℕ) (b q' : Bool) →
    end_at l q i ≡ x → i < length l → b ≡ is_sep q (get_or l i 0) → b ≡ false → q' ≡ turned q (get_or l i 0) → end_at l q' (i + 1) ≡ x
unfolding field_len
end_turn l q i x b q' e h p t k = rw k (omega (arith, rw (at_cons l i h, sym p ∙ t) at e))

-- so does the line's end
pub end_done : (l : List ℕ) (q : Bool) (i x : ℕ) → end_at l q i ≡ x → length l ≤ i → i ≤ length l → length l ≡ x
unfolding field_len
end_done l q i x e h k = omega (arith, rw (at_end_lem l i h) at e)

-- the same walk over the tail from `at` on
module _ (t : List ℕ) (at i : ℕ) (q : Bool) (e : end_at t q (at + i) ≡ end_at t false at) where
  on : (q' : Bool) → i < length (tail t at) → is_sep q (get_or (tail t at) i 0) ≡ false → q' ≡ turned q (get_or (tail t at) i 0) → end_at t q' (at + (i + 1)) ≡ end_at t false at
  on q' h s k =
      let n : at + (i + 1) ≡ at + i + 1 = omega arith in
      rw n (end_turn t q (at + i) _ false q' e (tail_below t at i h) (sym s ∙ ap (is_sep q) (tail_or t at i)) refl (k ∙ ap (turned q) (tail_or t at i)))

  -- a comma outside quotes ends the field
  pub end_found : i < length (tail t at) → get_or (tail t at) i 0 ≡ 44 → q ≡ false → (at + i ≡ end_at t false at) × (at ≤ at + i) × (at + i ≤ length t)
  end_found h b o =
      let l = tail_below t at i h in
      (end_stop t q (at + i) _ true e l (sym (sep_here q _ (sym (tail_or t at i) ∙ b) o)) refl, omega arith, omega arith)

  -- one within quotes doesn't
  pub end_inside : (q' : Bool) → i < length (tail t at) → get_or (tail t at) i 0 ≡ 44 → q ≡ true → q' ≡ q → end_at t q' (at + (i + 1)) ≡ end_at t false at
  end_inside q' h b o k = on q' h (sep_inside q _ o) (k ∙ turn_other q _ (λ z. omega arith))

  -- a quote turns quoting
  pub end_quote : (q' : Bool) → i < length (tail t at) → get_or (tail t at) i 0 ≡ 34 → q' ≡ not q → end_at t q' (at + (i + 1)) ≡ end_at t false at
  end_quote q' h b k = on q' h (sym (sep_other q _ (λ z. omega arith))) (k ∙ turn_quote q _ b)

  -- another byte is passed
  pub end_other : (q' : Bool) → i < length (tail t at) → (get_or (tail t at) i 0 ≡ 44 → ⊥) → (get_or (tail t at) i 0 ≡ 34 → ⊥) → q' ≡ q → end_at t q' (at + (i + 1)) ≡ end_at t false at
  end_other q' h b o k = on q' h (sym (sep_other q _ b)) (k ∙ turn_other q _ o)

  -- the line's end ends the field
  pub end_none : at ≤ length t → length (tail t at) ≤ i → i ≤ length (tail t at) → length t ≡ end_at t false at
  end_none h k l = let n = tail_end t at i h k l in end_done t q (at + i) _ e (omega arith) (omega arith)

pub ruleset ending = (rules, end_found, end_inside, end_quote, end_other, end_none)

-- ---- the fields of the meaning

-- the fields after one of n bytes
abbrev rest : List ℕ → ℕ → List (List ℕ)
rest l n = pick (ltb n (length l)) (fields_from false (drop (suc n) l)) []

-- the first of the fields, and what the others are the fields of
pub fields_next : (q : Bool) (l : List ℕ) → fields_from q l ≡ take (field_len q l) l ∷ rest l (field_len q l)
unfolding fields_from field_len add_byte
fields_next q [] = refl
fields_next q (x ∷ r) = go (is_sep q x) refl (fields_next (turned q x) r)
  where
    n : ℕ
    n = field_len (turned q x) r

    go :
        (b : Bool) → is_sep q x ≡ b → fields_from (turned q x) r ≡ take n r ∷ rest r n →
        add_byte b x (fields_from (turned q x) r) ≡ take (pick b 0 (suc n)) (x ∷ r) ∷ rest (x ∷ r) (pick b 0 (suc n))
    go true s e = rw (sep_stays q x s, sep_outside q x s, lt-ltb 0 (suc (length r)) (omega arith))
    go false s e = rw (e, leb-suc-suc (suc n) (length r))

-- the same at an offset
pub fields_at :
    (t : List ℕ) (at : ℕ)
    → fields_from false (drop at t)
    ≡ take (field_len false (drop at t)) (drop at t)
    ∷ pick (ltb (field_len false (drop at t)) (length t - at)) (fields_from false (drop (at + suc (field_len false (drop at t))) t)) []
fields_at t at = fields_next false (drop at t) ∙ rw (length-drop at t, drop-drop (suc (field_len false (drop at t))) at t)

-- ---- what stands after a field

-- it is what is left after the field and one byte
pub after_drop : (q : Bool) (l : List ℕ) → after_field q l ≡ drop (suc (field_len q l)) l
unfolding after_field field_len
after_drop q [] = refl
after_drop q (x ∷ r) = go (is_sep q x) (after_drop (turned q x) r)
  where
    go :
        (b : Bool) → after_field (turned q x) r ≡ drop (suc (field_len (turned q x) r)) r →
        pick b r (after_field (turned q x) r) ≡ drop (suc (pick b 0 (suc (field_len (turned q x) r)))) (x ∷ r)
    go true e = refl
    go false e = e
