-- The laws of the fields of the line at an offset: by which the walks go, and how they stand to the fields that the meaning says.
use mathlib.Core.Path.{◌≡◌, refl, sym, ap, ◌∙◌}
use mathlib.Core.Bool.{Bool, true, false, not}
use mathlib.Core.List.{List, [], ◌∷◌, nil≢cons}
use Prim.Native.Nat.{ℕ, zero, suc, ◌+◌, ◌-◌, ◌≤◌, ◌<◌, min}
use native.Mathlib.Decide.{dec_lt}
use native.Mathlib.Nat.{add-zero}
use native.Mathlib.Omega.{arith}
use borrow.Author.Rules.{rules}
use borrow.Author.Tests.{eq-eqb, ne_eqb, lt-ltb, le-ltb}
use lib.Dec.{ltb}
use lib.ListN.{length, get_or, take, drop, length-take}
use lib.Seq.{take-take}
use Rattle.base.specs.Lists.{pick}
use Rattle.base.proofs.Walk.{at_cons, at_end_lem}
use Rattle.meaning.specs.Lines.{is_sep, turned, fields_from, fields_of, after_field}
use Rattle.meaning.specs.Records.{content_of}
use Rattle.laws.specs.LinesAndFields.{sep_is}
use Rattle.text.specs.Places.{ends_here, line_len, field_len}
use Rattle.text.proofs.FieldLaws.{sep_other, turn_quote, turn_other, fields_next, after_drop}
use Rattle.text.proofs.SplitLaws.{len_le}
use Rattle.entries.specs.Entries.{line_at}
use Rattle.entries.specs.Fields.{after_fields, first_field}

-- ---- the line at an offset

-- past the end stands an empty line
pub line_over : (s : List ℕ) (i : ℕ) → length s ≤ i → line_at s i ≡ []
unfolding line_at line_len
line_over s i h = rw (at_end_lem s i h)

-- so where the bytes end another may be read for it
pub start_end : (s : List ℕ) (at : ℕ) → length s < at → line_at s (length s) ≡ line_at s at
start_end s at h = line_over s (length s) (omega arith) ∙ sym (line_over s at (omega arith))

-- and none is read beyond
pub start_min : (s : List ℕ) (at r : ℕ) → r ≡ min at (length s) → (line_at s r ≡ line_at s at) × (r ≤ length s)
start_min s at r e = (go (dec_lt (length s) at), omega arith)
  where
    go : Dec (length s < at) → line_at s r ≡ line_at s at
    go (yes h) = let z : r ≡ length s = omega arith in rw z (start_end s at h)
    go (no h) = let z : r ≡ at = omega arith in rw z

-- where a CR LF stands a line is at its end
line_ends : (s : List ℕ) (i : ℕ) (c : Bool) → c ≡ ends_here (drop i s) → c ≡ true → line_at s i ≡ []
unfolding line_at line_len
line_ends s i c p t = go (drop i s) (sym p ∙ t)
  where
    go : (l : List ℕ) → ends_here l ≡ true → take (line_len l) l ≡ []
    go [] e = refl
    go (x ∷ r) e = rw e

-- else it has the byte there
line_cons : (s : List ℕ) (i : ℕ) → i < length s → ends_here (drop i s) ≡ false → line_at s i ≡ get_or s i 0 ∷ line_at s (i + 1)
unfolding line_at line_len
line_cons s i h e = let e' : ends_here (get_or s i 0 ∷ drop (i + 1) s) ≡ false = rw (at_cons s i h) at e in rw (at_cons s i h, e')

-- another byte than CR begins no CR LF
no_end : (x : ℕ) (r : List ℕ) → (x ≡ 13 → ⊥) → ends_here (x ∷ r) ≡ false
no_end x [] n = refl
no_end x (y ∷ r) n = rw (ne_eqb x 13 n)

-- so any other is the line's
pub line_byte : (s : List ℕ) (i : ℕ) → i < length s → (get_or s i 0 ≡ 13 → ⊥) → line_at s i ≡ get_or s i 0 ∷ line_at s (i + 1)
line_byte s i h n = line_cons s i h (rw (at_cons s i h) (no_end (get_or s i 0) (drop (i + 1) s) n))

-- ---- one byte of a line, where quoting is q

-- a byte that is passed, after which quoting is q'
pub record Passes (s : List ℕ) (q q' : Bool) (i : ℕ) : Type 0 where
  pub byte : line_at s i ≡ get_or s i 0 ∷ line_at s (i + 1)
  pub joins : is_sep q (get_or s i 0) ≡ false
  pub turns : turned q (get_or s i 0) ≡ q'

module _ (s : List ℕ) (q : Bool) (i : ℕ) (h : i < length s) where
  -- one above commas and quotes is
  pub pass_over : 44 < get_or s i 0 → Passes s q q i
  pass_over l = record {
    byte = line_byte s i h (λ z. absurd (omega arith));
    joins = sym (sep_other q (get_or s i 0) (λ z. absurd (omega arith)));
    turns = sym (turn_other q (get_or s i 0) (λ z. absurd (omega arith)));
  }

  -- a quoted comma is
  pass_quoted : get_or s i 0 ≡ 44 → q ≡ true → Passes s q q i
  unfolding is_sep
  pass_quoted c t = record { byte = line_byte s i h (λ z. absurd (omega arith)); joins = rw t; turns = sym (turn_other q (get_or s i 0) (λ z. absurd (omega arith))) }

  -- a quote is, and turns quoting
  pass_quote : get_or s i 0 ≡ 34 → Passes s q (not q) i
  pass_quote c = record { byte = line_byte s i h (λ z. absurd (omega arith)); joins = sym (sep_other q (get_or s i 0) (λ z. absurd (omega arith))); turns = sym (turn_quote q (get_or s i 0) c) }

  -- another that begins no CR LF is
  pass_other : (get_or s i 0 ≡ 44 → ⊥) → (get_or s i 0 ≡ 34 → ⊥) → (c : Bool) → c ≡ ends_here (drop i s) → c ≡ false → Passes s q q i
  pass_other m n c p t = record { byte = line_cons s i h (sym p ∙ t); joins = sym (sep_other q (get_or s i 0) m); turns = sym (turn_other q (get_or s i 0) n) }

-- ---- the walk of a field, where quoting is q

-- where it ends
abbrev pub end_in : List ℕ → Bool → ℕ → ℕ
end_in s q i = i + field_len q (line_at s i)

module _ (s : List ℕ) (q : Bool) (i x : ℕ) (e : end_in s q i ≡ x) where
  end_none : line_at s i ≡ [] → i ≡ x
  unfolding field_len
  end_none n = sym (add-zero i) ∙ (rw n at e)

  end_pass : (q' : Bool) → Passes s q q' i → end_in s q' (i + 1) ≡ x
  unfolding field_len
  end_pass q' p = omega (arith, rw (p.byte, p.joins, p.turns) at e)

  -- the bytes' end ends it
  pub end_done : length s ≤ i → i ≡ x
  end_done h = end_none (line_over s i h)

  module _ (h : i < length s) where
    -- a byte above commas and quotes is passed
    pub end_over : 44 < get_or s i 0 → end_in s q (i + 1) ≡ x
    end_over l = end_pass q (pass_over s q i h l)

    -- a comma ends it
    pub end_comma : get_or s i 0 ≡ 44 → q ≡ false → i ≡ x
    unfolding field_len is_sep
    end_comma c t = sym (add-zero i) ∙ (rw (line_byte s i h (λ z. absurd (omega arith)), t, eq-eqb (get_or s i 0) 44 c) at e)

    -- but not within quotes
    pub end_quoted : get_or s i 0 ≡ 44 → q ≡ true → end_in s q (i + 1) ≡ x
    end_quoted c t = end_pass q (pass_quoted s q i h c t)

    -- a quote is passed
    pub end_quote : get_or s i 0 ≡ 34 → end_in s (not q) (i + 1) ≡ x
    end_quote c = end_pass (not q) (pass_quote s q i h c)

    module _ (c : Bool) (p : c ≡ ends_here (drop i s)) where
      -- a CR LF ends it
      pub end_ends : c ≡ true → i ≡ x
      end_ends t = end_none (line_ends s i c p t)

      -- another byte is passed
      pub end_other : (get_or s i 0 ≡ 44 → ⊥) → (get_or s i 0 ≡ 34 → ⊥) → c ≡ false → end_in s q (i + 1) ≡ x
      end_other m n t = end_pass q (pass_other s q i h m n c p t)

-- ---- past a field at once

-- a line is at its end, or has a byte
line_parts : {A : Type 0} (s : List ℕ) (i : ℕ) → (line_at s i ≡ [] → A) → (i < length s → line_at s i ≡ get_or s i 0 ∷ line_at s (i + 1) → A) → A
line_parts {A = A} s i f g = elim (dec_lt i (length s)) [ yes h ↦ go h (ends_here (drop i s)) refl | no h ↦ f (line_over s i (omega arith)) ]
  where
    go : i < length s → (c : Bool) → ends_here (drop i s) ≡ c → A
    go h true e = f (line_ends s i true (sym e) refl)
    go h false e = g h (line_cons s i h e)

-- where a field ends stands its comma, and what comes after it, or the line ends and nothing does
module _ (A : Type 0) (s : List ℕ) where
  abbrev Comma : Bool → ℕ → Type 0
  Comma q i = end_in s q i < length s → get_or s (end_in s q i) 0 ≡ 44 → line_at s (end_in s q i + 1) ≡ after_field q (line_at s i) → A

  abbrev Nothing : Bool → ℕ → Type 0
  Nothing q i = line_at s (end_in s q i) ≡ [] → after_field q (line_at s i) ≡ [] → A

  past_end : (q : Bool) (i : ℕ) → Nothing q i → line_at s i ≡ [] → A
  unfolding field_len after_field
  past_end q i g e = let z : end_in s q i ≡ i = rw e (add-zero i) in g (rw z e) (rw e)

  past_comma : (q : Bool) (i : ℕ) → Comma q i → i < length s → line_at s i ≡ get_or s i 0 ∷ line_at s (i + 1) → is_sep q (get_or s i 0) ≡ true → A
  unfolding field_len after_field
  past_comma q i f l e c = let z : end_in s q i ≡ i = rw (e, c) (add-zero i) in f (rw z l) (rw z (sep_is q (get_or s i 0) c).0) (rw (z, e, c))

  past : (n : ℕ) (q : Bool) (i : ℕ) → length s ≤ i + n → Comma q i → Nothing q i → A
  unfolding field_len after_field
  past zero q i h f g = past_end q i g (line_over s i (omega arith))
  past (suc n) q i h f g = line_parts s i (past_end q i g) (λ l e. go l e (is_sep q (get_or s i 0)) refl (λ q'. past n q' (i + 1) (omega arith)))
    where
      go : i < length s → line_at s i ≡ get_or s i 0 ∷ line_at s (i + 1) → (c : Bool) → is_sep q (get_or s i 0) ≡ c → ((q' : Bool) → Comma q' (i + 1) → Nothing q' (i + 1) → A) → A
      go l e true c on = past_comma q i f l e c
      go l e false c on =
          let z : end_in s q i ≡ end_in s (turned q (get_or s i 0)) (i + 1) = rw (e, c) (omega arith) in
          let y : after_field q (line_at s i) ≡ after_field (turned q (get_or s i 0)) (line_at s (i + 1)) = rw (e, c) in
          on (turned q (get_or s i 0)) (λ a b d. f (rw z a) (rw z b) (rw (z, y) d)) (λ a b. g (rw z a) (rw y b))

-- ---- the walk past some fields, of which so many are left at i

nothing_after : (n : ℕ) → after_fields n [] ≡ []
unfolding after_fields after_field
nothing_after zero = refl
nothing_after (suc n) = nothing_after n

module _ (s : List ℕ) (i left : ℕ) (x : List ℕ) (v : after_fields left (line_at s i) ≡ x) where
  -- none is
  pub past_done : left ≤ 0 → line_at s i ≡ x
  unfolding after_fields
  past_done z = let y : left ≡ 0 = omega arith in rw y at v

  module _ (e : ℕ) (q : e ≡ i + field_len false (line_at s i)) (l : 0 < left) where
    -- one, and those after it
    first_off : after_fields (left - 1) (after_field false (line_at s i)) ≡ x
    unfolding after_fields
    first_off = go left l v
      where
        go : (n : ℕ) → 0 < n → after_fields n (line_at s i) ≡ x → after_fields (n - 1) (after_field false (line_at s i)) ≡ x
        go zero l v = absurd (omega arith)
        go (suc n) l v = let z : suc n - 1 ≡ n = omega arith in rw z v

    -- where the line ends nothing is left
    ended : (e < length s → get_or s e 0 ≡ 44 → ⊥) → line_at s e ≡ x
    ended h = past _ s (length s) false i (omega arith) (λ a b d. absurd (h (rw q a) (rw q b))) (λ a b. rw q (a ∙ sym (nothing_after (left - 1)) ∙ (rw b at first_off)))

    -- at the bytes' end
    pub past_over : length s ≤ e → line_at s e ≡ x
    past_over h = ended (λ a b. omega arith)

    -- or at a CR LF
    pub past_ends : (get_or s e 0 ≡ 44 → ⊥) → line_at s e ≡ x
    past_ends h = ended (λ a b. h b)

    -- else a field is passed with its comma
    pub past_turn : e < length s → get_or s e 0 ≡ 44 → after_fields (left - 1) (line_at s (e + 1)) ≡ x
    past_turn m c = past _ s (length s) false i (omega arith) (λ a b d. rw (q, d) first_off) (λ a b. absurd (nil≢cons (sym (rw q a) ∙ line_byte s e m (λ z. omega arith))))

-- three fields on the content stands
pub content_three : (t : List ℕ) → after_fields 3 t ≡ content_of t
unfolding after_fields content_of
content_three t = refl

-- ---- a field

-- the first field stands at the front of the bytes
pub first_here : (s : List ℕ) (at e : ℕ) → e ≡ at + field_len false (line_at s at) → take (e - at) (drop at s) ≡ first_field (line_at s at)
unfolding first_field line_at
first_here s at e q =
    let n : e - at ≡ field_len false (line_at s at) = omega arith in
    rw n (sym (take-take (field_len false (line_at s at)) (line_len (drop at s)) (drop at s) (omega (arith, len_le false (line_at s at), length-take (line_len (drop at s)) (drop at s)))))

pub ruleset fielding = (rules, first_here)

-- field k is the first of what stands after k fields
pub field_after : (k : ℕ) (t : List ℕ) → get_or (fields_of t) k [] ≡ first_field (after_fields k t)
unfolding after_fields fields_of first_field
field_after zero t = ap (λ l. get_or l 0 []) (fields_next false t)
field_after (suc k) t = ap (λ l. get_or l (suc k) []) (fields_next false t) ∙ go (dec_lt (field_len false t) (length t)) ∙ field_after k (after_field false t)
  where
    none_there : (k : ℕ) → [] ≡ get_or (fields_from false []) k []
    none_there zero = unfold fields_from in refl
    none_there (suc k) = unfold fields_from in refl

    go : Dec (field_len false t < length t) → get_or (pick (ltb (field_len false t) (length t)) (fields_from false (drop (suc (field_len false t)) t)) []) k [] ≡ get_or (fields_from false (after_field false t)) k []
    go (yes h) = rw (lt-ltb (field_len false t) (length t) h, after_drop false t)
    go (no h) = rw (le-ltb (field_len false t) (length t) (omega arith), after_drop false t, at_end_lem t (suc (field_len false t)) (omega arith)) (none_there k)
