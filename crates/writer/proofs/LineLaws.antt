-- The laws of a line that is written.
use mathlib.Core.Path.{◌≡◌, sym, ap, ◌∙◌}
use mathlib.Core.List.{List, [], ◌∷◌, ◌++◌, append_assoc}
use Prim.Native.Nat.{ℕ, ◌+◌, ◌-◌, ◌≤◌}
use native.Mathlib.Omega.{arith}
use borrow.Author.Rules.{rules}
use borrow.Rule.Slice.PartMut.{put_mid}
use lib.ListN.{length, take, drop, length-append}
use Rattle.base.specs.Lists.{same, bytes}
use Rattle.base.specs.ListLaws.{same_eq}
use Rattle.theory.specs.Step.{Op}
use Rattle.theory.specs.Decimal.{width, width_f, dec, value, value_f}
use Rattle.theory.specs.DecimalLaws.{length_dec}
use Rattle.meaning.specs.Kinds.{Kind, kinds, ident}
use Rattle.meaning.specs.Records.{letter, change_text}
use Rattle.laws.specs.Kinds.{every}
use Rattle.laws.proofs.Room.{ident_long, letter_long}
use Rattle.text.specs.Front.{in_front}
use Rattle.text.proofs.FrontLaws.{front_then, front_room, front_last, last_room}
use Rattle.layout.specs.declared.records.Layout.{Layout}
use Rattle.layout.specs.Rows.{laid_out}
use Rattle.writer.specs.Lines.{line_front, line_back, line_bytes}

-- ---- the parts of a line

-- an identifier is its number in decimal
pub ident_dec : (k : Kind) → dec (value (ident k)) ≡ ident k
unfolding kinds ident dec width width_f value value_f same bytes
ident_dec k = same_eq (dec (value (ident k))) (ident k) (every (λ k. same (dec (value (ident k))) (ident k)) tt k)

ident_width : (k : Kind) → width (value (ident k)) ≡ 2
ident_width k = sym (length_dec (value (ident k))) ∙ ap length (ident_dec k) ∙ ident_long k

-- seven bytes stand before a line's number
pub length_front : (k : Kind) (o : Op) → length (line_front k o) ≡ 7
unfolding line_front
length_front k o = length-append (ident k) (44 ∷ (letter o ++ (44 ∷ []))) ∙ omega (arith, ident_long k, letter_long o, length-append (letter o) (44 ∷ []))

-- the content and three bytes after it
pub length_back : (c : List ℕ) → length (line_back c) ≡ 3 + length c
unfolding line_back
length_back c = omega (arith, length-append c (13 ∷ 10 ∷ []))

-- a line is what stands before its number, the number, and what stands after it
pub line_parts : (n : ℕ) (k : Kind) (o : Op) (c : List ℕ) → line_front k o ++ (dec n ++ line_back c) ≡ line_bytes n (record { op = o; rec = record { kind = k; content = c } })
unfolding line_bytes line_front line_back change_text
line_parts n k o c = simp append_assoc

-- how long a line is
pub length_line : (n : ℕ) (k : Kind) (o : Op) (c : List ℕ) → length (line_bytes n (record { op = o; rec = record { kind = k; content = c } })) ≡ 10 + width n + length c
length_line n k o c =
    ap length (sym (line_parts n k o c)) ∙ length-append (line_front k o) (dec n ++ line_back c)
    ∙ omega (arith, length-append (dec n) (line_back c), length_dec n, length_front k o, length_back c)

-- ---- before the number

module _ (k : Kind) (l : Layout) (old : List ℕ) (e : l ≡ laid_out k) where
  -- a kind's number has two digits
  pub ident_room : 2 ≤ length old → width l.number ≤ length old
  unfolding laid_out
  ident_room h = rw e (omega (arith, ident_width k))

  -- as many are written
  pub ident_count : (m : ℕ) → m ≡ width l.number → m ≡ 2
  unfolding laid_out
  ident_count m p = p ∙ rw e (ident_width k)

  -- which are the identifier
  pub ident_done : (new : List ℕ) → new ≡ in_front (dec l.number) old → new ≡ in_front (ident k) old
  unfolding laid_out
  ident_done new q = q ∙ rw (e, ident_dec k)

pub ruleset identifier = (rules, ident_room, ident_count, ident_done)

module _ (k : Kind) (o : Op) (x n : ℕ) (old new : List ℕ) (p : n ≡ 2) (q : new ≡ in_front (ident k) old) where
  -- CHANGE_TYPE has room
  pub letter_room : 7 ≤ length old → 5 ≤ length (take (length new - n) (drop n new))
  letter_room h = front_room (ident k) old new n 5 (p ∙ sym (ident_long k)) q (omega arith)

  -- after it the line stands up to its number
  pub front_done : (last : List ℕ) → 34 ∷ (x ∷ (34 ∷ [])) ≡ letter o → last ≡ in_front (44 ∷ (34 ∷ (x ∷ (34 ∷ (44 ∷ []))))) (take (length new - n) (drop n new)) → put_mid n (length new - n) new last ≡ in_front (line_front k o) old
  unfolding line_front
  front_done last g w = front_then (ident k) (44 ∷ (34 ∷ (x ∷ (34 ∷ (44 ∷ []))))) old new last n (p ∙ sym (ident_long k)) q w ∙ rw (← g)

pub ruleset front = (rules, letter_room, front_done)

-- ---- after the number

module _ (content old new last : List ℕ) (n m : ℕ) (h : 3 + length content ≤ length old) (p : n ≡ 1) (q : new ≡ in_front (44 ∷ []) old) where
  -- the content has room
  pub content_room : length content ≤ length (take (length new - n) (drop n new))
  content_room = front_room (44 ∷ []) old new n (length content) p q (omega arith)

  module _ (r : m ≡ length content) (u : last ≡ in_front content (take (length new - n) (drop n new))) where
    -- and so has CR LF
    pub end_room : 2 ≤ length (take (length (put_mid n (length new - n) new last) - (n + m)) (drop (n + m) (put_mid n (length new - n) new last)))
    end_room = last_room (44 ∷ []) content [] old new last [] n m p q r u 2 (omega arith)

    -- after it the line is at its end
    pub back_done : (end : List ℕ) → end ≡ in_front (13 ∷ (10 ∷ [])) (take (length (put_mid n (length new - n) new last) - (n + m)) (drop (n + m) (put_mid n (length new - n) new last)))
        → put_mid (n + m) (length (put_mid n (length new - n) new last) - (n + m)) (put_mid n (length new - n) new last) end ≡ in_front (line_back content) old
    unfolding line_back
    back_done end w = front_last (44 ∷ []) content (13 ∷ (10 ∷ [])) old new last end n m p q r u w

pub ruleset back = (rules, content_room, end_room, back_done)

-- ---- the whole line

-- its parts are as long as it
pub line_count : (k : Kind) (o : Op) (x : ℕ) (content : List ℕ) (n m j : ℕ) → n ≡ 7 → m ≡ width x → j ≡ 3 + length content → n + m + j ≡ length (line_bytes x (record { op = o; rec = record { kind = k; content = content } }))
line_count k o x content n m j p r t = omega (arith, length_line x k o content)

module _ (k : Kind) (o : Op) (x : ℕ) (content old new last : List ℕ) (n m : ℕ) (p : n ≡ 7) (q : new ≡ in_front (line_front k o) old) where
  seven : n ≡ length (line_front k o)
  seven = p ∙ sym (length_front k o)

  -- the number has room
  pub number_room : 10 + width x + length content ≤ length old → width x ≤ length (take (length new - n) (drop n new))
  number_room h = front_room (line_front k o) old new n (width x) seven q (omega arith)

  module _ (r : m ≡ width x) (u : last ≡ in_front (dec x) (take (length new - n) (drop n new))) where
    -- and so has what stands after it
    pub back_room : 10 + width x + length content ≤ length old → 3 + length content ≤ length (take (length (put_mid n (length new - n) new last) - (n + m)) (drop (n + m) (put_mid n (length new - n) new last)))
    back_room h = last_room (line_front k o) (dec x) [] old new last [] n m seven q (r ∙ sym (length_dec x)) u (3 + length content) (omega arith)

    -- with it the line is written
    pub line_done : (end : List ℕ) → end ≡ in_front (line_back content) (take (length (put_mid n (length new - n) new last) - (n + m)) (drop (n + m) (put_mid n (length new - n) new last)))
        → put_mid (n + m) (length (put_mid n (length new - n) new last) - (n + m)) (put_mid n (length new - n) new last) end ≡ in_front (line_bytes x (record { op = o; rec = record { kind = k; content = content } })) old
    line_done end w = front_last (line_front k o) (dec x) (line_back content) old new last end n m seven q (r ∙ sym (length_dec x)) u w ∙ ap (λ t. in_front t old) (line_parts x k o content)

pub ruleset line = (rules, number_room, back_room, line_count, line_done)
