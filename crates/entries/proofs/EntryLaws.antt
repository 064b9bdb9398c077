-- The laws of lines and entries: which line an entry names, and the keys of both.
use mathlib.Core.List.{List, [], ◌∷◌}
use mathlib.Core.Path.{◌≡◌, refl, sym, ap, ◌∙◌}
use Prim.Native.Nat.{ℕ, ◌-◌, ◌/◌, ◌%◌, ◌≤◌, ◌<◌, ◌+◌, max}
use native.Mathlib.Omega.{arith}
use borrow.Author.Rules.{rules}
use borrow.Author.Tests.{eq-eqb, ne_eqb}
use lib.ListN.{length, get_or, take, drop}
use Rattle.base.proofs.Walk.{at_end_lem}
use Rattle.theory.specs.Lex.{cmp_n, lex}
use Rattle.theory.specs.Tri.{Tri}
use Rattle.meaning.specs.Lines.{identifier}
use Rattle.meaning.specs.Records.{Rec, content_of}
use Rattle.meaning.specs.Kinds.{Kind}
use Rattle.meaning.specs.Format.{kind_of}
use Rattle.meaning.specs.Table.{scottish}
use Rattle.text.specs.Places.{line_len, line_end}
use Rattle.layout.specs.Rows.{laid_out}
use Rattle.layout.specs.declared.records.Layout.{Layout}
use Rattle.keys.specs.Numbers.{key_numbers}
use Rattle.keys.specs.Places.{number_at}
use Rattle.keys.proofs.RowLaws.{lex_first, lex_after, lex_last, key_is}
use Rattle.entries.specs.Fields.{after_fields, rest_numbers}
use Rattle.entries.specs.Entries.{known, rec_of, line_at, record_of}
use Rattle.entries.proofs.FieldLaws.{content_three}

-- ---- an entry

-- an even entry is a line of the holding
pub entry_held : (h f : List ℕ) (v : ℕ) → v % 2 ≡ 0 → record_of h f v ≡ rec_of (line_at h (v / 2))
unfolding record_of
entry_held h f v e = rw (eq-eqb (v % 2) 0 e)

-- an odd entry is a line of the file
pub entry_filed : (h f : List ℕ) (v : ℕ) → (v % 2 ≡ 0 → ⊥) → record_of h f v ≡ rec_of (line_at f (v / 2))
unfolding record_of
entry_filed h f v e = rw (ne_eqb (v % 2) 0 e)

-- so its line is looked for in the one
pub line_held : (h f s : List ℕ) (v : ℕ) → v % 2 ≡ 0 → s ≡ h → (rec_of (line_at s (v / 2)) ≡ record_of h f v) × (length s ≤ max (length h) (length f))
line_held h f s v e q = (rw q (sym (entry_held h f v e)), omega (arith, ap length q))

-- or in the other
pub line_filed : (h f s : List ℕ) (v : ℕ) → (v % 2 ≡ 0 → ⊥) → s ≡ f → (rec_of (line_at s (v / 2)) ≡ record_of h f v) × (length s ≤ max (length h) (length f))
line_filed h f s v e q = (rw q (sym (entry_filed h f v e)), omega (arith, ap length q))

-- its key is that of its line
pub key_entry : (x y : Rec) (r : List ℕ) → x ≡ y → r ≡ key_numbers x → r ≡ key_numbers y
key_entry x y r e u = u ∙ ap key_numbers e

pub ruleset entrykey = (rules, key_entry)

-- and another is compared to it as to that
pub order_entry : (x y : Rec) (k : List ℕ) (o : Tri) → x ≡ y → o ≡ lex k (key_numbers x) → o ≡ lex k (key_numbers y)
order_entry x y k o e u = u ∙ ap (λ r. lex k (key_numbers r)) e

pub ruleset keyagainst = (rules, order_entry)

-- the entry of a line of the holding
pub entry_even : (h f : List ℕ) (at v : ℕ) → v ≡ at + at → record_of h f v ≡ rec_of (line_at h at)
entry_even h f at v q =
    let d : v / 2 ≡ at = omega arith in
    entry_held h f v (omega arith) ∙ rw d

-- the entry of a line of the file
pub entry_odd : (h f : List ℕ) (at v : ℕ) → v ≡ at + at + 1 → record_of h f v ≡ rec_of (line_at f at)
entry_odd h f at v q =
    let d : v / 2 ≡ at = omega arith in
    entry_filed h f v (λ e. omega arith) ∙ rw d

-- an entry of the holding does not depend on the file
pub held_any : (h f g : List ℕ) (v : ℕ) → v % 2 ≡ 0 → record_of h f v ≡ record_of h g v
held_any h f g v e = entry_held h f v e ∙ sym (entry_held h g v e)

-- ---- a line

-- past the end stands an empty line
pub line_past : (s : List ℕ) (at : ℕ) → length s < at → [] ≡ line_at s at
unfolding line_at line_len
line_past s at l = rw (at_end_lem s at (omega arith))

-- else the line runs up to its end
pub line_here_lem : (s : List ℕ) (at e : ℕ) → e ≡ line_end s at → take (e - at) (drop at s) ≡ line_at s at
unfolding line_at
line_here_lem s at e q =
    let n : e - at ≡ line_len (drop at s) = omega arith in
    rw n

module _ (s : List ℕ) (at i : ℕ) (k : Kind) (p : line_at s i ≡ line_at s at) (q : k ≡ known (kind_of scottish (identifier (line_at s i)))) where
  -- the record of the line at an offset is of its kind, and of what stands after three fields
  pub rec_at : record { kind = k; content = after_fields 3 (line_at s i) } ≡ rec_of (line_at s at)
  unfolding rec_of
  rec_at = rw (← p, q, content_three (line_at s i))

  -- and so is its key
  pub key_line : (c : ℕ) (r : List ℕ) → line_at s c ≡ after_fields 3 (line_at s i) → r ≡ key_numbers (record { kind = k; content = line_at s c }) → r ≡ key_numbers (rec_of (line_at s at))
  key_line c r u e = e ∙ rw u (ap key_numbers rec_at)

  -- to which another is compared
  pub order_line : (j : List ℕ) (o : Tri) → o ≡ lex j (key_numbers (record { kind = k; content = after_fields 3 (line_at s i) })) → o ≡ lex j (key_numbers (rec_of (line_at s at)))
  order_line j o e = e ∙ ap (λ r. lex j (key_numbers r)) rec_at

pub ruleset recordkey = (rules, key_line)

-- the key of a line whose kind is known
pub key_known : (s : List ℕ) (at c : ℕ) (k : Kind) (r : List ℕ) → k ≡ (rec_of (line_at s at)).kind → line_at s c ≡ after_fields 3 (line_at s at) → r ≡ key_numbers (record { kind = k; content = line_at s c }) → r ≡ key_numbers (rec_of (line_at s at))
unfolding rec_of
key_known s at c k r q u e = key_line s at at k refl q c r u e

pub ruleset linekey = (rules, key_known)

-- so is its kind
pub record_kind : (s : List ℕ) (at i : ℕ) (k : Kind) → line_at s i ≡ line_at s at → k ≡ known (kind_of scottish (identifier (line_at s i))) → k ≡ (rec_of (line_at s at)).kind
unfolding rec_of
record_kind s at i k p q = q ∙ rw p

pub ruleset recordkind = (rules, record_kind)

-- and its content, which runs up to the line's end
pub record_content : (s : List ℕ) (at i c e : ℕ) → line_at s i ≡ line_at s at → line_at s c ≡ after_fields 3 (line_at s i) → e ≡ line_end s c → take (e - c) (drop c s) ≡ (rec_of (line_at s at)).content
unfolding rec_of
record_content s at i c e p u q = line_here_lem s c e q ∙ u ∙ content_three (line_at s i) ∙ ap content_of p

pub ruleset recordcontent = (rules, record_content)

pub ruleset lineorder = (rules, order_line)

-- the numbers of a key, one by one
pub key_numbers_lem : (k : Kind) (c : List ℕ) → key_numbers (record { kind = k; content = c }) ≡ (laid_out k).number ∷ (number_at k c (get_or (laid_out k).key 0 0) ∷ rest_numbers k c)
unfolding rest_numbers
key_numbers_lem k c = sym (key_is k c (laid_out k) (number_at k c (get_or (laid_out k).key 0 0)) (number_at k c (get_or (laid_out k).key 1 0)) (number_at k c (get_or (laid_out k).key 2 0)) refl refl refl refl)

module _ (k : Kind) (c : List ℕ) (l : Layout) (e : l ≡ laid_out k) (x : ℕ) (o : Tri) where
  -- kinds that differ tell the order
  pub order_kind : (xs : List ℕ) → (x ≡ l.number → ⊥) → o ≡ cmp_n x l.number → o ≡ lex (x ∷ xs) (key_numbers (record { kind = k; content = c }))
  order_kind xs n u = rw (key_numbers_lem k c) (lex_first x (laid_out k).number xs _ o (rw e at n) (rw e at u))

  module _ (d : List ℕ) (y first : ℕ) (ys : List ℕ) (m : x ≡ l.number) (z : d ≡ c) (f : first ≡ number_at k d (get_or (laid_out k).key 0 0)) where
    -- and so do the first numbers that differ
    pub order_first : (y ≡ first → ⊥) → o ≡ cmp_n y first → o ≡ lex (x ∷ (y ∷ ys)) (key_numbers (record { kind = k; content = c }))
    order_first n u = rw (key_numbers_lem k c, ← z, ← f) (lex_after x (laid_out k).number (y ∷ ys) _ o (rw e at m) (lex_first y first ys _ o n u))

    -- else the others do
    pub order_rest : y ≡ first → o ≡ lex ys (rest_numbers k d) → o ≡ lex (x ∷ (y ∷ ys)) (key_numbers (record { kind = k; content = c }))
    order_rest n u = rw (key_numbers_lem k c, ← z, ← f) (lex_after x (laid_out k).number (y ∷ ys) _ o (rw e at m) (lex_after y first ys _ o n u))

pub ruleset atorder = (rules, order_kind, order_first, order_rest)

module _ (k : Kind) (c : List ℕ) (l : Layout) (e : l ≡ laid_out k) (x y second : ℕ) (o : Tri) (p : second ≡ number_at k c (get_or l.key 1 0)) where
  -- the second numbers tell it where they differ
  pub rest_second : (x ≡ second → ⊥) → o ≡ cmp_n x second → o ≡ lex (x ∷ (y ∷ [])) (rest_numbers k c)
  unfolding rest_numbers
  rest_second n u = rw (← e, ← p) (lex_first x second (y ∷ []) _ o n u)

  -- else the third do
  pub rest_third : (third : ℕ) → x ≡ second → third ≡ number_at k c (get_or l.key 2 0) → o ≡ cmp_n y third → o ≡ lex (x ∷ (y ∷ [])) (rest_numbers k c)
  unfolding rest_numbers
  rest_third third n q u = rw (← e, ← p, ← q) (lex_after x second (y ∷ []) (third ∷ []) o n (lex_last y third o u))

pub ruleset restorder = (rules, rest_second, rest_third)
