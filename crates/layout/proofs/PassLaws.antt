-- The laws of the walk over the fields of a line that has as many as its kind, by where they end: none is past the last.
use mathlib.Core.Path.{◌≡◌, refl, sym, ap, ◌∙◌}
use mathlib.Core.Bool.{Bool, true, false}
use mathlib.Core.Option.{Option, none, some}
use mathlib.Core.List.{List, [], ◌∷◌, map}
use Prim.Native.Nat.{ℕ, zero, suc, ◌+◌, ◌-◌, ◌≤◌, ◌<◌}
use native.Mathlib.Nat.{zero-add}
use native.Mathlib.Omega.{arith}
use native.Mathlib.Decide.{dec_le}
use borrow.Author.Tests.{lt-ltb, not-true, not-false}
use borrow.Author.Rules.{rules}
use lib.ListN.{length, get_or, take, drop, length-map, length-drop, drop_of_length-le}
use lib.Seq.{drop-drop}
use Rattle.meaning.specs.Forms.{sound_as}
use Rattle.meaning.specs.Lines.{fields_from, fields_of}
use Rattle.meaning.specs.Kinds.{Kind}
use Rattle.meaning.specs.Table.{fields, scottish}
use Rattle.meaning.specs.Answers as meant
use Rattle.text.specs.Places.{field_len, field_end, ends_from, field_ends}
use Rattle.text.proofs.FieldLaws.{fields_many}
use Rattle.text.proofs.SplitLaws.{ends_at, len_le}
use Rattle.layout.specs.Rows.{bare, row_of, laid_out}
use Rattle.layout.specs.declared.records.Layout.{Layout}
use Rattle.layout.specs.Check.{bad_field, lowest_bad, Parted}
use Rattle.layout.proofs.CheckLaws.{bad_at, count_rows, fields_high, bad_start, bad_stop, bad_turn, bad_last, bad_done, row_there, fields_more, fields_last}

-- the fault of the lowest field that is malformed, or none
abbrev pub lowest : Kind → List ℕ → Option meant.Fault
lowest kd t = lowest_bad 1 (map bare (fields kd)) (fields_of t)

-- k of n fields are passed, and the next one starts at `at`
pub record Passing (kd : Kind) (t a : List ℕ) (n k at : ℕ) : Type 0 where
  pub rows : n ≡ length (map bare (fields kd))
  pub left : bad_at kd t k at ≡ lowest kd t
  pub within : k < n → at ≤ length t
  pub many : k < n → k + length (fields_from false (drop at t)) ≡ n
  pub ended : k < n → drop k (field_ends t) ≡ ends_from false at (drop at t)
  pub parted : Parted kd t a

-- at the start none is passed
pub pass_start : (kd : Kind) (t a : List ℕ) (l : Layout) → l ≡ laid_out kd → Parted kd t a → Passing kd t a l.count 0 0
unfolding fields_of field_ends
pass_start kd t a l e h = record {
  rows = count_rows kd l e;
  left = bad_start kd t;
  within = λ i. omega arith;
  many = λ i. zero-add (length (fields_from false t)) ∙ fields_many t (length (fields kd)) h.many ∙ sym (count_rows kd l e ∙ length-map (fields kd) bare);
  ended = λ i. refl;
  parted = h;
}

-- field k has a row
pub pass_row : (kd : Kind) (t a : List ℕ) (n k at : ℕ) → Passing kd t a n k at → k < n → k < length (fields kd)
pass_row kd t a n k at p h = row_there kd k n h p.rows

-- its end is noted
pub pass_room : (kd : Kind) (t a : List ℕ) (n k at : ℕ) → Passing kd t a n k at → k < n → k < length a
pass_room kd t a n k at p h = let r = p.parted.room in let m = p.rows in omega (arith, length-map (fields kd) bare, fields_high kd)

-- and is one of those of which every kind has no more
pub pass_few : (kd : Kind) (t a : List ℕ) (n k at : ℕ) → Passing kd t a n k at → k < n → k < 32
pass_few kd t a n k at p h = let m = p.rows in omega (arith, length-map (fields kd) bare, fields_high kd)

-- what stands first of what is left stands there
first_left : (l es : List ℕ) (k e : ℕ) → drop k l ≡ e ∷ es → get_or l k 0 ≡ e
first_left [] es zero e h = let z : ◌≡◌ {A = List ℕ} [] (e ∷ es) = h in cc
first_left [] es (suc k) e h = let z : ◌≡◌ {A = List ℕ} [] (e ∷ es) = h in cc
first_left (x ∷ l) es zero e h = ap (λ r. get_or r 0 0) h
first_left (x ∷ l) es (suc k) e h = first_left l es k e h

module _ (kd : Kind) (t a : List ℕ) (n k at : ℕ) (p : Passing kd t a n k at) (h : k < n) where
  -- what is noted is where it ends
  pub pass_end : get_or a k 0 ≡ field_end t at
  pass_end =
      let m = p.parted.noted.ends k (omega (arith, p.rows, h, fields_many t (length (fields kd)) p.parted.many, length-map (fields kd) bare)) (pass_room kd t a n k at p h) in
      m ∙ first_left (field_ends t) _ k (field_end t at) (p.ended h ∙ ends_at t at)

  -- after its start
  pub pass_forward : at ≤ get_or a k 0
  pass_forward = omega (arith, pass_end)

  -- and within the line
  pub pass_within : get_or a k 0 ≤ length t
  pass_within = omega (arith, pass_end, p.within h, len_le false (drop at t), length-drop at t)

  module _ (b : Bool) (s : b ≡ sound_as scottish.text_rule (row_of kd k).0 (row_of kd k).1 (take (get_or a k 0 - at) (drop at t))) where
    -- a field that is malformed is the lowest
    pub pass_stop : b ≡ false → some (bad_field (k + 1) (row_of kd k) (take (get_or a k 0 - at) (drop at t))) ≡ lowest kd t
    pass_stop f = bad_stop kd t k n at (lowest kd t) (get_or a k 0) b p.left h p.rows pass_end pass_forward s f

    -- and is told
    pub pass_told : b ≡ false → (x : meant.Fault) → x ≡ bad_field (k + 1) (row_of kd k) (take (get_or a k 0 - at) (drop at t)) → some x ≡ lowest kd t
    pass_told f x m = ap some m ∙ pass_stop f

    -- a sound one is passed
    pub pass_turn : b ≡ true → Passing kd t a n (k + 1) (get_or a k 0 + 1)
    unfolding lowest_bad
    pass_turn f = go (dec_le (length t) (get_or a k 0))
      where
        e : ℕ
        e = get_or a k 0

        go : Dec (length t ≤ e) → Passing kd t a n (k + 1) (e + 1)
        go (no m) =
            let ne : e ≡ length t → ⊥ = λ z. m (omega arith) in
            let more = ap length (fields_more t at e pass_end pass_forward ne pass_within) in
            let c = p.many h in
            let size : field_len false (drop at t) ≡ e - at = omega (arith, pass_end) in
            let next : at + suc (e - at) ≡ e + 1 = omega (arith, pass_forward) in
            let tail : drop 1 (ends_from false at (drop at t)) ≡ ends_from false (e + 1) (drop (e + 1) t) = ap (drop 1) (ends_at t at) ∙ rw (size, lt-ltb (e - at) (length t - at) (omega (arith, pass_forward)), next) in
            record {
              rows = p.rows;
              left = bad_turn kd t k n at (lowest kd t) e b p.left h p.rows pass_end pass_forward s f ne pass_within;
              within = λ i. omega arith;
              many = λ i. omega arith;
              ended = λ i. sym (drop-drop 1 k (field_ends t)) ∙ ap (drop 1) (p.ended h) ∙ tail;
              parted = p.parted;
            }
        go (yes m) =
            let z : e ≡ length t = omega (arith, pass_within) in
            let one = ap length (fields_last t at e pass_end pass_forward z) in
            let c = p.many h in
            let r = p.rows in
            let d : length (map bare (fields kd)) ≤ k + 1 = omega arith in
            record {
              rows = p.rows;
              left = rw (drop_of_length-le (map bare (fields kd)) {i = k + 1} d) (bad_last kd t k n at (lowest kd t) e b p.left h p.rows pass_end pass_forward s f z);
              within = λ i. omega arith;
              many = λ i. absurd (omega arith);
              ended = λ i. absurd (omega arith);
              parted = p.parted;
            }

-- after the last field none is malformed
pub pass_done : (kd : Kind) (t a : List ℕ) (n k at : ℕ) → Passing kd t a n k at → n ≤ k → none ≡ lowest kd t
pass_done kd t a n k at p h = bad_done kd t k n at (lowest kd t) p.left h p.rows

pub ruleset passing = (rules, not-true, not-false, pass_start, pass_row, pass_room, pass_forward, pass_within, pass_told, pass_turn, pass_done)
