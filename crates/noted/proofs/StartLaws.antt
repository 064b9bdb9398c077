-- The laws of the starts of the fields by which a line refers to others.
use mathlib.Core.Path.{◌≡◌, refl, sym, ap, ◌∙◌, subst}
use mathlib.Core.Bool.{Bool, true, false}
use mathlib.Core.Option.{none, some}
use mathlib.Core.List.{List, [], ◌∷◌}
use Prim.Native.Nat.{ℕ, zero, suc, ◌+◌, ◌-◌, ◌*◌, ◌%◌, ◌/◌, ◌≤◌, ◌<◌}
use native.Mathlib.Decide.{dec_lt}
use native.Mathlib.Omega.{arith}
use borrow.Author.Rules.{rules}
use borrow.Author.Tests.{eq-eqb, ne_eqb, lt-ltb, le-ltb}
use lib.Dec.{ltb, ltb→lt}
use lib.ListN.{length, get_or, take, drop, length-take, length-drop}
use lib.Seq.{drop-drop}
use Rattle.base.specs.Lists.{pick, same}
use Rattle.base.specs.Tests.{T_false}
use Rattle.theory.specs.Decimal.{value}
use Rattle.meaning.specs.Lines.{fields_from, fields_of, after_field}
use Rattle.meaning.specs.Forms.{Form, is_textual, is_empty}
use Rattle.meaning.specs.Kinds.{Kind}
use Rattle.meaning.specs.Table.{fields}
use Rattle.meaning.specs.Records.{content_of}
use Rattle.text.specs.Places.{ends_here, line_len, field_len, field_end, ends_from, field_ends, Notes}
use Rattle.text.proofs.LineLaws.{ends_there}
use Rattle.text.proofs.FieldLaws.{fields_at, after_drop}
use Rattle.text.proofs.SplitLaws.{ends_at, start_by, Stands, noted_later}
use Rattle.layout.specs.declared.records.Layout.{Layout}
use Rattle.layout.specs.Rows.{row_of, laid_out}
use Rattle.pass.specs.Kinds.{PassedAs}
use Rattle.keys.specs.Numbers.{ref_at}
use Rattle.keys.specs.Places.{number_at, empty_at}
use Rattle.keys.proofs.PlaceLaws.{number_plain, number_there, empty_there}
use Rattle.keys.proofs.RowLaws.{ref_low, ref_none, ref_some}
use Rattle.entries.specs.Entries.{rec_of, line_at}
use Rattle.entries.specs.Fields.{after_fields, first_field}
use Rattle.entries.proofs.FieldLaws.{field_after}
use Rattle.noted.specs.Noted.{ref_there, RefsNoted}
use Rattle.noted.specs.Reads.{start_placed}
use Rattle.noted.proofs.PassedLaws.{placed_content, passed_line, passed_record, passed_many, passed_room, is_plain, placed_in, placed_form, by_placed}

-- ---- where a field starts

-- before the content there is none
pub start_none : (a : List ℕ) (p : ℕ) → p < 4 → 1 ≡ start_placed a p
unfolding start_placed
start_none a p h = rw (lt-ltb p 4 h)

-- one that ends where it starts has no bytes
pub start_empty : (a : List ℕ) (p : ℕ) → 4 ≤ p → get_or a (p - 2) 0 + 1 ≡ get_or a (p - 1) 0 → 1 ≡ start_placed a p
unfolding start_placed
start_empty a p h e = rw (le-ltb p 4 h, eq-eqb (get_or a (p - 2) 0 + 1) (get_or a (p - 1) 0) e)

-- another starts after the one before it
pub start_there : (a : List ℕ) (p : ℕ) → 4 ≤ p → (get_or a (p - 2) 0 + 1 ≡ get_or a (p - 1) 0 → ⊥) → get_or a (p - 2) 0 + 1 ≡ start_placed a p
unfolding start_placed
start_there a p h n = rw (le-ltb p 4 h, ne_eqb (get_or a (p - 2) 0 + 1) (get_or a (p - 1) 0) n)

pub ruleset starting = (rules, start_none, start_empty, start_there)

-- ---- what stands there

-- a line from one of its bytes on
line_drop : (i : ℕ) (l : List ℕ) → i ≤ line_len l → take (line_len (drop i l)) (drop i l) ≡ drop i (take (line_len l) l)
unfolding line_len
line_drop zero l h = refl
line_drop (suc i) [] h = absurd (omega arith)
line_drop (suc i) (x ∷ r) h = go (ends_here (x ∷ r)) h (line_drop i r)
  where
    go : (b : Bool) → suc i ≤ pick b 0 (suc (line_len r)) → (i ≤ line_len r → take (line_len (drop i r)) (drop i r) ≡ drop i (take (line_len r) r))
        → take (line_len (drop i r)) (drop i r) ≡ drop (suc i) (take (pick b 0 (suc (line_len r))) (x ∷ r))
    go true h ih = absurd (omega arith)
    go false h ih = ih (omega arith)

-- at an offset
line_from_lem : (s : List ℕ) (at i : ℕ) → i ≤ line_len (drop at s) → line_at s (at + i) ≡ drop i (line_at s at)
unfolding line_at
line_from_lem s at i h = rw (← drop-drop i at s) (line_drop i (drop at s) h)

-- what stands after k fields stands from the start of the next on
after_from : (t : List ℕ) (k at : ℕ) → at ≤ length t → k < length (fields_from false (drop at t)) → after_fields k (drop at t) ≡ drop (start_by at (ends_from false at (drop at t)) k) t
unfolding after_fields
after_from t zero at h l = refl
after_from t (suc k) at h l = go (ltb n (length t - at)) refl (fields_at t at) (ends_at t at) (after_from t k (at + suc (field_len false (drop at t))))
  where
    n : ℕ
    n = field_len false (drop at t)

    next : ℕ
    next = at + suc n

    starts : (j : ℕ) (es : List ℕ) → start_by at (field_end t at ∷ es) (suc j) ≡ start_by next es j
    starts zero es = omega arith
    starts (suc j) es = refl

    go : (b : Bool) → ltb n (length t - at) ≡ b
        → fields_from false (drop at t) ≡ take n (drop at t) ∷ pick b (fields_from false (drop next t)) []
        → ends_from false at (drop at t) ≡ field_end t at ∷ pick b (ends_from false next (drop next t)) []
        → (next ≤ length t → k < length (fields_from false (drop next t)) → after_fields k (drop next t) ≡ drop (start_by next (ends_from false next (drop next t)) k) t)
        → after_fields k (after_field false (drop at t)) ≡ drop (start_by at (ends_from false at (drop at t)) (suc k)) t
    go false w e f ih = absurd (omega (arith, ap length e))
    go true w e f ih =
        let more : next ≤ length t = omega (arith, ltb→lt n (length t - at) (rw w tt)) in
        let deep : k < length (fields_from false (drop next t)) = omega (arith, ap length e) in
        rw (f, starts k (ends_from false next (drop next t)), after_drop false (drop at t), drop-drop (suc n) at t) (ih more deep)

-- so a field is the first after the noted end of the one before it
field_from_lem : (t a : List ℕ) → Notes t a → (k : ℕ) → suc k < length (fields_of t) → suc k < length a → first_field (drop (get_or a k 0 + 1) t) ≡ get_or (fields_of t) (suc k) []
field_from_lem t a n k l g = rw (n.ends k (omega arith) (omega arith)) (sym (field_after (suc k) t ∙ ap first_field (from l)))
  where
    from : suc k < length (fields_of t) → after_fields (suc k) t ≡ drop (get_or (field_ends t) k 0 + 1) t
    from l = unfold fields_of field_ends in (after_from t (suc k) 0 (omega arith) l)

-- ---- what is referred to

-- a form that is no text's is empty without bytes
plain_empty : (m : Form) (f : List ℕ) → is_textual m ≡ false → length f ≡ 0 → true ≡ is_empty m f
unfolding is_empty same
plain_empty m [] p h = rw p
plain_empty m (x ∷ f) p h = absurd (omega arith)

-- and only so
plain_filled : (m : Form) (f : List ℕ) → is_textual m ≡ false → (length f ≡ 0 → ⊥) → false ≡ is_empty m f
unfolding is_empty same
plain_filled m [] p h = absurd (h refl)
plain_filled m (x ∷ f) p h = rw p

-- 1 byte stands for no field
there_none : (s : List ℕ) (at to off : ℕ) → off ≡ 1 → ref_there s at to off ≡ none
unfolding ref_there
there_none s at to off h = rw (eq-eqb off 1 h)

-- another start for the field that begins there
there_some : (s : List ℕ) (at to off : ℕ) → (off ≡ 1 → ⊥) → ref_there s at to off ≡ some (to ∷ value (take 16 (first_field (line_at s (at + off)))) ∷ 0 ∷ 0 ∷ [])
unfolding ref_there
there_some s at to off h = rw (ne_eqb off 1 h)

-- the field at a place of a line that was passed
module _ (k : Kind) (s a : List ℕ) (at e : ℕ) (p : PassedAs k s a at e) (i : ℕ) (o : 4 ≤ i) (u : i ≤ length (fields k)) where
  abbrev text : List ℕ
  text = take (e - at) (drop at s)

  abbrev start : ℕ
  start = get_or a (i - 2) 0 + 1

  -- it stands from its start up to its end
  stands : Stands text (get_or (fields_of text) (i - 1) []) start (get_or a (i - 1) 0)
  stands =
      let z : i - 1 - 1 ≡ i - 2 = omega arith in
      rw z at (noted_later text a p.line.noted (i - 1) (λ n. omega arith) (omega (arith, passed_many k s a at e p)) (omega (arith, passed_room k s a at e p)))

  -- not at 1, where no field of the content starts
  above : 1 < start
  above =
      let w = (noted_later text a p.line.noted (i - 2) (λ n. omega arith) (omega (arith, passed_many k s a at e p)) (omega (arith, passed_room k s a at e p))).forward in
      omega (arith, w)

  -- within the line
  in_line : start ≤ e - at
  in_line = omega (arith, stands.forward, stands.within, length-take (e - at) (drop at s))

  -- and it is the first of what stands in the bytes from there on
  begins : first_field (line_at s (at + start)) ≡ get_or (fields_of text) (i - 1) []
  begins =
      let z : suc (i - 2) ≡ i - 1 = omega arith in
      ap first_field (line_from_lem s at start (rw (ends_there s at e p.line.plain (sym p.line.ended)) in_line) ∙ ap (drop start) (passed_line k s a at e p))
      ∙ (rw z at (field_from_lem text a p.line.noted (i - 2) (omega (arith, passed_many k s a at e p)) (omega (arith, passed_room k s a at e p))))

module _ (k : Kind) (s a : List ℕ) (at e : ℕ) (p : PassedAs k s a at e) (l : Layout) (q : l ≡ laid_out k) (j : ℕ) where
  -- the place of a field by which a record refers is one of the line's
  by_in : get_or l.by j 0 ≤ length (fields k)
  by_in = placed_in is_plain k (get_or l.by j 0) (by_placed k l q j)

  -- its end is noted
  pub by_room : get_or l.by j 0 ≤ length a
  by_room = omega (arith, by_in, passed_room k s a at e p)

  -- after that of the field before it
  pub by_after : 4 ≤ get_or l.by j 0 → get_or a (get_or l.by j 0 - 2) 0 < get_or a (get_or l.by j 0 - 1) 0
  by_after o = omega (arith, (stands k s a at e p (get_or l.by j 0) o by_in).forward)

  -- what is read there
  module _ (n : ℕ) (v : n ≡ start_placed a (get_or l.by j 0)) where
    -- starts in the bytes
    start_in_lem : at + n ≤ length s
    start_in_lem = go (dec_lt (get_or l.by j 0) 4)
      where
        place : ℕ
        place = get_or l.by j 0

        go : Dec (place < 4) → at + n ≤ length s
        go (yes h) = omega (arith, start_none a place h, p.line.forward, p.inside)
        go (no h) = part (dec_lt (get_or a (place - 2) 0 + 1) (get_or a (place - 1) 0))
          where
            part : Dec (get_or a (place - 2) 0 + 1 < get_or a (place - 1) 0) → at + n ≤ length s
            part (yes z) = omega (arith, start_there a place (omega arith) (λ y. omega arith), in_line k s a at e p place (omega arith) by_in, p.line.forward, p.line.within)
            part (no z) = omega (arith, start_empty a place (omega arith) (omega (arith, by_after (omega arith))), p.line.forward, p.inside)

    -- and is what the record refers to
    start_refers : j ≤ 1 → ref_at k (content_of (take (e - at) (drop at s))) j ≡ ref_there s at (get_or l.to j 0) n
    start_refers b = go (dec_lt (get_or l.by j 0) 4)
      where
        place : ℕ
        place = get_or l.by j 0

        t : List ℕ
        t = take (e - at) (drop at s)

        f : List ℕ
        f = get_or (fields_of t) (place - 1) []

        m : Form
        m = (row_of k (place - 1)).0

        size : 4 ≤ place → length f ≡ get_or a (place - 1) 0 - (get_or a (place - 2) 0 + 1)
        size o = let w = stands k s a at e p place o by_in in omega (arith, ap length w.bytes, length-take (get_or a (place - 1) 0 - (get_or a (place - 2) 0 + 1)) (drop (get_or a (place - 2) 0 + 1) t), length-drop (get_or a (place - 2) 0 + 1) t, w.forward, w.within)

        plain : 4 ≤ place → is_textual m ≡ false
        plain o = T_false (is_textual m) (placed_form is_plain k place (by_placed k l q j) o)

        empties : 4 ≤ place → (c : Bool) → c ≡ is_empty m f → c ≡ empty_at k (content_of t) place
        empties o c g = empty_there k (content_of t) place m f o refl (placed_content t place o) c g

        numbers : 4 ≤ place → value (take 16 f) ≡ number_at k (content_of t) place
        numbers o = number_there k (content_of t) place m f o refl (placed_content t place o) (value (take 16 f)) (number_plain m f false (sym (plain o)) (value (take 16 f)) refl refl)

        part : (o : 4 ≤ place) → Dec (get_or a (place - 2) 0 + 1 < get_or a (place - 1) 0) → ref_at k (content_of t) j ≡ ref_there s at (get_or l.to j 0) n
        part o (yes z) =
            let w : n ≡ get_or a (place - 2) 0 + 1 = v ∙ sym (start_there a place o (λ y. omega arith)) in
            sym (ref_some k (content_of t) j l q b false (empties o false (plain_filled m f (plain o) (λ y. omega (arith, size o)))) (value (take 16 f)) refl (numbers o))
            ∙ sym (there_some s at (get_or l.to j 0) n (λ y. omega (arith, above k s a at e p place o by_in)) ∙ rw (w, begins k s a at e p place o by_in))
        part o (no z) =
            let y : get_or a (place - 2) 0 + 1 ≡ get_or a (place - 1) 0 = omega (arith, by_after o) in
            sym (ref_none k (content_of t) j l q b true (empties o true (plain_empty m f (plain o) (omega (arith, size o)))) refl)
            ∙ sym (there_none s at (get_or l.to j 0) n (v ∙ sym (start_empty a place o y)))

        go : Dec (place < 4) → ref_at k (content_of t) j ≡ ref_there s at (get_or l.to j 0) n
        go (yes h) = sym (ref_low k (content_of t) j l q b h) ∙ sym (there_none s at (get_or l.to j 0) n (v ∙ sym (start_none a place h)))
        go (no h) = part (omega arith) (dec_lt (get_or a (place - 2) 0 + 1) (get_or a (place - 1) 0))

-- two starts in one number
pub starts_noted : (k : Kind) (s a : List ℕ) (at e : ℕ) → PassedAs k s a at e → (l : Layout) → l ≡ laid_out k → (first second v : ℕ)
    → first ≡ start_placed a (get_or l.by 0 0) → second ≡ start_placed a (get_or l.by 1 0) → first ≤ 65535 → v ≡ first + second * 65536 → RefsNoted s at v (rec_of (line_at s at))
starts_noted k s a at e p l q first second v f g h w =
    let one : v % 65536 ≡ first = omega arith in
    let two : v / 65536 ≡ second = omega arith in
    let r = passed_record k s a at e p in
    subst (λ x. RefsNoted s at v x) (sym r) (record {
      own = sym r;
      first = rw (one, ← q) (start_refers k s a at e p l q 0 first f (omega arith));
      second = rw (two, ← q) (start_refers k s a at e p l q 1 second g (omega arith));
      first_in = rw one (start_in_lem k s a at e p l q 0 first f);
      second_in = rw two (start_in_lem k s a at e p l q 1 second g);
    })

pub ruleset noting = (rules, by_room, by_after)
