-- The laws of the walk over the lines: the next key, and what is read so far with what is left.
use mathlib.Core.Path.{◌≡◌, refl, sym, ap, subst, ◌∙◌}
use mathlib.Core.Bool.{Bool, true, false, ◌&&◌}
use mathlib.Core.Option.{Option, none, some}
use mathlib.Core.List.{List, [], ◌∷◌, ◌++◌, map, append_assoc, append-nil, map-append}
use Prim.Native.Nat.{ℕ, suc, ◌+◌, ◌-◌, ◌*◌, ◌/◌, ◌%◌, ◌≤◌, ◌<◌}
use native.Mathlib.Decide.{dec_lt}
use native.Mathlib.Numerals.{add-one}
use native.Mathlib.Omega.{arith}
use borrow.Author.Rules.{rules}
use borrow.Author.Tests.{le-leb, lt-leb}
use lib.Dec.{T, eqb, leb, leb→le}
use lib.ListN.{length, get_or, take, drop, set, length-set, length-drop}
use lib.Seq.{take-suc-set, get_or-set_same, get_or-set_other}
use mir.Facts.{yes_eqb}
use Rattle.base.specs.Lists.{all, pick, keep_if, bytes}
use Rattle.base.specs.Tests.{and_r, some≢none}
use Rattle.base.specs.ListLaws.{all_snoc}
use Rattle.theory.specs.Tri.{lt, is_lt}
use Rattle.theory.specs.Lex.{and_then, lex}
use Rattle.theory.specs.LexLaws.{is_cmp_n}
use Rattle.theory.specs.Decimal.{value, value_f}
use Rattle.meaning.specs.Lines.{Line, lines_of, fields_of, plain}
use Rattle.meaning.specs.Kinds.{Kind, kinds, ident}
use Rattle.meaning.specs.Table.{fields, scottish}
use Rattle.meaning.specs.Records.{Rec, content_of, key_of}
use Rattle.meaning.specs.Holding as meaning
use Rattle.meaning.specs.Holding.{sound, unsound, held_test, held_line, add_rec, above, on_held, scan, most_records}
use Rattle.laws.specs.Kinds.{every}
use Rattle.laws.specs.Body.{fine}
use Rattle.laws.specs.HoldingReadBack.{HeldIs, held_out}
use Rattle.laws.specs.Scottish.{scottish_regular}
use Rattle.std.specs.Prelude as std
use Rattle.std.specs.Prelude.{Some, None, Result, Ok, Err, IsErrAnd}
use Rattle.std.specs.Bool.{then_some}
use Rattle.std.specs.Option.{ok_or}
use Rattle.std.specs.declared.cmp.Ordering.{Ordering}
use Rattle.std.specs.declared.cmp.Ordering.TheVariants.{Less, Equal, Greater}
use Rattle.std.specs.Ordering as std_order
use Rattle.text.specs.Order.{tri_of}
use Rattle.text.specs.Places.{ends_here, line_len, plain_len, plain_end}
use Rattle.text.proofs.LineLaws.{first_line, lines_at, lines_end, ends_well_at, ends_there}
use Rattle.layout.specs.declared.kinds.Kind as code
use Rattle.layout.specs.Meant.{kind_meant, kind_found}
use Rattle.layout.specs.Rows.{bare}
use Rattle.layout.specs.Check.{lowest_bad, Parted}
use Rattle.pass.specs.declared.kind.Passed.{Passed}
use Rattle.pass.specs.Kinds.{PassedAs, FoundAs}
use Rattle.keys.specs.declared.Key.{Key}
use Rattle.keys.specs.Numbers.{key_list, key_numbers}
use Rattle.keys.proofs.KeyLaws.{key_agrees}
use Rattle.entries.specs.Entries.{rec_of, line_at, record_of}
use Rattle.entries.specs.Fields.{after_fields}
use Rattle.entries.specs.Tags.{tag_of}
use Rattle.entries.proofs.FieldLaws.{content_three}
use Rattle.entries.proofs.EntryLaws.{entry_even}
use Rattle.entries.proofs.LineLaws.{rec_known, held_there}
use Rattle.places.specs.Places.{says}
use Rattle.places.specs.Counts.{by_key}
use Rattle.places.proofs.SaysLaws.{says_more, says_held, length_says}
use Rattle.noted.specs.Noted.{RefsNoted}
use Rattle.holding.specs.declared.scan.Kept.{Kept}
use Rattle.holding.specs.Held.{held_as, record_as, record_up_to, next_as, key_taken, after_key, KeptOf, KeptIn, NextIs}
use Rattle.holding.specs.Read.{records_of, NotedAs, ScanIs, ReadAs}
use Rattle.holding.proofs.HeldLaws.{held_is, held_ended}

-- ---- the next line

-- a line is taken where its key stands after the one before
pub order_kept : (q : List ℕ) (l : Kept) (o : Ordering) → tri_of o ≡ lex q (key_list l.key) → (b : Bool) → b ≡ std_order.is_lt o → (r : std.Option Kept) → r ≡ then_some b l → r ≡ after_key q l
unfolding after_key
order_kept q l o w b e r f = f ∙ rw (e, ← w) (go o)
  where
    go : (o : Ordering) → then_some (std_order.is_lt o) l ≡ pick (is_lt (tri_of o)) (Some l) None
    go Less = refl
    go Equal = refl
    go Greater = refl

pub ruleset orders = (rules, order_kept)

module _ (h : List ℕ) (at e n : ℕ) (i : e ≡ plain_end h at) where
  -- the text that is judged
  abbrev judged : List ℕ
  judged = take (e - at) (drop at h)

  -- a line that is not held
  none_there : (q : List ℕ) → record_up_to h at e n ≡ none → NextIs h at n q None
  unfolding next_as
  none_there q z = record { key = rw (← i, z); kept = tt }

  -- one that is, where its key stands after the one before
  some_there : (q : List ℕ) (x : Rec) (l : Kept) → record_up_to h at e n ≡ some x → n ≤ most_records → key_list l.key ≡ key_numbers x → KeptOf h at e l → NextIs h at n q (after_key q l)
  unfolding next_as after_key keep_if
  some_there q x l z m v k = record {
    key = rw (← i, z, le-leb n most_records m, ← v) (keys (is_lt (lex q (key_list l.key))));
    kept = rw (← i) (keeps (is_lt (lex q (key_list l.key))));
  }
    where
      keys : (b : Bool) → key_taken (pick b (Some l) None) ≡ keep_if (b && true) (key_list l.key)
      keys true = refl
      keys false = refl

      keeps : (b : Bool) → KeptIn h at e (pick b (Some l) None)
      keeps true = k
      keeps false = tt

  module _ (b : Bool) (u : b ≡ ends_here (drop e h)) (o : std.Option code.Kind) (p : kind_found o ≡ held_as n b judged) where
    -- a line that is judged and not held
    pub judged_unheld : (q : List ℕ) → o ≡ None → (r : std.Option Kept) → r ≡ None → NextIs h at n q r
    unfolding record_as
    judged_unheld q l r d = rw d (none_there q (rw (← u, ← p, l)))

    module _ (k : code.Kind) (l : o ≡ Some k) where
      -- one that is held ends well
      well : b ≡ true
      unfolding held_as
      well = go b (sym p ∙ ap kind_found l)
        where
          go : (c : Bool) → held_as n c judged ≡ some (kind_meant k) → c ≡ true
          go true s = refl
          go false s = absurd (some≢none (sym s))

      -- so its content stands where it is read
      content_here : (c : ℕ) → line_at h c ≡ after_fields 3 (line_at h at) → line_at h c ≡ content_of judged
      unfolding line_at
      content_here c f = f ∙ content_three (line_at h at) ∙ rw (ends_there h at e i (sym u ∙ well))

      -- and it is taken in order, with no note
      pub judged_taken : (q : List ℕ) (c : ℕ) → line_at h c ≡ after_fields 3 (line_at h at) → (j : Key) → key_list j ≡ key_numbers (record { kind = kind_meant k; content = line_at h c }) → n ≤ most_records
          → (r : std.Option Kept) → r ≡ after_key q (record { key = j; end = e; noted = 0 }) → NextIs h at n q r
      unfolding record_as
      judged_taken q c f j v m r d =
          rw d
          (some_there q (record { kind = kind_meant k; content = content_of judged }) (record { key = j; end = e; noted = 0 }) (rw (← u, ← p, l)) m (v ∙ rw (content_here c f))
          (record { ends = refl; refs = λ z. absurd (omega (arith, z)) }))

pub ruleset judges = (rules, judged_unheld, judged_taken)

-- line 8,193 is the fault
pub next_many : (h : List ℕ) (at n : ℕ) (q : List ℕ) (m : ℕ) → m ≡ most_records → m < n → NextIs h at n q None
next_many h at n q m l o = record { key = go (record_up_to h at (plain_end h at) n); kept = tt }
  where
    no : (c : Bool) (k : List ℕ) → none ≡ keep_if (c && leb n most_records) k
    no true k = unfold keep_if in (rw (lt-leb n most_records (omega arith)))
    no false k = unfold keep_if in refl

    go : (o : Option Rec) → none ≡ next_as n q o
    go none = unfold next_as in refl
    go (some r) = unfold next_as in (no (is_lt (lex q (key_numbers r))) (key_numbers r))

module _ (h : List ℕ) (at : ℕ) (a : List ℕ) (f : std.Option Passed) (w : FoundAs h at a f) (k : code.Kind) (e : ℕ) (d : f ≡ Some (record { kind = k; end = e })) where
  -- a line that was passed
  pub passed_as : PassedAs (kind_meant k) h a at e
  passed_as = subst (FoundAs h at a) d w

  -- is one of the bytes
  pub passed_forward : at ≤ e
  passed_forward = passed_as.line.forward

  pub passed_within : e ≤ length h
  passed_within = passed_as.line.within

  -- its fields are as many as its kind's, noted
  pub passed_parted : Parted (kind_meant k) (take (e - at) (drop at h)) a
  passed_parted = passed_as.parted

  -- and none is malformed
  pub passed_low : none ≡ lowest_bad 1 (map bare (fields (kind_meant k))) (fields_of (take (e - at) (drop at h)))
  passed_low = passed_as.line.low

  -- its record is that of the line there
  record_here : rec_of (line_at h at) ≡ record { kind = kind_meant k; content = content_of (take (e - at) (drop at h)) }
  unfolding line_at
  record_here =
      let z : line_len (drop at h) ≡ e - at = ends_there h at e passed_as.line.plain (sym passed_as.line.ended) in
      rw z (rec_known (take (e - at) (drop at h)) (kind_meant k) passed_as.kind)

  -- one that is held is taken in order, with what was noted of it
  pub passed_taken : (n : ℕ) (c : Bool) → (c ≡ true → held_test scottish n (kind_meant k) (take (e - at) (drop at h)) ≡ true) → c ≡ true → (m : ℕ) → m ≡ most_records → n ≤ m
      → (j : Key) → key_list j ≡ key_numbers (rec_of (line_at h at)) → (v : ℕ) → (0 < v → RefsNoted h at v (rec_of (line_at h at)))
      → (q : List ℕ) (x : std.Option Kept) → x ≡ after_key q (record { key = j; end = e; noted = v }) → NextIs h at n q x
  unfolding record_as
  passed_taken n c r s m l o j p v g q x y =
      rw y
      (some_there h at e n passed_as.line.plain q (record { kind = kind_meant k; content = content_of (take (e - at) (drop at h)) }) (record { key = j; end = e; noted = v })
      (rw (← passed_as.line.ended, ← held_ended n (take (e - at) (drop at h)) true (Some k) (Some k) (sym passed_as.kind) refl k refl true (sym (r s)) refl)) (omega arith) (p ∙ ap key_numbers record_here)
      (record { ends = refl; refs = g }))

pub ruleset nexts = (rules, next_many, passed_as, passed_forward, passed_within, passed_parted, passed_low, passed_taken)

-- ---- what was read so far, and what is left

-- records in front of what comes after them
abbrev pub join_held : List Rec → meaning.Held → meaning.Held
join_held st (sound s) = sound (st ++ s)
join_held st (unsound n) = unsound n

join_nil : (s : meaning.Held) → s ≡ join_held [] s
join_nil (sound s) = refl
join_nil (unsound n) = refl

join_add : (st : List Rec) (r : Rec) (s : meaning.Held) → join_held st (add_rec r s) ≡ join_held (st ++ (r ∷ [])) s
unfolding add_rec
join_add st r (sound s) = ap sound (sym (append_assoc st (r ∷ []) s))
join_add st r (unsound n) = refl

-- a key by numbers stands before the keys of sound records that the last key stands before
abbrev pub Beside : List ℕ → Option (List ℕ) → Type 0
Beside k lo = (r : Rec) → T (fine scottish r) → is_lt (lex k (key_numbers r)) ≡ above scottish lo r

-- n lines were read up to `at`, the last of key k, and their starts are in a, with their tags in g and their notes in v
pub record Scanning (h a g v : List ℕ) (n at : ℕ) (k : List ℕ) : Type 0 where
  pub lo : Option (List ℕ)
  pub left : scan scottish 1 none (lines_of h) ≡ join_held (says h h a n) (scan scottish (suc n) lo (lines_of (drop at h)))
  pub beside : Beside k lo
  pub even : T (all (λ v. eqb (v % 2) 0) (take n a))
  pub tagged : take n g ≡ by_key tag_of (says h h a n)
  pub noted : NotedAs h a v n
  pub few : n ≤ most_records

-- every kind's number is above 0
kind_low : (k : Kind) → 0 < value (ident k)
unfolding kinds ident bytes value value_f
kind_low k = leb→le 1 (value (ident k)) (every (λ k. leb 1 (value (ident k))) tt k)

-- so the key of zeros stands before every other
zeros_beside : Beside (0 ∷ 0 ∷ 0 ∷ 0 ∷ []) none
unfolding above lex and_then key_numbers
zeros_beside r f = rw (is_cmp_n 0 (value (ident r.kind)) lt (kind_low r.kind))

-- at the start nothing was read
pub scan_start : (h a g v : List ℕ) → Scanning h a g v 0 0 (0 ∷ 0 ∷ 0 ∷ 0 ∷ [])
unfolding says
scan_start h a g v =
    record { lo = none; left = join_nil (scan scottish 1 none (lines_of h)); beside = zeros_beside; even = tt; tagged = refl; noted = record { each = λ i l. absurd (omega (arith, l)) }; few = omega arith }

-- the tag of a record more
tags_more : (c : List ℕ) (n i : ℕ) (st : List Rec) (r : Rec) → n < length c → take n c ≡ by_key tag_of st → i ≡ tag_of (key_numbers r) → take (n + 1) (set c n i) ≡ by_key tag_of (st ++ (r ∷ []))
tags_more c n i st r l e q = rw (add-one n, take-suc-set c n i l, e, q) (sym (map-append (λ x. tag_of (key_numbers x)) st (r ∷ [])))

-- the note of a line more
notes_more : (h a v : List ℕ) (n at i : ℕ) → n < length a → n < length v → NotedAs h a v n → (0 < i → RefsNoted h at i (rec_of (line_at h at))) → NotedAs h (set a n (2 * at)) (set v n i) (n + 1)
notes_more h a v n at i l m w g = record { each = λ j k. here j k (dec_lt j n) }
  where
    here : (j : ℕ) → j < n + 1 → Dec (j < n) → 0 < get_or (set v n i) j 0 → RefsNoted h (get_or (set a n (2 * at)) j 0 / 2) (get_or (set v n i) j 0) (rec_of (line_at h (get_or (set a n (2 * at)) j 0 / 2)))
    here j k (yes y) =
        let o : j ≡ n → ⊥ = λ z. omega arith in
        rw (get_or-set_other v n j i 0 o, get_or-set_other a n j (2 * at) 0 o) (w.each j y)
    here j k (no y) =
        let z : j ≡ n = omega arith in
        let e : 2 * at / 2 ≡ at = omega arith in
        rw (z, get_or-set_same v n i 0 m, get_or-set_same a n (2 * at) 0 l, e) g

-- ---- a line in order

abbrev FineIn : Option Rec → Type 0
FineIn none = Unit {0}
FineIn (some r) = T (fine scottish r)

held_fine : (n : ℕ) (l : Line) (o : Option Rec) → HeldIs scottish n l o → FineIn o
held_fine n l none w = tt
held_fine n l (some r) w = w.1

-- a line that was taken: its record, and that the lines after it are asked
record Took (m : ℕ) (lo : Option (List ℕ)) (o : Option Rec) (go : Rec → meaning.Held) (j : List ℕ) : Type 0 where
  pub taken : Rec
  pub held : o ≡ some taken
  pub sounds : T (fine scottish taken)
  pub key : j ≡ key_numbers taken
  pub goes : on_held scottish m lo o go ≡ add_rec taken (go taken)
  pub few : m ≤ most_records

abbrev Nexts : ℕ → Option (List ℕ) → Option Rec → (Rec → meaning.Held) → Option (List ℕ) → Type 0
Nexts m lo o go none = on_held scottish m lo o go ≡ unsound m
Nexts m lo o go (some j) = Took m lo o go j

next_in : (m : ℕ) (k : List ℕ) (lo : Option (List ℕ)) → Beside k lo → (o : Option Rec) → FineIn o → (go : Rec → meaning.Held) → Nexts m lo o go (next_as m k o)
unfolding next_as on_held
next_in m k lo b none f go = refl
next_in m k lo b (some r) f go = rw (b r f) (when (above scottish lo r && leb m most_records) refl)
  where
    when : (c : Bool) → (above scottish lo r && leb m most_records) ≡ c → Nexts m lo (some r) go (keep_if c (key_numbers r))
    when true q = unfold keep_if in (record { taken = r; held = refl; sounds = f; key = refl; goes = rw q; few = leb→le m most_records (and_r (above scottish lo r) (leb m most_records) (rw q tt)) })
    when false q = unfold keep_if in (rw q)

module _ (h : List ℕ) (at e : ℕ) (g : at < length h) (q : e ≡ plain_end h at) where
  -- the line there, as the meaning has it
  line_held : (n : ℕ) → held_line scottish n (first_line (drop at h)) ≡ record_up_to h at e n
  unfolding held_as record_as
  line_held n = held_is n (first_line (drop at h)) (ends_here (drop e h)) (sym (ends_well_at h at e q)) ∙ go (ends_here (drop e h)) refl
    where
      text : List ℕ
      text = take (e - at) (drop at h)

      go : (c : Bool) → ends_here (drop e h) ≡ c → record_as (first_line (drop at h)).text (held_as n c (first_line (drop at h)).text) ≡ record_as text (held_as n c text)
      go true p = rw (ends_there h at e q p)
      go false p = refl

  -- the lines after it
  abbrev rest : List Line
  rest = lines_of (drop (at + (line_len (drop at h) + 2)) h)

  line_next : (n : ℕ) (lo : Option (List ℕ)) → scan scottish (suc n) lo (lines_of (drop at h)) ≡ on_held scottish (suc n) lo (record_up_to h at e (suc n)) (λ r. scan scottish (suc (suc n)) (some (key_of scottish r)) rest)
  unfolding scan
  line_next n lo = rw (lines_at h at g, line_held (suc n))

  -- where a record was found the line ends well
  ended : (n : ℕ) (r : Rec) → record_up_to h at e n ≡ some r → ends_here (drop e h) ≡ true
  unfolding held_as record_as
  ended n r p = go (ends_here (drop e h)) p
    where
      text : List ℕ
      text = take (e - at) (drop at h)

      go : (c : Bool) → record_as text (held_as n c text) ≡ some r → c ≡ true
      go true p = refl
      go false p = absurd (some≢none (sym p))

  -- so the next begins two bytes on
  next_there : (n : ℕ) (r : Rec) → record_up_to h at e n ≡ some r → at + (line_len (drop at h) + 2) ≡ e + 2
  next_there n r p = let z = ends_there h at e q (ended n r p) in omega (arith, z)

  line_on : (n : ℕ) (lo : Option (List ℕ)) (r : Rec) (st st' : List Rec)
      → on_held scottish (suc n) lo (record_up_to h at e (suc n)) (λ r. scan scottish (suc (suc n)) (some (key_of scottish r)) rest) ≡ add_rec r (scan scottish (suc (suc n)) (some (key_of scottish r)) rest)
      → at + (line_len (drop at h) + 2) ≡ e + 2 → st' ≡ st ++ (r ∷ [])
      → join_held st (scan scottish (suc n) lo (lines_of (drop at h))) ≡ join_held st' (scan scottish (suc (n + 1)) (some (key_of scottish r)) (lines_of (drop (e + 2) h)))
  line_on n lo r st st' f w c = rw (line_next n lo, f, join_add st r _, c, w, add-one n)

-- before the first CR or LF no more bytes stand than there are
plain_few : (s : List ℕ) → plain_len s ≤ length s
unfolding plain_len
plain_few [] = omega arith
plain_few (x ∷ r) = go (plain x) (plain_few r)
  where
    go : (b : Bool) → plain_len r ≤ length r → pick b (suc (plain_len r)) 0 ≤ suc (length r)
    go true i = omega arith
    go false i = omega arith

module _ (h a c d : List ℕ) (at n : ℕ) (g : at < length h) (k : List ℕ) (s : Scanning h a c d n at k) (x : std.Option Kept) (v : NextIs h at (n + 1) k x) (o : Result Kept ℕ) (u : o ≡ ok_or x (n + 1)) where
  abbrev end : ℕ
  end = plain_end h at

  abbrev after : Rec → meaning.Held
  after r = scan scottish (suc (suc n)) (some (key_of scottish r)) (rest h at end g refl)

  found : Nexts (suc n) s.lo (record_up_to h at end (suc n)) after (key_taken x)
  found =
      rw (v.key, add-one n)
      (next_in (suc n) k s.lo s.beside (record_up_to h at end (suc n)) (held_fine (suc n) (first_line (drop at h)) (record_up_to h at end (suc n)) (subst (HeldIs scottish (suc n) (first_line (drop at h))) (line_held h at end g refl (suc n)) (held_out scottish scottish_regular (suc n) (first_line (drop at h))))) after)

  -- a line that is faulty or out of order is the lowest
  pub scan_stop : (i : ℕ) → o ≡ Err i → (r : Result ℕ ℕ) → IsErrAnd r (λ e. e ≡ i) → ReadAs h (scan scottish 1 none (lines_of h)) r a c d
  scan_stop i y (Ok l) q = absurd q
  scan_stop i y (Err e) q = go x v (sym u ∙ y) found ∙ ap unsound (sym q)
    where
      go : (x : std.Option Kept) → NextIs h at (n + 1) k x → ok_or x (n + 1) ≡ Err i → Nexts (suc n) s.lo (record_up_to h at end (suc n)) after (key_taken x) → scan scottish 1 none (lines_of h) ≡ unsound i
      go None w y f = let e : n + 1 ≡ i = cc in s.left ∙ rw (line_next h at end g refl n s.lo, f) (ap unsound (omega (arith, e)))
      go (Some l) w y f = absurd (let e : ◌≡◌ {A = Result Kept ℕ} (Ok l) (Err i) = y in cc)

  module _ (j : Kept) (z : o ≡ Ok j) where
    y : x ≡ Some j
    y = go x (sym u ∙ z)
      where
        go : (x : std.Option Kept) → ok_or x (n + 1) ≡ Ok j → x ≡ Some j
        go None z = absurd (let e : ◌≡◌ {A = Result Kept ℕ} (Err (n + 1)) (Ok j) = z in cc)
        go (Some l) z = let e : l ≡ j = cc in ap Some e

    took : Took (suc n) s.lo (record_up_to h at end (suc n)) after (key_list j.key)
    took = rw y at found

    kept : KeptOf h at end j
    kept = subst (KeptIn h at end) y v.kept

    -- there is room for the start of one that is taken, for its tag and for its note
    pub scan_room : (o : List ℕ) → most_records ≤ length o → n < length o
    scan_room o l = omega (arith, took.few)

    -- it ends among the bytes
    pub scan_forward : at ≤ j.end
    scan_forward = omega (arith, kept.ends)

    pub scan_within : j.end ≤ length h
    scan_within = omega (arith, kept.ends, plain_few (drop at h), length-drop at h)

    -- and it leaves those after it
    pub scan_turn : (i : ℕ) → most_records ≤ length a → most_records ≤ length c → most_records ≤ length d → i ≡ tag_of (key_list j.key)
        → Scanning h (set a n (2 * at)) (set c n i) (set d n j.noted) (n + 1) (j.end + 2) (key_list j.key)
    scan_turn i l o m p =
        let t = took in
        let r : Rec = t.taken in
        let w : n < length a = omega (arith, t.few) in
        let f : record_of h h (2 * at) ≡ r = entry_even h h at (2 * at) (omega arith) ∙ held_there h at (suc n) (first_line (drop at h)) (rest h at end g refl) r (lines_at h at g) (line_held h at end g refl (suc n) ∙ t.held) in
        let b : says h h (set a n (2 * at)) (n + 1) ≡ says h h a n ++ (r ∷ []) = says_more h h a n (2 * at) w ∙ rw f in
        let on : join_held (says h h a n) (scan scottish (suc n) s.lo (lines_of (drop at h))) ≡ join_held (says h h (set a n (2 * at)) (n + 1)) (scan scottish (suc (n + 1)) (some (key_of scottish r)) (lines_of (drop (end + 2) h)))
        = line_on h at end g refl n s.lo r (says h h a n) (says h h (set a n (2 * at)) (n + 1)) t.goes (next_there h at end g refl (suc n) r t.held) b in
        record {
          lo = some (key_of scottish r);
          left = s.left ∙ on ∙ ap (λ z. join_held (says h h (set a n (2 * at)) (n + 1)) (scan scottish (suc (n + 1)) (some (key_of scottish r)) (lines_of (drop (z + 2) h)))) (sym kept.ends);
          beside = λ z f. rw t.key (beside_key r t.sounds z f);
          even = rw (add-one n, take-suc-set a n (2 * at) w) (all_snoc (λ v. eqb (v % 2) 0) (take n a) (2 * at) s.even (yes_eqb {a = 2 * at % 2} {b = 0} (omega arith)));
          tagged = rw b (tags_more c n i (says h h a n) r (omega (arith, t.few)) s.tagged (p ∙ ap tag_of t.key));
          noted = notes_more h a d n at j.noted w (omega (arith, t.few)) s.noted kept.refs;
          few = omega (arith, t.few);
        }
      where
        beside_key : (r : Rec) → T (fine scottish r) → Beside (key_numbers r) (some (key_of scottish r))
        beside_key r f z g = unfold above in (ap is_lt (key_agrees r z f g))

-- at the end all lines are sound and in order
pub scan_done : (h a c d k : List ℕ) (n at : ℕ) → Scanning h a c d n at k → length h ≤ at → most_records ≤ length a → ScanIs h (scan scottish 1 none (lines_of h)) n a c d
unfolding scan records_of
scan_done h a c d k n at s g l =
    let w : meaning.scan scottish 1 none (lines_of h) ≡ sound (says h h a n) = s.left ∙ rw (lines_end h at g, append-nil) in
    record {
      sound = rw w;
      listed = rw w (record {
        count = sym (length_says h h a n (omega (arith, s.few)));
        says = λ f. says_held h f h a n s.even;
        even = s.even;
        few = s.few;
      });
      tagged = rw w s.tagged;
      noted = s.noted;
    }

-- another start in the array leaves its length
pub starts_same : (o a : List ℕ) (i v : ℕ) → length a ≡ length o → length (set a i v) ≡ length o
starts_same o a i v e = rw length-set e

-- so there is still room
pub starts_room : (a : List ℕ) (i v : ℕ) → most_records ≤ length a → most_records ≤ length (set a i v)
starts_room a i v l = rw length-set l

pub ruleset scanning = (rules, scan_start, scan_stop, scan_room, scan_forward, scan_within, scan_turn, scan_done, starts_same, starts_room)
