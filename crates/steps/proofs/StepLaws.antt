-- The laws of what a step leaves: the array says the state after it, ready for the next.
use mathlib.Core.Path.{◌≡◌, refl, sym, ap, ap₂, ◌∙◌, subst}
use mathlib.Core.Bool.{Bool, true, false}
use mathlib.Core.Option
use mathlib.Core.Option.{Option, none, some}
use mathlib.Core.List.{List, ◌∷◌, ◌++◌}
use Prim.Native.Nat.{ℕ, ◌+◌, ◌-◌, ◌*◌, ◌≤◌, ◌<◌}
use native.Mathlib.Omega.{arith}
use borrow.Author.Rules.{rules}
use mir.Syntax.{w64}
use mir.Val.{Fits}
use lib.Dec.{T, leb, leb→le}
use lib.ListN.{length, get_or, take, drop, set, length-append, length-drop, length-set}
use lib.Seq.{length-take-le}
use Rattle.base.specs.Lists.{all, some?, at_most}
use Rattle.base.specs.ListLaws.{all_both}
use Rattle.base.specs.Tests.{and_in, and_l, and_r, T_true, T_false}
use Rattle.theory.specs.Fold.{all?}
use Rattle.theory.proofs.FoldLaws.{length_put, all_put, put_all?}
use Rattle.theory.specs.Store.{get, put, Asc}
use Rattle.theory.specs.Refs.{meets, met}
use Rattle.theory.specs.Step.{Op, ins, upd, del, Change, passes, new, allowed, after}
use Rattle.theory.proofs.StepLaws.{ok_judge, asc_after}
use Rattle.meaning.specs.Records.{Rec, keyed, key_of, refs_of}
use Rattle.meaning.specs.Table.{scottish}
use Rattle.meaning.specs.Holding.{written, most_records}
use Rattle.meaning.specs.Steps.{few, fits, step_rules, held_tests, step_code}
use Rattle.laws.specs.Body.{fine}
use Rattle.layout.specs.Meant.{held_meant}
use Rattle.volume.specs.declared.lines.Change as code-change
use Rattle.volume.specs.declared.lines.Line.{Line}
use Rattle.volume.specs.Meant.{change_meant}
use Rattle.keys.specs.Numbers.{key_numbers, ref_numbers, numbered}
use Rattle.keys.proofs.KeyLaws.{put_alike, own_agrees, meets_agree}
use Rattle.entries.specs.Entries.{rec_of, line_at, record_of}
use Rattle.entries.specs.Tags.{tag_of}
use Rattle.entries.proofs.EntryLaws.{entry_odd}
use Rattle.places.specs.Places.{says, opened, closed}
use Rattle.places.specs.Counts.{tally, by_key, noted_all, Open, Notes}
use Rattle.places.specs.Ordered.{Ordered}
use Rattle.places.specs.Changes.{change, change_at}
use Rattle.places.proofs.SaysLaws.{put_says, set_says, close_says}
use Rattle.places.proofs.SearchLaws.{stands_in}
use Rattle.places.proofs.OrderedLaws.{ordered_asc}
use Rattle.places.proofs.CountLaws.{length_noted, count_open, count_close, count_same}
use Rattle.places.proofs.CountedLaws.{insert_open, insert_told, old_open, old_met, update_open, update_told, delete_told}
use Rattle.judge.specs.declared.State.{State}
use Rattle.judge.specs.declared.Judged.{Judged}
use Rattle.judge.specs.declared.Refused.{Refused}
use Rattle.judge.specs.Ready.{Ready, Judges}
use Rattle.answers.specs.declared.codes.Code.{Code}
use Rattle.std.specs.Prelude.{Result, Ok, Err}
use Rattle.theory.specs.Rank.{rank}
use Rattle.judge.proofs.FindLaws.{get_both, found_at}
use Rattle.judge.proofs.JudgeLaws.{holds_counted, holds_few, none_of}
use Rattle.steps.specs.declared.step.Stepped.{Stepped}
use Rattle.steps.specs.Steps.{Carries, Leaves, Steps}

-- ---- a step that is judged

-- and not refused
pub record Passed (h f a : List ℕ) (room : ℕ) (c : Change Rec) (s : State) (j : Judged) : Type 0 where
  pub free : step_code scottish room (says h f a s.count) c ≡ none
  pub placed : j.place ≡ rank numbered (key_numbers c.rec) (says h f a s.count)
  pub within : j.place ≤ s.count
  pub sized : j.size ≡ length (written (after (keyed scottish) (says h f a s.count) c))

module _ (h f a : List ℕ) (room : ℕ) (c : Change Rec) (s : State) (r : Result Judged Refused) (q : Judges h f a room c s r) where
  -- as its Ok says
  pub passed_ok : (j : Judged) → r ≡ Ok j → Passed h f a room c s j
  passed_ok j e = let m = q.measured j e in record { free = sym (rw e at q.coded); placed = m.placed; within = m.within; sized = m.sized }

-- what is left, or another
was_left : Stepped → Result Stepped Code → Stepped
was_left d (Ok n) = n
was_left d (Err w) = d

-- references that are met by keys are met by numbers
met_told : (st : List Rec) → T (all (fine scottish) st) → T (met (keyed scottish) (refs_of scottish) st) → T (all (meets numbered ref_numbers st) st)
unfolding met
met_told st p m = all_both (fine scottish) (meets (keyed scottish) (refs_of scottish) st) (meets numbered ref_numbers st) (λ r g u. subst T (sym (meets_agree st p r g)) u) st p m

new_fine : (p : Op) (x : Rec) → T (fine scottish x) → T (all? (fine scottish) (new p x))
new_fine ins x g = g
new_fine upd x g = g
new_fine del x g = tt

-- ---- arrays keep their lengths

-- room is made within the array
pub length_opened : (a : List ℕ) (n i v : ℕ) → i ≤ n → n < length a → length (opened a n i v) ≡ length a
unfolding opened
length_opened a n i v l m =
    omega (arith, length-append (take i a) (v ∷ (take (n - i) (drop i a) ++ drop (n + 1) a)), length-append (take (n - i) (drop i a)) (drop (n + 1) a), length-take-le i a (omega arith), length-take-le (n - i) (drop i a) (omega (arith, length-drop i a)), length-drop (n + 1) a)

-- and closed up within it
pub length_closed : (a : List ℕ) (n i : ℕ) → i < n → n ≤ length a → length (closed a n i) ≡ length a
unfolding closed
length_closed a n i l m =
    omega (arith, length-append (take i a) (take (n - (i + 1)) (drop (i + 1) a) ++ drop (n - 1) a), length-append (take (n - (i + 1)) (drop (i + 1) a)) (drop (n - 1) a), length-take-le i a (omega arith), length-take-le (n - (i + 1)) (drop (i + 1) a) (omega (arith, length-drop (i + 1) a)), length-drop (n - 1) a)

-- ---- a step that is not refused

module _ (h f a o t : List ℕ) (room v : ℕ) (s : State) (y : Ready h f a o t room s) (g : T (fine scottish (record_of h f v))) (j : Judged) where
  few_now : s.count ≤ most_records
  few_now = holds_few h f a o room s y.holds

  counted_now : s.count ≡ length (says h f a s.count)
  counted_now = holds_counted h f a o room s y.holds

  module _ (p : Op) (q : Passed h f a room (change p (record_of h f v)) s j) where
    passed : T (allowed p (get (keyed scottish) (key_of scottish (record_of h f v)) (says h f a s.count))) × T (passes (step_rules scottish room).tests (after (keyed scottish) (says h f a s.count) (change p (record_of h f v))))
    passed = ok_judge (keyed scottish) (step_rules scottish room) (says h f a s.count) (change p (record_of h f v)) q.free

    few_after_lem : T (few (after (keyed scottish) (says h f a s.count) (change p (record_of h f v))))
    few_after_lem = and_l (few (after (keyed scottish) (says h f a s.count) (change p (record_of h f v)))) _ passed.1

    met_after_lem : T (met (keyed scottish) (refs_of scottish) (after (keyed scottish) (says h f a s.count) (change p (record_of h f v))))
    met_after_lem = and_l (met (keyed scottish) (refs_of scottish) (after (keyed scottish) (says h f a s.count) (change p (record_of h f v)))) _ (and_r (few (after (keyed scottish) (says h f a s.count) (change p (record_of h f v)))) _ passed.1)

    fits_after : length (written (after (keyed scottish) (says h f a s.count) (change p (record_of h f v)))) ≤ room
    unfolding fits
    fits_after =
        leb→le (length (written (after (keyed scottish) (says h f a s.count) (change p (record_of h f v))))) room
        (and_l (leb (length (written (after (keyed scottish) (says h f a s.count) (change p (record_of h f v))))) room) _
        (and_r (met (keyed scottish) (refs_of scottish) (after (keyed scottish) (says h f a s.count) (change p (record_of h f v)))) _ (and_r (few (after (keyed scottish) (says h f a s.count) (change p (record_of h f v)))) _ passed.1)))

    fines_after : T (all (fine scottish) (after (keyed scottish) (says h f a s.count) (change p (record_of h f v))))
    unfolding after
    fines_after = all_put (keyed scottish) (fine scottish) (key_of scottish (record_of h f v)) (new p (record_of h f v)) (says h f a s.count) (new_fine p (record_of h f v) g) y.holds.ordered.fines

    ordered_next : (b c : List ℕ) (m : ℕ) → says h f b m ≡ after (keyed scottish) (says h f a s.count) (change p (record_of h f v)) → m ≡ length (after (keyed scottish) (says h f a s.count) (change p (record_of h f v))) → length b ≡ length a → take m c ≡ by_key tag_of (says h f b m)
        → Ordered h f b c m
    unfolding at_most
    ordered_next b c m e n l i = record {
      within = omega (arith, y.space, leb→le (length (after (keyed scottish) (says h f a s.count) (change p (record_of h f v)))) most_records few_after_lem);
      asc = subst (Asc (keyed scottish)) (sym e) (asc_after (keyed scottish) (says h f a s.count) (change p (record_of h f v)) y.holds.ordered.asc);
      fines = subst (λ x. T (all (fine scottish) x)) (sym e) fines_after;
      tagged = i;
    }

    stepped : (b c d : List ℕ) (m u : ℕ) → says h f b m ≡ after (keyed scottish) (says h f a s.count) (change p (record_of h f v)) → Ordered h f b c m → take m d ≡ by_key (tally (says h f b m)) (says h f b m)
        → length b ≡ length a → length c ≡ length o → length d ≡ length t → record_of h f u ≡ Option.get_or (get (keyed scottish) (key_of scottish (record_of h f v)) (says h f a s.count)) (record_of h f v)
        → Steps h f a b c d room (change p (record_of h f v)) s (Ok (record { state = record { count = m; size = j.size }; before = u }))
    unfolding was_left
    stepped b c d m u e i k l n w r = record {
      coded = sym q.free;
      left = λ x z. subst (Leaves h f a b c d room (change p (record_of h f v)) s) (ap (was_left (record { state = record { count = m; size = j.size }; before = u })) z) (record {
        said = e;
        ready = record {
          holds = record {
            ordered = i;
            pass = subst (λ x. T (passes (held_tests scottish) x)) (sym e) (and_in (few (after (keyed scottish) (says h f a s.count) (change p (record_of h f v)))) _ few_after_lem (and_in (met (keyed scottish) (refs_of scottish) (after (keyed scottish) (says h f a s.count) (change p (record_of h f v)))) true met_after_lem tt));
            sized = q.sized ∙ ap (λ x. length (written x)) (sym e);
            fits = omega (arith, q.sized, fits_after);
            room_short = y.holds.room_short;
            held_short = y.holds.held_short;
            file_short = y.holds.file_short;
          };
          counted = k;
          space = omega (arith, l, y.space);
          tag_space = omega (arith, n, y.tag_space);
          count_space = omega (arith, w, y.count_space);
        };
        stood = r;
      });
    }

    meets_after : T (all (meets numbered ref_numbers (after (keyed scottish) (says h f a s.count) (change p (record_of h f v)))) (after (keyed scottish) (says h f a s.count) (change p (record_of h f v))))
    meets_after = met_told (after (keyed scottish) (says h f a s.count) (change p (record_of h f v))) fines_after met_after_lem

    put_both : (o : Option Rec) → put numbered (key_numbers (record_of h f v)) o (says h f a s.count) ≡ put (keyed scottish) (key_of scottish (record_of h f v)) o (says h f a s.count)
    put_both o = put_alike (says h f a s.count) y.holds.ordered.fines (key_numbers (record_of h f v)) (key_of scottish (record_of h f v)) (own_agrees (record_of h f v) g) o

    stood_at : T (some? (get (keyed scottish) (key_of scottish (record_of h f v)) (says h f a s.count))) → T (some? (get numbered (key_numbers (record_of h f v)) (says h f a s.count)))
    stood_at t = subst (λ o. T (some? o)) (sym (get_both (says h f a s.count) (record_of h f v) y.holds.ordered.fines g)) t

    found : T (some? (get (keyed scottish) (key_of scottish (record_of h f v)) (says h f a s.count))) → get numbered (key_numbers (record_of h f v)) (says h f a s.count) ≡ some (record_of h f (get_or a j.place 0))
    found t = found_at h f a (key_numbers (record_of h f v)) s.count j.place y.holds.ordered.within q.placed (stood_at t)

    found_key : T (some? (get (keyed scottish) (key_of scottish (record_of h f v)) (says h f a s.count))) → get (keyed scottish) (key_of scottish (record_of h f v)) (says h f a s.count) ≡ some (record_of h f (get_or a j.place 0))
    found_key t = sym (get_both (says h f a s.count) (record_of h f v) y.holds.ordered.fines g) ∙ found t

    found_in : T (some? (get (keyed scottish) (key_of scottish (record_of h f v)) (says h f a s.count))) → j.place < s.count
    found_in t = stands_in h f a s.count j.place (key_numbers (record_of h f v)) y.holds.ordered.within q.placed (some? (get numbered (key_numbers (record_of h f v)) (says h f a s.count))) refl (T_true _ (stood_at t))

  -- ---- counts

  -- the records in force, and the one that comes
  abbrev st : List Rec
  st = says h f a s.count

  abbrev x : Rec
  x = record_of h f v

  asc_now : Asc numbered st
  asc_now = ordered_asc h f a o s.count y.holds.ordered

  met_now : T (all (meets numbered ref_numbers st) st)
  met_now = met_told st y.holds.ordered.fines (and_l (met (keyed scottish) (refs_of scottish) st) _ (and_r (few st) _ y.holds.pass))

  -- what is told of the records after a step is told of what the array says
  said_told : (b t : List ℕ) (m : ℕ) (l : List Rec) → says h f b m ≡ l → take m t ≡ by_key (tally l) l → take m t ≡ by_key (tally (says h f b m)) (says h f b m)
  said_told b t m l e c = rw e c

  -- ---- insert

  module _ (q : Passed h f a room (change ins (record_of h f v)) s j) where
    ins_none : get (keyed scottish) (key_of scottish (record_of h f v)) (says h f a s.count) ≡ none
    ins_none = none_of (get (keyed scottish) (key_of scottish (record_of h f v)) (says h f a s.count)) (T_false _ (passed ins q).0)

    ins_count : length (after (keyed scottish) (says h f a s.count) (change ins (record_of h f v))) ≡ s.count + 1
    unfolding after
    ins_count = omega (arith, rw ins_none at (length_put (keyed scottish) (key_of scottish (record_of h f v)) (some (record_of h f v)) (says h f a s.count)), counted_now)

    -- its place is among the entries, or after them
    pub ins_place : j.place ≤ s.count
    ins_place = q.within

    ins_few : s.count < most_records
    unfolding at_most
    ins_few = omega (arith, ins_count, leb→le (length (after (keyed scottish) st (change ins x))) most_records (few_after_lem ins q))

    -- there is room for one entry more
    pub ins_in : s.count < length a
    ins_in = omega (arith, ins_few, y.space)

    -- for one tag
    pub ins_tags : s.count < length o
    ins_tags = omega (arith, ins_few, y.tag_space)

    -- and for one count
    pub ins_counts : s.count < length t
    ins_counts = omega (arith, ins_few, y.count_space)

    ins_get : get numbered (key_numbers x) st ≡ none
    ins_get = get_both st x y.holds.ordered.fines g ∙ ins_none

    ins_says : says h f (opened a s.count j.place v) (s.count + 1) ≡ after (keyed scottish) (says h f a s.count) (change ins (record_of h f v))
    unfolding after
    ins_says =
        put_says h f a (key_numbers (record_of h f v)) s.count j.place q.placed v ins_in q.within ins_get
        ∙ put_both ins q (some (record_of h f v))

    module _ (b : List ℕ) (e : b ≡ opened a s.count j.place v) (i : ℕ) (m : i ≡ tag_of (key_numbers x)) (c : List ℕ) (n : c ≡ opened o s.count j.place i) (u : List ℕ) (w : u ≡ opened t s.count j.place 0) where
      ins_put : says h f b (s.count + 1) ≡ put numbered (key_numbers x) (some x) st
      ins_put = ap (λ l. says h f l (s.count + 1)) e ∙ put_says h f a (key_numbers x) s.count j.place q.placed v ins_in q.within ins_get

      ins_long : length b ≡ length a
      ins_long = ap length e ∙ length_opened a s.count j.place v q.within ins_in

      ins_said : says h f b (s.count + 1) ≡ after (keyed scottish) st (change ins x)
      ins_said = ap (λ l. says h f l (s.count + 1)) e ∙ ins_says

      ins_ordered : Ordered h f b c (s.count + 1)
      ins_ordered =
          ordered_next ins q b c (s.count + 1) ins_said (sym ins_count) ins_long
          (ap (take (s.count + 1)) n ∙ count_open tag_of o (key_numbers x) st s.count j.place y.holds.ordered.tagged q.placed x i ins_tags q.within ins_get (sym m) ∙ ap (by_key tag_of) (sym ins_put))

      -- its references can be counted in
      pub ins_asked : Ordered h f b c (s.count + 1) × (s.count + 1 ≤ length u) × Open true (says h f b (s.count + 1)) u (ref_numbers x)
      ins_asked = (
        ins_ordered,
        omega (arith, ap length w, length_opened t s.count j.place 0 q.within ins_counts, ins_counts),
        rw (ins_put, w) (insert_open st s.count t counted_now asc_now met_now few_now y.counted x j.place q.placed ins_get ins_counts q.within),
      )

      ins_meets : T (meets numbered ref_numbers (put numbered (key_numbers x) (some x) st) x)
      unfolding after
      ins_meets = rw (put_both ins q (some x)) (put_all? (keyed scottish) (meets numbered ref_numbers (put (keyed scottish) (key_of scottish x) (some x) st)) (key_of scottish x) (some x) st (meets_after ins q))

      -- an entry more at its place, and its references counted in
      pub ins_step : (d : List ℕ) (k : Bool) → Notes true (says h f b (s.count + 1)) x u d k → Steps h f a b c d room (change ins x) s (Ok (record { state = record { count = s.count + 1; size = j.size }; before = v }))
      ins_step d k r =
          let p : d ≡ noted_all true (put numbered (key_numbers x) (some x) st) (opened t s.count j.place 0) (ref_numbers x) = r.noted (r.met ∙ T_true _ (subst (λ l. T (meets numbered ref_numbers l x)) (sym ins_put) ins_meets)) ∙ rw (ins_put, w) in
          stepped ins q b c d (s.count + 1) v ins_said ins_ordered
          (said_told b d (s.count + 1) (put numbered (key_numbers x) (some x) st) ins_put (ap (take (s.count + 1)) p ∙ insert_told st s.count t counted_now asc_now met_now few_now y.counted x j.place q.placed ins_get ins_counts q.within ins_meets))
          ins_long (ap length n ∙ length_opened o s.count j.place i q.within ins_tags)
          (ap length p ∙ length_noted true (put numbered (key_numbers x) (some x) st) (ref_numbers x) (opened t s.count j.place 0) ∙ length_opened t s.count j.place 0 q.within ins_counts)
          (rw ins_none)

  -- ---- update

  module _ (q : Passed h f a room (change upd (record_of h f v)) s j) where
    upd_count : length (after (keyed scottish) (says h f a s.count) (change upd (record_of h f v))) ≡ s.count
    unfolding after
    upd_count = omega (arith, rw (found_key upd q (passed upd q).0) at (length_put (keyed scottish) (key_of scottish (record_of h f v)) (some (record_of h f v)) (says h f a s.count)), counted_now)

    -- the entry is in the array
    pub upd_in : j.place < length a
    upd_in = omega (arith, found_in upd q (passed upd q).0, y.holds.ordered.within)

    upd_says : says h f (set a j.place v) s.count ≡ after (keyed scottish) (says h f a s.count) (change upd (record_of h f v))
    unfolding after
    upd_says =
        set_says h f a (key_numbers (record_of h f v)) s.count j.place q.placed (record_of h f (get_or a j.place 0)) y.holds.ordered.within (found_in upd q (passed upd q).0) (found upd q (passed upd q).0) v
        ∙ put_both upd q (some (record_of h f v))

    abbrev old : Rec
    old = record_of h f (get_or a j.place 0)

    upd_get : get numbered (key_numbers x) st ≡ some old
    upd_get = found upd q (passed upd q).0

    -- the references of the record that stood there can be counted out
    pub upd_asked : Ordered h f a o s.count × (s.count ≤ length t) × Open false st t (ref_numbers old)
    upd_asked = (y.holds.ordered, omega (arith, few_now, y.count_space), old_open st s.count t counted_now asc_now met_now few_now y.counted x j.place q.placed old upd_get)

    module _ (u : List ℕ) (i : Bool) (r : Notes false st old t u i) where
      upd_out : u ≡ noted_all false st t (ref_numbers old)
      upd_out = r.noted (r.met ∙ T_true _ (old_met st s.count t counted_now asc_now met_now few_now y.counted x j.place q.placed old upd_get))

      upd_long : length u ≡ length t
      upd_long = ap length upd_out ∙ length_noted false st (ref_numbers old) t

      upd_put : says h f (set a j.place v) s.count ≡ put numbered (key_numbers x) (some x) st
      upd_put = set_says h f a (key_numbers x) s.count j.place q.placed old y.holds.ordered.within (found_in upd q (passed upd q).0) upd_get v

      upd_ordered : Ordered h f (set a j.place v) o s.count
      upd_ordered = ordered_next upd q (set a j.place v) o s.count upd_says (sym upd_count) (length-set a j.place v) (y.holds.ordered.tagged ∙ sym (ap (by_key tag_of) upd_put ∙ count_same tag_of x old st upd_get))

      -- then those of the new one in
      pub upd_asked_new : Ordered h f (set a j.place v) o s.count × (s.count ≤ length u) × Open true (says h f (set a j.place v) s.count) u (ref_numbers x)
      upd_asked_new = (
        upd_ordered,
        omega (arith, upd_long, few_now, y.count_space),
        rw (upd_put, upd_out) (update_open st s.count t counted_now asc_now met_now few_now y.counted x j.place q.placed old upd_get),
      )

      upd_meets : T (meets numbered ref_numbers (put numbered (key_numbers x) (some x) st) x)
      unfolding after
      upd_meets = rw (put_both upd q (some x)) (put_all? (keyed scottish) (meets numbered ref_numbers (put (keyed scottish) (key_of scottish x) (some x) st)) (key_of scottish x) (some x) st (meets_after upd q))

      -- another entry at its place, the old references counted out and the new ones in
      pub upd_step : (d : List ℕ) (p : Bool) → Notes true (says h f (set a j.place v) s.count) x u d p
          → Steps h f a (set a j.place v) o d room (change upd x) s (Ok (record { state = record { count = s.count; size = j.size }; before = get_or a j.place 0 }))
      upd_step d p w =
          let c : d ≡ noted_all true (put numbered (key_numbers x) (some x) st) (noted_all false st t (ref_numbers old)) (ref_numbers x) = w.noted (w.met ∙ T_true _ (subst (λ l. T (meets numbered ref_numbers l x)) (sym upd_put) upd_meets)) ∙ rw (upd_put, upd_out) in
          stepped upd q (set a j.place v) o d s.count (get_or a j.place 0) upd_says upd_ordered
          (said_told (set a j.place v) d s.count (put numbered (key_numbers x) (some x) st) upd_put (ap (take s.count) c ∙ update_told st s.count t counted_now asc_now met_now few_now y.counted x j.place q.placed old upd_get upd_meets))
          (length-set a j.place v) refl
          (ap length c ∙ length_noted true (put numbered (key_numbers x) (some x) st) (ref_numbers x) (noted_all false st t (ref_numbers old)) ∙ length_noted false st (ref_numbers old) t)
          (rw (found_key upd q (passed upd q).0))

  -- ---- delete

  module _ (q : Passed h f a room (change del (record_of h f v)) s j) where
    -- the entry is one of those that count
    pub del_place : j.place < s.count
    del_place = found_in del q (passed del q).0

    -- it is in the array
    pub del_in : j.place < length a
    del_in = omega (arith, del_place, y.holds.ordered.within)

    -- and so are all
    pub del_all : s.count ≤ length a
    del_all = y.holds.ordered.within

    -- there is a record less
    pub del_one : 1 ≤ s.count
    del_one = omega (arith, del_place)

    del_count : length (after (keyed scottish) (says h f a s.count) (change del (record_of h f v))) + 1 ≡ s.count
    unfolding after
    del_count = omega (arith, rw (found_key del q (passed del q).0) at (length_put (keyed scottish) (key_of scottish (record_of h f v)) none (says h f a s.count)), counted_now)

    del_says : says h f (closed a s.count j.place) (s.count - 1) ≡ after (keyed scottish) (says h f a s.count) (change del (record_of h f v))
    unfolding after
    del_says =
        close_says h f a (key_numbers (record_of h f v)) s.count j.place q.placed (record_of h f (get_or a j.place 0)) y.holds.ordered.within del_place (found del q (passed del q).0)
        ∙ put_both del q none

    abbrev gone : Rec
    gone = record_of h f (get_or a j.place 0)

    del_get : get numbered (key_numbers x) st ≡ some gone
    del_get = found del q (passed del q).0

    -- the references of the record that goes can be counted out
    pub del_asked : Ordered h f a o s.count × (s.count ≤ length t) × Open false st t (ref_numbers gone)
    del_asked = (y.holds.ordered, omega (arith, few_now, y.count_space), old_open st s.count t counted_now asc_now met_now few_now y.counted x j.place q.placed gone del_get)

    -- the tags are as many as before
    pub del_tags : s.count ≤ length o
    del_tags = omega (arith, few_now, y.tag_space)

    module _ (u : List ℕ) (i : Bool) (r : Notes false st gone t u i) where
      del_out : u ≡ noted_all false st t (ref_numbers gone)
      del_out = r.noted (r.met ∙ T_true _ (old_met st s.count t counted_now asc_now met_now few_now y.counted x j.place q.placed gone del_get))

      -- the counts are as many as before
      pub del_counts : s.count ≤ length u
      del_counts = omega (arith, ap length del_out, length_noted false st (ref_numbers gone) t, few_now, y.count_space)

      del_put : says h f (closed a s.count j.place) (s.count - 1) ≡ put numbered (key_numbers x) none st
      del_put = close_says h f a (key_numbers x) s.count j.place q.placed gone y.holds.ordered.within del_place del_get

      -- closed up over its place, its tag and its count
      pub del_step : (b m d : List ℕ) → b ≡ closed a s.count j.place → m ≡ closed o s.count j.place → d ≡ closed u s.count j.place
          → Steps h f a b m d room (change del x) s (Ok (record { state = record { count = s.count - 1; size = j.size }; before = get_or a j.place 0 }))
      del_step b m d e i w =
          let c : d ≡ closed (noted_all false st t (ref_numbers gone)) s.count j.place = w ∙ ap (λ l. closed l s.count j.place) del_out in
          let p : says h f b (s.count - 1) ≡ put numbered (key_numbers x) none st = ap (λ l. says h f l (s.count - 1)) e ∙ del_put in
          let n : s.count ≤ length (noted_all false st t (ref_numbers gone)) = omega (arith, del_counts, ap length del_out) in
          let long : length b ≡ length a = ap length e ∙ length_closed a s.count j.place del_place del_all in
          let said : says h f b (s.count - 1) ≡ after (keyed scottish) st (change del x) = ap (λ l. says h f l (s.count - 1)) e ∙ del_says in
          stepped del q b m d (s.count - 1) (get_or a j.place 0) said
          (ordered_next del q b m (s.count - 1) said (omega (arith, del_count)) long
          (ap (take (s.count - 1)) i ∙ count_close tag_of o (key_numbers x) st s.count j.place y.holds.ordered.tagged q.placed gone del_tags del_place del_get ∙ ap (by_key tag_of) (sym p)))
          (said_told b d (s.count - 1) (put numbered (key_numbers x) none st) p (ap (take (s.count - 1)) c ∙ delete_told st s.count t counted_now asc_now met_now few_now y.counted x j.place q.placed gone del_get n del_place))
          long (ap length i ∙ length_closed o s.count j.place del_place del_tags)
          (ap length w ∙ length_closed u s.count j.place del_place del_counts ∙ ap length del_out ∙ length_noted false st (ref_numbers gone) t)
          (rw (found_key del q (passed del q).0))

-- ---- by kind, and by change

module _ (h f : List ℕ) (at : ℕ) (l : Line) (q : Carries f at l) where
  filed : record_of h f (2 * at + 1) ≡ rec_of (line_at f at)
  filed = entry_odd h f at (2 * at + 1) (omega arith)

  -- the entry of a line is of a sound record
  pub line_fine : T (fine scottish (record_of h f (2 * at + 1)))
  line_fine = subst (λ x. T (fine scottish x)) (sym filed) q.sound

  -- it can be written down
  pub twice_fits : (a o t : List ℕ) (room : ℕ) (s : State) → Ready h f a o t room s → Fits w64 (2 * at)
  twice_fits a o t room s y = record { fits = omega (arith, q.inside, y.holds.file_short) }

  -- with the mark of the file
  pub odd_fits : (a o t : List ℕ) (room : ℕ) (s : State) → Ready h f a o t room s → Fits w64 (2 * at + 1)
  odd_fits a o t room s y = record { fits = omega (arith, q.inside, y.holds.file_short) }

  -- the line stands in the file
  pub line_in : at ≤ length f
  line_in = q.inside

  -- its kind is the record's
  pub line_kind : held_meant l.kind ≡ (rec_of (line_at f at)).kind
  line_kind = q.kinded

  -- the line's key is the entry's
  pub line_key : (k : List ℕ) → k ≡ key_numbers (rec_of (line_at f at)) → k ≡ key_numbers (record_of h f (2 * at + 1))
  line_key k e = e ∙ ap key_numbers (sym filed)

  -- the line's change is made
  pub step_made : (a b o t : List ℕ) (room : ℕ) (s : State) (r : Result Stepped Code) (k : code-change.Change) → l.change ≡ k → Steps h f a b o t room (change (change_meant k) (record_of h f (2 * at + 1))) s r → Steps h f a b o t room (change_at f at) s r
  step_made a b o t room s r k e u = subst (λ c. Steps h f a b o t room c s r) (ap₂ change (ap change_meant (sym e) ∙ q.changed) filed) u

pub ruleset stepping = (rules, twice_fits, odd_fits, line_in, line_kind, step_made)
