-- The laws by which a step is judged: one for each way out.
use mathlib.Core.Path.{◌≡◌, refl, sym, ap, ◌∙◌, subst}
use mathlib.Core.Bool.{Bool, true, false, not}
use mathlib.Core.Option.{Option, none, some}
use mathlib.Core.List.{List, [], ◌∷◌, ◌++◌}
use Rattle.std.specs.Prelude.{Result, Ok, Err}
use Prim.Native.Nat.{ℕ, suc, ◌+◌, ◌-◌, ◌≤◌, ◌<◌}
use native.Mathlib.Omega.{arith}
use borrow.Author.Tests.{le-leb, lt-leb, eq-eqb, ne_eqb}
use lib.Dec.{T, leb, leb→le, eqb, eqb→eq}
use lib.ListN.{length, get_or, length-append}
use Rattle.base.specs.Lists.{all, some?, bytes, ask, at_most}
use Rattle.base.specs.Tests.{and_l, and_r, T_true}
use Rattle.theory.specs.Store.{get, put}
use Rattle.theory.specs.Rank.{rank}
use Rattle.theory.specs.Refs.{has, meets, clear}
use Rattle.theory.specs.Decimal.{width}
use Rattle.theory.specs.Written.{render, bare, size}
use Rattle.theory.proofs.WrittenLaws.{size_ins, size_upd, size_del}
use Rattle.theory.specs.Step.{Op, ins, upd, del, after}
use Rattle.theory.specs.Fast.{fast, few_after, met_after, size_after}
use Rattle.meaning.specs.Kinds.{Kind, kinds, ident}
use Rattle.meaning.specs.Table.{scottish}
use Rattle.meaning.specs.Records.{Rec, keyed, key_of, refs_of, letter}
use Rattle.meaning.specs.Holding.{written, most_records}
use Rattle.meaning.specs.Steps.{few, step_code}
use Rattle.laws.specs.Kinds.{every}
use Rattle.laws.specs.Body.{fine}
use Rattle.laws.specs.FastStep.{printed, written_render, written_length, fast_step}
use Rattle.meaning.specs.Codes.{key_held, reference_unmet, holding_too_long, too_many_records}
use Rattle.answers.specs.Codes.{code_number}
use Rattle.answers.specs.declared.codes.Code.{Code}
use Rattle.answers.specs.declared.codes.Code.TheVariants.{KeyHeld, KeyAbsent, ReferenceUnmet, HoldingTooLong, TooManyRecords}
use Rattle.keys.specs.declared.Key.{Key}
use Rattle.keys.specs.Numbers.{key_list, key_numbers, ref_numbers, numbered}
use Rattle.keys.proofs.KeyLaws.{clear_agree}
use Rattle.entries.specs.Entries.{record_of}
use Rattle.places.specs.Places.{says}
use Rattle.places.specs.Counts.{tally}
use Rattle.places.specs.Changes.{change}
use Rattle.places.proofs.SaysLaws.{length_says}
use Rattle.places.proofs.OrderedLaws.{ordered_asc}
use Rattle.places.proofs.SearchLaws.{stands_in}
use Rattle.places.proofs.CountLaws.{clear_tally, count_at_lem}
use Rattle.judge.specs.declared.State.{State}
use Rattle.judge.specs.declared.Judged.{Judged}
use Rattle.judge.specs.declared.Refused.{Refused}
use Rattle.judge.specs.Ready.{Holds, Ready, Measures, Judges}
use Rattle.judge.proofs.FindLaws.{Stands, get_both, found_at}

-- ---- lengths of lines

ident_long : (k : Kind) → length (ident k) ≡ 2
unfolding kinds ident bytes
ident_long k = eqb→eq (length (ident k)) 2 (every (λ k. eqb (length (ident k)) 2) tt k)

-- a record's line has ten bytes round its content and number
pub bare_is : (r : Rec) → bare printed r ≡ length r.content + 10
unfolding bare letter bytes
bare_is r = omega (arith, ident_long r.kind, length-append (ident r.kind) (44 ∷ (letter ins ++ (44 ∷ []))), length-append r.content (13 ∷ 10 ∷ []))

-- where nothing is, none is
pub none_of : {A : Type 0} (o : Option A) → some? o ≡ false → o ≡ none
none_of none e = refl
none_of (some x) e = absurd (subst T e tt)

-- no sound record refers to a sound one by its numbers where none does by its key
clear_all : (x : Rec) (st : List Rec) → T (fine scottish x) → T (all (fine scottish) st) → all (clear numbered ref_numbers (key_numbers x)) st ≡ all (clear (keyed scottish) (refs_of scottish) (key_of scottish x)) st
clear_all x [] g h = refl
clear_all x (r ∷ rs) g h = rw (clear_agree r x (and_l (fine scottish r) (all (fine scottish) rs) h) g, clear_all x rs g (and_r (fine scottish r) (all (fine scottish) rs) h))

-- what was judged, or another
was_ok : Judged → Result Judged Refused → Judged
was_ok d (Ok j) = j
was_ok d (Err w) = d

-- ---- what a state that is ready for a step gives

module _ (h f a tags : List ℕ) (room : ℕ) (s : State) (y : Holds h f a tags room s) where
  -- they are as many as its records
  pub holds_counted : s.count ≡ length (says h f a s.count)
  holds_counted = sym (length_says h f a s.count y.ordered.within)

  -- there are not too many
  pub holds_few : s.count ≤ most_records
  unfolding at_most
  holds_few = omega (arith, holds_counted, leb→le (length (says h f a s.count)) most_records (and_l (few (says h f a s.count)) _ y.pass))

  rendered : length (render printed (says h f a s.count)) ≡ s.size
  rendered = sym (ap length (written_render (says h f a s.count))) ∙ sym y.sized

  sizes : size printed (says h f a s.count) ≡ s.size
  sizes = sym (written_length (says h f a s.count)) ∙ sym y.sized

  module _ (v : ℕ) (g : T (fine scottish (record_of h f v))) (key : Key) (own : key_list key ≡ key_numbers (record_of h f v)) (i : ℕ) (on : Bool) (q : Stands h f a (key_list key) s.count i on) where
    placed : i ≡ rank numbered (key_numbers (record_of h f v)) (says h f a s.count)
    placed = q.placed ∙ ap (λ k. rank numbered k (says h f a s.count)) own

    there : on ≡ some? (get (keyed scottish) (key_of scottish (record_of h f v)) (says h f a s.count))
    there = q.there ∙ ap (λ k. some? (get numbered k (says h f a s.count))) own ∙ ap some? (get_both (says h f a s.count) (record_of h f v) y.ordered.fines g)

    at_none : on ≡ false → get (keyed scottish) (key_of scottish (record_of h f v)) (says h f a s.count) ≡ none
    at_none t = none_of (get (keyed scottish) (key_of scottish (record_of h f v)) (says h f a s.count)) (sym there ∙ t)

    stood : on ≡ true → T (some? (get numbered (key_numbers (record_of h f v)) (says h f a s.count)))
    stood t = rw (get_both (says h f a s.count) (record_of h f v) y.ordered.fines g, sym there ∙ t) tt

    at_some : on ≡ true → get (keyed scottish) (key_of scottish (record_of h f v)) (says h f a s.count) ≡ some (record_of h f (get_or a i 0))
    at_some t =
        sym (get_both (says h f a s.count) (record_of h f v) y.ordered.fines g)
        ∙ found_at h f a (key_numbers (record_of h f v)) s.count i y.ordered.within placed (stood t)

    -- the place of a key that stands is in the array
    pub place_in : on ≡ true → i < length a
    place_in t = omega (arith, y.ordered.within, stands_in h f a s.count i (key_numbers (record_of h f v)) y.ordered.within placed (some? (get numbered (key_numbers (record_of h f v)) (says h f a s.count))) refl (T_true _ (stood t)))

    refused : (o : Op) (w : Code) → some (code_number w) ≡ step_code scottish room (says h f a s.count) (change o (record_of h f v)) → Judges h f a room (change o (record_of h f v)) s (Err (record { code = w; place = i }))
    refused o w e = record { coded = e; placed = placed; within = q.within; measured = λ j z. cc }

    taken : (o : Op) (z : ℕ) → step_code scottish room (says h f a s.count) (change o (record_of h f v)) ≡ none → z ≡ length (written (after (keyed scottish) (says h f a s.count) (change o (record_of h f v))))
        → Judges h f a room (change o (record_of h f v)) s (Ok (record { place = i; size = z }))
    unfolding was_ok
    taken o z e n = record { coded = sym e; placed = placed; within = q.within; measured = λ j u. subst (Measures h f a (change o (record_of h f v)) s) (ap (was_ok (record { place = i; size = z })) u) (record { placed = placed; within = q.within; sized = n }) }

    -- ---- what goes

    module _ (t : on ≡ true) (l w : ℕ) (d : l ≡ length (record_of h f (get_or a i 0)).content) (e : w ≡ width s.count) where
      narrower : width (length (says h f a s.count)) ≡ w
      narrower = ap width (sym holds_counted) ∙ sym e

      gone_sized : length (written (after (keyed scottish) (says h f a s.count) (change del (record_of h f v)))) + (l + 10 + w) ≡ s.size
      unfolding after
      gone_sized = omega (arith, written_length (put (keyed scottish) (key_of scottish (record_of h f v)) none (says h f a s.count)), size_del (keyed scottish) printed (key_of scottish (record_of h f v)) (record_of h f (get_or a i 0)) (says h f a s.count) (at_some t), sizes, bare_is (record_of h f (get_or a i 0)), narrower)

    -- what was written is no longer than all
    pub was_written : (t : on ≡ true) (l : ℕ) → l ≡ length (record_of h f (get_or a i 0)).content → l ≤ s.size
    was_written t l d = omega (arith, gone_sized t l (width s.count) d refl)

    -- ---- insert

    told_ins : step_code scottish room (says h f a s.count) (change ins (record_of h f v))
        ≡ ask (not (some? (get (keyed scottish) (key_of scottish (record_of h f v)) (says h f a s.count)))) key_held
        (ask (leb (suc (length (says h f a s.count))) most_records) too_many_records
        (ask (meets (keyed scottish) (refs_of scottish) (says h f a s.count) (record_of h f v)) reference_unmet
        (ask (leb (length (render printed (says h f a s.count)) + bare printed (record_of h f v) + width (suc (length (says h f a s.count)))) room) holding_too_long none)))
    unfolding fast few_after met_after size_after
    told_ins = fast_step scottish room (says h f a s.count) (change ins (record_of h f v)) y.ordered.asc y.pass

    -- a key that stands is not inserted
    pub ins_held : on ≡ true → Judges h f a room (change ins (record_of h f v)) s (Err (record { code = KeyHeld; place = i }))
    unfolding ask
    ins_held t = refused ins KeyHeld (rw (told_ins, ← there, t))

    module _ (t : on ≡ false) (limit : ℕ) (limited : limit ≡ most_records) where
      -- 8,192 records are enough
      pub ins_many : limit ≤ s.count → Judges h f a room (change ins (record_of h f v)) s (Err (record { code = TooManyRecords; place = i }))
      unfolding ask
      ins_many m = refused ins TooManyRecords (rw (told_ins, ← there, t, lt-leb (suc (length (says h f a s.count))) most_records (omega (arith, holds_counted))))

      module _ (m : s.count < limit) (b : Bool) (r : b ≡ meets (keyed scottish) (refs_of scottish) (says h f a s.count) (record_of h f v)) where
        few_ok : leb (suc (length (says h f a s.count))) most_records ≡ true
        few_ok = le-leb (suc (length (says h f a s.count))) most_records (omega (arith, holds_counted))

        -- its references must be met
        pub ins_unmet : b ≡ false → Judges h f a room (change ins (record_of h f v)) s (Err (record { code = ReferenceUnmet; place = i }))
        unfolding ask
        ins_unmet u = refused ins ReferenceUnmet (rw (told_ins, ← there, t, few_ok, ← r, u))

        module _ (u : b ≡ true) (l w : ℕ) (d : l ≡ length (record_of h f v).content) (e : w ≡ width (s.count + 1)) where
          wider : width (suc (length (says h f a s.count))) ≡ w
          wider =
              let i : suc (length (says h f a s.count)) ≡ s.count + 1 = omega (arith, holds_counted) in
              rw i (sym e)

          grown : length (render printed (says h f a s.count)) + bare printed (record_of h f v) + width (suc (length (says h f a s.count))) ≡ s.size + (l + 10 + w)
          grown = omega (arith, rendered, bare_is (record_of h f v), wider)

          -- it must fit
          pub ins_long : room - s.size < l + 10 + w → Judges h f a room (change ins (record_of h f v)) s (Err (record { code = HoldingTooLong; place = i }))
          unfolding ask
          ins_long x = refused ins HoldingTooLong (rw (told_ins, ← there, t, few_ok, ← r, u, grown, lt-leb (s.size + (l + 10 + w)) room (omega (arith, y.fits))))

          ins_sized : s.size + (l + 10 + w) ≡ length (written (after (keyed scottish) (says h f a s.count) (change ins (record_of h f v))))
          unfolding after
          ins_sized = omega (arith, written_length (put (keyed scottish) (key_of scottish (record_of h f v)) (some (record_of h f v)) (says h f a s.count)), size_ins (keyed scottish) printed (key_of scottish (record_of h f v)) (record_of h f v) (says h f a s.count) (at_none t), sizes, bare_is (record_of h f v), wider)

          -- else it is taken
          pub ins_taken : l + 10 + w ≤ room - s.size → Judges h f a room (change ins (record_of h f v)) s (Ok (record { place = i; size = s.size + (l + 10 + w) }))
          unfolding ask
          ins_taken x = taken ins (s.size + (l + 10 + w)) (rw (told_ins, ← there, t, few_ok, ← r, u, grown, le-leb (s.size + (l + 10 + w)) room (omega (arith, y.fits)))) ins_sized

    -- ---- update

    -- a key that stands nowhere is not updated
    pub upd_absent : on ≡ false → Judges h f a room (change upd (record_of h f v)) s (Err (record { code = KeyAbsent; place = i }))
    unfolding ask fast
    upd_absent t = refused upd KeyAbsent (rw (fast_step scottish room (says h f a s.count) (change upd (record_of h f v)) y.ordered.asc y.pass, at_none t))

    module _ (t : on ≡ true) where
      told_upd : step_code scottish room (says h f a s.count) (change upd (record_of h f v))
          ≡ ask (meets (keyed scottish) (refs_of scottish) (says h f a s.count) (record_of h f v)) reference_unmet
          (ask (leb (length (render printed (says h f a s.count)) + bare printed (record_of h f v) - bare printed (record_of h f (get_or a i 0))) room) holding_too_long none)
      unfolding fast few_after met_after size_after ask
      told_upd = fast_step scottish room (says h f a s.count) (change upd (record_of h f v)) y.ordered.asc y.pass ∙ rw (at_some t)

      module _ (b : Bool) (r : b ≡ meets (keyed scottish) (refs_of scottish) (says h f a s.count) (record_of h f v)) where
        -- its references must be met
        pub upd_unmet : b ≡ false → Judges h f a room (change upd (record_of h f v)) s (Err (record { code = ReferenceUnmet; place = i }))
        unfolding ask
        upd_unmet u = refused upd ReferenceUnmet (rw (told_upd, ← r, u))

        module _ (l n : ℕ) (d : l ≡ length (record_of h f (get_or a i 0)).content) (e : n ≡ length (record_of h f v).content) where
          upd_sized : length (written (after (keyed scottish) (says h f a s.count) (change upd (record_of h f v)))) + l ≡ s.size + n
          unfolding after
          upd_sized = omega (arith, written_length (put (keyed scottish) (key_of scottish (record_of h f v)) (some (record_of h f v)) (says h f a s.count)), size_upd (keyed scottish) printed (key_of scottish (record_of h f v)) (record_of h f (get_or a i 0)) (record_of h f v) (says h f a s.count) (at_some t), sizes, bare_is (record_of h f v), bare_is (record_of h f (get_or a i 0)))

          upd_changed : length (render printed (says h f a s.count)) + bare printed (record_of h f v) - bare printed (record_of h f (get_or a i 0)) ≡ s.size + n - l
          upd_changed = omega (arith, rendered, bare_is (record_of h f v), bare_is (record_of h f (get_or a i 0)))

          upd_room : l ≤ s.size
          upd_room = was_written t l d

          module _ (u : b ≡ true) where
            -- if it is not too long
            pub upd_long : room - (s.size - l) < n → Judges h f a room (change upd (record_of h f v)) s (Err (record { code = HoldingTooLong; place = i }))
            unfolding ask
            upd_long z = refused upd HoldingTooLong (rw (told_upd, ← r, u, upd_changed, lt-leb (s.size + n - l) room (omega (arith, y.fits, upd_room))))

            -- else it is taken
            pub upd_taken : n ≤ room - (s.size - l) → Judges h f a room (change upd (record_of h f v)) s (Ok (record { place = i; size = s.size - l + n }))
            unfolding ask
            upd_taken z = taken upd (s.size - l + n) (rw (told_upd, ← r, u, upd_changed, le-leb (s.size + n - l) room (omega (arith, y.fits, upd_room)))) (omega (arith, upd_sized, upd_room))

    -- ---- delete

    -- a key that stands nowhere is not deleted
    pub del_absent : on ≡ false → Judges h f a room (change del (record_of h f v)) s (Err (record { code = KeyAbsent; place = i }))
    unfolding ask fast
    del_absent t = refused del KeyAbsent (rw (fast_step scottish room (says h f a s.count) (change del (record_of h f v)) y.ordered.asc y.pass, at_none t))

    module _ (t : on ≡ true) where
      told_del : step_code scottish room (says h f a s.count) (change del (record_of h f v))
          ≡ ask (all (clear (keyed scottish) (refs_of scottish) (key_of scottish (record_of h f v))) (says h f a s.count)) reference_unmet
          (ask (leb (length (render printed (says h f a s.count)) - bare printed (record_of h f (get_or a i 0)) - width (length (says h f a s.count))) room) holding_too_long none)
      unfolding fast few_after met_after size_after ask
      told_del = fast_step scottish room (says h f a s.count) (change del (record_of h f v)) y.ordered.asc y.pass ∙ rw (at_some t)

      module _ (c : List ℕ) (k : Ready h f a tags c room s) where
        -- its count is beside it
        pub count_in : i < length c
        count_in = omega (arith, k.count_space, holds_few, stands_in h f a s.count i (key_numbers (record_of h f v)) y.ordered.within placed (some? (get numbered (key_numbers (record_of h f v)) (says h f a s.count))) refl (T_true _ (stood t)))

        counts : get_or c i 0 ≡ tally (says h f a s.count) (key_numbers (record_of h f v))
        unfolding has
        counts =
            ap (λ i. get_or c i 0) placed
            ∙ count_at_lem (says h f a s.count) (ordered_asc h f a tags s.count y.ordered) s.count (holds_counted) true (tally (says h f a s.count)) c k.counted (key_numbers (record_of h f v)) (stood t)

        seen : all (clear (keyed scottish) (refs_of scottish) (key_of scottish (record_of h f v))) (says h f a s.count) ≡ eqb (get_or c i 0) 0
        seen = sym (clear_all (record_of h f v) (says h f a s.count) g y.ordered.fines) ∙ clear_tally (key_numbers (record_of h f v)) (says h f a s.count) ∙ ap (λ n. eqb n 0) (sym counts)

        -- no record may refer to the one that goes
        pub del_met : (get_or c i 0 ≡ 0 → ⊥) → Judges h f a room (change del (record_of h f v)) s (Err (record { code = ReferenceUnmet; place = i }))
        unfolding ask
        del_met u = refused del ReferenceUnmet (rw (told_del, seen, ne_eqb (get_or c i 0) 0 u))

      module _ (l w : ℕ) (d : l ≡ length (record_of h f (get_or a i 0)).content) (e : w ≡ width s.count) where
        -- its line was written
        pub del_room : l + 10 + w ≤ s.size
        del_room = omega (arith, gone_sized t l w d e)

        -- else it is taken
        pub del_taken : (c : List ℕ) → Ready h f a tags c room s → get_or c i 0 ≡ 0
            → Judges h f a room (change del (record_of h f v)) s (Ok (record { place = i; size = s.size - (l + 10 + w) }))
        unfolding ask
        del_taken c k u =
            let x : length (render printed (says h f a s.count)) - bare printed (record_of h f (get_or a i 0)) - width (length (says h f a s.count)) ≤ room = omega (arith, rendered, y.fits) in
            taken del (s.size - (l + 10 + w)) (rw (told_del, seen c k, eq-eqb (get_or c i 0) 0 u, le-leb (length (render printed (says h f a s.count)) - bare printed (record_of h f (get_or a i 0)) - width (length (says h f a s.count))) room x)) (omega (arith, gone_sized t l w d e))
