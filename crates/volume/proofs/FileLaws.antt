-- The laws of the walk over a file's lines: what is left of the file answers what the whole does.
use mathlib.Core.Path.{◌≡◌, refl, sym, ap, ◌∙◌}
use mathlib.Core.Bool.{Bool, true, false}
use mathlib.Core.Option.{Option, none, some}
use mathlib.Core.List.{List, []}
use Prim.Native.Nat.{ℕ, suc, ◌+◌, ◌-◌, ◌≤◌, ◌<◌}
use native.Mathlib.Nat.{zero-add, add-zero, add_assoc}
use native.Mathlib.Omega.{arith}
use borrow.Author.Rules.{rules}
use lib.ListN.{length, get_or, take, drop}
use Rattle.base.specs.Lists.{pick, ask}
use Rattle.theory.specs.Step.{Op, ins, upd, del}
use Rattle.theory.specs.Answer.{fault, file, is_op, count}
use Rattle.meaning.specs.Lines.{lines_of, identifier, fields_of, has_fields}
use Rattle.meaning.specs.Kinds.{Kind, Role, header_line, body_line, metadata_line, trailer_line, role}
use Rattle.meaning.specs.Format.{kind_of}
use Rattle.meaning.specs.Table.{fields, scottish}
use Rattle.meaning.specs.Records.{op_of, change_of}
use Rattle.meaning.specs.File.{Stage, at_start, next, has_room, count_fault, Judged, bad, good, line_fault, verdict, judge_kind, judge_text, judge_line, Sheet, add_line, adds, body_after, on_line, read_from, read_file}
use Rattle.meaning.specs.Load.{checked, check_file}
use Rattle.meaning.specs.Answers.{Read, Numbers, Fault, Refusal, of_line, of_field, at_line, refused_with}
use Rattle.text.specs.Places.{ends_here, line_len, plain_end}
use Rattle.text.proofs.LineLaws.{lines_at, lines_end, ends_well_at, ends_there}
use Rattle.layout.specs.declared.kinds.Kind.{Kind as Named}
use Rattle.layout.specs.Meant.{kind_meant}
use Rattle.layout.specs.Check.{first_of}
use Rattle.layout.proofs.CheckLaws.{fault_is}
use Rattle.volume.specs.declared.stages.Stage.{Stage as StageNamed}
use Rattle.volume.specs.declared.walk.Walk.{Walk}
use Rattle.volume.specs.Meant.{stage_meant}
use Rattle.volume.specs.Judged.{opens_at, opens_as, opens, closes}
use Rattle.volume.specs.Walk.{unwalked, tally, walked_on, checked_from, left_of}
use Rattle.volume.specs.Reading.{Reading}
use Rattle.meaning.specs.Codes.{ending_wrong, identifier_unknown, out_of_place, field_count_wrong, too_many_body_lines}
use Rattle.layout.proofs.PassLaws.{lowest}
use Rattle.volume.proofs.WalkLaws.{within_on}

-- ---- a line is judged before its fields, in its fields, and after them

-- 5, then 6, 7 and 8, of a line that was opened
abbrev fully : ℕ → List ℕ → Judged → Judged
fully n t (bad f) = bad f
fully n t (good k q) = verdict (first_of (lowest k t) (closes n k t)) k q

-- that is the meaning's judgement
judge_is : (p : Stage) (n : ℕ) (b : Bool) (t : List ℕ) → pick b (judge_text scottish p n t (kind_of scottish (identifier t))) (bad (of_line ending_wrong)) ≡ fully n t (opens p n b t)
unfolding opens opens_as opens_at judge_text judge_kind verdict line_fault closes ask
judge_is p n false t = refl
judge_is p n true t = kinded (kind_of scottish (identifier t))
  where
    asked : (k : Kind) (q : Stage) (r f : Bool) (rest : Option Fault)
        → verdict (ask r (of_line too_many_body_lines) (ask f (of_line field_count_wrong) rest)) k q ≡ pick r (pick f (verdict rest k q) (bad (of_line field_count_wrong))) (bad (of_line too_many_body_lines))
    asked k q true true rest = refl
    asked k q true false rest = refl
    asked k q false f rest = refl

    opened : (k : Kind) (q : Stage) (r f : Bool)
        → pick r (pick f (verdict (first_of (lowest k t) (closes n k t)) k q) (bad (of_line field_count_wrong))) (bad (of_line too_many_body_lines))
        ≡ fully n t (verdict (ask r (of_line too_many_body_lines) (ask f (of_line field_count_wrong) none)) k q)
    opened k q true true = refl
    opened k q true false = refl
    opened k q false f = refl

    placed : (k : Kind) (o : Option Stage) → judge_kind scottish n t k o ≡ fully n t (opens_at n t k o)
    placed k none = refl
    placed k (some q) =
        rw (fault_is k t (count_fault scottish (role k) n k t))
        (asked k q (has_room (role k) n) (has_fields (length (fields k)) t) (first_of (lowest k t) (closes n k t))
        ∙ opened k q (has_room (role k) n) (has_fields (length (fields k)) t))

    kinded : (o : Option Kind) → judge_text scottish p n t o ≡ fully n t (opens_as p n t o)
    kinded none = refl
    kinded (some k) = placed k (next p (role k))

-- a line that was opened has as many fields as its kind
opened_fields : (p : Stage) (n : ℕ) (b : Bool) (t : List ℕ) (k : Kind) (q : Stage) → good k q ≡ opens p n b t → has_fields (length (fields k)) t ≡ true
unfolding opens opens_as opens_at verdict ask
opened_fields p n false t k q e = let z : good k q ≡ bad (of_line ending_wrong) = e in cc
opened_fields p n true t k q e = kinded (kind_of scottish (identifier t)) e
  where
    asked : (k' : Kind) (q' : Stage) (r f : Bool) → good k q ≡ verdict (ask {A = Fault} r (of_line too_many_body_lines) (ask {A = Fault} f (of_line field_count_wrong) none)) k' q' → f ≡ has_fields (length (fields k')) t → has_fields (length (fields k)) t ≡ true
    asked k' q' true true e h = let z : good k q ≡ good k' q' = e in cc
    asked k' q' true false e h = let z : good k q ≡ bad (of_line field_count_wrong) = e in cc
    asked k' q' false f e h = let z : good k q ≡ bad (of_line too_many_body_lines) = e in cc

    placed : (k' : Kind) (o : Option Stage) → good k q ≡ opens_at n t k' o → has_fields (length (fields k)) t ≡ true
    placed k' none e = let z : good k q ≡ bad (of_line out_of_place) = e in cc
    placed k' (some q') e = asked k' q' (has_room (role k') n) (has_fields (length (fields k')) t) e refl

    kinded : (o : Option Kind) → good k q ≡ opens_as p n t o → has_fields (length (fields k)) t ≡ true
    kinded none e = let z : good k q ≡ bad (of_field identifier_unknown 1) = e in cc
    kinded (some k') e = placed k' (next p (role k')) e

-- ---- what is counted of a line

-- a line that is put in front of what the lines after it say is counted before them
counted_on : (w : Walk) (k : Kind) (t : List ℕ) (p : StageNamed) (r : Role) (s : Read Sheet)
    → checked_from w (adds r k t s) ≡ checked_from (walked_on w r (op_of (get_or (fields_of t) 1 [])) p) s
unfolding checked_from adds add_line walked_on tally count change_of
counted_on w k t p r (fault x) = refl
counted_on w k t p header_line (file s) = rw (add-zero w.inserts, add-zero w.updates, add-zero w.deletes)
counted_on w k t p metadata_line (file s) = rw (add-zero w.inserts, add-zero w.updates, add-zero w.deletes)
counted_on w k t p trailer_line (file s) = rw (add-zero w.inserts, add-zero w.updates, add-zero w.deletes)
counted_on w k t p body_line (file s) =
    rw (add_assoc w.inserts (is_op ins o) (count ins s.1), add_assoc w.updates (is_op upd o) (count upd s.1), add_assoc w.deletes (is_op del o) (count del s.1))
  where
    o : Op
    o = op_of (get_or (fields_of t) 1 [])

-- before the first line nothing is counted
counted_none : (s : Read Sheet) → checked_from unwalked s ≡ checked s
unfolding checked_from checked
counted_none (fault r) = refl
counted_none (file s) = rw (zero-add (count ins s.1), zero-add (count upd s.1), zero-add (count del s.1))

-- ---- the walk, at an offset

-- it begins at the file's start
pub read_start : (s : List ℕ) (w : Walk) → w ≡ unwalked → Reading s w 0
unfolding left_of check_file read_file
read_start s w e = rw e (record {
  left = counted_none (read_from scottish 1 at_start 0 (lines_of s));
  within = record { lines = omega arith; bodies = omega arith; inserts_in = omega arith; updates_in = omega arith; deletes_in = omega arith };
  stands = omega arith;
})

pub ruleset starting = (rules, read_start)

-- a fault is the file's, at the line where the walk stopped
abbrev pub Faulty : List ℕ → Walk → Fault → Type 0
Faulty s w f = check_file scottish s ≡ refused_with (at_line w.line f)

-- so it is answered, also where it was kept
pub read_refused : (s : List ℕ) (w : Walk) (f g : Fault) (r : Refusal) → r ≡ at_line w.line f → f ≡ g → Faulty s w g → refused_with r ≡ check_file scottish s
read_refused s w f g r e q h = ap refused_with e ∙ rw q (sym h)

-- it ends where no line is left
pub read_done : (s : List ℕ) (w : Walk) (at : ℕ) (r : Numbers) → Reading s w at → length s ≤ at → r ≡ left_of w [] → r ≡ check_file scottish s
read_done s w at r v h e = e ∙ (rw (lines_end s at h) at v.left)

module _ (s : List ℕ) (w : Walk) (at e : ℕ) (h : at < length s) (q : e ≡ plain_end s at) where
  -- the lines after this one
  abbrev rest : Kind → Stage → Read Sheet
  rest k p = read_from scottish (suc w.line) p (body_after (role k) w.body) (lines_of (drop (e + 2) s))

  -- the line, as its bytes and its ending say
  line_left : left_of w (lines_of (drop at s))
      ≡ checked_from w
      (on_line w.line (take (e - at) (drop at s)) (fully w.body (take (e - at) (drop at s)) (opens (stage_meant w.stage) w.body (ends_here (drop e s)) (take (e - at) (drop at s)))) rest)
  unfolding left_of read_from judge_line on_line
  line_left =
      rw (← judge_is (stage_meant w.stage) w.body (ends_here (drop e s)) (take (e - at) (drop at s)), lines_at s at h, ends_well_at s at e q)
      (go (ends_here (drop e s)) refl)
    where
      n : ℕ
      n = line_len (drop at s)

      after : List ℕ → Judged
      after t = judge_text scottish (stage_meant w.stage) w.body t (kind_of scottish (identifier t))

      go : (b : Bool) → ends_here (drop e s) ≡ b
          → checked_from w (on_line w.line (take n (drop at s)) (pick b (after (take n (drop at s))) (bad (of_line ending_wrong))) (λ k p. read_from scottish (suc w.line) p (body_after (role k) w.body) (lines_of (drop (at + (n + 2)) s))))
          ≡ checked_from w (on_line w.line (take (e - at) (drop at s)) (pick b (after (take (e - at) (drop at s))) (bad (of_line ending_wrong))) rest)
      go false f = refl
      go true f =
          let size : n ≡ e - at = ends_there s at e q f in
          let next : at + (n + 2) ≡ e + 2 = omega (arith, size) in
          rw (next, size)

  module _ (v : Reading s w at) (b : Bool) (i : b ≡ ends_here (drop e s)) (o : Judged)
      (j : o ≡ opens (stage_meant w.stage) w.body b (take (e - at) (drop at s))) where
    -- the line, as it was opened
    line_opened : check_file scottish s ≡ checked_from w (on_line w.line (take (e - at) (drop at s)) (fully w.body (take (e - at) (drop at s)) o) rest)
    line_opened = sym v.left ∙ line_left ∙ rw (j, i)

    -- 1, 2, 3, 9 or 4 is the file's fault
    pub read_opened : (f : Fault) → o ≡ bad f → Faulty s w f
    unfolding on_line checked_from
    read_opened f d = line_opened ∙ rw d

    module _ (kind : Named) (stage : StageNamed) (z : o ≡ good (kind_meant kind) (stage_meant stage)) where
      -- a line without a fault so far
      line_good : check_file scottish s
          ≡ checked_from w (on_line w.line (take (e - at) (drop at s)) (fully w.body (take (e - at) (drop at s)) (good (kind_meant kind) (stage_meant stage))) rest)
      line_good = line_opened ∙ rw z

      -- it has as many fields as its kind
      pub read_fields : true ≡ has_fields (length (fields (kind_meant kind))) (take (e - at) (drop at s))
      read_fields =
          sym (opened_fields (stage_meant w.stage) w.body b (take (e - at) (drop at s)) (kind_meant kind) (stage_meant stage) (rw z at j))

      -- 5 is the file's fault
      pub read_malformed : (f : Fault) → some f ≡ lowest (kind_meant kind) (take (e - at) (drop at s)) → Faulty s w f
      unfolding on_line checked_from verdict
      read_malformed f m = line_good ∙ rw (← m)

      module _ (y : none ≡ lowest (kind_meant kind) (take (e - at) (drop at s))) where
        -- 6, 7 or 8 is the file's fault
        pub read_closed : (f : Fault) → some f ≡ closes w.body (kind_meant kind) (take (e - at) (drop at s)) → Faulty s w f
        unfolding on_line checked_from verdict
        read_closed f m = line_good ∙ rw (← y, ← m)

        -- a good line is passed
        passed : none ≡ closes w.body (kind_meant kind) (take (e - at) (drop at s))
            → check_file scottish s
            ≡ left_of (walked_on w (role (kind_meant kind)) (op_of (get_or (fields_of (take (e - at) (drop at s))) 1 [])) stage) (lines_of (drop (e + 2) s))
        unfolding on_line verdict left_of walked_on
        passed m =
            line_good
            ∙ rw (← y, ← m)
            (counted_on w (kind_meant kind) (take (e - at) (drop at s)) stage (role (kind_meant kind)) (rest (kind_meant kind) (stage_meant stage)))

        -- and the walk goes on after it
        pub read_turn : none ≡ closes w.body (kind_meant kind) (take (e - at) (drop at s)) → (u : Walk)
            → u ≡ walked_on w (role (kind_meant kind)) (op_of (get_or (fields_of (take (e - at) (drop at s))) 1 [])) stage → at ≤ e → e ≤ length s → Reading s u (e + 2)
        read_turn m u x a d = rw x (record {
          left = sym (passed m);
          within = within_on w (role (kind_meant kind)) (op_of (get_or (fields_of (take (e - at) (drop at s))) 1 [])) stage at (e + 2) v.within (omega arith);
          stands = omega arith;
        })
