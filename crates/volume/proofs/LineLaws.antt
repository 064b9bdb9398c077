-- The laws of one line at its stage: before its fields, and after them.
use mathlib.Core.Path.{◌≡◌, refl, sym, ap, ◌∙◌}
use mathlib.Core.Bool.{Bool, true, false, ◌&&◌}
use mathlib.Core.Option.{Option, none, some}
use mathlib.Core.List.{List, [], ◌∷◌, map}
use Prim.Native.Nat.{ℕ, zero, suc, ◌+◌, ◌≤◌, ◌<◌}
use Rattle.std.specs.Prelude as std
use Rattle.std.specs.Prelude.{Some, None, ◌⊎◌}
use Rattle.std.proofs.Math.Logic.{inl, inr}
use Prim.Native.String.{String}
use native.Mathlib.Numerals.{add-one}
use native.Mathlib.Omega.{arith}
use borrow.Author.Rules.{rules}
use borrow.Author.Tests.{not-true, not-false, ne_eqb}
use lib.Dec.{T, eqb, ltb, leb, eqb→eq, ltb→lt, leb→le}
use lib.ListN.{length, get_or}
use Rattle.base.specs.Lists.{pick, ask, all, same, bytes}
use Rattle.base.specs.Tests.{and_l, and_r, some≢none}
use Rattle.theory.specs.Step.{Op, ins, upd, del}
use Rattle.theory.specs.Decimal.{value}
use Rattle.meaning.specs.Forms.{Form, number, at_least1, decimal, date, time, text, change_type, xref_type, file_type, key_text, is_number, has_form, is_textual, is_empty, is_digit, sound_as}
use Rattle.meaning.specs.Lines.{identifier, fields_of}
use Rattle.meaning.specs.Kinds.{Kind, kinds, Role, header_line, body_line, metadata_line, trailer_line, role}
use Rattle.meaning.specs.Format.{kind_of, named, field_number, pro_order, record_count}
use Rattle.meaning.specs.Table.{fields, scottish}
use Rattle.meaning.specs.Records.{letter, op_of}
use Rattle.meaning.specs.File.{Stage, at_start, in_body, after_metadata, after_trailer, next, most_body, has_room, count_fault, bad, good, verdict}
use Rattle.laws.specs.Kinds.{every}
use Rattle.text.specs.Places.{field_count}
use Rattle.text.proofs.FieldLaws.{fields_wrong}
use Rattle.layout.specs.declared.kinds.HeldKind.{HeldKind}
use Rattle.layout.specs.declared.kinds.Kind.{Kind as Named}
use Rattle.layout.specs.declared.kinds.Kind.TheVariants.{Header, Held, Metadata, Trailer}
use Rattle.layout.specs.declared.records.Layout.{Layout}
use Rattle.meaning.specs.Codes.{ending_wrong, identifier_unknown, out_of_place, field_count_wrong, end_before_start, not_running_number, record_count_wrong, too_many_body_lines}
use Rattle.meaning.specs.Answers.{Fault, of_line, of_field}
use Rattle.layout.specs.Meant.{kind_meant, kind_found}
use Rattle.layout.specs.Rows.{Row, bare, no_row, row_of, laid_out}
use Rattle.layout.specs.Check.{bad_field, lowest_bad, kind_dates}
use Rattle.layout.proofs.KindLaws.{role_of, role_of_lem}
use Rattle.layout.proofs.CheckLaws.{named_at, right_count, early_there, early_room}
use Rattle.volume.specs.declared.stages.Stage.{Stage as StageNamed}
use Rattle.volume.specs.declared.stages.Stage.TheVariants.{AtStart, InBody, AfterMetadata, AfterTrailer}
use Rattle.volume.specs.Meant.{stage_meant, stage_found}
use Rattle.volume.specs.Judged.{opens_at, opens_as, opens, staged_as, closes}

-- ---- the stage, the kind, the change and the number of a line

-- the stage after a line that may stand, by its stage and kind
pub next_arm : (p q : StageNamed) (k c : Named) (o : Option Stage) → p ≡ q → k ≡ c → o ≡ next (stage_meant q) (role_of c) → o ≡ next (stage_meant p) (role (kind_meant k))
next_arm p q k c o e i h = h ∙ rw (e, role_of_lem k c i)

module _ (p : StageNamed) (k : Named) where
  -- no other line than a header begins a file
  pub next_start : p ≡ AtStart → (k ≡ Header → ⊥) → none ≡ next (stage_meant p) (role (kind_meant k))
  next_start e n = rw (e, role_of_lem k k refl) (go k n)
    where
      go : (k : Named) → (k ≡ Header → ⊥) → none ≡ next at_start (role_of k)
      go Header n = absurd (n refl)
      go (Held h) n = unfold next in refl
      go Metadata n = unfold next in refl
      go Trailer n = unfold next in refl

  -- in the body only a body line and metadata stand
  pub next_body : p ≡ InBody → ((h : HeldKind) → k ≡ Held h → ⊥) → (k ≡ Metadata → ⊥) → none ≡ next (stage_meant p) (role (kind_meant k))
  next_body e n m = rw (e, role_of_lem k k refl) (go k n m)
    where
      go : (k : Named) → ((h : HeldKind) → k ≡ Held h → ⊥) → (k ≡ Metadata → ⊥) → none ≡ next in_body (role_of k)
      go Header n m = unfold next in refl
      go (Held h) n m = absurd (n h refl)
      go Metadata n m = absurd (m refl)
      go Trailer n m = unfold next in refl

  -- after metadata only the trailer
  pub next_metadata : p ≡ AfterMetadata → (k ≡ Trailer → ⊥) → none ≡ next (stage_meant p) (role (kind_meant k))
  next_metadata e n = rw (e, role_of_lem k k refl) (go k n)
    where
      go : (k : Named) → (k ≡ Trailer → ⊥) → none ≡ next after_metadata (role_of k)
      go Header n = unfold next in refl
      go (Held h) n = unfold next in refl
      go Metadata n = unfold next in refl
      go Trailer n = absurd (n refl)

  -- and after that nothing
  pub next_last : p ≡ AfterTrailer → none ≡ next (stage_meant p) (role (kind_meant k))
  next_last e = rw (e, role_of_lem k k refl) (go k)
    where
      go : (k : Named) → none ≡ next after_trailer (role_of k)
      go Header = unfold next in refl
      go (Held h) = unfold next in refl
      go Metadata = unfold next in refl
      go Trailer = unfold next in refl

pub ruleset nexts = (rules, next_arm, next_start, next_body, next_metadata, next_last)

-- two letters that fail at a byte that both have
neither : (a b c d : Bool) → del ≡ pick (a && (b && (d && false))) ins (pick (a && (c && (d && false))) upd del)
neither true true true true = refl
neither true true true false = refl
neither true true false true = refl
neither true true false false = refl
neither true false true true = refl
neither true false true false = refl
neither true false false d = refl
neither false b c d = refl

-- a field of another length is a delete
pub change_few : (f : List ℕ) → length f < 3 → del ≡ op_of f
unfolding op_of letter bytes same
change_few [] h = refl
change_few (x ∷ []) h = neither (eqb x 34) true true true
change_few (x ∷ (y ∷ [])) h = neither (eqb x 34) (eqb y 73) (eqb y 85) true
change_few (x ∷ (y ∷ (z ∷ f))) h = absurd (omega arith)

pub change_many : (f : List ℕ) → 4 ≤ length f → del ≡ op_of f
unfolding op_of letter bytes same
change_many [] h = absurd (omega arith)
change_many (x ∷ []) h = absurd (omega arith)
change_many (x ∷ (y ∷ [])) h = absurd (omega arith)
change_many (x ∷ (y ∷ (z ∷ []))) h = absurd (omega arith)
change_many (x ∷ (y ∷ (z ∷ (u ∷ f)))) h = neither (eqb x 34) (eqb y 73) (eqb y 85) (eqb z 34)

-- so is one with another byte
pub change_first : (f : List ℕ) → (get_or f 0 0 ≡ 34 → ⊥) → del ≡ op_of f
unfolding op_of letter bytes same
change_first [] n = refl
change_first (x ∷ f) n = rw (ne_eqb x 34 n)

pub change_second : (f : List ℕ) → (get_or f 1 0 ≡ 73 → ⊥) → (get_or f 1 0 ≡ 85 → ⊥) → del ≡ op_of f
unfolding op_of letter bytes same
change_second [] n m = refl
change_second (x ∷ []) n m = change_few (x ∷ []) (omega arith)
change_second (x ∷ (y ∷ f)) n m = rw (ne_eqb y 73 n, ne_eqb y 85 m) (neither (eqb x 34) false false false)

pub change_third : (f : List ℕ) → (get_or f 2 0 ≡ 34 → ⊥) → del ≡ op_of f
unfolding op_of letter bytes same
change_third [] n = refl
change_third (x ∷ []) n = change_few (x ∷ []) (omega arith)
change_third (x ∷ (y ∷ [])) n = change_few (x ∷ (y ∷ [])) (omega arith)
change_third (x ∷ (y ∷ (z ∷ f))) n = rw (ne_eqb z 34 n) (neither (eqb x 34) (eqb y 73) (eqb y 85) true)

-- an insert is written "I", an update "U"
pub change_insert : (f : List ℕ) → 3 ≤ length f → length f < 4 → get_or f 0 0 ≡ 34 → get_or f 1 0 ≡ 73 → get_or f 2 0 ≡ 34 → ins ≡ op_of f
unfolding op_of letter bytes same
change_insert [] h l a b c = absurd (omega arith)
change_insert (x ∷ []) h l a b c = absurd (omega arith)
change_insert (x ∷ (y ∷ [])) h l a b c = absurd (omega arith)
change_insert (x ∷ (y ∷ (z ∷ []))) h l a b c = rw (a, b, c)
change_insert (x ∷ (y ∷ (z ∷ (u ∷ f)))) h l a b c = absurd (omega arith)

pub change_update : (f : List ℕ) → 3 ≤ length f → length f < 4 → get_or f 0 0 ≡ 34 → get_or f 1 0 ≡ 85 → get_or f 2 0 ≡ 34 → upd ≡ op_of f
unfolding op_of letter bytes same
change_update [] h l a b c = absurd (omega arith)
change_update (x ∷ []) h l a b c = absurd (omega arith)
change_update (x ∷ (y ∷ [])) h l a b c = absurd (omega arith)
change_update (x ∷ (y ∷ (z ∷ []))) h l a b c = rw (a, b, c)
change_update (x ∷ (y ∷ (z ∷ (u ∷ f)))) h l a b c = absurd (omega arith)

pub ruleset changes = (rules, change_few, change_many, change_first, change_second, change_third, change_insert, change_update)

-- the field that says it
pub change_there : (f g : List ℕ) (o : Op) → f ≡ g → o ≡ op_of f → o ≡ op_of g
change_there f g o e h = rw (← e) h

pub ruleset changed = (rules, change_there)

-- ---- where the number stands

-- a number of at most 16 digits
abbrev narrow : Form → Bool
narrow (number w) = leb w 16
narrow (at_least1 w) = false
narrow (decimal w d) = false
narrow date = false
narrow time = false
narrow (text w) = false
narrow change_type = false
narrow xref_type = false
narrow file_type = false
narrow (key_text c) = false

-- the field of that name is the third, a number of at most 16 digits
abbrev third_is : String → Kind → Bool
third_is s k = eqb (field_number 1 s (fields k)) 3 && (ltb 2 (length (map bare (fields k))) && narrow (row_of k 2).0)

-- PRO_ORDER of a body line, RECORD_COUNT of the trailer
abbrev numbered : Role → Kind → Bool
numbered header_line k = true
numbered body_line k = third_is pro_order k
numbered metadata_line k = true
numbered trailer_line k = third_is record_count k

-- so it is in every kind
third : (k : Kind) → T (numbered (role k) k)
unfolding kinds role fields field_number row_of
third k = every (λ k. numbered (role k) k) tt k

-- a sound number of at most 16 digits is no longer
narrow_short : (m : Form) (b : Bool) (f : List ℕ) → T (narrow m) → sound_as scottish.text_rule m b f ≡ true → length f ≤ 16
unfolding sound_as is_empty is_textual same has_form is_number
narrow_short (number w) b [] n s = omega arith
narrow_short (number w) b (x ∷ f) n s =
    let u : T (is_number w (x ∷ f)) = rw s tt in
    let t = and_r (leb 1 (length (x ∷ f))) (leb (length (x ∷ f)) w && all is_digit (x ∷ f)) u in
    omega (arith, leb→le w 16 n, leb→le (length (x ∷ f)) w (and_l (leb (length (x ∷ f)) w) (all is_digit (x ∷ f)) t))
narrow_short (at_least1 w) b f n s = absurd n
narrow_short (decimal w d) b f n s = absurd n
narrow_short date b f n s = absurd n
narrow_short time b f n s = absurd n
narrow_short (text w) b f n s = absurd n
narrow_short change_type b f n s = absurd n
narrow_short xref_type b f n s = absurd n
narrow_short file_type b f n s = absurd n
narrow_short (key_text c) b f n s = absurd n

-- where no field is malformed, such a field is no longer
sound_short : (n : ℕ) (ds : List Row) (fs : List (List ℕ)) (i : ℕ) → none ≡ lowest_bad (suc n) ds fs → i < length ds → T (narrow (get_or ds i no_row).0) → length (get_or fs i []) ≤ 16
unfolding lowest_bad ask
sound_short n [] fs i z h w = absurd (omega arith)
sound_short n (d ∷ ds) [] i z h w = omega arith
sound_short n (d ∷ ds) (f ∷ fs) i z h w = go (sound_as scottish.text_rule d.0 d.1 f) refl i h w z (sound_short (suc n) ds fs)
  where
    go : (b : Bool) → sound_as scottish.text_rule d.0 d.1 f ≡ b → (i : ℕ) → i < suc (length ds) → T (narrow (get_or (d ∷ ds) i no_row).0) → none ≡ ask b (bad_field (suc n) d f) (lowest_bad (suc (suc n)) ds fs)
        → ((i : ℕ) → none ≡ lowest_bad (suc (suc n)) ds fs → i < length ds → T (narrow (get_or ds i no_row).0) → length (get_or fs i []) ≤ 16) → length (get_or (f ∷ fs) i []) ≤ 16
    go false s i h w z ih = absurd (some≢none (sym z))
    go true s zero h w z ih = narrow_short d.0 d.1 f w s
    go true s (suc i) h w z ih = ih i z (omega arith) w

-- the field of that name, its number, and its length
third_is_lem : (s : String) (k : Kind) (t : List ℕ) → T (third_is s k) → (field_number 1 s (fields k) ≡ 3) × (named s (fields k) (fields_of t) ≡ get_or (fields_of t) 2 [])
third_is_lem s k t h =
    let p : field_number 1 s (fields k) ≡ 3 = eqb→eq (field_number 1 s (fields k)) 3 (and_l (eqb (field_number 1 s (fields k)) 3) _ h) in
    (p, named_at 0 s (fields k) (fields_of t) (λ z. omega (arith, p, z)) ∙ rw p)

third_short : (s : String) (k : Kind) (t : List ℕ) → T (third_is s k) → none ≡ lowest_bad 1 (map bare (fields k)) (fields_of t) → length (get_or (fields_of t) 2 []) ≤ 16
unfolding row_of
third_short s k t h z =
    let r = and_r (eqb (field_number 1 s (fields k)) 3) _ h in
    sound_short 0 (map bare (fields k)) (fields_of t) 2 z (ltb→lt 2 (length (map bare (fields k))) (and_l (ltb 2 (length (map bare (fields k)))) _ r)) (and_r (ltb 2 (length (map bare (fields k)))) _ r)

-- ---- a line before its fields

-- a line that is no body line has room
pub room_else : (k : Named) (n : ℕ) → (k ≡ Header) ⊎ ((k ≡ Metadata) ⊎ (k ≡ Trailer)) → true ≡ has_room (role (kind_meant k)) n
unfolding has_room
room_else k n (inl e) = rw (role_of_lem k Header e)
room_else k n (inr (inl e)) = rw (role_of_lem k Metadata e)
room_else k n (inr (inr e)) = rw (role_of_lem k Trailer e)

-- a body line has room before the last that there may be
pub room_body : (k : Named) (h : HeldKind) (n m : ℕ) → k ≡ Held h → m ≡ most_body → ltb n m ≡ has_room (role (kind_meant k)) n
unfolding has_room
room_body k h n m e i = rw (role_of_lem k (Held h) e, i)

pub ruleset rooms = (rules, room_else, room_body)

count_is : (k : Kind) (l : Layout) → l ≡ laid_out k → l.count ≡ length (fields k)
unfolding laid_out
count_is k l e = rw e

module _ (p : Stage) (n : ℕ) (t : List ℕ) (b : Bool) where
  -- 1
  pub open_unended : b ≡ false → (x : Fault) → x ≡ of_line ending_wrong → bad x ≡ opens p n b t
  unfolding opens
  open_unended e x m = ap bad m ∙ rw e

  module _ (e : b ≡ true) (kf : std.Option Named) (g : kind_found kf ≡ kind_of scottish (identifier t)) where
    -- 2
    pub open_unknown : ((k : Named) → kf ≡ Some k → ⊥) → (x : Fault) → x ≡ of_field identifier_unknown 1 → bad x ≡ opens p n b t
    unfolding opens opens_as
    open_unknown u x m = ap bad m ∙ rw (e, ← g) (go kf u)
      where
        go : (o : std.Option Named) → ((k : Named) → o ≡ Some k → ⊥) → bad (of_field identifier_unknown 1) ≡ opens_as p n t (kind_found o)
        go None u = refl
        go (Some k) u = absurd (u k refl)

    module _ (kind : Named) (h : kf ≡ Some kind) (pf : std.Option StageNamed) (y : stage_found pf ≡ next p (role (kind_meant kind))) where
      -- a known kind is judged at its stage
      known : opens p n b t ≡ opens_at n t (kind_meant kind) (stage_found pf)
      unfolding opens opens_as
      known = rw (e, ← g, h, y)

      -- 3
      pub open_nowhere : ((q : StageNamed) → pf ≡ Some q → ⊥) → (x : Fault) → x ≡ of_line out_of_place → bad x ≡ opens p n b t
      unfolding opens_at
      open_nowhere u x m = ap bad m ∙ rw known (go pf u)
        where
          go : (o : std.Option StageNamed) → ((q : StageNamed) → o ≡ Some q → ⊥) → bad (of_line out_of_place) ≡ opens_at n t (kind_meant kind) (stage_found o)
          go None u = refl
          go (Some q) u = absurd (u q refl)

      module _ (q : StageNamed) (z : pf ≡ Some q) (r : Bool) (m : r ≡ has_room (role (kind_meant kind)) n) where
        -- 9
        pub open_full : r ≡ false → (x : Fault) → x ≡ of_line too_many_body_lines → bad x ≡ opens p n b t
        unfolding opens_at ask verdict
        open_full u x o = ap bad o ∙ rw (known, z, sym m ∙ u)

        module _ (w : r ≡ true) (l : Layout) (d : l ≡ laid_out (kind_meant kind)) (a : ℕ) (i : a ≡ field_count t) where
          -- 4
          pub open_count : (a ≡ l.count → ⊥) → (x : Fault) → x ≡ of_line field_count_wrong → bad x ≡ opens p n b t
          unfolding opens_at ask verdict
          open_count u x o = ap bad o ∙ rw (known, z, sym m ∙ w, ← count_is (kind_meant kind) l d, ← fields_wrong t l.count a i u)

          -- else its fields are to be judged
          pub open_good : a ≡ l.count → good (kind_meant kind) (stage_meant q) ≡ opens p n b t
          unfolding opens_at ask verdict
          open_good u = rw (known, z, sym m ∙ w, ← right_count (kind_meant kind) t l d a i u)

pub ruleset opening = (rules, not-true, not-false, open_unended, open_unknown, open_nowhere, open_full, open_count, open_good)

-- ---- a line that was passed, at its stage

module _ (p : Stage) (n : ℕ) (kind : Named) (r : Bool) (m : r ≡ has_room (role (kind_meant kind)) n) where
  -- there is no room for it
  pub stage_full : r ≡ false → none ≡ staged_as p n (kind_meant kind)
  unfolding staged_as
  stage_full u = rw (sym m ∙ u)

  -- it stands where it may
  pub stage_there : r ≡ true → (o : Option Stage) → o ≡ next p (role (kind_meant kind)) → o ≡ staged_as p n (kind_meant kind)
  unfolding staged_as
  stage_there u o e = rw (sym m ∙ u) e

pub ruleset staging = (rules, not-true, not-false, stage_full, stage_there)

-- ---- a line after its fields

module _ (kind : Named) (n : ℕ) (t : List ℕ) where
  -- a body line's number is no longer than 16 bytes
  pub close_short : (h : HeldKind) → kind ≡ Held h → none ≡ lowest_bad 1 (map bare (fields (kind_meant kind))) (fields_of t) → length (get_or (fields_of t) 2 []) ≤ 16
  close_short h c z = third_short pro_order (kind_meant kind) t (rw (role_of_lem kind (Held h) c) at (third (kind_meant kind))) z

  -- nor a trailer's
  pub close_short_last : kind ≡ Trailer → none ≡ lowest_bad 1 (map bare (fields (kind_meant kind))) (fields_of t) → length (get_or (fields_of t) 2 []) ≤ 16
  close_short_last c z = third_short record_count (kind_meant kind) t (rw (role_of_lem kind Trailer c) at (third (kind_meant kind))) z

  module _ (b : Bool) (r : b ≡ kind_dates (kind_meant kind) (fields_of t)) where
    -- 6
    pub close_dates : (l : Layout) → l ≡ laid_out (kind_meant kind) → b ≡ false → (x : Fault) → x ≡ of_field end_before_start l.end → some x ≡ closes n (kind_meant kind) t
    unfolding closes ask laid_out
    close_dates l e f x m = ap some m ∙ rw (sym r ∙ f, e)

    module _ (d : b ≡ true) where
      -- neither a header nor metadata has a number
      pub close_else : (kind ≡ Header) ⊎ (kind ≡ Metadata) → none ≡ closes n (kind_meant kind) t
      unfolding closes ask count_fault
      close_else (inl c) = rw (sym r ∙ d, role_of_lem kind Header c)
      close_else (inr c) = rw (sym r ∙ d, role_of_lem kind Metadata c)

      module _ (v : ℕ) (q : v ≡ value (get_or (fields_of t) 2 [])) (f : Option Fault) where
        -- 7
        pub close_body : (h : HeldKind) → kind ≡ Held h → f ≡ ask (eqb v (n + 1)) (of_field not_running_number 3) none → f ≡ closes n (kind_meant kind) t
        unfolding closes ask count_fault
        close_body h c g =
            let w = third_is_lem pro_order (kind_meant kind) t (rw (role_of_lem kind (Held h) c) at (third (kind_meant kind))) in
            g ∙ rw (sym r ∙ d, role_of_lem kind (Held h) c, w.0, w.1, q, add-one n)

        -- 8
        pub close_trailer : kind ≡ Trailer → f ≡ ask (eqb v n) (of_field record_count_wrong 3) none → f ≡ closes n (kind_meant kind) t
        unfolding closes ask count_fault
        close_trailer c g =
            let w = third_is_lem record_count (kind_meant kind) t (rw (role_of_lem kind Trailer c) at (third (kind_meant kind))) in
            g ∙ rw (sym r ∙ d, role_of_lem kind Trailer c, w.0, w.1, q)

pub ruleset closing = (rules, early_there, early_room, not-true, not-false, close_short, close_short_last, close_dates, close_else, close_body, close_trailer)
