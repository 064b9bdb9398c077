-- What the laws ask of a format's table: the record Regular, and how a format's is computed from its rows.
use Rattle.std.specs.Prelude.{◌≡◌, Bool, not, ◌&&◌, ◌||◌, List, [], ◌++◌, map, ◌≤◌, T, leb, eqb, length}
use Rattle.std.proofs.Math.Dec.{eqb→eq, leb→le}
use Rattle.base.specs.Lists.{all, pick}
use Rattle.base.specs.Tests.{and_in, or_not, T_true}
use Rattle.meaning.specs.Kinds.{Kind, kinds, trailer_line, role}
use Rattle.meaning.specs.Format.{Field, Format, opening, knows, field_number, record_count}
use Rattle.meaning.specs.Records.{own_fields}
use Rattle.meaning.specs.Holding.{is_held}
use Rattle.laws.specs.Kinds.{every, alike, is_role, role_refl}

module _ (F : Format) where
  open F use {fields}

  -- a kind that the format holds: known, and a body line
  unfoldable pub holds : Kind → Bool
  holds k = knows F k && is_held (role k)

  -- a regular table
  pub record Regular : Type 0 where
    -- the fields of a held kind are the three that every body line opens with, and its own
    pub opens : (k : Kind) → T (holds k) → fields k ≡ opening ++ own_fields F k
    -- of which there is at least one
    pub own_some : (k : Kind) → T (holds k) → 1 ≤ length (own_fields F k)
    -- RECORD_COUNT is a trailer's third field
    pub count_third : (k : Kind) → T (knows F k) → role k ≡ trailer_line → field_number 1 record_count (fields k) ≡ 3

  -- the first fact as two tables: the fields of a kind that is held, and how they must begin
  unfoldable pub held_fields : Kind → List Field
  held_fields k = pick (holds k) (fields k) []

  unfoldable pub open_fields : Kind → List Field
  open_fields k = pick (holds k) (opening ++ own_fields F k) []

  -- the second fact as a test of a kind
  unfoldable pub own_test : Kind → Bool
  own_test k = not (holds k) || leb 1 (length (own_fields F k))

  -- and the third
  unfoldable pub count_test : Kind → Bool
  count_test k = not (knows F k && is_role trailer_line (role k)) || eqb (field_number 1 record_count (fields k)) 3

  -- a table is regular where the two agree of the list of kinds, and all kinds pass the tests
  pub regular_by : map held_fields kinds ≡ map open_fields kinds → T (all own_test kinds) → T (all count_test kinds) → Regular
  unfolding held_fields open_fields own_test count_test
  regular_by o s c = record {
    opens = λ k h. rw (T_true (holds k) h) at (alike held_fields open_fields o k);
    own_some = λ k h. leb→le 1 (length (own_fields F k)) (or_not (holds k) (leb 1 (length (own_fields F k))) (every own_test s k) h);
    count_third = λ k h e. eqb→eq (field_number 1 record_count (fields k)) 3
        (or_not (knows F k && is_role trailer_line (role k)) (eqb (field_number 1 record_count (fields k)) 3) (every count_test c k) (and_in (knows F k) (is_role trailer_line (role k)) h (rw e (role_refl trailer_line))));
  }
