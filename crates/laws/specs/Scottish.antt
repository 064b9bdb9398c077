-- The Scottish format is regular, and knows every kind: each fact is computed from its table.
use Rattle.std.specs.Prelude.{◌≡◌, refl, Bool, ◌||◌, ℕ, T, leb, eqb}
use Rattle.std.proofs.Common.{sym, subst, arith, leb→le, eqb→eq}
use Rattle.base.specs.Lists.{bytes, same}
use Rattle.base.specs.Tests.{and_l, and_r, or_out, same_test}
use Rattle.meaning.specs.Kinds.{Kind, kinds, ident, role, kind_among}
use Rattle.meaning.specs.Format.{kind_of, knows, field_number, end_date}
use Rattle.meaning.specs.Table.{fields, scottish}
use Rattle.meaning.specs.Records.{own_fields}
use Rattle.meaning.specs.Holding.{is_held}
use Rattle.laws.specs.Kinds.{every, any, any_out, is_role}
use Rattle.laws.specs.Regular.{holds, Regular, held_fields, open_fields, own_test, count_test, regular_by}
use Rattle.laws.specs.FileRefusals.{end_number}

-- it knows every kind that there is
pub scottish_knows : (k : Kind) → T (knows scottish k)
unfolding kinds ident bytes knows kind_of kind_among same
scottish_knows k = every (knows scottish) tt k

-- its table is regular
pub scottish_regular : Regular scottish
unfolding kinds ident bytes holds knows kind_of kind_among same is_held is_role role fields own_fields field_number held_fields open_fields own_test count_test
scottish_regular = regular_by scottish refl tt tt

-- END_DATE's own number
abbrev end_at : Kind → ℕ
end_at k = field_number 1 end_date (fields k)

-- it is a street's field 13, a BLPU's 14, and 9 of the other three
pub scottish_ends : (f : ℕ) → end_number scottish f ≡ (eqb f 9 || (eqb f 13 || eqb f 14))
unfolding kinds fields field_number end_number any
scottish_ends f = same_test (end_number scottish f) (one f) there (or_out (eqb f 9) (eqb f 13 || eqb f 14) (end_number scottish f) (here 9 tt) (or_out (eqb f 13) (eqb f 14) (end_number scottish f) (here 13 tt) (here 14 tt)))
  where
    one : ℕ → Bool
    one n = eqb n 9 || (eqb n 13 || eqb n 14)

    here : (n : ℕ) → T (end_number scottish n) → T (eqb f n) → T (end_number scottish f)
    here n t e = subst (λ n. T (end_number scottish n)) (sym (eqb→eq f n e)) t

    -- a kind has none, or there
    placed : (k : Kind) → f ≡ end_at k → T (eqb f 0 || one f)
    placed k e = subst (λ n. T (eqb n 0 || one n)) (sym e) (every (λ k. eqb (end_at k) 0 || one (end_at k)) tt k)

    there : T (end_number scottish f) → T (one f)
    there t = any_out (λ k. eqb f (end_at k)) kinds (one f)
        (λ k e. or_out (eqb f 0) (one f) (one f) (λ z. absurd (omega (arith, leb→le 1 f (and_l (leb 1 f) _ t), eqb→eq f 0 z))) (λ s. s) (placed k (eqb→eq f (end_at k) e)))
        (and_r (leb 1 f) _ t)
