-- What holds of every row of the table holds of each kind: a fact of all kinds is one computed test.
use Rattle.std.specs.Prelude.{◌≡◌, refl, Bool, true, false, ◌||◌, ℕ, zero, suc, T, eqb}
use Rattle.std.proofs.Common.{sym, ap, ◌∙◌, subst, eqb→eq}
use Rattle.std.proofs.Math.Option.{some, some-injective}
use mathlib.Core.List.{List, [], ◌∷◌, map, head-eq_of_cons-eq, tail-eq_of_cons-eq}
use Rattle.std.proofs.Math.Dec.{eqb_refl}
use Rattle.base.specs.Lists.{all, pick, same, bytes}
use Rattle.base.specs.Tests.{and_l, and_r, or_l, or_r, or_out, some≢none}
use Rattle.meaning.specs.Kinds.{Kind, header, street, street_xref, blpu, app_xref, lpi, metadata, trailer, kinds, ident, kind_among, Role, header_line, body_line, metadata_line, trailer_line}
use Rattle.meaning.specs.Holding.{is_held}

-- a fact of each of them
abbrev Each : (Kind → Type 0) → List Kind → Type 0
Each P [] = Unit {0}
Each P (k ∷ ks) = P k × Each P ks

-- there is no kind but those of the list: a fact of each of them is one of every kind
listed : (P : Kind → Type 0) → Each P kinds → (k : Kind) → P k
unfolding kinds
listed P h header = h.0
listed P h street = h.1.0
listed P h street_xref = h.1.1.0
listed P h blpu = h.1.1.1.0
listed P h app_xref = h.1.1.1.1.0
listed P h lpi = h.1.1.1.1.1.0
listed P h metadata = h.1.1.1.1.1.1.0
listed P h trailer = h.1.1.1.1.1.1.1.0

-- a test that all kinds pass is passed by each
pub every : (p : Kind → Bool) → T (all p kinds) → (k : Kind) → T (p k)
every p t k = listed (λ k. T (p k)) (apart kinds t) k
  where
    apart : (ks : List Kind) → T (all p ks) → Each (λ k. T (p k)) ks
    apart [] t = tt
    apart (k ∷ ks) t = (and_l (p k) (all p ks) t, apart ks (and_r (p k) (all p ks) t))

-- what two tables say alike of the list of kinds they say alike of each
pub alike : {A : Type 0} (f g : Kind → A) → map f kinds ≡ map g kinds → (k : Kind) → f k ≡ g k
alike f g e k = listed (λ k. f k ≡ g k) (apart kinds e) k
  where
    apart : (ks : List Kind) → map f ks ≡ map g ks → Each (λ k. f k ≡ g k) ks
    apart [] e = tt
    apart (k ∷ ks) e = (head-eq_of_cons-eq e, apart ks (tail-eq_of_cons-eq e))

-- the test holds of one of them
unfoldable pub any : (Kind → Bool) → List Kind → Bool
any p [] = false
any p (k ∷ ks) = p k || any p ks

-- a test that a kind passes holds of one of those among which it is found
pub found_any : (p : Kind → Bool) (ks : List Kind) (i : List ℕ) (k : Kind) → kind_among ks i ≡ some k → T (p k) → T (any p ks)
unfolding kind_among any
found_any p [] i k e t = absurd (some≢none (sym e))
found_any p (j ∷ ks) i k e t = go (same i (ident j)) e (found_any p ks i k)
  where
    go : (c : Bool) → pick c (some j) (kind_among ks i) ≡ some k → (kind_among ks i ≡ some k → T (p k) → T (any p ks)) → T (p j || any p ks)
    go true e h = or_l (p j) (any p ks) (subst (λ k. T (p k)) (sym (some-injective j k e)) t)
    go false e h = or_r (p j) (any p ks) (h e t)

-- what follows from the test of each follows where it holds of one of them
pub any_out : (p : Kind → Bool) (ks : List Kind) (q : Bool) → ((k : Kind) → T (p k) → T q) → T (any p ks) → T q
unfolding any
any_out p [] q f t = absurd t
any_out p (k ∷ ks) q f t = or_out (p k) (any p ks) q (f k) (any_out p ks q f) t

-- ---- identifiers

-- an identifier is its kind's
kind_all : (k : Kind) → kind_among kinds (ident k) ≡ some k
unfolding ident bytes kind_among kinds same
kind_all k = alike (λ k. kind_among kinds (ident k)) some refl k

-- kinds with one identifier are one kind
pub ident_only : (j k : Kind) → ident j ≡ ident k → j ≡ k
ident_only j k e = some-injective j k (sym (kind_all j) ∙ ap (kind_among kinds) e ∙ kind_all k)

-- ---- roles

-- roles in the order of a file
abbrev rank : Role → ℕ
rank header_line = 0
rank body_line = 1
rank metadata_line = 2
rank trailer_line = 3

abbrev ranked : ℕ → Role
ranked zero = header_line
ranked (suc zero) = body_line
ranked (suc (suc zero)) = metadata_line
ranked (suc (suc (suc n))) = trailer_line

rank_back : (o : Role) → ranked (rank o) ≡ o
rank_back header_line = refl
rank_back body_line = refl
rank_back metadata_line = refl
rank_back trailer_line = refl

-- a line has that role
unfoldable pub is_role : Role → Role → Bool
is_role o r = eqb (rank o) (rank r)

-- a role is itself
pub role_refl : (o : Role) → T (is_role o o)
unfolding is_role
role_refl o = eqb_refl (rank o)

-- roles that pass for one another are equal
pub is_role_lem : (o r : Role) → T (is_role o r) → r ≡ o
unfolding is_role
is_role_lem o r t = sym (rank_back r) ∙ ap ranked (sym (eqb→eq (rank o) (rank r) t)) ∙ rank_back o

-- held kinds are body lines
pub held_role : (o : Role) → T (is_held o) → o ≡ body_line
unfolding is_held
held_role header_line t = absurd t
held_role body_line t = refl
held_role metadata_line t = absurd t
held_role trailer_line t = absurd t
