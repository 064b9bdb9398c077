-- The laws of identifiers and roles: two digits are known by their number, and held kinds are body lines.
use mathlib.Core.Path.{◌≡◌, refl, sym, ap, ap₂, subst, ◌∙◌}
use mathlib.Core.Bool.{Bool, true, false, ◌&&◌}
use mathlib.Core.Option.{Option, none, some}
use mathlib.Core.List.{List, [], ◌∷◌}
use Prim.Native.Nat.{ℕ, ◌-◌}
use native.Mathlib.Nat.{sub-zero}
use native.Mathlib.Omega.{arith}
use borrow.Author.Rules.{rules}
use borrow.Author.Tests.{not-true, not-false}
use lib.Dec.{T, eqb, eqb→eq}
use lib.ListN.{length, take}
use mir.Facts.{yes_eqb}
use Rattle.base.specs.Lists.{all, same, bytes}
use Rattle.base.specs.Tests.{and_in, and_l, and_r, same_test}
use Rattle.base.specs.ListLaws.{same_eq, same_refl}
use Rattle.theory.specs.Decimal.{value, value_f}
use Rattle.meaning.specs.Forms.{is_digit}
use Rattle.meaning.specs.Lines.{identifier}
use Rattle.meaning.specs.Kinds.{Kind, kinds, ident, Role, header_line, body_line, metadata_line, trailer_line, role, kind_among, numbered_among}
use Rattle.meaning.specs.Format.{kind_of}
use Rattle.meaning.specs.Table.{scottish}
use Rattle.meaning.specs.Holding.{is_held}
use Rattle.laws.specs.Digits.{digit_low, digit_high}
use Rattle.laws.specs.Kinds.{every}
use Rattle.laws.specs.Body.{kind_out}
use Rattle.text.proofs.FieldLaws.{identifier_part}
use Rattle.layout.specs.declared.kinds.HeldKind.{HeldKind}
use Rattle.layout.specs.declared.kinds.HeldKind.TheVariants.{Street, StreetXref, Blpu, AppXref, Lpi}
use Rattle.layout.specs.declared.kinds.Kind.{Kind as Named}
use Rattle.layout.specs.declared.kinds.Kind.TheVariants.{Header, Held, Metadata, Trailer}
use Rattle.layout.specs.Meant.{held_meant, kind_meant}

-- a run of two digits
abbrev pub two_digits : List ℕ → Bool
two_digits f = eqb (length f) 2 && all is_digit f

-- two digits are told apart by their value
same_two : (f g : List ℕ) → T (two_digits f) → T (two_digits g) → value f ≡ value g → f ≡ g
unfolding value value_f
same_two [] g s t e = absurd s
same_two (a ∷ []) g s t e = absurd s
same_two (a ∷ (b ∷ (x ∷ f))) g s t e = absurd (omega (arith, eqb→eq (length (a ∷ (b ∷ (x ∷ f)))) 2 (and_l (eqb (length (a ∷ (b ∷ (x ∷ f)))) 2) _ s)))
same_two (a ∷ (b ∷ [])) [] s t e = absurd t
same_two (a ∷ (b ∷ [])) (c ∷ []) s t e = absurd t
same_two (a ∷ (b ∷ [])) (c ∷ (d ∷ (x ∷ g))) s t e = absurd (omega (arith, eqb→eq (length (c ∷ (d ∷ (x ∷ g)))) 2 (and_l (eqb (length (c ∷ (d ∷ (x ∷ g)))) 2) _ t)))
same_two (a ∷ (b ∷ [])) (c ∷ (d ∷ [])) s t e =
    let sa = and_l (is_digit a) (is_digit b && true) s in
    let sb = and_l (is_digit b) true (and_r (is_digit a) (is_digit b && true) s) in
    let tc = and_l (is_digit c) (is_digit d && true) t in
    let td = and_l (is_digit d) true (and_r (is_digit c) (is_digit d && true) t) in
    let p : a ≡ c = omega (arith, digit_low a sa, digit_high a sa, digit_low b sb, digit_high b sb, digit_low c tc, digit_high c tc, digit_low d td, digit_high d td) in
    let q : b ≡ d = omega (arith, digit_low a sa, digit_high a sa, digit_low b sb, digit_high b sb, digit_low c tc, digit_high c tc, digit_low d td, digit_high d td) in
    ap₂ (λ x y. x ∷ (y ∷ [])) p q

-- every identifier is two digits
ident_two : (k : Kind) → T (two_digits (ident k))
unfolding kinds ident bytes is_digit
ident_two k = every (λ k. two_digits (ident k)) tt k

-- so it is known by its number
same_number : (f : List ℕ) (k : Kind) → T (two_digits f) → same f (ident k) ≡ eqb (value f) (value (ident k))
same_number f k t =
    same_test (same f (ident k)) (eqb (value f) (value (ident k))) (λ s. yes_eqb (ap value (same_eq f (ident k) s)))
    (λ s. subst (λ g. T (same f g)) (same_two f (ident k) t (ident_two k) (eqb→eq (value f) (value (ident k)) s)) (same_refl f))

among_number : (f : List ℕ) (ks : List Kind) → T (two_digits f) → numbered_among ks (value f) ≡ kind_among ks f
unfolding numbered_among kind_among
among_number f [] t = refl
among_number f (k ∷ ks) t = rw (same_number f k t, among_number f ks t)

-- a run that is no two digits is no kind's
no_kind : (f : List ℕ) → (T (two_digits f) → ⊥) → (o : Option Kind) → kind_of scottish f ≡ o → none ≡ o
no_kind f n none e = refl
no_kind f n (some k) e = absurd (n (subst (λ g. T (two_digits g)) (sym (kind_out scottish f k e)) (ident_two k)))

-- one of another length
pub kind_length : (f : List ℕ) → (length f ≡ 2 → ⊥) → none ≡ kind_of scottish f
kind_length f n = no_kind f (λ t. n (eqb→eq (length f) 2 (and_l (eqb (length f) 2) (all is_digit f) t))) (kind_of scottish f) refl

-- one with another byte
pub kind_other : (f : List ℕ) (b : Bool) → b ≡ all is_digit f → b ≡ false → none ≡ kind_of scottish f
kind_other f b p q = no_kind f (λ t. rw (sym p ∙ q) at (and_r (eqb (length f) 2) (all is_digit f) t)) (kind_of scottish f) refl

-- two digits
pub kind_number : (f : List ℕ) (b : Bool) (n : ℕ) (o : Option Kind) → length f ≡ 2 → b ≡ all is_digit f → b ≡ true → n ≡ value f → o ≡ numbered_among kinds n → o ≡ kind_of scottish f
unfolding kind_of
kind_number f b n o l p q v e = e ∙ rw v (among_number f kinds (and_in (eqb (length f) 2) (all is_digit f) (yes_eqb l) (rw (sym p ∙ q) tt)))

pub ruleset identifiers = (rules, not-true, not-false, kind_length, kind_other, kind_number)

-- the bytes up to where the identifier ends are the identifier
pub kind_told : (t : List ℕ) (n : ℕ) (o : Option Kind) → n ≡ length (identifier t) → o ≡ kind_of scottish (take (n - 0) t) → o ≡ kind_of scottish (identifier t)
kind_told t n o e g = g ∙ rw (sub-zero, e, identifier_part t)

pub ruleset kindtold = (rules, kind_told)

-- ---- roles

-- held kinds are body lines
held_body : (k : HeldKind) → role (held_meant k) ≡ body_line
unfolding role
held_body Street = refl
held_body StreetXref = refl
held_body Blpu = refl
held_body AppXref = refl
held_body Lpi = refl

-- the role of a kind that code names
abbrev pub role_of : Named → Role
role_of Header = header_line
role_of (Held k) = body_line
role_of Metadata = metadata_line
role_of Trailer = trailer_line

-- in the arm of a kind, its role
pub role_of_lem : (k c : Named) → k ≡ c → role (kind_meant k) ≡ role_of c
role_of_lem k c e = rw e (go c)
  where
    go : (k : Named) → role (kind_meant k) ≡ role_of k
    go Header = unfold role in refl
    go (Held k) = held_body k
    go Metadata = unfold role in refl
    go Trailer = unfold role in refl

-- one that code names as held is held
pub role_held : (k : Named) (x : HeldKind) → k ≡ Held x → true ≡ is_held (role (kind_meant k))
unfolding is_held
role_held k x e = rw (role_of_lem k (Held x) e)

-- the others are not
pub role_not_held : (k : Named) → ((x : HeldKind) → k ≡ Held x → ⊥) → false ≡ is_held (role (kind_meant k))
unfolding is_held role
role_not_held Header n = refl
role_not_held (Held x) n = absurd (n x refl)
role_not_held Metadata n = refl
role_not_held Trailer n = refl

pub ruleset roles = (rules, role_held, role_not_held)
