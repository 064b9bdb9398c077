-- The laws of one line of a holding: which way out of the tests is which answer, and that the answer is the meaning's.
use mathlib.Core.Path.{◌≡◌, refl, sym, ap, ◌∙◌}
use mathlib.Core.Bool.{Bool, true, false}
use mathlib.Core.Option.{Option, none, some}
use mathlib.Core.List.{List, [], ◌∷◌, ◌++◌, map}
use Prim.Native.Nat.{ℕ, ◌-◌}
use native.Mathlib.Nat.{sub-zero}
use borrow.Author.Rules.{rules}
use borrow.Author.Tests.{not-true, not-false}
use lib.ListN.{length, get_or, take, drop}
use Rattle.base.specs.Lists.{pick, ask, same, keep_if, bytes}
use Rattle.theory.specs.Decimal.{dec, width}
use Rattle.theory.specs.DecimalLaws.{length_dec}
use Rattle.theory.specs.Step.{ins}
use Rattle.meaning.specs.Lines.{Line, ends_well, fields_of, identifier}
use Rattle.meaning.specs.Kinds.{Kind, role}
use Rattle.meaning.specs.Format.{kind_of}
use Rattle.meaning.specs.Table.{fields, scottish}
use Rattle.meaning.specs.Answers as meant
use Rattle.meaning.specs.Answers.{of_line, of_field}
use Rattle.meaning.specs.Sound.{form_fault}
use Rattle.meaning.specs.Records.{content_of, letter}
use Rattle.meaning.specs.Holding.{is_held, is_sound, held_test, held_kind, held_line}
use Rattle.text.specs.Front.{in_front}
use Rattle.text.proofs.NumberLaws.{width_most}
use Rattle.std.specs.Prelude as std
use Rattle.std.specs.Prelude.{Some, None, Result, Ok, Err, is_ok}
use Rattle.std.specs.Bool.{then_some}
use Rattle.answers.specs.declared.refusal.Fault.{Fault}
use Rattle.answers.specs.Meant.{fault_found}
use Rattle.layout.specs.declared.kinds.Kind as code
use Rattle.layout.specs.Meant.{kind_meant, kind_found}
use Rattle.layout.specs.Rows.{bare}
use Rattle.layout.specs.Check.{lowest_bad, kind_dates, Parted}
use Rattle.layout.proofs.CheckLaws.{fault_is, early_there, early_room}
use Rattle.holding.specs.Held.{held_kind_as, held_as, record_as}
use Rattle.holding.proofs.RunningLaws.{order_digits}

-- ---- the line's own number

-- what was written is the number
pub number_told : (f d o : List ℕ) (n w : ℕ) (b : Bool) → w ≡ width n → d ≡ in_front (dec n) o → b ≡ same f (take (w - 0) d) → b ≡ same f (dec n)
unfolding in_front
number_told f d o n w b p q h = h ∙ rw (q, sub-zero, p, ← length_dec n) (ap (same f) (front (dec n) (drop (length (dec n)) o)))
  where
    front : (a r : List ℕ) → take (length a) (a ++ r) ≡ a
    front [] r = refl
    front (x ∷ a) r = ap (λ l. x ∷ l) (front a r)

pub ruleset numbers = (rules, width_most, number_told)

-- ---- the tests of a line

-- a line is sound where no fault is found
ok_sound : {T : Type 0} (r : Result T Fault) (o : Option meant.Fault) (b : Bool) → fault_found r ≡ o → b ≡ is_ok r → b ≡ is_sound o
unfolding is_sound
ok_sound (Ok u) o b e q = q ∙ rw (← e)
ok_sound (Err f) o b e q = q ∙ rw (← e)

module _ (n : ℕ) (k : Kind) (t : List ℕ) (x a : Bool) (p : a ≡ is_held (role k)) where
  -- a kind that is not held
  pub pass_kind : a ≡ false → x ≡ false → x ≡ held_test scottish n k t
  unfolding held_test
  pass_kind u y = y ∙ rw (sym p ∙ u)

  module _ (u : a ≡ true) (T : Type 0) (r : Result T Fault) (q : fault_found r ≡ form_fault scottish k t none) (b : Bool) (z : b ≡ is_ok r) where
    -- a line that is unsound
    pub pass_form : b ≡ false → x ≡ false → x ≡ held_test scottish n k t
    unfolding held_test
    pass_form v y = y ∙ rw (sym p ∙ u, sym (ok_sound r (form_fault scottish k t none) b q z) ∙ v)

    module _ (v : b ≡ true) (g : List ℕ) (r' : g ≡ get_or (fields_of t) 1 []) (c : Bool) (s : c ≡ same g (34 ∷ 73 ∷ 34 ∷ [])) where
      lettered : c ≡ same (get_or (fields_of t) 1 []) (letter ins)
      unfolding letter bytes
      lettered = rw (← r') s

      -- another CHANGE_TYPE
      pub pass_letter : c ≡ false → x ≡ false → x ≡ held_test scottish n k t
      unfolding held_test
      pass_letter w y = y ∙ rw (sym p ∙ u, sym (ok_sound r (form_fault scottish k t none) b q z) ∙ v, sym lettered ∙ w)

      -- else PRO_ORDER says it
      pub pass_number : c ≡ true → (e : List ℕ) → e ≡ get_or (fields_of t) 2 [] → x ≡ same e (dec n) → x ≡ held_test scottish n k t
      unfolding held_test
      pass_number w e i y = rw (sym p ∙ u, sym (ok_sound r (form_fault scottish k t none) b q z) ∙ v, sym lettered ∙ w, ← i) y

pub ruleset passing = (rules, pass_kind, pass_form, pass_letter, pass_number)

-- ---- the tests of a line that was passed

module _ (k : Kind) (t a : List ℕ) (u : Parted k t a) where
  -- where its dates agree it is sound
  sound_noted : none ≡ lowest_bad 1 (map bare (fields k)) (fields_of t) → kind_dates k (fields_of t) ≡ true → is_sound (form_fault scottish k t none) ≡ true
  unfolding ask is_sound
  sound_noted w z = rw (fault_is k t none, ← u.many, ← w, z)

  -- one that passes each test is held
  pub noted_held : none ≡ lowest_bad 1 (map bare (fields k)) (fields_of t) → (n : ℕ) (c : Bool) → c ≡ is_held (role k) → c ≡ true → (b : Bool) → b ≡ kind_dates k (fields_of t) → b ≡ true
      → (g : List ℕ) → g ≡ get_or (fields_of t) 1 [] → (d : Bool) → d ≡ same g (34 ∷ 73 ∷ 34 ∷ []) → d ≡ true
      → (f : List ℕ) → f ≡ get_or (fields_of t) 2 [] → (m : Bool) → (m ≡ true → same f (dec n) ≡ true) → m ≡ true → held_test scottish n k t ≡ true
  unfolding held_test letter bytes
  noted_held w n c p y b q z g r d s v f x m l i =
      let j : same (get_or (fields_of t) 1 []) (34 ∷ 73 ∷ 34 ∷ []) ≡ true = rw (← r) (sym s ∙ v) in
      rw (sym p ∙ y, sound_noted w (sym q ∙ z), j, ← x) (l i)

pub ruleset notes = (rules, not-true, not-false, early_there, early_room, order_digits, noted_held)

-- ---- a line

module _ (n : ℕ) (t : List ℕ) (b : Bool) (x : std.Option code.Kind) where
  -- one that does not end well
  pub held_open : b ≡ false → x ≡ None → kind_found x ≡ held_as n b t
  unfolding held_as
  held_open e z = rw (e, z)

  module _ (o : std.Option code.Kind) (p : kind_found o ≡ kind_of scottish (identifier t)) where
    -- one of no known kind
    pub held_unknown : o ≡ None → x ≡ None → kind_found x ≡ held_as n b t
    unfolding held_as held_kind_as
    held_unknown q z = rw (z, ← p, q) (go b)
      where
        go : (b : Bool) → ◌≡◌ {A = Option Kind} none (pick b none none)
        go true = refl
        go false = refl

    -- one that ends well is held where it passes
    pub held_ended : b ≡ true → (k : code.Kind) → o ≡ Some k → (d : Bool) → d ≡ held_test scottish n (kind_meant k) t → x ≡ then_some d k → kind_found x ≡ held_as n b t
    unfolding held_as held_kind_as
    held_ended e k q d i z = rw (e, ← p, q, z, ← i) (go d)
      where
        go : (c : Bool) → kind_found (then_some c k) ≡ keep_if c (kind_meant k)
        go true = unfold keep_if in refl
        go false = unfold keep_if in refl

pub ruleset holds = (rules, held_open, held_unknown, held_ended)

-- the record that the meaning has of a line is that of the kind that was found
pub held_is : (n : ℕ) (l : Line) (b : Bool) → b ≡ ends_well l → held_line scottish n l ≡ record_as l.text (held_as n b l.text)
unfolding held_line held_as
held_is n l b e = rw e (ending (ends_well l))
  where
    t : List ℕ
    t = l.text

    kept : (k : Kind) (c : Bool) → keep_if c (record { kind = k; content = content_of t }) ≡ record_as t (keep_if c k)
    kept k true = unfold keep_if record_as in refl
    kept k false = unfold keep_if record_as in refl

    known : (o : Option Kind) → held_kind scottish n t o ≡ record_as t (held_kind_as n t o)
    known none = unfold held_kind held_kind_as record_as in refl
    known (some k) = unfold held_kind held_kind_as in kept k (held_test scottish n k t)

    ending : (c : Bool) → pick c (held_kind scottish n t (kind_of scottish (identifier t))) none ≡ record_as t (pick c (held_kind_as n t (kind_of scottish (identifier t))) none)
    ending true = known (kind_of scottish (identifier t))
    ending false = unfold record_as in refl
