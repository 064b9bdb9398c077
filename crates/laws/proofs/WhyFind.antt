-- Why find answers as it does: the held line that it hands back, or the test that refuses.
use Rattle.std.specs.Prelude.{◌≡◌, ◌⊎◌, List, [], ◌∷◌, ℕ}
use Rattle.std.proofs.Math.Path.{refl, subst}
use Rattle.std.proofs.Common.{sym, ap, ◌∙◌}
use Rattle.std.proofs.Math.Logic.{inl, inr}
use Rattle.std.proofs.Math.Option.{Option, none, some}
use Rattle.base.specs.Tests.{some≢none}
use Rattle.theory.specs.Decimal.{value}
use Rattle.theory.specs.Store.{get}
use Rattle.meaning.specs.Kinds.{Kind, ident, numbered_among}
use Rattle.meaning.specs.Format.{Format}
use Rattle.meaning.specs.Records.{Rec, keyed}
use Rattle.meaning.specs.Holding.{Held, sound, unsound, read_holding}
use Rattle.meaning.specs.Load.{held_numbers, check_holding}
use Rattle.meaning.specs.Enquiries.{first, refusal, part_of, held_at, held_part, find_in, find_kind, find}
use Rattle.laws.specs.Regular.{Regular}
use Rattle.laws.specs.SoundHolding.{held_is_sound}
use Rattle.laws.proofs.Checks.{held_only}
use Rattle.laws.specs.Find.{EnquiredIs, enquired_is, find_finds, finds_find}
use Rattle.laws.proofs.WhyLoad.{unsound_is}
use Rattle.laws.specs.WhyField.{Answers}
use Rattle.meaning.specs.Codes.{key_absent}
use Rattle.meaning.specs.Answers.{alone}
use Rattle.laws.specs.WhyFind.{FindAnswers, absent, found, not_asked, unsound_holding}

module _ (F : Format) where
  open F use {enquiries}

  held_or_11 : (old : List ℕ) (o : Option ℕ) → ((held_part old o).answer.code ≡ 0) ⊎ (held_part old o ≡ refusal (alone key_absent))
  unfolding held_part part_of
  held_or_11 old none = inr refl
  held_or_11 old (some i) = inl refl

  find_first : (old : List ℕ) (kind n : ℕ) → (find F old kind n).slice ≡ first
  unfolding find find_kind find_in held_part part_of refusal
  find_first old kind n = asked (numbered_among enquiries kind)
    where
      part : (o : Option ℕ) → (held_part old o).slice ≡ first
      part none = refl
      part (some i) = refl

      held : (q : List ℕ) (h : Held) → (find_in F old q h).slice ≡ first
      held q (unsound l) = refl
      held q (sound st) = part (held_at F q 0 st)

      asked : (o : Option Kind) → (find_kind F old n o).slice ≡ first
      asked none = refl
      asked (some k) = held (value (ident k) ∷ n ∷ []) (read_holding F old)

  find_15 : (old : List ℕ) (kind n : ℕ) → numbered_among enquiries kind ≡ none → Answers (find F old kind n) 15 0 0
  unfolding find find_kind refusal
  find_15 old kind n e = rw e (refl, refl, refl)

  find_14 : (old : List ℕ) (kind n : ℕ) (k : Kind) (l : ℕ) → numbered_among enquiries kind ≡ some k → read_holding F old ≡ unsound l → Answers (find F old kind n) 14 (check_holding F old).line 0
  unfolding find find_kind find_in refusal check_holding held_numbers
  find_14 old kind n k l e r = rw (e, r) (refl, refl, refl)

  -- find in a sound holding
  pub find_sound : (old : List ℕ) (kind n : ℕ) (k : Kind) (st : List Rec) → numbered_among enquiries kind ≡ some k → read_holding F old ≡ sound st
      → find F old kind n ≡ held_part old (held_at F (kind ∷ n ∷ []) 0 st)
  unfolding find find_kind find_in
  find_sound old kind n k st e r =
      let i : value (ident k) ≡ kind = subst (EnquiredIs kind) e (enquired_is enquiries kind) in
      rw (e, i, r)

  module _ (regular : Regular F) where
    -- and that is so of every find
    pub find_answers : (old : List ℕ) (kind n : ℕ) → FindAnswers F old kind n (find F old kind n)
    find_answers old kind n = asked (numbered_among enquiries kind) refl
      where
        none_held : (k : Kind) (st : List Rec) → numbered_among enquiries kind ≡ some k → read_holding F old ≡ sound st → get (keyed F) (kind ∷ n ∷ []) st ≡ none
            → ((find F old kind n).answer.code ≡ 0) ⊎ (find F old kind n ≡ refusal (alone key_absent)) → FindAnswers F old kind n (find F old kind n)
        none_held k st e r g (inl z) =
            let w = find_finds F regular old kind n z in
            let q = held_only F regular old w.st st w.held (held_is_sound F regular old st r) in
            absurd (some≢none (sym w.looks ∙ ap (get (keyed F) (kind ∷ n ∷ [])) q ∙ g))
        none_held k st e r g (inr z) = rw z (absent k st e (held_is_sound F regular old st r) g (unfold refusal in (refl, refl, refl)))

        looked : (k : Kind) (st : List Rec) → numbered_among enquiries kind ≡ some k → read_holding F old ≡ sound st → (o : Option Rec) → get (keyed F) (kind ∷ n ∷ []) st ≡ o
            → FindAnswers F old kind n (find F old kind n)
        looked k st e r none g =
            none_held k st e r g (subst (λ x. (x.answer.code ≡ 0) ⊎ (x ≡ refusal (alone key_absent))) (sym (find_sound old kind n k st e r)) (held_or_11 old (held_at F (kind ∷ n ∷ []) 0 st)))
        looked k st e r (some x) g =
            let a = finds_find F regular old k kind n st x e (held_is_sound F regular old st r) g in
            found k e (find_finds F regular old kind n (ap (λ t. t.code) a)) (find_first old kind n) (ap (λ t. t.code) a, ap (λ t. t.line) a, ap (λ t. t.field) a)

        holds : (k : Kind) → numbered_among enquiries kind ≡ some k → (h : Held) → read_holding F old ≡ h → FindAnswers F old kind n (find F old kind n)
        holds k e (sound st) r = looked k st e r (get (keyed F) (kind ∷ n ∷ []) st) refl
        holds k e (unsound l) r = unsound_holding k e (unsound_is F regular old l r) (find_14 old kind n k l e r)

        asked : (o : Option Kind) → numbered_among enquiries kind ≡ o → FindAnswers F old kind n (find F old kind n)
        asked none e = not_asked e (find_15 old kind n e)
        asked (some k) e = holds k e (read_holding F old) refl
