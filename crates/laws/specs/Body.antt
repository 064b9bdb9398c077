-- A sound body line is its head (identifier, CHANGE_TYPE, PRO_ORDER) and its content, and any CHANGE_TYPE and number before the same content is sound again.
-- This one law carries renumbering, the undo, and records kept byte for byte.
use Rattle.std.specs.Prelude.{◌≡◌, Bool, true, false, not, ◌&&◌, ℕ, ◌+◌, ◌<◌}
use Rattle.std.proofs.Math.Path.{refl, ap, subst}
use Rattle.std.proofs.Common.{sym, ◌∙◌, arith}
use Rattle.std.proofs.Math.Option.{Option, none, some}
use mathlib.Core.List.{List, [], ◌∷◌, ◌++◌}
use Rattle.std.proofs.Math.Dec.{T, eqb, eqb→eq}
use Rattle.std.proofs.Math.ListN.{length}
use Rattle.std.proofs.Math.Facts.{yes_eqb}
use Rattle.base.specs.ListLaws.{all_append, same_eq}
use Rattle.base.specs.Lists.{all, pick, ask, same, up_to, bytes, some?}
use Rattle.base.specs.Tests.{and_in, and_l, and_r, some≢none, ask_ok, ok_ask}
use Rattle.theory.specs.Decimal.{dec}
use Rattle.theory.specs.Step.{Change}
use Rattle.meaning.specs.Lines.{plain, fields_of, odd_quotes, has_fields, identifier}
use Rattle.meaning.specs.Forms.{number, has_form, is_empty, sound_as, is_number, is_digit, is_textual, change_type}
use Rattle.meaning.specs.Kinds.{Kind, kinds, ident, body_line, role, kind_among}
use Rattle.meaning.specs.Format.{Format, Field, opening, kind_of, knows, named, field_number, man}
use Rattle.meaning.specs.Sound.{sound_field, forms, field_fault, form_fault, if_malformed}
use Rattle.meaning.specs.Records.{Rec, content_of, own_fields, letter, change_text, change_of}
use Rattle.meaning.specs.Holding.{is_held, is_sound}
use Rattle.meaning.specs.Answers.{Fault, of_line}
use Rattle.meaning.specs.Codes.{field_count_wrong}
use Rattle.laws.specs.Kinds.{every, ident_only, held_role}
use Rattle.laws.specs.Regular.{holds, Regular}
use Rattle.laws.specs.LinesAndFields.{quiet, leads, Made, made, Cut, cut3, cut_comma, Heads, no_quote, heads}
use Rattle.laws.specs.ChangeAndOrder.{leads_letter, letter_plain, letter_sound, op_letter, leads_dec, dec_plain, dec_sound}
use Rattle.laws.specs.SoundLine.{SoundLine, forms_each, each_forms, form_sound, sound_form, field_rest, field_sound}

-- ---- the identifier

-- no identifier has a comma or a quote
pub ident_quiet : (k : Kind) → T (all quiet (ident k))
unfolding kinds ident bytes quiet
ident_quiet k = every (λ k. all quiet (ident k)) tt k

-- nor a CR or an LF
pub ident_plain : (k : Kind) → T (all plain (ident k))
unfolding kinds ident bytes plain
ident_plain k = every (λ k. all plain (ident k)) tt k

-- an identifier found is the kind's own
abbrev KindIs : List ℕ → Option Kind → Type 0
KindIs i none = Unit {0}
KindIs i (some k) = i ≡ ident k

kind_among_lem : (ks : List Kind) (i : List ℕ) → KindIs i (kind_among ks i)
unfolding kind_among
kind_among_lem [] i = tt
kind_among_lem (k ∷ ks) i = go (same i (ident k)) refl (kind_among_lem ks i)
  where
    go : (c : Bool) → same i (ident k) ≡ c → KindIs i (kind_among ks i) → KindIs i (pick c (some k) (kind_among ks i))
    go true e h = same_eq i (ident k) (rw e tt)
    go false e h = h

ident_loud : (k : Kind) → T (all no_quote (ident k))
unfolding kinds ident bytes no_quote
ident_loud k = every (λ k. all no_quote (ident k)) tt k

-- the first field of a line whose identifier is a kind's
pub first_field_lem : (t : List ℕ) (k : Kind) (f : List ℕ) (fs : List (List ℕ)) → identifier t ≡ ident k → fields_of t ≡ f ∷ fs → f ≡ ident k
unfolding identifier fields_of
first_field_lem t k f fs e d = subst (Heads (up_to 44 t)) d (heads t (rw e (ident_loud k))) ∙ e

-- ---- answers, and what stands behind a comma

-- a sound answer is no fault
pub sound_none : (o : Option Fault) → T (is_sound o) → o ≡ none
unfolding is_sound
sound_none none t = refl
sound_none (some f) t = absurd t

-- and no fault is a sound answer
pub none_sound : (o : Option Fault) → o ≡ none → T (is_sound o)
unfolding is_sound
none_sound none e = tt
none_sound (some f) e = absurd (some≢none e)

drop_plain : (f u : List ℕ) → T (all plain (f ++ (44 ∷ u))) → T (all plain u)
drop_plain [] u p = and_r (plain 44) (all plain u) p
drop_plain (x ∷ f) u p = drop_plain f u (and_r (plain x) _ p)

-- ---- the line of a change

-- the line of a change has its identifier, CHANGE_TYPE and number as fields, and then the content's
pub change_made : (n : ℕ) (c : Change Rec) → Made (ident c.rec.kind) (letter c.op) (dec n) c.rec.content
change_made n c =
    let k = c.rec.kind in
    made (ident k) (letter c.op) (dec n) c.rec.content (λ t. leads (ident k) t (ident_quiet k)) (leads_letter c.op) (leads_dec n)

-- the line of a change says that change
pub change_read : (n : ℕ) (c : Change Rec) → change_of c.rec.kind (change_text n c) ≡ c
unfolding change_of change_text
change_read n c = let m = change_made n c in rw (m.fields_m, m.content_m, op_letter c.op)

module _ (F : Format) where
  open F use {fields}

  -- ---- the identifiers that a format knows

  -- an identifier is a sound first field
  pub ident_sound : (k : Kind) → T (sound_field F (man "RECORD_IDENTIFIER" (number 2)) (ident k))
  unfolding kinds ident bytes sound_field sound_as is_empty has_form is_number is_digit is_textual same
  ident_sound k = every (λ k. sound_field F (man "RECORD_IDENTIFIER" (number 2)) (ident k)) tt k

  -- the bytes that are known as a kind's are that kind's identifier
  pub kind_out : (i : List ℕ) (k : Kind) → kind_of F i ≡ some k → i ≡ ident k
  unfolding kind_of
  kind_out i k e = subst (KindIs i) e (kind_among_lem F.known i)

  -- a known kind's identifier is known as that kind's
  pub kind_in : (k : Kind) → T (knows F k) → kind_of F (ident k) ≡ some k
  unfolding knows
  kind_in k t = go (kind_of F (ident k)) refl t
    where
      go : (o : Option Kind) → kind_of F (ident k) ≡ o → T (some? o) → kind_of F (ident k) ≡ some k
      go none e t = absurd t
      go (some j) e t = e ∙ ap some (sym (ident_only k j (kind_out (ident k) j e)))

  -- a kind that is found is known
  pub kind_known : (i : List ℕ) (k : Kind) → kind_of F i ≡ some k → T (knows F k)
  unfolding knows
  kind_known i k e = rw (ap (kind_of F) (sym (kind_out i k e)) ∙ e) tt

  -- a line that begins with a known identifier is of its kind
  pub ident_in : (k : Kind) (t : List ℕ) → T (knows F k) → kind_of F (identifier (ident k ++ (44 ∷ t))) ≡ some k
  unfolding identifier
  ident_in k t h = ap (kind_of F) (cut_comma (ident k) t (ident_quiet k)) ∙ kind_in k h

  -- ---- the content by itself

  -- what is wrong with a content: 4, 5, 6, with the field's number in its line
  unfoldable pub content_fault : Kind → List ℕ → Option Fault
  content_fault k c = ask (has_fields (length (own_fields F k)) c) (of_line field_count_wrong) (field_fault F 4 (own_fields F k) (fields_of c) none)

  -- a record that may stand in a holding or in a file
  unfoldable pub fine : Rec → Bool
  fine r = holds F r.kind && (all plain r.content && is_sound (content_fault r.kind r.content))

  -- a fine record's kind is held
  pub fine_holds : (r : Rec) → T (fine r) → T (holds F r.kind)
  unfolding fine
  fine_holds r f = and_l (holds F r.kind) _ f

  -- and known
  pub fine_known : (r : Rec) → T (fine r) → T (knows F r.kind)
  unfolding holds
  fine_known r f = and_l (knows F r.kind) (is_held (role r.kind)) (fine_holds r f)

  -- and a body line
  pub fine_body : (r : Rec) → T (fine r) → role r.kind ≡ body_line
  unfolding holds
  fine_body r f = held_role (role r.kind) (and_r (knows F r.kind) (is_held (role r.kind)) (fine_holds r f))

  -- the fields of a line are the three first and those of the content
  fault_split : (own : List Field) (f1 f2 f3 : List ℕ) (fs : List (List ℕ)) (rest : Option Fault)
      → field_fault F 1 (opening ++ own) (f1 ∷ f2 ∷ f3 ∷ fs) rest
      ≡ if_malformed F 1 (man "RECORD_IDENTIFIER" (number 2)) f1 (if_malformed F 2 (man "CHANGE_TYPE" change_type) f2 (if_malformed F 3 (man "PRO_ORDER" (number 16)) f3 (field_fault F 4 own fs rest)))
  unfolding field_fault forms named field_number
  fault_split own f1 f2 f3 fs rest = refl

  -- where the fields are sound, what is left is the rest
  fault_rest : (n : ℕ) (ds : List Field) (fs : List (List ℕ)) (x : Option Fault) → field_fault F n ds fs x ≡ none → (x ≡ none) × ((y : Option Fault) → field_fault F n ds fs y ≡ y)
  unfolding field_fault
  fault_rest n ds fs x e =
      let i = forms_each F n ds fs _ e in
      let a = ok_ask _ _ x i.1 in
      (a.1, λ y. each_forms F n ds fs _ i.0 ∙ ask_ok _ _ y a.0)

  -- a line of a held kind, cut after its third field: its content has no fault, and what is asked after the form finds none
  pub record BodyLine (k : Kind) (t : List ℕ) (rest : Option Fault) : Type 0 where
    pub f1 : List ℕ
    pub f2 : List ℕ
    pub f3 : List ℕ
    pub cuts : Cut t f1 f2 f3
    pub left : rest ≡ none
    pub content : content_fault k (content_of t) ≡ none

  -- the line of a change to a fine record is plain
  pub plain_change : (n : ℕ) (c : Change Rec) → T (fine c.rec) → T (all plain (change_text n c))
  unfolding change_text fine plain
  plain_change n c f =
      let p : T (all plain c.rec.content) = and_l (all plain c.rec.content) _ (and_r (holds F c.rec.kind) _ f) in
      all_append plain (ident c.rec.kind) _ (ident_plain c.rec.kind)
      (all_append plain (letter c.op) _ (letter_plain c.op) (all_append plain (dec n) (44 ∷ c.rec.content) (dec_plain n) p))

  module _ (regular : Regular F) where
    open regular use {opens, own_some}

    -- ---- the law, one way: what a sound body line is made of

    -- a line of a held kind without fault is cut so
    pub body_out : (k : Kind) (t : List ℕ) (rest : Option Fault) → T (holds F k) → form_fault F k t rest ≡ none → BodyLine k t rest
    unfolding form_fault has_fields content_fault
    body_out k t rest h e =
        let a = ok_ask (not (odd_quotes t) && eqb (length (fields_of t)) (length (fields k))) (of_line field_count_wrong) (field_fault F 1 (fields k) (fields_of t) rest) e in
        let o : T (not (odd_quotes t)) = and_l (not (odd_quotes t)) _ a.0 in
        let m : length (fields_of t) ≡ length (fields k) = eqb→eq _ _ (and_r (not (odd_quotes t)) _ a.0) in
        let l : length (fields_of t) ≡ 3 + length (own_fields F k) = m ∙ rw (opens k h) (omega arith) in
        go (fields_of t) refl o l (subst (λ x. field_fault F 1 x (fields_of t) rest ≡ none) (opens k h) a.1)
      where
        main : (f1 f2 f3 : List ℕ) → Cut t f1 f2 f3 → T (not (odd_quotes t)) → length (fields_of t) ≡ 3 + length (own_fields F k)
            → field_fault F 1 (opening ++ own_fields F k) (fields_of t) rest ≡ none → BodyLine k t rest
        main f1 f2 f3 c o l g =
            let u = content_of t in
            let g2 : field_fault F 1 (opening ++ own_fields F k) (f1 ∷ f2 ∷ f3 ∷ fields_of u) rest ≡ none = subst (λ x. field_fault F 1 (opening ++ own_fields F k) x rest ≡ none) c.cut g in
            let a1 = field_sound F 1 _ f1 _ (sym (fault_split (own_fields F k) f1 f2 f3 (fields_of u) rest) ∙ g2) in
            let a2 = field_sound F 2 _ f2 _ a1.1 in
            let a3 = field_sound F 3 _ f3 _ a2.1 in
            let r = fault_rest 4 (own_fields F k) (fields_of u) rest a3.1 in
            let o2 : T (not (odd_quotes u)) = subst (λ b. T (not b)) c.odd o in
            let l2 : length (fields_of u) ≡ length (own_fields F k) = omega (arith, l, ap length c.cut) in
            let hf : T (has_fields (length (own_fields F k)) u) = and_in (not (odd_quotes u)) _ o2 (yes_eqb l2) in
            record {
              f1 = f1;
              f2 = f2;
              f3 = f3;
              cuts = c;
              left = r.0;
              content = ask_ok (has_fields (length (own_fields F k)) u) (of_line field_count_wrong) (field_fault F 4 (own_fields F k) (fields_of u) none) hf ∙ r.1 none;
            }

        go : (fs : List (List ℕ)) → fields_of t ≡ fs → T (not (odd_quotes t)) → length (fields_of t) ≡ 3 + length (own_fields F k)
            → field_fault F 1 (opening ++ own_fields F k) (fields_of t) rest ≡ none → BodyLine k t rest
        go [] d o l g = absurd (omega (arith, l, ap length d))
        go (a ∷ []) d o l g = absurd (omega (arith, l, ap length d))
        go (a ∷ (b ∷ [])) d o l g = absurd (omega (arith, l, ap length d))
        go (a ∷ (b ∷ (c ∷ []))) d o l g = absurd (omega (arith, l, ap length d, own_some k h))
        go (a ∷ (b ∷ (c ∷ (x ∷ fs)))) d o l g = main a b c (cut3 t a b c x fs d) o l g

    -- so the record of a plain line of a held kind without fault is fine
    pub content_fine : (k : Kind) (t : List ℕ) (rest : Option Fault) → T (holds F k) → T (all plain t) → form_fault F k t rest ≡ none
        → T (fine (record { kind = k; content = content_of t }))
    unfolding fine
    content_fine k t rest h p e =
        let b = body_out k t rest h e in
        let u = content_of t in
        let q : T (all plain u) = drop_plain b.f3 u (drop_plain b.f2 _ (drop_plain b.f1 _ (subst (λ x. T (all plain x)) b.cuts.whole p))) in
        and_in (holds F k) _ h (and_in (all plain u) _ q (none_sound (content_fault k u) b.content))

    -- ---- the law, the other way: any CHANGE_TYPE and number before a sound content

    -- the line of a change to a fine record has no fault of form: what is asked afterwards decides
    pub body_in : (n : ℕ) (c : Change Rec) (rest : Option Fault) → n < 10000 → T (fine c.rec) → form_fault F c.rec.kind (change_text n c) rest ≡ rest
    unfolding form_fault change_text has_fields fine content_fault
    body_in n c rest h f =
        let k = c.rec.kind in
        let u = c.rec.content in
        let m = change_made n c in
        let held : T (holds F k) = and_l (holds F k) _ f in
        let q : content_fault k u ≡ none = sound_none (content_fault k u) (and_r (all plain u) _ (and_r (holds F k) _ f)) in
        let a = ok_ask (has_fields (length (own_fields F k)) u) (of_line field_count_wrong) (field_fault F 4 (own_fields F k) (fields_of u) none) q in
        let o : T (not (odd_quotes u)) = and_l (not (odd_quotes u)) _ a.0 in
        let l : length (fields_of u) ≡ length (own_fields F k) = eqb→eq _ _ (and_r (not (odd_quotes u)) _ a.0) in
        let l2 : length (ident k ∷ letter c.op ∷ dec n ∷ fields_of u) ≡ length (opening ++ own_fields F k) = omega (arith, l) in
        rw (m.fields_m, m.odd_m, opens k held)
        (ask_ok _ (of_line field_count_wrong) _ (and_in (not (odd_quotes u)) _ o (yes_eqb l2))
        ∙ fault_split (own_fields F k) (ident k) (letter c.op) (dec n) (fields_of u) rest
        ∙ field_rest F 1 _ (ident k) _ (ident_sound k)
        ∙ field_rest F 2 _ (letter c.op) _ (letter_sound F c.op)
        ∙ field_rest F 3 _ (dec n) _ (dec_sound F n h)
        ∙ (fault_rest 4 (own_fields F k) (fields_of u) none a.1).1 rest)

    -- ---- the same in the words of a sound line

    -- the line of a change to a fine record is sound
    pub fine_line : (n : ℕ) (c : Change Rec) → n < 10000 → T (fine c.rec) → SoundLine F c.rec.kind (change_text n c)
    unfolding change_text
    fine_line n c h f =
        let k = c.rec.kind in
        (form_sound F k (change_text n c) none (plain_change n c f) (ident_in k _ (fine_known c.rec f)) (body_in n c none h f)).0

    -- and the record of a sound body line is fine
    pub line_fine : (k : Kind) (t : List ℕ) → role k ≡ body_line → SoundLine F k t → T (fine (record { kind = k; content = content_of t }))
    unfolding is_held holds
    line_fine k t r s = content_fine k t none (and_in (knows F k) (is_held (role k)) (kind_known (identifier t) k s.identified) (rw r tt)) s.plains (sound_form F k t none s)
