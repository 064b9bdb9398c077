-- Lines and fields, split and joined again: bytes are their lines, a line is its fields with commas between, and where either is cut.
use Rattle.std.specs.Prelude.{◌≡◌, refl, Bool, true, false, not, ◌&&◌, List, [], ◌∷◌, ◌++◌, ℕ, ◌<◌, T, eqb, length, drop}
use Rattle.std.proofs.Common.{sym, ap, ap₂, ◌∙◌, subst, append_assoc, arith, eqb→eq}
use Rattle.base.specs.Lists.{all, pick, up_to}
use Rattle.base.specs.Tests.{and_l, and_r, T_true, T_false}
use Rattle.meaning.specs.Lines.{plain, turned, is_sep, add_byte, fields_from, fields_of, quote_after, odd_quotes, after_field, Line, lines_of, ends_well, grow}
use Rattle.meaning.specs.Records.{content_of, joined}

-- ---- lines

-- a line that a CR LF ends
abbrev pub ends : List ℕ → Line
ends t = record { text = t; ended = true }

-- lines that each end in CR LF
abbrev pub ends_all : List (List ℕ) → List Line
ends_all [] = []
ends_all (t ∷ ts) = ends t ∷ ends_all ts

-- a line that ends well is its text and a CR LF
pub line_ends : (l : Line) → T (ends_well l) → l ≡ ends l.text
unfolding ends_well
line_ends l e = ap (λ x. record { text = l.text; ended = x }) (T_true l.ended (and_l l.ended _ e))

-- the bytes of lines
unfoldable pub unlines : List Line → List ℕ
unlines [] = []
unlines (l ∷ ls) = l.text ++ (pick l.ended (13 ∷ 10 ∷ []) [] ++ unlines ls)

grow_unlines : (x : ℕ) (ls : List Line) → unlines (grow x ls) ≡ x ∷ unlines ls
unfolding unlines grow
grow_unlines x [] = refl
grow_unlines x (l ∷ ls) = refl

-- the lines of some bytes are those bytes
pub lines_join : (b : List ℕ) → unlines (lines_of b) ≡ b
unfolding lines_of unlines
lines_join [] = refl
lines_join (x ∷ []) = grow_unlines x []
lines_join (x ∷ (y ∷ r)) = go (eqb x 13 && eqb y 10) refl (lines_join r) (lines_join (y ∷ r))
  where
    go : (c : Bool) → (eqb x 13 && eqb y 10) ≡ c → unlines (lines_of r) ≡ r → unlines (lines_of (y ∷ r)) ≡ y ∷ r
        → unlines (pick c (record { text = []; ended = true } ∷ lines_of r) (grow x (lines_of (y ∷ r)))) ≡ x ∷ (y ∷ r)
    go true e i j =
        let t : T (eqb x 13 && eqb y 10) = rw e tt in
        rw (eqb→eq x 13 (and_l (eqb x 13) (eqb y 10) t), eqb→eq y 10 (and_r (eqb x 13) (eqb y 10) t), i)
    go false e i j = grow_unlines x (lines_of (y ∷ r)) ∙ ap (λ l. x ∷ l) j

line_plain : (x y : ℕ) (r : List ℕ) → T (plain x) → lines_of (x ∷ (y ∷ r)) ≡ grow x (lines_of (y ∷ r))
unfolding lines_of plain
line_plain x y r t = rw (T_false (eqb x 13) (and_l (not (eqb x 13)) (not (eqb x 10)) t))

-- a plain text and a CR LF are a line
line_in : (t r : List ℕ) → T (all plain t) → lines_of (t ++ (13 ∷ 10 ∷ r)) ≡ ends t ∷ lines_of r
unfolding lines_of grow
line_in [] r p = refl
line_in (x ∷ []) r p = line_plain x 13 (10 ∷ r) (and_l (plain x) true p)
line_in (x ∷ (y ∷ t)) r p =
    line_plain x y (t ++ (13 ∷ 10 ∷ r)) (and_l (plain x) (all plain (y ∷ t)) p)
    ∙ ap (grow x) (line_in (y ∷ t) r (and_r (plain x) (all plain (y ∷ t)) p))

-- plain texts, joined, are split into the same lines
pub lines_in : (ts : List (List ℕ)) → T (all (all plain) ts) → lines_of (joined ts) ≡ ends_all ts
unfolding joined lines_of
lines_in [] p = refl
lines_in (t ∷ ts) p =
    line_in t (joined ts) (and_l (all plain t) (all (all plain) ts) p)
    ∙ ap (λ l. ends t ∷ l) (lines_in ts (and_r (all plain t) (all (all plain) ts) p))

-- lines after lines
pub joined_append : (a b : List (List ℕ)) → joined (a ++ b) ≡ joined a ++ joined b
unfolding joined
joined_append [] b = refl
joined_append (t ∷ a) b = ap (λ x. t ++ (13 ∷ (10 ∷ x))) (joined_append a b) ∙ sym (append_assoc t (13 ∷ (10 ∷ joined a)) (joined b))

-- past lines stand the lines after them
pub ends_past : (a b : List (List ℕ)) → drop (length a) (ends_all (a ++ b)) ≡ ends_all b
ends_past [] b = refl
ends_past (t ∷ a) b = ends_past a b

-- the bytes of lines that each end in CR LF are their texts, joined
pub unlines_ends : (ts : List (List ℕ)) → unlines (ends_all ts) ≡ joined ts
unfolding unlines joined
unlines_ends [] = refl
unlines_ends (t ∷ ts) = ap (λ l. t ++ (13 ∷ 10 ∷ l)) (unlines_ends ts)

-- ---- a field before a comma

-- neither a comma nor a quote
unfoldable pub quiet : ℕ → Bool
quiet x = not (eqb x 44) && not (eqb x 34)

-- what a quiet or quoted text before a comma does: it is the first field, leaves quoting as it was, and what follows is the rest
pub record Leads (f t : List ℕ) : Type 0 where
  pub cuts : fields_from false (f ++ (44 ∷ t)) ≡ f ∷ fields_from false t
  pub quotes : quote_after false (f ++ (44 ∷ t)) ≡ quote_after false t
  pub rests : after_field false (f ++ (44 ∷ t)) ≡ t

quiet_sep : (x : ℕ) → T (quiet x) → (is_sep false x ≡ false) × (turned false x ≡ false)
unfolding quiet is_sep turned
quiet_sep x q =
    (T_false (eqb x 44) (and_l (not (eqb x 44)) (not (eqb x 34)) q), rw (T_false (eqb x 34) (and_r (not (eqb x 44)) (not (eqb x 34)) q)))

-- one byte more in front, where c says that it is a separator and q is quoting after it
lead_step : (c q : Bool) (x : ℕ) (f t : List ℕ) → c ≡ false → q ≡ false → Leads f t
    → (add_byte c x (fields_from q (f ++ (44 ∷ t))) ≡ (x ∷ f) ∷ fields_from false t)
    × (quote_after q (f ++ (44 ∷ t)) ≡ quote_after false t)
    × (pick c (f ++ (44 ∷ t)) (after_field q (f ++ (44 ∷ t))) ≡ t)
unfolding add_byte
lead_step c q x f t e d i = rw (e, d) (rw i.cuts refl, i.quotes, i.rests)

-- every quiet text leads
pub leads : (f t : List ℕ) → T (all quiet f) → Leads f t
unfolding fields_from quote_after after_field turned is_sep add_byte
leads [] t p = record { cuts = refl; quotes = refl; rests = refl }
leads (x ∷ f) t p =
    let q = quiet_sep x (and_l (quiet x) (all quiet f) p) in
    let i = lead_step (is_sep false x) (turned false x) x f t q.0 q.1 (leads f t (and_r (quiet x) (all quiet f) p)) in
    record { cuts = i.0; quotes = i.1; rests = i.2 }

-- a line made of three such fields and a content
pub record Made (f1 f2 f3 c : List ℕ) : Type 0 where
  pub fields_m : fields_of (f1 ++ (44 ∷ (f2 ++ (44 ∷ (f3 ++ (44 ∷ c)))))) ≡ f1 ∷ f2 ∷ f3 ∷ fields_of c
  pub odd_m : odd_quotes (f1 ++ (44 ∷ (f2 ++ (44 ∷ (f3 ++ (44 ∷ c)))))) ≡ odd_quotes c
  pub content_m : content_of (f1 ++ (44 ∷ (f2 ++ (44 ∷ (f3 ++ (44 ∷ c)))))) ≡ c

-- it has these fields and that content
pub made : (f1 f2 f3 c : List ℕ) → ((t : List ℕ) → Leads f1 t) → ((t : List ℕ) → Leads f2 t) → ((t : List ℕ) → Leads f3 t) → Made f1 f2 f3 c
unfolding content_of fields_of odd_quotes
made f1 f2 f3 c a b d =
    let t3 = f3 ++ (44 ∷ c) in
    let t2 = f2 ++ (44 ∷ t3) in
    record {
      fields_m = (a t2).cuts ∙ ap (λ x. f1 ∷ x) ((b t3).cuts ∙ ap (λ x. f2 ∷ x) (d c).cuts);
      odd_m = (a t2).quotes ∙ (b t3).quotes ∙ (d c).quotes;
      content_m = ap (λ x. after_field false (after_field false x)) (a t2).rests ∙ ap (after_field false) (b t3).rests ∙ (d c).rests;
    }

-- ---- a line cut after its first field, and after its third

-- the first field and what stands after it, where there is a second
abbrev PartsAt : List ℕ → List ℕ → Bool → List (List ℕ) → Type 0
PartsAt l a e [] = ⊥
PartsAt l a e (f ∷ []) = Unit {0}
PartsAt l a e (f ∷ (g ∷ fs)) = (l ≡ f ++ (44 ∷ a)) × (fields_from false a ≡ g ∷ fs) × (e ≡ quote_after false a)

-- the same of a line where quoting is q
abbrev Parts : Bool → List ℕ → List (List ℕ) → Type 0
Parts q l fs = PartsAt l (after_field q l) (quote_after q l) fs

-- only a comma separates, and outside quotes
pub sep_is : (q : Bool) (x : ℕ) → is_sep q x ≡ true → (x ≡ 44) × (turned q x ≡ false)
unfolding is_sep turned
sep_is true x e = absurd (subst T (sym e) tt)
sep_is false x e = let h : x ≡ 44 = eqb→eq x 44 (subst T (sym e) tt) in (h, rw h)

-- one byte more in front of parts, where c says that it is a separator and u is quoting after it
part_step : (q u c : Bool) (x : ℕ) (r : List ℕ) → (c ≡ true → (x ≡ 44) × (u ≡ false)) → (fs : List (List ℕ)) → fields_from u r ≡ fs → Parts u r fs
    → (a : List ℕ) → pick c r (after_field u r) ≡ a → (e : Bool) → quote_after u r ≡ e
    → PartsAt (x ∷ r) a e (add_byte c x fs)
unfolding add_byte
part_step q u true x r s [] h ih a ea e ee = tt
part_step q u true x r s (g ∷ gs) h ih a ea e ee =
    let k = s refl in
    (ap₂ (λ y b. y ∷ b) k.0 ea, rw (← ea, ← k.1) h, rw (← ea, ← ee, k.1) refl)
part_step q u false x r s [] h ih a ea e ee = absurd ih
part_step q u false x r s (f ∷ []) h ih a ea e ee = tt
part_step q u false x r s (f ∷ (g ∷ gs)) h ih a ea e ee = (rw (← ea) (ap (λ l. x ∷ l) ih.0), rw (← ea) ih.1, rw (← ea, ← ee) ih.2)

parts : (q : Bool) (l : List ℕ) → Parts q l (fields_from q l)
unfolding fields_from after_field quote_after
parts q [] = tt
parts q (x ∷ r) = part_step q (turned q x) (is_sep q x) x r (sep_is q x) (fields_from (turned q x) r) refl (parts (turned q x) r) _ refl _ refl

-- a line cut after its third field: what follows is its content
pub record Cut (t f1 f2 f3 : List ℕ) : Type 0 where
  pub whole : t ≡ f1 ++ (44 ∷ (f2 ++ (44 ∷ (f3 ++ (44 ∷ content_of t)))))
  pub cut : fields_of t ≡ f1 ∷ f2 ∷ f3 ∷ fields_of (content_of t)
  pub odd : odd_quotes t ≡ odd_quotes (content_of t)

-- a line of four fields or more can be cut so
pub cut3 : (t f1 f2 f3 f4 : List ℕ) (fs : List (List ℕ)) → fields_of t ≡ f1 ∷ f2 ∷ f3 ∷ f4 ∷ fs → Cut t f1 f2 f3
unfolding content_of fields_of odd_quotes
cut3 t f1 f2 f3 f4 fs e =
    let t1 = after_field false t in
    let t2 = after_field false t1 in
    let p : Parts false t (f1 ∷ f2 ∷ f3 ∷ f4 ∷ fs) = subst (Parts false t) e (parts false t) in
    let q : Parts false t1 (f2 ∷ f3 ∷ f4 ∷ fs) = subst (Parts false t1) p.1 (parts false t1) in
    let r : Parts false t2 (f3 ∷ f4 ∷ fs) = subst (Parts false t2) q.1 (parts false t2) in
    record {
      whole = p.0 ∙ ap (λ x. f1 ++ (44 ∷ x)) (q.0 ∙ ap (λ x. f2 ++ (44 ∷ x)) r.0);
      cut = e ∙ ap (λ x. f1 ∷ f2 ∷ f3 ∷ x) (sym r.1);
      odd = p.2 ∙ q.2 ∙ r.2;
    }

-- with its three first fields known, the line is they and its content
pub cut_is : (t f1 f2 f3 a b c : List ℕ) → Cut t f1 f2 f3 → f1 ≡ a → f2 ≡ b → f3 ≡ c → t ≡ a ++ (44 ∷ (b ++ (44 ∷ (c ++ (44 ∷ content_of t)))))
cut_is t f1 f2 f3 a b c k p q r = rw (← p, ← q, ← r) k.whole

-- ---- the identifier and the first field

-- bytes with no comma before a comma are the identifier
pub cut_comma : (f t : List ℕ) → T (all quiet f) → up_to 44 (f ++ (44 ∷ t)) ≡ f
unfolding up_to quiet
cut_comma [] t q = refl
cut_comma (x ∷ f) t q =
    let n : eqb x 44 ≡ false = T_false (eqb x 44) (and_l (not (eqb x 44)) (not (eqb x 34)) (and_l (quiet x) (all quiet f) q)) in
    rw (n, cut_comma f t (and_r (quiet x) (all quiet f) q))

-- a is the first of the fields
abbrev pub Heads : List ℕ → List (List ℕ) → Type 0
Heads a [] = ⊥
Heads a (f ∷ fs) = f ≡ a

head_add : (x : ℕ) (a : List ℕ) (fs : List (List ℕ)) → Heads a fs → Heads (x ∷ a) (add_byte false x fs)
unfolding add_byte
head_add x a [] h = absurd h
head_add x a (f ∷ fs) h = ap (λ l. x ∷ l) h

head_step : (c u : Bool) (x : ℕ) (r : List ℕ) → (c ≡ false → u ≡ false) → (c ≡ false → Heads (up_to 44 r) (fields_from false r))
    → Heads (pick c [] (x ∷ up_to 44 r)) (add_byte c x (fields_from u r))
unfolding add_byte
head_step true u x r s h = refl
head_step false u x r s h = rw (s refl) (head_add x (up_to 44 r) (fields_from false r) (h refl))

-- no quote
unfoldable pub no_quote : ℕ → Bool
no_quote x = not (eqb x 34)

tail_quiet : (c : Bool) (x : ℕ) (r : List ℕ) → T (all no_quote (pick c [] (x ∷ up_to 44 r))) → c ≡ false → T (no_quote x) × T (all no_quote (up_to 44 r))
tail_quiet true x r p e = absurd (subst T e tt)
tail_quiet false x r p e = (and_l (no_quote x) _ p, and_r (no_quote x) _ p)

-- the identifier is the first field, where it has no quote
pub heads : (t : List ℕ) → T (all no_quote (up_to 44 t)) → Heads (up_to 44 t) (fields_from false t)
unfolding up_to fields_from is_sep turned no_quote
heads [] p = refl
heads (x ∷ r) p =
    let q = tail_quiet (eqb x 44) x r p in
    head_step (eqb x 44) (turned false x) x r (λ e. rw (T_false (eqb x 34) (q e).0)) (λ e. heads r (q e).1)

-- ---- a line is its fields and the commas between them

-- fields and the commas between them
unfoldable pub commas : List (List ℕ) → List ℕ
commas [] = []
commas (f ∷ []) = f
commas (f ∷ (g ∷ fs)) = f ++ (44 ∷ commas (g ∷ fs))

add_commas : (c : Bool) (x : ℕ) (r : List ℕ) → (c ≡ true → x ≡ 44) → (fs : List (List ℕ)) → 0 < length fs → commas fs ≡ r
    → (commas (add_byte c x fs) ≡ x ∷ r) × (0 < length (add_byte c x fs))
unfolding commas add_byte
add_commas true x r s [] h e = absurd (omega arith)
add_commas true x r s (f ∷ fs) h e = (ap₂ (λ a b. a ∷ b) (sym (s refl)) e, omega arith)
add_commas false x r s [] h e = absurd (omega arith)
add_commas false x r s (f ∷ []) h e = (ap (λ b. x ∷ b) e, omega arith)
add_commas false x r s (f ∷ (g ∷ fs)) h e = (ap (λ b. x ∷ b) e, omega arith)

-- joined again by commas, the fields are the line; and there is at least one
pub fields_commas : (q : Bool) (l : List ℕ) → (commas (fields_from q l) ≡ l) × (0 < length (fields_from q l))
unfolding fields_from commas
fields_commas q [] = (refl, omega arith)
fields_commas q (x ∷ r) =
    let i = fields_commas (turned q x) r in
    add_commas (is_sep q x) x r (λ e. (sep_is q x e).0) (fields_from (turned q x) r) i.1 i.0
