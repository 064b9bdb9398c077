-- Find, exactly: it answers 0 just where a sound holding has a record of that kind and number, and hands back that record's held line.
use Rattle.std.specs.Prelude.{◌≡◌, Bool, not, T, eqb, length, get_or, take, drop}
use Rattle.std.proofs.Math.Path.{refl, ap, subst}
use Rattle.std.proofs.Common.{sym, ◌∙◌, add-zero, one-add, eqb→eq}
use Rattle.std.proofs.Math.Bool.{true, false}
use Rattle.std.proofs.Math.Option.{Option, none, some, some-injective}
use mathlib.Core.List.{List, [], ◌∷◌, ◌++◌}
use Prim.Native.Nat.{ℕ, suc, ◌+◌, ◌<◌}
use native.Mathlib.Omega.{arith}
use Rattle.base.specs.ListLaws.{same_refl, same_eq}
use Rattle.base.specs.Lists.{all, pick, same}
use Rattle.base.specs.Tests.{and_in, and_l, and_r, some≢none, T_false}
use Rattle.theory.specs.Tri.{Tri, lt, eq, gt, flip}
use Rattle.theory.specs.Lex.{lex}
use Rattle.theory.specs.Decimal.{value}
use Rattle.theory.specs.Store.{get, Asc, Low, gets}
use Rattle.theory.specs.Run.{as_inserts}
use Rattle.theory.specs.LexLaws.{lex_order}
use Rattle.theory.proofs.StoreLaws.{low_down}
use Rattle.meaning.specs.Lines.{lines_of}
use Rattle.meaning.specs.Kinds.{Kind, ident, numbered_among}
use Rattle.meaning.specs.Format.{Format}
use Rattle.meaning.specs.Records.{Rec, change_text, keyed, change_texts, key_of}
use Rattle.meaning.specs.Holding.{Held, sound, unsound, read_holding}
use Rattle.meaning.specs.Enquiries.{Found, first, refusal, part_of, held_at, held_part, find_in, find_kind, find}
use Rattle.meaning.specs.Answers.{no_fault}
use Rattle.laws.specs.Regular.{Regular}
use Rattle.laws.specs.LinesAndFields.{ends, ends_all}
use Rattle.laws.specs.HoldingReadBack.{insert_of}
use Rattle.laws.specs.SoundHolding.{SoundHolding, sound_held, held_is_sound}
use Rattle.laws.specs.LinePart.{no_line, part_is}

line_at : (n : ℕ) (pre : List Rec) (r : Rec) (post : List Rec)
    → get_or (ends_all (change_texts n (as_inserts (pre ++ (r ∷ post))))) (length pre) no_line ≡ ends (change_text (n + length pre) (insert_of r))
unfolding change_texts
line_at n [] r post = rw (add-zero n)
line_at n (x ∷ pre) r post = line_at (suc n) pre r post ∙ ap (λ m. ends (change_text m (insert_of r))) (shift n (length pre))
  where
    shift : (n m : ℕ) → suc n + m ≡ n + suc m
    shift n m = omega arith

line_there : (n : ℕ) (pre : List Rec) (r : Rec) (post : List Rec) → length pre < length (ends_all (change_texts n (as_inserts (pre ++ (r ∷ post)))))
unfolding change_texts
line_there n [] r post = omega arith
line_there n (x ∷ pre) r post = omega (arith, line_there (suc n) pre r post)

-- the kind that an enquiry's number names has that identifier
abbrev pub EnquiredIs : ℕ → Option Kind → Type 0
EnquiredIs n none = Unit {0}
EnquiredIs n (some k) = value (ident k) ≡ n

-- and that is so of every number
pub enquired_is : (ks : List Kind) (n : ℕ) → EnquiredIs n (numbered_among ks n)
unfolding numbered_among
enquired_is [] n = tt
enquired_is (k ∷ ks) n = go (eqb n (value (ident k))) refl (enquired_is ks n)
  where
    go : (c : Bool) → eqb n (value (ident k)) ≡ c → EnquiredIs n (numbered_among ks n) → EnquiredIs n (pick c (some k) (numbered_among ks n))
    go true e i = sym (eqb→eq n (value (ident k)) (rw e tt))
    go false e i = i

module _ (F : Format) where
  open F use {enquiries}

  -- ---- where a key stands among records

  -- nowhere, or at a record with that key
  abbrev StandsAt : List ℕ → ℕ → List Rec → Option ℕ → Type 0
  StandsAt q i st none = T (all (λ r. not (same q (key_of F r))) st)
  StandsAt q i st (some j) = (pre : List Rec) × (r : Rec) × (post : List Rec) × (st ≡ pre ++ (r ∷ post)) × (j ≡ i + length pre) × (q ≡ key_of F r)

  stands_cons : (q : List ℕ) (i : ℕ) (x : Rec) (st : List Rec) → T (not (same q (key_of F x))) → (o : Option ℕ) → StandsAt q (suc i) st o → StandsAt q i (x ∷ st) o
  stands_cons q i x st n none s = and_in (not (same q (key_of F x))) _ n s
  stands_cons q i x st n (some j) s = (x ∷ s.0, s.1, s.2, ap (λ l. x ∷ l) s.3, omega (arith, s.4), s.5)

  stands : (q : List ℕ) (i : ℕ) (st : List Rec) → StandsAt q i st (held_at F q i st)
  unfolding held_at
  stands q i [] = tt
  stands q i (r ∷ rs) = go (same q (key_of F r)) refl (stands q (suc i) rs)
    where
      go : (c : Bool) → same q (key_of F r) ≡ c → StandsAt q (suc i) rs (held_at F q (suc i) rs) → StandsAt q i (r ∷ rs) (pick c (some i) (held_at F q (suc i) rs))
      go true e h = ([], r, rs, refl, omega arith, same_eq q (key_of F r) (rw e tt))
      go false e h = stands_cons q i r rs (rw e tt) (held_at F q (suc i) rs) h

  get_absent : (q : List ℕ) (st : List Rec) → T (all (λ r. not (same q (key_of F r))) st) → get (keyed F) q st ≡ none
  unfolding get
  get_absent q [] t = refl
  get_absent q (r ∷ rs) t = go (lex q (key_of F r)) refl (get_absent q rs (and_r (not (same q (key_of F r))) _ t))
    where
      differs : same q (key_of F r) ≡ false
      differs = T_false (same q (key_of F r)) (and_l (not (same q (key_of F r))) _ t)

      go : (c : Tri) → lex q (key_of F r) ≡ c → get (keyed F) q rs ≡ none → gets (keyed F) c r (get (keyed F) q rs) ≡ none
      go lt e i = refl
      go eq e i = absurd (subst T differs (subst (λ x. T (same q x)) (lex_order.equal q (key_of F r) e) (same_refl q)))
      go gt e i = i

  low_all : (k : List ℕ) (pre : List Rec) (r : Rec) (post : List Rec) → Low (keyed F) k (pre ++ (r ∷ post)) → Asc (keyed F) (pre ++ (r ∷ post)) → lex k (key_of F r) ≡ lt
  low_all k [] r post l a = l
  low_all k (x ∷ pre) r post l a = low_all k pre r post (low_down (keyed F) k (key_of F x) (pre ++ (r ∷ post)) l a.0) a.1

  get_there : (pre : List Rec) (r : Rec) (post : List Rec) → Asc (keyed F) (pre ++ (r ∷ post)) → get (keyed F) (key_of F r) (pre ++ (r ∷ post)) ≡ some r
  unfolding get
  get_there [] r post a = rw (lex_order.same (key_of F r))
  get_there (x ∷ pre) r post a =
      let t : lex (key_of F r) (key_of F x) ≡ gt = lex_order.turn (key_of F x) (key_of F r) ∙ ap flip (low_all (key_of F x) pre r post a.0 a.1) in
      rw t (get_there pre r post a.1)

  -- the place that is found for a key is that of the record that stands at the key
  abbrev Looks : List ℕ → List Rec → Option ℕ → Type 0
  Looks q st none = get (keyed F) q st ≡ none
  Looks q st (some i) = (pre : List Rec) × (r : Rec) × (post : List Rec) × (st ≡ pre ++ (r ∷ post)) × (i ≡ length pre) × (get (keyed F) q st ≡ some r)

  held_looks : (q : List ℕ) (st : List Rec) → Asc (keyed F) st → Looks q st (held_at F q 0 st)
  held_looks q st a = go (held_at F q 0 st) (stands q 0 st)
    where
      go : (o : Option ℕ) → StandsAt q 0 st o → Looks q st o
      go none s = get_absent q st s
      go (some i) s =
          (s.0, s.1, s.2, s.3, omega (arith, s.4), rw (s.5, s.3) (get_there s.0 s.1 s.2 (subst (Asc (keyed F)) s.3 a)))

  -- ---- the bytes at a record's place are its held line

  place_line : (old : List ℕ) (st pre : List Rec) (r : Rec) (post : List Rec) (i : ℕ) → SoundHolding F old st → st ≡ pre ++ (r ∷ post) → i ≡ length pre
      → take (part_of first (lines_of old) i).size (drop (part_of first (lines_of old) i).start old) ≡ change_text (suc i) (insert_of r)
  place_line old st pre r post i h e d =
      let ls = lines_of old in
      let l : ls ≡ ends_all (change_texts 1 (as_inserts (pre ++ (r ∷ post)))) = h.lines ∙ ap (λ x. ends_all (change_texts 1 (as_inserts x))) e in
      let t : length pre < length ls = subst (λ x. length pre < length x) (sym l) (line_there 1 pre r post) in
      let a : get_or ls (length pre) no_line ≡ ends (change_text (1 + length pre) (insert_of r)) = ap (λ x. get_or x (length pre) no_line) l ∙ line_at 1 pre r post in
      rw d (part_is first old (length pre) t ∙ ap (λ x. x.text) a ∙ ap (λ m. change_text m (insert_of r)) (one-add (length pre)))

  -- a record that stands at a key has a line of the holding: the record's content, numbered as that line
  pub record_line : (b : List ℕ) (st : List Rec) (k : List ℕ) (r : Rec) → SoundHolding F b st → get (keyed F) k st ≡ some r
      → (i : ℕ) × (get_or (lines_of b) i no_line ≡ ends (change_text (suc i) (insert_of r)))
  record_line b st k r h g = go (held_at F k 0 st) (held_looks k st h.ascending)
    where
      go : (o : Option ℕ) → Looks k st o → (i : ℕ) × (get_or (lines_of b) i no_line ≡ ends (change_text (suc i) (insert_of r)))
      go none l = absurd (some≢none (sym g ∙ l))
      go (some i) l =
          let e : l.1 ≡ r = some-injective l.1 r (sym l.5 ∙ g) in
          let a = h.lines ∙ ap (λ x. ends_all (change_texts 1 (as_inserts x))) l.3 in (
            length l.0,
            ap (λ x. get_or x (length l.0) no_line) a
                ∙ line_at 1 l.0 l.1 l.2
                ∙ ap (λ m. ends (change_text m (insert_of l.1))) (one-add (length l.0))
                ∙ ap (λ x. ends (change_text (suc (length l.0)) (insert_of x))) e,
          )

  -- ---- find

  -- what find says of a sound holding: no record has the key; or the part handed back is the held line of the record that has it, without CR LF
  abbrev pub FindSays : List ℕ → List ℕ → List Rec → Option ℕ → Type 0
  FindSays old q st none = T (all (λ r. not (same q (key_of F r))) st)
  FindSays old q st (some i) =
      (r : Rec)
      × (q ≡ key_of F r)
      × (take (held_part old (some i)).size (drop (held_part old (some i)).start old) ≡ change_text (suc i) (insert_of r))
      × ((held_part old (some i)).answer ≡ no_fault)

  -- and that is so of every key
  pub find_says : (old q : List ℕ) (st : List Rec) → SoundHolding F old st → FindSays old q st (held_at F q 0 st)
  unfolding held_part
  find_says old q st h = go (held_at F q 0 st) (stands q 0 st)
    where
      go : (o : Option ℕ) → StandsAt q 0 st o → FindSays old q st o
      go none s = s
      go (some i) s = (s.1, s.5, place_line old st s.0 s.1 s.2 i h s.3 (omega (arith, s.4)), unfold part_of in refl)

  -- a record of that kind and number is held, and f hands back its line
  pub record FoundIt (old : List ℕ) (kind n : ℕ) (f : Found) : Type 0 where
    pub st : List Rec
    pub rec : Rec
    pub number : ℕ
    pub held : SoundHolding F old st
    pub looks : get (keyed F) (kind ∷ n ∷ []) st ≡ some rec
    pub bytes : take f.size (drop f.start old) ≡ change_text number (insert_of rec)

  module _ (regular : Regular F) where
    -- where find answers 0 such a record is held, and its line is handed back
    pub find_finds : (old : List ℕ) (kind n : ℕ) → (find F old kind n).answer.code ≡ 0 → FoundIt old kind n (find F old kind n)
    unfolding find find_kind find_in held_part refusal
    find_finds old kind n e = asked (numbered_among enquiries kind) (enquired_is enquiries kind) e
      where
        looked : (q : List ℕ) (st : List Rec) → q ≡ kind ∷ n ∷ [] → SoundHolding F old st → (o : Option ℕ) → Looks q st o → (held_part old o).answer.code ≡ 0
            → FoundIt old kind n (held_part old o)
        looked q st d h none l e = absurd (omega (arith, e))
        looked q st d h (some i) l e = record {
          st = st;
          rec = l.1;
          number = suc i;
          held = h;
          looks = subst (λ x. get (keyed F) x st ≡ some l.1) d l.5;
          bytes = place_line old st l.0 l.1 l.2 i h l.3 l.4;
        }

        held : (q : List ℕ) → q ≡ kind ∷ n ∷ [] → (h : Held) → read_holding F old ≡ h → (find_in F old q h).answer.code ≡ 0 → FoundIt old kind n (find_in F old q h)
        held q d (unsound m) r e = absurd (omega (arith, e))
        held q d (sound st) r e = let s = held_is_sound F regular old st r in looked q st d s (held_at F q 0 st) (held_looks q st s.ascending) e

        asked : (o : Option Kind) → EnquiredIs kind o → (find_kind F old n o).answer.code ≡ 0 → FoundIt old kind n (find_kind F old n o)
        asked none i e = absurd (omega (arith, e))
        asked (some k) i e = held (value (ident k) ∷ n ∷ []) (ap (λ x. x ∷ n ∷ []) i) (read_holding F old) refl e

    -- and where such a record is held, it is found
    pub finds_find : (old : List ℕ) (k : Kind) (kind n : ℕ) (st : List Rec) (r : Rec) → numbered_among enquiries kind ≡ some k → SoundHolding F old st
        → get (keyed F) (kind ∷ n ∷ []) st ≡ some r → (find F old kind n).answer ≡ no_fault
    unfolding find find_kind find_in
    finds_find old k kind n st r e h g =
        let i : value (ident k) ≡ kind = subst (EnquiredIs kind) e (enquired_is enquiries kind) in
        rw (e, i, sound_held F regular old st h) (go (held_at F (kind ∷ n ∷ []) 0 st) (held_looks (kind ∷ n ∷ []) st h.ascending))
      where
        go : (o : Option ℕ) → Looks (kind ∷ n ∷ []) st o → (held_part old o).answer ≡ no_fault
        go none l = absurd (some≢none (sym g ∙ l))
        go (some j) l = unfold held_part part_of in refl
