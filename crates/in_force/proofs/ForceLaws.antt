-- The laws of the record in force: what the lines of a sound file say of a key is what its last body line of that key says.
use mathlib.Core.Path.{◌≡◌, refl, sym, ap, ◌∙◌, subst}
use mathlib.Core.Bool.{Bool, true, false}
use mathlib.Core.Option.{Option, none, some}
use mathlib.Core.List.{List, [], ◌∷◌, ◌++◌}
use Prim.Native.Nat.{ℕ, suc, ◌+◌, ◌-◌, ◌≤◌, ◌<◌}
use native.Mathlib.Omega.{arith}
use borrow.Author.Rules.{rules}
use Rattle.std.specs.Prelude.{Result, Ok, Err, MatchResult, IsErrAnd}
use lib.Dec.{T}
use lib.ListN.{length, get_or}
use Rattle.base.specs.Lists.{pick, all, same}
use Rattle.base.specs.Tests.{and_l, and_r}
use Rattle.theory.specs.Tri.{Tri, lt, eq, gt, is_eq}
use Rattle.theory.specs.Lex.{lex}
use Rattle.theory.specs.LexLaws.{lex_order}
use Rattle.theory.specs.Decimal.{value}
use Rattle.theory.specs.Step.{Op, ins, upd, del, Change}
use Rattle.theory.specs.Answer.{fault, file}
use Rattle.meaning.specs.Lines.{Line, lines_of, fields_of}
use Rattle.meaning.specs.Kinds.{ident, Role, header_line, body_line, metadata_line, trailer_line, role, numbered_among}
use Rattle.meaning.specs.Table.{enquiries, scottish}
use Rattle.meaning.specs.Records.{Rec, op_of, change_of, key_of}
use Rattle.meaning.specs.Holding.{read_holding}
use Rattle.meaning.specs.File.{Sheet, Frame, read_file}
use Rattle.meaning.specs.Load.{checked, check_file}
use Rattle.meaning.specs.Enquiries.{Found, first, second, refusal, part_of, held_at, held_part, last_naming, unless_deleted, in_force_part, in_force_file, in_force_held, in_force_kind, in_force}
use Rattle.meaning.specs.Answers.{Read, Three, of_line, at_line, alone, refused_with, taken_with}
use Rattle.laws.specs.LinesAndFields.{ends_all}
use Rattle.laws.specs.SoundFile.{RoleLine, SaysChange, SaysChanges, SoundFile}
use Rattle.laws.proofs.SoundFile.{sound_read}
use Rattle.laws.specs.FileReadBack.{fine_c}
use Rattle.laws.proofs.FileReadBack.{file_says}
use Rattle.laws.proofs.Checks.{checked_file}
use Rattle.laws.specs.Scottish.{scottish_regular}
use Rattle.answers.specs.declared.numbers.Counts.{Counts}
use Rattle.answers.specs.Meant.{refusal_meant, said}
use Rattle.answers.specs.declared.codes.Code.{Code}
use Rattle.answers.specs.declared.codes.Code.TheVariants.{EndingWrong, IdentifierUnknown, OutOfPlace, FieldCountWrong, FieldMalformed, EndBeforeStart, NotRunningNumber, RecordCountWrong, TooManyBodyLines, KeyHeld, KeyAbsent, ReferenceUnmet, HoldingTooLong, HoldingUnsound, KindNotAsked, TooManyRecords, UndoTooLong, InputUnusable, NoSuchPart}
use Rattle.answers.specs.Codes.{code_number}
use Rattle.meaning.specs.Codes.{key_absent, holding_unsound, kind_not_asked}
use Rattle.answers.specs.declared.refusal.Refusal.{Refusal}
use Rattle.keys.specs.Numbers.{key_numbers}
use Rattle.keys.proofs.KeyLaws.{kind_told}
use Rattle.entries.specs.Entries.{rec_of}
use Rattle.entries.proofs.LineLaws.{role_known}
use Rattle.holding.specs.Read.{records_of}
use Rattle.meaning.specs.Kinds.{Kind}
use Rattle.meaning.specs.Holding as meaning
use Rattle.meaning.specs.Holding.{sound, unsound}
use Rattle.meaning.specs.Answers as meant
use Rattle.base.specs.Tests.{some≢none}
use mathlib.Core.Option.{some-injective}
use Rattle.in_force.specs.declared.naming.Naming.{Naming}
use Rattle.in_force.specs.declared.naming.Naming.TheVariants.{Unnamed, Deleted, Named}
use Rattle.in_force.specs.Naming.{said_by, named_by, later_of, last_named, naming_of}
use Rattle.find.specs.Found.{Enquired, unopened}
use Rattle.find.proofs.FindLaws.{Asked, asked_is, asked_agrees, same_lex}

-- ---- the lines of a sound file

-- the record of a body line is its change's
pub body_rec : (i : ℕ) (t : List ℕ) (c : Change Rec) → SaysChange scottish i t c → rec_of t ≡ c.rec
unfolding change_of
body_rec i t c s = role_known body_line t s.line ∙ ap (λ x. x.rec) s.says

-- the key that is asked for, as numbers
abbrev sought : ℕ → ℕ → List ℕ
sought kind n = kind ∷ n ∷ 0 ∷ 0 ∷ []

module _ (kind n : ℕ) (k : Asked kind) where
  -- a line that is no body line does not name it
  unnamed : (i : ℕ) (o : Role) (t : List ℕ) → RoleLine scottish o t → (body_line ≡ o → ⊥) → named_by (sought kind n) i t ≡ Unnamed
  unfolding named_by key_numbers
  unnamed i o t r d = go (lex (sought kind n) (key_numbers (rec_of t))) refl
    where
      same_role : sought kind n ≡ key_numbers (rec_of t) → body_line ≡ o
      same_role e =
          let v : kind ≡ value (ident (rec_of t).kind) = ap (λ l. get_or l 0 0) e in
          sym k.body ∙ ap role (kind_told k.named (rec_of t).kind (sym k.number ∙ v)) ∙ ap (λ x. role x.kind) (role_known o t r) ∙ r.roles

      go : (c : Tri) → lex (sought kind n) (key_numbers (rec_of t)) ≡ c → pick (is_eq c) (said_by i (op_of (get_or (fields_of t) 1 []))) Unnamed ≡ Unnamed
      go lt e = refl
      go eq e = absurd (d (same_role (lex_order.equal (sought kind n) (key_numbers (rec_of t)) e)))
      go gt e = refl

  -- a body line says what its change does
  said_by_lem : (i : ℕ) (t : List ℕ) (c : Change Rec) → SaysChange scottish i t c → T (fine_c scottish c) → (o : Option (ℕ × Op))
      → later_of (naming_of o) (named_by (sought kind n) (suc i) t) ≡ naming_of (pick (same (kind ∷ n ∷ []) (key_of scottish c.rec)) (some (i, c.op)) o)
  unfolding named_by change_of later_of naming_of said_by
  said_by_lem i t c s f o = rw (names, op) (go (same (kind ∷ n ∷ []) (key_of scottish c.rec)) c.op)
    where
      op : op_of (get_or (fields_of t) 1 []) ≡ c.op
      op = ap (λ x. x.op) s.says

      names : is_eq (lex (sought kind n) (key_numbers (rec_of t))) ≡ same (kind ∷ n ∷ []) (key_of scottish c.rec)
      names = ap (λ x. is_eq (lex (sought kind n) (key_numbers x))) (body_rec i t c s) ∙ ap is_eq (asked_agrees kind n k c.rec f) ∙ same_lex (kind ∷ n ∷ []) (key_of scottish c.rec)

      go : (b : Bool) (p : Op) → later_of (naming_of o) (pick b (said_by (suc i) p) Unnamed) ≡ naming_of (pick b (some (i, p)) o)
      go true ins = refl
      go true upd = refl
      go true del = refl
      go false p = refl

  body_says : (i : ℕ) (ts : List (List ℕ)) (cs : List (Change Rec)) (m t : List ℕ) (o : Option (ℕ × Op)) → SaysChanges scottish i ts cs → T (all (fine_c scottish) cs) → RoleLine scottish metadata_line m → RoleLine scottish trailer_line t
      → last_named (sought kind n) (suc i) (ends_all (ts ++ (m ∷ t ∷ []))) (naming_of o) ≡ naming_of (last_naming scottish (kind ∷ n ∷ []) i cs o)
  unfolding last_named last_naming later_of
  body_says i [] [] m t o s f a b = rw (unnamed (suc i) metadata_line m a (λ e. other e), unnamed (suc (suc i)) trailer_line t b (λ e. last e))
    where
      other : body_line ≡ metadata_line → ⊥
      other e = let z : ◌≡◌ {A = ℕ} 0 1 = cc in omega arith

      last : body_line ≡ trailer_line → ⊥
      last e = let z : ◌≡◌ {A = ℕ} 0 1 = cc in omega arith
  body_says i [] (c ∷ cs) m t o s f a b = absurd s
  body_says i (x ∷ ts) [] m t o s f a b = absurd s
  body_says i (x ∷ ts) (c ∷ cs) m t o s f a b =
      ap (last_named (sought kind n) (suc (suc i)) (ends_all (ts ++ (m ∷ t ∷ [])))) (said_by_lem i x c s.0 (and_l (fine_c scottish c) (all (fine_c scottish) cs) f) o)
      ∙ body_says (suc i) ts cs m t (pick (same (kind ∷ n ∷ []) (key_of scottish c.rec)) (some (i, c.op)) o) s.1 (and_r (fine_c scottish c) (all (fine_c scottish) cs) f) a b

  -- the lines of a sound file say what its last body line of the key says
  file_names : (b : List ℕ) (fr : Frame) (cs : List (Change Rec)) → SoundFile scottish b fr cs → last_named (sought kind n) 1 (lines_of b) Unnamed ≡ naming_of (last_naming scottish (kind ∷ n ∷ []) 1 cs none)
  unfolding last_named later_of naming_of
  file_names b fr cs s =
      ap (λ ls. last_named (sought kind n) 1 ls Unnamed) s.lines
      ∙ ap (λ o. last_named (sought kind n) 2 (ends_all (s.texts ++ (fr.metadata_text ∷ fr.trailer_text ∷ []))) (later_of Unnamed o)) (unnamed 1 header_line fr.header_text s.heading (λ e. other e))
      ∙ body_says 1 s.texts cs fr.metadata_text fr.trailer_text none s.body (file_says scottish scottish_regular b fr cs (sound_read scottish b fr cs s)).1 s.describing s.closing.line
    where
      other : body_line ≡ header_line → ⊥
      other e = let z : ◌≡◌ {A = ℕ} 0 1 = cc in omega arith

-- ---- the line that is named

-- it is one of the lines before n
abbrev Before : ℕ → Naming → Type 0
Before n Unnamed = Unit {0}
Before n Deleted = Unit {0}
Before n (Named l) = (1 ≤ l) × (l < n)

before_more : (n : ℕ) (o : Naming) → Before n o → Before (suc n) o
before_more n Unnamed h = tt
before_more n Deleted h = tt
before_more n (Named l) h = (h.0, omega (arith, h.1))

before_later : (n : ℕ) (a b : Naming) → Before n a → Before n b → Before n (later_of a b)
unfolding later_of
before_later n a Unnamed h k = h
before_later n a Deleted h k = tt
before_later n a (Named l) h k = k

before_here : (k : List ℕ) (n : ℕ) (t : List ℕ) → 1 ≤ n → Before (suc n) (named_by k n t)
unfolding named_by said_by
before_here k n t h = go (is_eq (lex k (key_numbers (rec_of t)))) (op_of (get_or (fields_of t) 1 []))
  where
    go : (b : Bool) (p : Op) → Before (suc n) (pick b (said_by n p) Unnamed)
    go true ins = (h, omega arith)
    go true upd = (h, omega arith)
    go true del = tt
    go false p = tt

before_all : (k : List ℕ) (n : ℕ) (ls : List Line) (o : Naming) → 1 ≤ n → Before n o → Before (n + length ls) (last_named k n ls o)
unfolding last_named
before_all k n [] o h w = subst (λ m. Before m o) (omega arith) w
before_all k n (l ∷ ls) o h w =
    let e : suc n + length ls ≡ n + length (l ∷ ls) = omega arith in
    subst (λ m. Before m (last_named k (suc n) ls (later_of o (named_by k n l.text)))) e
    (before_all k (suc n) ls (later_of o (named_by k n l.text)) (omega arith) (before_later (suc n) o (named_by k n l.text) (before_more n o w) (before_here k n l.text h)))

module _ (f k : List ℕ) (o : Naming) (l : ℕ) (e : o ≡ last_named k 1 (lines_of f) Unnamed) (q : o ≡ Named l) where
  named_in : Before (1 + length (lines_of f)) (Named l)
  named_in = subst (Before (1 + length (lines_of f))) (sym e ∙ q) (before_all k 1 (lines_of f) Unnamed (omega arith) tt)

  -- it is one of the file's
  pub named_from : 1 ≤ l
  named_from = named_in.0

  pub named_to : l ≤ length (lines_of f)
  named_to = omega (arith, named_in.1)

-- ---- the answer

-- what is handed back, by what the lines say
unfoldable handed_by : List ℕ → List ℕ → List ℕ → List Rec → Naming → Found
handed_by old b q st Unnamed = held_part old (held_at scottish q 0 st)
handed_by old b q st Deleted = refusal (alone key_absent)
handed_by old b q st (Named l) = part_of second (lines_of b) (l - 1)

handed_by_lem : (old b q : List ℕ) (st : List Rec) (o : Option (ℕ × Op)) → in_force_part scottish old b q st o ≡ handed_by old b q st (naming_of o)
unfolding in_force_part handed_by unless_deleted naming_of said_by
handed_by_lem old b q st none = refl
handed_by_lem old b q st (some l) = go l.1
  where
    less : suc l.0 - 1 ≡ l.0
    less = omega arith

    go : (p : Op) → unless_deleted p (part_of second (lines_of b) l.0) ≡ handed_by old b q st (said_by (suc l.0) p)
    go ins = ap (part_of second (lines_of b)) (sym less)
    go upd = ap (part_of second (lines_of b)) (sym less)
    go del = refl

module _ (s t : List ℕ) (kind n : ℕ) (k : Asked kind) (z : (check_file scottish t).code ≡ 0) (j : List ℕ) (y : j ≡ kind ∷ n ∷ 0 ∷ 0 ∷ []) (o : Naming) (g : o ≡ last_named j 1 (lines_of t) Unnamed) where
  -- what is found of a sound file
  abbrev found : Found
  found = in_force_file scottish s t (kind ∷ n ∷ []) (records_of (read_holding scottish s)) (read_file scottish t)

  -- it is what the file's lines say
  on_lines : found ≡ handed_by s t (kind ∷ n ∷ []) (records_of (read_holding scottish s)) o
  unfolding in_force_file
  on_lines =
      let f = checked_file scottish scottish_regular t z in
      rw (sound_read scottish t f.frame f.changes f.sounds)
      (handed_by_lem s t (kind ∷ n ∷ []) (records_of (read_holding scottish s)) (last_naming scottish (kind ∷ n ∷ []) 1 f.changes none)
      ∙ ap (handed_by s t (kind ∷ n ∷ []) (records_of (read_holding scottish s))) (sym (g ∙ ap (λ i. last_named i 1 (lines_of t) Unnamed) y ∙ file_names kind n k t f.frame f.changes f.sounds)))

  -- where none names the key, the held line
  pub last_held : o ≡ Unnamed → held_part s (held_at scottish (kind ∷ n ∷ []) 0 (records_of (read_holding scottish s))) ≡ found
  unfolding handed_by
  last_held q = rw (on_lines, q)

  -- 11 for a delete
  pub last_deleted : o ≡ Deleted → (e : Refusal) → refusal_meant e ≡ alone key_absent → refusal (refusal_meant e) ≡ found
  unfolding handed_by
  last_deleted q e w = ap refusal w ∙ rw (on_lines, q)

  -- else the body line
  pub last_there : (l : ℕ) → o ≡ Named l → part_of second (lines_of t) (l - 1) ≡ found
  unfolding handed_by
  last_there l q = rw (on_lines, q)

-- the kind was asked for
pub last_asked : (h a o : List ℕ) (r kind : ℕ) → Enquired h a o r kind → Asked kind
last_asked h a o r kind w = asked_is kind w.asked

-- 15 and 14 come first
pub force_unopened : (s t : List ℕ) (kind n : ℕ) (r : meant.Refusal) → unopened (numbered_among enquiries kind) (read_holding scottish s) ≡ some r → refusal r ≡ in_force scottish s t kind n
unfolding in_force in_force_kind in_force_held unopened
force_unopened s t kind n r e = asked (numbered_among enquiries kind) e
  where
    holds : (k : Kind) (q : List ℕ) (u : meaning.Held) → unopened (some k) u ≡ some r → refusal r ≡ in_force_held scottish s t q u
    holds k q (sound l) e = absurd (some≢none (sym e))
    holds k q (unsound m) e = ap refusal (sym (some-injective (at_line m (of_line holding_unsound)) r e))

    asked : (o : Option Kind) → unopened o (read_holding scottish s) ≡ some r → refusal r ≡ in_force_kind scottish s t n o
    asked none e = ap refusal (sym (some-injective (alone kind_not_asked) r e))
    asked (some k) e = holds k (value (ident k) ∷ n ∷ []) (read_holding scottish s) e

-- a code is never 0
code_counted : (c : Code) → code_number c ≡ 0 → ⊥
code_counted EndingWrong z = omega (arith, z)
code_counted IdentifierUnknown z = omega (arith, z)
code_counted OutOfPlace z = omega (arith, z)
code_counted FieldCountWrong z = omega (arith, z)
code_counted FieldMalformed z = omega (arith, z)
code_counted EndBeforeStart z = omega (arith, z)
code_counted NotRunningNumber z = omega (arith, z)
code_counted RecordCountWrong z = omega (arith, z)
code_counted TooManyBodyLines z = omega (arith, z)
code_counted KeyHeld z = omega (arith, z)
code_counted KeyAbsent z = omega (arith, z)
code_counted ReferenceUnmet z = omega (arith, z)
code_counted HoldingTooLong z = omega (arith, z)
code_counted HoldingUnsound z = omega (arith, z)
code_counted KindNotAsked z = omega (arith, z)
code_counted TooManyRecords z = omega (arith, z)
code_counted UndoTooLong z = omega (arith, z)
code_counted InputUnusable z = omega (arith, z)
code_counted NoSuchPart z = omega (arith, z)

-- the refusal of a file as an enquiry answers it
abbrev unplaced : Refusal → Refusal
unplaced r = record { code = r.code; line = r.line; field = r.field; place = 0 }

-- what a file's check answers, with such a refusal
abbrev pub Unplaced : Result Counts Refusal → Result Counts Refusal → Type 0
Unplaced c q = MatchResult c (λ x. q ≡ Ok x) (λ e. IsErrAnd q (λ d. d ≡ unplaced e))

module _ (s t a o : List ℕ) (r kind n : ℕ) (w : Enquired s a o r kind) where
  -- then the file is judged
  pub force_file : in_force_file scottish s t (kind ∷ n ∷ []) (records_of (read_holding scottish s)) (read_file scottish t) ≡ in_force scottish s t kind n
  unfolding in_force in_force_kind in_force_held
  force_file =
      let k = asked_is kind w.asked in
      sym
      (ap (in_force_kind scottish s t n) k.known
      ∙ ap (λ (v : ℕ). in_force_held scottish s t (v ∷ n ∷ []) (read_holding scottish s)) (sym k.number)
      ∙ ap (in_force_held scottish s t (kind ∷ n ∷ [])) w.read.sound)

  module _ (c : Result Counts Refusal) (d : said c ≡ check_file scottish t) where
    -- the file's own fault
    pub fault_told : (y : Refusal) → c ≡ Err y → refusal (refusal_meant y) ≡ in_force scottish s t kind n
    unfolding check_file
    fault_told y e = go (read_file scottish t) (sym (ap said e) ∙ d) ∙ force_file
      where
        go : (u : Read Sheet) → refused_with (refusal_meant y) ≡ checked u → refusal (refusal_meant y) ≡ in_force_file scottish s t (kind ∷ n ∷ []) (records_of (read_holding scottish s)) u
        go (fault x) q = unfold checked in_force_file refusal in (ap (λ m. record { answer = record { code = m.code; line = m.line; field = m.field }; slice = first; start = 0; size = 0 }) q)
        go (file x) q = absurd (unfold checked in code_counted y.code (ap (λ m. m.code) q))

    -- but for its place
    pub force_refused : (q : Result Counts Refusal) → Unplaced c q → (y : Refusal) → q ≡ Err y → (refusal (refusal_meant y) ≡ in_force scottish s t kind n) × (y.place ≡ 0)
    unfolding refusal
    force_refused q m y e = go c refl m
      where
        go : (b : Result Counts Refusal) → c ≡ b → Unplaced b q → (refusal (refusal_meant y) ≡ in_force scottish s t kind n) × (y.place ≡ 0)
        go (Ok x) i m = absurd (let z : ◌≡◌ {A = Result Counts Refusal} (Err y) (Ok x) = sym e ∙ m in cc)
        go (Err x) i m =
            let v : y ≡ unplaced x = subst (λ b. IsErrAnd b (λ d. d ≡ unplaced x)) e m in
            (ap (λ r. refusal (refusal_meant r)) v ∙ fault_told x i, ap (λ r. r.place) v)

-- a file with no fault
pub faultless : (t : List ℕ) (c q : Result Counts Refusal) → said c ≡ check_file scottish t → Unplaced c q → (u : Counts) → q ≡ Ok u → (check_file scottish t).code ≡ 0
faultless t (Ok x) q d m u e = sym (ap (λ y. y.code) d)
faultless t (Err x) q d m u e = absurd (subst (λ b. IsErrAnd b (λ d. d ≡ unplaced x)) e m)

pub ruleset files = (rules, faultless)

pub ruleset last = (rules, named_from, named_to, last_asked, last_held, last_deleted, last_there)
