-- The laws of a run: a sound file's body is read line by line, and each way out ends as the run of its changes does.
use mathlib.Core.Path.{◌≡◌, refl, sym, ap, ap₂, ◌∙◌, subst}
use mathlib.Core.Bool.{Bool, true, false}
use mathlib.Core.Option.{Option, none, some, some-injective}
use Rattle.std.specs.Prelude as std
use Rattle.std.specs.Prelude.{Result, Ok, Err, Some, None}
use mathlib.Core.List.{List, [], ◌∷◌, ◌++◌, append-nil, nil≢cons}
use Prim.Native.Nat.{ℕ, suc, ◌+◌, ◌-◌, ◌*◌, ◌≤◌, ◌<◌}
use native.Mathlib.Decide.{dec_le}
use native.Mathlib.Nat.{lt_of_not-le}
use native.Mathlib.Omega.{arith}
use borrow.Author.Rules.{rules}
use borrow.Author.Tests.{lt-ltb, le-ltb}
use lib.Dec.{T}
use lib.ListN.{length, get_or, take, drop, set, length-set}
use lib.Seq.{drop-drop}
use Rattle.base.specs.Lists.{pick, keep_if, all}
use Rattle.base.specs.Tests.{and_l, and_r, some≢none}
use Rattle.theory.specs.Step.{Change, after, back}
use Rattle.theory.specs.Answer.{fault, file}
use Rattle.theory.specs.Run as Theory
use Rattle.theory.specs.Run.{Out, done, stop, on}
use Rattle.meaning.specs.Lines.{lines_of, fields_of}
use Rattle.meaning.specs.Kinds.{Kind, Role, body_line, metadata_line, role}
use Rattle.meaning.specs.Table.{scottish}
use Rattle.meaning.specs.Records.{Rec, keyed, op_of, change_of}
use Rattle.meaning.specs.Holding.{is_held}
use Rattle.meaning.specs.File.{Sheet, read_file, most_body}
use Rattle.meaning.specs.Answers.{Read, of_line, at_line}
use Rattle.answers.specs.declared.codes.Code.{Code}
use Rattle.answers.specs.declared.refusal.Refusal.{Refusal}
use Rattle.answers.specs.Codes.{code_number}
use Rattle.answers.specs.Meant.{refusal_meant}
use Rattle.meaning.specs.Steps.{step_rules, step_code, run_steps}
use Rattle.laws.specs.LinesAndFields.{ends_all}
use Rattle.laws.specs.FileReadBack.{fine_c}
use Rattle.laws.proofs.FileReadBack.{file_says}
use Rattle.laws.specs.SoundFile.{RoleLine, SaysChange, SaysChanges}
use Rattle.laws.proofs.SoundFile.{read_sound}
use Rattle.laws.specs.Scottish.{scottish_regular}
use Rattle.meaning.specs.Undo.{undo_body}
use Rattle.text.specs.Places.{line_len, line_end}
use Rattle.text.proofs.LineLaws.{lines_at, lines_end}
use Rattle.layout.specs.declared.kinds.HeldKind.{HeldKind}
use Rattle.layout.specs.declared.kinds.Kind as code
use Rattle.layout.specs.declared.kinds.Kind.TheVariants.{Header, Held, Metadata, Trailer}
use Rattle.layout.specs.Meant.{held_meant, kind_meant}
use Rattle.layout.proofs.KindLaws.{role_of_lem}
use Rattle.volume.specs.declared.lines.Line as read
use Rattle.volume.specs.Meant.{change_meant}
use Rattle.entries.specs.Entries.{rec_of, line_at}
use Rattle.entries.proofs.EntryLaws.{line_here_lem}
use Rattle.entries.proofs.LineLaws.{role_known}
use Rattle.places.specs.Places.{says}
use Rattle.places.specs.Changes.{change, change_at, steps_back}
use Rattle.places.proofs.BackLaws.{back_turn}
use Rattle.judge.specs.declared.State.{State}
use Rattle.judge.specs.Ready.{Ready}
use Rattle.steps.specs.declared.step.Stepped.{Stepped}
use Rattle.steps.specs.declared.run.Ran.{Ran}
use Rattle.steps.specs.Steps.{Carries, Steps}
use Rattle.steps.specs.Run.{is_file, changes_of, body_from, body_kind, body_meant, Kept, Runs}

-- ---- the body of a sound file

role_is : (o : Role) (t : List ℕ) → RoleLine scottish o t → role (rec_of t).kind ≡ o
role_is o t r = ap (λ x. role x.kind) (role_known o t r) ∙ r.roles

said : (n : ℕ) (t : List ℕ) (c : Change Rec) → SaysChange scottish n t c → change (op_of (get_or (fields_of t) 1 [])) (rec_of t) ≡ c
unfolding change_of
said n t c s = ap (change (op_of (get_or (fields_of t) 1 []))) (role_known body_line t s.line) ∙ s.says

body_from_lem : (n : ℕ) (ts : List (List ℕ)) (cs : List (Change Rec)) (m t : List ℕ) → SaysChanges scottish n ts cs → RoleLine scottish metadata_line m → body_from (ends_all (ts ++ (m ∷ t ∷ []))) ≡ cs
unfolding body_from is_held
body_from_lem n [] [] m t s r = rw (role_is metadata_line m r)
body_from_lem n [] (c ∷ cs) m t s r = absurd s
body_from_lem n (x ∷ ts) [] m t s r = absurd s
body_from_lem n (x ∷ ts) (c ∷ cs) m t s r = rw (role_is body_line x s.0.line, said n x c s.0, body_from_lem (suc n) ts cs m t s.1 r)

-- the changes of a sound file are those of the lines after its first, and there are few
body_of : (f : List ℕ) → T (is_file (read_file scottish f)) → (x : Read Sheet) → read_file scottish f ≡ x
    → (body_from (drop 1 (lines_of f)) ≡ changes_of x) × T (all (fine_c scottish) (changes_of x)) × (lines_of f ≡ [] → ⊥) × (length (changes_of x) ≤ most_body)
body_of f t (fault r) e = absurd (subst (λ x. T (is_file x)) e t)
body_of f t (file s) e =
    let w = read_sound scottish f s.0 s.1 e in (
      ap (λ ls. body_from (drop 1 ls)) w.lines ∙ body_from_lem 1 w.texts s.1 s.0.metadata_text s.0.trailer_text w.body w.describing,
      (file_says scottish scottish_regular f s.0 s.1 e).1,
      λ z. nil≢cons (sym z ∙ w.lines),
      w.few,
    )

-- ---- the walk

-- the way back over the rest and then over the steps made is that over the whole file
abbrev Backed : List ℕ → List ℕ → List ℕ → State → List ℕ → State → List (Change Rec) → List ℕ → List ℕ → ℕ → Type 0
Backed h f a₀ s₀ a s cs steps before n =
    undo_body scottish (says h f a s.count) cs ++ steps_back h f steps before n ≡ undo_body scottish (says h f a₀ s₀.count) (changes_of (read_file scottish f))

-- what is left to run from `at` on, after n steps, ends as the whole run does
pub record Going (h f a₀ : List ℕ) (room : ℕ) (s₀ : State) (a o t steps before : List ℕ) (s : State) (at n : ℕ) : Type 0 where
  pub left : Theory.run (keyed scottish) (step_rules scottish room) (n + 2) (says h f a s.count) (body_from (lines_of (drop at f))) ≡ run_steps scottish room (says h f a₀ s₀.count) (changes_of (read_file scottish f))
  pub backed : Backed h f a₀ s₀ a s (body_from (lines_of (drop at f))) steps before n
  pub rest : lines_of (drop at f) ≡ drop (n + 1) (lines_of f)
  pub ready : Ready h f a o t room s
  pub fines : T (all (fine_c scottish) (body_from (lines_of (drop at f))))
  pub few : n + length (body_from (lines_of (drop at f))) ≤ most_body
  pub within : at ≤ length f + 2
  pub steps_space : most_body ≤ length steps
  pub before_space : most_body ≤ length before

-- the lines after the one at an offset
lines_after : (f : List ℕ) (at e : ℕ) → e ≡ line_end f at → at < length f → lines_of (drop (e + 2) f) ≡ drop 1 (lines_of (drop at f))
lines_after f at e q m =
    let i : at + (line_len (drop at f) + 2) ≡ e + 2 = omega arith in
    ap (λ z. lines_of (drop z f)) (sym i) ∙ sym (ap (drop 1) (lines_at f at m))

-- the walk starts after the header
pub go_start : (h f a o c steps before : List ℕ) (room : ℕ) (s : State) (e : ℕ) → Ready h f a o c room s → T (is_file (read_file scottish f)) → most_body ≤ length steps → most_body ≤ length before → e ≡ line_end f 0 → e ≤ length f
    → Going h f a room s a o c steps before s (e + 2) 0
unfolding steps_back
go_start h f a o c steps before room s e y t p k q m =
    let b = body_of f t (read_file scottish f) refl in
    record {
      left = ap (run_steps scottish room (says h f a s.count)) (body ∙ b.0);
      backed = append-nil _ ∙ ap (undo_body scottish (says h f a s.count)) (body ∙ b.0);
      rest = lines_after f 0 e q full;
      ready = y;
      fines = subst (λ cs. T (all (fine_c scottish) cs)) (sym (body ∙ b.0)) b.1;
      few = omega (arith, ap length (body ∙ b.0), b.3);
      within = omega arith;
      steps_space = p;
      before_space = k;
    }
  where
    full : 0 < length f
    full = elim (dec_le (length f) 0) [ yes z ↦ absurd ((body_of f t (read_file scottish f) refl).2 (lines_end f 0 z)) | no z ↦ lt_of_not-le z ]

    body : body_from (lines_of (drop (e + 2) f)) ≡ body_from (drop 1 (lines_of f))
    body = ap body_from (lines_after f 0 e q full)

-- ---- the kind of a line

body_told : (f : List ℕ) (at : ℕ) → at < length f → body_kind f at ≡ keep_if (is_held (role (rec_of (line_at f at)).kind)) (rec_of (line_at f at)).kind
unfolding body_kind
body_told f at m = rw (lt-ltb at (length f) m)

-- past the end stands none
pub kind_past : (f : List ℕ) (at : ℕ) → length f ≤ at → none ≡ body_kind f at
unfolding body_kind
kind_past f at m = rw (le-ltb at (length f) m)

module _ (f : List ℕ) (at : ℕ) (m : at < length f) (x : code.Kind) (k : kind_meant x ≡ (rec_of (line_at f at)).kind) where
  -- a held one stands there
  pub kind_held : (d : HeldKind) → x ≡ Held d → some (held_meant d) ≡ body_kind f at
  unfolding is_held keep_if
  kind_held d e = sym (body_told f at m ∙ rw (sym k, e) (held d))
    where
      held : (d : HeldKind) → keep_if (is_held (role (held_meant d))) (held_meant d) ≡ some (held_meant d)
      held d = rw (role_of_lem (Held d) (Held d) refl)

  -- another is none of the body
  pub kind_other : ((d : HeldKind) → x ≡ Held d → ⊥) → none ≡ body_kind f at
  unfolding is_held keep_if
  kind_other t = sym (body_told f at m ∙ rw (sym k) (other x refl))
    where
      other : (c : code.Kind) → x ≡ c → keep_if (is_held (role (kind_meant x))) (kind_meant x) ≡ none
      other Header e = rw (role_of_lem x Header e)
      other (Held d) e = absurd (t d e)
      other Metadata e = rw (role_of_lem x Metadata e)
      other Trailer e = rw (role_of_lem x Trailer e)

module _ (f : List ℕ) (at : ℕ) (r : std.Option HeldKind) (q : body_meant r ≡ body_kind f at) where
  -- a kind that is told is one of the body
  pub in_body : (d : HeldKind) → r ≡ Some d → some (held_meant d) ≡ body_kind f at
  in_body d e = sym (ap body_meant e) ∙ q

  -- none is past it
  pub no_body : r ≡ None → none ≡ body_kind f at
  no_body e = sym (ap body_meant e) ∙ q

  -- where one is told a line stands
  pub body_inside : (d : HeldKind) → r ≡ Some d → at < length f
  body_inside d e = elim (dec_le (length f) at) [ yes m ↦ absurd (some≢none (in_body d e ∙ sym (kind_past f at m))) | no m ↦ lt_of_not-le m ]

-- ---- what a run answers, or another

was_ran : Ran → Result Ran Refusal → Ran
was_ran d (Ok r) = r
was_ran d (Err w) = d

was_refused : Refusal → Result Ran Refusal → Refusal
was_refused d (Ok r) = d
was_refused d (Err w) = w

-- ---- each way out

module _ (h f a₀ : List ℕ) (room : ℕ) (s₀ : State) (a o t steps before : List ℕ) (s : State) (at n : ℕ) (g : Going h f a₀ room s₀ a o t steps before s at n) where
  ended : body_from (lines_of (drop at f)) ≡ [] → Runs h f a₀ a o t steps before room s₀ (Ok (record { state = s; steps = n; end = at }))
  unfolding was_ran
  ended e = record {
    ended = run_nil ∙ ap (Theory.run (keyed scottish) (step_rules scottish room) (n + 2) (says h f a s.count)) (sym e) ∙ g.left;
    refused = λ w z. cc;
    ready = λ r z. subst (λ x. Ready h f a o t room x.state) (ap (was_ran (record { state = s; steps = n; end = at })) z) g.ready;
    kept = λ r z. subst (Kept h f a₀ steps before s₀) (ap (was_ran (record { state = s; steps = n; end = at })) z) (record { few = omega (arith, g.few); backed = subst (λ cs. Backed h f a₀ s₀ a s cs steps before n) e g.backed; rest = g.rest });
  }
    where
      run_nil : done (says h f a s.count) ≡ Theory.run (keyed scottish) (step_rules scottish room) (n + 2) (says h f a s.count) []
      run_nil = unfold Theory.run in refl

  -- where no body line is left the run is done
  pub go_done : none ≡ body_kind f at → Runs h f a₀ a o t steps before room s₀ (Ok (record { state = s; steps = n; end = at }))
  unfolding body_kind body_from keep_if
  go_done e = ended (elim (dec_le (length f) at) [ yes m ↦ ap body_from (lines_end f at m) | no m ↦ last (lt_of_not-le m) (is_held (role (rec_of (line_at f at)).kind)) refl ])
    where
      last : at < length f → (c : Bool) → is_held (role (rec_of (line_at f at)).kind) ≡ c → body_from (lines_of (drop at f)) ≡ []
      last m true q = let z : none ≡ some (rec_of (line_at f at)).kind = e ∙ body_told f at m ∙ rw q in absurd (some≢none (sym z))
      last m false q = unfold line_at in (ap body_from (lines_at f at m) ∙ rw q)

  module _ (d : HeldKind) (u : some (held_meant d) ≡ body_kind f at) where
    body_in : at < length f
    body_in = elim (dec_le (length f) at) [ yes m ↦ absurd (some≢none (u ∙ sym (kind_past f at m))) | no m ↦ lt_of_not-le m ]

    kept : (c : Bool) (k x : Kind) → some x ≡ keep_if c k → (c ≡ true) × (k ≡ x)
    unfolding keep_if
    kept true k x e = (refl, sym (some-injective x k e))
    kept false k x e = absurd (some≢none e)

    held_here : (is_held (role (rec_of (line_at f at)).kind) ≡ true) × ((rec_of (line_at f at)).kind ≡ held_meant d)
    held_here = kept _ _ _ (u ∙ body_told f at body_in)

    body_here : body_from (lines_of (drop at f)) ≡ change_at f at ∷ body_from (lines_of (drop (at + (line_len (drop at f) + 2)) f))
    unfolding body_from line_at
    body_here = ap body_from (lines_at f at body_in) ∙ ap (λ c. pick c (change_at f at ∷ body_from (lines_of (drop (at + (line_len (drop at f) + 2)) f))) []) held_here.0

    fines_here : T (all (fine_c scottish) (change_at f at ∷ body_from (lines_of (drop (at + (line_len (drop at f) + 2)) f))))
    fines_here = subst (λ cs. T (all (fine_c scottish) cs)) body_here g.fines

    few_here : n + suc (length (body_from (lines_of (drop (at + (line_len (drop at f) + 2)) f)))) ≤ most_body
    few_here = omega (arith, g.few, ap length body_here)

    -- a body line carries a sound record
    pub go_carries : (e : ℕ) → e ≡ line_end f at → (l : read.Line) → l.kind ≡ d → change_meant l.change ≡ op_of (get_or (fields_of (take (e - at) (drop at f))) 1 []) → Carries f at l
    go_carries e i l j c = record {
      inside = omega (arith, body_in);
      sound = and_l (fine_c scottish (change_at f at)) _ fines_here;
      kinded = ap held_meant j ∙ sym held_here.1;
      changed = c ∙ ap (λ t. op_of (get_or (fields_of t) 1 [])) (line_here_lem f at e i);
    }

    -- its step has a place among the steps
    pub go_steps : n < length steps
    go_steps = omega (arith, few_here, g.steps_space)

    -- and among what stood before
    pub go_before : n < length before
    go_before = omega (arith, few_here, g.before_space)

    module _ (b' o' t' : List ℕ) (r : Result Stepped Code) (w : Steps h f a b' o' t' room (change_at f at) s r) where
      run_here : on (step_code scottish room (says h f a s.count) (change_at f at)) (n + 2)
          (Theory.run (keyed scottish) (step_rules scottish room) (suc (n + 2)) (after (keyed scottish) (says h f a s.count) (change_at f at)) (body_from (lines_of (drop (at + (line_len (drop at f) + 2)) f))))
          ≡ run_steps scottish room (says h f a₀ s₀.count) (changes_of (read_file scottish f))
      unfolding Theory.run
      run_here = sym (ap (Theory.run (keyed scottish) (step_rules scottish room) (n + 2) (says h f a s.count)) body_here) ∙ g.left

      -- a step that is refused ends the run at its line
      pub go_stop : (c : Code) (x : Refusal) → r ≡ Err c → refusal_meant x ≡ at_line (n + 2) (of_line (code_number c)) → Runs h f a₀ b' o' t' steps before room s₀ (Err x)
      unfolding was_refused
      go_stop c x z e = record {
        ended = ap₂ stop (ap (λ p. p.line) e) (ap (λ p. p.code) e) ∙ sym (halt (step_code scottish room (says h f a s.count) (change_at f at)) (rw z at w.coded) _) ∙ run_here;
        refused = λ y q. subst (λ p. refusal_meant p ≡ at_line p.line (of_line (code_number p.code))) (ap (was_refused x) q) (e ∙ ap₂ (λ l k. at_line l (of_line k)) (sym (ap (λ p. p.line) e)) (sym (ap (λ p. p.code) e)));
        ready = λ m q. cc;
        kept = λ m q. cc;
      }
        where
          halt : (o : Option ℕ) → some (code_number c) ≡ o → (y : Out (List Rec)) → on o (n + 2) y ≡ stop (n + 2) (code_number c)
          halt o q y = unfold on in rw (← q)

      -- one that is made leaves the lines after it, and what takes it back
      pub go_turn : (v : Stepped) (e : ℕ) → r ≡ Ok v → e ≡ line_end f at → e ≤ length f → Going h f a₀ room s₀ b' o' t' (set steps n (2 * at + 1)) (set before n v.before) v.state (e + 2) (n + 1)
      unfolding on back
      go_turn v e z q m' =
          let m : at < length f = body_in in
          let x = w.left v z in
          let i : at + (line_len (drop at f) + 2) ≡ e + 2 = omega arith in
          let j : step_code scottish room (says h f a s.count) (change_at f at) ≡ none = sym (rw z at w.coded) in
          let c : n + 1 + 2 ≡ suc (n + 2) = omega arith in
          record {
            left = rw (c, x.said, ← i) (rw j at run_here);
            backed = rw (x.said, ← i) (back_turn h f steps before n at v.before (says h f a s.count) (body_from (lines_of (drop (at + (line_len (drop at f) + 2)) f))) _ go_steps go_before x.stood (subst (λ cs. Backed h f a₀ s₀ a s cs steps before n) body_here g.backed));
            rest = lines_after f at e q m ∙ ap (drop 1) g.rest ∙ drop-drop 1 (n + 1) (lines_of f);
            ready = x.ready;
            fines = rw (← i) (and_r (fine_c scottish (change_at f at)) _ fines_here);
            few = rw (← i) (omega (arith, few_here));
            within = omega arith;
            steps_space = rw length-set g.steps_space;
            before_space = rw length-set g.before_space;
          }

pub ruleset kinding = (rules, kind_past, kind_held, kind_other)
