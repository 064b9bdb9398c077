-- Why a load is refused, and with which numbers: its holding, its file, the start, or the first step that isn't allowed; and, last, the length of
-- its undo.
use Rattle.std.specs.Prelude.{◌≡◌, ◌↔◌, Bool, true, false, leb, eqb}
use Rattle.std.proofs.Math.Path.{refl, ap}
use Rattle.std.proofs.Common.{sym, ◌∙◌, subst}
use mathlib.Core.List.{List, [], ◌∷◌, ◌++◌}
use Prim.Native.Nat.{ℕ, ◌<◌}
use Rattle.std.proofs.Math.Decide.{dec_le}
use native.Mathlib.Omega.{arith}
use Rattle.std.proofs.Math.Dec.{T}
use Rattle.std.proofs.Math.ListN.{length}
use Rattle.base.specs.Lists.{pick}
use Rattle.base.specs.Tests.{T_true, or_r}
use Rattle.theory.specs.Step.{Op, ins, upd, del, Change, after, back}
use Rattle.theory.specs.Trail.{final, Each, Through, undo}
use Rattle.theory.specs.Run.{Out, done, stop}
use Rattle.theory.specs.Answer.{fault, file, took, refused, Counts}
use Rattle.meaning.specs.Format.{Format}
use Rattle.meaning.specs.Records.{Rec, keyed}
use Rattle.meaning.specs.File.{Sheet, read_file, write_file}
use Rattle.meaning.specs.Holding.{Held, sound, unsound, read_holding}
use Rattle.meaning.specs.Load.{outcome, from_start, on_file, on_holding, if_undo_fits, tried, load, checked, check_file, held_numbers, check_holding, Loaded, loaded, load_file}
use Rattle.meaning.specs.Steps.{key_code, fits, run_steps}
use Rattle.meaning.specs.Answers.{Read, Answer, Refusal, alone}
use Rattle.meaning.specs.Undo.{undo_sheet, undo_held, undo_bytes}
use Rattle.laws.specs.Regular.{Regular}
use Rattle.laws.specs.SoundHolding.{SoundHolding, sound_held, held_is_sound}
use Rattle.laws.proofs.SoundFile.{sound_read, read_sound}
use Rattle.laws.specs.FileRefusals.{ReadIn, among, file_codes, file_codes_lem}
use Rattle.laws.specs.LoadRefusals.{step_codes}
use Rattle.laws.proofs.Takes.{taken_long}
use Rattle.laws.proofs.Checks.{held_only}
use Rattle.laws.specs.Demand2.{StepLawful, StepsAllowed, Allowed, UndoFits, Lawful, Roomy}
use Rattle.laws.proofs.Demand2.{through_first, allowed_takes, code_allowed, done_allowed, taken_exactly}
use Rattle.laws.specs.StepFails.{FailsWith, at_key, too_many, unmet, no_room, RunSays, no_true, false_no, run_says, refused_stops}
use Rattle.meaning.specs.Codes.{field_malformed, holding_too_long, holding_unsound, undo_too_long, all_done}
use Rattle.laws.specs.WhyLoad.{Located, Unsound, Faulty, BothSound, Reason, TriedSays, bad_file, bad_holding, bad_step, no_start}

-- ---- numbers

-- a refusal with those numbers
abbrev RefusedWith : Answer → ℕ → ℕ → ℕ → ℕ → Type 0
RefusedWith x c l f p = (r : Refusal) × (x ≡ refused r) × Located r.code r.line r.field r.place c l f p

-- ---- a holding or a file is one of two

abbrev IsSound : Held → Type 0
IsSound (sound st) = Unit {0}
IsSound (unsound n) = ⊥

abbrev IsFile : Read Sheet → Type 0
IsFile (fault r) = ⊥
IsFile (file s) = Unit {0}

-- the changes that a file says
abbrev changes : Read Sheet → List (Change Rec)
changes (fault r) = []
changes (file s) = s.1

module _ (F : Format) where
  -- a sound file is no fault, so a fault is no sound file
  pub fault_faulty : (b : List ℕ) (r : Refusal) → read_file F b ≡ fault r → Faulty F b
  fault_faulty b r e s = subst IsFile (sym (sound_read F b s.frame s.changes s.sounds) ∙ e) tt

  -- a step's code is one of the steps'
  pub step_code_lem : (room : ℕ) (st : List Rec) (c : Change Rec) (w : ℕ) → FailsWith F room st c w → T (among w step_codes)
  unfolding among
  step_code_lem room st c w (at_key n e) = rw e (go c.op)
    where
      go : (o : Op) → T (among (key_code o) step_codes)
      go ins = tt
      go upd = tt
      go del = tt
  step_code_lem room st c w (too_many k n e) = rw e tt
  step_code_lem room st c w (unmet k f n e) = rw e tt
  step_code_lem room st c w (no_room l n e) = rw e tt

  -- 5 is the file's own
  pub reason_five : (room : ℕ) (old b : List ℕ) (c l f p : ℕ) → Reason F room old b c l f p → c ≡ field_malformed
      → Located c l f p (check_file F b).code (check_file F b).line (check_file F b).field (check_file F b).place
  unfolding among
  reason_five room old b c l f p (bad_holding n d) e = absurd (omega (arith, d.0.0, e))
  reason_five room old b c l f p (bad_file s n d) e = d
  reason_five room old b c l f p (no_start m n d) e = absurd (omega (arith, d.0.0, e))
  reason_five room old b c l f p (bad_step m t r d z) e = absurd (rw e at (step_code_lem room _ _ c r.refuses))

  -- ---- a step of a run that is lawful, or has room, throughout

  each_at : (st : List Rec) (before : List (Change Rec)) (c : Change Rec) (rest : List (Change Rec)) → Each (after (keyed F)) (StepLawful F) st (before ++ (c ∷ rest))
      → StepLawful F (final (after (keyed F)) st before) c
  each_at st [] c rest l = l.0
  each_at st (b ∷ before) c rest l = each_at (after (keyed F) st b) before c rest l.1

  lawful_13 : (room : ℕ) (st : List Rec) (c : Change Rec) (w : ℕ) → StepLawful F st c → FailsWith F room st c w → w ≡ holding_too_long
  lawful_13 room st c w l (at_key n e) = absurd (n l.keyed?)
  lawful_13 room st c w l (too_many k n e) = absurd (n l.few_records)
  lawful_13 room st c w l (unmet k f n e) = absurd (n l.references)
  lawful_13 room st c w l (no_room m n e) = e

  through_at : (room : ℕ) (st : List Rec) (before : List (Change Rec)) (c : Change Rec) (rest : List (Change Rec))
      → Through (after (keyed F)) (λ s. T (fits room s)) st (before ++ (c ∷ rest)) → T (fits room (after (keyed F) (final (after (keyed F)) st before) c))
  through_at room st [] c rest r = through_first F room (after (keyed F) st c) rest r.1
  through_at room st (b ∷ before) c rest r = through_at room (after (keyed F) st b) before c rest r.1

  -- a step with room after it doesn't fail with 13
  roomy_step : (room : ℕ) (st : List Rec) (c : Change Rec) (w : ℕ) → T (fits room (after (keyed F) st c)) → FailsWith F room st c w → w ≡ holding_too_long → ⊥
  roomy_step room st c w t (at_key n e) z = go c.op e
    where
      go : (o : Op) → w ≡ key_code o → ⊥
      go ins e = omega (arith, z, e)
      go upd e = omega (arith, z, e)
      go del e = omega (arith, z, e)
  roomy_step room st c w t (too_many k n e) z = omega (arith, z, e)
  roomy_step room st c w t (unmet k f n e) z = omega (arith, z, e)
  roomy_step room st c w t (no_room l n e) z = n t

  steps_roomy : (room : ℕ) (st : List Rec) (cs : List (Change Rec)) → T (fits room st) → StepsAllowed F room st cs → Through (after (keyed F)) (λ s. T (fits room s)) st cs
  steps_roomy room st [] t a = t
  steps_roomy room st (c ∷ cs) t a = (t, steps_roomy room (after (keyed F) st c) cs a.0.roomy a.1)

  module _ (regular : Regular F) where
    -- an unsound holding has no records
    pub unsound_is : (old : List ℕ) (n : ℕ) → read_holding F old ≡ unsound n → Unsound F old
    unsound_is old n e s = subst IsSound (sym (sound_held F regular old s.state s.sounds) ∙ e) tt

    -- what a sound holding and a sound file say is determined by their bytes
    same_both : (old b : List ℕ) (m w : BothSound F old b) → (m.st ≡ w.st) × (m.cs ≡ w.cs)
    same_both old b m w = (
      held_only F regular old m.st w.st m.held w.held,
      ap changes (sym (sound_read F b m.fr m.cs m.lines) ∙ sound_read F b w.fr w.cs w.lines),
    )

    -- ---- all but the undo

    -- only what is allowed is taken, and only for a reason is anything refused
    pub tried_says : (room : ℕ) (old b : List ℕ) → TriedSays F room old b (tried F room old b)
    unfolding tried on_holding on_file from_start outcome check_holding held_numbers check_file checked
    tried_says room old b = holds (read_holding F old) refl
      where
        ran : (m : BothSound F old b) → T (fits room m.st) → (o : Out (List Rec)) → RunSays F 2 room m.st m.cs o → TriedSays F room old b (outcome m.cs o)
        ran m t (done s) a = record { st = m.st; fr = m.fr; cs = m.cs; held = m.held; lines = m.lines; starts = t; steps = a }
        ran m t (stop l w) r = bad_step m t r refl refl

        starts : (m : BothSound F old b) (c : Bool) → fits room m.st ≡ c
            → TriedSays F room old b (pick c (outcome m.cs (run_steps F room m.st m.cs)) (refused (alone holding_too_long)))
        starts m true e = ran m (rw e tt) (run_steps F room m.st m.cs) (run_says F 2 room m.st m.cs)
        starts m false e = no_start m (false_no _ e) ((refl, refl, refl), refl)

        files : (st : List Rec) → SoundHolding F old st → (r : Read Sheet) → read_file F b ≡ r → TriedSays F room old b (on_file F room st r)
        files st h (fault r) e = bad_file (record { state = st; sounds = h }) (fault_faulty b r e) ((rw e, rw e, rw e), rw e)
        files st h (file s) e = starts (record { st = st; fr = s.0; cs = s.1; held = h; lines = read_sound F b s.0 s.1 e }) (fits room st) refl

        holds : (h : Held) → read_holding F old ≡ h → TriedSays F room old b (on_holding F room b h)
        holds (unsound n) e = bad_holding (unsound_is old n e) ((refl, rw e, refl), refl)
        holds (sound st) e = files st (held_is_sound F regular old st e) (read_file F b) refl

    -- and for a reason it is, with the reason's numbers
    why_tried : (room : ℕ) (old b : List ℕ) (c l f p : ℕ) → Reason F room old b c l f p → RefusedWith (tried F room old b) c l f p
    unfolding tried on_holding on_file from_start outcome check_holding held_numbers check_file checked
    why_tried room old b c l f p (bad_holding n e) = go (read_holding F old) refl e.0.1
      where
        go : (h : Held) → read_holding F old ≡ h → l ≡ (held_numbers (read_holding F old)).line → RefusedWith (on_holding F room b h) c l f p
        go (sound st) q d = absurd (n (record { state = st; sounds = held_is_sound F regular old st q }))
        go (unsound m) q d = (_, refl, rw (e.0.0, e.0.2, d, q, e.1) ((refl, refl, refl), refl))
    why_tried room old b c l f p (bad_file s n e) = rw (sound_held F regular old s.state s.sounds) (go (read_file F b) refl)
      where
        go : (r : Read Sheet) → read_file F b ≡ r → RefusedWith (on_file F room s.state r) c l f p
        go (fault r) q = (r, refl, rw (e.0.0, e.0.1, e.0.2, e.1, q) ((refl, refl, refl), refl))
        go (file x) q = absurd (n (record { frame = x.0; changes = x.1; sounds = read_sound F b x.0 x.1 q }))
    why_tried room old b c l f p (no_start m n e) =
        rw (sound_held F regular old m.st m.held, sound_read F b m.fr m.cs m.lines, no_true (fits room m.st) n, e.0.0, e.0.1, e.0.2, e.1) (_, refl, ((refl, refl, refl), refl))
    why_tried room old b c l f p (bad_step m t r e z) =
        rw (sound_held F regular old m.st m.held, sound_read F b m.fr m.cs m.lines, T_true (fits room m.st) t, refused_stops F 2 room m.st m.cs l c r, e, z) (_, refl, ((refl, refl, refl), refl))

    -- ---- what each code says of its reason

    -- a code of the file check is 0 or one of the file's
    check_code : (b : List ℕ) (code : ℕ) → (T (among code (all_done ∷ file_codes)) → ⊥) → (check_file F b).code ≡ code → ⊥
    unfolding check_file checked among
    check_code b code out e = go (read_file F b) (file_codes_lem F regular b) e
      where
        go : (r : Read Sheet) → ReadIn r → (checked r).code ≡ code → ⊥
        go (fault r) i e = out (rw (← e) (or_r (eqb r.code all_done) (among r.code file_codes) i))
        go (file s) i e = out (rw (← e) tt)

    -- 14: the holding is unsound
    reason_14 : (room : ℕ) (old b : List ℕ) (c l f p : ℕ) → Reason F room old b c l f p → c ≡ holding_unsound → Unsound F old
    unfolding among
    reason_14 room old b c l f p (bad_holding n d) e = n
    reason_14 room old b c l f p (bad_file s n d) e = absurd (check_code b holding_unsound (λ t. t) (sym d.0.0 ∙ e))
    reason_14 room old b c l f p (no_start m n d) e = absurd (omega (arith, d.0.0, e))
    reason_14 room old b c l f p (bad_step m t r d y) e = absurd (rw e at (step_code_lem room _ _ c r.refuses))

    -- line 0: the holding is longer than its room before the first step
    reason_start : (room : ℕ) (old b : List ℕ) (c l f p : ℕ) → Reason F room old b c l f p → l ≡ 0 → (m : BothSound F old b) → T (fits room m.st) → ⊥
    reason_start room old b c l f p (bad_holding n d) z m t = n (record { state = m.st; sounds = m.held })
    reason_start room old b c l f p (bad_file s n d) z m t = n (record { frame = m.fr; changes = m.cs; sounds = m.lines })
    reason_start room old b c l f p (no_start w n d) z m t = n (subst (λ s. T (fits room s)) (same_both old b m w).0 t)
    reason_start room old b c l f p (bad_step w u r d y) z m t = omega (arith, r.own, z)

    -- where all is lawful: 13
    reason_13 : (room : ℕ) (old b : List ℕ) (c l f p : ℕ) → Reason F room old b c l f p → (st : List Rec) → SoundHolding F old st → Lawful F st b → c ≡ holding_too_long
    reason_13 room old b c l f p (bad_holding n d) st h w = absurd (n (record { state = st; sounds = h }))
    reason_13 room old b c l f p (bad_file s n d) st h w = absurd (n (record { frame = w.fr; changes = w.cs; sounds = w.lines }))
    reason_13 room old b c l f p (no_start m n d) st h w = d.0.0
    reason_13 room old b c l f p (bad_step m t r d y) st h w =
        let q = same_both old b (record { st = st; fr = w.fr; cs = w.cs; held = h; lines = w.lines }) m in
        let s : Each (after (keyed F)) (StepLawful F) m.st (r.before ++ (r.step ∷ r.rest)) = rw (← r.whole, ← q.0, ← q.1) w.steps in
        lawful_13 room _ r.step c (each_at m.st r.before r.step r.rest s) r.refuses

    -- with room at every step: not 13
    reason_roomy : (room : ℕ) (old b : List ℕ) (c l f p : ℕ) → Reason F room old b c l f p → (st : List Rec) → SoundHolding F old st → Roomy F room st b → c ≡ holding_too_long → ⊥
    unfolding among
    reason_roomy room old b c l f p (bad_holding n d) st h w e = n (record { state = st; sounds = h })
    reason_roomy room old b c l f p (bad_file s n d) st h w e = check_code b holding_too_long (λ t. t) (sym d.0.0 ∙ e)
    reason_roomy room old b c l f p (no_start m n d) st h w e =
        n (subst (λ s. T (fits room s)) (held_only F regular old st m.st h m.held) (through_first F room st m.cs (w m.fr m.cs m.lines)))
    reason_roomy room old b c l f p (bad_step m t r d y) st h w e =
        let o = held_only F regular old st m.st h m.held in
        let q : Through (after (keyed F)) (λ s. T (fits room s)) m.st (r.before ++ (r.step ∷ r.rest)) = rw (← r.whole, ← o) (w m.fr m.cs m.lines) in
        roomy_step room _ r.step c (through_at room m.st r.before r.step r.rest q) r.refuses e

    allowed_roomy : (room : ℕ) (old b : List ℕ) (st : List Rec) → SoundHolding F old st → Allowed F old b room → Roomy F room st b
    allowed_roomy room old b st h a fr cs s =
        let w = same_both old b (record { st = a.st; fr = a.fr; cs = a.cs; held = a.held; lines = a.lines }) (record { st = st; fr = fr; cs = cs; held = h; lines = s }) in
        rw (← w.0, ← w.1) (steps_roomy room a.st a.cs a.starts a.steps)

    -- ---- the check of a holding

    -- 14 exactly if the holding is unsound
    pub check_14 : (old : List ℕ) → ((check_holding F old).code ≡ holding_unsound) ↔ Unsound F old
    unfolding check_holding held_numbers
    check_14 old = go (read_holding F old) refl
      where
        go : (h : Held) → read_holding F old ≡ h → ((held_numbers h).code ≡ holding_unsound) ↔ Unsound F old
        go (sound st) e = (λ z. absurd (omega (arith, z)), λ u. absurd (u (record { state = st; sounds = held_is_sound F regular old st e })))
        go (unsound n) e = (λ z. unsound_is old n e, λ u. refl)

    module _ (old b : List ℕ) (room undo_room : ℕ) where
      -- ---- a load with `room` bytes for the new holding and `undo_room` for the undo

      -- but for 17, a refusal has a reason
      pub load_why : ((load_file F old b room undo_room).answer.code ≡ 0 → ⊥) → ((load_file F old b room undo_room).answer.code ≡ undo_too_long → ⊥)
          → Reason F room old b (load_file F old b room undo_room).answer.code (load_file F old b room undo_room).answer.line (load_file F old b room undo_room).answer.field (load_file F old b room undo_room).answer.place
      unfolding load_file loaded load if_undo_fits
      load_why n k = go (tried F room old b) (tried_says room old b) n k
        where
          u : List ℕ
          u = undo_bytes F old b

          Why : Loaded → Type 0
          Why x = (x.answer.code ≡ 0 → ⊥) → (x.answer.code ≡ undo_too_long → ⊥) → Reason F room old b x.answer.code x.answer.line x.answer.field x.answer.place

          either : (c : Bool) (new : List ℕ) (m : Counts) → Why (loaded room undo_room u (pick c (took new m) (refused (alone undo_too_long))))
          either true new m = λ n k. absurd (n refl)
          either false new m = λ n k. absurd (k refl)

          go : (x : Answer) → TriedSays F room old b x → Why (loaded room undo_room u (if_undo_fits undo_room u x))
          go (took new m) a = either (leb (length u) undo_room) new m
          go (refused x) r = λ n k. r

      -- and where there is one, the numbers are its
      pub why_load : (c l f p : ℕ) → Reason F room old b c l f p
          → Located (load_file F old b room undo_room).answer.code (load_file F old b room undo_room).answer.line (load_file F old b room undo_room).answer.field (load_file F old b room undo_room).answer.place c l f p
      unfolding load_file loaded load if_undo_fits
      why_load c l f p r = let w = why_tried room old b c l f p r in rw w.1 w.2

      -- 17 exactly if all is allowed, and the undo is longer than its buffer
      pub load_17 : ((load_file F old b room undo_room).answer.code ≡ undo_too_long) ↔ (Allowed F old b room × (undo_room < length (undo_bytes F old b)))
      load_17 = (
        λ e.
            let a = code_allowed F regular old b room undo_room undo_too_long (λ t. unfold among in t) e in
            (a, go a e (dec_le (length (undo_bytes F old b)) undo_room)),
        λ w. ap (λ x. x.answer.code) (taken_long F regular room undo_room old b _ (allowed_takes F regular old b room w.0) w.1),
      )
        where
          go : Allowed F old b room → (load_file F old b room undo_room).answer.code ≡ undo_too_long → Dec (UndoFits F old b undo_room) → undo_room < length (undo_bytes F old b)
          go a e (yes h) = absurd (omega (arith, e, (taken_exactly F regular old b room undo_room).1 (a, h)))
          go a e (no h) = omega arith

      -- 14 exactly if the holding is unsound
      pub load_14 : ((load_file F old b room undo_room).answer.code ≡ holding_unsound) ↔ Unsound F old
      load_14 = (
        λ e. reason_14 room old b _ _ _ _ (load_why (λ z. omega (arith, e, z)) (λ z. omega (arith, e, z))) e,
        λ u. (why_load holding_unsound (check_holding F old).line 0 0 (bad_holding u ((refl, refl, refl), refl))).0.0,
      )

      -- 13 at line 0 exactly if a sound holding is longer than its room before the first step of a sound file
      pub load_start : (m : BothSound F old b) → (((load_file F old b room undo_room).answer.code ≡ holding_too_long) × ((load_file F old b room undo_room).answer.line ≡ 0)) ↔ (T (fits room m.st) → ⊥)
      load_start m = (
        λ e. reason_start room old b _ _ _ _ (load_why (λ z. omega (arith, e.0, z)) (λ z. omega (arith, e.0, z))) e.1 m,
        λ n. let w = (why_load holding_too_long 0 0 0 (no_start m n ((refl, refl, refl), refl))).0 in (w.0, w.1),
      )

      -- with room at every step 13 is never given, whatever else is wrong with the file
      pub roomy_13 : (st : List Rec) → SoundHolding F old st → Roomy F room st b → (load_file F old b room undo_room).answer.code ≡ holding_too_long → ⊥
      roomy_13 st h w e = reason_roomy room old b _ _ _ _ (load_why (λ z. omega (arith, e, z)) (λ z. omega (arith, e, z))) st h w e

      -- where all is lawful, 13 exactly if there isn't room at every step
      pub load_13 : (st : List Rec) → SoundHolding F old st → Lawful F st b → ((load_file F old b room undo_room).answer.code ≡ holding_too_long) ↔ (Roomy F room st b → ⊥)
      load_13 st h l = (
        λ e w. roomy_13 st h w e,
        λ n.
            reason_13 room old b _ _ _ _
            (load_why (λ z. n (allowed_roomy room old b st h (done_allowed F regular old b room undo_room z).0)) (λ z. n (allowed_roomy room old b st h (load_17.0 z).0))) st h l,
      )

    -- ---- the undo's bytes

    -- the undo of a sound file over a sound holding: the file's header, metadata and trailer around the steps taken backwards
    pub undo_body_lem : (old b : List ℕ) (m : BothSound F old b) → undo_bytes F old b ≡ write_file m.fr (undo (after (keyed F)) (back (keyed F)) m.st m.cs)
    unfolding undo_bytes undo_held undo_sheet
    undo_body_lem old b m = rw (sound_held F regular old m.st m.held, sound_read F b m.fr m.cs m.lines)
