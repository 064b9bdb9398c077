-- Demand 2: a file is taken exactly if the holding is sound, every line and step is allowed and the undo fits; what a load leaves then, and when it refuses.
use Rattle.std.specs.Prelude.{◌≡◌, refl, ◌↔◌, T, leb, length}
use Rattle.std.proofs.Common.{sym, arith, leb→le, le→leb}
use Rattle.std.proofs.Math.Path.{ap, subst}
use Rattle.std.proofs.Math.Bool.{true}
use Rattle.std.proofs.Math.Option.{none}
use mathlib.Core.List.{List, [], ◌∷◌}
use Prim.Native.Nat.{ℕ, ◌≤◌}
use Rattle.std.proofs.Math.Decide.{dec_le}
use Rattle.base.specs.Lists.{zeros}
use Rattle.base.specs.Tests.{and_in, and_l, and_r}
use Rattle.theory.specs.Store.{get}
use Rattle.theory.specs.Refs.{met}
use Rattle.theory.specs.Step.{Change, after, judge}
use Rattle.theory.specs.Trail.{Each, Through}
use Rattle.theory.specs.Run.{Taken, Good, last, free}
use Rattle.theory.specs.Answer.{took, refused, counts}
use Rattle.theory.proofs.StepLaws.{judge_ok, ok_judge}
use Rattle.theory.proofs.RunLaws.{frame, get_final, good_through}
use Rattle.meaning.specs.Format.{Format}
use Rattle.meaning.specs.Records.{Rec, keyed, refs_of}
use Rattle.meaning.specs.Holding.{read_holding, written}
use Rattle.meaning.specs.Load.{load, tried, if_undo_fits, then_zeros, Loaded, loaded, load_file}
use Rattle.meaning.specs.Steps.{few, fits, step_rules}
use Rattle.meaning.specs.Answers.{Answer, taken_with}
use Rattle.meaning.specs.Undo.{undo_bytes}
use Rattle.laws.specs.Regular.{Regular}
use Rattle.laws.specs.HoldingReadBack.{held_records}
use Rattle.laws.specs.SoundHolding.{SoundHolding, held_sound, sound_held, held_is_sound}
use Rattle.laws.proofs.SoundFile.{sound_read, read_sound}
use Rattle.laws.specs.FileRefusals.{among}
use Rattle.laws.proofs.Checks.{held_only}
use Rattle.laws.specs.LoadRefusals.{tried_codes, AnswerIn, tried_in}
use Rattle.laws.proofs.Takes.{Takes, taken, taken_long, TookSays, took_takes, good_old, new_held}
use Rattle.laws.specs.Demand2.{StepLawful, StepAllowed, StepsAllowed, Allowed, after_all, UndoFits, Lawful, Roomy, Whole}

-- what fits a buffer fits a longer one
fits_more : (room space : ℕ) (st : List Rec) → room ≤ space → T (fits room st) → T (fits space st)
unfolding fits
fits_more room space st h t = le→leb (length (written st)) space (omega (arith, h, leb→le (length (written st)) room t))

module _ (F : Format) where
  -- ---- steps, without running them

  allowed_ok : (room : ℕ) (st : List Rec) (c : Change Rec) → StepAllowed F room st c → judge (keyed F) (step_rules F room) st c ≡ none
  unfolding fits
  allowed_ok room st c s =
      let st2 = after (keyed F) st c in
      let r = and_in (leb (length (written st2)) room) true s.roomy tt in
      let l = s.lawful in
      judge_ok (keyed F) (step_rules F room) st c l.keyed? (and_in (few st2) _ l.few_records (and_in (met (keyed F) (refs_of F) st2) _ l.references r))

  ok_allowed : (room : ℕ) (st : List Rec) (c : Change Rec) → judge (keyed F) (step_rules F room) st c ≡ none → StepAllowed F room st c
  unfolding fits
  ok_allowed room st c e =
      let st2 = after (keyed F) st c in
      let a = ok_judge (keyed F) (step_rules F room) st c e in
      let q = and_r (few st2) _ a.1 in
      let r = and_r (met (keyed F) (refs_of F) st2) _ q in
      record {
        lawful = record { keyed? = a.0; few_records = and_l (few st2) _ a.1; references = and_l (met (keyed F) (refs_of F) st2) _ q };
        roomy = and_l (leb (length (written st2)) room) true r;
      }

  steps_ok : (room : ℕ) (st : List Rec) (cs : List (Change Rec)) → StepsAllowed F room st cs → Taken (keyed F) (step_rules F room) st cs
  steps_ok room st [] s = tt
  steps_ok room st (c ∷ cs) s = (allowed_ok room st c s.0, steps_ok room (after (keyed F) st c) cs s.1)

  ok_steps : (room : ℕ) (st : List Rec) (cs : List (Change Rec)) → Taken (keyed F) (step_rules F room) st cs → StepsAllowed F room st cs
  ok_steps room st [] s = tt
  ok_steps room st (c ∷ cs) s = (ok_allowed room st c s.0, ok_steps room (after (keyed F) st c) cs s.1)

  -- ---- all is lawful, where a sound holding and buffers with room at every step are given

  steps_lawful : (room : ℕ) (st : List Rec) (cs : List (Change Rec)) → StepsAllowed F room st cs → Each (after (keyed F)) (StepLawful F) st cs
  steps_lawful room st [] s = tt
  steps_lawful room st (c ∷ cs) s = (s.0.lawful, steps_lawful room (after (keyed F) st c) cs s.1)

  -- room throughout is room at the start
  pub through_first : (room : ℕ) (st : List Rec) (cs : List (Change Rec)) → Through (after (keyed F)) (λ s. T (fits room s)) st cs → T (fits room st)
  through_first room st [] r = r
  through_first room st (c ∷ cs) r = r.0

  lawful_steps : (room : ℕ) (st : List Rec) (cs : List (Change Rec)) → Each (after (keyed F)) (StepLawful F) st cs → Through (after (keyed F)) (λ s. T (fits room s)) st cs
      → StepsAllowed F room st cs
  lawful_steps room st [] s r = tt
  lawful_steps room st (c ∷ cs) s r =
      let st2 = after (keyed F) st c in
      (record { lawful = s.0; roomy = through_first room st2 cs r.1 }, lawful_steps room st2 cs s.1 r.1)

  -- ---- a longer buffer

  steps_more : (room space : ℕ) (st : List Rec) (cs : List (Change Rec)) → room ≤ space → StepsAllowed F room st cs → StepsAllowed F space st cs
  steps_more room space st [] h s = tt
  steps_more room space st (c ∷ cs) h s =
      let st2 = after (keyed F) st c in
      (record { lawful = s.0.lawful; roomy = fits_more room space st2 h s.0.roomy }, steps_more room space st2 cs h s.1)

  -- what is allowed is allowed with a longer buffer, and comes to the same records
  pub allowed_more : (old b : List ℕ) (room space : ℕ) → room ≤ space → Allowed F old b room → Allowed F old b space
  allowed_more old b room space h a = record {
    st = a.st;
    fr = a.fr;
    cs = a.cs;
    held = a.held;
    lines = a.lines;
    starts = fits_more room space a.st h a.starts;
    steps = steps_more room space a.st a.cs h a.steps;
  }

  -- ---- a refusal

  -- a refusal leaves zeros in both buffers, and the three counts are 0
  pub refused_zeros : (old b : List ℕ) (room undo_room : ℕ) → ((load_file F old b room undo_room).answer.code ≡ 0 → ⊥)
      → ((load_file F old b room undo_room).output ≡ zeros room) × ((load_file F old b room undo_room).undo ≡ zeros undo_room)
      × ((load_file F old b room undo_room).answer.inserts ≡ 0) × ((load_file F old b room undo_room).answer.updates ≡ 0) × ((load_file F old b room undo_room).answer.deletes ≡ 0)
  unfolding load_file loaded
  refused_zeros old b room undo_room n = go (load F room undo_room old b) n
    where
      Left : Loaded → Type 0
      Left x = (x.output ≡ zeros room) × (x.undo ≡ zeros undo_room) × (x.answer.inserts ≡ 0) × (x.answer.updates ≡ 0) × (x.answer.deletes ≡ 0)

      go : (x : Answer) → ((loaded room undo_room (undo_bytes F old b) x).answer.code ≡ 0 → ⊥) → Left (loaded room undo_room (undo_bytes F old b) x)
      go (took new m) n = absurd (n refl)
      go (refused r) n = (refl, refl, refl, refl, refl)

  -- ---- the states of a run

  good_whole : (room : ℕ) (st : List Rec) → Good (keyed F) (step_rules F room) st → Whole F room st
  unfolding fits
  good_whole room st g =
      let q = and_r (few st) _ g.pass in
      record {
        ascending = g.asc;
        references = and_l (met (keyed F) (refs_of F) st) _ q;
        few_records = and_l (few st) _ g.pass;
        roomy = and_l (leb (length (written st)) room) true (and_r (met (keyed F) (refs_of F) st) _ q);
      }

  through_map : (P Q : List Rec → Type 0) → ((s : List Rec) → P s → Q s) → (st : List Rec) (cs : List (Change Rec)) → Through (after (keyed F)) P st cs → Through (after (keyed F)) Q st cs
  through_map P Q f st [] t = f st t
  through_map P Q f st (c ∷ cs) t = (f st t.0, through_map P Q f (after (keyed F) st c) cs t.1)

  module _ (regular : Regular F) where
    -- ---- taken exactly if all is allowed and the undo fits

    -- where all is allowed the file is taken
    pub allowed_takes : (old b : List ℕ) (room : ℕ) (a : Allowed F old b room) → Takes F regular room old b (written (after_all F a))
    unfolding held_records fits
    allowed_takes old b room a = record {
      st = a.st;
      fr = a.fr;
      cs = a.cs;
      held = ap held_records (sound_held F regular old a.st a.held);
      read = sound_read F b a.fr a.cs a.lines;
      starts = and_in (leb (length (written a.st)) room) true a.starts tt;
      takes = steps_ok room a.st a.cs a.steps;
      made = refl;
    }

    -- and where the file is taken all is allowed
    pub takes_allowed : (old b new : List ℕ) (room : ℕ) → Takes F regular room old b new → Allowed F old b room
    unfolding fits
    takes_allowed old b new room a = record {
      st = a.st;
      fr = a.fr;
      cs = a.cs;
      held = held_is_sound F regular old a.st (held_sound old a.st (read_holding F old) a.held);
      lines = read_sound F b a.fr a.cs a.read;
      starts = and_l (leb (length (written a.st)) room) true a.starts;
      steps = ok_steps room a.st a.cs a.takes;
    }

    -- where all is allowed and the undo fits: 0, the counts of the body lines, and the new holding and the undo, then zeros
    pub allowed_done : (old b : List ℕ) (room undo_room : ℕ) (a : Allowed F old b room) → UndoFits F old b undo_room
        → load_file F old b room undo_room
        ≡ record { answer = taken_with (counts a.cs); output = then_zeros room (written (after_all F a)); undo = then_zeros undo_room (undo_bytes F old b) }
    unfolding allowed_takes
    allowed_done old b room undo_room a = taken F regular room undo_room old b (written (after_all F a)) (allowed_takes old b room a)

    -- a code that refuses neither the holding, the file nor a step is given only where all is allowed
    pub code_allowed : (old b : List ℕ) (room undo_room code : ℕ) → (T (among code tried_codes) → ⊥) → (load_file F old b room undo_room).answer.code ≡ code → Allowed F old b room
    unfolding load_file loaded load if_undo_fits
    code_allowed old b room undo_room code out e = go (tried F room old b) (took_takes F regular room old b) (tried_in F regular room old b) e
      where
        u : List ℕ
        u = undo_bytes F old b

        go : (x : Answer) → TookSays F regular room old b x → AnswerIn x → (loaded room undo_room u (if_undo_fits undo_room u x)).answer.code ≡ code → Allowed F old b room
        go (took new m) t n e = takes_allowed old b new room t
        go (refused r) t n e = absurd (out (subst (λ z. T (among z tried_codes)) e n))

    -- the answer is 0 only where all is allowed and the undo fits
    pub done_allowed : (old b : List ℕ) (room undo_room : ℕ) → (load_file F old b room undo_room).answer.code ≡ 0 → Allowed F old b room × UndoFits F old b undo_room
    done_allowed old b room undo_room e =
        let a = code_allowed old b room undo_room 0 (λ t. unfold among in t) e in
        (a, go a (dec_le (length (undo_bytes F old b)) undo_room))
      where
        go : Allowed F old b room → Dec (UndoFits F old b undo_room) → UndoFits F old b undo_room
        go a (yes h) = h
        go a (no h) = absurd (omega (arith, e, ap (λ x. x.answer.code) (taken_long F regular room undo_room old b _ (allowed_takes old b room a) (omega arith))))

    -- a file is taken exactly if every line is allowed at its place, every step is allowed and the undo fits
    pub taken_exactly : (old b : List ℕ) (room undo_room : ℕ) → ((load_file F old b room undo_room).answer.code ≡ 0) ↔ (Allowed F old b room × UndoFits F old b undo_room)
    taken_exactly old b room undo_room = (done_allowed old b room undo_room, λ w. ap (λ x. x.answer.code) (allowed_done old b room undo_room w.0 w.1))

    -- with a sound holding, room at every step and room for the undo, a file is taken exactly if every line and every step is lawful
    pub lawful_exactly : (old b : List ℕ) (room undo_room : ℕ) (st : List Rec) → SoundHolding F old st → Roomy F room st b → UndoFits F old b undo_room
        → ((load_file F old b room undo_room).answer.code ≡ 0) ↔ Lawful F st b
    lawful_exactly old b room undo_room st h r u = (
      λ e.
          let a = (done_allowed old b room undo_room e).0 in
          let q = subst (λ s. StepsAllowed F room s a.cs) (held_only F regular old a.st st a.held h) a.steps in
          record { fr = a.fr; cs = a.cs; lines = a.lines; steps = steps_lawful room st a.cs q },
      λ l.
          let t = r l.fr l.cs l.lines in
          (taken_exactly old b room undo_room).1 (
            record {
              st = st;
              fr = l.fr;
              cs = l.cs;
              held = h;
              lines = l.lines;
              starts = through_first room st l.cs t;
              steps = lawful_steps room st l.cs l.steps t;
            },
            u,
          ),
    )

    -- ---- a longer buffer, and what follows for the new holding

    -- a file that is taken is taken with a longer buffer, and gives the same holding
    pub takes_more : (old b new : List ℕ) (room space : ℕ) → room ≤ space → Takes F regular room old b new → Takes F regular space old b new
    unfolding takes_allowed allowed_more
    takes_more old b new room space h a =
        subst (Takes F regular space old b) (sym a.made) (allowed_takes old b space (allowed_more old b room space h (takes_allowed old b new room a)))

    module _ (old b : List ℕ) (room : ℕ) (a : Allowed F old b room) where
      -- the file is taken
      abbrev pub takes : Takes F regular room old b (written (after_all F a))
      takes = allowed_takes old b room a

      -- at every state of the run each key stands once and in order, every reference is met, and there is room
      pub at_every_state : Through (after (keyed F)) (Whole F room) a.st a.cs
      unfolding allowed_takes
      at_every_state =
          through_map (Good (keyed F) (step_rules F room)) (Whole F room) (good_whole room) a.st a.cs
          (good_through (keyed F) (step_rules F room) a.st a.cs (good_old F regular room old b (written (after_all F a)) takes) takes.takes)

      -- at a key stands what the last line naming it says
      pub last_line : (k : List ℕ) → get (keyed F) k (after_all F a) ≡ last (keyed F) k a.cs (get (keyed F) k a.st)
      last_line k = get_final (keyed F) k a.st a.cs a.held.ascending

      -- a key that no line names keeps its content byte for byte
      pub unnamed : (k : List ℕ) → T (free (keyed F) k a.cs) → get (keyed F) k (after_all F a) ≡ get (keyed F) k a.st
      unnamed k f = frame (keyed F) k a.st a.cs a.held.ascending f

      -- the new holding is sound
      pub new_sound : SoundHolding F (written (after_all F a)) (after_all F a)
      unfolding allowed_takes
      new_sound =
          let new = written (after_all F a) in
          held_is_sound F regular new (after_all F a) (held_sound new (after_all F a) (read_holding F new) (new_held F regular room old b new takes))
