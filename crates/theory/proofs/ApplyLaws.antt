-- Laws of apply and undo on bytes: what an answer says, and that the undo of a file gives the holding back.
use Rattle.std.specs.Prelude.{◌≡◌, List, ℕ, T}
use Rattle.std.proofs.Math.Path.{refl, ap}
use Rattle.std.proofs.Math.Option.{Option, none, some}
use Rattle.base.specs.ListLaws.{all_append, append_all}
use Rattle.theory.specs.Keyed.{Keyed}
use Rattle.theory.specs.Step.{Change, passes, fails, Rules, after, back}
use Rattle.theory.proofs.StepLaws.{passes_fails, fails_passes}
use Rattle.theory.specs.Trail.{final, undo}
use Rattle.theory.proofs.TrailLaws.{length_undo}
use Rattle.theory.specs.Run.{Out, done, stop, run, Good}
use Rattle.theory.proofs.RunLaws.{run_taken, taken_run, fine_final, fine_undo, good_final, undo_taken, undo_same}
use Rattle.theory.specs.Answer.{Read, fault, file, Answer, took, counts}
use Rattle.theory.specs.ReadBack.{Sound, Holding, Files}
use Rattle.theory.specs.Apply as A

module _ {E : Type 0} (K : Keyed) (H : Holding K) (F : Files E K.Rec H.fine) (terms : A.Terms E K.Rec) where
  open K use {Rec}
  open H use {fine, always, write, hold, writes, holds}
  open F use {Frame, read_file, reads, says}
  open terms use {Room, late}

  -- ---- the words of Apply for this format

  abbrev rules : Room → Rules Rec
  rules = A.rules K H F terms

  abbrev outcome : List (Change Rec) → Out (List Rec) → Answer E
  outcome = A.outcome K H F terms

  abbrev apply : Room → List ℕ → List ℕ → Answer E
  apply = A.apply K H F terms

  abbrev Applied : Room → List ℕ → List ℕ → List ℕ → Type 0
  Applied = A.Applied K H F terms

  abbrev Says : Room → List ℕ → List ℕ → Answer E → Type 0
  Says = A.Says K H F terms

  abbrev undo_of : List ℕ → List ℕ → List ℕ
  undo_of = A.undo_of K H F terms

  -- ---- what an answer says

  says_run : (room : Room) (old b : List ℕ) (st : List Rec) (fr : Frame) (cs : List (Change Rec)) → hold old ≡ some st → read_file b ≡ file (fr, cs) → T (passes (late room) st)
      → (o : Out (List Rec)) → run K (rules room) 2 st cs ≡ o → Says room old b (outcome cs o)
  unfolding A.outcome
  says_run room old b st fr cs h f t (done s) e =
      let g = taken_run K (rules room) 2 st s cs e in
      (record { st = st; fr = fr; cs = cs; held = h; read = f; starts = t; takes = g.0; made = ap write g.1 }, refl)
  says_run room old b st fr cs h f t (stop n w) e = tt

  says_room : (room : Room) (old b : List ℕ) (st : List Rec) (fr : Frame) (cs : List (Change Rec)) → hold old ≡ some st → read_file b ≡ file (fr, cs)
      → (t : Option ℕ) → fails (late room) st ≡ t → Says room old b (A.if_room K H F terms t (outcome cs (run K (rules room) 2 st cs)))
  unfolding A.if_room
  says_room room old b st fr cs h f none e = says_run room old b st fr cs h f (fails_passes (late room) st e) (run K (rules room) 2 st cs) refl
  says_room room old b st fr cs h f (some w) e = tt

  says_file : (room : Room) (old b : List ℕ) (st : List Rec) → hold old ≡ some st → (p : Read E (Frame × List (Change Rec))) → read_file b ≡ p → Says room old b (A.on_file K H F terms room st p)
  unfolding A.on_file
  says_file room old b st h (fault x) e = tt
  says_file room old b st h (file p) e = says_room room old b st p.0 p.1 h e (fails (late room) st) refl

  says_hold : (room : Room) (old b : List ℕ) (o : Option (List Rec)) → hold old ≡ o → Says room old b (A.on_hold K H F terms room old b o)
  unfolding A.on_hold
  says_hold room old b none e = tt
  says_hold room old b (some st) e = says_file room old b st e (read_file b) refl

  -- what apply answers says so of the file and the holding
  pub says_apply : (room : Room) (old b : List ℕ) → Says room old b (apply room old b)
  unfolding A.apply
  says_apply room old b = says_hold room old b (hold old) refl

  -- where every line and every change is allowed, apply answers the new holding and the counts
  pub apply_took : (room : Room) (old b new : List ℕ) (a : Applied room old b new) → apply room old b ≡ took new (counts a.cs)
  unfolding A.apply A.on_hold A.on_file A.if_room A.outcome
  apply_took room old b new a = rw (a.held, a.read, passes_fails (late room) a.st a.starts, run_taken K (rules room) 2 a.st a.cs a.takes, a.made)

  -- ---- the undo of one file

  good : (room : Room) (st : List Rec) → Sound K fine always st → T (passes (late room) st) → Good K (rules room) st
  good room st s f = record { asc = s.asc; pass = all_append (λ t. t.1 st) always (late room) s.pass f }

  -- the undo of a file that was taken is itself a sound file, is taken, and gives the old bytes back
  pub back_one : (room : Room) (old b new : List ℕ) → Applied room old b new → Applied room new (undo_of old b) old
  unfolding A.undo_of
  back_one room old b new a =
      let st = a.st in
      let cs = a.cs in
      let h = holds old st a.held in
      let f = says b a.fr cs a.read in
      let g = good room st h.1 a.starts in
      let e = good_final K (rules room) st cs g a.takes in
      let p = append_all (λ t. t.1 (final (after K) st cs)) always (late room) e.pass in
      record {
        st = final (after K) st cs;
        fr = a.fr;
        cs = undo (after K) (back K) st cs;
        held = rw a.made (writes (final (after K) st cs) (record { asc = e.asc; fines = fine_final K fine st cs h.1.fines f.1; pass = p.0 }));
        read = rw (a.held, a.read) (reads a.fr (undo (after K) (back K) st cs) (rw (length_undo (after K) (back K) st cs) f.0) (fine_undo K fine st cs h.1.fines f.1));
        starts = p.1;
        takes = undo_taken K (rules room) st cs g a.takes;
        made = rw (undo_same K (rules room) st cs g a.takes) h.0;
      }
