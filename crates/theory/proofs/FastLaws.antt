-- The fast tests of a step answer what the tests of the whole state answer.
use Rattle.std.specs.Prelude.{◌≡◌, Bool, true, false, List, T, leb}
use Rattle.std.proofs.Math.Path.{refl}
use Rattle.std.proofs.Math.Option.{Option, none, some}
use Prim.Native.Nat.{ℕ, suc, ◌≤◌}
use Rattle.std.proofs.Common.{arith, leb→le, le→leb}
use Rattle.std.proofs.Math.ListN.{length}
use Rattle.base.specs.Lists.{ask, at_most}
use Rattle.base.specs.Tests.{T_true}
use Rattle.theory.specs.Keyed.{Keyed}
use Rattle.theory.specs.Store.{put, get, Asc}
use Rattle.theory.proofs.FoldLaws.{length_put}
use Rattle.theory.specs.Refs.{met}
use Rattle.theory.proofs.RefsLaws.{met_put, met_del}
use Rattle.theory.specs.Step.{Op, ins, upd, del, Change, fails, new, at, after, judge, allowed}
use Rattle.theory.specs.Written.{Printed, render}
use Rattle.theory.proofs.WrittenLaws.{length_render, size_ins, size_upd, size_del}
use Rattle.theory.specs.Fast.{Codes, fits, rules, few_after, met_after, size_after, fast}

ask_same : (b : Bool) (w : ℕ) (o p : Option ℕ) → (T b → o ≡ p) → ask b w o ≡ ask b w p
unfolding ask
ask_same true w o p f = f tt
ask_same false w o p f = refl

still_few : (most m n : ℕ) → m ≤ n → T (leb n most) → leb m most ≡ true
still_few most m n h t = T_true (leb m most) (le→leb m most (omega (arith, leb→le n most t)))

module _ (w : Codes) (K : Keyed) (refs : K.Rec → List K.Key) (P : Printed K.Rec) where
  open K use {Rec, key}

  -- each test of the state st' after a step is the fast one of the state st before
  record Same (st st' : List Rec) (p : Op) (r : Rec) (o : Option Rec) : Type 0 where
    few_s : at_most w.most st' ≡ few_after w.most p st
    met_s : met K refs st' ≡ met_after K refs p r st
    size_s : length (render P st') ≡ size_after P p r o st (length (render P st))

  same : (st : List Rec) (p : Op) (r : Rec) (o : Option Rec) → Asc K st → T (at_most w.most st) → T (met K refs st) → get K (key r) st ≡ o → T (allowed p o)
      → Same st (put K (key r) (new p r) st) p r o
  unfolding at_most few_after met_after size_after
  same st ins r none a f m e t =
      let st' = put K (key r) (some r) st in
      let l : length st' ≡ suc (length st) = omega (arith, rw e at (length_put K (key r) (some r) st)) in
      record { few_s = rw l; met_s = met_put K refs r st a m; size_s = omega (arith, size_ins K P (key r) r st e, length_render P st, length_render P st') }
  same st ins r (some q) a f m e t = absurd t
  same st upd r none a f m e t = absurd t
  same st upd r (some q) a f m e t =
      let st' = put K (key r) (some r) st in
      let l : length st' ≤ length st = omega (arith, rw e at (length_put K (key r) (some r) st)) in
      record { few_s = still_few w.most (length st') (length st) l f; met_s = met_put K refs r st a m; size_s = omega (arith, size_upd K P (key r) q r st e, length_render P st, length_render P st') }
  same st del r none a f m e t = absurd t
  same st del r (some q) a f m e t =
      let st' = put K (key r) none st in
      let l : length st' ≤ length st = omega (arith, rw e at (length_put K (key r) none st)) in
      record { few_s = still_few w.most (length st') (length st) l f; met_s = met_del K refs (key r) st a m; size_s = omega (arith, size_del K P (key r) q st e, length_render P st, length_render P st') }

  -- over a sound holding a change is refused by the fast tests with the code, if any, with which the tests of the whole state refuse it
  pub judge_fast : (room : ℕ) (st : List Rec) (c : Change Rec) → Asc K st → T (at_most w.most st) → T (met K refs st) → judge K (rules w K refs P room) st c ≡ fast w K refs P room st c
  unfolding judge fails fast fits after
  judge_fast room st c a f m =
      ask_same (allowed c.op (get K (at K c) st)) (w.key_code c.op) _ _
      (λ t. let s = same st c.op c.rec (get K (at K c) st) a f m refl t in rw (s.few_s, s.met_s, s.size_s))
