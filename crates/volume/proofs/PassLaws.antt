-- A line that was passed in one walk: it is opened as of its kind, closed, and walked on, by the laws of any line.
use mathlib.Core.Path.{◌≡◌, refl, sym, ◌∙◌}
use mathlib.Core.Bool.{Bool, true, false}
use mathlib.Core.Option.{Option, none, some}
use mathlib.Core.List.{List, [], ◌∷◌}
use Prim.Native.Nat.{ℕ, ◌+◌, ◌-◌, ◌≤◌}
use native.Mathlib.Omega.{arith}
use lib.ListN.{length, get_or, take, drop, length-drop}
use Rattle.std.specs.Prelude as std
use Rattle.std.specs.Prelude.{Some, None, Result, Ok, Err}
use Rattle.std.specs.Result.{result_ok}
use Rattle.base.specs.Lists.{pick, ask}
use Rattle.meaning.specs.Lines.{identifier, fields_of, has_fields}
use Rattle.meaning.specs.Kinds.{Kind, role}
use Rattle.meaning.specs.Format.{kind_of}
use Rattle.meaning.specs.Table.{fields, scottish}
use Rattle.meaning.specs.Records.{op_of}
use Rattle.meaning.specs.File.{Stage, next, has_room, good, verdict}
use Rattle.layout.specs.declared.kinds.Kind.{Kind as Named}
use Rattle.meaning.specs.Answers.{Fault}
use Rattle.answers.specs.declared.refusal.Fault.{Fault as FaultTold}
use Rattle.answers.specs.Meant.{fault_found}
use Rattle.layout.specs.Meant.{kind_meant}
use Rattle.text.specs.Places.{ends_here}
use Rattle.pass.specs.Kinds.{PassedAs}
use Rattle.volume.specs.declared.stages.Stage.{Stage as StageNamed}
use Rattle.volume.specs.declared.walk.Walk.{Walk}
use Rattle.volume.specs.Meant.{stage_meant, stage_found}
use Rattle.volume.specs.Judged.{opens, opens_as, opens_at, staged_as, closes}
use Rattle.volume.specs.Walk.{walked_on}
use Rattle.volume.specs.Reading.{Reading}
use Rattle.volume.proofs.FileLaws.{read_turn}

-- where a CR LF stands there are two bytes and more
ends_long : (l : List ℕ) → ends_here l ≡ true → 2 ≤ length l
ends_long [] h = let z : false ≡ true = h in cc
ends_long (x ∷ []) h = let z : false ≡ true = h in cc
ends_long (x ∷ (y ∷ l)) h = omega arith

-- a line with no fault is closed
pub closed_well : {T : Type 0} (r : Result T FaultTold) (o : std.Option T) (x : T) (f : Option Fault) → o ≡ result_ok r → o ≡ Some x → fault_found r ≡ f → none ≡ f
closed_well (Ok t) o x f e s g = g
closed_well (Err y) o x f e s g = let z : None ≡ Some x = sym e ∙ s in cc

-- a line that may stand is opened
staged_opens : (p : Stage) (n : ℕ) (t : List ℕ) (k : Kind) (q : Stage) → kind_of scottish (identifier t) ≡ some k → true ≡ has_fields (length (fields k)) t → some q ≡ staged_as p n k → good k q ≡ opens p n true t
unfolding opens opens_as opens_at staged_as verdict ask
staged_opens p n t k q i h e = rw i (room (has_room (role k) n) refl (next p (role k)) refl e)
  where
    room : (b : Bool) → has_room (role k) n ≡ b → (o : Option Stage) → next p (role k) ≡ o → some q ≡ pick b o none → good k q ≡ opens_at n t k o
    room true r none o e = let z : some q ≡ none = e in cc
    room true r (some q') o e = let z : some q ≡ some q' = e in let y : q ≡ q' = cc in rw (r, ← h, y)
    room false r o x e = let z : some q ≡ none = e in cc

module _ (s : List ℕ) (at : ℕ) (a : List ℕ) (kind : Named) (e : ℕ) (w : PassedAs (kind_meant kind) s a at e) where
  -- its CR LF stands in the bytes too
  pub passed_next : e + 2 ≤ length s
  passed_next = omega (arith, length-drop e s, ends_long (drop e s) (sym w.line.ended))

  -- the walk goes on after it
  pub passed_turn : (v : Walk) (sf : std.Option StageNamed) → stage_found sf ≡ staged_as (stage_meant v.stage) v.body (kind_meant kind) → (stage : StageNamed) → sf ≡ Some stage → Reading s v at
      → none ≡ closes v.body (kind_meant kind) (take (e - at) (drop at s))
      → (u : Walk) → u ≡ walked_on v (role (kind_meant kind)) (op_of (get_or (fields_of (take (e - at) (drop at s))) 1 [])) stage → Reading s u (e + 2)
  passed_turn v sf i stage z r m u y =
      read_turn s v at e (omega (arith, w.line.forward, w.inside)) w.line.plain r true w.line.ended (good (kind_meant kind) (stage_meant stage))
      (staged_opens (stage_meant v.stage) v.body (take (e - at) (drop at s)) (kind_meant kind) (stage_meant stage) w.kind w.parted.many (rw z at i))
      kind stage refl w.line.low m u y w.line.forward w.line.within
