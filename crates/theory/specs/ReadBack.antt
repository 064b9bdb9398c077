-- What the theory asks of the bytes of a format: holdings and change files as bytes, written and read back.
use Rattle.std.specs.Prelude.{◌≡◌, Bool, List, ℕ, T, length}
use Rattle.std.proofs.Math.Option.{Option, some}
use Rattle.base.specs.Lists.{all}
use Rattle.theory.specs.Keyed.{Keyed}
use Rattle.theory.specs.Store.{Asc}
use Rattle.theory.specs.Step.{Change, Test, passes}
use Rattle.theory.specs.Answer.{Read, file}

-- a state that a holding may have: keys ascend, every record is fine, and every test is passed
pub record Sound (K : Keyed) (fine : K.Rec → Bool) (always : List (Test K.Rec)) (st : List K.Rec) : Type 0 where
  pub asc : Asc K st
  pub fines : T (all fine st)
  pub pass : T (passes always st)

-- holdings as bytes: a sound state that is written is read back, and what is read is what would be written of a sound state
pub record Holding (K : Keyed) : Type 0 where
  pub fine : K.Rec → Bool
  pub always : List (Test K.Rec)
  pub write : List K.Rec → List ℕ
  pub hold : List ℕ → Option (List K.Rec)
  pub writes : (st : List K.Rec) → Sound K fine always st → hold (write st) ≡ some st
  pub holds : (b : List ℕ) (st : List K.Rec) → hold b ≡ some st → (b ≡ write st) × Sound K fine always st

-- files as bytes: a frame (header, metadata, trailer) that suits a body of so many lines around changes of fine records; what is written is read back
pub record Files (E R : Type 0) (fine : R → Bool) : Type 1 where
  pub Frame : Type 0
  pub suits : Frame → ℕ → Bool
  pub read_file : List ℕ → Read E (Frame × List (Change R))
  pub write_file : Frame → List (Change R) → List ℕ
  pub reads : (fr : Frame) (cs : List (Change R)) → T (suits fr (length cs)) → T (all (λ c. fine c.rec) cs) → read_file (write_file fr cs) ≡ file (fr, cs)
  pub says : (b : List ℕ) (fr : Frame) (cs : List (Change R)) → read_file b ≡ file (fr, cs) → T (suits fr (length cs)) × T (all (λ c. fine c.rec) cs)
