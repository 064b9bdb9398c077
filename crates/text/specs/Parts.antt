-- A part that is handed back: its bytes, and where it stands in what was lent.
use Rattle.std.specs.Prelude.{◌≡◌, List, ℕ, ◌+◌, take, drop}
use Rattle.std.specs.Borrow.{Bor}

-- r is the n bytes from a on of s, and stands there
pub record StandsIn (r s : Bor (List ℕ)) (a n : ℕ) : Type 0 where
  pub bytes : r.now ≡ take n (drop a s.now)
  pub block : r.ref_ptr.0 ≡ s.ref_ptr.0
  pub offset : r.ref_ptr.1 ≡ s.ref_ptr.1 + a
