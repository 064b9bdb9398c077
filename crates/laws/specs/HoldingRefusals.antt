-- What each refusal of the holding check looks like: 14 at one of the holding's lines.
use Rattle.std.specs.Prelude.{◌≡◌, Bool, ◌&&◌, ℕ, suc, ◌+◌, ◌≤◌, ◌<◌, length}
use Rattle.std.proofs.Math.Path.{refl}
use Rattle.std.proofs.Common.{ap}
use Rattle.std.proofs.Math.Bool.{true, false}
use Rattle.std.proofs.Math.Option.{Option, none, some}
use mathlib.Core.List.{List, [], ◌∷◌}
use native.Mathlib.Omega.{arith}
use Rattle.std.proofs.Math.Dec.{leb}
use Rattle.base.specs.Lists.{pick}
use Rattle.theory.specs.Refs.{meets}
use Rattle.meaning.specs.Lines.{Line, lines_of}
use Rattle.meaning.specs.Format.{Format}
use Rattle.meaning.specs.Records.{Rec, keyed, key_of, refs_of}
use Rattle.meaning.specs.Holding.{Held, sound, unsound, held_line, add_rec, above, on_held, scan, referring, on_scan, read_holding, most_records}

-- the lowest faulty line is one of the m lines from n on; where there is none, each is a record
abbrev ScanAt : ℕ → ℕ → Held → Type 0
ScanAt n m (unsound l) = (n ≤ l) × (l < n + m)
ScanAt n m (sound st) = length st ≡ m

add_at : (n m : ℕ) (r : Rec) (h : Held) → ScanAt (suc n) m h → ScanAt n (suc m) (add_rec r h)
unfolding add_rec
add_at n m r (unsound l) i = (omega (arith, i.0), omega (arith, i.1))
add_at n m r (sound st) i = ap suc i

-- a holding's fault is at one of the m lines from n on
abbrev pub HeldAt : ℕ → ℕ → Held → Type 0
HeldAt n m (unsound l) = (n ≤ l) × (l < n + m)
HeldAt n m (sound st) = Unit {0}

module _ (F : Format) where
  on_at : (n m : ℕ) (lo : Option (List ℕ)) (go : Rec → Held) → ((r : Rec) → ScanAt (suc n) m (go r)) → (o : Option Rec) → ScanAt n (suc m) (on_held F n lo o go)
  unfolding on_held
  on_at n m lo go i none = (omega arith, omega arith)
  on_at n m lo go i (some r) = when (above F lo r && leb n most_records)
    where
      when : (c : Bool) → ScanAt n (suc m) (pick c (add_rec r (go r)) (unsound n))
      when true = add_at n m r (go r) (i r)
      when false = (omega arith, omega arith)

  scan_at : (n : ℕ) (lo : Option (List ℕ)) (ls : List Line) → ScanAt n (length ls) (scan F n lo ls)
  unfolding scan
  scan_at n lo [] = refl
  scan_at n lo (l ∷ ls) = on_at n (length ls) lo (λ r. scan F (suc n) (some (key_of F r)) ls) (λ r. scan_at (suc n) (some (key_of F r)) ls) (held_line F n l)

  refer_at : (st : List Rec) (n : ℕ) (rs : List Rec) → HeldAt n (length rs) (referring F st n rs)
  unfolding referring
  refer_at st n [] = tt
  refer_at st n (r ∷ rs) = go (meets (keyed F) (refs_of F) st r) (referring F st (suc n) rs) (refer_at st (suc n) rs)
    where
      go : (c : Bool) (h : Held) → HeldAt (suc n) (length rs) h → HeldAt n (suc (length rs)) (pick c h (unsound n))
      go true (unsound l) i = (omega (arith, i.0), omega (arith, i.1))
      go true (sound s) i = tt
      go false h i = (omega arith, omega arith)

  -- every holding's fault is such
  pub holding_fault_at : (b : List ℕ) → HeldAt 1 (length (lines_of b)) (read_holding F b)
  unfolding read_holding on_scan
  holding_fault_at b = go (scan F 1 none (lines_of b)) (scan_at 1 none (lines_of b))
    where
      go : (h : Held) → ScanAt 1 (length (lines_of b)) h → HeldAt 1 (length (lines_of b)) (on_scan F h)
      go (unsound l) i = i
      go (sound st) i = rw (← i) (refer_at st 1 st)
