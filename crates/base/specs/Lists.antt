-- The few words on lists and tests that the definitions are made of.
use Rattle.std.specs.Prelude.{Bool, true, false, ◌&&◌, List, [], ◌∷◌, ℕ, zero, suc, ◌-◌, eqb, leb, length, take, drop}
use Rattle.std.proofs.Math.Option.{Option, none, some}
use Prim.Native.Char.{code}
use Prim.Native.String.{String, [] as []ˢ, ◌∷◌ as ◌∷ˢ◌}

-- the first where the test holds, else the second
abbrev pub pick {ℓ} : {A : Type ℓ} → Bool → A → A → A
pick true a b = a
pick false a b = b

-- a test is asked: where it fails the fault is given, where it holds the rest is asked
unfoldable pub ask : {A : Type 0} → Bool → A → Option A → Option A
ask true fault rest = rest
ask false fault rest = some fault

-- the value where the test holds
unfoldable pub keep_if : {A : Type 0} → Bool → A → Option A
keep_if true a = some a
keep_if false a = none

-- there is a value
abbrev pub some? : {A : Type 0} → Option A → Bool
some? none = false
some? (some x) = true

-- the test holds of every element
abbrev pub all : {A : Type 0} → (A → Bool) → List A → Bool
all p [] = true
all p (x ∷ xs) = p x && all p xs

-- there are at most n of them
unfoldable pub at_most : {A : Type 0} → ℕ → List A → Bool
at_most n xs = leb (length xs) n

-- two runs of bytes are the same
unfoldable pub same : List ℕ → List ℕ → Bool
same [] [] = true
same [] (y ∷ b) = false
same (x ∷ a) [] = false
same (x ∷ a) (y ∷ b) = eqb x y && same a b

-- the elements from a up to e
unfoldable pub part : List ℕ → ℕ → ℕ → List ℕ
part s a e = take (e - a) (drop a s)

-- the bytes before the first x, or all where there is none
unfoldable pub up_to : ℕ → List ℕ → List ℕ
up_to x [] = []
up_to x (y ∷ r) = pick (eqb y x) [] (y ∷ up_to x r)

-- the bytes after the first x, or none where there is none
unfoldable pub past : ℕ → List ℕ → List ℕ
past x [] = []
past x (y ∷ r) = pick (eqb y x) r (past x r)

-- so many zeros
unfoldable pub zeros : ℕ → List ℕ
zeros zero = []
zeros (suc n) = 0 ∷ zeros n

-- the bytes of a text of ASCII
unfoldable pub bytes : String → List ℕ
bytes []ˢ = []
bytes (c ∷ˢ s) = code c ∷ bytes s
