-- Steps one after another and the way back, whatever the steps are: the changes of a file, or whole files.
use Rattle.std.specs.Prelude.{List, [], ◌∷◌, ◌++◌}

module _ {S C : Type 0} (after : S → C → S) where
  -- the state after all steps
  abbrev pub final : S → List C → S
  final s [] = s
  final s (c ∷ cs) = final (after s c) cs

  -- every step is allowed in the state in which it is made
  abbrev pub Each : (S → C → Type 0) → S → List C → Type 0
  Each Ok s [] = Unit {0}
  Each Ok s (c ∷ cs) = Ok s c × Each Ok (after s c) cs

  -- every state from the first to the last has the property
  abbrev pub Through : (S → Type 0) → S → List C → Type 0
  Through P s [] = P s
  Through P s (c ∷ cs) = P s × Through P (after s c) cs

  -- the steps back, the last first
  abbrev pub undo : (S → C → C) → S → List C → List C
  undo back s [] = []
  undo back s (c ∷ cs) = undo back (after s c) cs ++ (back s c ∷ [])
