-- What a step starts from, what is found, and how it is judged.
use Rattle.std.specs.Prelude.{◌≡◌, Bool, true, false, List, ℕ, ◌^◌, ◌≤◌, ◌<◌, T, length, take, Result, Ok, Err}
use Rattle.std.proofs.Math.Option.{Option, none, some}
use Rattle.base.specs.Lists.{some?}
use Rattle.theory.specs.Store.{get}
use Rattle.theory.specs.Rank.{rank}
use Rattle.theory.specs.Step.{Change, passes, after}
use Rattle.meaning.specs.Table.{scottish}
use Rattle.meaning.specs.Records.{Rec, keyed}
use Rattle.meaning.specs.Holding.{written, most_records}
use Rattle.meaning.specs.Steps.{held_tests, step_code}
use Rattle.answers.specs.declared.codes.Code.{Code}
use Rattle.answers.specs.Codes.{code_number}
use Rattle.keys.specs.Numbers.{key_numbers, numbered}
use Rattle.places.specs.Places.{says}
use Rattle.places.specs.Counts.{tally, by_key}
use Rattle.places.specs.Ordered.{Ordered}
use Rattle.judge.specs.declared.State.{State}
use Rattle.judge.specs.declared.Judged.{Judged}
use Rattle.judge.specs.declared.Refused.{Refused}

-- the code with which a step is refused, if it is
abbrev pub code_found : {T : Type 0} → Result T Code → Option ℕ
code_found (Ok t) = none
code_found (Err w) = some (code_number w)

-- the code with which a step was judged, if it is refused
abbrev pub code_judged : Result Judged Refused → Option ℕ
code_judged (Ok j) = none
code_judged (Err w) = some (code_number w.code)

-- the place of its key, whether it is refused or not
abbrev pub place_judged : Result Judged Refused → ℕ
place_judged (Ok j) = j.place
place_judged (Err w) = w.place

-- the place of a key, whether it stands there or would
abbrev pub place_of : Result ℕ ℕ → ℕ
place_of (Ok i) = i
place_of (Err i) = i

-- whether it stands there
abbrev pub stands_at : Result ℕ ℕ → Bool
stands_at (Ok i) = true
stands_at (Err i) = false

-- less than 2 ^ 63, as the length of every slice is
abbrev pub IsShort : ℕ → Type 0
IsShort n = n < 2 ^ 63

-- the records in force are those of a sound holding, count and size are its records and bytes, and it fits the room
pub record Holds (h f a g : List ℕ) (room : ℕ) (s : State) : Type 0 where
  pub ordered : Ordered h f a g s.count
  pub pass : T (passes (held_tests scottish) (says h f a s.count))
  pub sized : s.size ≡ length (written (says h f a s.count))
  pub fits : s.size ≤ room
  pub room_short : IsShort room
  pub held_short : IsShort (length h)
  pub file_short : IsShort (length f)

-- such a state is ready for a step: the counts say how often its records refer to each of them, and the arrays have room for every holding
pub record Ready (h f a g t : List ℕ) (room : ℕ) (s : State) : Type 0 where
  pub holds : Holds h f a g room s
  pub counted : take s.count t ≡ by_key (tally (says h f a s.count)) (says h f a s.count)
  pub space : most_records ≤ length a
  pub tag_space : most_records ≤ length g
  pub count_space : most_records ≤ length t

-- the place of a key among the first n, and whether a record stands there
pub record Finds (h f a k : List ℕ) (n : ℕ) (r : Result ℕ ℕ) : Type 0 where
  pub placed : place_of r ≡ rank numbered k (says h f a n)
  pub within : place_of r ≤ n
  pub there : stands_at r ≡ some? (get numbered k (says h f a n))

-- the place of a change's key in the state, and the bytes after the change
pub record Measures (h f a : List ℕ) (c : Change Rec) (s : State) (j : Judged) : Type 0 where
  pub placed : j.place ≡ rank numbered (key_numbers c.rec) (says h f a s.count)
  pub within : j.place ≤ s.count
  pub sized : j.size ≡ length (written (after (keyed scottish) (says h f a s.count) c))

-- the code of a change over the state, the place of its key whether it is refused or not, and where it is not refused the bytes after it
pub record Judges (h f a : List ℕ) (room : ℕ) (c : Change Rec) (s : State) (r : Result Judged Refused) : Type 0 where
  pub coded : code_judged r ≡ step_code scottish room (says h f a s.count) c
  pub placed : place_judged r ≡ rank numbered (key_numbers c.rec) (says h f a s.count)
  pub within : place_judged r ≤ s.count
  pub measured : (j : Judged) → r ≡ Ok j → Measures h f a c s j
