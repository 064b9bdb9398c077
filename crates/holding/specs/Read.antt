-- What is read of a holding: its lowest faulty line, or its records and where they stand.
use Rattle.std.specs.Prelude.{◌≡◌, List, [], ℕ, ◌/◌, ◌%◌, ◌≤◌, ◌<◌, T, eqb, length, get_or, take, Result, Ok, Err}
use Rattle.base.specs.Lists.{all}
use Rattle.meaning.specs.Table.{scottish}
use Rattle.meaning.specs.Records.{Rec}
use Rattle.meaning.specs.Holding as meaning
use Rattle.meaning.specs.Holding.{sound, unsound, referring, read_holding, most_records}
use Rattle.entries.specs.Entries.{rec_of, line_at}
use Rattle.entries.specs.Tags.{tag_of}
use Rattle.places.specs.Places.{says}
use Rattle.places.specs.Counts.{tally, by_key}
use Rattle.noted.specs.Noted.{RefsNoted}

-- the records of a sound holding
unfoldable pub records_of : meaning.Held → List Rec
records_of (sound st) = st
records_of (unsound n) = []

-- the first n entries say these records, each by where its line starts in the holding, whatever the file is
pub record Listed (h a : List ℕ) (n : ℕ) (st : List Rec) : Type 0 where
  pub count : n ≡ length st
  pub says : (f : List ℕ) → says h f a n ≡ st
  pub even : T (all (λ v. eqb (v % 2) 0) (take n a))
  pub few : n ≤ most_records

-- of each of the first n entries that has a note other than 0, the note says where the fields start by which its line refers to others
pub record NotedAs (h a v : List ℕ) (n : ℕ) : Type 0 where
  pub each : (i : ℕ) → i < n → 0 < get_or v i 0 → RefsNoted h (get_or a i 0 / 2) (get_or v i 0) (rec_of (line_at h (get_or a i 0 / 2)))

-- what was read is sound: its n records, where they stand, the tags of their keys and the notes of their references
pub record ScanIs (h : List ℕ) (s : meaning.Held) (n : ℕ) (a g v : List ℕ) : Type 0 where
  pub sound : s ≡ sound (records_of s)
  pub listed : Listed h a n (records_of s)
  pub tagged : take n g ≡ by_key tag_of (records_of s)
  pub noted : NotedAs h a v n

-- the answer tells how many records were read, or the lowest faulty line
abbrev pub ReadAs : List ℕ → meaning.Held → Result ℕ ℕ → List ℕ → List ℕ → List ℕ → Type 0
ReadAs h s (Ok n) a g v = ScanIs h s n a g v
ReadAs h s (Err l) a g v = s ≡ unsound l

-- all references among some records are met, and it is told how often the records refer to each of them
pub record TallyIs (st : List Rec) (n : ℕ) (t : List ℕ) : Type 0 where
  pub met : referring scottish st 1 st ≡ sound st
  pub told : take n t ≡ by_key (tally st) st

-- the answer is Ok then, or else the lowest record whose references are not all met
abbrev pub CountsAs : {T : Type 0} → List ℕ → List ℕ → ℕ → List ℕ → Result T ℕ → Type 0
CountsAs h a n t (Ok u) = TallyIs (says h h a n) n t
CountsAs h a n t (Err l) = referring scottish (says h h a n) 1 (says h h a n) ≡ unsound l

-- a holding is sound: its n records, where they stand, the tags of their keys and how often they refer to each of them
pub record SoundIs (h : List ℕ) (n : ℕ) (a g t : List ℕ) : Type 0 where
  pub sound : read_holding scottish h ≡ sound (records_of (read_holding scottish h))
  pub listed : Listed h a n (records_of (read_holding scottish h))
  pub tagged : take n g ≡ by_key tag_of (records_of (read_holding scottish h))
  pub told : take n t ≡ by_key (tally (records_of (read_holding scottish h))) (records_of (read_holding scottish h))

-- the answer tells how many records a sound holding has, or the lowest faulty line
abbrev pub HeldIs : List ℕ → Result ℕ ℕ → List ℕ → List ℕ → List ℕ → Type 0
HeldIs h (Ok n) a g t = SoundIs h n a g t
HeldIs h (Err l) a g t = read_holding scottish h ≡ unsound l
