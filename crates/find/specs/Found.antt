-- What an enquiry asks of a holding that was read, and the line of a record, as code answers them.
use Rattle.std.specs.Prelude as std
use Rattle.std.specs.Prelude.{◌≡◌, true, List, ℕ, suc, ◌≤◌, length, Some, None, Result, Ok, Err}
use Rattle.std.proofs.Math.Option.{Option, none, some}
use Rattle.base.specs.Lists.{pick, some?}
use Rattle.theory.specs.Store.{get}
use Rattle.theory.specs.Rank.{rank}
use Rattle.meaning.specs.Kinds.{Kind, numbered_among}
use Rattle.meaning.specs.Table.{enquiries, scottish}
use Rattle.meaning.specs.Codes.{holding_unsound, kind_not_asked}
use Rattle.meaning.specs.Answers as meant
use Rattle.meaning.specs.Answers.{of_line, at_line, alone}
use Rattle.meaning.specs.Records.{Rec}
use Rattle.meaning.specs.Holding.{Held, sound, unsound, read_holding, most_records}
use Rattle.answers.specs.declared.refusal.Refusal.{Refusal}
use Rattle.answers.specs.Meant.{refusal_meant}
use Rattle.keys.specs.Numbers.{numbered}
use Rattle.holding.specs.Read.{SoundIs}

-- the number of the line at which the key stands among records in order, counted from 1, if it does
unfoldable pub line_found : List ℕ → List Rec → std.Option ℕ
line_found k st = pick (some? (get numbered k st)) (Some (suc (rank numbered k st))) None

-- the kind is one that an enquiry may name; the holding was read, and is sound, of n records; its starts have room for every holding
pub record Enquired (h a g : List ℕ) (n kind : ℕ) : Type 0 where
  pub asked : some? (numbered_among enquiries kind) ≡ true
  pub counts : List ℕ
  pub read : SoundIs h n a g counts
  pub space : most_records ≤ length a

-- why an enquiry is refused before it searches, if it is: 15 for a kind that none may name, then 14 for an unsound holding
unfoldable pub unopened : Option Kind → Held → Option meant.Refusal
unopened none h = some (alone kind_not_asked)
unopened (some k) (sound st) = none
unopened (some k) (unsound n) = some (at_line n (of_line holding_unsound))

-- the answer tells how many records the enquiry may search, or why it is refused
abbrev pub OpenedAs : List ℕ → List ℕ → List ℕ → ℕ → Result ℕ Refusal → Type 0
OpenedAs h a g kind (Ok n) = Enquired h a g n kind
OpenedAs h a g kind (Err r) = unopened (numbered_among enquiries kind) (read_holding scottish h) ≡ some (refusal_meant r)
