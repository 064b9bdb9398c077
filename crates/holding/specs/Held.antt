-- One line of a holding, and the next one in order, as code answers them.
use Rattle.std.specs.Prelude as std
use Rattle.std.specs.Prelude.{◌≡◌, Bool, ◌&&◌, List, ℕ, ◌-◌, ◌<◌, leb, take, drop, Some, None}
use Rattle.std.proofs.Math.Option.{Option, none, some}
use Rattle.base.specs.Lists.{pick, keep_if}
use Rattle.theory.specs.Tri.{is_lt}
use Rattle.theory.specs.Lex.{lex}
use Rattle.meaning.specs.Lines.{identifier}
use Rattle.meaning.specs.Kinds.{Kind}
use Rattle.meaning.specs.Format.{kind_of}
use Rattle.meaning.specs.Table.{scottish}
use Rattle.meaning.specs.Records.{Rec, content_of}
use Rattle.meaning.specs.Holding.{held_test, most_records}
use Rattle.text.specs.Places.{ends_here, plain_end}
use Rattle.keys.specs.Numbers.{key_list, key_numbers}
use Rattle.entries.specs.Entries.{rec_of, line_at}
use Rattle.noted.specs.Noted.{RefsNoted}
use Rattle.holding.specs.declared.scan.Kept.{Kept}

-- a known kind, where the line is sound as line n of a holding
unfoldable pub held_kind_as : ℕ → List ℕ → Option Kind → Option Kind
held_kind_as n t none = none
held_kind_as n t (some k) = keep_if (held_test scottish n k t) k

-- the kind of line n, where it ends well and is sound as such
unfoldable pub held_as : ℕ → Bool → List ℕ → Option Kind
held_as n ended t = pick ended (held_kind_as n t (kind_of scottish (identifier t))) none

-- the record of a line of that kind
unfoldable pub record_as : List ℕ → Option Kind → Option Rec
record_as t none = none
record_as t (some k) = some (record { kind = k; content = content_of t })

-- the record of line n, which starts at `at` and has no CR or LF before e
abbrev pub record_up_to : List ℕ → ℕ → ℕ → ℕ → Option Rec
record_up_to h at e n = record_as (take (e - at) (drop at h)) (held_as n (ends_here (drop e h)) (take (e - at) (drop at h)))

-- the key of line n as numbers, where that is a record whose key stands after q; line 8,193 is the fault
unfoldable pub next_as : ℕ → List ℕ → Option Rec → Option (List ℕ)
next_as n q none = none
next_as n q (some r) = keep_if (is_lt (lex q (key_numbers r)) && leb n most_records) (key_numbers r)

-- the key that was taken, if any
abbrev pub key_taken : std.Option Kept → Option (List ℕ)
key_taken (Some l) = some (key_list l.key)
key_taken None = none

-- what is kept of a line is taken where its key stands after q
unfoldable pub after_key : List ℕ → Kept → std.Option Kept
after_key q l = pick (is_lt (lex q (key_list l.key))) (Some l) None

-- what is kept of the line that starts at `at` and ends at e
pub record KeptOf (h : List ℕ) (at e : ℕ) (l : Kept) : Type 0 where
  pub ends : l.end ≡ e
  pub refs : 0 < l.noted → RefsNoted h at l.noted (rec_of (line_at h at))

-- of a line that was taken
abbrev pub KeptIn : List ℕ → ℕ → ℕ → std.Option Kept → Type 0
KeptIn h at e (Some l) = KeptOf h at e l
KeptIn h at e None = Unit {0}

-- line n, which starts at `at`, where it is sound and its key stands after q
pub record NextIs (h : List ℕ) (at n : ℕ) (q : List ℕ) (r : std.Option Kept) : Type 0 where
  pub key : key_taken r ≡ next_as n q (record_up_to h at (plain_end h at) n)
  pub kept : KeptIn h at (plain_end h at) r
