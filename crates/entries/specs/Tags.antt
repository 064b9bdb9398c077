-- A number for each key, whose order agrees with the order of keys.
use Rattle.std.specs.Prelude as std
use Rattle.std.specs.Prelude.{Some, None}
use Rattle.std.specs.Prelude.{◌≡◌, ◌&&◌, List, ℕ, ◌+◌, ◌*◌, ◌/◌, ◌%◌, leb, eqb, get_or}
use Rattle.std.proofs.Math.Option.{Option, none, some}
use Rattle.base.specs.Lists.{pick}
use Rattle.meaning.specs.Records.{Rec}
use Rattle.keys.specs.declared.Key.{Key}
use Rattle.keys.specs.Numbers.{key_list, key_numbers, ref_at}

-- the tags of one kind
abbrev pub span : ℕ
span = 72057594037927936

-- 0 where a key's second and third number are both 0
unfoldable pub looseness : ℕ → ℕ → ℕ
looseness c d = pick (eqb c 0 && eqb d 0) 0 1

-- the tag of a key of a kind's number and up to three others: twice the first counts, and whether that is all of the key; kinds from
-- 255 on, which the table has none of, have one tag, and so have first numbers of more than 16 digits
unfoldable pub tag_by : ℕ → ℕ → ℕ → ℕ → ℕ
tag_by k n c d = pick (leb 255 k) 18446744073709551615 (pick (leb 36028797018963967 n) (k * span + 72057594037927935) (k * span + (2 * n + looseness c d)))

-- the tag of a key's four numbers
unfoldable pub tag_of : List ℕ → ℕ
tag_of k = tag_by (get_or k 0 0) (get_or k 1 0) (get_or k 2 0) (get_or k 3 0)

-- the tag of no key, even and above those of all keys that have an even one
abbrev pub no_tag : ℕ
no_tag = 18446744073709551614

-- the tag of what is referred to
unfoldable pub ref_tag : Option (List ℕ) → ℕ
ref_tag none = no_tag
ref_tag (some k) = tag_of k

-- the key that an even tag is of
abbrev pub key_tagged : ℕ → Key
key_tagged v = record { kind = v / span; first = v % span / 2; second = 0; third = 0 }

-- what an even tag says is referred to
unfoldable pub ref_tagged : ℕ → std.Option Key
ref_tagged v = pick (eqb v no_tag) None (Some (key_tagged v))

-- a tag is that of no key, or an even one
pub record Tells (v : ℕ) : Type 0 where
  pub even : v % 2 ≡ 0
  pub tag : (v ≡ no_tag → ⊥) → v ≡ tag_of (key_list (key_tagged v))

-- a record's own tag, and those of what it refers to
pub record TagsOf (x : Rec) (o f s : ℕ) : Type 0 where
  pub own : o ≡ tag_of (key_numbers x)
  pub first : f ≡ ref_tag (ref_at x.kind x.content 0)
  pub second : s ≡ ref_tag (ref_at x.kind x.content 1)
