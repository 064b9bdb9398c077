-- The laws of the tags of what a line refers to.
use mathlib.Core.Path.{◌≡◌, sym, ap, ◌∙◌}
use mathlib.Core.List.{List, [], ◌∷◌}
use Prim.Native.Nat.{ℕ, ◌+◌, ◌/◌, ◌%◌}
use native.Mathlib.Omega.{arith}
use borrow.Author.Rules.{rules}
use borrow.Author.Tests.{eq-eqb, ne_eqb}
use lib.ListN.{get_or, take}
use Rattle.theory.specs.Decimal.{value}
use Rattle.meaning.specs.Lines.{identifier}
use Rattle.meaning.specs.Kinds.{Kind}
use Rattle.meaning.specs.Format.{kind_of}
use Rattle.meaning.specs.Table.{scottish}
use Rattle.layout.specs.declared.records.Layout.{Layout}
use Rattle.layout.specs.Rows.{laid_out}
use Rattle.keys.specs.Numbers.{ref_at}
use Rattle.entries.specs.Entries.{known, rec_of, line_at}
use Rattle.entries.specs.Fields.{first_field}
use Rattle.entries.specs.Tags.{tag_of, no_tag, ref_tag}
use Rattle.noted.specs.Noted.{ref_there, RefsNoted}

-- ---- what stands at an offset

module _ (s : List ℕ) (at to off : ℕ) where
  -- 1 byte stands for no field
  pub tag_none : off ≡ 1 → no_tag ≡ ref_tag (ref_there s at to off)
  unfolding ref_there ref_tag
  tag_none h = rw (eq-eqb off 1 h)

  -- another for the key of its number
  pub tag_some : (n v : ℕ) → (off ≡ 1 → ⊥) → n ≡ value (take 16 (first_field (line_at s (at + off)))) → v ≡ tag_of (to ∷ n ∷ 0 ∷ 0 ∷ []) → v ≡ ref_tag (ref_there s at to off)
  unfolding ref_there ref_tag
  tag_some n v h e q = rw (ne_eqb off 1 h, ← e) q

pub ruleset there = (rules, tag_none, tag_some)

-- ---- what is referred to

module _ (s : List ℕ) (at v : ℕ) (r : RefsNoted s at v (rec_of (line_at s at))) where
  -- two that are 1 are of nothing
  pub tags_none : v ≡ 65537 → (no_tag ≡ ref_tag (ref_at (rec_of (line_at s at)).kind (rec_of (line_at s at)).content 0)) × (no_tag ≡ ref_tag (ref_at (rec_of (line_at s at)).kind (rec_of (line_at s at)).content 1))
  tags_none h = (tag_none s at _ (v % 65536) (omega arith) ∙ sym (ap ref_tag r.first), tag_none s at _ (v / 65536) (omega arith) ∙ sym (ap ref_tag r.second))

  module _ (k : Kind) (g : k ≡ known (kind_of scottish (identifier (line_at s at)))) (l : Layout) (e : l ≡ laid_out k) (n : ℕ) where
    -- the kind is the record's
    to_is : l ≡ laid_out (rec_of (line_at s at)).kind
    unfolding rec_of
    to_is = e ∙ ap laid_out g

    -- the first tag is of the first row
    pub tags_first : n ≡ ref_tag (ref_there s at (get_or l.to 0 0) (v % 65536)) → n ≡ ref_tag (ref_at (rec_of (line_at s at)).kind (rec_of (line_at s at)).content 0)
    tags_first q = q ∙ rw to_is (sym (ap ref_tag r.first))

    -- the second of the second
    pub tags_second : n ≡ ref_tag (ref_there s at (get_or l.to 1 0) (v / 65536)) → n ≡ ref_tag (ref_at (rec_of (line_at s at)).kind (rec_of (line_at s at)).content 1)
    tags_second q = q ∙ rw to_is (sym (ap ref_tag r.second))

pub ruleset tagging = (rules, tags_none, tags_first, tags_second)
