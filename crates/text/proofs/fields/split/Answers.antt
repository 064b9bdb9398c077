-- `text::fields::split` meets its contract.
use Rattle.std.proofs.Common.{refl, ◌∙◌, rules}
use Rattle.text.proofs.SplitLaws.{splits, split_comma, split_inside, split_quote, split_byte}
use Rattle.text.proofs.fields.split.Goals.{in-44, in-44+else-not-quoted, in-34, in_default-1}
use Rattle.text.proofs.fields.split.Goals as goal

pub loop-i-init : goal.loop-i-init
loop-i-init c = search splits

pub loop-i-preserved : goal.loop-i-preserved
loop-i-preserved c =
    let s = c.loop-i.invariant.0 in
    let h = c.loop-i-test.true in
    elim c.match-b.branch [
      | in-44 w ↦ rw (w.quoted-is, w.commas-is) (split_comma _ _ _ _ _ s h _ w.in-44.is w.if-not-quoted.true (w.ends-is ∙ w.note.ensures), search splits)
      | in-44+else-not-quoted w ↦ rw (w.ends-is, w.quoted-is, w.commas-is) (split_inside _ _ _ _ _ s h w.in-44.is w.if-not-quoted.false, search splits)
      | in-34 w ↦ rw (w.ends-is, w.quoted-is, w.commas-is) (split_quote _ _ _ _ _ s h _ w.in-34.is refl, search splits)
      | in_default-1 w ↦ rw (w.ends-is, w.quoted-is, w.commas-is) (split_byte _ _ _ _ _ s h (search rules) (search rules), search splits)
    ]

pub returns-then-quoted : goal.returns-then-quoted
returns-then-quoted c = search splits

pub returns-else-quoted : goal.returns-else-quoted
returns-else-quoted c = search splits
