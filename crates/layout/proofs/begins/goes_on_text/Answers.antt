-- `layout::begins::goes_on_text` meets its contract.
use mathlib.Core.Path.{◌≡◌}
use mathlib.Core.Bool.{◌||◌}
use mathlib.Core.List.{[], ◌∷◌}
use Rattle.meaning.specs.Place.{goes_on}
use Rattle.layout.specs.Rows.{sound_by}
use Rattle.layout.proofs.BeginsLaws.{or_here, or_next, text_first, text_last}
use Rattle.layout.proofs.begins.goes_on_text.Goals.{then-goes_on, else-goes_on, then-goes_on-2, else-goes_on-2}
use Rattle.layout.proofs.begins.goes_on_text.Goals as goal

pub returns-then-goes_on-3 : goal.returns-then-goes_on-3
returns-then-goes_on-3 c =
    let j : c.if-goes_on.value ≡ (goes_on (sound_by c.args.row) c.args.p.now (34 ∷ 97 ∷ 34 ∷ []) || goes_on (sound_by c.args.row) c.args.p.now (34 ∷ 224 ∷ 160 ∷ 128 ∷ 34 ∷ []))
    = elim c.if-goes_on.branch [ then-goes_on w ↦ or_here _ _ _ _ w.value-is w.if-goes_on.true c.goes_on.ensures | else-goes_on w ↦ or_next _ _ _ _ _ w.value-is w.if-goes_on.false c.goes_on.ensures w.goes_on-else-goes_on.ensures ] in
    let k : c.if-goes_on-2.value ≡ ((goes_on (sound_by c.args.row) c.args.p.now (34 ∷ 97 ∷ 34 ∷ []) || goes_on (sound_by c.args.row) c.args.p.now (34 ∷ 224 ∷ 160 ∷ 128 ∷ 34 ∷ [])) || goes_on (sound_by c.args.row) c.args.p.now (34 ∷ 240 ∷ 144 ∷ 128 ∷ 128 ∷ 34 ∷ []))
    = elim c.if-goes_on-2.branch [ then-goes_on-2 w ↦ or_here _ _ _ _ w.value-is w.if-goes_on-2.true j | else-goes_on-2 w ↦ or_next _ _ _ _ _ w.value-is w.if-goes_on-2.false j w.goes_on-else-goes_on-2.ensures ] in
    text_first _ _ _ k c.if-goes_on-3.true

pub returns-else-goes_on-3 : goal.returns-else-goes_on-3
returns-else-goes_on-3 c =
    let j : c.if-goes_on.value ≡ (goes_on (sound_by c.args.row) c.args.p.now (34 ∷ 97 ∷ 34 ∷ []) || goes_on (sound_by c.args.row) c.args.p.now (34 ∷ 224 ∷ 160 ∷ 128 ∷ 34 ∷ []))
    = elim c.if-goes_on.branch [ then-goes_on w ↦ or_here _ _ _ _ w.value-is w.if-goes_on.true c.goes_on.ensures | else-goes_on w ↦ or_next _ _ _ _ _ w.value-is w.if-goes_on.false c.goes_on.ensures w.goes_on-else-goes_on.ensures ] in
    let k : c.if-goes_on-2.value ≡ ((goes_on (sound_by c.args.row) c.args.p.now (34 ∷ 97 ∷ 34 ∷ []) || goes_on (sound_by c.args.row) c.args.p.now (34 ∷ 224 ∷ 160 ∷ 128 ∷ 34 ∷ [])) || goes_on (sound_by c.args.row) c.args.p.now (34 ∷ 240 ∷ 144 ∷ 128 ∷ 128 ∷ 34 ∷ []))
    = elim c.if-goes_on-2.branch [ then-goes_on-2 w ↦ or_here _ _ _ _ w.value-is w.if-goes_on-2.true j | else-goes_on-2 w ↦ or_next _ _ _ _ _ w.value-is w.if-goes_on-2.false j w.goes_on-else-goes_on-2.ensures ] in
    text_last _ _ _ k c.if-goes_on-3.false _ c.goes_on-else-goes_on-3.ensures
