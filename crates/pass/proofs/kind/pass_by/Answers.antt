-- `pass::kind::pass_by` meets its contract.
use mathlib.Core.Path.{refl, ap, ◌∙◌}
use Rattle.layout.specs.declared.kinds.HeldKind.TheVariants.{Street, StreetXref, Blpu, AppXref, Lpi}
use Rattle.layout.specs.declared.kinds.Kind.TheVariants.{Header, Held, Metadata, Trailer}
use Rattle.meaning.specs.Table.{fields}
use Rattle.layout.specs.Meant.{kind_meant}
use Rattle.layout.proofs.TableLaws.{codes, encoded, form_encoded}
use Rattle.pass.proofs.KindLaws.{arm_started, arm_passed}
use Rattle.pass.proofs.kind.pass_by.Goals as goal

pub pass_line-requires : goal.pass_line-requires
unfolding codes encoded form_encoded fields
pass_line-requires c = let p = c.requires in arm_started _ _ c.in-Header.is (codes (kind_meant Header)) _ _ refl p.0 _ p.1 p.2

pub pass_line-requires-in-Held-Street : goal.pass_line-requires-in-Held-Street
unfolding codes encoded form_encoded fields
pass_line-requires-in-Held-Street c = let p = c.requires in arm_started _ _ (c.in-Held-Street.is ∙ ap Held (rw c.in-Held-Street.is at c.in-Held-Street.field-0-is)) (codes (kind_meant (Held Street))) _ _ refl p.0 _ p.1 p.2

pub pass_line-requires-in-Held-StreetXref : goal.pass_line-requires-in-Held-StreetXref
unfolding codes encoded form_encoded fields
pass_line-requires-in-Held-StreetXref c = let p = c.requires in arm_started _ _ (c.in-Held-StreetXref.is ∙ ap Held (rw c.in-Held-StreetXref.is at c.in-Held-StreetXref.field-0-is)) (codes (kind_meant (Held StreetXref))) _ _ refl p.0 _ p.1 p.2

pub pass_line-requires-in-Held-Blpu : goal.pass_line-requires-in-Held-Blpu
unfolding codes encoded form_encoded fields
pass_line-requires-in-Held-Blpu c = let p = c.requires in arm_started _ _ (c.in-Held-Blpu.is ∙ ap Held (rw c.in-Held-Blpu.is at c.in-Held-Blpu.field-0-is)) (codes (kind_meant (Held Blpu))) _ _ refl p.0 _ p.1 p.2

pub pass_line-requires-in-Held-AppXref : goal.pass_line-requires-in-Held-AppXref
unfolding codes encoded form_encoded fields
pass_line-requires-in-Held-AppXref c = let p = c.requires in arm_started _ _ (c.in-Held-AppXref.is ∙ ap Held (rw c.in-Held-AppXref.is at c.in-Held-AppXref.field-0-is)) (codes (kind_meant (Held AppXref))) _ _ refl p.0 _ p.1 p.2

pub pass_line-requires-in-Held-Lpi : goal.pass_line-requires-in-Held-Lpi
unfolding codes encoded form_encoded fields
pass_line-requires-in-Held-Lpi c = let p = c.requires in arm_started _ _ (c.in-Held-Lpi.is ∙ ap Held (rw c.in-Held-Lpi.is at c.in-Held-Lpi.field-0-is)) (codes (kind_meant (Held Lpi))) _ _ refl p.0 _ p.1 p.2

pub pass_line-requires-in-Metadata : goal.pass_line-requires-in-Metadata
unfolding codes encoded form_encoded fields
pass_line-requires-in-Metadata c = let p = c.requires in arm_started _ _ c.in-Metadata.is (codes (kind_meant Metadata)) _ _ refl p.0 _ p.1 p.2

pub pass_line-requires-in-Trailer : goal.pass_line-requires-in-Trailer
unfolding codes encoded form_encoded fields
pass_line-requires-in-Trailer c = let p = c.requires in arm_started _ _ c.in-Trailer.is (codes (kind_meant Trailer)) _ _ refl p.0 _ p.1 p.2

pub returns-in-Header : goal.returns-in-Header
unfolding codes encoded form_encoded fields
returns-in-Header c = let p = c.requires in arm_passed _ _ c.in-Header.is (codes (kind_meant Header)) _ _ refl p.0 c.args.ends.now _ _ p.1 c.pass_line.ensures

pub returns-in-Held-Street : goal.returns-in-Held-Street
unfolding codes encoded form_encoded fields
returns-in-Held-Street c = let p = c.requires in arm_passed _ _ (c.in-Held-Street.is ∙ ap Held (rw c.in-Held-Street.is at c.in-Held-Street.field-0-is)) (codes (kind_meant (Held Street))) _ _ refl p.0 c.args.ends.now _ _ p.1 c.pass_line-in-Held-Street.ensures

pub returns-in-Held-StreetXref : goal.returns-in-Held-StreetXref
unfolding codes encoded form_encoded fields
returns-in-Held-StreetXref c = let p = c.requires in arm_passed _ _ (c.in-Held-StreetXref.is ∙ ap Held (rw c.in-Held-StreetXref.is at c.in-Held-StreetXref.field-0-is)) (codes (kind_meant (Held StreetXref))) _ _ refl p.0 c.args.ends.now _ _ p.1 c.pass_line-in-Held-StreetXref.ensures

pub returns-in-Held-Blpu : goal.returns-in-Held-Blpu
unfolding codes encoded form_encoded fields
returns-in-Held-Blpu c = let p = c.requires in arm_passed _ _ (c.in-Held-Blpu.is ∙ ap Held (rw c.in-Held-Blpu.is at c.in-Held-Blpu.field-0-is)) (codes (kind_meant (Held Blpu))) _ _ refl p.0 c.args.ends.now _ _ p.1 c.pass_line-in-Held-Blpu.ensures

pub returns-in-Held-AppXref : goal.returns-in-Held-AppXref
unfolding codes encoded form_encoded fields
returns-in-Held-AppXref c = let p = c.requires in arm_passed _ _ (c.in-Held-AppXref.is ∙ ap Held (rw c.in-Held-AppXref.is at c.in-Held-AppXref.field-0-is)) (codes (kind_meant (Held AppXref))) _ _ refl p.0 c.args.ends.now _ _ p.1 c.pass_line-in-Held-AppXref.ensures

pub returns-in-Held-Lpi : goal.returns-in-Held-Lpi
unfolding codes encoded form_encoded fields
returns-in-Held-Lpi c = let p = c.requires in arm_passed _ _ (c.in-Held-Lpi.is ∙ ap Held (rw c.in-Held-Lpi.is at c.in-Held-Lpi.field-0-is)) (codes (kind_meant (Held Lpi))) _ _ refl p.0 c.args.ends.now _ _ p.1 c.pass_line-in-Held-Lpi.ensures

pub returns-in-Metadata : goal.returns-in-Metadata
unfolding codes encoded form_encoded fields
returns-in-Metadata c = let p = c.requires in arm_passed _ _ c.in-Metadata.is (codes (kind_meant Metadata)) _ _ refl p.0 c.args.ends.now _ _ p.1 c.pass_line-in-Metadata.ensures

pub returns-in-Trailer : goal.returns-in-Trailer
unfolding codes encoded form_encoded fields
returns-in-Trailer c = let p = c.requires in arm_passed _ _ c.in-Trailer.is (codes (kind_meant Trailer)) _ _ refl p.0 c.args.ends.now _ _ p.1 c.pass_line-in-Trailer.ensures
