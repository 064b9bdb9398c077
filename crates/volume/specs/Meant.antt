-- The stages and changes that code names, as the meaning has them.
use Rattle.std.specs.Prelude as std
use Rattle.std.specs.Prelude.{Some, None}
use Rattle.std.proofs.Math.Option.{Option, none, some}
use Rattle.theory.specs.Step.{Op, ins, upd, del}
use Rattle.meaning.specs.File as meant
use Rattle.volume.specs.declared.stages.Stage.{Stage}
use Rattle.volume.specs.declared.stages.Stage.TheVariants.{AtStart, InBody, AfterMetadata, AfterTrailer}
use Rattle.volume.specs.declared.lines.Change.{Change}
use Rattle.volume.specs.declared.lines.Change.TheVariants.{Insert, Update, Delete}

-- the stage that is meant
abbrev pub stage_meant : Stage → meant.Stage
stage_meant AtStart = meant.at_start
stage_meant InBody = meant.in_body
stage_meant AfterMetadata = meant.after_metadata
stage_meant AfterTrailer = meant.after_trailer

-- the stage that was found, if any
abbrev pub stage_found : std.Option Stage → Option meant.Stage
stage_found (Some p) = some (stage_meant p)
stage_found None = none

-- the change that is meant
abbrev pub change_meant : Change → Op
change_meant Insert = ins
change_meant Update = upd
change_meant Delete = del
