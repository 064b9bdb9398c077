-- `in_force::last_line` meets its contract.
use mathlib.Core.Path.{ap, ◌∙◌}
use Rattle.in_force.proofs.ForceLaws.{last, last_asked, last_held, last_deleted, last_there}
use Rattle.in_force.proofs.last_line.Goals as goal

pub line_found-requires : goal.line_found-requires
line_found-requires c = search last

pub returns-in-Unnamed : goal.returns-in-Unnamed
returns-in-Unnamed c = (c.held_line.ensures.0 ∙ last_held _ _ _ _ (last_asked _ _ _ _ _ c.requires.0) c.requires.1 _ c.asked_key.ensures _ c.last_naming.ensures c.in-Unnamed.is, c.held_line.ensures.1)

pub returns-in-Deleted : goal.returns-in-Deleted
returns-in-Deleted c = (last_deleted _ _ _ _ (last_asked _ _ _ _ _ c.requires.0) c.requires.1 _ c.asked_key.ensures _ c.last_naming.ensures c.in-Deleted.is _ c.alone.ensures, ap (λ m. m.place) c.alone.ensures)

pub returns-in-Named : goal.returns-in-Named
returns-in-Named c = (c.line_found.ensures ∙ last_there _ _ _ _ (last_asked _ _ _ _ _ c.requires.0) c.requires.1 _ c.asked_key.ensures _ c.last_naming.ensures _ c.in-Named.is, tt)
