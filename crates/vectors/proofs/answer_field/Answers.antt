-- `vectors::answer_field` meets its contract: field k + 1 is there, for k is below the kind's count.
use Rattle.std.proofs.Common.{rules}
use Rattle.layout.proofs.CheckLaws.{count_there}
use Rattle.vectors.proofs.answer_field.Goals as goal

pub sound_at-requires : goal.sound_at-requires
sound_at-requires g c = search (rules, count_there)

pub malformed_at-fault-requires : goal.malformed_at-fault-requires
malformed_at-fault-requires g c = search (rules, count_there)
