-- What an enquiry finds, as code answers it: number by number.
use Rattle.std.specs.Prelude.{Result, Ok, Err}
use Rattle.meaning.specs.Answers.{no_fault}
use Rattle.meaning.specs.Enquiries.{Slice, first, second, Found, refusal}
use Rattle.answers.specs.declared.refusal.Refusal.{Refusal}
use Rattle.answers.specs.Meant.{refusal_meant}
use Rattle.enquiries.specs.declared.finding.Side.{Side}
use Rattle.enquiries.specs.declared.finding.Side.TheVariants.{Holding, File}
use Rattle.enquiries.specs.declared.finding.Part.{Part}

-- the slice that is meant
abbrev pub slice_meant : Side → Slice
slice_meant Holding = first
slice_meant File = second

-- the part that is meant
abbrev pub part_meant : Part → Found
part_meant p = record { answer = no_fault; slice = slice_meant p.side; start = p.start; size = p.size }

-- what is found, or refused
abbrev pub found_said : Result Part Refusal → Found
found_said (Ok p) = part_meant p
found_said (Err r) = refusal (refusal_meant r)
