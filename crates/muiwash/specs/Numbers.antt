-- What C finds in the arrays and buffers that it lent, by the meaning's definitions.
use Rattle.std.specs.Prelude.{◌≡◌, List, [], ◌∷◌, ℕ}
use Rattle.meaning.specs.Table.{scottish}
use Rattle.meaning.specs.Load.{load_file}
use Rattle.meaning.specs.Enquiries.{Slice, first, second, Found}
use Rattle.meaning.specs.Answers.{number_list}

-- an enquiry's numbers in their order: code, line, field, and the part's start and length
abbrev pub part_list : Found → List ℕ
part_list f = f.answer.code ∷ f.answer.line ∷ f.answer.field ∷ f.start ∷ f.size ∷ []

-- the slice in which a part stands, as a number: 0 for the holding, 1 for the file
abbrev pub side_of : Slice → ℕ
side_of first = 0
side_of second = 1

-- the same with the side, where a part stands in either of two slices
abbrev pub sided_list : Found → List ℕ
sided_list f = f.answer.code ∷ f.answer.line ∷ f.answer.field ∷ side_of f.slice ∷ f.start ∷ f.size ∷ []

-- what load leaves in its two buffers, of `room` and `undo_room` bytes, and in its answer
abbrev pub Loads : List ℕ → List ℕ → ℕ → ℕ → List ℕ → List ℕ → List ℕ → Type 0
Loads old file room undo_room out undo answer =
    (answer ≡ number_list (load_file scottish old file room undo_room).answer) × (out ≡ (load_file scottish old file room undo_room).output)
    × (undo ≡ (load_file scottish old file room undo_room).undo)
