-- Demand 3 for one file: what its undo says, and that it is a sound file; that it is taken and gives the old holding back stands in Takes.
use Rattle.theory.specs.Answer.{Counts}

-- inserts and deletes exchanged
abbrev pub exchanged : Counts → Counts
exchanged n = record { inserts = n.deletes; updates = n.updates; deletes = n.inserts }
