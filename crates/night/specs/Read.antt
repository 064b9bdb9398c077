-- What was read of a file, to its end or not.
use Rattle.std.specs.Prelude.{ℕ, Result, Ok, Err}
use Rattle.night.specs.declared.input.Unreadable.{Unreadable}

-- how many bytes of it stand in the buffer
abbrev pub size_read : Result ℕ Unreadable → ℕ
size_read (Ok n) = n
size_read (Err u) = u.size
