-- What the functions over tables answer, in numbers. Assumes nothing.
use Rattle.frames.specs.declared.refusals.Refusal.{Refusal}
use Rattle.std.specs.Prelude.{Result, Ok, Err, ℕ}
use Rattle.frames.specs.refusals.Refusals.{number}
use Rattle.tables.specs.declared.tableresults.HostWritten.{HostWritten}

-- 0 and the number of rows written, or the refusal's number and 0 rows.
abbrev pub written_host : Result ℕ Refusal → HostWritten
written_host (Ok n) = record { refusal = 0; rows = n }
written_host (Err n) = record { refusal = number n; rows = 0 }
