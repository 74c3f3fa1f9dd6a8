-- The plan of two tables, in numbers. Assumes nothing.
use Rattle.planning.specs.declared.Figures.{Figures}
use Rattle.frames.specs.declared.refusals.Refusal.{Refusal}
use Rattle.std.specs.Prelude.{cond, Result, Ok, Err}
use Rattle.frames.specs.Cells.{Words}
use Rattle.frames.specs.refusals.Refusals.{number}
use Rattle.frames.specs.declared.refusals.Refusal.TheVariants.{BadOptions}
use Rattle.ffi.specs.hostoptions.HostOptions.{is_options, options_of}
use Rattle.ffi.specs.declared.hostoptions.HostOptions.{HostOptions}
use Rattle.planning.specs.Call.{plan_call}
use Rattle.hosttables.specs.declared.planhost.HostPlanned.{HostPlanned}

-- The answer in numbers.
abbrev pub planned_host : Result Figures Refusal → HostPlanned
planned_host (Ok p) = record { refusal = 0; rows = p.rows; turns = p.turns; rights = p.rights }
planned_host (Err n) = record { refusal = number n; rows = 0; turns = 0; rights = 0 }

-- Numbers that tell no options are refused by 1 before any word is looked at; else the answer is that of the call over these options.
unfoldable pub plan_host : HostOptions → Words → Words → Words → Words → Result Figures Refusal
plan_host h left right hl hr = cond (is_options h) (plan_call (options_of h) left right hl hr) (Err BadOptions)
