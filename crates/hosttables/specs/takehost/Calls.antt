-- The calls over takings, in numbers. Assumes nothing.
use Rattle.frames.specs.declared.refusals.Refusal.{Refusal}
use Rattle.std.specs.Prelude.{◌≡◌, cond, ℤ, pos, Result, Err, Ok}
use Rattle.frames.specs.Cells.{Words}
use Rattle.frames.specs.refusals.Refusals.{number}
use Rattle.frames.specs.declared.refusals.Refusal.TheVariants.{BadOptions}
use Rattle.order.specs.declared.options.Options.{Options}
use Rattle.ffi.specs.hostoptions.HostOptions.{is_options, options_of}
use Rattle.ffi.specs.declared.hostoptions.HostOptions.{HostOptions}
use Rattle.takings.specs.Calls.{After, add_call, join_call}
use Rattle.takings.specs.declared.Taken.{Taken}
use Rattle.hosttables.specs.declared.takehost.HostTaken.{HostTaken}

-- 0, the rows written and the number beside the table; or the refusal's number, no row and 0.
abbrev pub taken_host : Result Taken Refusal → HostTaken
taken_host (Ok t) = record { refusal = 0; rows = t.rows; number = t.number }
taken_host (Err r) = record { refusal = number r; rows = 0; number = pos 0 }

-- Numbers that tell no options are refused by 1 before any word is looked at, and no word is altered; else all is as the call over these options leaves it.
abbrev pub under : HostOptions → (Options → After) → Words → After
under h call out = cond (is_options h) (call (options_of h)) (record { answer = Err BadOptions; out = out })

unfoldable pub add_host : HostOptions → Words → ℤ → Words → Words → Words → After
add_host h table k left answers out = under h (λ o. add_call o table k left answers out) out

unfoldable pub join_host : HostOptions → Words → ℤ → Words → ℤ → Words → After
join_host h table k other l out = under h (λ o. join_call o table k other l out) out

-- The contracts: the answer in numbers, and the words of the output afterwards.
pub record HostAddContract (h : HostOptions) (table : Words) (k : ℤ) (left answers out : Words) (r : HostTaken) (out' : Words) : Type 0 where
  pub result : r ≡ taken_host (add_host h table k left answers out).answer
  pub words : out' ≡ (add_host h table k left answers out).out

pub record HostJoinContract (h : HostOptions) (table : Words) (k : ℤ) (other : Words) (l : ℤ) (out : Words) (r : HostTaken) (out' : Words) : Type 0 where
  pub result : r ≡ taken_host (join_host h table k other l out).answer
  pub words : out' ≡ (join_host h table k other l out).out
