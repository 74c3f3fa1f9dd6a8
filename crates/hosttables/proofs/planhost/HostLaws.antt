-- The plan in numbers, from what its parts do. Assumes nothing.
use Rattle.planning.specs.declared.Figures.{Figures}
use Rattle.frames.specs.declared.refusals.Refusal.{Refusal}
use Rattle.std.specs.Prelude.{Result, Err}
use mathlib.Core.Path.{◌≡◌, sym, ap, ◌∙◌}
use mathlib.Core.Bool.{true, false}
use Rattle.frames.specs.Cells.{Words}
use Rattle.order.specs.declared.options.Options.{Options}
use Rattle.frames.specs.declared.refusals.Refusal.TheVariants.{BadOptions}
use Rattle.ffi.specs.hostoptions.HostOptions.{is_options, options_of}
use Rattle.ffi.specs.declared.hostoptions.HostOptions.{HostOptions}
use Rattle.planning.specs.Call.{plan_call}
use Rattle.hosttables.specs.planhost.Call.{planned_host, plan_host}
use Rattle.hosttables.specs.declared.planhost.HostPlanned.{HostPlanned}

module _ (h : HostOptions) (left right hl hr : Words) where
  shut : is_options h ≡ false → plan_host h left right hl hr ≡ Err BadOptions
  unfolding plan_host
  shut e = rw e

  through : is_options h ≡ true → plan_host h left right hl hr ≡ plan_call (options_of h) left right hl hr
  unfolding plan_host
  through e = rw e

  pub plan_shut : is_options h ≡ false → (r : HostPlanned) → r ≡ planned_host (Err BadOptions) → r ≡ planned_host (plan_host h left right hl hr)
  plan_shut e r k = k ∙ ap planned_host (sym (shut e))

  pub plan_through : is_options h ≡ true → (o : Options) → o ≡ options_of h → (p : Result Figures Refusal) (r : HostPlanned) → p ≡ plan_call o left right hl hr → r ≡ planned_host p
      → r ≡ planned_host (plan_host h left right hl hr)
  plan_through e o is p r m k = let n : p ≡ plan_call (options_of h) left right hl hr = rw is at m in k ∙ ap planned_host (n ∙ sym (through e))
