-- The calls in numbers, from what their parts do. Assumes nothing.
use Rattle.takings.specs.declared.Taken.{Taken}
use Rattle.frames.specs.declared.refusals.Refusal.{Refusal}
use Rattle.std.specs.Prelude.{Result, Err}
use mathlib.Core.Path.{◌≡◌, sym, ap, ◌∙◌}
use mathlib.Core.Bool.{true, false}
use lib.IntN.{ℤ}
use Rattle.frames.specs.Cells.{Words}
use Rattle.order.specs.declared.options.Options.{Options}
use Rattle.frames.specs.declared.refusals.Refusal.TheVariants.{BadOptions}
use Rattle.ffi.specs.hostoptions.HostOptions.{is_options, options_of}
use Rattle.ffi.specs.declared.hostoptions.HostOptions.{HostOptions}
use Rattle.takings.specs.Calls.{After, add_call, join_call}
use Rattle.sales.specs.addcall.AddRows.{AddContract}
use Rattle.subtotals.specs.joincall.JoinRows.{JoinContract}
use Rattle.hosttables.specs.takehost.Calls.{taken_host, add_host, join_host, HostAddContract, HostJoinContract}
use Rattle.hosttables.specs.declared.takehost.HostTaken.{HostTaken}

-- ---- a frame's sales added
module _ (h : HostOptions) (table : Words) (k : ℤ) (left answers out : Words) where
  add_closed : is_options h ≡ false → add_host h table k left answers out ≡ record { answer = Err BadOptions; out = out }
  unfolding add_host
  add_closed e = rw e

  add_open : is_options h ≡ true → add_host h table k left answers out ≡ add_call (options_of h) table k left answers out
  unfolding add_host
  add_open e = rw e

  pub add_shut : is_options h ≡ false → (r : HostTaken) → r ≡ taken_host (Err BadOptions) → HostAddContract h table k left answers out r out
  add_shut e r y =
      let g = add_closed e in
      record { result = y ∙ ap (λ (a : After). taken_host a.answer) (sym g); words = ap (λ (a : After). a.out) (sym g) }

  pub add_through : is_options h ≡ true → (o : Options) → o ≡ options_of h → (w : Result Taken Refusal) (r : HostTaken) (out' : Words) → AddContract o table k left answers out w out' → r ≡ taken_host w → HostAddContract h table k left answers out r out'
  add_through e o is w r out' m y =
      let g = add_open e in
      let n : AddContract (options_of h) table k left answers out w out' = rw is at m in
      record {
        result = y ∙ ap taken_host n.answer ∙ ap (λ (a : After). taken_host a.answer) (sym g);
        words = n.words ∙ ap (λ (a : After). a.out) (sym g);
      }

-- ---- two tables joined
module _ (h : HostOptions) (table : Words) (k : ℤ) (other : Words) (l : ℤ) (out : Words) where
  join_closed : is_options h ≡ false → join_host h table k other l out ≡ record { answer = Err BadOptions; out = out }
  unfolding join_host
  join_closed e = rw e

  join_open : is_options h ≡ true → join_host h table k other l out ≡ join_call (options_of h) table k other l out
  unfolding join_host
  join_open e = rw e

  pub join_shut : is_options h ≡ false → (r : HostTaken) → r ≡ taken_host (Err BadOptions) → HostJoinContract h table k other l out r out
  join_shut e r y =
      let g = join_closed e in
      record { result = y ∙ ap (λ (a : After). taken_host a.answer) (sym g); words = ap (λ (a : After). a.out) (sym g) }

  pub join_through : is_options h ≡ true → (o : Options) → o ≡ options_of h → (w : Result Taken Refusal) (r : HostTaken) (out' : Words) → JoinContract o table k other l out w out' → r ≡ taken_host w → HostJoinContract h table k other l out r out'
  join_through e o is w r out' m y =
      let g = join_open e in
      let n : JoinContract (options_of h) table k other l out w out' = rw is at m in
      record {
        result = y ∙ ap taken_host n.answer ∙ ap (λ (a : After). taken_host a.answer) (sym g);
        words = n.words ∙ ap (λ (a : After). a.out) (sym g);
      }
