-- The call in numbers, from what its parts do; and that a refused one alters no word. Assumes nothing.
use Rattle.frames.specs.declared.refusals.Refusal.{Refusal}
use Rattle.std.specs.Prelude.{Result, Err}
use mathlib.Core.Path.{◌≡◌, refl, sym, ap, ◌∙◌}
use mathlib.Core.Bool.{Bool, true, false}
use Prim.Native.Nat.{ℕ}
use Rattle.frames.specs.Cells.{Words}
use Rattle.order.specs.declared.options.Options.{Options}
use Rattle.tables.specs.Table.{After}
use Rattle.frames.specs.declared.refusals.Refusal.TheVariants.{BadOptions}
use Rattle.ffi.specs.codes.Codes.{flag_of}
use Rattle.ffi.specs.hostoptions.HostOptions.{options_of}
use Rattle.ffi.specs.declared.hostoptions.HostOptions.{HostOptions}
use Rattle.cutting.specs.cutcall.Calls.{cut_call, CutContract}
use Rattle.cutting.proofs.cutcall.CallLaws.{cut_answer_lem, cut_kept}
use Rattle.tables.specs.tableresults.Numbers.{written_host}
use Rattle.tables.specs.declared.tableresults.HostWritten.{HostWritten}
use Rattle.hosttables.specs.cuthost.Calls.{tells, cut_host, HostCutContract, CutKept}

module _ (h : HostOptions) (right : ℕ) (table boundaries out : Words) where
  closed : tells h right ≡ false → cut_host h right table boundaries out ≡ record { answer = Err BadOptions; out = out }
  unfolding cut_host
  closed e = rw e

  open_to : tells h right ≡ true → cut_host h right table boundaries out ≡ cut_call (options_of h) (flag_of right) table boundaries out
  unfolding cut_host
  open_to e = rw e

  pub host_shut : tells h right ≡ false → (r : HostWritten) → r ≡ written_host (Err BadOptions) → HostCutContract h right table boundaries out r out
  host_shut e r k =
      let g = closed e in
      record { result = k ∙ ap (λ (a : After). written_host a.answer) (sym g); words = ap (λ (a : After). a.out) (sym g) }

  pub host_through : tells h right ≡ true → (o : Options) → o ≡ options_of h → (b : Bool) → b ≡ flag_of right → (w : Result ℕ Refusal) (r : HostWritten) (out' : Words)
      → CutContract o b table boundaries out w out' → r ≡ written_host w → HostCutContract h right table boundaries out r out'
  host_through e o is b side w r out' m k =
      let g = open_to e in
      let n : CutContract (options_of h) (flag_of right) table boundaries out w out' = rw (is, side) at m in
      record {
        result = k ∙ ap written_host (n.answer ∙ cut_answer_lem (options_of h) (flag_of right) table boundaries out) ∙ ap (λ (a : After). written_host a.answer) (sym g);
        words = n.words ∙ ap (λ (a : After). a.out) (sym g);
      }

  -- A refused call alters no word.
  pub host_kept : CutKept h right table boundaries out
  host_kept n = by (tells h right) refl
    where
      by : (t : Bool) → tells h right ≡ t → (cut_host h right table boundaries out).answer ≡ Err n → (cut_host h right table boundaries out).out ≡ out
      by true e a =
          let g = open_to e in
          ap (λ (a : After). a.out) g ∙ cut_kept (options_of h) (flag_of right) table boundaries out n (ap (λ (a : After). a.answer) (sym g) ∙ a)
      by false e a = ap (λ (a : After). a.out) (closed e)
