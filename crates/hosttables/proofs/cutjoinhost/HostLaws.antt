-- The call in numbers, from what its parts do; and that a refused one alters no word. Assumes nothing.
use Rattle.frames.specs.declared.refusals.Refusal.{Refusal}
use Rattle.std.specs.Prelude.{Result, Err}
use mathlib.Core.Path.{◌≡◌, refl, sym, ap, ◌∙◌}
use mathlib.Core.Bool.{Bool, true, false}
use Prim.Native.Nat.{ℕ}
use Rattle.frames.specs.Cells.{Words}
use Rattle.order.specs.declared.options.Options.{Options}
use Rattle.tables.specs.Table.{After}
use Rattle.frames.specs.declared.refusals.Refusal.TheVariants.{BadOptions}
use Rattle.ffi.specs.hostoptions.HostOptions.{is_options, options_of}
use Rattle.ffi.specs.declared.hostoptions.HostOptions.{HostOptions}
use Rattle.cutting.specs.cutpairs.Driver.{join_call, JoinContract}
use Rattle.cutting.proofs.cutjoin.CallLaws.{join_answer_lem, join_kept}
use Rattle.tables.specs.tableresults.Numbers.{written_host}
use Rattle.tables.specs.declared.tableresults.HostWritten.{HostWritten}
use Rattle.hosttables.specs.cutjoinhost.Calls.{pairs_host, HostPairsContract, PairsKept}

module _ (h : HostOptions) (left right boundaries : Words) (l r : ℕ) (out : Words) where
  abbrev told : After
  told = pairs_host h left right boundaries l r out

  closed : is_options h ≡ false → told ≡ record { answer = Err BadOptions; out = out }
  unfolding pairs_host
  closed e = rw e

  open_to : is_options h ≡ true → told ≡ join_call (options_of h) left right boundaries l r out
  unfolding pairs_host
  open_to e = rw e

  pub host_shut : is_options h ≡ false → (z : HostWritten) → z ≡ written_host (Err BadOptions) → HostPairsContract h left right boundaries l r out z out
  host_shut e z k =
      let g = closed e in
      record { result = k ∙ ap (λ (a : After). written_host a.answer) (sym g); words = ap (λ (a : After). a.out) (sym g) }

  pub host_through : is_options h ≡ true → (o : Options) → o ≡ options_of h → (w : Result ℕ Refusal) (z : HostWritten) (out' : Words) → JoinContract o left right boundaries l r out w out' → z ≡ written_host w
      → HostPairsContract h left right boundaries l r out z out'
  host_through e o is w z out' m k =
      let g = open_to e in
      let n : JoinContract (options_of h) left right boundaries l r out w out' = rw is at m in
      record {
        result = k ∙ ap written_host (n.answer ∙ join_answer_lem (options_of h) left right boundaries l r out) ∙ ap (λ (a : After). written_host a.answer) (sym g);
        words = n.words ∙ ap (λ (a : After). a.out) (sym g);
      }

  -- A refused call alters no word.
  pub host_kept : PairsKept h left right boundaries l r out
  host_kept n = by (is_options h) refl
    where
      by : (t : Bool) → is_options h ≡ t → told.answer ≡ Err n → told.out ≡ out
      by true e a =
          let g = open_to e in
          ap (λ (a : After). a.out) g ∙ join_kept (options_of h) left right boundaries l r out n (ap (λ (a : After). a.answer) (sym g) ∙ a)
      by false e a = ap (λ (a : After). a.out) (closed e)
