-- The calls in numbers, from what their parts do; and that a refused one alters no word. Assumes nothing.
use Rattle.frames.specs.declared.refusals.Refusal.{Refusal}
use Rattle.std.specs.Prelude.{Result, Err}
use mathlib.Core.Path.{◌≡◌, refl, sym, ap, ◌∙◌}
use mathlib.Core.Bool.{Bool, true, false}
use Prim.Native.Nat.{ℕ}
use Rattle.frames.specs.Cells.{Words}
use Rattle.order.specs.declared.options.Options.{Options}
use Rattle.tables.specs.Table.{After}
use Rattle.frames.specs.declared.refusals.Refusal.TheVariants.{BadOptions}
use Rattle.ffi.specs.hostoptions.HostOptions.{is_options, options_of}
use Rattle.ffi.specs.declared.hostoptions.HostOptions.{HostOptions}
use Rattle.books.specs.Calls.{merge_call, MergeContract, stand_call, StandContract}
use Rattle.books.proofs.bookmerge.PromiseLaws.{promises}
use Rattle.books.proofs.noticecall.PromiseLaws.{promises as stand-promises}
use Rattle.tables.specs.tableresults.Numbers.{written_host}
use Rattle.tables.specs.declared.tableresults.HostWritten.{HostWritten}
use Rattle.hosttables.specs.bookhost.Calls.{merge_host, HostMergeContract, MergeKept, stand_host, HostStandContract, StandKept}

-- ---- two books merged
module _ (h : HostOptions) (house festival out : Words) where
  shut : is_options h ≡ false → merge_host h house festival out ≡ record { answer = Err BadOptions; out = out }
  unfolding merge_host
  shut e = rw e

  through : is_options h ≡ true → merge_host h house festival out ≡ merge_call (options_of h) house festival out
  unfolding merge_host
  through e = rw e

  pub merge_shut : is_options h ≡ false → (r : HostWritten) → r ≡ written_host (Err BadOptions) → HostMergeContract h house festival out r out
  merge_shut e r k =
      let g = shut e in
      record { result = k ∙ ap (λ (a : After). written_host a.answer) (sym g); words = ap (λ (a : After). a.out) (sym g) }

  pub merge_through : is_options h ≡ true → (o : Options) → o ≡ options_of h → (w : Result ℕ Refusal) (r : HostWritten) (out' : Words)
      → MergeContract o house festival out w out' → r ≡ written_host w → HostMergeContract h house festival out r out'
  merge_through e o is w r out' m k =
      let g = through e in
      let n : MergeContract (options_of h) house festival out w out' = rw is at m in
      record {
        result = k ∙ ap written_host n.answer ∙ ap (λ (a : After). written_host a.answer) (sym g);
        words = n.words ∙ ap (λ (a : After). a.out) (sym g);
      }

  -- A refused call alters no word.
  pub merge_kept : MergeKept h house festival out
  merge_kept n = by (is_options h) refl
    where
      by : (t : Bool) → is_options h ≡ t → (merge_host h house festival out).answer ≡ Err n → (merge_host h house festival out).out ≡ out
      by true e a =
          let g = through e in
          ap (λ (a : After). a.out) g ∙ (promises (options_of h) house festival out).kept n (ap (λ (a : After). a.answer) (sym g) ∙ a)
      by false e a = ap (λ (a : After). a.out) (shut e)

-- ---- which notice stands
module _ (h : HostOptions) (q : ℕ) (book out : Words) where
  stand_closed : is_options h ≡ false → stand_host h q book out ≡ record { answer = Err BadOptions; out = out }
  unfolding stand_host
  stand_closed e = rw e

  stand_open : is_options h ≡ true → stand_host h q book out ≡ stand_call (options_of h) q book out
  unfolding stand_host
  stand_open e = rw e

  pub stand_shut : is_options h ≡ false → (r : HostWritten) → r ≡ written_host (Err BadOptions) → HostStandContract h q book out r out
  stand_shut e r k =
      let g = stand_closed e in
      record { result = k ∙ ap (λ (a : After). written_host a.answer) (sym g); words = ap (λ (a : After). a.out) (sym g) }

  pub stand_through : is_options h ≡ true → (o : Options) → o ≡ options_of h → (w : Result ℕ Refusal) (r : HostWritten) (out' : Words)
      → StandContract o q book out w out' → r ≡ written_host w → HostStandContract h q book out r out'
  stand_through e o is w r out' m k =
      let g = stand_open e in
      let n : StandContract (options_of h) q book out w out' = rw is at m in
      record {
        result = k ∙ ap written_host n.answer ∙ ap (λ (a : After). written_host a.answer) (sym g);
        words = n.words ∙ ap (λ (a : After). a.out) (sym g);
      }

  -- A refused call alters no word.
  pub stand_kept : StandKept h q book out
  stand_kept n = by (is_options h) refl
    where
      by : (t : Bool) → is_options h ≡ t → (stand_host h q book out).answer ≡ Err n → (stand_host h q book out).out ≡ out
      by true e a =
          let g = stand_open e in
          ap (λ (a : After). a.out) g ∙ (stand-promises (options_of h) q book out).kept n (ap (λ (a : After). a.answer) (sym g) ∙ a)
      by false e a = ap (λ (a : After). a.out) (stand_closed e)
