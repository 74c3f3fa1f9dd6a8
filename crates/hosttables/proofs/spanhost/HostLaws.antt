-- The call in numbers, from what its parts do; and that a refused one alters no word. Assumes nothing.
use Rattle.frames.specs.declared.refusals.Refusal.{Refusal}
use Rattle.std.specs.Prelude.{Result, Err}
use mathlib.Core.Path.{◌≡◌, refl, sym, ap, ◌∙◌}
use mathlib.Core.Bool.{Bool, true, false, ◌&&◌}
use Prim.Native.Nat.{ℕ}
use Rattle.frames.specs.Cells.{Words}
use Rattle.ffi.specs.codes.Codes.{is_flag, flag_of}
use Rattle.tables.specs.Table.{After}
use Rattle.frames.specs.declared.refusals.Refusal.TheVariants.{BadOptions}
use Rattle.spans.specs.Calls.{span_call, SpanContract}
use Rattle.spans.proofs.PromiseLaws.{promises}
use Rattle.tables.specs.tableresults.Numbers.{written_host}
use Rattle.tables.specs.declared.tableresults.HostWritten.{HostWritten}
use Rattle.hosttables.specs.spanhost.Call.{bounds_of, spans_host, HostSpanContract, Kept}

module _ (lower upper : ℕ) (points intervals out : Words) where
  refused : (is_flag lower && is_flag upper) ≡ false → spans_host lower upper points intervals out ≡ record { answer = Err BadOptions; out = out }
  unfolding spans_host
  refused e = rw e

  through : (is_flag lower && is_flag upper) ≡ true → spans_host lower upper points intervals out ≡ span_call (bounds_of lower upper) points intervals out
  unfolding spans_host
  through e = rw e

  -- x and y tell whether the two are flags, z whether both are.
  module _ (x y z : Bool) (p : x ≡ is_flag lower) (q : y ≡ is_flag upper) (e : z ≡ (x && y)) where
    both_are : (is_flag lower && is_flag upper) ≡ z
    both_are = sym (e ∙ rw (p, q))

    pub host_refused : z ≡ false → (r : HostWritten) → r ≡ written_host (Err BadOptions) → HostSpanContract lower upper points intervals out r out
    host_refused t r h =
        let g = refused (both_are ∙ t) in
        record { result = h ∙ ap (λ (a : After). written_host a.answer) (sym g); words = ap (λ (a : After). a.out) (sym g) }

    pub host_through : z ≡ true → (l u : Bool) → l ≡ flag_of lower → u ≡ flag_of upper → (w : Result ℕ Refusal) (r : HostWritten) (out' : Words)
        → SpanContract (record { lower_in = l; upper_in = u }) points intervals out w out' → r ≡ written_host w
        → HostSpanContract lower upper points intervals out r out'
    host_through t l u a b w r out' s h =
        let g = through (both_are ∙ t) in
        let k : SpanContract (bounds_of lower upper) points intervals out w out' = rw (a, b) at s in
        record {
          result = h ∙ ap written_host k.answer ∙ ap (λ (a : After). written_host a.answer) (sym g);
          words = k.words ∙ ap (λ (a : After). a.out) (sym g);
        }

  -- ---- a refused call alters no word
  pub kept : Kept lower upper points intervals out
  kept n = by (is_flag lower && is_flag upper) refl
    where
      by : (t : Bool) → (is_flag lower && is_flag upper) ≡ t → (spans_host lower upper points intervals out).answer ≡ Err n → (spans_host lower upper points intervals out).out ≡ out
      by true e h =
          let g = through e in
          ap (λ (a : After). a.out) g ∙ (promises (bounds_of lower upper) points intervals out).kept n (ap (λ (a : After). a.answer) (sym g) ∙ h)
      by false e h = ap (λ (a : After). a.out) (refused e)
