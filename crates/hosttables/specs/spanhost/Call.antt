-- The call over points and intervals, in numbers. Assumes nothing.
use Rattle.std.specs.Prelude.{◌≡◌, cond, ◌&&◌, ℕ, Err}
use Rattle.frames.specs.Cells.{Words}
use Rattle.ffi.specs.codes.Codes.{is_flag, flag_of}
use Rattle.tables.specs.Table.{After}
use Rattle.frames.specs.declared.refusals.Refusal.{Refusal}
use Rattle.frames.specs.declared.refusals.Refusal.TheVariants.{BadOptions}
use Rattle.spans.specs.Calls.{span_call}
use Rattle.spans.specs.declared.Bounds.{Bounds}
use Rattle.tables.specs.tableresults.Numbers.{written_host}
use Rattle.tables.specs.declared.tableresults.HostWritten.{HostWritten}

-- What two flags say of the bounds: 1 is inclusive.
abbrev pub bounds_of : ℕ → ℕ → Bounds
bounds_of lower upper = record { lower_in = flag_of lower; upper_in = flag_of upper }

-- Flags that are neither 0 nor 1 are refused by 1 before any word is looked at, and no word is altered; else all is as the call over these bounds leaves it.
unfoldable pub spans_host : ℕ → ℕ → Words → Words → Words → After
spans_host lower upper points intervals out =
    cond (is_flag lower && is_flag upper) (span_call (bounds_of lower upper) points intervals out)
    (record { answer = Err BadOptions; out = out })

-- The contract: the answer in numbers, and the words of the output afterwards.
pub record HostSpanContract (lower upper : ℕ) (points intervals out : Words) (r : HostWritten) (out' : Words) : Type 0 where
  pub result : r ≡ written_host (spans_host lower upper points intervals out).answer
  pub words : out' ≡ (spans_host lower upper points intervals out).out

-- What a host can lean on: a refused call alters no word. (Of a call that is not refused, spans' Promises tells what it writes.)
abbrev pub Kept : ℕ → ℕ → Words → Words → Words → Type 0
Kept lower upper points intervals out = (n : Refusal) → (spans_host lower upper points intervals out).answer ≡ Err n → (spans_host lower upper points intervals out).out ≡ out
