-- Where a table is cut, in numbers. Assumes nothing.
use Rattle.std.specs.Prelude.{◌≡◌, Bool, cond, ◌&&◌, ℕ, Err}
use Rattle.frames.specs.Cells.{Words}
use Rattle.tables.specs.Table.{After}
use Rattle.frames.specs.declared.refusals.Refusal.{Refusal}
use Rattle.frames.specs.declared.refusals.Refusal.TheVariants.{BadOptions}
use Rattle.ffi.specs.codes.Codes.{is_flag, flag_of}
use Rattle.ffi.specs.hostoptions.HostOptions.{is_options, options_of}
use Rattle.ffi.specs.declared.hostoptions.HostOptions.{HostOptions}
use Rattle.cutting.specs.cutcall.Calls.{cut_call}
use Rattle.tables.specs.tableresults.Numbers.{written_host}
use Rattle.tables.specs.declared.tableresults.HostWritten.{HostWritten}

-- Numbers that tell no options, or a side that is neither 0, left, nor 1, right, are refused by 1 before any word is looked at, and no word is altered.
abbrev pub tells : HostOptions → ℕ → Bool
tells h right = is_options h && is_flag right

unfoldable pub cut_host : HostOptions → ℕ → Words → Words → Words → After
cut_host h right table boundaries out = cond (tells h right) (cut_call (options_of h) (flag_of right) table boundaries out) (record { answer = Err BadOptions; out = out })

-- The contract: the answer in numbers, and the words of the output afterwards.
pub record HostCutContract (h : HostOptions) (right : ℕ) (table boundaries out : Words) (r : HostWritten) (out' : Words) : Type 0 where
  pub result : r ≡ written_host (cut_host h right table boundaries out).answer
  pub words : out' ≡ (cut_host h right table boundaries out).out

-- What a host can lean on: a refused call alters no word.
abbrev pub CutKept : HostOptions → ℕ → Words → Words → Words → Type 0
CutKept h right table boundaries out = (n : Refusal) → (cut_host h right table boundaries out).answer ≡ Err n → (cut_host h right table boundaries out).out ≡ out
