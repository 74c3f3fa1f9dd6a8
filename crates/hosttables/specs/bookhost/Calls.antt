-- The calls over books, in numbers. Assumes nothing.
use Rattle.std.specs.Prelude.{◌≡◌, cond, ℕ, Err}
use Rattle.frames.specs.Cells.{Words}
use Rattle.tables.specs.Table.{After}
use Rattle.frames.specs.declared.refusals.Refusal.{Refusal}
use Rattle.frames.specs.declared.refusals.Refusal.TheVariants.{BadOptions}
use Rattle.order.specs.declared.options.Options.{Options}
use Rattle.ffi.specs.hostoptions.HostOptions.{is_options, options_of}
use Rattle.ffi.specs.declared.hostoptions.HostOptions.{HostOptions}
use Rattle.books.specs.Calls.{merge_call, stand_call}
use Rattle.tables.specs.tableresults.Numbers.{written_host}
use Rattle.tables.specs.declared.tableresults.HostWritten.{HostWritten}

-- Numbers that tell no options are refused by 1 before any word is looked at, and no word is altered; else all is as the call over these options leaves it.
abbrev pub under : HostOptions → (Options → After) → Words → After
under h call out = cond (is_options h) (call (options_of h)) (record { answer = Err BadOptions; out = out })

-- ---- two books, one season
unfoldable pub merge_host : HostOptions → Words → Words → Words → After
merge_host h house festival out = under h (λ o. merge_call o house festival out) out

-- The contract: the answer in numbers, and the words of the output afterwards.
pub record HostMergeContract (h : HostOptions) (house festival out : Words) (r : HostWritten) (out' : Words) : Type 0 where
  pub result : r ≡ written_host (merge_host h house festival out).answer
  pub words : out' ≡ (merge_host h house festival out).out

-- What a host can lean on: a refused call alters no word. (Of a call that is not refused, bookmerge's Promises tell what it writes.)
abbrev pub MergeKept : HostOptions → Words → Words → Words → Type 0
MergeKept h house festival out = (n : Refusal) → (merge_host h house festival out).answer ≡ Err n → (merge_host h house festival out).out ≡ out

-- ---- which notice stands
unfoldable pub stand_host : HostOptions → ℕ → Words → Words → After
stand_host h q book out = under h (λ o. stand_call o q book out) out

pub record HostStandContract (h : HostOptions) (q : ℕ) (book out : Words) (r : HostWritten) (out' : Words) : Type 0 where
  pub result : r ≡ written_host (stand_host h q book out).answer
  pub words : out' ≡ (stand_host h q book out).out

-- A refused call alters no word. (Of a call that is not refused, noticecall's Promises tell what it writes.)
abbrev pub StandKept : HostOptions → ℕ → Words → Words → Type 0
StandKept h q book out = (n : Refusal) → (stand_host h q book out).answer ≡ Err n → (stand_host h q book out).out ≡ out
