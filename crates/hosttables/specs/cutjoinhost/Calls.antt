-- Two sorted tables joined pair by pair at boundaries, in numbers. Assumes nothing.
use Rattle.std.specs.Prelude.{◌≡◌, cond, ℕ, Err}
use Rattle.frames.specs.Cells.{Words}
use Rattle.tables.specs.Table.{After}
use Rattle.frames.specs.declared.refusals.Refusal.{Refusal}
use Rattle.frames.specs.declared.refusals.Refusal.TheVariants.{BadOptions}
use Rattle.ffi.specs.hostoptions.HostOptions.{is_options, options_of}
use Rattle.ffi.specs.declared.hostoptions.HostOptions.{HostOptions}
use Rattle.cutting.specs.cutpairs.Driver.{join_call}
use Rattle.tables.specs.tableresults.Numbers.{written_host}
use Rattle.tables.specs.declared.tableresults.HostWritten.{HostWritten}

-- Numbers that tell no options are refused by 1 before any word is looked at, and no word is altered.
unfoldable pub pairs_host : HostOptions → Words → Words → Words → ℕ → ℕ → Words → After
pairs_host h left right boundaries l r out = cond (is_options h) (join_call (options_of h) left right boundaries l r out) (record { answer = Err BadOptions; out = out })

-- The contract: the answer in numbers, and the words of the output afterwards. Of the areas only the lengths count, l and r words.
pub record HostPairsContract (h : HostOptions) (left right boundaries : Words) (l r : ℕ) (out : Words) (z : HostWritten) (out' : Words) : Type 0 where
  pub result : z ≡ written_host (pairs_host h left right boundaries l r out).answer
  pub words : out' ≡ (pairs_host h left right boundaries l r out).out

-- What a host can lean on: a refused call alters no word.
abbrev pub PairsKept : HostOptions → Words → Words → Words → ℕ → ℕ → Words → Type 0
PairsKept h left right boundaries l r out = (n : Refusal) → (pairs_host h left right boundaries l r out).answer ≡ Err n → (pairs_host h left right boundaries l r out).out ≡ out
