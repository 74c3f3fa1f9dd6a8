-- What a host can rely on of the calls over takings. Assumes nothing.
use Rattle.std.specs.Prelude.{◌≡◌, ℕ, ℤ, drop, Err, Ok}
use Rattle.frames.specs.Cells.{Words}
use Rattle.frames.specs.Frame.{frame_words}
use Rattle.order.specs.declared.options.Options.{Options}
use Rattle.frames.specs.declared.refusals.Refusal.{Refusal}
use Rattle.takings.specs.Calls.{After, table_width, add_call, join_call}
use Rattle.takings.specs.declared.Taken.{Taken}
use Rattle.takings.specs.Calls.{taken_of}

-- SCOPE 19.33: a refused call alters no word of the output; a call that writes a table of n rows alters no word after it.
pub record Kept (o : Options) (out : Words) (after : After) : Type 0 where
  pub refused : (r : Refusal) → after.answer ≡ Err r → after.out ≡ out
  pub rest : (n : ℕ) (k : ℤ) → after.answer ≡ Ok (taken_of n k)
      → drop (frame_words n (table_width o)) after.out ≡ drop (frame_words n (table_width o)) out

-- So it is with both calls, for any options and words.
pub record Promises (o : Options) (table : Words) (k : ℤ) (out : Words) : Type 0 where
  pub add_kept : (left answer : Words) → Kept o out (add_call o table k left answer out)
  pub join_kept : (other : Words) (l : ℤ) → Kept o out (join_call o table k other l out)
