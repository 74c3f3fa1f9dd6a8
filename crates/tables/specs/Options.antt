-- What the functions over tables answer to the options alone. Assumes nothing.
use Rattle.std.specs.Prelude.{cond}
use Rattle.order.specs.options.Options.{bad_options, many_carried, bad_ranked}
use Rattle.order.specs.declared.options.Options.{Options}
use Rattle.frames.specs.declared.refusals.Refusal.{Refusal}
use Rattle.frames.specs.declared.refusals.Refusal.TheVariants.{BadOptions, TooManyCarried, BadRanks}

-- SCOPE 16.3: refusals 1, 10 and 11 are about the options alone, and come before any word is looked at; if there is none of them, the answer is a.
abbrev pub unless : {A : Type 0} → (Refusal → A) → Options → A → A
unless refused o a =
    cond (bad_options o) (refused BadOptions)
    (cond (many_carried o) (refused TooManyCarried)
    (cond (bad_ranked o) (refused BadRanks) a))
