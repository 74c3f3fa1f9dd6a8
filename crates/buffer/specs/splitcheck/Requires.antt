-- What the functions of splitcheck require of their arguments. Assumes nothing.
use Rattle.std.specs.Prelude.{◌≡◌, ℕ, ◌+◌, ◌*◌, ◌≤◌, ◌<◌, length, Option, Some}
use Rattle.frames.specs.Cells.{Words}
use Rattle.order.specs.Requires.{RowsIn}
use Rattle.order.specs.options.Options.{Few}
use Rattle.order.specs.declared.options.Options.{Options}

-- Of what is found, a row of w words that is there; c words are remembered.
pub record BeforeIn (c w : ℕ) (found : Option ℕ) (held remembered : Words) : Type 0 where
  pub inside : (i : ℕ) → found ≡ Some i → i * w + w ≤ length held
  pub other : c ≤ length remembered

-- The row found is there, w words wide with the key among them, and the options are such that rows compare.
pub record FoundIn (o : Options) (w : ℕ) (found : Option ℕ) (vs ms : Words) : Type 0 where
  pub few : Few o
  pub wide : o.by < w
  pub values : (i : ℕ) → found ≡ Some i → i * w + w ≤ length vs
  pub marks : (i : ℕ) → found ≡ Some i → i * w + w ≤ length ms

-- The row found is one of n.
abbrev pub FoundAmong : Option ℕ → ℕ → Type 0
FoundAmong found n = (i : ℕ) → found ≡ Some i → i < n

-- n rows are there, and s is a place among them or their end.
pub record SplitIn (o : Options) (s w n : ℕ) (vs ms : Words) : Type 0 where
  pub rows : RowsIn o w n vs ms
  pub place : s ≤ n
