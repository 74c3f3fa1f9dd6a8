-- How many words stand before the rows of full frames: two for each frame. Assumes nothing.
use Rattle.std.specs.Prelude.{cond, ℕ, ◌+◌, ◌*◌, ◌/◌, ◌%◌, eqb}

abbrev pub head_words : ℕ → ℕ
head_words n = 2 * (n / 4096) + cond (eqb (n % 4096) 0) 0 2
