-- `heights::is_height` meets its contract. Assumes nothing.
use mathlib.Core.Path.{◌≡◌, sym}
use mathlib.Core.Bool.{true}
use native.Mathlib.Omega.{arith}
use mir.Facts.{to_z-of_z}
use Rattle.frames.specs.Front.{few_rows}
use Rattle.planning.proofs.HeightLaws.{within_negative, within_many, within_count, few_within, few_word}
use Rattle.planning.proofs.heights.is_height.Statement.{statement}
use Rattle.planning.proofs.heights.is_height.Tie as tie

returns : tie.Need-returns-then-word-lt0
returns c = sym (within_negative c.args.left c.args.word (rw (to_z-of_z c.ranges.word) at c.if-word-lt0.true))

returns-2 : tie.Need-returns-then-word-gt4096
returns-2 c = let s = c in sym (within_many s.args.left s.args.word (rw (to_z-of_z s.ranges.word) at c.if-word-gt4096.true))

-- The word is a number of rows.
few : (c : tie.Else-word-gt4096) → few_rows c.args.word ≡ true
few c =
    let s = c in
    let f = to_z-of_z s.ranges.word in
    few_within s.args.word (rw f at c.if-word-lt0.false) (rw f at c.if-word-gt4096.false)

cast-result : tie.Need-overflow_cast-result
cast-result c = let s = c in let f = few_word s.args.word (few c) in rw (to_z-of_z s.ranges.word) (f.0, omega (arith, f.1))

returns-3 : tie.Need-returns
returns-3 c = let s = c in rw (to_z-of_z s.ranges.word) (within_count s.args.left s.args.word (few c))

pub is_height_spec : {M : Type 1} → statement M
is_height_spec = tie.close (tie.spec returns returns-2 cast-result returns-3)
