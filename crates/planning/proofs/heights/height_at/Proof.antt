-- `heights::height_at` meets its contract. Assumes nothing.
use native.Mathlib.Omega.{arith}
use lib.IntN.{pos}
use lib.ListN.{get_or}
use Rattle.frames.proofs.Signed.{back}
use Rattle.planning.proofs.HeightLaws.{few_word}
use borrow.Author.Rules.{rules}
use Rattle.planning.proofs.heights.height_at.Statement.{statement}
use Rattle.planning.proofs.heights.height_at.Tie as tie

mul-result : tie.Need-offset_bounds-heights-i
mul-result c = search rules

shared-slice-copy-out-result : tie.Need-bounds-heights-i
shared-slice-copy-out-result c = search rules

cast-result : tie.Need-overflow_cast-result
cast-result c =
    let s = c in
    let z = get_or s.args.heights.now s.args.i (pos 0) in
    let f = few_word z s.requires.few in
    rw (back z c.result-1.given) (f.0, omega (arith, f.1))

returns : tie.Need-returns
returns c = search rules

pub height_at_spec : {M : Type 1} → statement M
height_at_spec = tie.close (tie.spec mul-result shared-slice-copy-out-result cast-result returns)
