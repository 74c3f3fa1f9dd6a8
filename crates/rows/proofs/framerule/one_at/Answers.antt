-- `framerule::one_at` meets its contract. Assumes nothing.
use Rattle.std.proofs.Common.{get_or, pos, lit<, rules}
use Rattle.frames.proofs.FrontLaws.{word_flag}
use Rattle.rows.proofs.framerule.one_at.Goals as goal

pub returns : goal.returns
returns c = let a = c.args in word_flag (get_or a.marks.now a.k (pos 0)) 1 (record { sfits = c.result-1.given }) (lit< tt)
