use mir.Syntax.{w64}
use mir.ValLaws.{to_z_pos}
use borrow.Author.Rules.{rules}
use Rattle.tables.proofs.put_head.Goals as goal

-- src/lib.rt:38:1
pub returns : goal.returns
returns c = let s = c in rw (to_z_pos w64 s.args.n s.requires.rows, to_z_pos w64 s.args.c s.requires.columns)
