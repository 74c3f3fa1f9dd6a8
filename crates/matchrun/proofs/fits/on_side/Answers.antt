use mathlib.Core.Path.{sym}
use mathlib.Core.Bool.{and-true, and-false}
use Rattle.matchrun.proofs.fits.on_side.Goals as goal

pub returns-in-Equal : goal.returns-in-Equal
returns-in-Equal c = rw (c.in-Backward.is, c.in-Equal.is) (sym (and-true c.args.eq))

pub returns-in-Greater : goal.returns-in-Greater
returns-in-Greater c = rw (c.in-Backward.is, c.in-Greater.is) (sym (and-false c.args.eq))

pub returns-in-Less-c : goal.returns-in-Less-c
returns-in-Less-c c = rw (c.in-Forward.is, c.in-Less-c.is) (sym (and-false c.args.eq))

pub returns-in-Equal-c : goal.returns-in-Equal-c
returns-in-Equal-c c = rw (c.in-Forward.is, c.in-Equal-c.is) (sym (and-true c.args.eq))
