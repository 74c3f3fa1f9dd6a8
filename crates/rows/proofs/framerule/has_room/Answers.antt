-- `framerule::has_room` meets its contract. Assumes nothing.
use Rattle.std.proofs.Common.{sym, ◌∙◌, rules}
use Rattle.frames.proofs.FrontLaws.{fitting_some, fitting_none}
use Rattle.rows.proofs.framerule.has_room.Goals as goal

pub returns-in-Some : goal.returns-in-Some
returns-in-Some c = sym (fitting_some _ _ _ _ (sym c.frame_words.ensures ∙ c.in-Some.is))

pub returns-in-None : goal.returns-in-None
returns-in-None c = sym (fitting_none _ _ _ (sym c.frame_words.ensures ∙ c.in-None.is))
