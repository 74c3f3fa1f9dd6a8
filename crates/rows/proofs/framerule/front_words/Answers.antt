-- `framerule::front_words` meets its contract. Assumes nothing.
use Rattle.std.specs.Prelude.{Some}
use Rattle.std.proofs.Common.{◌≡◌, sym, ◌∙◌, length-take-le, rules}
use Rattle.frames.specs.Front.{front_length}
use Rattle.frames.proofs.FrontLaws.{front_found, front_none, front_yes, front_no}
use Rattle.rows.proofs.framerule.front_words.Goals as goal

pub returns-in_default : goal.returns-in_default
returns-in_default c = sym (front_none _ _ (sym c.front_length.ensures ∙ c.in_default.is))

-- the length that was found, and what it says
found : (c : goal.In-Some) → let a = c.args in front_length a.c a.waiting.now ≡ Some c.in-Some.k
found c = sym c.front_length.ensures ∙ c.in-Some.is

pub slice_bounds-is_frame-end : goal.slice_bounds-is_frame-end
slice_bounds-is_frame-end c = sym (length-take-le _ _ (front_found _ _ _ (found c)).2)

pub returns-then-is_frame : goal.returns-then-is_frame
returns-then-is_frame c = sym (front_yes _ _ _ (found c.before.before) (sym c.is_frame.ensures ∙ c.if-is_frame.true))

pub returns : goal.returns
returns c = sym (front_no _ _ _ (found c.before.before) (sym c.is_frame.ensures ∙ c.if-is_frame.false))
