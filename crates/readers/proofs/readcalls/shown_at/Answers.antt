-- `readcalls::shown_at` meets its contract. Assumes nothing.
use mathlib.Core.Path.{sym, ◌∙◌}
use native.Mathlib.Omega.{arith}
use borrow.Author.Tests.{leb-true}
use Rattle.readers.specs.Places.{Place}
use Rattle.readers.proofs.PlaceLaws.{shown_below, shown_beside, shown_short, shown_inside}
use borrow.Author.Rules.{rules}
use Rattle.readers.proofs.readcalls.shown_at.Goals as goal

-- Past the three tests the place is there.
there : (c : goal.Then-has_room) → let a = c.args in Place a.rows a.columns a.frame.now a.row a.column
there c = record {
  among_rows = c.if-row-rows.true;
  among_columns = c.if-column-columns.true;
  long = leb-true _ _ (sym c.has_room.ensures ∙ c.if-has_room.true);
}

pub place_words-requires : goal.place_words-requires
place_words-requires c = there c

pub returns-then-has_room : goal.returns-then-has_room
returns-then-has_room c = c.place_words.ensures ∙ sym (shown_inside _ _ _ _ _ (there c.before))

pub returns-else-has_room : goal.returns-else-has_room
returns-else-has_room c =
    let d = c in
    sym (shown_short _ _ _ _ _ d.if-row-rows.true d.if-column-columns.true (sym d.has_room.ensures ∙ c.if-has_room.false))

pub returns-else-column-columns : goal.returns-else-column-columns
returns-else-column-columns c = sym (shown_beside _ _ _ _ _ c.if-row-rows.true (omega (arith, c.if-column-columns.false)))

pub returns-else-row-rows : goal.returns-else-row-rows
returns-else-row-rows c = sym (shown_below _ _ _ _ _ (omega (arith, c.if-row-rows.false)))
