-- What the readers answer, in numbers. Assumes nothing.
use Rattle.frames.specs.declared.refusals.Refusal.{Refusal}
use Rattle.std.specs.Prelude.{pos, Result, Err, Ok}
use Rattle.frames.specs.refusals.Refusals.{number}
use Rattle.readers.specs.declared.View.{View}
use Rattle.readers.specs.declared.CellWords.{CellWords}
use Rattle.hosttables.specs.declared.readhost.HostViewed.{HostViewed}
use Rattle.hosttables.specs.declared.readhost.HostCell.{HostCell}
use Rattle.hosttables.specs.declared.readhost.HostShown.{HostShown}

-- 0 and the frame's rows and columns, or the refusal's number and zeros.
abbrev pub viewed_host : Result View Refusal → HostViewed
viewed_host (Ok v) = record { refusal = 0; rows = v.rows; columns = v.columns }
viewed_host (Err r) = record { refusal = number r; rows = 0; columns = 0 }

-- The two words of a place.
abbrev pub cell_host : CellWords → HostCell
cell_host w = record { value = w.value; mark = w.mark }

-- 0, the value and the mark, or the refusal's number and zeros.
abbrev pub shown_host : Result CellWords Refusal → HostShown
shown_host (Ok w) = record { refusal = 0; value = w.value; mark = w.mark }
shown_host (Err r) = record { refusal = number r; value = pos 0; mark = pos 0 }
