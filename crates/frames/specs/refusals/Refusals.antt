-- The refusals by number, and which of them mark a join failed. Assumes nothing.
use Rattle.std.specs.Prelude.{Bool, ◌||◌, ℕ, eqb}
use Rattle.frames.specs.declared.refusals.Refusal.{Refusal}
use Rattle.frames.specs.declared.refusals.Refusal.TheVariants.{BadOptions, BadJoin, Failed, Closed, BadFrame, NoRoom, UsedUp, LeftOrder, RightOrder, TooManyCarried, BadRanks, UnknownCode, BadColumns, Unsorted, Beyond, BadPoints, BadHeights, BadBoundaries}

-- SCOPE 16: the number of each. A call's checking order is another matter: it is that of the tests in the call's answer.
abbrev pub number : Refusal → ℕ
number BadOptions = 1
number BadJoin = 2
number Failed = 3
number Closed = 4
number BadFrame = 5
number NoRoom = 6
number UsedUp = 7
number LeftOrder = 8
number RightOrder = 9
number TooManyCarried = 10
number BadRanks = 11
number UnknownCode = 12
number BadColumns = 13
number Unsorted = 14
number Beyond = 15
number BadPoints = 16
number BadHeights = 17
number BadBoundaries = 18

-- SCOPE 16.2: the refusals that mark a join failed, 8 and 9.
abbrev pub marks_failed : Refusal → Bool
marks_failed n = eqb (number n) 8 || eqb (number n) 9
