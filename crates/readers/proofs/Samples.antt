-- Places of small frames, by computation: made by hand from the sentences of the request. Assumes nothing.
use Rattle.frames.specs.declared.refusals.Refusal.{Refusal}
use Rattle.std.specs.Prelude.{Result, Err, Ok}
use mathlib.Core.Path.{◌≡◌, refl}
use mathlib.Core.List.{List, [], ◌∷◌, map}
use Prim.Native.Nat.{ℕ, ◌-◌, ◌^◌}
use lib.IntN.{pos, negsuc}
use Rattle.frames.specs.Cells.{rows_of, cells_of, Words}
use Rattle.frames.specs.Frame.{is_table, is_frame, pairs_fine, frame_rows}
use Rattle.frames.specs.refusals.Refusals.{number}
use Rattle.readers.specs.declared.CellWords.{CellWords}
use Rattle.readers.specs.Reader.{words_shown}
use Rattle.readers.specs.Reader.{framed, plain_knows, distance_knows, view_by, read_by, read_plain, read_distance}
use Rattle.readers.specs.Places.{shown_at}

abbrev ws : List ℕ → Words
ws ns = map pos ns

-- A place as three numbers: refusal, value and mark.
abbrev told : Result CellWords Refusal → Words
told (Ok w) = pos 0 ∷ w.value ∷ w.mark ∷ []
told (Err n) = pos (number n) ∷ pos 0 ∷ pos 0 ∷ []

abbrev shows : ℕ → ℕ → Words
shows v m = ws (0 ∷ v ∷ m ∷ [])

abbrev refuses : ℕ → Words
refuses n = ws (n ∷ 0 ∷ 0 ∷ [])

pub record Case : Type 0 where
  pub plain : Words
  pub distance : Words

-- What the plain and the distance reader, given p, show of a place of words.
abbrev read : ℕ → Words → ℕ → ℕ → Case
read p f row column = record { plain = told (read_plain p f row column); distance = told (read_distance p f row column) }

abbrev both : Words → Words → Case
both a b = record { plain = a; distance = b }

-- Two rows of p = 1: (2, 201) and none. With the distance: (2, 201, 5) and none.
abbrev priced : Words
priced = ws (2 ∷ 2 ∷ 2 ∷ 201 ∷ 0 ∷ 0 ∷ 1 ∷ 1 ∷ 0 ∷ 0 ∷ [])

abbrev far : Words
far = ws (2 ∷ 3 ∷ 2 ∷ 201 ∷ 5 ∷ 0 ∷ 0 ∷ 0 ∷ 1 ∷ 1 ∷ 1 ∷ 0 ∷ 0 ∷ 0 ∷ [])

abbrev came : List Case
came =
    -- value and mark at each row and column; a place outside the frame reads as null
    read 1 priced 0 0 ∷ read 1 priced 0 1 ∷ read 1 priced 1 0 ∷ read 1 priced 1 1 ∷ read 1 priced 0 2 ∷ read 1 priced 2 0 ∷ read 1 priced (2 ^ 64 - 1) (2 ^ 64 - 1)
    -- a plain reader refuses 2 + p columns; the distance reader shows them, the shared columns as before
    ∷ read 1 far 0 0 ∷ read 1 far 0 1 ∷ read 1 far 0 2 ∷ read 1 far 0 3 ∷ read 1 far 1 2 ∷ read 1 far 9 9
    -- a column count that the reader does not know: p = 0 and p = 2 over two and three columns
    ∷ read 0 priced 0 0 ∷ read 2 priced 0 0 ∷ read 2 far 0 2 ∷ read 3 far 0 0
    -- p above 8 is 10, checked first; then 5, then 13
    ∷ read 9 priced 0 0 ∷ read 9 [] 0 0 ∷ read 8 [] 0 0 ∷ read 8 (ws (0 ∷ 9 ∷ [])) 0 0 ∷ read 8 (ws (0 ∷ 10 ∷ [])) 0 0 ∷ read 8 (ws (0 ∷ 11 ∷ [])) 0 0
    -- 5 is here the frame rule alone: a mark 2, a null with a value, a word too many, a negative column count; no columns at all, and very many of no rows, are frames
    ∷ read 0 (ws (1 ∷ 1 ∷ 5 ∷ 2 ∷ [])) 0 0 ∷ read 0 (ws (1 ∷ 1 ∷ 5 ∷ 0 ∷ [])) 0 0 ∷ read 0 (ws (1 ∷ 1 ∷ 5 ∷ 1 ∷ 1 ∷ [])) 0 0 ∷ read 0 (pos 0 ∷ negsuc 0 ∷ []) 0 0
    ∷ read 0 (ws (3 ∷ 0 ∷ [])) 0 0 ∷ read 0 (pos 0 ∷ pos (2 ^ 63 - 1) ∷ []) 0 0 ∷ read 0 (pos 4097 ∷ pos 0 ∷ []) 0 0
    ∷ []

abbrev awaited : List Case
awaited =
    both (shows 2 1) (shows 2 1) ∷ both (shows 201 1) (shows 201 1) ∷ both (shows 0 0) (shows 0 0) ∷ both (shows 0 0) (shows 0 0) ∷ both (shows 0 0) (shows 0 0) ∷ both (shows 0 0) (shows 0 0)
    ∷ both (shows 0 0) (shows 0 0)
    ∷ both (refuses 13) (shows 2 1) ∷ both (refuses 13) (shows 201 1) ∷ both (refuses 13) (shows 5 1) ∷ both (refuses 13) (shows 0 0) ∷ both (refuses 13) (shows 0 0) ∷ both (refuses 13) (shows 0 0)
    ∷ both (refuses 13) (shows 2 1) ∷ both (refuses 13) (refuses 13) ∷ both (shows 5 1) (shows 5 1) ∷ both (refuses 13) (refuses 13)
    ∷ both (refuses 10) (refuses 10) ∷ both (refuses 10) (refuses 10) ∷ both (refuses 5) (refuses 5) ∷ both (shows 0 0) (shows 0 0) ∷ both (refuses 13) (shows 0 0) ∷ both (refuses 13) (refuses 13)
    ∷ both (refuses 5) (refuses 5) ∷ both (refuses 5) (refuses 5) ∷ both (refuses 5) (refuses 5) ∷ both (refuses 5) (refuses 5)
    ∷ both (refuses 13) (refuses 13) ∷ both (refuses 13) (refuses 13) ∷ both (refuses 5) (refuses 5)
    ∷ []

pub reads : came ≡ awaited
unfolding view_by read_by framed plain_knows distance_knows is_table is_frame pairs_fine frame_rows rows_of cells_of
reads = refl

-- ---- a place by counts that the host hands in: a view's, then others. Words too short for such a frame, or counts whose product is beyond all words, read as null.
abbrev words : CellWords → Words
words w = w.value ∷ w.mark ∷ []

abbrev places : List Words
places =
    words (shown_at 2 2 priced 0 1) ∷ words (shown_at 2 2 priced 1 1) ∷ words (shown_at 2 2 priced 2 0) ∷ words (shown_at 2 2 priced 0 2)
    ∷ words (shown_at 1 2 priced 0 1) ∷ words (shown_at 3 2 priced 0 0) ∷ words (shown_at (2 ^ 63) (2 ^ 63) priced 0 0) ∷ words (shown_at 1 1 [] 0 0)
    ∷ []

pub place_words_lem : places ≡ ws (201 ∷ 1 ∷ []) ∷ ws (0 ∷ 0 ∷ []) ∷ ws (0 ∷ 0 ∷ []) ∷ ws (0 ∷ 0 ∷ []) ∷ ws (201 ∷ 0 ∷ []) ∷ ws (0 ∷ 0 ∷ []) ∷ ws (0 ∷ 0 ∷ []) ∷ ws (0 ∷ 0 ∷ []) ∷ []
unfolding shown_at
place_words_lem = refl
