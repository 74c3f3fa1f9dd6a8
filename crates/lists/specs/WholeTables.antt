-- The whole-table theorem (SCOPE 15.9 to 15.15): the statement, on lists of calls as wholes. Its proof is in proofs/. Assumes nothing.
use Rattle.std.specs.Prelude.{◌≡◌, true, false, List, [], ◌∷◌, ◌++◌, map, ℕ, ◌+◌, ◌*◌, ◌^◌, ◌≤◌, ◌<◌, pos, length, take, drop, get_or, replicate}
use Rattle.frames.specs.Cells.{Cell, value_word, mark_word, Rows, Words}
use Rattle.frames.specs.Frame.{row_count, frame_words, values_in, marks_in}
use Rattle.order.specs.options.Options.{columns, right_columns, answer_columns, refused_options}
use Rattle.order.specs.Order.{sorted}
use Rattle.order.specs.declared.options.Options.{Options}
use Rattle.matching.specs.Match.{whole_table}
use Rattle.matching.specs.Picked.{Picked, NoneQualifies}
use Rattle.matching.specs.Answer.{behind_number, answer_row}
use Rattle.lists.specs.Lists.{Call, turn, start, events, final, Event, left_frames, right_frames, rows_in, outputs, matches_in, Entry, is_right_ended, node_done, queue_rows, back_to_back, refused_with, turns_in}
use Rattle.node.specs.State.{waiting, held_values, held_marks}

-- SCOPE 12.5: a row as it is written.
abbrev pub as_written : List Cell → Entry
as_written r = record { values = map value_word r; marks = map mark_word r }

-- SCOPE 14.4: what is due for the left row x over these right rows: its match by the whole-table rule, with what that row carries and, where the join adds it, the distance.
abbrev pub due_over : Options → Rows → List Cell → Entry
due_over o rights x = as_written (answer_row o 0 rights x (whole_table o rights x))

-- What is written for x is none, in all columns, and nothing qualifies; or a number, whose row is picked, and behind it what this row carries and how far it is.
pub data Correct (o : Options) (rights : Rows) (x : List Cell) : Entry → Type 0 where
  is_none : NoneQualifies o rights x → Correct o rights x (record { values = replicate (answer_columns o) (pos 0); marks = replicate (answer_columns o) (pos 0) })
  is_row : (i : ℕ) → Picked o rights x i
      → Correct o rights x (record { values = pos i ∷ map value_word (behind_number o x (get_or rights i [])); marks = pos 1 ∷ map mark_word (behind_number o x (get_or rights i [])) })

-- Each of a list with its fellow in another; both are equally long.
pub data Each {A B : Type 0} (P : A → B → Type 0) : List A → List B → Type 0 where
  ends : Each P [] []
  pairs : {a : A} {b : B} {xs : List A} {ys : List B} → P a b → Each P xs ys → Each P (a ∷ xs) (b ∷ ys)

-- For one list of calls, its options and the two areas with which it begins (SCOPE 15.1, 15.2).
module _ (o : Options) (l r : Words) (calls : List Call) where
  -- The calls with their answers.
  abbrev pub all : List Event
  all = events (start o l r) calls

  -- SCOPE 15.3: the accepted left rows.
  abbrev pub lefts : Rows
  lefts = rows_in (columns o) (left_frames all)

  -- The accepted right rows.
  abbrev pub rights : Rows
  rights = rows_in (right_columns o) (right_frames all)

  -- SCOPE 15.5: the left rows turned.
  abbrev pub turned_rows : Rows
  turned_rows = rows_in (columns o) (take (length (outputs all)) (left_frames all))

  -- The accepted left frames that wait.
  abbrev pub waiting_frames : List Words
  waiting_frames = drop (length (outputs all)) (left_frames all)

  -- The matches written, in call order.
  abbrev pub matches : List Entry
  matches = matches_in (answer_columns o) (outputs all)

  -- SCOPE 15.4: the sides are sorted as declared.
  abbrev pub Declared : Type 0
  Declared = (sorted o lefts ≡ true) × (sorted o rights ≡ true)

  -- What is due for x, over all right rows that the list accepts.
  abbrev pub due : List Cell → Entry
  due x = due_over o rights x

  -- SCOPE 15.9.
  abbrev pub WholeTable : Type 0
  WholeTable = Declared → matches ≡ map due turned_rows

  -- SCOPE 15.10.
  abbrev pub NoneExactly : Type 0
  NoneExactly = Declared → Each (Correct o rights) turned_rows matches

  -- Outputs for the frames that wait, each enough: 2 + 2n(1 + p) words, with the distance 2 + 2n(2 + p).
  abbrev pub Enough : List Words → Type 0
  Enough outs = Each (λ f out. frame_words (row_count f) (answer_columns o) ≤ length out) waiting_frames outs

  -- Further turns, from where the list ends.
  abbrev pub further : List Words → List Event
  further outs = events (final (start o l r) calls) (map turn outs)

  -- SCOPE 15.11: with right ended, the node not done, enough output for each waiting frame and few enough frames, further
  -- turns all write, and every accepted left row has its match.
  abbrev pub RestWritten : Type 0
  RestWritten =
      Declared → is_right_ended all ≡ true → node_done all ≡ false → (outs : List Words) → Enough outs → length (left_frames all) < 2 ^ 63
      → (length (outputs (further outs)) ≡ length outs)
      × (matches ++ matches_in (answer_columns o) (outputs (further outs)) ≡ map due lefts)

  -- All that RestWritten supposes, with a frame that waits.
  pub record RestMet (outs : List Words) : Type 0 where
    pub declared : Declared
    pub ended : is_right_ended all ≡ true
    pub undone : node_done all ≡ false
    pub waits : 0 < length outs
    pub enough : Enough outs
    pub few : length (left_frames all) < 2 ^ 63

  -- SCOPE 15.12.
  abbrev pub Counts : Type 0
  Counts =
      let w = final (start o l r) calls in
      (length rights ≡ w.join.pruned + w.join.held) × (length lefts ≡ length matches + length (queue_rows w))

  -- SCOPE 15.13: no call is refused by 2, no turn by 5 or 12.
  abbrev pub NeverBroken : Type 0
  NeverBroken = (refused_with 2 all ≡ false) × (refused_with 5 (turns_in all) ≡ false) × (refused_with 12 (turns_in all) ≡ false)

  -- SCOPE 15.14: on sorted sides no turn is refused by 8 or 9.
  abbrev pub NoFalseAlarm : Type 0
  NoFalseAlarm = Declared → (refused_with 8 all ≡ false) × (refused_with 9 all ≡ false)

  -- SCOPE 15.15: waiting and held words are those that were accepted, and no area changes its length.
  abbrev pub WordsKept : Type 0
  WordsKept =
      let w = final (start o l r) calls in
      (waiting w.join w.left ≡ back_to_back waiting_frames)
      × (held_values w.join w.right ≡ drop (w.join.pruned * right_columns o) (back_to_back (map (values_in (right_columns o)) (right_frames all))))
      × (held_marks w.join w.right ≡ drop (w.join.pruned * right_columns o) (back_to_back (map (marks_in (right_columns o)) (right_frames all))))
      × (length w.left ≡ length l)
      × (length w.right ≡ length r)

  -- SCOPE 15.20: what is written is due over the accepted right rows and any that may come behind them in order, none once right has ended. Of the left rows only
  -- those turned have to be sorted.
  abbrev pub Settled : Type 0
  Settled =
      sorted o turned_rows ≡ true → (more : Rows) → (is_right_ended all ≡ true → more ≡ []) → sorted o (rights ++ more) ≡ true
      → matches ≡ map (due_over o (rights ++ more)) turned_rows

-- The theorem for one list.
pub record ListHolds (o : Options) (l r : Words) (calls : List Call) : Type 0 where
  pub whole_table : WholeTable o l r calls
  pub none_exactly : NoneExactly o l r calls
  pub rest_written : RestWritten o l r calls
  pub counts : Counts o l r calls
  pub never_broken : NeverBroken o l r calls
  pub no_false_alarm : NoFalseAlarm o l r calls
  pub words_kept : WordsKept o l r calls
  pub settled : Settled o l r calls

-- For all valid options, all areas and all lists of calls.
abbrev pub WholeTableTheorem : Type 0
WholeTableTheorem = (o : Options) → refused_options o ≡ false → (l r : Words) (calls : List Call) → ListHolds o l r calls
