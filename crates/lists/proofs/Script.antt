-- Call scripts: a list of calls, and what each answers, as plain data that `refl` can compare. Assumes nothing.
use Rattle.frames.specs.declared.outcomes.Turn.TheVariants.{Wrote, WantsRight, Idle}
use Rattle.frames.specs.declared.outcomes.Turn.{Turn}
use Rattle.frames.specs.declared.refusals.Refusal.{Refusal}
use Rattle.std.specs.Prelude.{Result, Ok, Err, Option, None, Some}
use mathlib.Core.Bool.{Bool, cond}
use mathlib.Core.List.{List, [], ◌∷◌, ◌++◌, map}
use Prim.Native.Nat.{ℕ, zero, suc, ◌*◌, ◌%◌}
use lib.IntN.{pos, negsuc, nat_abs, sub_ℕ}
use lib.ListN.{take, get_or, replicate}
use Rattle.callrules.specs.ports.Ports.{ports_judged}
use Rattle.frames.specs.Cells.{Cell, cells_of, rows_of, Words}
use Rattle.frames.specs.Frame.{row_count, frame_words, pairs_fine, is_frame, frame_rows, front, is_table}
use Rattle.order.specs.ranks.Ranks.{bad_ranks}
use Rattle.order.specs.options.Options.{bad_options, refused_options}
use Rattle.order.specs.Order.{cmp_first, cmp_row, sorted, null_in}
use Rattle.order.specs.Keyed.{first_from, last_below, recall, remember, remember_last}
use Rattle.order.specs.declared.options.Options.{Options}
use Rattle.buffer.specs.area.Area.{held_rows, moved_rows, pushed}
use Rattle.searching.specs.Search.{search_for, search, find}
use Rattle.searching.specs.Reach.{narrow_by, narrow, key_needs_more, row_needs_more, need_more, split_at, prune_by, row_before, bad_split}
use Rattle.matching.specs.Match.{fits, takes_over, choose, tolerate, match_in}
use Rattle.matching.specs.Groups.{join_run, runs, passes, pass, used, by_runs, match_frame}
use Rattle.tables.specs.Table.{words_of, table_of, laid}
use Rattle.matching.specs.Answer.{cells_from, answer_row, answer_rows, answered}
use Rattle.node.specs.State.{bad_join, held_of, waiting, left_width}
use Rattle.frames.specs.outcomes.Answers.{state_code, port_code}
use Rattle.frames.specs.refusals.Refusals.{number}
use Rattle.node.specs.Calls.{queued, left_call, pushed_right, right_call, end_call, ports_call, turn_answer, dropped, dequeued, turned, turn_call}
use Rattle.callrules.specs.Judged.{open_answer, left_judged, end_judged, right_judged}
use Rattle.matchframe.specs.turnrows.Prunes.{bad_left, bad_right, first_prune, remembered, remembered_left}
use Rattle.lists.specs.Lists.{Call, Event, on_left, on_right, on_end, on_ports, on_turn, World, start, step}
use Rattle.node.specs.declared.Join.{Join}
use Rattle.frames.specs.declared.outcomes.Ports.{Ports}

-- An answer: ok; refused N; wrote SEQ and the words written; wants; idle; ports L R S STATE; no join;
-- areas: the words of both; state: base, held, pruned, queue start, queue words, state, ended, failed, sequence, and the cells of the left and right remembered row.
pub data Said : Type 0 where
  ok : Said
  refused : ℕ → Said
  wrote : ℕ → Words → Said
  wants : Said
  idle : Said
  ports : ℕ → ℕ → ℕ → ℕ → Said
  no_join : Said
  looks : List ℕ → Option (List Cell) → Option (List Cell) → Said
  areas : Words → Words → Said

-- Before the first call word i of the left area is (7i mod 11) − 5 and of the right area (5i mod 13) − 6.
abbrev pub fill : ℕ → ℕ → ℕ → ℕ → ℕ → Words
fill zero i k m d = []
fill (suc n) i k m d = sub_ℕ ((k * i) % m) d ∷ fill n (suc i) k m d

abbrev pub left_area : ℕ → Words
left_area n = fill n 0 7 11 5

abbrev pub right_area : ℕ → Words
right_area n = fill n 0 5 13 6

-- An output of n words.
abbrev pub space : ℕ → Words
space n = replicate n (negsuc 8)

abbrev pub say_took : Result Unit Refusal → Said
say_took (Ok tt) = ok
say_took (Err n) = refused (number n)

abbrev pub say_turn : Result Turn Refusal → Words → Said
say_turn (Ok (Wrote s)) out = wrote s (take (frame_words (row_count out) (nat_abs (get_or out 1 (pos 0)))) out)
say_turn (Ok WantsRight) out = wants
say_turn (Ok Idle) out = idle
say_turn (Err n) out = refused (number n)

abbrev pub say_ports : Result Ports Refusal → Join → Said
say_ports (Ok p) j = ports (port_code p.left) (port_code p.right) (port_code p.send) (state_code j.state)
say_ports (Err n) j = refused (number n)

abbrev pub say : Event → Join → Said
say (on_left f a) j = say_took a
say (on_right f a) j = say_took a
say (on_end a) j = say_took a
say (on_ports l r s a) j = say_ports a j
say (on_turn a out) j = say_turn a out

abbrev pub flag : Bool → ℕ
flag b = cond b 1 0

-- The join's fields.
unfoldable pub look : Join → Said
look j =
    looks
    (j.base ∷ j.held ∷ j.pruned ∷ j.queue_start ∷ j.queue_words ∷ state_code j.state ∷ flag j.right_ended ∷ flag j.failed ∷ j.sequence ∷ [])
    (recall (left_width j) j.last_left)
    (recall (left_width j) j.last_right)

-- A line of a script: open with options and areas of so many words; a call; state; the areas' words.
pub data Line : Type 0 where
  opens : Options → ℕ → ℕ → Line
  call : Call → Line
  state : Line
  dump : Line

-- What each line says, from no join or a world.
pub record Spoke : Type 0 where
  pub said : Said
  pub next : Option World

unfoldable pub speak : Option World → Line → Spoke
speak w (opens o l r) = record { said = say_took (open_answer o); next = cond (refused_options o) None (Some (start o (left_area l) (right_area r))) }
speak None (call c) = record { said = no_join; next = None }
speak (Some w) (call c) = let s = step w c in record { said = say s.event s.world.join; next = Some s.world }
speak None state = record { said = no_join; next = None }
speak (Some w) state = record { said = look w.join; next = Some w }
speak None dump = record { said = no_join; next = None }
speak (Some w) dump = record { said = areas w.left w.right; next = Some w }

unfoldable pub speak_all : Option World → List Line → List Said
unfolding speak look open_answer step left_call left_judged queued right_call right_judged pushed_right end_call end_judged ports_call ports_judged turn_call turn_answer turned bad_left bad_right first_prune remembered remembered_left dropped dequeued bad_join held_of waiting front answered laid table_of words_of answer_rows answer_row cells_from match_frame by_runs used pass passes runs join_run match_in tolerate choose takes_over fits need_more row_needs_more key_needs_more narrow narrow_by split_at prune_by row_before bad_split find search search_for held_rows moved_rows pushed remember_last remember recall last_below first_from sorted cmp_row cmp_first null_in refused_options bad_options bad_ranks is_frame is_table pairs_fine frame_rows rows_of cells_of
speak_all w [] = []
speak_all w (l ∷ ls) = let s = speak w l in s.said ∷ speak_all s.next ls

-- What a script says. Whoever unfolds `speak_all`, or one of those below, unfolds all definitions.
unfoldable pub script : List Line → List Said
unfolding speak_all
script ls = speak_all None ls

-- What a fresh join with these options and areas says to a list of calls.
unfoldable pub says : Options → Words → Words → List Call → List Said
unfolding speak_all
says o l r calls = speak_all (Some (start o l r)) (map call calls)

-- What any join and areas say, and how the join looks and what the areas hold afterwards; and a fresh one.
unfoldable pub tells : World → List Call → List Said
unfolding speak_all
tells w calls = speak_all (Some w) (map call calls ++ state ∷ dump ∷ [])

unfoldable pub plays : Options → Words → Words → List Call → List Said
unfolding tells
plays o l r calls = tells (start o l r) calls
