-- Where waiting frames and held rows stand in the areas, and how long the areas are, is told by no answer but refusal 6 of a frame (SCOPE 15.19). The
-- statement; its proof stands in proofs/. Assumes nothing.
use Rattle.std.specs.Prelude.{◌≡◌, Bool, false, List, map, ℕ, eqb}
use Rattle.node.specs.State.{queue_at, held_at, bad_join, waiting, held_values, held_marks}
use Rattle.node.specs.declared.Join.{Join}
use Rattle.lists.specs.Lists.{Call, Event, on_left, on_right, on_end, on_ports, on_turn, World, step, events, final, took_refusal}

-- The join with its waiting frames and its held rows at other places.
abbrev pub placed_at : Join → ℕ → ℕ → Join
placed_at j start base = queue_at (held_at j base j.held j.pruned) start j.queue_words

-- Two joins, each with areas of its own, of any lengths, that hold the same: the joins differ in no field but queue start and base; the same words wait,
-- and the same rows are held, word by word; and both meet refusal 2 or neither does.
pub record SameLive (v w : World) : Type 0 where
  pub join : v.join ≡ placed_at w.join v.join.queue_start v.join.base
  pub bad : bad_join v.join v.left v.right ≡ bad_join w.join w.left w.right
  pub waits : waiting v.join v.left ≡ waiting w.join w.left
  pub values : held_values v.join v.right ≡ held_values w.join w.right
  pub marks : held_marks v.join v.right ≡ held_marks w.join w.right

-- A frame that found no room in its area. (A turn's refusal 6 is of its output.)
abbrev pub no_room : Event → Bool
no_room (on_left f a) = eqb (took_refusal a) 6
no_room (on_right f a) = eqb (took_refusal a) 6
no_room (on_end a) = false
no_room (on_ports l r s a) = false
no_room (on_turn a out) = false

-- A call is answered the same, with the same words in its output, and leaves two joins that hold the same again, unless it is a frame that finds no room
-- with one of the two and room with the other. So is a list of calls, if the same frames of it find no room with both: if none does, for one.
pub record Elsewhere : Type 0 where
  pub call : (v w : World) → SameLive v w → (c : Call) → no_room (step v c).event ≡ no_room (step w c).event
      → ((step v c).event ≡ (step w c).event) × SameLive (step v c).world (step w c).world
  pub list : (v w : World) → SameLive v w → (calls : List Call) → map no_room (events v calls) ≡ map no_room (events w calls)
      → (events v calls ≡ events w calls) × SameLive (final v calls) (final w calls)
