-- No call changes the options of a join, so each turn of a list writes answers of the same width. Assumes nothing.
use Rattle.frames.specs.declared.refusals.Refusal.{Refusal}
use Rattle.std.specs.Prelude.{Result, Ok, Err}
use mathlib.Core.Path.{◌≡◌, refl, ◌∙◌}
use mathlib.Core.List.{List, [], ◌∷◌}
use Rattle.frames.specs.Cells.{Words}
use Rattle.node.specs.Calls.{left_answer, left_call, queued, right_answer, right_call, pushed_right, end_answer, end_call, ports_answer, ports_call}
use Rattle.node.specs.declared.Join.{Join}
use Rattle.frames.specs.declared.outcomes.PortState.{PortState}
use Rattle.frames.specs.declared.outcomes.Ports.{Ports}
use Rattle.node.proofs.runs.RunLaws.{turn_options}
use Rattle.lists.specs.Lists.{Call, left, right, end, ports, turn, World, step, final}

module _ (j : Join) (l r : Words) where
  left_options : (f : Words) → (left_call j l r f).join.options ≡ j.options
  unfolding left_call queued
  left_options f = go (left_answer j l r f) refl
    where
      go : (t : Result Unit Refusal) → left_answer j l r f ≡ t → (left_call j l r f).join.options ≡ j.options
      go (Ok tt) e = rw (e, left_call)
      go (Err n) e = rw (e, left_call)

  right_options : (f : Words) → (right_call j l r f).join.options ≡ j.options
  unfolding right_call pushed_right
  right_options f = go (right_answer j l r f) refl
    where
      go : (t : Result Unit Refusal) → right_answer j l r f ≡ t → (right_call j l r f).join.options ≡ j.options
      go (Ok tt) e = rw (e, right_call)
      go (Err n) e = rw (e, right_call)

  end_options : (end_call j l r).join.options ≡ j.options
  unfolding end_call
  end_options = go (end_answer j l r) refl
    where
      go : (t : Result Unit Refusal) → end_answer j l r ≡ t → (end_call j l r).join.options ≡ j.options
      go (Ok tt) e = rw (e, end_call)
      go (Err n) e = rw (e, end_call)

  ports_options : (a b c : PortState) → (ports_call j l r a b c).join.options ≡ j.options
  unfolding ports_call
  ports_options a b c = go (ports_answer j l r a b c) refl
    where
      go : (t : Result Ports Refusal) → ports_answer j l r a b c ≡ t → (ports_call j l r a b c).join.options ≡ j.options
      go (Ok p) e = rw (e, ports_call)
      go (Err n) e = rw (e, ports_call)

pub step_options : (w : World) (c : Call) → (step w c).world.join.options ≡ w.join.options
unfolding step
step_options w (left f) = left_options w.join w.left w.right f
step_options w (right f) = right_options w.join w.left w.right f
step_options w end = end_options w.join w.left w.right
step_options w (ports a b c) = ports_options w.join w.left w.right a b c
step_options w (turn out) = turn_options w.join w.left w.right out

pub final_options : (cs : List Call) (w : World) → (final w cs).join.options ≡ w.join.options
unfolding final
final_options [] w = refl
final_options (c ∷ cs) w = final_options cs (step w c).world ∙ step_options w c
