-- The calls by their answers: what a refused call leaves and what an accepted one does, over plain values. Assumes nothing.
use Rattle.std.specs.Prelude.{Result, Ok, Err}
use mathlib.Core.Path.{◌≡◌, refl, ◌∙◌}
use mathlib.Core.Bool.{Bool, true, false}
use Rattle.frames.specs.Cells.{Words}
use Rattle.node.specs.State.{join_of, queue_at, held_at, state_at, bad_join}
use Rattle.node.specs.Calls.{left_answer, left_call, queued, right_answer, right_call, pushed_right, end_answer, end_call, ports_state, ports_answer, ports_call}
use Rattle.node.specs.CallContracts.{LeftContract, RightContract, EndContract, PortsContract}
use Rattle.callrules.specs.Judged.{left_judged, end_judged, right_judged, EndFed, LeftFed, RightFed}
use Rattle.callrules.specs.declared.FedEnd.{FedEnd}
use Rattle.callrules.specs.ports.Ports.{ports_in, ports_judged, moved_state, Moves}
use Rattle.callrules.specs.declared.ports.PortsMoved.{PortsMoved}
use Rattle.callrules.specs.declared.FedLeft.{FedLeft}
use Rattle.callrules.specs.declared.FedRight.{FedRight}
use Rattle.node.specs.declared.Join.{Join}
use Rattle.frames.specs.declared.outcomes.NodeState.{NodeState}
use Rattle.frames.specs.declared.outcomes.PortState.{PortState}
use Rattle.frames.specs.declared.outcomes.Ports.{Ports}
use Rattle.frames.specs.declared.refusals.Refusal.{Refusal}
use Rattle.frames.specs.declared.refusals.Refusal.TheVariants.{BadJoin, Failed}

-- The join whose right has ended, or not.
abbrev pub ended_at : Join → Bool → Join
ended_at j e =
    join_of j.options j.base j.held j.pruned j.queue_start j.queue_words j.state e j.failed j.sequence j.last_left j.last_right

module _ (j : Join) (left right : Words) where
  -- ---- the end of right
  module _ (b : Bool) (is : b ≡ bad_join j left right) (r : FedEnd) (fed : EndFed b j.failed j.right_ended j.state r) where
    end_known : EndFed (bad_join j left right) j.failed j.right_ended j.state r
    end_known = rw is at fed

    end_same : end_judged (bad_join j left right) j.failed j.right_ended j.state ≡ end_answer j left right
    unfolding end_judged
    end_same = refl

    pub end_leaves : EndContract j left right (record { answer = r.answer; join = ended_at j r.ended })
    unfolding end_call
    end_leaves = go (end_answer j left right) refl
      where
        go : (t : Result Unit Refusal) → end_answer j left right ≡ t → EndContract j left right (record { answer = r.answer; join = ended_at j r.ended })
        go (Ok tt) e = let s = end_same ∙ e in record { answer = rw (e, end_call) (rw s at end_known.answer); join = rw (e, end_call, rw s at end_known.ended_is) }
        go (Err n) e = let s = end_same ∙ e in record { answer = rw (e, end_call) (rw s at end_known.answer); join = rw (e, end_call, rw s at end_known.ended_is) }

  -- ---- a left frame
  module _ (f : Words) (b : Bool) (is : b ≡ bad_join j left right) (r : FedLeft) (left' : Words)
      (fed : LeftFed b j.failed j.state j.options j.queue_start j.queue_words left f r left') where
    left_known : LeftFed (bad_join j left right) j.failed j.state j.options j.queue_start j.queue_words left f r left'
    left_known = rw is at fed

    left_same : left_judged (bad_join j left right) j.failed j.state j.options j.queue_words left f ≡ left_answer j left right f
    unfolding left_judged
    left_same = refl

    pub left_leaves : LeftContract j left right f (record { answer = r.answer; join = queue_at j r.start r.words }) left'
    unfolding left_call queued
    left_leaves = go (left_answer j left right f) refl
      where
        go : (t : Result Unit Refusal) → left_answer j left right f ≡ t → LeftContract j left right f (record { answer = r.answer; join = queue_at j r.start r.words }) left'
        go (Ok tt) e =
            let s = left_same ∙ e in
            record { answer = rw (e, left_call) (rw s at left_known.answer); join = rw (e, left_call, rw s at left_known.start_is, rw s at left_known.words_are); words = rw (e, left_call) (rw s at left_known.area) }
        go (Err n) e =
            let s = left_same ∙ e in
            record { answer = rw (e, left_call) (rw s at left_known.answer); join = rw (e, left_call, rw s at left_known.start_is, rw s at left_known.words_are); words = rw (e, left_call) (rw s at left_known.area) }

  -- ---- a right frame
  module _ (f : Words) (b : Bool) (is : b ≡ bad_join j left right) (r : FedRight) (right' : Words)
      (fed : RightFed b j.failed j.right_ended j.state j.options j.base j.held j.pruned right f r right') where
    right_known : RightFed (bad_join j left right) j.failed j.right_ended j.state j.options j.base j.held j.pruned right f r right'
    right_known = rw is at fed

    right_same : right_judged (bad_join j left right) j.failed j.right_ended j.state j.options j.held j.pruned right f ≡ right_answer j left right f
    unfolding right_judged
    right_same = refl

    pub right_leaves : RightContract j left right f (record { answer = r.answer; join = held_at j r.base r.held j.pruned }) right'
    unfolding right_call pushed_right
    right_leaves = go (right_answer j left right f) refl
      where
        go : (t : Result Unit Refusal) → right_answer j left right f ≡ t → RightContract j left right f (record { answer = r.answer; join = held_at j r.base r.held j.pruned }) right'
        go (Ok tt) e =
            let s = right_same ∙ e in
            record { answer = rw (e, right_call) (rw s at right_known.answer); join = rw (e, right_call, rw s at right_known.base_is, rw s at right_known.held_is); words = rw (e, right_call) (rw s at right_known.area) }
        go (Err n) e =
            let s = right_same ∙ e in
            record { answer = rw (e, right_call) (rw s at right_known.answer); join = rw (e, right_call, rw s at right_known.base_is, rw s at right_known.held_is); words = rw (e, right_call) (rw s at right_known.area) }

  -- ---- ports
  module _ (l r s : PortState) where
    -- Ports are told in every state.
    told_call : (u : NodeState) (a : Result Ports Refusal) → u ≡ ports_state j l s → a ≡ Ok (ports_in u l r s) → ports_answer j left right l r s ≡ Ok (ports_in u l r s)
        → PortsContract j left right l r s (record { answer = a; join = state_at j u })
    unfolding ports_call
    told_call u a at is e = record { answer = rw (e, ports_call) is; join = rw (e, ports_call, ← at) }

    ports_refused : (n : Refusal) → ports_answer j left right l r s ≡ Err n → PortsContract j left right l r s (record { answer = Err n; join = j })
    unfolding ports_call
    ports_refused n e = record { answer = rw (e, ports_call); join = rw (e, ports_call) }

    module _ (b : Bool) (is : b ≡ bad_join j left right) (x : PortsMoved) (h : Moves b j.failed j.state l r s j.queue_words x) where
      known : Moves (bad_join j left right) j.failed j.state l r s j.queue_words x
      known = rw is at h

      pub ports_leaves : PortsContract j left right l r s (record { answer = x.answer; join = state_at j x.state })
      unfolding ports_judged moved_state
      ports_leaves = go (bad_join j left right) j.failed refl refl
        where
          go : (p q : Bool) → bad_join j left right ≡ p → j.failed ≡ q → PortsContract j left right l r s (record { answer = x.answer; join = state_at j x.state })
          go true q e f =
              let z = ports_refused BadJoin (rw e) in
              let st : x.state ≡ j.state = rw e at known.state_is in
              record { answer = rw e at known.answer ∙ z.answer; join = rw st z.join }
          go false true e f =
              let z = ports_refused Failed (rw (e, f)) in
              let st : x.state ≡ j.state = rw (e, f) at known.state_is in
              record { answer = rw (e, f) at known.answer ∙ z.answer; join = rw st z.join }
          go false false e f =
              let st : x.state ≡ ports_state j l s = rw (e, f) at known.state_is in
              told_call x.state x.answer st (rw (e, f, ← st) at known.answer) (rw (e, f, st))
