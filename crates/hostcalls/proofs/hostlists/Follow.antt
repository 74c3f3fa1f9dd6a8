-- A list of calls in numbers is a list of the node's, call by call. Assumes nothing.
use Rattle.frames.specs.declared.outcomes.Turn.{Turn}
use Rattle.frames.specs.declared.refusals.Refusal.{Refusal}
use Rattle.std.specs.Prelude.{Result, Ok, Err, Some}
use mathlib.Core.Path.{◌≡◌, refl, sym, ap, subst, ◌∙◌}
use mathlib.Core.Bool.{Bool, true, false, ◌&&◌}
use mathlib.Core.List.{[], ◌∷◌}
use Prim.Native.Nat.{ℕ, zero, suc}
use native.Mathlib.Omega.{arith}
use borrow.Author.Tests.{ltb-true}
use Rattle.frames.specs.Cells.{Words}
use Rattle.node.specs.Calls.{left_answer, left_call, queued, right_answer, right_call, pushed_right, end_answer, end_call, ports_answer, ports_call}
use Rattle.node.specs.declared.Join.{Join}
use Rattle.node.proofs.runs.RunLaws.{turn_areas}
use Rattle.frames.specs.outcomes.Answers.{port_code}
use Rattle.frames.specs.declared.outcomes.PortState.{PortState}
use Rattle.frames.specs.declared.outcomes.Ports.{Ports}
use Rattle.frames.specs.declared.refusals.Refusal.TheVariants.{BadJoin}
use Rattle.ffi.specs.codes.Codes.{is_code, port_of}
use Rattle.ffi.proofs.codes.CodeLaws.{and_both}
use Rattle.ffi.specs.convert.Convert.{decode}
use Rattle.ffi.proofs.convert.ConvertLaws.{there_and_back}
use Rattle.ffi.specs.declared.convert.HostJoin.{HostJoin}
use Rattle.ffi.specs.results.Results.{took_host, ported_host, turned_host, Made, ran_host}
use Rattle.hostcalls.specs.Calls.{HostAfter, ports_host}
use Rattle.hostcalls.specs.Promises.{Same, Follows}
use Rattle.hostcalls.proofs.PromiseLaws.{promises}
use Rattle.lists.specs.Lists.{World, step, final}
use Rattle.lists.specs.Runs.{turns_of, ran_from}
use Rattle.lists.proofs.RunTurns.{run_turns}
use Rattle.lists.proofs.ListLaws.{final_append}
use Rattle.hostcalls.specs.hostlists.HostLists.{HostCall, left, right, end, ports, turn, run, on_left, on_right, on_end, on_ports, on_turn, on_run, HostWorld, host_step, host_events, host_final, calls_for, node_calls, event_for, node_events, Agree, HostLists}

-- ---- what a call does not write
module _ (j : Join) (l r : Words) where
  left_right : (f : Words) → (left_call j l r f).right ≡ r
  unfolding left_call queued
  left_right f = go (left_answer j l r f) refl
    where
      go : (t : Result Unit Refusal) → left_answer j l r f ≡ t → (left_call j l r f).right ≡ r
      go (Ok tt) e = rw (e, left_call)
      go (Err n) e = rw (e, left_call)

  right_left : (f : Words) → (right_call j l r f).left ≡ l
  unfolding right_call pushed_right
  right_left f = go (right_answer j l r f) refl
    where
      go : (t : Result Unit Refusal) → right_answer j l r f ≡ t → (right_call j l r f).left ≡ l
      go (Ok tt) e = rw (e, right_call)
      go (Err n) e = rw (e, right_call)

  end_areas : ((end_call j l r).left ≡ l) × ((end_call j l r).right ≡ r)
  unfolding end_call
  end_areas = go (end_answer j l r) refl
    where
      go : (t : Result Unit Refusal) → end_answer j l r ≡ t → ((end_call j l r).left ≡ l) × ((end_call j l r).right ≡ r)
      go (Ok tt) e = rw (e, end_call) (refl, refl)
      go (Err n) e = rw (e, end_call) (refl, refl)

  ports_areas : (x y z : PortState) → ((ports_call j l r x y z).left ≡ l) × ((ports_call j l r x y z).right ≡ r)
  unfolding ports_call
  ports_areas x y z = go (ports_answer j l r x y z) refl
    where
      go : (t : Result Ports Refusal) → ports_answer j l r x y z ≡ t → ((ports_call j l r x y z).left ≡ l) × ((ports_call j l r x y z).right ≡ r)
      go (Ok p) e = rw (e, ports_call) (refl, refl)
      go (Err n) e = rw (e, ports_call) (refl, refl)

-- A code up to 2 is a port's.
code_there : (x : ℕ) → is_code x ≡ true → port_code (port_of x) ≡ x
code_there zero e = refl
code_there (suc zero) e = refl
code_there (suc (suc zero)) e = refl
code_there (suc (suc (suc x))) e = absurd (omega (arith, ltb-true (suc (suc (suc x))) 3 e))

-- ---- one call
abbrev Step-follows : HostWorld → World → HostCall → Type 0
Step-follows v w c = ((host_step v c).event ≡ event_for w c) × Agree (host_step v c).world (final w (calls_for w c))

module _ (h : HostJoin) (w : World) (d : decode h ≡ Some w.join) where
  abbrev v : HostWorld
  v = record { join = h; left = w.left; right = w.right }

  follows : Follows h w.join w.left w.right
  follows = promises.follows h w.join w.left w.right d

  on_left_lem : (f : Words) → Step-follows v w (left f)
  unfolding host_step final step
  on_left_lem f =
      let s = follows.by_left f in (
        ap (λ (z : HostAfter (Result Unit Refusal)). on_left f (took_host z.answer z.join)) s.whole,
        record { join = s.again; left = ap (λ (z : HostAfter (Result Unit Refusal)). z.left) s.whole; right = sym (left_right w.join w.left w.right f) },
      )

  on_right_lem : (f : Words) → Step-follows v w (right f)
  unfolding host_step final step
  on_right_lem f =
      let s = follows.by_right f in (
        ap (λ (z : HostAfter (Result Unit Refusal)). on_right f (took_host z.answer z.join)) s.whole,
        record { join = s.again; left = sym (right_left w.join w.left w.right f); right = ap (λ (z : HostAfter (Result Unit Refusal)). z.right) s.whole },
      )

  on_end_lem : Step-follows v w end
  unfolding host_step final step
  on_end_lem =
      let s = follows.by_end in
      let a = end_areas w.join w.left w.right in
      (ap (λ (z : HostAfter (Result Unit Refusal)). on_end (took_host z.answer z.join)) s.whole, record { join = s.again; left = sym a.0; right = sym a.1 })

  on_turn_lem : (out : Words) → Step-follows v w (turn out)
  unfolding host_step final step
  on_turn_lem out =
      let s = follows.by_turn out in
      let a = turn_areas w.join w.left w.right out in
      (ap (λ (z : HostAfter (Result Turn Refusal)). on_turn (turned_host z.answer z.join) z.out) s.whole, record { join = s.again; left = sym a.0; right = sym a.1 })

  on_run_lem : (k : ℕ) (out : Words) → Step-follows v w (run k out)
  unfolding host_step
  on_run_lem k out =
      let s = follows.by_run k out in
      let t = run_turns k w out in
      let q = ran_from k w out in
      let j : (final w (turns_of k w out)).join ≡ q.join = ap (λ (z : World). z.join) t.world in (
        ap (λ (z : HostAfter Made). on_run (ran_host z.answer z.join) z.out) s.whole ∙ rw (j, ← t.turns, ← t.written, ← t.stop, t.words),
        record { join = s.again ∙ ap Some (sym j); left = ap (λ (z : World). z.left) (sym t.world); right = ap (λ (z : World). z.right) (sym t.world) },
      )

  -- Ports that can be said, and ports that cannot.
  said : (a b c : ℕ) → is_code a ≡ true → is_code b ≡ true → is_code c ≡ true → Same (ports_host h w.left w.right a b c) (ports_call w.join w.left w.right (port_of a) (port_of b) (port_of c))
  said a b c x y z = rw (code_there a x, code_there b y, code_there c z) at (follows.by_ports (port_of a) (port_of b) (port_of c))

  on_ports_lem : (a b c : ℕ) → Step-follows v w (ports a b c)
  unfolding host_step final step ports_host
  on_ports_lem a b c = go (is_code a && is_code b && is_code c) refl
    where
      go : (t : Bool) → (is_code a && is_code b && is_code c) ≡ t → Step-follows v w (ports a b c)
      go true e =
          let p = and_both (is_code a && is_code b) (is_code c) e in
          let q = and_both (is_code a) (is_code b) p.0 in
          let s = said a b c q.0 q.1 p.1 in
          let k = ports_areas w.join w.left w.right (port_of a) (port_of b) (port_of c) in
          rw (e, code_there a q.0, code_there b q.1, code_there c p.1) (
            rw e at (ap (λ (z : HostAfter (Result Ports Refusal)). on_ports a b c (ported_host z.answer z.join)) s.whole),
            record { join = rw e at s.again; left = sym k.0; right = sym k.1 },
          )
      go false e =
          rw e
          (ap (λ (z : HostJoin). on_ports a b c (ported_host (Err BadJoin) z)) (sym (there_and_back.join_there h w.join d)), record { join = d; left = refl; right = refl })

-- ---- any call, and lists
step_by : (h : HostJoin) (w : World) → decode h ≡ Some w.join → (c : HostCall) → Step-follows (record { join = h; left = w.left; right = w.right }) w c
step_by h w d (left f) = on_left_lem h w d f
step_by h w d (right f) = on_right_lem h w d f
step_by h w d end = on_end_lem h w d
step_by h w d (ports a b c) = on_ports_lem h w d a b c
step_by h w d (turn out) = on_turn_lem h w d out
step_by h w d (run k out) = on_run_lem h w d k out

pub step_follows : (v : HostWorld) (w : World) → Agree v w → (c : HostCall) → Step-follows v w c
step_follows v w a c = subst (λ (z : HostWorld). Step-follows z w c) (rw (a.left, a.right)) (step_by v.join w a.join c)

pub host_lists : HostLists
unfolding host_events host_final node_calls node_events final
host_lists v w a [] = record { events = refl; leaves = a }
host_lists v w a (c ∷ cs) =
    let s = step_follows v w a c in
    let t = host_lists (host_step v c).world (final w (calls_for w c)) s.1 cs in
    record { events = rw (s.0, t.events); leaves = rw (final_append w (calls_for w c) (node_calls (final w (calls_for w c)) cs)) t.leaves }
