-- Free words are unread by a host's calls, since they are the node's. Assumes nothing.
use mathlib.Core.Path.{◌≡◌, refl, sym, ap, ◌∙◌}
use mathlib.Core.List.{List, [], ◌∷◌, map}
use Prim.Native.Nat.{ℕ, zero, suc}
use lib.ListN.{drop}
use Rattle.frames.specs.Cells.{Words}
use Rattle.order.specs.options.Options.{answer_columns}
use Rattle.node.specs.Calls.{turn_call}
use Rattle.node.specs.runs.Run.{turn_words}
use Rattle.ffi.specs.convert.Convert.{decode}
use Rattle.ffi.specs.codes.Codes.{port_of}
use Rattle.lists.specs.Lists.{left as node_left, right as node_right, end as node_end, ports as node_ports, turn as node_turn, World, step, final}
use Rattle.lists.specs.Runs.{lent_by, turns_of}
use Rattle.lists.specs.Unread.{AlikeWorlds}
use Rattle.lists.proofs.Unread.{turn_unread, step_unread, free_unread}
use Rattle.hostcalls.specs.hostlists.HostLists.{HostCall, left, right, end, ports, turn, run, calls_for, event_for, node_events}
use Rattle.hostcalls.specs.hostlists.HostFree.{HostFree}
use Rattle.hostcalls.proofs.hostlists.Follow.{host_lists}

-- A run lends the same outputs to its turns.
lent_same : (k : ℕ) (v w : World) → AlikeWorlds v w → (out : Words) → lent_by k v out ≡ lent_by k w out
unfolding lent_by
lent_same zero v w a out = refl
lent_same (suc k) v w a out =
    let t = turn_call w.join w.left w.right out in
    let s = turn_unread w.join w.left w.right v.left v.right a.areas out in
    let ih = lent_same k (step v (node_turn out)).world (step w (node_turn out)).world (step_unread v w a (node_turn out)).1 (drop (turn_words (answer_columns w.join.options) t.out) t.out) in
    rw (a.join, s.answer, s.out, rw a.join at ih)

module _ (v w : World) (a : AlikeWorlds v w) where
  calls_same : (c : HostCall) → calls_for v c ≡ calls_for w c
  calls_same (left f) = refl
  calls_same (right f) = refl
  calls_same end = refl
  calls_same (ports l r s) = refl
  calls_same (turn out) = refl
  calls_same (run k out) = ap (map node_turn) (lent_same k v w a out)

  event_same : (c : HostCall) → event_for v c ≡ event_for w c
  event_same (left f) = let s = step_unread v w a (node_left f) in rw (s.0, s.1.join)
  event_same (right f) = let s = step_unread v w a (node_right f) in rw (s.0, s.1.join)
  event_same end = let s = step_unread v w a node_end in rw (s.0, s.1.join)
  event_same (ports l r p) = let s = step_unread v w a (node_ports (port_of l) (port_of r) (port_of p)) in rw (s.0, s.1.join, a.join)
  event_same (turn out) = let s = step_unread v w a (node_turn out) in rw (s.0, s.1.join)
  event_same (run k out) = let u = free_unread v w a (turns_of k w out) in rw (lent_same k v w a out, u.answers, u.leaves.join, a.join)

list_same : (cs : List HostCall) (v w : World) → AlikeWorlds v w → node_events v cs ≡ node_events w cs
unfolding node_events
list_same [] v w a = refl
list_same (c ∷ cs) v w a =
    rw (event_same v w a c, calls_same v w a c, list_same cs (final v (calls_for w c)) (final w (calls_for w c)) (free_unread v w a (calls_for w c)).leaves)

pub host_free : HostFree
host_free v v' j d e a calls =
    let w : World = record { join = j; left = v.left; right = v.right } in
    let w' : World = record { join = j; left = v'.left; right = v'.right } in
    let x = host_lists v w (record { join = d; left = refl; right = refl }) calls in
    let y = host_lists v' w' (record { join = ap decode e ∙ d; left = refl; right = refl }) calls in
    y.events ∙ list_same calls w' w (record { join = refl; areas = a }) ∙ sym x.events
