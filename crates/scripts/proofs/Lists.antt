-- Random lists of calls, told as text in lists.txt: every answer, and then the join and the words of both areas, are those that the rules read from SCOPE give.
-- Written by make. Assumes nothing.
use Rattle.std.specs.Prelude.{None, Some}
use mathlib.Core.Path.{◌≡◌, refl}
use mathlib.Core.Bool.{true, false}
use mathlib.Core.List.{[], ◌∷◌}
use lib.IntN.{pos, negsuc}
use Rattle.frames.specs.Cells.{null, value}
use Rattle.order.proofs.Samples.{options, carrying, distancing}
use Rattle.lists.specs.Lists.{left, right, end, ports, turn}
use Rattle.lists.proofs.Script.{ok, refused, wrote, wants, idle, no_join, looks, areas, opens, call, state, dump, space, script, ports as said-ports}
use Rattle.frames.specs.declared.outcomes.PortState.TheVariants.{Blocked, Ready, Done as PortDone}

list_1 : script
    (opens (carrying 2 (options 1 0 false (negsuc 0) true (true ∷ []) (false ∷ []))) 32 69
    ∷ call (turn (space 32))
    ∷ call (right (pos 3 ∷ pos 4 ∷ pos 1 ∷ pos 3 ∷ negsuc 2370604343780902621 ∷ pos 9032208005477717347 ∷ pos 1 ∷ pos 3 ∷ pos 9223372036854775805 ∷ pos 3616131973424738742 ∷ pos 1 ∷ pos 4 ∷ pos 7831105665363506262 ∷ pos 7632155455715828975 ∷ pos 1 ∷ pos 1 ∷ pos 1 ∷ pos 1 ∷ pos 1 ∷ pos 1 ∷ pos 1 ∷ pos 1 ∷ pos 1 ∷ pos 1 ∷ pos 1 ∷ pos 1 ∷ []))
    ∷ call (ports Ready Ready Ready)
    ∷ call (turn (space 32))
    ∷ call (turn (space 32))
    ∷ call (left (pos 5 ∷ pos 2 ∷ pos 1 ∷ pos 3 ∷ pos 1 ∷ pos 3 ∷ pos 1 ∷ pos 3 ∷ pos 1 ∷ pos 4 ∷ pos 1 ∷ pos 4 ∷ pos 1 ∷ pos 1 ∷ pos 1 ∷ pos 1 ∷ pos 1 ∷ pos 1 ∷ pos 1 ∷ pos 1 ∷ pos 1 ∷ pos 1 ∷ []))
    ∷ call (left (pos 2 ∷ pos 2 ∷ pos 0 ∷ pos 0 ∷ pos 0 ∷ pos 0 ∷ pos 1 ∷ pos 1 ∷ pos 1 ∷ pos 1 ∷ []))
    ∷ call (turn (space 32))
    ∷ call (turn (space 32))
    ∷ call (turn (space 32))
    ∷ call (turn (space 32))
    ∷ call (turn (space 32))
    ∷ call (right (pos 3 ∷ pos 4 ∷ pos 1 ∷ pos 4 ∷ negsuc 7384669082635186173 ∷ negsuc 6791146519296701173 ∷ pos 1 ∷ pos 5 ∷ pos 9194516676508510057 ∷ pos 6190610754481908753 ∷ pos 1 ∷ pos 1 ∷ negsuc 495618148025563081 ∷ negsuc 0 ∷ pos 1 ∷ pos 1 ∷ pos 1 ∷ pos 1 ∷ pos 1 ∷ pos 1 ∷ pos 1 ∷ pos 1 ∷ pos 1 ∷ pos 1 ∷ pos 1 ∷ pos 1 ∷ []))
    ∷ call (right (pos 3 ∷ pos 4 ∷ pos 0 ∷ pos 4 ∷ pos 1 ∷ pos 7666360619691390132 ∷ pos 0 ∷ pos 4 ∷ pos 1234075601576443824 ∷ pos 1670216375401573742 ∷ pos 0 ∷ pos 5 ∷ negsuc 8901351243060452146 ∷ negsuc 7852414178718830492 ∷ pos 1 ∷ pos 1 ∷ pos 1 ∷ pos 1 ∷ pos 1 ∷ pos 1 ∷ pos 1 ∷ pos 1 ∷ pos 1 ∷ pos 1 ∷ pos 1 ∷ pos 1 ∷ []))
    ∷ call end
    ∷ call (turn (space 32))
    ∷ call (turn (space 32))
    ∷ call (ports PortDone Blocked Blocked)
    ∷ state
    ∷ dump
    ∷ [])
    ≡ ok
    ∷ idle
    ∷ ok
    ∷ said-ports 1 1 1 0
    ∷ idle
    ∷ idle
    ∷ ok
    ∷ ok
    ∷ wrote 0 (pos 5 ∷ pos 3 ∷ pos 0 ∷ pos 0 ∷ pos 0 ∷ pos 0 ∷ pos 0 ∷ pos 0 ∷ pos 0 ∷ pos 0 ∷ pos 0 ∷ pos 1 ∷ pos 9223372036854775805 ∷ pos 3616131973424738742 ∷ pos 1 ∷ pos 9223372036854775805 ∷ pos 3616131973424738742 ∷ pos 0 ∷ pos 0 ∷ pos 0 ∷ pos 0 ∷ pos 0 ∷ pos 0 ∷ pos 0 ∷ pos 0 ∷ pos 0 ∷ pos 1 ∷ pos 1 ∷ pos 1 ∷ pos 1 ∷ pos 1 ∷ pos 1 ∷ [])
    ∷ wants
    ∷ wants
    ∷ wants
    ∷ wants
    ∷ ok
    ∷ ok
    ∷ ok
    ∷ refused 9
    ∷ refused 3
    ∷ refused 3
    ∷ looks (0 ∷ 8 ∷ 1 ∷ 22 ∷ 10 ∷ 0 ∷ 1 ∷ 1 ∷ 2 ∷ []) (Some (value (pos 1) ∷ value (pos 4) ∷ [])) (Some (value (pos 1) ∷ value (pos 3) ∷ []))
    ∷ areas (pos 5 ∷ pos 2 ∷ pos 1 ∷ pos 3 ∷ pos 1 ∷ pos 3 ∷ pos 1 ∷ pos 3 ∷ pos 1 ∷ pos 4 ∷ pos 1 ∷ pos 4 ∷ pos 1 ∷ pos 1 ∷ pos 1 ∷ pos 1 ∷ pos 1 ∷ pos 1 ∷ pos 1 ∷ pos 1 ∷ pos 1 ∷ pos 1 ∷ pos 2 ∷ pos 2 ∷ pos 0 ∷ pos 0 ∷ pos 0 ∷ pos 0 ∷ pos 1 ∷ pos 1 ∷ pos 1 ∷ pos 1 ∷ []) (pos 1 ∷ pos 3 ∷ pos 9223372036854775805 ∷ pos 3616131973424738742 ∷ pos 1 ∷ pos 4 ∷ pos 7831105665363506262 ∷ pos 7632155455715828975 ∷ pos 1 ∷ pos 4 ∷ negsuc 7384669082635186173 ∷ negsuc 6791146519296701173 ∷ pos 1 ∷ pos 5 ∷ pos 9194516676508510057 ∷ pos 6190610754481908753 ∷ pos 1 ∷ pos 1 ∷ negsuc 495618148025563081 ∷ negsuc 0 ∷ pos 0 ∷ pos 4 ∷ pos 1 ∷ pos 7666360619691390132 ∷ pos 0 ∷ pos 4 ∷ pos 1234075601576443824 ∷ pos 1670216375401573742 ∷ pos 0 ∷ pos 5 ∷ negsuc 8901351243060452146 ∷ negsuc 7852414178718830492 ∷ pos 1 ∷ pos 1 ∷ pos 1 ∷ pos 1 ∷ pos 1 ∷ pos 1 ∷ pos 1 ∷ pos 1 ∷ pos 1 ∷ pos 1 ∷ pos 1 ∷ pos 1 ∷ pos 1 ∷ pos 1 ∷ pos 1 ∷ pos 1 ∷ pos 1 ∷ pos 1 ∷ pos 1 ∷ pos 1 ∷ pos 1 ∷ pos 1 ∷ pos 1 ∷ pos 1 ∷ pos 1 ∷ pos 1 ∷ pos 1 ∷ pos 1 ∷ pos 1 ∷ pos 1 ∷ pos 1 ∷ pos 1 ∷ pos 2 ∷ negsuc 5 ∷ negsuc 0 ∷ pos 4 ∷ negsuc 3 ∷ [])
    ∷ []
unfolding script
list_1 = refl

list_2 : script
    (opens (options 4 1 true (pos 2) false (false ∷ false ∷ true ∷ true ∷ []) (false ∷ true ∷ true ∷ false ∷ [])) 34 20
    ∷ call end
    ∷ call (ports Ready PortDone Ready)
    ∷ call end
    ∷ call end
    ∷ call (left (pos 1 ∷ pos 5 ∷ pos 1 ∷ pos 1 ∷ pos 1 ∷ pos 1 ∷ pos 3 ∷ pos 1 ∷ pos 1 ∷ pos 1 ∷ pos 1 ∷ pos 1 ∷ []))
    ∷ call (turn (space 6))
    ∷ call (left (pos 2 ∷ pos 5 ∷ pos 1 ∷ pos 1 ∷ pos 1 ∷ pos 1 ∷ pos 6 ∷ pos 1 ∷ pos 1 ∷ pos 0 ∷ pos 1 ∷ pos 4 ∷ pos 1 ∷ pos 1 ∷ pos 1 ∷ pos 1 ∷ pos 1 ∷ pos 1 ∷ pos 1 ∷ pos 1 ∷ pos 1 ∷ pos 1 ∷ []))
    ∷ call (turn (space 6))
    ∷ call (right (pos 2 ∷ pos 5 ∷ pos 0 ∷ pos 0 ∷ pos 0 ∷ pos 0 ∷ pos 3 ∷ pos 1 ∷ pos 1 ∷ pos 0 ∷ pos 1 ∷ pos 10 ∷ pos 1 ∷ pos 1 ∷ pos 1 ∷ pos 1 ∷ pos 1 ∷ pos 1 ∷ pos 1 ∷ pos 1 ∷ pos 1 ∷ pos 1 ∷ []))
    ∷ call end
    ∷ call (turn (space 6))
    ∷ call end
    ∷ call (turn (space 6))
    ∷ call (ports PortDone Ready Ready)
    ∷ state
    ∷ dump
    ∷ [])
    ≡ ok
    ∷ ok
    ∷ said-ports 1 1 1 0
    ∷ refused 4
    ∷ refused 4
    ∷ ok
    ∷ wrote 0 (pos 1 ∷ pos 1 ∷ pos 0 ∷ pos 0 ∷ [])
    ∷ ok
    ∷ wrote 2 (pos 2 ∷ pos 1 ∷ pos 0 ∷ pos 0 ∷ pos 0 ∷ pos 0 ∷ [])
    ∷ refused 4
    ∷ refused 4
    ∷ idle
    ∷ refused 4
    ∷ idle
    ∷ said-ports 2 2 2 2
    ∷ looks (0 ∷ 0 ∷ 0 ∷ 34 ∷ 0 ∷ 2 ∷ 1 ∷ 0 ∷ 4 ∷ []) None None
    ∷ areas (pos 1 ∷ pos 5 ∷ pos 1 ∷ pos 1 ∷ pos 1 ∷ pos 1 ∷ pos 3 ∷ pos 1 ∷ pos 1 ∷ pos 1 ∷ pos 1 ∷ pos 1 ∷ pos 2 ∷ pos 5 ∷ pos 1 ∷ pos 1 ∷ pos 1 ∷ pos 1 ∷ pos 6 ∷ pos 1 ∷ pos 1 ∷ pos 0 ∷ pos 1 ∷ pos 4 ∷ pos 1 ∷ pos 1 ∷ pos 1 ∷ pos 1 ∷ pos 1 ∷ pos 1 ∷ pos 1 ∷ pos 1 ∷ pos 1 ∷ pos 1 ∷ []) (negsuc 5 ∷ negsuc 0 ∷ pos 4 ∷ negsuc 3 ∷ pos 1 ∷ pos 6 ∷ negsuc 1 ∷ pos 3 ∷ negsuc 4 ∷ pos 0 ∷ pos 5 ∷ negsuc 2 ∷ pos 2 ∷ negsuc 5 ∷ negsuc 0 ∷ pos 4 ∷ negsuc 3 ∷ pos 1 ∷ pos 6 ∷ negsuc 1 ∷ [])
    ∷ []
unfolding script
list_2 = refl

list_3 : script
    (opens (carrying 1 (options 0 2 true (negsuc 0) false [] [])) 14 32
    ∷ call (left (pos 2 ∷ pos 1 ∷ negsuc 9223372036854775806 ∷ pos 1 ∷ pos 1 ∷ pos 1 ∷ []))
    ∷ call (turn (space 10))
    ∷ call (right (pos 5 ∷ pos 2 ∷ pos 0 ∷ pos 108 ∷ negsuc 9223372036854775807 ∷ pos 967 ∷ negsuc 9223372036854775805 ∷ pos 228 ∷ pos 9223372036854775805 ∷ pos 435 ∷ pos 9223372036854775806 ∷ pos 859 ∷ pos 0 ∷ pos 1 ∷ pos 1 ∷ pos 1 ∷ pos 1 ∷ pos 1 ∷ pos 1 ∷ pos 1 ∷ pos 1 ∷ pos 1 ∷ []))
    ∷ call (left (pos 0 ∷ pos 1 ∷ []))
    ∷ call (ports Blocked PortDone Blocked)
    ∷ call (left (pos 2 ∷ pos 1 ∷ negsuc 0 ∷ pos 0 ∷ pos 1 ∷ pos 1 ∷ []))
    ∷ call (ports Blocked Blocked Blocked)
    ∷ call (ports PortDone PortDone Ready)
    ∷ call (turn (space 10))
    ∷ call (right (pos 3 ∷ pos 2 ∷ pos 9223372036854775806 ∷ pos 750 ∷ pos 9223372036854775807 ∷ pos 852 ∷ pos 9223372036854775807 ∷ pos 264 ∷ pos 1 ∷ pos 1 ∷ pos 1 ∷ pos 1 ∷ pos 1 ∷ pos 1 ∷ []))
    ∷ call (ports PortDone Ready Ready)
    ∷ call (turn (space 10))
    ∷ call end
    ∷ call (turn (space 10))
    ∷ call (ports Ready Ready Ready)
    ∷ state
    ∷ dump
    ∷ [])
    ≡ ok
    ∷ ok
    ∷ wants
    ∷ ok
    ∷ ok
    ∷ said-ports 0 0 0 0
    ∷ ok
    ∷ said-ports 0 0 0 0
    ∷ said-ports 2 1 1 1
    ∷ wrote 0 (pos 2 ∷ pos 2 ∷ pos 2 ∷ pos 228 ∷ pos 3 ∷ pos 435 ∷ pos 1 ∷ pos 1 ∷ pos 1 ∷ pos 1 ∷ [])
    ∷ ok
    ∷ said-ports 2 1 1 1
    ∷ wrote 2 (pos 0 ∷ pos 2 ∷ [])
    ∷ ok
    ∷ wrote 4 (pos 2 ∷ pos 2 ∷ pos 2 ∷ pos 228 ∷ pos 3 ∷ pos 435 ∷ pos 1 ∷ pos 1 ∷ pos 1 ∷ pos 1 ∷ [])
    ∷ said-ports 2 2 2 2
    ∷ looks (2 ∷ 6 ∷ 2 ∷ 14 ∷ 0 ∷ 2 ∷ 1 ∷ 0 ∷ 6 ∷ []) None None
    ∷ areas (pos 2 ∷ pos 1 ∷ negsuc 9223372036854775806 ∷ pos 1 ∷ pos 1 ∷ pos 1 ∷ pos 0 ∷ pos 1 ∷ pos 2 ∷ pos 1 ∷ negsuc 0 ∷ pos 0 ∷ pos 1 ∷ pos 1 ∷ []) (pos 0 ∷ pos 108 ∷ negsuc 9223372036854775807 ∷ pos 967 ∷ negsuc 9223372036854775805 ∷ pos 228 ∷ pos 9223372036854775805 ∷ pos 435 ∷ pos 9223372036854775806 ∷ pos 859 ∷ pos 9223372036854775806 ∷ pos 750 ∷ pos 9223372036854775807 ∷ pos 852 ∷ pos 9223372036854775807 ∷ pos 264 ∷ pos 0 ∷ pos 1 ∷ pos 1 ∷ pos 1 ∷ pos 1 ∷ pos 1 ∷ pos 1 ∷ pos 1 ∷ pos 1 ∷ pos 1 ∷ pos 1 ∷ pos 1 ∷ pos 1 ∷ pos 1 ∷ pos 1 ∷ pos 1 ∷ [])
    ∷ []
unfolding script
list_3 = refl

list_4 : script
    (opens (options 2 1 false (negsuc 0) true (false ∷ false ∷ []) (false ∷ false ∷ [])) 22 84
    ∷ call (ports Blocked Blocked Ready)
    ∷ call (left (pos 2 ∷ pos 3 ∷ pos 0 ∷ pos 0 ∷ pos 3 ∷ pos 1 ∷ pos 0 ∷ pos 4 ∷ pos 1 ∷ pos 1 ∷ pos 1 ∷ pos 1 ∷ pos 1 ∷ pos 1 ∷ []))
    ∷ call (right (pos 3 ∷ pos 3 ∷ pos 0 ∷ pos 0 ∷ pos 0 ∷ pos 0 ∷ pos 0 ∷ pos 1 ∷ pos 0 ∷ pos 0 ∷ pos 4 ∷ pos 1 ∷ pos 1 ∷ pos 1 ∷ pos 1 ∷ pos 1 ∷ pos 1 ∷ pos 1 ∷ pos 1 ∷ pos 1 ∷ []))
    ∷ call (right (pos 1 ∷ pos 3 ∷ pos 0 ∷ pos 0 ∷ pos 4 ∷ pos 1 ∷ pos 1 ∷ pos 1 ∷ []))
    ∷ call (turn (space 6))
    ∷ call (left (pos 1 ∷ pos 3 ∷ pos 1 ∷ pos 0 ∷ pos 2 ∷ pos 1 ∷ pos 1 ∷ pos 1 ∷ []))
    ∷ call (turn (space 6))
    ∷ call (right (pos 2 ∷ pos 3 ∷ pos 0 ∷ pos 1 ∷ pos 2 ∷ pos 0 ∷ pos 1 ∷ pos 3 ∷ pos 1 ∷ pos 1 ∷ pos 1 ∷ pos 1 ∷ pos 1 ∷ pos 1 ∷ []))
    ∷ call (right (pos 3 ∷ pos 3 ∷ pos 0 ∷ pos 1 ∷ pos 4 ∷ pos 1 ∷ pos 0 ∷ pos 0 ∷ pos 1 ∷ pos 0 ∷ pos 0 ∷ pos 1 ∷ pos 1 ∷ pos 1 ∷ pos 1 ∷ pos 1 ∷ pos 1 ∷ pos 1 ∷ pos 1 ∷ pos 1 ∷ []))
    ∷ call (right (pos 3 ∷ pos 3 ∷ pos 1 ∷ pos 1 ∷ pos 0 ∷ pos 1 ∷ pos 1 ∷ pos 0 ∷ pos 1 ∷ pos 1 ∷ pos 0 ∷ pos 1 ∷ pos 1 ∷ pos 1 ∷ pos 1 ∷ pos 1 ∷ pos 1 ∷ pos 1 ∷ pos 1 ∷ pos 1 ∷ []))
    ∷ call (turn (space 6))
    ∷ call (turn (space 6))
    ∷ call (turn (space 6))
    ∷ call (turn (space 6))
    ∷ call (right (pos 1 ∷ pos 3 ∷ pos 1 ∷ pos 1 ∷ pos 3 ∷ pos 1 ∷ pos 1 ∷ pos 1 ∷ []))
    ∷ call (turn (space 6))
    ∷ call (right (pos 1 ∷ pos 3 ∷ pos 1 ∷ pos 1 ∷ pos 4 ∷ pos 1 ∷ pos 1 ∷ pos 1 ∷ []))
    ∷ call end
    ∷ call (turn (space 6))
    ∷ call (ports Ready Ready Ready)
    ∷ state
    ∷ dump
    ∷ [])
    ≡ ok
    ∷ said-ports 0 0 0 0
    ∷ ok
    ∷ ok
    ∷ ok
    ∷ wants
    ∷ ok
    ∷ wants
    ∷ ok
    ∷ ok
    ∷ ok
    ∷ wrote 0 (pos 2 ∷ pos 1 ∷ pos 2 ∷ pos 0 ∷ pos 1 ∷ pos 0 ∷ [])
    ∷ refused 8
    ∷ refused 3
    ∷ refused 3
    ∷ refused 3
    ∷ refused 3
    ∷ refused 3
    ∷ refused 3
    ∷ refused 3
    ∷ refused 3
    ∷ looks (9 ∷ 3 ∷ 9 ∷ 14 ∷ 8 ∷ 0 ∷ 0 ∷ 1 ∷ 2 ∷ []) (Some (value (pos 1) ∷ value (pos 0) ∷ value (pos 4) ∷ [])) (Some (value (pos 1) ∷ value (pos 0) ∷ value (pos 0) ∷ []))
    ∷ areas (pos 2 ∷ pos 3 ∷ pos 0 ∷ pos 0 ∷ pos 3 ∷ pos 1 ∷ pos 0 ∷ pos 4 ∷ pos 1 ∷ pos 1 ∷ pos 1 ∷ pos 1 ∷ pos 1 ∷ pos 1 ∷ pos 1 ∷ pos 3 ∷ pos 1 ∷ pos 0 ∷ pos 2 ∷ pos 1 ∷ pos 1 ∷ pos 1 ∷ []) (pos 0 ∷ pos 0 ∷ pos 0 ∷ pos 0 ∷ pos 0 ∷ pos 1 ∷ pos 0 ∷ pos 0 ∷ pos 4 ∷ pos 0 ∷ pos 0 ∷ pos 4 ∷ pos 0 ∷ pos 1 ∷ pos 2 ∷ pos 0 ∷ pos 1 ∷ pos 3 ∷ pos 0 ∷ pos 1 ∷ pos 4 ∷ pos 1 ∷ pos 0 ∷ pos 0 ∷ pos 1 ∷ pos 0 ∷ pos 0 ∷ pos 1 ∷ pos 1 ∷ pos 0 ∷ pos 1 ∷ pos 1 ∷ pos 0 ∷ pos 1 ∷ pos 1 ∷ pos 0 ∷ pos 5 ∷ negsuc 2 ∷ pos 2 ∷ negsuc 5 ∷ negsuc 0 ∷ pos 4 ∷ pos 1 ∷ pos 1 ∷ pos 1 ∷ pos 1 ∷ pos 1 ∷ pos 1 ∷ pos 1 ∷ pos 1 ∷ pos 1 ∷ pos 1 ∷ pos 1 ∷ pos 1 ∷ pos 1 ∷ pos 1 ∷ pos 1 ∷ pos 1 ∷ pos 1 ∷ pos 1 ∷ pos 1 ∷ pos 1 ∷ pos 1 ∷ pos 1 ∷ pos 1 ∷ pos 1 ∷ pos 1 ∷ pos 1 ∷ pos 1 ∷ pos 1 ∷ pos 1 ∷ pos 1 ∷ pos 1 ∷ pos 1 ∷ pos 1 ∷ pos 1 ∷ pos 1 ∷ pos 1 ∷ negsuc 5 ∷ negsuc 0 ∷ pos 4 ∷ negsuc 3 ∷ pos 1 ∷ pos 6 ∷ [])
    ∷ []
unfolding script
list_4 = refl

list_5 : script
    (opens (carrying 0 (options 3 2 true (pos 2) true (true ∷ true ∷ false ∷ []) (true ∷ false ∷ false ∷ []))) 44 32
    ∷ call (right (pos 2 ∷ pos 4 ∷ pos 1 ∷ pos 0 ∷ pos 0 ∷ pos 9223372036854775807 ∷ pos 1 ∷ pos 0 ∷ pos 1 ∷ pos 0 ∷ pos 1 ∷ pos 1 ∷ pos 1 ∷ pos 1 ∷ pos 1 ∷ pos 1 ∷ pos 1 ∷ pos 1 ∷ []))
    ∷ call (left (pos 1 ∷ pos 4 ∷ pos 1 ∷ pos 0 ∷ pos 0 ∷ negsuc 9223372036854775806 ∷ pos 1 ∷ pos 0 ∷ pos 1 ∷ pos 1 ∷ []))
    ∷ call (turn (space 10))
    ∷ call (left (pos 4 ∷ pos 4 ∷ pos 1 ∷ pos 1 ∷ pos 0 ∷ pos 1 ∷ pos 0 ∷ pos 0 ∷ pos 1 ∷ pos 0 ∷ pos 0 ∷ pos 1 ∷ pos 1 ∷ pos 0 ∷ pos 0 ∷ pos 0 ∷ pos 0 ∷ negsuc 9223372036854775806 ∷ pos 1 ∷ pos 1 ∷ pos 1 ∷ pos 1 ∷ pos 1 ∷ pos 0 ∷ pos 1 ∷ pos 1 ∷ pos 1 ∷ pos 1 ∷ pos 1 ∷ pos 1 ∷ pos 0 ∷ pos 1 ∷ pos 1 ∷ pos 1 ∷ []))
    ∷ call (right (pos 1 ∷ pos 4 ∷ pos 0 ∷ pos 0 ∷ pos 0 ∷ negsuc 9223372036854775807 ∷ pos 1 ∷ pos 1 ∷ pos 1 ∷ pos 1 ∷ []))
    ∷ call (turn (space 10))
    ∷ call (ports Blocked Ready Ready)
    ∷ call (right (pos 1 ∷ pos 4 ∷ pos 0 ∷ pos 0 ∷ pos 0 ∷ pos 0 ∷ pos 0 ∷ pos 1 ∷ pos 1 ∷ pos 0 ∷ []))
    ∷ call (turn (space 10))
    ∷ call (right (pos 0 ∷ pos 4 ∷ []))
    ∷ call (turn (space 10))
    ∷ call (turn (space 10))
    ∷ call end
    ∷ call (turn (space 10))
    ∷ call (ports PortDone Blocked PortDone)
    ∷ state
    ∷ dump
    ∷ [])
    ≡ ok
    ∷ ok
    ∷ ok
    ∷ wrote 0 (pos 1 ∷ pos 1 ∷ pos 0 ∷ pos 0 ∷ [])
    ∷ ok
    ∷ ok
    ∷ wants
    ∷ said-ports 1 0 0 0
    ∷ ok
    ∷ wants
    ∷ ok
    ∷ wants
    ∷ wants
    ∷ ok
    ∷ wrote 2 (pos 4 ∷ pos 1 ∷ pos 0 ∷ pos 0 ∷ pos 0 ∷ pos 0 ∷ pos 0 ∷ pos 0 ∷ pos 0 ∷ pos 0 ∷ [])
    ∷ said-ports 2 2 2 2
    ∷ looks (3 ∷ 1 ∷ 3 ∷ 44 ∷ 0 ∷ 2 ∷ 1 ∷ 0 ∷ 4 ∷ []) (Some (null ∷ value (pos 0) ∷ value (pos 0) ∷ value (negsuc 9223372036854775806) ∷ [])) (Some (value (pos 0) ∷ value (pos 0) ∷ value (pos 0) ∷ value (negsuc 9223372036854775807) ∷ []))
    ∷ areas (pos 1 ∷ pos 4 ∷ pos 1 ∷ pos 0 ∷ pos 0 ∷ negsuc 9223372036854775806 ∷ pos 1 ∷ pos 0 ∷ pos 1 ∷ pos 1 ∷ pos 4 ∷ pos 4 ∷ pos 1 ∷ pos 1 ∷ pos 0 ∷ pos 1 ∷ pos 0 ∷ pos 0 ∷ pos 1 ∷ pos 0 ∷ pos 0 ∷ pos 1 ∷ pos 1 ∷ pos 0 ∷ pos 0 ∷ pos 0 ∷ pos 0 ∷ negsuc 9223372036854775806 ∷ pos 1 ∷ pos 1 ∷ pos 1 ∷ pos 1 ∷ pos 1 ∷ pos 0 ∷ pos 1 ∷ pos 1 ∷ pos 1 ∷ pos 1 ∷ pos 1 ∷ pos 1 ∷ pos 0 ∷ pos 1 ∷ pos 1 ∷ pos 1 ∷ []) (pos 1 ∷ pos 0 ∷ pos 0 ∷ pos 9223372036854775807 ∷ pos 1 ∷ pos 0 ∷ pos 1 ∷ pos 0 ∷ pos 0 ∷ pos 0 ∷ pos 0 ∷ negsuc 9223372036854775807 ∷ pos 0 ∷ pos 0 ∷ pos 0 ∷ pos 0 ∷ pos 1 ∷ pos 1 ∷ pos 1 ∷ pos 1 ∷ pos 1 ∷ pos 1 ∷ pos 1 ∷ pos 1 ∷ pos 1 ∷ pos 1 ∷ pos 1 ∷ pos 1 ∷ pos 0 ∷ pos 1 ∷ pos 1 ∷ pos 0 ∷ [])
    ∷ []
unfolding script
list_5 = refl

list_6 : script
    (opens (options 1 0 true (negsuc 0) true (true ∷ []) (true ∷ [])) 46 36
    ∷ call (right (pos 2 ∷ pos 2 ∷ pos 1 ∷ pos 4 ∷ pos 1 ∷ pos 9 ∷ pos 1 ∷ pos 1 ∷ pos 1 ∷ pos 1 ∷ []))
    ∷ call (ports Ready Ready Blocked)
    ∷ call (ports Ready Ready Ready)
    ∷ call (left (pos 0 ∷ pos 2 ∷ []))
    ∷ call (left (pos 3 ∷ pos 2 ∷ pos 1 ∷ pos 2 ∷ pos 1 ∷ pos 2 ∷ pos 1 ∷ pos 3 ∷ pos 1 ∷ pos 1 ∷ pos 1 ∷ pos 1 ∷ pos 1 ∷ pos 1 ∷ []))
    ∷ call (turn (space 16))
    ∷ call (turn (space 16))
    ∷ call (right (pos 0 ∷ pos 2 ∷ []))
    ∷ call (right (pos 3 ∷ pos 2 ∷ pos 0 ∷ pos 2 ∷ pos 0 ∷ pos 2 ∷ pos 0 ∷ pos 7 ∷ pos 0 ∷ pos 1 ∷ pos 1 ∷ pos 1 ∷ pos 1 ∷ pos 1 ∷ []))
    ∷ call (ports Ready PortDone Ready)
    ∷ call (turn (space 16))
    ∷ call (right (pos 2 ∷ pos 2 ∷ pos 0 ∷ pos 2 ∷ pos 0 ∷ pos 4 ∷ pos 1 ∷ pos 1 ∷ pos 0 ∷ pos 1 ∷ []))
    ∷ call (ports Blocked Ready Blocked)
    ∷ call (right (pos 2 ∷ pos 2 ∷ pos 0 ∷ pos 5 ∷ pos 0 ∷ pos 7 ∷ pos 0 ∷ pos 1 ∷ pos 0 ∷ pos 1 ∷ []))
    ∷ call (left (pos 7 ∷ pos 2 ∷ pos 1 ∷ pos 11 ∷ pos 0 ∷ pos 2 ∷ pos 0 ∷ pos 2 ∷ pos 0 ∷ pos 5 ∷ pos 0 ∷ pos 7 ∷ pos 0 ∷ pos 0 ∷ pos 0 ∷ pos 7 ∷ pos 1 ∷ pos 1 ∷ pos 1 ∷ pos 1 ∷ pos 1 ∷ pos 1 ∷ pos 1 ∷ pos 1 ∷ pos 1 ∷ pos 1 ∷ pos 0 ∷ pos 1 ∷ pos 0 ∷ pos 1 ∷ []))
    ∷ call end
    ∷ call (turn (space 16))
    ∷ state
    ∷ dump
    ∷ [])
    ≡ ok
    ∷ ok
    ∷ said-ports 0 0 1 0
    ∷ said-ports 1 1 1 0
    ∷ ok
    ∷ ok
    ∷ wrote 0 (pos 0 ∷ pos 1 ∷ [])
    ∷ wrote 2 (pos 3 ∷ pos 1 ∷ pos 0 ∷ pos 0 ∷ pos 0 ∷ pos 0 ∷ pos 0 ∷ pos 0 ∷ [])
    ∷ ok
    ∷ ok
    ∷ said-ports 1 1 1 0
    ∷ idle
    ∷ ok
    ∷ said-ports 0 0 0 0
    ∷ ok
    ∷ ok
    ∷ ok
    ∷ refused 9
    ∷ looks (0 ∷ 9 ∷ 0 ∷ 16 ∷ 30 ∷ 0 ∷ 1 ∷ 1 ∷ 4 ∷ []) (Some (value (pos 1) ∷ value (pos 3) ∷ [])) None
    ∷ areas (pos 0 ∷ pos 2 ∷ pos 3 ∷ pos 2 ∷ pos 1 ∷ pos 2 ∷ pos 1 ∷ pos 2 ∷ pos 1 ∷ pos 3 ∷ pos 1 ∷ pos 1 ∷ pos 1 ∷ pos 1 ∷ pos 1 ∷ pos 1 ∷ pos 7 ∷ pos 2 ∷ pos 1 ∷ pos 11 ∷ pos 0 ∷ pos 2 ∷ pos 0 ∷ pos 2 ∷ pos 0 ∷ pos 5 ∷ pos 0 ∷ pos 7 ∷ pos 0 ∷ pos 0 ∷ pos 0 ∷ pos 7 ∷ pos 1 ∷ pos 1 ∷ pos 1 ∷ pos 1 ∷ pos 1 ∷ pos 1 ∷ pos 1 ∷ pos 1 ∷ pos 1 ∷ pos 1 ∷ pos 0 ∷ pos 1 ∷ pos 0 ∷ pos 1 ∷ []) (pos 1 ∷ pos 4 ∷ pos 1 ∷ pos 9 ∷ pos 0 ∷ pos 2 ∷ pos 0 ∷ pos 2 ∷ pos 0 ∷ pos 7 ∷ pos 0 ∷ pos 2 ∷ pos 0 ∷ pos 4 ∷ pos 0 ∷ pos 5 ∷ pos 0 ∷ pos 7 ∷ pos 1 ∷ pos 1 ∷ pos 1 ∷ pos 1 ∷ pos 0 ∷ pos 1 ∷ pos 1 ∷ pos 1 ∷ pos 1 ∷ pos 1 ∷ pos 1 ∷ pos 1 ∷ pos 0 ∷ pos 1 ∷ pos 0 ∷ pos 1 ∷ pos 0 ∷ pos 1 ∷ [])
    ∷ []
unfolding script
list_6 = refl

list_7 : script
    (opens (carrying 9 (options 1 1 true (pos 9223372036854775806) true (true ∷ []) (true ∷ []))) 46 5
    ∷ call (left (pos 8 ∷ pos 2 ∷ pos 1 ∷ negsuc 9223372036854775807 ∷ pos 1 ∷ negsuc 9223372036854775805 ∷ pos 1 ∷ negsuc 0 ∷ pos 0 ∷ negsuc 9223372036854775807 ∷ pos 0 ∷ negsuc 9223372036854775806 ∷ pos 0 ∷ negsuc 9223372036854775806 ∷ pos 0 ∷ negsuc 9223372036854775805 ∷ pos 0 ∷ pos 1 ∷ pos 1 ∷ pos 1 ∷ pos 1 ∷ pos 1 ∷ pos 1 ∷ pos 1 ∷ pos 1 ∷ pos 1 ∷ pos 1 ∷ pos 1 ∷ pos 1 ∷ pos 1 ∷ pos 1 ∷ pos 1 ∷ pos 1 ∷ pos 1 ∷ []))
    ∷ call (left (pos 2 ∷ pos 2 ∷ pos 0 ∷ pos 1 ∷ pos 1 ∷ pos 9223372036854775805 ∷ pos 1 ∷ pos 1 ∷ pos 1 ∷ pos 1 ∷ []))
    ∷ call (right (pos 1 ∷ pos 2 ∷ pos 1 ∷ negsuc 9223372036854775806 ∷ pos 1 ∷ pos 1 ∷ []))
    ∷ state
    ∷ call (turn (space 18))
    ∷ call (right (pos 2 ∷ pos 2 ∷ pos 1 ∷ negsuc 9223372036854775806 ∷ pos 1 ∷ negsuc 0 ∷ pos 1 ∷ pos 1 ∷ pos 1 ∷ pos 1 ∷ []))
    ∷ call (left (pos 2 ∷ pos 2 ∷ pos 1 ∷ pos 1 ∷ pos 1 ∷ pos 1 ∷ pos 1 ∷ pos 1 ∷ pos 1 ∷ pos 1 ∷ pos 0 ∷ []))
    ∷ call (turn (space 15))
    ∷ call (turn (space 12))
    ∷ call (right (pos 0 ∷ pos 2 ∷ []))
    ∷ call (right (pos 2 ∷ pos 2 ∷ pos 1 ∷ pos 1 ∷ pos 1 ∷ pos 1 ∷ pos 1 ∷ pos 1 ∷ pos 1 ∷ pos 1 ∷ []))
    ∷ call (right (pos 0 ∷ pos 2 ∷ []))
    ∷ call (left (pos 1 ∷ pos 2 ∷ pos 1 ∷ pos 1 ∷ pos 1 ∷ negsuc 0 ∷ []))
    ∷ call end
    ∷ call (ports Ready Blocked Blocked)
    ∷ call (right (pos 1 ∷ pos 2 ∷ pos 1 ∷ pos 9223372036854775805 ∷ pos 1 ∷ pos 1 ∷ []))
    ∷ call (turn (space 10))
    ∷ call (right (pos 2 ∷ pos 2 ∷ pos 0 ∷ negsuc 9223372036854775807 ∷ pos 0 ∷ pos 9223372036854775806 ∷ pos 1 ∷ pos 1 ∷ pos 1 ∷ pos 1 ∷ []))
    ∷ call (ports PortDone Ready Ready)
    ∷ call (turn (space 9))
    ∷ call (left (negsuc 9223372036854775807 ∷ pos 2 ∷ pos 1 ∷ pos 1 ∷ pos 1 ∷ pos 1 ∷ pos 1 ∷ pos 1 ∷ pos 1 ∷ pos 1 ∷ []))
    ∷ state
    ∷ dump
    ∷ [])
    ≡ refused 10
    ∷ no_join
    ∷ no_join
    ∷ no_join
    ∷ no_join
    ∷ no_join
    ∷ no_join
    ∷ no_join
    ∷ no_join
    ∷ no_join
    ∷ no_join
    ∷ no_join
    ∷ no_join
    ∷ no_join
    ∷ no_join
    ∷ no_join
    ∷ no_join
    ∷ no_join
    ∷ no_join
    ∷ no_join
    ∷ no_join
    ∷ no_join
    ∷ no_join
    ∷ no_join
    ∷ []
unfolding script
list_7 = refl

list_8 : script
    (opens (carrying 3 (options 1 2 true (pos 1) true (true ∷ []) (false ∷ []))) 33 27
    ∷ call (left (pos 0 ∷ pos 5 ∷ []))
    ∷ call (left (pos 3 ∷ pos 2 ∷ pos 9223372036854775807 ∷ pos 3 ∷ pos 1 ∷ pos 5 ∷ negsuc 0 ∷ pos 1 ∷ pos 1 ∷ pos 1 ∷ pos 1 ∷ pos 1 ∷ pos 1 ∷ pos 1 ∷ []))
    ∷ call (turn (space 26))
    ∷ call (turn (space 26))
    ∷ call (right (pos 1 ∷ pos 2 ∷ pos 1 ∷ pos 1 ∷ pos 1 ∷ pos 1 ∷ []))
    ∷ call (left (pos 0 ∷ pos 2 ∷ []))
    ∷ call (right (pos 1 ∷ pos 5 ∷ pos 9223372036854775806 ∷ pos 1 ∷ pos 726 ∷ pos 0 ∷ pos 543 ∷ pos 1 ∷ pos 1 ∷ pos 1 ∷ pos 0 ∷ pos 1 ∷ []))
    ∷ call (right (pos 2 ∷ pos 5 ∷ pos 1 ∷ pos 0 ∷ pos 560 ∷ pos 188 ∷ pos 347 ∷ pos 0 ∷ pos 0 ∷ pos 0 ∷ pos 990 ∷ pos 126 ∷ pos 1 ∷ pos 1 ∷ pos 1 ∷ pos 1 ∷ pos 1 ∷ pos 1 ∷ pos 1 ∷ pos 0 ∷ pos 1 ∷ pos 1 ∷ []))
    ∷ call (right (pos 1 ∷ pos 5 ∷ negsuc 9223372036854775805 ∷ pos 0 ∷ pos 0 ∷ pos 458 ∷ pos 499 ∷ pos 1 ∷ pos 1 ∷ pos 0 ∷ pos 1 ∷ pos 1 ∷ []))
    ∷ state
    ∷ call (left (pos 3 ∷ pos 2 ∷ negsuc 0 ∷ pos 1 ∷ negsuc 0 ∷ pos 3 ∷ negsuc 9223372036854775805 ∷ pos 5 ∷ pos 1 ∷ pos 1 ∷ pos 1 ∷ pos 1 ∷ pos 1 ∷ pos 1 ∷ []))
    ∷ state
    ∷ call (turn (space 22))
    ∷ call (left (pos 1 ∷ pos 2 ∷ negsuc 9223372036854775806 ∷ pos 0 ∷ pos 1 ∷ pos 1 ∷ []))
    ∷ call (left (pos 1 ∷ pos 2 ∷ negsuc 9223372036854775806 ∷ pos 5 ∷ pos 1 ∷ pos 1 ∷ []))
    ∷ call (turn (space 26))
    ∷ call (right (pos 2 ∷ pos 5 ∷ negsuc 9223372036854775805 ∷ pos 0 ∷ pos 409 ∷ pos 856 ∷ pos 0 ∷ negsuc 9223372036854775805 ∷ pos 2 ∷ pos 123 ∷ pos 0 ∷ pos 755 ∷ pos 1 ∷ pos 1 ∷ pos 1 ∷ pos 1 ∷ pos 0 ∷ pos 1 ∷ pos 1 ∷ pos 1 ∷ pos 0 ∷ pos 1 ∷ []))
    ∷ state
    ∷ dump
    ∷ [])
    ≡ ok
    ∷ refused 5
    ∷ ok
    ∷ wants
    ∷ wants
    ∷ refused 5
    ∷ ok
    ∷ ok
    ∷ refused 6
    ∷ ok
    ∷ looks (0 ∷ 2 ∷ 0 ∷ 0 ∷ 16 ∷ 0 ∷ 0 ∷ 0 ∷ 0 ∷ []) None None
    ∷ ok
    ∷ looks (0 ∷ 2 ∷ 0 ∷ 0 ∷ 30 ∷ 0 ∷ 0 ∷ 0 ∷ 0 ∷ []) None None
    ∷ refused 6
    ∷ refused 6
    ∷ refused 6
    ∷ wrote 0 (pos 3 ∷ pos 4 ∷ pos 0 ∷ pos 0 ∷ pos 0 ∷ pos 0 ∷ pos 0 ∷ pos 0 ∷ pos 0 ∷ pos 0 ∷ pos 0 ∷ pos 0 ∷ pos 0 ∷ pos 0 ∷ pos 0 ∷ pos 0 ∷ pos 0 ∷ pos 0 ∷ pos 0 ∷ pos 0 ∷ pos 0 ∷ pos 0 ∷ pos 0 ∷ pos 0 ∷ pos 0 ∷ pos 0 ∷ [])
    ∷ refused 6
    ∷ looks (1 ∷ 1 ∷ 1 ∷ 14 ∷ 16 ∷ 0 ∷ 0 ∷ 0 ∷ 2 ∷ []) (Some (value (negsuc 0) ∷ value (pos 1) ∷ [])) (Some (value (pos 9223372036854775806) ∷ value (pos 1) ∷ []))
    ∷ areas (pos 3 ∷ pos 2 ∷ pos 9223372036854775807 ∷ pos 3 ∷ pos 1 ∷ pos 5 ∷ negsuc 0 ∷ pos 1 ∷ pos 1 ∷ pos 1 ∷ pos 1 ∷ pos 1 ∷ pos 1 ∷ pos 1 ∷ pos 0 ∷ pos 2 ∷ pos 3 ∷ pos 2 ∷ negsuc 0 ∷ pos 1 ∷ negsuc 0 ∷ pos 3 ∷ negsuc 9223372036854775805 ∷ pos 5 ∷ pos 1 ∷ pos 1 ∷ pos 1 ∷ pos 1 ∷ pos 1 ∷ pos 1 ∷ negsuc 3 ∷ pos 3 ∷ negsuc 0 ∷ []) (pos 9223372036854775806 ∷ pos 1 ∷ pos 726 ∷ pos 0 ∷ pos 543 ∷ negsuc 9223372036854775805 ∷ pos 0 ∷ pos 0 ∷ pos 458 ∷ pos 499 ∷ pos 1 ∷ pos 1 ∷ pos 1 ∷ pos 0 ∷ pos 1 ∷ pos 1 ∷ pos 1 ∷ pos 0 ∷ pos 1 ∷ pos 1 ∷ pos 3 ∷ negsuc 4 ∷ pos 0 ∷ pos 5 ∷ negsuc 2 ∷ pos 2 ∷ negsuc 5 ∷ [])
    ∷ []
unfolding script
list_8 = refl

list_9 : script
    (opens (carrying 5 (options 2 0 false (pos 1) false (false ∷ false ∷ []) (false ∷ true ∷ []))) 15 71
    ∷ call end
    ∷ call (left (pos 2 ∷ pos 3 ∷ pos 1 ∷ pos 0 ∷ pos 0 ∷ pos 1 ∷ pos 1 ∷ pos 5 ∷ pos 1 ∷ pos 1 ∷ pos 0 ∷ pos 1 ∷ pos 1 ∷ pos 1 ∷ []))
    ∷ call (turn (space 26))
    ∷ state
    ∷ call (ports Ready Ready PortDone)
    ∷ call (right (pos 1 ∷ pos 8 ∷ pos 0 ∷ pos 0 ∷ pos 0 ∷ pos 0 ∷ pos 0 ∷ pos 2 ∷ pos 0 ∷ pos 2 ∷ pos 1 ∷ pos 1 ∷ pos 0 ∷ pos 0 ∷ pos 1 ∷ pos 1 ∷ pos 0 ∷ pos 1 ∷ []))
    ∷ call (turn (space 26))
    ∷ call (right (pos 2 ∷ pos 8 ∷ pos 0 ∷ pos 0 ∷ pos 0 ∷ pos 1 ∷ pos 2 ∷ pos 0 ∷ pos 0 ∷ pos 0 ∷ pos 0 ∷ pos 0 ∷ pos 0 ∷ pos 0 ∷ pos 0 ∷ pos 2 ∷ pos 0 ∷ pos 0 ∷ pos 1 ∷ pos 1 ∷ pos 0 ∷ pos 1 ∷ pos 1 ∷ pos 0 ∷ pos 0 ∷ pos 1 ∷ pos 1 ∷ pos 1 ∷ pos 0 ∷ pos 0 ∷ pos 1 ∷ pos 1 ∷ pos 0 ∷ pos 1 ∷ []))
    ∷ call (right (pos 1 ∷ pos 8 ∷ pos 0 ∷ pos 0 ∷ pos 0 ∷ pos 0 ∷ pos 1 ∷ pos 0 ∷ pos 0 ∷ pos 2 ∷ pos 1 ∷ pos 1 ∷ pos 1 ∷ pos 1 ∷ pos 1 ∷ pos 0 ∷ pos 0 ∷ pos 1 ∷ []))
    ∷ call (right (pos 2 ∷ pos 8 ∷ pos 0 ∷ pos 1 ∷ pos 0 ∷ pos 2 ∷ pos 1 ∷ pos 1 ∷ pos 2 ∷ pos 0 ∷ pos 0 ∷ pos 1 ∷ pos 0 ∷ pos 0 ∷ pos 0 ∷ pos 0 ∷ pos 2 ∷ pos 0 ∷ pos 1 ∷ pos 1 ∷ pos 0 ∷ pos 1 ∷ pos 1 ∷ pos 1 ∷ pos 1 ∷ pos 0 ∷ pos 1 ∷ pos 1 ∷ pos 1 ∷ pos 0 ∷ pos 0 ∷ pos 1 ∷ pos 1 ∷ pos 1 ∷ []))
    ∷ call (right (pos 2 ∷ pos 3 ∷ pos 1 ∷ pos 1 ∷ pos 1 ∷ pos 1 ∷ pos 1 ∷ pos 1 ∷ pos 1 ∷ pos 1 ∷ pos 1 ∷ pos 1 ∷ pos 1 ∷ pos 1 ∷ []))
    ∷ call (left (pos 1 ∷ pos 1 ∷ pos 2 ∷ pos 0 ∷ pos 1 ∷ pos 2 ∷ pos 0 ∷ pos 1 ∷ []))
    ∷ call (turn (space 12))
    ∷ call (right (pos 2 ∷ pos 8 ∷ pos 0 ∷ pos 1 ∷ pos 3 ∷ pos 0 ∷ pos 1 ∷ pos 0 ∷ pos 0 ∷ pos 0 ∷ pos 1 ∷ pos 1 ∷ pos 5 ∷ pos 0 ∷ pos 0 ∷ pos 1 ∷ pos 2 ∷ pos 0 ∷ pos 1 ∷ pos 1 ∷ pos 1 ∷ pos 1 ∷ pos 1 ∷ pos 1 ∷ pos 0 ∷ pos 0 ∷ pos 1 ∷ pos 1 ∷ pos 1 ∷ pos 1 ∷ pos 1 ∷ pos 1 ∷ pos 1 ∷ pos 0 ∷ []))
    ∷ state
    ∷ call (turn (space 1))
    ∷ call (turn (space 26))
    ∷ call (turn (space 26))
    ∷ call (left (negsuc 0 ∷ pos 3 ∷ []))
    ∷ state
    ∷ dump
    ∷ [])
    ≡ ok
    ∷ ok
    ∷ ok
    ∷ wrote 0 (pos 2 ∷ pos 6 ∷ pos 0 ∷ pos 0 ∷ pos 0 ∷ pos 0 ∷ pos 0 ∷ pos 0 ∷ pos 0 ∷ pos 0 ∷ pos 0 ∷ pos 0 ∷ pos 0 ∷ pos 0 ∷ pos 0 ∷ pos 0 ∷ pos 0 ∷ pos 0 ∷ pos 0 ∷ pos 0 ∷ pos 0 ∷ pos 0 ∷ pos 0 ∷ pos 0 ∷ pos 0 ∷ pos 0 ∷ [])
    ∷ looks (0 ∷ 0 ∷ 0 ∷ 14 ∷ 0 ∷ 0 ∷ 1 ∷ 0 ∷ 2 ∷ []) None None
    ∷ said-ports 2 2 2 2
    ∷ refused 4
    ∷ refused 4
    ∷ refused 4
    ∷ refused 4
    ∷ refused 4
    ∷ refused 4
    ∷ refused 4
    ∷ refused 4
    ∷ refused 4
    ∷ looks (0 ∷ 0 ∷ 0 ∷ 14 ∷ 0 ∷ 2 ∷ 1 ∷ 0 ∷ 2 ∷ []) None None
    ∷ refused 4
    ∷ refused 4
    ∷ refused 4
    ∷ refused 4
    ∷ looks (0 ∷ 0 ∷ 0 ∷ 14 ∷ 0 ∷ 2 ∷ 1 ∷ 0 ∷ 2 ∷ []) None None
    ∷ areas (pos 2 ∷ pos 3 ∷ pos 1 ∷ pos 0 ∷ pos 0 ∷ pos 1 ∷ pos 1 ∷ pos 5 ∷ pos 1 ∷ pos 1 ∷ pos 0 ∷ pos 1 ∷ pos 1 ∷ pos 1 ∷ pos 5 ∷ []) (negsuc 5 ∷ negsuc 0 ∷ pos 4 ∷ negsuc 3 ∷ pos 1 ∷ pos 6 ∷ negsuc 1 ∷ pos 3 ∷ negsuc 4 ∷ pos 0 ∷ pos 5 ∷ negsuc 2 ∷ pos 2 ∷ negsuc 5 ∷ negsuc 0 ∷ pos 4 ∷ negsuc 3 ∷ pos 1 ∷ pos 6 ∷ negsuc 1 ∷ pos 3 ∷ negsuc 4 ∷ pos 0 ∷ pos 5 ∷ negsuc 2 ∷ pos 2 ∷ negsuc 5 ∷ negsuc 0 ∷ pos 4 ∷ negsuc 3 ∷ pos 1 ∷ pos 6 ∷ negsuc 1 ∷ pos 3 ∷ negsuc 4 ∷ pos 0 ∷ pos 5 ∷ negsuc 2 ∷ pos 2 ∷ negsuc 5 ∷ negsuc 0 ∷ pos 4 ∷ negsuc 3 ∷ pos 1 ∷ pos 6 ∷ negsuc 1 ∷ pos 3 ∷ negsuc 4 ∷ pos 0 ∷ pos 5 ∷ negsuc 2 ∷ pos 2 ∷ negsuc 5 ∷ negsuc 0 ∷ pos 4 ∷ negsuc 3 ∷ pos 1 ∷ pos 6 ∷ negsuc 1 ∷ pos 3 ∷ negsuc 4 ∷ pos 0 ∷ pos 5 ∷ negsuc 2 ∷ pos 2 ∷ negsuc 5 ∷ negsuc 0 ∷ pos 4 ∷ negsuc 3 ∷ pos 1 ∷ pos 6 ∷ [])
    ∷ []
unfolding script
list_9 = refl

list_10 : script
    (opens (carrying 9 (options 3 3 false (negsuc 0) false (false ∷ true ∷ false ∷ []) (false ∷ true ∷ false ∷ []))) 3 0
    ∷ call (right (pos 1 ∷ pos 5 ∷ pos 1 ∷ pos 1 ∷ pos 0 ∷ pos 1 ∷ pos 2 ∷ pos 1 ∷ pos 1 ∷ pos 1 ∷ pos 1 ∷ pos 1 ∷ []))
    ∷ call (right (pos 0 ∷ pos 1 ∷ []))
    ∷ call (right (pos 1 ∷ pos 5 ∷ pos 1 ∷ pos 1 ∷ pos 1 ∷ pos 0 ∷ pos 1 ∷ pos 1 ∷ pos 1 ∷ pos 1 ∷ pos 1 ∷ pos 1 ∷ []))
    ∷ call (left (pos 0 ∷ pos 5 ∷ []))
    ∷ call (turn (space 2))
    ∷ state
    ∷ dump
    ∷ [])
    ≡ refused 1
    ∷ no_join
    ∷ no_join
    ∷ no_join
    ∷ no_join
    ∷ no_join
    ∷ no_join
    ∷ no_join
    ∷ []
unfolding script
list_10 = refl

list_11 : script
    (opens (carrying 4 (options 0 0 false (pos 2) false [] [])) 23 5
    ∷ call (right (pos 0 ∷ pos 5 ∷ []))
    ∷ call (left (pos 0 ∷ negsuc 0 ∷ []))
    ∷ call (left (pos 3 ∷ pos 1 ∷ negsuc 9223372036854775807 ∷ negsuc 9223372036854775807 ∷ negsuc 9223372036854775806 ∷ pos 1 ∷ pos 1 ∷ pos 1 ∷ []))
    ∷ call (right (pos 1 ∷ pos 5 ∷ negsuc 9223372036854775807 ∷ pos 0 ∷ pos 0 ∷ pos 0 ∷ pos 0 ∷ pos 1 ∷ pos 0 ∷ pos 0 ∷ pos 0 ∷ pos 0 ∷ []))
    ∷ call (left (pos 11 ∷ pos 1 ∷ negsuc 9223372036854775806 ∷ negsuc 9223372036854775805 ∷ negsuc 9223372036854775805 ∷ negsuc 9223372036854775805 ∷ pos 0 ∷ pos 1 ∷ pos 1 ∷ pos 1 ∷ pos 9223372036854775805 ∷ pos 9223372036854775806 ∷ pos 9223372036854775807 ∷ pos 1 ∷ pos 1 ∷ pos 1 ∷ pos 1 ∷ pos 1 ∷ pos 1 ∷ pos 1 ∷ pos 1 ∷ pos 1 ∷ pos 1 ∷ pos 1 ∷ []))
    ∷ call (turn (space 112))
    ∷ call (turn (space 81))
    ∷ call (ports Ready Ready Blocked)
    ∷ call (turn (space 112))
    ∷ call end
    ∷ call (right (pos 1 ∷ pos 5 ∷ negsuc 9223372036854775806 ∷ pos 0 ∷ pos 0 ∷ pos 0 ∷ pos 0 ∷ pos 1 ∷ pos 0 ∷ pos 0 ∷ pos 0 ∷ pos 0 ∷ []))
    ∷ call (right (pos 1 ∷ pos 5 ∷ negsuc 9223372036854775805 ∷ pos 0 ∷ pos 0 ∷ pos 0 ∷ pos 0 ∷ pos 1 ∷ pos 0 ∷ pos 0 ∷ pos 0 ∷ pos 0 ∷ []))
    ∷ call end
    ∷ call (right (pos 1 ∷ pos 5 ∷ negsuc 9223372036854775805 ∷ pos 0 ∷ pos 0 ∷ pos 0 ∷ pos 0 ∷ pos 1 ∷ pos 0 ∷ pos 0 ∷ pos 0 ∷ pos 0 ∷ []))
    ∷ call (right (pos 0 ∷ pos 1 ∷ []))
    ∷ call (turn (space 112))
    ∷ call (right (pos 1 ∷ pos 5 ∷ negsuc 9223372036854775805 ∷ pos 0 ∷ pos 0 ∷ pos 0 ∷ pos 0 ∷ pos 1 ∷ pos 0 ∷ pos 0 ∷ pos 0 ∷ pos 0 ∷ []))
    ∷ state
    ∷ call (right (pos 0 ∷ pos 5 ∷ []))
    ∷ state
    ∷ dump
    ∷ [])
    ≡ ok
    ∷ ok
    ∷ refused 5
    ∷ ok
    ∷ refused 6
    ∷ refused 6
    ∷ wants
    ∷ wants
    ∷ said-ports 0 0 1 0
    ∷ wants
    ∷ ok
    ∷ refused 4
    ∷ refused 4
    ∷ refused 4
    ∷ refused 4
    ∷ refused 4
    ∷ wrote 0 (pos 3 ∷ pos 5 ∷ pos 0 ∷ pos 0 ∷ pos 0 ∷ pos 0 ∷ pos 0 ∷ pos 0 ∷ pos 0 ∷ pos 0 ∷ pos 0 ∷ pos 0 ∷ pos 0 ∷ pos 0 ∷ pos 0 ∷ pos 0 ∷ pos 0 ∷ pos 0 ∷ pos 0 ∷ pos 0 ∷ pos 0 ∷ pos 0 ∷ pos 0 ∷ pos 0 ∷ pos 0 ∷ pos 0 ∷ pos 0 ∷ pos 0 ∷ pos 0 ∷ pos 0 ∷ pos 0 ∷ pos 0 ∷ [])
    ∷ refused 4
    ∷ looks (0 ∷ 0 ∷ 0 ∷ 8 ∷ 0 ∷ 0 ∷ 1 ∷ 0 ∷ 2 ∷ []) None None
    ∷ refused 4
    ∷ looks (0 ∷ 0 ∷ 0 ∷ 8 ∷ 0 ∷ 0 ∷ 1 ∷ 0 ∷ 2 ∷ []) None None
    ∷ areas (pos 3 ∷ pos 1 ∷ negsuc 9223372036854775807 ∷ negsuc 9223372036854775807 ∷ negsuc 9223372036854775806 ∷ pos 1 ∷ pos 1 ∷ pos 1 ∷ negsuc 3 ∷ pos 3 ∷ negsuc 0 ∷ negsuc 4 ∷ pos 2 ∷ negsuc 1 ∷ pos 5 ∷ pos 1 ∷ negsuc 2 ∷ pos 4 ∷ pos 0 ∷ negsuc 3 ∷ pos 3 ∷ negsuc 0 ∷ negsuc 4 ∷ []) (negsuc 5 ∷ negsuc 0 ∷ pos 4 ∷ negsuc 3 ∷ pos 1 ∷ [])
    ∷ []
unfolding script
list_11 = refl

list_12 : script
    (opens (carrying 8 (options 0 1 true (pos 1) true [] [])) 2 43
    ∷ call (left (pos 2 ∷ pos 1 ∷ pos 2 ∷ pos 4 ∷ pos 1 ∷ pos 1 ∷ []))
    ∷ call (right (pos 0 ∷ pos 9 ∷ []))
    ∷ call (right (pos 1 ∷ pos 9 ∷ pos 3 ∷ pos 0 ∷ pos 0 ∷ pos 0 ∷ pos 0 ∷ pos 0 ∷ pos 0 ∷ pos 0 ∷ pos 0 ∷ pos 1 ∷ pos 0 ∷ pos 0 ∷ pos 0 ∷ pos 0 ∷ pos 0 ∷ pos 0 ∷ pos 0 ∷ pos 0 ∷ []))
    ∷ call (right (pos 1 ∷ pos 9 ∷ pos 3 ∷ pos 0 ∷ pos 0 ∷ pos 0 ∷ pos 0 ∷ pos 0 ∷ pos 0 ∷ pos 0 ∷ pos 0 ∷ pos 1 ∷ pos 0 ∷ pos 0 ∷ pos 0 ∷ pos 0 ∷ pos 0 ∷ pos 0 ∷ pos 0 ∷ pos 0 ∷ []))
    ∷ call (ports Ready PortDone Ready)
    ∷ call (ports Ready Blocked Ready)
    ∷ state
    ∷ dump
    ∷ [])
    ≡ ok
    ∷ refused 6
    ∷ ok
    ∷ ok
    ∷ ok
    ∷ said-ports 1 1 1 0
    ∷ said-ports 0 1 0 0
    ∷ looks (0 ∷ 2 ∷ 0 ∷ 0 ∷ 0 ∷ 0 ∷ 0 ∷ 0 ∷ 0 ∷ []) None None
    ∷ areas (negsuc 4 ∷ pos 2 ∷ []) (pos 3 ∷ pos 0 ∷ pos 0 ∷ pos 0 ∷ pos 0 ∷ pos 0 ∷ pos 0 ∷ pos 0 ∷ pos 0 ∷ pos 3 ∷ pos 0 ∷ pos 0 ∷ pos 0 ∷ pos 0 ∷ pos 0 ∷ pos 0 ∷ pos 0 ∷ pos 0 ∷ pos 1 ∷ pos 0 ∷ pos 0 ∷ pos 0 ∷ pos 0 ∷ pos 0 ∷ pos 0 ∷ pos 0 ∷ pos 0 ∷ pos 1 ∷ pos 0 ∷ pos 0 ∷ pos 0 ∷ pos 0 ∷ pos 0 ∷ pos 0 ∷ pos 0 ∷ pos 0 ∷ pos 5 ∷ negsuc 2 ∷ pos 2 ∷ negsuc 5 ∷ negsuc 0 ∷ pos 4 ∷ negsuc 3 ∷ [])
    ∷ []
unfolding script
list_12 = refl

list_13 : script
    (opens (carrying 6 (options 0 1 true (pos 2) true [] [])) 4 10
    ∷ call (left (pos 1 ∷ pos 1 ∷ pos 0 ∷ pos 1 ∷ []))
    ∷ call (ports PortDone PortDone Blocked)
    ∷ call (ports PortDone Ready PortDone)
    ∷ call (ports Ready Ready Ready)
    ∷ call (ports Ready Ready Ready)
    ∷ state
    ∷ dump
    ∷ [])
    ≡ ok
    ∷ ok
    ∷ said-ports 2 0 1 1
    ∷ said-ports 2 2 2 2
    ∷ said-ports 2 2 2 2
    ∷ said-ports 2 2 2 2
    ∷ looks (0 ∷ 0 ∷ 0 ∷ 0 ∷ 4 ∷ 2 ∷ 0 ∷ 0 ∷ 0 ∷ []) None None
    ∷ areas (pos 1 ∷ pos 1 ∷ pos 0 ∷ pos 1 ∷ []) (negsuc 5 ∷ negsuc 0 ∷ pos 4 ∷ negsuc 3 ∷ pos 1 ∷ pos 6 ∷ negsuc 1 ∷ pos 3 ∷ negsuc 4 ∷ pos 0 ∷ [])
    ∷ []
unfolding script
list_13 = refl

list_14 : script
    (opens (carrying 7 (options 1 1 false (negsuc 0) false (false ∷ []) (false ∷ []))) 0 15
    ∷ call (ports PortDone Ready Blocked)
    ∷ call (ports PortDone Blocked Blocked)
    ∷ call (ports PortDone Ready Ready)
    ∷ call (ports PortDone Blocked Blocked)
    ∷ state
    ∷ dump
    ∷ [])
    ≡ ok
    ∷ said-ports 2 2 2 2
    ∷ said-ports 2 2 2 2
    ∷ said-ports 2 2 2 2
    ∷ said-ports 2 2 2 2
    ∷ looks (0 ∷ 0 ∷ 0 ∷ 0 ∷ 0 ∷ 2 ∷ 0 ∷ 0 ∷ 0 ∷ []) None None
    ∷ areas [] (negsuc 5 ∷ negsuc 0 ∷ pos 4 ∷ negsuc 3 ∷ pos 1 ∷ pos 6 ∷ negsuc 1 ∷ pos 3 ∷ negsuc 4 ∷ pos 0 ∷ pos 5 ∷ negsuc 2 ∷ pos 2 ∷ negsuc 5 ∷ negsuc 0 ∷ [])
    ∷ []
unfolding script
list_14 = refl

list_15 : script
    (opens (carrying 2 (options 1 2 true (negsuc 0) true (false ∷ []) (true ∷ []))) 20 16
    ∷ call (left (pos 3 ∷ pos 2 ∷ pos 0 ∷ pos 19 ∷ pos 0 ∷ pos 22 ∷ pos 1 ∷ pos 22 ∷ pos 1 ∷ pos 1 ∷ pos 1 ∷ pos 1 ∷ pos 1 ∷ pos 1 ∷ []))
    ∷ call (left (pos 1 ∷ pos 2 ∷ pos 2 ∷ pos 7 ∷ pos 1 ∷ pos 1 ∷ []))
    ∷ call (right (pos 1 ∷ pos 4 ∷ pos 2 ∷ pos 32 ∷ pos 0 ∷ pos 1 ∷ pos 1 ∷ pos 1 ∷ pos 0 ∷ pos 1 ∷ []))
    ∷ call (ports PortDone Ready Blocked)
    ∷ call (right (pos 1 ∷ pos 4 ∷ pos 2 ∷ pos 28 ∷ pos 9223372036854775805 ∷ pos 0 ∷ pos 1 ∷ pos 1 ∷ pos 1 ∷ pos 0 ∷ []))
    ∷ call (turn (space 20))
    ∷ state
    ∷ dump
    ∷ [])
    ≡ ok
    ∷ ok
    ∷ ok
    ∷ ok
    ∷ said-ports 2 0 1 1
    ∷ ok
    ∷ refused 9
    ∷ looks (0 ∷ 2 ∷ 0 ∷ 0 ∷ 20 ∷ 1 ∷ 0 ∷ 1 ∷ 0 ∷ []) None None
    ∷ areas (pos 3 ∷ pos 2 ∷ pos 0 ∷ pos 19 ∷ pos 0 ∷ pos 22 ∷ pos 1 ∷ pos 22 ∷ pos 1 ∷ pos 1 ∷ pos 1 ∷ pos 1 ∷ pos 1 ∷ pos 1 ∷ pos 1 ∷ pos 2 ∷ pos 2 ∷ pos 7 ∷ pos 1 ∷ pos 1 ∷ []) (pos 2 ∷ pos 32 ∷ pos 0 ∷ pos 1 ∷ pos 2 ∷ pos 28 ∷ pos 9223372036854775805 ∷ pos 0 ∷ pos 1 ∷ pos 1 ∷ pos 0 ∷ pos 1 ∷ pos 1 ∷ pos 1 ∷ pos 1 ∷ pos 0 ∷ [])
    ∷ []
unfolding script
list_15 = refl

list_16 : script
    (opens (options 0 1 true (negsuc 0) true [] []) 4 24
    ∷ call (left (pos 1 ∷ pos 1 ∷ pos 2 ∷ pos 1 ∷ []))
    ∷ call (ports PortDone Ready Blocked)
    ∷ call (turn (space 4))
    ∷ call (turn (space 4))
    ∷ call (turn (space 4))
    ∷ call end
    ∷ call (turn (space 4))
    ∷ call (ports PortDone Ready Ready)
    ∷ state
    ∷ dump
    ∷ [])
    ≡ ok
    ∷ ok
    ∷ said-ports 2 0 1 1
    ∷ wants
    ∷ wants
    ∷ wants
    ∷ ok
    ∷ wrote 0 (pos 1 ∷ pos 1 ∷ pos 0 ∷ pos 0 ∷ [])
    ∷ said-ports 2 2 2 2
    ∷ looks (0 ∷ 0 ∷ 0 ∷ 4 ∷ 0 ∷ 2 ∷ 1 ∷ 0 ∷ 2 ∷ []) (Some (value (pos 2) ∷ [])) None
    ∷ areas (pos 1 ∷ pos 1 ∷ pos 2 ∷ pos 1 ∷ []) (negsuc 5 ∷ negsuc 0 ∷ pos 4 ∷ negsuc 3 ∷ pos 1 ∷ pos 6 ∷ negsuc 1 ∷ pos 3 ∷ negsuc 4 ∷ pos 0 ∷ pos 5 ∷ negsuc 2 ∷ pos 2 ∷ negsuc 5 ∷ negsuc 0 ∷ pos 4 ∷ negsuc 3 ∷ pos 1 ∷ pos 6 ∷ negsuc 1 ∷ pos 3 ∷ negsuc 4 ∷ pos 0 ∷ pos 5 ∷ [])
    ∷ []
unfolding script
list_16 = refl

list_17 : script
    (opens (carrying 1 (options 1 1 true (pos 4) true (false ∷ []) (true ∷ []))) 22 28
    ∷ call (left (pos 5 ∷ pos 2 ∷ pos 1 ∷ pos 0 ∷ pos 1 ∷ negsuc 9223372036854775807 ∷ pos 1 ∷ pos 0 ∷ pos 1 ∷ pos 0 ∷ pos 1 ∷ pos 9223372036854775805 ∷ pos 1 ∷ pos 0 ∷ pos 1 ∷ pos 1 ∷ pos 1 ∷ pos 1 ∷ pos 1 ∷ pos 1 ∷ pos 1 ∷ pos 1 ∷ []))
    ∷ call (turn (space 22))
    ∷ call (ports PortDone Blocked Ready)
    ∷ call (right (pos 1 ∷ pos 3 ∷ pos 1 ∷ pos 0 ∷ pos 956 ∷ pos 1 ∷ pos 1 ∷ pos 1 ∷ []))
    ∷ call (right (pos 2 ∷ pos 3 ∷ pos 0 ∷ pos 9223372036854775805 ∷ pos 485 ∷ pos 0 ∷ pos 0 ∷ pos 113 ∷ pos 1 ∷ pos 1 ∷ pos 1 ∷ pos 1 ∷ pos 1 ∷ pos 1 ∷ []))
    ∷ call (right (pos 1 ∷ pos 3 ∷ pos 1 ∷ pos 0 ∷ pos 167 ∷ pos 1 ∷ pos 0 ∷ pos 1 ∷ []))
    ∷ call (turn (space 22))
    ∷ call (turn (space 22))
    ∷ call (ports PortDone PortDone Blocked)
    ∷ call (ports PortDone Ready Ready)
    ∷ call end
    ∷ call (turn (space 22))
    ∷ state
    ∷ dump
    ∷ [])
    ≡ ok
    ∷ ok
    ∷ wants
    ∷ said-ports 2 1 0 1
    ∷ ok
    ∷ ok
    ∷ ok
    ∷ wants
    ∷ wants
    ∷ said-ports 2 0 1 1
    ∷ said-ports 2 1 1 1
    ∷ ok
    ∷ refused 9
    ∷ looks (0 ∷ 4 ∷ 0 ∷ 0 ∷ 22 ∷ 1 ∷ 1 ∷ 1 ∷ 0 ∷ []) None None
    ∷ areas (pos 5 ∷ pos 2 ∷ pos 1 ∷ pos 0 ∷ pos 1 ∷ negsuc 9223372036854775807 ∷ pos 1 ∷ pos 0 ∷ pos 1 ∷ pos 0 ∷ pos 1 ∷ pos 9223372036854775805 ∷ pos 1 ∷ pos 0 ∷ pos 1 ∷ pos 1 ∷ pos 1 ∷ pos 1 ∷ pos 1 ∷ pos 1 ∷ pos 1 ∷ pos 1 ∷ []) (pos 1 ∷ pos 0 ∷ pos 956 ∷ pos 0 ∷ pos 9223372036854775805 ∷ pos 485 ∷ pos 0 ∷ pos 0 ∷ pos 113 ∷ pos 1 ∷ pos 0 ∷ pos 167 ∷ pos 1 ∷ pos 1 ∷ pos 1 ∷ pos 1 ∷ pos 1 ∷ pos 1 ∷ pos 1 ∷ pos 1 ∷ pos 1 ∷ pos 1 ∷ pos 0 ∷ pos 1 ∷ negsuc 2 ∷ pos 2 ∷ negsuc 5 ∷ negsuc 0 ∷ [])
    ∷ []
unfolding script
list_17 = refl

list_18 : script
    (opens (options 1 0 true (pos 4) true (false ∷ []) (true ∷ [])) 16 6
    ∷ call (left (pos 2 ∷ pos 2 ∷ pos 1 ∷ pos 0 ∷ pos 1 ∷ pos 1 ∷ pos 1 ∷ pos 1 ∷ pos 1 ∷ pos 1 ∷ []))
    ∷ call (left (pos 1 ∷ pos 2 ∷ pos 0 ∷ pos 0 ∷ pos 1 ∷ pos 1 ∷ []))
    ∷ call (right (pos 0 ∷ pos 2 ∷ []))
    ∷ call (ports PortDone Blocked Blocked)
    ∷ call (ports Ready Ready Ready)
    ∷ call (turn (space 6))
    ∷ call (turn (space 6))
    ∷ call (ports Blocked Blocked Blocked)
    ∷ call (ports PortDone Ready Ready)
    ∷ call (turn (space 6))
    ∷ call (right (pos 1 ∷ pos 2 ∷ pos 1 ∷ pos 2 ∷ pos 1 ∷ pos 1 ∷ []))
    ∷ call (turn (space 6))
    ∷ call (turn (space 6))
    ∷ state
    ∷ dump
    ∷ [])
    ≡ ok
    ∷ ok
    ∷ ok
    ∷ ok
    ∷ said-ports 2 0 0 1
    ∷ said-ports 2 1 1 1
    ∷ wants
    ∷ wants
    ∷ said-ports 2 0 0 1
    ∷ said-ports 2 1 1 1
    ∷ wants
    ∷ ok
    ∷ wrote 0 (pos 2 ∷ pos 1 ∷ pos 0 ∷ pos 0 ∷ pos 0 ∷ pos 0 ∷ [])
    ∷ refused 8
    ∷ looks (0 ∷ 1 ∷ 0 ∷ 10 ∷ 6 ∷ 1 ∷ 0 ∷ 1 ∷ 2 ∷ []) (Some (value (pos 1) ∷ value (pos 1) ∷ [])) None
    ∷ areas (pos 2 ∷ pos 2 ∷ pos 1 ∷ pos 0 ∷ pos 1 ∷ pos 1 ∷ pos 1 ∷ pos 1 ∷ pos 1 ∷ pos 1 ∷ pos 1 ∷ pos 2 ∷ pos 0 ∷ pos 0 ∷ pos 1 ∷ pos 1 ∷ []) (pos 1 ∷ pos 2 ∷ pos 1 ∷ pos 1 ∷ pos 1 ∷ pos 6 ∷ [])
    ∷ []
unfolding script
list_18 = refl

list_19 : script
    (opens (carrying 6 (options 1 1 true (pos 9223372036854775807) true (false ∷ []) (true ∷ []))) 36 64
    ∷ call (right (pos 1 ∷ pos 8 ∷ pos 2 ∷ pos 1 ∷ pos 2 ∷ pos 0 ∷ pos 1 ∷ pos 1 ∷ pos 0 ∷ pos 0 ∷ pos 1 ∷ pos 1 ∷ pos 1 ∷ pos 1 ∷ pos 1 ∷ pos 1 ∷ pos 0 ∷ pos 0 ∷ []))
    ∷ call (left (pos 1 ∷ pos 2 ∷ pos 1 ∷ pos 4 ∷ pos 1 ∷ pos 1 ∷ []))
    ∷ call (turn (space 16))
    ∷ call (right (pos 1 ∷ pos 8 ∷ pos 0 ∷ pos 3 ∷ pos 1 ∷ pos 0 ∷ pos 0 ∷ pos 0 ∷ pos 0 ∷ pos 1 ∷ pos 0 ∷ pos 1 ∷ pos 1 ∷ pos 0 ∷ pos 0 ∷ pos 1 ∷ pos 0 ∷ pos 1 ∷ []))
    ∷ call (right (pos 1 ∷ pos 8 ∷ pos 0 ∷ pos 0 ∷ pos 0 ∷ pos 0 ∷ pos 2 ∷ pos 0 ∷ pos 0 ∷ pos 0 ∷ pos 0 ∷ pos 1 ∷ pos 1 ∷ pos 0 ∷ pos 1 ∷ pos 0 ∷ pos 0 ∷ pos 0 ∷ []))
    ∷ call (right (pos 1 ∷ pos 8 ∷ pos 1 ∷ pos 3 ∷ pos 1 ∷ pos 0 ∷ pos 1 ∷ pos 1 ∷ pos 0 ∷ pos 0 ∷ pos 1 ∷ pos 1 ∷ pos 1 ∷ pos 1 ∷ pos 1 ∷ pos 1 ∷ pos 0 ∷ pos 0 ∷ []))
    ∷ call (left (pos 1 ∷ pos 2 ∷ pos 1 ∷ pos 4 ∷ pos 1 ∷ pos 1 ∷ []))
    ∷ call (turn (space 16))
    ∷ state
    ∷ dump
    ∷ [])
    ≡ ok
    ∷ ok
    ∷ ok
    ∷ wrote 0 (pos 1 ∷ pos 7 ∷ pos 0 ∷ pos 0 ∷ pos 0 ∷ pos 0 ∷ pos 0 ∷ pos 0 ∷ pos 0 ∷ pos 0 ∷ pos 0 ∷ pos 0 ∷ pos 0 ∷ pos 0 ∷ pos 0 ∷ pos 0 ∷ [])
    ∷ ok
    ∷ ok
    ∷ ok
    ∷ ok
    ∷ refused 9
    ∷ looks (0 ∷ 4 ∷ 0 ∷ 6 ∷ 6 ∷ 0 ∷ 0 ∷ 1 ∷ 2 ∷ []) (Some (value (pos 1) ∷ value (pos 4) ∷ [])) None
    ∷ areas (pos 1 ∷ pos 2 ∷ pos 1 ∷ pos 4 ∷ pos 1 ∷ pos 1 ∷ pos 1 ∷ pos 2 ∷ pos 1 ∷ pos 4 ∷ pos 1 ∷ pos 1 ∷ pos 2 ∷ negsuc 1 ∷ pos 5 ∷ pos 1 ∷ negsuc 2 ∷ pos 4 ∷ pos 0 ∷ negsuc 3 ∷ pos 3 ∷ negsuc 0 ∷ negsuc 4 ∷ pos 2 ∷ negsuc 1 ∷ pos 5 ∷ pos 1 ∷ negsuc 2 ∷ pos 4 ∷ pos 0 ∷ negsuc 3 ∷ pos 3 ∷ negsuc 0 ∷ negsuc 4 ∷ pos 2 ∷ negsuc 1 ∷ []) (pos 2 ∷ pos 1 ∷ pos 2 ∷ pos 0 ∷ pos 1 ∷ pos 1 ∷ pos 0 ∷ pos 0 ∷ pos 0 ∷ pos 3 ∷ pos 1 ∷ pos 0 ∷ pos 0 ∷ pos 0 ∷ pos 0 ∷ pos 1 ∷ pos 0 ∷ pos 0 ∷ pos 0 ∷ pos 0 ∷ pos 2 ∷ pos 0 ∷ pos 0 ∷ pos 0 ∷ pos 1 ∷ pos 3 ∷ pos 1 ∷ pos 0 ∷ pos 1 ∷ pos 1 ∷ pos 0 ∷ pos 0 ∷ pos 1 ∷ pos 1 ∷ pos 1 ∷ pos 1 ∷ pos 1 ∷ pos 1 ∷ pos 0 ∷ pos 0 ∷ pos 0 ∷ pos 1 ∷ pos 1 ∷ pos 0 ∷ pos 0 ∷ pos 1 ∷ pos 0 ∷ pos 1 ∷ pos 0 ∷ pos 1 ∷ pos 1 ∷ pos 0 ∷ pos 1 ∷ pos 0 ∷ pos 0 ∷ pos 0 ∷ pos 1 ∷ pos 1 ∷ pos 1 ∷ pos 1 ∷ pos 1 ∷ pos 1 ∷ pos 0 ∷ pos 0 ∷ [])
    ∷ []
unfolding script
list_19 = refl

list_20 : script
    (opens (carrying 1 (options 1 2 true (pos 4) false (true ∷ []) (true ∷ []))) 0 15
    ∷ call (right (pos 1 ∷ pos 3 ∷ pos 0 ∷ pos 2 ∷ pos 0 ∷ pos 1 ∷ pos 1 ∷ pos 0 ∷ []))
    ∷ call (right (pos 1 ∷ pos 3 ∷ pos 0 ∷ pos 1 ∷ negsuc 0 ∷ pos 1 ∷ pos 1 ∷ pos 1 ∷ []))
    ∷ call end
    ∷ state
    ∷ dump
    ∷ [])
    ≡ ok
    ∷ ok
    ∷ ok
    ∷ ok
    ∷ looks (0 ∷ 2 ∷ 0 ∷ 0 ∷ 0 ∷ 0 ∷ 1 ∷ 0 ∷ 0 ∷ []) None None
    ∷ areas [] (pos 0 ∷ pos 2 ∷ pos 0 ∷ pos 0 ∷ pos 1 ∷ negsuc 0 ∷ pos 1 ∷ pos 1 ∷ pos 0 ∷ pos 1 ∷ pos 1 ∷ pos 1 ∷ pos 2 ∷ negsuc 5 ∷ negsuc 0 ∷ [])
    ∷ []
unfolding script
list_20 = refl

list_21 : script
    (opens (carrying 2 (options 1 2 true (pos 1) false (true ∷ []) (true ∷ []))) 58 0
    ∷ call (left (pos 3 ∷ pos 2 ∷ pos 2 ∷ pos 2 ∷ pos 0 ∷ pos 0 ∷ pos 1 ∷ pos 0 ∷ pos 1 ∷ pos 1 ∷ pos 1 ∷ pos 1 ∷ pos 1 ∷ pos 1 ∷ []))
    ∷ call (left (pos 1 ∷ pos 2 ∷ pos 2 ∷ pos 1 ∷ pos 1 ∷ pos 1 ∷ []))
    ∷ call (turn (space 20))
    ∷ call (turn (space 20))
    ∷ call (left (pos 2 ∷ pos 2 ∷ pos 1 ∷ pos 1 ∷ pos 0 ∷ pos 1 ∷ pos 1 ∷ pos 1 ∷ pos 0 ∷ pos 1 ∷ []))
    ∷ call (turn (space 20))
    ∷ call (left (pos 3 ∷ pos 2 ∷ pos 1 ∷ pos 2 ∷ pos 0 ∷ pos 1 ∷ pos 1 ∷ pos 1 ∷ pos 1 ∷ pos 1 ∷ pos 1 ∷ pos 1 ∷ pos 1 ∷ pos 1 ∷ []))
    ∷ call (turn (space 20))
    ∷ call (turn (space 20))
    ∷ call (left (pos 0 ∷ pos 2 ∷ []))
    ∷ call (left (pos 2 ∷ pos 2 ∷ pos 0 ∷ pos 1 ∷ pos 0 ∷ pos 0 ∷ pos 1 ∷ pos 1 ∷ pos 1 ∷ pos 1 ∷ []))
    ∷ call (left (pos 0 ∷ pos 2 ∷ []))
    ∷ call end
    ∷ call (turn (space 20))
    ∷ call (turn (space 20))
    ∷ call (turn (space 20))
    ∷ call (turn (space 20))
    ∷ call (turn (space 20))
    ∷ call (turn (space 20))
    ∷ call (turn (space 20))
    ∷ state
    ∷ dump
    ∷ [])
    ≡ ok
    ∷ ok
    ∷ ok
    ∷ wants
    ∷ wants
    ∷ ok
    ∷ wants
    ∷ ok
    ∷ wants
    ∷ wants
    ∷ ok
    ∷ ok
    ∷ ok
    ∷ ok
    ∷ wrote 0 (pos 3 ∷ pos 3 ∷ pos 0 ∷ pos 0 ∷ pos 0 ∷ pos 0 ∷ pos 0 ∷ pos 0 ∷ pos 0 ∷ pos 0 ∷ pos 0 ∷ pos 0 ∷ pos 0 ∷ pos 0 ∷ pos 0 ∷ pos 0 ∷ pos 0 ∷ pos 0 ∷ pos 0 ∷ pos 0 ∷ [])
    ∷ wrote 2 (pos 1 ∷ pos 3 ∷ pos 0 ∷ pos 0 ∷ pos 0 ∷ pos 0 ∷ pos 0 ∷ pos 0 ∷ [])
    ∷ wrote 4 (pos 2 ∷ pos 3 ∷ pos 0 ∷ pos 0 ∷ pos 0 ∷ pos 0 ∷ pos 0 ∷ pos 0 ∷ pos 0 ∷ pos 0 ∷ pos 0 ∷ pos 0 ∷ pos 0 ∷ pos 0 ∷ [])
    ∷ wrote 6 (pos 3 ∷ pos 3 ∷ pos 0 ∷ pos 0 ∷ pos 0 ∷ pos 0 ∷ pos 0 ∷ pos 0 ∷ pos 0 ∷ pos 0 ∷ pos 0 ∷ pos 0 ∷ pos 0 ∷ pos 0 ∷ pos 0 ∷ pos 0 ∷ pos 0 ∷ pos 0 ∷ pos 0 ∷ pos 0 ∷ [])
    ∷ wrote 8 (pos 0 ∷ pos 3 ∷ [])
    ∷ wrote 10 (pos 2 ∷ pos 3 ∷ pos 0 ∷ pos 0 ∷ pos 0 ∷ pos 0 ∷ pos 0 ∷ pos 0 ∷ pos 0 ∷ pos 0 ∷ pos 0 ∷ pos 0 ∷ pos 0 ∷ pos 0 ∷ [])
    ∷ wrote 12 (pos 0 ∷ pos 3 ∷ [])
    ∷ looks (0 ∷ 0 ∷ 0 ∷ 58 ∷ 0 ∷ 0 ∷ 1 ∷ 0 ∷ 14 ∷ []) None None
    ∷ areas (pos 3 ∷ pos 2 ∷ pos 2 ∷ pos 2 ∷ pos 0 ∷ pos 0 ∷ pos 1 ∷ pos 0 ∷ pos 1 ∷ pos 1 ∷ pos 1 ∷ pos 1 ∷ pos 1 ∷ pos 1 ∷ pos 1 ∷ pos 2 ∷ pos 2 ∷ pos 1 ∷ pos 1 ∷ pos 1 ∷ pos 2 ∷ pos 2 ∷ pos 1 ∷ pos 1 ∷ pos 0 ∷ pos 1 ∷ pos 1 ∷ pos 1 ∷ pos 0 ∷ pos 1 ∷ pos 3 ∷ pos 2 ∷ pos 1 ∷ pos 2 ∷ pos 0 ∷ pos 1 ∷ pos 1 ∷ pos 1 ∷ pos 1 ∷ pos 1 ∷ pos 1 ∷ pos 1 ∷ pos 1 ∷ pos 1 ∷ pos 0 ∷ pos 2 ∷ pos 2 ∷ pos 2 ∷ pos 0 ∷ pos 1 ∷ pos 0 ∷ pos 0 ∷ pos 1 ∷ pos 1 ∷ pos 1 ∷ pos 1 ∷ pos 0 ∷ pos 2 ∷ []) []
    ∷ []
unfolding script
list_21 = refl

list_22 : script
    (opens (carrying 4 (options 1 0 true (negsuc 0) false (false ∷ []) (true ∷ []))) 24 36
    ∷ call (right (pos 1 ∷ pos 6 ∷ pos 0 ∷ pos 1 ∷ pos 735 ∷ pos 462 ∷ pos 753 ∷ pos 216 ∷ pos 0 ∷ pos 1 ∷ pos 1 ∷ pos 1 ∷ pos 1 ∷ pos 1 ∷ []))
    ∷ call (right (pos 1 ∷ pos 6 ∷ pos 0 ∷ pos 0 ∷ pos 921 ∷ pos 614 ∷ pos 389 ∷ pos 467 ∷ pos 0 ∷ pos 1 ∷ pos 1 ∷ pos 1 ∷ pos 1 ∷ pos 1 ∷ []))
    ∷ call (right (pos 1 ∷ pos 6 ∷ pos 0 ∷ pos 0 ∷ pos 552 ∷ pos 445 ∷ pos 126 ∷ pos 942 ∷ pos 1 ∷ pos 1 ∷ pos 1 ∷ pos 1 ∷ pos 1 ∷ pos 1 ∷ []))
    ∷ call (turn (space 12))
    ∷ call (left (pos 1 ∷ pos 2 ∷ pos 0 ∷ pos 0 ∷ pos 1 ∷ pos 0 ∷ []))
    ∷ call (left (pos 1 ∷ pos 2 ∷ pos 0 ∷ pos 2 ∷ pos 0 ∷ pos 1 ∷ []))
    ∷ call (left (pos 1 ∷ pos 2 ∷ pos 1 ∷ pos 0 ∷ pos 1 ∷ pos 1 ∷ []))
    ∷ call (left (pos 1 ∷ pos 2 ∷ pos 1 ∷ pos 0 ∷ pos 1 ∷ pos 0 ∷ []))
    ∷ call end
    ∷ call (turn (space 12))
    ∷ call (turn (space 12))
    ∷ call (turn (space 12))
    ∷ call (turn (space 12))
    ∷ state
    ∷ dump
    ∷ [])
    ≡ ok
    ∷ ok
    ∷ ok
    ∷ ok
    ∷ idle
    ∷ ok
    ∷ ok
    ∷ ok
    ∷ ok
    ∷ ok
    ∷ wrote 0 (pos 1 ∷ pos 5 ∷ pos 0 ∷ pos 0 ∷ pos 0 ∷ pos 0 ∷ pos 0 ∷ pos 0 ∷ pos 0 ∷ pos 0 ∷ pos 0 ∷ pos 0 ∷ [])
    ∷ wrote 2 (pos 1 ∷ pos 5 ∷ pos 0 ∷ pos 0 ∷ pos 0 ∷ pos 0 ∷ pos 0 ∷ pos 0 ∷ pos 0 ∷ pos 0 ∷ pos 0 ∷ pos 0 ∷ [])
    ∷ wrote 4 (pos 1 ∷ pos 5 ∷ pos 0 ∷ pos 0 ∷ pos 0 ∷ pos 0 ∷ pos 0 ∷ pos 0 ∷ pos 0 ∷ pos 0 ∷ pos 0 ∷ pos 0 ∷ [])
    ∷ wrote 6 (pos 1 ∷ pos 5 ∷ pos 0 ∷ pos 0 ∷ pos 0 ∷ pos 0 ∷ pos 0 ∷ pos 0 ∷ pos 0 ∷ pos 0 ∷ pos 0 ∷ pos 0 ∷ [])
    ∷ looks (3 ∷ 0 ∷ 3 ∷ 24 ∷ 0 ∷ 0 ∷ 1 ∷ 0 ∷ 8 ∷ []) None None
    ∷ areas (pos 1 ∷ pos 2 ∷ pos 0 ∷ pos 0 ∷ pos 1 ∷ pos 0 ∷ pos 1 ∷ pos 2 ∷ pos 0 ∷ pos 2 ∷ pos 0 ∷ pos 1 ∷ pos 1 ∷ pos 2 ∷ pos 1 ∷ pos 0 ∷ pos 1 ∷ pos 1 ∷ pos 1 ∷ pos 2 ∷ pos 1 ∷ pos 0 ∷ pos 1 ∷ pos 0 ∷ []) (pos 0 ∷ pos 1 ∷ pos 735 ∷ pos 462 ∷ pos 753 ∷ pos 216 ∷ pos 0 ∷ pos 0 ∷ pos 921 ∷ pos 614 ∷ pos 389 ∷ pos 467 ∷ pos 0 ∷ pos 0 ∷ pos 552 ∷ pos 445 ∷ pos 126 ∷ pos 942 ∷ pos 0 ∷ pos 1 ∷ pos 1 ∷ pos 1 ∷ pos 1 ∷ pos 1 ∷ pos 0 ∷ pos 1 ∷ pos 1 ∷ pos 1 ∷ pos 1 ∷ pos 1 ∷ pos 1 ∷ pos 1 ∷ pos 1 ∷ pos 1 ∷ pos 1 ∷ pos 1 ∷ [])
    ∷ []
unfolding script
list_22 = refl

list_23 : script
    (opens (options 1 0 true (pos 3) true (false ∷ []) (true ∷ [])) 6 15
    ∷ call (right (pos 1 ∷ pos 2 ∷ pos 1 ∷ pos 4 ∷ pos 1 ∷ pos 1 ∷ []))
    ∷ call (right (pos 0 ∷ pos 2 ∷ []))
    ∷ call (right (pos 1 ∷ pos 2 ∷ pos 0 ∷ pos 27 ∷ pos 1 ∷ pos 1 ∷ []))
    ∷ call (right (pos 1 ∷ pos 2 ∷ pos 0 ∷ pos 27 ∷ pos 1 ∷ pos 1 ∷ []))
    ∷ call (left (pos 1 ∷ pos 2 ∷ pos 0 ∷ pos 35 ∷ pos 1 ∷ pos 1 ∷ []))
    ∷ call end
    ∷ call (turn (space 4))
    ∷ state
    ∷ dump
    ∷ [])
    ≡ ok
    ∷ ok
    ∷ ok
    ∷ ok
    ∷ ok
    ∷ ok
    ∷ ok
    ∷ refused 9
    ∷ looks (0 ∷ 3 ∷ 0 ∷ 0 ∷ 6 ∷ 0 ∷ 1 ∷ 1 ∷ 0 ∷ []) None None
    ∷ areas (pos 1 ∷ pos 2 ∷ pos 0 ∷ pos 35 ∷ pos 1 ∷ pos 1 ∷ []) (pos 1 ∷ pos 4 ∷ pos 0 ∷ pos 27 ∷ pos 0 ∷ pos 27 ∷ pos 1 ∷ pos 1 ∷ pos 1 ∷ pos 1 ∷ pos 1 ∷ pos 1 ∷ pos 2 ∷ negsuc 5 ∷ negsuc 0 ∷ [])
    ∷ []
unfolding script
list_23 = refl

list_24 : script
    (opens (carrying 3 (options 1 1 false (negsuc 0) true (true ∷ []) (true ∷ []))) 66 130
    ∷ call (left (pos 4 ∷ pos 2 ∷ pos 1 ∷ pos 0 ∷ pos 1 ∷ pos 0 ∷ pos 0 ∷ pos 2 ∷ pos 0 ∷ pos 0 ∷ pos 1 ∷ pos 0 ∷ pos 1 ∷ pos 1 ∷ pos 1 ∷ pos 1 ∷ pos 1 ∷ pos 0 ∷ []))
    ∷ call (right (pos 1 ∷ pos 5 ∷ pos 1 ∷ pos 1 ∷ pos 4966473049568616781 ∷ pos 0 ∷ pos 0 ∷ pos 1 ∷ pos 1 ∷ pos 1 ∷ pos 0 ∷ pos 0 ∷ []))
    ∷ call (right (pos 1 ∷ pos 5 ∷ pos 0 ∷ pos 1 ∷ pos 0 ∷ pos 1030162346810899366 ∷ pos 0 ∷ pos 0 ∷ pos 1 ∷ pos 0 ∷ pos 1 ∷ pos 1 ∷ []))
    ∷ call (turn (space 50))
    ∷ state
    ∷ dump
    ∷ [])
    ≡ ok
    ∷ ok
    ∷ ok
    ∷ ok
    ∷ refused 8
    ∷ looks (0 ∷ 2 ∷ 0 ∷ 0 ∷ 18 ∷ 0 ∷ 0 ∷ 1 ∷ 0 ∷ []) None None
    ∷ areas (pos 4 ∷ pos 2 ∷ pos 1 ∷ pos 0 ∷ pos 1 ∷ pos 0 ∷ pos 0 ∷ pos 2 ∷ pos 0 ∷ pos 0 ∷ pos 1 ∷ pos 0 ∷ pos 1 ∷ pos 1 ∷ pos 1 ∷ pos 1 ∷ pos 1 ∷ pos 0 ∷ pos 0 ∷ negsuc 3 ∷ pos 3 ∷ negsuc 0 ∷ negsuc 4 ∷ pos 2 ∷ negsuc 1 ∷ pos 5 ∷ pos 1 ∷ negsuc 2 ∷ pos 4 ∷ pos 0 ∷ negsuc 3 ∷ pos 3 ∷ negsuc 0 ∷ negsuc 4 ∷ pos 2 ∷ negsuc 1 ∷ pos 5 ∷ pos 1 ∷ negsuc 2 ∷ pos 4 ∷ pos 0 ∷ negsuc 3 ∷ pos 3 ∷ negsuc 0 ∷ negsuc 4 ∷ pos 2 ∷ negsuc 1 ∷ pos 5 ∷ pos 1 ∷ negsuc 2 ∷ pos 4 ∷ pos 0 ∷ negsuc 3 ∷ pos 3 ∷ negsuc 0 ∷ negsuc 4 ∷ pos 2 ∷ negsuc 1 ∷ pos 5 ∷ pos 1 ∷ negsuc 2 ∷ pos 4 ∷ pos 0 ∷ negsuc 3 ∷ pos 3 ∷ negsuc 0 ∷ []) (pos 1 ∷ pos 1 ∷ pos 4966473049568616781 ∷ pos 0 ∷ pos 0 ∷ pos 0 ∷ pos 1 ∷ pos 0 ∷ pos 1030162346810899366 ∷ pos 0 ∷ pos 5 ∷ negsuc 2 ∷ pos 2 ∷ negsuc 5 ∷ negsuc 0 ∷ pos 4 ∷ negsuc 3 ∷ pos 1 ∷ pos 6 ∷ negsuc 1 ∷ pos 3 ∷ negsuc 4 ∷ pos 0 ∷ pos 5 ∷ negsuc 2 ∷ pos 2 ∷ negsuc 5 ∷ negsuc 0 ∷ pos 4 ∷ negsuc 3 ∷ pos 1 ∷ pos 6 ∷ negsuc 1 ∷ pos 3 ∷ negsuc 4 ∷ pos 0 ∷ pos 5 ∷ negsuc 2 ∷ pos 2 ∷ negsuc 5 ∷ negsuc 0 ∷ pos 4 ∷ negsuc 3 ∷ pos 1 ∷ pos 6 ∷ negsuc 1 ∷ pos 3 ∷ negsuc 4 ∷ pos 0 ∷ pos 5 ∷ negsuc 2 ∷ pos 2 ∷ negsuc 5 ∷ negsuc 0 ∷ pos 4 ∷ negsuc 3 ∷ pos 1 ∷ pos 6 ∷ negsuc 1 ∷ pos 3 ∷ negsuc 4 ∷ pos 0 ∷ pos 5 ∷ negsuc 2 ∷ pos 2 ∷ pos 1 ∷ pos 1 ∷ pos 1 ∷ pos 0 ∷ pos 0 ∷ pos 0 ∷ pos 1 ∷ pos 0 ∷ pos 1 ∷ pos 1 ∷ pos 5 ∷ negsuc 2 ∷ pos 2 ∷ negsuc 5 ∷ negsuc 0 ∷ pos 4 ∷ negsuc 3 ∷ pos 1 ∷ pos 6 ∷ negsuc 1 ∷ pos 3 ∷ negsuc 4 ∷ pos 0 ∷ pos 5 ∷ negsuc 2 ∷ pos 2 ∷ negsuc 5 ∷ negsuc 0 ∷ pos 4 ∷ negsuc 3 ∷ pos 1 ∷ pos 6 ∷ negsuc 1 ∷ pos 3 ∷ negsuc 4 ∷ pos 0 ∷ pos 5 ∷ negsuc 2 ∷ pos 2 ∷ negsuc 5 ∷ negsuc 0 ∷ pos 4 ∷ negsuc 3 ∷ pos 1 ∷ pos 6 ∷ negsuc 1 ∷ pos 3 ∷ negsuc 4 ∷ pos 0 ∷ pos 5 ∷ negsuc 2 ∷ pos 2 ∷ negsuc 5 ∷ negsuc 0 ∷ pos 4 ∷ negsuc 3 ∷ pos 1 ∷ pos 6 ∷ negsuc 1 ∷ pos 3 ∷ negsuc 4 ∷ pos 0 ∷ pos 5 ∷ negsuc 2 ∷ pos 2 ∷ [])
    ∷ []
unfolding script
list_24 = refl

list_25 : script
    (opens (carrying 1 (options 0 0 true (negsuc 0) true [] [])) 6 10
    ∷ call (right (pos 1 ∷ pos 2 ∷ pos 2 ∷ pos 0 ∷ pos 1 ∷ pos 0 ∷ []))
    ∷ call (turn (space 10))
    ∷ call (right (pos 1 ∷ pos 2 ∷ pos 5 ∷ pos 102 ∷ pos 1 ∷ pos 1 ∷ []))
    ∷ call (left (pos 2 ∷ pos 1 ∷ pos 0 ∷ pos 0 ∷ pos 0 ∷ pos 1 ∷ []))
    ∷ call (turn (space 10))
    ∷ call (left (pos 1 ∷ pos 1 ∷ pos 4 ∷ pos 1 ∷ []))
    ∷ call (turn (space 10))
    ∷ call (left (pos 2 ∷ pos 1 ∷ pos 11 ∷ pos 0 ∷ pos 1 ∷ pos 0 ∷ []))
    ∷ call end
    ∷ call (turn (space 10))
    ∷ state
    ∷ dump
    ∷ [])
    ≡ ok
    ∷ ok
    ∷ idle
    ∷ ok
    ∷ ok
    ∷ wrote 0 (pos 2 ∷ pos 2 ∷ pos 0 ∷ pos 0 ∷ pos 0 ∷ pos 0 ∷ pos 0 ∷ pos 0 ∷ pos 0 ∷ pos 0 ∷ [])
    ∷ ok
    ∷ wrote 2 (pos 1 ∷ pos 2 ∷ pos 0 ∷ pos 0 ∷ pos 1 ∷ pos 0 ∷ [])
    ∷ ok
    ∷ ok
    ∷ refused 8
    ∷ looks (0 ∷ 2 ∷ 0 ∷ 0 ∷ 6 ∷ 0 ∷ 1 ∷ 1 ∷ 4 ∷ []) (Some (value (pos 4) ∷ [])) None
    ∷ areas (pos 2 ∷ pos 1 ∷ pos 11 ∷ pos 0 ∷ pos 1 ∷ pos 0 ∷ []) (pos 2 ∷ pos 0 ∷ pos 5 ∷ pos 102 ∷ pos 1 ∷ pos 0 ∷ pos 1 ∷ pos 1 ∷ negsuc 4 ∷ pos 0 ∷ [])
    ∷ []
unfolding script
list_25 = refl

list_26 : script
    (opens (carrying 1 (options 4 1 true (pos 4) true (false ∷ true ∷ false ∷ false ∷ []) (false ∷ true ∷ false ∷ false ∷ []))) 24 74
    ∷ call (right (pos 1 ∷ pos 6 ∷ pos 0 ∷ pos 1 ∷ pos 0 ∷ pos 0 ∷ pos 10 ∷ negsuc 7657674889900557917 ∷ pos 0 ∷ pos 1 ∷ pos 0 ∷ pos 0 ∷ pos 1 ∷ pos 1 ∷ []))
    ∷ call (right (pos 1 ∷ pos 6 ∷ pos 0 ∷ pos 0 ∷ pos 0 ∷ pos 1 ∷ pos 2 ∷ pos 0 ∷ pos 0 ∷ pos 0 ∷ pos 0 ∷ pos 1 ∷ pos 1 ∷ pos 0 ∷ []))
    ∷ call (right (pos 1 ∷ pos 6 ∷ pos 0 ∷ pos 0 ∷ pos 1 ∷ pos 0 ∷ pos 0 ∷ pos 5984060149816403402 ∷ pos 1 ∷ pos 1 ∷ pos 1 ∷ pos 0 ∷ pos 1 ∷ pos 1 ∷ []))
    ∷ call (right (pos 1 ∷ pos 6 ∷ pos 0 ∷ pos 0 ∷ pos 0 ∷ pos 1 ∷ pos 6 ∷ pos 3585497138301207599 ∷ pos 1 ∷ pos 0 ∷ pos 1 ∷ pos 1 ∷ pos 1 ∷ pos 1 ∷ []))
    ∷ call (right (pos 1 ∷ pos 6 ∷ pos 1 ∷ pos 0 ∷ pos 0 ∷ pos 0 ∷ pos 10 ∷ pos 0 ∷ pos 1 ∷ pos 1 ∷ pos 1 ∷ pos 1 ∷ pos 1 ∷ pos 0 ∷ []))
    ∷ call (left (pos 1 ∷ pos 5 ∷ pos 0 ∷ pos 1 ∷ pos 0 ∷ pos 0 ∷ pos 2 ∷ pos 1 ∷ pos 1 ∷ pos 0 ∷ pos 1 ∷ pos 1 ∷ []))
    ∷ call (right (pos 1 ∷ pos 6 ∷ pos 1 ∷ pos 0 ∷ pos 1 ∷ pos 1 ∷ pos 11 ∷ pos 3740355488461433166 ∷ pos 1 ∷ pos 1 ∷ pos 1 ∷ pos 1 ∷ pos 1 ∷ pos 1 ∷ []))
    ∷ call (turn (space 6))
    ∷ call (left (pos 1 ∷ pos 5 ∷ pos 0 ∷ pos 0 ∷ pos 0 ∷ pos 0 ∷ pos 1 ∷ pos 1 ∷ pos 1 ∷ pos 0 ∷ pos 1 ∷ pos 1 ∷ []))
    ∷ call (right (pos 1 ∷ pos 6 ∷ pos 1 ∷ pos 0 ∷ pos 0 ∷ pos 0 ∷ pos 4 ∷ pos 1 ∷ pos 1 ∷ pos 0 ∷ pos 1 ∷ pos 0 ∷ pos 1 ∷ pos 1 ∷ []))
    ∷ call (left (pos 1 ∷ pos 5 ∷ pos 0 ∷ pos 0 ∷ pos 1 ∷ pos 0 ∷ pos 11 ∷ pos 1 ∷ pos 0 ∷ pos 1 ∷ pos 0 ∷ pos 1 ∷ []))
    ∷ call end
    ∷ call (turn (space 6))
    ∷ call (turn (space 6))
    ∷ state
    ∷ dump
    ∷ [])
    ≡ ok
    ∷ ok
    ∷ ok
    ∷ ok
    ∷ ok
    ∷ ok
    ∷ ok
    ∷ ok
    ∷ wrote 0 (pos 1 ∷ pos 2 ∷ pos 0 ∷ pos 0 ∷ pos 0 ∷ pos 0 ∷ [])
    ∷ ok
    ∷ ok
    ∷ ok
    ∷ ok
    ∷ wrote 2 (pos 1 ∷ pos 2 ∷ pos 0 ∷ pos 0 ∷ pos 0 ∷ pos 0 ∷ [])
    ∷ wrote 4 (pos 1 ∷ pos 2 ∷ pos 0 ∷ pos 0 ∷ pos 0 ∷ pos 0 ∷ [])
    ∷ looks (2 ∷ 3 ∷ 4 ∷ 24 ∷ 0 ∷ 0 ∷ 1 ∷ 0 ∷ 6 ∷ []) (Some (value (pos 0) ∷ null ∷ value (pos 1) ∷ null ∷ value (pos 11) ∷ [])) (Some (value (pos 0) ∷ null ∷ value (pos 0) ∷ value (pos 1) ∷ value (pos 6) ∷ []))
    ∷ areas (pos 1 ∷ pos 5 ∷ pos 0 ∷ pos 0 ∷ pos 0 ∷ pos 0 ∷ pos 1 ∷ pos 1 ∷ pos 1 ∷ pos 0 ∷ pos 1 ∷ pos 1 ∷ pos 1 ∷ pos 5 ∷ pos 0 ∷ pos 0 ∷ pos 1 ∷ pos 0 ∷ pos 11 ∷ pos 1 ∷ pos 0 ∷ pos 1 ∷ pos 0 ∷ pos 1 ∷ []) (pos 0 ∷ pos 0 ∷ pos 1 ∷ pos 0 ∷ pos 0 ∷ pos 5984060149816403402 ∷ pos 0 ∷ pos 0 ∷ pos 0 ∷ pos 1 ∷ pos 6 ∷ pos 3585497138301207599 ∷ pos 1 ∷ pos 0 ∷ pos 0 ∷ pos 0 ∷ pos 10 ∷ pos 0 ∷ pos 1 ∷ pos 0 ∷ pos 1 ∷ pos 1 ∷ pos 11 ∷ pos 3740355488461433166 ∷ pos 1 ∷ pos 0 ∷ pos 0 ∷ pos 0 ∷ pos 4 ∷ pos 1 ∷ pos 1 ∷ pos 0 ∷ pos 1 ∷ pos 1 ∷ pos 11 ∷ pos 3740355488461433166 ∷ pos 1 ∷ pos 1 ∷ pos 1 ∷ pos 0 ∷ pos 1 ∷ pos 1 ∷ pos 1 ∷ pos 0 ∷ pos 1 ∷ pos 1 ∷ pos 1 ∷ pos 1 ∷ pos 1 ∷ pos 1 ∷ pos 1 ∷ pos 1 ∷ pos 1 ∷ pos 0 ∷ pos 1 ∷ pos 1 ∷ pos 1 ∷ pos 1 ∷ pos 1 ∷ pos 1 ∷ pos 1 ∷ pos 0 ∷ pos 1 ∷ pos 0 ∷ pos 1 ∷ pos 1 ∷ pos 1 ∷ pos 1 ∷ pos 1 ∷ pos 1 ∷ pos 1 ∷ pos 1 ∷ pos 3 ∷ negsuc 4 ∷ [])
    ∷ []
unfolding script
list_26 = refl

list_27 : script
    (opens (carrying 1 (options 2 0 true (pos 1) true (true ∷ false ∷ []) (true ∷ true ∷ []))) 0 40
    ∷ call (right (pos 1 ∷ pos 4 ∷ pos 2 ∷ pos 0 ∷ negsuc 9223372036854775805 ∷ pos 304 ∷ pos 1 ∷ pos 0 ∷ pos 1 ∷ pos 1 ∷ []))
    ∷ call (right (pos 1 ∷ pos 4 ∷ pos 0 ∷ pos 0 ∷ pos 0 ∷ pos 427 ∷ pos 1 ∷ pos 0 ∷ pos 0 ∷ pos 1 ∷ []))
    ∷ call (right (pos 1 ∷ pos 4 ∷ pos 0 ∷ pos 0 ∷ pos 0 ∷ pos 362 ∷ pos 1 ∷ pos 0 ∷ pos 0 ∷ pos 1 ∷ []))
    ∷ call (right (pos 1 ∷ pos 4 ∷ pos 0 ∷ pos 0 ∷ pos 9223372036854775807 ∷ pos 591 ∷ pos 0 ∷ pos 1 ∷ pos 1 ∷ pos 1 ∷ []))
    ∷ call (right (pos 1 ∷ pos 4 ∷ pos 0 ∷ pos 1 ∷ pos 9223372036854775806 ∷ pos 517 ∷ pos 0 ∷ pos 1 ∷ pos 1 ∷ pos 1 ∷ []))
    ∷ call end
    ∷ state
    ∷ dump
    ∷ [])
    ≡ ok
    ∷ ok
    ∷ ok
    ∷ ok
    ∷ ok
    ∷ ok
    ∷ ok
    ∷ looks (0 ∷ 5 ∷ 0 ∷ 0 ∷ 0 ∷ 0 ∷ 1 ∷ 0 ∷ 0 ∷ []) None None
    ∷ areas [] (pos 2 ∷ pos 0 ∷ negsuc 9223372036854775805 ∷ pos 304 ∷ pos 0 ∷ pos 0 ∷ pos 0 ∷ pos 427 ∷ pos 0 ∷ pos 0 ∷ pos 0 ∷ pos 362 ∷ pos 0 ∷ pos 0 ∷ pos 9223372036854775807 ∷ pos 591 ∷ pos 0 ∷ pos 1 ∷ pos 9223372036854775806 ∷ pos 517 ∷ pos 1 ∷ pos 0 ∷ pos 1 ∷ pos 1 ∷ pos 1 ∷ pos 0 ∷ pos 0 ∷ pos 1 ∷ pos 1 ∷ pos 0 ∷ pos 0 ∷ pos 1 ∷ pos 0 ∷ pos 1 ∷ pos 1 ∷ pos 1 ∷ pos 0 ∷ pos 1 ∷ pos 1 ∷ pos 1 ∷ [])
    ∷ []
unfolding script
list_27 = refl

list_28 : script
    (opens (carrying 0 (options 4 0 false (pos 0) true (false ∷ false ∷ true ∷ true ∷ []) (false ∷ false ∷ true ∷ false ∷ []))) 34 10
    ∷ call (right (pos 0 ∷ pos 5 ∷ []))
    ∷ call (right (pos 0 ∷ pos 5 ∷ []))
    ∷ call (right (pos 1 ∷ pos 5 ∷ pos 0 ∷ pos 0 ∷ pos 0 ∷ pos 1 ∷ pos 0 ∷ pos 1 ∷ pos 1 ∷ pos 1 ∷ pos 1 ∷ pos 0 ∷ []))
    ∷ call (left (pos 1 ∷ pos 5 ∷ pos 0 ∷ pos 0 ∷ pos 1 ∷ pos 0 ∷ pos 8 ∷ pos 1 ∷ pos 1 ∷ pos 1 ∷ pos 1 ∷ pos 1 ∷ []))
    ∷ call (left (pos 2 ∷ pos 5 ∷ pos 0 ∷ pos 0 ∷ pos 0 ∷ pos 0 ∷ pos 0 ∷ pos 0 ∷ pos 1 ∷ pos 0 ∷ pos 0 ∷ pos 0 ∷ pos 1 ∷ pos 1 ∷ pos 1 ∷ pos 1 ∷ pos 1 ∷ pos 1 ∷ pos 1 ∷ pos 1 ∷ pos 1 ∷ pos 0 ∷ []))
    ∷ call end
    ∷ call (turn (space 6))
    ∷ call (turn (space 6))
    ∷ state
    ∷ dump
    ∷ [])
    ≡ ok
    ∷ ok
    ∷ ok
    ∷ ok
    ∷ ok
    ∷ ok
    ∷ ok
    ∷ wrote 0 (pos 1 ∷ pos 1 ∷ pos 0 ∷ pos 0 ∷ [])
    ∷ wrote 2 (pos 2 ∷ pos 1 ∷ pos 0 ∷ pos 0 ∷ pos 0 ∷ pos 0 ∷ [])
    ∷ looks (1 ∷ 0 ∷ 1 ∷ 34 ∷ 0 ∷ 0 ∷ 1 ∷ 0 ∷ 4 ∷ []) (Some (value (pos 0) ∷ value (pos 0) ∷ value (pos 0) ∷ value (pos 0) ∷ value (pos 0) ∷ [])) None
    ∷ areas (pos 1 ∷ pos 5 ∷ pos 0 ∷ pos 0 ∷ pos 1 ∷ pos 0 ∷ pos 8 ∷ pos 1 ∷ pos 1 ∷ pos 1 ∷ pos 1 ∷ pos 1 ∷ pos 2 ∷ pos 5 ∷ pos 0 ∷ pos 0 ∷ pos 0 ∷ pos 0 ∷ pos 0 ∷ pos 0 ∷ pos 1 ∷ pos 0 ∷ pos 0 ∷ pos 0 ∷ pos 1 ∷ pos 1 ∷ pos 1 ∷ pos 1 ∷ pos 1 ∷ pos 1 ∷ pos 1 ∷ pos 1 ∷ pos 1 ∷ pos 0 ∷ []) (pos 0 ∷ pos 0 ∷ pos 0 ∷ pos 1 ∷ pos 0 ∷ pos 1 ∷ pos 1 ∷ pos 1 ∷ pos 1 ∷ pos 0 ∷ [])
    ∷ []
unfolding script
list_28 = refl

list_29 : script
    (opens (carrying 3 (options 1 0 false (pos 2) true (false ∷ []) (true ∷ []))) 30 110
    ∷ call (right (pos 1 ∷ pos 5 ∷ pos 0 ∷ pos 0 ∷ pos 1691597106815302703 ∷ pos 0 ∷ pos 0 ∷ pos 1 ∷ pos 1 ∷ pos 1 ∷ pos 0 ∷ pos 0 ∷ []))
    ∷ call (right (pos 0 ∷ pos 5 ∷ []))
    ∷ call (right (pos 1 ∷ pos 5 ∷ pos 0 ∷ pos 0 ∷ pos 0 ∷ pos 0 ∷ pos 0 ∷ pos 1 ∷ pos 1 ∷ pos 0 ∷ pos 1 ∷ pos 0 ∷ []))
    ∷ call (right (pos 1 ∷ pos 5 ∷ pos 0 ∷ pos 2 ∷ negsuc 857830579277705921 ∷ pos 9223372036854775807 ∷ pos 0 ∷ pos 1 ∷ pos 1 ∷ pos 1 ∷ pos 1 ∷ pos 0 ∷ []))
    ∷ call (left (pos 3 ∷ pos 2 ∷ pos 0 ∷ pos 2 ∷ pos 1 ∷ pos 0 ∷ pos 1 ∷ pos 0 ∷ pos 1 ∷ pos 1 ∷ pos 1 ∷ pos 1 ∷ pos 1 ∷ pos 1 ∷ []))
    ∷ call (right (pos 1 ∷ pos 5 ∷ pos 1 ∷ pos 1 ∷ pos 6378067083540380976 ∷ pos 3975776162596502682 ∷ pos 0 ∷ pos 1 ∷ pos 1 ∷ pos 1 ∷ pos 1 ∷ pos 0 ∷ []))
    ∷ call (left (pos 2 ∷ pos 2 ∷ pos 2 ∷ pos 0 ∷ pos 2 ∷ pos 2 ∷ pos 1 ∷ pos 1 ∷ pos 1 ∷ pos 1 ∷ []))
    ∷ call (right (pos 1 ∷ pos 5 ∷ pos 1 ∷ pos 1 ∷ negsuc 4500367448231713741 ∷ pos 0 ∷ pos 0 ∷ pos 1 ∷ pos 1 ∷ pos 1 ∷ pos 0 ∷ pos 0 ∷ []))
    ∷ call (right (pos 1 ∷ pos 5 ∷ pos 1 ∷ pos 2 ∷ negsuc 4919184672123737753 ∷ pos 4936689241393997815 ∷ negsuc 791779868525679218 ∷ pos 1 ∷ pos 1 ∷ pos 1 ∷ pos 1 ∷ pos 1 ∷ []))
    ∷ call (turn (space 26))
    ∷ call (right (pos 0 ∷ pos 5 ∷ []))
    ∷ call (right (pos 1 ∷ pos 5 ∷ pos 2 ∷ pos 0 ∷ pos 769191832332290298 ∷ negsuc 9223372036854775805 ∷ pos 0 ∷ pos 1 ∷ pos 1 ∷ pos 1 ∷ pos 1 ∷ pos 0 ∷ []))
    ∷ call (turn (space 26))
    ∷ call (left (pos 1 ∷ pos 2 ∷ pos 0 ∷ pos 2 ∷ pos 1 ∷ pos 1 ∷ []))
    ∷ call (right (pos 1 ∷ pos 5 ∷ pos 2 ∷ pos 1 ∷ pos 687272058125469096 ∷ negsuc 5461304508610890636 ∷ negsuc 9223372036854775807 ∷ pos 1 ∷ pos 1 ∷ pos 1 ∷ pos 1 ∷ pos 1 ∷ []))
    ∷ call (right (pos 1 ∷ pos 5 ∷ pos 2 ∷ pos 1 ∷ pos 0 ∷ pos 0 ∷ negsuc 9223372036854775806 ∷ pos 1 ∷ pos 1 ∷ pos 0 ∷ pos 1 ∷ pos 1 ∷ []))
    ∷ call (right (pos 1 ∷ pos 5 ∷ pos 2 ∷ pos 2 ∷ pos 0 ∷ pos 0 ∷ pos 6838164600586879791 ∷ pos 1 ∷ pos 1 ∷ pos 0 ∷ pos 0 ∷ pos 1 ∷ []))
    ∷ call (right (pos 1 ∷ pos 5 ∷ pos 2 ∷ pos 2 ∷ negsuc 1797727613031180116 ∷ negsuc 3655483071087535261 ∷ pos 9223372036854775805 ∷ pos 1 ∷ pos 1 ∷ pos 1 ∷ pos 1 ∷ pos 1 ∷ []))
    ∷ call end
    ∷ call (turn (space 26))
    ∷ call (turn (space 26))
    ∷ state
    ∷ dump
    ∷ [])
    ≡ ok
    ∷ ok
    ∷ ok
    ∷ ok
    ∷ ok
    ∷ ok
    ∷ ok
    ∷ ok
    ∷ ok
    ∷ ok
    ∷ wrote 0 (pos 3 ∷ pos 4 ∷ pos 1 ∷ pos 0 ∷ pos 0 ∷ pos 0 ∷ pos 0 ∷ pos 0 ∷ pos 0 ∷ pos 0 ∷ pos 0 ∷ pos 0 ∷ pos 0 ∷ pos 0 ∷ pos 1 ∷ pos 0 ∷ pos 1 ∷ pos 0 ∷ pos 0 ∷ pos 0 ∷ pos 0 ∷ pos 0 ∷ pos 0 ∷ pos 0 ∷ pos 0 ∷ pos 0 ∷ [])
    ∷ ok
    ∷ ok
    ∷ wants
    ∷ ok
    ∷ ok
    ∷ ok
    ∷ ok
    ∷ ok
    ∷ ok
    ∷ wrote 2 (pos 2 ∷ pos 4 ∷ pos 0 ∷ pos 0 ∷ pos 0 ∷ pos 0 ∷ pos 8 ∷ pos 0 ∷ pos 0 ∷ negsuc 9223372036854775806 ∷ pos 0 ∷ pos 0 ∷ pos 0 ∷ pos 0 ∷ pos 1 ∷ pos 0 ∷ pos 1 ∷ pos 1 ∷ [])
    ∷ refused 8
    ∷ looks (8 ∷ 3 ∷ 8 ∷ 24 ∷ 6 ∷ 0 ∷ 1 ∷ 1 ∷ 4 ∷ []) (Some (value (pos 2) ∷ value (pos 2) ∷ [])) (Some (value (pos 2) ∷ value (pos 1) ∷ []))
    ∷ areas (pos 3 ∷ pos 2 ∷ pos 0 ∷ pos 2 ∷ pos 1 ∷ pos 0 ∷ pos 1 ∷ pos 0 ∷ pos 1 ∷ pos 1 ∷ pos 1 ∷ pos 1 ∷ pos 1 ∷ pos 1 ∷ pos 2 ∷ pos 2 ∷ pos 2 ∷ pos 0 ∷ pos 2 ∷ pos 2 ∷ pos 1 ∷ pos 1 ∷ pos 1 ∷ pos 1 ∷ pos 1 ∷ pos 2 ∷ pos 0 ∷ pos 2 ∷ pos 1 ∷ pos 1 ∷ []) (pos 0 ∷ pos 0 ∷ pos 1691597106815302703 ∷ pos 0 ∷ pos 0 ∷ pos 0 ∷ pos 0 ∷ pos 0 ∷ pos 0 ∷ pos 0 ∷ pos 0 ∷ pos 2 ∷ negsuc 857830579277705921 ∷ pos 9223372036854775807 ∷ pos 0 ∷ pos 1 ∷ pos 1 ∷ pos 6378067083540380976 ∷ pos 3975776162596502682 ∷ pos 0 ∷ pos 1 ∷ pos 1 ∷ negsuc 4500367448231713741 ∷ pos 0 ∷ pos 0 ∷ pos 1 ∷ pos 2 ∷ negsuc 4919184672123737753 ∷ pos 4936689241393997815 ∷ negsuc 791779868525679218 ∷ pos 2 ∷ pos 0 ∷ pos 769191832332290298 ∷ negsuc 9223372036854775805 ∷ pos 0 ∷ pos 2 ∷ pos 1 ∷ pos 687272058125469096 ∷ negsuc 5461304508610890636 ∷ negsuc 9223372036854775807 ∷ pos 2 ∷ pos 1 ∷ pos 0 ∷ pos 0 ∷ negsuc 9223372036854775806 ∷ pos 2 ∷ pos 2 ∷ pos 0 ∷ pos 0 ∷ pos 6838164600586879791 ∷ pos 2 ∷ pos 2 ∷ negsuc 1797727613031180116 ∷ negsuc 3655483071087535261 ∷ pos 9223372036854775805 ∷ pos 1 ∷ pos 1 ∷ pos 1 ∷ pos 0 ∷ pos 0 ∷ pos 1 ∷ pos 1 ∷ pos 0 ∷ pos 1 ∷ pos 0 ∷ pos 1 ∷ pos 1 ∷ pos 1 ∷ pos 1 ∷ pos 0 ∷ pos 1 ∷ pos 1 ∷ pos 1 ∷ pos 1 ∷ pos 0 ∷ pos 1 ∷ pos 1 ∷ pos 1 ∷ pos 0 ∷ pos 0 ∷ pos 1 ∷ pos 1 ∷ pos 1 ∷ pos 1 ∷ pos 1 ∷ pos 1 ∷ pos 1 ∷ pos 1 ∷ pos 1 ∷ pos 0 ∷ pos 1 ∷ pos 1 ∷ pos 1 ∷ pos 1 ∷ pos 1 ∷ pos 1 ∷ pos 1 ∷ pos 0 ∷ pos 1 ∷ pos 1 ∷ pos 1 ∷ pos 1 ∷ pos 0 ∷ pos 0 ∷ pos 1 ∷ pos 1 ∷ pos 1 ∷ pos 1 ∷ pos 1 ∷ pos 1 ∷ [])
    ∷ []
unfolding script
list_29 = refl

list_30 : script
    (opens (carrying 6 (options 0 1 true (pos 9223372036854775807) true [] [])) 4 28
    ∷ call (left (pos 1 ∷ pos 1 ∷ pos 0 ∷ pos 1 ∷ []))
    ∷ call (right (pos 1 ∷ pos 7 ∷ pos 0 ∷ pos 143 ∷ pos 418 ∷ pos 916 ∷ pos 42 ∷ pos 566 ∷ pos 99 ∷ pos 1 ∷ pos 1 ∷ pos 1 ∷ pos 1 ∷ pos 1 ∷ pos 1 ∷ pos 1 ∷ []))
    ∷ call (turn (space 16))
    ∷ call (right (pos 1 ∷ pos 7 ∷ pos 5 ∷ pos 374 ∷ pos 928 ∷ pos 805 ∷ pos 617 ∷ pos 505 ∷ pos 970 ∷ pos 1 ∷ pos 1 ∷ pos 1 ∷ pos 1 ∷ pos 1 ∷ pos 1 ∷ pos 1 ∷ []))
    ∷ state
    ∷ dump
    ∷ [])
    ≡ ok
    ∷ ok
    ∷ ok
    ∷ wrote 0 (pos 1 ∷ pos 7 ∷ pos 0 ∷ pos 143 ∷ pos 418 ∷ pos 916 ∷ pos 42 ∷ pos 566 ∷ pos 99 ∷ pos 1 ∷ pos 1 ∷ pos 1 ∷ pos 1 ∷ pos 1 ∷ pos 1 ∷ pos 1 ∷ [])
    ∷ ok
    ∷ looks (0 ∷ 2 ∷ 0 ∷ 4 ∷ 0 ∷ 0 ∷ 0 ∷ 0 ∷ 2 ∷ []) (Some (value (pos 0) ∷ [])) None
    ∷ areas (pos 1 ∷ pos 1 ∷ pos 0 ∷ pos 1 ∷ []) (pos 0 ∷ pos 143 ∷ pos 418 ∷ pos 916 ∷ pos 42 ∷ pos 566 ∷ pos 99 ∷ pos 5 ∷ pos 374 ∷ pos 928 ∷ pos 805 ∷ pos 617 ∷ pos 505 ∷ pos 970 ∷ pos 1 ∷ pos 1 ∷ pos 1 ∷ pos 1 ∷ pos 1 ∷ pos 1 ∷ pos 1 ∷ pos 1 ∷ pos 1 ∷ pos 1 ∷ pos 1 ∷ pos 1 ∷ pos 1 ∷ pos 1 ∷ [])
    ∷ []
unfolding script
list_30 = refl

list_31 : script
    (opens (carrying 2 (options 2 0 false (pos 9223372036854775805) false (true ∷ true ∷ []) (false ∷ true ∷ []))) 34 2
    ∷ call (left (pos 1 ∷ pos 3 ∷ pos 9223372036854775805 ∷ pos 9223372036854775807 ∷ pos 9223372036854775805 ∷ pos 1 ∷ pos 1 ∷ pos 1 ∷ []))
    ∷ call (turn (space 8))
    ∷ call (turn (space 8))
    ∷ call (turn (space 8))
    ∷ call (turn (space 8))
    ∷ call (left (pos 1 ∷ pos 3 ∷ negsuc 9223372036854775806 ∷ negsuc 9223372036854775805 ∷ pos 1 ∷ pos 1 ∷ pos 1 ∷ pos 1 ∷ []))
    ∷ call (left (pos 1 ∷ pos 3 ∷ negsuc 9223372036854775807 ∷ negsuc 9223372036854775807 ∷ pos 0 ∷ pos 1 ∷ pos 1 ∷ pos 1 ∷ []))
    ∷ call (left (pos 1 ∷ pos 3 ∷ negsuc 9223372036854775807 ∷ negsuc 9223372036854775806 ∷ pos 0 ∷ pos 1 ∷ pos 1 ∷ pos 1 ∷ []))
    ∷ call (left (pos 0 ∷ pos 3 ∷ []))
    ∷ call end
    ∷ call (turn (space 8))
    ∷ call (turn (space 8))
    ∷ call (turn (space 8))
    ∷ call (turn (space 8))
    ∷ call (turn (space 8))
    ∷ call (ports PortDone Ready Ready)
    ∷ state
    ∷ dump
    ∷ [])
    ≡ ok
    ∷ ok
    ∷ wants
    ∷ wants
    ∷ wants
    ∷ wants
    ∷ ok
    ∷ ok
    ∷ ok
    ∷ ok
    ∷ ok
    ∷ wrote 0 (pos 1 ∷ pos 3 ∷ pos 0 ∷ pos 0 ∷ pos 0 ∷ pos 0 ∷ pos 0 ∷ pos 0 ∷ [])
    ∷ wrote 2 (pos 1 ∷ pos 3 ∷ pos 0 ∷ pos 0 ∷ pos 0 ∷ pos 0 ∷ pos 0 ∷ pos 0 ∷ [])
    ∷ wrote 4 (pos 1 ∷ pos 3 ∷ pos 0 ∷ pos 0 ∷ pos 0 ∷ pos 0 ∷ pos 0 ∷ pos 0 ∷ [])
    ∷ wrote 6 (pos 1 ∷ pos 3 ∷ pos 0 ∷ pos 0 ∷ pos 0 ∷ pos 0 ∷ pos 0 ∷ pos 0 ∷ [])
    ∷ wrote 8 (pos 0 ∷ pos 3 ∷ [])
    ∷ said-ports 2 2 2 2
    ∷ looks (0 ∷ 0 ∷ 0 ∷ 34 ∷ 0 ∷ 2 ∷ 1 ∷ 0 ∷ 10 ∷ []) None None
    ∷ areas (pos 1 ∷ pos 3 ∷ pos 9223372036854775805 ∷ pos 9223372036854775807 ∷ pos 9223372036854775805 ∷ pos 1 ∷ pos 1 ∷ pos 1 ∷ pos 1 ∷ pos 3 ∷ negsuc 9223372036854775806 ∷ negsuc 9223372036854775805 ∷ pos 1 ∷ pos 1 ∷ pos 1 ∷ pos 1 ∷ pos 1 ∷ pos 3 ∷ negsuc 9223372036854775807 ∷ negsuc 9223372036854775807 ∷ pos 0 ∷ pos 1 ∷ pos 1 ∷ pos 1 ∷ pos 1 ∷ pos 3 ∷ negsuc 9223372036854775807 ∷ negsuc 9223372036854775806 ∷ pos 0 ∷ pos 1 ∷ pos 1 ∷ pos 1 ∷ pos 0 ∷ pos 3 ∷ []) (negsuc 5 ∷ negsuc 0 ∷ [])
    ∷ []
unfolding script
list_31 = refl

list_32 : script
    (opens (carrying 1 (options 2 0 true (negsuc 0) false (true ∷ false ∷ []) (true ∷ true ∷ []))) 8 8
    ∷ call (right (pos 1 ∷ pos 4 ∷ pos 1 ∷ pos 9223372036854775807 ∷ pos 0 ∷ pos 0 ∷ pos 1 ∷ pos 1 ∷ pos 0 ∷ pos 0 ∷ []))
    ∷ call (left (pos 1 ∷ pos 3 ∷ pos 0 ∷ pos 9223372036854775805 ∷ pos 9223372036854775807 ∷ pos 1 ∷ pos 1 ∷ pos 1 ∷ []))
    ∷ call (ports Ready Ready Blocked)
    ∷ call end
    ∷ call (turn (space 6))
    ∷ call (ports PortDone Ready Ready)
    ∷ state
    ∷ dump
    ∷ [])
    ≡ ok
    ∷ ok
    ∷ ok
    ∷ said-ports 0 0 1 0
    ∷ ok
    ∷ wrote 0 (pos 1 ∷ pos 2 ∷ pos 0 ∷ pos 0 ∷ pos 0 ∷ pos 0 ∷ [])
    ∷ said-ports 2 2 2 2
    ∷ looks (1 ∷ 0 ∷ 1 ∷ 8 ∷ 0 ∷ 2 ∷ 1 ∷ 0 ∷ 2 ∷ []) None None
    ∷ areas (pos 1 ∷ pos 3 ∷ pos 0 ∷ pos 9223372036854775805 ∷ pos 9223372036854775807 ∷ pos 1 ∷ pos 1 ∷ pos 1 ∷ []) (pos 1 ∷ pos 9223372036854775807 ∷ pos 0 ∷ pos 0 ∷ pos 1 ∷ pos 1 ∷ pos 0 ∷ pos 0 ∷ [])
    ∷ []
unfolding script
list_32 = refl

list_33 : script
    (opens (carrying 2 (options 3 2 true (negsuc 0) true (true ∷ false ∷ true ∷ []) (true ∷ false ∷ true ∷ []))) 10 12
    ∷ call (turn (space 8))
    ∷ call (left (pos 1 ∷ pos 4 ∷ negsuc 9223372036854775807 ∷ pos 9223372036854775805 ∷ negsuc 9223372036854775805 ∷ pos 9223372036854775806 ∷ pos 1 ∷ pos 1 ∷ pos 1 ∷ pos 1 ∷ []))
    ∷ call (turn (space 8))
    ∷ call (right (pos 1 ∷ pos 6 ∷ negsuc 0 ∷ pos 0 ∷ negsuc 0 ∷ pos 9223372036854775806 ∷ negsuc 9223372036854775805 ∷ negsuc 9223372036854775805 ∷ pos 1 ∷ pos 1 ∷ pos 1 ∷ pos 1 ∷ pos 1 ∷ pos 1 ∷ []))
    ∷ call (turn (space 8))
    ∷ call (turn (space 8))
    ∷ call end
    ∷ call (turn (space 8))
    ∷ call (ports Blocked Ready Ready)
    ∷ state
    ∷ dump
    ∷ [])
    ≡ ok
    ∷ idle
    ∷ ok
    ∷ wants
    ∷ ok
    ∷ wants
    ∷ wants
    ∷ ok
    ∷ wrote 0 (pos 1 ∷ pos 3 ∷ pos 0 ∷ pos 0 ∷ pos 0 ∷ pos 0 ∷ pos 0 ∷ pos 0 ∷ [])
    ∷ said-ports 1 0 0 0
    ∷ looks (1 ∷ 0 ∷ 1 ∷ 10 ∷ 0 ∷ 0 ∷ 1 ∷ 0 ∷ 2 ∷ []) (Some (value (negsuc 9223372036854775807) ∷ value (pos 9223372036854775805) ∷ value (negsuc 9223372036854775805) ∷ value (pos 9223372036854775806) ∷ [])) (Some (value (negsuc 0) ∷ value (pos 0) ∷ value (negsuc 0) ∷ value (pos 9223372036854775806) ∷ []))
    ∷ areas (pos 1 ∷ pos 4 ∷ negsuc 9223372036854775807 ∷ pos 9223372036854775805 ∷ negsuc 9223372036854775805 ∷ pos 9223372036854775806 ∷ pos 1 ∷ pos 1 ∷ pos 1 ∷ pos 1 ∷ []) (negsuc 0 ∷ pos 0 ∷ negsuc 0 ∷ pos 9223372036854775806 ∷ negsuc 9223372036854775805 ∷ negsuc 9223372036854775805 ∷ pos 1 ∷ pos 1 ∷ pos 1 ∷ pos 1 ∷ pos 1 ∷ pos 1 ∷ [])
    ∷ []
unfolding script
list_33 = refl

list_34 : script
    (opens (carrying 2 (options 3 2 true (negsuc 0) false (false ∷ true ∷ true ∷ []) (true ∷ false ∷ true ∷ []))) 10 43
    ∷ call (left (pos 1 ∷ pos 4 ∷ negsuc 9223372036854775806 ∷ negsuc 0 ∷ pos 9223372036854775806 ∷ pos 0 ∷ pos 1 ∷ pos 1 ∷ pos 1 ∷ pos 0 ∷ []))
    ∷ call (turn (space 8))
    ∷ call (turn (space 8))
    ∷ call (turn (space 8))
    ∷ call (turn (space 8))
    ∷ call (turn (space 8))
    ∷ call (turn (space 8))
    ∷ call (turn (space 8))
    ∷ call (turn (space 8))
    ∷ call (turn (space 8))
    ∷ call (turn (space 8))
    ∷ call (right (pos 2 ∷ pos 6 ∷ negsuc 0 ∷ pos 9223372036854775805 ∷ negsuc 9223372036854775805 ∷ pos 0 ∷ pos 2 ∷ pos 1 ∷ pos 9223372036854775807 ∷ negsuc 9223372036854775807 ∷ negsuc 9223372036854775805 ∷ pos 9223372036854775806 ∷ pos 0 ∷ pos 0 ∷ pos 1 ∷ pos 1 ∷ pos 1 ∷ pos 0 ∷ pos 1 ∷ pos 1 ∷ pos 1 ∷ pos 1 ∷ pos 1 ∷ pos 1 ∷ pos 1 ∷ pos 0 ∷ []))
    ∷ call (ports Ready Ready Blocked)
    ∷ call (turn (space 8))
    ∷ call (right (pos 1 ∷ pos 6 ∷ negsuc 9223372036854775807 ∷ pos 0 ∷ negsuc 9223372036854775806 ∷ pos 0 ∷ pos 0 ∷ pos 1 ∷ pos 1 ∷ pos 1 ∷ pos 1 ∷ pos 0 ∷ pos 0 ∷ pos 1 ∷ []))
    ∷ call end
    ∷ call (turn (space 8))
    ∷ call (ports Ready Blocked Ready)
    ∷ state
    ∷ dump
    ∷ [])
    ≡ ok
    ∷ ok
    ∷ wants
    ∷ wants
    ∷ wants
    ∷ wants
    ∷ wants
    ∷ wants
    ∷ wants
    ∷ wants
    ∷ wants
    ∷ wants
    ∷ ok
    ∷ said-ports 0 0 1 0
    ∷ wrote 0 (pos 1 ∷ pos 3 ∷ pos 0 ∷ pos 0 ∷ pos 0 ∷ pos 0 ∷ pos 0 ∷ pos 0 ∷ [])
    ∷ ok
    ∷ ok
    ∷ idle
    ∷ said-ports 0 1 0 0
    ∷ looks (0 ∷ 3 ∷ 0 ∷ 10 ∷ 0 ∷ 0 ∷ 1 ∷ 0 ∷ 2 ∷ []) None None
    ∷ areas (pos 1 ∷ pos 4 ∷ negsuc 9223372036854775806 ∷ negsuc 0 ∷ pos 9223372036854775806 ∷ pos 0 ∷ pos 1 ∷ pos 1 ∷ pos 1 ∷ pos 0 ∷ []) (negsuc 0 ∷ pos 9223372036854775805 ∷ negsuc 9223372036854775805 ∷ pos 0 ∷ pos 2 ∷ pos 1 ∷ pos 9223372036854775807 ∷ negsuc 9223372036854775807 ∷ negsuc 9223372036854775805 ∷ pos 9223372036854775806 ∷ pos 0 ∷ pos 0 ∷ negsuc 9223372036854775807 ∷ pos 0 ∷ negsuc 9223372036854775806 ∷ pos 0 ∷ pos 0 ∷ pos 1 ∷ pos 1 ∷ pos 1 ∷ pos 1 ∷ pos 0 ∷ pos 1 ∷ pos 1 ∷ pos 1 ∷ pos 1 ∷ pos 1 ∷ pos 1 ∷ pos 1 ∷ pos 0 ∷ pos 1 ∷ pos 1 ∷ pos 1 ∷ pos 0 ∷ pos 0 ∷ pos 1 ∷ pos 5 ∷ negsuc 2 ∷ pos 2 ∷ negsuc 5 ∷ negsuc 0 ∷ pos 4 ∷ negsuc 3 ∷ [])
    ∷ []
unfolding script
list_34 = refl

list_35 : script
    (opens (carrying 2 (options 3 2 true (pos 4) true (true ∷ true ∷ false ∷ []) (false ∷ true ∷ true ∷ []))) 50 47
    ∷ call (left (pos 0 ∷ pos 4 ∷ []))
    ∷ call (ports Ready Ready Ready)
    ∷ call (right (pos 2 ∷ pos 6 ∷ pos 9223372036854775807 ∷ pos 9223372036854775807 ∷ pos 9223372036854775805 ∷ negsuc 9223372036854775806 ∷ pos 8224347993125355203 ∷ negsuc 6660503686877895236 ∷ pos 9223372036854775807 ∷ pos 1 ∷ pos 9223372036854775805 ∷ pos 0 ∷ pos 4337033495069143285 ∷ negsuc 9223372036854775806 ∷ pos 1 ∷ pos 1 ∷ pos 1 ∷ pos 1 ∷ pos 1 ∷ pos 1 ∷ pos 1 ∷ pos 1 ∷ pos 1 ∷ pos 0 ∷ pos 1 ∷ pos 1 ∷ []))
    ∷ call (right (pos 1 ∷ pos 6 ∷ pos 1 ∷ pos 0 ∷ pos 1 ∷ pos 9223372036854775806 ∷ negsuc 7613442344826763428 ∷ pos 9223372036854775807 ∷ pos 1 ∷ pos 1 ∷ pos 1 ∷ pos 1 ∷ pos 1 ∷ pos 1 ∷ []))
    ∷ call (left (pos 0 ∷ pos 4 ∷ []))
    ∷ call (left (pos 3 ∷ pos 4 ∷ negsuc 9223372036854775807 ∷ pos 1 ∷ pos 9223372036854775805 ∷ negsuc 9223372036854775805 ∷ negsuc 0 ∷ pos 9223372036854775806 ∷ pos 9223372036854775805 ∷ negsuc 0 ∷ negsuc 9223372036854775807 ∷ pos 9223372036854775806 ∷ pos 0 ∷ pos 9223372036854775805 ∷ pos 1 ∷ pos 1 ∷ pos 1 ∷ pos 1 ∷ pos 1 ∷ pos 1 ∷ pos 1 ∷ pos 1 ∷ pos 1 ∷ pos 1 ∷ pos 1 ∷ pos 1 ∷ []))
    ∷ call (ports Blocked Ready Ready)
    ∷ call (left (pos 2 ∷ pos 4 ∷ pos 9223372036854775806 ∷ negsuc 0 ∷ negsuc 0 ∷ pos 9223372036854775806 ∷ pos 1 ∷ negsuc 9223372036854775806 ∷ negsuc 9223372036854775806 ∷ negsuc 9223372036854775807 ∷ pos 1 ∷ pos 1 ∷ pos 1 ∷ pos 1 ∷ pos 1 ∷ pos 1 ∷ pos 1 ∷ pos 1 ∷ []))
    ∷ call (turn (space 20))
    ∷ call (left (pos 0 ∷ pos 4 ∷ []))
    ∷ call (ports Ready Ready Blocked)
    ∷ call end
    ∷ call (ports Blocked Ready Ready)
    ∷ call (left (pos 0 ∷ pos 4 ∷ []))
    ∷ call (ports Ready Blocked Ready)
    ∷ call (ports PortDone Blocked Ready)
    ∷ state
    ∷ dump
    ∷ [])
    ≡ ok
    ∷ ok
    ∷ said-ports 1 1 1 0
    ∷ ok
    ∷ ok
    ∷ ok
    ∷ ok
    ∷ said-ports 1 0 0 0
    ∷ ok
    ∷ wrote 0 (pos 0 ∷ pos 3 ∷ [])
    ∷ ok
    ∷ said-ports 0 0 1 0
    ∷ ok
    ∷ said-ports 1 0 0 0
    ∷ ok
    ∷ said-ports 0 1 0 0
    ∷ said-ports 2 1 0 1
    ∷ looks (0 ∷ 3 ∷ 0 ∷ 0 ∷ 50 ∷ 1 ∷ 1 ∷ 0 ∷ 2 ∷ []) None None
    ∷ areas (pos 0 ∷ pos 4 ∷ pos 3 ∷ pos 4 ∷ negsuc 9223372036854775807 ∷ pos 1 ∷ pos 9223372036854775805 ∷ negsuc 9223372036854775805 ∷ negsuc 0 ∷ pos 9223372036854775806 ∷ pos 9223372036854775805 ∷ negsuc 0 ∷ negsuc 9223372036854775807 ∷ pos 9223372036854775806 ∷ pos 0 ∷ pos 9223372036854775805 ∷ pos 1 ∷ pos 1 ∷ pos 1 ∷ pos 1 ∷ pos 1 ∷ pos 1 ∷ pos 1 ∷ pos 1 ∷ pos 1 ∷ pos 1 ∷ pos 1 ∷ pos 1 ∷ pos 2 ∷ pos 4 ∷ pos 9223372036854775806 ∷ negsuc 0 ∷ negsuc 0 ∷ pos 9223372036854775806 ∷ pos 1 ∷ negsuc 9223372036854775806 ∷ negsuc 9223372036854775806 ∷ negsuc 9223372036854775807 ∷ pos 1 ∷ pos 1 ∷ pos 1 ∷ pos 1 ∷ pos 1 ∷ pos 1 ∷ pos 1 ∷ pos 1 ∷ pos 0 ∷ pos 4 ∷ pos 0 ∷ pos 4 ∷ []) (pos 9223372036854775807 ∷ pos 9223372036854775807 ∷ pos 9223372036854775805 ∷ negsuc 9223372036854775806 ∷ pos 8224347993125355203 ∷ negsuc 6660503686877895236 ∷ pos 9223372036854775807 ∷ pos 1 ∷ pos 9223372036854775805 ∷ pos 0 ∷ pos 4337033495069143285 ∷ negsuc 9223372036854775806 ∷ pos 1 ∷ pos 0 ∷ pos 1 ∷ pos 9223372036854775806 ∷ negsuc 7613442344826763428 ∷ pos 9223372036854775807 ∷ pos 1 ∷ pos 1 ∷ pos 1 ∷ pos 1 ∷ pos 1 ∷ pos 1 ∷ pos 1 ∷ pos 1 ∷ pos 1 ∷ pos 0 ∷ pos 1 ∷ pos 1 ∷ pos 1 ∷ pos 1 ∷ pos 1 ∷ pos 1 ∷ pos 1 ∷ pos 1 ∷ pos 5 ∷ negsuc 2 ∷ pos 2 ∷ negsuc 5 ∷ negsuc 0 ∷ pos 4 ∷ negsuc 3 ∷ pos 1 ∷ pos 6 ∷ negsuc 1 ∷ pos 3 ∷ [])
    ∷ []
unfolding script
list_35 = refl

list_36 : script
    (opens (carrying 1 (options 1 2 true (negsuc 0) false (false ∷ []) (true ∷ []))) 22 3
    ∷ call (left (pos 1 ∷ pos 2 ∷ negsuc 9223372036854775805 ∷ negsuc 9223372036854775806 ∷ pos 1 ∷ pos 1 ∷ []))
    ∷ call (left (pos 1 ∷ pos 2 ∷ pos 0 ∷ negsuc 0 ∷ pos 1 ∷ pos 1 ∷ []))
    ∷ call (turn (space 10))
    ∷ call (left (pos 2 ∷ pos 2 ∷ pos 0 ∷ pos 1 ∷ pos 9223372036854775807 ∷ negsuc 0 ∷ pos 1 ∷ pos 1 ∷ pos 1 ∷ pos 1 ∷ []))
    ∷ call (turn (space 10))
    ∷ call end
    ∷ call (turn (space 10))
    ∷ call (turn (space 10))
    ∷ call (turn (space 10))
    ∷ call (ports Ready Blocked Blocked)
    ∷ call (ports Blocked Blocked Ready)
    ∷ call (ports Ready Ready Ready)
    ∷ call (turn (space 10))
    ∷ call (turn (space 10))
    ∷ call (ports Blocked Ready Ready)
    ∷ state
    ∷ dump
    ∷ [])
    ≡ ok
    ∷ ok
    ∷ ok
    ∷ wants
    ∷ ok
    ∷ wants
    ∷ ok
    ∷ wrote 0 (pos 1 ∷ pos 2 ∷ pos 0 ∷ pos 0 ∷ pos 0 ∷ pos 0 ∷ [])
    ∷ wrote 2 (pos 1 ∷ pos 2 ∷ pos 0 ∷ pos 0 ∷ pos 0 ∷ pos 0 ∷ [])
    ∷ wrote 4 (pos 2 ∷ pos 2 ∷ pos 0 ∷ pos 0 ∷ pos 0 ∷ pos 0 ∷ pos 0 ∷ pos 0 ∷ pos 0 ∷ pos 0 ∷ [])
    ∷ said-ports 0 0 0 0
    ∷ said-ports 0 0 0 0
    ∷ said-ports 1 1 1 0
    ∷ idle
    ∷ idle
    ∷ said-ports 1 0 0 0
    ∷ looks (0 ∷ 0 ∷ 0 ∷ 22 ∷ 0 ∷ 0 ∷ 1 ∷ 0 ∷ 6 ∷ []) None None
    ∷ areas (pos 1 ∷ pos 2 ∷ negsuc 9223372036854775805 ∷ negsuc 9223372036854775806 ∷ pos 1 ∷ pos 1 ∷ pos 1 ∷ pos 2 ∷ pos 0 ∷ negsuc 0 ∷ pos 1 ∷ pos 1 ∷ pos 2 ∷ pos 2 ∷ pos 0 ∷ pos 1 ∷ pos 9223372036854775807 ∷ negsuc 0 ∷ pos 1 ∷ pos 1 ∷ pos 1 ∷ pos 1 ∷ []) (negsuc 5 ∷ negsuc 0 ∷ pos 4 ∷ [])
    ∷ []
unfolding script
list_36 = refl

list_37 : script
    (opens (carrying 4 (options 2 2 true (negsuc 0) true (false ∷ true ∷ []) (true ∷ true ∷ []))) 76 28
    ∷ call (left (pos 1 ∷ pos 3 ∷ pos 0 ∷ pos 2 ∷ pos 0 ∷ pos 1 ∷ pos 1 ∷ pos 0 ∷ []))
    ∷ call (right (pos 1 ∷ pos 7 ∷ pos 1 ∷ pos 2 ∷ negsuc 0 ∷ pos 941 ∷ pos 0 ∷ pos 377 ∷ pos 541 ∷ pos 1 ∷ pos 1 ∷ pos 1 ∷ pos 1 ∷ pos 0 ∷ pos 1 ∷ pos 1 ∷ []))
    ∷ call (left (pos 1 ∷ pos 3 ∷ pos 0 ∷ pos 2 ∷ pos 9223372036854775805 ∷ pos 1 ∷ pos 1 ∷ pos 1 ∷ []))
    ∷ call (left (pos 0 ∷ pos 3 ∷ []))
    ∷ call (left (pos 1 ∷ pos 3 ∷ pos 0 ∷ pos 0 ∷ pos 0 ∷ pos 1 ∷ pos 1 ∷ pos 0 ∷ []))
    ∷ call (right (pos 1 ∷ pos 7 ∷ pos 2 ∷ pos 0 ∷ pos 0 ∷ pos 988 ∷ pos 807 ∷ pos 43 ∷ pos 58 ∷ pos 1 ∷ pos 1 ∷ pos 1 ∷ pos 1 ∷ pos 1 ∷ pos 1 ∷ pos 1 ∷ []))
    ∷ call (left (pos 1 ∷ pos 3 ∷ pos 0 ∷ pos 0 ∷ negsuc 9223372036854775805 ∷ pos 1 ∷ pos 1 ∷ pos 1 ∷ []))
    ∷ call end
    ∷ call (left (pos 1 ∷ pos 3 ∷ pos 1 ∷ pos 2 ∷ negsuc 9223372036854775805 ∷ pos 1 ∷ pos 1 ∷ pos 1 ∷ []))
    ∷ call (left (pos 1 ∷ pos 3 ∷ pos 1 ∷ pos 0 ∷ pos 0 ∷ pos 1 ∷ pos 1 ∷ pos 1 ∷ []))
    ∷ call (turn (space 12))
    ∷ call (left (pos 1 ∷ pos 3 ∷ pos 2 ∷ pos 2 ∷ pos 9223372036854775805 ∷ pos 1 ∷ pos 1 ∷ pos 1 ∷ []))
    ∷ call (left (pos 1 ∷ pos 3 ∷ pos 2 ∷ pos 1 ∷ pos 0 ∷ pos 1 ∷ pos 1 ∷ pos 1 ∷ []))
    ∷ call (left (pos 1 ∷ pos 3 ∷ pos 2 ∷ pos 1 ∷ pos 9223372036854775805 ∷ pos 1 ∷ pos 1 ∷ pos 1 ∷ []))
    ∷ call (left (pos 0 ∷ pos 3 ∷ []))
    ∷ call (left (pos 1 ∷ pos 3 ∷ pos 2 ∷ pos 0 ∷ pos 1 ∷ pos 1 ∷ pos 1 ∷ pos 1 ∷ []))
    ∷ call (turn (space 12))
    ∷ call (turn (space 12))
    ∷ call (turn (space 12))
    ∷ call (turn (space 12))
    ∷ call (turn (space 12))
    ∷ call (turn (space 12))
    ∷ call (turn (space 12))
    ∷ call (turn (space 12))
    ∷ call (turn (space 12))
    ∷ call (turn (space 12))
    ∷ call (turn (space 12))
    ∷ call (turn (space 12))
    ∷ state
    ∷ dump
    ∷ [])
    ≡ ok
    ∷ ok
    ∷ ok
    ∷ ok
    ∷ ok
    ∷ ok
    ∷ ok
    ∷ ok
    ∷ ok
    ∷ ok
    ∷ ok
    ∷ wrote 0 (pos 1 ∷ pos 5 ∷ pos 0 ∷ pos 0 ∷ pos 0 ∷ pos 0 ∷ pos 0 ∷ pos 0 ∷ pos 0 ∷ pos 0 ∷ pos 0 ∷ pos 0 ∷ [])
    ∷ ok
    ∷ ok
    ∷ ok
    ∷ ok
    ∷ ok
    ∷ wrote 2 (pos 1 ∷ pos 5 ∷ pos 0 ∷ pos 0 ∷ pos 0 ∷ pos 0 ∷ pos 0 ∷ pos 0 ∷ pos 0 ∷ pos 0 ∷ pos 0 ∷ pos 0 ∷ [])
    ∷ wrote 4 (pos 0 ∷ pos 5 ∷ [])
    ∷ wrote 6 (pos 1 ∷ pos 5 ∷ pos 0 ∷ pos 0 ∷ pos 0 ∷ pos 0 ∷ pos 0 ∷ pos 0 ∷ pos 0 ∷ pos 0 ∷ pos 0 ∷ pos 0 ∷ [])
    ∷ wrote 8 (pos 1 ∷ pos 5 ∷ pos 0 ∷ pos 0 ∷ pos 0 ∷ pos 0 ∷ pos 0 ∷ pos 0 ∷ pos 0 ∷ pos 0 ∷ pos 0 ∷ pos 0 ∷ [])
    ∷ wrote 10 (pos 1 ∷ pos 5 ∷ pos 0 ∷ pos 941 ∷ pos 0 ∷ pos 377 ∷ pos 541 ∷ pos 1 ∷ pos 1 ∷ pos 0 ∷ pos 1 ∷ pos 1 ∷ [])
    ∷ wrote 12 (pos 1 ∷ pos 5 ∷ pos 0 ∷ pos 0 ∷ pos 0 ∷ pos 0 ∷ pos 0 ∷ pos 0 ∷ pos 0 ∷ pos 0 ∷ pos 0 ∷ pos 0 ∷ [])
    ∷ wrote 14 (pos 1 ∷ pos 5 ∷ pos 0 ∷ pos 0 ∷ pos 0 ∷ pos 0 ∷ pos 0 ∷ pos 0 ∷ pos 0 ∷ pos 0 ∷ pos 0 ∷ pos 0 ∷ [])
    ∷ wrote 16 (pos 1 ∷ pos 5 ∷ pos 0 ∷ pos 0 ∷ pos 0 ∷ pos 0 ∷ pos 0 ∷ pos 0 ∷ pos 0 ∷ pos 0 ∷ pos 0 ∷ pos 0 ∷ [])
    ∷ wrote 18 (pos 1 ∷ pos 5 ∷ pos 0 ∷ pos 0 ∷ pos 0 ∷ pos 0 ∷ pos 0 ∷ pos 0 ∷ pos 0 ∷ pos 0 ∷ pos 0 ∷ pos 0 ∷ [])
    ∷ wrote 20 (pos 0 ∷ pos 5 ∷ [])
    ∷ wrote 22 (pos 1 ∷ pos 5 ∷ pos 1 ∷ pos 988 ∷ pos 807 ∷ pos 43 ∷ pos 58 ∷ pos 1 ∷ pos 1 ∷ pos 1 ∷ pos 1 ∷ pos 1 ∷ [])
    ∷ idle
    ∷ looks (1 ∷ 1 ∷ 1 ∷ 76 ∷ 0 ∷ 0 ∷ 1 ∷ 0 ∷ 24 ∷ []) (Some (value (pos 2) ∷ value (pos 0) ∷ value (pos 1) ∷ [])) (Some (value (pos 1) ∷ value (pos 2) ∷ value (negsuc 0) ∷ []))
    ∷ areas (pos 1 ∷ pos 3 ∷ pos 0 ∷ pos 2 ∷ pos 9223372036854775805 ∷ pos 1 ∷ pos 1 ∷ pos 1 ∷ pos 0 ∷ pos 3 ∷ pos 1 ∷ pos 3 ∷ pos 0 ∷ pos 0 ∷ pos 0 ∷ pos 1 ∷ pos 1 ∷ pos 0 ∷ pos 1 ∷ pos 3 ∷ pos 0 ∷ pos 0 ∷ negsuc 9223372036854775805 ∷ pos 1 ∷ pos 1 ∷ pos 1 ∷ pos 1 ∷ pos 3 ∷ pos 1 ∷ pos 2 ∷ negsuc 9223372036854775805 ∷ pos 1 ∷ pos 1 ∷ pos 1 ∷ pos 1 ∷ pos 3 ∷ pos 1 ∷ pos 0 ∷ pos 0 ∷ pos 1 ∷ pos 1 ∷ pos 1 ∷ pos 1 ∷ pos 3 ∷ pos 2 ∷ pos 2 ∷ pos 9223372036854775805 ∷ pos 1 ∷ pos 1 ∷ pos 1 ∷ pos 1 ∷ pos 3 ∷ pos 2 ∷ pos 1 ∷ pos 0 ∷ pos 1 ∷ pos 1 ∷ pos 1 ∷ pos 1 ∷ pos 3 ∷ pos 2 ∷ pos 1 ∷ pos 9223372036854775805 ∷ pos 1 ∷ pos 1 ∷ pos 1 ∷ pos 0 ∷ pos 3 ∷ pos 1 ∷ pos 3 ∷ pos 2 ∷ pos 0 ∷ pos 1 ∷ pos 1 ∷ pos 1 ∷ pos 1 ∷ []) (pos 1 ∷ pos 2 ∷ negsuc 0 ∷ pos 941 ∷ pos 0 ∷ pos 377 ∷ pos 541 ∷ pos 2 ∷ pos 0 ∷ pos 0 ∷ pos 988 ∷ pos 807 ∷ pos 43 ∷ pos 58 ∷ pos 1 ∷ pos 1 ∷ pos 1 ∷ pos 1 ∷ pos 0 ∷ pos 1 ∷ pos 1 ∷ pos 1 ∷ pos 1 ∷ pos 1 ∷ pos 1 ∷ pos 1 ∷ pos 1 ∷ pos 1 ∷ [])
    ∷ []
unfolding script
list_37 = refl

list_38 : script
    (opens (carrying 4 (options 4 0 false (pos 0) true (false ∷ true ∷ false ∷ true ∷ []) (false ∷ false ∷ false ∷ true ∷ []))) 14 33
    ∷ call (left (pos 1 ∷ pos 5 ∷ pos 0 ∷ pos 0 ∷ pos 1 ∷ pos 0 ∷ pos 9223372036854775807 ∷ pos 1 ∷ pos 0 ∷ pos 1 ∷ pos 1 ∷ pos 1 ∷ []))
    ∷ call (turn (space 12))
    ∷ call (turn (space 12))
    ∷ call (turn (space 12))
    ∷ call (right (pos 1 ∷ pos 9 ∷ pos 1 ∷ pos 1 ∷ pos 1 ∷ pos 0 ∷ pos 9223372036854775806 ∷ pos 568 ∷ pos 899 ∷ pos 568 ∷ pos 169 ∷ pos 1 ∷ pos 1 ∷ pos 1 ∷ pos 1 ∷ pos 1 ∷ pos 1 ∷ pos 1 ∷ pos 1 ∷ pos 1 ∷ []))
    ∷ call end
    ∷ call (left (pos 0 ∷ pos 5 ∷ []))
    ∷ call (turn (space 12))
    ∷ call (turn (space 12))
    ∷ state
    ∷ dump
    ∷ [])
    ≡ ok
    ∷ ok
    ∷ wants
    ∷ wants
    ∷ wants
    ∷ ok
    ∷ ok
    ∷ ok
    ∷ wrote 0 (pos 1 ∷ pos 5 ∷ pos 0 ∷ pos 0 ∷ pos 0 ∷ pos 0 ∷ pos 0 ∷ pos 0 ∷ pos 0 ∷ pos 0 ∷ pos 0 ∷ pos 0 ∷ [])
    ∷ wrote 2 (pos 0 ∷ pos 5 ∷ [])
    ∷ looks (0 ∷ 1 ∷ 0 ∷ 14 ∷ 0 ∷ 0 ∷ 1 ∷ 0 ∷ 4 ∷ []) (Some (value (pos 0) ∷ null ∷ value (pos 1) ∷ value (pos 0) ∷ value (pos 9223372036854775807) ∷ [])) None
    ∷ areas (pos 1 ∷ pos 5 ∷ pos 0 ∷ pos 0 ∷ pos 1 ∷ pos 0 ∷ pos 9223372036854775807 ∷ pos 1 ∷ pos 0 ∷ pos 1 ∷ pos 1 ∷ pos 1 ∷ pos 0 ∷ pos 5 ∷ []) (pos 1 ∷ pos 1 ∷ pos 1 ∷ pos 0 ∷ pos 9223372036854775806 ∷ pos 568 ∷ pos 899 ∷ pos 568 ∷ pos 169 ∷ pos 1 ∷ pos 1 ∷ pos 1 ∷ pos 1 ∷ pos 1 ∷ pos 1 ∷ pos 1 ∷ pos 1 ∷ pos 1 ∷ pos 6 ∷ negsuc 1 ∷ pos 3 ∷ negsuc 4 ∷ pos 0 ∷ pos 5 ∷ negsuc 2 ∷ pos 2 ∷ negsuc 5 ∷ negsuc 0 ∷ pos 4 ∷ negsuc 3 ∷ pos 1 ∷ pos 6 ∷ negsuc 1 ∷ [])
    ∷ []
unfolding script
list_38 = refl

list_39 : script
    (opens (carrying 0 (options 1 0 false (pos 4611686018427387904) true (true ∷ []) (false ∷ []))) 22 20
    ∷ call (right (pos 4 ∷ pos 2 ∷ pos 0 ∷ negsuc 9223372036854775806 ∷ pos 1 ∷ pos 9223372036854775806 ∷ pos 1 ∷ pos 9223372036854775806 ∷ pos 0 ∷ pos 1 ∷ pos 0 ∷ pos 1 ∷ pos 1 ∷ pos 1 ∷ pos 1 ∷ pos 1 ∷ pos 1 ∷ pos 1 ∷ []))
    ∷ call (turn (space 6))
    ∷ call (right (pos 1 ∷ pos 2 ∷ pos 0 ∷ pos 9223372036854775805 ∷ pos 1 ∷ pos 1 ∷ []))
    ∷ call (left (pos 2 ∷ pos 2 ∷ pos 2 ∷ pos 0 ∷ pos 2 ∷ pos 0 ∷ pos 1 ∷ pos 0 ∷ pos 1 ∷ pos 1 ∷ []))
    ∷ call end
    ∷ call (left (pos 1 ∷ pos 2 ∷ pos 2 ∷ pos 0 ∷ pos 1 ∷ pos 1 ∷ []))
    ∷ call (turn (space 6))
    ∷ call (turn (space 6))
    ∷ call (left (pos 1 ∷ pos 2 ∷ pos 0 ∷ pos 1 ∷ pos 1 ∷ pos 1 ∷ []))
    ∷ call (turn (space 6))
    ∷ call (turn (space 6))
    ∷ call (turn (space 6))
    ∷ state
    ∷ dump
    ∷ [])
    ≡ ok
    ∷ ok
    ∷ idle
    ∷ ok
    ∷ ok
    ∷ ok
    ∷ ok
    ∷ wrote 0 (pos 2 ∷ pos 1 ∷ pos 0 ∷ pos 0 ∷ pos 0 ∷ pos 0 ∷ [])
    ∷ wrote 2 (pos 1 ∷ pos 1 ∷ pos 0 ∷ pos 0 ∷ [])
    ∷ ok
    ∷ wrote 4 (pos 1 ∷ pos 1 ∷ pos 0 ∷ pos 0 ∷ [])
    ∷ idle
    ∷ idle
    ∷ looks (3 ∷ 2 ∷ 3 ∷ 22 ∷ 0 ∷ 0 ∷ 1 ∷ 0 ∷ 6 ∷ []) (Some (value (pos 0) ∷ value (pos 1) ∷ [])) (Some (value (pos 1) ∷ value (pos 9223372036854775806) ∷ []))
    ∷ areas (pos 2 ∷ pos 2 ∷ pos 2 ∷ pos 0 ∷ pos 2 ∷ pos 0 ∷ pos 1 ∷ pos 0 ∷ pos 1 ∷ pos 1 ∷ pos 1 ∷ pos 2 ∷ pos 2 ∷ pos 0 ∷ pos 1 ∷ pos 1 ∷ pos 1 ∷ pos 2 ∷ pos 0 ∷ pos 1 ∷ pos 1 ∷ pos 1 ∷ []) (pos 0 ∷ negsuc 9223372036854775806 ∷ pos 1 ∷ pos 9223372036854775806 ∷ pos 1 ∷ pos 9223372036854775806 ∷ pos 0 ∷ pos 1 ∷ pos 0 ∷ pos 9223372036854775805 ∷ pos 0 ∷ pos 1 ∷ pos 1 ∷ pos 1 ∷ pos 1 ∷ pos 1 ∷ pos 1 ∷ pos 1 ∷ pos 1 ∷ pos 1 ∷ [])
    ∷ []
unfolding script
list_39 = refl

list_40 : script
    (opens (options 2 0 false (negsuc 0) true (false ∷ false ∷ []) (false ∷ false ∷ [])) 70 12
    ∷ call (left (pos 2 ∷ pos 3 ∷ pos 0 ∷ pos 1 ∷ pos 2 ∷ pos 0 ∷ pos 2 ∷ pos 6 ∷ pos 1 ∷ pos 1 ∷ pos 1 ∷ pos 1 ∷ pos 1 ∷ pos 1 ∷ []))
    ∷ call (right (pos 1 ∷ pos 3 ∷ pos 0 ∷ pos 0 ∷ pos 0 ∷ pos 1 ∷ pos 1 ∷ pos 1 ∷ []))
    ∷ call (turn (space 8))
    ∷ call (right (pos 1 ∷ pos 3 ∷ pos 0 ∷ pos 1 ∷ pos 5 ∷ pos 1 ∷ pos 1 ∷ pos 1 ∷ []))
    ∷ call (right (pos 0 ∷ pos 3 ∷ []))
    ∷ call end
    ∷ call (turn (space 8))
    ∷ call (turn (space 8))
    ∷ call (left (pos 3 ∷ pos 3 ∷ pos 0 ∷ pos 2 ∷ pos 7 ∷ pos 0 ∷ pos 2 ∷ pos 8 ∷ pos 0 ∷ pos 2 ∷ pos 10 ∷ pos 1 ∷ pos 1 ∷ pos 1 ∷ pos 1 ∷ pos 1 ∷ pos 1 ∷ pos 1 ∷ pos 1 ∷ pos 1 ∷ []))
    ∷ call (turn (space 8))
    ∷ call (left (pos 2 ∷ pos 3 ∷ pos 1 ∷ pos 0 ∷ pos 2 ∷ pos 1 ∷ pos 0 ∷ pos 3 ∷ pos 1 ∷ pos 1 ∷ pos 1 ∷ pos 1 ∷ pos 1 ∷ pos 1 ∷ []))
    ∷ call (left (pos 2 ∷ pos 3 ∷ pos 1 ∷ pos 0 ∷ pos 5 ∷ pos 1 ∷ pos 1 ∷ pos 8 ∷ pos 1 ∷ pos 1 ∷ pos 1 ∷ pos 1 ∷ pos 1 ∷ pos 1 ∷ []))
    ∷ call (left (pos 1 ∷ pos 3 ∷ pos 2 ∷ pos 2 ∷ pos 3 ∷ pos 1 ∷ pos 1 ∷ pos 1 ∷ []))
    ∷ call (turn (space 8))
    ∷ call (turn (space 8))
    ∷ call (turn (space 8))
    ∷ call (turn (space 8))
    ∷ call (turn (space 8))
    ∷ state
    ∷ dump
    ∷ [])
    ≡ ok
    ∷ ok
    ∷ ok
    ∷ wants
    ∷ ok
    ∷ ok
    ∷ ok
    ∷ wrote 0 (pos 2 ∷ pos 1 ∷ pos 0 ∷ pos 0 ∷ pos 0 ∷ pos 0 ∷ [])
    ∷ idle
    ∷ ok
    ∷ wrote 2 (pos 3 ∷ pos 1 ∷ pos 0 ∷ pos 0 ∷ pos 0 ∷ pos 0 ∷ pos 0 ∷ pos 0 ∷ [])
    ∷ ok
    ∷ ok
    ∷ ok
    ∷ wrote 4 (pos 2 ∷ pos 1 ∷ pos 0 ∷ pos 0 ∷ pos 0 ∷ pos 0 ∷ [])
    ∷ wrote 6 (pos 2 ∷ pos 1 ∷ pos 0 ∷ pos 0 ∷ pos 0 ∷ pos 0 ∷ [])
    ∷ wrote 8 (pos 1 ∷ pos 1 ∷ pos 0 ∷ pos 0 ∷ [])
    ∷ idle
    ∷ idle
    ∷ looks (2 ∷ 0 ∷ 2 ∷ 70 ∷ 0 ∷ 0 ∷ 1 ∷ 0 ∷ 10 ∷ []) (Some (value (pos 2) ∷ value (pos 2) ∷ value (pos 3) ∷ [])) (Some (value (pos 0) ∷ value (pos 1) ∷ value (pos 5) ∷ []))
    ∷ areas (pos 2 ∷ pos 3 ∷ pos 0 ∷ pos 1 ∷ pos 2 ∷ pos 0 ∷ pos 2 ∷ pos 6 ∷ pos 1 ∷ pos 1 ∷ pos 1 ∷ pos 1 ∷ pos 1 ∷ pos 1 ∷ pos 3 ∷ pos 3 ∷ pos 0 ∷ pos 2 ∷ pos 7 ∷ pos 0 ∷ pos 2 ∷ pos 8 ∷ pos 0 ∷ pos 2 ∷ pos 10 ∷ pos 1 ∷ pos 1 ∷ pos 1 ∷ pos 1 ∷ pos 1 ∷ pos 1 ∷ pos 1 ∷ pos 1 ∷ pos 1 ∷ pos 2 ∷ pos 3 ∷ pos 1 ∷ pos 0 ∷ pos 2 ∷ pos 1 ∷ pos 0 ∷ pos 3 ∷ pos 1 ∷ pos 1 ∷ pos 1 ∷ pos 1 ∷ pos 1 ∷ pos 1 ∷ pos 2 ∷ pos 3 ∷ pos 1 ∷ pos 0 ∷ pos 5 ∷ pos 1 ∷ pos 1 ∷ pos 8 ∷ pos 1 ∷ pos 1 ∷ pos 1 ∷ pos 1 ∷ pos 1 ∷ pos 1 ∷ pos 1 ∷ pos 3 ∷ pos 2 ∷ pos 2 ∷ pos 3 ∷ pos 1 ∷ pos 1 ∷ pos 1 ∷ []) (pos 0 ∷ pos 0 ∷ pos 0 ∷ pos 0 ∷ pos 1 ∷ pos 5 ∷ pos 1 ∷ pos 1 ∷ pos 1 ∷ pos 1 ∷ pos 1 ∷ pos 1 ∷ [])
    ∷ []
unfolding script
list_40 = refl

list_41 : script
    (opens (carrying 1 (options 4 0 true (pos 1) false (true ∷ true ∷ true ∷ true ∷ []) (false ∷ true ∷ false ∷ false ∷ []))) 0 48
    ∷ call (right (pos 3 ∷ pos 6 ∷ pos 1 ∷ pos 1 ∷ pos 0 ∷ pos 1 ∷ pos 5 ∷ pos 2 ∷ pos 1 ∷ pos 1 ∷ pos 0 ∷ pos 0 ∷ pos 3 ∷ pos 2 ∷ pos 1 ∷ pos 0 ∷ pos 0 ∷ pos 0 ∷ pos 0 ∷ pos 2 ∷ pos 1 ∷ pos 1 ∷ pos 1 ∷ pos 1 ∷ pos 1 ∷ pos 1 ∷ pos 1 ∷ pos 1 ∷ pos 1 ∷ pos 1 ∷ pos 1 ∷ pos 1 ∷ pos 1 ∷ pos 1 ∷ pos 0 ∷ pos 0 ∷ pos 0 ∷ pos 1 ∷ []))
    ∷ call (right (pos 1 ∷ pos 6 ∷ pos 1 ∷ pos 0 ∷ pos 0 ∷ pos 0 ∷ pos 4 ∷ pos 0 ∷ pos 1 ∷ pos 1 ∷ pos 0 ∷ pos 1 ∷ pos 1 ∷ pos 1 ∷ []))
    ∷ call end
    ∷ state
    ∷ dump
    ∷ [])
    ≡ ok
    ∷ ok
    ∷ ok
    ∷ ok
    ∷ looks (0 ∷ 4 ∷ 0 ∷ 0 ∷ 0 ∷ 0 ∷ 1 ∷ 0 ∷ 0 ∷ []) None None
    ∷ areas [] (pos 1 ∷ pos 1 ∷ pos 0 ∷ pos 1 ∷ pos 5 ∷ pos 2 ∷ pos 1 ∷ pos 1 ∷ pos 0 ∷ pos 0 ∷ pos 3 ∷ pos 2 ∷ pos 1 ∷ pos 0 ∷ pos 0 ∷ pos 0 ∷ pos 0 ∷ pos 2 ∷ pos 1 ∷ pos 0 ∷ pos 0 ∷ pos 0 ∷ pos 4 ∷ pos 0 ∷ pos 1 ∷ pos 1 ∷ pos 1 ∷ pos 1 ∷ pos 1 ∷ pos 1 ∷ pos 1 ∷ pos 1 ∷ pos 1 ∷ pos 1 ∷ pos 1 ∷ pos 1 ∷ pos 1 ∷ pos 1 ∷ pos 0 ∷ pos 0 ∷ pos 0 ∷ pos 1 ∷ pos 1 ∷ pos 1 ∷ pos 0 ∷ pos 1 ∷ pos 1 ∷ pos 1 ∷ [])
    ∷ []
unfolding script
list_41 = refl

list_42 : script
    (opens (carrying 1 (options 0 0 true (negsuc 0) false [] [])) 6 12
    ∷ call (left (pos 2 ∷ pos 1 ∷ pos 0 ∷ pos 1 ∷ pos 1 ∷ pos 1 ∷ []))
    ∷ call (turn (space 10))
    ∷ call (right (pos 2 ∷ pos 2 ∷ pos 0 ∷ pos 0 ∷ pos 1 ∷ pos 0 ∷ pos 1 ∷ pos 0 ∷ pos 1 ∷ pos 0 ∷ []))
    ∷ call (turn (space 10))
    ∷ call (turn (space 10))
    ∷ call (turn (space 10))
    ∷ call (right (pos 1 ∷ pos 2 ∷ pos 2 ∷ pos 0 ∷ pos 1 ∷ pos 0 ∷ []))
    ∷ call end
    ∷ call (turn (space 10))
    ∷ state
    ∷ dump
    ∷ [])
    ≡ ok
    ∷ ok
    ∷ wants
    ∷ ok
    ∷ wants
    ∷ wants
    ∷ wants
    ∷ ok
    ∷ ok
    ∷ wrote 0 (pos 2 ∷ pos 2 ∷ pos 0 ∷ pos 0 ∷ pos 1 ∷ pos 0 ∷ pos 1 ∷ pos 0 ∷ pos 1 ∷ pos 0 ∷ [])
    ∷ looks (0 ∷ 3 ∷ 0 ∷ 6 ∷ 0 ∷ 0 ∷ 1 ∷ 0 ∷ 2 ∷ []) None None
    ∷ areas (pos 2 ∷ pos 1 ∷ pos 0 ∷ pos 1 ∷ pos 1 ∷ pos 1 ∷ []) (pos 0 ∷ pos 0 ∷ pos 1 ∷ pos 0 ∷ pos 2 ∷ pos 0 ∷ pos 1 ∷ pos 0 ∷ pos 1 ∷ pos 0 ∷ pos 1 ∷ pos 0 ∷ [])
    ∷ []
unfolding script
list_42 = refl

list_43 : script
    (opens (distancing (carrying 0 (options 2 1 false (negsuc 0) true (false ∷ false ∷ []) (false ∷ false ∷ [])))) 22 84
    ∷ call (ports Blocked Blocked Ready)
    ∷ call (left (pos 2 ∷ pos 3 ∷ pos 0 ∷ pos 0 ∷ pos 3 ∷ pos 1 ∷ pos 0 ∷ pos 4 ∷ pos 1 ∷ pos 1 ∷ pos 1 ∷ pos 1 ∷ pos 1 ∷ pos 1 ∷ []))
    ∷ call (right (pos 3 ∷ pos 3 ∷ pos 0 ∷ pos 0 ∷ pos 0 ∷ pos 0 ∷ pos 0 ∷ pos 1 ∷ pos 0 ∷ pos 0 ∷ pos 4 ∷ pos 1 ∷ pos 1 ∷ pos 1 ∷ pos 1 ∷ pos 1 ∷ pos 1 ∷ pos 1 ∷ pos 1 ∷ pos 1 ∷ []))
    ∷ call (right (pos 1 ∷ pos 3 ∷ pos 0 ∷ pos 0 ∷ pos 4 ∷ pos 1 ∷ pos 1 ∷ pos 1 ∷ []))
    ∷ call (turn (space 10))
    ∷ call (left (pos 1 ∷ pos 3 ∷ pos 1 ∷ pos 0 ∷ pos 2 ∷ pos 1 ∷ pos 1 ∷ pos 1 ∷ []))
    ∷ call (turn (space 10))
    ∷ call (right (pos 2 ∷ pos 3 ∷ pos 0 ∷ pos 1 ∷ pos 2 ∷ pos 0 ∷ pos 1 ∷ pos 3 ∷ pos 1 ∷ pos 1 ∷ pos 1 ∷ pos 1 ∷ pos 1 ∷ pos 1 ∷ []))
    ∷ call (right (pos 3 ∷ pos 3 ∷ pos 0 ∷ pos 1 ∷ pos 4 ∷ pos 1 ∷ pos 0 ∷ pos 0 ∷ pos 1 ∷ pos 0 ∷ pos 0 ∷ pos 1 ∷ pos 1 ∷ pos 1 ∷ pos 1 ∷ pos 1 ∷ pos 1 ∷ pos 1 ∷ pos 1 ∷ pos 1 ∷ []))
    ∷ call (right (pos 3 ∷ pos 3 ∷ pos 1 ∷ pos 1 ∷ pos 0 ∷ pos 1 ∷ pos 1 ∷ pos 0 ∷ pos 1 ∷ pos 1 ∷ pos 0 ∷ pos 1 ∷ pos 1 ∷ pos 1 ∷ pos 1 ∷ pos 1 ∷ pos 1 ∷ pos 1 ∷ pos 1 ∷ pos 1 ∷ []))
    ∷ call (turn (space 10))
    ∷ call (turn (space 10))
    ∷ call (turn (space 10))
    ∷ call (turn (space 10))
    ∷ call (right (pos 1 ∷ pos 3 ∷ pos 1 ∷ pos 1 ∷ pos 3 ∷ pos 1 ∷ pos 1 ∷ pos 1 ∷ []))
    ∷ call (turn (space 10))
    ∷ call (right (pos 1 ∷ pos 3 ∷ pos 1 ∷ pos 1 ∷ pos 4 ∷ pos 1 ∷ pos 1 ∷ pos 1 ∷ []))
    ∷ call end
    ∷ call (turn (space 10))
    ∷ call (ports Ready Ready Ready)
    ∷ state
    ∷ dump
    ∷ [])
    ≡ ok
    ∷ said-ports 0 0 0 0
    ∷ ok
    ∷ ok
    ∷ ok
    ∷ wants
    ∷ ok
    ∷ wants
    ∷ ok
    ∷ ok
    ∷ ok
    ∷ wrote 0 (pos 2 ∷ pos 2 ∷ pos 2 ∷ pos 1 ∷ pos 0 ∷ pos 0 ∷ pos 1 ∷ pos 1 ∷ pos 0 ∷ pos 0 ∷ [])
    ∷ refused 8
    ∷ refused 3
    ∷ refused 3
    ∷ refused 3
    ∷ refused 3
    ∷ refused 3
    ∷ refused 3
    ∷ refused 3
    ∷ refused 3
    ∷ looks (9 ∷ 3 ∷ 9 ∷ 14 ∷ 8 ∷ 0 ∷ 0 ∷ 1 ∷ 2 ∷ []) (Some (value (pos 1) ∷ value (pos 0) ∷ value (pos 4) ∷ [])) (Some (value (pos 1) ∷ value (pos 0) ∷ value (pos 0) ∷ []))
    ∷ areas (pos 2 ∷ pos 3 ∷ pos 0 ∷ pos 0 ∷ pos 3 ∷ pos 1 ∷ pos 0 ∷ pos 4 ∷ pos 1 ∷ pos 1 ∷ pos 1 ∷ pos 1 ∷ pos 1 ∷ pos 1 ∷ pos 1 ∷ pos 3 ∷ pos 1 ∷ pos 0 ∷ pos 2 ∷ pos 1 ∷ pos 1 ∷ pos 1 ∷ []) (pos 0 ∷ pos 0 ∷ pos 0 ∷ pos 0 ∷ pos 0 ∷ pos 1 ∷ pos 0 ∷ pos 0 ∷ pos 4 ∷ pos 0 ∷ pos 0 ∷ pos 4 ∷ pos 0 ∷ pos 1 ∷ pos 2 ∷ pos 0 ∷ pos 1 ∷ pos 3 ∷ pos 0 ∷ pos 1 ∷ pos 4 ∷ pos 1 ∷ pos 0 ∷ pos 0 ∷ pos 1 ∷ pos 0 ∷ pos 0 ∷ pos 1 ∷ pos 1 ∷ pos 0 ∷ pos 1 ∷ pos 1 ∷ pos 0 ∷ pos 1 ∷ pos 1 ∷ pos 0 ∷ pos 5 ∷ negsuc 2 ∷ pos 2 ∷ negsuc 5 ∷ negsuc 0 ∷ pos 4 ∷ pos 1 ∷ pos 1 ∷ pos 1 ∷ pos 1 ∷ pos 1 ∷ pos 1 ∷ pos 1 ∷ pos 1 ∷ pos 1 ∷ pos 1 ∷ pos 1 ∷ pos 1 ∷ pos 1 ∷ pos 1 ∷ pos 1 ∷ pos 1 ∷ pos 1 ∷ pos 1 ∷ pos 1 ∷ pos 1 ∷ pos 1 ∷ pos 1 ∷ pos 1 ∷ pos 1 ∷ pos 1 ∷ pos 1 ∷ pos 1 ∷ pos 1 ∷ pos 1 ∷ pos 1 ∷ pos 1 ∷ pos 1 ∷ pos 1 ∷ pos 1 ∷ pos 1 ∷ pos 1 ∷ negsuc 5 ∷ negsuc 0 ∷ pos 4 ∷ negsuc 3 ∷ pos 1 ∷ pos 6 ∷ [])
    ∷ []
unfolding script
list_43 = refl

list_44 : script
    (opens (distancing (carrying 3 (options 0 2 true (negsuc 0) false [] []))) 12 22
    ∷ call (turn (space 22))
    ∷ call (turn (space 22))
    ∷ call (turn (space 22))
    ∷ call (right (pos 2 ∷ pos 4 ∷ pos 7 ∷ pos 0 ∷ pos 0 ∷ pos 0 ∷ pos 8 ∷ pos 0 ∷ pos 0 ∷ pos 0 ∷ pos 1 ∷ pos 0 ∷ pos 0 ∷ pos 0 ∷ pos 1 ∷ pos 0 ∷ pos 0 ∷ pos 0 ∷ []))
    ∷ call (turn (space 22))
    ∷ call (left (pos 1 ∷ pos 1 ∷ pos 9 ∷ pos 1 ∷ []))
    ∷ call (turn (space 22))
    ∷ call (ports Blocked Ready Blocked)
    ∷ call (ports Ready Ready Blocked)
    ∷ call (turn (space 22))
    ∷ call (ports Blocked Ready Blocked)
    ∷ call (left (pos 2 ∷ pos 1 ∷ pos 22 ∷ pos 33 ∷ pos 1 ∷ pos 1 ∷ []))
    ∷ call (left (pos 0 ∷ pos 1 ∷ []))
    ∷ call (turn (space 22))
    ∷ call end
    ∷ call (turn (space 22))
    ∷ call (turn (space 22))
    ∷ call (turn (space 22))
    ∷ call (ports PortDone PortDone Ready)
    ∷ state
    ∷ dump
    ∷ [])
    ≡ ok
    ∷ idle
    ∷ idle
    ∷ idle
    ∷ ok
    ∷ idle
    ∷ ok
    ∷ wants
    ∷ said-ports 0 0 0 0
    ∷ said-ports 0 0 1 0
    ∷ wants
    ∷ said-ports 0 0 0 0
    ∷ ok
    ∷ ok
    ∷ wants
    ∷ ok
    ∷ wrote 0 (pos 1 ∷ pos 5 ∷ pos 1 ∷ pos 0 ∷ pos 0 ∷ pos 0 ∷ pos 1 ∷ pos 1 ∷ pos 0 ∷ pos 0 ∷ pos 0 ∷ pos 1 ∷ [])
    ∷ wrote 2 (pos 2 ∷ pos 5 ∷ pos 1 ∷ pos 0 ∷ pos 0 ∷ pos 0 ∷ pos 14 ∷ pos 1 ∷ pos 0 ∷ pos 0 ∷ pos 0 ∷ pos 25 ∷ pos 1 ∷ pos 0 ∷ pos 0 ∷ pos 0 ∷ pos 1 ∷ pos 1 ∷ pos 0 ∷ pos 0 ∷ pos 0 ∷ pos 1 ∷ [])
    ∷ wrote 4 (pos 0 ∷ pos 5 ∷ [])
    ∷ said-ports 2 2 2 2
    ∷ looks (1 ∷ 1 ∷ 1 ∷ 12 ∷ 0 ∷ 2 ∷ 1 ∷ 0 ∷ 6 ∷ []) None None
    ∷ areas (pos 1 ∷ pos 1 ∷ pos 9 ∷ pos 1 ∷ pos 2 ∷ pos 1 ∷ pos 22 ∷ pos 33 ∷ pos 1 ∷ pos 1 ∷ pos 0 ∷ pos 1 ∷ []) (pos 7 ∷ pos 0 ∷ pos 0 ∷ pos 0 ∷ pos 8 ∷ pos 0 ∷ pos 0 ∷ pos 0 ∷ pos 1 ∷ pos 0 ∷ pos 0 ∷ pos 0 ∷ pos 1 ∷ pos 0 ∷ pos 0 ∷ pos 0 ∷ negsuc 3 ∷ pos 1 ∷ pos 6 ∷ negsuc 1 ∷ pos 3 ∷ negsuc 4 ∷ [])
    ∷ []
unfolding script
list_44 = refl

list_45 : script
    (opens (distancing (carrying 1 (options 0 2 true (pos 1) false [] []))) 0 0
    ∷ call (ports PortDone Ready Blocked)
    ∷ call (ports Ready Ready Ready)
    ∷ call (right (pos 1 ∷ pos 2 ∷ pos 0 ∷ pos 0 ∷ pos 1 ∷ pos 1 ∷ []))
    ∷ call (right (pos 3 ∷ pos 2 ∷ pos 0 ∷ pos 0 ∷ pos 0 ∷ pos 0 ∷ pos 9223372036854775805 ∷ pos 1 ∷ pos 1 ∷ pos 1 ∷ pos 1 ∷ pos 1 ∷ pos 1 ∷ pos 1 ∷ []))
    ∷ call (ports Blocked Blocked PortDone)
    ∷ call (ports Ready Ready Ready)
    ∷ call (ports PortDone PortDone Ready)
    ∷ call (ports Ready Ready Ready)
    ∷ call end
    ∷ call (turn (space 2))
    ∷ call (ports Ready Blocked Ready)
    ∷ state
    ∷ dump
    ∷ [])
    ≡ ok
    ∷ said-ports 2 2 2 2
    ∷ said-ports 2 2 2 2
    ∷ refused 4
    ∷ refused 4
    ∷ said-ports 2 2 2 2
    ∷ said-ports 2 2 2 2
    ∷ said-ports 2 2 2 2
    ∷ said-ports 2 2 2 2
    ∷ refused 4
    ∷ refused 4
    ∷ said-ports 2 2 2 2
    ∷ looks (0 ∷ 0 ∷ 0 ∷ 0 ∷ 0 ∷ 2 ∷ 0 ∷ 0 ∷ 0 ∷ []) None None
    ∷ areas [] []
    ∷ []
unfolding script
list_45 = refl

list_46 : script
    (opens (distancing (carrying 2 (options 3 0 false (pos 4) true (true ∷ true ∷ true ∷ []) (false ∷ true ∷ true ∷ [])))) 20 52
    ∷ call (right (pos 0 ∷ pos 6 ∷ []))
    ∷ call (ports Ready Blocked Blocked)
    ∷ call (ports Blocked PortDone Ready)
    ∷ call (right (pos 2 ∷ pos 6 ∷ pos 0 ∷ pos 0 ∷ pos 0 ∷ pos 3 ∷ pos 0 ∷ pos 0 ∷ pos 0 ∷ pos 1 ∷ pos 1 ∷ pos 4 ∷ pos 0 ∷ pos 0 ∷ pos 1 ∷ pos 1 ∷ pos 1 ∷ pos 1 ∷ pos 0 ∷ pos 0 ∷ pos 1 ∷ pos 1 ∷ pos 1 ∷ pos 1 ∷ pos 0 ∷ pos 0 ∷ []))
    ∷ call (left (pos 1 ∷ pos 4 ∷ pos 0 ∷ pos 1 ∷ pos 0 ∷ pos 1 ∷ pos 1 ∷ pos 1 ∷ pos 1 ∷ pos 1 ∷ []))
    ∷ call (turn (space 10))
    ∷ call (turn (space 10))
    ∷ call (left (pos 1 ∷ pos 4 ∷ pos 0 ∷ pos 1 ∷ pos 0 ∷ pos 8 ∷ pos 1 ∷ pos 1 ∷ pos 1 ∷ pos 1 ∷ []))
    ∷ call (right (pos 0 ∷ pos 6 ∷ []))
    ∷ call (turn (space 10))
    ∷ call (right (pos 1 ∷ pos 6 ∷ pos 1 ∷ pos 1 ∷ pos 0 ∷ pos 3 ∷ pos 0 ∷ pos 0 ∷ pos 1 ∷ pos 1 ∷ pos 1 ∷ pos 1 ∷ pos 0 ∷ pos 0 ∷ []))
    ∷ call (right (pos 1 ∷ pos 6 ∷ pos 0 ∷ pos 0 ∷ pos 0 ∷ pos 6 ∷ pos 0 ∷ pos 0 ∷ pos 1 ∷ pos 1 ∷ pos 1 ∷ pos 1 ∷ pos 0 ∷ pos 0 ∷ []))
    ∷ call (turn (space 10))
    ∷ state
    ∷ dump
    ∷ [])
    ≡ ok
    ∷ ok
    ∷ said-ports 0 0 0 0
    ∷ said-ports 1 0 0 0
    ∷ ok
    ∷ ok
    ∷ wants
    ∷ wants
    ∷ ok
    ∷ ok
    ∷ wants
    ∷ ok
    ∷ ok
    ∷ refused 9
    ∷ looks (0 ∷ 4 ∷ 0 ∷ 0 ∷ 20 ∷ 0 ∷ 0 ∷ 1 ∷ 0 ∷ []) None None
    ∷ areas (pos 1 ∷ pos 4 ∷ pos 0 ∷ pos 1 ∷ pos 0 ∷ pos 1 ∷ pos 1 ∷ pos 1 ∷ pos 1 ∷ pos 1 ∷ pos 1 ∷ pos 4 ∷ pos 0 ∷ pos 1 ∷ pos 0 ∷ pos 8 ∷ pos 1 ∷ pos 1 ∷ pos 1 ∷ pos 1 ∷ []) (pos 0 ∷ pos 0 ∷ pos 0 ∷ pos 3 ∷ pos 0 ∷ pos 0 ∷ pos 0 ∷ pos 1 ∷ pos 1 ∷ pos 4 ∷ pos 0 ∷ pos 0 ∷ pos 1 ∷ pos 1 ∷ pos 0 ∷ pos 3 ∷ pos 0 ∷ pos 0 ∷ pos 0 ∷ pos 0 ∷ pos 0 ∷ pos 6 ∷ pos 0 ∷ pos 0 ∷ pos 1 ∷ pos 1 ∷ pos 1 ∷ pos 1 ∷ pos 0 ∷ pos 0 ∷ pos 1 ∷ pos 1 ∷ pos 1 ∷ pos 1 ∷ pos 0 ∷ pos 0 ∷ pos 1 ∷ pos 1 ∷ pos 1 ∷ pos 1 ∷ pos 0 ∷ pos 0 ∷ pos 1 ∷ pos 1 ∷ pos 1 ∷ pos 1 ∷ pos 0 ∷ pos 0 ∷ pos 0 ∷ pos 5 ∷ negsuc 2 ∷ pos 2 ∷ [])
    ∷ []
unfolding script
list_46 = refl

list_47 : script
    (opens (distancing (carrying 9 (options 1 1 true (pos 9223372036854775806) true (true ∷ []) (true ∷ [])))) 46 5
    ∷ call (left (pos 8 ∷ pos 2 ∷ pos 1 ∷ negsuc 9223372036854775807 ∷ pos 1 ∷ negsuc 9223372036854775805 ∷ pos 1 ∷ negsuc 0 ∷ pos 0 ∷ negsuc 9223372036854775807 ∷ pos 0 ∷ negsuc 9223372036854775806 ∷ pos 0 ∷ negsuc 9223372036854775806 ∷ pos 0 ∷ negsuc 9223372036854775805 ∷ pos 0 ∷ pos 1 ∷ pos 1 ∷ pos 1 ∷ pos 1 ∷ pos 1 ∷ pos 1 ∷ pos 1 ∷ pos 1 ∷ pos 1 ∷ pos 1 ∷ pos 1 ∷ pos 1 ∷ pos 1 ∷ pos 1 ∷ pos 1 ∷ pos 1 ∷ pos 1 ∷ []))
    ∷ call (left (pos 2 ∷ pos 2 ∷ pos 0 ∷ pos 1 ∷ pos 1 ∷ pos 9223372036854775805 ∷ pos 1 ∷ pos 1 ∷ pos 1 ∷ pos 1 ∷ []))
    ∷ call (right (pos 1 ∷ pos 2 ∷ pos 1 ∷ negsuc 9223372036854775806 ∷ pos 1 ∷ pos 1 ∷ []))
    ∷ state
    ∷ call (turn (space 34))
    ∷ call (right (pos 2 ∷ pos 2 ∷ pos 1 ∷ negsuc 9223372036854775806 ∷ pos 1 ∷ negsuc 0 ∷ pos 1 ∷ pos 1 ∷ pos 1 ∷ pos 1 ∷ []))
    ∷ call (left (pos 2 ∷ pos 2 ∷ pos 1 ∷ pos 1 ∷ pos 1 ∷ pos 1 ∷ pos 1 ∷ pos 1 ∷ pos 1 ∷ pos 1 ∷ pos 0 ∷ []))
    ∷ call (turn (space 13))
    ∷ call (turn (space 3))
    ∷ call (right (pos 0 ∷ pos 2 ∷ []))
    ∷ call (right (pos 2 ∷ pos 2 ∷ pos 1 ∷ pos 1 ∷ pos 1 ∷ pos 1 ∷ pos 1 ∷ pos 1 ∷ pos 1 ∷ pos 1 ∷ []))
    ∷ call (right (pos 0 ∷ pos 2 ∷ []))
    ∷ call (left (pos 1 ∷ pos 2 ∷ pos 1 ∷ pos 1 ∷ pos 1 ∷ negsuc 0 ∷ []))
    ∷ call end
    ∷ call (ports Ready Blocked Blocked)
    ∷ call (right (pos 1 ∷ pos 2 ∷ pos 1 ∷ pos 9223372036854775805 ∷ pos 1 ∷ pos 1 ∷ []))
    ∷ call (turn (space 14))
    ∷ call (right (pos 2 ∷ pos 2 ∷ pos 0 ∷ negsuc 9223372036854775807 ∷ pos 0 ∷ pos 9223372036854775806 ∷ pos 1 ∷ pos 1 ∷ pos 1 ∷ pos 1 ∷ []))
    ∷ call (ports PortDone Ready Ready)
    ∷ call (turn (space 33))
    ∷ call (left (negsuc 9223372036854775807 ∷ pos 2 ∷ pos 1 ∷ pos 1 ∷ pos 1 ∷ pos 1 ∷ pos 1 ∷ pos 1 ∷ pos 1 ∷ pos 1 ∷ []))
    ∷ state
    ∷ dump
    ∷ [])
    ≡ refused 10
    ∷ no_join
    ∷ no_join
    ∷ no_join
    ∷ no_join
    ∷ no_join
    ∷ no_join
    ∷ no_join
    ∷ no_join
    ∷ no_join
    ∷ no_join
    ∷ no_join
    ∷ no_join
    ∷ no_join
    ∷ no_join
    ∷ no_join
    ∷ no_join
    ∷ no_join
    ∷ no_join
    ∷ no_join
    ∷ no_join
    ∷ no_join
    ∷ no_join
    ∷ no_join
    ∷ []
unfolding script
list_47 = refl

list_48 : script
    (opens (distancing (carrying 1 (options 3 1 true (pos 2) true (false ∷ false ∷ false ∷ []) (false ∷ false ∷ false ∷ [])))) 66 36
    ∷ call (turn (space 26))
    ∷ call (right (negsuc 9223372036854775807 ∷ pos 5 ∷ pos 1 ∷ pos 1 ∷ pos 1 ∷ pos 1 ∷ pos 1 ∷ pos 1 ∷ pos 1 ∷ pos 1 ∷ pos 1 ∷ pos 1 ∷ pos 1 ∷ pos 1 ∷ pos 1 ∷ pos 1 ∷ pos 1 ∷ pos 1 ∷ pos 1 ∷ pos 1 ∷ pos 1 ∷ pos 1 ∷ []))
    ∷ call (turn (space 11))
    ∷ call (left (pos 4 ∷ pos 4 ∷ pos 0 ∷ pos 1 ∷ pos 1 ∷ pos 0 ∷ pos 0 ∷ pos 0 ∷ pos 0 ∷ pos 1 ∷ pos 0 ∷ pos 0 ∷ pos 0 ∷ pos 5 ∷ pos 0 ∷ pos 0 ∷ pos 1 ∷ pos 1 ∷ pos 0 ∷ pos 1 ∷ pos 1 ∷ pos 0 ∷ pos 1 ∷ pos 0 ∷ pos 1 ∷ pos 1 ∷ pos 1 ∷ pos 0 ∷ pos 1 ∷ pos 1 ∷ pos 1 ∷ pos 1 ∷ pos 1 ∷ pos 1 ∷ []))
    ∷ state
    ∷ call (right [])
    ∷ call (left (pos 1 ∷ pos 4 ∷ pos 0 ∷ pos 0 ∷ pos 1 ∷ pos 2 ∷ pos 1 ∷ pos 1 ∷ pos 1 ∷ pos 1 ∷ []))
    ∷ call (left (pos 3 ∷ pos 4 ∷ pos 0 ∷ pos 0 ∷ pos 1 ∷ pos 2 ∷ pos 1 ∷ pos 0 ∷ pos 0 ∷ pos 0 ∷ pos 1 ∷ pos 0 ∷ pos 0 ∷ pos 3 ∷ pos 1 ∷ pos 1 ∷ pos 1 ∷ pos 1 ∷ pos 1 ∷ pos 0 ∷ pos 1 ∷ pos 1 ∷ pos 1 ∷ pos 0 ∷ pos 1 ∷ pos 1 ∷ []))
    ∷ call (turn (space 26))
    ∷ call (left (pos 4 ∷ pos 4 ∷ pos 1 ∷ pos 0 ∷ pos 0 ∷ pos 1 ∷ pos 1 ∷ pos 0 ∷ pos 0 ∷ pos 4 ∷ pos 1 ∷ pos 0 ∷ pos 1 ∷ pos 0 ∷ pos 1 ∷ pos 0 ∷ pos 1 ∷ pos 4 ∷ pos 1 ∷ pos 1 ∷ pos 1 ∷ pos 1 ∷ pos 1 ∷ pos 1 ∷ pos 1 ∷ pos 1 ∷ pos 1 ∷ pos 1 ∷ pos 1 ∷ pos 0 ∷ pos 1 ∷ pos 1 ∷ pos 1 ∷ pos 1 ∷ []))
    ∷ call (turn (space 8))
    ∷ call (turn (space 26))
    ∷ state
    ∷ call (left (pos 2 ∷ pos 4 ∷ pos 1 ∷ pos 0 ∷ pos 1 ∷ pos 5 ∷ pos 1 ∷ pos 0 ∷ pos 1 ∷ pos 5 ∷ pos 1 ∷ pos 1 ∷ pos 1 ∷ pos 1 ∷ pos 1 ∷ pos 1 ∷ pos 1 ∷ pos 1 ∷ []))
    ∷ call (ports Ready Blocked Blocked)
    ∷ call (turn (space 26))
    ∷ call (right (pos 1 ∷ pos 5 ∷ pos 0 ∷ pos 1 ∷ pos 1 ∷ pos 0 ∷ pos 778 ∷ pos 0 ∷ pos 1 ∷ pos 1 ∷ pos 1 ∷ pos 1 ∷ []))
    ∷ call (left (pos 4097 ∷ pos 4 ∷ []))
    ∷ call (right (pos 3 ∷ pos 5 ∷ pos 0 ∷ pos 0 ∷ pos 0 ∷ pos 2 ∷ pos 798 ∷ pos 0 ∷ pos 0 ∷ pos 1 ∷ pos 2 ∷ pos 11 ∷ pos 0 ∷ pos 1 ∷ pos 1 ∷ pos 0 ∷ pos 0 ∷ pos 1 ∷ pos 0 ∷ pos 1 ∷ pos 1 ∷ pos 1 ∷ pos 1 ∷ pos 1 ∷ pos 1 ∷ pos 1 ∷ pos 1 ∷ pos 1 ∷ pos 1 ∷ pos 1 ∷ pos 0 ∷ pos 0 ∷ []))
    ∷ call (right (pos 2 ∷ pos 5 ∷ pos 1 ∷ pos 1 ∷ pos 1 ∷ pos 1 ∷ pos 1 ∷ pos 1 ∷ pos 1 ∷ pos 1 ∷ pos 1 ∷ pos 1 ∷ pos 1 ∷ pos 1 ∷ pos 1 ∷ pos 1 ∷ pos 1 ∷ pos 1 ∷ pos 1 ∷ pos 1 ∷ pos 1 ∷ pos 1 ∷ pos 0 ∷ []))
    ∷ call (turn (space 26))
    ∷ call (ports PortDone Blocked Ready)
    ∷ call (left (pos 0 ∷ pos 4 ∷ []))
    ∷ call (turn (space 26))
    ∷ call (left (pos 1 ∷ pos 4 ∷ pos 1 ∷ pos 1 ∷ pos 0 ∷ pos 1 ∷ pos 1 ∷ pos 1 ∷ pos 1 ∷ pos 1 ∷ []))
    ∷ call (right (pos 1 ∷ pos 4 ∷ pos 1 ∷ pos 1 ∷ pos 1 ∷ pos 1 ∷ pos 1 ∷ pos 1 ∷ pos 1 ∷ pos 1 ∷ []))
    ∷ call (turn (space 26))
    ∷ call (turn (space 26))
    ∷ call end
    ∷ call (turn (space 26))
    ∷ call (right (pos 1 ∷ pos 5 ∷ pos 1 ∷ pos 1 ∷ pos 1 ∷ pos 1 ∷ pos 1 ∷ pos 1 ∷ pos 1 ∷ pos 1 ∷ pos 1 ∷ pos 2 ∷ []))
    ∷ call (turn (space 26))
    ∷ state
    ∷ dump
    ∷ [])
    ≡ ok
    ∷ idle
    ∷ refused 5
    ∷ idle
    ∷ ok
    ∷ looks (0 ∷ 0 ∷ 0 ∷ 0 ∷ 34 ∷ 0 ∷ 0 ∷ 0 ∷ 0 ∷ []) None None
    ∷ refused 5
    ∷ ok
    ∷ refused 6
    ∷ wants
    ∷ refused 6
    ∷ wants
    ∷ wants
    ∷ looks (0 ∷ 0 ∷ 0 ∷ 0 ∷ 44 ∷ 0 ∷ 0 ∷ 0 ∷ 0 ∷ []) None None
    ∷ ok
    ∷ said-ports 0 0 0 0
    ∷ wants
    ∷ ok
    ∷ refused 5
    ∷ refused 6
    ∷ refused 5
    ∷ wants
    ∷ said-ports 2 1 0 1
    ∷ refused 4
    ∷ wants
    ∷ refused 4
    ∷ refused 5
    ∷ wants
    ∷ wants
    ∷ ok
    ∷ wrote 0 (pos 4 ∷ pos 3 ∷ pos 0 ∷ pos 0 ∷ pos 0 ∷ pos 0 ∷ pos 0 ∷ pos 0 ∷ pos 0 ∷ pos 0 ∷ pos 0 ∷ pos 0 ∷ pos 0 ∷ pos 0 ∷ pos 0 ∷ pos 0 ∷ pos 0 ∷ pos 0 ∷ pos 0 ∷ pos 0 ∷ pos 0 ∷ pos 0 ∷ pos 0 ∷ pos 0 ∷ pos 0 ∷ pos 0 ∷ [])
    ∷ refused 4
    ∷ wrote 2 (pos 1 ∷ pos 3 ∷ pos 0 ∷ pos 0 ∷ pos 0 ∷ pos 0 ∷ pos 0 ∷ pos 0 ∷ [])
    ∷ looks (1 ∷ 0 ∷ 1 ∷ 44 ∷ 18 ∷ 1 ∷ 1 ∷ 0 ∷ 4 ∷ []) (Some (value (pos 0) ∷ value (pos 0) ∷ value (pos 1) ∷ value (pos 2) ∷ [])) (Some (null ∷ value (pos 1) ∷ value (pos 1) ∷ value (pos 0) ∷ []))
    ∷ areas (pos 4 ∷ pos 4 ∷ pos 0 ∷ pos 1 ∷ pos 1 ∷ pos 0 ∷ pos 0 ∷ pos 0 ∷ pos 0 ∷ pos 1 ∷ pos 0 ∷ pos 0 ∷ pos 0 ∷ pos 5 ∷ pos 0 ∷ pos 0 ∷ pos 1 ∷ pos 1 ∷ pos 0 ∷ pos 1 ∷ pos 1 ∷ pos 0 ∷ pos 1 ∷ pos 0 ∷ pos 1 ∷ pos 1 ∷ pos 1 ∷ pos 0 ∷ pos 1 ∷ pos 1 ∷ pos 1 ∷ pos 1 ∷ pos 1 ∷ pos 1 ∷ pos 1 ∷ pos 4 ∷ pos 0 ∷ pos 0 ∷ pos 1 ∷ pos 2 ∷ pos 1 ∷ pos 1 ∷ pos 1 ∷ pos 1 ∷ pos 2 ∷ pos 4 ∷ pos 1 ∷ pos 0 ∷ pos 1 ∷ pos 5 ∷ pos 1 ∷ pos 0 ∷ pos 1 ∷ pos 5 ∷ pos 1 ∷ pos 1 ∷ pos 1 ∷ pos 1 ∷ pos 1 ∷ pos 1 ∷ pos 1 ∷ pos 1 ∷ pos 0 ∷ negsuc 3 ∷ pos 3 ∷ negsuc 0 ∷ []) (pos 0 ∷ pos 1 ∷ pos 1 ∷ pos 0 ∷ pos 778 ∷ pos 6 ∷ negsuc 1 ∷ pos 3 ∷ negsuc 4 ∷ pos 0 ∷ pos 5 ∷ negsuc 2 ∷ pos 2 ∷ negsuc 5 ∷ negsuc 0 ∷ pos 0 ∷ pos 1 ∷ pos 1 ∷ pos 1 ∷ pos 1 ∷ pos 3 ∷ negsuc 4 ∷ pos 0 ∷ pos 5 ∷ negsuc 2 ∷ pos 2 ∷ negsuc 5 ∷ negsuc 0 ∷ pos 4 ∷ negsuc 3 ∷ pos 1 ∷ pos 6 ∷ negsuc 1 ∷ pos 3 ∷ negsuc 4 ∷ pos 0 ∷ [])
    ∷ []
unfolding script
list_48 = refl

list_49 : script
    (opens (distancing (carrying 5 (options 0 0 false (negsuc 0) true [] []))) 25 47
    ∷ call (left (pos 5 ∷ pos 1 ∷ pos 4 ∷ pos 5 ∷ pos 7 ∷ pos 8 ∷ pos 9 ∷ pos 1 ∷ pos 1 ∷ pos 1 ∷ pos 1 ∷ pos 1 ∷ []))
    ∷ call (left (pos 1 ∷ pos 1 ∷ pos 11 ∷ pos 1 ∷ []))
    ∷ call (left (pos 0 ∷ pos 1 ∷ []))
    ∷ call (turn (space 72))
    ∷ call (turn (space 72))
    ∷ call (left (pos 0 ∷ pos 0 ∷ []))
    ∷ call (ports Blocked Ready Ready)
    ∷ call (right (pos 1 ∷ pos 6 ∷ pos 0 ∷ pos 1 ∷ pos 1 ∷ pos 0 ∷ pos 0 ∷ pos 2 ∷ pos 1 ∷ pos 1 ∷ pos 1 ∷ pos 1 ∷ pos 0 ∷ pos 1 ∷ []))
    ∷ call (turn (space 72))
    ∷ call (turn (space 32))
    ∷ call end
    ∷ call (right (pos 1 ∷ pos 6 ∷ pos 7 ∷ pos 1 ∷ pos 1 ∷ pos 1 ∷ pos 0 ∷ pos 1 ∷ pos 1 ∷ pos 1 ∷ pos 1 ∷ pos 1 ∷ pos 0 ∷ pos 1 ∷ []))
    ∷ call (ports Ready Ready Ready)
    ∷ call (turn (space 72))
    ∷ state
    ∷ dump
    ∷ [])
    ≡ ok
    ∷ ok
    ∷ ok
    ∷ ok
    ∷ wants
    ∷ wants
    ∷ refused 5
    ∷ said-ports 1 0 0 0
    ∷ ok
    ∷ wants
    ∷ wants
    ∷ ok
    ∷ refused 4
    ∷ said-ports 1 1 1 0
    ∷ wrote 0 (pos 5 ∷ pos 7 ∷ pos 0 ∷ pos 1 ∷ pos 1 ∷ pos 0 ∷ pos 0 ∷ pos 2 ∷ pos 4 ∷ pos 0 ∷ pos 1 ∷ pos 1 ∷ pos 0 ∷ pos 0 ∷ pos 2 ∷ pos 5 ∷ pos 0 ∷ pos 1 ∷ pos 1 ∷ pos 0 ∷ pos 0 ∷ pos 2 ∷ pos 7 ∷ pos 0 ∷ pos 1 ∷ pos 1 ∷ pos 0 ∷ pos 0 ∷ pos 2 ∷ pos 8 ∷ pos 0 ∷ pos 1 ∷ pos 1 ∷ pos 0 ∷ pos 0 ∷ pos 2 ∷ pos 9 ∷ pos 1 ∷ pos 1 ∷ pos 1 ∷ pos 1 ∷ pos 0 ∷ pos 1 ∷ pos 1 ∷ pos 1 ∷ pos 1 ∷ pos 1 ∷ pos 1 ∷ pos 0 ∷ pos 1 ∷ pos 1 ∷ pos 1 ∷ pos 1 ∷ pos 1 ∷ pos 1 ∷ pos 0 ∷ pos 1 ∷ pos 1 ∷ pos 1 ∷ pos 1 ∷ pos 1 ∷ pos 1 ∷ pos 0 ∷ pos 1 ∷ pos 1 ∷ pos 1 ∷ pos 1 ∷ pos 1 ∷ pos 1 ∷ pos 0 ∷ pos 1 ∷ pos 1 ∷ [])
    ∷ looks (0 ∷ 1 ∷ 0 ∷ 12 ∷ 6 ∷ 0 ∷ 1 ∷ 0 ∷ 2 ∷ []) (Some (value (pos 9) ∷ [])) None
    ∷ areas (pos 5 ∷ pos 1 ∷ pos 4 ∷ pos 5 ∷ pos 7 ∷ pos 8 ∷ pos 9 ∷ pos 1 ∷ pos 1 ∷ pos 1 ∷ pos 1 ∷ pos 1 ∷ pos 1 ∷ pos 1 ∷ pos 11 ∷ pos 1 ∷ pos 0 ∷ pos 1 ∷ pos 0 ∷ negsuc 3 ∷ pos 3 ∷ negsuc 0 ∷ negsuc 4 ∷ pos 2 ∷ negsuc 1 ∷ []) (pos 0 ∷ pos 1 ∷ pos 1 ∷ pos 0 ∷ pos 0 ∷ pos 2 ∷ negsuc 1 ∷ pos 3 ∷ negsuc 4 ∷ pos 0 ∷ pos 5 ∷ negsuc 2 ∷ pos 2 ∷ negsuc 5 ∷ negsuc 0 ∷ pos 4 ∷ negsuc 3 ∷ pos 1 ∷ pos 1 ∷ pos 1 ∷ pos 1 ∷ pos 1 ∷ pos 0 ∷ pos 1 ∷ negsuc 2 ∷ pos 2 ∷ negsuc 5 ∷ negsuc 0 ∷ pos 4 ∷ negsuc 3 ∷ pos 1 ∷ pos 6 ∷ negsuc 1 ∷ pos 3 ∷ negsuc 4 ∷ pos 0 ∷ pos 5 ∷ negsuc 2 ∷ pos 2 ∷ negsuc 5 ∷ negsuc 0 ∷ pos 4 ∷ negsuc 3 ∷ pos 1 ∷ pos 6 ∷ negsuc 1 ∷ pos 3 ∷ [])
    ∷ []
unfolding script
list_49 = refl

list_50 : script
    (opens (distancing (carrying 6 (options 4 0 true (pos 0) false (true ∷ false ∷ false ∷ false ∷ []) (false ∷ true ∷ true ∷ false ∷ [])))) 16 2
    ∷ call (turn (space 9))
    ∷ call (turn (space 18))
    ∷ state
    ∷ call (turn (space 18))
    ∷ call (left (pos 1 ∷ pos 5 ∷ pos 1 ∷ pos 1 ∷ pos 1 ∷ pos 1 ∷ pos 0 ∷ pos 1 ∷ pos 1 ∷ pos 1 ∷ pos 1 ∷ pos 1 ∷ []))
    ∷ call (ports Ready Ready Ready)
    ∷ call (turn (space 18))
    ∷ state
    ∷ call (turn (space 18))
    ∷ call (turn (space 18))
    ∷ call (turn (space 18))
    ∷ call (turn (space 14))
    ∷ call (turn (space 18))
    ∷ call (right (pos 1 ∷ pos 5 ∷ pos 1 ∷ pos 1 ∷ pos 1 ∷ pos 1 ∷ pos 1 ∷ pos 1 ∷ pos 1 ∷ pos 1 ∷ pos 1 ∷ pos 1 ∷ []))
    ∷ call (right (pos 1 ∷ pos 11 ∷ pos 1 ∷ pos 1 ∷ pos 1 ∷ pos 1 ∷ pos 1 ∷ pos 1 ∷ pos 1 ∷ pos 1 ∷ pos 1 ∷ pos 1 ∷ pos 1 ∷ pos 1 ∷ pos 1 ∷ pos 1 ∷ pos 1 ∷ pos 1 ∷ pos 1 ∷ pos 1 ∷ pos 1 ∷ pos 1 ∷ pos 1 ∷ pos 0 ∷ []))
    ∷ call (right (pos 9223372036854775807 ∷ pos 11 ∷ []))
    ∷ state
    ∷ dump
    ∷ [])
    ≡ ok
    ∷ idle
    ∷ idle
    ∷ looks (0 ∷ 0 ∷ 0 ∷ 0 ∷ 0 ∷ 0 ∷ 0 ∷ 0 ∷ 0 ∷ []) None None
    ∷ idle
    ∷ ok
    ∷ said-ports 1 1 1 0
    ∷ wants
    ∷ looks (0 ∷ 0 ∷ 0 ∷ 0 ∷ 12 ∷ 0 ∷ 0 ∷ 0 ∷ 0 ∷ []) None None
    ∷ wants
    ∷ wants
    ∷ wants
    ∷ wants
    ∷ wants
    ∷ refused 5
    ∷ refused 5
    ∷ refused 5
    ∷ looks (0 ∷ 0 ∷ 0 ∷ 0 ∷ 12 ∷ 0 ∷ 0 ∷ 0 ∷ 0 ∷ []) None None
    ∷ areas (pos 1 ∷ pos 5 ∷ pos 1 ∷ pos 1 ∷ pos 1 ∷ pos 1 ∷ pos 0 ∷ pos 1 ∷ pos 1 ∷ pos 1 ∷ pos 1 ∷ pos 1 ∷ pos 2 ∷ negsuc 1 ∷ pos 5 ∷ pos 1 ∷ []) (negsuc 5 ∷ negsuc 0 ∷ [])
    ∷ []
unfolding script
list_50 = refl

list_51 : script
    (opens (distancing (carrying 8 (options 1 0 false (negsuc 0) true (true ∷ []) (true ∷ [])))) 14 0
    ∷ call (left (pos 3 ∷ pos 2 ∷ pos 1 ∷ pos 0 ∷ pos 1 ∷ negsuc 9223372036854775806 ∷ pos 0 ∷ negsuc 9223372036854775807 ∷ pos 1 ∷ pos 0 ∷ pos 1 ∷ pos 1 ∷ pos 1 ∷ pos 1 ∷ []))
    ∷ call (turn (space 62))
    ∷ call (ports PortDone Ready Ready)
    ∷ call (turn (space 62))
    ∷ call (ports Ready PortDone Ready)
    ∷ call end
    ∷ call (turn (space 62))
    ∷ call (turn (space 62))
    ∷ call (ports PortDone Blocked Ready)
    ∷ call (ports PortDone PortDone Blocked)
    ∷ state
    ∷ dump
    ∷ [])
    ≡ ok
    ∷ ok
    ∷ wants
    ∷ said-ports 2 1 1 1
    ∷ wants
    ∷ said-ports 2 1 1 1
    ∷ ok
    ∷ wrote 0 (pos 3 ∷ pos 10 ∷ pos 0 ∷ pos 0 ∷ pos 0 ∷ pos 0 ∷ pos 0 ∷ pos 0 ∷ pos 0 ∷ pos 0 ∷ pos 0 ∷ pos 0 ∷ pos 0 ∷ pos 0 ∷ pos 0 ∷ pos 0 ∷ pos 0 ∷ pos 0 ∷ pos 0 ∷ pos 0 ∷ pos 0 ∷ pos 0 ∷ pos 0 ∷ pos 0 ∷ pos 0 ∷ pos 0 ∷ pos 0 ∷ pos 0 ∷ pos 0 ∷ pos 0 ∷ pos 0 ∷ pos 0 ∷ pos 0 ∷ pos 0 ∷ pos 0 ∷ pos 0 ∷ pos 0 ∷ pos 0 ∷ pos 0 ∷ pos 0 ∷ pos 0 ∷ pos 0 ∷ pos 0 ∷ pos 0 ∷ pos 0 ∷ pos 0 ∷ pos 0 ∷ pos 0 ∷ pos 0 ∷ pos 0 ∷ pos 0 ∷ pos 0 ∷ pos 0 ∷ pos 0 ∷ pos 0 ∷ pos 0 ∷ pos 0 ∷ pos 0 ∷ pos 0 ∷ pos 0 ∷ pos 0 ∷ pos 0 ∷ [])
    ∷ idle
    ∷ said-ports 2 2 2 2
    ∷ said-ports 2 2 2 2
    ∷ looks (0 ∷ 0 ∷ 0 ∷ 14 ∷ 0 ∷ 2 ∷ 1 ∷ 0 ∷ 2 ∷ []) (Some (value (pos 0) ∷ value (negsuc 9223372036854775807) ∷ [])) None
    ∷ areas (pos 3 ∷ pos 2 ∷ pos 1 ∷ pos 0 ∷ pos 1 ∷ negsuc 9223372036854775806 ∷ pos 0 ∷ negsuc 9223372036854775807 ∷ pos 1 ∷ pos 0 ∷ pos 1 ∷ pos 1 ∷ pos 1 ∷ pos 1 ∷ []) []
    ∷ []
unfolding script
list_51 = refl

list_52 : script
    (opens (distancing (carrying 4 (options 0 2 true (negsuc 0) false [] []))) 10 80
    ∷ call (left (pos 4 ∷ pos 1 ∷ pos 2 ∷ pos 0 ∷ pos 2 ∷ pos 1 ∷ pos 1 ∷ pos 1 ∷ pos 1 ∷ pos 1 ∷ []))
    ∷ call (ports PortDone Ready Blocked)
    ∷ call (turn (space 50))
    ∷ call (turn (space 50))
    ∷ call (turn (space 50))
    ∷ call (right (pos 3 ∷ pos 5 ∷ pos 1 ∷ pos 2 ∷ pos 1 ∷ pos 0 ∷ pos 0 ∷ pos 0 ∷ pos 2 ∷ pos 1 ∷ pos 2 ∷ pos 2 ∷ pos 0 ∷ pos 2 ∷ pos 0 ∷ pos 1 ∷ pos 0 ∷ pos 1 ∷ pos 1 ∷ pos 1 ∷ pos 1 ∷ pos 1 ∷ pos 1 ∷ pos 1 ∷ pos 1 ∷ pos 1 ∷ pos 1 ∷ pos 0 ∷ pos 1 ∷ pos 1 ∷ pos 1 ∷ pos 1 ∷ []))
    ∷ call (turn (space 50))
    ∷ call (turn (space 50))
    ∷ call (right (pos 3 ∷ pos 5 ∷ pos 1 ∷ pos 1 ∷ pos 2 ∷ pos 1 ∷ pos 0 ∷ pos 1 ∷ pos 2 ∷ pos 0 ∷ pos 2 ∷ pos 1 ∷ pos 0 ∷ pos 2 ∷ pos 2 ∷ pos 2 ∷ pos 0 ∷ pos 1 ∷ pos 1 ∷ pos 1 ∷ pos 1 ∷ pos 0 ∷ pos 1 ∷ pos 1 ∷ pos 0 ∷ pos 1 ∷ pos 1 ∷ pos 0 ∷ pos 1 ∷ pos 1 ∷ pos 1 ∷ pos 1 ∷ []))
    ∷ call (turn (space 50))
    ∷ call (turn (space 50))
    ∷ call (turn (space 50))
    ∷ call (turn (space 50))
    ∷ call (turn (space 50))
    ∷ call (right (pos 2 ∷ pos 5 ∷ pos 1 ∷ pos 1 ∷ pos 1 ∷ pos 0 ∷ pos 1 ∷ pos 0 ∷ pos 0 ∷ pos 1 ∷ pos 0 ∷ pos 2 ∷ pos 1 ∷ pos 1 ∷ pos 1 ∷ pos 1 ∷ pos 1 ∷ pos 0 ∷ pos 0 ∷ pos 1 ∷ pos 1 ∷ pos 1 ∷ []))
    ∷ call (turn (space 50))
    ∷ call end
    ∷ call (turn (space 50))
    ∷ call (ports PortDone Ready PortDone)
    ∷ state
    ∷ dump
    ∷ [])
    ≡ ok
    ∷ ok
    ∷ said-ports 2 0 1 1
    ∷ wants
    ∷ wants
    ∷ wants
    ∷ ok
    ∷ wants
    ∷ wants
    ∷ ok
    ∷ wants
    ∷ wants
    ∷ wants
    ∷ wants
    ∷ wants
    ∷ ok
    ∷ wants
    ∷ ok
    ∷ wrote 0 (pos 4 ∷ pos 6 ∷ pos 0 ∷ pos 0 ∷ pos 0 ∷ pos 0 ∷ pos 0 ∷ pos 0 ∷ pos 0 ∷ pos 0 ∷ pos 0 ∷ pos 0 ∷ pos 0 ∷ pos 0 ∷ pos 0 ∷ pos 0 ∷ pos 0 ∷ pos 0 ∷ pos 0 ∷ pos 0 ∷ pos 0 ∷ pos 0 ∷ pos 0 ∷ pos 0 ∷ pos 0 ∷ pos 0 ∷ pos 0 ∷ pos 0 ∷ pos 0 ∷ pos 0 ∷ pos 0 ∷ pos 0 ∷ pos 0 ∷ pos 0 ∷ pos 0 ∷ pos 0 ∷ pos 0 ∷ pos 0 ∷ pos 0 ∷ pos 0 ∷ pos 0 ∷ pos 0 ∷ pos 0 ∷ pos 0 ∷ pos 0 ∷ pos 0 ∷ pos 0 ∷ pos 0 ∷ pos 0 ∷ pos 0 ∷ [])
    ∷ said-ports 2 2 2 2
    ∷ looks (7 ∷ 1 ∷ 7 ∷ 10 ∷ 0 ∷ 2 ∷ 1 ∷ 0 ∷ 2 ∷ []) None None
    ∷ areas (pos 4 ∷ pos 1 ∷ pos 2 ∷ pos 0 ∷ pos 2 ∷ pos 1 ∷ pos 1 ∷ pos 1 ∷ pos 1 ∷ pos 1 ∷ []) (pos 1 ∷ pos 2 ∷ pos 1 ∷ pos 0 ∷ pos 0 ∷ pos 0 ∷ pos 2 ∷ pos 1 ∷ pos 2 ∷ pos 2 ∷ pos 0 ∷ pos 2 ∷ pos 0 ∷ pos 1 ∷ pos 0 ∷ pos 1 ∷ pos 1 ∷ pos 2 ∷ pos 1 ∷ pos 0 ∷ pos 1 ∷ pos 2 ∷ pos 0 ∷ pos 2 ∷ pos 1 ∷ pos 0 ∷ pos 2 ∷ pos 2 ∷ pos 2 ∷ pos 0 ∷ pos 1 ∷ pos 1 ∷ pos 1 ∷ pos 0 ∷ pos 1 ∷ pos 0 ∷ pos 0 ∷ pos 1 ∷ pos 0 ∷ pos 2 ∷ pos 1 ∷ pos 1 ∷ pos 1 ∷ pos 1 ∷ pos 1 ∷ pos 1 ∷ pos 1 ∷ pos 1 ∷ pos 1 ∷ pos 1 ∷ pos 0 ∷ pos 1 ∷ pos 1 ∷ pos 1 ∷ pos 1 ∷ pos 1 ∷ pos 1 ∷ pos 1 ∷ pos 1 ∷ pos 0 ∷ pos 1 ∷ pos 1 ∷ pos 0 ∷ pos 1 ∷ pos 1 ∷ pos 0 ∷ pos 1 ∷ pos 1 ∷ pos 1 ∷ pos 1 ∷ pos 1 ∷ pos 1 ∷ pos 1 ∷ pos 1 ∷ pos 1 ∷ pos 0 ∷ pos 0 ∷ pos 1 ∷ pos 1 ∷ pos 1 ∷ [])
    ∷ []
unfolding script
list_52 = refl

list_53 : script
    (opens (distancing (carrying 0 (options 3 2 true (negsuc 0) false (true ∷ true ∷ false ∷ []) (true ∷ true ∷ false ∷ [])))) 20 47
    ∷ call (left (pos 2 ∷ pos 4 ∷ pos 1 ∷ pos 1 ∷ pos 0 ∷ negsuc 9223372036854775806 ∷ pos 1 ∷ pos 1 ∷ pos 0 ∷ negsuc 0 ∷ pos 1 ∷ pos 1 ∷ pos 1 ∷ pos 1 ∷ pos 1 ∷ pos 1 ∷ pos 1 ∷ pos 1 ∷ []))
    ∷ call (right (pos 1 ∷ pos 4 ∷ pos 1 ∷ pos 0 ∷ pos 0 ∷ pos 9223372036854775805 ∷ pos 1 ∷ pos 1 ∷ pos 1 ∷ pos 1 ∷ []))
    ∷ call (turn (space 10))
    ∷ call (left (pos 1 ∷ pos 4 ∷ pos 0 ∷ pos 1 ∷ pos 1 ∷ pos 9223372036854775807 ∷ pos 1 ∷ pos 1 ∷ pos 1 ∷ pos 1 ∷ []))
    ∷ call (left (pos 1 ∷ pos 4 ∷ pos 0 ∷ pos 0 ∷ pos 0 ∷ pos 9223372036854775807 ∷ pos 1 ∷ pos 1 ∷ pos 1 ∷ pos 1 ∷ []))
    ∷ call (right (pos 4 ∷ pos 4 ∷ pos 1 ∷ pos 0 ∷ pos 0 ∷ pos 9223372036854775806 ∷ pos 1 ∷ pos 0 ∷ pos 0 ∷ pos 9223372036854775807 ∷ pos 0 ∷ pos 1 ∷ pos 0 ∷ negsuc 9223372036854775807 ∷ pos 0 ∷ pos 1 ∷ pos 1 ∷ negsuc 9223372036854775806 ∷ pos 1 ∷ pos 1 ∷ pos 1 ∷ pos 1 ∷ pos 1 ∷ pos 1 ∷ pos 1 ∷ pos 1 ∷ pos 1 ∷ pos 1 ∷ pos 1 ∷ pos 1 ∷ pos 1 ∷ pos 1 ∷ pos 1 ∷ pos 1 ∷ []))
    ∷ call (ports PortDone Blocked Ready)
    ∷ call (ports PortDone Blocked Blocked)
    ∷ call end
    ∷ call (turn (space 10))
    ∷ call (turn (space 10))
    ∷ call (turn (space 10))
    ∷ call (turn (space 10))
    ∷ call (ports PortDone Blocked Blocked)
    ∷ state
    ∷ dump
    ∷ [])
    ≡ ok
    ∷ ok
    ∷ ok
    ∷ wrote 0 (pos 2 ∷ pos 2 ∷ pos 0 ∷ pos 0 ∷ pos 0 ∷ pos 0 ∷ pos 0 ∷ pos 0 ∷ pos 0 ∷ pos 0 ∷ [])
    ∷ ok
    ∷ ok
    ∷ ok
    ∷ said-ports 2 1 0 1
    ∷ said-ports 2 0 0 1
    ∷ ok
    ∷ wrote 2 (pos 1 ∷ pos 2 ∷ pos 4 ∷ pos 0 ∷ pos 1 ∷ pos 0 ∷ [])
    ∷ wrote 4 (pos 1 ∷ pos 2 ∷ pos 0 ∷ pos 0 ∷ pos 0 ∷ pos 0 ∷ [])
    ∷ idle
    ∷ idle
    ∷ said-ports 2 2 2 2
    ∷ looks (5 ∷ 0 ∷ 5 ∷ 20 ∷ 0 ∷ 2 ∷ 1 ∷ 0 ∷ 6 ∷ []) None None
    ∷ areas (pos 1 ∷ pos 4 ∷ pos 0 ∷ pos 1 ∷ pos 1 ∷ pos 9223372036854775807 ∷ pos 1 ∷ pos 1 ∷ pos 1 ∷ pos 1 ∷ pos 1 ∷ pos 4 ∷ pos 0 ∷ pos 0 ∷ pos 0 ∷ pos 9223372036854775807 ∷ pos 1 ∷ pos 1 ∷ pos 1 ∷ pos 1 ∷ []) (pos 1 ∷ pos 0 ∷ pos 0 ∷ pos 9223372036854775805 ∷ pos 1 ∷ pos 0 ∷ pos 0 ∷ pos 9223372036854775806 ∷ pos 1 ∷ pos 0 ∷ pos 0 ∷ pos 9223372036854775807 ∷ pos 0 ∷ pos 1 ∷ pos 0 ∷ negsuc 9223372036854775807 ∷ pos 0 ∷ pos 1 ∷ pos 1 ∷ negsuc 9223372036854775806 ∷ pos 1 ∷ pos 1 ∷ pos 1 ∷ pos 1 ∷ pos 1 ∷ pos 1 ∷ pos 1 ∷ pos 1 ∷ pos 1 ∷ pos 1 ∷ pos 1 ∷ pos 1 ∷ pos 1 ∷ pos 1 ∷ pos 1 ∷ pos 1 ∷ pos 1 ∷ pos 1 ∷ pos 1 ∷ pos 1 ∷ negsuc 0 ∷ pos 4 ∷ negsuc 3 ∷ pos 1 ∷ pos 6 ∷ negsuc 1 ∷ pos 3 ∷ [])
    ∷ []
unfolding script
list_53 = refl

list_54 : script
    (opens (distancing (carrying 7 (options 1 1 false (negsuc 0) false (false ∷ []) (false ∷ [])))) 0 15
    ∷ call (ports PortDone Ready Blocked)
    ∷ call (ports PortDone Blocked Blocked)
    ∷ call (ports PortDone Ready Ready)
    ∷ call (ports PortDone Blocked Blocked)
    ∷ state
    ∷ dump
    ∷ [])
    ≡ ok
    ∷ said-ports 2 2 2 2
    ∷ said-ports 2 2 2 2
    ∷ said-ports 2 2 2 2
    ∷ said-ports 2 2 2 2
    ∷ looks (0 ∷ 0 ∷ 0 ∷ 0 ∷ 0 ∷ 2 ∷ 0 ∷ 0 ∷ 0 ∷ []) None None
    ∷ areas [] (negsuc 5 ∷ negsuc 0 ∷ pos 4 ∷ negsuc 3 ∷ pos 1 ∷ pos 6 ∷ negsuc 1 ∷ pos 3 ∷ negsuc 4 ∷ pos 0 ∷ pos 5 ∷ negsuc 2 ∷ pos 2 ∷ negsuc 5 ∷ negsuc 0 ∷ [])
    ∷ []
unfolding script
list_54 = refl

list_55 : script
    (opens (distancing (carrying 6 (options 1 1 true (pos 9223372036854775807) true (false ∷ []) (true ∷ [])))) 36 64
    ∷ call (right (pos 1 ∷ pos 8 ∷ pos 2 ∷ pos 1 ∷ pos 2 ∷ pos 0 ∷ pos 1 ∷ pos 1 ∷ pos 0 ∷ pos 0 ∷ pos 1 ∷ pos 1 ∷ pos 1 ∷ pos 1 ∷ pos 1 ∷ pos 1 ∷ pos 0 ∷ pos 0 ∷ []))
    ∷ call (left (pos 1 ∷ pos 2 ∷ pos 1 ∷ pos 4 ∷ pos 1 ∷ pos 1 ∷ []))
    ∷ call (turn (space 18))
    ∷ call (right (pos 1 ∷ pos 8 ∷ pos 0 ∷ pos 3 ∷ pos 1 ∷ pos 0 ∷ pos 0 ∷ pos 0 ∷ pos 0 ∷ pos 1 ∷ pos 0 ∷ pos 1 ∷ pos 1 ∷ pos 0 ∷ pos 0 ∷ pos 1 ∷ pos 0 ∷ pos 1 ∷ []))
    ∷ call (right (pos 1 ∷ pos 8 ∷ pos 0 ∷ pos 0 ∷ pos 0 ∷ pos 0 ∷ pos 2 ∷ pos 0 ∷ pos 0 ∷ pos 0 ∷ pos 0 ∷ pos 1 ∷ pos 1 ∷ pos 0 ∷ pos 1 ∷ pos 0 ∷ pos 0 ∷ pos 0 ∷ []))
    ∷ call (right (pos 1 ∷ pos 8 ∷ pos 1 ∷ pos 3 ∷ pos 1 ∷ pos 0 ∷ pos 1 ∷ pos 1 ∷ pos 0 ∷ pos 0 ∷ pos 1 ∷ pos 1 ∷ pos 1 ∷ pos 1 ∷ pos 1 ∷ pos 1 ∷ pos 0 ∷ pos 0 ∷ []))
    ∷ call (left (pos 1 ∷ pos 2 ∷ pos 1 ∷ pos 4 ∷ pos 1 ∷ pos 1 ∷ []))
    ∷ call (turn (space 18))
    ∷ state
    ∷ dump
    ∷ [])
    ≡ ok
    ∷ ok
    ∷ ok
    ∷ wrote 0 (pos 1 ∷ pos 8 ∷ pos 0 ∷ pos 0 ∷ pos 0 ∷ pos 0 ∷ pos 0 ∷ pos 0 ∷ pos 0 ∷ pos 0 ∷ pos 0 ∷ pos 0 ∷ pos 0 ∷ pos 0 ∷ pos 0 ∷ pos 0 ∷ pos 0 ∷ pos 0 ∷ [])
    ∷ ok
    ∷ ok
    ∷ ok
    ∷ ok
    ∷ refused 9
    ∷ looks (0 ∷ 4 ∷ 0 ∷ 6 ∷ 6 ∷ 0 ∷ 0 ∷ 1 ∷ 2 ∷ []) (Some (value (pos 1) ∷ value (pos 4) ∷ [])) None
    ∷ areas (pos 1 ∷ pos 2 ∷ pos 1 ∷ pos 4 ∷ pos 1 ∷ pos 1 ∷ pos 1 ∷ pos 2 ∷ pos 1 ∷ pos 4 ∷ pos 1 ∷ pos 1 ∷ pos 2 ∷ negsuc 1 ∷ pos 5 ∷ pos 1 ∷ negsuc 2 ∷ pos 4 ∷ pos 0 ∷ negsuc 3 ∷ pos 3 ∷ negsuc 0 ∷ negsuc 4 ∷ pos 2 ∷ negsuc 1 ∷ pos 5 ∷ pos 1 ∷ negsuc 2 ∷ pos 4 ∷ pos 0 ∷ negsuc 3 ∷ pos 3 ∷ negsuc 0 ∷ negsuc 4 ∷ pos 2 ∷ negsuc 1 ∷ []) (pos 2 ∷ pos 1 ∷ pos 2 ∷ pos 0 ∷ pos 1 ∷ pos 1 ∷ pos 0 ∷ pos 0 ∷ pos 0 ∷ pos 3 ∷ pos 1 ∷ pos 0 ∷ pos 0 ∷ pos 0 ∷ pos 0 ∷ pos 1 ∷ pos 0 ∷ pos 0 ∷ pos 0 ∷ pos 0 ∷ pos 2 ∷ pos 0 ∷ pos 0 ∷ pos 0 ∷ pos 1 ∷ pos 3 ∷ pos 1 ∷ pos 0 ∷ pos 1 ∷ pos 1 ∷ pos 0 ∷ pos 0 ∷ pos 1 ∷ pos 1 ∷ pos 1 ∷ pos 1 ∷ pos 1 ∷ pos 1 ∷ pos 0 ∷ pos 0 ∷ pos 0 ∷ pos 1 ∷ pos 1 ∷ pos 0 ∷ pos 0 ∷ pos 1 ∷ pos 0 ∷ pos 1 ∷ pos 0 ∷ pos 1 ∷ pos 1 ∷ pos 0 ∷ pos 1 ∷ pos 0 ∷ pos 0 ∷ pos 0 ∷ pos 1 ∷ pos 1 ∷ pos 1 ∷ pos 1 ∷ pos 1 ∷ pos 1 ∷ pos 0 ∷ pos 0 ∷ [])
    ∷ []
unfolding script
list_55 = refl

list_56 : script
    (opens (distancing (carrying 1 (options 1 2 true (pos 4) false (true ∷ []) (true ∷ [])))) 0 15
    ∷ call (right (pos 1 ∷ pos 3 ∷ pos 0 ∷ pos 2 ∷ pos 0 ∷ pos 1 ∷ pos 1 ∷ pos 0 ∷ []))
    ∷ call (right (pos 1 ∷ pos 3 ∷ pos 0 ∷ pos 1 ∷ negsuc 0 ∷ pos 1 ∷ pos 1 ∷ pos 1 ∷ []))
    ∷ call end
    ∷ state
    ∷ dump
    ∷ [])
    ≡ ok
    ∷ ok
    ∷ ok
    ∷ ok
    ∷ looks (0 ∷ 2 ∷ 0 ∷ 0 ∷ 0 ∷ 0 ∷ 1 ∷ 0 ∷ 0 ∷ []) None None
    ∷ areas [] (pos 0 ∷ pos 2 ∷ pos 0 ∷ pos 0 ∷ pos 1 ∷ negsuc 0 ∷ pos 1 ∷ pos 1 ∷ pos 0 ∷ pos 1 ∷ pos 1 ∷ pos 1 ∷ pos 2 ∷ negsuc 5 ∷ negsuc 0 ∷ [])
    ∷ []
unfolding script
list_56 = refl

list_57 : script
    (opens (distancing (carrying 2 (options 1 2 true (pos 1) false (true ∷ []) (true ∷ [])))) 58 0
    ∷ call (left (pos 3 ∷ pos 2 ∷ pos 2 ∷ pos 2 ∷ pos 0 ∷ pos 0 ∷ pos 1 ∷ pos 0 ∷ pos 1 ∷ pos 1 ∷ pos 1 ∷ pos 1 ∷ pos 1 ∷ pos 1 ∷ []))
    ∷ call (left (pos 1 ∷ pos 2 ∷ pos 2 ∷ pos 1 ∷ pos 1 ∷ pos 1 ∷ []))
    ∷ call (turn (space 26))
    ∷ call (turn (space 26))
    ∷ call (left (pos 2 ∷ pos 2 ∷ pos 1 ∷ pos 1 ∷ pos 0 ∷ pos 1 ∷ pos 1 ∷ pos 1 ∷ pos 0 ∷ pos 1 ∷ []))
    ∷ call (turn (space 26))
    ∷ call (left (pos 3 ∷ pos 2 ∷ pos 1 ∷ pos 2 ∷ pos 0 ∷ pos 1 ∷ pos 1 ∷ pos 1 ∷ pos 1 ∷ pos 1 ∷ pos 1 ∷ pos 1 ∷ pos 1 ∷ pos 1 ∷ []))
    ∷ call (turn (space 26))
    ∷ call (turn (space 26))
    ∷ call (left (pos 0 ∷ pos 2 ∷ []))
    ∷ call (left (pos 2 ∷ pos 2 ∷ pos 0 ∷ pos 1 ∷ pos 0 ∷ pos 0 ∷ pos 1 ∷ pos 1 ∷ pos 1 ∷ pos 1 ∷ []))
    ∷ call (left (pos 0 ∷ pos 2 ∷ []))
    ∷ call end
    ∷ call (turn (space 26))
    ∷ call (turn (space 26))
    ∷ call (turn (space 26))
    ∷ call (turn (space 26))
    ∷ call (turn (space 26))
    ∷ call (turn (space 26))
    ∷ call (turn (space 26))
    ∷ state
    ∷ dump
    ∷ [])
    ≡ ok
    ∷ ok
    ∷ ok
    ∷ wants
    ∷ wants
    ∷ ok
    ∷ wants
    ∷ ok
    ∷ wants
    ∷ wants
    ∷ ok
    ∷ ok
    ∷ ok
    ∷ ok
    ∷ wrote 0 (pos 3 ∷ pos 4 ∷ pos 0 ∷ pos 0 ∷ pos 0 ∷ pos 0 ∷ pos 0 ∷ pos 0 ∷ pos 0 ∷ pos 0 ∷ pos 0 ∷ pos 0 ∷ pos 0 ∷ pos 0 ∷ pos 0 ∷ pos 0 ∷ pos 0 ∷ pos 0 ∷ pos 0 ∷ pos 0 ∷ pos 0 ∷ pos 0 ∷ pos 0 ∷ pos 0 ∷ pos 0 ∷ pos 0 ∷ [])
    ∷ wrote 2 (pos 1 ∷ pos 4 ∷ pos 0 ∷ pos 0 ∷ pos 0 ∷ pos 0 ∷ pos 0 ∷ pos 0 ∷ pos 0 ∷ pos 0 ∷ [])
    ∷ wrote 4 (pos 2 ∷ pos 4 ∷ pos 0 ∷ pos 0 ∷ pos 0 ∷ pos 0 ∷ pos 0 ∷ pos 0 ∷ pos 0 ∷ pos 0 ∷ pos 0 ∷ pos 0 ∷ pos 0 ∷ pos 0 ∷ pos 0 ∷ pos 0 ∷ pos 0 ∷ pos 0 ∷ [])
    ∷ wrote 6 (pos 3 ∷ pos 4 ∷ pos 0 ∷ pos 0 ∷ pos 0 ∷ pos 0 ∷ pos 0 ∷ pos 0 ∷ pos 0 ∷ pos 0 ∷ pos 0 ∷ pos 0 ∷ pos 0 ∷ pos 0 ∷ pos 0 ∷ pos 0 ∷ pos 0 ∷ pos 0 ∷ pos 0 ∷ pos 0 ∷ pos 0 ∷ pos 0 ∷ pos 0 ∷ pos 0 ∷ pos 0 ∷ pos 0 ∷ [])
    ∷ wrote 8 (pos 0 ∷ pos 4 ∷ [])
    ∷ wrote 10 (pos 2 ∷ pos 4 ∷ pos 0 ∷ pos 0 ∷ pos 0 ∷ pos 0 ∷ pos 0 ∷ pos 0 ∷ pos 0 ∷ pos 0 ∷ pos 0 ∷ pos 0 ∷ pos 0 ∷ pos 0 ∷ pos 0 ∷ pos 0 ∷ pos 0 ∷ pos 0 ∷ [])
    ∷ wrote 12 (pos 0 ∷ pos 4 ∷ [])
    ∷ looks (0 ∷ 0 ∷ 0 ∷ 58 ∷ 0 ∷ 0 ∷ 1 ∷ 0 ∷ 14 ∷ []) None None
    ∷ areas (pos 3 ∷ pos 2 ∷ pos 2 ∷ pos 2 ∷ pos 0 ∷ pos 0 ∷ pos 1 ∷ pos 0 ∷ pos 1 ∷ pos 1 ∷ pos 1 ∷ pos 1 ∷ pos 1 ∷ pos 1 ∷ pos 1 ∷ pos 2 ∷ pos 2 ∷ pos 1 ∷ pos 1 ∷ pos 1 ∷ pos 2 ∷ pos 2 ∷ pos 1 ∷ pos 1 ∷ pos 0 ∷ pos 1 ∷ pos 1 ∷ pos 1 ∷ pos 0 ∷ pos 1 ∷ pos 3 ∷ pos 2 ∷ pos 1 ∷ pos 2 ∷ pos 0 ∷ pos 1 ∷ pos 1 ∷ pos 1 ∷ pos 1 ∷ pos 1 ∷ pos 1 ∷ pos 1 ∷ pos 1 ∷ pos 1 ∷ pos 0 ∷ pos 2 ∷ pos 2 ∷ pos 2 ∷ pos 0 ∷ pos 1 ∷ pos 0 ∷ pos 0 ∷ pos 1 ∷ pos 1 ∷ pos 1 ∷ pos 1 ∷ pos 0 ∷ pos 2 ∷ []) []
    ∷ []
unfolding script
list_57 = refl

list_58 : script
    (opens (distancing (carrying 4 (options 1 0 true (negsuc 0) false (false ∷ []) (true ∷ [])))) 24 36
    ∷ call (right (pos 1 ∷ pos 6 ∷ pos 0 ∷ pos 1 ∷ pos 735 ∷ pos 462 ∷ pos 753 ∷ pos 216 ∷ pos 0 ∷ pos 1 ∷ pos 1 ∷ pos 1 ∷ pos 1 ∷ pos 1 ∷ []))
    ∷ call (right (pos 1 ∷ pos 6 ∷ pos 0 ∷ pos 0 ∷ pos 921 ∷ pos 614 ∷ pos 389 ∷ pos 467 ∷ pos 0 ∷ pos 1 ∷ pos 1 ∷ pos 1 ∷ pos 1 ∷ pos 1 ∷ []))
    ∷ call (right (pos 1 ∷ pos 6 ∷ pos 0 ∷ pos 0 ∷ pos 552 ∷ pos 445 ∷ pos 126 ∷ pos 942 ∷ pos 1 ∷ pos 1 ∷ pos 1 ∷ pos 1 ∷ pos 1 ∷ pos 1 ∷ []))
    ∷ call (turn (space 14))
    ∷ call (left (pos 1 ∷ pos 2 ∷ pos 0 ∷ pos 0 ∷ pos 1 ∷ pos 0 ∷ []))
    ∷ call (left (pos 1 ∷ pos 2 ∷ pos 0 ∷ pos 2 ∷ pos 0 ∷ pos 1 ∷ []))
    ∷ call (left (pos 1 ∷ pos 2 ∷ pos 1 ∷ pos 0 ∷ pos 1 ∷ pos 1 ∷ []))
    ∷ call (left (pos 1 ∷ pos 2 ∷ pos 1 ∷ pos 0 ∷ pos 1 ∷ pos 0 ∷ []))
    ∷ call end
    ∷ call (turn (space 14))
    ∷ call (turn (space 14))
    ∷ call (turn (space 14))
    ∷ call (turn (space 14))
    ∷ state
    ∷ dump
    ∷ [])
    ≡ ok
    ∷ ok
    ∷ ok
    ∷ ok
    ∷ idle
    ∷ ok
    ∷ ok
    ∷ ok
    ∷ ok
    ∷ ok
    ∷ wrote 0 (pos 1 ∷ pos 6 ∷ pos 0 ∷ pos 0 ∷ pos 0 ∷ pos 0 ∷ pos 0 ∷ pos 0 ∷ pos 0 ∷ pos 0 ∷ pos 0 ∷ pos 0 ∷ pos 0 ∷ pos 0 ∷ [])
    ∷ wrote 2 (pos 1 ∷ pos 6 ∷ pos 0 ∷ pos 0 ∷ pos 0 ∷ pos 0 ∷ pos 0 ∷ pos 0 ∷ pos 0 ∷ pos 0 ∷ pos 0 ∷ pos 0 ∷ pos 0 ∷ pos 0 ∷ [])
    ∷ wrote 4 (pos 1 ∷ pos 6 ∷ pos 0 ∷ pos 0 ∷ pos 0 ∷ pos 0 ∷ pos 0 ∷ pos 0 ∷ pos 0 ∷ pos 0 ∷ pos 0 ∷ pos 0 ∷ pos 0 ∷ pos 0 ∷ [])
    ∷ wrote 6 (pos 1 ∷ pos 6 ∷ pos 0 ∷ pos 0 ∷ pos 0 ∷ pos 0 ∷ pos 0 ∷ pos 0 ∷ pos 0 ∷ pos 0 ∷ pos 0 ∷ pos 0 ∷ pos 0 ∷ pos 0 ∷ [])
    ∷ looks (3 ∷ 0 ∷ 3 ∷ 24 ∷ 0 ∷ 0 ∷ 1 ∷ 0 ∷ 8 ∷ []) None None
    ∷ areas (pos 1 ∷ pos 2 ∷ pos 0 ∷ pos 0 ∷ pos 1 ∷ pos 0 ∷ pos 1 ∷ pos 2 ∷ pos 0 ∷ pos 2 ∷ pos 0 ∷ pos 1 ∷ pos 1 ∷ pos 2 ∷ pos 1 ∷ pos 0 ∷ pos 1 ∷ pos 1 ∷ pos 1 ∷ pos 2 ∷ pos 1 ∷ pos 0 ∷ pos 1 ∷ pos 0 ∷ []) (pos 0 ∷ pos 1 ∷ pos 735 ∷ pos 462 ∷ pos 753 ∷ pos 216 ∷ pos 0 ∷ pos 0 ∷ pos 921 ∷ pos 614 ∷ pos 389 ∷ pos 467 ∷ pos 0 ∷ pos 0 ∷ pos 552 ∷ pos 445 ∷ pos 126 ∷ pos 942 ∷ pos 0 ∷ pos 1 ∷ pos 1 ∷ pos 1 ∷ pos 1 ∷ pos 1 ∷ pos 0 ∷ pos 1 ∷ pos 1 ∷ pos 1 ∷ pos 1 ∷ pos 1 ∷ pos 1 ∷ pos 1 ∷ pos 1 ∷ pos 1 ∷ pos 1 ∷ pos 1 ∷ [])
    ∷ []
unfolding script
list_58 = refl

list_59 : script
    (opens (distancing (carrying 0 (options 2 1 false (negsuc 0) true (false ∷ false ∷ []) (true ∷ false ∷ [])))) 94 18
    ∷ call (turn (space 22))
    ∷ call (turn (space 22))
    ∷ call (right (pos 2 ∷ pos 3 ∷ pos 1 ∷ pos 0 ∷ negsuc 9223372036854775807 ∷ pos 1 ∷ pos 0 ∷ pos 1 ∷ pos 1 ∷ pos 1 ∷ pos 1 ∷ pos 1 ∷ pos 1 ∷ pos 1 ∷ []))
    ∷ call (right (pos 1 ∷ pos 3 ∷ pos 1 ∷ pos 1 ∷ pos 1 ∷ pos 1 ∷ pos 1 ∷ pos 1 ∷ []))
    ∷ call (left (pos 2 ∷ pos 3 ∷ pos 0 ∷ pos 0 ∷ negsuc 9223372036854775805 ∷ pos 0 ∷ pos 0 ∷ negsuc 0 ∷ pos 1 ∷ pos 0 ∷ pos 1 ∷ pos 1 ∷ pos 0 ∷ pos 1 ∷ []))
    ∷ call (left (pos 0 ∷ pos 3 ∷ []))
    ∷ call (left (pos 5 ∷ pos 3 ∷ pos 0 ∷ pos 0 ∷ pos 9223372036854775807 ∷ pos 0 ∷ pos 1 ∷ negsuc 9223372036854775806 ∷ pos 0 ∷ pos 1 ∷ pos 0 ∷ pos 0 ∷ pos 1 ∷ pos 1 ∷ pos 1 ∷ pos 0 ∷ negsuc 9223372036854775805 ∷ pos 1 ∷ pos 1 ∷ pos 1 ∷ pos 1 ∷ pos 1 ∷ pos 1 ∷ pos 1 ∷ pos 1 ∷ pos 1 ∷ pos 1 ∷ pos 1 ∷ pos 1 ∷ pos 1 ∷ pos 0 ∷ pos 1 ∷ []))
    ∷ call (left (pos 3 ∷ pos 3 ∷ pos 1 ∷ pos 0 ∷ negsuc 9223372036854775807 ∷ pos 1 ∷ pos 0 ∷ negsuc 9223372036854775807 ∷ pos 1 ∷ pos 0 ∷ negsuc 0 ∷ pos 1 ∷ pos 1 ∷ pos 1 ∷ pos 1 ∷ pos 1 ∷ pos 1 ∷ pos 1 ∷ pos 1 ∷ pos 1 ∷ []))
    ∷ call (left (pos 4 ∷ pos 3 ∷ pos 1 ∷ pos 0 ∷ pos 9223372036854775805 ∷ pos 1 ∷ pos 0 ∷ pos 9223372036854775807 ∷ pos 1 ∷ pos 1 ∷ negsuc 9223372036854775807 ∷ pos 1 ∷ pos 1 ∷ pos 0 ∷ pos 1 ∷ pos 1 ∷ pos 1 ∷ pos 1 ∷ pos 1 ∷ pos 1 ∷ pos 1 ∷ pos 1 ∷ pos 1 ∷ pos 1 ∷ pos 1 ∷ pos 1 ∷ []))
    ∷ call end
    ∷ call (turn (space 22))
    ∷ call (turn (space 22))
    ∷ call (turn (space 22))
    ∷ call (turn (space 22))
    ∷ call (turn (space 22))
    ∷ call (turn (space 22))
    ∷ state
    ∷ dump
    ∷ [])
    ≡ ok
    ∷ idle
    ∷ idle
    ∷ ok
    ∷ ok
    ∷ ok
    ∷ ok
    ∷ ok
    ∷ ok
    ∷ ok
    ∷ ok
    ∷ wrote 0 (pos 2 ∷ pos 2 ∷ pos 0 ∷ pos 0 ∷ pos 0 ∷ pos 0 ∷ pos 0 ∷ pos 0 ∷ pos 0 ∷ pos 0 ∷ [])
    ∷ wrote 2 (pos 0 ∷ pos 2 ∷ [])
    ∷ wrote 4 (pos 5 ∷ pos 2 ∷ pos 0 ∷ pos 0 ∷ pos 0 ∷ pos 0 ∷ pos 0 ∷ pos 0 ∷ pos 0 ∷ pos 0 ∷ pos 0 ∷ pos 0 ∷ pos 0 ∷ pos 0 ∷ pos 0 ∷ pos 0 ∷ pos 0 ∷ pos 0 ∷ pos 0 ∷ pos 0 ∷ pos 0 ∷ pos 0 ∷ [])
    ∷ wrote 6 (pos 3 ∷ pos 2 ∷ pos 1 ∷ pos 0 ∷ pos 1 ∷ pos 0 ∷ pos 1 ∷ pos 2 ∷ pos 1 ∷ pos 0 ∷ pos 1 ∷ pos 0 ∷ pos 1 ∷ pos 1 ∷ [])
    ∷ wrote 8 (pos 4 ∷ pos 2 ∷ pos 0 ∷ pos 0 ∷ pos 0 ∷ pos 0 ∷ pos 2 ∷ pos 0 ∷ pos 2 ∷ pos 1 ∷ pos 0 ∷ pos 0 ∷ pos 0 ∷ pos 0 ∷ pos 1 ∷ pos 0 ∷ pos 1 ∷ pos 1 ∷ [])
    ∷ idle
    ∷ looks (2 ∷ 1 ∷ 2 ∷ 94 ∷ 0 ∷ 0 ∷ 1 ∷ 0 ∷ 10 ∷ []) (Some (value (pos 1) ∷ value (pos 1) ∷ value (pos 0) ∷ [])) (Some (value (pos 1) ∷ value (pos 0) ∷ value (pos 1) ∷ []))
    ∷ areas (pos 2 ∷ pos 3 ∷ pos 0 ∷ pos 0 ∷ negsuc 9223372036854775805 ∷ pos 0 ∷ pos 0 ∷ negsuc 0 ∷ pos 1 ∷ pos 0 ∷ pos 1 ∷ pos 1 ∷ pos 0 ∷ pos 1 ∷ pos 0 ∷ pos 3 ∷ pos 5 ∷ pos 3 ∷ pos 0 ∷ pos 0 ∷ pos 9223372036854775807 ∷ pos 0 ∷ pos 1 ∷ negsuc 9223372036854775806 ∷ pos 0 ∷ pos 1 ∷ pos 0 ∷ pos 0 ∷ pos 1 ∷ pos 1 ∷ pos 1 ∷ pos 0 ∷ negsuc 9223372036854775805 ∷ pos 1 ∷ pos 1 ∷ pos 1 ∷ pos 1 ∷ pos 1 ∷ pos 1 ∷ pos 1 ∷ pos 1 ∷ pos 1 ∷ pos 1 ∷ pos 1 ∷ pos 1 ∷ pos 1 ∷ pos 0 ∷ pos 1 ∷ pos 3 ∷ pos 3 ∷ pos 1 ∷ pos 0 ∷ negsuc 9223372036854775807 ∷ pos 1 ∷ pos 0 ∷ negsuc 9223372036854775807 ∷ pos 1 ∷ pos 0 ∷ negsuc 0 ∷ pos 1 ∷ pos 1 ∷ pos 1 ∷ pos 1 ∷ pos 1 ∷ pos 1 ∷ pos 1 ∷ pos 1 ∷ pos 1 ∷ pos 4 ∷ pos 3 ∷ pos 1 ∷ pos 0 ∷ pos 9223372036854775805 ∷ pos 1 ∷ pos 0 ∷ pos 9223372036854775807 ∷ pos 1 ∷ pos 1 ∷ negsuc 9223372036854775807 ∷ pos 1 ∷ pos 1 ∷ pos 0 ∷ pos 1 ∷ pos 1 ∷ pos 1 ∷ pos 1 ∷ pos 1 ∷ pos 1 ∷ pos 1 ∷ pos 1 ∷ pos 1 ∷ pos 1 ∷ pos 1 ∷ pos 1 ∷ []) (pos 1 ∷ pos 0 ∷ negsuc 9223372036854775807 ∷ pos 1 ∷ pos 0 ∷ pos 1 ∷ pos 1 ∷ pos 1 ∷ pos 1 ∷ pos 1 ∷ pos 1 ∷ pos 1 ∷ pos 1 ∷ pos 1 ∷ pos 1 ∷ pos 1 ∷ pos 1 ∷ pos 1 ∷ [])
    ∷ []
unfolding script
list_59 = refl

list_60 : script
    (opens (distancing (carrying 1 (options 0 0 true (negsuc 0) true [] []))) 6 10
    ∷ call (right (pos 1 ∷ pos 2 ∷ pos 2 ∷ pos 0 ∷ pos 1 ∷ pos 0 ∷ []))
    ∷ call (turn (space 14))
    ∷ call (right (pos 1 ∷ pos 2 ∷ pos 5 ∷ pos 102 ∷ pos 1 ∷ pos 1 ∷ []))
    ∷ call (left (pos 2 ∷ pos 1 ∷ pos 0 ∷ pos 0 ∷ pos 0 ∷ pos 1 ∷ []))
    ∷ call (turn (space 14))
    ∷ call (left (pos 1 ∷ pos 1 ∷ pos 4 ∷ pos 1 ∷ []))
    ∷ call (turn (space 14))
    ∷ call (left (pos 2 ∷ pos 1 ∷ pos 11 ∷ pos 0 ∷ pos 1 ∷ pos 0 ∷ []))
    ∷ call end
    ∷ call (turn (space 14))
    ∷ state
    ∷ dump
    ∷ [])
    ≡ ok
    ∷ ok
    ∷ idle
    ∷ ok
    ∷ ok
    ∷ wrote 0 (pos 2 ∷ pos 3 ∷ pos 0 ∷ pos 0 ∷ pos 0 ∷ pos 0 ∷ pos 0 ∷ pos 0 ∷ pos 0 ∷ pos 0 ∷ pos 0 ∷ pos 0 ∷ pos 0 ∷ pos 0 ∷ [])
    ∷ ok
    ∷ wrote 2 (pos 1 ∷ pos 3 ∷ pos 0 ∷ pos 0 ∷ pos 2 ∷ pos 1 ∷ pos 0 ∷ pos 1 ∷ [])
    ∷ ok
    ∷ ok
    ∷ refused 8
    ∷ looks (0 ∷ 2 ∷ 0 ∷ 0 ∷ 6 ∷ 0 ∷ 1 ∷ 1 ∷ 4 ∷ []) (Some (value (pos 4) ∷ [])) None
    ∷ areas (pos 2 ∷ pos 1 ∷ pos 11 ∷ pos 0 ∷ pos 1 ∷ pos 0 ∷ []) (pos 2 ∷ pos 0 ∷ pos 5 ∷ pos 102 ∷ pos 1 ∷ pos 0 ∷ pos 1 ∷ pos 1 ∷ negsuc 4 ∷ pos 0 ∷ [])
    ∷ []
unfolding script
list_60 = refl

list_61 : script
    (opens (distancing (carrying 1 (options 4 1 true (pos 4) true (false ∷ true ∷ false ∷ false ∷ []) (false ∷ true ∷ false ∷ false ∷ [])))) 24 74
    ∷ call (right (pos 1 ∷ pos 6 ∷ pos 0 ∷ pos 1 ∷ pos 0 ∷ pos 0 ∷ pos 10 ∷ negsuc 7657674889900557917 ∷ pos 0 ∷ pos 1 ∷ pos 0 ∷ pos 0 ∷ pos 1 ∷ pos 1 ∷ []))
    ∷ call (right (pos 1 ∷ pos 6 ∷ pos 0 ∷ pos 0 ∷ pos 0 ∷ pos 1 ∷ pos 2 ∷ pos 0 ∷ pos 0 ∷ pos 0 ∷ pos 0 ∷ pos 1 ∷ pos 1 ∷ pos 0 ∷ []))
    ∷ call (right (pos 1 ∷ pos 6 ∷ pos 0 ∷ pos 0 ∷ pos 1 ∷ pos 0 ∷ pos 0 ∷ pos 5984060149816403402 ∷ pos 1 ∷ pos 1 ∷ pos 1 ∷ pos 0 ∷ pos 1 ∷ pos 1 ∷ []))
    ∷ call (right (pos 1 ∷ pos 6 ∷ pos 0 ∷ pos 0 ∷ pos 0 ∷ pos 1 ∷ pos 6 ∷ pos 3585497138301207599 ∷ pos 1 ∷ pos 0 ∷ pos 1 ∷ pos 1 ∷ pos 1 ∷ pos 1 ∷ []))
    ∷ call (right (pos 1 ∷ pos 6 ∷ pos 1 ∷ pos 0 ∷ pos 0 ∷ pos 0 ∷ pos 10 ∷ pos 0 ∷ pos 1 ∷ pos 1 ∷ pos 1 ∷ pos 1 ∷ pos 1 ∷ pos 0 ∷ []))
    ∷ call (left (pos 1 ∷ pos 5 ∷ pos 0 ∷ pos 1 ∷ pos 0 ∷ pos 0 ∷ pos 2 ∷ pos 1 ∷ pos 1 ∷ pos 0 ∷ pos 1 ∷ pos 1 ∷ []))
    ∷ call (right (pos 1 ∷ pos 6 ∷ pos 1 ∷ pos 0 ∷ pos 1 ∷ pos 1 ∷ pos 11 ∷ pos 3740355488461433166 ∷ pos 1 ∷ pos 1 ∷ pos 1 ∷ pos 1 ∷ pos 1 ∷ pos 1 ∷ []))
    ∷ call (turn (space 8))
    ∷ call (left (pos 1 ∷ pos 5 ∷ pos 0 ∷ pos 0 ∷ pos 0 ∷ pos 0 ∷ pos 1 ∷ pos 1 ∷ pos 1 ∷ pos 0 ∷ pos 1 ∷ pos 1 ∷ []))
    ∷ call (right (pos 1 ∷ pos 6 ∷ pos 1 ∷ pos 0 ∷ pos 0 ∷ pos 0 ∷ pos 4 ∷ pos 1 ∷ pos 1 ∷ pos 0 ∷ pos 1 ∷ pos 0 ∷ pos 1 ∷ pos 1 ∷ []))
    ∷ call (left (pos 1 ∷ pos 5 ∷ pos 0 ∷ pos 0 ∷ pos 1 ∷ pos 0 ∷ pos 11 ∷ pos 1 ∷ pos 0 ∷ pos 1 ∷ pos 0 ∷ pos 1 ∷ []))
    ∷ call end
    ∷ call (turn (space 8))
    ∷ call (turn (space 8))
    ∷ state
    ∷ dump
    ∷ [])
    ≡ ok
    ∷ ok
    ∷ ok
    ∷ ok
    ∷ ok
    ∷ ok
    ∷ ok
    ∷ ok
    ∷ wrote 0 (pos 1 ∷ pos 3 ∷ pos 0 ∷ pos 0 ∷ pos 0 ∷ pos 0 ∷ pos 0 ∷ pos 0 ∷ [])
    ∷ ok
    ∷ ok
    ∷ ok
    ∷ ok
    ∷ wrote 2 (pos 1 ∷ pos 3 ∷ pos 0 ∷ pos 0 ∷ pos 0 ∷ pos 0 ∷ pos 0 ∷ pos 0 ∷ [])
    ∷ wrote 4 (pos 1 ∷ pos 3 ∷ pos 0 ∷ pos 0 ∷ pos 0 ∷ pos 0 ∷ pos 0 ∷ pos 0 ∷ [])
    ∷ looks (2 ∷ 3 ∷ 4 ∷ 24 ∷ 0 ∷ 0 ∷ 1 ∷ 0 ∷ 6 ∷ []) (Some (value (pos 0) ∷ null ∷ value (pos 1) ∷ null ∷ value (pos 11) ∷ [])) (Some (value (pos 0) ∷ null ∷ value (pos 0) ∷ value (pos 1) ∷ value (pos 6) ∷ []))
    ∷ areas (pos 1 ∷ pos 5 ∷ pos 0 ∷ pos 0 ∷ pos 0 ∷ pos 0 ∷ pos 1 ∷ pos 1 ∷ pos 1 ∷ pos 0 ∷ pos 1 ∷ pos 1 ∷ pos 1 ∷ pos 5 ∷ pos 0 ∷ pos 0 ∷ pos 1 ∷ pos 0 ∷ pos 11 ∷ pos 1 ∷ pos 0 ∷ pos 1 ∷ pos 0 ∷ pos 1 ∷ []) (pos 0 ∷ pos 0 ∷ pos 1 ∷ pos 0 ∷ pos 0 ∷ pos 5984060149816403402 ∷ pos 0 ∷ pos 0 ∷ pos 0 ∷ pos 1 ∷ pos 6 ∷ pos 3585497138301207599 ∷ pos 1 ∷ pos 0 ∷ pos 0 ∷ pos 0 ∷ pos 10 ∷ pos 0 ∷ pos 1 ∷ pos 0 ∷ pos 1 ∷ pos 1 ∷ pos 11 ∷ pos 3740355488461433166 ∷ pos 1 ∷ pos 0 ∷ pos 0 ∷ pos 0 ∷ pos 4 ∷ pos 1 ∷ pos 1 ∷ pos 0 ∷ pos 1 ∷ pos 1 ∷ pos 11 ∷ pos 3740355488461433166 ∷ pos 1 ∷ pos 1 ∷ pos 1 ∷ pos 0 ∷ pos 1 ∷ pos 1 ∷ pos 1 ∷ pos 0 ∷ pos 1 ∷ pos 1 ∷ pos 1 ∷ pos 1 ∷ pos 1 ∷ pos 1 ∷ pos 1 ∷ pos 1 ∷ pos 1 ∷ pos 0 ∷ pos 1 ∷ pos 1 ∷ pos 1 ∷ pos 1 ∷ pos 1 ∷ pos 1 ∷ pos 1 ∷ pos 0 ∷ pos 1 ∷ pos 0 ∷ pos 1 ∷ pos 1 ∷ pos 1 ∷ pos 1 ∷ pos 1 ∷ pos 1 ∷ pos 1 ∷ pos 1 ∷ pos 3 ∷ negsuc 4 ∷ [])
    ∷ []
unfolding script
list_61 = refl

list_62 : script
    (opens (distancing (carrying 1 (options 2 0 true (pos 1) true (true ∷ false ∷ []) (true ∷ true ∷ [])))) 0 40
    ∷ call (right (pos 1 ∷ pos 4 ∷ pos 2 ∷ pos 0 ∷ negsuc 9223372036854775805 ∷ pos 304 ∷ pos 1 ∷ pos 0 ∷ pos 1 ∷ pos 1 ∷ []))
    ∷ call (right (pos 1 ∷ pos 4 ∷ pos 0 ∷ pos 0 ∷ pos 0 ∷ pos 427 ∷ pos 1 ∷ pos 0 ∷ pos 0 ∷ pos 1 ∷ []))
    ∷ call (right (pos 1 ∷ pos 4 ∷ pos 0 ∷ pos 0 ∷ pos 0 ∷ pos 362 ∷ pos 1 ∷ pos 0 ∷ pos 0 ∷ pos 1 ∷ []))
    ∷ call (right (pos 1 ∷ pos 4 ∷ pos 0 ∷ pos 0 ∷ pos 9223372036854775807 ∷ pos 591 ∷ pos 0 ∷ pos 1 ∷ pos 1 ∷ pos 1 ∷ []))
    ∷ call (right (pos 1 ∷ pos 4 ∷ pos 0 ∷ pos 1 ∷ pos 9223372036854775806 ∷ pos 517 ∷ pos 0 ∷ pos 1 ∷ pos 1 ∷ pos 1 ∷ []))
    ∷ call end
    ∷ state
    ∷ dump
    ∷ [])
    ≡ ok
    ∷ ok
    ∷ ok
    ∷ ok
    ∷ ok
    ∷ ok
    ∷ ok
    ∷ looks (0 ∷ 5 ∷ 0 ∷ 0 ∷ 0 ∷ 0 ∷ 1 ∷ 0 ∷ 0 ∷ []) None None
    ∷ areas [] (pos 2 ∷ pos 0 ∷ negsuc 9223372036854775805 ∷ pos 304 ∷ pos 0 ∷ pos 0 ∷ pos 0 ∷ pos 427 ∷ pos 0 ∷ pos 0 ∷ pos 0 ∷ pos 362 ∷ pos 0 ∷ pos 0 ∷ pos 9223372036854775807 ∷ pos 591 ∷ pos 0 ∷ pos 1 ∷ pos 9223372036854775806 ∷ pos 517 ∷ pos 1 ∷ pos 0 ∷ pos 1 ∷ pos 1 ∷ pos 1 ∷ pos 0 ∷ pos 0 ∷ pos 1 ∷ pos 1 ∷ pos 0 ∷ pos 0 ∷ pos 1 ∷ pos 0 ∷ pos 1 ∷ pos 1 ∷ pos 1 ∷ pos 0 ∷ pos 1 ∷ pos 1 ∷ pos 1 ∷ [])
    ∷ []
unfolding script
list_62 = refl

list_63 : script
    (opens (distancing (carrying 2 (options 2 0 false (pos 9223372036854775805) false (true ∷ true ∷ []) (false ∷ true ∷ [])))) 34 2
    ∷ call (left (pos 1 ∷ pos 3 ∷ pos 9223372036854775805 ∷ pos 9223372036854775807 ∷ pos 9223372036854775805 ∷ pos 1 ∷ pos 1 ∷ pos 1 ∷ []))
    ∷ call (turn (space 10))
    ∷ call (turn (space 10))
    ∷ call (turn (space 10))
    ∷ call (turn (space 10))
    ∷ call (left (pos 1 ∷ pos 3 ∷ negsuc 9223372036854775806 ∷ negsuc 9223372036854775805 ∷ pos 1 ∷ pos 1 ∷ pos 1 ∷ pos 1 ∷ []))
    ∷ call (left (pos 1 ∷ pos 3 ∷ negsuc 9223372036854775807 ∷ negsuc 9223372036854775807 ∷ pos 0 ∷ pos 1 ∷ pos 1 ∷ pos 1 ∷ []))
    ∷ call (left (pos 1 ∷ pos 3 ∷ negsuc 9223372036854775807 ∷ negsuc 9223372036854775806 ∷ pos 0 ∷ pos 1 ∷ pos 1 ∷ pos 1 ∷ []))
    ∷ call (left (pos 0 ∷ pos 3 ∷ []))
    ∷ call end
    ∷ call (turn (space 10))
    ∷ call (turn (space 10))
    ∷ call (turn (space 10))
    ∷ call (turn (space 10))
    ∷ call (turn (space 10))
    ∷ call (ports PortDone Ready Ready)
    ∷ state
    ∷ dump
    ∷ [])
    ≡ ok
    ∷ ok
    ∷ wants
    ∷ wants
    ∷ wants
    ∷ wants
    ∷ ok
    ∷ ok
    ∷ ok
    ∷ ok
    ∷ ok
    ∷ wrote 0 (pos 1 ∷ pos 4 ∷ pos 0 ∷ pos 0 ∷ pos 0 ∷ pos 0 ∷ pos 0 ∷ pos 0 ∷ pos 0 ∷ pos 0 ∷ [])
    ∷ wrote 2 (pos 1 ∷ pos 4 ∷ pos 0 ∷ pos 0 ∷ pos 0 ∷ pos 0 ∷ pos 0 ∷ pos 0 ∷ pos 0 ∷ pos 0 ∷ [])
    ∷ wrote 4 (pos 1 ∷ pos 4 ∷ pos 0 ∷ pos 0 ∷ pos 0 ∷ pos 0 ∷ pos 0 ∷ pos 0 ∷ pos 0 ∷ pos 0 ∷ [])
    ∷ wrote 6 (pos 1 ∷ pos 4 ∷ pos 0 ∷ pos 0 ∷ pos 0 ∷ pos 0 ∷ pos 0 ∷ pos 0 ∷ pos 0 ∷ pos 0 ∷ [])
    ∷ wrote 8 (pos 0 ∷ pos 4 ∷ [])
    ∷ said-ports 2 2 2 2
    ∷ looks (0 ∷ 0 ∷ 0 ∷ 34 ∷ 0 ∷ 2 ∷ 1 ∷ 0 ∷ 10 ∷ []) None None
    ∷ areas (pos 1 ∷ pos 3 ∷ pos 9223372036854775805 ∷ pos 9223372036854775807 ∷ pos 9223372036854775805 ∷ pos 1 ∷ pos 1 ∷ pos 1 ∷ pos 1 ∷ pos 3 ∷ negsuc 9223372036854775806 ∷ negsuc 9223372036854775805 ∷ pos 1 ∷ pos 1 ∷ pos 1 ∷ pos 1 ∷ pos 1 ∷ pos 3 ∷ negsuc 9223372036854775807 ∷ negsuc 9223372036854775807 ∷ pos 0 ∷ pos 1 ∷ pos 1 ∷ pos 1 ∷ pos 1 ∷ pos 3 ∷ negsuc 9223372036854775807 ∷ negsuc 9223372036854775806 ∷ pos 0 ∷ pos 1 ∷ pos 1 ∷ pos 1 ∷ pos 0 ∷ pos 3 ∷ []) (negsuc 5 ∷ negsuc 0 ∷ [])
    ∷ []
unfolding script
list_63 = refl

list_64 : script
    (opens (distancing (carrying 1 (options 2 0 true (negsuc 0) false (true ∷ false ∷ []) (true ∷ true ∷ [])))) 8 8
    ∷ call (right (pos 1 ∷ pos 4 ∷ pos 1 ∷ pos 9223372036854775807 ∷ pos 0 ∷ pos 0 ∷ pos 1 ∷ pos 1 ∷ pos 0 ∷ pos 0 ∷ []))
    ∷ call (left (pos 1 ∷ pos 3 ∷ pos 0 ∷ pos 9223372036854775805 ∷ pos 9223372036854775807 ∷ pos 1 ∷ pos 1 ∷ pos 1 ∷ []))
    ∷ call (ports Ready Ready Blocked)
    ∷ call end
    ∷ call (turn (space 8))
    ∷ call (ports PortDone Ready Ready)
    ∷ state
    ∷ dump
    ∷ [])
    ≡ ok
    ∷ ok
    ∷ ok
    ∷ said-ports 0 0 1 0
    ∷ ok
    ∷ wrote 0 (pos 1 ∷ pos 3 ∷ pos 0 ∷ pos 0 ∷ pos 0 ∷ pos 0 ∷ pos 0 ∷ pos 0 ∷ [])
    ∷ said-ports 2 2 2 2
    ∷ looks (1 ∷ 0 ∷ 1 ∷ 8 ∷ 0 ∷ 2 ∷ 1 ∷ 0 ∷ 2 ∷ []) None None
    ∷ areas (pos 1 ∷ pos 3 ∷ pos 0 ∷ pos 9223372036854775805 ∷ pos 9223372036854775807 ∷ pos 1 ∷ pos 1 ∷ pos 1 ∷ []) (pos 1 ∷ pos 9223372036854775807 ∷ pos 0 ∷ pos 0 ∷ pos 1 ∷ pos 1 ∷ pos 0 ∷ pos 0 ∷ [])
    ∷ []
unfolding script
list_64 = refl

list_65 : script
    (opens (distancing (carrying 2 (options 3 2 true (negsuc 0) true (true ∷ false ∷ true ∷ []) (true ∷ false ∷ true ∷ [])))) 10 12
    ∷ call (turn (space 10))
    ∷ call (left (pos 1 ∷ pos 4 ∷ negsuc 9223372036854775807 ∷ pos 9223372036854775805 ∷ negsuc 9223372036854775805 ∷ pos 9223372036854775806 ∷ pos 1 ∷ pos 1 ∷ pos 1 ∷ pos 1 ∷ []))
    ∷ call (turn (space 10))
    ∷ call (right (pos 1 ∷ pos 6 ∷ negsuc 0 ∷ pos 0 ∷ negsuc 0 ∷ pos 9223372036854775806 ∷ negsuc 9223372036854775805 ∷ negsuc 9223372036854775805 ∷ pos 1 ∷ pos 1 ∷ pos 1 ∷ pos 1 ∷ pos 1 ∷ pos 1 ∷ []))
    ∷ call (turn (space 10))
    ∷ call (turn (space 10))
    ∷ call end
    ∷ call (turn (space 10))
    ∷ call (ports Blocked Ready Ready)
    ∷ state
    ∷ dump
    ∷ [])
    ≡ ok
    ∷ idle
    ∷ ok
    ∷ wants
    ∷ ok
    ∷ wants
    ∷ wants
    ∷ ok
    ∷ wrote 0 (pos 1 ∷ pos 4 ∷ pos 0 ∷ pos 0 ∷ pos 0 ∷ pos 0 ∷ pos 0 ∷ pos 0 ∷ pos 0 ∷ pos 0 ∷ [])
    ∷ said-ports 1 0 0 0
    ∷ looks (1 ∷ 0 ∷ 1 ∷ 10 ∷ 0 ∷ 0 ∷ 1 ∷ 0 ∷ 2 ∷ []) (Some (value (negsuc 9223372036854775807) ∷ value (pos 9223372036854775805) ∷ value (negsuc 9223372036854775805) ∷ value (pos 9223372036854775806) ∷ [])) (Some (value (negsuc 0) ∷ value (pos 0) ∷ value (negsuc 0) ∷ value (pos 9223372036854775806) ∷ []))
    ∷ areas (pos 1 ∷ pos 4 ∷ negsuc 9223372036854775807 ∷ pos 9223372036854775805 ∷ negsuc 9223372036854775805 ∷ pos 9223372036854775806 ∷ pos 1 ∷ pos 1 ∷ pos 1 ∷ pos 1 ∷ []) (negsuc 0 ∷ pos 0 ∷ negsuc 0 ∷ pos 9223372036854775806 ∷ negsuc 9223372036854775805 ∷ negsuc 9223372036854775805 ∷ pos 1 ∷ pos 1 ∷ pos 1 ∷ pos 1 ∷ pos 1 ∷ pos 1 ∷ [])
    ∷ []
unfolding script
list_65 = refl

list_66 : script
    (opens (distancing (carrying 2 (options 3 2 true (negsuc 0) false (false ∷ true ∷ true ∷ []) (true ∷ false ∷ true ∷ [])))) 10 43
    ∷ call (left (pos 1 ∷ pos 4 ∷ negsuc 9223372036854775806 ∷ negsuc 0 ∷ pos 9223372036854775806 ∷ pos 0 ∷ pos 1 ∷ pos 1 ∷ pos 1 ∷ pos 0 ∷ []))
    ∷ call (turn (space 10))
    ∷ call (turn (space 10))
    ∷ call (turn (space 10))
    ∷ call (turn (space 10))
    ∷ call (turn (space 10))
    ∷ call (turn (space 10))
    ∷ call (turn (space 10))
    ∷ call (turn (space 10))
    ∷ call (turn (space 10))
    ∷ call (turn (space 10))
    ∷ call (right (pos 2 ∷ pos 6 ∷ negsuc 0 ∷ pos 9223372036854775805 ∷ negsuc 9223372036854775805 ∷ pos 0 ∷ pos 2 ∷ pos 1 ∷ pos 9223372036854775807 ∷ negsuc 9223372036854775807 ∷ negsuc 9223372036854775805 ∷ pos 9223372036854775806 ∷ pos 0 ∷ pos 0 ∷ pos 1 ∷ pos 1 ∷ pos 1 ∷ pos 0 ∷ pos 1 ∷ pos 1 ∷ pos 1 ∷ pos 1 ∷ pos 1 ∷ pos 1 ∷ pos 1 ∷ pos 0 ∷ []))
    ∷ call (ports Ready Ready Blocked)
    ∷ call (turn (space 10))
    ∷ call (right (pos 1 ∷ pos 6 ∷ negsuc 9223372036854775807 ∷ pos 0 ∷ negsuc 9223372036854775806 ∷ pos 0 ∷ pos 0 ∷ pos 1 ∷ pos 1 ∷ pos 1 ∷ pos 1 ∷ pos 0 ∷ pos 0 ∷ pos 1 ∷ []))
    ∷ call end
    ∷ call (turn (space 10))
    ∷ call (ports Ready Blocked Ready)
    ∷ state
    ∷ dump
    ∷ [])
    ≡ ok
    ∷ ok
    ∷ wants
    ∷ wants
    ∷ wants
    ∷ wants
    ∷ wants
    ∷ wants
    ∷ wants
    ∷ wants
    ∷ wants
    ∷ wants
    ∷ ok
    ∷ said-ports 0 0 1 0
    ∷ wrote 0 (pos 1 ∷ pos 4 ∷ pos 0 ∷ pos 0 ∷ pos 0 ∷ pos 0 ∷ pos 0 ∷ pos 0 ∷ pos 0 ∷ pos 0 ∷ [])
    ∷ ok
    ∷ ok
    ∷ idle
    ∷ said-ports 0 1 0 0
    ∷ looks (0 ∷ 3 ∷ 0 ∷ 10 ∷ 0 ∷ 0 ∷ 1 ∷ 0 ∷ 2 ∷ []) None None
    ∷ areas (pos 1 ∷ pos 4 ∷ negsuc 9223372036854775806 ∷ negsuc 0 ∷ pos 9223372036854775806 ∷ pos 0 ∷ pos 1 ∷ pos 1 ∷ pos 1 ∷ pos 0 ∷ []) (negsuc 0 ∷ pos 9223372036854775805 ∷ negsuc 9223372036854775805 ∷ pos 0 ∷ pos 2 ∷ pos 1 ∷ pos 9223372036854775807 ∷ negsuc 9223372036854775807 ∷ negsuc 9223372036854775805 ∷ pos 9223372036854775806 ∷ pos 0 ∷ pos 0 ∷ negsuc 9223372036854775807 ∷ pos 0 ∷ negsuc 9223372036854775806 ∷ pos 0 ∷ pos 0 ∷ pos 1 ∷ pos 1 ∷ pos 1 ∷ pos 1 ∷ pos 0 ∷ pos 1 ∷ pos 1 ∷ pos 1 ∷ pos 1 ∷ pos 1 ∷ pos 1 ∷ pos 1 ∷ pos 0 ∷ pos 1 ∷ pos 1 ∷ pos 1 ∷ pos 0 ∷ pos 0 ∷ pos 1 ∷ pos 5 ∷ negsuc 2 ∷ pos 2 ∷ negsuc 5 ∷ negsuc 0 ∷ pos 4 ∷ negsuc 3 ∷ [])
    ∷ []
unfolding script
list_66 = refl

list_67 : script
    (opens (distancing (carrying 4 (options 2 2 true (negsuc 0) true (false ∷ true ∷ []) (true ∷ true ∷ [])))) 76 28
    ∷ call (left (pos 1 ∷ pos 3 ∷ pos 0 ∷ pos 2 ∷ pos 0 ∷ pos 1 ∷ pos 1 ∷ pos 0 ∷ []))
    ∷ call (right (pos 1 ∷ pos 7 ∷ pos 1 ∷ pos 2 ∷ negsuc 0 ∷ pos 941 ∷ pos 0 ∷ pos 377 ∷ pos 541 ∷ pos 1 ∷ pos 1 ∷ pos 1 ∷ pos 1 ∷ pos 0 ∷ pos 1 ∷ pos 1 ∷ []))
    ∷ call (left (pos 1 ∷ pos 3 ∷ pos 0 ∷ pos 2 ∷ pos 9223372036854775805 ∷ pos 1 ∷ pos 1 ∷ pos 1 ∷ []))
    ∷ call (left (pos 0 ∷ pos 3 ∷ []))
    ∷ call (left (pos 1 ∷ pos 3 ∷ pos 0 ∷ pos 0 ∷ pos 0 ∷ pos 1 ∷ pos 1 ∷ pos 0 ∷ []))
    ∷ call (right (pos 1 ∷ pos 7 ∷ pos 2 ∷ pos 0 ∷ pos 0 ∷ pos 988 ∷ pos 807 ∷ pos 43 ∷ pos 58 ∷ pos 1 ∷ pos 1 ∷ pos 1 ∷ pos 1 ∷ pos 1 ∷ pos 1 ∷ pos 1 ∷ []))
    ∷ call (left (pos 1 ∷ pos 3 ∷ pos 0 ∷ pos 0 ∷ negsuc 9223372036854775805 ∷ pos 1 ∷ pos 1 ∷ pos 1 ∷ []))
    ∷ call end
    ∷ call (left (pos 1 ∷ pos 3 ∷ pos 1 ∷ pos 2 ∷ negsuc 9223372036854775805 ∷ pos 1 ∷ pos 1 ∷ pos 1 ∷ []))
    ∷ call (left (pos 1 ∷ pos 3 ∷ pos 1 ∷ pos 0 ∷ pos 0 ∷ pos 1 ∷ pos 1 ∷ pos 1 ∷ []))
    ∷ call (turn (space 14))
    ∷ call (left (pos 1 ∷ pos 3 ∷ pos 2 ∷ pos 2 ∷ pos 9223372036854775805 ∷ pos 1 ∷ pos 1 ∷ pos 1 ∷ []))
    ∷ call (left (pos 1 ∷ pos 3 ∷ pos 2 ∷ pos 1 ∷ pos 0 ∷ pos 1 ∷ pos 1 ∷ pos 1 ∷ []))
    ∷ call (left (pos 1 ∷ pos 3 ∷ pos 2 ∷ pos 1 ∷ pos 9223372036854775805 ∷ pos 1 ∷ pos 1 ∷ pos 1 ∷ []))
    ∷ call (left (pos 0 ∷ pos 3 ∷ []))
    ∷ call (left (pos 1 ∷ pos 3 ∷ pos 2 ∷ pos 0 ∷ pos 1 ∷ pos 1 ∷ pos 1 ∷ pos 1 ∷ []))
    ∷ call (turn (space 14))
    ∷ call (turn (space 14))
    ∷ call (turn (space 14))
    ∷ call (turn (space 14))
    ∷ call (turn (space 14))
    ∷ call (turn (space 14))
    ∷ call (turn (space 14))
    ∷ call (turn (space 14))
    ∷ call (turn (space 14))
    ∷ call (turn (space 14))
    ∷ call (turn (space 14))
    ∷ call (turn (space 14))
    ∷ state
    ∷ dump
    ∷ [])
    ≡ ok
    ∷ ok
    ∷ ok
    ∷ ok
    ∷ ok
    ∷ ok
    ∷ ok
    ∷ ok
    ∷ ok
    ∷ ok
    ∷ ok
    ∷ wrote 0 (pos 1 ∷ pos 6 ∷ pos 0 ∷ pos 0 ∷ pos 0 ∷ pos 0 ∷ pos 0 ∷ pos 0 ∷ pos 0 ∷ pos 0 ∷ pos 0 ∷ pos 0 ∷ pos 0 ∷ pos 0 ∷ [])
    ∷ ok
    ∷ ok
    ∷ ok
    ∷ ok
    ∷ ok
    ∷ wrote 2 (pos 1 ∷ pos 6 ∷ pos 0 ∷ pos 0 ∷ pos 0 ∷ pos 0 ∷ pos 0 ∷ pos 0 ∷ pos 0 ∷ pos 0 ∷ pos 0 ∷ pos 0 ∷ pos 0 ∷ pos 0 ∷ [])
    ∷ wrote 4 (pos 0 ∷ pos 6 ∷ [])
    ∷ wrote 6 (pos 1 ∷ pos 6 ∷ pos 0 ∷ pos 0 ∷ pos 0 ∷ pos 0 ∷ pos 0 ∷ pos 0 ∷ pos 0 ∷ pos 0 ∷ pos 0 ∷ pos 0 ∷ pos 0 ∷ pos 0 ∷ [])
    ∷ wrote 8 (pos 1 ∷ pos 6 ∷ pos 0 ∷ pos 0 ∷ pos 0 ∷ pos 0 ∷ pos 0 ∷ pos 0 ∷ pos 0 ∷ pos 0 ∷ pos 0 ∷ pos 0 ∷ pos 0 ∷ pos 0 ∷ [])
    ∷ wrote 10 (pos 1 ∷ pos 6 ∷ pos 0 ∷ pos 941 ∷ pos 0 ∷ pos 377 ∷ pos 541 ∷ pos 9223372036854775805 ∷ pos 1 ∷ pos 1 ∷ pos 0 ∷ pos 1 ∷ pos 1 ∷ pos 1 ∷ [])
    ∷ wrote 12 (pos 1 ∷ pos 6 ∷ pos 0 ∷ pos 0 ∷ pos 0 ∷ pos 0 ∷ pos 0 ∷ pos 0 ∷ pos 0 ∷ pos 0 ∷ pos 0 ∷ pos 0 ∷ pos 0 ∷ pos 0 ∷ [])
    ∷ wrote 14 (pos 1 ∷ pos 6 ∷ pos 0 ∷ pos 0 ∷ pos 0 ∷ pos 0 ∷ pos 0 ∷ pos 0 ∷ pos 0 ∷ pos 0 ∷ pos 0 ∷ pos 0 ∷ pos 0 ∷ pos 0 ∷ [])
    ∷ wrote 16 (pos 1 ∷ pos 6 ∷ pos 0 ∷ pos 0 ∷ pos 0 ∷ pos 0 ∷ pos 0 ∷ pos 0 ∷ pos 0 ∷ pos 0 ∷ pos 0 ∷ pos 0 ∷ pos 0 ∷ pos 0 ∷ [])
    ∷ wrote 18 (pos 1 ∷ pos 6 ∷ pos 0 ∷ pos 0 ∷ pos 0 ∷ pos 0 ∷ pos 0 ∷ pos 0 ∷ pos 0 ∷ pos 0 ∷ pos 0 ∷ pos 0 ∷ pos 0 ∷ pos 0 ∷ [])
    ∷ wrote 20 (pos 0 ∷ pos 6 ∷ [])
    ∷ wrote 22 (pos 1 ∷ pos 6 ∷ pos 1 ∷ pos 988 ∷ pos 807 ∷ pos 43 ∷ pos 58 ∷ pos 1 ∷ pos 1 ∷ pos 1 ∷ pos 1 ∷ pos 1 ∷ pos 1 ∷ pos 1 ∷ [])
    ∷ idle
    ∷ looks (1 ∷ 1 ∷ 1 ∷ 76 ∷ 0 ∷ 0 ∷ 1 ∷ 0 ∷ 24 ∷ []) (Some (value (pos 2) ∷ value (pos 0) ∷ value (pos 1) ∷ [])) (Some (value (pos 1) ∷ value (pos 2) ∷ value (negsuc 0) ∷ []))
    ∷ areas (pos 1 ∷ pos 3 ∷ pos 0 ∷ pos 2 ∷ pos 9223372036854775805 ∷ pos 1 ∷ pos 1 ∷ pos 1 ∷ pos 0 ∷ pos 3 ∷ pos 1 ∷ pos 3 ∷ pos 0 ∷ pos 0 ∷ pos 0 ∷ pos 1 ∷ pos 1 ∷ pos 0 ∷ pos 1 ∷ pos 3 ∷ pos 0 ∷ pos 0 ∷ negsuc 9223372036854775805 ∷ pos 1 ∷ pos 1 ∷ pos 1 ∷ pos 1 ∷ pos 3 ∷ pos 1 ∷ pos 2 ∷ negsuc 9223372036854775805 ∷ pos 1 ∷ pos 1 ∷ pos 1 ∷ pos 1 ∷ pos 3 ∷ pos 1 ∷ pos 0 ∷ pos 0 ∷ pos 1 ∷ pos 1 ∷ pos 1 ∷ pos 1 ∷ pos 3 ∷ pos 2 ∷ pos 2 ∷ pos 9223372036854775805 ∷ pos 1 ∷ pos 1 ∷ pos 1 ∷ pos 1 ∷ pos 3 ∷ pos 2 ∷ pos 1 ∷ pos 0 ∷ pos 1 ∷ pos 1 ∷ pos 1 ∷ pos 1 ∷ pos 3 ∷ pos 2 ∷ pos 1 ∷ pos 9223372036854775805 ∷ pos 1 ∷ pos 1 ∷ pos 1 ∷ pos 0 ∷ pos 3 ∷ pos 1 ∷ pos 3 ∷ pos 2 ∷ pos 0 ∷ pos 1 ∷ pos 1 ∷ pos 1 ∷ pos 1 ∷ []) (pos 1 ∷ pos 2 ∷ negsuc 0 ∷ pos 941 ∷ pos 0 ∷ pos 377 ∷ pos 541 ∷ pos 2 ∷ pos 0 ∷ pos 0 ∷ pos 988 ∷ pos 807 ∷ pos 43 ∷ pos 58 ∷ pos 1 ∷ pos 1 ∷ pos 1 ∷ pos 1 ∷ pos 0 ∷ pos 1 ∷ pos 1 ∷ pos 1 ∷ pos 1 ∷ pos 1 ∷ pos 1 ∷ pos 1 ∷ pos 1 ∷ pos 1 ∷ [])
    ∷ []
unfolding script
list_67 = refl

list_68 : script
    (opens (distancing (carrying 4 (options 4 0 false (pos 0) true (false ∷ true ∷ false ∷ true ∷ []) (false ∷ false ∷ false ∷ true ∷ [])))) 14 33
    ∷ call (left (pos 1 ∷ pos 5 ∷ pos 0 ∷ pos 0 ∷ pos 1 ∷ pos 0 ∷ pos 9223372036854775807 ∷ pos 1 ∷ pos 0 ∷ pos 1 ∷ pos 1 ∷ pos 1 ∷ []))
    ∷ call (turn (space 14))
    ∷ call (turn (space 14))
    ∷ call (turn (space 14))
    ∷ call (right (pos 1 ∷ pos 9 ∷ pos 1 ∷ pos 1 ∷ pos 1 ∷ pos 0 ∷ pos 9223372036854775806 ∷ pos 568 ∷ pos 899 ∷ pos 568 ∷ pos 169 ∷ pos 1 ∷ pos 1 ∷ pos 1 ∷ pos 1 ∷ pos 1 ∷ pos 1 ∷ pos 1 ∷ pos 1 ∷ pos 1 ∷ []))
    ∷ call end
    ∷ call (left (pos 0 ∷ pos 5 ∷ []))
    ∷ call (turn (space 14))
    ∷ call (turn (space 14))
    ∷ state
    ∷ dump
    ∷ [])
    ≡ ok
    ∷ ok
    ∷ wants
    ∷ wants
    ∷ wants
    ∷ ok
    ∷ ok
    ∷ ok
    ∷ wrote 0 (pos 1 ∷ pos 6 ∷ pos 0 ∷ pos 0 ∷ pos 0 ∷ pos 0 ∷ pos 0 ∷ pos 0 ∷ pos 0 ∷ pos 0 ∷ pos 0 ∷ pos 0 ∷ pos 0 ∷ pos 0 ∷ [])
    ∷ wrote 2 (pos 0 ∷ pos 6 ∷ [])
    ∷ looks (0 ∷ 1 ∷ 0 ∷ 14 ∷ 0 ∷ 0 ∷ 1 ∷ 0 ∷ 4 ∷ []) (Some (value (pos 0) ∷ null ∷ value (pos 1) ∷ value (pos 0) ∷ value (pos 9223372036854775807) ∷ [])) None
    ∷ areas (pos 1 ∷ pos 5 ∷ pos 0 ∷ pos 0 ∷ pos 1 ∷ pos 0 ∷ pos 9223372036854775807 ∷ pos 1 ∷ pos 0 ∷ pos 1 ∷ pos 1 ∷ pos 1 ∷ pos 0 ∷ pos 5 ∷ []) (pos 1 ∷ pos 1 ∷ pos 1 ∷ pos 0 ∷ pos 9223372036854775806 ∷ pos 568 ∷ pos 899 ∷ pos 568 ∷ pos 169 ∷ pos 1 ∷ pos 1 ∷ pos 1 ∷ pos 1 ∷ pos 1 ∷ pos 1 ∷ pos 1 ∷ pos 1 ∷ pos 1 ∷ pos 6 ∷ negsuc 1 ∷ pos 3 ∷ negsuc 4 ∷ pos 0 ∷ pos 5 ∷ negsuc 2 ∷ pos 2 ∷ negsuc 5 ∷ negsuc 0 ∷ pos 4 ∷ negsuc 3 ∷ pos 1 ∷ pos 6 ∷ negsuc 1 ∷ [])
    ∷ []
unfolding script
list_68 = refl

list_69 : script
    (opens (distancing (carrying 0 (options 1 0 false (pos 4611686018427387904) true (true ∷ []) (false ∷ [])))) 22 20
    ∷ call (right (pos 4 ∷ pos 2 ∷ pos 0 ∷ negsuc 9223372036854775806 ∷ pos 1 ∷ pos 9223372036854775806 ∷ pos 1 ∷ pos 9223372036854775806 ∷ pos 0 ∷ pos 1 ∷ pos 0 ∷ pos 1 ∷ pos 1 ∷ pos 1 ∷ pos 1 ∷ pos 1 ∷ pos 1 ∷ pos 1 ∷ []))
    ∷ call (turn (space 10))
    ∷ call (right (pos 1 ∷ pos 2 ∷ pos 0 ∷ pos 9223372036854775805 ∷ pos 1 ∷ pos 1 ∷ []))
    ∷ call (left (pos 2 ∷ pos 2 ∷ pos 2 ∷ pos 0 ∷ pos 2 ∷ pos 0 ∷ pos 1 ∷ pos 0 ∷ pos 1 ∷ pos 1 ∷ []))
    ∷ call end
    ∷ call (left (pos 1 ∷ pos 2 ∷ pos 2 ∷ pos 0 ∷ pos 1 ∷ pos 1 ∷ []))
    ∷ call (turn (space 10))
    ∷ call (turn (space 10))
    ∷ call (left (pos 1 ∷ pos 2 ∷ pos 0 ∷ pos 1 ∷ pos 1 ∷ pos 1 ∷ []))
    ∷ call (turn (space 10))
    ∷ call (turn (space 10))
    ∷ call (turn (space 10))
    ∷ state
    ∷ dump
    ∷ [])
    ≡ ok
    ∷ ok
    ∷ idle
    ∷ ok
    ∷ ok
    ∷ ok
    ∷ ok
    ∷ wrote 0 (pos 2 ∷ pos 2 ∷ pos 0 ∷ pos 0 ∷ pos 0 ∷ pos 0 ∷ pos 0 ∷ pos 0 ∷ pos 0 ∷ pos 0 ∷ [])
    ∷ wrote 2 (pos 1 ∷ pos 2 ∷ pos 0 ∷ pos 0 ∷ pos 0 ∷ pos 0 ∷ [])
    ∷ ok
    ∷ wrote 4 (pos 1 ∷ pos 2 ∷ pos 0 ∷ pos 0 ∷ pos 0 ∷ pos 0 ∷ [])
    ∷ idle
    ∷ idle
    ∷ looks (3 ∷ 2 ∷ 3 ∷ 22 ∷ 0 ∷ 0 ∷ 1 ∷ 0 ∷ 6 ∷ []) (Some (value (pos 0) ∷ value (pos 1) ∷ [])) (Some (value (pos 1) ∷ value (pos 9223372036854775806) ∷ []))
    ∷ areas (pos 2 ∷ pos 2 ∷ pos 2 ∷ pos 0 ∷ pos 2 ∷ pos 0 ∷ pos 1 ∷ pos 0 ∷ pos 1 ∷ pos 1 ∷ pos 1 ∷ pos 2 ∷ pos 2 ∷ pos 0 ∷ pos 1 ∷ pos 1 ∷ pos 1 ∷ pos 2 ∷ pos 0 ∷ pos 1 ∷ pos 1 ∷ pos 1 ∷ []) (pos 0 ∷ negsuc 9223372036854775806 ∷ pos 1 ∷ pos 9223372036854775806 ∷ pos 1 ∷ pos 9223372036854775806 ∷ pos 0 ∷ pos 1 ∷ pos 0 ∷ pos 9223372036854775805 ∷ pos 0 ∷ pos 1 ∷ pos 1 ∷ pos 1 ∷ pos 1 ∷ pos 1 ∷ pos 1 ∷ pos 1 ∷ pos 1 ∷ pos 1 ∷ [])
    ∷ []
unfolding script
list_69 = refl

list_70 : script
    (opens (distancing (carrying 0 (options 2 0 false (negsuc 0) true (false ∷ false ∷ []) (false ∷ false ∷ [])))) 70 12
    ∷ call (left (pos 2 ∷ pos 3 ∷ pos 0 ∷ pos 1 ∷ pos 2 ∷ pos 0 ∷ pos 2 ∷ pos 6 ∷ pos 1 ∷ pos 1 ∷ pos 1 ∷ pos 1 ∷ pos 1 ∷ pos 1 ∷ []))
    ∷ call (right (pos 1 ∷ pos 3 ∷ pos 0 ∷ pos 0 ∷ pos 0 ∷ pos 1 ∷ pos 1 ∷ pos 1 ∷ []))
    ∷ call (turn (space 14))
    ∷ call (right (pos 1 ∷ pos 3 ∷ pos 0 ∷ pos 1 ∷ pos 5 ∷ pos 1 ∷ pos 1 ∷ pos 1 ∷ []))
    ∷ call (right (pos 0 ∷ pos 3 ∷ []))
    ∷ call end
    ∷ call (turn (space 14))
    ∷ call (turn (space 14))
    ∷ call (left (pos 3 ∷ pos 3 ∷ pos 0 ∷ pos 2 ∷ pos 7 ∷ pos 0 ∷ pos 2 ∷ pos 8 ∷ pos 0 ∷ pos 2 ∷ pos 10 ∷ pos 1 ∷ pos 1 ∷ pos 1 ∷ pos 1 ∷ pos 1 ∷ pos 1 ∷ pos 1 ∷ pos 1 ∷ pos 1 ∷ []))
    ∷ call (turn (space 14))
    ∷ call (left (pos 2 ∷ pos 3 ∷ pos 1 ∷ pos 0 ∷ pos 2 ∷ pos 1 ∷ pos 0 ∷ pos 3 ∷ pos 1 ∷ pos 1 ∷ pos 1 ∷ pos 1 ∷ pos 1 ∷ pos 1 ∷ []))
    ∷ call (left (pos 2 ∷ pos 3 ∷ pos 1 ∷ pos 0 ∷ pos 5 ∷ pos 1 ∷ pos 1 ∷ pos 8 ∷ pos 1 ∷ pos 1 ∷ pos 1 ∷ pos 1 ∷ pos 1 ∷ pos 1 ∷ []))
    ∷ call (left (pos 1 ∷ pos 3 ∷ pos 2 ∷ pos 2 ∷ pos 3 ∷ pos 1 ∷ pos 1 ∷ pos 1 ∷ []))
    ∷ call (turn (space 14))
    ∷ call (turn (space 14))
    ∷ call (turn (space 14))
    ∷ call (turn (space 14))
    ∷ call (turn (space 14))
    ∷ state
    ∷ dump
    ∷ [])
    ≡ ok
    ∷ ok
    ∷ ok
    ∷ wants
    ∷ ok
    ∷ ok
    ∷ ok
    ∷ wrote 0 (pos 2 ∷ pos 2 ∷ pos 0 ∷ pos 0 ∷ pos 0 ∷ pos 0 ∷ pos 0 ∷ pos 0 ∷ pos 0 ∷ pos 0 ∷ [])
    ∷ idle
    ∷ ok
    ∷ wrote 2 (pos 3 ∷ pos 2 ∷ pos 0 ∷ pos 0 ∷ pos 0 ∷ pos 0 ∷ pos 0 ∷ pos 0 ∷ pos 0 ∷ pos 0 ∷ pos 0 ∷ pos 0 ∷ pos 0 ∷ pos 0 ∷ [])
    ∷ ok
    ∷ ok
    ∷ ok
    ∷ wrote 4 (pos 2 ∷ pos 2 ∷ pos 0 ∷ pos 0 ∷ pos 0 ∷ pos 0 ∷ pos 0 ∷ pos 0 ∷ pos 0 ∷ pos 0 ∷ [])
    ∷ wrote 6 (pos 2 ∷ pos 2 ∷ pos 0 ∷ pos 0 ∷ pos 0 ∷ pos 0 ∷ pos 0 ∷ pos 0 ∷ pos 0 ∷ pos 0 ∷ [])
    ∷ wrote 8 (pos 1 ∷ pos 2 ∷ pos 0 ∷ pos 0 ∷ pos 0 ∷ pos 0 ∷ [])
    ∷ idle
    ∷ idle
    ∷ looks (2 ∷ 0 ∷ 2 ∷ 70 ∷ 0 ∷ 0 ∷ 1 ∷ 0 ∷ 10 ∷ []) (Some (value (pos 2) ∷ value (pos 2) ∷ value (pos 3) ∷ [])) (Some (value (pos 0) ∷ value (pos 1) ∷ value (pos 5) ∷ []))
    ∷ areas (pos 2 ∷ pos 3 ∷ pos 0 ∷ pos 1 ∷ pos 2 ∷ pos 0 ∷ pos 2 ∷ pos 6 ∷ pos 1 ∷ pos 1 ∷ pos 1 ∷ pos 1 ∷ pos 1 ∷ pos 1 ∷ pos 3 ∷ pos 3 ∷ pos 0 ∷ pos 2 ∷ pos 7 ∷ pos 0 ∷ pos 2 ∷ pos 8 ∷ pos 0 ∷ pos 2 ∷ pos 10 ∷ pos 1 ∷ pos 1 ∷ pos 1 ∷ pos 1 ∷ pos 1 ∷ pos 1 ∷ pos 1 ∷ pos 1 ∷ pos 1 ∷ pos 2 ∷ pos 3 ∷ pos 1 ∷ pos 0 ∷ pos 2 ∷ pos 1 ∷ pos 0 ∷ pos 3 ∷ pos 1 ∷ pos 1 ∷ pos 1 ∷ pos 1 ∷ pos 1 ∷ pos 1 ∷ pos 2 ∷ pos 3 ∷ pos 1 ∷ pos 0 ∷ pos 5 ∷ pos 1 ∷ pos 1 ∷ pos 8 ∷ pos 1 ∷ pos 1 ∷ pos 1 ∷ pos 1 ∷ pos 1 ∷ pos 1 ∷ pos 1 ∷ pos 3 ∷ pos 2 ∷ pos 2 ∷ pos 3 ∷ pos 1 ∷ pos 1 ∷ pos 1 ∷ []) (pos 0 ∷ pos 0 ∷ pos 0 ∷ pos 0 ∷ pos 1 ∷ pos 5 ∷ pos 1 ∷ pos 1 ∷ pos 1 ∷ pos 1 ∷ pos 1 ∷ pos 1 ∷ [])
    ∷ []
unfolding script
list_70 = refl
