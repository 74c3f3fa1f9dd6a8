-- A host may alter the free words of its areas between calls: none of its calls returns anything else for it. The statement; its proof stands in proofs/. Assumes nothing.
use Rattle.std.specs.Prelude.{◌≡◌, List, Some}
use Rattle.node.specs.declared.Join.{Join}
use Rattle.ffi.specs.convert.Convert.{decode}
use Rattle.lists.specs.Unread.{Alike}
use Rattle.hostcalls.specs.hostlists.HostLists.{HostCall, HostWorld, host_events}

-- Where the numbers are join j, and the areas are as long and have the same waiting frames and held rows, all calls return the same, with the same words in
-- their outputs.
abbrev pub HostFree : Type 0
HostFree =
    (v v' : HostWorld) (j : Join) → decode v.join ≡ Some j → v'.join ≡ v.join → Alike j v.left v.right v'.left v'.right
    → (calls : List HostCall) → host_events v' calls ≡ host_events v calls
