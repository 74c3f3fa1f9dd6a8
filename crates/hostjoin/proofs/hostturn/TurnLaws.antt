-- A turn over the numbers of a join: it goes by the join that they tell, and the numbers handed back are its own. Assumes nothing.
use mathlib.Core.Path.{◌≡◌, refl, ap}
use mathlib.Core.Bool.{Bool, true, false}
use lib.ListN.{length}
use Rattle.frames.specs.Cells.{Words}
use Rattle.order.specs.options.Options.{terms_of, with_list}
use Rattle.order.specs.declared.options.Terms.{Terms}
use Rattle.ffi.specs.codes.Codes.{state_of}
use Rattle.node.specs.turncall.Queue.{QueueIn, QueueTurned}
use Rattle.node.specs.declared.turnfront.TurnedPart.{TurnedPart}
use Rattle.node.specs.State.{bad_join}
use Rattle.node.specs.TurnPart.{part_of, join_with}
use Rattle.node.proofs.Good.{few_told}
use Rattle.node.proofs.TurnCallLaws.{queue_turns}
use Rattle.ffi.specs.convert.Convert.{is_join, join_of}
use Rattle.ffi.specs.declared.convert.HostJoin.{HostJoin}
use Rattle.ffi.specs.results.Results.{turned_host}
use Rattle.ffi.specs.hostpart.Parts.{part_in}
use Rattle.ffi.proofs.hostpart.PartLaws.{part_numbers}
use Rattle.hostcalls.specs.CallContracts.{HostTurnContract}
use Rattle.hostcalls.proofs.NumberLaws.{good_is}
use Rattle.hostcalls.proofs.CallLaws.{turn_through}

module _ (h : HostJoin) (left right : Words) (t : Terms) (told : t ≡ terms_of (join_of h).options) (b : Bool) (is : b ≡ bad_join (join_of h) left right) where
  pub queue_holds : length h.options.ranks.codes ≡ 64 → length h.rising ≡ 64 → b ≡ false → QueueIn (with_list t h.options.ranks.codes h.rising) (part_of (join_of h)) left right
  queue_holds codes-long rising_long n =
      let g = good_is h left right b is n in
      rw told (record { few = few_told (join_of h) left right g codes-long rising_long; carried = g.carried; right_room = g.right_room; left_room = g.left_room; rows = g.rows; even = g.even })

  pub turn_numbers : is_join h ≡ true → (out : Words) (r : TurnedPart) (out' : Words) → QueueTurned (with_list t h.options.ranks.codes h.rising) b (state_of h.state) (part_of (join_of h)) left right out r out'
      → HostTurnContract h left right out (turned_host r.answer (part_in h r.part)) out'
  turn_numbers e out r out' x =
      turn_through h left right out (join_of h) (record { answer = r.answer; join = join_with (join_of h) r.part }) (turned_host r.answer (part_in h r.part)) out' e refl
      (queue_turns (join_of h) left right out b is r out' (rw told at x))
      (ap (turned_host r.answer) (part_numbers h r.part e))
