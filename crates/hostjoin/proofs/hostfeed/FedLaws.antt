-- A frame's call over the numbers of a join: what is fed goes by the join that they tell, and the numbers handed back are its own. Assumes nothing.
use mathlib.Core.Path.{◌≡◌, refl, sym, ap}
use mathlib.Core.Bool.{Bool, true, false}
use lib.ListN.{length}
use Rattle.frames.specs.Cells.{Words}
use Rattle.order.specs.options.Options.{terms_of, with_list}
use Rattle.order.specs.declared.options.Terms.{Terms}
use Rattle.callrules.specs.Judged.{LeftHolds, LeftFed, RightHolds, RightFed}
use Rattle.callrules.specs.declared.FedLeft.{FedLeft}
use Rattle.callrules.specs.declared.FedRight.{FedRight}
use Rattle.ffi.specs.codes.Codes.{flag_of, state_of}
use Rattle.node.specs.State.{bad_join, queue_at, held_at}
use Rattle.node.proofs.Good.{few_told}
use Rattle.node.proofs.CallLaws.{left_leaves, right_leaves}
use Rattle.ffi.specs.convert.Convert.{is_join, join_of}
use Rattle.ffi.specs.declared.convert.HostJoin.{HostJoin}
use Rattle.ffi.proofs.convert.ConvertLaws.{join_numbers}
use Rattle.ffi.specs.results.Results.{took_host}
use Rattle.hostjoin.specs.hostfeed.Fed.{queue_in, held_in}
use Rattle.hostcalls.specs.CallContracts.{HostLeftContract, HostRightContract}
use Rattle.hostcalls.proofs.NumberLaws.{good_is}
use Rattle.hostcalls.proofs.CallLaws.{left_through, right_through}

module _ (h : HostJoin) (left right : Words) (t : Terms) (told : t ≡ terms_of (join_of h).options) (b : Bool) (is : b ≡ bad_join (join_of h) left right) where
  module _ (codes-long : length h.options.ranks.codes ≡ 64) (rising_long : length h.rising ≡ 64) where
    pub left_holds : b ≡ false → LeftHolds (with_list t h.options.ranks.codes h.rising) h.queue_start h.queue_words left
    left_holds n = let g = good_is h left right b is n in rw told (record { few = few_told (join_of h) left right g codes-long rising_long; room = g.left_room })

    pub right_holds : b ≡ false → RightHolds (with_list t h.options.ranks.codes h.rising) h.base h.held h.pruned right
    right_holds n = let g = good_is h left right b is n in rw told (record { few = few_told (join_of h) left right g codes-long rising_long; carried = g.carried; room = g.right_room; rows = g.rows })

  -- ---- a left frame
  pub left_numbers : is_join h ≡ true → (f : Words) (r : FedLeft) (left' : Words) → LeftFed b (flag_of h.failed) (state_of h.state) (with_list t h.options.ranks.codes h.rising) h.queue_start h.queue_words left f r left'
      → HostLeftContract h left right f (took_host r.answer (queue_in h r.start r.words)) left'
  left_numbers e f r left' x =
      left_through h left right f (join_of h) (record { answer = r.answer; join = queue_at (join_of h) r.start r.words }) (took_host r.answer (queue_in h r.start r.words)) left' e refl
      (left_leaves (join_of h) left right f b is r left' (rw told at x))
      (ap (λ y. took_host r.answer (queue_in y r.start r.words)) (sym (join_numbers h e)))

  -- ---- a right frame
  pub right_numbers : is_join h ≡ true → (f : Words) (r : FedRight) (right' : Words) → RightFed b (flag_of h.failed) (flag_of h.right_ended) (state_of h.state) (with_list t h.options.ranks.codes h.rising) h.base h.held h.pruned right f r right'
      → HostRightContract h left right f (took_host r.answer (held_in h r.base r.held)) right'
  right_numbers e f r right' x =
      right_through h left right f (join_of h) (record { answer = r.answer; join = held_at (join_of h) r.base r.held (join_of h).pruned }) (took_host r.answer (held_in h r.base r.held)) right' e refl
      (right_leaves (join_of h) left right f b is r right' (rw told at x))
      (ap (λ y. took_host r.answer (held_in y r.base r.held)) (sym (join_numbers h e)))
