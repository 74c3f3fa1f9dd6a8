-- The numbers of a join with another part are the join's with that part. Assumes nothing.
use Rattle.frames.specs.declared.outcomes.Turn.TheVariants.{Wrote, WantsRight, Idle}
use Rattle.frames.specs.declared.outcomes.Turn.{Turn}
use Rattle.frames.specs.declared.refusals.Refusal.{Refusal}
use Rattle.std.specs.Prelude.{Result, Ok, Err}
use mathlib.Core.Path.{◌≡◌, refl, sym, ap}
use mathlib.Core.Bool.{true}
use Rattle.node.specs.TurnPart.{join_with}
use Rattle.node.specs.declared.turnparts.Part.{Part}
use Rattle.ffi.specs.convert.Convert.{is_join, join_of, encode}
use Rattle.ffi.specs.declared.convert.HostJoin.{HostJoin}
use Rattle.ffi.proofs.convert.ConvertLaws.{join_numbers}
use Rattle.ffi.specs.results.Results.{turned_host}
use Rattle.ffi.specs.declared.results.HostTurned.{HostTurned}
use Rattle.ffi.specs.hostpart.Parts.{part_in}

pub part_numbers : (h : HostJoin) (p : Part) → is_join h ≡ true → part_in h p ≡ encode (join_with (join_of h) p)
part_numbers h p e = ap (λ y. part_in y p) (sym (join_numbers h e))

-- The answer of a turn by its three numbers.
pub turned_parts : (a : Result Turn Refusal) (h : HostJoin) → ◌≡◌ {A = HostTurned} (record { answer = (turned_host a h).answer; refusal = (turned_host a h).refusal; sequence = (turned_host a h).sequence; join = h }) (turned_host a h)
turned_parts (Ok (Wrote s)) h = refl
turned_parts (Ok WantsRight) h = refl
turned_parts (Ok Idle) h = refl
turned_parts (Err n) h = refl
