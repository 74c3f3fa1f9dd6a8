-- Options as a host gives them and as a join in numbers has them; which options they are, and which numbers are none. Assumes nothing.
use Rattle.std.specs.Prelude.{Bool, cond, ◌&&◌, List, ℕ, ltb, Option, None, Some}
use Rattle.order.specs.ranks.Ranks.{ranks_for}
use Rattle.order.specs.declared.ranks.Ranks.{Ranks}
use Rattle.order.specs.declared.options.Options.{Options}
use Rattle.order.specs.options.Options.{check_code}
use Rattle.ffi.specs.codes.Codes.{is_flag, flag_of, flag_code, are_flags, flags_of, flag_codes, check_of, is_code}
use Rattle.ffi.specs.declared.hostoptions.HostRanks.{HostRanks}
use Rattle.ffi.specs.declared.hostoptions.HostOptions.{HostOptions}

-- Options that the library could have written: a strategy is any number that a byte holds, the order check one up to 2, and the rest are flags.
unfoldable pub is_options : HostOptions → Bool
is_options h =
    (ltb h.strategy 256 && (is_flag h.allow_eq && is_code h.check))
    && ((are_flags h.descending && are_flags h.nulls_last) && (is_flag h.ranks.given && is_flag h.with_distance))

-- The list of ranks that such numbers tell, with its places in rising order where they are kept.
abbrev pub kept_ranks : HostRanks → List ℕ → Ranks
kept_ranks h rising = record { given = flag_of h.given; column = h.column; count = h.count; codes = h.codes; rising = rising }

-- The list as a host gives it: its places in rising order are found.
abbrev pub given_ranks : HostRanks → Ranks
given_ranks h = ranks_for (flag_of h.given) h.column h.count h.codes

-- The numbers of a list; its places in rising order are not among them.
abbrev pub encode_ranks : Ranks → HostRanks
encode_ranks k = record { given = flag_code k.given; column = k.column; count = k.count; codes = k.codes }

-- The options that such numbers tell, with this list.
abbrev pub options_with : HostOptions → Ranks → Options
options_with h k = record {
  by = h.by;
  strategy = h.strategy;
  allow_eq = flag_of h.allow_eq;
  tolerance = h.tolerance;
  check = check_of h.check;
  descending = flags_of h.descending;
  nulls_last = flags_of h.nulls_last;
  carried = h.carried;
  ranks = k;
  with_distance = flag_of h.with_distance;
}

-- The options that a host gives.
abbrev pub options_of : HostOptions → Options
options_of h = options_with h (given_ranks h.ranks)

-- The numbers of options.
abbrev pub encode_options : Options → HostOptions
encode_options o = record {
  by = o.by;
  strategy = o.strategy;
  allow_eq = flag_code o.allow_eq;
  tolerance = o.tolerance;
  check = check_code o.check;
  descending = flag_codes o.descending;
  nulls_last = flag_codes o.nulls_last;
  carried = o.carried;
  ranks = encode_ranks o.ranks;
  with_distance = flag_code o.with_distance;
}

-- Numbers that no options encode are none.
unfoldable pub decode_options : HostOptions → Option Options
decode_options h = cond (is_options h) (Some (options_of h)) None
