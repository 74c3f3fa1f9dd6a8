-- Options in numbers, there and back. Assumes nothing.
use mathlib.Core.Path.{◌≡◌}
use mathlib.Core.Bool.{true, ◌&&◌}
use Prim.Native.Nat.{◌<◌}
use borrow.Author.Tests.{ltb-true, lt-ltb}
use lib.Dec.{ltb}
use lib.ListN.{length}
use Rattle.order.specs.ranks.Listing.{bad_list}
use Rattle.order.proofs.ranks.ListingLaw.{listing}
use Rattle.order.specs.declared.ranks.Ranks.{Ranks}
use Rattle.order.specs.options.Options.{bad_ranked}
use Rattle.order.specs.declared.options.Options.{Options}
use Rattle.ffi.specs.codes.Codes.{is_flag, flag_of, are_flags, is_code}
use Rattle.ffi.specs.hostoptions.HostOptions.{is_options, kept_ranks, given_ranks, encode_ranks, options_with, options_of, encode_options}
use Rattle.ffi.specs.declared.hostoptions.HostRanks.{HostRanks}
use Rattle.ffi.specs.declared.hostoptions.HostOptions.{HostOptions}
use Rattle.ffi.proofs.codes.CodeLaws.{and_both, flag_is, flag_back, flag_there, flags_are, flags_back, flags_there, check_is, check_back, check_there}

-- What numbers that tell options have: a strategy that a byte holds, a setting of the order check, and flags.
pub record OptionsParts (h : HostOptions) : Type 0 where
  pub byte : h.strategy < 256
  pub eq : is_flag h.allow_eq ≡ true
  pub check : is_code h.check ≡ true
  pub descending : are_flags h.descending ≡ true
  pub nulls : are_flags h.nulls_last ≡ true
  pub given : is_flag h.ranks.given ≡ true
  pub distance : is_flag h.with_distance ≡ true

pub options_parts : (h : HostOptions) → is_options h ≡ true → OptionsParts h
unfolding is_options
options_parts h e =
    let flags = are_flags h.descending && are_flags h.nulls_last in
    let last = is_flag h.ranks.given && is_flag h.with_distance in
    let p = and_both (ltb h.strategy 256 && (is_flag h.allow_eq && is_code h.check)) (flags && last) e in
    let q = and_both (ltb h.strategy 256) (is_flag h.allow_eq && is_code h.check) p.0 in
    let r = and_both (is_flag h.allow_eq) (is_code h.check) q.1 in
    let t = and_both flags last p.1 in
    let u = and_both (is_flag h.ranks.given) (is_flag h.with_distance) t.1 in
    let s = and_both (are_flags h.descending) (are_flags h.nulls_last) t.0 in
    record { byte = ltb-true h.strategy 256 q.0; eq = r.0; check = r.1; descending = s.0; nulls = s.1; given = u.0; distance = u.1 }

pub options_is : (o : Options) → o.strategy < 256 → is_options (encode_options o) ≡ true
unfolding is_options
options_is o b =
    rw (lt-ltb o.strategy 256 b, flag_is o.allow_eq, check_is o.check, flags_are o.descending, flags_are o.nulls_last, flag_is o.ranks.given, flag_is o.with_distance)

-- A list is told by its numbers and its places.
pub ranks_same : (k : Ranks) → kept_ranks (encode_ranks k) k.rising ≡ k
ranks_same k = rw (flag_back k.given)

pub ranks_numbers : (h : HostRanks) (k : Ranks) → is_flag h.given ≡ true → kept_ranks h k.rising ≡ k → encode_ranks k ≡ h
ranks_numbers h k e s = rw (← s) (rw (flag_there h.given e))

-- Options are told by their numbers and their list.
pub options_same : (o : Options) (k : Ranks) → k ≡ o.ranks → options_with (encode_options o) k ≡ o
options_same o k s = rw (s, flag_back o.allow_eq, check_back o.check, flags_back o.descending, flags_back o.nulls_last, flag_back o.with_distance)

pub numbers_same : (h : HostOptions) (k : Ranks) → is_options h ≡ true → encode_ranks k ≡ h.ranks → encode_options (options_with h k) ≡ h
numbers_same h k e s =
    let p = options_parts h e in
    rw (s, flag_there h.allow_eq p.eq, check_there h.check p.check, flags_there h.descending p.descending, flags_there h.nulls_last p.nulls, flag_there h.with_distance p.distance)

-- The numbers of the list that a host gives are those given.
pub given_numbers : (h : HostRanks) → is_flag h.given ≡ true → encode_ranks (given_ranks h) ≡ h
given_numbers h e = rw (flag_there h.given e)

-- SCOPE 16, number 11: the list that a host gives is refused exactly if it is empty, too long, for no by-column, or has a code twice.
pub list_refused : (h : HostOptions) → length h.ranks.codes ≡ 64 → bad_ranked (options_of h) ≡ bad_list h.by (flag_of h.ranks.given) h.ranks.column h.ranks.count h.ranks.codes
list_refused h l = listing h.by (flag_of h.ranks.given) h.ranks.column h.ranks.count h.ranks.codes l
