-- A list that opening takes, as it is kept: what look-ups in it need. Assumes nothing.
use mathlib.Core.Path.{◌≡◌, refl, sym, ◌∙◌}
use mathlib.Core.Bool.{true, false}
use mathlib.Core.List.{[]}
use Prim.Native.Nat.{ℕ, ◌≤◌}
use native.Mathlib.Omega.{arith}
use lib.ListN.{length}
use lib.Seq.{length-take-le}
use Rattle.order.specs.ranks.Ranks.{codes_of, rising_of, rises, bad_ranks, Indexed}
use Rattle.order.specs.declared.ranks.Ranks.{Ranks}
use Rattle.order.proofs.ranks.RankLaws.{good_ranks}

-- The list's codes and places are there, and the places tell the codes in rising order.
pub record Kept (k : Ranks) : Type 0 where
  pub codes : k.count ≤ length k.codes
  pub places : k.count ≤ length k.rising
  pub indexed : Indexed (codes_of k) (rising_of k)

-- A list that is given and not refused is kept so, if there are 64 words of codes and 64 places.
pub kept : (by : ℕ) (k : Ranks) → k.given ≡ true → bad_ranks by k ≡ false → 64 ≤ length k.codes → 64 ≤ length k.rising → Kept k
kept by k g h a b =
    let r = good_ranks by k g h in
    record {
      codes = omega (arith, r.few);
      places = omega (arith, r.few);
      indexed = record {
        many = length-take-le k.count k.rising (omega (arith, r.few)) ∙ sym (length-take-le k.count k.codes (omega (arith, r.few)));
        rising = r.rising;
      };
    }

-- No list: no codes and no places.
pub none_indexed : Indexed [] []
unfolding rises
none_indexed = record { many = refl; rising = refl }
