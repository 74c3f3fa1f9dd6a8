-- `nulls::any_null` meets its contract. Assumes nothing.
use Rattle.std.proofs.Common.{◌≡◌, [], ◌∷◌, ℤ, pos, negsuc, eqb, int_eq, refl, ap, ◌∙◌}
use Rattle.std.specs.List.{list_any}
use Rattle.std.proofs.lemmas.Bool.Decides.{same_from_decides, Decides-eqb, Decides-int_eq, Decides-like}
use Rattle.frames.specs.Cells.{Words, is_zero}
use Rattle.rows.specs.nulls.Nulls.{any_zero}
use Rattle.rows.proofs.nulls.any_null.Goals as goal

zero : (m : ℤ) → int_eq m (pos 0) ≡ is_zero m
zero (pos n) = same_from_decides _ _ (Decides-int_eq (pos n) (pos 0)) (Decides-like (eqb n 0) (λ e. ap pos e) (λ (e : pos n ≡ pos 0). cc) (Decides-eqb n 0))
zero (negsuc n) = refl

zeros : (ms : Words) → list_any (λ m. int_eq m (pos 0)) ms ≡ any_zero ms
unfolding any_zero
zeros [] = refl
zeros (m ∷ ms) = rw (zero m, zeros ms)

pub returns : goal.returns
returns c = c.contains.ensures.value ∙ zeros c.args.marks.now
