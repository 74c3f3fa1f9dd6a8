-- `readhost::view_cell_host` meets its contract. Assumes nothing.
use mathlib.Core.Path.{◌≡◌, ap, ◌∙◌}
use Prim.Native.Nat.{◌<◌, ◌^◌}
use lib.IntN.{ℤ}
use lib.Signed.{mag}
use mir.Syntax.{w64}
use mir.Val.{to_z, of_z}
use Rattle.frames.proofs.Signed.{back}
use Rattle.hosttables.specs.readhost.Numbers.{cell_host}
use Rattle.hosttables.specs.declared.readhost.HostCell.{HostCell}
use borrow.Author.Rules.{rules}
use Rattle.hosttables.proofs.readhost.view_cell_host.Statement.{statement}
use Rattle.hosttables.proofs.readhost.view_cell_host.Tie as tie

shown-at-requires : tie.Need-shown_at-w-requires
shown-at-requires c κs = search rules

-- Two words that went through locals.
words_back : (v m : ℤ) → mag v < 2 ^ 63 → mag m < 2 ^ 63 → ◌≡◌ {A = HostCell} (record { value = to_z w64 (of_z w64 v); mark = to_z w64 (of_z w64 m) }) (record { value = v; mark = m })
words_back v m f g = rw (back v f, back m g)

returns : tie.Need-returns
returns c =
    let w = c.shown_at-w.result in
    words_back w.value w.mark c.struct_told-1.given.0.1 c.struct_told-1.given.1.0.1 ∙ ap cell_host c.shown_at-w.ensures

pub view_cell_host_spec : {M : Type 1} → statement M
view_cell_host_spec = tie.close (tie.spec shown-at-requires returns)
