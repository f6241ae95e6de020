use Rattle.std.proofs.Common.{◌≡◌}
use Rattle.mv_syntax.specs.Table.{u}
use Rattle.mv_syntax.specs.inner.Reader.{read}
use Rattle.mv_syntax.specs.Loops.{each}
use Rattle.mv_syntax.specs.inner.Turns.{rest_of_items}
use Rattle.mv_vpslayers.specs.Dimensions.{view_id_vals}
use Rattle.mv_vpslayers.proofs.dimensions.view_id_vals_of.Given as goal

abbrev pub invariant-loop-i : goal.invariant-loop-i
invariant-loop-i l =
    (read (view_id_vals l.vps_max_layers_minus1 l.view_id_len) l.fn.bits.left ≡ rest_of_items (each (u l.view_id_len)) l.i l.end l.all.items l.bits.left)
    × (l.bits.total ≡ l.fn.bits.total)
