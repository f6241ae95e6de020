use Rattle.std.proofs.Common.{◌≡◌}
use Rattle.mv_syntax.specs.inner.Reader.{read}
use Rattle.mv_syntax.specs.inner.Turns.{rest_of_items}
use Rattle.mv_vpslayers.specs.Dimensions.{mask_flag, mask_flags}
use Rattle.mv_vpslayers.proofs.dimensions.mask_flags_of.Given as goal

abbrev pub invariant-loop-i : goal.invariant-loop-i
invariant-loop-i l =
    (read (mask_flags l.vps_max_layers_minus1) l.fn.bits.left ≡ rest_of_items (mask_flag l.vps_max_layers_minus1) l.i 16 l.all.items l.bits.left)
    × (l.bits.total ≡ l.fn.bits.total)
