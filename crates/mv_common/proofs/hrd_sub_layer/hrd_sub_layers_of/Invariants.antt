use Rattle.std.proofs.Common.{◌≡◌}
use Rattle.mv_syntax.specs.inner.Reader.{read}
use Rattle.mv_syntax.specs.inner.Turns.{rest_of_items}
use Rattle.mv_common.specs.Hrd.{hrd_sub_layer, hrd_sub_layers}
use Rattle.mv_common.proofs.hrd_sub_layer.hrd_sub_layers_of.Given as goal

abbrev pub invariant-loop-i : goal.invariant-loop-i
invariant-loop-i l =
    (read (hrd_sub_layers l.subs l.flags) l.fn.bits.left ≡ rest_of_items (hrd_sub_layer l.flags) l.i l.turns l.sub_layers.items l.bits.left)
    × (l.bits.total ≡ l.fn.bits.total)
