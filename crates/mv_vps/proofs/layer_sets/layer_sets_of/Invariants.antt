use Rattle.std.proofs.Common.{◌≡◌}
use Rattle.mv_syntax.specs.inner.Reader.{read}
use Rattle.mv_syntax.specs.Loops.{each}
use Rattle.mv_syntax.specs.inner.Turns.{rest_of_items}
use Rattle.mv_vpsext.specs.Args.{layer_set, layer_sets}
use Rattle.mv_vps.proofs.layer_sets.layer_sets_of.Given as goal

abbrev pub invariant-loop-i : goal.invariant-loop-i
invariant-loop-i l =
    (read (layer_sets l.vps_num_layer_sets_minus1 l.vps_max_layer_id) l.fn.bits.left
    ≡ rest_of_items (each (layer_set l.vps_max_layer_id)) l.i l.end l.all.items l.bits.left)
    × (l.bits.total ≡ l.fn.bits.total)
