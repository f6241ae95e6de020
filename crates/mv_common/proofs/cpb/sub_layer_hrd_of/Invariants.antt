use Rattle.std.proofs.Common.{◌≡◌}
use Rattle.mv_syntax.specs.inner.Reader.{read}
use Rattle.mv_syntax.specs.inner.Turns.{rest_of_items}
use Rattle.mv_common.specs.Hrd.{cpb, sub_layer_hrd}
use Rattle.mv_common.proofs.cpb.sub_layer_hrd_of.Given as goal

abbrev pub invariant-loop-k : goal.invariant-loop-k
invariant-loop-k l =
    (read (sub_layer_hrd l.sub_pic l.cpb_cnt_minus1) l.fn.bits.left ≡ rest_of_items (cpb l.sub_pic) l.k l.turns l.cpbs.items l.bits.left)
    × (l.bits.total ≡ l.fn.bits.total)
