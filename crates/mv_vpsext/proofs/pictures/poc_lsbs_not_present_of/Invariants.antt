use Rattle.std.proofs.Common.{◌≡◌}
use Rattle.mv_syntax.specs.inner.Reader.{read}
use Rattle.mv_syntax.specs.inner.Turns.{rest_of_items}
use Rattle.mv_vpsext.specs.Pictures.{poc_lsb_not_present, poc_lsbs_not_present}
use Rattle.mv_vpsext.proofs.pictures.poc_lsbs_not_present_of.Given as goal

abbrev pub invariant-loop-i : goal.invariant-loop-i
invariant-loop-i l =
    (read (poc_lsbs_not_present l.vps_max_layers_minus1 l.flags) l.fn.bits.left
    ≡ rest_of_items (poc_lsb_not_present l.flags) l.i l.end l.all.items l.bits.left)
    × (l.bits.total ≡ l.fn.bits.total)
