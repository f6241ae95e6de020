use Rattle.std.proofs.Common.{◌≡◌}
use Rattle.mv_syntax.specs.inner.Reader.{read}
use Rattle.mv_syntax.specs.inner.Turns.{rest_of_items}
use Rattle.mv_vpsext.specs.Formats.{rep_format_idx, rep_format_idxs}
use Rattle.mv_vpsext.proofs.formats.rep_format_idxs_of.Given as goal

abbrev pub invariant-loop-i : goal.invariant-loop-i
invariant-loop-i l =
    (read (rep_format_idxs l.vps_max_layers_minus1 l.vps_num_rep_formats_minus1) l.fn.bits.left
    ≡ rest_of_items (rep_format_idx l.vps_num_rep_formats_minus1) l.i l.end l.all.items l.bits.left)
    × (l.bits.total ≡ l.fn.bits.total)
