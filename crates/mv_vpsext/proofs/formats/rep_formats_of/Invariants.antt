use Rattle.std.proofs.Common.{◌≡◌}
use Rattle.mv_syntax.specs.inner.Reader.{read}
use Rattle.mv_syntax.specs.inner.Turns.{rest_of_items}
use Rattle.mv_vpsext.specs.Formats.{rep_format, rep_formats}
use Rattle.mv_vpsext.proofs.formats.rep_formats_of.Given as goal

abbrev pub invariant-loop-i : goal.invariant-loop-i
invariant-loop-i l =
    (read (rep_formats l.vps_num_rep_formats_minus1) l.fn.bits.left ≡ rest_of_items rep_format l.i l.turns l.all.items l.bits.left)
    × (l.bits.total ≡ l.fn.bits.total)
