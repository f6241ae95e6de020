use Rattle.std.proofs.Common.{◌+◌, arith}
use Rattle.mv_syntax.proofs.PrintingLoops.{print_items_step}
use Rattle.mv_vpsext.specs.Formats.{rep_format}
use Rattle.mv_vpsext.proofs.formats.print_rep_formats.Goals as goal

pub loop-i-preserved : goal.loop-i-preserved
loop-i-preserved c =
    print_items_step rep_format 0 (c.args.vps_num_rep_formats_minus1 + 1) _ _ c.loop-i.i c.loop-i.i _ _ c.loop-i.invariant c.loop-i-test.true (omega arith) c.in_ok-outer.ensures
    c.in_ok-print_rep_format.ensures c.close.ensures
