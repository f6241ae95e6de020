use Rattle.std.proofs.Common.{◌+◌, arith}
use Rattle.mv_syntax.proofs.PrintingLoops.{print_items_step}
use Rattle.mv_vpsext.specs.Formats.{rep_format_idx}
use Rattle.mv_vpsext.proofs.formats.print_rep_format_idxs.Goals as goal

pub loop-k-preserved : goal.loop-k-preserved
loop-k-preserved c =
    print_items_step (rep_format_idx c.args.vps_num_rep_formats_minus1) 1 c.args.vps_max_layers_minus1 _ _ c.loop-k.k (c.loop-k.k + 1) _ _ c.loop-k.invariant c.loop-k-test.true (omega arith) c.in_ok-outer.ensures
    c.in_ok-print_rep_format_idx.ensures c.close.ensures
