use Rattle.std.proofs.Common.{◌≡◌, ◌+◌, length, arith}
use Rattle.mv_syntax.specs.Table.{ue}
use Rattle.mv_syntax.specs.Loops.{each}
use Rattle.mv_syntax.proofs.LoopLaws.{items-length, items-valid}
use Rattle.mv_syntax.proofs.PrintingLoops.{print_items_step}
use Rattle.mv_fields.proofs.printer.Printer.ues.Goals as goal

pub ue-requires : goal.ue-requires
unfolding each
ue-requires c =
    let count : length c.args.fields.now ≡ c.args.n = items-length (each ue) c.args.first c.args.n c.args.fields.now c.requires in
    items-valid (each ue) c.args.first c.args.n c.args.fields.now c.loop-i.i (c.args.first + c.loop-i.i) 0 c.requires (omega arith) (omega arith)

pub loop-i-preserved : goal.loop-i-preserved
unfolding each
loop-i-preserved c =
    let count : length c.args.fields.now ≡ c.args.n = items-length (each ue) c.args.first c.args.n c.args.fields.now c.requires in
    print_items_step (each ue) c.args.first _ _ _ c.loop-i.i (c.from.result + c.from-in-loop-i.result) 0 _ c.loop-i.invariant (omega arith) (omega arith) c.in_ok-outer.ensures
    c.in_ok-ue.ensures c.close.ensures
