use Rattle.std.proofs.Common.{◌∙◌, ap, arith, set}
use Rattle.std.proofs.lemmas.List.Edits.{map_over_more}
use Rattle.mv_dpb.specs.Waits.{begun_with}
use Rattle.mv_dpb.proofs.waits.begin.Goals as goal

pub loop-i-preserved : goal.loop-i-preserved
loop-i-preserved c = (
  ap (set c.loop-i.waits.items c.loop-i.i) c.begun_with.ensures
      ∙ map_over_more (begun_with c.args.au) c.args.waits.now.items c.loop-i.waits.items c.loop-i.i c.index.result.now
      (omega (arith, c.len-i-end.ensures, c.args.waits.now.ok.0)) c.loop-i.invariant.0 c.index.ensures,
  c.loop-i.invariant.1,
)
