use Rattle.std.proofs.Common.{◌+◌, ◌-◌, drop, ◌∙◌, arith}
use Rattle.std.proofs.lemmas.List.{length-take, length-drop}
use Rattle.mv_bytestream.proofs.scan_tests.units_in_pieces.Goals as goal

pub loop-at-preserved : goal.loop-at-preserved
loop-at-preserved c = record {
  within = omega (arith, c.in-Ok-feed.ensures.within, c.min.ensures, c.loop-at.invariant.within, length-take (c.loop-at.at + c.min.result - c.loop-at.at) (drop c.loop-at.at c.args.bytes.now), length-drop c.loop-at.at c.args.bytes.now);
  waiting = c.keep.ensures.waiting;
  ended = c.keep.ensures.ended ∙ c.in-Ok-feed.ensures.ended ∙ c.loop-at.invariant.ended;
  fed = omega (arith, c.keep.ensures.fed, c.in-Ok-feed.ensures.took, c.loop-at.invariant.fed);
}
