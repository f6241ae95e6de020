use Rattle.std.proofs.Common.{◌+◌, ◌-◌, ◌++◌, false, length, take, drop, ◌∙◌, subst}
use Rattle.mv_judging.specs.Event.{refused_at}
use Rattle.mv_engine.specs.inner.Handling.{Leaves, LeavesSome, LeavesStopped}
use Rattle.mv_engine.proofs.Fed.{countable-part, feed-refused, idle-again, idle-some, part-longer, part-whole, piece-handled, within-rest}
use Rattle.mv_engine.proofs.units.handle_piece.Goals as goal

pub returns-in-Err-Refused : goal.returns-in-Err-Refused
returns-in-Err-Refused g c = record {
  handles = λ start first s idle.
      let m = g.V.Visitor.meaning in
      let is = g.met.R.UnitReader.is_format in
      let piece = c.args.piece.now in
      let at = c.loop-fed.fed in
      let refuses = rw c.in-Err-Refused.field-0-is at c.in-Err-Refused.ensures.refused in
      let here = c.loop-fed.invariant.idle start first s idle in
      subst (λ v. LeavesStopped g.R.UnitReader.format (m.judge start) (m.wrote start first c.loop-fed.out) false v (refused_at c.in-Err-Refused.refusal)) (part-whole s piece at)
      (feed-refused is (s ++ take at piece) (take (length piece - at) (drop at piece)) c.in-Err-Refused.refusal here (refuses _ here.handled.holds));
}

pub returns-in-Err-Memory : goal.returns-in-Err-Memory
returns-in-Err-Memory g c = record {
  handles = λ start first s idle.
      let m = g.V.Visitor.meaning in
      let is = g.met.R.UnitReader.is_format in
      let piece = c.args.piece.now in
      let at = c.loop-fed.fed in
      subst (LeavesSome g.R.UnitReader.format (m.judge start) (m.wrote start first c.loop-fed.out) false) (part-whole s piece at)
      (idle-some false (s ++ take at piece) _ (c.loop-fed.invariant.idle start first s idle) (is.whole (s ++ take at piece) (take (length piece - at) (drop at piece))));
}

pub handle_unit-requires : goal.handle_unit-requires
handle_unit-requires g c =
    let s = c.requires.bytes in
    let piece = c.args.piece.now in
    let n = c.loop-fed.fed + c.in-Ok.count in
    record {
      start = c.requires.start;
      first = c.requires.first;
      bytes = s ++ take n piece;
      opens = c.requires.opens;
      handled = piece-handled g.met.R.UnitReader.is_format s piece c.loop-fed.fed c.in-Ok.count
          (c.loop-fed.invariant.idle c.requires.start c.requires.first s c.requires.idle) c.in-Ok.ensures.stands (g.met.R.UnitReader.means _) c.in-Ok.ensures.given c.in-Ok.ensures.ended;
      countable = countable-part s piece n c.requires.countable;
    }

pub loop-fed-preserved : goal.loop-fed-preserved
loop-fed-preserved g c =
    let piece = c.args.piece.now in
    let at = c.loop-fed.fed in
    let n = c.in-Ok.count in
    record {
      within = within-rest piece at n c.loop-fed.invariant.within c.in-Ok.ensures.within;
      idle = λ start first s idle.
          let here = c.loop-fed.invariant.idle start first s idle in
          idle-again g.R.UnitReader.format g.V.Visitor.meaning start first _ _ _ (g.R.UnitReader.reading c.feed.new.self) _ _ (s ++ take (at + n) piece)
          (c.in-Ok-handle_unit.ensures.handles start first (s ++ take (at + n) piece)
          (piece-handled g.met.R.UnitReader.is_format s piece at n here c.in-Ok.ensures.stands (g.met.R.UnitReader.means _) c.in-Ok.ensures.given c.in-Ok.ensures.ended))
          (c.in-Ok.ensures.ended ∙ here.goes_on);
    }

pub returns-in-Err : goal.returns-in-Err
returns-in-Err g c = record {
  handles = λ start first s idle.
      let m = g.V.Visitor.meaning in
      let piece = c.args.piece.now in
      let at = c.loop-fed.fed in
      let n = c.in-Ok.count in
      let here = c.loop-fed.invariant.idle start first s idle in
      part-longer g.R.UnitReader.format m start first c.handle_unit.new.out g.met.R.UnitReader.is_format s piece (at + n) c.in-Err.error
      (subst (λ b. Leaves g.R.UnitReader.format m start first c.handle_unit.new.out b (s ++ take (at + n) piece) c.in-Err.error) (c.in-Ok.ensures.ended ∙ here.goes_on)
      (c.in-Err.ensures.handles start first (s ++ take (at + n) piece)
      (piece-handled g.met.R.UnitReader.is_format s piece at n here c.in-Ok.ensures.stands (g.met.R.UnitReader.means _) c.in-Ok.ensures.given c.in-Ok.ensures.ended)));
}
