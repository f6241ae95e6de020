use Rattle.std.proofs.Common.{length, take, arith, length-take}
use Rattle.mv_engine.proofs.Endings.{end-driven, gains-idle, gains-took, going-first, going-more, more-driven, piece-driven}
use Rattle.mv_engine.proofs.Fed.{idle-quiet}
use Rattle.mv_io.proofs.Taking.{Took-end}
use Rattle.mv_engine.proofs.driving.drive_pieces.Goals as goal

pub loop-room-init : goal.loop-room-init
loop-room-init g c = record {
  going = going-first g.R.UnitReader.format g.V.Visitor.meaning _ _ _ _ _ _ c.requires.fresh c.requires.stands (g.met.R.UnitReader.means _ _ c.requires.stands) (g.met.V.Visitor.begins _ _ c.requires.opens);
  source_count = omega arith;
}

pub returns-in-Ok-eq0-clause-driven : goal.returns-in-Ok-eq0-clause-driven
returns-in-Ok-eq0-clause-driven g c =
    let going = c.loop-room.invariant.going in
    let m = g.V.Visitor.meaning in
    let start = c.args.visitor.now in
    let first = c.args.out.now in
    let gains = c.in-Ok-eq0.ensures.reads start first going.taken going.idle in
    end-driven g.R.UnitReader.format m start c.handle_end.new.visitor first c.handle_end.new.out c.args.limit _ going.taken c.handle_end.result
    (gains-took _ _ c.in-Ok-eq0.field-0 going.taken going.took gains c.in-Ok-eq0.field-0-test)
    (omega (arith, going.within)) (idle-quiet going.idle)
    (c.handle_end.ensures.handles start first going.taken (gains-idle _ _ c.in-Ok-eq0.field-0 going.taken gains c.in-Ok-eq0.field-0-test))

pub loop-room-preserved : goal.loop-room-preserved
loop-room-preserved g c =
    let going = c.loop-room.invariant.going in
    record {
      going = going-more c.args.limit c.loop-room.room c.in-Ok.count _ _ _ _ going
          (c.in-Ok.ensures.reads c.args.visitor.now c.args.out.now going.taken going.idle) c.in-Ok.count-test.1 (omega (arith, c.in-Ok.ensures.bound, length-take c.min-most.result c.loop-room.piece));
      source_count = omega (arith, c.loop-room.invariant.source_count, c.in-Ok.ensures.source_count);
    }

pub returns-in-Err-clause-driven : goal.returns-in-Err-clause-driven
returns-in-Err-clause-driven g c =
    let going = c.loop-room.invariant.going in
    let m = g.V.Visitor.meaning in
    piece-driven g.R.UnitReader.format m c.args.visitor.now c.args.out.now _ _ c.loop-room.visitor c.read_piece.new.visitor c.loop-room.out c.read_piece.new.out (g.S.Source.state c.read_piece.new.source) c.args.limit (length (take c.min-most.result c.loop-room.piece))
    _ _ _ _ going.taken c.in-Err.error going.took
    (omega (arith, going.within, length-take c.min-most.result c.loop-room.piece))
    (omega (arith, length-take c.min-most.result c.loop-room.piece))
    c.loop-room.invariant.source_count going.idle (c.in-Err.ensures.reads c.args.visitor.now c.args.out.now going.taken going.idle)

pub returns-in-Ok-true-clause-driven : goal.returns-in-Ok-true-clause-driven
returns-in-Ok-true-clause-driven g c =
    let going = c.loop-room.invariant.going in
    more-driven g.R.UnitReader.format g.V.Visitor.meaning c.args.visitor.now c.args.out.now _ _ c.loop-room.out (g.S.Source.state c.has_more.new.source) c.args.limit _ _ going.taken going.took (omega (arith, going.within)) going.idle
    (rw c.in-Ok-true.field-0-test at c.in-Ok-true.ensures.ends)

pub returns-in-Ok-false-clause-driven : goal.returns-in-Ok-false-clause-driven
returns-in-Ok-false-clause-driven g c =
    let going = c.loop-room.invariant.going in
    let start = c.args.visitor.now in
    let first = c.args.out.now in
    end-driven g.R.UnitReader.format g.V.Visitor.meaning start c.handle_end-in-Ok-false.new.visitor first c.handle_end-in-Ok-false.new.out c.args.limit _ going.taken c.handle_end-in-Ok-false.result
    (Took-end going.took (rw c.in-Ok-false.field-0-test at c.in-Ok-false.ensures.ends))
    (omega (arith, going.within)) (idle-quiet going.idle)
    (c.handle_end-in-Ok-false.ensures.handles start first going.taken going.idle)
