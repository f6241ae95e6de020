use Rattle.std.proofs.Common.{[], take, Result, Ok, Err, IfOk, ◌≡◌, ℕ, List}
use Rattle.mv_io.specs.declared.sink.SinkFailed.{SinkFailed}
use Rattle.mv_io.specs.Sink.{SinkState, WriteAppends}
use Rattle.mv_io.specs.Buffered.{HandsOn}
use Rattle.mv_io.proofs.Handing.{HandsOn-all}
use Rattle.mv_io.proofs.buffered.put_empty.Goals as goal

past : (r : Result ℕ SinkFailed) (old new : SinkState) (piece waiting : List ℕ) → WriteAppends old.taken new.taken r piece → waiting ≡ [] → IfOk r (λ n. HandsOn old new (take n piece) waiting)
past (Ok n) old new piece waiting appends none = HandsOn-all old new (take n piece) waiting appends.appends none
past (Err e) old new piece waiting appends none = tt

pub returns-then-piece-gt-BUFFER_LEN-clause-hands_on : goal.returns-then-piece-gt-BUFFER_LEN-clause-hands_on
returns-then-piece-gt-BUFFER_LEN-clause-hands_on g c =
    let e = c.requires.empty in
    past c.write.result _ _ c.args.piece.now c.args.buffer.now.waiting c.write.ensures.appends cc
