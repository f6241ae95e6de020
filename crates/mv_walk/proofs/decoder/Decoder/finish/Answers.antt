use Rattle.std.proofs.Common.{rules, SFits, to_z-of_z, w32}
use Rattle.mv_walk.specs.Decoders.{IsButQueue}
use Rattle.mv_walk.proofs.Closing.{all-same, finished, same-queue}
use Rattle.mv_walk.proofs.decoder.Decoder.finish.Goals as goal
use Rattle.mv_walk.proofs.decoder.Decoder.finish.Goals.{then-output+in_default, else-output}

pub returns-clause-whole : goal.returns-clause-whole
returns-clause-whole g c =
    let fits : SFits w32 c.args.making.shown.count = search rules in
    let queued : IsButQueue c.args.self.now c.if-output.self = elim c.if-output.branch [
      | then-output+in_default w ↦ same-queue c.args.self.now w.wait.new.self c.if-output.self w.wait.ensures.rest w.self-is
      | else-output w ↦ all-same c.args.self.now c.if-output.self w.self-is
    ] in
    finished c.args.self.now c.if-output.self c.args.making c.in-Ok-new.pic.value _ c.index_mut.result.now c.finish-2.new.self queued (to_z-of_z fits) c.index_mut.ensures.value c.finish-2.ensures
