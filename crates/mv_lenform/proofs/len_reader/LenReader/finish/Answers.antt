use Rattle.std.proofs.Common.{◌≡◌, ◌∙◌}
use Rattle.mv_lenform.specs.Stages.{scan_of}
use Rattle.mv_lenform.proofs.Feeding.{end-stands, end-ended, end-refused, end-same, never-refused}
use Rattle.mv_lenform.proofs.len_reader.LenReader.finish.Goals as goal

pub returns : goal.returns
returns c =
    let old = c.resume.new.self in
    let new = c.finish.new.self in
    let r = c.finish.result in
    let stage = c.resume.ensures.stage in
    let same : scan_of old ≡ c.args.self.now = c.resume.ensures.same ∙ c.self.view_is in
    let counts = end-same r old new c.args.self.now same c.finish.ensures.ended c.finish.ensures.refused in
    record {
      stands = end-stands r old new c.args.self.now stage same c.finish.ensures.ended;
      ended = end-ended r old new c.finish.ensures.ended;
      refused = end-refused r old new c.args.self.now stage same c.finish.ensures.cut c.finish.ensures.refused c.finish.ensures.fault;
      again = λ refusal is. absurd (never-refused old c.args.self.now refusal stage same is tt);
      given = counts.0;
      fed = counts.1;
    }
