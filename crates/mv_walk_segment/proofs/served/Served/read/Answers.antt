use Rattle.std.proofs.Common.{sym, ap, ◌∙◌}
use Rattle.mv_walk_segment.specs.OpenValue.{ServedValue}
use Rattle.mv_walk_segment.specs.Serving.{sets_by}
use Rattle.mv_walk_segment.proofs.served.Served.read.Goals as goal

pub returns-clause-answer : goal.returns-clause-answer
returns-clause-answer c = λ past q id segment bytes served.
    c.read_by.ensures.answer past q id segment bytes (served ∙ sym (ap (λ (s : ServedValue). sets_by s.active) c.self.view_is))
