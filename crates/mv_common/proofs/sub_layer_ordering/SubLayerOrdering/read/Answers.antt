use Rattle.mv_syntax.proofs.AnswerLaws.{answers_ok, answers_err}
use Rattle.mv_fields.specs.Faults.{shared_means}
use Rattle.mv_common.specs.SubLayerOrdering.{sub_layer_ordering}
use Rattle.mv_common.proofs.sub_layer_ordering.SubLayerOrdering.read.Goals as goal

pub returns-in-Ok : goal.returns-in-Ok
returns-in-Ok c = answers_ok (λ v. v) shared_means (sub_layer_ordering c.args.set c.args.subs) _ _ _ _ c.fork-ahead.ensures c.in-Ok.ensures

pub returns-in-Err : goal.returns-in-Err
returns-in-Err c = answers_err (λ v. v) shared_means (sub_layer_ordering c.args.set c.args.subs) _ _ _ c.fork-ahead.ensures c.in-Err.ensures
