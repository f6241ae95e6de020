use Rattle.mv_syntax.proofs.AnswerLaws.{answers_ok, answers_err}
use Rattle.mv_fields.specs.Faults.{shared_means}
use Rattle.mv_short_sets.specs.Deltas.{deltas_of_each}
use Rattle.mv_short_sets.specs.ShortSet.{st_ref_pic_set}
use Rattle.mv_short_sets.proofs.short_set.ShortSet.read.Goals as goal

pub returns-in-Ok : goal.returns-in-Ok
returns-in-Ok c =
    answers_ok (λ v. v) shared_means (st_ref_pic_set c.args.args.now.idx c.args.args.now.num (deltas_of_each c.args.args.now.earlier.now)) _ _ _ _
    c.fork-ahead.ensures c.in-Ok.ensures

pub returns-in-Err : goal.returns-in-Err
returns-in-Err c =
    answers_err (λ v. v) shared_means (st_ref_pic_set c.args.args.now.idx c.args.args.now.num (deltas_of_each c.args.args.now.earlier.now)) _ _ _
    c.fork-ahead.ensures c.in-Err.ensures
