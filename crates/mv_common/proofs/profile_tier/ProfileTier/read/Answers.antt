use Rattle.mv_syntax.proofs.AnswerLaws.{answers_ok, answers_err}
use Rattle.mv_fields.specs.Faults.{shared_means}
use Rattle.mv_common.specs.ProfileTier.{profile_tier_level}
use Rattle.mv_common.proofs.profile_tier.ProfileTier.read.Goals as goal

pub returns-in-Ok : goal.returns-in-Ok
returns-in-Ok c = answers_ok (λ v. v) shared_means (profile_tier_level c.args.args.now.present c.args.args.now.subs) _ _ _ _ c.fork-ahead.ensures c.in-Ok.ensures

pub returns-in-Err : goal.returns-in-Err
returns-in-Err c = answers_err (λ v. v) shared_means (profile_tier_level c.args.args.now.present c.args.args.now.subs) _ _ _ c.fork-ahead.ensures c.in-Err.ensures
