use Rattle.std.proofs.Common.{length, filter, refl, ap, sym}
use Rattle.mv_pictures.specs.Items.{stays}
use Rattle.mv_walk.proofs.Empty.{no-items}
use Rattle.mv_walk.proofs.walker.Walker.new.Goals as goal

pub returns-clause-stands : goal.returns-clause-stands
returns-clause-stands g c = record {
  goes_on = refl;
  behind = record {
    number_is = refl;
    kept_is = ap (λ xs. length (filter (stays c.args.ols) xs)) (sym no-items);
    asked_is = c.in_ok-course.ensures.asked;
    stood = c.in_ok-course.ensures.stood;
  };
}
