use Rattle.std.proofs.Common.{None, Some, ap, sym, ◌∙◌}
use Rattle.std.specs.Option.{option_copied}
use Rattle.mv_extract.proofs.Kept.{keeps-is}
use Rattle.mv_extract.proofs.keeping.keeps.Goals as goal

pub returns-in-Some : goal.returns-in-Some
returns-in-Some c = λ at is.
    c.keeps.ensures ∙ sym (keeps-is at c.args.vps.now c.args.ols c.args.head.layer (Some c.in-Some.set.now) is (ap option_copied (sym c.in-Some.is) ∙ c.ols.ensures))

pub returns-in-None : goal.returns-in-None
returns-in-None c = λ at is.
    sym (keeps-is at c.args.vps.now c.args.ols c.args.head.layer None is (ap option_copied (sym c.in-None.is) ∙ c.ols.ensures))
