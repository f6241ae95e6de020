use Rattle.std.proofs.Common.{◌∙◌, Ok, Err, ap, sym, subst}
use Rattle.mv_rules.specs.declared.rule.Rule.TheVariants.{PpsSyntax}
use Rattle.mv_walk_sets.specs.Readings.{Reads, pps_reading}
use Rattle.mv_walk_sets.proofs.SetLaws.{pps_unit}
use Rattle.mv_walk_sets.proofs.pps.pps_of.Goals as goal

pub returns-in-Ok-read : goal.returns-in-Ok-read
returns-in-Ok-read c = λ past f it known is.
    pps_unit past c.args.unit.now c.in-Ok.payload.items f (Ok c.in-Ok-read.value) c.in-Ok.ensures it known is (ap pps_reading (sym c.deref.ensures.value) ∙ c.in-Ok-read.ensures)

pub returns-in-Err-read : goal.returns-in-Err-read
returns-in-Err-read c = λ past f it known is.
    pps_unit past c.args.unit.now c.in-Ok.payload.items f (Err c.in-Err-read.fault) c.in-Ok.ensures it known is
    (subst (λ q. Reads PpsSyntax (pps_reading q) (Err c.in-Err-read.fault)) c.deref.ensures.value c.in-Err-read.ensures)
