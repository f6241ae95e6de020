use Rattle.std.proofs.Common.{length, subst}
use Rattle.mv_judging.specs.Format.{byte_stream}
use Rattle.mv_extract.specs.Text.{extraction, total}
use Rattle.mv_prefixed.specs.Form.{length_form}
use Rattle.mv_lenform.specs.Carrying.{carrying}
use Rattle.mv_lenform.specs.declared.carrier.Target.TheVariants.{Framed, Prefixed}
use Rattle.mv_cli.specs.declared.command.Command.TheVariants.{Check, Extract, Pack, Unpack}
use Rattle.mv_cli.specs.Words.{Means}
use Rattle.mv_cli.proofs.Headline.{as_plain, caused_by, less}
use Rattle.mv_cli.proofs.run.end.Goals as goal

pub returns-in-Some-Extract : goal.returns-in-Some-Extract
returns-in-Some-Extract g c =
    caused_by _ c.args.limit _ _ (Extract c.in-Some-Extract.ols) c.extract.result c.of.result (subst (Means _) c.in-Some-Extract.field-0-is c.in-Some-Extract.ensures)
    (less byte_stream (extraction c.in-Some-Extract.ols) (total c.in-Some-Extract.ols) c.args.limit _ _ c.extract.result c.extract.ensures.answers) c.of.ensures

pub returns-in-Some-Check : goal.returns-in-Some-Check
returns-in-Some-Check g c =
    caused_by _ c.args.limit _ _ Check c.check_all.result c.of-in-Some-Check.result (subst (Means _) c.in-Some-Check.field-0-is c.in-Some-Check.ensures)
    (as_plain c.args.limit _ _ c.check_all.result c.check_all.ensures) c.of-in-Some-Check.ensures

pub returns-in-Some-Pack : goal.returns-in-Some-Pack
returns-in-Some-Pack g c =
    caused_by _ c.args.limit _ _ Pack c.pack.result c.of-in-Some-Pack.result (subst (Means _) c.in-Some-Pack.field-0-is c.in-Some-Pack.ensures)
    (less byte_stream (carrying Prefixed) length c.args.limit _ _ c.pack.result c.pack.ensures.answers) c.of-in-Some-Pack.ensures

pub returns-in-Some-Unpack : goal.returns-in-Some-Unpack
returns-in-Some-Unpack g c =
    caused_by _ c.args.limit _ _ Unpack c.unpack.result c.of-in-Some-Unpack.result (subst (Means _) c.in-Some-Unpack.field-0-is c.in-Some-Unpack.ensures)
    (less length_form (carrying Framed) length c.args.limit _ _ c.unpack.result c.unpack.ensures.answers) c.of-in-Some-Unpack.ensures
