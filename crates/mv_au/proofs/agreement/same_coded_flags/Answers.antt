use Rattle.std.proofs.Common.{◌∙◌}
use Rattle.std.specs.Prelude.{nat_eq}
use Rattle.std.specs.Option.{option_eq}
use Rattle.mv_pictures.specs.SliceRules.{same_field}
use Rattle.mv_au.proofs.AgreementLaws.{same_coded, same_list-is}
use Rattle.mv_au.proofs.agreement.same_coded_flags.Goals as goal

pub returns : goal.returns
returns c = c.eq.ensures ∙ same_list-is (option_eq nat_eq) same_field same_coded c.args.a.now c.args.b.now
