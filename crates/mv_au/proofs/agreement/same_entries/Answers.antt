use Rattle.std.proofs.Common.{◌∙◌}
use Rattle.mv_pictures.specs.SliceRules.{same_long_term}
use Rattle.mv_au.proofs.AgreementLaws.{same_entry, same_list-is}
use Rattle.mv_au.proofs.agreement.same_entries.Goals as goal

pub returns : goal.returns
returns c = c.eq.ensures ∙ same_list-is _ same_long_term same_entry c.args.a.now c.args.b.now
