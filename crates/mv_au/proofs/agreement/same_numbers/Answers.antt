use Rattle.std.proofs.Common.{◌∙◌, refl}
use Rattle.std.specs.Prelude.{nat_eq}
use Rattle.mv_au.proofs.AgreementLaws.{same_list-is}
use Rattle.mv_au.proofs.agreement.same_numbers.Goals as goal

pub returns : goal.returns
returns c = c.eq.ensures ∙ same_list-is nat_eq nat_eq (λ a b. refl) c.args.a.now c.args.b.now
