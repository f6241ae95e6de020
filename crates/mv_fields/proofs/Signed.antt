-- What a printer of a signed field needs.
use Rattle.mv_syntax.proofs.BitLaws.{se_code-above}

pub ruleset signed_steps = (se_code-above)
