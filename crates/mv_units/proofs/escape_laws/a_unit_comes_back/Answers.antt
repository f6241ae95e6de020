use Rattle.mv_units.proofs.Unescaped.{escape-payload}
use Rattle.mv_units.proofs.escape_laws.a_unit_comes_back.Goals as goal

pub returns : goal.returns
returns c = λ u bytes good clean short framable. escape-payload u bytes good clean short framable
