use Rattle.mv_sps.specs.Sps.{sps_payload}
use Rattle.mv_contexts.proofs.FormatLaws.{format-sized}
use Rattle.mv_contexts.proofs.laws.a_format_has_a_size.Goals as goal

pub returns : goal.returns
unfolding sps_payload
returns c = λ v layer id vps_sub_layers sps tail format h valid e. format-sized v layer id vps_sub_layers sps format h valid.fields e
