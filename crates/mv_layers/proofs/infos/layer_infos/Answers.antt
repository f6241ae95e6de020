use Rattle.std.proofs.Common.{length, ap, ◌∙◌, arith}
use Rattle.mv_layers.specs.References.{reaches}
use Rattle.mv_layers.proofs.ReachLaws.{row_at}
use Rattle.mv_layers.proofs.infos.layer_infos.Goals as goal

pub first_infos-requires-clause-reached : goal.first_infos-requires-clause-reached
first_infos-requires-clause-reached c i k h low =
    row_at c.coded.inside.direct_dependency_flag.now (length c.coded.inside.layer_id_in_nuh.now) (length c.coded.inside.layer_id_in_nuh.now) c.deref.result.now i k
    (c.deref.ensures.value ∙ c.in_ok-reached.ensures) h (omega (arith, h, low))
    ∙ ap (λ coded. reaches coded.direct_dependency_flag i k) c.coded.view_is
