use Rattle.std.proofs.Common.{◌≡◌, ◌≤◌, List, length, ap, sym, ◌∙◌, arith, subst}
use Rattle.mv_layers.specs.LayerInfos.{LayerInfoValue}
use Rattle.mv_vps.proofs.Getting.{vps_layers_few, index_few}
use Rattle.mv_vps.proofs.vps.Vps.layer_index.Goals as goal

pub overflow_cast-result : goal.overflow_cast-result
overflow_cast-result c =
    let same : c.deref.result.now ≡ c.args.self.now.derived.layers = c.deref.ensures.value ∙ ap (λ i. i.derived.layers) c.self-inside.view_is ∙ ap (λ v. v.derived.layers) c.self.view_is in
    let few : length c.deref.result.now ≤ 63 = subst (λ (infos : List LayerInfoValue). length infos ≤ 63) (sym same) (vps_layers_few c.args.self.now c.requires) in
    let within = index_few c.deref.result.now c.args.layer c.in_ok-i.i few (sym c.in_ok-i.ensures) in omega (arith, within)
