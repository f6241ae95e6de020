use Rattle.std.proofs.Common.{◌≡◌, ◌+◌, length, ap, ◌∙◌, arith}
use Rattle.std.proofs.lemmas.List.FromFn.{length-map-range_with_len}
use Rattle.mv_vpslayers.specs.Layers.{nuh_layer_id}
use Rattle.mv_vpslayers.proofs.layers.layers_described.Goals as goal

pub layer_infos-requires : goal.layer_infos-requires
layer_infos-requires c =
    let count : length c.deref.result.now ≡ c.from-count.result + 1 =
    ap length (c.deref.ensures.value ∙ c.in_ok-layer_id_in_nuh.ensures) ∙ length-map-range_with_len (nuh_layer_id c.args.layers.now) 0 (c.from-count.result + 1) in
    omega (arith, count, c.requires, c.from-count.ensures)
