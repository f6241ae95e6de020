use Rattle.std.proofs.Common.{◌≡◌, max, option_map, take}
use Rattle.std.specs.List.{fold}
use Rattle.mv_vpssets.specs.Sets.{sub_layers_of}
use Rattle.mv_vpssets.proofs.sets.greatest_sub_layers.Given as goal

abbrev pub invariant-loop-layer : goal.invariant-loop-layer
invariant-loop-layer l =
    l.greatest
    ≡ fold (λ so_far id. max so_far (sub_layers_of l.infos l.vps_max_sub_layers_minus1 (option_map (λ v. v.items) l.sub_layers_vps_max_minus1) id)) 0
    (take l.layer-index l.layers)
