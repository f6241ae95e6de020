use Rattle.std.proofs.Common.{rules, tests}
use Rattle.std.proofs.lemmas.Iterator.{YieldsList-from_slice}
use Rattle.std.proofs.lemmas.Iterator.Search.{find_from_yields_List}
use Rattle.mv_layers.specs.LayerInfos.{is_layer}
use Rattle.mv_layers.proofs.infos.layer_named.Goals as goal

pub returns : goal.returns
returns c = find_from_yields_List (is_layer c.args.id) _ _ _ c.find.ensures.ran (YieldsList-from_slice c.args.infos.now cc) (λ x b q k. search (rules, tests))
