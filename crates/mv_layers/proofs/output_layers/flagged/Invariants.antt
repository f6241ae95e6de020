use Rattle.std.proofs.Common.{◌≡◌, get_or, map}
use Rattle.std.specs.List.{filter, range_with_len}
use Rattle.mv_syntax.specs.Words.{is_set}
use Rattle.mv_layers.proofs.output_layers.flagged.Given as goal

abbrev pub invariant-loop-j : goal.invariant-loop-j
invariant-loop-j l =
    l.all.items ≡ map (λ j. get_or l.layers j 0) (filter (λ j. is_set (get_or l.output_layer_flag j 0)) (range_with_len 0 l.j))
