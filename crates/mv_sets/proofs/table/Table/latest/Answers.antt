use Rattle.std.proofs.Common.{ap, sym, ◌∙◌, drop, ◌+◌}
use Rattle.std.proofs.lemmas.List.{at_drop_all, at_drop_more}
use Rattle.std.specs.Option.{option_copied}
use Rattle.mv_sets.specs.Tables.{found, later, latest_from}
use Rattle.mv_sets.proofs.table.Table.latest.Goals as goal

pub loop-layer-preserved : goal.loop-layer-preserved
unfolding latest_from
loop-layer-preserved g c =
    let f = found c.args.self.now c.args.id in
    let i = c.loop-layer.layer-index in
    let layers = c.args.layers.now in
    ap (λ best. latest_from f best (drop (i + 1) layers)) (c.later-best.ensures ∙ ap (later (option_copied c.loop-layer.best)) c.get.ensures)
    ∙ sym (at_drop_more (latest_from f (option_copied c.loop-layer.best)) layers i 0 c.loop-layer-test.true)
    ∙ c.loop-layer.invariant

pub returns : goal.returns
unfolding latest_from
returns g c =
    let f = found c.args.self.now c.args.id in
    sym (at_drop_all (latest_from f (option_copied c.loop-layer.best)) c.args.layers.now c.loop-layer.layer-index c.loop-layer-test.false) ∙ c.loop-layer.invariant
