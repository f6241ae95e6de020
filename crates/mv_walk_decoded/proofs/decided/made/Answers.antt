use Rattle.mv_walk_decoded.specs.Actives.{in_place}
use Rattle.mv_walk_decoded.proofs.Bounds.{after-few, all-l0, all-l1, before-few, few-l0, few-l1, long-few, one-within, zero-within}
use Rattle.mv_walk_decoded.proofs.decided.made.Goals as goal

pub with_lists-requires-clause-active_l0 : goal.with_lists-requires-clause-active_l0
with_lists-requires-clause-active_l0 g c = few-l0 c.args.ctx.now c.args.first.head.kind c.args.header.now c.requires.fits c.requires.valid

pub with_lists-requires-clause-active_l1 : goal.with_lists-requires-clause-active_l1
with_lists-requires-clause-active_l1 g c = few-l1 c.args.ctx.now c.args.first.head.kind c.args.header.now c.requires.fits c.requires.valid

pub with_lists-requires-clause-entries_l0 : goal.with_lists-requires-clause-entries_l0
with_lists-requires-clause-entries_l0 g c = all-l0 c.args.ctx.now c.args.first.head.kind c.args.header.now c.requires.fits c.requires.valid

pub with_lists-requires-clause-entries_l1 : goal.with_lists-requires-clause-entries_l1
with_lists-requires-clause-entries_l1 g c = all-l1 c.args.ctx.now c.args.first.head.kind c.args.header.now c.requires.fits c.requires.valid

pub with_lists-requires-clause-before : goal.with_lists-requires-clause-before
with_lists-requires-clause-before g c = before-few _ _ _ c.in-Ok-count_of.counted.resolved c.in-Ok-count_of.ensures.made.1.resolved

pub with_lists-requires-clause-after : goal.with_lists-requires-clause-after
with_lists-requires-clause-after g c = after-few _ _ _ c.in-Ok-count_of.counted.resolved c.in-Ok-count_of.ensures.made.1.resolved

pub with_lists-requires-clause-long : goal.with_lists-requires-clause-long
with_lists-requires-clause-long g c = long-few _ _ _ c.in-Ok-count_of.counted.resolved c.in-Ok-count_of.ensures.made.1.resolved

pub with_lists-requires-clause-zero : goal.with_lists-requires-clause-zero
with_lists-requires-clause-zero g c =
    zero-within c.args.ctx.now c.args.first.head.kind c.args.header.now c.requires.fits c.requires.valid c.args.layers.now (in_place c.args.vps.now) c.args.first.head.layer c.args.first.au c.in-Ok.actives.items
    c.in-Ok-inter_layer_of.inter_layer c.in-Ok.ensures.1 c.in-Ok-inter_layer_of.ensures.1

pub with_lists-requires-clause-one : goal.with_lists-requires-clause-one
with_lists-requires-clause-one g c =
    one-within c.args.ctx.now c.args.first.head.kind c.args.header.now c.requires.fits c.requires.valid c.args.layers.now (in_place c.args.vps.now) c.args.first.head.layer c.args.first.au c.in-Ok.actives.items
    c.in-Ok-inter_layer_of.inter_layer c.in-Ok.ensures.1 c.in-Ok-inter_layer_of.ensures.1
