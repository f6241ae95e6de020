use Rattle.std.proofs.Common.{◌≡◌, ◌∙◌, ap, subst, length, arith}
use Rattle.std.specs.Prelude.{false}
use Rattle.mv_dpb.proofs.Picking.{Picking, length-picked, named_few, picking-step, picking-end}
use Rattle.mv_dpb.proofs.picked.pick.Goals as goal

pub swap-requires-clause-i_in_bounds : goal.swap-requires-clause-i_in_bounds
swap-requires-clause-i_in_bounds g c =
    omega (arith, c.loop-i.items.ok.0, c.loop-i.invariant.0.count, named_few c.args.keep.now c.args.items.now.items c.requires.rising c.requires.within)

pub swap-requires-clause-j_in_bounds : goal.swap-requires-clause-j_in_bounds
swap-requires-clause-j_in_bounds g c =
    omega (arith, c.loop-i.items.ok.0, c.loop-i.invariant.0.count, c.requires.within c.loop-i.i (record { place = 0; long = false }) c.loop-i-test.true)

pub loop-i-preserved : goal.loop-i-preserved
loop-i-preserved g c =
    let step = picking-step c.args.items.now.items c.loop-i.items.items c.args.keep.now c.loop-i.i (record { place = 0; long = false }) c.loop-i-test.true c.requires.rising c.requires.within c.loop-i.invariant.0 in
    (rw c.swap.ensures.items step, c.swap.ensures.capacity ∙ c.loop-i.invariant.1)

pub returns-clause-items : goal.returns-clause-items
returns-clause-items g c =
    let all : c.loop-i.i ≡ length c.args.keep.now = omega arith in
    let s : Picking c.args.items.now.items c.loop-i.items.items c.args.keep.now (length c.args.keep.now) =
    subst (λ i. Picking c.args.items.now.items c.loop-i.items.items c.args.keep.now i) all c.loop-i.invariant.0 in
    c.truncate.ensures.items ∙ picking-end c.args.items.now.items c.loop-i.items.items c.args.keep.now s

pub returns-clause-count : goal.returns-clause-count
returns-clause-count g c =
    let all : c.loop-i.i ≡ length c.args.keep.now = omega arith in
    let s : Picking c.args.items.now.items c.loop-i.items.items c.args.keep.now (length c.args.keep.now) =
    subst (λ i. Picking c.args.items.now.items c.loop-i.items.items c.args.keep.now i) all c.loop-i.invariant.0 in
    ap length (c.truncate.ensures.items ∙ picking-end c.args.items.now.items c.loop-i.items.items c.args.keep.now s) ∙ length-picked c.args.keep.now c.args.items.now.items c.requires.within
