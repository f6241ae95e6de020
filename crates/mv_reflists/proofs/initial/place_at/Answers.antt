use Rattle.std.proofs.Common.{◌<◌, ◌≤◌, ◌+◌, ◌-◌, length, get_or, drop, sym, ap, ◌∙◌, arith}
use Rattle.mv_reflists.specs.inner.Parts.{places_of}
use Rattle.mv_reflists.proofs.Places.{found_at, found_behind}
use Rattle.mv_reflists.proofs.initial.place_at.Goals as goal

pub returns-then-left-from : goal.returns-then-left-from
returns-then-left-from c =
    let less : c.loop-part.part-index < length c.args.order.now = omega arith in
    let within : c.loop-part.left < c.part-item.result.count = omega (arith, c.if-left-from.true, c.from.ensures) in
    sym (c.loop-part.invariant ∙ found_at c.args.order.now c.loop-part.part-index c.loop-part.left c.part-item.result less c.part-item.is within)

pub loop-part-preserved : goal.loop-part-preserved
loop-part-preserved c =
    let less : c.loop-part.part-index < length c.args.order.now = omega arith in
    let past : c.part-item.result.count ≤ c.loop-part.left = omega (arith, c.if-left-from.false, c.from.ensures) in
    c.loop-part.invariant
    ∙ found_behind c.args.order.now c.loop-part.part-index c.loop-part.left c.part-item.result less c.part-item.is past
    ∙ ap (λ n. get_or (places_of (drop (c.loop-part.part-index + 1) c.args.order.now)) (c.loop-part.left - n) 0) (sym c.from-left.ensures)
