use Rattle.std.proofs.Common.{◌≡◌, ◌∙◌, sym, get_or, arith, rules}
use Rattle.std.specs.Prelude.{replicate}
use Rattle.std.proofs.lemmas.List.{ext_get_or, get_or-replicate, length-replicate}
use Rattle.mv_dpb.specs.SetOrder.{begun}
use Rattle.mv_dpb.proofs.order.OrderCheck.new.Goals as goal

pub returns : goal.returns
returns c =
    ext_get_or (begun 0) c.from_fn.result (replicate 64 (begun 0)) (c.from_fn.ensures.items.long ∙ sym (length-replicate 64 (begun 0)))
    (λ i h.
    let said = c.from_fn.ensures.items.at i (begun 0) (omega (arith, c.from_fn.ensures.items.long)) in
    let e : get_or c.from_fn.result i (begun 0) ≡ begun 0 = search rules in
    e ∙ sym (get_or-replicate 64 i (begun 0) (begun 0) (omega (arith, c.from_fn.ensures.items.long))))
