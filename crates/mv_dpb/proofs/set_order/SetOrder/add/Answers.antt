use Rattle.std.proofs.Common.{◌≡◌, ◌∙◌, ap, sym, arith, false, to_z, of_z, w32}
use Rattle.std.specs.Prelude.{ℤ, insert, int_lt}
use Rattle.std.proofs.lemmas.Int.{to_z-of_z}
use Rattle.mv_history.specs.Order.{put}
use Rattle.mv_dpb.specs.OrderValue.{OrderValue}
use Rattle.mv_dpb.specs.SetOrder.{is_again, with_unit}
use Rattle.std.specs.List.{position_or_len}
use Rattle.mv_dpb.proofs.PutLaws.{put-position}
use Rattle.mv_dpb.proofs.OrderLaws.{with_unit-all, with_unit-rest}
use Rattle.mv_dpb.proofs.set_order.SetOrder.add.Goals as goal

pub returns-then-len-self : goal.returns-then-len-self
returns-then-len-self c =
    let z : ℤ = to_z w32 (of_z w32 c.args.count) in
    let e : to_z w32 (of_z w32 c.args.count) ≡ c.args.count = to_z-of_z w32 c.args.count c.ranges.count in
    let s : OrderValue = record { reorder = c.self.inside.reorder; last = c.self.inside.last; tops = c.self.inside.tops.items } in
    let again : is_again s c.args.au z ≡ false = ap (λ v. is_again v c.args.au z) c.self.view_is ∙ sym c.is_again.ensures ∙ c.if-is_again.false in
    let added : c.insert.new.self.items ≡ put int_lt z c.self.inside.tops.items =
    c.insert.ensures.items
    ∙ ap (λ i. insert c.self.inside.tops.items i z) (c.place_among-place.ensures.place ∙ ap (position_or_len (int_lt z)) c.as_slice.ensures.value)
    ∙ put-position int_lt z c.self.inside.tops.items in
    with_unit-rest s c.args.au z c.insert.new.self.items c.remove.new.self.items again c.self.invariant.1 (omega (arith, c.len.ensures.value)) added c.remove.ensures.items
    ∙ ap (λ v. with_unit v c.args.au z) c.self.view_is
    ∙ ap (with_unit c.args.self.now c.args.au) e

pub returns-else-len-self : goal.returns-else-len-self
returns-else-len-self c =
    let z : ℤ = to_z w32 (of_z w32 c.args.count) in
    let e : to_z w32 (of_z w32 c.args.count) ≡ c.args.count = to_z-of_z w32 c.args.count c.ranges.count in
    let s : OrderValue = record { reorder = c.self.inside.reorder; last = c.self.inside.last; tops = c.self.inside.tops.items } in
    let again : is_again s c.args.au z ≡ false = ap (λ v. is_again v c.args.au z) c.self.view_is ∙ sym c.is_again.ensures ∙ c.if-is_again.false in
    let added : c.insert.new.self.items ≡ put int_lt z c.self.inside.tops.items =
    c.insert.ensures.items
    ∙ ap (λ i. insert c.self.inside.tops.items i z) (c.place_among-place.ensures.place ∙ ap (position_or_len (int_lt z)) c.as_slice.ensures.value)
    ∙ put-position int_lt z c.self.inside.tops.items in
    with_unit-all s c.args.au z c.insert.new.self.items again (omega (arith, c.len.ensures.value)) added
    ∙ ap (λ v. with_unit v c.args.au z) c.self.view_is
    ∙ ap (with_unit c.args.self.now c.args.au) e
