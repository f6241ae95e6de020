use Rattle.std.proofs.Common.{sym, subst, []}
use Rattle.mv_walk_order.specs.OrderValues.{OrdersValue}
use Rattle.mv_walk_order.specs.Orders.{Stands}
use Rattle.mv_walk_order.proofs.OrderLaws.{none-stands}
use Rattle.mv_walk_order.proofs.orders.OutputOrder.new.Goals as goal

pub returns-clause-stands : goal.returns-clause-stands
returns-clause-stands c =
    subst (λ xs. let s : OrdersValue = record { check = c.new.result; sets = xs } in Stands s []) (sym c.new-2.ensures) (none-stands c.new.result c.new.ensures)
