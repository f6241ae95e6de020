-- The check of output order for one output layer set (C.5.2): pictures leave when more access units wait than its reorder
-- number, so one that stands before more than so many earlier access units comes late.
use Rattle.std.specs.Prelude.{ℕ, ℤ, suc, Bool, false, Option, Some, None, List, [], nat_eq, int_lt, get_or, ◌∷◌, ◌&&◌, if◌then◌else◌}
use Rattle.std.specs.Ordering.{int_eq}
use Rattle.mv_history.specs.Order.{is_above, put, staying, tops}
use Rattle.mv_dpb.specs.declared.set_order.Counted.{Counted}
use Rattle.mv_dpb.specs.OrderValue.{OrderValue}

-- a set whose sequence begins
abbrev pub begun : ℕ → OrderValue
begun reorder = record { reorder = reorder; last = None; tops = [] }

-- a set by its number
abbrev pub order_of : List OrderValue → ℕ → OrderValue
order_of sets set = get_or sets set (begun 0)

-- a picture comes late: more access units than may wait have a greater count
abbrev pub comes_late : OrderValue → ℤ → Bool
comes_late order count = is_above order.reorder int_lt order.tops count

-- a picture is in the access unit of the last one, and has its count
abbrev pub is_last : Option Counted → ℕ → ℤ → Bool
is_last None au count = false
is_last (Some last) au count = nat_eq last.au au && int_eq last.count count

abbrev pub is_again : OrderValue → ℕ → ℤ → Bool
is_again order au count = is_last order.last au count

-- one picture more: its access unit is counted, unless another of its pictures was the last
abbrev pub with_unit : OrderValue → ℕ → ℤ → OrderValue
with_unit order au count =
    if is_again order au count then order else record { reorder = order.reorder; last = Some (record { au = au; count = count }); tops = staying (suc order.reorder) (put int_lt count order.tops) }

-- the latest of some access units, which are listed with the latest first
abbrev pub latest : List Counted → Option Counted
latest [] = None
latest (unit ∷ past) = Some unit

-- what is kept of a set once these access units were counted
abbrev pub order_after : ℕ → List Counted → OrderValue
order_after reorder past = record { reorder = reorder; last = latest past; tops = tops (λ unit. unit.count) reorder past }
