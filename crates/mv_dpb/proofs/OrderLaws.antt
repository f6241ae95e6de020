-- One access unit more of a set.
use Rattle.std.proofs.Common.{◌≡◌, ◌∙◌, ℕ, suc, ◌≤◌, false, cond, List, ◌∷◌, length, drop, refl, ap, sym, arith}
use Rattle.std.specs.Prelude.{ℤ, Some, int_lt}
use Rattle.mv_history.specs.Order.{put, staying, tops, waits}
use Rattle.mv_dpb.specs.declared.set_order.Counted.{Counted}
use Rattle.mv_dpb.specs.OrderValue.{OrderValue}
use Rattle.mv_dpb.specs.SetOrder.{is_again, is_last, latest, order_after, with_unit}
use Rattle.mv_dpb.proofs.PutLaws.{length-put, staying-all, staying-rest}

with_unit-is : (s : OrderValue) (au : ℕ) (count : ℤ) (tops : List ℤ) → is_again s au count ≡ false → tops ≡ staying (suc s.reorder) (put int_lt count s.tops) →
    record { reorder = s.reorder; last = Some (record { au = au; count = count }); tops = tops } ≡ with_unit s au count
with_unit-is s au count tops again e =
    ap (λ xs. record { reorder = s.reorder; last = Some (record { au = au; count = count }); tops = xs }) e
    ∙ sym (ap (λ b. cond b s (record { reorder = s.reorder; last = Some (record { au = au; count = count }); tops = staying (suc s.reorder) (put int_lt count s.tops) })) again)

-- all counts stay where there are few
pub with_unit-all : (s : OrderValue) (au : ℕ) (count : ℤ) (tops : List ℤ) → is_again s au count ≡ false → length tops ≤ suc s.reorder → tops ≡ put int_lt count s.tops →
    record { reorder = s.reorder; last = Some (record { au = au; count = count }); tops = tops } ≡ with_unit s au count
with_unit-all s au count tops again few e =
    with_unit-is s au count tops again (e ∙ sym (staying-all (suc s.reorder) (put int_lt count s.tops) (omega (arith, ap length e))))

-- the least leaves where there is one more
pub with_unit-rest : (s : OrderValue) (au : ℕ) (count : ℤ) (tops rest : List ℤ) → is_again s au count ≡ false → length s.tops ≤ suc s.reorder → suc (suc s.reorder) ≤ length tops → tops ≡ put int_lt count s.tops → rest ≡ drop 1 tops →
    record { reorder = s.reorder; last = Some (record { au = au; count = count }); tops = rest } ≡ with_unit s au count
with_unit-rest s au count tops rest again few many e f =
    with_unit-is s au count rest again
    (f ∙ ap (drop 1) e ∙ sym (staying-rest (suc s.reorder) (put int_lt count s.tops) (omega (arith, ap length e, length-put int_lt count s.tops))))

-- an access unit more
pub after-more : (reorder : ℕ) (past : List Counted) (unit : Counted) → is_last (latest past) unit.au unit.count ≡ false → with_unit (order_after reorder past) unit.au unit.count ≡ order_after reorder (unit ∷ past)
unfolding waits
after-more reorder past unit h = sym (with_unit-is (order_after reorder past) unit.au unit.count (tops (λ u. u.count) reorder (unit ∷ past)) h refl)
