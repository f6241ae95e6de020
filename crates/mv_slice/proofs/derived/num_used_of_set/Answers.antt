use Rattle.std.proofs.Common.{◌≡◌, ◌+◌, ◌≤◌, false, length, sym, ap, ap₂, ◌∙◌, arith}
use Rattle.std.specs.List.{filter}
use Rattle.mv_syntax.specs.Words.{is_set, coded_set}
use Rattle.mv_short_sets.specs.ShortSetValue.{ShortSetValue}
use Rattle.mv_short_sets.specs.Deltas.{deltas, deltas_of_each}
use Rattle.mv_slice.specs.Derived.{num_short_used}
use Rattle.mv_slice.proofs.Counting.{used-direct, used-few}
use Rattle.mv_slice.proofs.derived.num_used_of_set.Goals as goal

pub returns-then-coded_set-clause-few : goal.returns-then-coded_set-clause-few
returns-then-coded_set-clause-few c =
    let few : num_short_used (deltas c.args.args.now.idx (deltas_of_each c.args.args.now.earlier.now) c.args.set.now) ≤ 16
    = used-few c.args.args.now.idx c.args.args.now.num (deltas_of_each c.args.args.now.earlier.now) c.args.set.now c.requires.valid in
    let same : c.num_used_deltas.result ≡ num_short_used (deltas c.args.args.now.idx (deltas_of_each c.args.args.now.earlier.now) c.args.set.now)
    = c.num_used_deltas.ensures ∙ ap num_short_used (c.deref.ensures.value ∙ c.in_ok-deltas.ensures) in
    omega arith

-- the ones among the flags of both sides
counted : (c : goal.After-num_set-2) → c.num_set.result + c.num_set-2.result ≡ num_short_used (deltas c.args.args.now.idx (deltas_of_each c.args.args.now.earlier.now) c.args.set.now)
counted c =
    let first : c.num_set.result ≡ length (filter is_set c.args.set.now.used_by_curr_pic_s0_flag)
    = c.num_set.ensures ∙ ap (λ l. length (filter is_set l)) (c.deref-2.ensures.value ∙ ap (λ (s : ShortSetValue). s.used_by_curr_pic_s0_flag) c.set.view_is) in
    let second : c.num_set-2.result ≡ length (filter is_set c.args.set.now.used_by_curr_pic_s1_flag)
    = c.num_set-2.ensures ∙ ap (λ l. length (filter is_set l)) (c.deref-3.ensures.value ∙ ap (λ (s : ShortSetValue). s.used_by_curr_pic_s1_flag) c.set.view_is) in
    let flag : coded_set c.args.set.now.inter_ref_pic_set_prediction_flag ≡ false
    = ap (λ (s : ShortSetValue). coded_set s.inter_ref_pic_set_prediction_flag) (sym c.set.view_is) ∙ sym c.coded_set.ensures ∙ c.if-coded_set.false in
    ap₂ (λ m n. m + n) first second
    ∙ used-direct c.args.args.now.idx c.args.args.now.num (deltas_of_each c.args.args.now.earlier.now) c.args.set.now c.requires.valid flag

few : (c : goal.After-num_set-2) → c.num_set.result + c.num_set-2.result ≤ 16
few c =
    let most : num_short_used (deltas c.args.args.now.idx (deltas_of_each c.args.args.now.earlier.now) c.args.set.now) ≤ 16
    = used-few c.args.args.now.idx c.args.args.now.num (deltas_of_each c.args.args.now.earlier.now) c.args.set.now c.requires.valid in
    let same = counted c in
    omega (arith, same)

pub overflow_add-result : goal.overflow_add-result
overflow_add-result c = let sum = few c in omega (arith, sum)

pub returns-clause-is : goal.returns-clause-is
returns-clause-is c = counted c

pub returns-clause-few : goal.returns-clause-few
returns-clause-few c = few c
