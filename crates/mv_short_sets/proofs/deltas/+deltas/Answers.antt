use Rattle.std.proofs.Common.{◌≡◌, ◌+◌, ◌-◌, ◌<◌, ◌≤◌, true, List, length, get_or, take, [], sym, ap, ◌∙◌, subst, arith}
use Rattle.std.specs.Result.{IfOk}
use Rattle.mv_syntax.specs.Words.{or_zero, coded_set}
use Rattle.mv_short_sets.specs.ShortSetValue.{ShortSetValue}
use Rattle.mv_short_sets.specs.declared.delta.Delta.{Delta}
use Rattle.mv_short_sets.specs.Deltas.{IsSided, IsNear, reference, deltas, deltas_of_each}
use Rattle.mv_short_sets.proofs.SetLaws.{set_facts, reference_facts, earlier_facts}
use Rattle.mv_short_sets.proofs.deltas.+deltas.Goals as goal

-- the reference set stands among the sets before it
pub reference_deltas-deltas_of-requires : goal.reference_deltas-deltas_of-requires
reference_deltas-deltas_of-requires t c =
    let r = c.args.args.now.idx - c.or_zero.result - 1 in
    let less : r < c.args.args.now.idx = omega arith in
    let facts = earlier_facts c.args.args.now.idx c.args.args.now.num c.args.args.now.earlier.now r c.index-args-index.result c.requires.args less in
    let shorter : length (take r c.args.args.now.earlier.now) ≡ r = facts.args.all_earlier in
    (omega (arith, c.requires.args.all_earlier), (facts.args, facts.valid))

pub reference_deltas-returns : goal.reference_deltas-returns
reference_deltas-returns t c =
    let sets = c.args.args.now.earlier.now in
    let r = c.args.args.now.idx - c.or_zero.result - 1 in
    let less : r < c.args.args.now.idx = omega arith in
    let facts = earlier_facts c.args.args.now.idx c.args.args.now.num sets r c.index-args-index.result c.requires.args less in
    let same : deltas r (deltas_of_each (take r sets)) (get_or sets r c.index-args-index.result) ≡ reference c.args.args.now.idx (deltas_of_each sets) c.args.delta_idx_minus1
    = sym facts.is ∙ ap (λ z. get_or (deltas_of_each sets) (c.args.args.now.idx - z - 1) []) c.or_zero.ensures in
    subst (λ (l : List Delta). IfOk c.deltas_of.result (λ v. v.items ≡ l)) same c.deltas_of.ensures

pub deltas_of-reference_deltas-requires : goal.deltas_of-reference_deltas-requires
deltas_of-reference_deltas-requires t c =
    let facts = set_facts c.args.args.now.idx c.args.args.now.num (deltas_of_each c.args.args.now.earlier.now) c.args.set.now c.requires.valid in
    let flag : coded_set c.args.set.now.inter_ref_pic_set_prediction_flag ≡ true
    = ap (λ (s : ShortSetValue). coded_set s.inter_ref_pic_set_prediction_flag) (sym c.set.view_is) ∙ sym c.coded_set.ensures ∙ c.if-coded_set.true in
    let back : or_zero c.args.set.now.delta_idx_minus1 < c.args.args.now.idx = facts.back flag in
    let index : or_zero c.set.inside.delta_idx_minus1 ≡ or_zero c.args.set.now.delta_idx_minus1 = ap (λ (s : ShortSetValue). or_zero s.delta_idx_minus1) c.set.view_is in
    (omega arith, (c.requires.args, omega arith))

pub deltas_of-predicted_deltas-requires : goal.deltas_of-predicted_deltas-requires
deltas_of-predicted_deltas-requires t c =
    let idx = c.args.args.now.idx in
    let sets = c.args.args.now.earlier.now in
    let facts = set_facts idx c.args.args.now.num (deltas_of_each sets) c.args.set.now c.requires.valid in
    let flag : coded_set c.args.set.now.inter_ref_pic_set_prediction_flag ≡ true
    = ap (λ (s : ShortSetValue). coded_set s.inter_ref_pic_set_prediction_flag) (sym c.set.view_is) ∙ sym c.coded_set.ensures ∙ c.if-coded_set.true in
    let back : or_zero c.args.set.now.delta_idx_minus1 < idx = facts.back flag in
    let r = idx - or_zero c.args.set.now.delta_idx_minus1 - 1 in
    let less : r < idx = omega arith in
    let known = reference_facts idx c.args.args.now.num sets r c.requires.args less in
    let same : reference idx (deltas_of_each sets) c.args.set.now.delta_idx_minus1 ≡ c.deref.result.now
    = sym (c.deref.ensures.value ∙ c.in_ok-reference.ensures ∙ ap (λ (s : ShortSetValue). reference idx (deltas_of_each sets) s.delta_idx_minus1) c.set.view_is) in
    record {
      sides = subst IsSided same known.sides;
      near = subst (λ (l : List Delta). (k : _) (d : Delta) → k < length l → IsNear 4194304 (get_or l k d)) same known.near;
      few = subst (λ (l : List Delta). length l ≤ 16) same known.few;
      within = facts.abs;
      used = facts.used flag ∙ ap (λ (l : List Delta). length l + 1) same;
      use_delta = facts.use_delta flag ∙ ap (λ (l : List Delta). length l + 1) same;
    }

pub deltas_of-direct_deltas-requires : goal.deltas_of-direct_deltas-requires
deltas_of-direct_deltas-requires t c =
    let facts = set_facts c.args.args.now.idx c.args.args.now.num (deltas_of_each c.args.args.now.earlier.now) c.args.set.now c.requires.valid in
    record { flags0 = facts.flags0; few0 = facts.few0; low0 = facts.low0; flags1 = facts.flags1; few1 = facts.few1; low1 = facts.low1 }
