use Rattle.std.proofs.Common.{◌≡◌, ◌∙◌, ap, sym, arith, get_or, length, rules, to_z, of_z, w32}
use Rattle.std.specs.Prelude.{pos, int_lt}
use Rattle.std.specs.List.{position_or_len}
use Rattle.std.proofs.lemmas.Int.{to_z-of_z}
use Rattle.mv_dpb.proofs.PutLaws.{position-more, position-end}
use Rattle.mv_dpb.proofs.set_order.place_among.Goals as goal

pub loop-i-preserved : goal.loop-i-preserved
loop-i-preserved c =
    let e : to_z w32 (of_z w32 (get_or c.args.counts.now c.loop-i.i (pos 0))) ≡ get_or c.args.counts.now c.loop-i.i (pos 0) =
    to_z-of_z w32 (get_or c.args.counts.now c.loop-i.i (pos 0)) (search rules) in
    position-more (int_lt (to_z w32 (of_z w32 c.args.count))) c.args.counts.now c.loop-i.i (pos 0) c.loop-i-test.true (rw e at c.if-count-other.false) c.loop-i.invariant

pub returns-clause-place : goal.returns-clause-place
returns-clause-place c =
    let all : length c.args.counts.now ≡ c.loop-i.i = omega arith in
    all
    ∙ sym (position-end (int_lt (to_z w32 (of_z w32 c.args.count))) c.args.counts.now c.loop-i.i c.loop-i-test.false c.loop-i.invariant)
    ∙ ap (λ z. position_or_len (int_lt z) c.args.counts.now) (to_z-of_z w32 c.args.count c.ranges.count)
