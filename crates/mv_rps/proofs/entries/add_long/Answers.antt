use Rattle.std.proofs.Common.{◌≡◌, ◌<◌, length, get_or, ap, ◌∙◌, arith}
use Rattle.mv_slice.specs.LongTerms.{LongTermsValue}
use Rattle.mv_rps.proofs.EntryLaws.{cycle_next, long_more}
use Rattle.mv_rps.proofs.entries.add_long.Goals as goal

pub loop-i-preserved : goal.loop-i-preserved
loop-i-preserved c =
    let all : c.long_terms.inside.entries.items ≡ c.args.long_terms.now.entries = ap (λ (v : LongTermsValue). v.entries) c.long_terms.view_is in
    let less : c.loop-i.i < length c.args.long_terms.now.entries = omega (arith, ap length all, c.len-i-end.ensures, c.loop-i-test.true, c.loop-i.auto.i-end) in
    let there : c.index.result.now ≡ get_or c.args.long_terms.now.entries c.loop-i.i c.index.result.now =
    c.index.ensures ∙ ap (λ l. get_or l c.loop-i.i c.index.result.now) all in (
      c.cycle_of-cycle.ensures.is ∙ cycle_next c.args.long_terms.now c.loop-i.i,
      c.cycle_of-cycle.ensures.low,
      long_more c.args.ctx.now c.args.long_terms.now c.loop-i.i _ c.loop-i.out.items _ c.index.result.now c.long_entry.result c.cycle_of-cycle.result
          c.loop-i.invariant.2 less there c.cycle_of-cycle.ensures.is c.long_entry.ensures c.in_ok-push.ensures.ok,
    )
