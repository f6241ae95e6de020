use Rattle.std.proofs.Common.{◌≡◌, ◌≤◌, ◌<◌, List, [], length, get_or, take, ap, ap₂, subst, sym, ◌∙◌, arith}
use Rattle.std.specs.Result.{IfOk}
use Rattle.std.proofs.lemmas.List.{get_or_past}
use Rattle.mv_short_sets.specs.ShortSetValue.{ShortSetValue}
use Rattle.mv_short_sets.specs.Deltas.{deltas_of_each}
use Rattle.mv_short_sets.proofs.DeltaLaws.{length-deltas_of_each}
use Rattle.mv_slice.specs.Context.{SliceContextValue}
use Rattle.mv_slice.proofs.Counting.{set_args, set_valid}
use Rattle.mv_rps.proofs.EntryLaws.{deltas_there}
use Rattle.mv_rps.proofs.entries.deltas_of_sps.Goals as goal

pub returns-in_default : goal.returns-in_default
returns-in_default c =
    let past : length c.ctx.inside.short_sets.now ≤ c.from-at.result = c.in_default.ensures.lookup.3 in
    let sets : c.ctx.inside.short_sets.now ≡ c.args.ctx.now.short_sets = ap (λ (ctx : SliceContextValue). ctx.short_sets) c.ctx.view_is in
    c.new.ensures.items
    ∙ sym (get_or_past (deltas_of_each c.args.ctx.now.short_sets) c.args.idx [] (omega (arith, ap length sets, c.from-at.ensures, length-deltas_of_each c.args.ctx.now.short_sets)))

pub deltas-requires-clause-args : goal.deltas-requires-clause-args
deltas-requires-clause-args c =
    let num = ap (λ (ctx : SliceContextValue). ctx.num_short_term_ref_pic_sets) c.ctx.view_is in
    let sets : c.ctx.inside.short_sets.now ≡ c.args.ctx.now.short_sets = ap (λ (ctx : SliceContextValue). ctx.short_sets) c.ctx.view_is in
    let here : c.from-at.result < length c.ctx.inside.short_sets.now = c.in-Some.ensures.lookup.3.0 in
    set_args c.args.ctx.now c.args.idx _ _ c.requires (omega (arith, here, ap length sets, c.from-at.ensures)) num (ap₂ take c.from-at.ensures sets)

pub deltas-requires-clause-valid : goal.deltas-requires-clause-valid
deltas-requires-clause-valid c =
    let num = ap (λ (ctx : SliceContextValue). ctx.num_short_term_ref_pic_sets) c.ctx.view_is in
    let sets : c.ctx.inside.short_sets.now ≡ c.args.ctx.now.short_sets = ap (λ (ctx : SliceContextValue). ctx.short_sets) c.ctx.view_is in
    let here : c.from-at.result < length c.ctx.inside.short_sets.now = c.in-Some.ensures.lookup.3.0 in
    let there : c.in-Some.set.now ≡ get_or c.args.ctx.now.short_sets c.args.idx c.in-Some.set.now =
    c.in-Some.ensures.lookup.1 ∙ ap₂ (λ (l : List ShortSetValue) i. get_or l i c.in-Some.set.now) sets c.from-at.ensures in
    set_valid c.args.ctx.now c.args.idx _ _ _ c.requires (omega (arith, here, ap length sets, c.from-at.ensures)) num (ap₂ take c.from-at.ensures sets) there

pub returns : goal.returns
returns c =
    let sets : c.ctx.inside.short_sets.now ≡ c.args.ctx.now.short_sets = ap (λ (ctx : SliceContextValue). ctx.short_sets) c.ctx.view_is in
    let here : c.from-at.result < length c.ctx.inside.short_sets.now = c.in-Some.ensures.lookup.3.0 in
    let there : c.in-Some.set.now ≡ get_or c.args.ctx.now.short_sets c.args.idx c.in-Some.set.now =
    c.in-Some.ensures.lookup.1 ∙ ap₂ (λ (l : List ShortSetValue) i. get_or l i c.in-Some.set.now) sets c.from-at.ensures in
    subst (λ k. IfOk c.deltas.result (λ v. v.items ≡ k))
    (deltas_there c.args.ctx.now c.args.idx _ _ (omega (arith, here, ap length sets, c.from-at.ensures)) (ap₂ take c.from-at.ensures sets) there)
    c.deltas.ensures
