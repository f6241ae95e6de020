use Rattle.std.proofs.Common.{◌≡◌, ◌≤◌, ◌<◌, length, get_or, take, List, ap, ap₂, subst, ◌∙◌, arith}
use Rattle.std.specs.Result.{IfOk}
use Rattle.mv_short_sets.specs.ShortSetValue.{ShortSetValue}
use Rattle.mv_slice.specs.Context.{SliceContextValue}
use Rattle.mv_slice.proofs.Counting.{set_args, set_valid, used-at, used-none}
use Rattle.mv_slice.proofs.derived.num_used_of_sps.Goals as goal

pub returns-in_default-clause-is : goal.returns-in_default-clause-is
returns-in_default-clause-is c =
    let past : length c.ctx.inside.short_sets.now ≤ c.from-at.result = c.in_default.ensures.lookup.3 in
    let sets : c.ctx.inside.short_sets.now ≡ c.args.ctx.now.short_sets = ap (λ (ctx : SliceContextValue). ctx.short_sets) c.ctx.view_is in
    used-none c.args.ctx.now.short_sets c.args.idx (omega (arith, ap length sets, c.from-at.ensures))

pub num_used_of_set-requires-clause-args : goal.num_used_of_set-requires-clause-args
num_used_of_set-requires-clause-args c =
    let num = ap (λ (ctx : SliceContextValue). ctx.num_short_term_ref_pic_sets) c.ctx.view_is in
    let first : c.ctx.inside.short_sets.now ≡ c.args.ctx.now.short_sets = ap (λ (ctx : SliceContextValue). ctx.short_sets) c.ctx.view_is in
    let sets : c.ctx.inside.short_sets.now ≡ c.args.ctx.now.short_sets = ap (λ (ctx : SliceContextValue). ctx.short_sets) c.ctx.view_is in
    let here : c.from-at.result < length c.ctx.inside.short_sets.now = c.in-Some.ensures.lookup.3.0 in
    set_args c.args.ctx.now c.args.idx _ _ c.requires (omega (arith, here, ap length first, c.from-at.ensures)) num (ap₂ take c.from-at.ensures sets)

pub num_used_of_set-requires-clause-valid : goal.num_used_of_set-requires-clause-valid
num_used_of_set-requires-clause-valid c =
    let num = ap (λ (ctx : SliceContextValue). ctx.num_short_term_ref_pic_sets) c.ctx.view_is in
    let first : c.ctx.inside.short_sets.now ≡ c.args.ctx.now.short_sets = ap (λ (ctx : SliceContextValue). ctx.short_sets) c.ctx.view_is in
    let sets : c.ctx.inside.short_sets.now ≡ c.args.ctx.now.short_sets = ap (λ (ctx : SliceContextValue). ctx.short_sets) c.ctx.view_is in
    let here : c.from-at.result < length c.ctx.inside.short_sets.now = c.in-Some.ensures.lookup.3.0 in
    let there : c.in-Some.set.now ≡ get_or c.args.ctx.now.short_sets c.args.idx c.in-Some.set.now =
    c.in-Some.ensures.lookup.1 ∙ ap₂ (λ (l : List ShortSetValue) i. get_or l i c.in-Some.set.now) first c.from-at.ensures in
    set_valid c.args.ctx.now c.args.idx _ _ _ c.requires (omega (arith, here, ap length first, c.from-at.ensures)) num (ap₂ take c.from-at.ensures sets) there

pub returns-clause-is : goal.returns-clause-is
returns-clause-is c =
    let first : c.ctx.inside.short_sets.now ≡ c.args.ctx.now.short_sets = ap (λ (ctx : SliceContextValue). ctx.short_sets) c.ctx.view_is in
    let sets : c.ctx.inside.short_sets.now ≡ c.args.ctx.now.short_sets = ap (λ (ctx : SliceContextValue). ctx.short_sets) c.ctx.view_is in
    let here : c.from-at.result < length c.ctx.inside.short_sets.now = c.in-Some.ensures.lookup.3.0 in
    let there : c.in-Some.set.now ≡ get_or c.args.ctx.now.short_sets c.args.idx c.in-Some.set.now =
    c.in-Some.ensures.lookup.1 ∙ ap₂ (λ (l : List ShortSetValue) i. get_or l i c.in-Some.set.now) first c.from-at.ensures in
    subst (λ k. IfOk c.num_used_of_set.result (λ n. n ≡ k))
    (used-at c.args.ctx.now c.args.idx _ _ (omega (arith, here, ap length first, c.from-at.ensures)) (ap₂ take c.from-at.ensures sets) there)
    c.num_used_of_set.ensures.is
