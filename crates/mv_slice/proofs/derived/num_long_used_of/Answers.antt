use Rattle.std.proofs.Common.{◌≡◌, ◌≤◌, length, refl, ap, subst, ◌∙◌, arith}
use Rattle.std.specs.Option.{IfSome}
use Rattle.mv_syntax.specs.Table.{Valid}
use Rattle.mv_slice.specs.LongTerms.{LongTermsValue, long_terms}
use Rattle.mv_slice.specs.Derived.{num_long_used}
use Rattle.mv_slice.proofs.Counting.{few_entries}
use Rattle.mv_slice.proofs.derived.num_long_used_of.Goals as goal

pub returns-in-Some-clause-few : goal.returns-in-Some-clause-few
returns-in-Some-clause-few c =
    let few : length c.in-Some.some.entries ≤ 32
    = few_entries c.args.ctx.now c.in-Some.some (subst (λ o. IfSome o (λ some. Valid (long_terms c.args.ctx.now) some)) c.in-Some.is c.requires) in
    let same : length c.deref.result.now ≡ length c.in-Some.some.entries = ap length (c.deref.ensures.value ∙ ap (λ (v : LongTermsValue). v.entries) c.some.view_is) in
    omega (arith, c.num_used_entries.ensures.few)

pub returns-in-None-clause-is : goal.returns-in-None-clause-is
unfolding num_long_used
returns-in-None-clause-is c = rw c.in-None.is refl
