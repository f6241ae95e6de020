use Rattle.std.proofs.Common.{subst}
use Rattle.std.specs.Option.{IfSome}
use Rattle.mv_syntax.specs.Table.{Valid}
use Rattle.mv_slice.specs.LongTerms.{long_terms}
use Rattle.mv_slice.proofs.Counting.{few_entries}
use Rattle.mv_rps.proofs.entries.add_long_if.Goals as goal

pub add_long-requires : goal.add_long-requires
add_long-requires c = few_entries c.args.ctx.now c.in-Some.some (subst (λ o. IfSome o (λ some. Valid (long_terms c.args.ctx.now) some)) c.in-Some.is c.requires)
