use Rattle.std.proofs.Common.{sym, ap}
use Rattle.mv_slice.specs.Context.{SliceContextValue}
use Rattle.mv_pictures.specs.Contexts.{slice_context}
use Rattle.mv_contexts_tests.proofs.context_tests.reads_by.Goals as goal

pub reads-requires-clause-layer : goal.reads-requires-clause-layer
unfolding slice_context
reads-requires-clause-layer c = sym (ap (λ (ctx : SliceContextValue). ctx.layer) c.slice_context-ctx.ensures.value)
