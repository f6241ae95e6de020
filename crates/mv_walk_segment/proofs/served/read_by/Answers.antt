use Rattle.std.proofs.Common.{sym, ap, subst}
use Rattle.std.specs.Prelude.{IfOk}
use Rattle.mv_syntax.specs.Table.{Valid}
use Rattle.mv_slice.specs.Context.{SliceContextValue}
use Rattle.mv_slice.specs.Slice.{slice_header}
use Rattle.mv_pictures.specs.Contexts.{slice_context}
use Rattle.mv_walk_segment.proofs.ReadLaws.{reads-by}
use Rattle.mv_walk_segment.proofs.served.read_by.Goals as goal

pub read_unit-requires-clause-layer : goal.read_unit-requires-clause-layer
unfolding slice_context
read_unit-requires-clause-layer c = sym (ap (λ (x : SliceContextValue). x.layer) c.slice_context-ctx.ensures.value)

pub returns-clause-answer : goal.returns-clause-answer
returns-clause-answer c = λ past q id segment bytes served.
    reads-by c.args.vps.now c.args.active.now c.args.head c.args.unit.now past q id segment bytes served _ c.read_unit.result c.slice_context-ctx.ensures.value c.read_unit.ensures.header c.read_unit.ensures.refused

pub returns-clause-valid : goal.returns-clause-valid
returns-clause-valid c =
    subst (λ (x : SliceContextValue). IfOk c.read_unit.result (λ header. Valid (slice_header x c.args.head.kind) header)) c.slice_context-ctx.ensures.value c.read_unit.ensures.valid
