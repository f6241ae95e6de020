use Rattle.std.proofs.Common.{◌+◌, ◌%◌, ap, ◌∙◌}
use Rattle.mv_gen.specs.Draws.{drawn, behind}
use Rattle.mv_gen.specs.Segments.{state_behind}
use Rattle.mv_gen.proofs.Steps.{segment_is}
use Rattle.mv_gen.proofs.generator.segment.Goals as goal

pub returns-clause-unit : goal.returns-clause-unit
returns-clause-unit c =
    segment_is c.args.state c.args.place c.next-first.result (1 + c.drawn.result % 64) c.head_of.result
    c.in_ok-payload.payload.items c.push_header.new.bytes.items c.push_drawn.new.bytes.items c.push.new.self.items c.deref.result.now c.in_ok-unit.unit.items
    c.next-first.ensures (ap (λ n. 1 + n % 64) c.drawn.ensures) c.in_ok-payload.ensures.items
    c.in_ok-push_header.ensures c.in_ok-state.ensures.bytes c.in_ok-push.ensures.items c.deref.ensures.value c.head_of.ensures.head c.in_ok-unit.ensures.unit

pub returns-clause-state : goal.returns-clause-state
unfolding state_behind
returns-clause-state c =
    c.in_ok-state.ensures.state ∙ ap (λ n. behind c.next-first.result (1 + n % 64)) c.drawn.ensures
    ∙ ap (λ s. behind s (1 + drawn s % 64)) c.next-first.ensures
