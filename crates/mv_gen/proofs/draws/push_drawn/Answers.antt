use Rattle.std.proofs.Common.{◌≡◌, ◌∙◌, ap, sym, ℕ}
use Rattle.mv_gen.specs.Draws.{next, behind, byte_of, draw, drawn}
use Rattle.mv_gen.proofs.Steps.{behind_more, drawn_more}
use Rattle.mv_gen.proofs.draws.push_drawn.Goals as goal

pub loop-turn-preserved : goal.loop-turn-preserved
loop-turn-preserved c =
    let state : c.next-reached.result ≡ next (behind c.args.state c.loop-turn._turn) = c.next-reached.ensures ∙ ap next c.loop-turn.invariant.0 in
    let byte : c.byte_of.result ≡ byte_of (draw c.args.state c.loop-turn._turn) = c.byte_of.ensures ∙ ap byte_of c.drawn.ensures ∙ ap (λ (s : ℕ). byte_of (drawn s)) state in (
      state ∙ sym (behind_more c.args.state c.loop-turn._turn),
      drawn_more c.args.state c.loop-turn._turn c.byte_of.result c.args.bytes.now.items c.loop-turn.bytes.items c.push.new.self.items c.loop-turn.invariant.1 c.in_ok-push.ensures.items byte,
    )
