use Rattle.std.proofs.Common.{◌≡◌, ◌++◌, map}
use Rattle.std.specs.List.{range_with_len}
use Rattle.mv_gen.specs.Draws.{behind, byte_of, draw}
use Rattle.mv_gen.proofs.draws.push_drawn.Given as goal

abbrev pub invariant-loop-turn : goal.invariant-loop-turn
invariant-loop-turn l =
    (l.reached ≡ behind l.state l._turn)
    × (l.bytes.items ≡ l.initial.bytes.items ++ map (λ i. byte_of (draw l.state i)) (range_with_len 0 l._turn))
