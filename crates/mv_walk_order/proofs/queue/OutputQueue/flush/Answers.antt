use Rattle.std.proofs.Common.{rules, ◌≡◌}
use Rattle.std.specs.Prelude.{option_map, slice_get}
use Rattle.mv_dpb.specs.Waiting.{given, without_first}
use Rattle.mv_walk_order.specs.Queue.{pictures_in}
use Rattle.mv_walk_order.proofs.QueueLaws.{flushed}
use Rattle.mv_walk_order.proofs.queue.OutputQueue.flush.Goals as goal

pub returns-clause-in_order : goal.returns-clause-in_order
returns-clause-in_order g c =
    let next : option_map (λ p. (p.0, p.1.value)) c.match-self.result ≡ option_map given (slice_get (pictures_in c.args.self.now) 0) = search rules in
    let rest : c.match-self.self-inside.waiting ≡ option_map without_first c.args.self.now = search rules in
    flushed c.args.self.now c.match-self.self-inside.waiting (option_map (λ p. (p.0, p.1.value)) c.match-self.result) next rest
