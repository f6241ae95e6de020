use Rattle.std.proofs.Common.{◌≡◌, ◌++◌, [], ap, append-nil, Result, Ok, Err, IfOk, OnErr, List, ℕ, take, subst}
use Rattle.mv_io.specs.Buffer.{Queue}
use Rattle.mv_io.specs.Buffered.{HandsOn}
use Rattle.mv_io.specs.Sink.{SinkState}
use Rattle.mv_io.specs.declared.sink.SinkFailed.{SinkFailed}
use Rattle.mv_io.proofs.Handing.{HandsOn-then}
use Rattle.mv_io.proofs.buffered.put.Goals as goal

then-takes : (r : Result ℕ SinkFailed) (old mid new : SinkState) (waited none piece waiting : List ℕ) → HandsOn old mid waited none → none ≡ [] → IfOk r (λ n. HandsOn mid new (take n piece) waiting) → IfOk r (λ n. HandsOn old new (waited ++ take n piece) waiting)
then-takes (Ok n) old mid new waited none piece waiting first drained next = HandsOn-then old mid new waited none (take n piece) waiting first drained next
then-takes (Err e) old mid new waited none piece waiting first drained next = tt

then-fails : (r : Result ℕ SinkFailed) (old mid new : SinkState) (waited none waiting : List ℕ) → HandsOn old mid waited none → none ≡ [] → OnErr r (HandsOn mid new [] waiting) → OnErr r (HandsOn old new waited waiting)
then-fails (Ok n) old mid new waited none waiting first drained next = tt
then-fails (Err e) old mid new waited none waiting first drained next =
    subst (λ (s : List ℕ). HandsOn old new s waiting) (append-nil waited) (HandsOn-then old mid new waited none [] waiting first drained next)

pub returns-in-Ok-clause-hands_on : goal.returns-in-Ok-clause-hands_on
returns-in-Ok-clause-hands_on g c =
    then-takes c.put_empty.result _ _ _ _ _ c.args.piece.now _ c.in-Ok.ensures.hands_on (ap (λ (q : Queue). q.waiting) c.in-Ok.ensures.all) c.put_empty.ensures.hands_on

pub returns-in-Ok-clause-failed : goal.returns-in-Ok-clause-failed
returns-in-Ok-clause-failed g c =
    then-fails c.put_empty.result _ _ _ _ _ _ c.in-Ok.ensures.hands_on (ap (λ (q : Queue). q.waiting) c.in-Ok.ensures.all) c.put_empty.ensures.failed
