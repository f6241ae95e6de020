use Rattle.std.proofs.Common.{ℕ, ◌≡◌, ◌+◌, ◌≤◌, List, ◌++◌, take, drop, length, arith, refl}
use Rattle.std.proofs.lemmas.List.{drop-append-le, length-take-le}
use Rattle.std.proofs.lemmas.Slice.{take-put_mid}
use borrow.Rule.Slice.PartMut.{put_mid}
use Rattle.mv_io.specs.Buffer.{Queue}
use Rattle.mv_io.proofs.buffer.Buffer.push.Goals as goal

-- what waits once a piece was written behind it
waiting-push : (bytes piece : List ℕ) (start end k : ℕ) → start ≤ end → end ≤ length bytes → drop start (take (end + length piece) (put_mid end k bytes piece)) ≡ drop start (take end bytes) ++ piece
waiting-push bytes piece start end k ordered within =
    rw (take-put_mid end k bytes piece (end + length piece) refl within)
    (drop-append-le start (take end bytes) piece (omega (arith, ordered, length-take-le end bytes within)))

same_queue : {w w' : List ℕ} {r r' : ℕ} → w ≡ w' → r ≡ r' → ◌≡◌ {A = Queue} (record { waiting = w; room = r }) (record { waiting = w'; room = r' })
same_queue waiting room = rw (waiting, room) refl

pub returns : goal.returns
returns c =
    let within : c.self.inside.end ≤ length c.self.inside.bytes = omega (arith, c.self.told, c.self.invariant.1) in
    rw (← c.self.view_is, c.copy_from_slice.ensures.after)
    record {
      pushed = same_queue
          (waiting-push c.self.inside.bytes c.args.piece.now c.self.inside.start c.self.inside.end _ c.self.invariant.0 within)
          (omega arith);
    }
