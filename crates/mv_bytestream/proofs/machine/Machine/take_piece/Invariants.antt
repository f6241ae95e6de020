use Rattle.std.proofs.Common.{length, ◌-◌, ◌≡◌, ◌+◌, ◌≤◌}
use Rattle.mv_bytestream.specs.Stages.{HasRoom, IsHeld, IsRunning}
use Rattle.mv_bytestream.proofs.Piece.{Stands}
use Rattle.mv_bytestream.proofs.machine.Machine.take_piece.Given as goal

abbrev pub invariant-loop-at : goal.invariant-loop-at
invariant-loop-at l = record {
  within : l.at ≤ length l.piece;
  stands : Stands l.fn.self l.self l.piece l.at;
  running : IsRunning l.self.stage;
  held : IsHeld l.self;
  room : HasRoom l.self (length l.piece - l.at);
  fed : l.self.fed ≡ l.fn.self.fed + l.at;
  given : l.self.given ≡ l.fn.self.given;
}

abbrev pub decreases-loop-at : goal.decreases-loop-at
decreases-loop-at l = length l.piece - l.at
