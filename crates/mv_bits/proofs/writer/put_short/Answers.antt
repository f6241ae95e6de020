use Rattle.std.proofs.Common.{◌≡◌, ◌<◌, ◌≤◌, ◌+◌, ◌-◌, ◌^◌, sym, arith, rules, length}
use Rattle.std.proofs.lemmas.Nat.{shr_below}
use Rattle.mv_bits.proofs.Written.{Pending-started, Pending-moved}
use Rattle.mv_bits.proofs.writer.put_short.Goals as goal

pub bytes-init : goal.bytes-init
bytes-init c =
    let last : c.args.last.0 ≡ c.from.result = sym c.from.ensures in
    let long : c.args.before ≤ length c.args.bytes.now.items = search rules in
    rw (← last) (Pending-started c.args.last.1 c.args.last.0 c.args.n c.args.value c.args.before c.args.bytes.now.items c.requires.begun.0 c.requires.in_range.0 c.requires.begun.1 c.requires.in_range.1 long)

pub overflow_cast-word-in-bytes : goal.overflow_cast-word-in-bytes
overflow_cast-word-in-bytes c =
    let parts : 8 + (c.bytes.left - 8) ≡ c.bytes.left = omega (arith, c.bytes-test.true) in
    let below : c.bytes.word < 2 ^ (8 + (c.bytes.left - 8)) = rw parts c.bytes.invariant.in_hand in
    omega (arith, shr_below c.bytes.word 8 (c.bytes.left - 8) below)

pub bytes-preserved : goal.bytes-preserved
bytes-preserved c =
    let pushed = rw c.if-is_err.ensures.negation at c.push.ensures.items in
    Pending-moved c.bytes.left c.bytes.word c.args.before c.bytes.bytes.items _ c.push.new.self.items _ c.bytes.invariant c.bytes-test.true pushed
