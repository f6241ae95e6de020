use Rattle.std.proofs.Common.{◌≡◌, ◌<◌, length, get_or, rules}
use Rattle.mv_bits.proofs.Tails.{no_byte, pushed_byte}
use Rattle.mv_bits.proofs.ending.push_bytes.Goals as goal

pub loop-byte-init : goal.loop-byte-init
loop-byte-init c = no_byte c.args.bytes.now c.args.tail.now.items

pub loop-byte-preserved : goal.loop-byte-preserved
loop-byte-preserved c =
    let inside : c.loop-byte.byte-index < length c.args.bytes.now = search rules in
    let value : c.from.result ≡ get_or c.args.bytes.now c.loop-byte.byte-index 0 = search rules in
    pushed_byte c.loop-byte.byte-index c.from.result c.args.bytes.now c.args.tail.now.items c.loop-byte.tail.items c.push_bits.new.tail.items c.loop-byte.invariant inside value c.in_ok-push_bits.ensures
