use Rattle.std.proofs.Common.{◌≡◌, ◌≤◌, ◌<◌, ◌∙◌, length, get_or, refl, ap, rules}
use Rattle.mv_bits.specs.inner.Written.{written_bits}
use Rattle.mv_bits.proofs.Written.{Extends-started, Extends-byte, Extends-ended}
use Rattle.mv_bits.proofs.writer.BitWriter.append.Goals as goal

pub loop-byte-init : goal.loop-byte-init
loop-byte-init c =
    let long : c.len-before.result ≤ length c.self.inside.bytes.items = search rules in
    record {
      extends = Extends-started c.len-before.result c.self.inside.count c.self.inside.word c.self.inside.bytes.items c.args.self.now long c.self.invariant.0 c.self.invariant.1 c.self.view_is;
      word = refl;
      count = refl;
    }

pub loop-byte-preserved : goal.loop-byte-preserved
loop-byte-preserved c =
    let inside : c.loop-byte.byte-index < length c.other.inside.bytes.items = search rules in
    let value : c.from.result ≡ get_or c.other.inside.bytes.items c.loop-byte.byte-index 0 = search rules in
    record {
      extends = Extends-byte c.len-before.result c.loop-byte.byte-index c.from.result c.self.inside.bytes.items c.loop-byte.self-inside.bytes.items c.put.new.bytes.items c.other.inside.bytes.items c.args.self.now c.loop-byte.last c.in_ok-last.last c.loop-byte.invariant.extends c.in_ok-last.ensures.ok inside value;
      word = c.loop-byte.invariant.word;
      count = c.loop-byte.invariant.count;
    }

pub returns-clause-ok : goal.returns-clause-ok
returns-clause-ok c =
    let outside : length c.other.inside.bytes.items ≤ c.loop-byte.byte-index = search rules in
    let xs = c.other.inside.bytes.items in
    let count = c.other.inside.count in
    let other = ap (written_bits xs count) c.from-2.ensures ∙ c.other.view_is in
    Extends-ended c.len-before.result c.loop-byte.byte-index count c.from-2.result c.self.inside.bytes.items c.loop-byte.self-inside.bytes.items c.put-2.new.bytes.items xs c.args.self.now c.args.other.now c.loop-byte.last c.in_ok-last-2.last c.loop-byte.invariant.extends c.in_ok-last-2.ensures.ok outside other
