use Rattle.std.proofs.Common.{◌≡◌, ◌∙◌, List, Bool, length, ◌+◌, ◌*◌, ap, sym}
use Rattle.std.proofs.lemmas.Result.{on_ok_weaker}
use Rattle.mv_syntax.proofs.BitLaws.{length-trailing_bits}
use Rattle.mv_bits.proofs.Written.{trailing_bits-number, length-written_bits, whole_after}
use Rattle.mv_bits.proofs.writer.BitWriter.trailing.Goals as goal

pub returns-clause-ok : goal.returns-clause-ok
returns-clause-ok c =
    let place : length c.args.self.now ≡ 8 * length c.self.inside.bytes.items + c.self.inside.count
    = ap (λ (b : List Bool). length b) (sym c.self.view_is) ∙ length-written_bits c.self.inside.bytes.items c.self.inside.count c.self.inside.word
    in
    rw (trailing_bits-number (length c.self.inside.bytes.items) c.self.inside.count (length c.args.self.now) c.self.invariant.0 place) c.u.ensures.ok

pub returns-clause-whole : goal.returns-clause-whole
returns-clause-whole c = on_ok_weaker c.u.result (λ e. whole_after c.args.self.now _ c.u.new.self e (length-trailing_bits (length c.args.self.now))) (returns-clause-ok c)
