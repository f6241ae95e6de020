use Rattle.std.proofs.Common.{◌≡◌, ◌∙◌, List, Bool, length, ◌+◌, ◌-◌, ◌*◌, ◌%◌, ap, sym, refl}
use Rattle.mv_syntax.specs.Bits.{align_bits, u_bits}
use Rattle.std.proofs.lemmas.Result.{on_ok_weaker}
use Rattle.mv_syntax.proofs.BitLaws.{length-align_bits}
use Rattle.mv_bits.proofs.Written.{align_bits-ones, align_bits-zeros, length-written_bits, whole_after}
use Rattle.mv_bits.proofs.writer.BitWriter.align.Goals as goal
use Rattle.mv_bits.proofs.writer.BitWriter.align.Goals.{then-bit, else-bit}

pub returns-clause-ok : goal.returns-clause-ok
returns-clause-ok c =
    let place : length c.args.self.now ≡ 8 * length c.self.inside.bytes.items + c.self.inside.count
    = ap (λ (b : List Bool). length b) (sym c.self.view_is) ∙ length-written_bits c.self.inside.bytes.items c.self.inside.count c.self.inside.word
    in
    let n = (8 - c.self.inside.count) % 8 in
    let same : align_bits c.args.bit (length c.args.self.now) ≡ u_bits n c.if-bit.value
    = elim c.if-bit.branch [
      | then-bit w ↦
          ap (λ x. align_bits x (length c.args.self.now)) w.if-bit.true
          ∙ align_bits-ones (length c.self.inside.bytes.items) c.self.inside.count (length c.args.self.now) n c.if-bit.value c.self.invariant.0 place refl w.value-is
      | else-bit w ↦
          ap (λ x. align_bits x (length c.args.self.now)) w.if-bit.false
          ∙ align_bits-zeros (length c.self.inside.bytes.items) c.self.inside.count (length c.args.self.now) n c.if-bit.value c.self.invariant.0 place refl w.value-is
    ]
    in
    rw same c.u.ensures.ok

pub returns-clause-whole : goal.returns-clause-whole
returns-clause-whole c = on_ok_weaker c.u.result (λ e. whole_after c.args.self.now _ c.u.new.self e (length-align_bits c.args.bit (length c.args.self.now))) (returns-clause-ok c)
