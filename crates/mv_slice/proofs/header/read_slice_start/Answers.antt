use Rattle.std.proofs.Common.{◌≡◌, ◌+◌, ◌*◌, ◌≤◌, length, sym, ap, subst, ◌∙◌, arith}
use Rattle.mv_syntax.specs.Bits.{byte_bits}
use Rattle.mv_syntax.specs.Table.{Reads}
use Rattle.mv_syntax.specs.inner.Reader.{read}
use Rattle.mv_syntax.specs.inner.Filling.{FailsAs}
use Rattle.mv_syntax.proofs.BitLaws.{length-byte_bits}
use Rattle.mv_syntax.proofs.PayloadLaws.{rest_shorter}
use Rattle.mv_syntax.proofs.TableLaws.{reads-of, cut-read}
use Rattle.mv_rules.specs.Rule.{rule_number}
use Rattle.mv_fields.specs.Faults.{means}
use Rattle.mv_slice.specs.Slice.{slice_header}
use Rattle.mv_slice.proofs.HeaderSizes.{header_short}
use Rattle.mv_slice.proofs.Heads.{no_header, head_counted}
use Rattle.mv_slice.proofs.header.read_slice_start.Goals as goal

pub header_of-requires-clause-first : goal.header_of-requires-clause-first
header_of-requires-clause-first c = c.new-bits.ensures.whole ∙ sym (ap length c.new-bits.ensures.all ∙ length-byte_bits c.args.bytes.now)

pub place-requires : goal.place-requires
place-requires c =
    let few = header_short c.args.ctx.now c.args.head.kind _ _ _ c.requires.fits (reads-of (slice_header c.args.ctx.now c.args.head.kind) _ _ _ c.in-Ok.ensures.fills.0) in
    omega (arith, few, c.in-Ok.ensures.fills.1, c.new-bits.ensures.whole, ap length c.new-bits.ensures.all, length-byte_bits c.args.bytes.now)

pub returns-in-Ok : goal.returns-in-Ok
returns-in-Ok c =
    let t = slice_header c.args.ctx.now c.args.head.kind in
    let all : length (byte_bits c.args.bytes.now) ≡ 8 * length c.args.bytes.now = length-byte_bits c.args.bytes.now in
    let total : c.header_of.new.bits.total ≡ length (byte_bits c.args.bytes.now) = c.in-Ok.ensures.fills.1 ∙ c.new-bits.ensures.whole ∙ sym all in
    let within : length c.header_of.new.bits.left ≤ length c.new-bits.result.left = rest_shorter t _ _ _ c.in-Ok.ensures.fills.0 in (
      c.header_of.new.bits.left,
      subst (λ b. Reads t b c.in-Ok.header c.header_of.new.bits.left) c.new-bits.ensures.all (reads-of t _ _ _ c.in-Ok.ensures.fills.0),
      head_counted (length (byte_bits c.args.bytes.now)) (length c.header_of.new.bits.left) c.place.result (omega (arith, all)) c.in-Ok.ensures.whole
          (omega (arith, ap length c.new-bits.ensures.all)) (omega (arith, total, c.place.ensures)),
    )

pub overflow_cast-result : goal.overflow_cast-result
overflow_cast-result c =
    let few = header_short c.args.ctx.now c.args.head.kind _ _ _ c.requires.fits (reads-of (slice_header c.args.ctx.now c.args.head.kind) _ _ _ c.in-Ok.ensures.fills.0) in
    omega (arith, few, c.in-Ok.ensures.fills.1, c.new-bits.ensures.whole, ap length c.new-bits.ensures.all, length-byte_bits c.args.bytes.now, c.place.ensures)

pub returns-in-Err-NoBits : goal.returns-in-Err-NoBits
returns-in-Err-NoBits c =
    let t = slice_header c.args.ctx.now c.args.head.kind in
    no_header t (byte_bits c.args.bytes.now)
    (subst (λ fault. FailsAs (means fault) (read t (byte_bits c.args.bytes.now))) c.in-Err-NoBits.field-0-is
    (subst (λ b. FailsAs (means c.in-Err-NoBits.field-0) (read t b)) c.new-bits.ensures.all c.in-Err-NoBits.ensures.fills))

pub returns-in-Err-Breaks : goal.returns-in-Err-Breaks
returns-in-Err-Breaks c =
    let t = slice_header c.args.ctx.now c.args.head.kind in
    let cut = cut-read t (byte_bits c.args.bytes.now) (rule_number c.in-Err-Breaks.rule)
    (subst (λ fault. FailsAs (means fault) (read t (byte_bits c.args.bytes.now))) c.in-Err-Breaks.field-0-is
    (subst (λ b. FailsAs (means c.in-Err-Breaks.field-0) (read t b)) c.new-bits.ensures.all c.in-Err-Breaks.ensures.fills)) in
    rw c.in-Err-Breaks.field-0-is cut
