use Rattle.std.proofs.Common.{refl, sym, ap, ◌∙◌, subst}
use Rattle.mv_syntax.specs.inner.Reader.{read}
use Rattle.mv_syntax.specs.inner.Filling.{FailsAs}
use Rattle.mv_syntax.proofs.TableLaws.{reads-of}
use Rattle.mv_fields.specs.Faults.{means}
use Rattle.mv_slice.specs.Opening.{opening}
use Rattle.mv_slice.proofs.Peeking.{nothing_reads}
use Rattle.mv_slice.proofs.peek.peek_slice.Goals as goal

pub returns-in-Ok : goal.returns-in-Ok
returns-in-Ok c =
    (c.in-Ok.opening, c.opening_of.new.bits.left, reads-of (opening c.args.head.kind) _ _ _ (ap (read (opening c.args.head.kind)) (sym c.new.ensures.all) ∙ c.in-Ok.ensures.fills.0), refl)

pub returns-in-Err : goal.returns-in-Err
returns-in-Err c = (
  refl,
  λ h.
      nothing_reads (opening c.args.head.kind) _ c.in-Err.field-0 c.in-Err.ensures.no_memory
      (subst (λ b. FailsAs (means c.in-Err.field-0) (read (opening c.args.head.kind) b)) c.new.ensures.all c.in-Err.ensures.fills) h.0 h.1 h.2,
)
