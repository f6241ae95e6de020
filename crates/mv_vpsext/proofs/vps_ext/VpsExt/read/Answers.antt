use Rattle.std.proofs.Common.{Err, sym, ap, subst, ◌∙◌}
use Rattle.mv_syntax.specs.Cursor.{Cursor}
use Rattle.mv_syntax.specs.Table.{Reads, Cut}
use Rattle.mv_syntax.specs.inner.Reader.{read}
use Rattle.mv_syntax.specs.inner.Filling.{FailsAs}
use Rattle.mv_syntax.proofs.TableLaws.{reads-of}
use Rattle.mv_rules.specs.declared.rule.Rule.TheVariants.{VpsSyntax}
use Rattle.mv_fields.specs.Faults.{means}
use Rattle.mv_fields.specs.Reading.{ReadsWhole}
use Rattle.mv_layers.specs.Derived.{DerivedValue}
use Rattle.mv_vpsext.specs.VpsExt.{VpsExtValue, vps_extension}
use Rattle.mv_vpsext.proofs.Extensions.{refused_whole}
use Rattle.mv_vpsext.proofs.vps_ext.VpsExt.read.Goals as goal

pub returns-in-Ok-clause-answers : goal.returns-in-Ok-clause-answers
returns-in-Ok-clause-answers c =
    reads-of (vps_extension c.args.args.now) _ _ _
    (sym (ap (λ (start : Cursor). read (vps_extension c.args.args.now) start.left) c.fork-ahead.ensures) ∙ c.in-Ok.ensures.reads.0)

pub returns-in-Err-clause-answers : goal.returns-in-Err-clause-answers
returns-in-Err-clause-answers c =
    let t = vps_extension c.args.args.now in
    subst
    (λ e. ReadsWhole (λ (v : VpsExtValue × DerivedValue). Reads t c.args.bits.now.left v.0 c.args.bits.now.left) (Cut t c.args.bits.now.left) VpsSyntax (Err e))
    (sym c.refusal.ensures)
    (refused_whole t (λ (v : VpsExtValue × DerivedValue). v.0) c.args.bits.now.left c.args.bits.now.left VpsSyntax c.in-Err.fault
    (subst (λ (start : Cursor). FailsAs (means c.in-Err.fault) (read t start.left)) c.fork-ahead.ensures c.in-Err.ensures.reads))
