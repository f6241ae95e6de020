use Rattle.std.proofs.Common.{◌≤◌, Bool, List, Option, sym, ap, subst}
use Rattle.mv_pps.specs.Pps.{PpsValue}
use Rattle.mv_sps.specs.Sps.{SpsValue, sps_payload}
use Rattle.mv_slice.specs.Context.{Fits, SliceContextValue}
use Rattle.mv_pictures.specs.Contexts.{slice_context}
use Rattle.mv_contexts.specs.PpsFits.{PpsFits}
use Rattle.mv_contexts.specs.SpsFits.{SpsFits}
use Rattle.mv_contexts.proofs.Fitting.{context-fits}
use Rattle.mv_contexts.proofs.PpsLaws.{pps-fits}
use Rattle.mv_contexts.proofs.SpsLaws.{sps-fits}
use Rattle.mv_contexts.proofs.VpsLaws.{vps-fits}
use Rattle.mv_contexts.proofs.context.slice_context.Goals as goal

pub context_of-requires-clause-sps : goal.context_of-requires-clause-sps
unfolding sps_payload
context_of-requires-clause-sps c =
    subst (λ (v : SpsValue × Option (List Bool)). SpsFits v.0) (sym c.sps_of.ensures)
    (sps-fits c.requires.sets.layer c.requires.sets.vps_sub_layers c.args.active.now.sps.value.0 c.requires.sets.sps.fields)

pub returns-clause-fits : goal.returns-clause-fits
unfolding sps_payload slice_context
returns-clause-fits c =
    let sps : SpsFits c.sps_of.result.now.0 =
    subst (λ (v : SpsValue × Option (List Bool)). SpsFits v.0) (sym c.sps_of.ensures)
    (sps-fits c.requires.sets.layer c.requires.sets.vps_sub_layers c.args.active.now.sps.value.0 c.requires.sets.sps.fields) in
    let pps : PpsFits c.pps_of.result.now.0 =
    subst (λ (v : PpsValue × Option (List Bool)). PpsFits v.0) (sym c.pps_of.ensures) (pps-fits c.args.active.now.pps.value.0 c.requires.sets.pps.fields) in
    let blocks = ap (λ (r : SliceContextValue). r.ctbs) c.context_of.ensures.value in
    subst Fits (sym c.context_of.ensures.value)
    (context-fits c.args.vps.now c.args.head c.active.inside.format c.sps_of.result.now.0 c.pps_of.result.now.0 (vps-fits c.args.vps.now c.args.head.layer c.requires.vps c.requires.layer) sps pps
    (subst (λ n. 1 ≤ n) blocks c.context_of.ensures.some_ctbs)
    (subst (λ n. n ≤ 4194304) blocks c.context_of.ensures.few_ctbs))
