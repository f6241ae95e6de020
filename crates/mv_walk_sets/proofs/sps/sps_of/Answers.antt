use Rattle.std.proofs.Common.{◌≡◌, ◌∙◌, true, false, Ok, Err, ap, sym, subst}
use Rattle.mv_pictures.specs.Items.{item}
use Rattle.mv_pictures.specs.UnitRules.{names_other_vps}
use Rattle.mv_walk_sets.specs.InForce.{VpsInForceValue}
use Rattle.mv_walk_sets.specs.Readings.{ReadsSps, sps_reading}
use Rattle.mv_walk_sets.proofs.SetLaws.{sps_err, sps_named, sps_ok, sps_unit, subs_of}
use Rattle.mv_walk_sets.proofs.sps.sps_of.Goals as goal

pub returns-then-names_other_vps : goal.returns-then-names_other_vps
returns-then-names_other_vps c = λ past f s sps clean known is.
    let u = c.args.unit.now in
    let p = c.in-Ok.payload.items in
    let other : names_other_vps p c.args.vps.now.value ≡ true =
    ap (λ (v : VpsInForceValue). names_other_vps p v.value) (sym c.vps.view_is) ∙ ap (λ q. names_other_vps q c.vps.inside.value) (sym c.deref.ensures.value) ∙ sym c.if-names_other_vps.ensures in
    sps_named (item past u) f c.args.vps.now c.args.head p (sps_unit past u p c.args.vps.now c.args.head c.in-Ok.ensures s sps clean known) other

pub returns-in-Ok-value_of : goal.returns-in-Ok-value_of
returns-in-Ok-value_of c = λ past f s sps clean known is.
    let u = c.args.unit.now in
    let p = c.in-Ok.payload.items in
    let own : names_other_vps p c.args.vps.now.value ≡ false =
    ap (λ (v : VpsInForceValue). names_other_vps p v.value) (sym c.vps.view_is) ∙ ap (λ q. names_other_vps q c.vps.inside.value) (sym c.deref.ensures.value) ∙ sym c.if-names_other_vps.ensures in
    let reads : ReadsSps c.args.head.tid (sps_reading c.args.head.layer (subs_of c.args.vps.now) p) (Ok c.in-Ok-value_of.value) =
    subst (λ v. ReadsSps c.args.head.tid (sps_reading c.args.head.layer (subs_of v) p) (Ok c.in-Ok-value_of.value)) c.vps.view_is
    (subst (λ q. ReadsSps c.args.head.tid (sps_reading c.args.head.layer c.vps.inside.value.coded.0.base.opening.vps_max_sub_layers_minus1 q) (Ok c.in-Ok-value_of.value)) c.deref-2.ensures.value c.in-Ok-value_of.ensures) in
    sps_ok (item past u) f c.args.vps.now c.args.head p c.in-Ok-value_of.value (sps_unit past u p c.args.vps.now c.args.head c.in-Ok.ensures s sps clean known) is own reads

pub returns-in-Err-value_of : goal.returns-in-Err-value_of
returns-in-Err-value_of c = λ past f s sps clean known is.
    let u = c.args.unit.now in
    let p = c.in-Ok.payload.items in
    let own : names_other_vps p c.args.vps.now.value ≡ false =
    ap (λ (v : VpsInForceValue). names_other_vps p v.value) (sym c.vps.view_is) ∙ ap (λ q. names_other_vps q c.vps.inside.value) (sym c.deref.ensures.value) ∙ sym c.if-names_other_vps.ensures in
    let reads : ReadsSps c.args.head.tid (sps_reading c.args.head.layer (subs_of c.args.vps.now) p) (Err c.in-Err-value_of.fault) =
    subst (λ v. ReadsSps c.args.head.tid (sps_reading c.args.head.layer (subs_of v) p) (Err c.in-Err-value_of.fault)) c.vps.view_is
    (subst (λ q. ReadsSps c.args.head.tid (sps_reading c.args.head.layer c.vps.inside.value.coded.0.base.opening.vps_max_sub_layers_minus1 q) (Err c.in-Err-value_of.fault)) c.deref-2.ensures.value c.in-Err-value_of.ensures) in
    sps_err (item past u) f c.args.vps.now c.args.head p c.in-Err-value_of.fault (sps_unit past u p c.args.vps.now c.args.head c.in-Ok.ensures s sps clean known) is own reads
