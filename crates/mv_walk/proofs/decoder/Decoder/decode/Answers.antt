use Rattle.std.proofs.Common.{SFits, refl, ap, rules, w32, to_z-of_z}
use Rattle.mv_walk.proofs.Deciding.{asked-of, begun, decided-ok, refused, stays-within}
use Rattle.mv_walk.proofs.decoder.Decoder.decode.Goals as goal

pub returns-in-Err-clause-decodes : goal.returns-in-Err-clause-decodes
returns-in-Err-clause-decodes g c = λ past p r f i.
    refused c.args.self.now past p _ c.decide.result c.in-Err.fault c.of_decided.result
    (c.decide.ensures past p (asked-of _ c.args.self.now c.args.vps.now c.args.segment.now c.args.start past p r f i c.as_mut_slice.ensures.value refl (ap (λ v. v.value) c.vps.view_is)
    (ap (λ s. s.served.active) c.segment.view_is) (ap (λ s. s.head) c.segment.view_is) c.context-ctx.ensures.value (ap (λ s. s.header) c.segment.view_is) c.place-place.ensures))
    c.in-Err.is c.of_decided.ensures

pub begin-requires-clause-rising : goal.begin-requires-clause-rising
begin-requires-clause-rising g c =
    let m = c.requires.may in
    let d = decided-ok m.past m.fact _ c.decide.result c.in-Ok.decided
    (c.decide.ensures m.past m.fact (asked-of _ c.args.self.now c.args.vps.now c.args.segment.now c.args.start m.past m.fact m.ready m.first m.decoded c.as_mut_slice.ensures.value refl (ap (λ v. v.value) c.vps.view_is)
    (ap (λ s. s.served.active) c.segment.view_is) (ap (λ s. s.head) c.segment.view_is) c.context-ctx.ensures.value (ap (λ s. s.header) c.segment.view_is) c.place-place.ensures)) c.in-Ok.is in
    d.1.rising

pub begin-requires-clause-within : goal.begin-requires-clause-within
begin-requires-clause-within g c =
    let m = c.requires.may in
    let d = decided-ok m.past m.fact _ c.decide.result c.in-Ok.decided
    (c.decide.ensures m.past m.fact (asked-of _ c.args.self.now c.args.vps.now c.args.segment.now c.args.start m.past m.fact m.ready m.first m.decoded c.as_mut_slice.ensures.value refl (ap (λ v. v.value) c.vps.view_is)
    (ap (λ s. s.served.active) c.segment.view_is) (ap (λ s. s.head) c.segment.view_is) c.context-ctx.ensures.value (ap (λ s. s.header) c.segment.view_is) c.place-place.ensures)) c.in-Ok.is in
    stays-within c.args.self.now c.keep_count.new.self _ _ _ _ c.args.segment.now m.past m.fact c.in-Ok.decided m.ready.all c.requires.can.layer m.first.head_is c.as_mut_slice.ensures.value c.as_mut_slice.ensures.len c.keep_count.ensures d.1

pub begin-requires-clause-few : goal.begin-requires-clause-few
begin-requires-clause-few g c =
    let m = c.requires.may in
    let d = decided-ok m.past m.fact _ c.decide.result c.in-Ok.decided
    (c.decide.ensures m.past m.fact (asked-of _ c.args.self.now c.args.vps.now c.args.segment.now c.args.start m.past m.fact m.ready m.first m.decoded c.as_mut_slice.ensures.value refl (ap (λ v. v.value) c.vps.view_is)
    (ap (λ s. s.served.active) c.segment.view_is) (ap (λ s. s.head) c.segment.view_is) c.context-ctx.ensures.value (ap (λ s. s.header) c.segment.view_is) c.place-place.ensures)) c.in-Ok.is in
    d.1.few_entries

pub returns-clause-decodes : goal.returns-clause-decodes
returns-clause-decodes g c = λ past p r f i.
    let fits : SFits w32 c.in-Ok.decided.count = search rules in
    begun c.args.self.now c.keep_count.new.self c.begin.new.self _ _ _ c.args.vps.now c.args.segment.now c.args.start past p c.in-Ok.decided c.decide.result _ _ c.begin.result r f i c.requires.can.layer
    (c.decide.ensures past p (asked-of _ c.args.self.now c.args.vps.now c.args.segment.now c.args.start past p r f i c.as_mut_slice.ensures.value refl (ap (λ v. v.value) c.vps.view_is)
    (ap (λ s. s.served.active) c.segment.view_is) (ap (λ s. s.head) c.segment.view_is) c.context-ctx.ensures.value (ap (λ s. s.header) c.segment.view_is) c.place-place.ensures))
    c.in-Ok.is c.as_mut_slice.ensures.value c.as_mut_slice.ensures.len c.keep_count.ensures (ap (λ h. h.layer) (ap (λ s. s.head) c.segment.view_is)) (to_z-of_z fits) c.begin.ensures.told c.begin.ensures.making c.begin.ensures.made c.begin.ensures.pictures c.begin.ensures.layers
    c.begin.ensures.rest c.begin.ensures.memory
