use Rattle.std.proofs.Common.{SFits, refl, ap, arith, rules, w32, to_z-of_z}
use Rattle.mv_walk.proofs.Begun.{layers-begun, within-here}
use Rattle.mv_walk.proofs.decoder.Decoder.begin.Goals as goal

pub begin-requires-clause-all : goal.begin-requires-clause-all
begin-requires-clause-all g c = rw c.deref.ensures.value c.requires.all

pub begin-requires-clause-can : goal.begin-requires-clause-can
begin-requires-clause-can g c = c.requires.can

pub begin-requires-clause-read : goal.begin-requires-clause-read
begin-requires-clause-read g c = c.requires.read

pub begin-requires-clause-unit : goal.begin-requires-clause-unit
begin-requires-clause-unit g c = c.requires.unit

pub begin-requires-clause-few : goal.begin-requires-clause-few
begin-requires-clause-few g c = c.requires.few

pub returns-in-Err-clause-rest : goal.returns-in-Err-clause-rest
returns-in-Err-clause-rest g c = refl

pub returns-in-Err-clause-memory : goal.returns-in-Err-clause-memory
returns-in-Err-clause-memory g c = refl

pub returns-in-Err-sps-clause-rest : goal.returns-in-Err-sps-clause-rest
returns-in-Err-sps-clause-rest g c = refl

pub returns-in-Err-sps-clause-memory : goal.returns-in-Err-sps-clause-memory
returns-in-Err-sps-clause-memory g c = refl

pub index_mut-requires : goal.index_mut-requires
index_mut-requires g c = let same = ap (λ h. h.layer) (ap (λ s. s.head) c.segment.view_is) in omega (arith, c.requires.all, c.requires.can.layer, same)

pub decode-requires-clause-rising : goal.decode-requires-clause-rising
decode-requires-clause-rising g c = rw c.deref-2.ensures.value c.requires.rising

pub decode-requires-clause-within : goal.decode-requires-clause-within
decode-requires-clause-within g c =
    rw c.deref-2.ensures.value
    (within-here c.args.self.now.layers.items _ c.args.segment.now.head.layer c.index_mut.result.now c.args.decided.resolved.keep.items c.requires.all c.requires.can.layer (ap (λ h. h.layer) (ap (λ s. s.head) c.segment.view_is))
    c.index_mut.ensures.value c.requires.within)

pub returns-clause-told : goal.returns-clause-told
returns-clause-told g c =
    let fits : SFits w32 c.args.decided.count = search rules in
    rw (to_z-of_z fits) refl

pub returns-clause-making : goal.returns-clause-making
returns-clause-making g c = c.in-Ok.ensures

pub returns-clause-made : goal.returns-clause-made
returns-clause-made g c = refl

pub returns-clause-pictures : goal.returns-clause-pictures
returns-clause-pictures g c = search rules

pub returns-clause-layers : goal.returns-clause-layers
returns-clause-layers g c =
    layers-begun c.args.self.now.layers.items _ c.args.segment.now.head.layer c.index_mut.result.now c.decode.new.self c.args.start _ c.args.decided.resolved.keep.items _ _ c.requires.all c.requires.can.layer
    (ap (λ h. h.layer) (ap (λ s. s.head) c.segment.view_is)) c.index_mut.ensures.value c.decode.ensures c.deref-2.ensures.value (search rules)

pub returns-clause-rest : goal.returns-clause-rest
returns-clause-rest g c = refl
