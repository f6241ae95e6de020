use Rattle.std.proofs.Common.{length, refl, ap, ◌∙◌}
use Rattle.mv_rps.specs.RefSet.{entries_of}
use Rattle.mv_walk.proofs.Beginning.{state-asked, state-refused, state-told}
use Rattle.mv_walk.proofs.decoder.Decoder.state.Goals as goal

pub context-ctx-requires-clause-vps : goal.context-ctx-requires-clause-vps
context-ctx-requires-clause-vps g c = let r = rw (← c.vps.view_is) at c.requires.read in r.valid

pub context-ctx-requires-clause-serving : goal.context-ctx-requires-clause-serving
context-ctx-requires-clause-serving g c = let r = rw (← c.vps.view_is) at c.requires.can in r.serving

pub num_entries-requires-clause-fits : goal.num_entries-requires-clause-fits
num_entries-requires-clause-fits g c = c.context-ctx.ensures.fits

pub num_entries-requires-clause-valid : goal.num_entries-requires-clause-valid
num_entries-requires-clause-valid g c = let r = rw (← c.vps.view_is) at c.requires.can in rw c.context-ctx.ensures.value r.valid

pub returns-in-Err-clause-rest : goal.returns-in-Err-clause-rest
returns-in-Err-clause-rest g c = refl

pub picture-requires-clause-valid : goal.picture-requires-clause-valid
picture-requires-clause-valid g c = let r = rw (← c.vps.view_is) at c.requires.read in r.valid

pub picture-requires-clause-layer : goal.picture-requires-clause-layer
picture-requires-clause-layer g c = c.requires.can.layer

pub returns-in-Ok-picture-clause-takes : goal.returns-in-Ok-picture-clause-takes
returns-in-Ok-picture-clause-takes g c = rw (← c.vps.view_is) (λ past p k f.
    let asked = state-asked _ c.args.segment.now past p _ f (c.in-Ok.ensures ∙ ap (λ x. length (entries_of x c.args.segment.now.header)) c.context-ctx.ensures.value) in
    let told = state-told past p _ (c.in-Ok-picture.ensures.answer past p k.states_are asked) in
    (told.0, told.1, c.in-Ok-picture.ensures.stands past p k.states_are asked refl))

pub returns-in-Ok-picture-clause-rest : goal.returns-in-Ok-picture-clause-rest
returns-in-Ok-picture-clause-rest g c = refl

pub returns-in-Err-picture-clause-takes : goal.returns-in-Err-picture-clause-takes
returns-in-Err-picture-clause-takes g c = rw (← c.vps.view_is) (λ past p k f.
    let asked = state-asked _ c.args.segment.now past p _ f (c.in-Ok.ensures ∙ ap (λ x. length (entries_of x c.args.segment.now.header)) c.context-ctx.ensures.value) in
    state-refused past p _ (c.in-Err-picture.ensures.answer past p k.states_are asked))

pub returns-in-Err-picture-clause-rest : goal.returns-in-Err-picture-clause-rest
returns-in-Err-picture-clause-rest g c = refl
