use Rattle.std.proofs.Common.{false, refl, ap, ◌∙◌, arith}
use Rattle.std.proofs.lemmas.Bool.{eq-eqb, ne_eqb}
use Rattle.mv_walk.specs.Firsts.{place}
use Rattle.mv_walk_decoded.specs.Asked.{asked_by}
use Rattle.mv_walk.proofs.Becoming.{unchanged-unseen}
use Rattle.mv_walk.proofs.Causes.{of-done}
use Rattle.mv_walk.proofs.SkippedBase.{base-answered}
use Rattle.mv_walk.proofs.Skipping.{upper-takes}
use Rattle.mv_walk.proofs.decoder.Decoder.skip.Goals as goal

pub returns-then-segment-ne0-clause-takes : goal.returns-then-segment-ne0-clause-takes
returns-then-segment-ne0-clause-takes g c = λ past p k f skipped making. upper-takes c.args.self.now c.args.vps.now c.args.segment.now past p k f skipped (ne_eqb c.args.segment.now.head.layer 0 c.if-segment-ne0.true) making

pub returns-then-segment-ne0-clause-states : goal.returns-then-segment-ne0-clause-states
returns-then-segment-ne0-clause-states g c = refl

pub returns-then-segment-ne0-clause-asked : goal.returns-then-segment-ne0-clause-asked
returns-then-segment-ne0-clause-asked g c = refl

pub returns-then-segment-ne0-clause-breaks : goal.returns-then-segment-ne0-clause-breaks
returns-then-segment-ne0-clause-breaks g c = λ is. of-done _ is

pub context-ctx-requires-clause-vps : goal.context-ctx-requires-clause-vps
context-ctx-requires-clause-vps g c = let r = rw (← c.vps.view_is) at c.requires.read in r.valid

pub context-ctx-requires-clause-serving : goal.context-ctx-requires-clause-serving
context-ctx-requires-clause-serving g c = let r = rw (← c.vps.view_is) at c.requires.can in r.serving

pub count_asked-asked-requires : goal.count_asked-asked-requires
count_asked-asked-requires g c = record { fits = c.context-ctx.ensures.fits }

pub index_mut-requires : goal.index_mut-requires
index_mut-requires g c = omega (arith, c.requires.kept)

pub count-requires-clause-some : goal.count-requires-clause-some
count-requires-clause-some g c = c.count_asked-asked.ensures.some

pub count-requires-clause-few : goal.count-requires-clause-few
count-requires-clause-few g c = c.count_asked-asked.ensures.few

pub returns-clause-takes : goal.returns-clause-takes
returns-clause-takes g c = rw (← c.vps.view_is) (rw c.unchanged.ensures (λ past p k f skipped making.
    base-answered c.args.self.now _ c.args.segment.now past p c.count_asked-asked.result c.index_mut.result.now c.count.new.self c.count.result _ k f skipped (eq-eqb c.args.segment.now.head.layer 0 c.if-segment-ne0.false) making
    (c.count_asked-asked.ensures.is ∙ ap (λ x. asked_by x c.context-ctx.result c.args.segment.now.header) c.place.ensures ∙ ap (λ x. asked_by (place c.args.self.now.base_count c.args.segment.now false) x c.args.segment.now.header) c.context-ctx.ensures.value)
    c.index_mut.ensures.value c.count.ensures.count c.count.ensures.anchor c.ok-count.ensures.value))

pub returns-clause-states : goal.returns-clause-states
returns-clause-states g c = refl

pub returns-clause-asked : goal.returns-clause-asked
returns-clause-asked g c = refl

pub returns-clause-breaks : goal.returns-clause-breaks
returns-clause-breaks g c = rw c.unchanged.ensures (unchanged-unseen c.args.segment.now _)
