use Rattle.std.proofs.Common.{sym, ◌∙◌, ap, map}
use Rattle.std.specs.Prelude.{slice_get, option_map}
use Rattle.std.proofs.lemmas.List.{length-map}
use Rattle.mv_dpb.proofs.StoredLaws.{looked_up, picture-stored}
use Rattle.mv_dpb.proofs.buffer.Buffer.lookup.Goals as goal

pub returns : goal.returns
returns g c =
    looked_up (λ p. p.value) (λ x. x.now) c.deref.result.now c.args.place c.get.result c.get.ensures.lookup.3
    ∙ ap (λ xs. slice_get (map (λ p. p.value) xs) c.args.place) c.deref.ensures.value
    ∙ sym (picture-stored c.self.inside.held.items (map (λ p. p.value) c.self.inside.pictures.items) c.args.place (c.self.invariant.0 ∙ sym (length-map c.self.inside.pictures.items (λ p. p.value))))
    ∙ ap (λ xs. option_map (λ s. s.picture) (slice_get xs c.args.place)) c.self.view_is
