use Rattle.std.proofs.Common.{sym, ◌∙◌, ap, map}
use Rattle.std.proofs.lemmas.List.{length-map}
use Rattle.mv_dpb.proofs.StoredLaws.{told-stored}
use Rattle.mv_dpb.proofs.buffer.Buffer.held.Goals as goal

pub returns-clause-told : goal.returns-clause-told
returns-clause-told g c =
    c.as_slice.ensures.value
    ∙ sym (told-stored c.self.inside.held.items (map (λ p. p.value) c.self.inside.pictures.items) (c.self.invariant.0 ∙ sym (length-map c.self.inside.pictures.items (λ p. p.value))))
    ∙ ap (map (λ s. s.told)) c.self.view_is
