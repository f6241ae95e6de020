use Rattle.std.proofs.Common.{sym, ◌∙◌, ap, arith, map, length, ◌≡◌, ◌++◌, ◌∷◌, [], to_z, of_z, w32}
use Rattle.std.specs.Prelude.{false}
use Rattle.std.proofs.lemmas.List.{length-map, length_push, map-append}
use Rattle.std.proofs.lemmas.Int.{to_z-of_z}
use Rattle.mv_dpb.specs.Buffer.{inserted}
use Rattle.mv_dpb.specs.Stored.{stored}
use Rattle.mv_dpb.proofs.StoredLaws.{length-stored, stored-push}
use Rattle.mv_dpb.proofs.buffer.Buffer.insert.Goals as goal

pub push_reserved-requires : goal.push_reserved-requires
push_reserved-requires g c =
    let pictures = map (λ p. p.value) c.self.inside.pictures.items in
    let same : length c.self.inside.held.items ≡ length pictures = c.self.invariant.0 ∙ sym (length-map c.self.inside.pictures.items (λ p. p.value)) in
    omega (arith, c.self.inside.held.ok.0, c.self.invariant.2, length-stored c.self.inside.held.items pictures same, ap length c.self.view_is, c.requires)

pub returns-clause-added : goal.returns-clause-added
returns-clause-added g c =
    let pictures = map (λ p. p.value) c.self.inside.pictures.items in
    let same : length c.self.inside.held.items ≡ length pictures = c.self.invariant.0 ∙ sym (length-map c.self.inside.pictures.items (λ p. p.value)) in
    let count : to_z w32 (of_z w32 c.args.count) ≡ c.args.count = to_z-of_z w32 c.args.count c.ranges.count in
    ap (λ held. stored held (map (λ p. p.value) c.push_reserved-2.new.self.items)) c.push_reserved.ensures.items
    ∙ ap (λ xs. stored (c.self.inside.held.items ++ record { count = to_z w32 (of_z w32 c.args.count); au = c.args.au; long = false } ∷ []) xs)
    (ap (map (λ p. p.value)) c.push_reserved-2.ensures.items ∙ map-append (λ p. p.value) c.self.inside.pictures.items (c.args.pic ∷ []))
    ∙ stored-push c.self.inside.held.items pictures (record { count = to_z w32 (of_z w32 c.args.count); au = c.args.au; long = false }) c.args.pic.value same
    ∙ ap (λ n. stored c.self.inside.held.items pictures ++ inserted n c.args.au c.args.pic.value ∷ []) count
    ∙ ap (λ xs. xs ++ inserted c.args.count c.args.au c.args.pic.value ∷ []) c.self.view_is

pub returns-clause-few : goal.returns-clause-few
returns-clause-few g c =
    omega (arith, ap length (returns-clause-added g c), length_push c.args.self.now (inserted c.args.count c.args.au c.args.pic.value), c.requires)
