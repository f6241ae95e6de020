use Rattle.std.proofs.Common.{◌≡◌, ◌∙◌, ◌||◌, ap, sym, map, length}
use Rattle.std.specs.Prelude.{nat_lt, true}
use Rattle.std.specs.List.{list_any}
use Rattle.std.proofs.lemmas.Bool.{lt-ltb, le-ltb}
use Rattle.std.proofs.lemmas.List.{length-map}
use Rattle.mv_dpb.specs.Waits.{access_units, is_begun}
use Rattle.mv_dpb.specs.Waiting.{may_leave}
use Rattle.mv_dpb.proofs.WaitingLaws.{leaves-is}
use Rattle.mv_dpb.proofs.waiting.Waiting.may_leave.Goals as goal

pub returns-then-self : goal.returns-then-self
returns-then-self g c =
    let pictures = map (λ p. p.value) c.self.inside.pictures.items in
    let same : length c.self.inside.waits.items ≡ length pictures = c.self.invariant.0 ∙ sym (length-map c.self.inside.pictures.items (λ p. p.value)) in
    let leaves : may_leave c.args.self.now ≡ (nat_lt c.self.inside.reorder (access_units c.self.inside.waits.items) || list_any is_begun c.self.inside.waits.items) =
    sym (ap may_leave c.self.view_is) ∙ leaves-is c.self.inside.reorder c.self.inside.waits.cap c.self.inside.waits.items pictures same in
    let more : nat_lt c.self.inside.reorder c.self.inside.units ≡ true = lt-ltb c.self.inside.reorder c.self.inside.units c.if-self.true in
    more
    ∙ sym (leaves ∙ ap (λ b. b || list_any is_begun c.self.inside.waits.items) (ap (nat_lt c.self.inside.reorder) (sym c.self.invariant.2) ∙ more))

pub returns-else-self : goal.returns-else-self
returns-else-self g c =
    let pictures = map (λ p. p.value) c.self.inside.pictures.items in
    let same : length c.self.inside.waits.items ≡ length pictures = c.self.invariant.0 ∙ sym (length-map c.self.inside.pictures.items (λ p. p.value)) in
    let leaves : may_leave c.args.self.now ≡ (nat_lt c.self.inside.reorder (access_units c.self.inside.waits.items) || list_any is_begun c.self.inside.waits.items) =
    sym (ap may_leave c.self.view_is) ∙ leaves-is c.self.inside.reorder c.self.inside.waits.cap c.self.inside.waits.items pictures same in
    c.any_begun.ensures
    ∙ ap (list_any is_begun) c.deref.ensures.value
    ∙ sym (leaves ∙ ap (λ b. b || list_any is_begun c.self.inside.waits.items) (ap (nat_lt c.self.inside.reorder) (sym c.self.invariant.2) ∙ le-ltb c.self.inside.reorder c.self.inside.units c.if-self.false))
