use Rattle.std.proofs.Common.{◌≡◌, ◌∷◌, ◌∙◌, true, false, ap, sym, subst, get_or}
use Rattle.std.specs.Prelude.{nat_eq, slice_set}
use Rattle.std.proofs.lemmas.Bool.{ne_eqb}
use Rattle.mv_pictures.specs.History.{judged}
use Rattle.mv_au.specs.LayerState.{no_state}
use Rattle.mv_au.specs.States.{Stands}
use Rattle.mv_au.proofs.StateLaws.{base_end, end_no_picture, stands-end, stands-layer_end, upper_end}
use Rattle.mv_au.proofs.states.LayerStates.eos.Goals as goal

pub returns-then-layer-eq0 : goal.returns-then-layer-eq0
returns-then-layer-eq0 c = λ past q stands end.
    let zero = end.layer_is ∙ c.if-layer-eq0.true in
    subst (λ x. Stands (record { layers = x.layers; anew = true; in_first_au = x.in_first_au }) (judged past q ∷ past)) (sym c.self.view_is)
    (stands-end past q (end_no_picture q end.ends) c.args.self.now stands zero (base_end q zero end.ends))

pub returns-else-layer-eq0 : goal.returns-else-layer-eq0
returns-else-layer-eq0 c = λ past q stands end.
    let n = c.args.layer in
    let above : nat_eq n 0 ≡ false = ne_eqb n 0 c.if-layer-eq0.false in
    subst (λ x. Stands (record { layers = slice_set x.layers n (record { initialised = false; after_start = (get_or x.layers n no_state).after_start }); anew = x.anew; in_first_au = x.in_first_au }) (judged past q ∷ past)) (sym c.self.view_is)
    (stands-layer_end past q (end_no_picture q end.ends) c.args.self.now stands n c.requires end.layer_is above (upper_end q (ap (λ m. nat_eq m 0) end.layer_is ∙ above) end.ends))
