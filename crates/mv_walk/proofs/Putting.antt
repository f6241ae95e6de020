-- A video parameter set that came is put in force.
use Rattle.std.proofs.Common.{◌≡◌, ℕ, List, ◌∷◌, Some, true, ap, sym, subst, ◌∙◌}
use Rattle.mv_pictures.specs.Facts.{Fact, turned}
use Rattle.mv_sets.specs.Store as store
use Rattle.mv_sets.specs.StoreValue.{StoreValue}
use Rattle.mv_walk_sets.specs.InForce.{VpsInForceValue}
use Rattle.mv_walk_sets.specs.declared.vps.NewVps.{NewVps}
use Rattle.mv_walk.specs.Taking.{IsNewVps, PutsVps}
use Rattle.mv_walk.specs.declared.course.Course.{Course}
use Rattle.mv_walk.specs.declared.decoder.Decoder.{Decoder}

new-is : {R W P : Type 0} (v : VpsInForceValue) (old new : Course R W P) → new ≡ record old { vps = Some v; last = new.last } → IsNewVps v old new
new-is {R} {W} {P} v old new e = record { vps_is = ap (λ (c : Course R W P). c.vps) e; units_are = ap (λ (c : Course R W P). c.units) e; decoder_is = ap (λ (c : Course R W P). c.decoder) e }

pub again-put : {R W P : Type 0} (n : NewVps) (au : ℕ) (old new : Course R W P) → n ≡ NewVps.Repeated → new ≡ record old { last = new.last } → PutsVps n au old new
again-put n au old new is e = subst (λ (m : NewVps). PutsVps m au old new) (sym is) e

pub first-put : {R W P : Type 0} (n : NewVps) (v : VpsInForceValue) (au : ℕ) (old new : Course R W P) → n ≡ NewVps.First v → new ≡ record old { vps = Some v; last = new.last } → PutsVps n au old new
first-put {R} {W} {P} n v au old new is e =
    subst (λ (m : NewVps). PutsVps m au old new) (sym is) (new-is v old new e, ap (λ (c : Course R W P). c.sets) e, ap (λ (c : Course R W P). c.changed) e)

pub changed-put : {R W P : Type 0} (n : NewVps) (v : VpsInForceValue) (au : ℕ) (old mid new : Course R W P) → n ≡ NewVps.Changed v → mid ≡ record old { sets = mid.sets; changed = Some au } → new ≡ record mid { vps = Some v; last = new.last } →
    ((past : List Fact) (f : Fact) → turned f ≡ true → store.Stands mid.sets (f ∷ past)) → PutsVps n au old new
changed-put {R} {W} {P} n v au old mid new is before e stands =
    let whole : IsNewVps v mid new = new-is v mid new e in
    subst (λ (m : NewVps). PutsVps m au old new) (sym is) (
      record { vps_is = whole.vps_is; units_are = whole.units_are ∙ ap (λ (c : Course R W P). c.units) before; decoder_is = whole.decoder_is ∙ ap (λ (c : Course R W P). c.decoder) before },
      (λ past f t. subst (λ (s : StoreValue). store.Stands s (f ∷ past)) (sym (ap (λ (c : Course R W P). c.sets) e)) (stands past f t)),
      ap (λ (c : Course R W P). c.changed) e ∙ ap (λ (c : Course R W P). c.changed) before,
    )

pub put-asked : {R W P : Type 0} (n : NewVps) (au : ℕ) (old new : Course R W P) → PutsVps n au old new → new.decoder.asked ≡ old.decoder.asked
put-asked {R} {W} {P} NewVps.Repeated au old new put = ap (λ (c : Course R W P). c.decoder.asked) put
put-asked {R} {W} {P} (NewVps.First v) au old new put = ap (λ (d : Decoder R W P). d.asked) put.0.decoder_is
put-asked {R} {W} {P} (NewVps.Changed v) au old new put = ap (λ (d : Decoder R W P). d.asked) put.0.decoder_is
