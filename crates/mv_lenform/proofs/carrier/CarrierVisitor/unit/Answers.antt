use Rattle.std.proofs.Common.{◌∷◌, [], ap, arith, inr, length-append, refl, sym, ◌∙◌, ◌++◌}
use Rattle.mv_bytestream.specs.Found.{found_unit}
use Rattle.mv_units.proofs.Clean.{lawful}
use Rattle.mv_engine.proofs.Written.{gained-part, gained-then}
use Rattle.mv_lenform.specs.Carrying.{text, text_of}
use Rattle.mv_lenform.proofs.Carried.{text-push}
use Rattle.mv_lenform.proofs.carrier.CarrierVisitor.unit.Goals as goal

pub put-requires : goal.put-requires
put-requires g c = (lawful c.args.found.now.unit.now c.requires.ready.clean).most

pub returns-in-Ok : goal.returns-in-Ok
returns-in-Ok g c = record {
  visits = λ start first us stands wrote counted.
      let u = found_unit c.args.found.now in (
        refl,
        (stands.0, omega (arith, counted, length-append us (u ∷ []))),
        gained-then _ _ _ (text start.to us) (text_of c.args.self.now.to (u.bytes ∷ [])) _ wrote c.in-Ok.ensures.all c.in-Ok.ensures.cause.never_falls
            (text-push start.to us u ∙ ap (λ to. text start.to us ++ text_of to (u.bytes ∷ [])) (sym stands.0)),
      );
}

pub returns-in-Err : goal.returns-in-Err
returns-in-Err g c = record {
  visits = λ start first us stands wrote counted.
      let u = found_unit c.args.found.now in
      inr (
        refl,
        gained-part _ _ _ (text start.to us) (text_of c.args.self.now.to (u.bytes ∷ [])) _ wrote c.in-Err.ensures.failed c.in-Err.ensures.cause.never_falls c.in-Err.ensures.cause.rose
            (text-push start.to us u ∙ ap (λ to. text start.to us ++ text_of to (u.bytes ∷ [])) (sym stands.0)),
      );
}
