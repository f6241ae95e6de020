use Rattle.std.proofs.Common.{[], ◌∷◌, refl}
use Rattle.mv_lenform.specs.declared.machine.Machine.{Machine}
use Rattle.mv_lenform.specs.declared.machine.Stage.TheVariants.{Reading}
use Rattle.mv_lenform.proofs.Stands.{stands-nothing}
use Rattle.mv_lenform.proofs.len_reader.LenReader.new.Goals as goal

pub returns-clause-stands : goal.returns-clause-stands
returns-clause-stands c =
    let m : Machine = record { stage = Reading; fed = 0; given = 0; length = 0 ∷ 0 ∷ 0 ∷ 0 ∷ []; have = 0; unit = c.new.result } in
    stands-nothing m refl refl refl c.new.ensures.items
