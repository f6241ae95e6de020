-- Carrying units from one form into another (this project's profile). Nothing but the form in which the units come
-- refuses them.
use Rattle.std.specs.Prelude.{◌≡◌, ℕ, List, length, map, None}
use Rattle.mv_units.specs.Framing.{frame}
use Rattle.mv_units.specs.Units.{NalUnit}
use Rattle.mv_judging.specs.Judge.{Judge}
use Rattle.mv_prefixed.specs.LenForm.{lenform}
use Rattle.mv_extract.specs.Task.{Task, Worker}
use Rattle.mv_lenform.specs.declared.carrier.Target.{Target}
use Rattle.mv_lenform.specs.declared.carrier.Target.TheVariants.{Prefixed, Framed}

-- the judge that objects to nothing
abbrev pub nobody : Judge
nobody = record { late = λ before u. None; ending = λ us. None }

-- units in the form into which they are carried
abbrev pub text_of : Target → List (List ℕ) → List ℕ
text_of Prefixed us = lenform us
text_of Framed us = frame us

abbrev pub text : Target → List NalUnit → List ℕ
text to us = text_of to (map (λ (u : NalUnit). u.bytes) us)

-- each unit is written in a form
abbrev pub carrying : Target → Task
carrying to = record { judge = nobody; text = text to }

-- the visitor that does so, with the form and the number of the units that it wrote
abbrev pub carrier : {V : Type 0} → (V → Target) → (V → ℕ) → Worker V
carrier to count = record {
  task = λ start. carrying (to start);
  opens = λ start. count start ≡ 0;
  stands = λ start now us. (to now ≡ to start) × (count now ≡ length us);
  closed = λ start last us. count last ≡ length us;
}
