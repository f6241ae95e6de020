use Rattle.std.proofs.Common.{◌≡◌, ◌+◌, ◌≤◌, Some, refl, sym, ap, ◌∙◌, subst, arith}
use Rattle.mv_bytestream.specs.Stages.{IsHeld, in_hand}
use Rattle.mv_bytestream.specs.declared.machine.Machine.{Machine}
use Rattle.mv_bytestream.specs.declared.machine.Stage.{Stage}
use Rattle.mv_bytestream.specs.declared.machine.Stage.TheVariants.{Making, Last, Ended}
use Rattle.mv_units.proofs.Numbers.{end-number}
use Rattle.mv_bytestream.proofs.Piece.{quiet-so_far}
use Rattle.mv_bytestream.proofs.Takes.{is_making, ends-none, ends-short, ends-last, few-short, many-long}
use Rattle.mv_bytestream.proofs.machine.Machine.finish.Goals as goal

-- the last unit is still to be handed out
held-last : (m : Machine) → m.stage ≡ Making → IsHeld m → IsHeld (record m { stage = Last })
held-last m is h = record { most = h.most; units = subst (λ (stage : Stage). m.given + in_hand stage ≤ m.fed) is h.units; zeros = h.zeros }

pub returns-in-Leading-clause-stands : goal.returns-in-Leading-clause-stands
returns-in-Leading-clause-stands c = ends-none c.args.self.now (record c.args.self.now { stage = Ended }) c.in-Leading.is refl

pub returns-in_default : goal.returns-in_default
returns-in_default c =
    let m = c.args.self.now in
    record {
      stands = tt;
      shown = λ s h.
          let shown = ends-short m (is_making m.stage c.requires.running c.in_default.not-Leading) (few-short m (omega (arith, c.if-len-lt2.true))) s h ∙ ap Some (sym c.refusal.ensures.value) in
          record { shown = shown; unit = end-number s _ (quiet-so_far m s c.requires.running h) shown };
      ended = tt;
      held = c.requires.held;
      fed = refl;
      given = refl;
    }

pub returns-in_default-2 : goal.returns-in_default-2
returns-in_default-2 c =
    let m = c.args.self.now in
    let is : m.stage ≡ Making = is_making m.stage c.requires.running c.in_default.not-Leading in
    record {
      stands = ends-last m (record m { stage = Last }) is refl (many-long m (omega (arith, c.if-len-lt2.false)));
      shown = tt;
      ended = refl;
      held = held-last m is c.requires.held;
      fed = refl;
      given = refl;
    }
