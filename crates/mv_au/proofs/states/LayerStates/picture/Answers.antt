use Rattle.std.proofs.Common.{◌≡◌, ◌<◌, ◌∷◌, ◌∙◌, true, false, ap, sym, subst, arith}
use Rattle.std.specs.Prelude.{Ok, Err}
use Rattle.std.proofs.lemmas.Bool.{cond-false, cond-true}
use Rattle.mv_rules.specs.declared.rule.Rule.{Rule}
use Rattle.mv_pictures.specs.History.{judged}
use Rattle.mv_pictures.specs.Judged.{layer}
use Rattle.mv_au.specs.States.{Stands}
use Rattle.mv_au.specs.StateSteps.{asked_by, is_without_irap, state_of, with_picture}
use Rattle.mv_au.proofs.StateLaws.{answer-is, stands-more}
use Rattle.mv_au.proofs.states.LayerStates.picture.Goals as goal

pub returns-then-is_without_irap-clause-answer : goal.returns-then-is_without_irap-clause-answer
returns-then-is_without_irap-clause-answer c = λ past p stands seen.
    let s = c.args.self.now in
    let a = asked_by s c.args.vps.now c.args.pic.now in
    let refused : is_without_irap a ≡ true = ap is_without_irap (sym c.asked-asked.ensures) ∙ sym c.is_without_irap.ensures ∙ c.if-is_without_irap.true in
    sym (cond-true (is_without_irap a) (Err Rule.NoIrap) (Ok (state_of a)) refused) ∙ answer-is s past c.args.vps.now c.args.pic.now p stands seen

pub returns-clause-answer : goal.returns-clause-answer
returns-clause-answer c = λ past p stands seen.
    let s = c.args.self.now in
    let a = asked_by s c.args.vps.now c.args.pic.now in
    let taken : is_without_irap a ≡ false = ap is_without_irap (sym c.asked-asked.ensures) ∙ sym c.is_without_irap.ensures ∙ c.if-is_without_irap.false in
    ap Ok (c.state_of.ensures ∙ ap state_of c.asked-asked.ensures)
    ∙ sym (cond-false (is_without_irap a) (Err Rule.NoIrap) (Ok (state_of a)) taken) ∙ answer-is s past c.args.vps.now c.args.pic.now p stands seen

pub returns-clause-stands : goal.returns-clause-stands
returns-clause-stands c = λ past p stands seen ok.
    let s = c.args.self.now in
    let a = asked_by s c.args.vps.now c.args.pic.now in
    let few : layer p < 64 = let same : c.args.pic.now.layer ≡ layer p = seen.layer_is in omega (arith, same, c.requires.layer) in
    let new : c.go_on.new.self ≡ with_picture s c.args.pic.now.layer a = c.go_on.ensures ∙ ap (with_picture s c.args.pic.now.layer) c.asked-asked.ensures in
    subst (λ x. Stands x (judged past p ∷ past)) (sym new) (stands-more s past c.args.vps.now c.args.pic.now p stands seen few)
