use Rattle.std.proofs.Common.{◌≡◌, ℤ, Option, Ok, Err, SFits, of_z, rules, sym, ap, length, to_z, w32, ◌∙◌}
use Rattle.std.proofs.lemmas.Int.{to_z-of_z}
use Rattle.mv_rules.specs.declared.rule.Rule.{Rule}
use Rattle.mv_slice.specs.Context.{SliceContextValue}
use Rattle.mv_slice.specs.declared.slice.SliceHead.{SliceHead}
use Rattle.mv_rps.specs.declared.counts.PocAsk.{PocAsk}
use Rattle.mv_rps.specs.Asked.{counted}
use Rattle.mv_rps.specs.declared.resolved.Resolved.{Resolved}
use Rattle.mv_walk_layer.specs.LayerValue.{LayerValue, found}
use Rattle.mv_walk_decoded.specs.declared.fault.DecideFault.{DecideFault}
use Rattle.mv_walk_decoded.specs.declared.fault.DecideFault.TheVariants.{Refused, Memory as out_of_memory}
use Rattle.mv_walk_decoded.specs.Asked.{Tried, asked_by}
use Rattle.mv_walk_decoded.specs.Made.{IsCounted, IsResolved}
use Rattle.mv_walk_decoded.specs.Making.{after_count, references_refuse, set_by, set_refuses}
use Rattle.mv_walk_decoded.proofs.references.count_in.Goals as goal

-- a fault tells the same of a rule that is the same
told-same : {A B : Type 0} (a b : Option Rule) (h : A → Type 0) (k : B → Type 0) (f : DecideFault) → a ≡ b → Tried a h (Err f) → Tried b k (Err f)
told-same a b h k (Refused rule) e t = sym e ∙ t
told-same a b h k out_of_memory e t = tt

-- a fault of a picture's set, behind its count
set-fault : {P A B : Type 0} (own counted_own : LayerValue P) (asked : PocAsk) (ctx : SliceContextValue) (header : SliceHead) (n : ℤ) (h : A → Type 0) (k : B → Type 0) (f : DecideFault) →
    Ok n ≡ counted own.counts asked → found asked.start counted_own ≡ found asked.start own →
    Tried (set_refuses asked.kind (set_by ctx header n) (found asked.start counted_own)) h (Err f) → Tried (references_refuse own asked ctx header) k (Err f)
set-fault own counted_own asked ctx header n h k f count same t =
    told-same (set_refuses asked.kind (set_by ctx header n) (found asked.start counted_own)) (references_refuse own asked ctx header) h k f
    (ap (set_refuses asked.kind (set_by ctx header n)) same ∙ ap (after_count asked.kind ctx header (found asked.start own)) count) t

pub returns-in-Err-resolved-clause-made : goal.returns-in-Err-resolved-clause-made
returns-in-Err-resolved-clause-made g c =
    let fits : SFits w32 c.in-Ok.count = search rules in
    let n : ℤ = to_z w32 (of_z w32 c.in-Ok.count) in
    set-fault {A = Resolved} c.args.own.now c.count.new.self (asked_by c.args.first c.args.ctx.now c.args.header.now) c.args.ctx.now c.args.header.now n
    (IsResolved (set_by c.args.ctx.now c.args.header.now n) (found c.args.first.start c.count.new.self) (length c.count.new.self.buffer))
    (IsCounted c.args.own.now c.args.first c.args.ctx.now c.args.header.now) c.in-Err-resolved.fault
    (ap Ok (to_z-of_z w32 c.in-Ok.count fits) ∙ sym c.in-Ok.is ∙ c.count.ensures.count ∙ ap (counted c.args.own.now.counts) c.count_asked.ensures.is)
    (ap (found c.args.first.start) c.count.ensures.anchor)
    c.in-Err-resolved.ensures
