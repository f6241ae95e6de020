use Rattle.std.proofs.Common.{◌<◌, ◌≤◌, length, map, subst, ap, sym, ◌∙◌, arith}
use Rattle.std.specs.Prelude.{Some, None, if◌then◌else◌}
use Rattle.mv_rules.specs.declared.rule.Rule.TheVariants.{MissingRef}
use Rattle.mv_rps.specs.declared.resolving.Part.TheVariants.{Before, After, Long}
use Rattle.std.specs.List.{All, AllPairs}
use Rattle.std.proofs.lemmas.List.{length-map}
use Rattle.mv_dpb.specs.declared.held.Keep.{Keep}
use Rattle.mv_rps.specs.RefSet.{entry_of}
use Rattle.mv_rps.specs.Matched.{set_with}
use Rattle.mv_rps.specs.Resolving.{kept_of}
use Rattle.mv_rps.proofs.KeptLaws.{kept_few, kept_rises, kept_within}
use Rattle.mv_rps.proofs.ResolveLaws.{kept_by, longs_are, matched_by, missing_by, part_by}
use Rattle.mv_rps.proofs.resolved.resolve_entries.Goals as goal

pub returns-then-has_lost-clause-refused : goal.returns-then-has_lost-clause-refused
returns-then-has_lost-clause-refused c =
    let longs = c.as_slice.ensures ∙ c.in_ok-longs.ensures in
    let matches = matched_by c.args.origin c.args.entries.now c.args.held.now _ _ longs (c.as_slice-2.ensures ∙ c.in_ok-matches.ensures) in
    ap (λ b. if b then Some MissingRef else None) (sym (c.has_lost.ensures ∙ missing_by c.args.origin c.args.entries.now c.args.held.now _ matches) ∙ c.if-has_lost.true)

pub returns-clause-found : goal.returns-clause-found
returns-clause-found c =
    let longs = c.as_slice.ensures ∙ c.in_ok-longs.ensures in
    let matches = matched_by c.args.origin c.args.entries.now c.args.held.now _ _ longs (c.as_slice-2.ensures ∙ c.in_ok-matches.ensures) in
    sym (c.has_lost.ensures ∙ missing_by c.args.origin c.args.entries.now c.args.held.now _ matches) ∙ c.if-has_lost.false

pub returns-clause-keep : goal.returns-clause-keep
returns-clause-keep c =
    let longs = c.as_slice.ensures ∙ c.in_ok-longs.ensures in
    let matches = matched_by c.args.origin c.args.entries.now c.args.held.now _ _ longs (c.as_slice-4.ensures ∙ c.in_ok-matches.ensures) in
    c.in_ok-resolve_by.ensures.keep
    ∙ kept_by c.args.origin c.args.entries.now c.args.held.now _ _ (c.as_slice-3.ensures ∙ c.in_ok-longs.ensures ∙ longs_are c.args.origin c.args.entries.now c.args.held.now) matches

pub returns-clause-rising : goal.returns-clause-rising
returns-clause-rising c = subst (AllPairs (λ (k l : Keep). k.place < l.place)) (sym (returns-clause-keep c)) (kept_rises (set_with c.args.origin c.args.entries.now) c.args.held.now)

pub returns-clause-within : goal.returns-clause-within
returns-clause-within c = subst (All (λ (k : Keep). k.place < length c.args.held.now)) (sym (returns-clause-keep c)) (kept_within (set_with c.args.origin c.args.entries.now) c.args.held.now)

pub returns-clause-few : goal.returns-clause-few
returns-clause-few c =
    subst (λ keep. length keep ≤ length c.args.entries.now) (sym (returns-clause-keep c))
    (let few : length (kept_of (set_with c.args.origin c.args.entries.now) c.args.held.now) ≤ length (map entry_of c.args.entries.now) = kept_few (set_with c.args.origin c.args.entries.now) c.args.held.now in
    omega (arith, few, length-map c.args.entries.now entry_of))

pub returns-clause-before : goal.returns-clause-before
returns-clause-before c =
    let longs = c.as_slice.ensures ∙ c.in_ok-longs.ensures in
    let matches = matched_by c.args.origin c.args.entries.now c.args.held.now _ _ longs (c.as_slice-4.ensures ∙ c.in_ok-matches.ensures) in
    c.in_ok-resolve_by.ensures.before
    ∙ part_by Before c.args.origin c.args.entries.now c.args.held.now _ _ (c.as_slice-3.ensures ∙ c.in_ok-longs.ensures ∙ longs_are c.args.origin c.args.entries.now c.args.held.now) matches

pub returns-clause-after : goal.returns-clause-after
returns-clause-after c =
    let longs = c.as_slice.ensures ∙ c.in_ok-longs.ensures in
    let matches = matched_by c.args.origin c.args.entries.now c.args.held.now _ _ longs (c.as_slice-4.ensures ∙ c.in_ok-matches.ensures) in
    c.in_ok-resolve_by.ensures.after
    ∙ part_by After c.args.origin c.args.entries.now c.args.held.now _ _ (c.as_slice-3.ensures ∙ c.in_ok-longs.ensures ∙ longs_are c.args.origin c.args.entries.now c.args.held.now) matches

pub returns-clause-long : goal.returns-clause-long
returns-clause-long c =
    let longs = c.as_slice.ensures ∙ c.in_ok-longs.ensures in
    let matches = matched_by c.args.origin c.args.entries.now c.args.held.now _ _ longs (c.as_slice-4.ensures ∙ c.in_ok-matches.ensures) in
    c.in_ok-resolve_by.ensures.long
    ∙ part_by Long c.args.origin c.args.entries.now c.args.held.now _ _ (c.as_slice-3.ensures ∙ c.in_ok-longs.ensures ∙ longs_are c.args.origin c.args.entries.now c.args.held.now) matches
