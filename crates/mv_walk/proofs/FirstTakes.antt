-- The first segment of a picture, as calls are asked of it.
use Rattle.std.proofs.Common.{◌≡◌, ℕ, ◌+◌, ◌<◌, ◌^◌, Bool, true, false, List, ◌∷◌, length, reverse, Option, None, Some, refl, ap, sym, subst, ◌∙◌}
use Rattle.std.specs.Prelude.{option_map, nat_eq, Result, Ok, Err}
use Rattle.std.specs.Option.{option_eq}
use Rattle.std.proofs.lemmas.Bool.{eq-eqb, eqb-true, ne_eqb}
use Rattle.mv_syntax.specs.Table.{Valid}
use Rattle.mv_syntax.specs.Words.{◌otherwise◌}
use Rattle.mv_rules.specs.declared.rule.Rule.{Rule}
use Rattle.mv_rules.specs.declared.refusal.ReadFault.{ReadFault}
use Rattle.mv_units.specs.declared.head.UnitHead.{UnitHead}
use Rattle.mv_vps.specs.Vps.{WholeVps}
use Rattle.mv_slice.specs.Slice.{slice_header}
use Rattle.mv_slice.specs.declared.slice.SliceHead.{SliceHead}
use Rattle.mv_pictures.specs.AccessUnits.{Placed, placed}
use Rattle.mv_pictures.specs.Facts.{Fact, Sets, fact, named_sets, sets_of}
use Rattle.mv_pictures.specs.History.{facts_of, history_of}
use Rattle.mv_pictures.specs.Items.{Item, items}
use Rattle.mv_pictures.specs.Kinds.{is_slice_kind}
use Rattle.mv_commuting.specs.OneMore.{fact_behind}
use Rattle.mv_au.specs.Tracker as tracker
use Rattle.mv_au.specs.Tracker.{IsTold, broken}
use Rattle.mv_au.specs.TrackerValue.{TrackerValue}
use Rattle.mv_au.specs.declared.access_units.AuStep.{AuStep}
use Rattle.mv_sets.specs.Sets.{carried_pps, carried_sps}
use Rattle.mv_sets.specs.Store as store
use Rattle.mv_walk_segment.specs.OpenValue.{ServedValue}
use Rattle.mv_walk_segment.specs.Serving.{IsHeader, IsInStream, IsSegment, IsServing, Names, Reads, context_by, sets_by}
use Rattle.mv_walk_segment.proofs.NamedLaws.{reads-lack}
use Rattle.mv_walk_segment.proofs.OpenLaws.{named-first}
use Rattle.mv_walk_sets.specs.InForce.{AreRead, IsRead, VpsInForceValue}
use Rattle.mv_walk_sets.specs.declared.roles.Role.{Role}
use Rattle.mv_walk_laws.specs.Streams.{item_behind, placed_behind, placed_units}
use Rattle.mv_walk_laws.proofs.Headers.{next-full}
use Rattle.mv_walk_laws.proofs.Sizes.{next-short, served-pps, served-sps, vps-size}
use Rattle.mv_walk_laws.proofs.Steps.{answer-err, answer-ok}
use Rattle.mv_walk.specs.Courses.{Stood}
use Rattle.mv_walk.specs.Ending.{of_read}
use Rattle.mv_walk.specs.Firsts.{CanBegin, IsFirst}
use Rattle.mv_walk.specs.Taking.{IsRole, Peeks, Takes}
use Rattle.mv_walk.specs.declared.course.Course.{Course}
use Rattle.mv_walk.specs.declared.ending.Stop.{Stop}
use Rattle.mv_walk.specs.declared.first.FirstSegment.{FirstSegment}
use Rattle.mv_walk.proofs.FirstOf.{first-of-stream, picture-is, segment-is, segment-of, unit-bytes, unit-head}
use Rattle.mv_walk.proofs.Joining.{few-items}
use Rattle.mv_walk.proofs.LaterTakes.{first-read-refused, in-stream}
use Rattle.mv_walk.proofs.RoleParts.{slice_is}
use Rattle.mv_walk.proofs.SegmentTold.{told-segment}
use Rattle.mv_walk.proofs.Segments.{first-unit-refused}

-- ---- The unit

pub slice-kind : (us : List (List ℕ)) (u : List ℕ) (h : UnitHead) → IsRole us u h Role.Slice → is_slice_kind h.kind ≡ true
slice-kind us u h r = ap (λ (k : UnitHead). is_slice_kind k.kind) (sym (unit-head us u h Role.Slice r)) ∙ (slice_is (item_behind us u) r.role_is).kind

-- ---- Its sets

-- the sets that are kept stand for the units before it, also where its video parameter set is seen by its fields
pub first-in-stream : {R W P : Type 0} (c : Course R W P) (us : List (List ℕ)) (u : List ℕ) (h : UnitHead) (id : ℕ) (v : VpsInForceValue) (w : WholeVps) → Stood c us → IsRole us u h Role.Slice → Peeks u h true id → c.vps ≡ Some v →
    w ≡ v.value → IsInStream c.sets w h id
first-in-stream c us u h id v w s role peek is seen = subst (λ x. IsInStream c.sets x h id) (sym seen) (in-stream c us u h true id v s role peek is)

segment-by : {R W P : Type 0} (c : Course R W P) (us : List (List ℕ)) (u : List ℕ) (h : UnitHead) (id : ℕ) (v : VpsInForceValue) (w : WholeVps) → Stood c us → IsRole us u h Role.Slice → Peeks u h true id → c.vps ≡ Some v →
    w ≡ v.value → IsSegment w h id (placed_behind us u)
segment-by c us u h id v w s role peek is seen = subst (λ x. IsSegment x h id (placed_behind us u)) (sym seen) (segment-of c us u h true id v s role peek is)

-- what it names is there, or it breaks a rule on its sets
pub first-names : {R W P : Type 0} (c : Course R W P) (us : List (List ℕ)) (u : List ℕ) (h : UnitHead) (id : ℕ) (v : VpsInForceValue) (w : WholeVps) (r : Result ServedValue ReadFault) → Stood c us → IsRole us u h Role.Slice → Peeks u h true id →
    c.vps ≡ Some v → w ≡ v.value → ((past : List Fact) (q : Placed) → store.Stands c.sets past → IsSegment w h id q → Names r (named_sets past q)) → Names r (named_sets (facts_of us) (placed_behind us u))
first-names c us u h id v w r s role peek is seen answers = answers (facts_of us) (placed_behind us u) s.sets_are (segment-by c us u h id v w s role peek is seen)

sets-named : (us : List (List ℕ)) (u : List ℕ) (h : UnitHead) (id : ℕ) → IsRole us u h Role.Slice → Peeks u h true id → sets_of (facts_of us) (placed_behind us u) ≡ named_sets (facts_of us) (placed_behind us u)
unfolding placed
sets-named us u h id role peek = named-first (facts_of us) (placed_behind us u) (segment-is us u h role) (picture-is us u h true id role peek)

pub first-lacks : {R W P : Type 0} (c new : Course R W P) (us : List (List ℕ)) (u : List ℕ) (h : UnitHead) (id : ℕ) (v : VpsInForceValue) (w : WholeVps) (fault : ReadFault) → Stood c us → IsRole us u h Role.Slice → Peeks u h true id →
    c.vps ≡ Some v → w ≡ v.value → ((past : List Fact) (q : Placed) → store.Stands c.sets past → IsSegment w h id q → Names (Err fault) (named_sets past q)) → Takes c.decoder.asked us u new (Err (of_read fault))
first-lacks c new us u h id v w fault s role peek is seen answers =
    first-read-refused c.decoder.asked new us u h id fault role peek
    (reads-lack (facts_of us) (placed_behind us u) id fault (segment-by c us u h id v w s role peek is seen).id_is (sets-named us u h id role peek) (first-names c us u h id v w (Err fault) s role peek is seen answers))

-- ---- Its header

pub first-reads : {R W P : Type 0} (c : Course R W P) (us : List (List ℕ)) (u : List ℕ) (h : UnitHead) (id : ℕ) (v : VpsInForceValue) (w : WholeVps) (served : ServedValue) (r : Result SliceHead ReadFault) → Stood c us → IsRole us u h Role.Slice →
    Peeks u h true id → c.vps ≡ Some v → w ≡ v.value → Names (Ok served) (named_sets (facts_of us) (placed_behind us u)) →
    ((past : List Fact) (q : Placed) (n : ℕ) → IsSegment w h n q → q.item.bytes ≡ u → sets_of past q ≡ sets_by served.active → Reads r (fact past q)) → Reads r (fact_behind us u)
unfolding placed
first-reads c us u h id v w served r s role peek is seen named answers =
    answers (facts_of us) (placed_behind us u) id (segment-by c us u h id v w s role peek is seen) (unit-bytes us u) (sets-named us u h id role peek ∙ named)

-- ---- All that is asked

same-turned : (n m : ℕ) → nat_eq n m ≡ nat_eq m n
same-turned n m = go (nat_eq m n) refl
  where
    go : (b : Bool) → nat_eq m n ≡ b → nat_eq n m ≡ b
    go true e = eq-eqb n m (sym (eqb-true m n e))
    go false e = ne_eqb n m (λ same. let wrong : true ≡ false = sym (eq-eqb m n (sym same)) ∙ e in cc)

-- whether the access unit of the latest change is this one
change-here : (n : ℕ) (changed : Option ℕ) → (option_map (nat_eq n) changed otherwise false) ≡ option_eq nat_eq changed (Some n)
change-here n None = refl
change-here n (Some m) = same-turned n m

pub first-asked : {R W P : Type 0} (c : Course R W P) (us : List (List ℕ)) (u : List ℕ) (id : ℕ) (v : VpsInForceValue) (s : FirstSegment) (step : AuStep) (now : TrackerValue) → Stood c us → length us + 1 < 2 ^ 64 → IsRole us u s.head Role.Slice → Peeks u s.head true id →
    c.vps ≡ Some v → s.au ≡ step.au → (option_map (nat_eq step.au) c.changed otherwise false) ≡ s.behind_change → Names (Ok s.served) (named_sets (facts_of us) (placed_behind us u)) → IsHeader s.header (fact_behind us u) →
    Ok step ≡ tracker.answer (items (reverse us)) (item_behind us u) → tracker.Stands now (item_behind us u ∷ items (reverse us)) → IsFirst v s (history_of us) (fact_behind us u)
first-asked c us u id v s step now stood few role peek is au_is changed named header answered tracked =
    let told = answer-ok us u step (sym answered) in
    let au = ap (λ (t : AuStep). t.au) told.0 in
    first-of-stream c us u s.head id v s stood few role peek is refl (au_is ∙ au) (ap (λ n. option_map (nat_eq n) c.changed otherwise false) (sym au) ∙ changed) named header tracked.kept told.1

pub first-can : {R W P : Type 0} (c : Course R W P) (us : List (List ℕ)) (u : List ℕ) (id : ℕ) (v : VpsInForceValue) (w : WholeVps) (s : FirstSegment) → Stood c us → IsRole us u s.head Role.Slice → Peeks u s.head true id → c.vps ≡ Some v →
    w ≡ v.value → Names (Ok s.served) (named_sets (facts_of us) (placed_behind us u)) → IsHeader s.header (fact_behind us u) → IsServing w s.head s.served →
    Valid (slice_header (context_by w s.served.active s.head) s.head.kind) s.header → CanBegin v s
unfolding fact
first-can c us u id v w s stood role peek is seen named header serving valid =
    let sets : (fact_behind us u).sets ≡ sets_by s.served.active = sets-named us u s.head id role peek ∙ named in
    let read : IsRead v = subst AreRead is stood.read in
    record {
      layer = role.low;
      serving = subst (λ x. IsServing x s.head s.served) seen serving;
      valid = subst (λ x. Valid (slice_header (context_by x s.served.active s.head) s.head.kind) s.header) seen valid;
      full = next-full us u s.header header.header_is header.opening_is (picture-is us u s.head true id role peek);
      vps_short = vps-size v.payload v.value.coded read.reads;
      sps_short = served-sps (fact_behind us u) (carried_sps s.served.active.sps) s.served.active.sps.value.0 (next-short us u) (ap (λ (x : Sets). x.sps) sets) refl;
      pps_short = served-pps (fact_behind us u) (carried_pps s.served.active.pps) s.served.active.pps.value.0 (next-short us u) (ap (λ (x : Sets). x.pps) sets) refl;
    }

-- its access unit and its sets and its header, as its calls told them
pub record IsBegun (v : VpsInForceValue) (us : List (List ℕ)) (u : List ℕ) (s : FirstSegment) (now : TrackerValue) : Type 0 where
  pub named : Names (Ok s.served) (named_sets (facts_of us) (placed_behind us u))
  pub header : IsHeader s.header (fact_behind us u)
  pub unit : broken (placed_units us) (placed_behind us u) ≡ None
  pub tracked : tracker.Stands now (item_behind us u ∷ items (reverse us))
  pub first : IsFirst v s (history_of us) (fact_behind us u)

pub begun-by : {R W P : Type 0} (c : Course R W P) (us : List (List ℕ)) (u : List ℕ) (id : ℕ) (v : VpsInForceValue) (w : WholeVps) (s : FirstSegment) (step : AuStep) (now : TrackerValue) → Stood c us → length us + 1 < 2 ^ 64 →
    IsRole us u s.head Role.Slice → Peeks u s.head true id → c.vps ≡ Some v → w ≡ v.value → s.au ≡ step.au → s.behind_change ≡ option_eq nat_eq c.changed (Some step.au) →
    ((past : List Fact) (q : Placed) → store.Stands c.sets past → IsSegment w s.head id q → Names (Ok s.served) (named_sets past q)) →
    ((past : List Fact) (q : Placed) (n : ℕ) → IsSegment w s.head n q → q.item.bytes ≡ u → sets_of past q ≡ sets_by s.served.active → Reads (Ok s.header) (fact past q)) →
    ((before : List Item) (i : Item) → tracker.Stands c.units before → IsTold i s.head (Some true) → length before + 1 < 2 ^ 64 → Ok step ≡ tracker.answer before i) →
    ((before : List Item) (i : Item) → tracker.Stands c.units before → IsTold i s.head (Some true) → length before + 1 < 2 ^ 64 → tracker.Stands now (i ∷ before)) → IsBegun v us u s now
begun-by c us u id v w s step now stood few role peek is seen au_is changed names reads answers tracks =
    let named : Names (Ok s.served) (named_sets (facts_of us) (placed_behind us u)) = first-names c us u s.head id v w (Ok s.served) stood role peek is seen names in
    let header : IsHeader s.header (fact_behind us u) = first-reads c us u s.head id v w s.served (Ok s.header) stood role peek is seen named reads in
    let told : IsTold (item_behind us u) s.head (Some true) = told-segment us u s.head true id role peek in
    let answered : Ok step ≡ tracker.answer (items (reverse us)) (item_behind us u) = answers (items (reverse us)) (item_behind us u) stood.units_are told (few-items us few) in
    let tracked : tracker.Stands now (item_behind us u ∷ items (reverse us)) = tracks (items (reverse us)) (item_behind us u) stood.units_are told (few-items us few) in
    record {
      named = named;
      header = header;
      unit = (answer-ok us u step (sym answered)).1;
      tracked = tracked;
      first = first-asked c us u id v s step now stood few role peek is au_is (change-here step.au c.changed ∙ sym changed) named header answered tracked;
    }

-- it breaks a rule on access units
pub first-unjoined : {R W P : Type 0} (o : ℕ) (new : Course R W P) (us : List (List ℕ)) (u : List ℕ) (h : UnitHead) (id : ℕ) (header : SliceHead) (rule : Rule) → IsRole us u h Role.Slice → Peeks u h true id → IsHeader header (fact_behind us u) →
    Err rule ≡ tracker.answer (items (reverse us)) (item_behind us u) → Takes o us u new (Err (Stop.Breaks rule))
first-unjoined o new us u h id header rule role peek is answered = first-unit-refused o new us u h id header rule role peek is (answer-err us u rule (sym answered))
