-- What is answered of a slice segment behind others.
use Rattle.std.proofs.Common.{◌≡◌, ℕ, ℤ, true, false, cond, List, [], ◌∷◌, ◌++◌, reverse, Option, None, Some, ap, sym, subst, ◌∙◌}
use Rattle.std.specs.Prelude.{option_map, Ok, Err}
use Rattle.mv_rules.specs.declared.rule.Rule.{Rule}
use Rattle.mv_rules.specs.declared.refusal.ReadFault.{ReadFault}
use Rattle.mv_units.specs.declared.head.UnitHead.{UnitHead}
use Rattle.mv_slice.specs.declared.opening.SliceOpening.{SliceOpening}
use Rattle.mv_slice.specs.declared.slice.SliceHead.{SliceHead}
use Rattle.mv_slice.specs.declared.peek.SlicePeek.{SlicePeek}
use Rattle.mv_slice.specs.Peek.{peek}
use Rattle.mv_pictures.specs.AccessUnits.{number, placed}
use Rattle.mv_pictures.specs.Counts.{count}
use Rattle.mv_pictures.specs.Facts.{Fact, fact}
use Rattle.mv_pictures.specs.History.{facts_of, history_of, judged}
use Rattle.mv_pictures.specs.Items.{Item, is_first_segment, is_known, is_picture, is_slice, is_vps, items, opening_of}
use Rattle.mv_pictures.specs.Kinds.{is_pps_kind, is_sps_kind}
use Rattle.mv_pictures.specs.Look.{look}
use Rattle.mv_commuting.specs.OneMore.{fact_behind}
use Rattle.mv_tried.specs.Finer.{facts_in}
use Rattle.mv_tried.specs.Segments.{rule_of_segment, segment_rule}
use Rattle.mv_tried.specs.Tried.{first_of}
use Rattle.mv_tried.proofs.Roles.{slice_no_picture, slice_no_sequence}
use Rattle.mv_au.specs.Tracker as tracker
use Rattle.mv_au.specs.Tracker.{broken}
use Rattle.mv_au.specs.States.{state_of}
use Rattle.mv_au.specs.declared.states.PicState.{PicState}
use Rattle.mv_contexts.specs.Units.{IsWhyNoOpening}
use Rattle.mv_sets.specs.Store as store
use Rattle.mv_walk_segment.specs.Open.{later_rule}
use Rattle.mv_walk_segment.specs.Serving.{IsHeader}
use Rattle.mv_walk_sets.specs.InForce.{AreRead, VpsInForceValue, in_force}
use Rattle.mv_walk_sets.specs.declared.roles.Role.{Role}
use Rattle.mv_walk_laws.specs.Streams.{IsLatestChange, IsSound, item_behind, objected, placed_behind, placed_units}
use Rattle.mv_walk_laws.proofs.Changes.{change-other}
use Rattle.mv_walk_laws.proofs.OneMore.{au-of, fact-told, item-of, vps-other}
use Rattle.mv_walk_laws.proofs.Verdicts.{first-accepted, first-picture, first-segment, first-unit, later-accepted, later-picture, later-segment, later-unit}
use Rattle.mv_walk.specs.Courses.{Stood}
use Rattle.mv_walk.specs.Decoders.{DecoderStands}
use Rattle.mv_walk.specs.Ending.{of_read}
use Rattle.mv_walk.specs.Firsts.{TakesFirst}
use Rattle.mv_walk.specs.Laters.{TakesLater}
use Rattle.mv_walk.specs.Taking.{IsRole, Peeks, Takes}
use Rattle.mv_walk.specs.Told.{within_range}
use Rattle.mv_walk.specs.declared.course.Course.{Course}
use Rattle.mv_walk.specs.declared.ending.Stop.{Stop}
use Rattle.mv_walk.proofs.FirstOf.{picture-is, segment-is, unit-opening}
use Rattle.mv_walk.proofs.RoleParts.{IsSet, slice_is}
use Rattle.mv_walk.proofs.StoodMore.{both-none, not-turned, other-store, stood-of, turned-none}

-- ---- Its first fields

peeked : (o : Option SliceOpening) (told : SlicePeek) → option_map peek o ≡ Some told → (is_first_segment o ≡ told.first) × (option_map (λ (x : SliceOpening). x.slice_pic_parameter_set_id) o ≡ Some told.pps_id)
peeked None told h = absurd (let w : None ≡ Some told = h in cc)
peeked (Some x) told h = let same : peek x ≡ told = (let w : Some (peek x) ≡ Some told = h in cc) in (ap (λ (t : SlicePeek). t.first) same, ap (λ (t : SlicePeek). Some t.pps_id) same)

pub peeks-of : (u : List ℕ) (h : UnitHead) (told : SlicePeek) → option_map peek (opening_of h u) ≡ Some told → Peeks u h told.first told.pps_id
peeks-of u h told is = record { first_is = (peeked (opening_of h u) told is).0; id_is = (peeked (opening_of h u) told is).1 }

-- where they don't read, it is objected to
pub unread : {R W P : Type 0} (o : ℕ) (new : Course R W P) (us : List (List ℕ)) (u : List ℕ) (h : UnitHead) (fault : ReadFault) → IsRole us u h Role.Slice → IsWhyNoOpening (opening_of h u) fault → Takes o us u new (Err (of_read fault))
unfolding segment_rule first_of
unread o new us u h (ReadFault.Refused rule) r why =
    let none : (item_behind us u).opening ≡ None = unit-opening us u h Role.Slice r ∙ why.1 in
    let of_fact : (fact_behind us u).placed.item.opening ≡ None = ap (λ (i : Item). i.opening) (item-of us u) ∙ none in
    let refused : segment_rule (fact_behind us u) ≡ Some rule =
    ap (λ x. rule_of_segment x (fact_behind us u).sets (fact_behind us u).header) of_fact ∙ ap Some (sym why.0) in
    later-segment o us u rule (segment-is us u h r) (both-none (is_slice (item_behind us u)) (is_first_segment (item_behind us u).opening) (ap is_first_segment none)) r.decides.0 refused
unread o new us u h ReadFault.Memory r why = tt

-- ---- What is kept

slice-stood : {R W P : Type 0} (old new : Course R W P) (us : List (List ℕ)) (u : List ℕ) (h : UnitHead) → Stood old us → IsRole us u h Role.Slice → objected old.decoder.asked us u ≡ None → new.decoder.asked ≡ old.decoder.asked →
    new.vps ≡ old.vps → new.changed ≡ old.changed → new.sets ≡ old.sets → tracker.Stands new.units (item_behind us u ∷ items (reverse us)) →
    DecoderStands new.decoder old.vps (judged (history_of us) (fact_behind us u) ∷ history_of us) (number (placed_units us) (item_behind us u)) → Stood new (us ++ u ∷ [])
slice-stood old new us u h s r accepted asked vps changed sets units decoder =
    let i : Item = item_behind us u in
    let k : IsSet (is_vps i) (is_known i) _ = slice_is i r.role_is in
    stood-of new us u (subst (λ o. IsSound o us) (sym asked) s.sound) r.clean (ap (λ o. objected o us u) asked ∙ accepted)
    (vps-other us u k.no_video ∙ s.vps_is ∙ ap in_force (sym vps)) (subst AreRead (sym vps) s.read)
    (subst (λ x. IsLatestChange x (us ++ u ∷ [])) (sym changed) (change-other old.changed us u (not-turned i k.no_video) s.changed_is))
    (subst (λ x. store.Stands x (fact_behind us u ∷ facts_of us)) (sym sets)
    (other-store old.sets us u (turned-none us u k.no_video) (both-none (is_known i) (is_sps_kind i.head.kind) (slice_no_sequence i k.kind)) (both-none (is_known i) (is_pps_kind i.head.kind) (slice_no_picture i k.kind)) s.sets_are))
    units
    (subst (λ x. DecoderStands new.decoder x (judged (history_of us) (fact_behind us u) ∷ history_of us) (number (placed_units us) i)) (sym vps) decoder)

-- ---- The first one of a picture

pub first-takes : {R W P : Type 0} (old new : Course R W P) (us : List (List ℕ)) (u : List ℕ) (h : UnitHead) (id : ℕ) (v : VpsInForceValue) (header : SliceHead) (told : PicState × Option ℤ) → Stood old us → IsRole us u h Role.Slice →
    Peeks u h true id → old.vps ≡ Some v → IsHeader header (fact_behind us u) → broken (placed_units us) (placed_behind us u) ≡ None → TakesFirst v (history_of us) (fact_behind us u) new.decoder (Ok told) →
    new.decoder.asked ≡ old.decoder.asked → new.vps ≡ old.vps → new.changed ≡ old.changed → new.sets ≡ old.sets → tracker.Stands new.units (item_behind us u ∷ items (reverse us)) → Takes old.decoder.asked us u new (Ok (Some told))
unfolding first_of
first-takes old new us u h id v header told s r peek is header_is unit t asked vps changed sets units =
    let picture : is_picture (item_behind us u) ≡ true = picture-is us u h true id r peek in
    let accepted : objected old.decoder.asked us u ≡ None = first-accepted old.decoder.asked us u picture r.decides.0 header_is.none unit t.0 in (
      accepted,
      slice-stood old new us u h s r accepted asked vps changed sets units
          (subst (λ x. DecoderStands new.decoder x (judged (history_of us) (fact_behind us u) ∷ history_of us) (number (placed_units us) (item_behind us u))) (sym is)
          (subst (DecoderStands new.decoder (Some v) (judged (history_of us) (fact_behind us u) ∷ history_of us)) (au-of us u) t.1)),
      ap Some t.2
          ∙ sym (ap (λ b. cond b (Some (state_of (look (history_of us) (fact_behind us u)) (fact_behind us u), within_range (count (look (history_of us) (fact_behind us u)) (fact_behind us u)))) None)
          (ap is_picture (item-of us u) ∙ picture)),
    )

pub first-refused : {R W P : Type 0} (o : ℕ) (old new : Course R W P) (us : List (List ℕ)) (u : List ℕ) (h : UnitHead) (id : ℕ) (v : VpsInForceValue) (header : SliceHead) (stop : Stop) → IsRole us u h Role.Slice →
    Peeks u h true id → IsHeader header (fact_behind us u) → broken (placed_units us) (placed_behind us u) ≡ None → TakesFirst v (history_of us) (fact_behind us u) old.decoder (Err stop) → Takes o us u new (Err stop)
unfolding first_of
first-refused o old new us u h id v header (Stop.Breaks rule) r peek header_is unit t = first-picture o us u rule (picture-is us u h true id r peek) r.decides.0 header_is.none unit t
first-refused o old new us u h id v header (Stop.Lacks asked number) r peek header_is unit t = absurd t
first-refused o old new us u h id v header Stop.View r peek header_is unit t = tt
first-refused o old new us u h id v header Stop.Memory r peek header_is unit t = tt

-- by its sets and its header, and by its access unit
pub first-segment-refused : {R W P : Type 0} (o : ℕ) (new : Course R W P) (us : List (List ℕ)) (u : List ℕ) (h : UnitHead) (id : ℕ) (rule : Rule) → IsRole us u h Role.Slice → Peeks u h true id → segment_rule (fact_behind us u) ≡ Some rule →
    Takes o us u new (Err (Stop.Breaks rule))
unfolding first_of
first-segment-refused o new us u h id rule r peek refused = first-segment o us u rule (picture-is us u h true id r peek) r.decides.0 refused

pub first-unit-refused : {R W P : Type 0} (o : ℕ) (new : Course R W P) (us : List (List ℕ)) (u : List ℕ) (h : UnitHead) (id : ℕ) (header : SliceHead) (rule : Rule) → IsRole us u h Role.Slice → Peeks u h true id → IsHeader header (fact_behind us u) →
    broken (placed_units us) (placed_behind us u) ≡ Some rule → Takes o us u new (Err (Stop.Breaks rule))
unfolding first_of
first-unit-refused o new us u h id header rule r peek header_is refused = first-unit o us u rule (picture-is us u h true id r peek) r.decides.0 header_is.none refused

-- ---- One that isn't the first one

same-rule : (us : List (List ℕ)) (u : List ℕ) (rule : Option Rule) → later_rule (history_of us) (fact (facts_in (history_of us)) (placed_behind us u)) ≡ rule → later_rule (history_of us) (fact_behind us u) ≡ rule
same-rule us u rule h = ap (later_rule (history_of us)) (fact-told us u) ∙ h

pub later-takes : {R W P : Type 0} (old new : Course R W P) (us : List (List ℕ)) (u : List ℕ) (h : UnitHead) (id : ℕ) (v : VpsInForceValue) (header : SliceHead) → Stood old us → IsRole us u h Role.Slice →
    Peeks u h false id → old.vps ≡ Some v → IsHeader header (fact_behind us u) → broken (placed_units us) (placed_behind us u) ≡ None → TakesLater v (history_of us) (placed_behind us u) new.decoder (Ok tt) →
    new.decoder.asked ≡ old.decoder.asked → new.vps ≡ old.vps → new.changed ≡ old.changed → new.sets ≡ old.sets → tracker.Stands new.units (item_behind us u ∷ items (reverse us)) → Takes old.decoder.asked us u new (Ok None)
unfolding first_of placed
later-takes old new us u h id v header s r peek is header_is unit t asked vps changed sets units =
    let later : is_picture (item_behind us u) ≡ false = picture-is us u h false id r peek in
    let accepted : objected old.decoder.asked us u ≡ None = later-accepted old.decoder.asked us u (segment-is us u h r) later r.decides.0 header_is.none unit (same-rule us u None t.0) in (
      accepted,
      slice-stood old new us u h s r accepted asked vps changed sets units
          (subst (λ x. DecoderStands new.decoder x (judged (history_of us) (fact_behind us u) ∷ history_of us) (number (placed_units us) (item_behind us u))) (sym is)
          (subst (λ (p : Fact). DecoderStands new.decoder (Some v) (judged (history_of us) p ∷ history_of us) (number (placed_units us) (item_behind us u))) (sym (fact-told us u)) t.1)),
      sym (ap (λ b. cond b (Some (state_of (look (history_of us) (fact_behind us u)) (fact_behind us u), within_range (count (look (history_of us) (fact_behind us u)) (fact_behind us u)))) None)
          (ap is_picture (item-of us u) ∙ later)),
    )

pub later-refused : {R W P : Type 0} (o : ℕ) (old new : Course R W P) (us : List (List ℕ)) (u : List ℕ) (h : UnitHead) (id : ℕ) (v : VpsInForceValue) (header : SliceHead) (stop : Stop) → IsRole us u h Role.Slice →
    Peeks u h false id → IsHeader header (fact_behind us u) → broken (placed_units us) (placed_behind us u) ≡ None → TakesLater v (history_of us) (placed_behind us u) old.decoder (Err stop) → Takes o us u new (Err stop)
unfolding first_of
later-refused o old new us u h id v header (Stop.Breaks rule) r peek header_is unit t =
    later-picture o us u rule (segment-is us u h r) (picture-is us u h false id r peek) r.decides.0 header_is.none unit (same-rule us u (Some rule) t)
later-refused o old new us u h id v header (Stop.Lacks asked number) r peek header_is unit t = absurd t
later-refused o old new us u h id v header Stop.View r peek header_is unit t = absurd t
later-refused o old new us u h id v header Stop.Memory r peek header_is unit t = tt

pub later-segment-refused : {R W P : Type 0} (o : ℕ) (new : Course R W P) (us : List (List ℕ)) (u : List ℕ) (h : UnitHead) (id : ℕ) (rule : Rule) → IsRole us u h Role.Slice → Peeks u h false id → segment_rule (fact_behind us u) ≡ Some rule →
    Takes o us u new (Err (Stop.Breaks rule))
unfolding first_of
later-segment-refused o new us u h id rule r peek refused = later-segment o us u rule (segment-is us u h r) (picture-is us u h false id r peek) r.decides.0 refused

pub later-unit-refused : {R W P : Type 0} (o : ℕ) (new : Course R W P) (us : List (List ℕ)) (u : List ℕ) (h : UnitHead) (id : ℕ) (header : SliceHead) (rule : Rule) → IsRole us u h Role.Slice → Peeks u h false id → IsHeader header (fact_behind us u) →
    broken (placed_units us) (placed_behind us u) ≡ Some rule → Takes o us u new (Err (Stop.Breaks rule))
unfolding first_of
later-unit-refused o new us u h id header rule r peek header_is refused = later-unit o us u rule (segment-is us u h r) (picture-is us u h false id r peek) r.decides.0 header_is.none refused
