-- Parameter sets: what is kept behind each.
use Rattle.std.proofs.Common.{◌≡◌, ℕ, Bool, true, false, ◌&&◌, List, [], ◌∷◌, ◌++◌, reverse, Option, None, Some, refl, ap, sym, subst, ◌∙◌}
use Rattle.std.specs.Prelude.{◌≤◌, ◌||◌, nat_eq, not, option_map, Ok, Err}
use Rattle.std.specs.Option.{IfSome}
use Rattle.std.specs.List.{find}
use Rattle.std.proofs.lemmas.Bool.{and_parts, eq-eqb, eqb-true}
use Rattle.mv_syntax.specs.Words.{◌otherwise◌}
use Rattle.mv_units.specs.declared.head.UnitHead.{UnitHead}
use Rattle.mv_vps.specs.Vps.{WholeVps}
use Rattle.mv_pictures.specs.AccessUnits.{number}
use Rattle.mv_pictures.specs.History.{facts_of, history_of, judged}
use Rattle.mv_pictures.specs.Items.{Item, is_known, is_slice, is_vps, items, turns}
use Rattle.mv_pictures.specs.Judged as judgements
use Rattle.mv_pictures.specs.Judged.{Judged, in_au, is_picture}
use Rattle.mv_pictures.specs.Kinds.{is_slice_kind}
use Rattle.mv_pictures.specs.Rules.{item_cases}
use Rattle.mv_pictures.specs.Verdict.{lacking}
use Rattle.mv_commuting.specs.OneMore.{fact_behind}
use Rattle.mv_reflists.specs.Sizes.{total}
use Rattle.mv_tried.specs.Tried.{first_of}
use Rattle.mv_sets.specs.Store as store
use Rattle.mv_sets.specs.Store.{CarriesPps, CarriesSps}
use Rattle.mv_au.specs.Tracker as tracker
use Rattle.mv_au.specs.declared.access_units.AuStep.{AuStep}
use Rattle.mv_walk_segment.specs.Open as open_picture
use Rattle.mv_walk_segment.specs.OpenValue.{OpenValue}
use Rattle.mv_walk_segment.specs.Serving.{IsServing}
use Rattle.mv_walk_segment.specs.Taken.{AreShort}
use Rattle.mv_walk_sets.specs.InForce.{AreRead, CarriedPpsValue, CarriedSpsValue, IsRead, VpsInForceValue, carried_of, in_force}
use Rattle.mv_walk_sets.specs.Roles.{least}
use Rattle.mv_walk_sets.proofs.DecideLaws.{other_kind}
use Rattle.mv_walk_sets.specs.declared.fault.VpsFault.{VpsFault}
use Rattle.mv_walk_sets.specs.Taken.{TakesVps}
use Rattle.mv_walk_sets.specs.declared.roles.Role.{Role}
use Rattle.mv_walk_sets.specs.declared.vps.NewVps.{NewVps}
use Rattle.mv_walk_laws.specs.Streams.{IsLatestChange, IsSound, item_behind, objected, placed_units}
use Rattle.mv_walk_laws.proofs.Bases.{vps-behind}
use Rattle.mv_walk_laws.proofs.Changes.{change-new, change-other}
use Rattle.mv_walk_laws.proofs.OneMore.{item-of, vps-before}
use Rattle.mv_walk_laws.proofs.Steps.{vps-no_slice}
use Rattle.mv_walk_laws.proofs.Verdicts.{video-lacking, video-refused}
use Rattle.mv_walk.specs.Courses.{Stood}
use Rattle.mv_walk.specs.Decoders.{DecoderStands, Opens}
use Rattle.mv_walk.specs.Ending.{of_vps}
use Rattle.mv_walk.specs.Taking.{IsNewPps, IsNewSps, IsNewVps, IsRole, Joined, Joins, PutsVps, Takes, step_behind}
use Rattle.mv_walk.specs.declared.course.Course.{Course}
use Rattle.mv_walk.specs.declared.decoder.Decoder.{Decoder}
use Rattle.mv_walk.proofs.Others.{decoder-over}
use Rattle.mv_walk.proofs.RoleParts.{video_is}
use Rattle.mv_walk.proofs.StoodMore.{both-none, fact-of, joined-over, more-stood, no-pps, no-sps, other-store, slice-none, states-over, stood-of, told-none, turned-none}

-- ---- The open picture at a video parameter set

-- no picture of an access unit is open, where the latest picture is of another one
none-open : (v : WholeVps) (picture : Option OpenValue) (past : List Judged) (n : ℕ) → (option_map (in_au n) (find (λ (d : Judged). is_picture d.fact) past) otherwise false) ≡ false →
    open_picture.Stands v picture past n → picture ≡ None
none-open v None past n none h = refl
none-open v (Some it) past n none h =
    let here : (option_map (in_au n) (find (λ (d : Judged). is_picture d.fact) past) otherwise false) ≡ true =
    ap (λ o. option_map (in_au n) o otherwise false) h.picture ∙ eq-eqb (judgements.au h.first.fact) n h.au_is in
    absurd (let e : false ≡ true = sym none ∙ here in cc)

closed-at : (old : Option VpsInForceValue) (picture : Option OpenValue) (past : List Judged) (n : ℕ) → (option_map (in_au n) (find (λ (d : Judged). is_picture d.fact) past) otherwise false) ≡ false →
    Opens old picture past n → picture ≡ None
closed-at None picture past n none h = h
closed-at (Some v) picture past n none h = none-open v.value picture past n none h.stands

-- so another one may come into force
opens-new : (old : Option VpsInForceValue) (new : VpsInForceValue) (picture : Option OpenValue) (past : List Judged) (n : ℕ) →
    (option_map (in_au n) (find (λ (d : Judged). is_picture d.fact) past) otherwise false) ≡ false → Opens old picture past n → Opens (Some new) picture past n
opens-new old new picture past n none h =
    let closed : picture ≡ None = closed-at old picture past n none h in
    record {
      stands = subst (λ o. open_picture.Stands new.value o past n) (sym closed) none;
      serving = subst (λ o. IfSome o (λ it. IsServing new.value it.head it.served)) (sym closed) tt;
      few = subst (λ o. IfSome o (λ (it : OpenValue). IfSome it.decoded (λ decoded. (total decoded.sizes ≤ 255) × AreShort decoded.lists))) (sym closed) tt;
    }

decoder-new : {R W P : Type 0} (d : Decoder R W P) (old : Option VpsInForceValue) (new : VpsInForceValue) (past : List Judged) (n : ℕ) →
    (option_map (in_au n) (find (λ (d : Judged). is_picture d.fact) past) otherwise false) ≡ false → DecoderStands d old past n → DecoderStands d (Some new) past n
decoder-new d old new past n none h = record { keeps = h.keeps; open_is = opens-new old new d.picture past n none h.open_is; made = h.made }

-- ---- Units that are parameter sets

last-none : (x k y : Bool) → y ≡ false → (x && k && y) ≡ false
last-none true true y none = none
last-none true false y none = refl
last-none false true y none = refl
last-none false false y none = refl

neither : (a b : Bool) → a ≡ false → b ≡ false → (a || b) ≡ false
neither true b wrong none = absurd (let e : true ≡ false = wrong in cc)
neither false b same none = none

-- a unit of this type ends nothing
kind-of : (us : List (List ℕ)) (u : List ℕ) → judgements.kind (fact_behind us u) ≡ (item_behind us u).head.kind
kind-of us u = ap (λ (i : Item). i.head.kind) (item-of us u)

of-kind : (us : List (List ℕ)) (u : List ℕ) (a b : ℕ) → nat_eq a b ≡ false → nat_eq (item_behind us u).head.kind a ≡ true → nat_eq (judgements.kind (fact_behind us u)) b ≡ false
of-kind us u a b other is = ap (λ k. nat_eq k b) (kind-of us u) ∙ other_kind (item_behind us u).head.kind a b other is

set-no_end : (us : List (List ℕ)) (u : List ℕ) (a : ℕ) → nat_eq a 36 ≡ false → nat_eq a 37 ≡ false → nat_eq (item_behind us u).head.kind a ≡ true → judgements.is_end (fact_behind us u) ≡ false
set-no_end us u a no_eos no_eob is =
    last-none (nat_eq (judgements.layer (fact_behind us u)) 0) (is_known (fact_behind us u).placed.item) (nat_eq (judgements.kind (fact_behind us u)) 36 || nat_eq (judgements.kind (fact_behind us u)) 37)
    (neither (nat_eq (judgements.kind (fact_behind us u)) 36) (nat_eq (judgements.kind (fact_behind us u)) 37) (of-kind us u a 36 no_eos is) (of-kind us u a 37 no_eob is))

set-no_layer_end : (us : List (List ℕ)) (u : List ℕ) (a : ℕ) → nat_eq a 36 ≡ false → nat_eq (item_behind us u).head.kind a ≡ true → judgements.is_layer_end (fact_behind us u) ≡ false
set-no_layer_end us u a no_eos is =
    last-none (not (nat_eq (judgements.layer (fact_behind us u)) 0)) (is_known (fact_behind us u).placed.item) (nat_eq (judgements.kind (fact_behind us u)) 36) (of-kind us u a 36 no_eos is)

set-no_vps : (us : List (List ℕ)) (u : List ℕ) (a : ℕ) → nat_eq a 32 ≡ false → nat_eq (item_behind us u).head.kind a ≡ true → is_vps (item_behind us u) ≡ false
set-no_vps us u a other is = ap (λ b. b && nat_eq (item_behind us u).head.layer 0) (other_kind (item_behind us u).head.kind a 32 other is)

pub set-no_slice : (us : List (List ℕ)) (u : List ℕ) (a : ℕ) → is_slice_kind a ≡ false → nat_eq (item_behind us u).head.kind a ≡ true → is_slice (item_behind us u) ≡ false
set-no_slice us u a other is =
    both-none (is_known (item_behind us u)) (is_slice_kind (item_behind us u).head.kind) (ap is_slice_kind (eqb-true (item_behind us u).head.kind a is) ∙ other)

-- ---- Video parameter sets

vps-over : {R W P : Type 0} (old mid : Course R W P) (v : Option VpsInForceValue) (us : List (List ℕ)) (u : List ℕ) → Joined us u old mid → is_vps (item_behind us u) ≡ true →
    DecoderStands mid.decoder v (history_of us) (number (placed_units us) (item_behind us u)) →
    DecoderStands mid.decoder v (judged (history_of us) (fact_behind us u) ∷ history_of us) (number (placed_units us) (item_behind us u))
vps-over old mid v us u j is h =
    let kind : nat_eq (item_behind us u).head.kind 32 ≡ true = (and_parts (nat_eq (item_behind us u).head.kind 32) (nat_eq (item_behind us u).head.layer 0) is).0 in
    decoder-over mid.decoder v (history_of us) (fact_behind us u) (number (placed_units us) (item_behind us u)) (slice-none us u (vps-no_slice us u is))
    (states-over mid.decoder.states us u (vps-no_slice us u is) (set-no_end us u 32 refl refl kind) (set-no_layer_end us u 32 refl kind) j.decoder_is.keeps.states_are) h

vps-no_set : (us : List (List ℕ)) (u : List ℕ) (b : ℕ) → nat_eq 32 b ≡ false → is_vps (item_behind us u) ≡ true → (is_known (item_behind us u) && nat_eq (item_behind us u).head.kind b) ≡ false
vps-no_set us u b other is =
    both-none (is_known (item_behind us u)) (nat_eq (item_behind us u).head.kind b)
    (other_kind (item_behind us u).head.kind 32 b other (and_parts (nat_eq (item_behind us u).head.kind 32) (nat_eq (item_behind us u).head.layer 0) is).0)

vps-accepted : (o : ℕ) (us : List (List ℕ)) (u : List ℕ) → is_vps (item_behind us u) ≡ true → least (item_cases (item_behind us u)) ≡ None → lacking o (item_behind us u) ≡ None → objected o us u ≡ None
unfolding first_of
vps-accepted o us u is none has = video-lacking o us u is none ∙ has

-- the same set again
again-stood : {R W P : Type 0} (old mid new : Course R W P) (us : List (List ℕ)) (u : List ℕ) (h : UnitHead) → Joined us u old mid → Stood old us → IsRole us u h Role.Vps →
    TakesVps old.decoder.asked (item_behind us u) (Ok NewVps.Repeated) → new ≡ record mid { last = new.last } → Stood new (us ++ u ∷ [])
again-stood {R} {W} {P} old mid new us u h j s r t rest =
    let i : Item = item_behind us u in
    let is : is_vps i ≡ true = video_is i r.role_is in
    subst (λ (x : Course R W P). Stood x (us ++ u ∷ [])) (sym rest) (stood-of (record mid { last = new.last }) us u
    (subst (λ o. IsSound o us) (sym j.asked_is) s.sound) r.clean (ap (λ o. objected o us u) j.asked_is ∙ vps-accepted old.decoder.asked us u is t.0 t.1)
    (t.4 ∙ vps-before us u ∙ s.vps_is ∙ ap in_force (sym j.vps_is)) (subst AreRead (sym j.vps_is) s.read)
    (subst (λ x. IsLatestChange x (us ++ u ∷ [])) (sym j.changed_is) (change-other old.changed us u t.3 s.changed_is))
    (subst (λ x. store.Stands x (fact_behind us u ∷ facts_of us)) (sym j.sets_are)
    (other-store old.sets us u (ap turns (item-of us u) ∙ t.3) (vps-no_set us u 33 refl is) (vps-no_set us u 34 refl is) s.sets_are))
    j.units_are (vps-over old mid mid.vps us u j is j.decoder_is))

-- another one, by what is kept of sets and of the latest change
new-stood : {R W P : Type 0} (old mid new : Course R W P) (us : List (List ℕ)) (u : List ℕ) (h : UnitHead) (v : VpsInForceValue) → Joined us u old mid → Stood old us → IsRole us u h Role.Vps →
    objected old.decoder.asked us u ≡ None → (item_behind us u).at ≡ Some (carried_of v) → IsRead v → IsNewVps v mid new →
    IsLatestChange new.changed (us ++ u ∷ []) → store.Stands new.sets (fact_behind us u ∷ facts_of us) → Stood new (us ++ u ∷ [])
unfolding in_force
new-stood {R} {W} {P} old mid new us u h v j s r accepted at read n changed sets =
    let i : Item = item_behind us u in
    let is : is_vps i ≡ true = video_is i r.role_is in
    let asked : new.decoder.asked ≡ old.decoder.asked = ap (λ (d : Decoder R W P). d.asked) n.decoder_is ∙ j.asked_is in
    stood-of new us u (subst (λ o. IsSound o us) (sym asked) s.sound) r.clean (ap (λ o. objected o us u) asked ∙ accepted)
    (at ∙ sym (ap in_force n.vps_is)) (subst AreRead (sym n.vps_is) read) changed sets
    (subst (λ x. tracker.Stands x (i ∷ items (reverse us))) (sym n.units_are) j.units_are)
    (subst (λ d. DecoderStands d new.vps (judged (history_of us) (fact_behind us u) ∷ history_of us) (number (placed_units us) i)) (sym n.decoder_is)
    (subst (λ x. DecoderStands mid.decoder x (judged (history_of us) (fact_behind us u) ∷ history_of us) (number (placed_units us) i)) (sym n.vps_is)
    (vps-over old mid (Some v) us u j is
    (decoder-new mid.decoder mid.vps v (history_of us) (number (placed_units us) i) (vps-behind us u is) j.decoder_is))))

-- all of them
vps-stood : {R W P : Type 0} (old mid new : Course R W P) (us : List (List ℕ)) (u : List ℕ) (h : UnitHead) (n : NewVps) → Joined us u old mid → Stood old us → IsRole us u h Role.Vps →
    TakesVps old.decoder.asked (item_behind us u) (Ok n) → PutsVps n (step_behind us u).au mid new → Stood new (us ++ u ∷ [])
vps-stood old mid new us u h NewVps.Repeated j s r t put = again-stood old mid new us u h j s r t put
vps-stood old mid new us u h (NewVps.First v) j s r t put =
    let is : is_vps (item_behind us u) ≡ true = video_is (item_behind us u) r.role_is in
    new-stood old mid new us u h v j s r (vps-accepted old.decoder.asked us u is t.0 t.1) t.4 t.5 put.0
    (subst (λ x. IsLatestChange x (us ++ u ∷ [])) (sym (put.2 ∙ j.changed_is)) (change-other old.changed us u t.3 s.changed_is))
    (subst (λ x. store.Stands x (fact_behind us u ∷ facts_of us)) (sym (put.1 ∙ j.sets_are))
    (other-store old.sets us u (ap turns (item-of us u) ∙ t.3) (vps-no_set us u 33 refl is) (vps-no_set us u 34 refl is) s.sets_are))
vps-stood old mid new us u h (NewVps.Changed v) j s r t put =
    let is : is_vps (item_behind us u) ≡ true = video_is (item_behind us u) r.role_is in
    new-stood old mid new us u h v j s r (vps-accepted old.decoder.asked us u is t.0 t.1) t.4 t.5 put.0
    (subst (λ x. IsLatestChange x (us ++ u ∷ [])) (sym put.2) (change-new us u t.3))
    (put.1 (facts_of us) (fact_behind us u) (ap turns (item-of us u) ∙ t.3))

pub vps-takes : {R W P : Type 0} (old mid new : Course R W P) (us : List (List ℕ)) (u : List ℕ) (h : UnitHead) (n : NewVps) (step : AuStep) → Joins us u old mid (Ok step) → Stood old us → IsRole us u h Role.Vps →
    TakesVps old.decoder.asked (item_behind us u) (Ok n) → PutsVps n step.au mid new → Takes old.decoder.asked us u new (Ok None)
vps-takes old mid new us u h n step j s r t put =
    let is : is_vps (item_behind us u) ≡ true = video_is (item_behind us u) r.role_is in
    let least_none : (least (item_cases (item_behind us u)) ≡ None) × (lacking old.decoder.asked (item_behind us u) ≡ None) = accepts n t in (
      vps-accepted old.decoder.asked us u is least_none.0 least_none.1,
      vps-stood old mid new us u h n j.0 s r t (subst (λ (a : AuStep). PutsVps n a.au mid new) j.1 put),
      sym (told-none us u (vps-no_slice us u is)),
    )
  where
    accepts : (n : NewVps) → TakesVps old.decoder.asked (item_behind us u) (Ok n) → (least (item_cases (item_behind us u)) ≡ None) × (lacking old.decoder.asked (item_behind us u) ≡ None)
    accepts NewVps.Repeated t = (t.0, t.1)
    accepts (NewVps.First v) t = (t.0, t.1)
    accepts (NewVps.Changed v) t = (t.0, t.1)

-- its refusals
pub vps-refused : {R W P : Type 0} (o : ℕ) (new : Course R W P) (us : List (List ℕ)) (u : List ℕ) (h : UnitHead) (fault : VpsFault) → IsRole us u h Role.Vps → TakesVps o (item_behind us u) (Err fault) →
    Takes o us u new (Err (of_vps fault))
unfolding first_of
vps-refused o new us u h (VpsFault.Refused rule) r t = video-refused o us u rule (video_is (item_behind us u) r.role_is) t
vps-refused o new us u h (VpsFault.NoSuchSet asked count) r t = video-lacking o us u (video_is (item_behind us u) r.role_is) t.0 ∙ t.1
vps-refused o new us u h VpsFault.Memory r t = tt

-- ---- Sequence and picture parameter sets

pub sps-stood : {R W P : Type 0} (old mid new : Course R W P) (us : List (List ℕ)) (u : List ℕ) (layer : ℕ) (carried : CarriedSpsValue) → Joined us u old mid → Stood old us →
    IsNewSps old.decoder.asked us u layer carried → new.vps ≡ mid.vps → new.changed ≡ mid.changed → new.units ≡ mid.units → new.decoder ≡ mid.decoder →
    store.Stands new.sets (fact_behind us u ∷ facts_of us) → Stood new (us ++ u ∷ [])
sps-stood {R} {W} {P} old mid new us u layer carried j s n vps changed units decoder sets =
    more-stood old mid new us u j s n.clean n.accepted (set-no_vps us u 33 refl n.kind_is) vps changed units (ap (λ (d : Decoder R W P). d.asked) decoder) sets
    (subst (λ d. DecoderStands d mid.vps (judged (history_of us) (fact_behind us u) ∷ history_of us) (number (placed_units us) (item_behind us u))) (sym decoder)
    (joined-over old mid us u j (set-no_slice us u 33 refl n.kind_is) (set-no_end us u 33 refl refl n.kind_is) (set-no_layer_end us u 33 refl n.kind_is)))

pub pps-stood : {R W P : Type 0} (old mid new : Course R W P) (us : List (List ℕ)) (u : List ℕ) (layer : ℕ) (carried : CarriedPpsValue) → Joined us u old mid → Stood old us →
    IsNewPps old.decoder.asked us u layer carried → new.vps ≡ mid.vps → new.changed ≡ mid.changed → new.units ≡ mid.units → new.decoder ≡ mid.decoder →
    store.Stands new.sets (fact_behind us u ∷ facts_of us) → Stood new (us ++ u ∷ [])
pps-stood {R} {W} {P} old mid new us u layer carried j s n vps changed units decoder sets =
    more-stood old mid new us u j s n.clean n.accepted (set-no_vps us u 34 refl n.kind_is) vps changed units (ap (λ (d : Decoder R W P). d.asked) decoder) sets
    (subst (λ d. DecoderStands d mid.vps (judged (history_of us) (fact_behind us u) ∷ history_of us) (number (placed_units us) (item_behind us u))) (sym decoder)
    (joined-over old mid us u j (set-no_slice us u 34 refl n.kind_is) (set-no_end us u 34 refl refl n.kind_is) (set-no_layer_end us u 34 refl n.kind_is)))

pub carries-sps : (o : ℕ) (us : List (List ℕ)) (u : List ℕ) (layer : ℕ) (carried : CarriedSpsValue) → IsNewSps o us u layer carried → CarriesSps (fact_behind us u) layer carried.payload carried.value.0
carries-sps o us u layer carried n = record {
  sps_is = n.carried_is;
  no_pps = (fact-of us u).pps_is ∙ no-pps (item_behind us u) (both-none (is_known (item_behind us u)) (nat_eq (item_behind us u).head.kind 34) (other_kind (item_behind us u).head.kind 33 34 refl n.kind_is));
  stays = turned-none us u (set-no_vps us u 33 refl n.kind_is);
}

pub carries-pps : (o : ℕ) (us : List (List ℕ)) (u : List ℕ) (layer : ℕ) (carried : CarriedPpsValue) → IsNewPps o us u layer carried → CarriesPps (fact_behind us u) layer carried.payload carried.value.0
carries-pps o us u layer carried n = record {
  pps_is = n.carried_is;
  no_sps = (fact-of us u).sps_is ∙ no-sps (item_behind us u) (both-none (is_known (item_behind us u)) (nat_eq (item_behind us u).head.kind 33) (other_kind (item_behind us u).head.kind 34 33 refl n.kind_is));
  stays = turned-none us u (set-no_vps us u 34 refl n.kind_is);
}
