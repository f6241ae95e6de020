-- What is kept stands for a unit more.
use Rattle.std.proofs.Common.{◌≡◌, ℕ, Bool, true, false, cond, ◌&&◌, List, [], ◌∷◌, ◌++◌, reverse, None, Some, refl, ap, sym, subst, ◌∙◌}
use Rattle.std.specs.Prelude.{◌||◌, not, nat_eq, option_map, Ok}
use Rattle.mv_syntax.specs.Words.{◌otherwise◌}
use Rattle.mv_units.specs.Rules.{unit_rule}
use Rattle.mv_units.specs.declared.head.UnitHead.{UnitHead}
use Rattle.mv_pictures.specs.AccessUnits.{number, placed}
use Rattle.mv_pictures.specs.Carried.{carried_pps, carried_sps}
use Rattle.mv_pictures.specs.Facts.{Fact, fact, max_sub_layers, pps_of_unit, sps_of_unit, turned}
use Rattle.mv_pictures.specs.History.{facts_of, history_of, judged}
use Rattle.mv_pictures.specs.Counts.{count}
use Rattle.mv_pictures.specs.Items.{Item, is_first_segment, is_known, is_slice, is_vps, items, same_vps, turns}
use Rattle.mv_pictures.specs.Judged as judgements
use Rattle.mv_pictures.specs.Kinds.{is_eob_kind, is_eos_kind, is_pps_kind, is_slice_kind, is_sps_kind}
use Rattle.mv_pictures.specs.Look.{look}
use Rattle.mv_commuting.specs.OneMore.{fact_behind}
use Rattle.mv_tried.specs.Tried.{first_of}
use Rattle.mv_au.specs.States as states
use Rattle.mv_au.specs.States.{state_of}
use Rattle.mv_au.specs.StatesValue.{StatesValue}
use Rattle.mv_au.specs.Tracker as tracker
use Rattle.mv_au.proofs.StateLaws as state_laws
use Rattle.mv_au.proofs.TrackerLaws as tracker_laws
use Rattle.mv_sets.specs.Store as store
use Rattle.mv_sets.specs.StoreValue.{StoreValue}
use Rattle.mv_sets.proofs.StoreLaws.{stands-other}
use Rattle.mv_walk_sets.specs.InForce.{AreRead, in_force}
use Rattle.mv_walk_sets.specs.Roles.{IsFactOf}
use Rattle.mv_walk_sets.specs.declared.roles.Role.{Role}
use Rattle.mv_walk_laws.specs.Streams.{IsLatestChange, IsSound, current, item_behind, objected, placed_units}
use Rattle.mv_walk_laws.proofs.Changes.{change-other}
use Rattle.mv_walk_laws.proofs.OneMore.{current-more, facts-more, item-of, items-more, vps-more, vps-other}
use Rattle.mv_walk_laws.proofs.Sound.{sound-more}
use Rattle.mv_walk_laws.proofs.Steps.{stray-same}
use Rattle.mv_walk_laws.proofs.Verdicts.{passed-accepted, stray-accepted}
use Rattle.mv_commuting.proofs.More.{history-more}
use Rattle.mv_walk.specs.Courses.{Stood}
use Rattle.mv_walk.specs.Decoders.{DecoderStands}
use Rattle.mv_walk.specs.Taking.{IsRole, Joined, Takes, told_behind}
use Rattle.mv_walk.specs.Told.{within_range}
use Rattle.mv_walk.specs.declared.course.Course.{Course}
use Rattle.mv_walk.proofs.Others.{decoder-over}
use Rattle.mv_walk.proofs.RoleParts.{IsOfKind, IsStray, passed_is, stray_is}

pub stood-of : {R W P : Type 0} (c : Course R W P) (us : List (List ℕ)) (u : List ℕ) → IsSound c.decoder.asked us → unit_rule u ≡ None → objected c.decoder.asked us u ≡ None →
    (item_behind us u).at ≡ in_force c.vps → AreRead c.vps → IsLatestChange c.changed (us ++ u ∷ []) → store.Stands c.sets (fact_behind us u ∷ facts_of us) →
    tracker.Stands c.units (item_behind us u ∷ items (reverse us)) →
    DecoderStands c.decoder c.vps (judged (history_of us) (fact_behind us u) ∷ history_of us) (number (placed_units us) (item_behind us u)) → Stood c (us ++ u ∷ [])
stood-of c us u sound clean accepted at read changed sets units decoder = record {
  sound = sound-more c.decoder.asked us u sound clean accepted;
  vps_is = vps-more us u ∙ at;
  read = read;
  changed_is = changed;
  sets_are = subst (store.Stands c.sets) (sym (facts-more us u)) sets;
  units_are = subst (tracker.Stands c.units) (sym (items-more us u)) units;
  decoder_is = subst (λ past. DecoderStands c.decoder c.vps past (current (us ++ u ∷ []))) (sym (history-more us u)) (subst (DecoderStands c.decoder c.vps (judged (history_of us) (fact_behind us u) ∷ history_of us)) (sym (current-more us u)) decoder);
}

-- ---- A unit that is no video parameter set

pub not-turned : (i : Item) → is_vps i ≡ false → turns i ≡ false
unfolding turns
not-turned i plain = ap (λ b. b && (option_map (λ old. option_map (λ new. not (same_vps old new)) i.at otherwise false) i.before otherwise false)) plain

pub no-sps : (i : Item) → (is_known i && is_sps_kind i.head.kind) ≡ false → sps_of_unit i ≡ None
unfolding sps_of_unit
no-sps i none = ap (λ b. cond b (Some (carried_sps (max_sub_layers i.at) i.head i.bytes)) None) none

pub no-pps : (i : Item) → (is_known i && is_pps_kind i.head.kind) ≡ false → pps_of_unit i ≡ None
unfolding pps_of_unit
no-pps i none = ap (λ b. cond b (Some (carried_pps i.head i.bytes)) None) none

-- what it carries, and its item
pub fact-of : (us : List (List ℕ)) (u : List ℕ) → IsFactOf (item_behind us u) (fact_behind us u)
unfolding fact placed
fact-of us u = record { item_is = refl; sps_is = refl; pps_is = refl }

pub turned-none : (us : List (List ℕ)) (u : List ℕ) → is_vps (item_behind us u) ≡ false → turned (fact_behind us u) ≡ false
turned-none us u plain = ap turns (item-of us u) ∙ not-turned (item_behind us u) plain

pub other-store : (s : StoreValue) (us : List (List ℕ)) (u : List ℕ) → turned (fact_behind us u) ≡ false → (is_known (item_behind us u) && is_sps_kind (item_behind us u).head.kind) ≡ false →
    (is_known (item_behind us u) && is_pps_kind (item_behind us u).head.kind) ≡ false → store.Stands s (facts_of us) → store.Stands s (fact_behind us u ∷ facts_of us)
other-store s us u same no_sps no_pps h =
    stands-other s (facts_of us) (fact_behind us u) h same ((fact-of us u).sps_is ∙ no-sps (item_behind us u) no_sps) ((fact-of us u).pps_is ∙ no-pps (item_behind us u) no_pps)

-- ---- A unit that is no slice segment

pub slice-none : (us : List (List ℕ)) (u : List ℕ) → is_slice (item_behind us u) ≡ false → judgements.is_slice (fact_behind us u) ≡ false
slice-none us u none = ap is_slice (item-of us u) ∙ none

pub told-none : (us : List (List ℕ)) (u : List ℕ) → is_slice (item_behind us u) ≡ false → told_behind us u ≡ None
told-none us u none =
    ap (λ b. cond (b && is_first_segment (fact_behind us u).placed.item.opening) (Some (state_of (look (history_of us) (fact_behind us u)) (fact_behind us u), within_range (count (look (history_of us) (fact_behind us u)) (fact_behind us u)))) None)
    (slice-none us u none)

picture-none : (us : List (List ℕ)) (u : List ℕ) → is_slice (item_behind us u) ≡ false → judgements.is_picture (fact_behind us u) ≡ false
picture-none us u none = ap (λ b. b && is_first_segment (fact_behind us u).placed.item.opening) (slice-none us u none)

-- one that ends nothing changes no state of a layer
pub states-over : (s : StatesValue) (us : List (List ℕ)) (u : List ℕ) → is_slice (item_behind us u) ≡ false → judgements.is_end (fact_behind us u) ≡ false → judgements.is_layer_end (fact_behind us u) ≡ false →
    states.Stands s (history_of us) → states.Stands s (judged (history_of us) (fact_behind us u) ∷ history_of us)
states-over s us u none no_end no_layer_end h = state_laws.stands-over (history_of us) (fact_behind us u) (picture-none us u none) s h no_end no_layer_end

-- ---- A stray

middle-none : (x k y : Bool) → k ≡ false → (x && k && y) ≡ false
middle-none true true y wrong = absurd (let e : true ≡ false = wrong in cc)
middle-none false true y wrong = absurd (let e : true ≡ false = wrong in cc)
middle-none true false y same = refl
middle-none false false y same = refl

known-of : (us : List (List ℕ)) (u : List ℕ) → is_known (item_behind us u) ≡ false → is_known (fact_behind us u).placed.item ≡ false
known-of us u none = ap is_known (item-of us u) ∙ none

stray-unobjected : (o : ℕ) (us : List (List ℕ)) (u : List ℕ) (h : UnitHead) → IsRole us u h Role.Stray → objected o us u ≡ None
unfolding first_of
stray-unobjected o us u h r =
    let k : IsStray (is_vps (item_behind us u)) (is_known (item_behind us u)) = stray_is (item_behind us u) r.role_is in
    stray-accepted o us u k.no_video k.unknown r.decides.0

stray-taken : {R W P : Type 0} (c new : Course R W P) (us : List (List ℕ)) (u : List ℕ) (h : UnitHead) → new ≡ record c { last = new.last } → Stood c us → IsRole us u h Role.Stray → Stood new (us ++ u ∷ [])
stray-taken c new us u h e s r =
    let i : Item = item_behind us u in
    let f : Fact = fact_behind us u in
    let k : IsStray (is_vps i) (is_known i) = stray_is i r.role_is in
    let none : is_slice i ≡ false = ap (λ b. b && is_slice_kind i.head.kind) k.unknown in
    let unknown : is_known f.placed.item ≡ false = known-of us u k.unknown in
    let at : number (placed_units us) i ≡ current us = stray-same us u k.unknown in
    subst (λ x. Stood x (us ++ u ∷ [])) (sym e) (stood-of (record c { last = new.last }) us u s.sound r.clean (stray-unobjected c.decoder.asked us u h r) (vps-other us u k.no_video ∙ s.vps_is) s.read
    (change-other c.changed us u (not-turned i k.no_video) s.changed_is)
    (other-store c.sets us u (turned-none us u k.no_video) (ap (λ b. b && is_sps_kind i.head.kind) k.unknown) (ap (λ b. b && is_pps_kind i.head.kind) k.unknown) s.sets_are)
    (tracker_laws.stands-over c.units (items (reverse us)) i s.units_are k.unknown)
    (decoder-over c.decoder c.vps (history_of us) f (number (placed_units us) i) (slice-none us u none)
    (states-over c.decoder.states us u none (middle-none (nat_eq (judgements.layer f) 0) (is_known f.placed.item) (is_eos_kind (judgements.kind f) || is_eob_kind (judgements.kind f)) unknown)
    (middle-none (not (nat_eq (judgements.layer f) 0)) (is_known f.placed.item) (is_eos_kind (judgements.kind f)) unknown) s.decoder_is.keeps.states_are)
    (subst (DecoderStands c.decoder c.vps (history_of us)) (sym at) s.decoder_is)))

-- all that is answered of it
pub stray-takes : {R W P : Type 0} (c new : Course R W P) (us : List (List ℕ)) (u : List ℕ) (h : UnitHead) → new ≡ record c { last = new.last } → Stood c us → IsRole us u h Role.Stray →
    Takes c.decoder.asked us u new (Ok None)
stray-takes c new us u h e s r =
    let k : IsStray (is_vps (item_behind us u)) (is_known (item_behind us u)) = stray_is (item_behind us u) r.role_is in (
      stray-unobjected c.decoder.asked us u h r,
      stray-taken c new us u h e s r,
      sym (told-none us u (ap (λ b. b && is_slice_kind (item_behind us u).head.kind) k.unknown)),
    )

-- ---- A unit that is read no further than its head

pub passed-unobjected : (o : ℕ) (us : List (List ℕ)) (u : List ℕ) (h : UnitHead) → IsRole us u h Role.Passed → objected o us u ≡ None
unfolding first_of
passed-unobjected o us u h r =
    let k : IsOfKind (item_behind us u) false false false = passed_is (item_behind us u) r.role_is in
    passed-accepted o us u k.no_video k.slice k.sequence k.picture r.decides.0

pub both-none : (a b : Bool) → b ≡ false → (a && b) ≡ false
both-none true b none = none
both-none false b none = refl

-- ---- A unit that joined its access unit and is no video parameter set

pub more-stood : {R W P : Type 0} (old mid new : Course R W P) (us : List (List ℕ)) (u : List ℕ) → Joined us u old mid → Stood old us → unit_rule u ≡ None → objected old.decoder.asked us u ≡ None →
    is_vps (item_behind us u) ≡ false → new.vps ≡ mid.vps → new.changed ≡ mid.changed → new.units ≡ mid.units → new.decoder.asked ≡ mid.decoder.asked →
    store.Stands new.sets (fact_behind us u ∷ facts_of us) →
    DecoderStands new.decoder mid.vps (judged (history_of us) (fact_behind us u) ∷ history_of us) (number (placed_units us) (item_behind us u)) → Stood new (us ++ u ∷ [])
more-stood old mid new us u j s clean accepted plain vps changed units asked sets decoder =
    let i : Item = item_behind us u in
    let o : new.decoder.asked ≡ old.decoder.asked = asked ∙ j.asked_is in
    let v : new.vps ≡ old.vps = vps ∙ j.vps_is in
    stood-of new us u (subst (λ n. IsSound n us) (sym o) s.sound) clean (ap (λ n. objected n us u) o ∙ accepted)
    (vps-other us u plain ∙ s.vps_is ∙ ap in_force (sym v)) (subst AreRead (sym v) s.read)
    (subst (λ x. IsLatestChange x (us ++ u ∷ [])) (sym (changed ∙ j.changed_is)) (change-other old.changed us u (not-turned i plain) s.changed_is))
    sets (subst (λ x. tracker.Stands x (i ∷ items (reverse us))) (sym units) j.units_are)
    (subst (λ x. DecoderStands new.decoder x (judged (history_of us) (fact_behind us u) ∷ history_of us) (number (placed_units us) i)) (sym vps) decoder)

-- and what is kept of pictures, where it ends nothing and is no slice segment
pub joined-over : {R W P : Type 0} (old mid : Course R W P) (us : List (List ℕ)) (u : List ℕ) → Joined us u old mid → is_slice (item_behind us u) ≡ false → judgements.is_end (fact_behind us u) ≡ false →
    judgements.is_layer_end (fact_behind us u) ≡ false → DecoderStands mid.decoder mid.vps (judged (history_of us) (fact_behind us u) ∷ history_of us) (number (placed_units us) (item_behind us u))
joined-over old mid us u j none no_end no_layer_end =
    decoder-over mid.decoder mid.vps (history_of us) (fact_behind us u) (number (placed_units us) (item_behind us u)) (slice-none us u none)
    (states-over mid.decoder.states us u none no_end no_layer_end j.decoder_is.keeps.states_are) j.decoder_is

-- of a unit that is read no further than its head the sets that are kept
pub passed-store : {R W P : Type 0} (old mid : Course R W P) (us : List (List ℕ)) (u : List ℕ) (h : UnitHead) → Joined us u old mid → Stood old us → IsRole us u h Role.Passed →
    store.Stands mid.sets (fact_behind us u ∷ facts_of us)
passed-store old mid us u h j s r =
    let i : Item = item_behind us u in
    let k : IsOfKind i false false false = passed_is i r.role_is in
    subst (λ x. store.Stands x (fact_behind us u ∷ facts_of us)) (sym j.sets_are)
    (other-store old.sets us u (turned-none us u k.no_video) (both-none (is_known i) (is_sps_kind i.head.kind) k.sequence) (both-none (is_known i) (is_pps_kind i.head.kind) k.picture) s.sets_are)
