-- What is answered of units that carry sequence and picture parameter sets.
use Rattle.std.proofs.Common.{◌≡◌, ℕ, true, false, List, [], ◌∷◌, ◌++◌, reverse, ℤ, Option, None, Some, refl, ap, sym, subst, ◌∙◌}
use Rattle.std.specs.Prelude.{IfErr, IfOk, OnOk, is_err, nat_eq, Result, Ok, Err}
use Rattle.std.specs.Option.{option_or}
use Rattle.mv_rules.specs.declared.refusal.ReadFault.{ReadFault}
use Rattle.mv_units.specs.Rules.{bad_head}
use Rattle.mv_units.specs.declared.head.UnitHead.{UnitHead}
use Rattle.mv_pictures.specs.Facts.{Fact}
use Rattle.mv_pictures.specs.Items.{Item, is_known, item, items}
use Rattle.mv_pictures.specs.Kinds.{is_pps_kind, is_slice_kind, is_sps_kind}
use Rattle.mv_pictures.specs.Rules.{item_cases, set_cases}
use Rattle.mv_commuting.specs.OneMore.{fact_behind}
use Rattle.mv_tried.specs.Tried.{first_of}
use Rattle.mv_tried.proofs.Cases.{first_append}
use Rattle.mv_au.specs.Tracker.{IsTold}
use Rattle.mv_au.specs.declared.states.PicState.{PicState}
use Rattle.mv_walk_sets.specs.InForce.{CarriedPpsValue, CarriedSpsValue, VpsInForceValue, carried_of, in_force, pps_carried, sps_carried}
use Rattle.mv_walk_sets.specs.Roles.{IsFactOf, StandsBehind}
use Rattle.mv_walk_sets.specs.Taken.{TakesPps, TakesSps}
use Rattle.mv_walk_sets.specs.declared.roles.Role.{Role}
use Rattle.mv_walk_laws.specs.Streams.{item_behind, objected}
use Rattle.mv_walk_laws.proofs.Verdicts.{picture_set-accepted, picture_set-refused, sequence-accepted, sequence-refused}
use Rattle.mv_walk.specs.Courses.{Stood}
use Rattle.mv_walk.specs.Ending.{of_read}
use Rattle.mv_walk.specs.Taking.{IsNewPps, IsNewSps, IsRole, Takes}
use Rattle.mv_walk.specs.declared.course.Course.{Course}
use Rattle.mv_walk.specs.declared.ending.Stop.{Stop}
use Rattle.mv_walk.proofs.FirstOf.{unit-head}
use Rattle.mv_walk.proofs.Joins.{takes-memory, told-as}
use Rattle.mv_walk.proofs.PutSets.{set-no_slice}
use Rattle.mv_walk.proofs.RoleParts.{pps_is, sps_is}
use Rattle.mv_walk.proofs.StoodMore.{fact-of, told-none}

-- where it stands
pub stands-behind : {R W P : Type 0} (c : Course R W P) (us : List (List ℕ)) (u : List ℕ) (h : UnitHead) (r : Role) → Stood c us → IsRole us u h r → StandsBehind (in_force c.vps) h (items (reverse us)) u
stands-behind c us u h r s is = record { behind = s.vps_is; head_is = is.head_is }

-- ---- Sequence parameter sets

pub told-sps : (us : List (List ℕ)) (u : List ℕ) (h : UnitHead) → IsRole us u h Role.Sps → IsTold (item_behind us u) h None
told-sps us u h r = told-as us u h (sps_is (item_behind us u) r.role_is).known (unit-head us u h Role.Sps r) (set-no_slice us u 33 refl (sps_is (item_behind us u) r.role_is).kind)

pub sps-answers : {R W P : Type 0} (c : Course R W P) (us : List (List ℕ)) (u : List ℕ) (h : UnitHead) (v : VpsInForceValue) (r : Result CarriedSpsValue ReadFault) → Stood c us → IsRole us u h Role.Sps → c.vps ≡ Some v →
    ((past : List Item) (f : Fact) → StandsBehind (Some (carried_of v)) h past u → is_sps_kind h.kind ≡ true → bad_head u ≡ false → is_known (item past u) ≡ true → IsFactOf (item past u) f → TakesSps (item past u) f r) →
    TakesSps (item_behind us u) (fact_behind us u) r
unfolding in_force
sps-answers c us u h v r s role is answers =
    answers (items (reverse us)) (fact_behind us u)
    (subst (λ (o : Option VpsInForceValue). StandsBehind (in_force o) h (items (reverse us)) u) is (stands-behind c us u h Role.Sps s role))
    (ap (λ (k : UnitHead). is_sps_kind k.kind) (sym (unit-head us u h Role.Sps role)) ∙ (sps_is (item_behind us u) role.role_is).kind) role.good (sps_is (item_behind us u) role.role_is).known (fact-of us u)

pub sps-refused : {R W P : Type 0} (o : ℕ) (new : Course R W P) (us : List (List ℕ)) (u : List ℕ) (h : UnitHead) (fault : ReadFault) → IsRole us u h Role.Sps → TakesSps (item_behind us u) (fact_behind us u) (Err fault) →
    Takes o us u new (Err (of_read fault))
unfolding first_of
sps-refused o new us u h (ReadFault.Refused rule) r t = sequence-refused o us u rule (sps_is (item_behind us u) r.role_is).kind t
sps-refused o new us u h ReadFault.Memory r t = tt

pub sps-new : (o : ℕ) (us : List (List ℕ)) (u : List ℕ) (h : UnitHead) (carried : CarriedSpsValue) → IsRole us u h Role.Sps → TakesSps (item_behind us u) (fact_behind us u) (Ok carried) → IsNewSps o us u h.layer carried
unfolding first_of
sps-new o us u h carried r t =
    let layer : (item_behind us u).head.layer ≡ h.layer = ap (λ (k : UnitHead). k.layer) (unit-head us u h Role.Sps r) in
    record {
      clean = r.clean;
      known = (sps_is (item_behind us u) r.role_is).known;
      kind_is = (sps_is (item_behind us u) r.role_is).kind;
      layer_is = layer;
      carried_is = t.2 ∙ ap (λ n. Some (sps_carried n carried)) layer;
      accepted = sequence-accepted o us u (sps_is (item_behind us u) r.role_is).kind
          (first_append (item_cases (item_behind us u)) (set_cases (fact_behind us u)) ∙ ap (λ x. option_or x (first_of (set_cases (fact_behind us u)))) t.0 ∙ t.1);
    }

-- ---- Picture parameter sets

pub told-pps : (us : List (List ℕ)) (u : List ℕ) (h : UnitHead) → IsRole us u h Role.Pps → IsTold (item_behind us u) h None
told-pps us u h r = told-as us u h (pps_is (item_behind us u) r.role_is).known (unit-head us u h Role.Pps r) (set-no_slice us u 34 refl (pps_is (item_behind us u) r.role_is).kind)

pub pps-answers : (us : List (List ℕ)) (u : List ℕ) (h : UnitHead) (r : Result CarriedPpsValue ReadFault) → IsRole us u h Role.Pps →
    ((past : List Item) (f : Fact) → is_pps_kind (item past u).head.kind ≡ true → is_known (item past u) ≡ true → IsFactOf (item past u) f → TakesPps (item past u) f r) → TakesPps (item_behind us u) (fact_behind us u) r
pps-answers us u h r role answers =
    answers (items (reverse us)) (fact_behind us u) (pps_is (item_behind us u) role.role_is).kind (pps_is (item_behind us u) role.role_is).known (fact-of us u)

pub pps-refused : {R W P : Type 0} (o : ℕ) (new : Course R W P) (us : List (List ℕ)) (u : List ℕ) (h : UnitHead) (fault : ReadFault) → IsRole us u h Role.Pps → TakesPps (item_behind us u) (fact_behind us u) (Err fault) →
    Takes o us u new (Err (of_read fault))
unfolding first_of
pps-refused o new us u h (ReadFault.Refused rule) r t = picture_set-refused o us u rule (pps_is (item_behind us u) r.role_is).kind r.decides t
pps-refused o new us u h ReadFault.Memory r t = tt

pub pps-new : (o : ℕ) (us : List (List ℕ)) (u : List ℕ) (h : UnitHead) (carried : CarriedPpsValue) → IsRole us u h Role.Pps → TakesPps (item_behind us u) (fact_behind us u) (Ok carried) → IsNewPps o us u h.layer carried
unfolding first_of
pps-new o us u h carried r t =
    let layer : (item_behind us u).head.layer ≡ h.layer = ap (λ (k : UnitHead). k.layer) (unit-head us u h Role.Pps r) in
    record {
      clean = r.clean;
      known = (pps_is (item_behind us u) r.role_is).known;
      kind_is = (pps_is (item_behind us u) r.role_is).kind;
      layer_is = layer;
      carried_is = t.1 ∙ ap (λ n. Some (pps_carried n carried)) layer;
      accepted = picture_set-accepted o us u (pps_is (item_behind us u) r.role_is).kind r.decides t.0;
    }

-- ---- Both, as they are put

pub put-takes : {R W P : Type 0} (o : ℕ) (new : Course R W P) (us : List (List ℕ)) (u : List ℕ) (a : ℕ) (r : Result (Option (PicState × Option ℤ)) Stop) → is_slice_kind a ≡ false → nat_eq (item_behind us u).head.kind a ≡ true →
    objected o us u ≡ None → OnOk r (Stood new (us ++ u ∷ [])) → IfOk r (λ told. told ≡ None) → IfErr r (λ stop. stop ≡ Stop.Memory) → Takes o us u new r
put-takes o new us u a (Ok told) other is accepted stood none memory = (accepted, stood, none ∙ sym (told-none us u (set-no_slice us u a other is)))
put-takes o new us u a (Err stop) other is accepted stood none memory = takes-memory o us u new stop memory

pub put-unseen : {T : Type 0} (r : Result T Stop) → IfErr r (λ stop. stop ≡ Stop.Memory) → r ≡ Err Stop.View → ⊥
put-unseen (Ok told) memory wrong = cc
put-unseen (Err stop) memory wrong = let a : stop ≡ Stop.View = (let e : Path (Result _ Stop) (Err stop) (Err Stop.View) = wrong in cc) in cc

pub on-ok : {T E A : Type 0} (r : Result T E) → OnOk r A → is_err r ≡ false → A
on-ok (Ok v) h none = h
on-ok (Err e) h wrong = absurd (let w : true ≡ false = wrong in cc)
