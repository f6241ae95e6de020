-- What the role of a unit decides of the rules on it.
use Rattle.std.proofs.Common.{◌≡◌, ℕ, Bool, true, false, not, ◌&&◌, List, Some, None, Ok, Err, refl, ap, ◌∙◌, cond}
use Rattle.std.specs.Prelude.{is_none, nat_eq, nat_lt}
use Rattle.std.proofs.lemmas.Bool.{eqb-true, and_parts}
use Rattle.mv_rules.specs.declared.rule.Rule.{Rule}
use Rattle.mv_units.specs.Rules.{bad_head}
use Rattle.mv_pictures.specs.Kinds.{is_pps_kind, is_slice_kind, is_sps_kind, is_vps_kind}
use Rattle.mv_pictures.specs.Carried.{carried_pps, carried_sps}
use Rattle.mv_pictures.specs.Items.{Item, is_known, is_vps, item}
use Rattle.mv_pictures.specs.Facts.{Fact, max_sub_layers, pps_of_unit, sps_of_unit}
use Rattle.mv_pictures.specs.UnitRules.{needs_vps, no_vps, sps_tid}
use Rattle.mv_pictures.specs.Rules.{item_cases, set_cases}
use Rattle.mv_walk_sets.specs.declared.roles.Role.{Role}
use Rattle.mv_walk_sets.specs.Roles.{Decides, IsFactOf, least, role, role_of_kind}
use Rattle.mv_walk_sets.proofs.RoleLaws.{broken, cases_by, item_cases_are, lacks_is, not_above, not_new, set_cases_are}

pub and_not : (b : Bool) → (b && false) ≡ false
and_not true = refl
and_not false = refl

pub other_kind : (kind a b : ℕ) → nat_eq a b ≡ false → nat_eq kind a ≡ true → nat_eq kind b ≡ false
other_kind kind a b apart is = ap (λ k. nat_eq k b) (eqb-true kind a is) ∙ apart

-- an item that is no video parameter set breaks no rule but NoVps
pub other_item : (i : Item) (lacking : Bool) → bad_head i.bytes ≡ false → is_vps i ≡ false → no_vps i ≡ lacking → least (item_cases i) ≡ cond lacking (Some Rule.NoVps) None
other_item i lacking clean isnt none = ap least (item_cases_are i false false false lacking i.at clean (not_new i isnt) refl (not_above i isnt) none) ∙ go lacking
  where
    go : (b : Bool) → least (cases_by false false i.at false b) ≡ cond b (Some Rule.NoVps) None
    go true = refl
    go false = refl

-- a unit that carries neither a sequence nor a picture parameter set breaks no rule on them
pub no_set : (i : Item) (f : Fact) → IsFactOf i f → (is_known i && is_sps_kind i.head.kind) ≡ false → (is_known i && is_pps_kind i.head.kind) ≡ false → least (set_cases f) ≡ None
unfolding sps_of_unit pps_of_unit sps_tid
no_set i f is sps pps =
    ap least
    (set_cases_are i f None false None is (ap (λ b. cond b (Some (carried_sps (max_sub_layers i.at) i.head i.bytes)) None) sps) (ap (λ b. b && nat_lt 0 i.head.tid) sps)
    (ap (λ b. cond b (Some (carried_pps i.head i.bytes)) None) pps))

-- ---- by what is asked in turn
known_kind : (i : Item) (f : Fact) → bad_head i.bytes ≡ false → IsFactOf i f → is_vps i ≡ false → (is_none i.at && needs_vps i) ≡ false → is_known i ≡ true →
    Decides i f (Ok (role_of_kind i.head.kind))
known_kind i f clean is isnt none known = go (is_sps_kind i.head.kind) (is_pps_kind i.head.kind) (is_slice_kind i.head.kind) refl refl
  where
    sps_no : is_sps_kind i.head.kind ≡ false → (is_known i && is_sps_kind i.head.kind) ≡ false
    sps_no e = ap (λ b. is_known i && b) e ∙ and_not (is_known i)

    pps_no : is_pps_kind i.head.kind ≡ false → (is_known i && is_pps_kind i.head.kind) ≡ false
    pps_no e = ap (λ b. is_known i && b) e ∙ and_not (is_known i)

    alone : is_sps_kind i.head.kind ≡ false → least (item_cases i) ≡ None
    alone e = other_item i false clean isnt (lacks_is i false none (sps_no e))

    go : (a b c : Bool) → is_sps_kind i.head.kind ≡ a → is_pps_kind i.head.kind ≡ b →
        Decides i f (Ok (cond a Role.Sps (cond b Role.Pps (cond c Role.Slice Role.Passed))))
    go true b c sps pps = tt
    go false true c sps pps = alone sps
    go false false true sps pps = (alone sps, no_set i f is (sps_no sps) (pps_no pps))
    go false false false sps pps = (alone sps, no_set i f is (sps_no sps) (pps_no pps))

pub decides : (i : Item) (f : Fact) → bad_head i.bytes ≡ false → IsFactOf i f → Decides i f (role i)
unfolding role
decides i f clean is = go (is_vps i) (is_none i.at && needs_vps i) (is_known i) refl refl refl
  where
    go : (v n k : Bool) → is_vps i ≡ v → (is_none i.at && needs_vps i) ≡ n → is_known i ≡ k →
        Decides i f (cond v (Ok Role.Vps) (cond n (Err Rule.NoVps) (cond (not k) (Ok Role.Stray) (Ok (role_of_kind i.head.kind)))))
    go true n k it none known =
        let vps : is_vps_kind i.head.kind ≡ true = (and_parts (is_vps_kind i.head.kind) (nat_eq i.head.layer 0) it).0 in
        no_set i f is (ap (λ b. is_known i && b) (other_kind i.head.kind 32 33 refl vps) ∙ and_not (is_known i))
        (ap (λ b. is_known i && b) (other_kind i.head.kind 32 34 refl vps) ∙ and_not (is_known i))
    go false true k it none known = other_item i true clean it (broken i none)
    go false false false it none known =
        (other_item i false clean it (lacks_is i false none (ap (λ b. b && is_sps_kind i.head.kind) known)), no_set i f is (ap (λ b. b && is_sps_kind i.head.kind) known) (ap (λ b. b && is_pps_kind i.head.kind) known))
    go false false true it none known = known_kind i f clean is it none known

pub decides_behind : (past : List Item) (u : List ℕ) (f : Fact) → bad_head u ≡ false → IsFactOf (item past u) f → Decides (item past u) f (role (item past u))
unfolding item
decides_behind past u f clean is = decides (item past u) f clean is
