-- What the head of a unit decides.
use Rattle.std.proofs.Common.{◌≡◌, ℕ, Bool, true, false, not, ◌&&◌, ◌||◌, List, [], ◌∷◌, ◌++◌, map, Option, Some, Ok, Err, refl, sym, ap, ◌∙◌, cond}
use Rattle.std.specs.Prelude.{bytes_eq, is_none, nat_eq, nat_lt, option_map}
use Rattle.mv_syntax.specs.Words.{◌otherwise◌}
use Rattle.mv_rules.specs.declared.rule.Rule.{Rule}
use Rattle.mv_units.specs.declared.head.UnitHead.{UnitHead}
use Rattle.mv_units.specs.Head.{head}
use Rattle.mv_units.specs.Escapes.{payload}
use Rattle.mv_units.specs.Rules.{bad_head}
use Rattle.mv_sps.specs.Sps.{SpsValue}
use Rattle.mv_pps.specs.Pps.{PpsValue}
use Rattle.mv_pictures.specs.Kinds.{is_eob_kind, is_eos_kind, is_sps_kind}
use Rattle.mv_pictures.specs.Carried.{Carried, carried_vps}
use Rattle.mv_pictures.specs.Layers.{InForce, knows, whole}
use Rattle.mv_pictures.specs.Items.{Item, is_known, is_vps, is_vps_head, item, turns, vps_behind}
use Rattle.mv_pictures.specs.Facts.{Fact, pps_of_unit, sps_of_unit}
use Rattle.mv_pictures.specs.UnitRules.{is_new_vps, names_other_vps, needs_vps, no_vps, pps_rules, set_fails, set_is_cut, sps_rules, sps_tid, vps_rules, vps_tid}
use Rattle.mv_pictures.specs.Rules.{Case, case, item_cases, set_cases}
use Rattle.mv_walk_sets.specs.declared.roles.Role.{Role}
use Rattle.mv_pictures.specs.Judged.{is_end, is_layer_end}
use Rattle.mv_walk_sets.specs.Roles.{IsFactOf, StandsBehind, head_needs_vps, is_end_head, role, role_at, role_of_kind}

-- ---- the role of an item is that of its head
pub role_is : (past : List Item) (u : List ℕ) (before : InForce) (h : UnitHead) → StandsBehind before h past u → role_at before h ≡ role (item past u)
unfolding role role_at item
role_is past u before h s = ap (λ at. role_at at h) (sym s.behind) ∙ ap (role_at (vps_behind past)) (sym s.head_is) ∙ go (is_vps_head (head u))
  where
    go : (b : Bool) →
        cond b (Ok Role.Vps) (cond (is_none (vps_behind past) && head_needs_vps (head u)) (Err Rule.NoVps) (cond (not (knows (vps_behind past) (head u).layer)) (Ok Role.Stray) (Ok (role_of_kind (head u).kind))))
        ≡ cond b (Ok Role.Vps) (cond (is_none (cond b (Some (carried_vps (head u) u)) (vps_behind past)) && head_needs_vps (head u)) (Err Rule.NoVps)
        (cond (not (knows (cond b (Some (carried_vps (head u) u)) (vps_behind past)) (head u).layer)) (Ok Role.Stray) (Ok (role_of_kind (head u).kind))))
    go true = refl
    go false = refl

-- ---- the cases of an item and of a fact, by what they ask
abbrev pub cases_by : Bool → Bool → InForce → Bool → Bool → List Case
cases_by bad new at above lacking =
    case Rule.Head bad
    ∷ case Rule.VpsSyntax (new && set_fails at)
    ∷ map (λ r. case r (new && set_is_cut r at)) vps_rules
    ++ case Rule.VpsTid above
    ∷ case Rule.NoVps lacking
    ∷ []

pub item_cases_are : (i : Item) (bad new above lacking : Bool) (at : InForce) → bad_head i.bytes ≡ bad → is_new_vps i ≡ new → i.at ≡ at → vps_tid i ≡ above → no_vps i ≡ lacking →
    item_cases i ≡ cases_by bad new at above lacking
unfolding item_cases
item_cases_are i bad new above lacking at a b c d e =
    ap (λ x. cases_by x (is_new_vps i) i.at (vps_tid i) (no_vps i)) a
    ∙ ap (λ x. cases_by bad x i.at (vps_tid i) (no_vps i)) b
    ∙ ap (λ x. cases_by bad new x (vps_tid i) (no_vps i)) c
    ∙ ap (λ x. cases_by bad new at x (no_vps i)) d
    ∙ ap (λ x. cases_by bad new at above x) e

abbrev pub sets_by : Option (Carried SpsValue) → Bool → Option (Carried PpsValue) → List Case
sets_by sps above pps =
    case Rule.SpsSyntax (set_fails sps)
    ∷ map (λ r. case r (set_is_cut r sps)) sps_rules
    ++ case Rule.SpsTid above
    ∷ case Rule.SpsLimit (set_is_cut Rule.SpsLimit sps)
    ∷ case Rule.PpsSyntax (set_fails pps)
    ∷ map (λ r. case r (set_is_cut r pps)) pps_rules

pub set_cases_are : (i : Item) (f : Fact) (sps : Option (Carried SpsValue)) (above : Bool) (pps : Option (Carried PpsValue)) → IsFactOf i f →
    sps_of_unit i ≡ sps → sps_tid i ≡ above → pps_of_unit i ≡ pps → set_cases f ≡ sets_by sps above pps
unfolding set_cases
set_cases_are i f sps above pps is a b c =
    ap (λ x. sets_by x (sps_tid f.placed.item) f.pps_unit) (is.sps_is ∙ a)
    ∙ ap (λ x. sets_by sps x f.pps_unit) (ap sps_tid is.item_is ∙ b)
    ∙ ap (λ x. sets_by sps above x) (is.pps_is ∙ c)

-- ---- an item that is no video parameter set
pub not_new : (i : Item) → is_vps i ≡ false → is_new_vps i ≡ false
unfolding turns
not_new i isnt =
    ap (λ b. (b && is_none i.before) || (b && (option_map (λ old. option_map (λ new. not (bytes_eq old.payload new.payload)) i.at otherwise false) i.before otherwise false))) isnt

pub not_above : (i : Item) → is_vps i ≡ false → vps_tid i ≡ false
unfolding vps_tid
not_above i isnt = ap (λ b. b && nat_lt 0 i.head.tid) isnt

pub lacks_is : (i : Item) (none : Bool) → (is_none i.at && needs_vps i) ≡ none → (is_known i && is_sps_kind i.head.kind) ≡ false → no_vps i ≡ none
unfolding no_vps
lacks_is i none is isnt =
    ap (λ b. b || ((is_known i && is_sps_kind i.head.kind) && (option_map (names_other_vps (payload i.bytes)) (whole i.at) otherwise false))) is
    ∙ ap (λ b. none || (b && (option_map (names_other_vps (payload i.bytes)) (whole i.at) otherwise false))) isnt
    ∙ go none
  where
    go : (b : Bool) → (b || false) ≡ b
    go true = refl
    go false = refl

pub broken : (i : Item) → (is_none i.at && needs_vps i) ≡ true → no_vps i ≡ true
unfolding no_vps
broken i none =
    ap (λ b. b || ((is_known i && is_sps_kind i.head.kind) && (option_map (names_other_vps (payload i.bytes)) (whole i.at) otherwise false))) none

-- ---- ends
pub end_is : (f : Fact) (h : UnitHead) → f.placed.item.head ≡ h → is_known f.placed.item ≡ true → is_end_head h ≡ (is_end f || is_layer_end f)
end_is f h same known =
    ap is_end_head (sym same)
    ∙ go (is_eos_kind f.placed.item.head.kind) (is_eob_kind f.placed.item.head.kind) (nat_eq f.placed.item.head.layer 0)
    ∙ ap (λ k. (nat_eq f.placed.item.head.layer 0 && k && (is_eos_kind f.placed.item.head.kind || is_eob_kind f.placed.item.head.kind))
    || (not (nat_eq f.placed.item.head.layer 0) && k && is_eos_kind f.placed.item.head.kind)) (sym known)
  where
    go : (e b z : Bool) → (e || (b && z)) ≡ ((z && true && (e || b)) || (not z && true && e))
    go true true true = refl
    go true true false = refl
    go true false true = refl
    go true false false = refl
    go false true true = refl
    go false true false = refl
    go false false true = refl
    go false false false = refl
