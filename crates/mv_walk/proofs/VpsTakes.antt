-- What is answered of units that are video parameter sets.
use Rattle.std.proofs.Common.{◌≡◌, ℕ, true, false, List, reverse, Option, None, ap, sym, subst, ◌∙◌}
use Rattle.std.specs.Prelude.{Result}
use Rattle.mv_units.specs.Rules.{bad_head}
use Rattle.mv_units.specs.declared.head.UnitHead.{UnitHead}
use Rattle.mv_pictures.specs.Items.{Item, is_vps_head, item, items}
use Rattle.mv_au.specs.Tracker.{IsTold}
use Rattle.mv_walk_sets.specs.InForce.{AreRead, VpsInForceValue, in_force}
use Rattle.mv_walk_sets.specs.Roles.{StandsBehind}
use Rattle.mv_walk_sets.specs.Taken.{TakesVps}
use Rattle.mv_walk_sets.specs.declared.fault.VpsFault.{VpsFault}
use Rattle.mv_walk_sets.specs.declared.roles.Role.{Role}
use Rattle.mv_walk_sets.specs.declared.vps.NewVps.{NewVps}
use Rattle.mv_walk_laws.specs.Streams.{item_behind}
use Rattle.mv_walk_laws.proofs.Steps.{vps-known, vps-no_slice}
use Rattle.mv_walk.specs.Courses.{Stood}
use Rattle.mv_walk.specs.Taking.{IsRole}
use Rattle.mv_walk.specs.declared.course.Course.{Course}
use Rattle.mv_walk.proofs.FirstOf.{unit-head}
use Rattle.mv_walk.proofs.Joins.{told-as}
use Rattle.mv_walk.proofs.RoleParts.{video_is}
use Rattle.mv_walk.proofs.SetTakes.{stands-behind}

pub told-vps : (us : List (List ℕ)) (u : List ℕ) (h : UnitHead) → IsRole us u h Role.Vps → IsTold (item_behind us u) h None
told-vps us u h r =
    told-as us u h (vps-known us u (video_is (item_behind us u) r.role_is)) (unit-head us u h Role.Vps r) (vps-no_slice us u (video_is (item_behind us u) r.role_is))

pub vps-answers : {R W P : Type 0} (c : Course R W P) (us : List (List ℕ)) (u : List ℕ) (h : UnitHead) (asked : ℕ) (before : Option VpsInForceValue) (r : Result NewVps VpsFault) → Stood c us → IsRole us u h Role.Vps → before ≡ c.vps →
    ((past : List Item) → StandsBehind (in_force before) h past u → AreRead before → is_vps_head h ≡ true → bad_head u ≡ false → TakesVps asked (item past u) r) → TakesVps asked (item_behind us u) r
vps-answers c us u h asked before r s role is answers =
    answers (items (reverse us))
    (subst (λ (o : Option VpsInForceValue). StandsBehind (in_force o) h (items (reverse us)) u) (sym is) (stands-behind c us u h Role.Vps s role))
    (subst AreRead (sym is) s.read)
    (ap is_vps_head (sym (unit-head us u h Role.Vps role)) ∙ video_is (item_behind us u) role.role_is) role.good
