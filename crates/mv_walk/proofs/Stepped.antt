-- What is answered of a unit, by its head, its role, and what is answered of it as a unit of its role.
use Rattle.std.proofs.Common.{◌≡◌, ℕ, ◌+◌, ◌*◌, ◌/◌, ◌%◌, ◌<◌, Bool, true, false, cond, List, [], ◌∷◌, ◌++◌, reverse, Option, None, Some, refl, ap, sym, subst, ◌∙◌, arith}
use Rattle.std.specs.Prelude.{ℤ, Result, Ok, Err, slice_index}
use Rattle.mv_rules.specs.declared.rule.Rule.{Rule}
use Rattle.mv_units.specs.Head.{head}
use Rattle.mv_units.specs.Rules.{bad_head, checked_head, early_rule, short_unit, unit_rule}
use Rattle.mv_units.specs.declared.head.UnitHead.{UnitHead}
use Rattle.mv_pictures.specs.Facts.{Fact}
use Rattle.mv_pictures.specs.Items.{Item, item, items, stays}
use Rattle.mv_pictures.specs.Layers.{InForce, keeps}
use Rattle.mv_commuting.specs.OneMore.{fact_behind}
use Rattle.mv_tried.specs.Tried.{first_of}
use Rattle.mv_au.specs.declared.states.PicState.{PicState}
use Rattle.mv_walk_sets.specs.InForce.{VpsInForceValue, in_force}
use Rattle.mv_walk_sets.specs.Roles.{Decides, IsFactOf, StandsBehind, role}
use Rattle.mv_walk_sets.specs.declared.roles.Role.{Role}
use Rattle.mv_walk_laws.proofs.ByKind.{head-breaks, item-breaks}
use Rattle.mv_walk_laws.proofs.Counting.{kept-by}
use Rattle.mv_walk_laws.proofs.OneMore.{item-of}
use Rattle.mv_walk_laws.proofs.Sound.{broken-objected}
use Rattle.mv_walk.specs.Courses.{Stood}
use Rattle.mv_walk.specs.Stepping.{Steps}
use Rattle.mv_walk.specs.Taking.{IsRole, Takes}
use Rattle.mv_walk.specs.Told.{step_of}
use Rattle.mv_walk.specs.declared.course.Course.{Course}
use Rattle.mv_walk.specs.declared.ending.Stop.{Stop}
use Rattle.mv_walk.specs.declared.step.Step.{Step}
use Rattle.mv_walk.proofs.StoodMore.{fact-of}

-- ---- Its head

-- a head that reads, and one that doesn't
pub record HasHead (u : List ℕ) (h : UnitHead) : Type 0 where
  pub good : bad_head u ≡ false
  pub head_is : head u ≡ h

by-head : Bool → Bool → UnitHead → Result UnitHead Rule
by-head short bad h = cond short (Err Rule.Short) (cond bad (Err Rule.Head) (Ok h))

good-by : (short bad : Bool) (h k : UnitHead) → by-head short bad h ≡ Ok k → (bad ≡ false) × (h ≡ k)
unfolding by-head
good-by true bad h k e = absurd (let w : Path (Result UnitHead Rule) (Err Rule.Short) (Ok k) = e in cc)
good-by false true h k e = absurd (let w : Path (Result UnitHead Rule) (Err Rule.Head) (Ok k) = e in cc)
good-by false false h k e = (refl, (let w : Path (Result UnitHead Rule) (Ok h) (Ok k) = e in cc))

pub head-read : (u : List ℕ) (h : UnitHead) → checked_head u ≡ Ok h → HasHead u h
unfolding by-head
head-read u h e = let both = good-by (short_unit u) (bad_head u) (head u) h e in record { good = both.0; head_is = both.1 }

bad-by : (short bad : Bool) (h : UnitHead) (early : Option Rule) (r : Rule) → cond short (Some Rule.Short) early ≡ None → by-head short bad h ≡ Err r → (bad ≡ true) × (r ≡ Rule.Head)
unfolding by-head
bad-by true bad h early r clean e = absurd (let w : Path (Option Rule) (Some Rule.Short) None = clean in cc)
bad-by false true h early r clean e = (refl, (let w : Path (Result UnitHead Rule) (Err Rule.Head) (Err r) = e in cc))
bad-by false false h early r clean e = absurd (let w : Path (Result UnitHead Rule) (Ok h) (Err r) = e in cc)

pub head-refused : {R W P : Type 0} (o : ℕ) (us : List (List ℕ)) (u : List ℕ) (new : Course R W P) (r : Rule) → unit_rule u ≡ None → checked_head u ≡ Err r → Steps o us u new (Err (Stop.Breaks r))
unfolding by-head
head-refused o us u new r clean e =
    let both = bad-by (short_unit u) (bad_head u) (head u) (early_rule u) r clean e in
    broken-objected o us u r (head-breaks us u both.0 ∙ ap Some (sym both.1))

-- its layer has six bits
pub layer-low : (u : List ℕ) (h : UnitHead) → slice_index u 1 < 256 → HasHead u h → h.layer < 64
layer-low u h byte has = subst (λ (k : UnitHead). k.layer < 64) has.head_is (low (slice_index u 0) (slice_index u 1) byte)
  where
    low : (a b : ℕ) → b < 256 → a % 2 * 32 + b / 8 < 64
    low a b byte = omega arith

-- ---- Its role

-- where it stands
behind : {R W P : Type 0} (c : Course R W P) (us : List (List ℕ)) (u : List ℕ) (h : UnitHead) (before : Option VpsInForceValue) → Stood c us → HasHead u h → before ≡ c.vps → StandsBehind (in_force before) h (items (reverse us)) u
behind c us u h before s has is = record { behind = s.vps_is ∙ ap in_force (sym is); head_is = has.head_is }

-- what is told of a role by the video parameter set in force
abbrev pub TellsRole : Option VpsInForceValue → UnitHead → Result Role Rule → Type 0
TellsRole before h result = (past : List Item) (u : List ℕ) → StandsBehind (in_force before) h past u → result ≡ role (item past u)

abbrev pub TellsRules : Option VpsInForceValue → UnitHead → Result Role Rule → Type 0
TellsRules before h result =
    (past : List Item) (u : List ℕ) (f : Fact) → StandsBehind (in_force before) h past u → bad_head u ≡ false → IsFactOf (item past u) f → Decides (item past u) f result

pub role-told : {R W P : Type 0} (c : Course R W P) (us : List (List ℕ)) (u : List ℕ) (h : UnitHead) (r : Role) (before : Option VpsInForceValue) → Stood c us → unit_rule u ≡ None → slice_index u 1 < 256 → HasHead u h → before ≡ c.vps →
    TellsRole before h (Ok r) → TellsRules before h (Ok r) → IsRole us u h r
role-told c us u h r before s clean byte has is tells rules = record {
  clean = clean;
  good = has.good;
  low = layer-low u h byte has;
  head_is = has.head_is;
  role_is = sym (tells (items (reverse us)) u (behind c us u h before s has is));
  decides = rules (items (reverse us)) u (fact_behind us u) (behind c us u h before s has is) has.good (fact-of us u);
}

pub role-refused : {R W P : Type 0} (o : ℕ) (c new : Course R W P) (us : List (List ℕ)) (u : List ℕ) (h : UnitHead) (r : Rule) (before : Option VpsInForceValue) → Stood c us → HasHead u h → before ≡ c.vps →
    TellsRules before h (Err r) → Steps o us u new (Err (Stop.Breaks r))
unfolding first_of
role-refused o c new us u h r before s has is rules =
    broken-objected o us u r (item-breaks us u r (rules (items (reverse us)) u (fact_behind us u) (behind c us u h before s has is) has.good (fact-of us u)))

-- ---- What is answered of it

pub steps-err : {R W P : Type 0} (o : ℕ) (us : List (List ℕ)) (u : List ℕ) (new : Course R W P) (stop : Stop) → Takes o us u new (Err stop) → Steps o us u new (Err stop)
steps-err o us u new (Stop.Breaks rule) h = h
steps-err o us u new (Stop.Lacks asked count) h = h
steps-err o us u new Stop.View h = tt
steps-err o us u new Stop.Memory h = tt

-- it is kept, by the video parameter set in force behind it
stays-told : {R W P : Type 0} (new : Course R W P) (us : List (List ℕ)) (u : List ℕ) (h : UnitHead) (o : ℕ) (behind : Option VpsInForceValue) → Stood new (us ++ u ∷ []) → head u ≡ h → behind ≡ new.vps →
    keeps o (in_force behind) h.layer ≡ stays o (fact_behind us u).placed.item
stays-told new us u h o behind s head_is is =
    ap (λ (k : UnitHead). keeps o (in_force behind) k.layer) (sym head_is)
    ∙ ap (λ (at : InForce). keeps o at (head u).layer) (ap in_force is ∙ sym s.vps_is)
    ∙ sym (kept-by us u o)
    ∙ ap (stays o) (sym (item-of us u))

step-same : (s t : Step) → s.head ≡ t.head → s.kept ≡ t.kept → s.picture ≡ t.picture → s ≡ t
step-same s t head kept picture = parts s.head t.head s.kept t.kept s.picture t.picture head kept picture
  where
    parts : (h h' : UnitHead) (k k' : Bool) (p p' : Option (PicState × Option ℤ)) → h ≡ h' → k ≡ k' → p ≡ p' → Path Step (record { head = h; kept = k; picture = p }) (record { head = h'; kept = k'; picture = p' })
    parts h h' k k' p p' a b c = cc

pub steps-ok : {R W P : Type 0} (old new : Course R W P) (us : List (List ℕ)) (u : List ℕ) (h : UnitHead) (told : Option (PicState × Option ℤ)) (behind : Option VpsInForceValue) (kept : Bool) → head u ≡ h →
    Takes old.decoder.asked us u new (Ok told) → behind ≡ new.vps → new.decoder.asked ≡ old.decoder.asked → kept ≡ keeps new.decoder.asked (in_force behind) h.layer →
    Steps old.decoder.asked us u new (Ok (record { head = h; kept = kept; picture = told }))
unfolding step_of
steps-ok old new us u h told behind kept head_is t is asked kept_is = (
  t.0,
  t.1,
  step-same (record { head = h; kept = kept; picture = told }) (step_of old.decoder.asked us u) (sym head_is)
      (kept_is ∙ ap (λ o. keeps o (in_force behind) h.layer) asked ∙ stays-told new us u h old.decoder.asked behind t.1 head_is is) t.2,
)
