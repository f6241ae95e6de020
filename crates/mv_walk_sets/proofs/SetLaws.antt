-- Units that are sequence and picture parameter sets, by what their payloads read as.
use Rattle.std.proofs.Common.{◌≡◌, inl, inr, ℕ, Bool, true, false, ◌&&◌, ◌||◌, List, [], ◌∷◌, ◌++◌, map, Option, Some, None, Result, Ok, Err, refl, sym, ap, ◌∙◌, subst, cond}
use Rattle.std.specs.Prelude.{is_none, nat_eq, nat_lt, option_map}
use Rattle.mv_syntax.specs.Bits.{Fault, short, breaks}
use Rattle.mv_syntax.specs.Words.{◌otherwise◌}
use Rattle.mv_rules.specs.Rule.{rule_number}
use Rattle.mv_rules.specs.declared.rule.Rule.{Rule}
use Rattle.mv_rules.specs.declared.refusal.ReadFault.{ReadFault}
use Rattle.mv_rules.specs.declared.refusal.ReadFault.TheVariants.{Refused, Memory as out_of_memory}
use Rattle.mv_units.specs.declared.head.UnitHead.{UnitHead}
use Rattle.mv_units.specs.Head.{head}
use Rattle.mv_units.specs.Escapes.{payload}
use Rattle.mv_units.specs.Rules.{bad_head}
use Rattle.mv_sps.specs.Sps.{SpsValue}
use Rattle.mv_pps.specs.Pps.{PpsValue}
use Rattle.mv_pictures.specs.Kinds.{is_pps_kind, is_sps_kind, is_vps_kind}
use Rattle.mv_pictures.specs.Carried.{Carried, carried_pps, carried_sps, carried_vps}
use Rattle.mv_pictures.specs.Layers.{whole}
use Rattle.mv_pictures.specs.Items.{Item, is_known, is_vps, item, vps_behind}
use Rattle.mv_pictures.specs.Facts.{Fact, max_sub_layers, pps_of_unit, sps_of_unit}
use Rattle.mv_pictures.specs.UnitRules.{names_other_vps, needs_vps, no_vps, pps_rules, sps_tid}
use Rattle.mv_pictures.specs.Rules.{Case, case, item_cases, set_cases}
use Rattle.mv_walk_sets.specs.InForce.{VpsInForceValue, carried_of}
use Rattle.mv_walk_sets.specs.Readings.{Reads, ReadsSps, pps_reading, sps_reading, with_tid}
use Rattle.mv_walk_sets.specs.Roles.{IsFactOf, StandsBehind, least}
use Rattle.mv_walk_sets.specs.Taken.{TakesPps, TakesSps}
use Rattle.mv_walk_sets.proofs.CaseLaws.{pps_cut, sps_cases, sps_cut, table_cases}
use Rattle.mv_walk_sets.proofs.DecideLaws.{and_not, other_kind}
use Rattle.mv_walk_sets.proofs.ReadingLaws.{pps_tried, sps_tried}
use Rattle.mv_walk_sets.proofs.RoleLaws.{cases_by, item_cases_are, not_above, not_new, set_cases_are, sets_by}

-- ---- the item of a sequence parameter set
abbrev pub as_fields : {A : Type 0} → Result (A × Option (List Bool)) Fault → Result A Fault
as_fields reading = elim reading [ Ok v ↦ Ok (v.0) | Err fault ↦ Err fault ]

abbrev pub subs_of : VpsInForceValue → ℕ
subs_of v = v.value.coded.0.base.opening.vps_max_sub_layers_minus1

abbrev pub sps_of_payload : ℕ → ℕ → List ℕ → Carried SpsValue
sps_of_payload layer subs p = record { layer = layer; payload = p; reading = as_fields (sps_reading layer subs p) }

pub record IsSpsOf (i : Item) (v : VpsInForceValue) (h : UnitHead) (p : List ℕ) : Type 0 where
  pub clean : bad_head i.bytes ≡ false
  pub known : is_known i ≡ true
  pub it : is_sps_kind i.head.kind ≡ true
  pub other : is_vps i ≡ false
  pub head_is : i.head ≡ h
  pub payload_is : payload i.bytes ≡ p
  pub at_is : i.at ≡ Some (carried_of v)

sps_item : (past : List Item) (u : List ℕ) (v : VpsInForceValue) (h : UnitHead) → StandsBehind (Some (carried_of v)) h past u → is_sps_kind h.kind ≡ true → bad_head u ≡ false →
    is_known (item past u) ≡ true → IsSpsOf (item past u) v h (payload u)
unfolding item
sps_item past u v h s sps clean known =
    let it : is_sps_kind (head u).kind ≡ true = ap (λ (x : UnitHead). is_sps_kind x.kind) s.head_is ∙ sps in
    let other : (is_vps_kind (head u).kind && nat_eq (head u).layer 0) ≡ false = ap (λ b. b && nat_eq (head u).layer 0) (other_kind (head u).kind 33 32 refl it) in
    record {
      clean = clean;
      known = known;
      it = it;
      other = other;
      head_is = s.head_is;
      payload_is = refl;
      at_is = ap (λ b. cond b (Some (carried_vps (head u) u)) (vps_behind past)) other ∙ s.behind;
    }

pub sps_unit : (past : List Item) (u p : List ℕ) (v : VpsInForceValue) (h : UnitHead) → p ≡ payload u → StandsBehind (Some (carried_of v)) h past u → is_sps_kind h.kind ≡ true → bad_head u ≡ false →
    is_known (item past u) ≡ true → IsSpsOf (item past u) v h p
sps_unit past u p v h same s sps clean known = subst (IsSpsOf (item past u) v h) (sym same) (sps_item past u v h s sps clean known)

named_is : (i : Item) (v : VpsInForceValue) (h : UnitHead) (p : List ℕ) → IsSpsOf i v h p → no_vps i ≡ names_other_vps p v.value
unfolding no_vps
named_is i v h p s =
    ap (λ x. (is_none x && needs_vps i) || (is_known i && is_sps_kind i.head.kind && (option_map (names_other_vps (payload i.bytes)) (whole x) otherwise false))) s.at_is
    ∙ ap (λ b. b && is_sps_kind i.head.kind && names_other_vps (payload i.bytes) v.value) s.known
    ∙ ap (λ b. b && names_other_vps (payload i.bytes) v.value) s.it
    ∙ ap (λ x. names_other_vps x v.value) s.payload_is

unit_is : (i : Item) (v : VpsInForceValue) (h : UnitHead) (p : List ℕ) → IsSpsOf i v h p → sps_of_unit i ≡ Some (sps_of_payload h.layer (subs_of v) p)
unfolding sps_of_unit carried_sps
unit_is i v h p s =
    ap (λ b. cond (b && is_sps_kind i.head.kind) (Some (carried_sps (max_sub_layers i.at) i.head i.bytes)) None) s.known
    ∙ ap (λ b. cond b (Some (carried_sps (max_sub_layers i.at) i.head i.bytes)) None) s.it
    ∙ ap (λ x. Some (carried_sps (max_sub_layers x) i.head i.bytes)) s.at_is
    ∙ ap (λ (x : UnitHead). Some (carried_sps (subs_of v) x i.bytes)) s.head_is
    ∙ ap (λ x. Some (sps_of_payload h.layer (subs_of v) x)) s.payload_is

above_is : (i : Item) (v : VpsInForceValue) (h : UnitHead) (p : List ℕ) → IsSpsOf i v h p → sps_tid i ≡ nat_lt 0 h.tid
unfolding sps_tid
above_is i v h p s =
    ap (λ b. b && is_sps_kind i.head.kind && nat_lt 0 i.head.tid) s.known ∙ ap (λ b. b && nat_lt 0 i.head.tid) s.it ∙ ap (λ (x : UnitHead). nat_lt 0 x.tid) s.head_is

no_pps : (i : Item) (v : VpsInForceValue) (h : UnitHead) (p : List ℕ) → IsSpsOf i v h p → pps_of_unit i ≡ None
unfolding pps_of_unit
no_pps i v h p s =
    ap (λ b. cond (is_known i && b) (Some (carried_pps i.head i.bytes)) None) (other_kind i.head.kind 33 34 refl s.it)
    ∙ ap (λ b. cond b (Some (carried_pps i.head i.bytes)) None) (and_not (is_known i))

abbrev behind_sps : List Case
behind_sps = case Rule.PpsSyntax false ∷ map (λ r. case r false) pps_rules

sets_are : (i : Item) (f : Fact) (v : VpsInForceValue) (h : UnitHead) (p : List ℕ) → IsSpsOf i v h p → IsFactOf i f →
    set_cases f ≡ sps_cases (nat_lt 0 h.tid) (as_fields (sps_reading h.layer (subs_of v) p)) behind_sps
sets_are i f v h p s is = set_cases_are i f (Some (sps_of_payload h.layer (subs_of v) p)) (nat_lt 0 h.tid) None is (unit_is i v h p s) (above_is i v h p s) (no_pps i v h p s)

-- ---- what is answered of it
pub sps_named : (i : Item) (f : Fact) (v : VpsInForceValue) (h : UnitHead) (p : List ℕ) → IsSpsOf i v h p → names_other_vps p v.value ≡ true → TakesSps i f (Err (Refused Rule.NoVps))
sps_named i f v h p s other =
    ap (λ x. least (x ++ set_cases f))
    (item_cases_are i false false false true i.at s.clean (not_new i s.other) refl (not_above i s.other) (named_is i v h p s ∙ other))

alone : (i : Item) (v : VpsInForceValue) (h : UnitHead) (p : List ℕ) → IsSpsOf i v h p → names_other_vps p v.value ≡ false → item_cases i ≡ cases_by false false i.at false false
alone i v h p s own = item_cases_are i false false false false i.at s.clean (not_new i s.other) refl (not_above i s.other) (named_is i v h p s ∙ own)

pub sps_ok : (i : Item) (f : Fact) (v : VpsInForceValue) (h : UnitHead) (p : List ℕ) (set : SpsValue × Option (List Bool)) → IsSpsOf i v h p → IsFactOf i f → names_other_vps p v.value ≡ false →
    ReadsSps h.tid (sps_reading h.layer (subs_of v) p) (Ok set) → TakesSps i f (Ok (record { payload = p; value = set }))
sps_ok i f v h p set s is own (reads, above) = (
  ap least (alone i v h p s own),
  ap least (sets_are i f v h p s is) ∙ ap (λ x. least (sps_cases (nat_lt 0 h.tid) (as_fields x) behind_sps)) reads
      ∙ ap (λ b. least (sps_cases {A = SpsValue} b (Ok (set.0)) behind_sps)) above,
  is.sps_is ∙ unit_is i v h p s ∙ ap (λ x. Some (record { layer = h.layer; payload = p; reading = as_fields x })) reads
      ∙ ap (λ (x : UnitHead). Some (record { layer = x.layer; payload = p; reading = Ok (set.0) })) (sym s.head_is),
)

behind_item : (i : Item) (f : Fact) (v : VpsInForceValue) (h : UnitHead) (p : List ℕ) (x : Result (SpsValue × Option (List Bool)) Fault) → IsSpsOf i v h p → IsFactOf i f → names_other_vps p v.value ≡ false →
    sps_reading h.layer (subs_of v) p ≡ x → least (item_cases i ++ set_cases f) ≡ least (sps_cases (nat_lt 0 h.tid) (as_fields x) behind_sps)
behind_item i f v h p x s is own reads =
    ap (λ y. least (y ++ set_cases f)) (alone i v h p s own) ∙ ap least (sets_are i f v h p s is) ∙ ap (λ y. least (sps_cases (nat_lt 0 h.tid) (as_fields y) behind_sps)) reads

pub sps_err : (i : Item) (f : Fact) (v : VpsInForceValue) (h : UnitHead) (p : List ℕ) (fault : ReadFault) → IsSpsOf i v h p → IsFactOf i f → names_other_vps p v.value ≡ false →
    ReadsSps h.tid (sps_reading h.layer (subs_of v) p) (Err fault) → TakesSps i f (Err fault)
sps_err i f v h p out_of_memory s is own reads = tt
sps_err i f v h p (Refused rule) s is own (inl (broken, (inl cut), same)) =
    behind_item i f v h p (Err (breaks (rule_number broken))) s is own cut
    ∙ sps_cut SpsValue (nat_lt 0 h.tid) broken behind_sps (sps_tried h.layer (subs_of v) p (rule_number broken) cut) ∙ ap Some (sym same)
sps_err i f v h p (Refused rule) s is own (inl (broken, (inr (syntax, fails)), same)) =
    behind_item i f v h p (Err short) s is own fails ∙ ap Some (sym (same ∙ ap (with_tid h.tid) syntax ∙ go (nat_lt 0 h.tid)))
  where
    go : (b : Bool) → cond (b && false) Rule.SpsTid Rule.SpsSyntax ≡ Rule.SpsSyntax
    go true = refl
    go false = refl
sps_err i f v h p (Refused rule) s is own (inr (set, reads, above, same)) =
    behind_item i f v h p (Ok set) s is own reads ∙ ap (λ b. least (sps_cases {A = SpsValue} b (Ok (set.0)) behind_sps)) above ∙ ap Some (sym same)

-- ---- picture parameter sets
abbrev pub pps_of_payload : ℕ → List ℕ → Carried PpsValue
pps_of_payload layer p = record { layer = layer; payload = p; reading = as_fields (pps_reading p) }

pps_unit_is : (i : Item) → is_known i ≡ true → is_pps_kind i.head.kind ≡ true → pps_of_unit i ≡ Some (pps_of_payload i.head.layer (payload i.bytes))
unfolding pps_of_unit carried_pps
pps_unit_is i known it =
    ap (λ b. cond (b && is_pps_kind i.head.kind) (Some (carried_pps i.head i.bytes)) None) known ∙ ap (λ b. cond b (Some (carried_pps i.head i.bytes)) None) it

pps_sets_are : (i : Item) (f : Fact) → is_known i ≡ true → is_pps_kind i.head.kind ≡ true → IsFactOf i f → set_cases f ≡ sets_by None false (Some (pps_of_payload i.head.layer (payload i.bytes)))
unfolding sps_of_unit sps_tid
pps_sets_are i f known it is =
    let isnt : (is_known i && is_sps_kind i.head.kind) ≡ false = ap (λ b. is_known i && b) (other_kind i.head.kind 34 33 refl it) ∙ and_not (is_known i) in
    set_cases_are i f None false (Some (pps_of_payload i.head.layer (payload i.bytes))) is (ap (λ b. cond b (Some (carried_sps (max_sub_layers i.at) i.head i.bytes)) None) isnt)
    (ap (λ b. b && nat_lt 0 i.head.tid) isnt) (pps_unit_is i known it)

append_none : (xs : List Case) → xs ++ [] ≡ xs
append_none [] = refl
append_none (x ∷ xs) = ap (λ l. x ∷ l) (append_none xs)

pps_least : (i : Item) (f : Fact) (x : Result (PpsValue × Option (List Bool)) Fault) → is_known i ≡ true → is_pps_kind i.head.kind ≡ true → IsFactOf i f → pps_reading (payload i.bytes) ≡ x →
    least (set_cases f) ≡ least (table_cases Rule.PpsSyntax pps_rules (as_fields x) ++ [])
pps_least i f x known it is reads =
    ap least (pps_sets_are i f known it is) ∙ ap (λ y. least (table_cases Rule.PpsSyntax pps_rules (as_fields y))) reads
    ∙ ap least (sym (append_none (table_cases Rule.PpsSyntax pps_rules (as_fields x))))

pps_taken : (i : Item) (f : Fact) (r : Result (PpsValue × Option (List Bool)) ReadFault) → is_known i ≡ true → is_pps_kind i.head.kind ≡ true → IsFactOf i f → Reads Rule.PpsSyntax (pps_reading (payload i.bytes)) r →
    TakesPps i f (elim r [ Ok set ↦ Ok (record { payload = payload i.bytes; value = set }) | Err fault ↦ Err fault ])
pps_taken i f (Ok set) known it is reads = (
  pps_least i f (Ok set) known it is reads,
  is.pps_is ∙ pps_unit_is i known it ∙ ap (λ x. Some (record { layer = i.head.layer; payload = payload i.bytes; reading = as_fields x })) reads,
)
pps_taken i f (Err (Refused rule)) known it is (inl cut) =
    pps_least i f (Err (breaks (rule_number rule))) known it is cut ∙ pps_cut PpsValue rule [] (pps_tried (payload i.bytes) (rule_number rule) cut)
pps_taken i f (Err (Refused rule)) known it is (inr (same, fails)) = pps_least i f (Err short) known it is fails ∙ ap Some (sym same)
pps_taken i f (Err out_of_memory) known it is reads = tt

pub pps_unit : (past : List Item) (u p : List ℕ) (f : Fact) (r : Result (PpsValue × Option (List Bool)) ReadFault) → p ≡ payload u → is_pps_kind (item past u).head.kind ≡ true → is_known (item past u) ≡ true →
    IsFactOf (item past u) f → Reads Rule.PpsSyntax (pps_reading p) r → TakesPps (item past u) f (elim r [ Ok set ↦ Ok (record { payload = p; value = set }) | Err fault ↦ Err fault ])
unfolding item
pps_unit past u p f r same it known is reads =
    subst (λ q. TakesPps (item past u) f (elim r [ Ok set ↦ Ok (record { payload = q; value = set }) | Err fault ↦ Err fault ])) (sym same)
    (pps_taken (item past u) f r known it is (subst (λ q. Reads Rule.PpsSyntax (pps_reading q) r) same reads))
