-- A unit that is a video parameter set, by what its payload reads as.
use Rattle.std.proofs.Common.{◌≡◌, ◌⊎◌, inl, inr, ℕ, Bool, true, false, not, ◌&&◌, ◌||◌, List, [], ◌∷◌, ◌++◌, length, Option, Some, None, Result, Ok, Err, refl, sym, ap, ◌∙◌, subst, cond}
use Rattle.std.specs.Prelude.{⊤, bytes_eq, is_none, nat_eq, nat_lt, option_map}
use Rattle.std.proofs.lemmas.Bool.{eqb-true, and_parts}
use Rattle.std.proofs.lemmas.Slice.Eq.{bytes_eq-Decides}
use Rattle.mv_syntax.specs.Bits.{byte_bits}
use Rattle.mv_syntax.specs.Words.{◌otherwise◌}
use Rattle.mv_syntax.specs.inner.PayloadReader.{read_payload}
use Rattle.mv_syntax.proofs.PayloadLaws.{payload_answered}
use Rattle.mv_rules.specs.Rule.{rule_number}
use Rattle.mv_rules.specs.declared.rule.Rule.{Rule}
use Rattle.mv_judging.specs.declared.stop.Objection.{Objection}
use Rattle.mv_units.specs.declared.head.UnitHead.{UnitHead}
use Rattle.mv_units.specs.Head.{head}
use Rattle.mv_units.specs.Escapes.{payload}
use Rattle.mv_units.specs.Rules.{bad_head}
use Rattle.mv_vps.specs.Vps.{WholeVps, vps}
use Rattle.mv_pictures.specs.Kinds.{is_vps_kind}
use Rattle.mv_pictures.specs.Carried.{carried_vps}
use Rattle.mv_pictures.specs.Layers.{sets_at}
use Rattle.mv_pictures.specs.Items.{Item, is_first_vps, is_known, is_vps_head, item, same_vps, turns, vps_behind}
use Rattle.mv_pictures.specs.UnitRules.{is_new_vps, needs_vps, no_vps, vps_rules, vps_tid}
use Rattle.mv_pictures.specs.Rules.{Case, case, item_cases}
use Rattle.mv_pictures.specs.Verdict.{lacking}
use Rattle.mv_walk_sets.specs.declared.fault.VpsFault.{VpsFault}
use Rattle.mv_walk_sets.specs.declared.vps.NewVps.{NewVps}
use Rattle.mv_walk_sets.specs.InForce.{IsRead, VpsInForceValue, carried_of, in_force}
use Rattle.mv_walk_sets.specs.Readings.{IsOfPayload, ReadsNew, ReadsVps, Refuses, as_whole, checked, vps_reading}
use Rattle.mv_walk_sets.specs.Roles.{StandsBehind, least}
use Rattle.mv_walk_sets.specs.Taken.{IsVpsOf, TakesVps, again, of_payload}
use Rattle.mv_walk_sets.proofs.CaseLaws.{table_cases, vps_cut}
use Rattle.mv_walk_sets.proofs.DecideLaws.{and_not, other_kind}
use Rattle.mv_walk_sets.proofs.ReadingLaws.{vps_tried, whole_is}
use Rattle.mv_walk_sets.proofs.RoleLaws.{cases_by, item_cases_are, lacks_is}

-- ---- the item of such a unit
carried_is : (h : UnitHead) (u : List ℕ) → nat_eq h.layer 0 ≡ true → carried_vps h u ≡ of_payload (payload u)
unfolding carried_vps vps_reading
carried_is h u base = ap (λ layer. record { layer = layer; payload = payload u; reading = as_whole (read_payload vps (byte_bits (payload u))) }) (eqb-true h.layer 0 base)

vps_item : (past : List Item) (u : List ℕ) (old : Option VpsInForceValue) (h : UnitHead) → StandsBehind (in_force old) h past u → is_vps_head h ≡ true → bad_head u ≡ false →
    IsVpsOf (item past u) old h.tid (payload u)
unfolding item
vps_item past u old h s vps clean =
    let it : is_vps_head (head u) ≡ true = ap is_vps_head s.head_is ∙ vps in
    record {
      clean = clean;
      it = it;
      tid_is = ap (λ (x : UnitHead). x.tid) s.head_is;
      before_is = s.behind;
      at_is = ap (λ b. cond b (Some (carried_vps (head u) u)) (vps_behind past)) it ∙ ap Some (carried_is (head u) u (and_parts (is_vps_kind (head u).kind) (nat_eq (head u).layer 0) it).1);
    }

pub vps_unit : (past : List Item) (u p : List ℕ) (old : Option VpsInForceValue) (h : UnitHead) → p ≡ payload u → StandsBehind (in_force old) h past u → is_vps_head h ≡ true → bad_head u ≡ false →
    IsVpsOf (item past u) old h.tid p
vps_unit past u p old h same s vps clean = subst (IsVpsOf (item past u) old h.tid) (sym same) (vps_item past u old h s vps clean)

-- ---- whether it is the first or a changed one
pub turns_is : (i : Item) (old : Option VpsInForceValue) (tid : ℕ) (p : List ℕ) → IsVpsOf i old tid p →
    turns i ≡ (option_map (λ (v : VpsInForceValue). not (bytes_eq v.payload p)) old otherwise false)
unfolding turns in_force
turns_is i old tid p h =
    ap (λ b. b && (option_map (λ a. option_map (λ b. not (same_vps a b)) i.at otherwise false) i.before otherwise false)) h.it
    ∙ ap (λ x. option_map (λ a. option_map (λ b. not (same_vps a b)) x otherwise false) i.before otherwise false) h.at_is
    ∙ ap (λ x. option_map (λ a. not (same_vps a (of_payload p))) x otherwise false) h.before_is
    ∙ go old
  where
    go : (o : Option VpsInForceValue) → (option_map (λ a. not (same_vps a (of_payload p))) (option_map carried_of o) otherwise false) ≡ (option_map (λ (v : VpsInForceValue). not (bytes_eq v.payload p)) o otherwise false)
    go None = refl
    go (Some v) = refl

pub first_is : (i : Item) (old : Option VpsInForceValue) (tid : ℕ) (p : List ℕ) → IsVpsOf i old tid p → is_first_vps i ≡ is_none old
unfolding in_force
first_is i old tid p h = ap (λ b. b && is_none i.before) h.it ∙ ap is_none h.before_is ∙ go old
  where
    go : (o : Option VpsInForceValue) → is_none (option_map carried_of o) ≡ is_none o
    go None = refl
    go (Some v) = refl

-- ---- the rules on it
above_is : (i : Item) (old : Option VpsInForceValue) (tid : ℕ) (p : List ℕ) → IsVpsOf i old tid p → vps_tid i ≡ nat_lt 0 tid
unfolding vps_tid
above_is i old tid p h = ap (λ b. b && nat_lt 0 i.head.tid) h.it ∙ ap (λ n. nat_lt 0 n) h.tid_is

none_lacks : (i : Item) (old : Option VpsInForceValue) (tid : ℕ) (p : List ℕ) → IsVpsOf i old tid p → no_vps i ≡ false
none_lacks i old tid p h =
    let kind : is_vps_kind i.head.kind ≡ true = (and_parts (is_vps_kind i.head.kind) (nat_eq i.head.layer 0) h.it).0 in
    lacks_is i false (ap (λ x. is_none x && needs_vps i) h.at_is) (ap (λ b. is_known i && b) (other_kind i.head.kind 32 33 refl kind) ∙ and_not (is_known i))

abbrev new_cases : ℕ → List ℕ → List Case
new_cases tid p = table_cases Rule.VpsSyntax vps_rules (vps_reading p) ++ case Rule.VpsTid (nat_lt 0 tid) ∷ case Rule.NoVps false ∷ []

new_least : (i : Item) (old : Option VpsInForceValue) (tid : ℕ) (p : List ℕ) → IsVpsOf i old tid p → is_new_vps i ≡ true → least (item_cases i) ≡ least (new_cases tid p)
new_least i old tid p h new = ap least (item_cases_are i false true (nat_lt 0 tid) false (Some (of_payload p)) h.clean new h.at_is (above_is i old tid p h) (none_lacks i old tid p h))

pub old_least : (i : Item) (old : Option VpsInForceValue) (tid : ℕ) (p : List ℕ) → IsVpsOf i old tid p → is_new_vps i ≡ false → least (item_cases i) ≡ cond (nat_lt 0 tid) (Some Rule.VpsTid) None
old_least i old tid p h new = ap least (item_cases_are i false false (nat_lt 0 tid) false (Some (of_payload p)) h.clean new h.at_is (above_is i old tid p h) (none_lacks i old tid p h)) ∙ go (nat_lt 0 tid)
  where
    go : (b : Bool) → least (cases_by false false (Some (of_payload p)) b false) ≡ cond b (Some Rule.VpsTid) None
    go true = refl
    go false = refl

-- by what reads
refused_least : (tid : ℕ) (p : List ℕ) (rule : Rule) → Refuses Rule.VpsSyntax (vps_reading p) rule → least (new_cases tid p) ≡ Some rule
refused_least tid p rule (inl cut) =
    ap (λ x. least (table_cases Rule.VpsSyntax vps_rules x ++ case Rule.VpsTid (nat_lt 0 tid) ∷ case Rule.NoVps false ∷ [])) cut
    ∙ vps_cut WholeVps rule (case Rule.VpsTid (nat_lt 0 tid) ∷ case Rule.NoVps false ∷ []) (vps_tried p (rule_number rule) cut)
refused_least tid p rule (inr (same, fails)) =
    ap (λ x. least (table_cases Rule.VpsSyntax vps_rules x ++ case Rule.VpsTid (nat_lt 0 tid) ∷ case Rule.NoVps false ∷ [])) fails ∙ ap Some (sym same)

read_least : (tid : ℕ) (p : List ℕ) (v : WholeVps) (above : Bool) → vps_reading p ≡ Ok v → nat_lt 0 tid ≡ above → least (new_cases tid p) ≡ cond above (Some Rule.VpsTid) None
read_least tid p v above reads is =
    ap (λ x. least (table_cases Rule.VpsSyntax vps_rules x ++ case Rule.VpsTid (nat_lt 0 tid) ∷ case Rule.NoVps false ∷ [])) reads
    ∙ ap (λ b. least (table_cases {A = WholeVps} Rule.VpsSyntax vps_rules (Ok v) ++ case Rule.VpsTid b ∷ case Rule.NoVps false ∷ [])) is
    ∙ go above
  where
    go : (b : Bool) → least (table_cases {A = WholeVps} Rule.VpsSyntax vps_rules (Ok v) ++ case Rule.VpsTid b ∷ case Rule.NoVps false ∷ []) ≡ cond b (Some Rule.VpsTid) None
    go true = refl
    go false = refl

-- ---- the output layer set that is asked for
sets_are : (i : Item) (old : Option VpsInForceValue) (tid : ℕ) (p : List ℕ) (v : WholeVps) → IsVpsOf i old tid p → vps_reading p ≡ Ok v → sets_at i.at ≡ v.derived.sets
unfolding sets_at
sets_are i old tid p v h reads = ap sets_at h.at_is ∙ ap (λ x. sets_at (Some (record { layer = 0; payload = p; reading = x }))) reads

lacking_is : (o : ℕ) (i : Item) (new : Bool) (n : ℕ) (b : Bool) → is_new_vps i ≡ new → length (sets_at i.at) ≡ n → nat_lt o n ≡ b → lacking o i ≡ cond (new && not b) (Some (Objection.NoSuchSet o n)) None
unfolding lacking
lacking_is o i new n b a c d =
    ap (λ x. cond (x && not (nat_lt o (length (sets_at i.at)))) (Some (Objection.NoSuchSet o (length (sets_at i.at)))) None) a
    ∙ ap (λ x. cond (new && not (nat_lt o x)) (Some (Objection.NoSuchSet o x)) None) c
    ∙ ap (λ x. cond (new && not x) (Some (Objection.NoSuchSet o n)) None) d

-- ---- what is checked
abbrev checked_by : Bool → Bool → ℕ → ℕ → Result ⊤ VpsFault
checked_by a b o n = cond a (Err (VpsFault.Refused Rule.VpsTid)) (cond b (Ok tt) (Err (VpsFault.NoSuchSet o n)))

checked_ok : (o tid n : ℕ) → checked o tid n ≡ Ok tt → (nat_lt 0 tid ≡ false) × (nat_lt o n ≡ true)
checked_ok o tid n e = go (nat_lt 0 tid) (nat_lt o n) refl refl e
  where
    go : (a b : Bool) → nat_lt 0 tid ≡ a → nat_lt o n ≡ b → checked_by a b o n ≡ Ok tt → (nat_lt 0 tid ≡ false) × (nat_lt o n ≡ true)
    go true b p q e = absurd (cc)
    go false true p q e = (p, q)
    go false false p q e = absurd (cc)

checked_err : (o tid n : ℕ) (fault : VpsFault) → checked o tid n ≡ Err fault →
    ((nat_lt 0 tid ≡ true) × (VpsFault.Refused Rule.VpsTid ≡ fault)) ⊎ ((nat_lt 0 tid ≡ false) × ((nat_lt o n ≡ false) × (VpsFault.NoSuchSet o n ≡ fault)))
checked_err o tid n fault e = go (nat_lt 0 tid) (nat_lt o n) refl refl e
  where
    go : (a b : Bool) → nat_lt 0 tid ≡ a → nat_lt o n ≡ b → checked_by a b o n ≡ Err fault →
        ((nat_lt 0 tid ≡ true) × (VpsFault.Refused Rule.VpsTid ≡ fault)) ⊎ ((nat_lt 0 tid ≡ false) × ((nat_lt o n ≡ false) × (VpsFault.NoSuchSet o n ≡ fault)))
    go true b p q e = inl (p, cc)
    go false true p q e = absurd (cc)
    go false false p q e = inr (p, (q, cc))

-- ---- a new one is taken, or refused
pub new_ok : (o : ℕ) (i : Item) (old : Option VpsInForceValue) (tid : ℕ) (p : List ℕ) (v : WholeVps) → IsVpsOf i old tid p → is_new_vps i ≡ true → ReadsVps o tid (vps_reading p) (Ok v) →
    (least (item_cases i) ≡ None) × ((lacking o i ≡ None) × (i.at ≡ Some (carried_of (record { payload = p; value = v }))))
new_ok o i old tid p v h new (reads, checks) =
    let c : (nat_lt 0 tid ≡ false) × (nat_lt o (length v.derived.sets) ≡ true) = checked_ok o tid (length v.derived.sets) checks in (
      new_least i old tid p h new ∙ read_least tid p v false reads c.0,
      (
        lacking_is o i true (length v.derived.sets) true new (ap length (sets_are i old tid p v h reads)) c.1,
        h.at_is ∙ ap (λ x. Some (record { layer = 0; payload = p; reading = x })) reads,
      ),
    )

read_err : (o : ℕ) (i : Item) (old : Option VpsInForceValue) (tid : ℕ) (p : List ℕ) (fault : VpsFault) → IsVpsOf i old tid p → is_new_vps i ≡ true → IsOfPayload (vps_reading p) fault → TakesVps o i (Err fault)
read_err o i old tid p (VpsFault.Refused rule) h new refuses = new_least i old tid p h new ∙ refused_least tid p rule refuses
read_err o i old tid p (VpsFault.NoSuchSet asked count) h new refuses = elim refuses [ ]
read_err o i old tid p VpsFault.Memory h new refuses = tt

pub new_err : (o : ℕ) (i : Item) (old : Option VpsInForceValue) (tid : ℕ) (p : List ℕ) (fault : VpsFault) → IsVpsOf i old tid p → is_new_vps i ≡ true → ReadsVps o tid (vps_reading p) (Err fault) → TakesVps o i (Err fault)
new_err o i old tid p fault h new (inl refuses) = read_err o i old tid p fault h new refuses
new_err o i old tid p fault h new (inr (v, reads, checks)) = go (checked_err o tid (length v.derived.sets) fault checks)
  where
    go : ((nat_lt 0 tid ≡ true) × (VpsFault.Refused Rule.VpsTid ≡ fault)) ⊎ ((nat_lt 0 tid ≡ false) × ((nat_lt o (length v.derived.sets) ≡ false) × (VpsFault.NoSuchSet o (length v.derived.sets) ≡ fault))) → TakesVps o i (Err fault)
    go (inl (above, same)) = subst (λ x. TakesVps o i (Err x)) same (new_least i old tid p h new ∙ read_least tid p v true reads above)
    go (inr (above, (lacks, same))) =
        subst (λ x. TakesVps o i (Err x)) same
        (new_least i old tid p h new ∙ read_least tid p v false reads above, lacking_is o i true (length v.derived.sets) false new (ap length (sets_are i old tid p v h reads)) lacks)

-- ---- a repeated one stays
same_carried : (v : VpsInForceValue) (p : List ℕ) → IsRead v → v.payload ≡ p → Some (of_payload p) ≡ in_force (Some v)
unfolding in_force vps_reading
same_carried v p read same =
    ap (λ x. Some (of_payload x)) (sym same)
    ∙ ap (λ x. Some (record { layer = 0; payload = v.payload; reading = x })) (ap as_whole ((payload_answered vps (byte_bits v.payload)).value v.value.coded read.reads) ∙ ap Ok (whole_is v.value read.valid))

again_ok : (o : ℕ) (i : Item) (v : VpsInForceValue) (tid : ℕ) (p : List ℕ) → IsVpsOf i (Some v) tid p → IsRead v → v.payload ≡ p → bytes_eq v.payload p ≡ true → nat_lt 0 tid ≡ false → TakesVps o i (Ok NewVps.Repeated)
again_ok o i v tid p h read same equal above =
    let first : is_first_vps i ≡ false = first_is i (Some v) tid p h in
    let turn : turns i ≡ false = turns_is i (Some v) tid p h ∙ ap not equal in
    let new : is_new_vps i ≡ false = ap (λ b. b || turns i) first ∙ turn in (
      old_least i (Some v) tid p h new ∙ ap (λ b. cond b (Some Rule.VpsTid) None) above,
      lacking_is o i false (length (sets_at i.at)) (nat_lt o (length (sets_at i.at))) new refl refl,
      first,
      turn,
      h.at_is ∙ same_carried v p read same ∙ sym h.before_is,
    )

again_err : (o : ℕ) (i : Item) (v : VpsInForceValue) (tid : ℕ) (p : List ℕ) → IsVpsOf i (Some v) tid p → bytes_eq v.payload p ≡ true → nat_lt 0 tid ≡ true → TakesVps o i (Err (VpsFault.Refused Rule.VpsTid))
again_err o i v tid p h equal above =
    let new : is_new_vps i ≡ false = ap (λ b. b || turns i) (first_is i (Some v) tid p h) ∙ turns_is i (Some v) tid p h ∙ ap not equal in
    old_least i (Some v) tid p h new ∙ ap (λ b. cond b (Some Rule.VpsTid) None) above

pub again_taken : (o : ℕ) (i : Item) (v : VpsInForceValue) (tid : ℕ) (p : List ℕ) → IsVpsOf i (Some v) tid p → IsRead v → bytes_eq v.payload p ≡ true → TakesVps o i (again tid)
again_taken o i v tid p h read equal = go (nat_lt 0 tid) refl
  where
    go : (b : Bool) → nat_lt 0 tid ≡ b → TakesVps o i (cond b (Err (VpsFault.Refused Rule.VpsTid)) (Ok NewVps.Repeated))
    go true above = again_err o i v tid p h equal above
    go false above = again_ok o i v tid p h read ((bytes_eq-Decides v.payload p).0 equal) equal above

-- ---- with the payload
first_new : (i : Item) (tid : ℕ) (p : List ℕ) → IsVpsOf i None tid p → is_new_vps i ≡ true
first_new i tid p h = ap (λ b. b || turns i) (first_is i None tid p h)

changed_new : (i : Item) (v : VpsInForceValue) (tid : ℕ) (p : List ℕ) → IsVpsOf i (Some v) tid p → bytes_eq v.payload p ≡ false → is_new_vps i ≡ true
changed_new i v tid p h apart = ap (λ b. b || turns i) (first_is i (Some v) tid p h) ∙ turns_is i (Some v) tid p h ∙ ap not apart

new_in_force : (o : ℕ) (i : Item) (old : Option VpsInForceValue) (tid : ℕ) (p : List ℕ) (new : VpsInForceValue) → IsVpsOf i old tid p → is_new_vps i ≡ true → ReadsNew o tid p (Ok new) →
    (least (item_cases i) ≡ None) × ((lacking o i ≡ None) × (i.at ≡ Some (carried_of new)))
new_in_force o i old tid p new h is (same, reads, checks) =
    let taken = new_ok o i old tid p new.value h is (reads, checks) in
    (taken.0, (taken.1.0, taken.1.1 ∙ ap (λ q. Some (carried_of (record { payload = q; value = new.value }))) (sym same)))

pub first_taken : (o : ℕ) (i : Item) (tid : ℕ) (p : List ℕ) (new : VpsInForceValue) → IsVpsOf i None tid p → ReadsNew o tid p (Ok new) → IsRead new → TakesVps o i (Ok (NewVps.First new))
first_taken o i tid p new h reads read =
    let taken = new_in_force o i None tid p new h (first_new i tid p h) reads in
    (taken.0, taken.1.0, first_is i None tid p h, turns_is i None tid p h, taken.1.1, read)

pub first_refused : (o : ℕ) (i : Item) (tid : ℕ) (p : List ℕ) (fault : VpsFault) → IsVpsOf i None tid p → ReadsNew o tid p (Err fault) → TakesVps o i (Err fault)
first_refused o i tid p fault h reads = new_err o i None tid p fault h (first_new i tid p h) reads

pub changed_taken : (o : ℕ) (i : Item) (v : VpsInForceValue) (tid : ℕ) (p : List ℕ) (new : VpsInForceValue) → IsVpsOf i (Some v) tid p → bytes_eq v.payload p ≡ false → ReadsNew o tid p (Ok new) → IsRead new → TakesVps o i (Ok (NewVps.Changed new))
changed_taken o i v tid p new h apart reads read =
    let taken = new_in_force o i (Some v) tid p new h (changed_new i v tid p h apart) reads in
    (taken.0, taken.1.0, first_is i (Some v) tid p h, turns_is i (Some v) tid p h ∙ ap not apart, taken.1.1, read)

pub changed_refused : (o : ℕ) (i : Item) (v : VpsInForceValue) (tid : ℕ) (p : List ℕ) (fault : VpsFault) → IsVpsOf i (Some v) tid p → bytes_eq v.payload p ≡ false → ReadsNew o tid p (Err fault) → TakesVps o i (Err fault)
changed_refused o i v tid p fault h apart reads = new_err o i (Some v) tid p fault h (changed_new i v tid p h apart) reads
