-- What is said for a set that is lacking names the set that is asked for, and how many there are: at most its number, and at least
-- one, since each video parameter set that breaks no rule has set 0.
use Rattle.std.proofs.Common.{◌≡◌, ◌<◌, ℕ, Bool, true, false, cond, not, ◌&&◌, ◌||◌, List, [], ◌∷◌, ◌++◌, length, map, reverse, Option, None, Some, Result, Ok, Err, refl, ap, sym, subst, ◌∙◌, arith}
use Rattle.std.specs.Prelude.{nat_lt, option_map}
use Rattle.std.specs.List.{find, list_any}
use Rattle.std.specs.Option.{option_or}
use Rattle.std.proofs.lemmas.Bool.{ltb-false}
use Rattle.mv_syntax.specs.Bits.{Fault, breaks, byte_bits, short}
use Rattle.mv_syntax.specs.inner.PayloadReader.{read_payload}
use Rattle.mv_rules.specs.declared.rule.Rule.{Rule}
use Rattle.mv_units.specs.Escapes.{payload}
use Rattle.mv_units.specs.Head.{head}
use Rattle.mv_units.specs.Rules.{bad_head}
use Rattle.mv_units.specs.Units.{NalUnit}
use Rattle.mv_io.specs.Call.{Input, Output}
use Rattle.mv_judging.specs.declared.stop.Objection.{Objection}
use Rattle.mv_judging.specs.declared.stop.Stop.{Stop}
use Rattle.mv_judging.specs.Event.{seen}
use Rattle.mv_judging.specs.Format.{byte_stream}
use Rattle.mv_judging.proofs.Seen.{seen-why}
use Rattle.mv_vpsext.specs.Args.{VpsArgsValue}
use Rattle.mv_vpsext.specs.Derived.{all_ols}
use Rattle.mv_vpsext.specs.VpsExt.{VpsExtValue}
use Rattle.mv_vps.specs.Base.{args_of}
use Rattle.mv_vps.specs.Vps.{VpsValue, WholeVps, described, vps}
use Rattle.mv_pictures.specs.Carried.{carried_vps, whole_vps}
use Rattle.mv_pictures.specs.History.{history_of, judged, judgement}
use Rattle.mv_pictures.specs.Items.{Item, is_vps_head, item, items, turns, vps_behind}
use Rattle.mv_pictures.specs.Judged.{Judged}
use Rattle.mv_pictures.specs.Layers.{InForce, sets_at}
use Rattle.mv_pictures.specs.Facts.{Fact}
use Rattle.mv_pictures.specs.Look.{Look, asked, look}
use Rattle.mv_pictures.specs.PictureRules.{vps_mid_cvs}
use Rattle.mv_pictures.specs.Rules.{Case, case, cases, item_cases, least_rule, output_cases, picture_cases, set_cases, slice_cases}
use Rattle.mv_pictures.specs.UnitRules.{is_new_vps, no_vps, set_fails, set_is_cut, vps_rules, vps_tid}
use Rattle.mv_pictures.specs.Verdict.{bytes_of, lacking, no_picture, objection, pictures}
use Rattle.mv_commuting.specs.OneMore.{fact_behind}
use Rattle.mv_commuting.proofs.More.{history-more}
use Rattle.mv_walk_sets.specs.Cuts.{is_of}
use Rattle.mv_walk_sets.specs.Readings.{as_whole, vps_reading}
use Rattle.mv_walk_sets.proofs.ReadingLaws.{vps_tried}
use Rattle.mv_walk_laws.specs.Streams.{objected}
use Rattle.mv_extract.specs.declared.error.ExtractError.{ExtractError}
use Rattle.mv_extract.specs.declared.error.ExtractError.TheVariants.{Refused, NoSuchSet, Read, Write, TooLong, Memory}
use Rattle.mv_extract.specs.Answers.{Answers, Decide, LacksOnly, NamesSet}
use Rattle.mv_extract.specs.Text.{checking, extraction}
use Rattle.mv_extract.proofs.Accepted.{item-here, late-is}
use Rattle.mv_extract.proofs.Settled.{decided-why}

-- ---- Set 0 of a video parameter set
has_first : (args : VpsArgsValue) (ext : Option VpsExtValue) → 0 < length (described args ext).sets
unfolding all_ols
has_first args None = omega arith
has_first args (Some ext) = omega arith

reads_first : (x : Result (VpsValue × Option (List Bool)) Fault) (v : WholeVps) → as_whole x ≡ Ok v → 0 < length v.derived.sets
reads_first (Ok coded) v e = let same : whole_vps coded ≡ v = cc in subst (λ (w : WholeVps). 0 < length w.derived.sets) same (has_first (args_of coded.0.base) coded.0.extension)
reads_first (Err fault) v e = absurd (cc)

-- ---- Cases of which none holds
first_false : (c : Case) (cs : List Case) → find (λ (c : Case). c.holds) (c ∷ cs) ≡ None → (c.holds ≡ false) × (find (λ (c : Case). c.holds) cs ≡ None)
first_false c cs = go c.holds refl
  where
    go : (b : Bool) → c.holds ≡ b → cond b (Some c) (find (λ (c : Case). c.holds) cs) ≡ None → (c.holds ≡ false) × (find (λ (c : Case). c.holds) cs ≡ None)
    go true is e = absurd (cc)
    go false is e = (is, e)

front_false : (xs ys : List Case) → find (λ (c : Case). c.holds) (xs ++ ys) ≡ None → find (λ (c : Case). c.holds) xs ≡ None
front_false [] ys e = refl
front_false (x ∷ xs) ys e =
    let parts = first_false x (xs ++ ys) e in
    ap (λ b. cond b (Some x) (find (λ (c : Case). c.holds) xs)) parts.0 ∙ front_false xs ys parts.1

none_of_rules : (t : Rule → Bool) (rules : List Rule) → find (λ (c : Case). c.holds) (map (λ r. case r (t r)) rules) ≡ None → list_any t rules ≡ false
none_of_rules t [] e = refl
none_of_rules t (r ∷ rules) e =
    let parts = first_false (case r (t r)) (map (λ r. case r (t r)) rules) e in
    ap (λ b. b || list_any t rules) parts.0 ∙ none_of_rules t rules parts.1

-- ---- A video parameter set that breaks no rule of its own
by_cases : (bad fails above lack : Bool) (cut : Rule → Bool) (rules : List Rule) →
    find (λ (c : Case). c.holds) (case Rule.Head bad ∷ case Rule.VpsSyntax fails ∷ map (λ r. case r (cut r)) rules ++ case Rule.VpsTid above ∷ case Rule.NoVps lack ∷ []) ≡ None →
    (fails ≡ false) × (list_any cut rules ≡ false)
by_cases bad fails above lack cut rules e =
    let behind : List Case = case Rule.VpsTid above ∷ case Rule.NoVps lack ∷ [] in
    let first = first_false (case Rule.Head bad) (case Rule.VpsSyntax fails ∷ map (λ r. case r (cut r)) rules ++ behind) e in
    let second = first_false (case Rule.VpsSyntax fails) (map (λ r. case r (cut r)) rules ++ behind) first.1 in
    (second.0, none_of_rules cut rules (front_false (map (λ r. case r (cut r)) rules) behind second.1))

its_cases : (i : Item) (at : InForce) → is_new_vps i ≡ true → i.at ≡ at → find (λ (c : Case). c.holds) (item_cases i) ≡ None →
    (set_fails at ≡ false) × (list_any (λ r. set_is_cut r at) vps_rules ≡ false)
unfolding item_cases
its_cases i at is here e =
    let parts = by_cases (bad_head i.bytes) (is_new_vps i && set_fails i.at) (vps_tid i) (no_vps i) (λ r. is_new_vps i && set_is_cut r i.at) vps_rules e in (
      ap (λ b. b && set_fails at) (sym is) ∙ ap (λ x. is_new_vps i && set_fails x) (sym here) ∙ parts.0,
      ap (λ b. list_any (λ r. b && set_is_cut r at) vps_rules) (sym is) ∙ ap (λ x. list_any (λ r. is_new_vps i && set_is_cut r x) vps_rules) (sym here) ∙ parts.1,
    )

-- what a payload reads as, in force
abbrev carrying : ℕ → List ℕ → Result WholeVps Fault → InForce
carrying layer p x = Some (record { layer = layer; payload = p; reading = x })

by_reading : (layer : ℕ) (p : List ℕ) (y : Result (VpsValue × Option (List Bool)) Fault) (x : Result WholeVps Fault) → as_whole y ≡ x → ((r : ℕ) → x ≡ Err (breaks r) → is_of vps_rules r ≡ true) →
    set_fails (carrying layer p x) ≡ false → list_any (λ r. set_is_cut r (carrying layer p x)) vps_rules ≡ false → 0 < length (sets_at (carrying layer p x))
unfolding sets_at
by_reading layer p y (Ok v) is tried fine uncut = reads_first y v is
by_reading layer p y (Err short) is tried fine uncut = absurd (let wrong : true ≡ false = fine in cc)
by_reading layer p y (Err (breaks r)) is tried fine uncut = absurd (let wrong : true ≡ false = sym (tried r refl) ∙ uncut in cc)

in_force_is : (u : List ℕ) → Some (carried_vps (head u) u) ≡ carrying (head u).layer (payload u) (vps_reading (payload u))
unfolding carried_vps vps_reading
in_force_is u = refl

reading_of : (p : List ℕ) → as_whole (read_payload vps (byte_bits p)) ≡ vps_reading p
unfolding vps_reading
reading_of p = refl

-- a new one is a video parameter set, and is in force at itself
is_vps_of : (i : Item) → is_new_vps i ≡ true → is_vps_head i.head ≡ true
unfolding turns
is_vps_of i e = go (is_vps_head i.head) refl _ _ e
  where
    go : (b : Bool) → is_vps_head i.head ≡ b → (x y : Bool) → ((is_vps_head i.head && x) || (is_vps_head i.head && y)) ≡ true → is_vps_head i.head ≡ true
    go true is x y e = is
    go false is x y e = absurd (let wrong : false ≡ true = sym (ap (λ b. (b && x) || (b && y)) is) ∙ e in cc)

at_new : (past : List Item) (u : List ℕ) → is_vps_head (item past u).head ≡ true → (item past u).at ≡ Some (carried_vps (head u) u)
unfolding item
at_new past u is = ap (λ b. cond b (Some (carried_vps (head u) u)) (vps_behind past)) is

new_sets : (past : List Item) (u : List ℕ) → is_new_vps (item past u) ≡ true → find (λ (c : Case). c.holds) (item_cases (item past u)) ≡ None → 0 < length (sets_at (item past u).at)
new_sets past u is none =
    let p = payload u in
    let here : (item past u).at ≡ carrying (head u).layer p (vps_reading p) = at_new past u (is_vps_of (item past u) is) ∙ in_force_is u in
    let parts = its_cases (item past u) (carrying (head u).layer p (vps_reading p)) is here none in
    subst (λ at. 0 < length (sets_at at)) (sym here)
    (by_reading (head u).layer p (read_payload vps (byte_bits p)) (vps_reading p) (reading_of p) (vps_tried p) parts.0 parts.1)

-- ---- What is said against a unit

lacked : (o n : ℕ) (new : Bool) (why : Objection) → (cond (new && not (nat_lt o n)) (Some (Objection.NoSuchSet o n)) None) ≡ Some why → (new ≡ true → 0 < n) → NamesSet o why
lacked o n new why e some = go new refl (nat_lt o n) refl
  where
    go : (b : Bool) → new ≡ b → (low : Bool) → nat_lt o n ≡ low → NamesSet o why
    go false is low low_is = absurd (let wrong : None ≡ Some why = sym (ap (λ b. cond (b && not (nat_lt o n)) (Some (Objection.NoSuchSet o n)) None) is) ∙ e in cc)
    go true is true low_is = absurd (let wrong : None ≡ Some why = sym (ap (λ b. cond (b && not (nat_lt o n)) (Some (Objection.NoSuchSet o n)) None) is ∙ ap (λ b. cond (not b) (Some (Objection.NoSuchSet o n)) None) low_is) ∙ e in cc)
    go true is false low_is =
        let said : Some (Objection.NoSuchSet o n) ≡ Some why = sym (ap (λ b. cond (b && not (nat_lt o n)) (Some (Objection.NoSuchSet o n)) None) is ∙ ap (λ b. cond (not b) (Some (Objection.NoSuchSet o n)) None) low_is) ∙ e in
        let same : Objection.NoSuchSet o n ≡ why = cc in
        subst (NamesSet o) same (refl, ltb-false o n low_is, some is)

lacking_names : (o : ℕ) (past : List Item) (u : List ℕ) (why : Objection) → find (λ (c : Case). c.holds) (item_cases (item past u)) ≡ None → lacking o (item past u) ≡ Some why → NamesSet o why
unfolding lacking
lacking_names o past u why none e = lacked o (length (sets_at (item past u).at)) (is_new_vps (item past u)) why e (λ new. new_sets past u new none)

first_of_six : (a b c d e f : List Case) → find (λ (c : Case). c.holds) (((((a ++ b) ++ c) ++ d) ++ e) ++ f) ≡ None → find (λ (c : Case). c.holds) a ≡ None
first_of_six a b c d e f none =
    front_false a b (front_false (a ++ b) c (front_false ((a ++ b) ++ c) d (front_false (((a ++ b) ++ c) ++ d) e (front_false ((((a ++ b) ++ c) ++ d) ++ e) f none))))

unmapped : (o : Option Case) → option_map (λ (c : Case). c.rule) o ≡ None → o ≡ None
unmapped None e = refl
unmapped (Some c) e = absurd (cc)

item_none : (past : List Judged) (d : Judged) → least_rule past d ≡ None → find (λ (c : Case). c.holds) (item_cases d.fact.placed.item) ≡ None
unfolding least_rule cases
item_none past d e =
    let earlier : List Fact = map (λ (e : Judged). e.fact) past in
    let about : Look = look (asked past d.fact) d.fact in
    first_of_six (item_cases d.fact.placed.item) (set_cases d.fact) (slice_cases earlier d.fact) (picture_cases about d.fact) (output_cases past d)
    (case Rule.VpsMidCvs (vps_mid_cvs (map (λ (f : Fact). f.placed) earlier) about d.fact) ∷ [])
    (unmapped (find (λ (c : Case). c.holds) (cases past d)) e)

objection_of : (o : ℕ) (past : List Judged) (d : Judged) → objection o (d ∷ past) ≡ option_or (option_map Objection.Breaks (least_rule past d)) (lacking o d.fact.placed.item)
unfolding objection
objection_of o past d = refl

item_of : (past : List Judged) (us : List (List ℕ)) (u : List ℕ) → (judged past (fact_behind us u)).fact.placed.item ≡ item (items (reverse us)) u
unfolding judged judgement
item_of past us u = item-here us u

names : (o : ℕ) (us : List (List ℕ)) (u : List ℕ) (why : Objection) → objected o us u ≡ Some why → NamesSet o why
names o us u why e = go (least_rule (history_of us) d) refl (sym (ap (objection o) (history-more us u) ∙ objection_of o (history_of us) d) ∙ e)
  where
    d : Judged
    d = judged (history_of us) (fact_behind us u)

    here : d.fact.placed.item ≡ item (items (reverse us)) u
    here = item_of (history_of us) us u

    go : (r : Option Rule) → least_rule (history_of us) d ≡ r → option_or (option_map Objection.Breaks (least_rule (history_of us) d)) (lacking o d.fact.placed.item) ≡ Some why → NamesSet o why
    go None is said =
        lacking_names o (items (reverse us)) u why (ap (λ i. find (λ (c : Case). c.holds) (item_cases i)) (sym here) ∙ item_none (history_of us) d is)
        (ap (lacking o) (sym here) ∙ sym (ap (λ r. option_or (option_map Objection.Breaks r) (lacking o d.fact.placed.item)) is) ∙ said)
    go (Some rule) is said =
        let same : Some (Objection.Breaks rule) ≡ Some why = sym (ap (λ r. option_or (option_map Objection.Breaks r) (lacking o d.fact.placed.item)) is) ∙ said in
        let breaks_it : Objection.Breaks rule ≡ why = cc in
        subst (NamesSet o) breaks_it tt

ending_names : (o : ℕ) (us : List NalUnit) (why : Objection) → (pictures o).ending us ≡ Some why → NamesSet o why
unfolding pictures
ending_names o us why = go (no_picture (history_of (bytes_of us)))
  where
    go : (b : Bool) → cond b (Some (Objection.Breaks Rule.NoPicture)) None ≡ Some why → NamesSet o why
    go true e = let same : Objection.Breaks Rule.NoPicture ≡ why = cc in subst (NamesSet o) same tt
    go false e = absurd (cc)

-- what is seen of a byte string
names-set : (o : ℕ) (s : List ℕ) (stop : Stop) → seen byte_stream (pictures o) true s ≡ Some stop → NamesSet o stop.why
names-set o s stop e =
    seen-why byte_stream (pictures o) (NamesSet o) (λ rule. tt) (λ before (u : NalUnit) why said. names o (bytes_of before) u.bytes why (sym (late-is o before u) ∙ said)) (ending_names o) true s stop e

names_decided : (o : ℕ) (taken : List ℕ) (ended : Bool) (stop : Stop) → Decide byte_stream (pictures o) taken ended (Some stop) → NamesSet o stop.why
names_decided o = decided-why byte_stream (pictures o) (NamesSet o) (names-set o)

-- ---- What a call answers
pub lacks-only : {T : Type 0} (total : List NalUnit → T) (o limit : ℕ) (input : Input) (output : Output) (answer : Result T ExtractError) → Answers byte_stream (extraction o) total limit input output answer → LacksOnly o answer
lacks-only total o limit input output (Ok answer) run = tt
lacks-only total o limit input output (Err (Refused refusal)) run = tt
lacks-only total o limit input output (Err (NoSuchSet asked count)) run = subst (NamesSet o) run.1 (names_decided o run.2.taken run.2.ended run.0 run.2.decided)
lacks-only total o limit input output (Err Read) run = tt
lacks-only total o limit input output (Err Write) run = tt
lacks-only total o limit input output (Err TooLong) run = tt
lacks-only total o limit input output (Err Memory) run = tt

-- set 0 is never lacking
pub lacks-none : {T : Type 0} (total : List NalUnit → T) (limit : ℕ) (input : Input) (output : Output) (asked count : ℕ) → Answers byte_stream checking total limit input output (Err (NoSuchSet asked count)) → ⊥
lacks-none total limit input output asked count run = none (subst (NamesSet 0) run.1 (names_decided 0 run.2.taken run.2.ended run.0 run.2.decided))
  where
    none : NamesSet 0 (Objection.NoSuchSet asked count) → ⊥
    none names = omega (arith, names.1, names.2)

-- the same of the answer of a check, which asks for set 0
pub has-set : {T : Type 0} (total : List NalUnit → T) (limit : ℕ) (input : Input) (output : Output) (answer : Result T ExtractError) (asked count : ℕ) → Answers byte_stream checking total limit input output answer → answer ≡ Err (NoSuchSet asked count) → ⊥
has-set total limit input output answer asked count run is =
    lacks-none total limit input output asked count (subst (Answers byte_stream checking total limit input output) is run)
