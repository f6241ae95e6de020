-- The sequences of output pictures: their numbers, their reorder numbers, and which of them are of the latest one.
use Rattle.std.proofs.Common.{◌≡◌, ℕ, suc, ◌-◌, ◌<◌, ◌≤◌, Bool, true, false, cond, ◌&&◌, ◌||◌, All, List, [], ◌∷◌, filter, length, Option, Some, None, refl, sym, ap, ap₂, ◌∙◌, subst, arith}
use Rattle.std.specs.Prelude.{nat_eq, option_and_then, option_map, slice_get}
use Rattle.std.specs.List.{find}
use Rattle.std.proofs.lemmas.Bool.{and_parts, and_right, cond-true}
use Rattle.std.proofs.lemmas.List.Elements.{All-cons, All-head, All-nil, All-tail, All-weaker}
use Rattle.std.proofs.lemmas.Option.{slice_get_within}
use Rattle.mv_syntax.specs.Words.{◌otherwise◌}
use Rattle.mv_layers.specs.Derived.{OlsValue}
use Rattle.mv_layers.specs.OutputLayers.{is_among}
use Rattle.mv_history.specs.History.{Throughout, from}
use Rattle.mv_sps.specs.Sps.{SpsValue}
use Rattle.mv_pictures.specs.Carried.{Carried}
use Rattle.mv_pictures.specs.Facts.{Fact}
use Rattle.mv_pictures.specs.History.{judged, judgement}
use Rattle.mv_pictures.specs.Judged.{Judged, begins, is_base, is_picture, is_slice, layer, vps_at}
use Rattle.mv_pictures.specs.Layers.{InForce, set_at, sets_at}
use Rattle.mv_pictures.specs.Look.{Look, asked, look}
use Rattle.mv_pictures.specs.Output.{is_output, outputs, reorder, sps_reorder}
use Rattle.mv_pictures.specs.SliceFields.{is_put_out}
use Rattle.mv_pictures.specs.Starts.{is_anew, is_idr_or_bla, is_sequence_start, sequence_number, sequence_sps, sequence_vps}
use Rattle.mv_commuting.proofs.Closures.{find_all}
use Rattle.mv_walk_order.proofs.OrderLaws.{decoded-slice, picture-slice}
use Rattle.mv_walk_values.specs.InTime.{latest_outputs, latest_reorder}
use Rattle.mv_walk_values.specs.Showing.{latest_sequence}

-- each unit is judged by those before it
abbrev pub IsHistory : List Judged → Type 0
IsHistory = Throughout (λ before (d : Judged). d ≡ judged before d.fact)

-- how many sequences were started
abbrev pub started : List Judged → ℕ
started past = length (filter begins past)

-- ---- What a unit is judged to

starts_base : (l : Look) (p : Fact) → is_sequence_start l p ≡ true → (nat_eq (layer p) 0 ≡ true) × (is_picture p ≡ true)
unfolding is_sequence_start
starts_base l p h = and_parts (nat_eq (layer p) 0) (is_picture p) (and_parts (is_base p) (is_idr_or_bla p || is_anew l) h).0

judged_begins : (past : List Judged) (p : Fact) → begins (judged past p) ≡ (judged past p).seq
unfolding judged judgement
judged_begins past p = go (is_sequence_start (look (asked past p) p) p) refl
  where
    go : (b : Bool) → is_sequence_start (look (asked past p) p) p ≡ b → (nat_eq (layer p) 0 && b) ≡ b
    go true e = ap (λ a. a && true) (starts_base (look (asked past p) p) p e).0
    go false e = and_right (nat_eq (layer p) 0) false refl

start_slice : (past : List Judged) (p : Fact) → (judged past p).seq ≡ true → is_slice p ≡ true
unfolding judged judgement
start_slice past p h = picture-slice p (starts_base (look (asked past p) p) p h).1

-- the number and the sets of the sequence of a slice segment
record IsNumbered (past : List Judged) (d : Judged) : Type 0 where
  pub number : d.sequence ≡ cond d.seq (started past) (started past - 1)
  pub vps : d.seq_vps ≡ cond d.seq (vps_at d.fact) (option_and_then (λ (r : Judged). vps_at r.fact) (find begins past))
  pub sps : d.seq_sps ≡ cond d.seq d.fact.sets.sps (option_and_then (λ (r : Judged). r.fact.sets.sps) (find begins past))

slice_asks : (past : List Judged) (p : Fact) → is_slice p ≡ true → asked past p ≡ past
unfolding asked
slice_asks past p h = cond-true (is_slice p) past [] h

judged_numbered : (past : List Judged) (p : Fact) → is_slice p ≡ true → IsNumbered past (judged past p)
unfolding judged judgement sequence_number sequence_vps sequence_sps look
judged_numbered past p slice =
    record {
      number = ap (λ ds. cond (is_sequence_start (look (asked past p) p) p) (length (filter begins ds)) (length (filter begins ds) - 1)) (slice_asks past p slice);
      vps = ap (λ ds. cond (is_sequence_start (look (asked past p) p) p) (vps_at p) (option_and_then (λ (r : Judged). vps_at r.fact) (find begins ds))) (slice_asks past p slice);
      sps = ap (λ ds. cond (is_sequence_start (look (asked past p) p) p) p.sets.sps (option_and_then (λ (r : Judged). r.fact.sets.sps) (find begins ds))) (slice_asks past p slice);
    }

numbered : (past : List Judged) (d : Judged) → d ≡ judged past d.fact → is_slice d.fact ≡ true → IsNumbered past d
numbered past d is slice = subst (IsNumbered past) (sym is) (judged_numbered past d.fact slice)

pub begins_seq : (past : List Judged) (d : Judged) → d ≡ judged past d.fact → begins d ≡ d.seq
begins_seq past d is = subst (λ (e : Judged). begins e ≡ e.seq) (sym is) (judged_begins past d.fact)

-- ---- Output pictures

pub output_decoded : (o : ℕ) (d : Judged) → is_output o d ≡ true → d.decoded ≡ true
unfolding is_output
output_decoded o d h = (and_parts d.decoded (is_among (outputs d.seq_vps o) (layer d.fact)) (and_parts (d.decoded && is_among (outputs d.seq_vps o) (layer d.fact)) (is_put_out d.fact) h).0).0

output_slice : (past : List Judged) (o : ℕ) (d : Judged) → d ≡ judged past d.fact → is_output o d ≡ true → is_slice d.fact ≡ true
output_slice past o d is out = decoded-slice past d.fact (ap (λ (e : Judged). e.decoded) (sym is) ∙ output_decoded o d out)

-- it is of a sequence whose video parameter set has set o
among_within : (at : InForce) (o n : ℕ) → is_among (outputs at o) n ≡ true → o < length (sets_at at)
unfolding outputs set_at
among_within at o n h = go (slice_get (sets_at at) o) refl h
  where
    go : (s : Option OlsValue) → slice_get (sets_at at) o ≡ s → is_among (option_map (λ (s : OlsValue). s.outputs) s otherwise []) n ≡ true → o < length (sets_at at)
    go None is h = absurd (let wrong : false ≡ true = h in cc)
    go (Some s) is h = slice_get_within (sets_at at) o s is

pub output_within : (o : ℕ) (d : Judged) → is_output o d ≡ true → o < length (sets_at d.seq_vps)
unfolding is_output
output_within o d h =
    among_within d.seq_vps o (layer d.fact)
    (and_parts d.decoded (is_among (outputs d.seq_vps o) (layer d.fact)) (and_parts (d.decoded && is_among (outputs d.seq_vps o) (layer d.fact)) (is_put_out d.fact) h).0).1

no_sets : length (sets_at None) ≡ 0
unfolding sets_at
no_sets = refl

output_seated : (o : ℕ) (d : Judged) → is_output o d ≡ true → d.seq_vps ≡ None → ⊥
output_seated o d h none =
    let within : o < length (sets_at None) = subst (λ at. o < length (sets_at at)) none (output_within o d h) in
    omega (arith, within, no_sets)

found_some : {A : Type 0} (test : A → Bool) (xs : List A) (x : A) → find test xs ≡ Some x → 0 < length (filter test xs)
found_some test [] x h = absurd cc
found_some {A} test (y ∷ ys) x h = go (test y) h (found_some test ys x)
  where
    go : (b : Bool) → cond b (Some y) (find test ys) ≡ Some x → (find test ys ≡ Some x → 0 < length (filter test ys)) → 0 < length (cond b (y ∷ filter test ys) (filter test ys))
    go true h rest = omega arith
    go false h rest = rest h

-- its sequence is the latest one that was started
pub latest_started : (o : ℕ) (e : Judged) (past : List Judged) → e ≡ judged past e.fact → is_output o e ≡ true → (e.sequence ≡ started (e ∷ past) - 1) × (0 < started (e ∷ past))
latest_started o e past is out = go e.seq (begins_seq past e is) known.number known.vps
  where
    known : IsNumbered past e
    known = numbered past e is (output_slice past o e is out)

    some : (r : Option Judged) → find begins past ≡ r → e.seq_vps ≡ option_and_then (λ (r : Judged). vps_at r.fact) r → 0 < started past
    some None found is = absurd (output_seated o e out is)
    some (Some r) found is = found_some begins past r found

    go : (b : Bool) → begins e ≡ b → e.sequence ≡ cond b (started past) (started past - 1) → e.seq_vps ≡ cond b (vps_at e.fact) (option_and_then (λ (r : Judged). vps_at r.fact) (find begins past)) →
        (e.sequence ≡ length (cond (begins e) (e ∷ filter begins past) (filter begins past)) - 1) × (0 < length (cond (begins e) (e ∷ filter begins past) (filter begins past)))
    go true begun number vps =
        subst (λ b. (e.sequence ≡ length (cond b (e ∷ filter begins past) (filter begins past)) - 1) × (0 < length (cond b (e ∷ filter begins past) (filter begins past)))) (sym begun)
        (number ∙ (let same : started past ≡ suc (started past) - 1 = omega arith in same), (let low : 0 < suc (started past) = omega arith in low))
    go false begun number vps =
        subst (λ b. (e.sequence ≡ length (cond b (e ∷ filter begins past) (filter begins past)) - 1) × (0 < length (cond b (e ∷ filter begins past) (filter begins past)))) (sym begun)
        (number, some (find begins past) refl vps)

pub started_more : (e : Judged) (past : List Judged) → started past ≤ started (e ∷ past)
started_more e past = go (begins e)
  where
    go : (b : Bool) → started past ≤ length (cond b (e ∷ filter begins past) (filter begins past))
    go true = omega arith
    go false = omega arith

-- no output picture is of a sequence that wasn't started
pub below_started : (o : ℕ) (past : List Judged) → IsHistory past → All (λ (d : Judged). is_output o d ≡ true → d.sequence < started past) past
below_started o [] history = All-nil (λ (d : Judged). is_output o d ≡ true → d.sequence < started [])
below_started o (e ∷ past) history =
    All-cons (λ (d : Judged). is_output o d ≡ true → d.sequence < started (e ∷ past)) e past now
    (All-weaker (λ (d : Judged). is_output o d ≡ true → d.sequence < started past) (λ (d : Judged). is_output o d ≡ true → d.sequence < started (e ∷ past)) (λ d low out. let low : d.sequence < started past = low out in let more : started past ≤ started (e ∷ past) = started_more e past in omega (arith, low, more))
    past (below_started o past history.1))
  where
    now : is_output o e ≡ true → e.sequence < started (e ∷ past)
    now out =
        let last = latest_started o e past history.0 out in
        let is : e.sequence ≡ started (e ∷ past) - 1 = last.0 in
        let some : 0 < started (e ∷ past) = last.1 in
        omega (arith, is, some)

-- ---- Those of the latest sequence

-- what holds of the units of the latest sequence holds of its output pictures
pub of_latest : (Q : Judged → Type 0) (o : ℕ) (past : List Judged) → IsHistory past → All Q (from begins past) → All (λ (d : Judged). is_output o d ≡ true → d.sequence ≡ latest_sequence past → Q d) past
unfolding from
of_latest Q o [] history all = All-nil (λ (d : Judged). is_output o d ≡ true → d.sequence ≡ latest_sequence [] → Q d)
of_latest Q o (e ∷ past) history all = go (begins e) refl all (of_latest Q o past history.1)
  where
    HasIt : ℕ → Judged → Type 0
    HasIt n d = is_output o d ≡ true → d.sequence ≡ n → Q d

    go : (b : Bool) → begins e ≡ b → All Q (cond b (e ∷ []) (e ∷ from begins past)) → (All Q (from begins past) → All (λ (d : Judged). is_output o d ≡ true → d.sequence ≡ latest_sequence past → Q d) past) →
        All (HasIt (length (cond (begins e) (e ∷ filter begins past) (filter begins past)) - 1)) (e ∷ past)
    go true begun all rest =
        All-cons (HasIt (started (e ∷ past) - 1)) e past (λ out same. All-head Q e [] all)
        (All-weaker (λ (d : Judged). is_output o d ≡ true → d.sequence < started past) (HasIt (started (e ∷ past) - 1))
        (λ d low out same.
        let less : d.sequence < started past = low out in
        let here : d.sequence ≡ started (e ∷ past) - 1 = same in
        let more : started (e ∷ past) ≡ suc (started past) = ap (λ b. length (cond b (e ∷ filter begins past) (filter begins past))) begun in
        absurd (omega (arith, less, here, more)))
        past (below_started o past history.1))
    go false begun all rest =
        All-cons (HasIt (started (e ∷ past) - 1)) e past (λ out same. All-head Q e (from begins past) all)
        (subst (λ n. All (HasIt (n - 1)) past) (sym (ap (λ b. length (cond b (e ∷ filter begins past) (filter begins past))) begun)) (rest (All-tail Q e (from begins past) all)))

-- ---- Reorder numbers

reorder_by : (o : ℕ) (d r : Judged) → d.seq_vps ≡ r.seq_vps → d.seq_sps ≡ r.seq_sps → reorder o d ≡ reorder o r
unfolding reorder
reorder_by o d r vps sps = ap₂ (λ (at : InForce) (s : Option (Carried SpsValue)). option_and_then (λ (s : OlsValue). s.reorder) (set_at at o) otherwise sps_reorder s) vps sps

-- a base picture that starts a sequence has the sets of the sequence
start_sets : (past : List Judged) → IsHistory past → All (λ (r : Judged). begins r ≡ true → (r.seq_vps ≡ vps_at r.fact) × (r.seq_sps ≡ r.fact.sets.sps)) past
start_sets [] history = All-nil (λ (r : Judged). begins r ≡ true → (r.seq_vps ≡ vps_at r.fact) × (r.seq_sps ≡ r.fact.sets.sps))
start_sets (e ∷ past) history = All-cons (λ (r : Judged). begins r ≡ true → (r.seq_vps ≡ vps_at r.fact) × (r.seq_sps ≡ r.fact.sets.sps)) e past now (start_sets past history.1)
  where
    now : begins e ≡ true → (e.seq_vps ≡ vps_at e.fact) × (e.seq_sps ≡ e.fact.sets.sps)
    now begun =
        let seq : e.seq ≡ true = sym (begins_seq past e history.0) ∙ begun in
        let known : IsNumbered past e = numbered past e history.0 (start_slice past e.fact (ap (λ (d : Judged). d.seq) (sym history.0) ∙ seq)) in (
          known.vps ∙ ap (λ b. cond b (vps_at e.fact) (option_and_then (λ (r : Judged). vps_at r.fact) (find begins past))) seq,
          known.sps ∙ ap (λ b. cond b e.fact.sets.sps (option_and_then (λ (r : Judged). r.fact.sets.sps) (find begins past))) seq,
        )

-- what the sets of a sequence tell of it is told of its output pictures as of the base picture that starts it
module _ {A : Type 0} (f : Judged → A) (none : A) (by_sets : (d r : Judged) → d.seq_vps ≡ r.seq_vps → d.seq_sps ≡ r.seq_sps → f d ≡ f r) where
  abbrev of_root : Option Judged → A
  of_root r = option_map f r otherwise none

  told_from : (o : ℕ) (past : List Judged) → IsHistory past → All (λ (d : Judged). is_output o d ≡ true → f d ≡ of_root (find begins past)) (from begins past)
  unfolding from
  told_from o [] history = All-nil (λ (d : Judged). is_output o d ≡ true → f d ≡ none)
  told_from o (e ∷ past) history = go (begins e) refl (told_from o past history.1)
    where
      HasIt : Option Judged → Judged → Type 0
      HasIt r d = is_output o d ≡ true → f d ≡ of_root r

      now : begins e ≡ false → (r : Option Judged) → find begins past ≡ r → HasIt r e
      now other r found out =
          at r found (known.vps ∙ ap (λ b. cond b (vps_at e.fact) (option_and_then (λ (r : Judged). vps_at r.fact) (find begins past))) seq ∙ ap (option_and_then (λ (r : Judged). vps_at r.fact)) found)
          (known.sps ∙ ap (λ b. cond b e.fact.sets.sps (option_and_then (λ (r : Judged). r.fact.sets.sps) (find begins past))) seq ∙ ap (option_and_then (λ (r : Judged). r.fact.sets.sps)) found)
        where
          seq : e.seq ≡ false
          seq = sym (begins_seq past e history.0) ∙ other

          known : IsNumbered past e
          known = numbered past e history.0 (output_slice past o e history.0 out)

          at : (r : Option Judged) → find begins past ≡ r → e.seq_vps ≡ option_and_then (λ (r : Judged). vps_at r.fact) r → e.seq_sps ≡ option_and_then (λ (r : Judged). r.fact.sets.sps) r → f e ≡ of_root r
          at None found vps sps = absurd (output_seated o e out vps)
          at (Some r) found vps sps =
              let root = find_all (λ (r : Judged). begins r ≡ true → (r.seq_vps ≡ vps_at r.fact) × (r.seq_sps ≡ r.fact.sets.sps)) begins past r (start_sets past history.1) found in
              let sets : (r.seq_vps ≡ vps_at r.fact) × (r.seq_sps ≡ r.fact.sets.sps) = root.0 root.1 in
              by_sets e r (vps ∙ sym sets.0) (sps ∙ sym sets.1)

      go : (b : Bool) → begins e ≡ b → All (λ (d : Judged). is_output o d ≡ true → f d ≡ of_root (find begins past)) (from begins past) →
          All (HasIt (cond (begins e) (Some e) (find begins past))) (cond b (e ∷ []) (e ∷ from begins past))
      go true begun rest =
          subst (λ b. All (HasIt (cond b (Some e) (find begins past))) (e ∷ [])) (sym begun)
          (All-cons (HasIt (Some e)) e [] (λ out. refl) (All-nil (HasIt (Some e))))
      go false begun rest =
          subst (λ b. All (HasIt (cond b (Some e) (find begins past))) (e ∷ from begins past)) (sym begun)
          (All-cons (HasIt (find begins past)) e (from begins past) (now begun (find begins past) refl) rest)

  latest_told : (o : ℕ) (past : List Judged) → IsHistory past → All (λ (d : Judged). is_output o d ≡ true → d.sequence ≡ latest_sequence past → f d ≡ of_root (find begins past)) past
  latest_told o past history =
      All-weaker (λ (d : Judged). is_output o d ≡ true → d.sequence ≡ latest_sequence past → is_output o d ≡ true → f d ≡ of_root (find begins past)) (λ (d : Judged). is_output o d ≡ true → d.sequence ≡ latest_sequence past → f d ≡ of_root (find begins past))
      (λ d is out same. is out same out) past (of_latest (λ (d : Judged). is_output o d ≡ true → f d ≡ of_root (find begins past)) o past history (told_from o past history))

-- the output pictures of the latest sequence have its reorder number and its output layers
pub latest_reorders : (o : ℕ) (past : List Judged) → IsHistory past → All (λ (d : Judged). is_output o d ≡ true → d.sequence ≡ latest_sequence past → reorder o d ≡ latest_reorder o past) past
latest_reorders o past history = latest_told (reorder o) 0 (reorder_by o) o past history

pub latest_layers : (o : ℕ) (past : List Judged) → IsHistory past → All (λ (d : Judged). is_output o d ≡ true → d.sequence ≡ latest_sequence past → outputs d.seq_vps o ≡ latest_outputs o past) past
latest_layers o past history = latest_told (λ (d : Judged). outputs d.seq_vps o) [] (λ d r vps sps. ap (λ at. outputs at o) vps) o past history

-- an output picture is of an output layer of its sequence
pub output_layer : (o : ℕ) (d : Judged) → is_output o d ≡ true → is_among (outputs d.seq_vps o) (layer d.fact) ≡ true
unfolding is_output
output_layer o d h = (and_parts d.decoded (is_among (outputs d.seq_vps o) (layer d.fact)) (and_parts (d.decoded && is_among (outputs d.seq_vps o) (layer d.fact)) (is_put_out d.fact) h).0).1
