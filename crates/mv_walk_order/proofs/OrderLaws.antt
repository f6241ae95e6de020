-- What is kept of output layer sets stands for a history: behind a sequence's start, and behind a picture.
use Rattle.std.proofs.Common.{◌≡◌, ℕ, zero, suc, ◌+◌, ◌-◌, ◌<◌, ◌≤◌, Bool, true, false, cond, not, ◌&&◌, ◌||◌, List, [], ◌∷◌, filter, length, map, replicate, Option, Some, None, refl, ap, sym, ◌∙◌, subst, arith}
use Rattle.std.specs.Prelude.{ℤ, pos, All, nat_eq, nat_lt, int_lt, option_map, option_and_then, slice_get, is_ok}
use Rattle.std.specs.List.{find, last_or, range_with_len}
use Rattle.std.proofs.lemmas.Bool.{and_left, and_parts, and_right, cond-true, ltb-false}
use Rattle.std.proofs.lemmas.List.{length-map, length-replicate}
use Rattle.std.proofs.lemmas.List.Elements.{All-nil, All-cons, All-head, All-tail}
use Rattle.mv_syntax.specs.Words.{◌otherwise◌}
use Rattle.mv_history.specs.History.{from}
use Rattle.mv_history.specs.Order.{waits}
use Rattle.mv_history.proofs.Instances.{tops-above}
use Rattle.mv_common.specs.declared.sub_layer_ordering.SubLayer.{SubLayer}
use Rattle.mv_common.specs.SubLayerOrdering.{SubLayerOrderingValue}
use Rattle.mv_dpb.specs.declared.set_order.Counted.{Counted}
use Rattle.mv_dpb.specs.OrderValue.{OrderValue}
use Rattle.mv_dpb.specs.SetOrder.{begun, comes_late, order_after, order_of, with_unit}
use Rattle.mv_layers.specs.Derived.{OlsValue}
use Rattle.mv_layers.specs.OutputLayers.{is_among}
use Rattle.mv_sps.specs.Sps.{SpsValue}
use Rattle.mv_vps.specs.Vps.{WholeVps}
use Rattle.mv_pictures.specs.Carried.{Carried, value_of}
use Rattle.mv_pictures.specs.Layers.{InForce, set_at, sets_at}
use Rattle.mv_pictures.specs.Facts.{Fact}
use Rattle.mv_pictures.specs.History.{judged, judgement}
use Rattle.mv_pictures.specs.Items as items
use Rattle.mv_pictures.specs.Judged.{Judged, au, begins, is_base, is_picture, is_slice, layer, vps_at}
use Rattle.mv_pictures.specs.Look.{Look, asked, look, sequence}
use Rattle.mv_pictures.specs.SliceFields.{is_put_out}
use Rattle.mv_pictures.specs.Starts.{is_anew, is_decoded, is_idr_or_bla, is_sequence_start, is_skipped, sequence_sps, sequence_vps}
use Rattle.mv_pictures.specs.Output.{count_of, distinct, is_ahead, is_late, is_output, outputs, reorder, sequence_before, sps_reorder, units_ahead}
use Rattle.mv_walk_order.specs.OrderValues.{OrdersValue, SetValue}
use Rattle.mv_walk_order.specs.OrderSteps.{begun_upto, begun_with, counted_upto, counted_with, is_late_in, last_reorder, late_set, puts_out, refusal, reorder_in, set_of, set_value}
use Rattle.mv_walk_order.specs.Orders.{AreSteady, Holds, IsBegun, IsShown, IsSteady, Stands, StandsBefore, answer, each_once, output_units, root, sets_of, unit_of}
use Rattle.mv_walk_order.proofs.StepLaws.{begun-below, length-begun, length-upto, upto-below}
use Rattle.mv_walk_order.proofs.UnitLaws.{Fall, IsBehind, above, above-once, aus, once-more}

-- ---- The last sub-layer

last-from : (x : SubLayer) (xs : List SubLayer) → last_or (Some x) xs ≡ slice_get (x ∷ xs) (length xs)
last-from x [] = refl
last-from x (y ∷ ys) = last-from y ys

pub last-is : (xs : List SubLayer) → last_or None xs ≡ slice_get xs (length xs - 1)
last-is [] = refl
last-is (x ∷ xs) = last-from x xs ∙ ap (slice_get (x ∷ xs)) (let less : length xs ≡ suc (length xs) - 1 = omega arith in less)

-- ---- A set

set-outputs : (n : ℕ) (sets : List OlsValue) (o : ℕ) → (set_of (map (set_value n) sets) o).outputs ≡ (option_map (λ (s : OlsValue). s.outputs) (slice_get sets o) otherwise [])
set-outputs n [] o = refl
set-outputs n (s ∷ sets) zero = refl
set-outputs n (s ∷ sets) (suc o) = set-outputs n sets o

set-reorder : (n : ℕ) (sets : List OlsValue) (o : ℕ) → o < length (map (set_value n) sets) → (set_of (map (set_value n) sets) o).reorder ≡ (option_and_then (λ (s : OlsValue). s.reorder) (slice_get sets o) otherwise n)
set-reorder n [] o lt = absurd (omega (arith, lt))
set-reorder n (s ∷ sets) zero lt = refl
set-reorder n (s ∷ sets) (suc o) lt = set-reorder n sets o (omega (arith, lt))

-- what is kept of a set is what the picture's sequence says of it
pub outputs-are : (sets : List SetValue) (d : Judged) → sets ≡ sets_of d.seq_vps d.seq_sps → (o : ℕ) → (set_of sets o).outputs ≡ outputs d.seq_vps o
unfolding outputs set_at
outputs-are sets d are o = ap (λ sets. (set_of sets o).outputs) are ∙ set-outputs (sps_reorder d.seq_sps) (sets_at d.seq_vps) o

pub reorder-is : (sets : List SetValue) (d : Judged) → sets ≡ sets_of d.seq_vps d.seq_sps → (o : ℕ) → o < length sets → (set_of sets o).reorder ≡ reorder o d
unfolding reorder set_at
reorder-is sets d are o lt =
    ap (λ sets. (set_of sets o).reorder) are
    ∙ set-reorder (sps_reorder d.seq_sps) (sets_at d.seq_vps) o (subst (λ sets. o < length sets) are lt)

-- ---- Steady units

all-from : (P : Judged → Type 0) (test : Judged → Bool) (xs : List Judged) → All P xs → All P (from test xs)
unfolding from
all-from P test [] h = All-nil P
all-from P test (x ∷ xs) h = go (test x) (All-head P x xs h) (all-from P test xs (All-tail P x xs h))
  where
    go : (b : Bool) → P x → All P (from test xs) → All P (cond b (x ∷ []) (x ∷ from test xs))
    go true now rest = All-cons P x [] now (All-nil P)
    go false now rest = All-cons P x (from test xs) now rest

same_count : Judged → Judged → Type 0
same_count d e = e.decoded ≡ true → au e.fact ≡ au d.fact → count_of e ≡ count_of d

steady-some : (d : Judged) (test : Judged → Bool) (past : List Judged) → IsSteady past d → IsSteady (from test past) d
steady-some d test past h = record {
  rises = all-from (λ (e : Judged). au e.fact ≤ au d.fact) test past h.rises;
  one_count = λ decoded. all-from (λ (e : Judged). e.decoded ≡ true → au e.fact ≡ au d.fact → count_of e ≡ count_of d) test past (h.one_count decoded);
}

steady-none : (d : Judged) → IsSteady [] d
steady-none d = record {
  rises = All-nil (λ (e : Judged). au e.fact ≤ au d.fact);
  one_count = λ decoded. All-nil (λ (e : Judged). e.decoded ≡ true → au e.fact ≡ au d.fact → count_of e ≡ count_of d);
}

steady-from : (test : Judged → Bool) (past : List Judged) → AreSteady past → AreSteady (from test past)
unfolding from
steady-from test [] h = tt
steady-from test (d ∷ past) h = go (test d) (steady-from test past h.1)
  where
    go : (b : Bool) → AreSteady (from test past) → AreSteady (cond b (d ∷ []) (d ∷ from test past))
    go true rest = (steady-none d, tt)
    go false rest = (steady-some d test past h.0, rest)

-- the units of a picture's sequence before it are steady, and so is it behind them
steady-before : (past : List Judged) (d : Judged) → AreSteady (d ∷ past) → IsSteady (sequence_before past d) d × AreSteady (sequence_before past d)
unfolding sequence_before sequence
steady-before past d h = go d.seq
  where
    go : (b : Bool) → IsSteady (cond b [] (from begins past)) d × AreSteady (cond b [] (from begins past))
    go true = (steady-none d, tt)
    go false = (steady-some d begins past h.0, steady-from begins past h.1)

output_decoded : (o : ℕ) (d : Judged) → is_output o d ≡ true → d.decoded ≡ true
unfolding is_output
output_decoded o d h = go d.decoded (is_among (outputs d.seq_vps o) (layer d.fact)) (is_put_out d.fact) h
  where
    go : (a b c : Bool) → (a && b && c) ≡ true → a ≡ true
    go true b c h = refl
    go false true true h = h
    go false true false h = h
    go false false true h = h
    go false false false h = h

abbrev units_in : ℕ → List Judged → List Counted
units_in o pictures = map unit_of (filter (is_output o) pictures)

behind-units : (o : ℕ) (d : Judged) (es : List Judged) → All (λ (e : Judged). au e.fact ≤ au d.fact) es → All (λ (e : Judged). e.decoded ≡ true → au e.fact ≡ au d.fact → count_of e ≡ count_of d) es →
    IsBehind (unit_of d) (units_in o es)
behind-units o d [] rises counts = All-nil (λ (u : Counted). (u.au ≤ au d.fact) × (u.au ≡ au d.fact → u.count ≡ count_of d))
behind-units o d (e ∷ es) rises counts =
    go (is_output o e) refl (All-head (λ (e : Judged). au e.fact ≤ au d.fact) e es rises) (All-head (λ (e : Judged). e.decoded ≡ true → au e.fact ≡ au d.fact → count_of e ≡ count_of d) e es counts)
    (behind-units o d es (All-tail (λ (e : Judged). au e.fact ≤ au d.fact) e es rises) (All-tail (λ (e : Judged). e.decoded ≡ true → au e.fact ≡ au d.fact → count_of e ≡ count_of d) e es counts))
  where
    go : (b : Bool) → is_output o e ≡ b → au e.fact ≤ au d.fact → (e.decoded ≡ true → au e.fact ≡ au d.fact → count_of e ≡ count_of d) → IsBehind (unit_of d) (units_in o es) →
        IsBehind (unit_of d) (map unit_of (cond b (e ∷ filter (is_output o) es) (filter (is_output o) es)))
    go true is le same rest =
        All-cons (λ (u : Counted). (u.au ≤ au d.fact) × (u.au ≡ au d.fact → u.count ≡ count_of d)) (unit_of e) (units_in o es) (le, same (output_decoded o e is)) rest
    go false is le same rest = rest

fall-units : (o : ℕ) (es : List Judged) → AreSteady es → Fall (units_in o es)
fall-units o [] h = tt
fall-units o (e ∷ es) h = go (is_output o e) refl (fall-units o es h.1)
  where
    go : (b : Bool) → is_output o e ≡ b → Fall (units_in o es) → Fall (map unit_of (cond b (e ∷ filter (is_output o) es) (filter (is_output o) es)))
    go true is rest = (behind-units o e es h.0.rises (h.0.one_count (output_decoded o e is)), rest)
    go false is rest = rest

-- ---- What is late

int_lt-same : (c : ℤ) → int_lt c c ≡ false
int_lt-same c = grind arith

-- an access unit with an output picture of a greater count is an earlier one
ahead-units : (o : ℕ) (d : Judged) (es : List Judged) → All (λ (e : Judged). au e.fact ≤ au d.fact) es → All (λ (e : Judged). e.decoded ≡ true → au e.fact ≡ au d.fact → count_of e ≡ count_of d) es →
    map (λ (e : Judged). au e.fact) (filter (is_ahead o d) es) ≡ aus (filter (above (count_of d)) (units_in o es))
ahead-units o d [] rises counts = refl
ahead-units o d (e ∷ es) rises counts =
    go (is_output o e) refl (int_lt (count_of d) (count_of e)) refl (nat_lt (au e.fact) (au d.fact)) refl
    (All-head (λ (e : Judged). au e.fact ≤ au d.fact) e es rises) (All-head (λ (e : Judged). e.decoded ≡ true → au e.fact ≡ au d.fact → count_of e ≡ count_of d) e es counts)
    (ahead-units o d es (All-tail (λ (e : Judged). au e.fact ≤ au d.fact) e es rises) (All-tail (λ (e : Judged). e.decoded ≡ true → au e.fact ≡ au d.fact → count_of e ≡ count_of d) e es counts))
  where
    go : (a : Bool) → is_output o e ≡ a → (k : Bool) → int_lt (count_of d) (count_of e) ≡ k → (l : Bool) → nat_lt (au e.fact) (au d.fact) ≡ l →
        au e.fact ≤ au d.fact → (e.decoded ≡ true → au e.fact ≡ au d.fact → count_of e ≡ count_of d) →
        map (λ (e : Judged). au e.fact) (filter (is_ahead o d) es) ≡ aus (filter (above (count_of d)) (units_in o es)) →
        map (λ (e : Judged). au e.fact) (cond (a && l && k) (e ∷ filter (is_ahead o d) es) (filter (is_ahead o d) es))
        ≡ aus (filter (above (count_of d)) (map unit_of (cond a (e ∷ filter (is_output o) es) (filter (is_output o) es))))
    go false is true ks true ls le same rest = rest
    go false is true ks false ls le same rest = rest
    go false is false ks true ls le same rest = rest
    go false is false ks false ls le same rest = rest
    go true is true ks true ls le same rest =
        ap (λ ns. au e.fact ∷ ns) rest ∙ sym (ap (λ b. aus (cond b (unit_of e ∷ filter (above (count_of d)) (units_in o es)) (filter (above (count_of d)) (units_in o es)))) ks)
    go true is true ks false ls le same rest =
        let far : au d.fact ≤ au e.fact = ltb-false (au e.fact) (au d.fact) ls in
        let here : au e.fact ≡ au d.fact = omega (arith, far, le) in
        absurd (let wrong : true ≡ false = sym ks ∙ ap (int_lt (count_of d)) (same (output_decoded o e is) here) ∙ int_lt-same (count_of d) in cc)
    go true is false ks true ls le same rest =
        rest ∙ sym (ap (λ b. aus (cond b (unit_of e ∷ filter (above (count_of d)) (units_in o es)) (filter (above (count_of d)) (units_in o es)))) ks)
    go true is false ks false ls le same rest =
        rest ∙ sym (ap (λ b. aus (cond b (unit_of e ∷ filter (above (count_of d)) (units_in o es)) (filter (above (count_of d)) (units_in o es)))) ks)

how_many : (o : ℕ) (past : List Judged) (d : Judged) → d.decoded ≡ true → AreSteady (d ∷ past) →
    length (units_ahead o past d) ≡ length (filter (above (count_of d)) (output_units o (sequence_before past d)))
unfolding units_ahead output_units
how_many o past d decoded steady =
    let before = steady-before past d steady in
    ap (λ ns. length (distinct ns)) (ahead-units o d (sequence_before past d) before.0.rises (before.0.one_count decoded))
    ∙ ap length (above-once (count_of d) (units_in o (sequence_before past d)) (fall-units o (sequence_before past d) before.1))
    ∙ length-map (filter (above (count_of d)) (each_once (units_in o (sequence_before past d)))) (λ (u : Counted). u.au)

late-by : (number : ℕ) (units : List Counted) (unit : Counted) → comes_late (order_after number units) unit.count ≡ nat_lt number (length (filter (above unit.count) units))
late-by number units unit = tops-above (λ (u : Counted). u.count) number units unit

shown_output : (o : ℕ) (d : Judged) → d.decoded ≡ true → is_put_out d.fact ≡ true → is_output o d ≡ is_among (outputs d.seq_vps o) (layer d.fact)
unfolding is_output
shown_output o d decoded out =
    ap (λ a. a && is_among (outputs d.seq_vps o) (layer d.fact) && is_put_out d.fact) decoded
    ∙ ap (λ c. true && is_among (outputs d.seq_vps o) (layer d.fact) && c) out
    ∙ go (is_among (outputs d.seq_vps o) (layer d.fact))
  where
    go : (b : Bool) → (true && b && true) ≡ b
    go true = refl
    go false = refl

shown_count : (d : Judged) (count : ℤ) → d.count ≡ Some count → count_of d ≡ count
shown_count d count h = ap (λ c. c otherwise pos 0) h

module _ (s : OrdersValue) (past : List Judged) (d : Judged) (n unit : ℕ) (count : ℤ) (holds : StandsBefore s past d) (steady : AreSteady (d ∷ past)) (shown : IsShown n unit count d) where
  out-is : (o : ℕ) → puts_out s.sets o n ≡ is_output o d
  out-is o =
      ap (λ ls. is_among ls n) (outputs-are s.sets d holds.sets_are o)
      ∙ ap (is_among (outputs d.seq_vps o)) (sym shown.layer_is)
      ∙ sym (shown_output o d shown.decoded shown.put_out)

  -- a set refuses the picture exactly where it is late
  late-is : (o : ℕ) → o < length s.sets → is_late_in s.sets s.check n count o ≡ is_late o past d
  unfolding is_late
  late-is o lt =
      ap (λ b. b && comes_late (order_of s.check o) count) (out-is o)
      ∙ ap (λ b. is_output o d && b)
      (ap (λ x. comes_late x count) (holds.orders_are o lt)
      ∙ ap (comes_late (order_after (set_of s.sets o).reorder (output_units o (sequence_before past d)))) (sym (shown_count d count shown.count_is))
      ∙ late-by (set_of s.sets o).reorder (output_units o (sequence_before past d)) (unit_of d)
      ∙ ap (λ k. nat_lt k (length (filter (above (count_of d)) (output_units o (sequence_before past d))))) (reorder-is s.sets d holds.sets_are o lt)
      ∙ ap (nat_lt (reorder o d)) (sym (how_many o past d shown.decoded steady)))

  find-same : (p q : ℕ → Bool) (a m : ℕ) → ((i : ℕ) → a ≤ i → i < a + m → p i ≡ q i) → find p (range_with_len a m) ≡ find q (range_with_len a m)
  find-same p q a zero h = refl
  find-same p q a (suc m) h =
      ap (λ b. cond b (Some a) (find p (range_with_len (a + 1) m))) (h a (omega arith) (omega arith))
      ∙ ap (cond (q a) (Some a)) (find-same p q (a + 1) m (λ i le lt. h i (omega (arith, le)) (omega (arith, lt))))

  pub answer-is : refusal (late_set s.sets s.check n count (length s.sets)) ≡ answer past d
  answer-is =
      let all : length s.sets ≡ length (sets_at d.seq_vps) = ap length holds.sets_are ∙ length-map (sets_at d.seq_vps) (set_value (sps_reorder d.seq_sps)) in
      ap refusal (find-same (is_late_in s.sets s.check n count) (λ o. is_late o past d) 0 (length s.sets) (λ i le lt. late-is i (omega (arith, lt))))
      ∙ ap (λ m. refusal (find (λ o. is_late o past d) (range_with_len 0 m))) all

  units-more : (o : ℕ) (number : ℕ) → puts_out s.sets o n ≡ true →
      with_unit (order_after number (output_units o (sequence_before past d))) unit count ≡ order_after number (output_units o (d ∷ sequence_before past d))
  unfolding output_units
  units-more o number out =
      let before = steady-before past d steady in
      let is : is_output o d ≡ true = sym (out-is o) ∙ out in
      ap (λ n. with_unit (order_after number (each_once (units_in o (sequence_before past d)))) n count) (sym shown.unit_is)
      ∙ ap (with_unit (order_after number (each_once (units_in o (sequence_before past d)))) (au d.fact)) (sym (shown_count d count shown.count_is))
      ∙ once-more number (unit_of d) (units_in o (sequence_before past d))
      (behind-units o d (sequence_before past d) before.0.rises (before.0.one_count shown.decoded)) (fall-units o (sequence_before past d) before.1)
      ∙ sym (ap (λ b. order_after number (each_once (map unit_of (cond b (d ∷ filter (is_output o) (sequence_before past d)) (filter (is_output o) (sequence_before past d)))))) is)

  units-same : (o : ℕ) → is_output o d ≡ false → output_units o (d ∷ sequence_before past d) ≡ output_units o (sequence_before past d)
  unfolding output_units
  units-same o is = ap (λ b. each_once (map unit_of (cond b (d ∷ filter (is_output o) (sequence_before past d)) (filter (is_output o) (sequence_before past d))))) is

  -- behind a picture that no set refuses
  pub holds-more : (new : OrdersValue) → new ≡ counted_with n unit count s → is_ok (refusal (late_set s.sets s.check n count (length s.sets))) ≡ true →
      Holds new d.seq_vps d.seq_sps (d ∷ sequence_before past d)
  holds-more new e ok = subst (λ x. Holds x d.seq_vps d.seq_sps (d ∷ sequence_before past d)) (sym (e ∙ all_counted)) (record {
    all = length-upto s.sets n unit count (length s.sets) s.check ∙ holds.all;
    few = holds.few;
    sets_are = holds.sets_are;
    orders_are = λ o lt.
        upto-below s.sets n unit count (length s.sets) o s.check lt (omega (arith, lt, holds.few, holds.all))
        ∙ at o (puts_out s.sets o n) refl (holds.orders_are o lt);
  })
    where
      none : (found : Option ℕ) → is_ok (refusal found) ≡ true → (found otherwise length s.sets) ≡ length s.sets
      none None h = refl
      none (Some o) h = absurd (let wrong : false ≡ true = h in cc)

      all_counted : counted_with n unit count s ≡ record { check = counted_upto s.sets n unit count (length s.sets) s.check; sets = s.sets }
      all_counted = ap (λ m. let x : OrdersValue = record { check = counted_upto s.sets n unit count m s.check; sets = s.sets } in x) (none (late_set s.sets s.check n count (length s.sets)) ok)

      at : (o : ℕ) (b : Bool) → puts_out s.sets o n ≡ b → order_of s.check o ≡ order_after (set_of s.sets o).reorder (output_units o (sequence_before past d)) →
          cond b (with_unit (order_of s.check o) unit count) (order_of s.check o) ≡ order_after (set_of s.sets o).reorder (output_units o (d ∷ sequence_before past d))
      at o true out was = ap (λ x. with_unit x unit count) was ∙ units-more o (set_of s.sets o).reorder out
      at o false out was = was ∙ sym (ap (order_after (set_of s.sets o).reorder) (units-same o (sym (out-is o) ∙ out)))

-- ---- One unit more

slice-asked : (past : List Judged) (p : Fact) → is_slice p ≡ true → asked past p ≡ past
unfolding asked
slice-asked past p h = cond-true (is_slice p) past [] h

start-base : (l : Look) (p : Fact) → is_sequence_start l p ≡ true → (nat_eq (layer p) 0 ≡ true) × (is_picture p ≡ true)
unfolding is_sequence_start
start-base l p h = and_parts (nat_eq (layer p) 0) (is_picture p) (and_parts (is_base p) (is_idr_or_bla p || is_anew l) h).0

pub picture-slice : (p : Fact) → is_picture p ≡ true → is_slice p ≡ true
picture-slice p h = (and_parts (is_slice p) (items.is_first_segment p.placed.item.opening) h).0

begins-seq : (past : List Judged) (p : Fact) → begins (judged past p) ≡ (judged past p).seq
unfolding judged judgement
begins-seq past p = go (is_sequence_start (look (asked past p) p) p) refl
  where
    go : (b : Bool) → is_sequence_start (look (asked past p) p) p ≡ b → (nat_eq (layer p) 0 && b) ≡ b
    go true e = ap (λ a. a && true) (start-base (look (asked past p) p) p e).0
    go false e = and_right (nat_eq (layer p) 0) false refl

-- the units of the sequence, and its first picture, with a picture or another slice segment more
pub sequence-more : (past : List Judged) (p : Fact) → sequence (judged past p ∷ past) ≡ judged past p ∷ sequence_before past (judged past p)
unfolding sequence from sequence_before
sequence-more past p = ap (λ b. cond b (judged past p ∷ []) (judged past p ∷ from begins past)) (begins-seq past p) ∙ go (judged past p).seq
  where
    go : (b : Bool) → cond b (judged past p ∷ []) (judged past p ∷ from begins past) ≡ judged past p ∷ cond b [] (from begins past)
    go true = refl
    go false = refl

root-more : {A : Type 0} (f : Judged → Option A) (past : List Judged) (p : Fact) →
    option_and_then f (root (judged past p ∷ past)) ≡ cond (judged past p).seq (f (judged past p)) (option_and_then f (root past))
root-more f past p = ap (λ b. option_and_then f (cond b (Some (judged past p)) (find begins past))) (begins-seq past p) ∙ go (judged past p).seq
  where
    go : (b : Bool) → option_and_then f (cond b (Some (judged past p)) (find begins past)) ≡ cond b (f (judged past p)) (option_and_then f (find begins past))
    go true = refl
    go false = refl

seq_vps-is : (past : List Judged) (p : Fact) → is_slice p ≡ true →
    (judged past p).seq_vps ≡ cond (judged past p).seq (vps_at p) (option_and_then (λ (d : Judged). vps_at d.fact) (root past))
unfolding judged judgement sequence_vps look
seq_vps-is past p h = ap (λ ds. cond (is_sequence_start (look (asked past p) p) p) (vps_at p) (option_and_then (λ (d : Judged). vps_at d.fact) (find begins ds))) (slice-asked past p h)

seq_sps-is : (past : List Judged) (p : Fact) → is_slice p ≡ true →
    (judged past p).seq_sps ≡ cond (judged past p).seq p.sets.sps (option_and_then (λ (d : Judged). d.fact.sets.sps) (root past))
unfolding judged judgement sequence_sps look
seq_sps-is past p h = ap (λ ds. cond (is_sequence_start (look (asked past p) p) p) p.sets.sps (option_and_then (λ (d : Judged). d.fact.sets.sps) (find begins ds))) (slice-asked past p h)

fact-is : (past : List Judged) (p : Fact) → (judged past p).fact ≡ p
unfolding judged judgement
fact-is past p = refl

vps-more : (past : List Judged) (p : Fact) → is_slice p ≡ true → option_and_then (λ (d : Judged). vps_at d.fact) (root (judged past p ∷ past)) ≡ (judged past p).seq_vps
vps-more past p h =
    root-more (λ (d : Judged). vps_at d.fact) past p
    ∙ ap (λ q. cond (judged past p).seq (vps_at q) (option_and_then (λ (d : Judged). vps_at d.fact) (root past))) (fact-is past p)
    ∙ sym (seq_vps-is past p h)

sps-more : (past : List Judged) (p : Fact) → is_slice p ≡ true → option_and_then (λ (d : Judged). d.fact.sets.sps) (root (judged past p ∷ past)) ≡ (judged past p).seq_sps
sps-more past p h =
    root-more (λ (d : Judged). d.fact.sets.sps) past p
    ∙ ap (λ (q : Fact). cond (judged past p).seq q.sets.sps (option_and_then (λ (d : Judged). d.fact.sets.sps) (root past))) (fact-is past p)
    ∙ sym (seq_sps-is past p h)

pub stands-of : (s : OrdersValue) (past : List Judged) (p : Fact) → is_slice p ≡ true →
    Holds s (judged past p).seq_vps (judged past p).seq_sps (judged past p ∷ sequence_before past (judged past p)) → Stands s (judged past p ∷ past)
stands-of s past p slice h =
    subst (λ at. Holds s at (option_and_then (λ (d : Judged). d.fact.sets.sps) (root (judged past p ∷ past))) (sequence (judged past p ∷ past))) (sym (vps-more past p slice))
    (subst (λ sps. Holds s (judged past p).seq_vps sps (sequence (judged past p ∷ past))) (sym (sps-more past p slice))
    (subst (Holds s (judged past p).seq_vps (judged past p).seq_sps) (sym (sequence-more past p)) h))

-- a slice segment that doesn't start a sequence goes by the one that goes on
pub goes-on : (s : OrdersValue) (past : List Judged) (p : Fact) → is_slice p ≡ true → (judged past p).seq ≡ false → Stands s past → StandsBefore s past (judged past p)
unfolding sequence_before
goes-on s past p slice none h =
    subst (λ at. Holds s at (judged past p).seq_sps (cond (judged past p).seq [] (sequence past)))
    (sym (seq_vps-is past p slice ∙ ap (λ b. cond b (vps_at p) (option_and_then (λ (d : Judged). vps_at d.fact) (root past))) none))
    (subst (λ sps. Holds s (option_and_then (λ (d : Judged). vps_at d.fact) (root past)) sps (cond (judged past p).seq [] (sequence past)))
    (sym (seq_sps-is past p slice ∙ ap (λ b. cond b p.sets.sps (option_and_then (λ (d : Judged). d.fact.sets.sps) (root past))) none))
    (subst (λ b. Holds s (option_and_then (λ (d : Judged). vps_at d.fact) (root past)) (option_and_then (λ (d : Judged). d.fact.sets.sps) (root past)) (cond b [] (sequence past)))
    (sym none) h))

no_output : (o : ℕ) (d : Judged) → (d.decoded && is_put_out d.fact) ≡ false → is_output o d ≡ false
unfolding is_output
no_output o d h = go d.decoded (is_among (outputs d.seq_vps o) (layer d.fact)) (is_put_out d.fact) h
  where
    go : (a b c : Bool) → (a && c) ≡ false → (a && b && c) ≡ false
    go true true c h = h
    go true false c h = refl
    go false b c h = refl

holds-same : (s : OrdersValue) (at : InForce) (sps : Option (Carried SpsValue)) (units : List Judged) (d : Judged) → ((o : ℕ) → is_output o d ≡ false) → Holds s at sps units → Holds s at sps (d ∷ units)
unfolding output_units
holds-same s at sps units d none h = record {
  all = h.all;
  few = h.few;
  sets_are = h.sets_are;
  orders_are = λ o lt. h.orders_are o lt ∙ sym (ap (λ b. order_after (set_of s.sets o).reorder (each_once (map unit_of (cond b (d ∷ filter (is_output o) units) (filter (is_output o) units))))) (none o));
}

-- a slice segment that isn't put out counts for nothing
pub unshown : (s : OrdersValue) (past : List Judged) (p : Fact) → is_slice p ≡ true → ((judged past p).decoded && is_put_out p) ≡ false → StandsBefore s past (judged past p) → Stands s (judged past p ∷ past)
unshown s past p slice none h =
    stands-of s past p slice
    (holds-same s (judged past p).seq_vps (judged past p).seq_sps (sequence_before past (judged past p)) (judged past p)
    (λ o. no_output o (judged past p) (ap (λ q. (judged past p).decoded && is_put_out q) (fact-is past p) ∙ none)) h)

undecoded : (past : List Judged) (p : Fact) → is_picture p ≡ false → (judged past p).decoded ≡ false
unfolding judged judgement is_decoded
undecoded past p none = and_left (is_picture p) (not (is_skipped (look (asked past p) p) p)) none

no_start : (l : Look) (p : Fact) → is_picture p ≡ false → is_sequence_start l p ≡ false
unfolding is_sequence_start
no_start l p none = and_left (is_base p) (is_idr_or_bla p || is_anew l) (and_right (nat_eq (layer p) 0) (is_picture p) none)

quiet : (past : List Judged) (p : Fact) → is_picture p ≡ false → begins (judged past p) ≡ false
quiet past p none = begins-seq past p ∙ unfold judged judgement in no_start (look (asked past p) p) p none

-- nor does what is no picture
pub no_picture : (s : OrdersValue) (past : List Judged) (p : Fact) → is_picture p ≡ false → Stands s past → Stands s (judged past p ∷ past)
unfolding sequence from
no_picture s past p none h =
    subst (λ b. Holds s (option_and_then (λ (d : Judged). vps_at d.fact) (cond b (Some (judged past p)) (find begins past))) (option_and_then (λ (d : Judged). d.fact.sets.sps) (cond b (Some (judged past p)) (find begins past)))
    (cond b (judged past p ∷ []) (judged past p ∷ from begins past)))
    (sym (quiet past p none))
    (holds-same s (option_and_then (λ (d : Judged). vps_at d.fact) (root past)) (option_and_then (λ (d : Judged). d.fact.sets.sps) (root past)) (from begins past) (judged past p)
    (λ o. no_output o (judged past p) (and_left (judged past p).decoded (is_put_out (judged past p).fact) (undecoded past p none))) h)

-- ---- A sequence's start

pub none-stands : (check : List OrderValue) → check ≡ replicate 64 (begun 0) → Stands (record { check = check; sets = [] }) []
unfolding sets_at
none-stands check e = record {
  all = ap length e ∙ length-replicate 64 (begun 0);
  few = omega arith;
  sets_are = refl;
  orders_are = λ o lt. absurd (omega (arith, lt));
}

sps_reorder-is : (sps : Option (Carried SpsValue)) (v : SpsValue) → option_and_then value_of sps ≡ Some v → sps_reorder sps ≡ reorder_in v
unfolding sps_reorder
sps_reorder-is sps v h = ap of_value h ∙ go v.pictures.ordering
  where
    of_value : Option SpsValue → ℕ
    of_value found =
        option_map (λ (s : SubLayer). s.max_num_reorder_pics)
        (option_and_then (λ (o : SubLayerOrderingValue). last_or None o.sub_layers) (option_and_then (λ (v : SpsValue). v.pictures.ordering) found)) otherwise 0

    go : (o : Option SubLayerOrderingValue) →
        (option_map (λ (s : SubLayer). s.max_num_reorder_pics) (option_and_then (λ (o : SubLayerOrderingValue). last_or None o.sub_layers) o) otherwise 0)
        ≡ (option_map (λ (o : SubLayerOrderingValue). last_reorder o.sub_layers) o otherwise 0)
    go None = refl
    go (Some o) = refl

pub begun-stands : (s new : OrdersValue) (vps : WholeVps) (sps : SpsValue) (past : List Judged) (p : Fact) → length vps.derived.sets ≤ 64 →
    new ≡ begun_with (map (set_value (reorder_in sps)) vps.derived.sets) s → Stands s past → IsBegun vps sps past p → StandsBefore new past (judged past p)
unfolding sequence_before sets_at
begun-stands s new vps sps past p few e stands begun_by = subst (λ x. Holds x (judged past p).seq_vps (judged past p).seq_sps (cond (judged past p).seq [] (sequence past))) (sym e) now
  where
    picture : is_picture p ≡ true
    picture = (start-base (look past p) p begun_by.starts).1

    slice : is_slice p ≡ true
    slice = picture-slice p picture

    starts : (judged past p).seq ≡ true
    starts = unfold judged judgement in ap (λ ds. is_sequence_start (look ds p) p) (slice-asked past p slice) ∙ begun_by.starts

    at_start : (judged past p).seq_vps ≡ vps_at p
    at_start = seq_vps-is past p slice ∙ ap (λ b. cond b (vps_at p) (option_and_then (λ (d : Judged). vps_at d.fact) (root past))) starts

    sps_at_start : (judged past p).seq_sps ≡ p.sets.sps
    sps_at_start = seq_sps-is past p slice ∙ ap (λ b. cond b p.sets.sps (option_and_then (λ (d : Judged). d.fact.sets.sps) (root past))) starts

    sets : List SetValue
    sets = map (set_value (reorder_in sps)) vps.derived.sets

    all : length (begun_upto sets (length sets) s.check) ≡ 64
    all = length-begun sets (length sets) s.check ∙ stands.all

    within : length sets ≤ 64
    within = let same : length sets ≡ length vps.derived.sets = length-map vps.derived.sets (set_value (reorder_in sps)) in omega (arith, same, few)

    begins_with : (number o : ℕ) → begun number ≡ order_after number (output_units o [])
    begins_with number o = unfold output_units each_once waits in refl

    plain : Holds (begun_with sets s) (vps_at p) p.sets.sps []
    plain = record {
      all = all;
      few = within;
      sets_are = ap (λ k. map (set_value k) vps.derived.sets) (sym (sps_reorder-is p.sets.sps sps begun_by.sps_is))
          ∙ sym (ap (λ (v : Option WholeVps). map (set_value (sps_reorder p.sets.sps)) (option_map (λ (v : WholeVps). v.derived.sets) v otherwise [])) begun_by.vps_is);
      orders_are = λ o lt. begun-below sets (length sets) o s.check lt (omega (arith, lt, within, stands.all)) ∙ begins_with (set_of sets o).reorder o;
    }

    now : Holds (begun_with sets s) (judged past p).seq_vps (judged past p).seq_sps (cond (judged past p).seq [] (sequence past))
    now =
        subst (λ at. Holds (begun_with sets s) at (judged past p).seq_sps (cond (judged past p).seq [] (sequence past))) (sym at_start)
        (subst (λ sps. Holds (begun_with sets s) (vps_at p) sps (cond (judged past p).seq [] (sequence past))) (sym sps_at_start)
        (subst (λ b. Holds (begun_with sets s) (vps_at p) p.sets.sps (cond b [] (sequence past))) (sym starts) plain))

pub decoded-slice : (past : List Judged) (p : Fact) → (judged past p).decoded ≡ true → is_slice p ≡ true
unfolding judged judgement is_decoded
decoded-slice past p h = picture-slice p (and_parts (is_picture p) (not (is_skipped (look (asked past p) p) p)) h).0
