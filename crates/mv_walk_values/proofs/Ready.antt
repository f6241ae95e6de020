-- When all is ready for a decoded picture, and what its first segment tells of it.
use Rattle.std.proofs.Common.{◌≡◌, ℕ, ◌<◌, ℤ, pos, Bool, true, false, List, [], get_or, length, map, Option, Some, None, refl, sym, ap, ap₂, ◌∙◌, subst, arith}
use Rattle.std.specs.Prelude.{nat_eq, slice_set}
use Rattle.std.proofs.lemmas.Bool.{eq-eqb, eqb-true}
use Rattle.std.proofs.lemmas.List.{append-nil, get_or-set_other, get_or-set_same, length-set}
use Rattle.mv_syntax.specs.Words.{◌otherwise◌}
use Rattle.mv_pps.specs.Pps.{PpsValue}
use Rattle.mv_sps.specs.Sps.{SpsValue}
use Rattle.mv_vps.specs.Vps.{WholeVps}
use Rattle.mv_history.specs.History.{from}
use Rattle.mv_dpb.specs.declared.shown.Shown.{Shown}
use Rattle.mv_dpb.specs.Waiting.{WaitingValue}
use Rattle.mv_pictures.specs.Carried.{Carried}
use Rattle.mv_pictures.specs.Counts.{count}
use Rattle.mv_pictures.specs.Facts.{Fact}
use Rattle.mv_pictures.specs.History.{judged, judgement}
use Rattle.mv_pictures.specs.Judged.{Judged, is_picture, layer, vps_at}
use Rattle.mv_pictures.specs.Layers.{InForce, view}
use Rattle.mv_pictures.specs.Held.{held_behind}
use Rattle.mv_pictures.specs.Look.{look, sequence}
use Rattle.mv_pictures.specs.Output.{count_of}
use Rattle.mv_pictures.specs.References.{payload_of, segment, start_of}
use Rattle.mv_pictures.specs.Starts.{is_sequence_start}
use Rattle.mv_pictures.specs.Terms.{Segment, Start}
use Rattle.mv_commuting.specs.HeldOneMore.{held_of}
use Rattle.mv_rebuild.specs.Parts.{Making, Part}
use Rattle.mv_rps.specs.declared.counts.PocAsk.{PocAsk}
use Rattle.mv_walk_layer.specs.LayerValue.{LayerValue, no_pictures, told_held, with_count}
use Rattle.mv_walk_layer.specs.Standing.{Stands}
use Rattle.mv_walk_order.specs.Queue.{pictures_in, queued_of}
use Rattle.mv_walk_values.specs.Beginning.{ValuesReady}
use Rattle.mv_walk_values.specs.Holding.{HoldsValues}
use Rattle.mv_walk_values.specs.InMaking.{MadeValue}
use Rattle.mv_walk_values.specs.Showing.{ShowsValues}
use Rattle.mv_walk_values.specs.Standing.{ValuesStand}
use Rattle.mv_walk_values.proofs.FirstFacts.{judged_by, starts_both}
use Rattle.mv_walk_values.proofs.Standing.{fact_is}
use Rattle.mv_walk_values.proofs.Holding.{holds_none}
use Rattle.mv_walk_values.proofs.InTime.{in_time_none}

-- ---- Before the first unit

none_held : (n : ℕ) → held_of [] n ≡ []
unfolding sequence from held_behind
none_held n = refl

pub none_stand : {W P : Type 0} (meaning : Making W P) (o : ℕ) (layers : List (LayerValue P)) → ((n : ℕ) → n < 64 → get_or layers n no_pictures ≡ no_pictures) → ValuesStand meaning o [] layers None None []
none_stand {W} {P} meaning o layers nothing = record {
  held = λ n low. subst (λ (l : LayerValue P). HoldsValues meaning.picture l [] n None) (sym (nothing n low)) (holds_none meaning.picture [] n (none_held n));
  made = tt;
  output = (in_time_none meaning.picture o 0 0).shows;
}

-- ---- All is ready

-- where it starts no sequence
pub ready_here : {W P : Type 0} (meaning : Making W P) (o : ℕ) (past : List Judged) (p : Fact) (layers : List (LayerValue P)) (q : Option (WaitingValue P)) (shown : List (Shown × P)) →
    is_sequence_start (look past p) p ≡ false → length layers ≡ 64 → Stands (get_or layers (layer p) no_pictures) past (layer p) None → ValuesStand meaning o past layers None q shown → ValuesReady meaning.picture o past p layers q shown
ready_here {W} {P} meaning o past p layers q shown calm all stands values = record {
  all = all;
  forgotten = λ start. absurd (let wrong : true ≡ false = sym start ∙ calm in cc);
  held = λ _. values.held;
  told_is = λ _. sym (stands.held ∙ append-nil (told_held (get_or layers (layer p) no_pictures)));
  sound = λ _. stands.sound;
  none_wait = λ start. absurd (let wrong : true ≡ false = sym start ∙ calm in cc);
  output = values.output;
}

-- only the pictures that wait matter
pub shows_same : {P : Type 0} (rebuild : List (Part P) → P) (o : ℕ) (past : List Judged) (made : Bool) (q new : Option (WaitingValue P)) (shown : List (Shown × P)) → pictures_in new ≡ pictures_in q →
    ShowsValues rebuild o past made q shown → ShowsValues rebuild o past made new shown
shows_same rebuild o past made q new shown same shows = record { left = shows.left; shown_are = shows.shown_are; waiting_are = ap (map queued_of) same ∙ shows.waiting_are; of_latest = shows.of_latest }

-- where it starts one
pub ready_start : {P : Type 0} (rebuild : List (Part P) → P) (o : ℕ) (past : List Judged) (p : Fact) (layers : List (LayerValue P)) (q new : Option (WaitingValue P)) (shown : List (Shown × P)) →
    is_sequence_start (look past p) p ≡ true → length layers ≡ 64 → ((n : ℕ) → n < 64 → get_or layers n no_pictures ≡ no_pictures) → pictures_in q ≡ [] → pictures_in new ≡ [] →
    ShowsValues rebuild o past false q shown → ValuesReady rebuild o past p layers new shown
ready_start {P} rebuild o past p layers q new shown start all forgotten none fresh shows = record {
  all = all;
  forgotten = λ _ n low. ap (λ (l : LayerValue P). l.buffer) (forgotten n low);
  held = λ calm. absurd (let wrong : true ≡ false = sym start ∙ calm in cc);
  told_is = λ other. absurd (let wrong : true ≡ false = sym (starts_both (look past p) p start).1 ∙ other in cc);
  sound = λ other. absurd (let wrong : true ≡ false = sym (starts_both (look past p) p start).1 ∙ other in cc);
  none_wait = λ _. fresh;
  output = shows_same rebuild o past false q new shown (fresh ∙ sym none) shows;
}

-- ---- A picture is counted

-- that a layer has counted a picture changes no pictures
pub counted_buffer : {P : Type 0} (layers : List (LayerValue P)) (k : ℕ) (a : PocAsk) (n : ℕ) → k < length layers → (get_or (slice_set layers k (with_count a (get_or layers k no_pictures))) n no_pictures).buffer ≡ (get_or layers n no_pictures).buffer
counted_buffer {P} layers k a n low = go (nat_eq k n) refl
  where
    after : List (LayerValue P)
    after = slice_set layers k (with_count a (get_or layers k no_pictures))

    go : (b : Bool) → nat_eq k n ≡ b → (get_or (slice_set layers k (with_count a (get_or layers k no_pictures))) n no_pictures).buffer ≡ (get_or layers n no_pictures).buffer
    go true is =
        subst (λ i. (get_or (slice_set layers k (with_count a (get_or layers k no_pictures))) i no_pictures).buffer ≡ (get_or layers i no_pictures).buffer) (eqb-true k n is)
        (ap (λ (l : LayerValue P). l.buffer) (get_or-set_same layers k (with_count a (get_or layers k no_pictures)) no_pictures low))
    go false is =
        ap (λ (l : LayerValue P). l.buffer)
        (get_or-set_other layers k n (with_count a (get_or layers k no_pictures)) no_pictures (λ same. let wrong : true ≡ false = sym (eq-eqb k n (sym same)) ∙ is in cc))

-- layers with the same pictures
pub ready_same : {P : Type 0} (rebuild : List (Part P) → P) (o : ℕ) (past : List Judged) (p : Fact) (layers after : List (LayerValue P)) (q : Option (WaitingValue P)) (shown : List (Shown × P)) → length after ≡ length layers →
    ((n : ℕ) → (get_or after n no_pictures).buffer ≡ (get_or layers n no_pictures).buffer) → ValuesReady rebuild o past p layers q shown → ValuesReady rebuild o past p after q shown
ready_same rebuild o past p layers after q shown size same ready = record {
  all = size ∙ ready.all;
  forgotten = λ start n low. same n ∙ ready.forgotten start n low;
  held = λ calm n low. ap (map (λ s. s.picture)) (same n) ∙ ready.held calm n low;
  told_is = λ other. ap (map (λ s. s.told)) (same (layer p)) ∙ ready.told_is other;
  sound = ready.sound;
  none_wait = ready.none_wait;
  output = ready.output;
}

pub values_same : {W P : Type 0} (meaning : Making W P) (o : ℕ) (past : List Judged) (layers after : List (LayerValue P)) (making : Option (MadeValue W)) (q : Option (WaitingValue P)) (shown : List (Shown × P)) →
    ((n : ℕ) → (get_or after n no_pictures).buffer ≡ (get_or layers n no_pictures).buffer) → ValuesStand meaning o past layers making q shown → ValuesStand meaning o past after making q shown
values_same meaning o past layers after making q shown same values = record {
  held = λ n low. ap (map (λ s. s.picture)) (same n) ∙ values.held n low;
  made = values.made;
  output = values.output;
}

pub ready_counted : {P : Type 0} (rebuild : List (Part P) → P) (o : ℕ) (past : List Judged) (p : Fact) (layers : List (LayerValue P)) (q : Option (WaitingValue P)) (shown : List (Shown × P)) (k : ℕ) (a : PocAsk) → k < 64 →
    ValuesReady rebuild o past p layers q shown → ValuesReady rebuild o past p (slice_set layers k (with_count a (get_or layers k no_pictures))) q shown
ready_counted rebuild o past p layers q shown k a low ready =
    ready_same rebuild o past p layers (slice_set layers k (with_count a (get_or layers k no_pictures))) q shown (length-set layers k (with_count a (get_or layers k no_pictures)))
    (λ n. counted_buffer layers k a n (let le : k < length layers = omega (arith, low, ready.all) in le)) ready

pub values_counted : {W P : Type 0} (meaning : Making W P) (o : ℕ) (past : List Judged) (layers : List (LayerValue P)) (making : Option (MadeValue W)) (q : Option (WaitingValue P)) (shown : List (Shown × P)) (k : ℕ) (a : PocAsk) →
    k < length layers → ValuesStand meaning o past layers making q shown → ValuesStand meaning o past (slice_set layers k (with_count a (get_or layers k no_pictures))) making q shown
values_counted meaning o past layers making q shown k a low values =
    values_same meaning o past layers (slice_set layers k (with_count a (get_or layers k no_pictures))) making q shown (λ n. counted_buffer layers k a n low) values

-- ---- What the first segment tells

pub count_by : (past : List Judged) (p : Fact) (c : ℤ) → is_picture p ≡ true → count (look past p) p ≡ Some c → count_of (judged past p) ≡ c
unfolding judgement
count_by past p c new is = ap (λ (d : Judged). d.count otherwise pos 0) (judged_by past p new) ∙ ap (λ (x : Option ℤ). x otherwise pos 0) is

pub start_told : (past : List Judged) (p : Fact) (c : ℤ) (v : Carried WholeVps) (s : Carried SpsValue) (t : Carried PpsValue) → is_picture p ≡ true → count (look past p) p ≡ Some c → vps_at p ≡ Some v → p.sets.sps ≡ Some s → p.sets.pps ≡ Some t →
    start_of (judged past p) ≡ record { layer = layer p; view = view (vps_at p) (layer p); count = c; vps = v.payload; sps = s.payload; pps = t.payload }
unfolding start_of
start_told past p c v s t new is vps_is sps_is pps_is =
    ap₂ (λ (f : Fact) (n : ℤ). of_fact f n (vps_at f) (payload_of f.sets.sps) (payload_of f.sets.pps)) (fact_is past p) (count_by past p c new is)
    ∙ ap (λ (x : Option (Carried WholeVps)). of_fact p c x (payload_of p.sets.sps) (payload_of p.sets.pps)) vps_is
    ∙ ap₂ (λ (x : Option (Carried SpsValue)) (y : Option (Carried PpsValue)). of_fact p c (Some v) (payload_of x) (payload_of y)) sps_is pps_is
  where
    of_fact : Fact → ℤ → InForce → List ℕ → List ℕ → Start
    of_fact f n w sps pps = record { layer = layer f; view = view (vps_at f) (layer f); count = n; vps = payload_of w; sps = sps; pps = pps }

pub segment_told : (past : List Judged) (p : Fact) → segment (judged past p) ≡ record { bytes = p.placed.item.bytes; lists = (judged past p).lists }
segment_told past p = ap (λ (f : Fact). let it : Segment = record { bytes = f.placed.item.bytes; lists = (judged past p).lists } in it) (fact_is past p)
