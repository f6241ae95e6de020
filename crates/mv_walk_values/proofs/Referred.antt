-- What a decoded picture is begun with are its start, its references and its first segment, as its term has them (8.3.2, F.8.1.6).
use Rattle.std.proofs.Common.{◌≡◌, ℕ, zero, suc, ◌<◌, ◌≤◌, ℤ, Bool, true, false, cond, not, ◌&&◌, All, List, [], ◌∷◌, ◌++◌, filter, get_or, map, reverse, Option, Some, None, refl, sym, ap, ap₂, ◌∙◌, subst, arith}
use Rattle.std.specs.Prelude.{option_map}
use Rattle.std.specs.List.{cons_option, filter_map, find}
use Rattle.std.proofs.lemmas.Bool.{and_parts, eq-eqb, eqb-true}
use Rattle.std.proofs.lemmas.List.{map-append}
use Rattle.std.proofs.lemmas.List.Elements.{All-cons, All-filter, All-head, All-nil, All-tail, All-weaker, filter_passes}
use Rattle.mv_syntax.specs.Words.{◌otherwise◌}
use Rattle.mv_history.specs.History.{Throughout, from}
use Rattle.mv_history.proofs.Kept.{All-both, find_passes, map_agree_at}
use Rattle.mv_slice.specs.Slice.{header_layers}
use Rattle.mv_dpb.specs.declared.held.Keep.{Keep}
use Rattle.mv_dpb.specs.declared.shown.Shown.{Shown}
use Rattle.mv_dpb.specs.Waiting.{WaitingValue}
use Rattle.mv_pictures.specs.Facts.{Fact}
use Rattle.mv_pictures.specs.Held.{Held, fits, held, match_of}
use Rattle.mv_pictures.specs.History.{judged}
use Rattle.mv_pictures.specs.Judged.{Judged, au, begins, in_au, is_picture, is_slice, layer, of_layer, vps_at}
use Rattle.mv_pictures.specs.Layers.{directs}
use Rattle.mv_pictures.specs.Look.{Look, in_sequence, look, sequence}
use Rattle.mv_pictures.specs.References.{decoded_in, inter_layer, inter_ones, inter_zeros, is_used, is_zero_side, matched, references, segment, start_of, term_in, with_term}
use Rattle.mv_pictures.specs.SliceFields.{Entry, active_layers, entries, full_of}
use Rattle.mv_pictures.specs.Starts.{is_decoded, is_sequence_start, is_start}
use Rattle.mv_pictures.specs.Terms.{Tag, Term, before, after, long, inter_zero, inter_one}
use Rattle.mv_commuting.specs.HeldOneMore.{held_of}
use Rattle.mv_commuting.proofs.Anchors.{All-from}
use Rattle.mv_rebuild.specs.Parts.{Part}
use Rattle.mv_rebuild.specs.Parts as parts
use Rattle.mv_rebuild.specs.Value.{reference_of, value}
use Rattle.mv_rps.specs.Standing.{au_kept, told}
use Rattle.mv_rps.proofs.FoundLaws.{all_found, found}
use Rattle.mv_walk_layer.specs.LayerValue.{LayerValue, last_picture, no_pictures}
use Rattle.mv_walk_layer.proofs.Holding.{apart-held}
use Rattle.mv_walk_layer.proofs.Stepping.{held-past}
use Rattle.mv_walk_values.specs.Beginning.{AreReferences, ArePart, ValuesReady, Referring, begun_parts, inter_parts, layers_between, own_parts}
use Rattle.mv_walk_values.specs.Orderly.{IsOrderly}
use Rattle.mv_walk_values.specs.Values.{is_segment_of, parts_of, term_of, value_of}
use Rattle.mv_walk_values.proofs.FirstFacts.{begins_by, decoded_picture, new_slice, no_start_calm, own_units, picture_slice, references_by, start_finds}
use Rattle.mv_walk_values.proofs.Near.{before_it, sequence_terms}
use Rattle.mv_walk_values.proofs.Referring.{LatestHeld, last_value, latest_held, matches_in, part-referred}
use Rattle.mv_walk_values.proofs.Sequences.{held_terms}
use Rattle.mv_walk_values.proofs.Terms.{first_parts}
use Rattle.mv_walk_values.proofs.Standing.{fact_is}
use Rattle.mv_walk_values.proofs.Holding.{map_twice}

-- ---- The parts of the reference picture set

none_match : (l : Look) (p : Fact) (es : List Entry) → held l p ≡ [] → filter_map (match_of l p) es ≡ []
unfolding match_of
none_match l p [] h = refl
none_match l p (e ∷ es) h = ap₂ (λ hs ms. cons_option (find (fits l p e) hs) ms) h (none_match l p es h)

matches_where : (Q : Held → Type 0) (l : Look) (p : Fact) (es : List Entry) → All Q (held l p) → All Q (filter_map (match_of l p) es)
unfolding match_of
matches_where Q l p es h = all_found Q (fits l p) (held l p) es h

map_none : {A B : Type 0} (f : A → B) (xs : List A) → map f xs ≡ [] → xs ≡ []
map_none f [] h = refl
map_none f (x ∷ xs) h = absurd cc

-- the references of a part, with the terms that they have in the sequence
matched_are : {P : Type 0} (rebuild : List (Part P) → P) (past : List Judged) (p : Fact) (tag : Tag) (ms : List Held) → All (λ (h : Held). term_in (look past p).own h.it ≡ term_of past h.it) ms →
    map (reference_of rebuild) (map (λ (h : Held). (tag, term_in (look past p).own h.it)) ms) ≡ map (λ (h : Held). Part.refers tag (value_of rebuild past h.it)) ms
matched_are {P} rebuild past p tag ms same =
    map_twice (reference_of rebuild) (λ (h : Held). (tag, term_in (look past p).own h.it)) ms
    ∙ map_agree_at (λ (h : Held). Part.refers tag (value rebuild (term_in (look past p).own h.it))) (λ (h : Held). Part.refers tag (value_of rebuild past h.it)) ms
    (All-weaker (λ (h : Held). term_in (look past p).own h.it ≡ term_of past h.it) (λ (h : Held). Path (Part P) (Part.refers tag (value rebuild (term_in (look past p).own h.it))) (Part.refers tag (value_of rebuild past h.it)))
    (λ h is. ap (λ t. Part.refers tag (value rebuild t)) is) ms same)

-- ---- Where access units don't fall

abbrev Rises : List Judged → Type 0
Rises = Throughout (λ before (d : Judged). All (λ (e : Judged). au e.fact ≤ au d.fact) before)

rises_filter : (test : Judged → Bool) (ds : List Judged) → Rises ds → Rises (filter test ds)
rises_filter test [] h = tt
rises_filter test (d ∷ ds) h = go (test d) (rises_filter test ds h.1)
  where
    go : (b : Bool) → Rises (filter test ds) → Rises (cond b (d ∷ filter test ds) (filter test ds))
    go true rest = (All-filter test (λ (e : Judged). au e.fact ≤ au d.fact) ds h.0, rest)
    go false rest = rest

rises_from : (test : Judged → Bool) (ds : List Judged) → Rises ds → Rises (from test ds)
unfolding from
rises_from test [] h = tt
rises_from test (d ∷ ds) h = go (test d) (rises_from test ds h.1)
  where
    go : (b : Bool) → Rises (from test ds) → Rises (cond b (d ∷ []) (d ∷ from test ds))
    go true rest = (All-nil (λ (e : Judged). au e.fact ≤ au d.fact), tt)
    go false rest = (All-from (λ (e : Judged). au e.fact ≤ au d.fact) test ds h.0, rest)

-- the latest decoded picture of the last access unit is the latest decoded one
latest_here : (n : ℕ) (ds : List Judged) (d : Judged) → Rises ds → All (λ (x : Judged). au x.fact ≤ n) ds → find (λ (x : Judged). x.decoded && in_au n x) ds ≡ Some d → find (λ (x : Judged). x.decoded) ds ≡ Some d
latest_here n [] d rise low h = absurd (let wrong : None ≡ Some d = h in cc)
latest_here n (x ∷ ds) d rise low h = go x.decoded (in_au n x) refl h (latest_here n ds d rise.1 (All-tail (λ (x : Judged). au x.fact ≤ n) x ds low))
  where
    test : Judged → Bool
    test y = y.decoded && in_au n y

    go : (b a : Bool) → in_au n x ≡ a → cond (b && a) (Some x) (find test ds) ≡ Some d → (find test ds ≡ Some d → find (λ (x : Judged). x.decoded) ds ≡ Some d) → cond b (Some x) (find (λ (x : Judged). x.decoded) ds) ≡ Some d
    go true true is h further = h
    go false a is h further = further h
    go true false is h further =
        let least : au d.fact ≤ au x.fact = found (λ (y : Judged). au y.fact ≤ au x.fact) test ds d rise.0 h in
        let most : au x.fact ≤ n = All-head (λ (x : Judged). au x.fact ≤ n) x ds low in
        let here : au d.fact ≡ n = eqb-true (au d.fact) n (and_parts d.decoded (in_au n d) (find_passes test ds d h)).1 in
        let same : au x.fact ≡ n = omega (arith, least, most, here) in
        absurd (let wrong : true ≡ false = sym (eq-eqb (au x.fact) n same) ∙ is in cc)

read_below : (ds : List ℕ) → All (λ n. n < 64) ds → (i : ℕ) → get_or ds i 0 < 64
read_below [] h i = omega arith
read_below (d ∷ ds) h zero = All-head (λ n. n < 64) d ds h
read_below (d ∷ ds) h (suc i) = read_below ds (All-tail (λ n. n < 64) d ds h) i

layers_below : (p : Fact) → All (λ n. n < 64) (directs (vps_at p) (layer p)) → All (λ n. n < 64) (active_layers p)
unfolding active_layers
layers_below p h = all_read (option_map (λ ctx. header_layers ctx (full_of p)) p.context otherwise [])
  where
    all_read : (is : List ℕ) → All (λ n. n < 64) (map (λ i. get_or (directs (vps_at p) (layer p)) i 0) is)
    all_read [] = All-nil (λ n. n < 64)
    all_read (i ∷ is) = All-cons (λ n. n < 64) (get_or (directs (vps_at p) (layer p)) i 0) (map (λ i. get_or (directs (vps_at p) (layer p)) i 0) is) (read_below (directs (vps_at p) (layer p)) h i) (all_read is)

module _ {P : Type 0} (rebuild : List (Part P) → P) (o : ℕ) (past : List Judged) (p : Fact) (layers : List (LayerValue P)) (q : Option (WaitingValue P)) (shown : List (Shown × P))
    (orderly : IsOrderly (judged past p ∷ past)) (decoded : is_decoded (look past p) p ≡ true) (low : layer p < 64) (ready : ValuesReady rebuild o past p layers q shown) where
  was : IsOrderly past
  was = before_it (judged past p) past orderly

  own : LayerValue P
  own = get_or layers (layer p) no_pictures

  val : Held → P
  val h = value_of rebuild past h.it

  pub own_part : (tag : Tag) (keep : List Keep) (indexes : List ℕ) → ArePart (look past p) p keep tag indexes →
      own_parts (get_or layers (layer p) no_pictures) keep tag indexes ≡ map (reference_of rebuild) (matched (look past p) p tag)
  unfolding matched own val
  own_part tag keep indexes are = go (is_start (look past p) p) refl
    where
      ms : List Held
      ms = filter_map (match_of (look past p) p) (filter (is_used tag) (entries p))

      refer : List Held → List (Part P)
      refer hs = map (reference_of rebuild) (map (λ (h : Held). (tag, term_in (look past p).own h.it)) hs)

      go : (s : Bool) → is_start (look past p) p ≡ s → own_parts own keep tag indexes ≡ refer ms
      go true is =
          let nothing : ms ≡ [] = none_match (look past p) p (filter (is_used tag) (entries p)) (start_finds (look past p) p is) in
          ap (own_parts own keep tag) (map_none (au_kept (told (held (look past p) p)) keep) indexes (are ∙ ap (map (λ (h : Held). Some (au h.it.fact))) nothing))
          ∙ ap refer (sym nothing)
      go false is =
          let found_is : held (look past p) p ≡ held_of past (layer p) = held-past past p is in
          let terms : All (λ (h : Held). term_in (look past p).own h.it ≡ term_of past h.it) (held (look past p) p) =
          subst (All (λ (h : Held). term_in (look past p).own h.it ≡ term_of past h.it)) (sym found_is)
          (subst (λ ds. All (λ (h : Held). term_in ds h.it ≡ term_of past h.it) (held_of past (layer p))) (sym (own_units past p)) (held_terms past (layer p) was)) in
          part-referred own (held (look past p) p) val
          (ready.told_is is ∙ ap told (sym found_is))
          (ready.held (no_start_calm (look past p) p is) (layer p) low ∙ ap (λ hs. map val (reverse hs)) (sym found_is))
          (apart-held (held (look past p) p) (subst (Throughout (λ before (h : Held). All (λ (g : Held). au g.it.fact < au h.it.fact) before)) (sym found_is) (ready.sound is).falls))
          tag keep indexes ms are (matches_in (look past p) p (filter (is_used tag) (entries p)))
          ∙ sym (matched_are rebuild past p tag ms (matches_where (λ (h : Held). term_in (look past p).own h.it ≡ term_of past h.it) (look past p) p (filter (is_used tag) (entries p)) terms))

  -- ---- The parts of the inter-layer set

  -- each of its pictures is the latest that is held of its layer
  IsThere : Judged × Term → Type 0
  IsThere r = option_map (λ (q : ℤ × P). q.1) (last_picture (get_or layers (layer r.0.fact) no_pictures)) ≡ Some (value rebuild r.1)

  inter_part : (tag : Tag) (rs : List (Judged × Term)) → All IsThere rs →
      inter_parts layers tag (map (λ (r : Judged × Term). layer r.0.fact) rs) ≡ map (reference_of rebuild) (map (λ (r : Judged × Term). (tag, r.1)) rs)
  unfolding IsThere
  inter_part tag [] h = refl
  inter_part tag (r ∷ rs) h =
      add (last_picture (get_or layers (layer r.0.fact) no_pictures)) (All-head IsThere r rs h)
      ∙ ap (λ ps. Part.refers tag (value rebuild r.1) ∷ ps) (inter_part tag rs (All-tail IsThere r rs h))
    where
      rest : List (Part P)
      rest = inter_parts layers tag (map (λ (r : Judged × Term). layer r.0.fact) rs)

      add : (x : Option (ℤ × P)) → option_map (λ (q : ℤ × P). q.1) x ≡ Some (value rebuild r.1) → cons_option (option_map (λ (q : ℤ × P). Part.refers tag q.1) x) rest ≡ Part.refers tag (value rebuild r.1) ∷ rest
      add None wrong = absurd (let no : None ≡ Some (value rebuild r.1) = wrong in cc)
      add (Some q) is = ap (λ pic. Part.refers tag pic ∷ rest) (let same : q.1 ≡ value rebuild r.1 = (let both : Some q.1 ≡ Some (value rebuild r.1) = is in cc) in same)

  -- before a start of a sequence no decoded picture is of its access unit
  none_here : is_sequence_start (look past p) p ≡ true → All (λ (d : Judged). d.decoded ≡ true → au d.fact < au p) past
  none_here is =
      each past (All-both (λ (d : Judged). is_slice d.fact ≡ true → au d.fact < au (judged past p).fact) (λ (d : Judged). d.decoded ≡ true → is_picture d.fact ≡ true) past
      (orderly.based.0 (begins_by past p (decoded_picture (look past p) p decoded) ∙ is)) was.pictures)
    where
      each : (ds : List Judged) → All (λ (d : Judged). (is_slice d.fact ≡ true → au d.fact < au (judged past p).fact) × (d.decoded ≡ true → is_picture d.fact ≡ true)) ds → All (λ (d : Judged). d.decoded ≡ true → au d.fact < au p) ds
      each ds h =
          All-weaker (λ (d : Judged). (is_slice d.fact ≡ true → au d.fact < au (judged past p).fact) × (d.decoded ≡ true → is_picture d.fact ≡ true)) (λ (d : Judged). d.decoded ≡ true → au d.fact < au p)
          (λ d both is_decoded. subst (λ (f : Fact). au d.fact < au f) (fact_is past p) (both.0 (picture_slice d.fact (both.1 is_decoded)))) ds h

  test_here : Judged → Bool
  test_here d = d.decoded && in_au (au p) d

  in_it : (Q : Judged → Type 0) (n : ℕ) → All Q past → All Q (in_sequence past n)
  unfolding sequence
  in_it Q n h = All-filter (of_layer n) Q (from begins past) (All-from Q begins past h)

  one_there : (n : ℕ) → n < 64 → (d : Judged) → find test_here (in_sequence past n) ≡ Some d → IsThere (d, term_in (in_sequence past n) d)
  unfolding IsThere test_here sequence val
  one_there n lt d h = go (is_sequence_start (look past p) p) refl
    where
      layer_is : layer d.fact ≡ n
      layer_is = eqb-true (layer d.fact) n (found (λ (x : Judged). of_layer n x ≡ true) test_here (in_sequence past n) d (filter_passes (of_layer n) (sequence past)) h)

      passes : (d.decoded ≡ true) × (in_au (au p) d ≡ true)
      passes = and_parts d.decoded (in_au (au p) d) (find_passes test_here (in_sequence past n) d h)

      latest : find (λ (x : Judged). x.decoded) (in_sequence past n) ≡ Some d
      latest =
          latest_here (au p) (in_sequence past n) d (rises_filter (of_layer n) (from begins past) (rises_from begins past was.numbers))
          (in_it (λ (x : Judged). au x.fact ≤ au p) n (subst (λ (f : Fact). All (λ (x : Judged). au x.fact ≤ au f) past) (fact_is past p) orderly.numbers.0)) h

      it : LatestHeld [] (in_sequence past n) d
      it = latest_held past n d latest

      go : (b : Bool) → is_sequence_start (look past p) p ≡ b → option_map (λ (q : ℤ × P). q.1) (last_picture (get_or layers (layer d.fact) no_pictures)) ≡ Some (value rebuild (term_in (in_sequence past n) d))
      go true is =
          let less : au d.fact < au p = found (λ (x : Judged). x.decoded ≡ true → au x.fact < au p) test_here (in_sequence past n) d (in_it (λ (x : Judged). x.decoded ≡ true → au x.fact < au p) n (none_here is)) h passes.0 in
          let same : au d.fact ≡ au p = eqb-true (au d.fact) (au p) passes.1 in
          absurd (omega (arith, less, same))
      go false is =
          ap (λ m. option_map (λ (q : ℤ × P). q.1) (last_picture (get_or layers m no_pictures))) layer_is
          ∙ last_value (get_or layers n no_pictures) val (record { it = d; long = it.long }) it.rest (ready.held is n lt ∙ ap (λ hs. map val (reverse hs)) it.held_is)
          ∙ ap (λ t. Some (value rebuild t)) (sym (found (λ (x : Judged). term_in (in_sequence past n) x ≡ term_of past x) test_here (in_sequence past n) d (sequence_terms past n was) h))

  all_there : (ns : List ℕ) → All (λ n. n < 64) ns → All IsThere (filter_map (with_term p) (map (in_sequence past) ns))
  all_there [] h = All-nil IsThere
  all_there (n ∷ ns) h = go (decoded_in p (in_sequence past n)) (unfold decoded_in test_here in λ d is. one_there n (All-head (λ n. n < 64) n ns h) d is) (all_there ns (All-tail (λ n. n < 64) n ns h))
    where
      go : (x : Option Judged) → ((d : Judged) → x ≡ Some d → IsThere (d, term_in (in_sequence past n) d)) → All IsThere (filter_map (with_term p) (map (in_sequence past) ns)) →
          All IsThere (cons_option (option_map (λ d. (d, term_in (in_sequence past n) d)) x) (filter_map (with_term p) (map (in_sequence past) ns)))
      go None there rest = rest
      go (Some d) there rest = All-cons IsThere (d, term_in (in_sequence past n) d) (filter_map (with_term p) (map (in_sequence past) ns)) (there d refl) rest

  module _ (below : All (λ n. n < 64) (directs (vps_at p) (layer p))) where
    between_there : (test : Judged × Term → Bool) → All IsThere (filter test (inter_layer (look past p) p))
    unfolding inter_layer look
    between_there test = All-filter test IsThere (filter_map (with_term p) (map (in_sequence past) (active_layers p))) (all_there (active_layers p) (layers_below p below))

    pub zero_part : (ns : List ℕ) → ns ≡ layers_between (look past p) p (is_zero_side p) → inter_parts layers inter_zero ns ≡ map (reference_of rebuild) (inter_zeros (look past p) p)
    unfolding inter_zeros
    zero_part ns are =
        ap (inter_parts layers inter_zero) are
        ∙ inter_part inter_zero (filter (λ (r : Judged × Term). is_zero_side p r.0) (inter_layer (look past p) p)) (between_there (λ (r : Judged × Term). is_zero_side p r.0))

    pub one_part : (ns : List ℕ) → ns ≡ layers_between (look past p) p (λ d. not (is_zero_side p d)) → inter_parts layers inter_one ns ≡ map (reference_of rebuild) (inter_ones (look past p) p)
    unfolding inter_ones
    one_part ns are =
        ap (inter_parts layers inter_one) are
        ∙ inter_part inter_one (filter (λ (r : Judged × Term). not (is_zero_side p r.0)) (inter_layer (look past p) p)) (between_there (λ (r : Judged × Term). not (is_zero_side p r.0)))

    -- all of them, in order
    references_mapped : map (reference_of rebuild) (references (look past p) p)
        ≡ map (reference_of rebuild) (matched (look past p) p before) ++ map (reference_of rebuild) (matched (look past p) p after) ++ map (reference_of rebuild) (matched (look past p) p long)
        ++ map (reference_of rebuild) (inter_zeros (look past p) p) ++ map (reference_of rebuild) (inter_ones (look past p) p)
    unfolding references
    references_mapped =
        ap (λ b. map f (cond b (befores ++ afters ++ longs ++ zeros ++ ones) [])) decoded
        ∙ map-append f (befores ++ afters ++ longs ++ zeros) ones
        ∙ ap (λ ps. ps ++ map f ones)
        (map-append f (befores ++ afters ++ longs) zeros
        ∙ ap (λ ps. ps ++ map f zeros)
        (map-append f (befores ++ afters) longs
        ∙ ap (λ ps. ps ++ map f longs) (map-append f befores afters)))
      where
        f : Tag × Term → Part P
        f = reference_of rebuild

        befores : List (Tag × Term)
        befores = matched (look past p) p before

        afters : List (Tag × Term)
        afters = matched (look past p) p after

        longs : List (Tag × Term)
        longs = matched (look past p) p long

        zeros : List (Tag × Term)
        zeros = inter_zeros (look past p) p

        ones : List (Tag × Term)
        ones = inter_ones (look past p) p

    -- so what it is begun with are the parts of its term
    pub begun_are : (r : Referring) → AreReferences past p r → All (λ (x : Judged). is_segment_of (judged past p) x ≡ false) past →
        begun_parts layers (layer p) r (start_of (judged past p)) (segment (judged past p)) ≡ parts_of rebuild (term_of (judged past p ∷ past) (judged past p))
    unfolding own
    begun_are r are new =
        ap (λ ps. start ∷ (ps ++ own_parts own r.keep after r.after ++ own_parts own r.keep long r.long ++ inter_parts layers inter_zero r.zero ++ inter_parts layers inter_one r.one ++ ending)) (own_part before r.keep r.before are.befores)
        ∙ ap (λ ps. start ∷ (map f (matched l p before) ++ ps ++ own_parts own r.keep long r.long ++ inter_parts layers inter_zero r.zero ++ inter_parts layers inter_one r.one ++ ending)) (own_part after r.keep r.after are.afters)
        ∙ ap (λ ps. start ∷ (map f (matched l p before) ++ map f (matched l p after) ++ ps ++ inter_parts layers inter_zero r.zero ++ inter_parts layers inter_one r.one ++ ending)) (own_part long r.keep r.long are.longs)
        ∙ ap (λ ps. start ∷ (map f (matched l p before) ++ map f (matched l p after) ++ map f (matched l p long) ++ ps ++ inter_parts layers inter_one r.one ++ ending)) (zero_part r.zero are.zeros)
        ∙ ap (λ ps. start ∷ (map f (matched l p before) ++ map f (matched l p after) ++ map f (matched l p long) ++ map f (inter_zeros l p) ++ ps ++ ending)) (one_part r.one are.ones)
        ∙ ap (λ ps. start ∷ (ps ++ ending)) (sym references_mapped)
        ∙ sym (first_parts rebuild (judged past p) past (references l p) (new_slice past p picture) new (references_by past p picture))
      where
        l : Look
        l = look past p

        f : Tag × Term → Part P
        f = reference_of rebuild

        start : Part P
        start = parts.begins (start_of (judged past p))

        ending : List (Part P)
        ending = parts.has (segment (judged past p)) ∷ []

        picture : is_picture p ≡ true
        picture = decoded_picture (look past p) p decoded
