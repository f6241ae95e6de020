-- One unit more: what the states of layers keep.
use Rattle.std.proofs.Common.{◌≡◌, ℕ, ◌<◌, ◌≤◌, inl, inr, Bool, true, false, cond, not, ◌&&◌, ◌||◌, List, [], ◌∷◌, filter, length, get_or, replicate, Option, Some, None, refl, ap, sym, ◌∙◌, subst, if◌then◌else◌, arith}
use Rattle.std.specs.Prelude.{nat_eq, nat_le, option_map, option_and_then, slice_set, Result, Ok, Err}
use Rattle.std.specs.List.{find, list_all}
use Rattle.std.proofs.lemmas.Bool.{and_from, false_from_ne_true, and_left, and_parts, and_right, or_cases, or_from, leb-true, both_ways, cases_lt, cond-false, cond-true, eq-eqb, eqb-false, eqb-true, ne_eqb}
use Rattle.std.proofs.lemmas.List.{get_or_past, get_or-replicate, get_or-set_other, get_or-set_same, length-replicate, length-set}
use Rattle.std.proofs.lemmas.Option.{same_Some}
use Rattle.mv_syntax.specs.Words.{◌otherwise◌}
use Rattle.mv_history.specs.History.{from}
use Rattle.mv_rules.specs.declared.rule.Rule.{Rule}
use Rattle.mv_layers.specs.LayerInfos.{directs_of}
use Rattle.mv_vps.specs.Vps.{WholeVps}
use Rattle.mv_slice.specs.Numbers.{is_idr, is_irap}
use Rattle.mv_pictures.specs.Kinds.{is_bla, is_eob_kind, is_eos_kind, is_rasl, is_slice_kind}
use Rattle.mv_pictures.specs.Layers.{directs, layers_at}
use Rattle.mv_pictures.specs.Items.{is_first_segment, is_known}
use Rattle.mv_pictures.specs.AccessUnits.{Placed, has_changed_vps}
use Rattle.mv_pictures.specs.Facts.{Fact}
use Rattle.mv_pictures.specs.SliceFields.{entries}
use Rattle.mv_pictures.specs.History.{judged, judgement}
use Rattle.mv_pictures.specs.Judged.{Judged, au, begins, in_au, is_base, is_end, is_layer_end, is_picture, is_slice, kind, layer, of_layer, resets, starts, vps_at}
use Rattle.mv_pictures.specs.Look.{Look, asked, in_sequence, initialised, look, sequence}
use Rattle.mv_pictures.specs.Starts.{base_of, follows_start, in_first_au, is_anew, is_idr_or_bla, is_reset, is_sequence_start, is_skipped, is_start, starts_layer}
use Rattle.mv_pictures.specs.PictureRules.{no_irap, vps_mid_cvs}
use Rattle.mv_au.specs.declared.states.Asked.{Asked}
use Rattle.mv_au.specs.declared.states.LayerState.{LayerState}
use Rattle.mv_au.specs.declared.states.PicFacts.{PicFacts}
use Rattle.mv_au.specs.declared.states.PicState.{PicState}
use Rattle.mv_au.specs.LayerState.{no_state}
use Rattle.mv_au.specs.StatesValue.{StatesValue}
use Rattle.mv_au.specs.States.{IsAsked, Stands, answer, is_started, state_of as state_in}
use Rattle.mv_au.specs.StateSteps as steps

-- ---- One unit more, as it is judged

abbrev is_lead : Judged → Bool
is_lead d = is_picture d.fact && (is_irap (kind d.fact) || d.start)

abbrev led : List Judged → Bool
led own = option_map (λ (d : Judged). d.start) (find is_lead own) otherwise false

initialised-more : (d : Judged) (past : List Judged) (n : ℕ) → initialised (d ∷ past) n ≡ (if starts n d then true else (if resets n d then false else initialised past n))
unfolding initialised
initialised-more d past n = go (starts n d) (resets n d) refl
  where
    go : (s r : Bool) → starts n d ≡ s →
        option_map (starts n) (cond (s || r) (Some d) (find (λ d. starts n d || resets n d) past)) otherwise false ≡ cond s true (cond r false (option_map (starts n) (find (λ d. starts n d || resets n d) past) otherwise false))
    go true r e = e
    go false true e = e
    go false false e = refl

-- whether the layer's latest IRAP picture or start is a start
led-more : (d : Judged) (past : List Judged) (n : ℕ) →
    led (in_sequence (d ∷ past) n) ≡ (if of_layer n d && is_lead d then d.start else (if begins d then false else led (in_sequence past n)))
unfolding sequence from
led-more d past n = ap led (own (begins d)) ∙ at (of_layer n d) (cond (begins d) [] (in_sequence past n)) ∙ ap (λ x. cond (of_layer n d && is_lead d) d.start x) (rest (begins d))
  where
    own : (b : Bool) → filter (of_layer n) (cond b (d ∷ []) (d ∷ from begins past)) ≡ cond (of_layer n d) (d ∷ cond b [] (filter (of_layer n) (from begins past))) (cond b [] (filter (of_layer n) (from begins past)))
    own true = refl
    own false = refl

    top : (l : Bool) (own : List Judged) → option_map (λ (d : Judged). d.start) (cond l (Some d) (find is_lead own)) otherwise false ≡ cond l d.start (led own)
    top true own = refl
    top false own = refl

    at : (o : Bool) (own : List Judged) → led (cond o (d ∷ own) own) ≡ cond (o && is_lead d) d.start (led own)
    at true own = top (is_lead d) own
    at false own = refl

    rest : (b : Bool) → led (cond b [] (in_sequence past n)) ≡ cond b false (led (in_sequence past n))
    rest true = refl
    rest false = refl

no_end : (k : ℕ) → is_slice_kind k ≡ true → (is_eos_kind k ≡ false) × (is_eob_kind k ≡ false)
no_end k h = elim (or_cases (nat_le k 9) (is_irap k) h) [
  | inl e ↦ let le : k ≤ 9 = leb-true k 9 e in (ne_eqb k 36 (λ w. omega (arith, le, w)), ne_eqb k 37 (λ w. omega (arith, le, w)))
  | inr e ↦ let le : k ≤ 21 = leb-true k 21 (and_parts (nat_le 16 k) (nat_le k 21) e).1 in (ne_eqb k 36 (λ w. omega (arith, le, w)), ne_eqb k 37 (λ w. omega (arith, le, w)))
]

or_false : (b : Bool) → (b || false) ≡ b
or_false true = refl
or_false false = refl

picture_slice : (p : Fact) → is_picture p ≡ true → is_slice p ≡ true
picture_slice p h = (and_parts (is_slice p) (is_first_segment p.placed.item.opening) h).0

picture_kind : (p : Fact) → is_picture p ≡ true → is_slice_kind (kind p) ≡ true
picture_kind p h = (and_parts (is_known p.placed.item) (is_slice_kind (kind p)) (picture_slice p h)).1

-- a picture is no end
picture_no_end : (p : Fact) → is_picture p ≡ true → is_end p ≡ false
picture_no_end p h =
    let none = no_end (kind p) (picture_kind p h) in
    and_right (nat_eq (layer p) 0 && is_known p.placed.item) (is_eos_kind (kind p) || is_eob_kind (kind p)) (or_from (is_eos_kind (kind p)) (is_eob_kind (kind p)) none.0 none.1)

picture_no_layer_end : (p : Fact) → is_picture p ≡ true → is_layer_end p ≡ false
picture_no_layer_end p h = and_right (not (nat_eq (layer p) 0) && is_known p.placed.item) (is_eos_kind (kind p)) (no_end (kind p) (picture_kind p h)).0

list_all-same : (f g : ℕ → Bool) → ((n : ℕ) → f n ≡ g n) → (ns : List ℕ) → list_all f ns ≡ list_all g ns
list_all-same f g h [] = refl
list_all-same f g h (n ∷ ns) = ap (λ b. b && list_all f ns) (h n) ∙ ap (λ b. g n && b) (list_all-same f g h ns)

none_at : (m n : ℕ) → get_or (replicate m no_state) n no_state ≡ no_state
none_at m n = elim (cases_lt n m) [
  | inl lt ↦ get_or-replicate m n no_state no_state lt
  | inr le ↦ get_or_past (replicate m no_state) n no_state (let all : length (replicate m no_state) ≡ m = length-replicate m no_state in omega (arith, all, le))
]

joins : (z st r h : Bool) → (st || (h && not r)) ≡ cond (true && st) true (cond ((z && st) || (true && r)) false h)
joins z true r h = refl
joins true false true true = refl
joins true false true false = refl
joins true false false true = refl
joins true false false false = refl
joins false false true true = refl
joins false false true false = refl
joins false false false true = refl
joins false false false false = refl

apart : (b : Bool) (x : LayerState) → (cond b no_state x).initialised ≡ cond (b || false) false x.initialised
apart true x = refl
apart false x = refl

leads : (i st z x : Bool) → cond (i || st) st x ≡ cond (true && (i || st)) st (cond (z && st) false x)
leads true st z x = refl
leads false true z x = refl
leads false false true x = refl
leads false false false x = refl

behind_apart : (b : Bool) (x : LayerState) → (cond b no_state x).after_start ≡ cond b false x.after_start
behind_apart true x = refl
behind_apart false x = refl

-- ---- What is asked of a picture, by a look at the past

abbrev pub looked : Look → Fact → Asked
looked l p = record {
  base = nat_eq (layer p) 0;
  kind = kind p;
  anew = is_anew l;
  in_first_au = option_map (λ (d : Judged). d.seq) l.base otherwise false;
  ready = l.ready;
  state = record { initialised = l.here; after_start = follows_start l };
  entries = length (entries p);
}

module _ (s : StatesValue) (past : List Judged) (vps : WholeVps) (pic : PicFacts) (p : Fact) (stands : Stands s past) (seen : IsAsked vps pic past p) where
  abbrev l : Look
  l = look past p

  abbrev a : Asked
  a = looked l p

  ready-is : steps.all_initialised s.layers (directs_of vps.derived.layers pic.layer) ≡ l.ready
  unfolding look directs layers_at
  ready-is =
      ap (λ n. steps.all_initialised s.layers (directs_of vps.derived.layers n)) seen.layer_is
      ∙ sym (ap (λ o. steps.all_initialised s.layers (directs_of (option_map (λ (v : WholeVps). v.derived.layers) o otherwise []) (layer p))) seen.vps_is)
      ∙ list_all-same (λ n. (get_or s.layers n no_state).initialised) (initialised past) stands.initialised_are (directs (vps_at p) (layer p))

  state-is : get_or s.layers pic.layer no_state ≡ record { initialised = l.here; after_start = follows_start l }
  unfolding look
  state-is =
      ap (λ n. get_or s.layers n no_state) seen.layer_is
      ∙ ap (λ (b : Bool). record { initialised = b; after_start = (get_or s.layers (layer p) no_state).after_start }) (stands.initialised_are (layer p))
      ∙ ap (λ (b : Bool). record { initialised = l.here; after_start = b }) (stands.after_starts p)

  abbrev asked_of : Bool → ℕ → Bool → Bool → Bool → LayerState → ℕ → Asked
  asked_of base kind anew first ready state entries = record {
    base = base;
    kind = kind;
    anew = anew;
    in_first_au = first;
    ready = ready;
    state = state;
    entries = entries;
  }

  pub asked-is : steps.asked_by s vps pic ≡ a
  asked-is =
      let ready : Bool = steps.all_initialised s.layers (directs_of vps.derived.layers pic.layer) in
      let state : LayerState = get_or s.layers pic.layer no_state in
      let first : Bool = option_map (λ (d : Judged). d.seq) l.base otherwise false in
      let now : LayerState = record { initialised = l.here; after_start = follows_start l } in
      ap (λ n. asked_of (nat_eq n 0) pic.kind s.anew s.in_first_au ready state pic.entries) seen.layer_is
      ∙ ap (λ k. asked_of (nat_eq (layer p) 0) k s.anew s.in_first_au ready state pic.entries) seen.kind_is
      ∙ ap (λ b. asked_of (nat_eq (layer p) 0) (kind p) b s.in_first_au ready state pic.entries) (sym (stands.anew p))
      ∙ ap (λ b. asked_of (nat_eq (layer p) 0) (kind p) (is_anew l) b ready state pic.entries) (sym (stands.in_first_au p))
      ∙ ap (λ b. asked_of (nat_eq (layer p) 0) (kind p) (is_anew l) first b state pic.entries) ready-is
      ∙ ap (λ x. asked_of (nat_eq (layer p) 0) (kind p) (is_anew l) first l.ready x pic.entries) state-is
      ∙ ap (λ n. asked_of (nat_eq (layer p) 0) (kind p) (is_anew l) first l.ready now n) seen.entries_are

  -- ---- Starts, resets and skipped pictures

  abbrev z : Bool
  z = nat_eq (layer p) 0

  seq-is : z ≡ true → is_sequence_start l p ≡ steps.is_start a
  unfolding is_sequence_start steps.is_start
  seq-is e =
      ap (λ b. b && (is_idr_or_bla p || is_anew l)) (and_from z (is_picture p) e seen.picture)
      ∙ sym (cond-true z ((is_idr (kind p) || is_bla (kind p)) || is_anew l) (steps.starts_layer a) e)

  first-is : z ≡ false → in_first_au l p ≡ a.in_first_au
  unfolding in_first_au base_of
  first-is e = go l.base (seen.base e)
    where
      go : (o : Option Judged) → option_map (in_au (au p)) o ≡ Some true →
          option_map (λ (d : Judged). d.seq) (option_and_then (λ (d : Judged). if in_au (au p) d then Some d else None) o) otherwise false ≡ option_map (λ (d : Judged). d.seq) o otherwise false
      go None h = refl
      go (Some d) h = ap (λ b. option_map (λ (d : Judged). d.seq) (cond b (Some d) None) otherwise false) (same_Some (in_au (au p) d) true h)

  start-is : is_start l p ≡ steps.is_start a
  unfolding is_start starts_layer steps.is_start
  start-is = go z refl
    where
      go : (b : Bool) → z ≡ b → is_start l p ≡ steps.is_start a
      go true e = cond-true z (is_sequence_start l p) (is_picture p && starts_layer l p) e ∙ seq-is e
      go false e =
          cond-false z (is_sequence_start l p) (is_picture p && starts_layer l p) e
          ∙ ap (λ b. b && starts_layer l p) seen.picture
          ∙ ap (λ f. l.ready && (is_idr_or_bla p || (is_irap (kind p) && not l.here) || (f && not l.here && nat_eq (length (entries p)) 0))) (first-is e)
          ∙ sym (cond-false z ((is_idr (kind p) || is_bla (kind p)) || is_anew l) (steps.starts_layer a) e)

  reset-is : is_reset l p ≡ steps.is_reset a
  unfolding is_reset steps.is_reset
  reset-is =
      ap (λ b. not z && (b || (is_picture p && is_idr_or_bla p && l.here && not (is_start l p)))) (picture_no_layer_end p seen.picture)
      ∙ ap (λ b. not z && (b && is_idr_or_bla p && l.here && not (is_start l p))) seen.picture
      ∙ ap (λ b. not z && (is_idr_or_bla p && l.here && not b)) start-is

  skipped-is : is_skipped l p ≡ steps.is_skipped a
  unfolding is_skipped steps.is_skipped
  skipped-is =
      ap (λ b. not b && (not l.here || is_reset l p || (is_rasl (kind p) && follows_start l))) start-is
      ∙ ap (λ b. not (steps.is_start a) && (not l.here || b || (is_rasl (kind p) && follows_start l))) reset-is

  without-is : no_irap l p ≡ steps.is_without_irap a
  unfolding no_irap
  without-is = ap (λ b. b && is_anew l && not (is_irap (kind p))) (ap (λ b. z && b) seen.picture ∙ and_true z)
    where
      and_true : (b : Bool) → (b && true) ≡ b
      and_true true = refl
      and_true false = refl

  abbrev pub told : Asked → Result PicState Rule
  told x = if steps.is_without_irap x then Err Rule.NoIrap else Ok (steps.state_of x)

  pub answer-is : told (steps.asked_by s vps pic) ≡ answer past p
  unfolding answer state_in
  answer-is =
      ap told asked-is
      ∙ sym (
      ap (λ b. cond b (Err Rule.NoIrap) (Ok (state_in l p))) without-is
      ∙ ap (λ b. cond (steps.is_without_irap a) (Err Rule.NoIrap) (Ok (cond b PicState.Start (cond (is_skipped l p) PicState.Skipped PicState.Decoded)))) start-is
      ∙ ap (λ b. cond (steps.is_without_irap a) (Err Rule.NoIrap) (Ok (cond (steps.is_start a) PicState.Start (cond b PicState.Skipped PicState.Decoded)))) skipped-is
      )

  -- ---- What is kept behind it

  asked-past : asked past p ≡ past
  unfolding asked
  asked-past = cond-true (is_slice p) past [] (picture_slice p seen.picture)

  pub judged-is : judged past p ≡ judgement l p
  unfolding judged
  judged-is = ap (λ xs. judgement (look xs p) p) asked-past

  abbrev d : Judged
  d = judgement l p

  abbrev start : Bool
  start = steps.is_start a

  abbrev layers : List LayerState
  layers = steps.layers_before s a

  fact-is : d.fact ≡ p
  unfolding judgement
  fact-is = refl

  start-of : d.start ≡ start
  unfolding judgement
  start-of = start-is

  reset-of : d.reset ≡ steps.is_reset a
  unfolding judgement
  reset-of = reset-is

  picture-of : is_picture d.fact ≡ true
  unfolding judgement
  picture-of = seen.picture

  here-is : a.state.initialised ≡ initialised past (layer p)
  unfolding look
  here-is = refl

  begins-is : begins d ≡ (z && start)
  unfolding judgement
  begins-is = go z refl
    where
      go : (b : Bool) → z ≡ b → (b && is_sequence_start l p) ≡ (b && start)
      go true e = seq-is e
      go false e = refl

  all-are : length layers ≡ 64
  all-are = go (z && start)
    where
      go : (b : Bool) → length (cond b (replicate 64 no_state) s.layers) ≡ 64
      go true = length-replicate 64 no_state
      go false = stands.all

  anew-more : (q : Fact) → is_anew (look (d ∷ past) q) ≡ cond z false s.anew
  unfolding is_anew look judgement
  anew-more q =
      ap (λ b. option_map (λ (d : Judged). is_end d.fact) (cond (z && (b || is_end p)) (Some d) (find ends past)) otherwise true) seen.picture ∙ go z (stands.anew q)
    where
      ends : Judged → Bool
      ends d = of_layer 0 d && (is_picture d.fact || is_end d.fact)

      go : (b : Bool) → (option_map (λ (d : Judged). is_end d.fact) (find ends past) otherwise true) ≡ s.anew → option_map (λ (d : Judged). is_end d.fact) (cond (b && true) (Some d) (find ends past)) otherwise true ≡ cond b false s.anew
      go true h = picture_no_end p seen.picture
      go false h = h

  first-more : (q : Fact) → (option_map (λ (d : Judged). d.seq) (look (d ∷ past) q).base otherwise false) ≡ cond z start s.in_first_au
  unfolding look judgement
  first-more q =
      ap (λ b. option_map (λ (d : Judged). d.seq) (cond (z && b) (Some d) (find bases past)) otherwise false) seen.picture ∙ go z refl (stands.in_first_au q)
    where
      bases : Judged → Bool
      bases d = of_layer 0 d && is_picture d.fact

      go : (b : Bool) → z ≡ b → (option_map (λ (d : Judged). d.seq) (find bases past) otherwise false) ≡ s.in_first_au → option_map (λ (d : Judged). d.seq) (cond (b && true) (Some d) (find bases past)) otherwise false ≡ cond b start s.in_first_au
      go true e h = seq-is e
      go false e h = h

  -- the state of a layer before the picture's own is put there
  other-state : (n : ℕ) → get_or layers n no_state ≡ cond (z && start) no_state (get_or s.layers n no_state)
  other-state n = go (z && start)
    where
      go : (b : Bool) → get_or (cond b (replicate 64 no_state) s.layers) n no_state ≡ cond b no_state (get_or s.layers n no_state)
      go true = none_at 64 n
      go false = refl

  module _ (few : layer p < 64) where
    abbrev after : List LayerState
    after = slice_set layers (layer p) (steps.behind a)

    own-state : (n : ℕ) → layer p ≡ n → get_or after n no_state ≡ steps.behind a
    own-state n e = ap (λ m. get_or after m no_state) (sym e) ∙ get_or-set_same layers (layer p) (steps.behind a) no_state (let all : length layers ≡ 64 = all-are in omega (arith, all, few))

    foreign-state : (n : ℕ) → nat_eq (layer p) n ≡ false → get_or after n no_state ≡ cond (z && start) no_state (get_or s.layers n no_state)
    foreign-state n e = get_or-set_other layers (layer p) n (steps.behind a) no_state (λ w. eqb-false (layer p) n e (sym w)) ∙ other-state n

    initialised-behind : (n : ℕ) → (get_or after n no_state).initialised ≡ initialised (d ∷ past) n
    unfolding judgement
    initialised-behind n = go (nat_eq (layer p) n) refl ∙ sym more
      where
        more : initialised (d ∷ past) n ≡ cond (nat_eq (layer p) n && start) true (cond ((z && start) || (nat_eq (layer p) n && steps.is_reset a)) false (initialised past n))
        more =
            initialised-more d past n
            ∙ ap (λ b. cond (nat_eq (layer p) n && b) true (cond (begins d || (nat_eq (layer p) n && d.reset)) false (initialised past n))) start-of
            ∙ ap (λ b. cond (nat_eq (layer p) n && start) true (cond (b || (nat_eq (layer p) n && d.reset)) false (initialised past n))) begins-is
            ∙ ap (λ b. cond (nat_eq (layer p) n && start) true (cond ((z && start) || (nat_eq (layer p) n && b)) false (initialised past n))) reset-of

        go : (o : Bool) → nat_eq (layer p) n ≡ o →
            (get_or after n no_state).initialised ≡ cond (o && start) true (cond ((z && start) || (o && steps.is_reset a)) false (initialised past n))
        go true e =
            let same : layer p ≡ n = eqb-true (layer p) n e in
            ap (λ (x : LayerState). x.initialised) (own-state n same) ∙ ap (λ h. start || (h && not (steps.is_reset a))) (here-is ∙ ap (initialised past) same)
            ∙ joins z start (steps.is_reset a) (initialised past n)
        go false e =
            ap (λ (x : LayerState). x.initialised) (foreign-state n e) ∙ apart (z && start) (get_or s.layers n no_state) ∙ ap (λ h. cond ((z && start) || false) false h) (stands.initialised_are n)

    led-behind : (q : Fact) → (get_or after (layer q) no_state).after_start ≡ follows_start (look (d ∷ past) q)
    unfolding follows_start look judgement
    led-behind q = go (nat_eq (layer p) (layer q)) refl ∙ sym more
      where
        before : Bool
        before = led (in_sequence past (layer q))

        more : led (in_sequence (d ∷ past) (layer q)) ≡ cond (nat_eq (layer p) (layer q) && (is_irap (kind p) || start)) start (cond (z && start) false before)
        more =
            led-more d past (layer q)
            ∙ ap (λ b. cond (nat_eq (layer p) (layer q) && (b && (is_irap (kind p) || d.start))) d.start (cond (begins d) false before)) picture-of
            ∙ ap (λ b. cond (nat_eq (layer p) (layer q) && (is_irap (kind p) || b)) b (cond (begins d) false before)) start-of
            ∙ ap (λ b. cond (nat_eq (layer p) (layer q) && (is_irap (kind p) || start)) start (cond b false before)) begins-is

        go : (o : Bool) → nat_eq (layer p) (layer q) ≡ o →
            (get_or after (layer q) no_state).after_start ≡ cond (o && (is_irap (kind p) || start)) start (cond (z && start) false before)
        go true e =
            let same : layer p ≡ layer q = eqb-true (layer p) (layer q) e in
            ap (λ (x : LayerState). x.after_start) (own-state (layer q) same) ∙ ap (λ h. cond (is_irap (kind p) || start) start h) (ap (λ n. led (in_sequence past n)) same)
            ∙ leads (is_irap (kind p)) start z before
        go false e =
            ap (λ (x : LayerState). x.after_start) (foreign-state (layer q) e) ∙ behind_apart (z && start) (get_or s.layers (layer q) no_state) ∙ ap (λ h. cond (z && start) false h) (stands.after_starts q)

    stands-behind : Stands (steps.with_picture s (layer p) a) (d ∷ past)
    stands-behind = record {
      all = length-set layers (layer p) (steps.behind a) ∙ all-are;
      anew = anew-more;
      in_first_au = first-more;
      initialised_are = initialised-behind;
      after_starts = led-behind;
    }

  pub stands-more : layer p < 64 → Stands (steps.with_picture s pic.layer (steps.asked_by s vps pic)) (judged past p ∷ past)
  stands-more few =
      subst (λ n. Stands (steps.with_picture s n (steps.asked_by s vps pic)) (judged past p ∷ past)) (sym seen.layer_is)
      (subst (λ x. Stands (steps.with_picture s (layer p) x) (judged past p ∷ past)) (sym asked-is)
      (subst (λ d. Stands (steps.with_picture s (layer p) a) (d ∷ past)) (sym judged-is) (stands-behind few)))

pub stands-none : Stands (record { layers = replicate 64 no_state; anew = true; in_first_au = false }) []
unfolding is_anew look initialised follows_start sequence from
stands-none = record {
  all = length-replicate 64 no_state;
  anew = λ p. refl;
  in_first_au = λ p. refl;
  initialised_are = λ n. ap (λ (x : LayerState). x.initialised) (none_at 64 n);
  after_starts = λ p. ap (λ (x : LayerState). x.after_start) (none_at 64 (layer p));
}

-- ---- Units that aren't pictures

abbrev ends : Fact → Bool
ends p = is_end p || is_layer_end p

pub end_no_picture : (p : Fact) → ends p ≡ true → is_picture p ≡ false
end_no_picture p h = false_from_ne_true (is_picture p) (λ w. both_ways (ends p) (or_from (is_end p) (is_layer_end p) (picture_no_end p w) (picture_no_layer_end p w)) h)

pub base_end : (p : Fact) → layer p ≡ 0 → ends p ≡ true → is_end p ≡ true
base_end p zero h =
    let no : is_layer_end p ≡ false =
    and_left (not (nat_eq (layer p) 0) && is_known p.placed.item) (is_eos_kind (kind p)) (and_left (not (nat_eq (layer p) 0)) (is_known p.placed.item) (ap not (eq-eqb (layer p) 0 zero))) in
    sym (ap (λ b. is_end p || b) no ∙ or_false (is_end p)) ∙ h

pub upper_end : (p : Fact) → nat_eq (layer p) 0 ≡ false → ends p ≡ true → is_layer_end p ≡ true
upper_end p above h =
    let no : is_end p ≡ false = and_left (nat_eq (layer p) 0 && is_known p.placed.item) (is_eos_kind (kind p) || is_eob_kind (kind p)) (and_left (nat_eq (layer p) 0) (is_known p.placed.item) above) in
    sym (ap (λ b. b || is_layer_end p) no) ∙ h

module _ (past : List Judged) (p : Fact) (none : is_picture p ≡ false) where
  abbrev e : Judged
  e = judged past p

  no_start : e.start ≡ false
  unfolding judged judgement is_start is_sequence_start
  no_start = go (nat_eq (layer p) 0)
    where
      l : Look
      l = look (asked past p) p

      no_base : is_base p ≡ false
      no_base = and_right (nat_eq (layer p) 0) (is_picture p) none

      go : (b : Bool) → cond b (is_base p && (is_idr_or_bla p || is_anew l)) (is_picture p && starts_layer l p) ≡ false
      go true = and_left (is_base p) (is_idr_or_bla p || is_anew l) no_base
      go false = and_left (is_picture p) (starts_layer l p) none

  no_seq : e.seq ≡ false
  unfolding judged judgement is_sequence_start
  no_seq = and_left (is_base p) (is_idr_or_bla p || is_anew (look (asked past p) p)) (and_right (nat_eq (layer p) 0) (is_picture p) none)

  reset-end : e.reset ≡ (not (nat_eq (layer p) 0) && is_layer_end p)
  unfolding judged judgement is_reset
  reset-end =
      ap (λ b. not (nat_eq (layer p) 0) && (is_layer_end p || (b && is_idr_or_bla p && (look (asked past p) p).here && not (is_start (look (asked past p) p) p)))) none
      ∙ ap (λ b. not (nat_eq (layer p) 0) && b) (or_false (is_layer_end p))

  initialised-end : (n : ℕ) → initialised (e ∷ past) n ≡ cond (nat_eq (layer p) n && (not (nat_eq (layer p) 0) && is_layer_end p)) false (initialised past n)
  unfolding judged judgement
  initialised-end n =
      let o : Bool = nat_eq (layer p) n in
      let z : Bool = nat_eq (layer p) 0 in
      let h : Bool = initialised past n in
      initialised-more e past n
      ∙ ap (λ b. cond (o && b) true (cond ((z && e.seq) || (o && e.reset)) false h)) no_start
      ∙ ap (λ b. cond (o && false) true (cond ((z && b) || (o && e.reset)) false h)) no_seq
      ∙ ap (λ b. cond (o && false) true (cond ((z && false) || (o && b)) false h)) reset-end
      ∙ go o z (not z && is_layer_end p) h
    where
      go : (o z r h : Bool) → cond (o && false) true (cond ((z && false) || (o && r)) false h) ≡ cond (o && r) false h
      go true true r h = refl
      go true false r h = refl
      go false true r h = refl
      go false false r h = refl

  led-end : (n : ℕ) → led (in_sequence (e ∷ past) n) ≡ led (in_sequence past n)
  unfolding judged judgement
  led-end n =
      let o : Bool = nat_eq (layer p) n in
      let z : Bool = nat_eq (layer p) 0 in
      let h : Bool = led (in_sequence past n) in
      led-more e past n
      ∙ ap (λ b. cond (o && (b && (is_irap (kind p) || e.start))) e.start (cond (z && e.seq) false h)) none
      ∙ ap (λ b. cond (o && false) e.start (cond (z && b) false h)) no_seq
      ∙ go o z e.start h
    where
      go : (o z s h : Bool) → cond (o && false) s (cond (z && false) false h) ≡ h
      go true true s h = refl
      go true false s h = refl
      go false true s h = refl
      go false false s h = refl

  anew-end : (q : Fact) → is_anew (look (e ∷ past) q) ≡ cond (nat_eq (layer p) 0 && is_end p) true (is_anew (look past q))
  unfolding is_anew look judged judgement
  anew-end q = ap (λ b. option_map (λ (d : Judged). is_end d.fact) (cond (nat_eq (layer p) 0 && (b || is_end p)) (Some e) (find ends past)) otherwise true) none ∙ go (nat_eq (layer p) 0) (is_end p) refl
    where
      ends : Judged → Bool
      ends d = of_layer 0 d && (is_picture d.fact || is_end d.fact)

      go : (z b : Bool) → is_end p ≡ b → option_map (λ (d : Judged). is_end d.fact) (cond (z && b) (Some e) (find ends past)) otherwise true ≡ cond (z && b) true (option_map (λ (d : Judged). is_end d.fact) (find ends past) otherwise true)
      go true true w = w
      go true false w = refl
      go false b w = refl

  first-end : (q : Fact) → (option_map (λ (d : Judged). d.seq) (look (e ∷ past) q).base otherwise false) ≡ (option_map (λ (d : Judged). d.seq) (look past q).base otherwise false)
  unfolding look judged judgement
  first-end q = ap (λ b. option_map (λ (d : Judged). d.seq) b otherwise false) (cond-false (nat_eq (layer p) 0 && is_picture p) (Some e) (find (λ d. of_layer 0 d && is_picture d.fact) past) (and_right (nat_eq (layer p) 0) (is_picture p) none))

  module _ (s : StatesValue) (stands : Stands s past) where
    led-kept : (q : Fact) → (get_or s.layers (layer q) no_state).after_start ≡ follows_start (look (e ∷ past) q)
    unfolding follows_start look
    led-kept q = stands.after_starts q ∙ sym (led-end (layer q))

    -- what is neither a picture nor an end changes nothing
    pub stands-over : is_end p ≡ false → is_layer_end p ≡ false → Stands s (e ∷ past)
    stands-over no_end no_layer_end = record {
      all = stands.all;
      anew = λ q. anew-end q ∙ cond-false (nat_eq (layer p) 0 && is_end p) true (is_anew (look past q)) (and_right (nat_eq (layer p) 0) (is_end p) no_end) ∙ stands.anew q;
      in_first_au = λ q. first-end q ∙ stands.in_first_au q;
      initialised_are = λ n.
          stands.initialised_are n
          ∙ sym (initialised-end n ∙ cond-false (nat_eq (layer p) n && (not (nat_eq (layer p) 0) && is_layer_end p)) false (initialised past n)
          (and_right (nat_eq (layer p) n) (not (nat_eq (layer p) 0) && is_layer_end p) (and_right (not (nat_eq (layer p) 0)) (is_layer_end p) no_layer_end)));
      after_starts = led-kept;
    }

    -- an end of layer 0
    pub stands-end : layer p ≡ 0 → is_end p ≡ true → Stands (record { layers = s.layers; anew = true; in_first_au = s.in_first_au }) (e ∷ past)
    stands-end zero end = record {
      all = stands.all;
      anew = λ q. anew-end q ∙ cond-true (nat_eq (layer p) 0 && is_end p) true (is_anew (look past q)) (and_from (nat_eq (layer p) 0) (is_end p) (eq-eqb (layer p) 0 zero) end);
      in_first_au = λ q. first-end q ∙ stands.in_first_au q;
      initialised_are = λ n.
          stands.initialised_are n
          ∙ sym (initialised-end n ∙ cond-false (nat_eq (layer p) n && (not (nat_eq (layer p) 0) && is_layer_end p)) false (initialised past n)
          (and_right (nat_eq (layer p) n) (not (nat_eq (layer p) 0) && is_layer_end p) (ap (λ b. not b && is_layer_end p) (eq-eqb (layer p) 0 zero))));
      after_starts = led-kept;
    }

    -- an end of another layer
    abbrev uninitialised : ℕ → List LayerState
    uninitialised n = slice_set s.layers n (record { initialised = false; after_start = (get_or s.layers n no_state).after_start })

    pub stands-layer_end : (m : ℕ) → m < 64 → layer p ≡ m → nat_eq m 0 ≡ false → is_layer_end p ≡ true → Stands (record { layers = uninitialised m; anew = s.anew; in_first_au = s.in_first_au }) (e ∷ past)
    stands-layer_end m few same above end = record {
      all = length-set s.layers m (record { initialised = false; after_start = (get_or s.layers m no_state).after_start }) ∙ stands.all;
      anew = λ q. anew-end q ∙ cond-false (nat_eq (layer p) 0 && is_end p) true (is_anew (look past q)) (and_left (nat_eq (layer p) 0) (is_end p) away) ∙ stands.anew q;
      in_first_au = λ q. first-end q ∙ stands.in_first_au q;
      initialised_are = λ n. initialised_at n (nat_eq (layer p) n) refl;
      after_starts = λ q. led_at (layer q) (nat_eq (layer p) (layer q)) refl ∙ led-kept q;
    }
      where
        away : nat_eq (layer p) 0 ≡ false
        away = ap (λ n. nat_eq n 0) same ∙ above

        within : m < length s.layers
        within = let all : length s.layers ≡ 64 = stands.all in omega (arith, all, few)

        state : LayerState
        state = record { initialised = false; after_start = (get_or s.layers m no_state).after_start }

        initialised_at : (n : ℕ) (o : Bool) → nat_eq (layer p) n ≡ o → (get_or (uninitialised m) n no_state).initialised ≡ initialised (e ∷ past) n
        initialised_at n true w =
            let at : m ≡ n = sym same ∙ eqb-true (layer p) n w in
            ap (λ n. (get_or (uninitialised m) n no_state).initialised) (sym at) ∙ ap (λ (x : LayerState). x.initialised) (get_or-set_same s.layers m state no_state within)
            ∙ sym (initialised-end n ∙ cond-true (nat_eq (layer p) n && (not (nat_eq (layer p) 0) && is_layer_end p)) false (initialised past n)
            (and_from (nat_eq (layer p) n) (not (nat_eq (layer p) 0) && is_layer_end p) w (and_from (not (nat_eq (layer p) 0)) (is_layer_end p) (ap not away) end)))
        initialised_at n false w =
            ap (λ (x : LayerState). x.initialised) (get_or-set_other s.layers m n state no_state (λ v. eqb-false (layer p) n w (same ∙ sym v)))
            ∙ stands.initialised_are n
            ∙ sym (initialised-end n ∙ cond-false (nat_eq (layer p) n && (not (nat_eq (layer p) 0) && is_layer_end p)) false (initialised past n)
            (and_left (nat_eq (layer p) n) (not (nat_eq (layer p) 0) && is_layer_end p) w))

        led_at : (n : ℕ) (o : Bool) → nat_eq (layer p) n ≡ o → (get_or (uninitialised m) n no_state).after_start ≡ (get_or s.layers n no_state).after_start
        led_at n true w =
            let at : m ≡ n = sym same ∙ eqb-true (layer p) n w in
            ap (λ n. (get_or (uninitialised m) n no_state).after_start) (sym at) ∙ ap (λ (x : LayerState). x.after_start) (get_or-set_same s.layers m state no_state within) ∙ ap (λ n. (get_or s.layers n no_state).after_start) at
        led_at n false w = ap (λ (x : LayerState). x.after_start) (get_or-set_other s.layers m n state no_state (λ v. eqb-false (layer p) n w (same ∙ sym v)))

-- ---- A changed video parameter set

started : (l : Look) (p : Fact) → is_started (state_in l p) ≡ is_start l p
unfolding state_in
started l p = go (is_start l p) (is_skipped l p)
  where
    go : (s k : Bool) → is_started (if s then PicState.Start else if k then PicState.Skipped else PicState.Decoded) ≡ s
    go true k = refl
    go false true = refl
    go false false = refl

pub mid_cvs-is : (past : List Placed) (l : Look) (p : Fact) → is_base p ≡ true → vps_mid_cvs past l p ≡ (not (is_started (state_in l p)) && has_changed_vps past p.placed)
unfolding vps_mid_cvs is_start
mid_cvs-is past l p base =
    ap (λ b. b && not (is_sequence_start l p) && has_changed_vps past p.placed) base
    ∙ sym (ap (λ b. not b && has_changed_vps past p.placed) (started l p ∙ cond-true (nat_eq (layer p) 0) (is_sequence_start l p) (is_picture p && starts_layer l p) (and_parts (nat_eq (layer p) 0) (is_picture p) base).0))
