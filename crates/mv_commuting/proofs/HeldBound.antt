-- What is held is decoded, of the layer, of falling access units, and in an accepted stream no more than 16 pictures.
use Rattle.std.proofs.Common.{◌≡◌, ℕ, suc, ◌+◌, ◌<◌, ◌≤◌, Bool, true, false, cond, not, ◌&&◌, ◌||◌, List, [], ◌∷◌, length, map, reverse, Option, None, Some, refl, ap, sym, subst, ◌∙◌, filter, arith}
use Rattle.std.specs.Prelude.{All, nat_eq, nat_lt}
use Rattle.std.specs.List.{cons_option, filter_map, list_all, list_any}
use Rattle.std.proofs.lemmas.Bool.{and_parts, eqb-true, ltb-false, ne_eqb}
use Rattle.std.proofs.lemmas.List.{length-map}
use Rattle.std.proofs.lemmas.List.Elements.{All-cons, All-head, All-nil, All-tail, All-weaker, filter_passes}
use Rattle.mv_layers.specs.OutputLayers.{is_among}
use Rattle.mv_history.specs.History.{Throughout, from, run}
use Rattle.mv_pictures.specs.AccessUnits.{all_placed}
use Rattle.mv_pictures.specs.Facts.{Fact, facts}
use Rattle.mv_pictures.specs.Held.{Held, held_behind, marks, match_of, names, spares}
use Rattle.mv_pictures.specs.History.{facts_of, history, history_of, judged, judgement}
use Rattle.mv_pictures.specs.Items.{items}
use Rattle.mv_pictures.specs.Judged.{Judged, au, begins, is_picture, layer, of_layer}
use Rattle.mv_pictures.specs.Look.{Look, asked, in_sequence, look, sequence}
use Rattle.mv_pictures.specs.PictureRules.{too_many_refs}
use Rattle.mv_pictures.specs.Rules.{picture_cases}
use Rattle.mv_pictures.specs.SliceFields.{entries}
use Rattle.mv_pictures.specs.Starts.{is_decoded, is_skipped}
use Rattle.mv_pictures.specs.Verdict.{breaks_none, is_accepted, no_picture}
use Rattle.mv_commuting.specs.Kept.{IsEarlierPicture}
use Rattle.mv_commuting.specs.HeldOneMore.{held_of, marked_by, names_held, unmarked}
use Rattle.mv_commuting.proofs.Extracts.{accepted-fine}
use Rattle.mv_commuting.proofs.HeldMore.{layer-held, layers-held}
use Rattle.mv_commuting.proofs.Histories.{AllNone, BreaksNone, all_none, breaks_none-at, breaks_none-of}
use Rattle.mv_commuting.proofs.Items.{each}
use Rattle.mv_commuting.proofs.Rising.{pictures-rise}
use Rattle.mv_commuting.proofs.Steady.{AllFine, hist, this_fact, this_judged}

-- ---- What holds of the decoded units of a layer holds of what is held

pub held_all : (P : Judged → Type 0) (behind xs : List Judged) → All (λ (e : Judged). e.decoded ≡ true → P e) xs → All (λ (h : Held). P h.it) (held_behind behind xs)
unfolding held_behind
held_all P behind [] all = All-nil (λ (h : Held). P h.it)
held_all P behind (d ∷ earlier) all = go (d.decoded && list_all (spares d) behind) refl (held_all P (d ∷ behind) earlier (All-tail (λ (e : Judged). e.decoded ≡ true → P e) d earlier all))
  where
    go : (b : Bool) → (d.decoded && list_all (spares d) behind) ≡ b → All (λ (h : Held). P h.it) (held_behind (d ∷ behind) earlier) →
        All (λ (h : Held). P h.it) (cond b (record { it = d; long = list_any (marks d) behind } ∷ held_behind (d ∷ behind) earlier) (held_behind (d ∷ behind) earlier))
    go true is rest =
        All-cons (λ (h : Held). P h.it) (record { it = d; long = list_any (marks d) behind }) (held_behind (d ∷ behind) earlier)
        (All-head (λ (e : Judged). e.decoded ≡ true → P e) d earlier all (and_parts d.decoded (list_all (spares d) behind) is).0) rest
    go false is rest = rest

pub held-decoded : (past : List Judged) (n : ℕ) → All (λ (h : Held). h.it.decoded ≡ true) (held_of past n)
held-decoded past n =
    held_all (λ (e : Judged). e.decoded ≡ true) [] (in_sequence past n) (each (λ (e : Judged). e.decoded ≡ true → e.decoded ≡ true) (λ e h. h) (in_sequence past n))

pub held-layer : (past : List Judged) (n : ℕ) → All (λ (h : Held). of_layer n h.it ≡ true) (held_of past n)
held-layer past n =
    held_all (λ (e : Judged). of_layer n e ≡ true) [] (in_sequence past n)
    (All-weaker (λ (e : Judged). of_layer n e ≡ true) (λ (e : Judged). e.decoded ≡ true → of_layer n e ≡ true) (λ e h decoded. h) (in_sequence past n) (filter_passes (of_layer n) (sequence past)))

-- ---- Access units fall

-- each held picture is of a later access unit than those that are held of before it
abbrev pub Falls : List Held → Type 0
Falls hs = Throughout (λ past (h : Held). All (λ (g : Held). au g.it.fact < au h.it.fact) past) hs

abbrev IsBehind : Judged → Judged → Type 0
IsBehind d e = e.decoded ≡ true → au e.fact < au d.fact

abbrev FallsDecoded : List Judged → Type 0
FallsDecoded ds = Throughout (λ past (d : Judged). d.decoded ≡ true → All (IsBehind d) past) ds

falls_held : (behind xs : List Judged) → FallsDecoded xs → Falls (held_behind behind xs)
unfolding held_behind
falls_held behind [] h = tt
falls_held behind (d ∷ earlier) h = go (d.decoded && list_all (spares d) behind) refl (falls_held (d ∷ behind) earlier h.1)
  where
    go : (b : Bool) → (d.decoded && list_all (spares d) behind) ≡ b → Falls (held_behind (d ∷ behind) earlier) →
        Falls (cond b (record { it = d; long = list_any (marks d) behind } ∷ held_behind (d ∷ behind) earlier) (held_behind (d ∷ behind) earlier))
    go true is rest = (held_all (λ (e : Judged). au e.fact < au d.fact) (d ∷ behind) earlier (h.0 (and_parts d.decoded (list_all (spares d) behind) is).0), rest)
    go false is rest = rest

abbrev IsShown : Judged → Type 0
IsShown d = d.decoded ≡ true → is_picture d.fact ≡ true

behind_own : (n : ℕ) (d : Judged) (ds : List Judged) → of_layer n d ≡ true → All IsShown ds → All (IsEarlierPicture d) ds → All (IsBehind d) (filter (of_layer n) (from begins ds))
unfolding from
behind_own n d [] own shown earlier = All-nil (IsBehind d)
behind_own n d (e ∷ ds) own shown earlier = go (begins e) (of_layer n e) refl (behind_own n d ds own (All-tail IsShown e ds shown) (All-tail (IsEarlierPicture d) e ds earlier))
  where
    now : of_layer n e ≡ true → IsBehind d e
    now is decoded =
        All-head (IsEarlierPicture d) e ds earlier (All-head IsShown e ds shown decoded)
        (eqb-true (layer e.fact) n is ∙ sym (eqb-true (layer d.fact) n own))

    go : (b o : Bool) → of_layer n e ≡ o → All (IsBehind d) (filter (of_layer n) (from begins ds)) → All (IsBehind d) (filter (of_layer n) (cond b (e ∷ []) (e ∷ from begins ds)))
    go true true is rest = subst (λ o. All (IsBehind d) (cond o (e ∷ []) [])) (sym is) (All-cons (IsBehind d) e [] (now is) (All-nil (IsBehind d)))
    go true false is rest = subst (λ o. All (IsBehind d) (cond o (e ∷ []) [])) (sym is) (All-nil (IsBehind d))
    go false true is rest =
        subst (λ o. All (IsBehind d) (cond o (e ∷ filter (of_layer n) (from begins ds)) (filter (of_layer n) (from begins ds)))) (sym is)
        (All-cons (IsBehind d) e (filter (of_layer n) (from begins ds)) (now is) rest)
    go false false is rest = subst (λ o. All (IsBehind d) (cond o (e ∷ filter (of_layer n) (from begins ds)) (filter (of_layer n) (from begins ds)))) (sym is) rest

falls_own : (n : ℕ) (ds : List Judged) → All IsShown ds → Throughout (λ past d. is_picture d.fact ≡ true → All (IsEarlierPicture d) past) ds → FallsDecoded (filter (of_layer n) (from begins ds))
unfolding from
falls_own n [] shown h = tt
falls_own n (d ∷ past) shown h = go (begins d) (of_layer n d) refl (falls_own n past (All-tail IsShown d past shown) h.1)
  where
    go : (b o : Bool) → of_layer n d ≡ o → FallsDecoded (filter (of_layer n) (from begins past)) → FallsDecoded (filter (of_layer n) (cond b (d ∷ []) (d ∷ from begins past)))
    go true true is rest = subst (λ o. FallsDecoded (cond o (d ∷ []) [])) (sym is) (λ decoded. All-nil (IsBehind d), tt)
    go true false is rest = subst (λ o. FallsDecoded (cond o (d ∷ []) [])) (sym is) tt
    go false true is rest =
        subst (λ o. FallsDecoded (cond o (d ∷ filter (of_layer n) (from begins past)) (filter (of_layer n) (from begins past)))) (sym is)
        (λ decoded. behind_own n d past is (All-tail IsShown d past shown) (h.0 (All-head IsShown d past shown decoded)), rest)
    go false false is rest = subst (λ o. FallsDecoded (cond o (d ∷ filter (of_layer n) (from begins past)) (filter (of_layer n) (from begins past)))) (sym is) rest

decoded_picture : (l : Look) (p : Fact) → is_decoded l p ≡ true → is_picture p ≡ true
unfolding is_decoded
decoded_picture l p h = (and_parts (is_picture p) (not (is_skipped l p)) h).0

all_shown : (us : List (List ℕ)) → All IsShown (hist us)
unfolding items run all_placed facts history
all_shown [] = All-nil IsShown
all_shown (u ∷ us) = All-cons IsShown (this_judged us u) (hist us) (unfold judged judgement in decoded_picture (look (asked (hist us) (this_fact us u)) (this_fact us u)) (this_fact us u)) (all_shown us)

pub held-falls : (us : List (List ℕ)) (n : ℕ) → AllFine us → Falls (held_of (hist us) n)
unfolding sequence
held-falls us n fine = falls_held [] (in_sequence (hist us) n) (falls_own n (hist us) (all_shown us) (pictures-rise us fine))

-- ---- At most 16

either_length : {X : Type 0} (p q : X → Bool) (xs : List X) → length (filter (λ x. p x || q x) xs) ≤ length (filter p xs) + length (filter q xs)
either_length p q [] = omega arith
either_length p q (x ∷ xs) = go (p x) (q x) (either_length p q xs)
  where
    go : (a b : Bool) → length (filter (λ x. p x || q x) xs) ≤ length (filter p xs) + length (filter q xs) →
        length (cond (a || b) (x ∷ filter (λ x. p x || q x) xs) (filter (λ x. p x || q x) xs)) ≤ length (cond a (x ∷ filter p xs) (filter p xs)) + length (cond b (x ∷ filter q xs) (filter q xs))
    go true true low = omega (arith, low)
    go true false low = omega (arith, low)
    go false true low = omega (arith, low)
    go false false low = low

none_equal : (m : ℕ) (hs : List Held) → All (λ (g : Held). au g.it.fact < m) hs → length (filter (λ (h : Held). nat_eq m (au h.it.fact)) hs) ≡ 0
none_equal m [] all = refl
none_equal m (h ∷ hs) all =
    let less : au h.it.fact < m = All-head (λ (g : Held). au g.it.fact < m) h hs all in
    ap (λ b. length (cond b (h ∷ filter (λ (h : Held). nat_eq m (au h.it.fact)) hs) (filter (λ (h : Held). nat_eq m (au h.it.fact)) hs)))
    (ne_eqb m (au h.it.fact) (λ same. omega (arith, less, same)))
    ∙ none_equal m hs (All-tail (λ (g : Held). au g.it.fact < m) h hs all)

one_equal : (m : ℕ) (hs : List Held) → Falls hs → length (filter (λ (h : Held). nat_eq m (au h.it.fact)) hs) ≤ 1
one_equal m [] falls = omega arith
one_equal m (h ∷ hs) falls = go (nat_eq m (au h.it.fact)) refl (one_equal m hs falls.1)
  where
    go : (b : Bool) → nat_eq m (au h.it.fact) ≡ b → length (filter (λ (h : Held). nat_eq m (au h.it.fact)) hs) ≤ 1 →
        length (cond b (h ∷ filter (λ (h : Held). nat_eq m (au h.it.fact)) hs) (filter (λ (h : Held). nat_eq m (au h.it.fact)) hs)) ≤ 1
    go true is rest =
        let none : length (filter (λ (h : Held). nat_eq m (au h.it.fact)) hs) ≡ 0 =
        none_equal m hs (subst (λ k. All (λ (g : Held). au g.it.fact < k) hs) (sym (eqb-true m (au h.it.fact) is)) falls.0) in
        omega (arith, none)
    go false is rest = rest

few : (ns : List ℕ) (hs : List Held) → Falls hs → length (filter (λ (h : Held). is_among ns (au h.it.fact)) hs) ≤ length ns
few [] hs falls = let none : length (filter (λ (h : Held). false) hs) ≡ 0 = nothing hs in omega (arith, none)
  where
    nothing : (hs : List Held) → length (filter (λ (h : Held). false) hs) ≡ 0
    nothing [] = refl
    nothing (h ∷ hs) = nothing hs
few (m ∷ ns) hs falls =
    let one : length (filter (λ (h : Held). nat_eq m (au h.it.fact)) hs) ≤ 1 = one_equal m hs falls in
    let rest : length (filter (λ (h : Held). is_among ns (au h.it.fact)) hs) ≤ length ns = few ns hs falls in
    let both : length (filter (λ (h : Held). nat_eq m (au h.it.fact) || is_among ns (au h.it.fact)) hs)
    ≤ length (filter (λ (h : Held). nat_eq m (au h.it.fact)) hs) + length (filter (λ (h : Held). is_among ns (au h.it.fact)) hs) =
    either_length (λ (h : Held). nat_eq m (au h.it.fact)) (λ (h : Held). is_among ns (au h.it.fact)) hs in
    omega (arith, one, rest, both)

found_length : {X Y : Type 0} (f : X → Option Y) (xs : List X) → length (filter_map f xs) ≤ length xs
found_length f [] = omega arith
found_length f (x ∷ xs) = go (f x) (found_length f xs)
  where
    go : (o : Option _) → length (filter_map f xs) ≤ length xs → length (cons_option o (filter_map f xs)) ≤ suc (length xs)
    go None low = omega (arith, low)
    go (Some y) low = omega (arith, low)

-- by TooManyRefs a decoded picture names at most 15
few_names : (l : Look) (p : Fact) → too_many_refs l p ≡ false → length (names l p) ≤ 15
unfolding too_many_refs names
few_names l p rule = go (is_decoded l p) rule
  where
    go : (b : Bool) → (b && nat_lt 15 (length (entries p))) ≡ false → length (cond b (map (λ (h : Held). au h.it.fact) (filter_map (match_of l p) (entries p))) []) ≤ 15
    go false h = omega arith
    go true h =
        let some : length (map (λ (h : Held). au h.it.fact) (filter_map (match_of l p) (entries p))) ≡ length (filter_map (match_of l p) (entries p)) =
        length-map (filter_map (match_of l p) (entries p)) (λ (h : Held). au h.it.fact) in
        let less : length (filter_map (match_of l p) (entries p)) ≤ length (entries p) = found_length (match_of l p) (entries p) in
        let most : length (entries p) ≤ 15 = ltb-false 15 (length (entries p)) h in
        omega (arith, some, less, most)

this_refs : (us : List (List ℕ)) (u : List ℕ) → BreaksNone (hist us) (this_judged us u) → too_many_refs (look (asked (hist us) (this_fact us u)) (this_fact us u)) (this_fact us u) ≡ false
unfolding picture_cases judged judgement
this_refs us u h =
    let parts = breaks_none-of (hist us) (this_judged us u) h in
    let each_case : AllNone (picture_cases (look (asked (hist us) (this_fact us u)) (this_fact us u)) (this_fact us u)) =
    all_none (picture_cases (look (asked (hist us) (this_fact us u)) (this_fact us u)) (this_fact us u)) parts.of_picture in
    each_case.1.1.1.1.1.1.0

this_names : (us : List (List ℕ)) (u : List ℕ) → BreaksNone (hist us) (this_judged us u) → length (this_judged us u).names ≤ 15
unfolding judged judgement
this_names us u h = few_names (look (asked (hist us) (this_fact us u)) (this_fact us u)) (this_fact us u) (this_refs us u h)

one_more : (d : Judged) (hs : List Held) → length d.names ≤ 15 → Falls hs → length (unmarked d ∷ map (marked_by d) (filter (names_held d) hs)) ≤ 16
one_more d hs few_here falls =
    let named : length (filter (names_held d) hs) ≤ length d.names = few d.names hs falls in
    let same : length (map (marked_by d) (filter (names_held d) hs)) ≡ length (filter (names_held d) hs) = length-map (filter (names_held d) hs) (marked_by d) in
    omega (arith, few_here, named, same)

held_next : (us : List (List ℕ)) (u : List ℕ) (n : ℕ) → AllFine us → BreaksNone (hist us) (this_judged us u) → length (held_of (hist us) n) ≤ 16 → length (held_of (this_judged us u ∷ hist us) n) ≤ 16
held_next us u n fine rules before = go (of_layer n (this_judged us u)) refl
  where
    here : (dec s : Bool) →
        length (cond dec (unmarked (this_judged us u) ∷ cond s [] (map (marked_by (this_judged us u)) (filter (names_held (this_judged us u)) (held_of (hist us) n)))) (held_of (hist us) n)) ≤ 16
    here true true = omega arith
    here true false = one_more (this_judged us u) (held_of (hist us) n) (this_names us u rules) (held-falls us n fine)
    here false s = before

    others : (b : Bool) → length (cond b [] (held_of (hist us) n)) ≤ 16
    others true = omega arith
    others false = before

    go : (o : Bool) → of_layer n (this_judged us u) ≡ o → length (held_of (this_judged us u ∷ hist us) n) ≤ 16
    go true is =
        subst (λ (hs : List Held). length hs ≤ 16) (sym (layer-held (hist us) (this_fact us u) n is))
        (here (this_judged us u).decoded (this_judged us u).start)
    go false is =
        subst (λ (hs : List Held). length hs ≤ 16) (sym (layers-held (hist us) (this_fact us u) n is))
        (others (begins (this_judged us u)))

pub held_at_most : (us : List (List ℕ)) (n : ℕ) → AllFine us → breaks_none (hist us) ≡ true → length (held_of (hist us) n) ≤ 16
unfolding items run all_placed facts history sequence from held_behind
held_at_most [] n fine h = omega arith
held_at_most (u ∷ us) n fine h =
    let parts = breaks_none-at (this_judged us u) (hist us) h in
    held_next us u n fine.1 parts.0 (held_at_most us n fine.1 parts.1)

-- ---- In the order of the stream

pub falls-of : (us : List (List ℕ)) (n : ℕ) → is_accepted us ≡ true → Falls (held_of (history_of us) n)
unfolding history_of facts_of
falls-of us n h = held-falls (reverse us) n (accepted-fine us h)

all_fine : (us : List (List ℕ)) → is_accepted us ≡ true → AllFine (reverse us)
all_fine us h = accepted-fine us h

pub at_most-of : (us : List (List ℕ)) (n : ℕ) → is_accepted us ≡ true → length (held_of (history_of us) n) ≤ 16
unfolding is_accepted history_of facts_of
at_most-of us n h =
    held_at_most (reverse us) n (all_fine us h) (and_parts (breaks_none (hist (reverse us))) (not (no_picture (hist (reverse us)))) h).0
