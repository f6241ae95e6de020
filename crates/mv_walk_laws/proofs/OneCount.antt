-- The decoded pictures of an access unit have one count, that of its base picture.
use Rattle.std.proofs.Common.{◌≡◌, ℕ, ℤ, pos, ◌≤◌, Bool, true, false, cond, not, ◌&&◌, ◌||◌, List, [], ◌∷◌, reverse, Option, None, Some, refl, ap, sym, subst, ◌∙◌, filter, arith, if◌then◌else◌}
use Rattle.std.specs.Prelude.{All, nat_eq, nat_le, option_and_then, option_map}
use Rattle.std.specs.List.{find, list_any}
use Rattle.std.proofs.lemmas.Bool.{and_from, and_parts, eq-eqb, eqb-true, le-leb, or_parts}
use Rattle.std.proofs.lemmas.Bool.Decides.{Decides-int_eq}
use Rattle.std.proofs.lemmas.List.Elements.{All-cons, All-nil, All-weaker}
use Rattle.mv_history.specs.History.{Throughout, run}
use Rattle.mv_history.proofs.Kept.{All-both, All-unmap}
use Rattle.mv_syntax.specs.Words.{◌otherwise◌}
use Rattle.mv_pictures.specs.AccessUnits.{Placed, all_placed, in_au as placed_in_au, layer as placed_layer, layer_order, pictures_of, placed}
use Rattle.mv_pictures.specs.Counts.{base_count, count}
use Rattle.mv_pictures.specs.Facts.{Fact, fact, facts}
use Rattle.mv_pictures.specs.Held.{has_count}
use Rattle.mv_pictures.specs.History.{facts_of, history, history_of, judged, judgement}
use Rattle.mv_pictures.specs.Items.{is_first_segment, is_picture as item_picture, items}
use Rattle.mv_pictures.specs.Judged.{Judged, au, in_au, is_picture, is_slice, layer, of_layer}
use Rattle.mv_pictures.specs.Look.{Look, asked, look}
use Rattle.mv_pictures.specs.Output.{count_of}
use Rattle.mv_pictures.specs.PictureRules.{has_base_count, has_low_bits, poc_mismatch}
use Rattle.mv_pictures.specs.Starts.{base_of, is_decoded, is_skipped, is_start}
use Rattle.mv_pictures.specs.Verdict.{breaks_none}
use Rattle.mv_commuting.specs.OneMore.{fact_behind}
use Rattle.mv_commuting.proofs.Facts.{this}
use Rattle.mv_commuting.proofs.Histories.{BreaksNone, breaks_none-at, fine-accepted}
use Rattle.mv_commuting.proofs.Rising.{numbers-rise-of}
use Rattle.mv_commuting.proofs.Shown.{placed_of_hist}
use Rattle.mv_commuting.proofs.Steady.{AllFine, IsFine, hist, this_fact, this_judged}
use Rattle.mv_au.specs.Tracker.{broken}
use Rattle.mv_walk_laws.specs.Streams.{item_behind, placed_behind, placed_units}
use Rattle.mv_walk_laws.proofs.Laters.{in-order}
use Rattle.mv_walk_laws.proofs.NoneDecoded.{this_rule}

-- ---- A base picture is the first picture of its access unit

abbrev IsElsewhere : ℕ → Placed → Type 0
IsElsewhere n q = item_picture q.item ≡ true → q.au ≡ n → ⊥

alone : (p : Placed) (ps : List Placed) → item_picture p.item ≡ true → placed_layer p ≡ 0 → layer_order ps p ≡ false → All (IsElsewhere p.au) ps
unfolding layer_order pictures_of
alone p ps picture base h = go ps (sym (ap (λ b. b && list_any (λ q. nat_le (placed_layer p) (placed_layer q)) (pictures_of p.au ps)) picture) ∙ h)
  where
    go : (qs : List Placed) → list_any (λ q. nat_le (placed_layer p) (placed_layer q)) (filter (λ (q : Placed). item_picture q.item && placed_in_au p.au q) qs) ≡ false → All (IsElsewhere p.au) qs
    go [] h = All-nil (IsElsewhere p.au)
    go (q ∷ qs) h = again (item_picture q.item && placed_in_au p.au q) refl h (go qs)
      where
        again : (b : Bool) → (item_picture q.item && placed_in_au p.au q) ≡ b →
            list_any (λ q. nat_le (placed_layer p) (placed_layer q)) (cond b (q ∷ filter (λ (q : Placed). item_picture q.item && placed_in_au p.au q) qs) (filter (λ (q : Placed). item_picture q.item && placed_in_au p.au q) qs)) ≡ false →
            (list_any (λ q. nat_le (placed_layer p) (placed_layer q)) (filter (λ (q : Placed). item_picture q.item && placed_in_au p.au q) qs) ≡ false → All (IsElsewhere p.au) qs) →
            All (IsElsewhere p.au) (q ∷ qs)
        again true e h rest =
            let parts = or_parts (nat_le (placed_layer p) (placed_layer q)) (list_any (λ q. nat_le (placed_layer p) (placed_layer q)) (filter (λ (q : Placed). item_picture q.item && placed_in_au p.au q) qs)) h in
            absurd (let wrong : true ≡ false = sym (le-leb (placed_layer p) (placed_layer q) (omega (arith, base))) ∙ parts.0 in cc)
        again false e h rest =
            All-cons (IsElsewhere p.au) q qs
            (λ picture here. let wrong : true ≡ false = sym (and_from (item_picture q.item) (placed_in_au p.au q) picture (eq-eqb q.au p.au here)) ∙ e in cc)
            (rest h)

-- the same of a history
none_here : (us : List (List ℕ)) (u : List ℕ) → layer_order (all_placed (items us)) (this us u) ≡ false → is_picture (this_fact us u) ≡ true → nat_eq (layer (this_fact us u)) 0 ≡ true →
    All (λ (e : Judged). is_picture e.fact ≡ true → au e.fact ≡ (this us u).au → ⊥) (hist us)
unfolding fact
none_here us u order picture base =
    All-unmap (IsElsewhere (this us u).au) (λ (d : Judged). d.fact.placed) (hist us)
    (subst (All (IsElsewhere (this us u).au)) (sym (placed_of_hist us))
    (alone (this us u) (all_placed (items us)) picture (eqb-true (placed_layer (this us u)) 0 base) order))

-- ---- A picture of another layer has the count of its base picture

abbrev latest : List Judged → Option Judged
latest past = find (λ (d : Judged). of_layer 0 d && is_picture d.fact) past

-- a base picture of an access unit, and its count
record HasBase (o : Option Judged) (n : ℕ) (c : Option ℤ) : Type 0 where
  pub it : Judged
  pub found : o ≡ Some it
  pub here : au it.fact ≡ n
  pub same : (c otherwise pos 0) ≡ count_of it

based : (n : ℕ) (o : Option Judged) (c : Option ℤ) →
    (option_map (λ c. has_count c (option_and_then (λ (d : Judged). d.count) (option_and_then (λ (d : Judged). if in_au n d then Some d else None) o))) c otherwise false) ≡ true → HasBase o n c
based n o None h = absurd (let wrong : false ≡ true = h in cc)
based n None (Some c) h = absurd (let wrong : false ≡ true = h in cc)
based n (Some b) (Some c) h = go (in_au n b) refl h
  where
    counted : (x : Option ℤ) → b.count ≡ x → has_count c x ≡ true → (Some c otherwise pos 0) ≡ count_of b
    counted None is h = absurd (let wrong : false ≡ true = h in cc)
    counted (Some x) is h = (Decides-int_eq c x).0 h ∙ ap (λ y. y otherwise pos 0) (sym is)

    go : (i : Bool) → in_au n b ≡ i → has_count c (option_and_then (λ (d : Judged). d.count) (cond i (Some b) None)) ≡ true → HasBase (Some b) n (Some c)
    go true is h = record { it = b; found = refl; here = eqb-true (au b.fact) n is; same = counted b.count refl h }
    go false is h = absurd (let wrong : false ≡ true = h in cc)

matches : (l : Look) (p : Fact) → nat_eq (layer p) 0 ≡ false → poc_mismatch l p ≡ false → is_decoded l p ≡ true → has_base_count l p ≡ true
unfolding poc_mismatch
matches l p above rule decoded = go (has_base_count l p) refl
  where
    go : (b : Bool) → has_base_count l p ≡ b → b ≡ true
    go true e = refl
    go false e = absurd (let wrong : true ≡ false =
        sym (ap (λ z. true && not z && (true || (is_start l p && not (has_low_bits l p)))) above)
        ∙ sym (ap (λ b. true && not (nat_eq (layer p) 0) && (not b || (is_start l p && not (has_low_bits l p)))) e)
        ∙ sym (ap (λ d. d && not (nat_eq (layer p) 0) && (not (has_base_count l p) || (is_start l p && not (has_low_bits l p)))) decoded)
        ∙ rule in cc)

count_based : (past : List Judged) (p : Fact) → nat_eq (layer p) 0 ≡ false → poc_mismatch (look past p) p ≡ false → is_decoded (look past p) p ≡ true →
    HasBase (latest past) (au p) (count (look past p) p)
unfolding base_count base_of look
count_based past p above rule decoded = based (au p) (latest past) (count (look past p) p) (matches (look past p) p above rule decoded)

-- ---- Decoded pictures

asked_is : (past : List Judged) (p : Fact) → is_picture p ≡ true → asked past p ≡ past
unfolding asked
asked_is past p h = ap (λ b. cond b past []) (and_parts (is_slice p) (is_first_segment p.placed.item.opening) h).0

abbrev IsPicture : Judged → Type 0
IsPicture d = d.decoded ≡ true → is_picture d.fact ≡ true

decoded_picture : (past : List Judged) (p : Fact) → IsPicture (judged past p)
unfolding judged judgement is_decoded
decoded_picture past p h = (and_parts (is_picture p) (not (is_skipped (look (asked past p) p) p)) h).0

all_pictures : (us : List (List ℕ)) → All IsPicture (hist us)
unfolding items run all_placed facts history
all_pictures [] = All-nil IsPicture
all_pictures (u ∷ us) = All-cons IsPicture (this_judged us u) (hist us) (decoded_picture (hist us) (this_fact us u)) (all_pictures us)

-- the next unit, where it is decoded, is the first picture of its access unit, or has the count of the base picture
upper_based : (us : List (List ℕ)) (u : List ℕ) → poc_mismatch (look (asked (hist us) (this_fact us u)) (this_fact us u)) (this_fact us u) ≡ false → nat_eq (layer (this_fact us u)) 0 ≡ false → (this_judged us u).decoded ≡ true →
    HasBase (latest (hist us)) (this us u).au (this_judged us u).count
unfolding judged judgement fact
upper_based us u rule above decoded =
    subst (λ past. HasBase (latest (hist us)) (au p) (count (look past p) p)) (sym same)
    (count_based (hist us) p above
    (subst (λ past. poc_mismatch (look past p) p ≡ false) same rule)
    (subst (λ past. is_decoded (look past p) p ≡ true) same decoded))
  where
    p : Fact
    p = this_fact us u

    same : asked (hist us) p ≡ hist us
    same = asked_is (hist us) p (unfold judged judgement in decoded_picture (hist us) p decoded)

-- ---- One unit more

-- where a decoded picture is of the access unit of the latest base picture, it has its count
abbrev HasItsCount : Option Judged → Judged → Type 0
HasItsCount o e = e.decoded ≡ true → (b : Judged) → o ≡ Some b → au e.fact ≡ au b.fact → count_of e ≡ count_of b

abbrev HasSameCount : Judged → Judged → Type 0
HasSameCount d e = e.decoded ≡ true → au e.fact ≡ au d.fact → count_of e ≡ count_of d

its_au : (us : List (List ℕ)) (u : List ℕ) → au (this_judged us u).fact ≡ (this us u).au
unfolding judged judgement fact
its_au us u = refl

its_fact : (us : List (List ℕ)) (u : List ℕ) → (this_judged us u).fact ≡ this_fact us u
unfolding judged judgement
its_fact us u = refl

some_same : (a b : Judged) (o : Option Judged) → o ≡ Some a → o ≡ Some b → a ≡ b
some_same a b o ha hb = let e : Path (Option Judged) (Some a) (Some b) = sym ha ∙ hb in cc

counts_step : (us : List (List ℕ)) (u : List ℕ) → BreaksNone (hist us) (this_judged us u) → IsFine us u → All (HasItsCount (latest (hist us))) (hist us) →
    All (HasItsCount (latest (this_judged us u ∷ hist us))) (this_judged us u ∷ hist us)
counts_step us u rules fine rest = go (of_layer 0 d && is_picture d.fact) refl
  where
    d : Judged
    d = this_judged us u

    o : Option Judged
    o = latest (hist us)

    go : (b : Bool) → (of_layer 0 d && is_picture d.fact) ≡ b → All (HasItsCount (cond b (Some d) o)) (d ∷ hist us)
    go true is =
        All-cons (HasItsCount (Some d)) d (hist us)
        (λ decoded b same here. ap count_of (some_same d b (Some d) refl same))
        (All-weaker (λ (e : Judged). IsPicture e × (is_picture e.fact ≡ true → au e.fact ≡ (this us u).au → ⊥)) (HasItsCount (Some d))
        (λ e h decoded b same here. absurd (h.1 (h.0 decoded) (here ∙ ap (λ (b : Judged). au b.fact) (sym (some_same d b (Some d) refl same)) ∙ its_au us u)))
        (hist us)
        (All-both IsPicture (λ (e : Judged). is_picture e.fact ≡ true → au e.fact ≡ (this us u).au → ⊥) (hist us) (all_pictures us)
        (none_here us u fine.order
        (sym (ap is_picture (its_fact us u)) ∙ (and_parts (of_layer 0 d) (is_picture d.fact) is).1)
        (sym (ap (λ f. nat_eq (layer f) 0) (its_fact us u)) ∙ (and_parts (of_layer 0 d) (is_picture d.fact) is).0))))
    go false is = All-cons (HasItsCount o) d (hist us) here rest
      where
        here : HasItsCount o d
        here decoded b same at = found.same ∙ ap count_of (some_same found.it b o found.found same)
          where
            upper : nat_eq (layer (this_fact us u)) 0 ≡ false
            upper = sym (ap (λ f. nat_eq (layer f) 0) (its_fact us u)) ∙ first (of_layer 0 d) (is_picture d.fact) (unfold judged judgement in decoded_picture (hist us) (this_fact us u) decoded) is
              where
                first : (a b : Bool) → b ≡ true → (a && b) ≡ false → a ≡ false
                first false b hb h = refl
                first true b hb h = sym hb ∙ h

            found : HasBase o (this us u).au d.count
            found = upper_based us u (this_rule us u rules) upper decoded

counts_all : (us : List (List ℕ)) → breaks_none (hist us) ≡ true → AllFine us → All (HasItsCount (latest (hist us))) (hist us)
unfolding items run all_placed facts history
counts_all [] h fine = All-nil (HasItsCount None)
counts_all (u ∷ us) h fine =
    let rules = breaks_none-at (this_judged us u) (hist us) h in
    counts_step us u rules.0 fine.0 (counts_all us rules.1 fine.1)

same_counts : (us : List (List ℕ)) (u : List ℕ) → poc_mismatch (look (asked (hist us) (this_fact us u)) (this_fact us u)) (this_fact us u) ≡ false →
    layer_order (all_placed (items us)) (this us u) ≡ false → All (HasItsCount (latest (hist us))) (hist us) →
    (this_judged us u).decoded ≡ true → All (HasSameCount (this_judged us u)) (hist us)
same_counts us u rule order rest decoded = go (nat_eq (layer (this_fact us u)) 0) refl
  where
    d : Judged
    d = this_judged us u

    go : (b : Bool) → nat_eq (layer (this_fact us u)) 0 ≡ b → All (HasSameCount d) (hist us)
    go true base =
        All-weaker (λ (e : Judged). IsPicture e × (is_picture e.fact ≡ true → au e.fact ≡ (this us u).au → ⊥)) (HasSameCount d)
        (λ e h e_decoded here. absurd (h.1 (h.0 e_decoded) (here ∙ its_au us u)))
        (hist us)
        (All-both IsPicture (λ (e : Judged). is_picture e.fact ≡ true → au e.fact ≡ (this us u).au → ⊥) (hist us) (all_pictures us)
        (none_here us u order (unfold judged judgement in decoded_picture (hist us) (this_fact us u) decoded) base))
    go false above =
        All-weaker (HasItsCount (latest (hist us))) (HasSameCount d)
        (λ e h e_decoded here. h e_decoded found.it found.found (here ∙ its_au us u ∙ sym found.here) ∙ sym found.same)
        (hist us) rest
      where
        found : HasBase (latest (hist us)) (this us u).au d.count
        found = upper_based us u rule above decoded

one_count : (us : List (List ℕ)) → breaks_none (hist us) ≡ true → AllFine us → Throughout (λ past d. d.decoded ≡ true → All (HasSameCount d) past) (hist us)
unfolding items run all_placed facts history
one_count [] h fine = tt
one_count (u ∷ us) h fine =
    let rules = breaks_none-at (this_judged us u) (hist us) h in
    (same_counts us u (this_rule us u rules.0) fine.0.order (counts_all us rules.1 fine.1), one_count us rules.1 fine.1)

pub one-count : (us : List (List ℕ)) → breaks_none (history_of us) ≡ true →
    Throughout (λ past d. d.decoded ≡ true → All (λ (e : Judged). e.decoded ≡ true → au e.fact ≡ au d.fact → count_of e ≡ count_of d) past) (history_of us)
unfolding history_of facts_of
one-count us h = one_count (reverse us) h (fine-accepted (reverse us) h)

pub throughout-both : {A : Type 0} (P Q : List A → A → Type 0) (xs : List A) → Throughout P xs → Throughout Q xs → Throughout (λ past x. P past x × Q past x) xs
throughout-both P Q [] hp hq = tt
throughout-both P Q (x ∷ past) hp hq = ((hp.0, hq.0), throughout-both P Q past hp.1 hq.1)

pub throughout-weaker : {A : Type 0} (P Q : List A → A → Type 0) → ((past : List A) (x : A) → P past x → Q past x) → (xs : List A) → Throughout P xs → Throughout Q xs
throughout-weaker P Q to [] h = tt
throughout-weaker P Q to (x ∷ past) h = (to past x h.0, throughout-weaker P Q to past h.1)

-- access units don't fall, and the decoded pictures of one have one count
pub steady : (us : List (List ℕ)) → breaks_none (history_of us) ≡ true →
    Throughout (λ past d. All (λ (e : Judged). au e.fact ≤ au d.fact) past
    × (d.decoded ≡ true → All (λ (e : Judged). e.decoded ≡ true → au e.fact ≡ au d.fact → count_of e ≡ count_of d) past)) (history_of us)
steady us h =
    throughout-both (λ past d. All (λ (e : Judged). au e.fact ≤ au d.fact) past)
    (λ past d. d.decoded ≡ true → All (λ (e : Judged). e.decoded ≡ true → au e.fact ≡ au d.fact → count_of e ≡ count_of d) past)
    (history_of us) (numbers-rise-of us) (one-count us h)

-- ---- With the next unit, where only two of its rules are known not to be broken

pub next-agrees : (us : List (List ℕ)) (u : List ℕ) → breaks_none (history_of us) ≡ true → broken (placed_units us) (placed_behind us u) ≡ None →
    poc_mismatch (look (history_of us) (fact_behind us u)) (fact_behind us u) ≡ false → item_picture (item_behind us u) ≡ true → (judged (history_of us) (fact_behind us u)).decoded ≡ true →
    All (λ (e : Judged). e.decoded ≡ true → au e.fact ≡ au (fact_behind us u) → count_of e ≡ count_of (judged (history_of us) (fact_behind us u))) (history_of us)
unfolding history_of facts_of
next-agrees us u h unit rule picture decoded =
    All-weaker (HasSameCount (this_judged vs u)) (λ (e : Judged). e.decoded ≡ true → au e.fact ≡ au (this_fact vs u) → count_of e ≡ count_of (this_judged vs u))
    (λ e same e_decoded here. same e_decoded (here ∙ ap au (sym (its_fact vs u))))
    (hist vs)
    (same_counts vs u its_rule (unfold facts_of in in-order (placed_units us) (placed_behind us u) unit) (counts_all vs h (fine-accepted vs h)) decoded)
  where
    vs : List (List ℕ)
    vs = reverse us

    its : is_picture (this_fact vs u) ≡ true
    its = unfold fact placed in picture

    its_rule : poc_mismatch (look (asked (hist vs) (this_fact vs u)) (this_fact vs u)) (this_fact vs u) ≡ false
    its_rule = subst (λ past. poc_mismatch (look past (this_fact vs u)) (this_fact vs u) ≡ false) (sym (asked_is (hist vs) (this_fact vs u) its)) (unfold history_of facts_of in rule)

pub next-one_count : (us : List (List ℕ)) (u : List ℕ) → breaks_none (history_of us) ≡ true → broken (placed_units us) (placed_behind us u) ≡ None →
    poc_mismatch (look (history_of us) (fact_behind us u)) (fact_behind us u) ≡ false → item_picture (item_behind us u) ≡ true →
    Throughout (λ past d. d.decoded ≡ true → All (λ (e : Judged). e.decoded ≡ true → au e.fact ≡ au d.fact → count_of e ≡ count_of d) past) (judged (history_of us) (fact_behind us u) ∷ history_of us)
unfolding judged judgement
next-one_count us u h unit rule picture = (next-agrees us u h unit rule picture, one-count us h)
