-- Slice segments: one that isn't the first one of its picture begins no access unit, and none ends a sequence.
use Rattle.std.proofs.Common.{◌≡◌, ℕ, ◌<◌, ◌≤◌, Bool, true, false, not, ◌&&◌, ◌||◌, List, refl, ap, sym, ◌∙◌, arith}
use Rattle.std.specs.Prelude.{nat_eq, nat_le}
use Rattle.std.proofs.lemmas.Bool.{and_parts, eqb-true, leb-true, ne_eqb}
use Rattle.mv_pictures.specs.AccessUnits.{Placed, begins, has_slices, number}
use Rattle.mv_pictures.specs.Facts.{Fact}
use Rattle.mv_pictures.specs.Items.{Item, is_known, is_picture, is_slice}
use Rattle.mv_pictures.specs.Judged.{is_end, is_layer_end, kind, layer}
use Rattle.mv_pictures.specs.Kinds.{is_eob_kind, is_opening_kind, is_slice_kind}
use Rattle.mv_walk_laws.specs.Streams.{current, item_behind, placed_units}
use Rattle.mv_walk_laws.proofs.Steps.{joins-same}

no_le : (a b : ℕ) → b < a → nat_le a b ≡ false
no_le a b less = go (nat_le a b) refl
  where
    go : (t : Bool) → nat_le a b ≡ t → t ≡ false
    go false e = refl
    go true e = absurd (let le = leb-true a b e in omega (arith, le, less))

slice_low : (k : ℕ) → is_slice_kind k ≡ true → k ≤ 21
slice_low k h = go (nat_le k 9) refl (nat_le 16 k) (nat_le k 21) refl h
  where
    go : (a : Bool) → nat_le k 9 ≡ a → (b c : Bool) → nat_le k 21 ≡ c → (a || (b && c)) ≡ true → k ≤ 21
    go true is b c most h = let le = leb-true k 9 is in omega (arith, le)
    go false is true true most h = leb-true k 21 most
    go false is true false most h = absurd (let wrong : false ≡ true = h in cc)
    go false is false c most h = absurd (let wrong : false ≡ true = h in cc)

slice_opens : (k : ℕ) → is_slice_kind k ≡ true → is_opening_kind k ≡ false
slice_opens k h =
    let low : k ≤ 21 = slice_low k h in
    ap (λ a. (a && nat_le k 35) || nat_eq k 39 || (nat_le 41 k && nat_le k 44) || (nat_le 48 k && nat_le k 55)) (no_le 32 k (omega (arith, low)))
    ∙ ap (λ b. false || b || (nat_le 41 k && nat_le k 44) || (nat_le 48 k && nat_le k 55)) (ne_eqb k 39 (λ e. omega (arith, low, e)))
    ∙ ap (λ c. false || false || (c && nat_le k 44) || (nat_le 48 k && nat_le k 55)) (no_le 41 k (omega (arith, low)))
    ∙ ap (λ d. false || false || false || (d && nat_le k 55)) (no_le 48 k (omega (arith, low)))

slice_kind : (i : Item) → is_slice i ≡ true → is_slice_kind i.head.kind ≡ true
slice_kind i slice = (and_parts (is_known i) (is_slice_kind i.head.kind) slice).1

begins-not : (ps : List Placed) (i : Item) → is_slice i ≡ true → is_picture i ≡ false → begins ps i ≡ false
unfolding begins
begins-not ps i slice none =
    ap (λ o. (is_known i && nat_eq i.head.layer 0 && (o || is_picture i)) && has_slices ps) (slice_opens i.head.kind (slice_kind i slice))
    ∙ ap (λ p. (is_known i && nat_eq i.head.layer 0 && (false || p)) && has_slices ps) none
    ∙ go (is_known i) (nat_eq i.head.layer 0)
  where
    go : (a b : Bool) → ((a && b && (false || false)) && has_slices ps) ≡ false
    go true true = refl
    go true false = refl
    go false b = refl

pub later-begins : (us : List (List ℕ)) (u : List ℕ) → is_slice (item_behind us u) ≡ true → is_picture (item_behind us u) ≡ false → begins (placed_units us) (item_behind us u) ≡ false
later-begins us u slice none = begins-not (placed_units us) (item_behind us u) slice none

pub later-same : (us : List (List ℕ)) (u : List ℕ) → is_slice (item_behind us u) ≡ true → is_picture (item_behind us u) ≡ false → number (placed_units us) (item_behind us u) ≡ current us
later-same us u slice none = joins-same us u (later-begins us u slice none)

-- ---- No end of a sequence

apart : (k n : ℕ) → is_slice_kind n ≡ false → is_slice_kind k ≡ true → nat_eq k n ≡ false
apart k n other h = go (nat_eq k n) refl
  where
    go : (b : Bool) → nat_eq k n ≡ b → b ≡ false
    go false e = refl
    go true e = absurd (let wrong : true ≡ false = sym h ∙ ap is_slice_kind (eqb-true k n e) ∙ other in cc)

never : (a b : Bool) → (a && b && false) ≡ false
never true true = refl
never true false = refl
never false b = refl

pub segment-ends : (p : Fact) → is_slice p.placed.item ≡ true → is_end p ≡ false
segment-ends p slice =
    ap (λ e. nat_eq (layer p) 0 && is_known p.placed.item && (e || is_eob_kind (kind p))) (apart (kind p) 36 refl (slice_kind p.placed.item slice))
    ∙ ap (λ e. nat_eq (layer p) 0 && is_known p.placed.item && (false || e)) (apart (kind p) 37 refl (slice_kind p.placed.item slice))
    ∙ never (nat_eq (layer p) 0) (is_known p.placed.item)

pub segment-layer_ends : (p : Fact) → is_slice p.placed.item ≡ true → is_layer_end p ≡ false
segment-layer_ends p slice =
    ap (λ e. not (nat_eq (layer p) 0) && is_known p.placed.item && e) (apart (kind p) 36 refl (slice_kind p.placed.item slice))
    ∙ never (not (nat_eq (layer p) 0)) (is_known p.placed.item)
