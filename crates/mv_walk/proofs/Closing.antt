-- The latest picture becomes whole.
use Rattle.std.proofs.Common.{◌≡◌, ℕ, ◌+◌, ◌<◌, ◌≤◌, ℤ, Bool, true, false, cond, List, ◌++◌, length, reverse, Option, None, Some, refl, ap, sym, subst, ◌∙◌, arith}
use Rattle.std.specs.Prelude.{⊤, get_or, nat_eq, OnOk, Result, Ok, Err, slice_set}
use Rattle.std.specs.Vec.{with_item}
use Rattle.std.proofs.lemmas.Bool.{eq-eqb, eqb-false, eqb-true}
use Rattle.std.proofs.lemmas.List.{get_or-set_other, get_or-set_same, length-append, length-map, length-reverse, length-set, set-get_or}
use Rattle.mv_dpb.specs.declared.held.Held.{Held as InBuffer}
use Rattle.mv_dpb.specs.Stored.{Stored}
use Rattle.mv_pictures.specs.Judged.{Judged}
use Rattle.mv_commuting.specs.HeldOneMore.{held_of}
use Rattle.mv_rps.specs.Standing.{told}
use Rattle.mv_walk_layer.specs.LayerValue.{LayerValue, no_pictures, told_held, with_picture}
use Rattle.mv_walk_layer.specs.Standing as layers
use Rattle.mv_walk_order.specs.Orders as orders
use Rattle.mv_au.specs.States as states_of
use Rattle.mv_walk_layer.proofs.Stepping.{whole-step}
use Rattle.mv_walk.specs.Decoders.{Closes, HasHistory, IsButQueue, IsClosed, Keeps, layer_at, made_in}
use Rattle.mv_walk.specs.declared.decoder.Decoder.{Decoder}
use Rattle.mv_walk.specs.declared.making.Making.{Making}

-- ---- A layer's pictures

at-same : {P : Type 0} (xs : List (LayerValue P)) (i : ℕ) (y : LayerValue P) → i < length xs → layer_at (slice_set xs i y) i ≡ y
at-same xs i y lt = get_or-set_same xs i y no_pictures lt

at-other : {P : Type 0} (xs : List (LayerValue P)) (i n : ℕ) (y : LayerValue P) → (n ≡ i → ⊥) → layer_at (slice_set xs i y) n ≡ layer_at xs n
at-other xs i n y other = get_or-set_other xs i n y no_pictures other

-- the picture in the making is one of at most 16 that are held: there is room for it
pub has-room : {P : Type 0} (l : LayerValue P) (past : List Judged) (n : ℕ) (making : ℤ × ℕ) → layers.Stands l past n (Some making) → length l.buffer < 16
has-room {P} l past n making h =
    let told_are : length (told (held_of past n)) ≡ length (told_held l ++ layers.in_making (Some making)) = ap length h.held in
    let held : length (told (held_of past n)) ≡ length (held_of past n) = length-map (reverse (held_of past n)) _ ∙ length-reverse (held_of past n) in
    let one : length (told_held l ++ layers.in_making (Some making)) ≡ length (told_held l) + 1 = length-append (told_held l) (layers.in_making (Some making)) in
    let few : length (held_of past n) ≤ 16 = h.sound.few in
    let all : length (told_held l) ≡ length l.buffer = length-map l.buffer (λ (s : Stored InBuffer P). s.told) in
    omega arith

made-here : {R W P : Type 0} (m : Making R W P) → made_in m.shown.layer m ≡ Some (m.shown.count, m.au)
made-here m = ap (λ b. cond b (Some (m.shown.count, m.au)) None) (eq-eqb m.shown.layer m.shown.layer refl)

made-other : {R W P : Type 0} (m : Making R W P) (n : ℕ) → (n ≡ m.shown.layer → ⊥) → made_in n m ≡ None
made-other m n other = go (nat_eq m.shown.layer n) refl
  where
    go : (b : Bool) → nat_eq m.shown.layer n ≡ b → Path (Option (ℤ × ℕ)) (cond b (Some (m.shown.count, m.au)) None) None
    go true h = absurd (other (sym (eqb-true m.shown.layer n h)))
    go false h = refl

-- each layer's pictures, with the one that was in the making
whole-at : {R W P : Type 0} (kept : List (LayerValue P)) (past : List Judged) (m : Making R W P) (pic : P) (n : ℕ) → m.shown.layer < length kept →
    layers.Stands (layer_at kept n) past n (made_in n m) → layers.Stands (layer_at (slice_set kept m.shown.layer (with_picture m.shown.count m.au pic (layer_at kept m.shown.layer))) n) past n None
whole-at {R} {W} {P} kept past m pic n lt h = go (nat_eq n m.shown.layer) refl
  where
    after : LayerValue P
    after = with_picture m.shown.count m.au pic (layer_at kept m.shown.layer)

    go : (b : Bool) → nat_eq n m.shown.layer ≡ b → layers.Stands (layer_at (slice_set kept m.shown.layer after) n) past n None
    go true e =
        let is : n ≡ m.shown.layer = eqb-true n m.shown.layer e in
        subst (λ (k : ℕ). layers.Stands (layer_at (slice_set kept m.shown.layer after) k) past k None) (sym is)
        (subst (λ (l : LayerValue P). layers.Stands l past m.shown.layer None) (sym (at-same kept m.shown.layer after lt))
        (whole-step (layer_at kept m.shown.layer) past m.shown.layer m.shown.count m.au pic
        (subst (layers.Stands (layer_at kept m.shown.layer) past m.shown.layer) (made-here m) (subst (λ (k : ℕ). layers.Stands (layer_at kept k) past k (made_in k m)) is h))))
    go false e =
        let other : n ≡ m.shown.layer → ⊥ = eqb-false n m.shown.layer e in
        subst (λ (l : LayerValue P). layers.Stands l past n None) (sym (at-other kept m.shown.layer n after other))
        (subst (layers.Stands (layer_at kept n) past n) (made-other m n other) h)

-- what is kept stands for the pictures with the one that was in the making
pub whole-keeps : {R W P : Type 0} (old new : Decoder R W P) (m : Making R W P) (pic : P) (past : List Judged) → new.states ≡ old.states → new.order ≡ old.order → new.base_count ≡ old.base_count →
    new.pictures ≡ old.pictures → new.sequences ≡ old.sequences →
    new.layers.items ≡ slice_set old.layers.items m.shown.layer (with_picture m.shown.count m.au pic (layer_at old.layers.items m.shown.layer)) → Keeps old past (Some m) → Keeps new past None
whole-keeps {R} {W} {P} old new m pic past states order base pictures sequences kept h = record {
  states_are = subst (λ s. states_of.Stands s past) (sym states) h.states_are;
  pictures = record {
    all = ap length kept ∙ length-set old.layers.items m.shown.layer (with_picture m.shown.count m.au pic (layer_at old.layers.items m.shown.layer)) ∙ h.pictures.all;
    layers_are = λ n lt. subst (λ (xs : List (LayerValue P)). layers.Stands (layer_at xs n) past n None) (sym kept)
        (whole-at old.layers.items past m pic n (subst (λ k. m.shown.layer < k) (sym h.pictures.all) h.pictures.in_layer) (h.pictures.layers_are n lt));
    order_is = subst (λ s. orders.Stands s past) (sym order) h.pictures.order_is;
    base_is = λ p. h.pictures.base_is p ∙ sym base;
    pictures_are = pictures ∙ h.pictures.pictures_are;
    sequences_are = sequences ∙ h.pictures.sequences_are;
    in_layer = tt;
  };
}

-- what is but the queue is so of an equal one too, and of what is the same
pub same-queue : {R W P : Type 0} (old mid new : Decoder R W P) → IsButQueue old mid → new ≡ mid → IsButQueue old new
same-queue {R} {W} {P} old mid new same is = subst (λ (d : Decoder R W P). IsButQueue old d) (sym is) same

pub all-same : {R W P : Type 0} (old new : Decoder R W P) → new ≡ old → IsButQueue old new
all-same old new is = same-queue old old new refl is

-- the same beside what waits for its output
pub keeps-but_queue : {R W P : Type 0} (old new : Decoder R W P) (past : List Judged) (making : Option (Making R W P)) → IsButQueue old new → Keeps old past making → Keeps new past making
keeps-but_queue {R} {W} {P} old new past making same h =
    subst (λ (d : Decoder R W P). Keeps d past making) (sym same) (record {
      states_are = h.states_are;
      pictures = record {
        all = h.pictures.all;
        layers_are = h.pictures.layers_are;
        order_is = h.pictures.order_is;
        base_is = h.pictures.base_is;
        pictures_are = h.pictures.pictures_are;
        sequences_are = h.pictures.sequences_are;
        in_layer = h.pictures.in_layer;
      };
    })

pub closed-but_queue : {R W P : Type 0} (old new : Decoder R W P) (past : List Judged) → IsButQueue old new → IsClosed old past → IsClosed new past
closed-but_queue {R} {W} {P} old new past same h = record {
  keeps = keeps-but_queue old new past None same h.keeps;
  none_open = ap (λ (d : Decoder R W P). d.picture) same ∙ h.none_open;
  none_made = ap (λ (d : Decoder R W P). d.making) same ∙ h.none_made;
}

pub closes-but_queue : {R W P : Type 0} (old mid new : Decoder R W P) → Closes old mid → IsButQueue mid new → Closes old new
closes-but_queue old mid new closes same past h = closed-but_queue mid new past same (closes past h)

-- ---- It is held

-- a place within a list has one value, whatever is told beside it
within-list : {A : Type 0} (xs : List A) (i : ℕ) (d e : A) → i < length xs → get_or xs i d ≡ get_or xs i e
within-list xs i d e lt = sym (get_or-set_same xs i (get_or xs i d) e lt) ∙ ap (λ ys. get_or ys i e) (set-get_or xs i d)

pub finished : {R W P : Type 0} (old mid : Decoder R W P) (m : Making R W P) (pic : P) (count : ℤ) (found after : LayerValue P) → IsButQueue old mid → count ≡ m.shown.count →
    found ≡ get_or mid.layers.items m.shown.layer found → after ≡ with_picture count m.au pic found → (past : List Judged) → Keeps old past (Some m) →
    Keeps (record mid { layers = with_item mid.layers m.shown.layer after }) past None
finished {R} {W} {P} old mid m pic count found after same counted is added past h =
    let k : Keeps mid past (Some m) = keeps-but_queue old mid past (Some m) same h in
    let lt : m.shown.layer < length mid.layers.items = subst (λ n. m.shown.layer < n) (sym k.pictures.all) k.pictures.in_layer in
    let at : found ≡ layer_at mid.layers.items m.shown.layer = is ∙ within-list mid.layers.items m.shown.layer found no_pictures lt in
    let held : after ≡ with_picture m.shown.count m.au pic (layer_at mid.layers.items m.shown.layer) =
    added ∙ ap (λ z. with_picture z m.au pic found) counted ∙ ap (with_picture m.shown.count m.au pic) at in
    whole-keeps mid (record mid { layers = with_item mid.layers m.shown.layer after }) m pic past refl refl refl refl refl (ap (slice_set mid.layers.items m.shown.layer) held) k

-- ---- It is taken out of the making

-- the same beside what is open and what is in the making
keeps-beside : {R W P : Type 0} (old : Decoder R W P) (left : Option (Making R W P)) (past : List Judged) (making : Option (Making R W P)) → Keeps old past making →
    Keeps (record old { picture = None; making = left }) past making
keeps-beside old left past making h = record {
  states_are = h.states_are;
  pictures = record {
    all = h.pictures.all;
    layers_are = h.pictures.layers_are;
    order_is = h.pictures.order_is;
    base_is = h.pictures.base_is;
    pictures_are = h.pictures.pictures_are;
    sequences_are = h.pictures.sequences_are;
    in_layer = h.pictures.in_layer;
  };
}

pub history-taken : {R W P : Type 0} (old : Decoder R W P) (left : Option (Making R W P)) (m : Making R W P) → old.making ≡ Some m → HasHistory old old.making →
    HasHistory (record old { picture = None; making = left }) (Some m)
history-taken old left m is h = record { past = h.past; keeps = keeps-beside old left h.past (Some m) (subst (Keeps old h.past) is h.keeps) }

pub closes-finished : {R W P E : Type 0} (result : Result ⊤ E) (old new : Decoder R W P) (left : Option (Making R W P)) (m : Making R W P) → old.making ≡ Some m → left ≡ None →
    OnOk result ((past : List Judged) → Keeps (record old { picture = None; making = left }) past (Some m) → Keeps new past None) → new.picture ≡ None → new.making ≡ left →
    OnOk result (Closes old new)
closes-finished (Ok done) old new left m is none whole picture making = λ past h. record {
  keeps = whole past (keeps-beside old left past (Some m) (subst (Keeps old past) is h));
  none_open = picture;
  none_made = making ∙ none;
}
closes-finished (Err stop) old new left m is none whole picture making = tt

-- no picture is in the making
pub closes-none : {R W P : Type 0} (old : Decoder R W P) (left : Option (Making R W P)) → old.making ≡ None → left ≡ None → Closes old (record old { picture = None; making = left })
closes-none old left is none past h = record { keeps = keeps-beside old left past None (subst (Keeps old past) is h); none_open = refl; none_made = none }

-- ---- What leaves then is shown

pub closes-shown : {R W P E : Type 0} (result : Result ⊤ E) (old mid new : Decoder R W P) → Closes old mid → IsButQueue mid new → OnOk result (Closes old new)
closes-shown (Ok done) old mid new closes same = closes-but_queue old mid new closes same
closes-shown (Err stop) old mid new closes same = tt
