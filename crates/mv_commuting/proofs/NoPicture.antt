-- What isn't the first segment of a picture changes no layer but by ends.
use Rattle.std.proofs.Common.{◌≡◌, ℕ, ◌+◌, Bool, true, false, cond, not, ◌&&◌, ◌||◌, List, [], ◌∷◌, map, None, Some, refl, ap, ◌∙◌, filter, if◌then◌else◌}
use Rattle.std.specs.Prelude.{is_some, nat_eq, option_map}
use Rattle.std.proofs.Math.Bool.{or-false}
use Rattle.mv_slice.specs.Numbers.{is_irap}
use Rattle.mv_pictures.specs.Counts.{anchor, count, may_anchor, nearest, lsb, start_count}
use Rattle.mv_pictures.specs.Facts.{Fact}
use Rattle.mv_pictures.specs.SliceFields.{max_lsb}
use Rattle.mv_pictures.specs.History.{judged, judgement}
use Rattle.mv_pictures.specs.Items.{is_known}
use Rattle.mv_pictures.specs.Kinds.{is_eob_kind, is_eos_kind}
use Rattle.mv_pictures.specs.Judged.{Judged, begins, is_base, is_end, is_layer_end, is_picture, kind, layer, of_layer, resets}
use Rattle.mv_pictures.specs.Look.{Look, asked, initialised, look}
use Rattle.mv_pictures.specs.PictureRules.{decoded_before}
use Rattle.mv_pictures.specs.Starts.{follows_start, is_anew, is_decoded, is_idr_or_bla, is_reset, is_sequence_start, is_skipped, is_start, starts_layer}
use Rattle.mv_commuting.specs.HeldOneMore.{held_of, marked_by, names_held, unmarked}
use Rattle.mv_commuting.proofs.HeldMore.{layer-held, layers-held}
use Rattle.mv_commuting.proofs.Latest.{anchor-more, anew-more, decoded-more, led-more}
use Rattle.mv_commuting.proofs.More.{base-more, initialised-more, root-more, seqs-more}

-- ---- What is judged of it

and_false : (a : Bool) → (a && false) ≡ false
and_false true = refl
and_false false = refl

never : (a b : Bool) → b ≡ false → (a && b) ≡ false
never a b h = ap (λ b. a && b) h ∙ and_false a

no_base : (p : Fact) → is_picture p ≡ false → is_base p ≡ false
no_base p h = never (nat_eq (layer p) 0) (is_picture p) h

no_sequence : (l : Look) (p : Fact) → is_picture p ≡ false → is_sequence_start l p ≡ false
unfolding is_sequence_start
no_sequence l p h = ap (λ b. b && (is_idr_or_bla p || is_anew l)) (no_base p h)

no_start : (l : Look) (p : Fact) → is_picture p ≡ false → is_start l p ≡ false
unfolding is_start
no_start l p h =
    ap (λ b. cond (nat_eq (layer p) 0) b (is_picture p && starts_layer l p)) (no_sequence l p h)
    ∙ ap (λ b. cond (nat_eq (layer p) 0) false (b && starts_layer l p)) h
    ∙ go (nat_eq (layer p) 0)
  where
    go : (b : Bool) → cond b false false ≡ false
    go true = refl
    go false = refl

no_decoded : (l : Look) (p : Fact) → is_picture p ≡ false → is_decoded l p ≡ false
unfolding is_decoded
no_decoded l p h = ap (λ b. b && not (is_skipped l p)) h

no_count : (l : Look) (p : Fact) → is_picture p ≡ false → count l p ≡ None
unfolding count
no_count l p h =
    ap (λ b. cond b (start_count l p) (cond (is_decoded l p || is_base p) (option_map (nearest (max_lsb p) (lsb p)) (anchor l)) None)) (no_start l p h)
    ∙ ap (λ b. cond (b || is_base p) (option_map (nearest (max_lsb p) (lsb p)) (anchor l)) None) (no_decoded l p h)
    ∙ ap (λ b. cond b (option_map (nearest (max_lsb p) (lsb p)) (anchor l)) None) (no_base p h)

no_reset : (l : Look) (p : Fact) → is_picture p ≡ false → is_reset l p ≡ is_layer_end p
unfolding is_reset
no_reset l p h =
    ap (λ b. not (nat_eq (layer p) 0) && (is_layer_end p || (b && is_idr_or_bla p && l.here && not (is_start l p)))) h
    ∙ ap (λ b. not (nat_eq (layer p) 0) && b) (or-false (is_layer_end p))
    ∙ go (nat_eq (layer p) 0)
  where
    go : (z : Bool) → (not z && (not z && is_known p.placed.item && is_eos_kind (kind p))) ≡ (not z && is_known p.placed.item && is_eos_kind (kind p))
    go true = refl
    go false = refl

-- ---- The judgement

-- it is no picture, starts nothing, is decoded not, and has no count
record IsPlain (d : Judged) : Type 0 where
  pub picture : is_picture d.fact ≡ false
  pub begins : begins d ≡ false
  pub start : d.start ≡ false
  pub decoded : d.decoded ≡ false
  pub count : d.count ≡ None

plain : (past : List Judged) (p : Fact) → is_picture p ≡ false → IsPlain (judged past p)
unfolding judged judgement
plain past p h = record {
  picture = h;
  begins = never (nat_eq (layer p) 0) (is_sequence_start (look (asked past p) p) p) (no_sequence (look (asked past p) p) p h);
  start = no_start (look (asked past p) p) p h;
  decoded = no_decoded (look (asked past p) p) p h;
  count = no_count (look (asked past p) p) p h;
}

reset_is_end : (past : List Judged) (p : Fact) → is_picture p ≡ false → (judged past p).reset ≡ is_layer_end p
unfolding judged judgement
reset_is_end past p h = no_reset (look (asked past p) p) p h

-- ---- What it changes

pub held-same : (past : List Judged) (p : Fact) (n : ℕ) → is_picture p ≡ false → held_of (judged past p ∷ past) n ≡ held_of past n
held-same past p n h = go (of_layer n (judged past p)) refl
  where
    go : (o : Bool) → of_layer n (judged past p) ≡ o → held_of (judged past p ∷ past) n ≡ held_of past n
    go true is =
        layer-held past p n is
        ∙ ap (λ b. cond b (unmarked (judged past p) ∷ cond (judged past p).start [] (map (marked_by (judged past p)) (filter (names_held (judged past p)) (held_of past n)))) (held_of past n)) (plain past p h).decoded
    go false is = layers-held past p n is ∙ ap (λ b. cond b [] (held_of past n)) (plain past p h).begins

-- where neither the one nor the other is
neither : {X : Type 0} (o t b : Bool) (x y z : X) → t ≡ false → b ≡ false → cond (o && t) x (cond b y z) ≡ z
neither o t b x y z ts bs = ap (λ t. cond t x (cond b y z)) (never o t ts) ∙ ap (λ b. cond b y z) bs

pub anchor-same : (past : List Judged) (p q : Fact) → is_picture p ≡ false → anchor (look (judged past p ∷ past) q) ≡ anchor (look past q)
anchor-same past p q h =
    anchor-more (judged past p) past q
    ∙ neither (of_layer (layer q) (judged past p)) (is_some (judged past p).count && ((judged past p).start || may_anchor (judged past p).fact)) (begins (judged past p)) (judged past p).count None (anchor (look past q))
    (ap (λ c. is_some c && ((judged past p).start || may_anchor (judged past p).fact)) (plain past p h).count) (plain past p h).begins

pub led-same : (past : List Judged) (p q : Fact) → is_picture p ≡ false → follows_start (look (judged past p ∷ past) q) ≡ follows_start (look past q)
led-same past p q h =
    led-more (judged past p) past q
    ∙ neither (of_layer (layer q) (judged past p)) (is_picture (judged past p).fact && (is_irap (kind (judged past p).fact) || (judged past p).start)) (begins (judged past p)) (judged past p).start false (follows_start (look past q))
    (ap (λ b. b && (is_irap (kind (judged past p).fact) || (judged past p).start)) (plain past p h).picture) (plain past p h).begins

pub decoded-same : (past : List Judged) (p q : Fact) → is_picture p ≡ false → decoded_before (look (judged past p ∷ past) q) ≡ decoded_before (look past q)
decoded-same past p q h =
    decoded-more (judged past p) past q
    ∙ neither (of_layer (layer q) (judged past p)) (judged past p).decoded (begins (judged past p)) (Some (judged past p)) None (decoded_before (look past q))
    (plain past p h).decoded (plain past p h).begins

pub base-same : (past : List Judged) (p q : Fact) → is_picture p ≡ false → (look (judged past p ∷ past) q).base ≡ (look past q).base
base-same past p q h =
    base-more (judged past p) past q
    ∙ ap (λ b. cond b (Some (judged past p)) (look past q).base) (never (of_layer 0 (judged past p)) (is_picture (judged past p).fact) (plain past p h).picture)

pub root-same : (past : List Judged) (p q : Fact) → is_picture p ≡ false → (look (judged past p ∷ past) q).root ≡ (look past q).root
root-same past p q h = root-more (judged past p) past q ∙ ap (λ b. cond b (Some (judged past p)) (look past q).root) (plain past p h).begins

pub seqs-same : (past : List Judged) (p q : Fact) → is_picture p ≡ false → (look (judged past p ∷ past) q).seqs ≡ (look past q).seqs
seqs-same past p q h = seqs-more (judged past p) past q ∙ ap (λ b. cond b ((look past q).seqs + 1) (look past q).seqs) (plain past p h).begins

pub initialised-end : (past : List Judged) (p : Fact) (n : ℕ) → is_picture p ≡ false →
    initialised (judged past p ∷ past) n ≡ (if of_layer n (judged past p) && is_layer_end p then false else initialised past n)
initialised-end past p n h =
    initialised-more (judged past p) past n
    ∙ ap (λ b. cond b true (cond (resets n (judged past p)) false (initialised past n))) (never (of_layer n (judged past p)) (judged past p).start (plain past p h).start)
    ∙ ap (λ b. cond (b || (of_layer n (judged past p) && (judged past p).reset)) false (initialised past n)) (plain past p h).begins
    ∙ ap (λ b. cond (of_layer n (judged past p) && b) false (initialised past n)) (reset_is_end past p h)

pub anew-end : (past : List Judged) (p q : Fact) → is_picture p ≡ false → is_anew (look (judged past p ∷ past) q) ≡ (if is_end p then true else is_anew (look past q))
unfolding judged judgement
anew-end past p q h =
    anew-more (judged past p) past q
    ∙ ap (λ b. cond (nat_eq (layer p) 0 && (b || is_end p)) (is_end p) (is_anew (look past q))) h
    ∙ go (nat_eq (layer p) 0)
  where
    both : (b : Bool) → cond b b (is_anew (look past q)) ≡ cond b true (is_anew (look past q))
    both true = refl
    both false = refl

    go : (z : Bool) →
        cond (z && (false || (z && is_known p.placed.item && (is_eos_kind (kind p) || is_eob_kind (kind p))))) (z && is_known p.placed.item && (is_eos_kind (kind p) || is_eob_kind (kind p))) (is_anew (look past q))
        ≡ cond (z && is_known p.placed.item && (is_eos_kind (kind p) || is_eob_kind (kind p))) true (is_anew (look past q))
    go true = both (is_known p.placed.item && (is_eos_kind (kind p) || is_eob_kind (kind p)))
    go false = refl
