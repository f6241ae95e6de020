-- The count that is told of what is asked of a picture is the one that the definitions of pictures give it.
use Rattle.std.proofs.Common.{◌≡◌, ℤ, pos, nat_eq, Bool, true, false, cond, not, ◌&&◌, ◌||◌, Option, Some, None, refl, sym, ap, ◌∙◌, if◌then◌else◌}
use Rattle.std.specs.Prelude.{option_map, Result, Ok, Err}
use Rattle.std.specs.Ordering.{int_eq}
use Rattle.std.proofs.lemmas.Bool.{and_parts}
use Rattle.std.proofs.lemmas.Bool.Decides.{Decides-int_eq}
use Rattle.mv_syntax.specs.Words.{◌otherwise◌, or_zero}
use Rattle.mv_rules.specs.declared.rule.Rule.{Rule}
use Rattle.mv_rules.specs.declared.rule.Rule.TheVariants.{PocMismatch, PocRange}
use Rattle.mv_pictures.specs.Facts.{Fact}
use Rattle.mv_pictures.specs.SliceFields.{coded_lsb, max_lsb}
use Rattle.mv_pictures.specs.Judged.{is_base, is_picture, layer}
use Rattle.mv_pictures.specs.Look.{Look}
use Rattle.mv_pictures.specs.Starts.{is_decoded, is_start}
use Rattle.mv_pictures.specs.Counts.{anchor, base_count, count, nearest}
use Rattle.mv_pictures.specs.Held.{has_count, has_residue}
use Rattle.mv_pictures.specs.PictureRules.{is_in_range, poc_mismatch, poc_range}
use Rattle.mv_rps.specs.declared.counts.PocAsk.{PocAsk}
use Rattle.mv_rps.specs.Asked.{anchor_after, count_of, counted, has_low_bits, is_off_base, on_base, taken, within_range}
use Rattle.mv_rps.specs.Standing.{asked_of}
use Rattle.mv_rps.proofs.CountLaws.{counted_base, counted_decoded, counted_start}
use Rattle.mv_walk_layer.specs.Standing.{answer, asked_within, broken, counted_or, within}

-- ---- A base picture's count out of range is as good as none

-- what is answered, by whether the layer is 0 and which counts are off
on : Bool → (ℤ → Bool) → Result ℤ Rule → Result ℤ Rule
on zero off (Err rule) = Err rule
on zero off (Ok c) = if not zero && off c then Err PocMismatch else Ok c

on_is : (p : PocAsk) (r : Result ℤ Rule) → on_base p r ≡ on (nat_eq p.layer 0) (λ c. not (has_count c p.base) || (p.start && not (has_low_bits p c))) r
unfolding on
on_is p (Err rule) = refl
on_is p (Ok c) = refl

on_zero : (f g : ℤ → Bool) (r : Result ℤ Rule) → on true f r ≡ on true g r
unfolding on
on_zero f g (Err rule) = refl
on_zero f g (Ok c) = refl

differ : (c n : ℤ) → is_in_range c ≡ true → is_in_range n ≡ false → int_eq c n ≡ false
differ c n in_it out = go (int_eq c n) refl
  where
    go : (b : Bool) → int_eq c n ≡ b → b ≡ false
    go false is = refl
    go true is = absurd (let same : c ≡ n = (Decides-int_eq c n).0 is in let wrong : true ≡ false = sym in_it ∙ ap is_in_range same ∙ out in cc)

out_of_range : (zero start : Bool) (low : ℤ → Bool) (first : ℤ) (near : Option ℤ) (n : ℤ) → is_in_range n ≡ false →
    on zero (λ c. not (has_count c None) || (start && not (low c))) (within_range (cond start (cond zero (Some first) None) near))
    ≡ on zero (λ c. not (has_count c (Some n)) || (start && not (low c))) (within_range (cond start (cond zero (Some first) (Some n)) near))
unfolding on
out_of_range true true low first near n out =
    on_zero (λ c. not (has_count c None) || (true && not (low c))) (λ c. not (has_count c (Some n)) || (true && not (low c))) (within_range (Some first))
out_of_range true false low first near n out =
    on_zero (λ c. not (has_count c None) || (false && not (low c))) (λ c. not (has_count c (Some n)) || (false && not (low c))) (within_range near)
out_of_range false true low first near n out =
    sym (ap (λ b. on false (λ c. not (has_count c (Some n)) || (true && not (low c))) (cond b (Ok n) (Err PocRange))) out)
out_of_range false false low first None n out = refl
out_of_range false false low first (Some c) n out = go (is_in_range c) refl
  where
    go : (b : Bool) → is_in_range c ≡ b →
        on false (λ c. not (has_count c None) || (false && not (low c))) (cond b (Ok c) (Err PocRange))
        ≡ on false (λ c. not (has_count c (Some n)) || (false && not (low c))) (cond b (Ok c) (Err PocRange))
    go false is = refl
    go true is = sym (ap (λ b. cond (true && (not b || (false && not (low c)))) (Err PocMismatch) (Ok c)) (differ c n is out))

ask : PocAsk → Option ℤ → PocAsk
ask p base = record { layer = p.layer; kind = p.kind; tid = p.tid; start = p.start; lsb = p.lsb; max_lsb = p.max_lsb; base = base }

same_out : (a : Option ℤ) (p : PocAsk) (n : ℤ) → is_in_range n ≡ false → counted a (ask p None) ≡ counted a (ask p (Some n))
unfolding ask
same_out a p n out =
    on_is (ask p None) (within_range (count_of a (ask p None)))
    ∙ out_of_range (nat_eq p.layer 0) p.start (has_low_bits p) (pos (or_zero p.lsb)) (option_map (nearest p.max_lsb (or_zero p.lsb)) a) n out
    ∙ sym (on_is (ask p (Some n)) (within_range (count_of a (ask p (Some n)))))

same_base : (a : Option ℤ) (p : PocAsk) (base : Option ℤ) → counted a (ask p (within base)) ≡ counted a (ask p base)
same_base a p None = refl
same_base a p (Some n) = go (is_in_range n) refl
  where
    go : (b : Bool) → is_in_range n ≡ b → counted a (ask p (cond b (Some n) None)) ≡ counted a (ask p (Some n))
    go true is = refl
    go false is = same_out a p n is

pub counted-within : (a : Option ℤ) (l : Look) (p : Fact) → counted a (asked_within l p) ≡ counted a (asked_of l p)
unfolding ask
counted-within a l p = same_base a (asked_of l p) (base_count l p)

pub after-within : (a : Option ℤ) (l : Look) (p : Fact) → anchor_after a (asked_within l p) ≡ anchor_after a (asked_of l p)
after-within a l p = ap (taken a (asked_within l p)) (counted-within a l p) ∙ go (counted a (asked_of l p))
  where
    go : (r : Result ℤ Rule) → taken a (asked_within l p) r ≡ taken a (asked_of l p) r
    go (Err rule) = refl
    go (Ok c) = refl

-- ---- The rules on counts

-- a count is answered, or the rule that it breaks
on_rules : (l : Look) (p : Fact) (c : Option ℤ) → count l p ≡ c →
    on_base (asked_of l p) (within_range c)
    ≡ counted_or
    (cond (not (option_map is_in_range c otherwise false)) (Some PocRange)
    (cond (not (nat_eq (layer p) 0) && (not (option_map (λ n. has_count n (base_count l p)) c otherwise false)
    || (is_start l p && not (option_map (λ bits. has_residue (max_lsb p) bits c) (coded_lsb p) otherwise true)))) (Some PocMismatch) None)) c
on_rules l p None is = refl
on_rules l p (Some n) is = go (is_in_range n)
  where
    checked : (off : Bool) → cond off (Err PocMismatch) (Ok n) ≡ counted_or (cond off (Some PocMismatch) None) (Some n)
    checked true = refl
    checked false = refl

    go : (b : Bool) → on_base (asked_of l p) (cond b (Ok n) (Err PocRange)) ≡ counted_or (cond (not b) (Some PocRange) (cond (is_off_base (asked_of l p) n) (Some PocMismatch) None)) (Some n)
    go true = checked (is_off_base (asked_of l p) n)
    go false = refl

rules_on : (l : Look) (p : Fact) → is_decoded l p ≡ true → broken l p
    ≡ cond (not (option_map is_in_range (count l p) otherwise false)) (Some PocRange)
    (cond (not (nat_eq (layer p) 0) && (not (option_map (λ n. has_count n (base_count l p)) (count l p) otherwise false)
    || (is_start l p && not (option_map (λ bits. has_residue (max_lsb p) bits (count l p)) (coded_lsb p) otherwise true)))) (Some PocMismatch) None)
unfolding poc_range poc_mismatch
rules_on l p decoded =
    ap (λ d. cond (d && not (option_map is_in_range (count l p) otherwise false)) (Some PocRange)
    (cond (d && not (nat_eq (layer p) 0) && (not (option_map (λ n. has_count n (base_count l p)) (count l p) otherwise false)
    || (is_start l p && not (option_map (λ bits. has_residue (max_lsb p) bits (count l p)) (coded_lsb p) otherwise true)))) (Some PocMismatch) None)) decoded

pub counted-answer : (a : Option ℤ) (l : Look) (p : Fact) → is_decoded l p ≡ true → count_of a (asked_of l p) ≡ count l p → counted a (asked_within l p) ≡ answer l p
counted-answer a l p decoded is =
    counted-within a l p
    ∙ ap (λ c. on_base (asked_of l p) (within_range c)) is
    ∙ on_rules l p (count l p) refl
    ∙ sym (ap (λ o. counted_or o (count l p)) (rules_on l p decoded))

pub counted-decoded : (l : Look) (p : Fact) → is_decoded l p ≡ true → counted (anchor l) (asked_within l p) ≡ answer l p
counted-decoded l p decoded = counted-answer (anchor l) l p decoded (counted_decoded l p decoded)

-- a start's count is that of no anchor
start_of_any : (a b : Option ℤ) (l : Look) (p : Fact) → is_start l p ≡ true → count_of a (asked_of l p) ≡ count_of b (asked_of l p)
start_of_any a b l p h = go (is_start l p) h
  where
    go : (s : Bool) → s ≡ true → cond s (cond (nat_eq (layer p) 0) (Some (pos (or_zero (coded_lsb p)))) (base_count l p)) (option_map (nearest (max_lsb p) (or_zero (coded_lsb p))) a)
        ≡ cond s (cond (nat_eq (layer p) 0) (Some (pos (or_zero (coded_lsb p)))) (base_count l p)) (option_map (nearest (max_lsb p) (or_zero (coded_lsb p))) b)
    go true h = refl
    go false h = absurd (let wrong : false ≡ true = h in cc)

pub start-any : (a b : Option ℤ) (l : Look) (p : Fact) → is_start l p ≡ true → counted a (asked_of l p) ≡ counted b (asked_of l p)
start-any a b l p start = ap (λ c. on_base (asked_of l p) (within_range c)) (start_of_any a b l p start)

pub counted-start : (a : Option ℤ) (l : Look) (p : Fact) → is_start l p ≡ true → is_decoded l p ≡ true → counted a (asked_within l p) ≡ answer l p
counted-start a l p start decoded = counted-answer a l p decoded (start_of_any a (anchor l) l p start ∙ counted_start l p start)

-- of a base picture only the range is tried
pub counted-base : (l : Look) (p : Fact) → is_base p ≡ true → counted (anchor l) (asked_within l p) ≡ within_range (count l p)
unfolding on
counted-base l p base =
    counted-within (anchor l) l p
    ∙ on_is (asked_of l p) (within_range (count_of (anchor l) (asked_of l p)))
    ∙ ap (λ z. on z (λ c. not (has_count c (base_count l p)) || (is_start l p && not (has_low_bits (asked_of l p) c))) (within_range (count_of (anchor l) (asked_of l p)))) (and_parts (nat_eq (layer p) 0) (is_picture p) base).0
    ∙ plain (λ c. not (has_count c (base_count l p)) || (is_start l p && not (has_low_bits (asked_of l p) c))) (within_range (count_of (anchor l) (asked_of l p)))
    ∙ ap within_range (counted_base l p base)
  where
    plain : (f : ℤ → Bool) (r : Result ℤ Rule) → on true f r ≡ r
    plain f (Err rule) = refl
    plain f (Ok c) = refl
