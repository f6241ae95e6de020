-- The count of a picture by what is asked of it and the count of its anchor (8.3.1, F.8.3.1; of starts of layers above 0 by
-- this project's profile).
use Rattle.std.specs.Prelude.{ℤ, pos, Bool, true, not, ◌&&◌, ◌||◌, Option, Some, None, option_map, Result, Ok, Err, nat_eq, if◌then◌else◌}
use Rattle.mv_syntax.specs.Words.{◌otherwise◌, or_zero}
use Rattle.mv_rules.specs.declared.rule.Rule.{Rule}
use Rattle.mv_rules.specs.declared.rule.Rule.TheVariants.{PocRange, PocMismatch}
use Rattle.mv_pictures.specs.Kinds.{is_rasl, is_radl, is_sub_layer_non_reference}
use Rattle.mv_pictures.specs.Counts.{nearest}
use Rattle.mv_pictures.specs.Held.{has_count, has_residue}
use Rattle.mv_pictures.specs.PictureRules.{is_in_range}
use Rattle.mv_rps.specs.declared.counts.PocAsk.{PocAsk}

-- a picture that later ones take as their anchor: TemporalId 0, and no RASL, RADL or sub-layer non-reference picture
abbrev pub may_anchor : PocAsk → Bool
may_anchor p = nat_eq p.tid 0 && not (is_rasl p.kind || is_radl p.kind || is_sub_layer_non_reference p.kind)

-- the count of a start: in layer 0 its low bits, and in another layer the count of the base picture
abbrev pub start_count : PocAsk → Option ℤ
start_count p = if nat_eq p.layer 0 then Some (pos (or_zero p.lsb)) else p.base

-- PicOrderCntVal behind an anchor with this count: of another picture the nearest to it
abbrev pub count_of : Option ℤ → PocAsk → Option ℤ
count_of anchor p = if p.start then start_count p else option_map (nearest p.max_lsb (or_zero p.lsb)) anchor

-- a picture of a layer above 0 hasn't the base picture's count, or a start's coded low bits aren't those of that count
abbrev pub has_low_bits : PocAsk → ℤ → Bool
has_low_bits p count = option_map (λ bits. has_residue p.max_lsb bits (Some count)) p.lsb otherwise true

abbrev pub is_off_base : PocAsk → ℤ → Bool
is_off_base p count = not (nat_eq p.layer 0) && (not (has_count count p.base) || (p.start && not (has_low_bits p count)))

-- that count, where there is one within 32 bits
abbrev pub within_range : Option ℤ → Result ℤ Rule
within_range None = Err PocRange
within_range (Some count) = if is_in_range count then Ok count else Err PocRange

abbrev pub count_within : Option ℤ → PocAsk → Result ℤ Rule
count_within anchor p = within_range (count_of anchor p)

-- the count, or the rule that refuses it: PocRange, and else PocMismatch
abbrev pub on_base : PocAsk → Result ℤ Rule → Result ℤ Rule
on_base p (Err rule) = Err rule
on_base p (Ok count) = if is_off_base p count then Err PocMismatch else Ok count

abbrev pub counted : Option ℤ → PocAsk → Result ℤ Rule
counted anchor p = on_base p (count_within anchor p)

-- the anchor's count behind a picture: its own, where it is a start or later ones take it as their anchor
abbrev pub taken : Option ℤ → PocAsk → Result ℤ Rule → Option ℤ
taken anchor p (Err rule) = anchor
taken anchor p (Ok count) = if p.start || may_anchor p then Some count else anchor

abbrev pub anchor_after : Option ℤ → PocAsk → Option ℤ
anchor_after anchor p = taken anchor p (counted anchor p)
