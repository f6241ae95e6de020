-- What is asked of a picture by its header, and how an answer tells the rule that refuses it.
use Rattle.std.specs.Prelude.{◌≡◌, ℕ, ◌^◌, Bool, true, Option, Some, None, option_map, option_and_then, Result, Ok, Err, ⊤, if◌then◌else◌}
use Rattle.mv_syntax.specs.Words.{◌otherwise◌, is_set}
use Rattle.mv_rules.specs.declared.rule.Rule.{Rule}
use Rattle.mv_slice.specs.Context.{SliceContextValue}
use Rattle.mv_slice.specs.declared.slice.SliceFull.{SliceFull}
use Rattle.mv_slice.specs.declared.slice.SliceHead.{SliceHead}
use Rattle.mv_rps.specs.declared.counts.PocAsk.{PocAsk}
use Rattle.mv_walk_decoded.specs.declared.asked.First.{First}
use Rattle.mv_walk_decoded.specs.declared.fault.DecideFault.{DecideFault}
use Rattle.mv_walk_decoded.specs.declared.fault.DecideFault.TheVariants.{Refused, Memory as out_of_memory}

-- slice_pic_order_cnt_lsb, where it is coded
abbrev pub lsb_in : Option SliceFull → Option ℕ
lsb_in full = option_and_then (λ (f : SliceFull). f.picture.slice_pic_order_cnt_lsb) full

-- what is asked of a picture for its count
abbrev pub asked_by : First → SliceContextValue → SliceHead → PocAsk
asked_by first ctx header = record {
  layer = first.head.layer;
  kind = first.head.kind;
  tid = first.head.tid;
  start = first.start;
  lsb = lsb_in header.full;
  max_lsb = 2 ^ ctx.lsb_bits;
  base = first.base;
}

-- pic_output_flag, 1 where it isn't coded
abbrev pub put_out_in : Option SliceFull → Bool
put_out_in full = option_map (λ (f : SliceFull). is_set (f.picture.pic_output_flag otherwise 1)) full otherwise true

-- a rule where a test holds
abbrev pub rule_if : Rule → Bool → Option Rule
rule_if rule test = if test then Some rule else None

-- an answer is a value of which this holds where no rule refuses, and else the rule that does; want of memory tells nothing
abbrev pub Tried : {A : Type 0} → Option Rule → (A → Type 0) → Result A DecideFault → Type 0
Tried refusal holds (Ok v) = (refusal ≡ None) × holds v
Tried refusal holds (Err (Refused rule)) = refusal ≡ Some rule
Tried refusal holds (Err out_of_memory) = ⊤
