-- The sets that a store answers, by its tables.
use Rattle.std.specs.Prelude.{◌≡◌, ℕ, Option, Some, None, option_map, Result, Ok, Err, ⊤}
use Rattle.mv_rules.specs.declared.rule.Rule.{Rule}
use Rattle.mv_rules.specs.declared.refusal.ReadFault.{ReadFault}
use Rattle.mv_common.specs.declared.format.Format.{Format}
use Rattle.mv_layers.specs.LayerInfos.{closure_of}
use Rattle.mv_vps.specs.Vps.{WholeVps}
use Rattle.mv_pictures.specs.Contexts.{format_of}
use Rattle.mv_sets.specs.Sets.{ActiveValue, PpsSetValue, SpsSetValue}
use Rattle.mv_sets.specs.StoreValue.{StoreValue}
use Rattle.mv_sets.specs.Tables.{latest, with_set}

-- with a sequence or a picture parameter set more
abbrev pub with_sps : StoreValue → SpsSetValue → StoreValue
with_sps s set = record { sps = with_set s.sps set.layer set.value.0.opening.sps_seq_parameter_set_id set; pps = s.pps }

abbrev pub with_pps : StoreValue → PpsSetValue → StoreValue
with_pps s set = record { sps = s.sps; pps = with_set s.pps set.layer set.value.0.opening.pps_pic_parameter_set_id set }

-- the picture parameter set, the sequence parameter set and the format, each where there is one
abbrev pub latest_pps : StoreValue → WholeVps → ℕ → ℕ → Option PpsSetValue
latest_pps s vps layer id = option_map (λ n. n.set) (latest s.pps id (closure_of vps.derived.layers layer))

abbrev pub latest_sps : StoreValue → WholeVps → ℕ → ℕ → Option SpsSetValue
latest_sps s vps layer id = option_map (λ n. n.set) (latest s.sps id (closure_of vps.derived.layers layer))

abbrev pub with_format : PpsSetValue → SpsSetValue → Option Format → Result ActiveValue Rule
with_format pps sps None = Err Rule.MissingSps
with_format pps sps (Some format) = Ok (record { sps = sps; pps = pps; format = format })

abbrev pub of_sps : WholeVps → ℕ → PpsSetValue → Option SpsSetValue → Result ActiveValue Rule
of_sps vps layer pps None = Err Rule.MissingSps
of_sps vps layer pps (Some sps) = with_format pps sps (format_of vps layer sps.value.0)

abbrev pub of_pps : StoreValue → WholeVps → ℕ → Option PpsSetValue → Result ActiveValue Rule
of_pps s vps layer None = Err Rule.MissingPps
of_pps s vps layer (Some pps) = of_sps vps layer pps (latest_sps s vps layer pps.value.0.opening.pps_seq_parameter_set_id)

abbrev pub resolved : StoreValue → WholeVps → ℕ → ℕ → Result ActiveValue Rule
resolved s vps layer id = of_pps s vps layer (latest_pps s vps layer id)

-- an answer is this one, or want of memory
abbrev pub Answers : Result ActiveValue ReadFault → Result ActiveValue Rule → Type 0
Answers (Ok active) answer = answer ≡ Ok active
Answers (Err (ReadFault.Refused rule)) answer = answer ≡ Err rule
Answers (Err ReadFault.Memory) answer = ⊤
