-- At most 6 sub-layers stand below the highest.
use Rattle.std.proofs.Common.{◌≡◌, ℕ, zero, suc, ◌≤◌, ◌<◌, Bool, true, false, ◌&&◌, IfOk, Result, Ok, Err, nat_eq, nat_lt, refl, if◌then◌else◌, arith}
use Rattle.mv_syntax.specs.Cursor.{Cursor}
use Rattle.mv_syntax.specs.Table.{Valid}
use Rattle.mv_syntax.proofs.TableLaws.{reads-read}
use Rattle.mv_rules.specs.declared.rule.Rule.{Rule}
use Rattle.mv_fields.specs.declared.fault.Fault.{Fault}
use Rattle.mv_fields.specs.Reading.{ReadsBy}
use Rattle.mv_sps.specs.Opening.{SpsOpeningValue, subs_of, max_sub_layers_minus1, opening}

-- the field is below 8, and is 7 in no set of layer 0
pub few_subs : (layer vps_sub_layers n : ℕ) → vps_sub_layers ≤ 6 → n < 8 → (nat_eq layer 0 && nat_eq n 7) ≡ false → subs_of layer vps_sub_layers n ≤ 6
few_subs zero vps_sub_layers n h k e = go (nat_eq n 7) refl e
  where
    go : (c : Bool) → nat_eq n 7 ≡ c → c ≡ false → n ≤ 6
    go true same d = cc
    go false same d = grind arith
few_subs (suc layer) vps_sub_layers n h k e =
    let above : nat_lt 0 (suc layer) ≡ true = grind arith in rw above (go (nat_eq n 7) refl)
  where
    go : (c : Bool) → nat_eq n 7 ≡ c → (if c then vps_sub_layers else n) ≤ 6
    go true same = h
    go false same = grind arith

pub few_read :
    (layer vps_sub_layers : ℕ) (old new : Cursor) (answer : Result ℕ (Fault Rule)) → vps_sub_layers ≤ 6
    → ReadsBy (max_sub_layers_minus1 layer) old new answer → IfOk answer (λ n. subs_of layer vps_sub_layers n ≤ 6)
few_read layer vps_sub_layers old new (Ok n) h fills =
    let valid : Valid (max_sub_layers_minus1 layer) n = (reads-read (max_sub_layers_minus1 layer) old.left n new.left fills.0).0 in
    few_subs layer vps_sub_layers n h valid.0 valid.1
few_read layer vps_sub_layers old new (Err e) h fills = tt

pub few_valid : (layer vps_sub_layers : ℕ) (v : SpsOpeningValue) → vps_sub_layers ≤ 6 → Valid (opening layer vps_sub_layers) v
    → subs_of layer vps_sub_layers v.sps_max_sub_layers_minus1 ≤ 6
unfolding opening
few_valid layer vps_sub_layers v h valid = few_subs layer vps_sub_layers v.sps_max_sub_layers_minus1 h valid.0.1.0.0 valid.0.1.0.1
