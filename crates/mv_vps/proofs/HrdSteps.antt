-- The hrd_parameters of a video parameter set, each behind those before it.
use Rattle.std.proofs.Common.{◌≡◌, ℕ, ◌+◌, ◌<◌, ◌≤◌, Bool, List, [], ◌∷◌, ◌++◌, length, get_or, take, Option, Some, None, Result, Ok, sym, ap, ◌∙◌, subst, arith}
use Rattle.std.proofs.lemmas.List.Sums.{fold_push, fold_more}
use Rattle.mv_syntax.specs.Bits.{Fault}
use Rattle.mv_syntax.specs.Bits as bits
use Rattle.mv_syntax.specs.Table.{Valid}
use Rattle.mv_syntax.specs.inner.Reader.{read}
use Rattle.mv_syntax.specs.Printed.{Output, depth, opened, closed, printed}
use Rattle.mv_syntax.specs.Loops.{items_after}
use Rattle.mv_syntax.specs.inner.Turns.{rest_of_items_after}
use Rattle.mv_syntax.specs.inner.Filling.{FailsAs}
use Rattle.mv_syntax.proofs.LoopLaws.{items_after_begin, items_after_turn, items_after_done, items_after-length, items_after-valid}
use Rattle.mv_syntax.proofs.PrintingLoops.{print_items_after_begin, print_items_after_step, print_items_after_done}
use Rattle.mv_common.specs.declared.hrd_common.HrdFlags.{HrdFlags}
use Rattle.mv_common.specs.Hrd.{in_force}
use Rattle.mv_vps.specs.Timing.{VpsHrdValue, vps_hrd, no_flags, flags_behind, next_hrd, vps_hrds}

-- the flags in force behind one more
pub flags_push : (earlier more : List VpsHrdValue) (hrd : VpsHrdValue) (flags next : HrdFlags) → flags ≡ flags_behind earlier
    → next ≡ in_force hrd.hrd_parameters.common flags → more ≡ earlier ++ hrd ∷ [] → next ≡ flags_behind more
flags_push earlier more hrd flags next so_far here same =
    here ∙ ap (in_force hrd.hrd_parameters.common) so_far
    ∙ sym (fold_push (λ f (h : VpsHrdValue). in_force h.hrd_parameters.common f) no_flags earlier hrd)
    ∙ ap flags_behind (sym same)

pub hrds_begin : (subs n : ℕ) (b : List Bool) → read (vps_hrds subs n) b ≡ rest_of_items_after (next_hrd subs) 0 n [] b
unfolding vps_hrds
hrds_begin subs n b = items_after_begin (next_hrd subs) 0 n n b (omega arith)

-- a turn by the flags in force
pub hrds_turn : (subs i n : ℕ) (earlier more : List VpsHrdValue) (flags : HrdFlags) (hrd : VpsHrdValue) (b rest : List Bool) (answer : Result (List VpsHrdValue × List Bool) Fault)
    → i < n → flags ≡ flags_behind earlier → answer ≡ rest_of_items_after (next_hrd subs) i n earlier b → read (vps_hrd subs flags i) b ≡ Ok (hrd, rest)
    → more ≡ earlier ++ hrd ∷ [] → answer ≡ rest_of_items_after (next_hrd subs) (i + 1) n more rest
unfolding next_hrd
hrds_turn subs i n earlier more flags hrd b rest answer h same so_far e grown =
    so_far ∙ items_after_turn (next_hrd subs) i n earlier b h
    ∙ ap (λ r. bits.◌>>=◌ r (λ y. rest_of_items_after (next_hrd subs) (i + 1) n (earlier ++ y.0 ∷ []) y.1)) (ap (λ f. read (vps_hrd subs f i) b) (sym same) ∙ e)
    ∙ ap (λ l. rest_of_items_after (next_hrd subs) (i + 1) n l rest) (sym grown)

pub hrds_fails : (subs i n : ℕ) (earlier : List VpsHrdValue) (flags : HrdFlags) (b : List Bool) (fault : Option Fault) (answer : Result (List VpsHrdValue × List Bool) Fault)
    → i < n → flags ≡ flags_behind earlier → answer ≡ rest_of_items_after (next_hrd subs) i n earlier b → FailsAs fault (read (vps_hrd subs flags i) b)
    → FailsAs fault answer
unfolding next_hrd
hrds_fails subs i n earlier flags b None answer h same so_far e = tt
hrds_fails subs i n earlier flags b (Some fault) answer h same so_far e =
    so_far ∙ items_after_turn (next_hrd subs) i n earlier b h
    ∙ ap (λ r. bits.◌>>=◌ r (λ y. rest_of_items_after (next_hrd subs) (i + 1) n (earlier ++ y.0 ∷ []) y.1)) (ap (λ f. read (vps_hrd subs f i) b) (sym same) ∙ e)

pub ruleset hrd_steps = (hrds_begin, items_after_done)

-- ---- printing
pub hrds_length : (subs n : ℕ) (all : List VpsHrdValue) → Valid (vps_hrds subs n) all → length all ≡ n
unfolding vps_hrds
hrds_length subs n all h = items_after-length (next_hrd subs) 0 n all h

pub hrd_valid : (subs n i : ℕ) (all : List VpsHrdValue) (flags : HrdFlags) (x d : VpsHrdValue) → Valid (vps_hrds subs n) all → i < length all
    → flags ≡ flags_behind (take i all) → x ≡ get_or all i d → Valid (vps_hrd subs flags i) x
unfolding vps_hrds next_hrd
hrd_valid subs n i all flags x d h below same is =
    let valid : Valid (vps_hrd subs (flags_behind (take i all)) i) (get_or all i d) = items_after-valid (next_hrd subs) 0 n all i i d h below (omega arith) in
    subst (λ v. Valid (vps_hrd subs flags i) v) (sym is) (subst (λ f. Valid (vps_hrd subs f i) (get_or all i d)) (sym same) valid)

pub print_hrds_turn :
    (subs n i j : ℕ) (all : List VpsHrdValue) (flags : HrdFlags) (x d : VpsHrdValue) (out : Output) {at_turn inside behind done : Output} {outer : ℕ}
    → at_turn ≡ printed (items_after 0 n (next_hrd subs)) (take i all) out → i < length all → j ≡ i → flags ≡ flags_behind (take i all) → x ≡ get_or all i d
    → (outer ≡ depth at_turn) × (inside ≡ opened j at_turn) → behind ≡ printed (vps_hrd subs flags i) x inside → done ≡ closed outer behind
    → done ≡ printed (items_after 0 n (next_hrd subs)) (take (i + 1) all) out
unfolding next_hrd
print_hrds_turn subs n i j all flags x d out {inside = inside} so_far below index same is start body end =
    print_items_after_step (next_hrd subs) 0 n [] all i i d out so_far below (omega arith) (rw index at start)
    (body ∙ ap (λ f. printed (vps_hrd subs f i) x inside) same ∙ ap (λ v. printed (vps_hrd subs (flags_behind (take i all)) i) v inside) is) end

pub flags_more : (i : ℕ) (all : List VpsHrdValue) (flags next : HrdFlags) (x d : VpsHrdValue) → i < length all → flags ≡ flags_behind (take i all)
    → x ≡ get_or all i d → next ≡ in_force x.hrd_parameters.common flags → next ≡ flags_behind (take (i + 1) all)
flags_more i all flags next x d below so_far is here =
    here ∙ ap (λ (v : VpsHrdValue). in_force v.hrd_parameters.common flags) is ∙ ap (in_force (get_or all i d).hrd_parameters.common) so_far
    ∙ sym (fold_more (λ f (h : VpsHrdValue). in_force h.hrd_parameters.common f) no_flags all i d below)

pub hrds_printed : (subs n i : ℕ) (all : List VpsHrdValue) (out new : Output) → length all ≤ i → new ≡ printed (items_after 0 n (next_hrd subs)) (take i all) out
    → new ≡ printed (vps_hrds subs n) all out
unfolding vps_hrds
hrds_printed subs n i all out new h e = e ∙ print_items_after_done (next_hrd subs) 0 n [] all i out h

pub ruleset print_hrd_steps = (print_items_after_begin, hrd_valid)
