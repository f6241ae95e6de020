use Rattle.std.proofs.Common.{◌≡◌, ℕ, ◌+◌, ◌*◌, ◌^◌, ◌%◌, ◌≤◌, subst, arith}
use Rattle.mv_contexts.proofs.BlockLaws.{side_least, side_most}
use Rattle.mv_contexts.proofs.blocks.ctb_side.Goals as goal

sum_moved : (a b : ℕ) → a + b + 3 ≡ a + 3 + b
sum_moved a b = omega arith

pub returns-clause-least : goal.returns-clause-least
returns-clause-least c =
    let a : ℕ = c.args.blocks.now.log2_min_luma_coding_block_size_minus3 in
    let b : ℕ = c.args.blocks.now.log2_diff_max_min_luma_coding_block_size in
    subst (λ n. 8 ≤ 1 * 2 ^ n % 4294967296) (sum_moved a b) (side_least (a + b) c.requires)

pub returns-clause-most : goal.returns-clause-most
returns-clause-most c =
    let a : ℕ = c.args.blocks.now.log2_min_luma_coding_block_size_minus3 in
    let b : ℕ = c.args.blocks.now.log2_diff_max_min_luma_coding_block_size in
    subst (λ n. 1 * 2 ^ n % 4294967296 ≤ 64) (sum_moved a b) (side_most (a + b) c.requires)
