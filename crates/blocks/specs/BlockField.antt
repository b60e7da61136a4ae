-- 01's field of blocks: x times a block, the product of two, and the sum of blocks times powers that H has.
use Rattle.std.specs.Prelude.{ℕ, List}
use Rattle.blocks.specs.Field as Field

infixl 70 ◌·◌
abbrev pub times_x : ℕ → ℕ
times_x = Field.times_x 128 0x87

abbrev pub ◌·◌ : ℕ → ℕ → ℕ
◌·◌ = Field.product 128 0x87

abbrev pub power_sum : ℕ → List ℕ → ℕ
power_sum = Field.power_sum 1 ◌·◌
