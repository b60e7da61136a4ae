-- The two words of a number, and zero where there are none.
use borrow.Author.Tests.{lt-ltb, le-ltb}
use Rattle.blocks.specs.Inner.{value}
use Rattle.brw.specs.Inner.{power_at}
use Rattle.brw.proofs.powers.power.Goals as goal

pub returns-then-i-lt8 : goal.returns-then-i-lt8
unfolding value power_at
returns-then-i-lt8 c = rw (lt-ltb _ 8 c.if-i-lt8.true)

pub returns : goal.returns
unfolding value power_at
returns c = rw (le-ltb _ 8 c.if-i-lt8.false)
