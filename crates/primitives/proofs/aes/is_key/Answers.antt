-- Its length is tested.
use Rattle.std.proofs.Common.{ne_eqb}
use Rattle.primitives.specs.Aes.{is_key}
use Rattle.primitives.proofs.aes.is_key.Goals as goal

pub returns-then-key-eq16 : goal.returns-then-key-eq16
unfolding is_key
returns-then-key-eq16 c = rw c.if-key-eq16.true

pub returns-else-key-eq16 : goal.returns-else-key-eq16
unfolding is_key
returns-else-key-eq16 c = rw (ne_eqb _ 16 c.if-key-eq16.false)
