-- The digits and a line feed behind them, for which there is room.
use native.Mathlib.Omega.{arith}
use Rattle.line.proofs.Written.{result_front}
use Rattle.line.proofs.answering.reply.Goals as goal

pub returns : goal.returns
returns c = result_front c.encode-n.result c.args.left.now c.args.out.now c.requires (omega arith) c.encode-n.ensures.value c.encode-n.ensures.out_after c.write.ensures
