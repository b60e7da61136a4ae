-- Word by word.
use Rattle.std.proofs.Common.{refl, ◌∙◌, arith}
use Rattle.primitives.specs.Aes.{key_words}
use Rattle.primitives.proofs.Words.{read_fits, read_own, put_own}
use Rattle.primitives.proofs.aes.own_words.Goals as goal

pub loop-i-init : goal.loop-i-init
unfolding key_words
loop-i-init c = (omega arith, refl)

pub overflow_cast-words : goal.overflow_cast-words
overflow_cast-words c =
    record { fits = read_fits c.loop-i.i c.args.key.now (λ k. (c.shared_slice_known-1.given k).fits) c.get.ensures }

pub loop-i-preserved : goal.loop-i-preserved
loop-i-preserved c =
    let l = c.loop-i in
    let a = c.args in (
      omega arith,
      put_own 60 a.nk a.key.now l.i l.words l.invariant.1 c.get.result (omega arith) (omega arith)
          (c.get.ensures ∙ read_own l.i a.key.now (λ k. (c.shared_slice_known-1.given k).fits)),
    )
