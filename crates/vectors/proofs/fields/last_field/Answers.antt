-- The bytes of a field have room.
use Rattle.std.proofs.Common.{sym, arith}
use lib.Seq.{length-take-le}
use Rattle.vectors.proofs.Decoded.{decoded_fits}
use Rattle.vectors.proofs.fields.last_field.Goals as goal

pub slice_bounds-result-end : goal.slice_bounds-result-end
slice_bounds-result-end c =
    let fits = decoded_fits c.args.line.now c.args.out.now c.in_ok-n.n (sym c.in_ok-n.ensures.value) in
    sym (length-take-le c.in_ok-n.n c.decode.new.out (omega (arith, fits, c.decode.auto.out)))
