-- Each example is shown in a crate below.
-- Assumes nothing.
use Rattle.primitives.proofs.Examples as field
use Rattle.hch.proofs.Examples as scheme
use Rattle.layout.proofs.Examples as layout
use Rattle.claims.specs.Examples.{Examples}

pub examples : Examples
examples = record {
  p1 = field.p1;
  p2 = field.p2;
  p3 = field.p3;
  p4 = λ a h. field.p4 a;
  p5 = field.p5;
  p6 = field.p6;
  p7 = field.p7;
  p8 = field.p8;
  p9 = scheme.p9;
  p10 = scheme.p10;
  p11 = scheme.p11;
  p12 = layout.p12;
  p13 = layout.p13;
  p14 = layout.p14;
}
