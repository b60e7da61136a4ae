-- The two schemes keep the laws.
use Rattle.std.specs.Prelude.{refl}
use Rattle.std.proofs.Common.{arith}
use Rattle.hch.specs.Hch.{hch}
use Rattle.hch.specs.Expanded.{hch_under}
use Rattle.hch.proofs.Theorems as Hch
use Rattle.forward.specs.Forward.{forward}
use Rattle.forward.specs.Expanded.{forward_under}
use Rattle.forward.proofs.Theorems as Forward
use Rattle.schemes.specs.Schemes.{SchemeLaws}

pub hch_laws : SchemeLaws hch hch_under 16
hch_laws = record {
  keys = λ key. refl;
  any_key = λ expanded key. refl;
  same = Hch.same_expanded;
  cipher = λ expanded n h tweak t. Hch.under-cipher expanded tweak n t h;
  takes_blocks = omega arith;
}

pub forward_laws : SchemeLaws forward forward_under 33
forward_laws = record {
  keys = λ key. refl;
  any_key = λ expanded key. refl;
  same = Forward.same_expanded;
  cipher = Forward.under-cipher;
  takes_blocks = omega arith;
}
