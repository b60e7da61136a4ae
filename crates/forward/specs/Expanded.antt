-- The scheme under a key that was expanded before.
use Rattle.strings.specs.Cipher.{Scheme}
use Rattle.primitives.specs.Expanded.{under}
use Rattle.primitives.specs.declared.aes.ExpandedKey.{ExpandedKey}
use Rattle.forward.specs.Forward.{forward_by}

-- With any expanded key, whose encryption is the function.
abbrev pub forward_under : ExpandedKey → Scheme
forward_under expanded = forward_by (under expanded).E
