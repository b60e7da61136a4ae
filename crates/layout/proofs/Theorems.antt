-- The theorems that specs/Theorems.antt names.
-- Assumes nothing.
use Rattle.layout.specs.Theorems.{Theorems}
use Rattle.layout.proofs.Parts.{none_refused, pack_is_its_parts, same_parts, found_length, written_answer, written_found, others_found}
use Rattle.layout.proofs.Written.{parts_apart}

pub theorems : Theorems
theorems = record {
  pack_is_its_parts = pack_is_its_parts;
  same_parts = same_parts;
  found_length = λ place pack e. found_length place pack (none_refused place pack e);
  parts_apart = λ p q pack r s in_p in-q at_p at-q. parts_apart p q pack r s (at_p in_p) (at-q in-q);
  written_answer = λ place other block pack e long. written_answer place block pack (none_refused place pack e) long other;
  written_found = λ place block pack e. written_found place block pack (none_refused place pack e);
  others_found = λ place other block pack e long. others_found place block pack (none_refused place pack e) long other;
}
