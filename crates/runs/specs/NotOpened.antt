-- Why a run was not opened.
use Rattle.std.specs.Prelude.{ℕ, List, [], ◌∷◌}
use Rattle.strings.specs.declared.refusal.Refusal.{Refusal}
use Rattle.runs.specs.declared.opening.NotOpened.{NotOpened}
use Rattle.runs.specs.declared.opening.NotOpened.TheVariants.{Refused, Failed}

-- The reason, the run's own or a block's.
abbrev pub why_of : NotOpened → Refusal
why_of (Refused why) = why
why_of (Failed why place) = why

-- What is told beside it: the place of the block that would not open.
abbrev pub places_of : NotOpened → List ℕ
places_of (Refused why) = []
places_of (Failed why place) = place ∷ []
