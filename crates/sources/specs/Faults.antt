-- The number, the layer and the place of every fault of a source.
use Rattle.std.specs.Prelude.{ℕ}
use Rattle.sources.specs.declared.fault.SourceFault.{SourceFault}
use Rattle.sources.specs.declared.fault.SourceFault.TheVariants.{NoHeader, BadCommand, RunsOut, BadPresence}

abbrev pub number_of : SourceFault → ℕ
number_of (NoHeader place) = 20
number_of (BadCommand place) = 21
number_of (RunsOut place) = 22
number_of (BadPresence place) = 23

abbrev pub layer_of : SourceFault → ℕ
layer_of (NoHeader place) = 0
layer_of (BadCommand place) = 0
layer_of (RunsOut place) = 0
layer_of (BadPresence place) = 0

abbrev pub place_of : SourceFault → ℕ
place_of (NoHeader place) = place
place_of (BadCommand place) = place
place_of (RunsOut place) = place
place_of (BadPresence place) = place
