-- What each command of the program takes.
use Rattle.std.specs.Prelude.{Bool, true, false}
use Rattle.hopmap.specs.declared.settings.Setting.{Setting}
use Rattle.hopmap.specs.declared.settings.Setting.TheVariants as setting
use Rattle.hopmap.specs.declared.settings.Switch.{Switch}
use Rattle.hopmap.specs.declared.settings.Switch.TheVariants as switch
use Rattle.hopmap.specs.declared.verb.Verb.{Verb}
use Rattle.hopmap.specs.declared.verb.Verb.TheVariants as verb

abbrev pub takes : Verb → Setting → Bool
takes verb.Show setting.Clock = true
takes verb.Show setting.Order = true
takes verb.Show setting.Missing = true
takes verb.Show setting.Kind = false
takes verb.Show setting.Grade = false
takes verb.Show setting.Window = false
takes verb.Grades setting = false
takes verb.Table setting.Clock = false
takes verb.Table setting.Order = true
takes verb.Table setting.Missing = true
takes verb.Table setting.Kind = true
takes verb.Table setting.Grade = true
takes verb.Table setting.Window = true

abbrev pub has : Verb → Switch → Bool
has verb.Show switch = false
has verb.Grades switch = false
has verb.Table switch.MissingEqual = true
