-- The names that the command line gives to things.
use Rattle.std.specs.Prelude.{◌≡◌, ℕ, List, codes, Option, MatchOption, ◌≢◌}
use Rattle.hopmap.specs.declared.settings.Setting.{Setting}
use Rattle.hopmap.specs.declared.settings.Setting.TheVariants as setting
use Rattle.hopmap.specs.declared.settings.Switch.{Switch}
use Rattle.hopmap.specs.declared.settings.Switch.TheVariants as switch
use Rattle.hopmap.specs.declared.verb.Verb.{Verb}
use Rattle.hopmap.specs.declared.verb.Verb.TheVariants as verb

-- the answer is the thing of this name, or none where nothing has it
abbrev pub Tells : {A : Type 0} → (A → List ℕ) → List ℕ → Option A → Type 0
Tells name text answer = MatchOption answer ((a : _) → name a ≢ text) (λ a. name a ≡ text)

abbrev pub setting_name : Setting → List ℕ
setting_name setting.Clock = codes "--clock"
setting_name setting.Order = codes "--order"
setting_name setting.Missing = codes "--missing"
setting_name setting.Kind = codes "--kind"
setting_name setting.Grade = codes "--grade"
setting_name setting.Window = codes "--window"

-- what may stand after its name
abbrev pub setting_takes : Setting → List ℕ
setting_takes setting.Clock = codes "a whole number of milliseconds from -2147483648 to 2147483647"
setting_takes setting.Order = codes "up or down"
setting_takes setting.Missing = codes "first or last"
setting_takes setting.Kind = codes "inner, left, right or full"
setting_takes setting.Grade = codes "a whole number from 0 to 255, held within 1 to 5"
setting_takes setting.Window = codes "a whole number of milliseconds from 0 to 4294967295"

abbrev pub switch_name : Switch → List ℕ
switch_name switch.MissingEqual = codes "--missing-equal"

abbrev pub verb_name : Verb → List ℕ
verb_name verb.Show = codes "show"
verb_name verb.Grades = codes "grades"
verb_name verb.Table = codes "table"
