-- What the command line can set, and how a word sets it.
use Rattle.std.specs.Prelude.{◌≡◌, ℕ, ◌^◌, ◌<◌, List, ℤ, pos, Some, None, Option, MatchOption, FitsSigned}
use Rattle.std.specs.Int.{w32}
use Rattle.std.specs.Str.Parse.{IsNumeral, digits_value, without_leading_plus, without_leading_sign, signed_digits_value}
use Rattle.orders.specs.declared.choices.Choices.{Choices}
use Rattle.orders.specs.declared.choices.Direction.{Direction}
use Rattle.orders.specs.declared.choices.Direction.TheVariants.{Up}
use Rattle.orders.specs.declared.choices.MissingPlace.{MissingPlace}
use Rattle.orders.specs.declared.choices.MissingPlace.TheVariants.{Last}
use Rattle.orders.specs.declared.choices.MissingEquals.TheVariants.{Missing, Nothing}
use Rattle.rows.specs.declared.kind.Kind.{Kind}
use Rattle.rows.specs.declared.kind.Kind.TheVariants.{Full}
use Rattle.hopmap.specs.declared.settings.Settings.{Settings}
use Rattle.hopmap.specs.declared.settings.Setting.{Setting}
use Rattle.hopmap.specs.declared.settings.Setting.TheVariants as setting
use Rattle.hopmap.specs.declared.settings.Switch.{Switch}
use Rattle.hopmap.specs.declared.settings.Switch.TheVariants as switch
use Rattle.orders.specs.Names.{direction_name, missing_name}
use Rattle.rows.specs.Kinds.{kind_name}
use Rattle.hopmap.specs.Names.{Tells}

-- the answer is x where P holds, and none elsewhere
abbrev pub Just : {A : Type 0} → Type 0 → A → Option A → Type 0
Just P x answer = MatchOption answer (P → ⊥) (λ y. P × (y ≡ x))

-- a number in decimal digits, perhaps with a plus before them, below 2 ^ bits
abbrev pub ReadsNumber : ℕ → List ℕ → Option ℕ → Type 0
ReadsNumber bits text = Just (IsNumeral 10 (without_leading_plus text) × (digits_value 10 (without_leading_plus text) < 2 ^ bits)) (digits_value 10 (without_leading_plus text))

abbrev pub Reads8 : List ℕ → Option ℕ → Type 0
Reads8 = ReadsNumber 8

abbrev pub Reads32 : List ℕ → Option ℕ → Type 0
Reads32 = ReadsNumber 32

-- the same of a signed number, perhaps with a plus or a minus before its digits
abbrev pub ReadsSigned32 : List ℕ → Option ℤ → Type 0
ReadsSigned32 text = Just (IsNumeral 10 (without_leading_sign text) × FitsSigned w32 (signed_digits_value 10 text)) (signed_digits_value 10 text)

-- keys up, missing last and equal to nothing, a full join, no filter, moments as they are
abbrev pub usual : Settings
usual = record { clock = pos 0; choices = record { direction = Up; missing = Last; equals = Nothing }; kind = Full; grade = None; window = None }

abbrev pub with_clock : Settings → ℤ → Settings
with_clock s n = record { clock = n; choices = s.choices; kind = s.kind; grade = s.grade; window = s.window }

abbrev pub with_choices : Settings → Choices → Settings
with_choices s c = record { clock = s.clock; choices = c; kind = s.kind; grade = s.grade; window = s.window }

abbrev pub with_direction : Settings → Direction → Settings
with_direction s d = with_choices s (record { direction = d; missing = s.choices.missing; equals = s.choices.equals })

abbrev pub with_missing : Settings → MissingPlace → Settings
with_missing s m = with_choices s (record { direction = s.choices.direction; missing = m; equals = s.choices.equals })

abbrev pub with_kind : Settings → Kind → Settings
with_kind s k = record { clock = s.clock; choices = s.choices; kind = k; grade = s.grade; window = s.window }

abbrev pub with_grade : Settings → ℕ → Settings
with_grade s g = record { clock = s.clock; choices = s.choices; kind = s.kind; grade = Some g; window = s.window }

abbrev pub with_window : Settings → ℕ → Settings
with_window s w = record { clock = s.clock; choices = s.choices; kind = s.kind; grade = s.grade; window = Some w }

-- the answer has the value that is read, or is none where none can be read
abbrev pub By : {A : Type 0} → (Option A → Type 0) → (A → Settings) → Option Settings → Type 0
By reads change answer = MatchOption answer (reads None) (λ new. (x : _) × reads (Some x) × (new ≡ change x))

-- settings with one set to what a word says, none where the word does not suit it
abbrev pub Sets : Settings → Setting → List ℕ → Option Settings → Type 0
Sets s setting.Clock text = By (ReadsSigned32 text) (with_clock s)
Sets s setting.Order text = By (Tells direction_name text) (with_direction s)
Sets s setting.Missing text = By (Tells missing_name text) (with_missing s)
Sets s setting.Kind text = By (Tells kind_name text) (with_kind s)
Sets s setting.Grade text = By (Reads8 text) (with_grade s)
Sets s setting.Window text = By (Reads32 text) (with_window s)

-- settings with a switch on
abbrev pub switched : Settings → Switch → Settings
switched s switch.MissingEqual = with_choices s (record { direction = s.choices.direction; missing = s.choices.missing; equals = Missing })
