-- How the words of a call are read, one after another.
use Rattle.std.specs.Prelude.{◌≡◌, ℕ, ◌⊎◌, Bool, true, false, cond, ◌&&◌, List, [], ◌∷◌, codes, bytes_eq, Some, None, Ok, Err, Option, Result, ok_or, ◌==◌}
use Rattle.std.specs.Borrow.{Bor}
use Rattle.rows.specs.Names.{Named}
use Rattle.rows.specs.declared.name.UnknownName.{UnknownName}
use Rattle.hopmap.specs.declared.args.CallError.{CallError}
use Rattle.hopmap.specs.declared.args.CallError.TheVariants.{NoCommand, UnknownCommand, UnknownOption, NoValue, BadValue, WrongLogs}
use Rattle.hopmap.specs.declared.args.Command.{Command}
use Rattle.hopmap.specs.declared.args.Command.TheVariants as command
use Rattle.hopmap.specs.declared.args.Logs.{Logs}
use Rattle.hopmap.specs.declared.args.Logs.TheVariants.{Zero, One, Two, More}
use Rattle.hopmap.specs.declared.args.Progress.{Progress}
use Rattle.hopmap.specs.declared.settings.Setting.{Setting}
use Rattle.hopmap.specs.declared.settings.Settings.{Settings}
use Rattle.hopmap.specs.declared.settings.Switch.{Switch}
use Rattle.hopmap.specs.declared.verb.Verb.{Verb}
use Rattle.hopmap.specs.declared.verb.Verb.TheVariants.{Show, Grades, Table}
use Rattle.hopmap.specs.Names.{setting_name, switch_name, verb_name}
use Rattle.hopmap.specs.Settings.{usual, Sets, switched}
use Rattle.hopmap.specs.Verbs.{takes, has}

-- a word, where it stands among those of the call
abbrev pub Word : Type 0
Word = Bor (List ℕ)

-- every slip but a bad value is about the call as a whole
abbrev pub is_about_call : CallError → Bool
is_about_call (BadValue setting word) = false
is_about_call NoCommand = true
is_about_call (UnknownCommand word) = true
is_about_call (UnknownOption verb word) = true
is_about_call (NoValue setting) = true
is_about_call (WrongLogs verb) = true

-- a word that begins with two dashes (byte 45) names an option
abbrev pub dashed : List ℕ → Bool
dashed [] = false
dashed (a ∷ []) = false
dashed (a ∷ (b ∷ rest)) = a == 45 && b == 45

-- before any word
abbrev pub start : Progress
start = record { settings = usual; awaited = None; logs = Zero }

-- what is read after a word, unless it is a slip
abbrev pub gone_on : Progress → Result (Unit {0}) CallError → Result Progress CallError
gone_on p (Ok done) = Ok p
gone_on p (Err e) = Err e

abbrev pub with_settings : Progress → Settings → Option Setting → Progress
with_settings p s awaited = record { settings = s; awaited = awaited; logs = p.logs }

-- an option, by the switch of its name
abbrev pub by_switch : Verb → Progress → Word → Result Switch UnknownName → Result Progress CallError
by_switch verb p word (Err e) = Err (UnknownOption verb word)
by_switch verb p word (Ok switch) = cond (has verb switch) (Ok (with_settings p (switched p.settings switch) p.awaited)) (Err (UnknownOption verb word))

-- an option, by the setting of its name, whose value is then awaited, or else the switch
abbrev pub by_name : Verb → Progress → Word → Result Setting UnknownName → Result Switch UnknownName → Result Progress CallError
by_name verb p word (Err e) switch = by_switch verb p word switch
by_name verb p word (Ok setting) switch = cond (takes verb setting) (Ok (with_settings p p.settings (Some setting))) (by_switch verb p word switch)

abbrev pub ReadsOption : Verb → Progress → Word → Result Progress CallError → Type 0
ReadsOption verb p word r = (setting : Result Setting UnknownName) × (switch : Result Switch UnknownName) × Named setting_name word.now setting × Named switch_name word.now switch × (r ≡ by_name verb p word setting switch)

-- the value of a setting
abbrev pub by_value : Progress → Setting → Word → Option Settings → Result Progress CallError
by_value p setting word None = Err (BadValue setting word)
by_value p setting word (Some s) = Ok (with_settings p s None)

abbrev pub ReadsValue : Progress → Setting → Word → Result Progress CallError → Type 0
ReadsValue p setting word r = (s : Option Settings) × Sets p.settings setting word.now s × (r ≡ by_value p setting word s)

-- with one log more; of more than two none is kept
abbrev pub and_log : Logs → Word → Logs
and_log Zero log = One log
and_log (One first) log = Two first log
and_log (Two first second) log = More
and_log More log = More

abbrev pub with_log : Progress → Word → Progress
with_log p word = record { settings = p.settings; awaited = p.awaited; logs = and_log p.logs word }

-- a word is the value of the setting that awaits it, or else an option, or else a log
abbrev pub ReadsFree : Bool → Verb → Progress → Word → Result Progress CallError → Type 0
ReadsFree true verb p word r = ReadsOption verb p word r
ReadsFree false verb p word r = r ≡ Ok (with_log p word)

abbrev pub ReadsBy : Option Setting → Verb → Progress → Word → Result Progress CallError → Type 0
ReadsBy (Some setting) verb p word r = ReadsValue p setting word r
ReadsBy None verb p word r = ReadsFree (dashed word.now) verb p word r

abbrev pub ReadsWord : Verb → Progress → Word → Result Progress CallError → Type 0
ReadsWord verb p word r = ReadsBy p.awaited verb p word r

-- one log, or the sent log and the heard one; none where the command takes another number of logs
abbrev pub asked : Verb → Settings → Logs → Option Command
asked Show s (One log) = Some (command.Show log s)
asked Grades s (One log) = Some (command.Grades log)
asked Table s (Two sent heard) = Some (command.Table sent heard s)
asked verb s logs = None

-- after the last word a setting still awaits its value, or the command takes another number of logs, or all is read
abbrev pub asked_by : Option Setting → Verb → Progress → Result Command CallError
asked_by (Some setting) verb p = Err (NoValue setting)
asked_by None verb p = ok_or (asked verb p.settings p.logs) (WrongLogs verb)

-- the words are gone through from first to last; the first slip, which is about the word read then, ends it
abbrev pub ReadsWords : Verb → Progress → List (List ℕ) → Result Command CallError → Type 0
ReadsWords verb p [] r = r ≡ asked_by p.awaited verb p
ReadsWords verb p (text ∷ more) r = (word : Word) × (word.now ≡ text) ×
    (((q : Progress) × ReadsWord verb p word (Ok q) × ReadsWords verb q more r)
    ⊎ ((e : CallError) × ReadsWord verb p word (Err e) × (r ≡ Err e)))

-- the command that a word names, with what the words after it say
abbrev pub ReadsVerb : Result Verb UnknownName → Word → List (List ℕ) → Result Command CallError → Type 0
ReadsVerb (Ok verb) word more r = ReadsWords verb start more r
ReadsVerb (Err e) word more r = r ≡ Err (UnknownCommand word)

-- the help, or else a command
abbrev pub ReadsFirst : Bool → Word → List (List ℕ) → Result Command CallError → Type 0
ReadsFirst true word more r = r ≡ Ok command.Help
ReadsFirst false word more r = (verb : Result Verb UnknownName) × Named verb_name word.now verb × ReadsVerb verb word more r

-- all words of a call
abbrev pub ReadsCall : List (List ℕ) → Result Command CallError → Type 0
ReadsCall [] r = r ≡ Err NoCommand
ReadsCall (text ∷ more) r = (word : Word) × (word.now ≡ text) × ReadsFirst (bytes_eq text (codes "--help")) word more r
