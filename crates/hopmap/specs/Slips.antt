-- What is printed of a call that is wrong, as the bytes of its text.
use Rattle.std.specs.Prelude.{ℕ, List, [], ◌∷◌, Some, Option}
use Rattle.rows.specs.Texts.{line, words}
use Rattle.hopmap.specs.declared.args.CallError.{CallError}
use Rattle.hopmap.specs.declared.args.CallError.TheVariants.{NoCommand, UnknownCommand, UnknownOption, NoValue, BadValue, WrongLogs}
use Rattle.hopmap.specs.declared.verb.Verb.{Verb}
use Rattle.hopmap.specs.declared.verb.Verb.TheVariants.{Show, Grades, Table}
use Rattle.hopmap.specs.Names.{setting_name, setting_takes, verb_name}

-- how many logs a command takes
abbrev pub logs_text : Verb → Option (List ℕ)
logs_text Show = line (Some (verb_name Show) ∷ words " takes one log" ∷ [])
logs_text Grades = line (Some (verb_name Grades) ∷ words " takes one log" ∷ [])
logs_text Table = line (Some (verb_name Table) ∷ words " takes two logs, the sent one and the heard one" ∷ [])

abbrev pub slip_text : CallError → Option (List ℕ)
slip_text NoCommand = words "a command is wanted"
slip_text (UnknownCommand word) = line (words "there is no command '" ∷ Some word.now ∷ words "'" ∷ [])
slip_text (UnknownOption verb word) = line (Some (verb_name verb) ∷ words " has no option '" ∷ Some word.now ∷ words "'" ∷ [])
slip_text (NoValue setting) = line (Some (setting_name setting) ∷ words " takes " ∷ Some (setting_takes setting) ∷ [])
slip_text (BadValue setting word) = line (Some (setting_name setting) ∷ words " takes " ∷ Some (setting_takes setting) ∷ words ", not '" ∷ Some word.now ∷ words "'" ∷ [])
slip_text (WrongLogs verb) = logs_text verb
