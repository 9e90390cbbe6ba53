use Rattle.std.proofs.Common.{drop, map, string_bytes, Result}
use Rattle.hopmap.specs.declared.args.CallError.{CallError}
use Rattle.hopmap.specs.declared.args.Command.{Command}
use Rattle.hopmap.specs.Words.{start, ReadsWords}
use Rattle.hopmap.proofs.args.read_words.Given as goal

-- what the words left make of what was read makes the whole
abbrev pub invariant-loop-word : goal.invariant-loop-word
invariant-loop-word l = (r : Result Command CallError) → ReadsWords l.verb l.progress (drop l.word-index (map string_bytes l.words)) r → ReadsWords l.verb start (map string_bytes l.words) r
