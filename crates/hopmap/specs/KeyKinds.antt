-- The kind of key that a log tells.
use Rattle.std.specs.Prelude.{ℕ, cond, List, [], ◌∷◌, Some, None, Option, ◌==◌}
use Rattle.hopmap.specs.declared.key_kinds.LogKind.{LogKind}
use Rattle.hopmap.specs.declared.key_kinds.LogKind.TheVariants.{Frame, Label}

-- by the operand of a log's first command, 1 or 2
abbrev pub told : List ℕ → Option LogKind
told [] = None
told (command ∷ []) = None
told (command ∷ (code ∷ rest)) = cond (command == 0) (cond (code == 1) (Some Frame) (cond (code == 2) (Some Label) None)) None
