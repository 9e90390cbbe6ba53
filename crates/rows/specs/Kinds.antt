-- The kinds of join, their numbers and their names.
use Rattle.std.specs.Prelude.{ℕ, List, codes, zero, suc, Some, None, Option}
use Rattle.rows.specs.declared.kind.Kind.{Kind}
use Rattle.rows.specs.declared.kind.Kind.TheVariants.{Inner, Left, Right, Full}

abbrev pub number : Kind → ℕ
number Inner = 0
number Left = 1
number Right = 2
number Full = 3

-- the kind of a number
abbrev pub numbered : ℕ → Option Kind
numbered zero = Some Inner
numbered (suc zero) = Some Left
numbered (suc (suc zero)) = Some Right
numbered (suc (suc (suc zero))) = Some Full
numbered (suc (suc (suc (suc n)))) = None

abbrev pub kind_name : Kind → List ℕ
kind_name Inner = codes "inner"
kind_name Left = codes "left"
kind_name Right = codes "right"
kind_name Full = codes "full"
