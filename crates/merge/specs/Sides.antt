-- Which rows without a partner a kind of join lists, by left and right.
use Rattle.std.specs.Prelude.{Bool, true, false}
use Rattle.rows.specs.declared.kind.Kind.{Kind}
use Rattle.rows.specs.declared.kind.Kind.TheVariants.{Inner, Left, Right, Full}

-- Left rows are listed in left and full joins, right ones in right and full joins.
abbrev pub keeps_left : Kind → Bool
keeps_left Inner = false
keeps_left Left = true
keeps_left Right = false
keeps_left Full = true

abbrev pub keeps_right : Kind → Bool
keeps_right Inner = false
keeps_right Left = false
keeps_right Right = true
keeps_right Full = true
