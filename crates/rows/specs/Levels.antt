-- Which levels were measured.
use Rattle.std.specs.Prelude.{cond, ℤ, pos, negsuc, Some, None, Option, ◌==◌}

-- -128, which is `negsuc 127`, says that the level was not measured
abbrev pub measured : ℤ → Option ℤ
measured (pos n) = Some (pos n)
measured (negsuc n) = cond (n == 127) None (Some (negsuc n))
