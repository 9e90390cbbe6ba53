-- What the window filter says of two moments.
use Rattle.std.specs.Prelude.{ℕ, Bool, ◌&&◌, pos, ◌-ℤ◌, int_le}

-- whether right moment minus left moment lies from 0 to w
abbrev pub in_window : ℕ → ℕ → ℕ → Bool
in_window w left right = int_le (pos 0) (pos right -ℤ pos left) && int_le (pos right -ℤ pos left) (pos w)
