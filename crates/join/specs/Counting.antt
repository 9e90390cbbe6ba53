-- What counting a row or a run changes.
use Rattle.std.specs.Prelude.{◌≡◌, ◌+◌}
use Rattle.join.specs.declared.parts.Counts.{Counts}

pub record RowCounted (n n' : Counts) : Type 0 where
  pub turns : n'.turns ≡ n.turns + 1
  pub rows : n'.rows ≡ n.rows + 1
  pub runs : n'.runs ≡ n.runs
  pub handed : n'.handed ≡ n.handed

pub record RunCounted (n n' : Counts) : Type 0 where
  pub turns : n'.turns ≡ n.turns + 1
  pub rows : n'.rows ≡ n.rows
  pub runs : n'.runs ≡ n.runs + 1
  pub handed : n'.handed ≡ n.handed
