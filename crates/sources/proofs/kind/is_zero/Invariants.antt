use Rattle.std.proofs.Common.{◌≡◌, drop}
use Rattle.sources.specs.Keys.{all_zero}
use Rattle.sources.proofs.kind.is_zero.Given as goal

abbrev pub invariant-loop-byte : goal.invariant-loop-byte
invariant-loop-byte l = all_zero (drop l.byte-index l.bytes) ≡ all_zero l.bytes
