-- The presence of what may be missing.
use Rattle.std.proofs.Common.{◌≡◌, ℕ, ◌+◌, ◌<◌, false, List, [], ◌∷◌, length, get_or, drop, ◌∙◌, arith, ne_eqb}
use Rattle.std.proofs.lemmas.List.{at_drop_more}
use Rattle.sources.specs.Keys.{all_zero, good_presence}

pub zero_more : (bytes : List ℕ) (i : ℕ) → i < length bytes → get_or bytes i 0 ≡ 0 → all_zero (drop i bytes) ≡ all_zero (drop (i + 1) bytes)
zero_more bytes i h e = at_drop_more all_zero bytes i 0 h ∙ rw e

pub not_zero : (bytes : List ℕ) (i : ℕ) → i < length bytes → (get_or bytes i 0 ≡ 0 → ⊥) → all_zero (drop i bytes) ≡ false
not_zero bytes i h ne = at_drop_more all_zero bytes i 0 h ∙ rw (ne_eqb (get_or bytes i 0) 0 ne)

pub missing_presence : (bytes rest : List ℕ) → 0 < length bytes → get_or bytes 0 0 ≡ 0 → rest ≡ drop 1 bytes → all_zero rest ≡ good_presence bytes
missing_presence [] rest h z e = absurd (omega arith)
missing_presence (presence ∷ bytes) rest h z e = rw (z, e)
