-- How a kind of key stands in a log, and how numbers stand in bytes: the highest byte first.
use Rattle.std.specs.Prelude.{◌≡◌, ℕ, zero, suc, ◌/◌, ◌%◌, Bool, true, List, [], ◌∷◌, ◌++◌, length, take, drop}
use Rattle.std.specs.Int.Digits.{number_from_digits}

-- a number in so many bytes
abbrev pub in_bytes : ℕ → ℕ → List ℕ
in_bytes zero n = []
in_bytes (suc width) n = in_bytes width (n / 256) ++ (n % 256 ∷ [])

-- the number in the bytes of a field, which begins at a place and has a width
abbrev pub field : ℕ → ℕ → List ℕ → ℕ
field place width bytes = number_from_digits 256 (take width (drop place bytes))

pub record Layout (K : Type 0) : Type 0 where
  -- the operand of a log's first command
  pub code : ℕ
  -- how many bytes a key has
  pub width : ℕ
  -- whether bytes are a key's: as many as its width, and its presence is good
  pub valid : List ℕ → Bool
  -- the key in such bytes
  pub decoded : List ℕ → K
  -- the bytes of a key
  pub encoded : K → List ℕ
  -- whether each part of a key fits its bytes, as it always does in code
  pub fits : K → Bool

-- the bytes of a key are as many as they should be, valid, and give the key again
pub record ReadsBack {K : Type 0} (L : Layout K) (key : K) : Type 0 where
  pub sized : length (L.encoded key) ≡ L.width
  pub sound : L.valid (L.encoded key) ≡ true
  pub same : L.decoded (L.encoded key) ≡ key
